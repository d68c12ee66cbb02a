-- What the reading function says of a text is what the text spells, and its first wrong line is the first wrong line. The text of a trace is
-- read back, so a text spells one trace; where reading stops, the lines before begin a trace, and no trace begins with the next one too.
use Rattle.std.proofs.Common.{◌≡◌, ◌⊎◌, inl, inr, ℕ, suc, ◌+◌, Bool, true, false, List, [], ◌∷◌, ◌++◌}
use Rattle.std.proofs.Common.{length, Option, Some, None, Result, Ok, Err, refl, sym, ap, ◌∙◌, subst, append-nil, append_assoc, arith}
use Rattle.std.specs.Prelude.{not, if◌then◌else◌}
use Rattle.trace_text.specs.declared.version.Version.{Version}
use Rattle.trace_text.specs.declared.version.Version.TheVariants.{First, Second}
use Rattle.trace_text.specs.declared.trace.Trace.{Trace}
use Rattle.trace_text.specs.declared.faults.TraceFault.{TraceFault}
use Rattle.trace_text.specs.declared.faults.TraceFault.TheVariants as fault
use Rattle.trace_text.specs.declared.so_far.Stage.{Stage}
use Rattle.trace_text.specs.declared.so_far.Stage.TheVariants as now
use Rattle.trace_text.specs.declared.so_far.SoFar.{SoFar}
use Rattle.trace_text.specs.Versions.{is_wide, version_of, CanSpell}
use Rattle.trace_text.specs.Text.{trace_lines, joined}
use Rattle.trace_text.specs.Spelling.{SpellsTrace, SpellsIn, IsTheTrace, Begins, IsLineWrong, IsNeedless, IsFirstWrong}
use Rattle.trace_text.specs.Outcomes.{Reads}
use Rattle.trace_text.specs.inner.Reading.{Lines, lines_of, after_line, is_needless, told_in, whole_at, whole, going_on, read_lines, nothing, read_text, Told, ◌>>=◌}
use Rattle.trace_text.proofs.Words.{bind_case, bind_some, bind_none, some_same, not_none}
use Rattle.trace_text.proofs.Ints.{can_allow, allowed_can}
use Rattle.trace_text.proofs.TextLines.{IsLine, AreLines, Parted, parted, are_same, joined_append, lines_are, line_then}
use Rattle.trace_text.proofs.Feeds.{trace_is_lines, join_lines, front_lines, last_line}
use Rattle.trace_text.proofs.Stages.{Form, nothing_spelled, lines_spelled, spelled_begins, whole_trace, after_lines, after_both, trace_is_read}

-- ---- what is read, and where reading stops

abbrev good : Trace → Result Trace ℕ
good t = Ok t

abbrev bad : ℕ → Result Trace ℕ
bad n = Err n

pub not_ok : {A : Type 0} (n : ℕ) (t : Trace) → bad n ≡ good t → A
not_ok n t h = cc

same_ok : (t u : Trace) → good t ≡ good u → t ≡ u
same_ok t u h = cc

same_err : (m n : ℕ) → bad m ≡ bad n → m ≡ n
same_err m n h = cc

not_err : {A : Type 0} (t : Trace) (n : ℕ) → good t ≡ bad n → A
not_err t n h = cc

-- ---- reading goes on from what was read

read_ahead : (line : ℕ) (s next : SoFar) (a b : List (List ℕ)) (tail : List ℕ) → after_lines s a ≡ Some next → read_lines line s (a ++ b) tail ≡ read_lines (line + length a) next b tail
unfolding read_lines
read_ahead line s next [] b tail h = ap (λ (z : SoFar). read_lines line z b tail) (some_same s next h) ∙ ap (λ (n : ℕ). read_lines n next b tail) (omega arith)
read_ahead line s next (l ∷ a) b tail h =
    bind_case (after_line s l) (λ n. after_lines n a) next h λ n first g.
    rw first (read_ahead (suc line) n next a b tail g ∙ ap (λ (k : ℕ). read_lines k next b tail) (omega arith))

-- what stands behind the lines of a trace
abbrev closed : Version → Trace → SoFar
closed version t = record { stage = now.Ends; version = version; trace = t }

lines_back : (version : Version) (text : List ℕ) (t : Trace) → SpellsIn version text t → lines_of text ≡ (trace_lines version t, [])
lines_back version text t h =
    ap lines_of (h.is_text ∙ sym (append-nil (joined (trace_lines version t)))) ∙ lines_are (trace_lines version t) [] (trace_is_lines version t h.is_trace) tt

all_lines : (version : Version) (text : List ℕ) (t : Trace) → SpellsIn version text t → after_lines nothing (trace_lines version t) ≡ Some (closed version t)
all_lines version text t h = trace_is_read version t h.is_trace (can_allow version t h.can_spell)

-- the text of a trace in some version is read to its end
read_in : (version : Version) (text : List ℕ) (t : Trace) → SpellsIn version text t → read_text text ≡ told_in version t
unfolding read_lines
read_in version text t h =
    ap (λ (p : Lines). read_lines 1 nothing p.0 p.1) (lines_back version text t h)
    ∙ (ap (λ (ls : List (List ℕ)). read_lines 1 nothing ls []) (sym (append-nil (trace_lines version t)))
    ∙ read_ahead 1 nothing (closed version t) (trace_lines version t) [] [] (all_lines version text t h))

-- in the version that it needs, a trace is spelled, and is not needless
own_case : (t : Trace) (wide : Bool) → is_wide t ≡ wide → CanSpell (if wide then Second else First) t × (told_in (if wide then Second else First) t ≡ Ok t)
own_case t false e = (e, refl)
own_case t true e = (tt, rw e refl)

own : (t : Trace) → CanSpell (version_of t) t × (told_in (version_of t) t ≡ Ok t)
own t = own_case t (is_wide t) refl

pub spells_own : (text : List ℕ) (t : Trace) → SpellsTrace text t → SpellsIn (version_of t) text t
spells_own text t h = record { is_trace = h.is_trace; can_spell = (own t).0; is_text = h.is_text }

-- the text of a trace is read back
pub read_back : (text : List ℕ) (t : Trace) → SpellsTrace text t → read_text text ≡ Ok t
read_back text t h = read_in (version_of t) text t (spells_own text t h) ∙ (own t).1

-- a text spells one trace
pub one_trace : (text : List ℕ) (t u : Trace) → SpellsTrace text t → SpellsTrace text u → t ≡ u
one_trace text t u h g = same_ok t u (sym (read_back text t h) ∙ read_back text u g)

-- ---- where reading ends well

record Read (t : Trace) (s : SoFar) (ls : List (List ℕ)) (tail : List ℕ) : Type 0 where
  last : SoFar
  lines : after_lines s ls ≡ Some last
  nothing_more : tail ≡ []
  stage : last.stage ≡ now.Ends
  needed : told_in last.version last.trace ≡ Ok last.trace
  trace : last.trace ≡ t

told_case : (t u : Trace) (needless : Bool) → (if needless then bad 1 else good u) ≡ good t → ((if needless then bad 1 else good u) ≡ good u) × (u ≡ t)
told_case t u false h = (refl, same_ok u t h)
told_case t u true h = not_ok 1 t h

whole_case : (line : ℕ) (stage : Stage) (version : Version) (u t : Trace) → whole_at stage version line u ≡ Ok t
    → (stage ≡ now.Ends) × (told_in version u ≡ Ok u) × (u ≡ t)
whole_case line now.Title version u t h = not_ok line t h
whole_case line now.Steps version u t h = not_ok line t h
whole_case line now.Files version u t h = not_ok line t h
whole_case line now.Entries version u t h = not_ok line t h
whole_case line now.Ends version u t h = let q = told_case t u (is_needless version u) h in (refl, q.0, q.1)

end_case : (line : ℕ) (s : SoFar) (tail : List ℕ) (t : Trace) → whole line tail s ≡ Ok t → Read t s [] tail
end_case line s [] t h =
    let q = whole_case line s.stage s.version s.trace t h in
    record { last = s; lines = refl; nothing_more = refl; stage = q.0; needed = q.1; trace = q.2 }
end_case line s (b ∷ tail) t h = not_ok line t h

went_on : (r : Option SoFar) (line : ℕ) (f : SoFar → Result Trace ℕ) (t : Trace) → going_on r line f ≡ Ok t → (next : SoFar) × (r ≡ Some next) × (f next ≡ Ok t)
went_on None line f t h = not_ok line t h
went_on (Some next) line f t h = (next, refl, h)

one_more : (s : SoFar) (l : List ℕ) (ls : List (List ℕ)) (tail : List ℕ) (t : Trace) (next : SoFar) → after_line s l ≡ Some next → Read t next ls tail → Read t s (l ∷ ls) tail
one_more s l ls tail t next e r = record { last = r.last; lines = rw e r.lines; nothing_more = r.nothing_more; stage = r.stage; needed = r.needed; trace = r.trace }

read_was : (line : ℕ) (s : SoFar) (ls : List (List ℕ)) (tail : List ℕ) (t : Trace) → read_lines line s ls tail ≡ Ok t → Read t s ls tail
unfolding read_lines
read_was line s [] tail t h = end_case line s tail t h
read_was line s (l ∷ ls) tail t h =
    let q = went_on (after_line s l) line (λ next. read_lines (suc line) next ls tail) t h in
    one_more s l ls tail t q.0 q.1 (read_was (suc line) q.0 ls tail t q.2)

form_at : (stage : Stage) (version : Version) (t : Trace) (ls : List (List ℕ)) → stage ≡ now.Ends → Form stage version t ls → Form now.Ends version t ls
form_at stage version t ls e h = rw e at h

ended_spells : (text : List ℕ) (last : SoFar) (tail : List ℕ) (ls : List (List ℕ)) → text ≡ joined ls ++ tail → after_lines nothing ls ≡ Some last → tail ≡ [] → last.stage ≡ now.Ends
    → SpellsIn last.version text last.trace
ended_spells text last tail ls is lines none stage =
    let w = lines_spelled [] ls nothing last nothing_spelled lines in
    let form = form_at last.stage last.version last.trace ls stage w.form in
    record {
      is_trace = whole_trace last.version last.trace w.fits form.0 form.2;
      can_spell = allowed_can last.version last.trace w.fits.allows;
      is_text = is ∙ (ap (λ (tail : List ℕ). joined ls ++ tail) none ∙ (append-nil (joined ls) ∙ ap joined form.1));
    }

-- a version that can spell a trace and is not needless is the one that it needs
needed_case : (version : Version) (t : Trace) (wide : Bool) → is_wide t ≡ wide → CanSpell version t → told_in version t ≡ Ok t → version ≡ (if wide then Second else First)
needed_case First t wide e can h = ap (λ (b : Bool). if b then Second else First) (sym can ∙ e)
needed_case Second t true e can h = refl
needed_case Second t false e can h = let needless : told_in Second t ≡ bad 1 = rw e refl in not_ok 1 t (sym needless ∙ h)

needed_is_own : (version : Version) (t : Trace) → CanSpell version t → told_in version t ≡ Ok t → version ≡ version_of t
needed_is_own version t can h = needed_case version t (is_wide t) refl can h

own_text : (version : Version) (text : List ℕ) (t : Trace) → told_in version t ≡ Ok t → SpellsIn version text t → SpellsTrace text t
own_text version text t needed h =
    record { is_trace = h.is_trace; is_text = h.is_text ∙ ap (λ (version : Version). joined (trace_lines version t)) (needed_is_own version t h.can_spell needed) }

-- what is read is spelled
pub read_spells : (text : List ℕ) (t : Trace) → read_text text ≡ Ok t → SpellsTrace text t
read_spells text t h =
    let parts = parted text in
    let r = read_was 1 nothing (lines_of text).0 (lines_of text).1 t h in
    let spells = ended_spells text r.last (lines_of text).1 (lines_of text).0 parts.is r.lines r.nothing_more r.stage in
    subst (λ (u : Trace). SpellsTrace text u) r.trace (own_text r.last.version text r.last.trace r.needed spells)

-- ---- where reading stops

-- at a line that does not go on, or behind the last line
record AtLine (line n : ℕ) (s : SoFar) (ls : List (List ℕ)) : Type 0 where
  before : List (List ℕ)
  next : List ℕ
  others : List (List ℕ)
  last : SoFar
  form : ls ≡ before ++ next ∷ others
  lines : after_lines s before ≡ Some last
  wrong : after_line last next ≡ None
  place : n ≡ line + length before

-- and there no trace is closed
record AtEnd (line n : ℕ) (s : SoFar) (ls : List (List ℕ)) (tail : List ℕ) : Type 0 where
  last : SoFar
  lines : after_lines s ls ≡ Some last
  unended : tail ≡ [] → last.stage ≡ now.Ends → ⊥
  place : n ≡ line + length ls

-- or one is, in version 2 where version 1 would do
record AtTitle (n : ℕ) (s : SoFar) (ls : List (List ℕ)) (tail : List ℕ) : Type 0 where
  last : SoFar
  lines : after_lines s ls ≡ Some last
  nothing_more : tail ≡ []
  stage : last.stage ≡ now.Ends
  version : last.version ≡ Second
  narrow : is_wide last.trace ≡ false
  place : n ≡ 1

abbrev Stops : ℕ → ℕ → SoFar → List (List ℕ) → List ℕ → Type 0
Stops line n s ls tail = AtLine line n s ls ⊎ (AtEnd line n s ls tail ⊎ AtTitle n s ls tail)

told_case_stops : (t : Trace) (n : ℕ) (wide : Bool) → is_wide t ≡ wide → (if not wide then bad 1 else good t) ≡ bad n → (is_wide t ≡ false) × (n ≡ 1)
told_case_stops t n false e h = (e, sym (same_err 1 n h))
told_case_stops t n true e h = not_err t n h

told_stops : (version : Version) (t : Trace) (n : ℕ) → told_in version t ≡ bad n → (version ≡ Second) × (is_wide t ≡ false) × (n ≡ 1)
told_stops First t n h = not_err t n h
told_stops Second t n h = let q = told_case_stops t n (is_wide t) refl h in (refl, q.0, q.1)

abbrev is_ends : Stage → Bool
is_ends now.Ends = true
is_ends _ = false

not_ends : (stage : Stage) → is_ends stage ≡ false → stage ≡ now.Ends → ⊥
not_ends stage h e = differ (sym h ∙ ap is_ends e)
  where
    differ : false ≡ true → ⊥
    differ q = cc

whole_stops : (line : ℕ) (stage : Stage) (version : Version) (u : Trace) (n : ℕ) → whole_at stage version line u ≡ bad n
    → ((stage ≡ now.Ends → ⊥) × (line ≡ n)) ⊎ ((stage ≡ now.Ends) × (version ≡ Second) × (is_wide u ≡ false) × (n ≡ 1))
whole_stops line now.Title version u n h = inl (not_ends now.Title refl, same_err line n h)
whole_stops line now.Steps version u n h = inl (not_ends now.Steps refl, same_err line n h)
whole_stops line now.Files version u n h = inl (not_ends now.Files refl, same_err line n h)
whole_stops line now.Entries version u n h = inl (not_ends now.Entries refl, same_err line n h)
whole_stops line now.Ends version u n h = let q = told_stops version u n h in inr (refl, q.0, q.1, q.2)

no_cons : (b : ℕ) (tail : List ℕ) → b ∷ tail ≡ [] → ⊥
no_cons b tail h = cc

end_stops : (line : ℕ) (s : SoFar) (tail : List ℕ) (n : ℕ) → whole line tail s ≡ bad n → AtEnd line n s [] tail ⊎ AtTitle n s [] tail
end_stops line s (b ∷ tail) n h = inl (record { last = s; lines = refl; unended = λ e _. no_cons b tail e; place = omega (arith, same_err line n h) })
end_stops line s [] n h = ended (whole_stops line s.stage s.version s.trace n h)
  where
    ended : ((s.stage ≡ now.Ends → ⊥) × (line ≡ n)) ⊎ ((s.stage ≡ now.Ends) × (s.version ≡ Second) × (is_wide s.trace ≡ false) × (n ≡ 1)) → AtEnd line n s [] [] ⊎ AtTitle n s [] []
    ended (inl q) = inl (record { last = s; lines = refl; unended = λ _ e. q.0 e; place = omega (arith, q.1) })
    ended (inr q) = inr (record { last = s; lines = refl; nothing_more = refl; stage = q.0; version = q.1; narrow = q.2; place = q.3 })

goes_or_stops : (r : Option SoFar) (line n : ℕ) (f : SoFar → Result Trace ℕ) → going_on r line f ≡ Err n → ((r ≡ None) × (line ≡ n)) ⊎ ((next : SoFar) × (r ≡ Some next) × (f next ≡ Err n))
goes_or_stops None line n f h = inl (refl, same_err line n h)
goes_or_stops (Some next) line n f h = inr (next, refl, h)

stops_at : (line : ℕ) (s : SoFar) (ls : List (List ℕ)) (tail : List ℕ) (n : ℕ) → read_lines line s ls tail ≡ Err n → Stops line n s ls tail
unfolding read_lines
stops_at line s [] tail n h = inr (end_stops line s tail n h)
stops_at line s (l ∷ ls) tail n h = here (goes_or_stops (after_line s l) line n (λ next. read_lines (suc line) next ls tail) h) (λ next. stops_at (suc line) next ls tail n)
  where
    later : (next : SoFar) → after_line s l ≡ Some next → Stops (suc line) n next ls tail → Stops line n s (l ∷ ls) tail
    later next e (inl a) = inl (record {
      before = l ∷ a.before;
      next = a.next;
      others = a.others;
      last = a.last;
      form = ap (λ (ls : List (List ℕ)). l ∷ ls) a.form;
      lines = rw e a.lines;
      wrong = a.wrong;
      place = omega (arith, a.place);
    })
    later next e (inr (inl a)) = inr (inl (record { last = a.last; lines = rw e a.lines; unended = a.unended; place = omega (arith, a.place) }))
    later next e (inr (inr a)) = inr (inr (record {
      last = a.last;
      lines = rw e a.lines;
      nothing_more = a.nothing_more;
      stage = a.stage;
      version = a.version;
      narrow = a.narrow;
      place = a.place;
    }))

    here : ((after_line s l ≡ None) × (line ≡ n)) ⊎ ((next : SoFar) × (after_line s l ≡ Some next) × (read_lines (suc line) next ls tail ≡ Err n))
        → ((next : SoFar) → read_lines (suc line) next ls tail ≡ Err n → Stops (suc line) n next ls tail) → Stops line n s (l ∷ ls) tail
    here (inl q) more = inl (record { before = []; next = l; others = ls; last = s; form = refl; lines = refl; wrong = q.0; place = omega (arith, q.1) })
    here (inr q) more = later q.0 q.1 (more q.0 q.2)

-- ---- lines that begin a trace are read, and none is read that does not

record IsRead (ls : List (List ℕ)) : Type 0 where
  last : SoFar
  lines : after_lines nothing ls ≡ Some last

begun_is_read : (ls : List (List ℕ)) → Begins ls → IsRead ls
begun_is_read ls b =
    let all : (after_lines nothing ls >>= λ next. after_lines next b.others) ≡ Some (closed b.version b.trace) =
    sym (after_both ls b.others nothing) ∙ (ap (λ (ls : List (List ℕ)). after_lines nothing ls) (sym b.form)
    ∙ trace_is_read b.version b.trace b.is_trace (can_allow b.version b.trace b.can_spell)) in
    bind_case (after_lines nothing ls) (λ next. after_lines next b.others) (closed b.version b.trace) all λ next first g.
    record { last = next; lines = first }

-- lines at which reading stops begin no trace
pub not_begun : (ls : List (List ℕ)) → after_lines nothing ls ≡ None → Begins ls → ⊥
not_begun ls h b = let r = begun_is_read ls b in not_none r.last (sym h ∙ r.lines)

begun_are_lines : (ls : List (List ℕ)) → Begins ls → AreLines ls
begun_are_lines ls b = front_lines ls b.others (are_same (trace_lines b.version b.trace) (ls ++ b.others) b.form (trace_is_lines b.version b.trace b.is_trace))

pub read_begins : (ls : List (List ℕ)) (last : SoFar) → after_lines nothing ls ≡ Some last → Begins ls
read_begins ls last h = spelled_begins ls last (lines_spelled [] ls nothing last nothing_spelled h)

not_read : (before : List (List ℕ)) (next : List ℕ) (last : SoFar) → after_lines nothing before ≡ Some last → after_line last next ≡ None → Begins (before ++ next ∷ []) → ⊥
not_read before next last h wrong b =
    let r = begun_is_read (before ++ next ∷ []) b in
    let both : (after_lines nothing before >>= λ s. after_lines s (next ∷ [])) ≡ Some r.last = sym (after_both before (next ∷ []) nothing) ∙ r.lines in
    let one : (after_line last next >>= λ s. Some s) ≡ Some r.last = rw h at both in
    not_none r.last (rw wrong at one)

abbrev head_or : List (List ℕ) → List ℕ
head_or [] = []
head_or (l ∷ ls) = l

-- a line that ends at the first line feed is one line alone
front_same : (a b x y : List ℕ) → IsLine a → IsLine b → a ++ (10 ∷ x) ≡ b ++ (10 ∷ y) → a ≡ b
front_same a b x y h g e = ap (λ (p : Lines). head_or p.0) (sym (line_then a x h) ∙ (ap lines_of e ∙ line_then b y g))

no_feed : (tail a x : List ℕ) → IsLine tail → tail ≡ a ++ (10 ∷ x) → ⊥
no_feed tail a x h e = has_feed a x (rw e at h)
  where
    has_feed : (a x : List ℕ) → IsLine (a ++ (10 ∷ x)) → ⊥
    has_feed [] x h = true_false h.0
      where
        true_false : true ≡ false → ⊥
        true_false q = cc
    has_feed (b ∷ a) x h = has_feed a x h.1

-- a text at which reading stops spells no trace
stopped : (text : List ℕ) (n : ℕ) → read_text text ≡ Err n → (t : Trace) → SpellsTrace text t → ⊥
stopped text n h t s = not_err t n (sym (read_back text t s) ∙ h)

middle_line : (a : List (List ℕ)) (l : List ℕ) (b : List (List ℕ)) → AreLines (a ++ l ∷ b) → IsLine l
middle_line [] l b h = h.0
middle_line (m ∷ a) l b h = middle_line a l b h.1

-- a line at which reading stops is in no text of a trace
none_through : (text : List ℕ) (before others : List (List ℕ)) (next : List ℕ) (last : SoFar) → (lines_of text).0 ≡ before ++ next ∷ others → after_lines nothing before ≡ Some last
    → after_line last next ≡ None → (version : Version) (t : Trace) → SpellsIn version text t → ⊥
none_through text before others next last form lines wrong version t h =
    let same : trace_lines version t ≡ before ++ next ∷ others = sym (ap (λ (p : Lines). p.0) (lines_back version text t h)) ∙ form in
    let stops : after_lines nothing (before ++ next ∷ others) ≡ None =
    after_both before (next ∷ others) nothing ∙ (bind_some (after_lines nothing before) (λ s. after_lines s (next ∷ others)) last lines
    ∙ bind_none (after_line last next) (λ s. after_lines s others) wrong) in
    not_none (closed version t) (sym stops ∙ (ap (λ (ls : List (List ℕ)). after_lines nothing ls) (sym same) ∙ all_lines version text t h))

-- and where no trace is closed behind the lines of a text, it is none
none_closed : (text : List ℕ) (last : SoFar) → after_lines nothing (lines_of text).0 ≡ Some last → ((lines_of text).1 ≡ [] → last.stage ≡ now.Ends → ⊥)
    → (version : Version) (t : Trace) → SpellsIn version text t → ⊥
none_closed text last lines unended version t h =
    let back = lines_back version text t h in
    let same : closed version t ≡ last =
    some_same (closed version t) last (sym (all_lines version text t h) ∙ (ap (λ (p : Lines). after_lines nothing p.0) (sym back) ∙ lines)) in
    unended (ap (λ (p : Lines). p.1) back) (ap (λ (s : SoFar). s.stage) (sym same))

-- where reading stops is the first wrong line
-- the reader stopped at a line that does not go on, behind the last line, or at the end of a trace that needs no version 2: the lines before it are
-- spelled and begin a trace, and a line more that began one would have been read
pub read_stops : (text : List ℕ) (line : ℕ) → read_text text ≡ Err line → IsFirstWrong text line
read_stops text line h = record { fault = found (stops_at 1 nothing (lines_of text).0 (lines_of text).1 line h); no_trace = stopped text line h }
  where
    parts : Parted text (lines_of text)
    parts = parted text

    found : Stops 1 line nothing (lines_of text).0 (lines_of text).1 → IsLineWrong text line ⊎ IsNeedless text line
    found (inl a) =
        let lines : AreLines (a.before ++ a.next ∷ a.others) = are_same (lines_of text).0 (a.before ++ a.next ∷ a.others) a.form parts.lines in
        let rest : List ℕ = a.next ++ (10 ∷ (joined a.others ++ (lines_of text).1)) in
        let is : text ≡ joined a.before ++ rest =
        parts.is ∙ (ap (λ (ls : List (List ℕ)). joined ls ++ (lines_of text).1) a.form
        ∙ (ap (λ (bs : List ℕ). bs ++ (lines_of text).1) (joined_append a.before (a.next ∷ a.others))
        ∙ (append_assoc (joined a.before) (a.next ++ (10 ∷ joined a.others)) (lines_of text).1
        ∙ ap (λ (bs : List ℕ). joined a.before ++ bs) (append_assoc a.next (10 ∷ joined a.others) (lines_of text).1)))) in
        inl (record {
          before = a.before;
          rest = rest;
          place = omega (arith, a.place);
          form = is;
          begins = read_begins a.before a.last a.lines;
          no_next = λ next others e b.
              let same : a.next ≡ next = front_same a.next next (joined a.others ++ (lines_of text).1) others (middle_line a.before a.next a.others lines)
              (last_line a.before next (begun_are_lines (a.before ++ next ∷ []) b)) e in
              not_read a.before next a.last a.lines (rw same at a.wrong) b;
          in_none = none_through text a.before a.others a.next a.last a.form a.lines a.wrong;
        })
    found (inr (inl a)) = inl (record {
      before = (lines_of text).0;
      rest = (lines_of text).1;
      place = omega (arith, a.place);
      form = parts.is;
      begins = read_begins (lines_of text).0 a.last a.lines;
      no_next = λ next others e b. no_feed (lines_of text).1 next others parts.tail e;
      in_none = none_closed text a.last a.lines a.unended;
    })
    found (inr (inr a)) = inr (record {
      trace = a.last.trace;
      narrow = a.narrow;
      spells = subst (λ (version : Version). SpellsIn version text a.last.trace) a.version
          (ended_spells text a.last (lines_of text).1 (lines_of text).0 parts.is a.lines a.nothing_more a.stage);
      place = a.place;
    })

-- ---- the first wrong line is one

abbrev none : List ℕ
none = []

stage_there : (line : ℕ) (stage : Stage) (version : Version) (t : Trace) → (whole_at stage version line t ≡ Err line) ⊎ (stage ≡ now.Ends)
stage_there line now.Title version t = inl refl
stage_there line now.Steps version t = inl refl
stage_there line now.Files version t = inl refl
stage_there line now.Entries version t = inl refl
stage_there line now.Ends version t = inr refl

ends_there : (line : ℕ) (tail : List ℕ) (s : SoFar) → (whole line tail s ≡ Err line) ⊎ ((tail ≡ none) × (s.stage ≡ now.Ends))
ends_there line (b ∷ tail) s = inl refl
ends_there line [] s = at_stage (stage_there line s.stage s.version s.trace)
  where
    at_stage : (whole_at s.stage s.version line s.trace ≡ Err line) ⊎ (s.stage ≡ now.Ends) → (whole_at s.stage s.version line s.trace ≡ Err line) ⊎ ((none ≡ none) × (s.stage ≡ now.Ends))
    at_stage (inl e) = inl e
    at_stage (inr e) = inr (refl, e)

-- behind lines that begin a trace, reading stops where the text does
stops_there : (text : List ℕ) (line : ℕ) (w : IsLineWrong text line) (last : SoFar) → after_lines nothing w.before ≡ Some last → (ls : List (List ℕ)) (tail : List ℕ)
    → w.rest ≡ joined ls ++ tail → read_lines (1 + length w.before) last ls tail ≡ Err (1 + length w.before)
unfolding read_lines
stops_there text line w last h [] tail e = at_end (ends_there (1 + length w.before) tail last)
  where
    at_end : (whole (1 + length w.before) tail last ≡ Err (1 + length w.before)) ⊎ ((tail ≡ []) × (last.stage ≡ now.Ends))
        → whole (1 + length w.before) tail last ≡ Err (1 + length w.before)
    at_end (inl q) = q
    at_end (inr q) = absurd (w.in_none last.version last.trace
        (ended_spells text last tail w.before (w.form ∙ ap (λ (bs : List ℕ). joined w.before ++ bs) e) h q.0 q.1))
stops_there text line w last h (next ∷ ls) tail e = not_on (after_line last next) refl
  where
    not_on : (r : Option SoFar) → after_line last next ≡ r
        → going_on r (1 + length w.before) (λ s. read_lines (suc (1 + length w.before)) s ls tail) ≡ Err (1 + length w.before)
    not_on None g = refl
    not_on (Some s) g = absurd (w.no_next next (joined ls ++ tail) (e ∙ append_assoc next (10 ∷ joined ls) tail)
        (read_begins (w.before ++ next ∷ []) s (after_both w.before (next ∷ []) nothing ∙ rw h (rw g refl))))

pub line_is_read : (text : List ℕ) (line : ℕ) → IsLineWrong text line → read_text text ≡ Err line
line_is_read text line w =
    let b = begun_is_read w.before w.begins in
    let parts = parted w.rest in
    let ls : List (List ℕ) = (lines_of w.rest).0 in
    let tail : List ℕ = (lines_of w.rest).1 in
    let form : text ≡ joined (w.before ++ ls) ++ tail =
    w.form ∙ (ap (λ (bs : List ℕ). joined w.before ++ bs) parts.is
    ∙ (sym (append_assoc (joined w.before) (joined ls) tail) ∙ ap (λ (bs : List ℕ). bs ++ tail) (sym (joined_append w.before ls)))) in
    let lines : lines_of text ≡ (w.before ++ ls, tail) =
    ap lines_of form ∙ lines_are (w.before ++ ls) tail (join_lines w.before ls (begun_are_lines w.before w.begins) parts.lines) parts.tail in
    let ahead : read_text text ≡ read_lines (1 + length w.before) b.last ls tail =
    ap (λ (p : Lines). read_lines 1 nothing p.0 p.1) lines ∙ read_ahead 1 nothing b.last w.before ls tail b.lines in
    let line_is : 1 + length w.before ≡ line = omega (arith, w.place) in
    ahead ∙ (stops_there text line w b.last b.lines ls tail parts.is ∙ ap (λ (n : ℕ). Err n) line_is)

narrow_told : (t : Trace) → is_wide t ≡ false → told_in Second t ≡ bad 1
narrow_told t h = rw h refl

wrong_is_read : (text : List ℕ) (line : ℕ) → IsFirstWrong text line → read_text text ≡ Err line
wrong_is_read text line w = by_fault w.fault
  where
    by_fault : IsLineWrong text line ⊎ IsNeedless text line → read_text text ≡ Err line
    by_fault (inl f) = line_is_read text line f
    by_fault (inr f) = read_in Second text f.trace f.spells ∙ (narrow_told f.trace f.narrow ∙ ap bad (sym f.place))

-- there is one first wrong line
pub one_line : (text : List ℕ) (m n : ℕ) → IsFirstWrong text m → IsFirstWrong text n → m ≡ n
one_line text m n h g = same_err m n (sym (wrong_is_read text m h) ∙ wrong_is_read text n g)

-- ---- what the reader tells

pub the_trace : (text : List ℕ) (t : Trace) → read_text text ≡ Ok t → IsTheTrace text t
the_trace text t h =
    let spells = read_spells text t h in
    record { spells = spells; only = λ u other. one_trace text u t other spells }

pub told_is_read : (text : List ℕ) (r : Result Trace TraceFault) → Told r (read_text text) → Reads text r
told_is_read text (Ok t) h = the_trace text t h
told_is_read text (Err (fault.Line line)) h = read_stops text line h
told_is_read text (Err fault.NoMemory) h = tt
