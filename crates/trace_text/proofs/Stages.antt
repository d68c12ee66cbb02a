-- What was read so far is spelled by its lines in the version of the first, and the lines of a trace are read to their end. For each stage `Form` says
-- which lines spell what it holds; a line more leads from one to the next, in both directions. What is spelled begins a trace, since an end
-- may be put behind it.
use Rattle.std.proofs.Common.{◌≡◌, ℕ, suc, ◌+◌, ◌<◌, ◌≤◌, ◌^◌, Bool, true, false, List, [], ◌∷◌}
use Rattle.std.proofs.Common.{◌++◌, length, Option, Some, None, refl, sym, ap, ◌∙◌, subst, append-nil, append_assoc, length-append, arith}
use Rattle.std.specs.Prelude.{All, ◌==◌, ◌||◌, if◌then◌else◌}
use Rattle.std.specs.List.{list_any}
use Rattle.std.specs.Str.{bytes_eq}
use Rattle.std.specs.Fmt.{decimal}
use Rattle.std.proofs.lemmas.Slice.Eq.{bytes_eq-Decides}
use Rattle.std.proofs.lemmas.Bool.Decides.{nat_tests}
use Rattle.std.proofs.lemmas.List.Elements.{All-nil, All-push, All-cons, All-head, All-tail, All-same}
use Rattle.std.proofs.lemmas.List.Folds.{list_any-append}
use Rattle.std.proofs.lemmas.Fmt.{decimal_nonempty}
use Rattle.ac_base.specs.declared.ends.EndWord.TheVariants.{Finished}
use Rattle.ac_base.specs.declared.entry.Stamped.{Stamped}
use Rattle.trace_text.specs.declared.so_far.Stage.{Stage}
use Rattle.trace_text.specs.declared.so_far.Stage.TheVariants as now
use Rattle.trace_text.specs.declared.so_far.SoFar.{SoFar}
use Rattle.trace_text.specs.declared.version.Version.{Version}
use Rattle.trace_text.specs.declared.version.Version.TheVariants.{First, Second}
use Rattle.trace_text.specs.declared.trace.Trace.{Trace}
use Rattle.trace_text.specs.declared.trace.TraceEnd.{TraceEnd}
use Rattle.trace_text.specs.Versions.{is_wide_entry, is_wide, CanSpell}
use Rattle.trace_text.specs.Text.{title, steps_line, spaced, event_text, file_line, entry_line, end_line, file_lines, entry_lines, end_lines, trace_lines}
use Rattle.trace_text.specs.Spelling.{AreBytes, IsEntry, IsEnd, IsTrace, Begins}
use Rattle.trace_text.specs.inner.Reading.{is_digit, starts, version_at, steps_at, file_at, entry_at, end_at, trace_end}
use Rattle.trace_text.specs.inner.Reading.{after_title, after_steps, after_file, after_entry, after_end, after_entry_or_end, at_stage, after_line}
use Rattle.trace_text.specs.inner.Reading.{with_title, with_steps, with_file, with_entry, with_end, nothing, ◌>>=◌}
use Rattle.trace_text.proofs.Words.{bind_case, some_same, not_none}
use Rattle.trace_text.proofs.Ints.{Allows, allows_none, allows_each, allows_both, allowed_can}
use Rattle.trace_text.proofs.Numbers.{AreDigits, decimal_digits}
use Rattle.trace_text.proofs.LinesRead.{steps_is, file_is, entry_is, end_is}
use Rattle.trace_text.proofs.LinesWritten.{steps_were, file_was, entry_was, end_was}

-- ---- lines of a trace with one part more

file_lines_append : (k : ℕ) (a b : List (List ℕ)) → file_lines k (a ++ b) ≡ file_lines k a ++ file_lines (k + length a) b
file_lines_append k [] b = ap (λ (j : ℕ). file_lines j b) (omega arith)
file_lines_append k (f ∷ a) b =
    ap (λ (ls : List (List ℕ)). file_line k f ∷ ls) (file_lines_append (suc k) a b ∙ ap (λ (j : ℕ). file_lines (suc k) a ++ file_lines j b) (omega arith))

entry_lines_append : (version : Version) (a b : List Stamped) → entry_lines version (a ++ b) ≡ entry_lines version a ++ entry_lines version b
entry_lines_append version [] b = refl
entry_lines_append version (s ∷ a) b = ap (λ (ls : List (List ℕ)). entry_line version s ∷ ls) (entry_lines_append version a b)

end_lines_append : (k : ℕ) (a b : List TraceEnd) → end_lines k (a ++ b) ≡ end_lines k a ++ end_lines (k + length a) b
end_lines_append k [] b = ap (λ (j : ℕ). end_lines j b) (omega arith)
end_lines_append k (e ∷ a) b =
    ap (λ (ls : List (List ℕ)). end_line k e ∷ ls) (end_lines_append (suc k) a b ∙ ap (λ (j : ℕ). end_lines (suc k) a ++ end_lines j b) (omega arith))

abbrev pub trace_of : ℕ → List (List ℕ) → List Stamped → List TraceEnd → Trace
trace_of steps start entries ends = record { steps = steps; start = start; entries = entries; ends = ends }

abbrev List2 : Type 0
List2 = List (List ℕ)

file_added : (version : Version) (n : ℕ) (start : List2) (bytes : List ℕ)
    → trace_lines version (trace_of n (start ++ bytes ∷ []) [] []) ≡ trace_lines version (trace_of n start [] []) ++ file_line (length start) bytes ∷ []
file_added version n start bytes =
    ap (λ (ls : List2). title version ∷ steps_line n ∷ ls)
    (append-nil (file_lines 0 (start ++ bytes ∷ [])) ∙ (file_lines_append 0 start (bytes ∷ []) ∙
    (ap (λ (j : ℕ). file_lines 0 start ++ file_line j bytes ∷ []) (omega arith) ∙ ap (λ (ls : List2). ls ++ file_line (length start) bytes ∷ []) (sym (append-nil (file_lines 0 start))))))

entry_added : (version : Version) (n : ℕ) (start : List2) (entries : List Stamped) (s : Stamped)
    → trace_lines version (trace_of n start (entries ++ s ∷ []) []) ≡ trace_lines version (trace_of n start entries []) ++ entry_line version s ∷ []
entry_added version n start entries s =
    ap (λ (ls : List2). title version ∷ steps_line n ∷ ls)
    (ap (λ (ls : List2). file_lines 0 start ++ ls)
    (append-nil (entry_lines version (entries ++ s ∷ [])) ∙ (entry_lines_append version entries (s ∷ []) ∙ ap (λ (ls : List2). ls ++ entry_line version s ∷ []) (sym (append-nil
    (entry_lines version entries)))))
    ∙ sym (append_assoc (file_lines 0 start) (entry_lines version entries ++ []) (entry_line version s ∷ [])))

end_added : (version : Version) (n : ℕ) (start : List2) (entries : List Stamped) (ends : List TraceEnd) (x : TraceEnd)
    → trace_lines version (trace_of n start entries (ends ++ x ∷ [])) ≡ trace_lines version (trace_of n start entries ends) ++ end_line (length ends) x ∷ []
end_added version n start entries ends x =
    ap (λ (ls : List2). title version ∷ steps_line n ∷ ls)
    (ap (λ (ls : List2). file_lines 0 start ++ (entry_lines version entries ++ ls))
    (end_lines_append 0 ends (x ∷ []) ∙ ap (λ (j : ℕ). end_lines 0 ends ++ end_line j x ∷ []) (omega arith))
    ∙ (ap (λ (ls : List2). file_lines 0 start ++ ls) (sym (append_assoc (entry_lines version entries) (end_lines 0 ends) (end_line (length ends) x ∷ [])))
    ∙ sym (append_assoc (file_lines 0 start) (entry_lines version entries ++ end_lines 0 ends) (end_line (length ends) x ∷ []))))

-- ---- what the lines so far spell

pub record Fits (version : Version) (t : Trace) : Type 0 where
  pub few_files : length t.start ≤ 2 ^ 32
  pub files : All AreBytes t.start
  pub entries : All IsEntry t.entries
  pub allows : Allows version (is_wide t)
  pub few_ends : length t.ends ≤ 2 ^ 32
  pub ends : All IsEnd t.ends

abbrev pub IsBound : ℕ → Type 0
IsBound n = (1 ≤ n) × (n ≤ 2000000)

-- at each stage, what is in the trace, and which lines spell it
abbrev pub Form : Stage → Version → Trace → List (List ℕ) → Type 0
Form now.Title version t ls = (t ≡ nothing.trace) × (ls ≡ [])
Form now.Steps version t ls = (t ≡ nothing.trace) × (ls ≡ title version ∷ [])
Form now.Files version t ls = IsBound t.steps × (ls ≡ trace_lines version t) × (t.entries ≡ []) × (t.ends ≡ [])
Form now.Entries version t ls = IsBound t.steps × (ls ≡ trace_lines version t) × (t.ends ≡ [])
Form now.Ends version t ls = IsBound t.steps × (ls ≡ trace_lines version t) × (1 ≤ length t.ends)

pub record Spelled (ls : List (List ℕ)) (s : SoFar) : Type 0 where
  pub fits : Fits s.version s.trace
  pub form : Form s.stage s.version s.trace ls

-- no more than a bound on steps
fits_bare : (version : Version) (n : ℕ) → Fits version (trace_of n [] [] [])
fits_bare version n = record {
  few_files = omega arith;
  files = All-nil AreBytes;
  entries = All-nil IsEntry;
  allows = allows_none version;
  few_ends = omega arith;
  ends = All-nil IsEnd;
}

pub nothing_spelled : Spelled [] nothing
nothing_spelled = record { fits = fits_bare First 0; form = (refl, refl) }

-- ---- one line more

abbrev so_far : Stage → Version → Trace → SoFar
so_far stage version t = record { stage = stage; version = version; trace = t }

version_case : (l : List ℕ) (version : Version) (a b : Bool) → bytes_eq l (title First) ≡ a → bytes_eq l (title Second) ≡ b
    → (if a then Some First else (if b then Some Second else None)) ≡ Some version → l ≡ title version
version_case l version true b d e h = (bytes_eq-Decides l (title First)).0 d ∙ ap title (some_same First version h)
version_case l version false true d e h = (bytes_eq-Decides l (title Second)).0 e ∙ ap title (some_same Second version h)
version_case l version false false d e h = not_none version h

title_grows : (before : Version) (t : Trace) (ls : List2) (l : List ℕ) (next : SoFar) → t ≡ nothing.trace → ls ≡ []
    → after_title (so_far now.Title before t) l ≡ Some next → Spelled (ls ++ l ∷ []) next
title_grows before t ls l next e f h =
    bind_case (version_at l) (λ version. Some (with_title (so_far now.Title before t) version)) next h λ version first g.
    let line : l ≡ title version = version_case l version (bytes_eq l (title First)) (bytes_eq l (title Second)) refl refl first in
    rw (sym (some_same (with_title (so_far now.Title before t) version) next g), e, f, line) (record { fits = fits_bare version 0; form = (refl, refl) })

steps_grow : (version : Version) (t : Trace) (ls : List2) (l : List ℕ) (next : SoFar) → t ≡ nothing.trace → ls ≡ title version ∷ []
    → after_steps (so_far now.Steps version t) l ≡ Some next → Spelled (ls ++ l ∷ []) next
steps_grow version t ls l next e f h =
    bind_case (steps_at l) (λ n. Some (with_steps (so_far now.Steps version t) n)) next h λ n first g.
    let w = steps_were n l first in
    rw (sym (some_same (with_steps (so_far now.Steps version t) n) next g), e, f, w.is) (record {
      fits = fits_bare version n;
      form = ((w.least, w.most), refl, refl, refl);
    })

file_grows : (version : Version) (t : Trace) (ls : List2) (l : List ℕ) (next : SoFar) → Fits version t → Form now.Files version t ls
    → after_file (so_far now.Files version t) l ≡ Some next → Spelled (ls ++ l ∷ []) next
file_grows version t ls l next fits form h =
    bind_case (file_at (length t.start) l) (λ bytes. Some (with_file (so_far now.Files version t) bytes)) next h λ bytes first g.
    let w = file_was (length t.start) bytes l first in
    let before : ls ≡ trace_lines version (trace_of t.steps t.start [] []) =
    form.1 ∙ (ap (λ (es : List Stamped). trace_lines version (trace_of t.steps t.start es t.ends)) form.2 ∙ ap (λ (es : List TraceEnd). trace_lines version (trace_of t.steps t.start [] es)) form.3) in
    let lines : ls ++ l ∷ [] ≡ trace_lines version (trace_of t.steps (t.start ++ bytes ∷ []) t.entries t.ends) =
    ap (λ (ls : List2). ls ++ l ∷ []) before ∙ (ap (λ (l : List ℕ). trace_lines version (trace_of t.steps t.start [] []) ++ l ∷ []) w.is ∙ (sym (file_added version t.steps t.start bytes)
    ∙ (ap (λ (es : List TraceEnd). trace_lines version (trace_of t.steps (t.start ++ bytes ∷ []) [] es)) (sym form.3)
    ∙ ap (λ (es : List Stamped). trace_lines version (trace_of t.steps (t.start ++ bytes ∷ []) es t.ends)) (sym form.2)))) in
    rw (sym (some_same (with_file (so_far now.Files version t) bytes) next g)) (record {
      fits = record {
        few_files = omega (arith, w.low, length-append t.start (bytes ∷ []));
        files = All-push AreBytes t.start bytes fits.files w.are;
        entries = fits.entries;
        allows = fits.allows;
        few_ends = fits.few_ends;
        ends = fits.ends;
      };
      form = (form.0, lines, form.2, form.3);
    })

entry_grows : (stage : Stage) (version : Version) (t : Trace) (ls : List2) (l : List ℕ) (next : SoFar) → Fits version t → IsBound t.steps → ls ≡ trace_lines version t → t.ends ≡ []
    → after_entry (so_far stage version t) l ≡ Some next → Spelled (ls ++ l ∷ []) next
entry_grows stage version t ls l next fits bound form none h =
    bind_case (entry_at version l) (λ s. Some (with_entry (so_far stage version t) s)) next h λ s first g.
    let w = entry_was version s l first in
    let before : ls ≡ trace_lines version (trace_of t.steps t.start t.entries []) = form ∙ ap (λ (es : List TraceEnd). trace_lines version (trace_of t.steps t.start t.entries es)) none in
    let lines : ls ++ l ∷ [] ≡ trace_lines version (trace_of t.steps t.start (t.entries ++ s ∷ []) t.ends) =
    ap (λ (ls : List2). ls ++ l ∷ []) before ∙ (ap (λ (l : List ℕ). trace_lines version (trace_of t.steps t.start t.entries []) ++ l ∷ []) w.is
    ∙ (sym (entry_added version t.steps t.start t.entries s) ∙ ap (λ (es : List TraceEnd). trace_lines version (trace_of t.steps t.start (t.entries ++ s ∷ []) es)) (sym none))) in
    rw (sym (some_same (with_entry (so_far stage version t) s) next g)) (record {
      fits = record {
        few_files = fits.few_files;
        files = fits.files;
        entries = All-push IsEntry t.entries s fits.entries w.fits;
        allows = subst (Allows version) (sym (list_any-append is_wide_entry t.entries (s ∷ [])))
            (allows_both version (is_wide t) (is_wide_entry s || false) fits.allows (allows_both version (is_wide_entry s) false w.allows (allows_none version)));
        few_ends = fits.few_ends;
        ends = fits.ends;
      };
      form = (bound, lines, none);
    })

end_grows : (stage : Stage) (version : Version) (t : Trace) (ls : List2) (l : List ℕ) (next : SoFar) → Fits version t → IsBound t.steps → ls ≡ trace_lines version t
    → after_end (so_far stage version t) l ≡ Some next → Spelled (ls ++ l ∷ []) next
end_grows stage version t ls l next fits bound form h =
    bind_case (end_at (length t.ends) l) (λ x. Some (with_end (so_far stage version t) x)) next h λ x first g.
    let w = end_was (length t.ends) x l first in
    let lines : ls ++ l ∷ [] ≡ trace_lines version (trace_of t.steps t.start t.entries (t.ends ++ x ∷ [])) =
    ap (λ (ls : List2). ls ++ l ∷ []) form ∙ (ap (λ (l : List ℕ). trace_lines version t ++ l ∷ []) w.is ∙ sym (end_added version t.steps t.start t.entries t.ends x)) in
    rw (sym (some_same (with_end (so_far stage version t) x) next g)) (record {
      fits = record {
        few_files = fits.few_files;
        files = fits.files;
        entries = fits.entries;
        allows = fits.allows;
        few_ends = omega (arith, w.low, length-append t.ends (x ∷ []));
        ends = All-push IsEnd t.ends x fits.ends w.fits;
      };
      form = (bound, lines, omega (arith, length-append t.ends (x ∷ [])));
    })

either_grows : (stage : Stage) (version : Version) (t : Trace) (ls : List2) (l : List ℕ) (next : SoFar) (b : Bool) → Fits version t → IsBound t.steps → ls ≡ trace_lines version t → t.ends ≡ []
    → (if b then after_end (so_far stage version t) l else after_entry (so_far stage version t) l) ≡ Some next → Spelled (ls ++ l ∷ []) next
either_grows stage version t ls l next true fits bound form none h = end_grows stage version t ls l next fits bound form h
either_grows stage version t ls l next false fits bound form none h = entry_grows stage version t ls l next fits bound form none h

any_grows : (version : Version) (t : Trace) (ls : List2) (l : List ℕ) (next : SoFar) (b : Bool) → Fits version t → Form now.Files version t ls
    → (if b then after_file (so_far now.Files version t) l else after_entry_or_end (so_far now.Files version t) l) ≡ Some next → Spelled (ls ++ l ∷ []) next
any_grows version t ls l next true fits form h = file_grows version t ls l next fits form h
any_grows version t ls l next false fits form h = either_grows now.Files version t ls l next (starts (λ b. b == 101) l) fits form.0 form.1 form.3 h

grows : (stage : Stage) (version : Version) (t : Trace) (ls : List2) (l : List ℕ) (next : SoFar) → Fits version t → Form stage version t ls
    → at_stage stage (so_far stage version t) l ≡ Some next → Spelled (ls ++ l ∷ []) next
grows now.Title version t ls l next fits form h = title_grows version t ls l next form.0 form.1 h
grows now.Steps version t ls l next fits form h = steps_grow version t ls l next form.0 form.1 h
grows now.Files version t ls l next fits form h = any_grows version t ls l next (starts (λ b. b == 102) l) fits form h
grows now.Entries version t ls l next fits form h = either_grows now.Entries version t ls l next (starts (λ b. b == 101) l) fits form.0 form.1 form.2 h
grows now.Ends version t ls l next fits form h = end_grows now.Ends version t ls l next fits form.0 form.1 h

pub line_grows : (ls : List (List ℕ)) (s : SoFar) (l : List ℕ) (next : SoFar) → Spelled ls s → after_line s l ≡ Some next → Spelled (ls ++ l ∷ []) next
unfolding after_line
line_grows ls s l next w h = grows s.stage s.version s.trace ls l next w.fits w.form h

-- ---- many lines

abbrev pub after_lines : SoFar → List (List ℕ) → Option SoFar
after_lines s [] = Some s
after_lines s (l ∷ ls) = after_line s l >>= λ next. after_lines next ls

pub after_both : (a b : List (List ℕ)) (s : SoFar) → after_lines s (a ++ b) ≡ (after_lines s a >>= λ next. after_lines next b)
after_both [] b s = refl
after_both (l ∷ a) b s = both (after_line s l) (after_both a b)
  where
    both : (r : Option SoFar) → ((next : SoFar) → after_lines next (a ++ b) ≡ (after_lines next a >>= λ last. after_lines last b))
        → (r >>= λ next. after_lines next (a ++ b)) ≡ ((r >>= λ next. after_lines next a) >>= λ next. after_lines next b)
    both None more = refl
    both (Some next) more = more next

pub lines_spelled : (before ls : List (List ℕ)) (s next : SoFar) → Spelled before s → after_lines s ls ≡ Some next → Spelled (before ++ ls) next
lines_spelled before [] s next w h = rw (append-nil before, sym (some_same s next h)) w
lines_spelled before (l ∷ ls) s next w h =
    bind_case (after_line s l) (λ n. after_lines n ls) next h λ n first g.
    rw (sym (append_assoc before (l ∷ []) ls)) (lines_spelled (before ++ l ∷ []) ls n next (line_grows before s l n w first) g)

-- ---- what is spelled begins a trace

last_end : TraceEnd
last_end = trace_end Finished 0 []

abbrev ended_trace : Trace → Trace
ended_trace t = trace_of t.steps t.start t.entries (last_end ∷ [])

is_ended : (version : Version) (t : Trace) → Fits version t → IsBound t.steps → IsTrace (ended_trace t)
unfolding last_end
is_ended version t fits bound = record {
  steps_least = bound.0;
  steps_most = bound.1;
  few_files = fits.few_files;
  files = fits.files;
  entries = fits.entries;
  some_end = omega arith;
  few_ends = omega arith;
  ends = All-cons IsEnd last_end [] (record { steps = omega arith; output = All-nil (λ b. b < 256) }) (All-nil IsEnd);
}

closed : (version : Version) (t : Trace) (ls : List2) → Fits version t → IsBound t.steps → ls ≡ trace_lines version t → t.ends ≡ [] → Begins ls
closed version t ls fits bound form none = record {
  version = version;
  trace = ended_trace t;
  others = end_line 0 last_end ∷ [];
  is_trace = is_ended version t fits bound;
  can_spell = allowed_can version (ended_trace t) fits.allows;
  form = end_added version t.steps t.start t.entries [] last_end
      ∙ ap (λ (ls : List2). ls ++ end_line 0 last_end ∷ []) (ap (λ (es : List TraceEnd). trace_lines version (trace_of t.steps t.start t.entries es)) (sym none) ∙ sym form);
}

pub whole_trace : (version : Version) (t : Trace) → Fits version t → IsBound t.steps → 1 ≤ length t.ends → IsTrace t
whole_trace version t fits bound some = record {
  steps_least = bound.0;
  steps_most = bound.1;
  few_files = fits.few_files;
  files = fits.files;
  entries = fits.entries;
  some_end = some;
  few_ends = fits.few_ends;
  ends = fits.ends;
}

abbrev small : Trace
small = trace_of 1 [] [] []

small_ended : IsTrace (ended_trace small)
small_ended = is_ended First small (fits_bare First 1) (omega arith, omega arith)

small_can : (version : Version) → CanSpell version (ended_trace small)
small_can version = allowed_can version (ended_trace small) (allows_none version)

begins : (stage : Stage) (version : Version) (t : Trace) (ls : List2) → Fits version t → Form stage version t ls → Begins ls
begins now.Title version t ls fits form = record {
  version = version;
  trace = ended_trace small;
  others = trace_lines version (ended_trace small);
  is_trace = small_ended;
  can_spell = small_can version;
  form = rw form.1 refl;
}
begins now.Steps version t ls fits form = record {
  version = version;
  trace = ended_trace small;
  others = steps_line 1 ∷ end_line 0 last_end ∷ [];
  is_trace = small_ended;
  can_spell = small_can version;
  form = rw form.1 refl;
}
begins now.Files version t ls fits form = closed version t ls fits form.0 form.1 form.3
begins now.Entries version t ls fits form = closed version t ls fits form.0 form.1 form.2
begins now.Ends version t ls fits form = record {
  version = version;
  trace = t;
  others = [];
  is_trace = whole_trace version t fits form.0 form.2;
  can_spell = allowed_can version t fits.allows;
  form = sym (append-nil ls ∙ form.1);
}

pub spelled_begins : (ls : List (List ℕ)) (s : SoFar) → Spelled ls s → Begins ls
spelled_begins ls s w = begins s.stage s.version s.trace ls w.fits w.form

-- ---- the lines of a trace are read to their end

-- a number begins with a digit
first_case : (c : ℕ) (ds rest : List ℕ) → is_digit c ≡ false → AreDigits ds → 0 < length ds → starts (λ b. b == c) (ds ++ rest) ≡ false
first_case c [] rest d all some = absurd (omega (arith, some))
first_case c (b ∷ ds) rest d all some = differs (b == c) refl
  where
    differs : (t : Bool) → (b == c) ≡ t → (b == c) ≡ false
    differs false e = e
    differs true e =
        let same : b ≡ c = grind (arith, nat_tests) in
        let digit : is_digit c ≡ true = ap is_digit (sym same) ∙ all.0 in
        absurd (both digit d)
      where
        both : is_digit c ≡ true → is_digit c ≡ false → ⊥
        both h g = cc

first_is : (c n : ℕ) (rest : List ℕ) → is_digit c ≡ false → n < 2 ^ 64 → starts (λ b. b == c) (decimal n ++ rest) ≡ false
first_is c n rest d lt = first_case c (decimal n) rest d (decimal_digits n lt) (decimal_nonempty n lt)

abbrev pub at : Stage → Version → ℕ → List (List ℕ) → List Stamped → List TraceEnd → SoFar
at stage version steps start entries ends = so_far stage version (trace_of steps start entries ends)

-- entries may come here, and ends
abbrev TakesEntry : Stage → Type 0
TakesEntry now.Files = Unit {0}
TakesEntry now.Entries = Unit {0}
TakesEntry _ = ⊥

abbrev TakesEnd : Stage → Type 0
TakesEnd now.Files = Unit {0}
TakesEnd now.Entries = Unit {0}
TakesEnd now.Ends = Unit {0}
TakesEnd _ = ⊥

file_after : (version : Version) (n k : ℕ) (start : List2) (bytes : List ℕ) → k ≡ length start → k < 2 ^ 32 → AreBytes bytes
    → after_line (at now.Files version n start [] []) (file_line k bytes) ≡ Some (at now.Files version n (start ++ bytes ∷ []) [] [])
unfolding after_line
file_after version n k start bytes e lt all = rw (sym e, file_is k bytes lt all) refl

entry_after : (stage : Stage) (version : Version) (n : ℕ) (start : List2) (entries : List Stamped) (s : Stamped) → TakesEntry stage → IsEntry s → Allows version (is_wide_entry s)
    → after_line (at stage version n start entries []) (entry_line version s) ≡ Some (at now.Entries version n start (entries ++ s ∷ []) [])
unfolding after_line
entry_after now.Files version n start entries s takes fits allows =
    let rest : List ℕ = spaced s.party ++ (spaced s.entry.turn ++ event_text version s.entry.event) in
    rw (first_is 102 s.entry.stamp rest refl (omega (arith, fits.stamp_most)), first_is 101 s.entry.stamp rest refl (omega (arith, fits.stamp_most)), entry_is version s fits allows) refl
entry_after now.Entries version n start entries s takes fits allows =
    let rest : List ℕ = spaced s.party ++ (spaced s.entry.turn ++ event_text version s.entry.event) in
    rw (first_is 101 s.entry.stamp rest refl (omega (arith, fits.stamp_most)), entry_is version s fits allows) refl
entry_after now.Title version n start entries s takes fits allows = absurd takes
entry_after now.Steps version n start entries s takes fits allows = absurd takes
entry_after now.Ends version n start entries s takes fits allows = absurd takes

end_after : (stage : Stage) (version : Version) (n k : ℕ) (start : List2) (entries : List Stamped) (ends : List TraceEnd) (x : TraceEnd) → TakesEnd stage → k ≡ length ends → k < 2 ^ 32 → IsEnd x
    → after_line (at stage version n start entries ends) (end_line k x) ≡ Some (at now.Ends version n start entries (ends ++ x ∷ []))
unfolding after_line
end_after now.Files version n k start entries ends x takes e lt fits = rw (sym e, end_is k x lt fits) refl
end_after now.Entries version n k start entries ends x takes e lt fits = rw (sym e, end_is k x lt fits) refl
end_after now.Ends version n k start entries ends x takes e lt fits = rw (sym e, end_is k x lt fits) refl
end_after now.Title version n k start entries ends x takes e lt fits = absurd takes
end_after now.Steps version n k start entries ends x takes e lt fits = absurd takes

files_after : (version : Version) (n k : ℕ) (start files : List2) → k ≡ length start → k + length files ≤ 2 ^ 32 → All AreBytes files
    → after_lines (at now.Files version n start [] []) (file_lines k files) ≡ Some (at now.Files version n (start ++ files) [] [])
files_after version n k start [] e le all = ap (λ (fs : List2). Some (at now.Files version n fs [] [])) (sym (append-nil start))
files_after version n k start (bytes ∷ files) e le all =
    rw (file_after version n k start bytes e (omega (arith, le)) (All-head AreBytes bytes files all))
    (files_after version n (suc k) (start ++ bytes ∷ []) files (omega (arith, e, length-append start (bytes ∷ []))) (omega (arith, le)) (All-tail AreBytes bytes files all)
    ∙ ap (λ (fs : List2). Some (at now.Files version n fs [] [])) (append_assoc start (bytes ∷ []) files))

-- the stage behind so many entries
abbrev stage_after : Stage → List Stamped → Stage
stage_after stage [] = stage
stage_after stage (s ∷ ss) = now.Entries

entries_after : (stage : Stage) (version : Version) (n : ℕ) (start : List2) (entries more : List Stamped) → TakesEntry stage → All IsEntry more → Allows version (list_any is_wide_entry more)
    → after_lines (at stage version n start entries []) (entry_lines version more) ≡ Some (at (stage_after stage more) version n start (entries ++ more) [])
entries_after stage version n start entries [] takes all allows = ap (λ (ss : List Stamped). Some (at stage version n start ss [])) (sym (append-nil entries))
entries_after stage version n start entries (s ∷ []) takes all allows =
    let each = allows_each version (is_wide_entry s) false allows in
    rw (entry_after stage version n start entries s takes (All-head IsEntry s [] all) each.0) refl
entries_after stage version n start entries (s ∷ r ∷ more) takes all allows =
    let each = allows_each version (is_wide_entry s) (list_any is_wide_entry (r ∷ more)) allows in
    rw (entry_after stage version n start entries s takes (All-head IsEntry s (r ∷ more) all) each.0)
    (entries_after now.Entries version n start (entries ++ s ∷ []) (r ∷ more) tt (All-tail IsEntry s (r ∷ more) all) each.1
    ∙ ap (λ (ss : List Stamped). Some (at now.Entries version n start ss [])) (append_assoc entries (s ∷ []) (r ∷ more)))

ends_after : (stage : Stage) (version : Version) (n k : ℕ) (start : List2) (entries : List Stamped) (ends : List TraceEnd) (x : TraceEnd) (more : List TraceEnd) → TakesEnd stage → k ≡ length ends
    → k + length (x ∷ more) ≤ 2 ^ 32 → All IsEnd (x ∷ more)
    → after_lines (at stage version n start entries ends) (end_lines k (x ∷ more)) ≡ Some (at now.Ends version n start entries (ends ++ x ∷ more))
ends_after stage version n k start entries ends x [] takes e le all = rw (end_after stage version n k start entries ends x takes e (omega (arith, le)) (All-head IsEnd x [] all)) refl
ends_after stage version n k start entries ends x (y ∷ more) takes e le all =
    rw (end_after stage version n k start entries ends x takes e (omega (arith, le)) (All-head IsEnd x (y ∷ more) all))
    (ends_after now.Ends version n (suc k) start entries (ends ++ x ∷ []) y more tt (omega (arith, e, length-append ends (x ∷ []))) (omega (arith, le)) (All-tail IsEnd x (y ∷ more) all)
    ∙ ap (λ (es : List TraceEnd). Some (at now.Ends version n start entries es)) (append_assoc ends (x ∷ []) (y ∷ more)))

takes_end : (ss : List Stamped) → TakesEnd (stage_after now.Files ss)
takes_end [] = tt
takes_end (s ∷ ss) = tt

some_ends : (stage : Stage) (version : Version) (t : Trace) → TakesEnd stage → 1 ≤ length t.ends → length t.ends ≤ 2 ^ 32 → All IsEnd t.ends → (ends : List TraceEnd) → ends ≡ t.ends
    → after_lines (at stage version t.steps t.start t.entries []) (end_lines 0 ends) ≡ Some (so_far now.Ends version t)
some_ends stage version t takes some few all [] e = absurd (omega (arith, some, ap (λ (es : List TraceEnd). length es) e))
some_ends stage version t takes some few all (x ∷ ends) e =
    ends_after stage version t.steps 0 t.start t.entries [] x ends takes refl (omega (arith, few, ap (λ (es : List TraceEnd). length es) e)) (All-same IsEnd (x ∷ ends) t.ends e all)
    ∙ ap (λ (es : List TraceEnd). Some (at now.Ends version t.steps t.start t.entries es)) e

title_after : (version : Version) → after_line nothing (title version) ≡ Some (at now.Steps version 0 [] [] [])
unfolding after_line
title_after First = refl
title_after Second = refl

bound_after : (version : Version) (n : ℕ) → IsBound n → after_line (at now.Steps version 0 [] [] []) (steps_line n) ≡ Some (at now.Files version n [] [] [])
unfolding after_line
bound_after version n bound = rw (steps_is n bound.0 bound.1) refl

pub trace_is_read : (version : Version) (t : Trace) → IsTrace t → Allows version (is_wide t)
    → after_lines nothing (trace_lines version t) ≡ Some (record { stage = now.Ends; version = version; trace = t })
trace_is_read version t h allows =
    let files = files_after version t.steps 0 [] t.start refl (omega (arith, h.few_files)) h.files in
    let entries = entries_after now.Files version t.steps t.start [] t.entries tt h.entries allows in
    let ends = some_ends (stage_after now.Files t.entries) version t (takes_end t.entries) h.some_end h.few_ends h.ends t.ends refl in
    rw (
      title_after version,
      bound_after version t.steps (h.steps_least, h.steps_most),
      after_both (file_lines 0 t.start) (entry_lines version t.entries ++ end_lines 0 t.ends) (at now.Files version t.steps [] [] []),
      files,
      after_both (entry_lines version t.entries) (end_lines 0 t.ends) (at now.Files version t.steps t.start [] []),
      entries,
    ) ends
