-- A message is read as it is written in each version, and no other way. The reader takes one int after the other behind those that it has;
-- in version 1 there is one, and in version 2 as many as the line says, so that the version and the number of ints go together.
use Rattle.std.proofs.Common.{◌≡◌, ℕ, zero, suc, ◌+◌, ◌-◌, ◌<◌, ◌≤◌, Bool, true, false, List, [], ◌∷◌, ◌++◌}
use Rattle.std.proofs.Common.{length, get_or, drop, drop-cons, take, Some, None, Result, Err, codes, refl, sym, ap, ◌∙◌, subst}
use Rattle.std.proofs.Common.{append-nil, append_assoc, length-append, arith}
use Rattle.std.specs.Prelude.{ℤ, pos, All, ◌||◌, ◌==◌}
use Rattle.std.specs.Fmt.{decimal, signed_decimal}
use Rattle.std.proofs.lemmas.Bool.{not-false}
use Rattle.std.proofs.lemmas.Bool.Decides.{nat_tests}
use Rattle.std.proofs.lemmas.List.Elements.{All-nil, All-cons, All-head, All-tail}
use Rattle.trace_text.specs.declared.cursor.LineFault.{LineFault}
use Rattle.trace_text.specs.declared.cursor.LineFault.TheVariants as line
use Rattle.trace_text.specs.declared.version.Version.{Version}
use Rattle.trace_text.specs.declared.version.Version.TheVariants.{First, Second}
use Rattle.trace_text.specs.declared.trace.Trace.{Trace}
use Rattle.trace_text.specs.Versions.{is_wide_message, is_wide, CanSpell}
use Rattle.trace_text.specs.Text.{ints_text, message_text}
use Rattle.trace_text.specs.Spelling.{IsValue, IsMessage}
use Rattle.trace_text.specs.inner.Reading.{Gives, is_digit, starts, word_at, ended, positive_at, value_at, spaced_value, more_ints, count_in, message_at, ◌>>=◌}
use Rattle.trace_text.proofs.Words.{bind_case, bind_some, bind_none, ended_case, word_was, parts_same, parts_are, behind, at_end}
use Rattle.trace_text.proofs.Numbers.{positive_is, positive_was}
use Rattle.trace_text.proofs.Values.{value_is, value_was}
use Rattle.trace_text.proofs.Fitted.{all_more}

-- ---- which versions spell it

-- whether the version has a spelling, where the test tells of a message that has not exactly one int
abbrev pub Allows : Version → Bool → Type 0
Allows First wide = wide ≡ false
Allows Second wide = Unit {0}

pub allows_none : (version : Version) → Allows version false
allows_none First = refl
allows_none Second = tt

or_false : (a b : Bool) → (a || b) ≡ false → (a ≡ false) × (b ≡ false)
or_false false b h = (refl, h)
or_false true b h = absurd (true_is_not h)
  where
    true_is_not : true ≡ false → ⊥
    true_is_not g = cc

pub allows_each : (version : Version) (a b : Bool) → Allows version (a || b) → Allows version a × Allows version b
allows_each First a b h = or_false a b h
allows_each Second a b h = (tt, tt)

pub allows_both : (version : Version) (a b : Bool) → Allows version a → Allows version b → Allows version (a || b)
allows_both First a b h g = rw (h, g) refl
allows_both Second a b h g = tt

pub can_allow : (version : Version) (t : Trace) → CanSpell version t → Allows version (is_wide t)
can_allow First t h = h
can_allow Second t h = tt

pub allowed_can : (version : Version) (t : Trace) → Allows version (is_wide t) → CanSpell version t
allowed_can First t h = h
allowed_can Second t h = tt

pub is_one : (message : List ℤ) → is_wide_message message ≡ false → length message ≡ 1
is_one message h = let one : (length message == 1) ≡ true = not-false (length message == 1) h in grind (arith, nat_tests)

pub one_is_not_wide : (message : List ℤ) → length message ≡ 1 → is_wide_message message ≡ false
one_is_not_wide message h = rw h refl

-- ---- what the loop over the ints keeps

none_more : (ints : List ℤ) (count : ℕ) (bs : List ℕ) → 1 ≤ count → spaced_value bs ≡ None → more_ints ints count bs ≡ None
none_more ints zero bs some h = absurd (omega (arith, some))
none_more ints (suc k) bs some h = bind_none (spaced_value bs) (λ v. more_ints (ints ++ v.0 ∷ []) k v.1) h

one_more : (ints : List ℤ) (v : ℤ) (count left : ℕ) (bs rest : List ℕ) → length ints < count → count - length ints ≡ left → spaced_value bs ≡ Some (v, rest)
    → more_ints (ints ++ v ∷ []) (count - length (ints ++ v ∷ [])) rest ≡ more_ints ints left bs
one_more ints v count zero bs rest less is h = absurd (omega (arith, less, is))
one_more ints v count (suc k) bs rest less is h =
    let fewer : count - length (ints ++ v ∷ []) ≡ k = omega (arith, is, length-append ints (v ∷ [])) in
    ap (λ (n : ℕ). more_ints (ints ++ v ∷ []) n rest) fewer ∙ sym (bind_some (spaced_value bs) (λ v. more_ints (ints ++ v.0 ∷ []) k v.1) (v, rest) h)

-- the first int, behind none
pub first_read : (v told : ℤ) (message : List ℤ) (count : ℕ) (bs rest : List ℕ) → told ≡ v → message ≡ told ∷ [] → 1 ≤ count → spaced_value bs ≡ Some (v, rest)
    → more_ints message (count - length message) rest ≡ more_ints [] count bs
first_read v told message count bs rest same made some h =
    subst (λ (ints : List ℤ). more_ints ints (count - length ints) rest ≡ more_ints [] count bs) (sym (made ∙ ap (λ (x : ℤ). x ∷ []) same))
    (one_more [] v count count bs rest (omega (arith, some)) (omega arith) h)

-- and each behind those before
pub next_read : (ints after : List ℤ) (v told : ℤ) (count : ℕ) (bs rest : List ℕ) → told ≡ v → after ≡ ints ++ told ∷ [] → length ints < count → spaced_value bs ≡ Some (v, rest)
    → more_ints after (count - length after) rest ≡ more_ints ints (count - length ints) bs
next_read ints after v told count bs rest same made less h =
    subst (λ (found : List ℤ). more_ints found (count - length found) rest ≡ more_ints ints (count - length ints) bs) (sym (made ∙ ap (λ (x : ℤ). ints ++ x ∷ []) same))
    (one_more ints v count (count - length ints) bs rest less refl h)

-- what is no int gives no message either
pub faults_on : {X : Type 0} (view : X → List ℤ × List ℕ) (r : Result X LineFault) (fault : LineFault) (ints : List ℤ) (count : ℕ) (bs first : List ℕ) → r ≡ Err fault
    → 1 ≤ count - length ints → (fault ≡ line.Wrong → spaced_value bs ≡ None) → more_ints ints (count - length ints) bs ≡ more_ints [] count first
    → Gives view r (more_ints [] count first)
faults_on {X} view r fault ints count bs first is some told same = subst (λ (q : Result X LineFault). Gives view q (more_ints [] count first)) (sym is) (go fault told)
  where
    go : (f : LineFault) → (f ≡ line.Wrong → spaced_value bs ≡ None) → Gives view (Err f) (more_ints [] count first)
    go line.Wrong told = sym same ∙ none_more ints (count - length ints) bs some (told refl)
    go line.Memory told = tt

pub no_more : (ints : List ℤ) (left : ℕ) (bs : List ℕ) → left ≡ 0 → more_ints ints left bs ≡ Some (ints, bs)
no_more ints left bs h = rw h refl

-- ---- what the loop of the writer keeps

-- one int more has gone behind the text, and the others are left
pub one_int_written : (text blank new whole : List ℕ) (i : ℕ) (ints : List ℤ) (told : ℤ) → i < length ints → blank ≡ text ++ 32 ∷ [] → new ≡ blank ++ signed_decimal told
    → text ++ ints_text (drop i ints) ≡ whole → All IsValue (take i ints) → IsValue told → told ≡ get_or ints i (pos 0)
    → (new ++ ints_text (drop (i + 1) ints) ≡ whole) × All IsValue (take (i + 1) ints)
one_int_written text blank new whole i ints told less space added all fits here is =
    let digits = signed_decimal told in
    let rest = ints_text (drop (suc i) ints) in
    let next : suc i ≡ i + 1 = omega arith in
    let split : ints_text (drop i ints) ≡ 32 ∷ (digits ++ rest) =
    ap ints_text (drop-cons ints i (pos 0) less) ∙ ap (λ (v : ℤ). 32 ∷ (signed_decimal v ++ rest)) (sym is) in
    let whole_is : new ++ rest ≡ whole =
    ap (λ (bs : List ℕ). bs ++ rest) (added ∙ ap (λ (bs : List ℕ). bs ++ digits) space) ∙ append_assoc (text ++ 32 ∷ []) digits rest
    ∙ (append_assoc text (32 ∷ []) (digits ++ rest) ∙ (ap (λ (bs : List ℕ). text ++ bs) (sym split) ∙ all)) in
    (subst (λ (n : ℕ). new ++ ints_text (drop n ints) ≡ whole) next whole_is, all_more IsValue ints i told (pos 0) less is fits here)

-- ---- what is written is read

pub ints_start : (ints : List ℤ) → starts is_digit (ints_text ints) ≡ false
ints_start [] = refl
ints_start (v ∷ ints) = refl

abbrev no_bytes : List ℕ
no_bytes = []

ints_are : (before ints : List ℤ) (count : ℕ) → count ≡ length ints → All IsValue ints → more_ints before count (ints_text ints) ≡ Some (before ++ ints, [])
ints_are before [] zero e all = parts_are before (before ++ []) no_bytes no_bytes (sym (append-nil before)) refl
ints_are before [] (suc k) e all = absurd (omega (arith, e))
ints_are before (v ∷ ints) zero e all = absurd (omega (arith, e))
ints_are before (v ∷ ints) (suc k) e all =
    bind_some (spaced_value (ints_text (v ∷ ints))) (λ v. more_ints (before ++ v.0 ∷ []) k v.1) (v, ints_text ints)
    (value_is v (ints_text ints) (All-head IsValue v ints all) (ints_start ints))
    ∙ (ints_are (before ++ v ∷ []) ints k (omega (arith, e)) (All-tail IsValue v ints all)
    ∙ parts_are ((before ++ v ∷ []) ++ ints) (before ++ v ∷ ints) no_bytes no_bytes (append_assoc before (v ∷ []) ints) refl)

pub message_is : (version : Version) (message : List ℤ) → IsMessage message → Allows version (is_wide_message message)
    → message_at version (message_text version message) ≡ Some message
unfolding message_at
message_is First message fits allows =
    bind_some (more_ints [] 1 (ints_text message)) (λ m. ended m.1 m.0) (message, [])
    (ints_are [] message 1 (sym (is_one message allows)) fits.0)
message_is Second message fits allows =
    bind_some (positive_at 16 (decimal (length message) ++ ints_text message)) (λ k. more_ints [] k.0 k.1 >>= λ m. ended m.1 m.0) (length message, ints_text message)
    (positive_is 16 (length message) (ints_text message) fits.1.0 fits.1.1 (omega (arith, fits.1.1)) (ints_start message))
    ∙ bind_some (more_ints [] (length message) (ints_text message)) (λ m. ended m.1 m.0) (message, []) (ints_are [] message (length message) refl fits.0)

-- ---- what is read was written

-- ints that stand there, behind those before
record WereInts (before found : List ℤ) (count : ℕ) (bs rest : List ℕ) : Type 0 where
  ints : List ℤ
  are : All IsValue ints
  many : length ints ≡ count
  joined : found ≡ before ++ ints
  is : bs ≡ ints_text ints ++ rest

ints_were : (before found : List ℤ) (count : ℕ) (bs rest : List ℕ) → more_ints before count bs ≡ Some (found, rest) → WereInts before found count bs rest
ints_were before found zero bs rest h =
    let q = parts_same before found bs rest h in
    record { ints = []; are = All-nil IsValue; many = refl; joined = sym q.0 ∙ sym (append-nil before); is = q.1 }
ints_were before found (suc k) bs rest h =
    bind_case (spaced_value bs) (λ v. more_ints (before ++ v.0 ∷ []) k v.1) (found, rest) h λ v first g.
    bind_case (word_at (codes " ") bs) value_at v first λ after blank second.
    let w = value_was after v.0 v.1 second in
    let more = ints_were (before ++ v.0 ∷ []) found k v.1 rest g in
    let tail : after ≡ (signed_decimal v.0 ++ ints_text more.ints) ++ rest =
    behind after (signed_decimal v.0) v.1 (ints_text more.ints ++ rest) w.is more.is ∙ sym (append_assoc (signed_decimal v.0) (ints_text more.ints) rest) in
    record {
      ints = v.0 ∷ more.ints;
      are = All-cons IsValue v.0 more.ints w.fits more.are;
      many = omega (arith, more.many);
      joined = more.joined ∙ append_assoc before (v.0 ∷ []) more.ints;
      is = behind bs (codes " ") after ((signed_decimal v.0 ++ ints_text more.ints) ++ rest) (word_was (codes " ") bs after blank) tail;
    }

pub record WasMessage (version : Version) (message : List ℤ) (bs : List ℕ) : Type 0 where
  pub fits : IsMessage message
  pub allows : Allows version (is_wide_message message)
  pub is : bs ≡ message_text version message

-- the ints of a whole line
ended_were : (count : ℕ) (message : List ℤ) (bs : List ℕ) → (more_ints [] count bs >>= λ m. ended m.1 m.0) ≡ Some message
    → (All IsValue message) × (length message ≡ count) × (bs ≡ ints_text message)
ended_were count message bs h =
    bind_case (more_ints [] count bs) (λ m. ended m.1 m.0) message h λ m first g.
    let done = ended_case m.1 m.0 message g in
    let w = ints_were [] m.0 count bs m.1 first in
    let same : w.ints ≡ message = sym w.joined ∙ done.1 in (
      subst (λ (ints : List ℤ). All IsValue ints) same w.are,
      ap (λ (ints : List ℤ). length ints) (sym same) ∙ w.many,
      at_end bs (ints_text w.ints) m.1 w.is done.0 ∙ ap ints_text same,
    )

pub message_was : (version : Version) (bs : List ℕ) (message : List ℤ) → message_at version bs ≡ Some message → WasMessage version message bs
unfolding message_at
message_was First bs message h =
    let w = ended_were 1 message bs h in
    record { fits = (w.0, (omega (arith, w.1), omega (arith, w.1))); allows = one_is_not_wide message w.1; is = w.2 }
message_was Second bs message h =
    bind_case (count_in Second bs) (λ k. more_ints [] k.0 k.1 >>= λ m. ended m.1 m.0) message h λ k first g.
    bind_case (word_at (codes " ") bs) (positive_at 16) k first λ after blank second.
    let n = positive_was 16 k.0 after k.1 (omega arith) second in
    let w = ended_were k.0 message k.1 g in
    let tail : after ≡ decimal (length message) ++ ints_text message =
    n.was.is ∙ (ap (λ (n : ℕ). decimal n ++ k.1) (sym w.1) ∙ ap (λ (cs : List ℕ). decimal (length message) ++ cs) w.2) in
    record {
      fits = (w.0, (omega (arith, w.1, n.least), omega (arith, w.1, n.was.low)));
      allows = tt;
      is = behind bs (codes " ") after (decimal (length message) ++ ints_text message) (word_was (codes " ") bs after blank) tail;
    }
