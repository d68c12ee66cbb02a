-- One line more of a text, as the reader takes it: where it cuts the text, reading the whole lines of what is left gives the same as reading
-- that line and going on behind it.
use Rattle.std.proofs.Common.{◌≡◌, ◌≢◌, ℕ, zero, suc, length-drop, ◌+◌, ◌-◌, ◌<◌, ◌≤◌, List, [], ◌∷◌, length, take, drop, Option, Some, None, Result, Err, refl, sym, ap, ◌∙◌, arith}
use Rattle.std.proofs.lemmas.List.{take_all}
use Rattle.trace_text.specs.declared.version.Version.{Version}
use Rattle.trace_text.specs.declared.trace.Trace.{Trace}
use Rattle.trace_text.specs.declared.faults.TraceFault.{TraceFault}
use Rattle.trace_text.specs.declared.so_far.Stage.{Stage}
use Rattle.trace_text.specs.declared.so_far.Stage.TheVariants as now
use Rattle.trace_text.specs.declared.so_far.SoFar.{SoFar}
use Rattle.trace_text.specs.inner.Reading.{Lines, line_run, lines_of, after_line, going_on, told_in, whole_at, read_lines, Told}
use Rattle.trace_text.proofs.TextLines.{line_front, no_line}

-- reading the lines of a text on
abbrev pub read_on : ℕ → SoFar → List ℕ → Result Trace ℕ
read_on line s bs = read_lines line s (lines_of bs).0 (lines_of bs).1

by_lines : (line : ℕ) (s : SoFar) (bs : List ℕ) (p : Lines) → lines_of bs ≡ p → read_on line s bs ≡ read_lines line s p.0 p.1
by_lines line s bs p e = ap (λ (q : Lines). read_lines line s q.0 q.1) e

some_tail : (line : ℕ) (s : SoFar) (bs : List ℕ) → 0 < length bs → read_lines line s [] bs ≡ Err line
unfolding read_lines
some_tail line s [] some = absurd (omega (arith, some))
some_tail line s (b ∷ bs) some = refl

-- where no line feed is left but bytes are, the line is wrong
pub open_line : (line : ℕ) (s : SoFar) (bs : List ℕ) → 0 < length bs → line_run bs ≡ length bs → read_on line s bs ≡ Err line
open_line line s bs some none = by_lines line s bs ([], bs) (no_line bs none) ∙ some_tail line s bs some

front_on : (line : ℕ) (s : SoFar) (l : List ℕ) (rest : Lines) (r : Option SoFar) → after_line s l ≡ r
    → read_lines line s (l ∷ rest.0) rest.1 ≡ going_on r line (λ next. read_lines (suc line) next rest.0 rest.1)
unfolding read_lines
front_on line s l rest r e = rw e refl

-- a line that does not go on
pub wrong_line : (line : ℕ) (s : SoFar) (bs : List ℕ) (n : ℕ) → line_run bs ≡ n → n ≢ length bs → after_line s (take n bs) ≡ None → read_on line s bs ≡ Err line
wrong_line line s bs n run more none =
    by_lines line s bs (take n bs ∷ (lines_of (drop (suc n) bs)).0, (lines_of (drop (suc n) bs)).1) (line_front bs n run more)
    ∙ front_on line s (take n bs) (lines_of (drop (suc n) bs)) None none

-- and one that does
pub right_line : (line : ℕ) (s next : SoFar) (bs : List ℕ) (n : ℕ) → line_run bs ≡ n → n ≢ length bs → after_line s (take n bs) ≡ Some next
    → read_on line s bs ≡ read_on (suc line) next (drop (suc n) bs)
right_line line s next bs n run more some =
    by_lines line s bs (take n bs ∷ (lines_of (drop (suc n) bs)).0, (lines_of (drop (suc n) bs)).1) (line_front bs n run more)
    ∙ front_on line s (take n bs) (lines_of (drop (suc n) bs)) (Some next) some

-- ---- at a place of the text

abbrev no_bytes : List ℕ
no_bytes = []

-- what is left behind it, as the code cuts it
abbrev pub rest_at : List ℕ → ℕ → List ℕ
rest_at text at = take (length text - at) (drop at text)

rest_is : (text : List ℕ) (at : ℕ) → rest_at text at ≡ drop at text
rest_is text at = take_all (length text - at) (drop at text) (omega (arith, length-drop at text))

pub cut_length : (text : List ℕ) (at : ℕ) → length (rest_at text at) ≡ length text - at
cut_length text at = ap (λ (bs : List ℕ). length bs) (rest_is text at) ∙ length-drop at text

drop_nil : (n : ℕ) → drop n no_bytes ≡ no_bytes
drop_nil zero = refl
drop_nil (suc n) = refl

drop_both : (a b : ℕ) (bs : List ℕ) → drop b (drop a bs) ≡ drop (a + b) bs
drop_both zero b bs = let e : b ≡ zero + b = omega arith in ap (λ (k : ℕ). drop k bs) e
drop_both (suc a) b [] = drop_nil b ∙ sym (drop_nil (suc a + b))
drop_both (suc a) b (c ∷ bs) = let e : suc (a + b) ≡ suc a + b = omega arith in drop_both a b bs ∙ ap (λ (k : ℕ). drop k (c ∷ bs)) e

pub open_at : (line : ℕ) (s : SoFar) (text : List ℕ) (at n : ℕ) → at < length text → n ≡ line_run (rest_at text at) → n ≡ length (rest_at text at)
    → read_on line s (drop at text) ≡ Err line
open_at line s text at n more run len =
    open_line line s (drop at text) (omega (arith, more, length-drop at text)) (rw (rest_is text at) at (sym run ∙ len))

pub wrong_at : (line : ℕ) (s : SoFar) (text : List ℕ) (at n : ℕ) → n ≡ line_run (rest_at text at) → (n ≡ length (rest_at text at) → ⊥)
    → after_line s (take n (rest_at text at)) ≡ None → read_on line s (drop at text) ≡ Err line
wrong_at line s text at n run len none =
    wrong_line line s (drop at text) n (sym (run ∙ ap line_run (rest_is text at))) (λ e. len (e ∙ ap (λ (bs : List ℕ). length bs) (sym (rest_is text at))))
    (ap (λ (bs : List ℕ). after_line s (take n bs)) (sym (rest_is text at)) ∙ none)

pub right_at : (line : ℕ) (s next : SoFar) (text : List ℕ) (at n : ℕ) → n ≡ line_run (rest_at text at) → (n ≡ length (rest_at text at) → ⊥)
    → after_line s (take n (rest_at text at)) ≡ Some next → read_on (line + 1) next (drop (at + (n + 1)) text) ≡ read_on line s (drop at text)
right_at line s next text at n run len some =
    let one : n + 1 ≡ suc n = omega arith in
    let two : line + 1 ≡ suc line = omega arith in
    let run' : line_run (drop at text) ≡ n = sym (run ∙ ap line_run (rest_is text at)) in
    let front : after_line s (take n (drop at text)) ≡ Some next = ap (λ (bs : List ℕ). after_line s (take n bs)) (sym (rest_is text at)) ∙ some in
    ap (λ (bs : List ℕ). read_on (line + 1) next bs) (sym (drop_both at (n + 1) text))
    ∙ (ap (λ (k : ℕ). read_on (line + 1) next (drop k (drop at text))) one
    ∙ (ap (λ (k : ℕ). read_on k next (drop (suc n) (drop at text))) two
    ∙ sym (right_line line s next (drop at text) n run' (λ e. len (e ∙ ap (λ (bs : List ℕ). length bs) (sym (rest_is text at)))) front)))

-- the end of the text
none_left : (text : List ℕ) (at : ℕ) → length text ≤ at → drop at text ≡ []
none_left [] zero le = refl
none_left [] (suc at) le = refl
none_left (b ∷ bs) zero le = absurd (omega (arith, le))
none_left (b ∷ bs) (suc at) le = none_left bs at (omega (arith, le))

pub at_the_end : (line : ℕ) (s : SoFar) (text : List ℕ) (at : ℕ) → length text ≤ at → read_on line s (drop at text) ≡ whole_at s.stage s.version line s.trace
unfolding read_lines
at_the_end line s text at le = ap (λ (bs : List ℕ). read_on line s bs) (none_left text at le)

pub ends_whole : (line : ℕ) (version : Version) (t : Trace) (stage : Stage) → stage ≡ now.Ends → whole_at stage version line t ≡ told_in version t
ends_whole line version t stage e = rw e refl

pub ends_open : (line : ℕ) (version : Version) (t : Trace) (stage : Stage) → (stage ≡ now.Ends → ⊥) → whole_at stage version line t ≡ Err line
ends_open line version t now.Title n = refl
ends_open line version t now.Steps n = refl
ends_open line version t now.Files n = refl
ends_open line version t now.Entries n = refl
ends_open line version t now.Ends n = absurd (n refl)

-- what is told of the end of a text is told of the whole
pub told_on : (r : Result Trace TraceFault) (read whole : Result Trace ℕ) → whole ≡ read → Told r read → Told r whole
told_on r read whole e h = rw e h
