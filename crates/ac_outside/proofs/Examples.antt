-- What the definitions of Texts, Told, Views and Causes say of small texts and counts. Each stands beside values of which it holds and
-- values of which it does not; what is computed is compared with the value that it has.
use Rattle.std.proofs.Common.{◌≡◌, refl, ap, ℕ, List, [], ◌∷◌, codes, length, replicate, slice_index, None, Some, true, false, arith}
use Rattle.std.specs.Prelude.{Ok, Err, slice_index_or}
use Rattle.std.specs.declared.result.Result.{Result}
use Rattle.ac_outside.specs.declared.shelf.NamedBytes.{NamedBytes}
use Rattle.ac_outside.specs.Texts.{text_of, rest_at, TakesFront, with_name}
use Rattle.ac_outside.specs.Told.{one_more, CountsOne, CountsAtMost, AddsName, AddsNames, LibraryTold, OpenedJust, OpenedNone, GrewBy, WriteTook}
use Rattle.ac_outside.specs.Views.{FailingTexts, SafeTexts, told_by_failing, told_by_safe, told_by_roomy, told_by_kept}
use Rattle.ac_outside.specs.Causes.{Rose, HasCause}

-- ---- texts

abbrev pub named : List ℕ → List ℕ → NamedBytes
named name bytes = record { name = name; bytes = bytes }

-- `a` stands twice
abbrev pub texts : List NamedBytes
texts = named (codes "ab") (codes "first") ∷ named (codes "a") (codes "second") ∷ named (codes "a") (codes "third") ∷ []

pub the_first_of_its_name : text_of texts (codes "a") ≡ Some (codes "second")
the_first_of_its_name = refl

pub a_longer_name : text_of texts (codes "ab") ≡ Some (codes "first")
a_longer_name = refl

pub no_such_name : text_of texts (codes "b") ≡ None
no_such_name = refl

pub from_its_third_byte : rest_at texts 1 2 ≡ codes "cond"
from_its_third_byte = refl

pub past_the_last_text : rest_at texts 3 0 ≡ []
past_the_last_text = refl

-- ---- reads

-- three bytes are left; into two go two of them, and into four all, and the fourth stays
pub as_much_as_fits : TakesFront (Some (codes "abc")) (Some (codes "c")) (codes "..") (codes "ab") 2
as_much_as_fits = record { count = refl; bytes = refl; after = refl }

pub as_much_as_is_left : TakesFront (Some (codes "abc")) (Some []) (codes "....") (codes "abc.") 3
as_much_as_is_left = record { count = refl; bytes = refl; after = refl }

same_some : {n m : ℕ} → Some n ≡ Some m → n ≡ m
same_some e = cc

pub less_than_fits : TakesFront (Some (codes "abc")) (Some (codes "bc")) (codes "..") (codes "a.") 1 → ⊥
less_than_fits t = let e : 1 ≡ 2 = same_some t.count in omega (arith, e)

pub nothing_from_what_is_not_open : TakesFront None None (codes "..") (codes "..") 0 → ⊥
nothing_from_what_is_not_open t = let e = t.count in cc

-- ---- counts

pub one_more_than_three : one_more 3 ≡ 4
one_more_than_three = refl

pub the_last_count_stays : one_more 18446744073709551615 ≡ 18446744073709551615
the_last_count_stays = refl

pub a_count_that_is_told : CountsOne (Some 3) (Some 4)
a_count_that_is_told = refl

pub a_count_that_stays : CountsOne (Some 3) (Some 3) → ⊥
a_count_that_stays e = omega (arith, e)

pub a_count_that_is_not_told : CountsOne None None
a_count_that_is_not_told = tt

pub a_count_that_is_no_longer_told : CountsOne (Some 3) None → ⊥
a_count_that_is_no_longer_told h = h

pub a_count_that_is_told_late : CountsOne None (Some 1) → ⊥
a_count_that_is_told_late h = h

pub two_more_at_most : CountsAtMost (Some 3) (Some 5) 2
two_more_at_most = omega arith

pub three_more_are_too_many : CountsAtMost (Some 3) (Some 6) 2 → ⊥
three_more_are_too_many h = omega (arith, h)

pub no_count_is_told : CountsAtMost None None 0
no_count_is_told = tt

pub the_count_is_no_longer_told : CountsAtMost (Some 3) None 2 → ⊥
the_count_is_no_longer_told h = h

-- ---- names

pub a_name_more : AddsName (Some (codes "a" ∷ [])) (Some (codes "a" ∷ codes "b" ∷ [])) (codes "b")
a_name_more = refl

pub another_name : AddsName (Some []) (Some (codes "" ∷ [])) (codes "b") → ⊥
another_name e = cc

pub a_name_that_is_no_longer_told : AddsName (Some []) None (codes "b")
a_name_that_is_no_longer_told = tt

pub a_name_that_is_told_late : AddsName None (Some (codes "b" ∷ [])) (codes "b") → ⊥
a_name_that_is_told_late h = h

pub two_names_more : AddsNames (Some (codes "a" ∷ [])) (Some (codes "a" ∷ codes "b" ∷ codes "c" ∷ [])) (codes "b" ∷ codes "c" ∷ [])
two_names_more = refl

same_names : {a b : List (List ℕ)} → a ≡ b → length a ≡ length b
same_names {a} {b} e = cc

pub one_of_them_alone : AddsNames (Some []) (Some (codes "b" ∷ [])) (codes "b" ∷ codes "c" ∷ []) → ⊥
one_of_them_alone e = let n : 1 ≡ 2 = same_names e in omega (arith, n)

abbrev first_byte : List (List ℕ) → ℕ
first_byte names = slice_index (slice_index_or names 0 []) 0

pub not_in_another_order : AddsNames (Some []) (Some (codes "c" ∷ codes "b" ∷ [])) (codes "b" ∷ codes "c" ∷ []) → ⊥
not_in_another_order e = let n : 99 ≡ 98 = ap first_byte e in omega (arith, n)

pub they_are_told_late : AddsNames None (Some []) [] → ⊥
they_are_told_late h = h

pub a_name_goes_in : with_name (Some (codes "a" ∷ [])) (codes "b") ≡ Some (codes "a" ∷ codes "b" ∷ [])
a_name_goes_in = refl

pub a_seventeenth_does_not : with_name (Some (replicate 16 (codes "a"))) (codes "b") ≡ None
a_seventeenth_does_not = refl

pub one_of_4097_bytes_does_not : with_name (Some []) (replicate 4097 97) ≡ None
one_of_4097_bytes_does_not = refl

pub and_none_after_it : with_name None (codes "b") ≡ None
and_none_after_it = refl

-- a library that was asked for so many names and no other texts
abbrev pub asked_for : ℕ → List (List ℕ) → LibraryTold
asked_for opens names =
    record { text_at = λ name. None; is_open = false; left = None; opens = Some opens; reads = Some 0; names = Some names; faults = 0 }

pub just_b_was_opened : OpenedJust (asked_for 0 []) (asked_for 1 (codes "b" ∷ [])) (codes "b")
just_b_was_opened = record { once = refl; named = refl }

pub b_and_another_were_opened : OpenedJust (asked_for 0 []) (asked_for 2 (codes "" ∷ codes "b" ∷ [])) (codes "b") → ⊥
b_and_another_were_opened h = let e : 2 ≡ 1 = h.once in omega (arith, e)

pub nothing_was_opened : OpenedNone (asked_for 0 []) (asked_for 0 [])
nothing_was_opened = record { opens = refl; names = refl }

pub something_was_opened : OpenedNone (asked_for 0 []) (asked_for 1 (codes "b" ∷ [])) → ⊥
something_was_opened h = let e = h.names in cc

-- the second call of three failed, an open; of the text that the third call read two bytes are left
abbrev pub once_failed : FailingTexts
once_failed = record { texts = texts; left = Some (codes "st"); fails = 1 ∷ []; calls = 3; opens = 2; reads = 1; names = Some (codes "ab" ∷ codes "b" ∷ []); faults = 1 }

pub it_tells_what_it_holds :
    told_by_failing once_failed ≡ record { text_at = text_of texts; is_open = true; left = Some (codes "st"); opens = Some 2; reads = Some 1; names = Some (codes "ab" ∷ codes "b" ∷ []); faults = 1 }
it_tells_what_it_holds = refl

pub a_text_that_it_does_not_hold : (told_by_failing once_failed).text_at (codes "b") ≡ None
a_text_that_it_does_not_hold = refl

pub none_is_open : (told_by_failing (record once_failed { left = None })).is_open ≡ false
none_is_open = refl

-- one that does not fail holds every other name too, with the empty text
abbrev pub never_fails : SafeTexts
never_fails = record { texts = texts; left = None; opens = 1; reads = 2; names = None }

pub it_counts_its_calls : (told_by_safe never_fails).opens ≡ Some 1
it_counts_its_calls = refl

pub and_its_reads : (told_by_safe never_fails).reads ≡ Some 2
and_its_reads = refl

pub a_text_that_it_holds : (told_by_safe never_fails).text_at (codes "a") ≡ Some (codes "second")
a_text_that_it_holds = refl

pub any_other_is_empty : (told_by_safe never_fails).text_at (codes "b") ≡ Some []
any_other_is_empty = refl

-- ---- writes

pub a_sink_with_room_tells_its_bytes : told_by_roomy (record { taken = codes "ab"; room = 9; faults = 1 }) ≡ record { held = Some (codes "ab"); faults = 1 }
a_sink_with_room_tells_its_bytes = refl

pub one_that_keeps_a_front_tells_it : told_by_kept (record { taken = codes "ab"; is_over = false }) ≡ record { held = Some (codes "ab"); faults = 0 }
one_that_keeps_a_front_tells_it = refl

pub but_not_where_it_was_given_more : told_by_kept (record { taken = codes "ab"; is_over = true }) ≡ record { held = None; faults = 0 }
but_not_where_it_was_given_more = refl

abbrev pub wrote : ℕ → Result ℕ ℕ
wrote n = Ok n

abbrev pub failed : Result ℕ ℕ
failed = Err 0

pub it_grew : GrewBy (Some (codes "ab")) (Some (codes "abc")) (codes "c")
it_grew = refl

same_bytes : {a b : List ℕ} → a ≡ b → length a ≡ length b
same_bytes {a} {b} e = cc

pub it_did_not_grow : GrewBy (Some (codes "ab")) (Some (codes "ab")) (codes "c") → ⊥
it_did_not_grow e = let n : 2 ≡ 3 = same_bytes e in omega (arith, n)

pub what_is_not_told_may_have_grown : GrewBy None None (codes "c")
what_is_not_told_may_have_grown = tt

pub what_was_not_told_is_not_told_then : GrewBy None (Some (codes "c")) (codes "c") → ⊥
what_was_not_told_is_not_told_then h = h

pub a_front_is_taken : WriteTook (Some (codes "a")) (Some (codes "abc")) (wrote 2) (codes "bcd")
a_front_is_taken = refl

pub not_the_whole : WriteTook (Some (codes "a")) (Some (codes "abcd")) (wrote 2) (codes "bcd") → ⊥
not_the_whole e = let n : 4 ≡ 3 = same_bytes e in omega (arith, n)

pub nothing_is_taken : WriteTook (Some (codes "a")) (Some (codes "a")) failed (codes "bcd")
nothing_is_taken = refl

pub a_failed_write_takes_nothing : WriteTook (Some (codes "a")) (Some (codes "ab")) failed (codes "bcd") → ⊥
a_failed_write_takes_nothing e = let n : 2 ≡ 1 = same_bytes e in omega (arith, n)

-- ---- causes

pub it_rose : Rose 3 4
it_rose = omega arith

pub it_may_have_risen_twice : Rose 3 5
it_may_have_risen_twice = omega arith

pub it_did_not_rise : Rose 3 3 → ⊥
it_did_not_rise h = omega (arith, h)

pub the_last_count_rose : Rose 18446744073709551615 18446744073709551615
the_last_count_rose = omega arith

pub a_failure_has_a_cause : HasCause 3 4 failed
a_failure_has_a_cause = record { later = omega arith; failed = omega arith; unchanged = tt }

pub no_failure_without_one : HasCause 3 3 failed → ⊥
no_failure_without_one h = let r = h.failed in omega (arith, r)

pub a_call_that_does_not_fail : HasCause 3 3 (wrote 2)
a_call_that_does_not_fail = record { later = omega arith; failed = tt; unchanged = refl }

pub has_no_cause : HasCause 3 4 (wrote 2) → ⊥
has_no_cause h = let e = h.unchanged in omega (arith, e)
