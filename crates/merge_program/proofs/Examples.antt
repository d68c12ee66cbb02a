-- The words of a call, its lines, and what is due of it: one message of each of two producers, by the cases of the definitions.
use Rattle.std.proofs.Common.{◌≡◌, ℕ, ℤ, pos, List, [], ◌∷◌, codes, Some, refl, arith, inl}
use Rattle.std.proofs.lemmas.Fmt.{decimal_digit}
use Rattle.ac_outside.specs.Told.{SinkTold}
use Rattle.ac_choice.specs.declared.answers.Tagged.{Tagged}
use Rattle.merge_run.proofs.Examples.{they_are_merged}
use Rattle.merge_program.specs.Words.{IsCount, IsCall, MayMerge}
use Rattle.merge_program.specs.Lines.{usage_line, sum_of, values, end_line, total_line, end_lines, merge_text}
use Rattle.merge_program.specs.Headline.{IsNoCall, IsDue, GaveUp, TellsUsage, usage, merge}

abbrev tag : ℕ → ℤ → Tagged
tag e x = record { end = e; value = x }

-- ---- words

pub one : IsCount (codes "1") 10000 1
one = record {
  number_is = record { some = omega arith; few = omega arith; digits = (omega arith, tt); first = λ e. omega (arith, e); value = refl };
  least = omega arith;
  within = omega arith;
}

pub two : IsCount (codes "2") 8 2
two = record {
  number_is = record { some = omega arith; few = omega arith; digits = (omega arith, tt); first = λ e. omega (arith, e); value = refl };
  least = omega arith;
  within = omega arith;
}

pub not_nine : IsCount (codes "9") 8 9 → ⊥
not_nine h = let l = h.within in omega (arith, l)

pub no_leading_nought : (n : ℕ) → IsCount (codes "02") 8 n → ⊥
no_leading_nought n h = h.number_is.first refl

pub one_of_each_of_two : IsCall (codes "1" ∷ codes "2" ∷ []) 1 2
one_of_each_of_two = record { first = codes "1"; second = codes "2"; two = refl; messages = one; producers = two }

pub no_words_are_no_call : IsNoCall []
no_words_are_no_call n w h = let e = h.two in cc

pub these_are_one : IsNoCall (codes "1" ∷ codes "2" ∷ []) → ⊥
these_are_one h = h 1 2 one_of_each_of_two

pub they_can_be_merged : MayMerge 1 2
they_can_be_merged = (omega arith, omega arith, omega arith)

pub none_cannot : MayMerge 1 0 → ⊥
none_cannot h = let l = h.1 in omega (arith, l)

-- ---- lines

pub the_usage : usage_line ≡ codes "usage: ac_merge N W\n"
the_usage = refl

pub a_sum : sum_of (pos 1 ∷ pos 3 ∷ pos 5 ∷ []) ≡ pos 9
a_sum = refl

abbrev pub both : List Tagged
both = tag 1 (pos 1) ∷ tag 0 (pos 0) ∷ []

pub all_values : values both ≡ pos 1 ∷ pos 0 ∷ []
all_values = refl

pub the_line_of_the_second : end_line 1 both ≡ codes "1: 1 messages, sum 1\n"
the_line_of_the_second = rw (decimal_digit 1 (omega arith)) refl

pub the_total : total_line both ≡ codes "total 1\n"
the_total = rw (decimal_digit 1 (omega arith)) refl

pub no_lines_of_none : end_lines 0 both ≡ []
no_lines_of_none = refl

pub the_text : merge_text 2 both ≡ codes "0: 1 messages, sum 0\n1: 1 messages, sum 1\ntotal 1\n"
the_text = rw (decimal_digit 0 (omega arith), decimal_digit 1 (omega arith)) refl

-- ---- what is due

pub a_merge_is_due : IsDue (codes "1" ∷ codes "2" ∷ []) both 0 (merge_text 2 both)
a_merge_is_due = merge 1 2 one_of_each_of_two refl they_are_merged refl

pub the_usage_is_due : IsDue [] [] 1 usage_line
the_usage_is_due = usage refl refl no_words_are_no_call refl

-- a call is not answered with the usage line
pub not_of_a_call : (text : List ℕ) → IsDue (codes "1" ∷ codes "2" ∷ []) [] 1 text → ⊥
not_of_a_call text (usage s t none r) = these_are_one none
not_of_a_call text (merge n w call s m t) = omega (arith, s)

abbrev silent : SinkTold
silent = record { held = Some []; faults = 0 }

pub it_gave_up : GaveUp (codes "1" ∷ codes "2" ∷ []) [] silent silent
it_gave_up = record { messages = 1; producers = 2; is_call = one_of_each_of_two; none = refl; nothing = refl }

pub no_words_give_up : GaveUp [] [] silent silent → ⊥
no_words_give_up h = no_words_are_no_call h.messages h.producers h.is_call

pub it_is_told : TellsUsage [] 1
it_is_told = record { told = λ s. no_words_are_no_call; only = λ n. inl refl }

pub not_of_this_call : TellsUsage (codes "1" ∷ codes "2" ∷ []) 1 → ⊥
not_of_this_call h = these_are_one (h.told refl)
