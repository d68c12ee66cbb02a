-- What two producers send, and what is a merge of it: both whole, in whatever order they are mixed; and no message of a third.
use Rattle.std.proofs.Common.{◌≡◌, ◌∙◌, ◌++◌, ℕ, ℤ, zero, suc, [], ◌∷◌, refl, sym, ap, arith, pos}
use Rattle.ac_choice.specs.declared.answers.Tagged.{Tagged}
use Rattle.ac_choice.specs.Relaying.{of_end}
use Rattle.ac_choice.proofs.Lists.{of_more, of_other}
use Rattle.merge_run.specs.Series.{series, sent_by, IsMerged}
use Rattle.merge_run.proofs.Whole.{none_is_sent}

abbrev tag : ℕ → ℤ → Tagged
tag e x = record { end = e; value = x }

pub the_second_sends_the_odd_ones : series 3 2 1 ≡ pos 1 ∷ pos 3 ∷ pos 5 ∷ []
the_second_sends_the_odd_ones = refl

pub in_this_order : series 2 2 1 ≡ pos 3 ∷ pos 1 ∷ [] → ⊥
in_this_order e = cc

pub so_does_the_second_of_two : sent_by 3 2 1 ≡ pos 1 ∷ pos 3 ∷ pos 5 ∷ []
so_does_the_second_of_two = refl

pub there_is_no_third : sent_by 3 2 2 ≡ []
there_is_no_third = refl

-- the second one's message came first
pub they_are_merged : IsMerged 1 2 (tag 1 (pos 1) ∷ tag 0 (pos 0) ∷ [])
they_are_merged zero = refl
they_are_merged (suc zero) = refl
they_are_merged (suc (suc i)) =
    of_more (suc (suc i)) (tag 1 (pos 1) ∷ []) (tag 0 (pos 0))
    ∙ ap (λ xs. xs ++ of_end (suc (suc i)) (tag 0 (pos 0) ∷ [])) (of_other (suc (suc i)) (tag 1 (pos 1)) (λ e. omega (arith, e)))
    ∙ of_other (suc (suc i)) (tag 0 (pos 0)) (λ e. omega (arith, e)) ∙ sym (none_is_sent 1 2 (suc (suc i)) (omega arith))

pub not_without_the_second : IsMerged 1 2 (tag 0 (pos 0) ∷ []) → ⊥
not_without_the_second h = let e = h 1 in cc

pub not_twice : IsMerged 1 1 (tag 0 (pos 0) ∷ tag 0 (pos 0) ∷ []) → ⊥
not_twice h = let e = h 0 in cc

pub nor_with_another : IsMerged 1 1 (tag 0 (pos 0) ∷ tag 1 (pos 1) ∷ []) → ⊥
nor_with_another h = let e = h 1 in cc
