use Rattle.std.proofs.Common.{List, ℕ, refl, sym, subst}
use Rattle.order_words.specs.Words.{IsNumber}
use Rattle.order_words.proofs.Joining.{just_one, none_joined, none_first, first_and_others}
use Rattle.order_words.proofs.numbers.first_of.Goals as goal

pub returns-in_err-number-in-None-clause-none : goal.returns-in_err-number-in-None-clause-none
returns-in_err-number-in-None-clause-none c = λ _. none_joined c.args.text.now c.in-None.ensures.cases
    (λ number h. c.in_err-number-in-None.ensures.none refl number (subst (λ (bs : List ℕ). IsNumber bs number) (sym c.as_bytes.ensures.value) h))

pub returns-in_err-number-in-Some-clause-none : goal.returns-in_err-number-in-Some-clause-none
returns-in_err-number-in-Some-clause-none c = λ _. none_first c.args.text.now c.in-Some.word c.in-Some.others c.in-Some.ensures.cases
    (λ number h. c.in_err-number-in-Some.ensures.none refl number (subst (λ (bs : List ℕ). IsNumber bs number) (sym c.as_bytes-in-Some.ensures.value) h))

pub returns-in_ok-number-in-None-clause-some : goal.returns-in_ok-number-in-None-clause-some
returns-in_ok-number-in-None-clause-some c = let n = c.in_ok-number-in-None.number in
    just_one c.args.text.now n (subst (λ (bs : List ℕ). IsNumber bs n) c.as_bytes.ensures.value c.in_ok-number-in-None.ensures.some)

pub returns-in_ok-number-in-Some-clause-some : goal.returns-in_ok-number-in-Some-clause-some
returns-in_ok-number-in-Some-clause-some c = let n = c.in_ok-number-in-Some.number in
    first_and_others c.args.text.now c.in-Some.word c.in-Some.others c.in-Some.ensures.cases n
    (subst (λ (bs : List ℕ). IsNumber bs n) c.as_bytes-in-Some.ensures.value c.in_ok-number-in-Some.ensures.some)
