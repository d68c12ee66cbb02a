use Rattle.std.proofs.Common.{◌≡◌, ◌<◌, ◌+◌, get_or, length, arith}
use Rattle.std.specs.Char.{digit_value}
use Rattle.std.proofs.lemmas.Int.Digits.{digits_more}
use Rattle.std.proofs.lemmas.Str.{digit_value_digit}
use Rattle.std.proofs.lemmas.Str.Parse.{digit_from_value}
use Rattle.ac_words.proofs.Digits.{digit_at, value_small, value_more}
use Rattle.merge_program.proofs.words.read_within.Goals as goal
use Rattle.merge_program.proofs.words.read_within.Goals.{then-digit-lt48-via-then-digit-lt48, then-digit-lt48-via-else-digit-lt48+then-digit-gt57}

pub overflow_mul-value : goal.overflow_mul-value
overflow_mul-value c =
    let low = value_small c.args.word.now c.loop-digit.digit-index (omega arith) (omega arith) c.loop-digit.invariant.digits in
    omega (arith, low, c.loop-digit.invariant.value)

pub overflow_add-value : goal.overflow_add-value
overflow_add-value c =
    let low = value_small c.args.word.now c.loop-digit.digit-index (omega arith) (omega arith) c.loop-digit.invariant.digits in
    omega (arith, low, c.loop-digit.invariant.value, c.from.ensures)

pub loop-digit-preserved : goal.loop-digit-preserved
loop-digit-preserved c =
    let i = c.loop-digit.digit-index in
    let is : digit_value (get_or c.args.word.now c.loop-digit.digit-index 0) + 48
    ≡ get_or c.args.word.now c.loop-digit.digit-index 0 = digit_value_digit (get_or c.args.word.now i 0) (omega arith, omega arith) in
    let digit : c.from.result ≡ digit_value (get_or c.args.word.now c.loop-digit.digit-index 0) = omega (arith, is, c.from.ensures) in
    let low : digit_value (get_or c.args.word.now c.loop-digit.digit-index 0) < 10 = omega (arith, is) in
    let within : c.loop-digit.digit-index < length c.args.word.now = omega arith in
    record {
      value = value_more c.args.word.now i c.loop-digit.value c.from.result within c.loop-digit.invariant.value digit;
      digits = digits_more 10 c.args.word.now i within c.loop-digit.invariant.digits low;
    }

pub returns-then-digit-lt48-clause-none : goal.returns-then-digit-lt48-clause-none
returns-then-digit-lt48-clause-none c = λ _ number is_number least most.
    let within : c.loop-digit.digit-index < length c.args.word.now = omega arith in
    let range = digit_from_value (get_or c.args.word.now c.loop-digit.digit-index 0) (digit_at c.args.word.now c.loop-digit.digit-index within is_number.digits) in
    elim c.then-digit-lt48.branch [
      | then-digit-lt48-via-then-digit-lt48 w ↦ omega (arith, range.0, range.1)
      | then-digit-lt48-via-else-digit-lt48+then-digit-gt57 w ↦ omega (arith, range.0, range.1)
    ]
