use Rattle.std.proofs.Common.{◌≡◌, ◌≢◌, codes, rules}
use Rattle.ac_words.specs.Words.{IsPlain}
use Rattle.ac_replay.proofs.Calls.{behind_first, behind_second, behind_third, first, no_call_of_three, second, third}
use Rattle.ac_replay.proofs.words.three.Goals as goal
use Rattle.ac_replay.proofs.words.three.Goals.{else-eq-via-then-eq+then-ne+else-ne-2, else-eq-via-then-eq+else-ne, else-eq-via-else-eq}
use Rattle.ac_replay.proofs.words.three.Goals.{else-is_plain-via-then-is_plain+then-eq-2+else-ne-3, else-is_plain-via-then-is_plain+else-eq-2, else-is_plain-via-else-is_plain}
use Rattle.ac_replay.proofs.words.three.Goals.{else-is_plain-2-via-then-is_plain-2+then-is_plain-3+else-eq-3, else-is_plain-2-via-then-is_plain-2+else-is_plain-3, else-is_plain-2-via-else-is_plain-2}

pub returns-then-ne-2-clause-some : goal.returns-then-ne-2-clause-some
returns-then-ne-2-clause-some c =
    let dash : c.args.first.now ≡ codes "--" = search rules in
    let other : c.args.second.now ≢ codes "-" = search rules in
    let last : c.args.third.now ≢ codes "-" = search rules in
    behind_first c.args.first.now c.args.second.now c.args.third.now dash other last

pub returns-then-ne-3-clause-some : goal.returns-then-ne-3-clause-some
returns-then-ne-3-clause-some c =
    let plain : IsPlain c.args.first.now = search rules in
    let dash : c.args.second.now ≡ codes "--" = search rules in
    let last : c.args.third.now ≢ codes "-" = search rules in
    behind_second c.args.first.now c.args.second.now c.args.third.now plain dash last

pub returns-then-eq-3-clause-some : goal.returns-then-eq-3-clause-some
returns-then-eq-3-clause-some c =
    let plain : IsPlain c.args.first.now = search rules in
    let other : IsPlain c.args.second.now = search rules in
    let dash : c.args.third.now ≡ codes "--" = search rules in
    behind_third c.args.first.now c.args.second.now c.args.third.now plain other dash

pub returns-clause-none : goal.returns-clause-none
returns-clause-none c = λ _. no_call_of_three c.args.first.now c.args.second.now c.args.third.now (λ way. elim way [
  | first dash other last ↦ elim c.else-eq.branch [
    | else-eq-via-then-eq+then-ne+else-ne-2 w ↦ let is : c.args.third.now ≡ codes "-" = search rules in last is
    | else-eq-via-then-eq+else-ne w ↦ let is : c.args.second.now ≡ codes "-" = search rules in other is
    | else-eq-via-else-eq w ↦ let no : c.args.first.now ≢ codes "--" = search rules in no dash
  ]
  | second plain dash last ↦ elim c.else-is_plain.branch [
    | else-is_plain-via-then-is_plain+then-eq-2+else-ne-3 w ↦ let is : c.args.third.now ≡ codes "-" = search rules in last is
    | else-is_plain-via-then-is_plain+else-eq-2 w ↦ let no : c.args.second.now ≢ codes "--" = search rules in no dash
    | else-is_plain-via-else-is_plain w ↦ let no : IsPlain c.args.first.now → ⊥ = search rules in no plain
  ]
  | third plain other dash ↦ elim c.else-is_plain-2.branch [
    | else-is_plain-2-via-then-is_plain-2+then-is_plain-3+else-eq-3 w ↦ let no : c.args.third.now ≢ codes "--" = search rules in no dash
    | else-is_plain-2-via-then-is_plain-2+else-is_plain-3 w ↦ let no : IsPlain c.args.second.now → ⊥ = search rules in no other
    | else-is_plain-2-via-else-is_plain-2 w ↦ let no : IsPlain c.args.first.now → ⊥ = search rules in no plain
  ]
])
