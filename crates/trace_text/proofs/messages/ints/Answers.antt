use Rattle.std.proofs.Common.{◌≡◌, ◌+◌, ◌-◌, ◌<◌, [], ◌∷◌, Err, length, length-append, rules, sym, ap, ◌∙◌, w64, to_z, of_z, SFits, arith}
use Rattle.std.proofs.lemmas.Int.{to_z-of_z}
use Rattle.trace_text.proofs.Ints.{first_read, next_read, no_more, faults_on}
use Rattle.trace_text.proofs.messages.ints.Goals as goal

pub ints-init : goal.ints-init
ints-init c =
    let v = c.in_ok-first.first in
    let fits : SFits w64 v = search rules in
    let one : length c.of-message.result ≡ 1 = ap length c.of-message.ensures in
    record {
      some = omega (arith, one);
      few = omega (arith, one, c.requires.0);
      same = first_read v (to_z w64 (of_z w64 v)) c.of-message.result c.args.count c.args.c.now.rest.now c.int.new.c.rest.now (to_z-of_z w64 v fits) c.of-message.ensures c.requires.0
          c.in_ok-first.ensures;
    }

pub returns-in_err-next : goal.returns-in_err-next
returns-in_err-next c =
    let fault : c.from_residual-in_err-next.result ≡ Err c.in_err-next.field-0.0 = search rules in
    faults_on _ c.from_residual-in_err-next.result c.in_err-next.field-0.0 c.ints.message c.args.count c.ints.c.rest.now c.args.c.now.rest.now fault
    (omega (arith, c.ints-test.true, c.from.ensures, c.len.ensures)) (λ e. rw e at c.in_err-next.ensures) c.ints.invariant.same

pub ints-preserved : goal.ints-preserved
ints-preserved c =
    let v = c.in_ok-next.next in
    let told = to_z w64 (of_z w64 v) in
    let fits : SFits w64 v = search rules in
    let less : length c.ints.message < c.args.count = omega (arith, c.ints-test.true, c.from.ensures, c.len.ensures) in
    let many : length c.push.new.self ≡ length c.ints.message + 1 = ap length c.push.ensures ∙ length-append c.ints.message (told ∷ []) in
    record {
      some = omega (arith, many);
      few = omega (arith, many, less);
      same = next_read c.ints.message c.push.new.self v told c.args.count c.ints.c.rest.now c.int-in-ints.new.c.rest.now (to_z-of_z w64 v fits) c.push.ensures less c.in_ok-next.ensures
          ∙ c.ints.invariant.same;
    }

pub returns : goal.returns
returns c =
    sym c.ints.invariant.same
    ∙ no_more c.ints.message (c.args.count - length c.ints.message) c.ints.c.rest.now (omega (arith, c.ints-test.false, c.from.ensures, c.len.ensures))
