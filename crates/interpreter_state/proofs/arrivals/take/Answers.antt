use Rattle.std.proofs.Common.{sym, ◌∙◌}
use Rattle.interpreter_state.proofs.Finding.{none_found, found_at, without_at}
use Rattle.interpreter_state.specs.inner.Sought.{is_sought}
use Rattle.interpreter_state.proofs.arrivals.take.Goals as goal

pub returns-in-None : goal.returns-in-None
returns-in-None c = none_found (is_sought c.args.sought) c.args.operations.now.items c.as_slice.result.now c.in-None.ensures c.as_slice.ensures.value

pub returns-in-Some : goal.returns-in-Some
returns-in-Some c =
    let test = is_sought c.args.sought in
    let os = c.args.operations.now.items in
    let o = c.remove.result in
    let i = c.in-Some.index in (
      found_at test os c.as_slice.result.now i o c.in-Some.ensures c.as_slice.ensures.value c.remove.ensures.value,
      c.remove.ensures.items ∙ sym (without_at test os c.as_slice.result.now i o c.in-Some.ensures c.as_slice.ensures.value),
    )
