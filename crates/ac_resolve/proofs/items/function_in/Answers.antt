use Rattle.ac_names.proofs.Parameters.{params_room}
use Rattle.ac_resolve.proofs.Functions.{body_slots, function_after, function_is}
use Rattle.ac_resolve.proofs.items.function_in.Goals as goal

pub declare_params-requires : goal.declare_params-requires
declare_params-requires c = params_room c.args.function.now c.as_slice-2.result.now c.args.walk.now.names.slot c.as_slice-2.ensures c.requires.slot c.requires.small

pub resolve_body-requires-clause-slots : goal.resolve_body-requires-clause-slots
resolve_body-requires-clause-slots c =
    body_slots c.args.function.now c.args.walk.now c.declare_params.new.self c.open.new.self c.as_slice-2.result.now c.requires.labels c.requires.slot c.as_slice-2.ensures c.in_ok-open.ensures.ok
    c.in_ok-declare_params.ensures.ok
    c.as_slice-3.result.now c.as_slice-3.ensures c.requires.small

pub returns-clause-walk : goal.returns-clause-walk
returns-clause-walk c =
    function_after c.args.function.now c.args.walk.now c.declare_params.new.self c.open.new.self c.as_slice-2.result.now c.requires.labels c.requires.slot c.as_slice-2.ensures c.in_ok-open.ensures.ok
    c.in_ok-declare_params.ensures.ok
    c.resolve_body.new.walk c.as_slice-3.result.now c.as_slice-3.ensures c.in_ok-resolve_body.ensures.walk c.close.new.self c.close.ensures

pub returns-clause-function : goal.returns-clause-function
returns-clause-function c =
    function_is c.args.function.now c.args.walk.now c.declare_params.new.self c.open.new.self c.as_slice-2.result.now c.requires.labels c.requires.slot c.as_slice-2.ensures c.in_ok-open.ensures.ok
    c.in_ok-declare_params.ensures.ok
    c.resolve_body.new.walk c.as_slice-3.result.now c.as_slice-3.ensures c.in_ok-resolve_body.ensures.walk c.in_ok-name.name c.as_slice.result.now c.in_ok-params.params c.new-body.result
    c.resolve_body.new.out
    c.in_ok-name.ensures c.as_slice.ensures c.in_ok-params.ensures c.new-body.ensures c.in_ok-resolve_body.ensures.commands
