use Rattle.ac_types.proofs.Functions.{function_after}
use Rattle.ac_names.proofs.Parameters.{params_room}
use Rattle.ac_types.proofs.Slots.{body_slots}
use Rattle.ac_types.proofs.items.see_function.Goals as goal

pub see_params-requires : goal.see_params-requires
see_params-requires c = params_room c.args.function.now c.as_slice.result.now c.args.walk.now.names.slot c.as_slice.ensures c.requires.slot c.requires.small

pub see_body-requires-clause-slots : goal.see_body-requires-clause-slots
see_body-requires-clause-slots c =
    body_slots c.args.function.now c.as_slice.result.now c.as_slice.ensures c.requires.small c.as_slice-2.result.now c.args.walk.now c.see_params.new.walk c.open.new.self c.requires.slot
    c.as_slice-2.ensures c.in_ok-see_params.ensures

pub returns : goal.returns
returns c =
    function_after c.args.tables.now c.args.function.now c.args.reached c.args.walk.now c.see_params.new.walk c.see_body.new.walk c.open.new.self c.close.new.self c.as_slice.result.now
    c.as_slice-2.result.now c.around_of-around.result
    c.requires.labels c.requires.slot c.as_slice.ensures c.as_slice-2.ensures c.around_of-around.ensures c.in_ok-open.ensures.ok c.in_ok-see_params.ensures c.in_ok-see_body.ensures c.close.ensures
