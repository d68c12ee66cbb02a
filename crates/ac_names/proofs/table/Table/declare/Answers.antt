use Rattle.std.proofs.Common.{◌∙◌}
use Rattle.ac_names.proofs.Tables.{was_new, put, left}
use Rattle.ac_names.proofs.table.Table.declare.Goals as goal

pub returns-then-is_new-clause-ok : goal.returns-then-is_new-clause-ok
returns-then-is_new-clause-ok c =
    put c.args.name.now c.into_vec-key.result c.self.inside.names.keys c.insert_full.new.self.keys c.self.inside.meanings.items c.args.self.now c.in_ok-is_new.is_new c.args.meaning
    c.reserve.new.self.items c.push_reserved.new.self.items c.self.view_is (c.into_vec-key.ensures ∙ c.in_ok-copy.ensures) c.self.invariant c.in_ok-is_new.ensures.added
    c.if-is_new.true c.in_ok-is_new.ensures.keys c.reserve.ensures.items c.push_reserved.ensures.items

pub returns-then-is_new-clause-new : goal.returns-then-is_new-clause-new
returns-then-is_new-clause-new c =
    was_new c.args.name.now c.into_vec-key.result c.self.inside.names.keys c.insert_full.new.self.keys c.self.inside.meanings.items c.args.self.now c.in_ok-is_new.is_new
    c.self.view_is (c.into_vec-key.ensures ∙ c.in_ok-copy.ensures) c.self.invariant c.in_ok-is_new.ensures.added

pub returns-else-is_new-clause-ok : goal.returns-else-is_new-clause-ok
returns-else-is_new-clause-ok c =
    left c.args.name.now c.into_vec-key.result c.self.inside.names.keys c.insert_full.new.self.keys c.self.inside.meanings.items c.args.self.now c.in_ok-is_new.is_new c.args.meaning
    c.reserve.new.self.items c.self.view_is (c.into_vec-key.ensures ∙ c.in_ok-copy.ensures) c.self.invariant c.in_ok-is_new.ensures.added
    c.if-is_new.false c.in_ok-is_new.ensures.keys c.reserve.ensures.items

pub returns-else-is_new-clause-new : goal.returns-else-is_new-clause-new
returns-else-is_new-clause-new c =
    was_new c.args.name.now c.into_vec-key.result c.self.inside.names.keys c.insert_full.new.self.keys c.self.inside.meanings.items c.args.self.now c.in_ok-is_new.is_new
    c.self.view_is (c.into_vec-key.ensures ∙ c.in_ok-copy.ensures) c.self.invariant c.in_ok-is_new.ensures.added
