use Rattle.std.proofs.Common.{ap, ◌∙◌}
use Rattle.std.specs.Prelude.{List}
use Rattle.std.proofs.lemmas.Result.{on_ok_weaker}
use Rattle.ac_names.specs.Scopes.{Declaration, declared}
use Rattle.ac_names.proofs.Inners.{declared_last}
use Rattle.ac_names.proofs.scopes.Scopes.declare.Goals as goal

pub returns-clause-ok : goal.returns-clause-ok
returns-clause-ok c =
    on_ok_weaker c.declare.result
    (λ e.
    declared_last c.self.inside.tables.items c.index_mut.result.now c.declare.new.self c.len-len.result c.args.name.now c.args.meaning
    (c.len-len.ensures ∙ c.self.inside.tables.ok.0) c.if-len-eq0.false c.index_mut.ensures.value e
    ∙ ap (λ (s : List (List Declaration)). declared c.args.name.now c.args.meaning s) c.self.view_is)
    c.declare.ensures.ok
