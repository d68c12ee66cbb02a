use Rattle.std.proofs.Common.{ap, ◌∙◌}
use Rattle.std.specs.Prelude.{List}
use Rattle.ac_names.specs.Scopes.{Declaration}
use Rattle.ac_names.specs.Cut.{cut}
use Rattle.ac_names.proofs.Inners.{cut_last}
use Rattle.ac_names.proofs.scopes.Scopes.cut.Goals as goal

pub returns : goal.returns
returns c =
    cut_last c.self.inside.tables.items c.index_mut.result.now c.cut.new.self c.len-count.result c.args.len
    (c.len-count.ensures ∙ c.self.inside.tables.ok.0) c.if-count-eq0.false c.index_mut.ensures.value c.cut.ensures
    ∙ ap (λ (s : List (List Declaration)). cut c.args.len s) c.self.view_is
