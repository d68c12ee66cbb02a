use Rattle.std.proofs.Common.{sym, ap, ◌∙◌, length}
use Rattle.std.specs.Prelude.{List}
use Rattle.ac_names.specs.Scopes.{Declaration}
use Rattle.ac_names.proofs.Tables.{as_long}
use Rattle.ac_names.proofs.table.Table.len.Goals as goal

pub returns : goal.returns
returns c =
    c.len.ensures ∙ c.self.inside.meanings.ok.0 ∙ sym (as_long c.self.inside.names.keys c.self.inside.meanings.items c.self.invariant)
    ∙ ap (λ (ds : List Declaration). length ds) c.self.view_is
