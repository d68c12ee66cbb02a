use Rattle.std.proofs.Common.{ap, ◌∙◌, take}
use Rattle.std.specs.Prelude.{ℕ, List}
use Rattle.std.specs.Global.{Vec}
use Rattle.ac_names.specs.Scopes.{Declaration}
use Rattle.ac_names.specs.Table.{beside}
use Rattle.ac_names.proofs.Tables.{beside_cut}
use Rattle.ac_names.proofs.table.Table.cut.Goals as goal

pub returns : goal.returns
returns c =
    ap (λ (ks : List (Vec ℕ)). beside ks c.truncate-2.new.self.items) c.truncate.ensures.keys
    ∙ ap (beside (take c.args.len c.self.inside.names.keys)) c.truncate-2.ensures.items
    ∙ beside_cut c.args.len c.self.inside.names.keys c.self.inside.meanings.items c.self.invariant
    ∙ ap (λ (ds : List Declaration). take c.args.len ds) c.self.view_is
