use Rattle.std.proofs.Common.{sym, ap, ◌∙◌, ◌<◌, length, position, Some, arith}
use Rattle.std.specs.Prelude.{List, ℕ}
use Rattle.std.proofs.lemmas.Option.{slice_get-get_or}
use Rattle.ac_names.specs.Scopes.{Declaration, in_scope}
use Rattle.ac_names.proofs.Tables.{is_key, found_at, not_found}
use Rattle.ac_names.proofs.table.Table.find.Goals as goal

pub returns-in-None : goal.returns-in-None
returns-in-None c =
    let e = sym c.in-None.is ∙ c.get_index_of.ensures.index ∙ ap (λ (name : List ℕ). position (is_key name) c.self.inside.names.keys) c.as_slice.ensures in
    sym (not_found c.args.name.now c.self.inside.names.keys c.self.inside.meanings.items c.self.invariant (sym e)) ∙ ap (λ (ds : List Declaration). in_scope c.args.name.now ds) c.self.view_is

pub returns-in-Some : goal.returns-in-Some
returns-in-Some c =
    let e = sym c.in-Some.is ∙ c.get_index_of.ensures.index ∙ ap (λ (name : List ℕ). position (is_key name) c.self.inside.names.keys) c.as_slice.ensures in
    let f = found_at c.args.name.now c.self.inside.names.keys c.self.inside.meanings.items c.in-Some.index c.self.invariant (sym e) in
    let within : c.in-Some.index < length c.self.inside.meanings.items = omega (arith, c.in-Some.ensures.within, c.self.invariant) in
    ap Some c.index.ensures ∙ sym (slice_get-get_or c.self.inside.meanings.items c.in-Some.index c.index.result.now within) ∙ sym f
    ∙ ap (λ (ds : List Declaration). in_scope c.args.name.now ds) c.self.view_is
