use Rattle.std.proofs.Common.{sym, ap, ◌∙◌, refl, subst, IsSome}
use Rattle.std.specs.Prelude.{vec_capacity}
use Rattle.birth_table.specs.Births.{Births, with_left}
use Rattle.birth_table.proofs.Writing.{kept_left, seen_left, left_read}
use Rattle.birth_table.proofs.table.BirthTable.left_mut.Goals as goal

pub invariant_of-self-lent : goal.invariant_of-self-lent
invariant_of-self-lent g c w =
    let i = c.self.inside in
    let some = subst (λ (b : Births g.row.T.Denot). IsSome b.left) (sym c.self.view_is) c.requires in
    kept_left i.slots.items i.ends i.recent c.index.result.now (vec_capacity i.slots) i.entries i.births i.spare c.self.invariant some c.index.ensures w

pub returns : goal.returns
returns g c =
    let i = c.self.inside in
    let some = subst (λ (b : Births g.row.T.Denot). IsSome b.left) (sym c.self.view_is) c.requires in (
      (
        refl,
        λ w.
            seen_left i.slots.items i.ends i.recent c.index.result.now (vec_capacity i.slots) i.entries i.births i.spare c.self.invariant some c.index.ensures w
            ∙ ap (λ (b : Births g.row.T.Denot). with_left b w) c.self.view_is,
      ),
      record {
        writes_back = tt;
        value = ap (λ (b : Births g.row.T.Denot). b.left) (sym c.self.view_is)
            ∙ left_read i.slots.items i.ends i.recent c.index.result.now (vec_capacity i.slots) i.entries i.births i.spare c.self.invariant some c.index.ensures
            ∙ c.index_mut.ensures.value;
      },
    )
