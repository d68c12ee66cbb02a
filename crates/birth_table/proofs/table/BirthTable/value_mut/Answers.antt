use Rattle.std.proofs.Common.{◌≡◌, sym, ap, ◌∙◌, List, Some, IsSome, subst, refl, take}
use Rattle.std.specs.Prelude.{vec_capacity}
use Rattle.birth_table.specs.Births.{Births, item_at, with_value}
use Rattle.birth_table.specs.declared.index.Slot.{Slot}
use Rattle.birth_table.specs.Keys.{key_of, Tells}
use Rattle.birth_table.specs.Kept.{in_slab}
use Rattle.birth_table.proofs.Steps.{item_is, taken}
use Rattle.birth_table.proofs.Standing.{kept_looked}
use Rattle.birth_table.proofs.Writing.{kept_value, seen_value}
use Rattle.birth_table.proofs.Ending.{has_life}
use Rattle.birth_table.proofs.table.BirthTable.value_mut.Goals as goal

pub look-requires-clause-alive : goal.look-requires-clause-alive
look-requires-clause-alive g c =
    let i = c.self.inside in
    subst (λ (xs : List Slot). IsSome (key_of (take i.ends.top xs) c.args.number)) (sym c.deref.ensures.value)
    (has_life i.slots.items i.ends i.recent (vec_capacity i.slots) i.entries i.births i.spare c.args.number c.self.invariant c.args.self.now c.self.view_is c.requires).0

pub index_mut-requires : goal.index_mut-requires
index_mut-requires g c =
    let i = c.self.inside in
    let is : key_of (take i.ends.top i.slots.items) c.args.number ≡ Some c.look.new.recent.key =
    subst (λ (xs : List Slot). key_of (take i.ends.top xs) c.args.number ≡ Some c.look.new.recent.key) c.deref.ensures.value c.look.ensures.key in
    (taken i.slots.items i.entries i.ends.top c.args.number c.look.new.recent.key c.self.invariant.keys is).1

pub invariant_of-self-lent : goal.invariant_of-self-lent
invariant_of-self-lent g c w =
    let i = c.self.inside in
    let is : key_of (take i.ends.top i.slots.items) c.args.number ≡ Some c.look.new.recent.key =
    subst (λ (xs : List Slot). key_of (take i.ends.top xs) c.args.number ≡ Some c.look.new.recent.key) c.deref.ensures.value c.look.ensures.key in
    let tells : Tells (take i.ends.top i.slots.items) c.look.new.recent =
    subst (λ (xs : List Slot). Tells (take i.ends.top xs) c.look.new.recent) c.deref.ensures.value c.look.ensures.seen in
    kept_value i.slots.items i.ends c.look.new.recent (vec_capacity i.slots) i.entries i.births i.spare c.args.number c.look.new.recent.key
    (kept_looked i.slots.items i.ends i.recent c.look.new.recent (vec_capacity i.slots) i.entries i.births i.spare c.self.invariant tells) is w

pub returns : goal.returns
returns g c =
    let i = c.self.inside in
    let xs = take i.ends.top i.slots.items in
    let is : key_of (take i.ends.top i.slots.items) c.args.number ≡ Some c.look.new.recent.key =
    subst (λ (xs : List Slot). key_of (take i.ends.top xs) c.args.number ≡ Some c.look.new.recent.key) c.deref.ensures.value c.look.ensures.key in
    let given = (has_life i.slots.items i.ends i.recent (vec_capacity i.slots) i.entries i.births i.spare c.args.number c.self.invariant c.args.self.now c.self.view_is c.requires).1 in
    let value : item_at c.args.self.now c.args.number ≡ Some c.index_mut.result.now =
    ap (λ (b : Births g.row.T.Denot). item_at b c.args.number) (sym c.self.view_is)
    ∙ item_is xs i.entries i.births c.args.number c.self.invariant.rise ∙ ap (in_slab i.entries) is ∙ c.index_mut.ensures.value in (
      (
        refl,
        λ w.
            seen_value i.slots.items i.ends i.recent (vec_capacity i.slots) i.entries i.births i.spare c.args.number c.look.new.recent.key c.self.invariant is w given
            ∙ ap (λ (b : Births g.row.T.Denot). with_value b c.args.number w) c.self.view_is,
      ),
      record { writes_back = tt; value = value },
    )
