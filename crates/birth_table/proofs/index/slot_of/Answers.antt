use Rattle.std.proofs.Common.{ℕ, ◌≡◌, Option, Some, sym, ap, ◌∙◌, subst}
use Rattle.std.specs.Prelude.{IfSome}
use Rattle.std.proofs.lemmas.Option.{get_or_from_slice_get}
use Rattle.birth_table.specs.declared.index.Slot.{Slot}
use Rattle.birth_table.specs.inner.Slots.{IsAt}
use Rattle.birth_table.proofs.Rising.{entry_at}
use Rattle.birth_table.proofs.Keys.{key_at_place}
use Rattle.birth_table.proofs.index.slot_of.Goals as goal

pub returns-clause-key : goal.returns-clause-key
returns-clause-key c =
    let slots = c.args.slots.now in
    let place = c.unwrap.result in
    let at : IsAt slots c.args.number place = subst (λ (o : Option ℕ). IfSome o (λ p. IsAt slots c.args.number p)) c.unwrap.ensures c.place_of.ensures.found in
    let is : entry_at slots place ≡ at.0 = get_or_from_slice_get slots place at.0 (record { number = 0; key = 0 }) at.1 in
    (key_at_place slots c.requires.rising.0 c.args.number place c.requires.rising.1 at c.requires.alive).1
    ∙ ap (λ (s : Slot). Some s.key) (sym is)
