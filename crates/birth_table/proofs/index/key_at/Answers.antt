use Rattle.std.proofs.Common.{◌≡◌, None, Some, ℕ, sym, ap, ◌∙◌, if◌then◌else◌, true, false, List}
use Rattle.std.proofs.lemmas.Option.{get_or_from_slice_get}
use Rattle.birth_table.specs.declared.index.Slot.{Slot}
use Rattle.birth_table.specs.Keys.{lives, key_of, Rises}
use Rattle.birth_table.specs.inner.Slots.{IsAt}
use Rattle.birth_table.proofs.Rising.{entry_at, key_there}
use Rattle.birth_table.proofs.index.key_at.Goals as goal

told : (slots : List Slot) (high number place : ℕ) → Rises 0 slots high → IsAt slots number place
    → key_of slots number ≡ (if lives (entry_at slots place) then Some (entry_at slots place).key else None)
told slots high number place r at =
    let is : entry_at slots place ≡ at.0 = get_or_from_slice_get slots place at.0 (record { number = 0; key = 0 }) at.1 in
    key_there 0 slots high r place number at.0 at.1 at.2 ∙ sym (ap (λ (u : Slot). if lives u then Some u.key else None) is)

pub returns-then-lives : goal.returns-then-lives
returns-then-lives c =
    let slots = c.args.slots.now in
    let live : lives (entry_at slots c.in_ok-place.place) ≡ true = sym c.if-lives.ensures in
    sym (told slots c.requires.0 c.args.number c.in_ok-place.place c.requires.1 c.in_ok-place.ensures.found
    ∙ ap (λ b. if b then Some (entry_at slots c.in_ok-place.place).key else None) live)

pub returns-else-lives : goal.returns-else-lives
returns-else-lives c =
    let slots = c.args.slots.now in
    let gone : lives (entry_at slots c.in_ok-place.place) ≡ false = sym c.if-lives.ensures in
    sym (told slots c.requires.0 c.args.number c.in_ok-place.place c.requires.1 c.in_ok-place.ensures.found
    ∙ ap (λ b. if b then Some (entry_at slots c.in_ok-place.place).key else None) gone)
