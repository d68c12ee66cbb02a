use Rattle.std.proofs.Common.{◌≡◌, ◌-◌, ◌<◌, length, false, sym, ap, ◌∙◌, arith}
use Rattle.birth_table.specs.Keys.{lives, slot_at}
use Rattle.birth_table.proofs.Rising.{entry_at, read}
use Rattle.birth_table.proofs.Going.{same_slot, trim_step}
use Rattle.birth_table.proofs.leaving.trim.Goals as goal

pub loop-low-preserved : goal.loop-low-preserved
loop-low-preserved c =
    let slots = c.args.slots.now in
    let low = c.loop-low.low in
    let lt : low - 1 < length slots = omega (arith, c.loop-low-test.true, c.loop-low.invariant.below, c.requires) in
    let gone : lives (slot_at slots (low - 1)) ≡ false = ap lives (same_slot slots (low - 1) (entry_at slots (low - 1)) (read slots (low - 1) lt)) ∙ sym c.if-not-lives.ensures in
    record {
      below = omega (arith, c.loop-low.invariant.below);
      keys = trim_step slots c.args.top low (omega (arith, c.loop-low-test.true)) (omega (arith, c.loop-low.invariant.below, c.requires)) c.loop-low.invariant.keys gone;
    }
