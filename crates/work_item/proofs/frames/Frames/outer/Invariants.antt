use Rattle.std.proofs.Common.{◌≡◌, ◌-◌}
use Rattle.work_item.specs.Store.{above}
use Rattle.work_item.specs.Conditions.{HasLevel}
use Rattle.work_item.proofs.frames.Frames.outer.Given as goal

abbrev pub invariant-loop : goal.invariant-loop
invariant-loop l =
    HasLevel l.self l.current (l.level - l.counter) × (above l.self l.current (l.level - l.counter) ≡ above l.self l.fn.frame l.level)
