use Rattle.std.proofs.Common.{◌<◌, arith, length}
use Rattle.completion_word.specs.Seats.{owner_of}
use Rattle.channel_ends.proofs.Hearing.{goes_further}
use Rattle.channel_ends.proofs.catching.catch_up.Goals as goal

pub loop-owner-preserved : goal.loop-owner-preserved
loop-owner-preserved c =
    let below : length (owner_of c.loop-owner.owner).learned < c.args.lead = omega (arith, c.loop-owner-test.true, c.learned.ensures) in (
      c.learn.ensures.seat,
      goes_further c.args.lead (owner_of c.args.owner.now) (owner_of c.loop-owner.owner) (owner_of c.learn.new.owner) c.learn.result (owner_of c.learn.new.owner).saw
          c.learn.ensures.view c.learn.ensures.found c.loop-owner.invariant.1 below (c.requires.known (length (owner_of c.loop-owner.owner).learned) below),
    )
