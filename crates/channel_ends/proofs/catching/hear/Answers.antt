use Rattle.std.proofs.Common.{◌≡◌, None}
use Rattle.completion_word.specs.declared.answers.Learnt.TheVariants as learnt
use Rattle.completion_word.specs.Seats.{owner_of}
use Rattle.channel_ends.specs.inner.Noted.{heard_at}
use Rattle.channel_ends.proofs.Hearing.{hears_load, heard_nothing}
use Rattle.channel_ends.proofs.catching.hear.Goals as goal

pub returns-in-Taken : goal.returns-in-Taken
returns-in-Taken c =
    let nothing : heard_at (owner_of c.args.owner.now) c.args.lead ≡ None =
    heard_nothing c.args.mark _ _ c.requires.unknown c.in_default.not-Seen c.requires.marked in
    record {
      seat = c.in-Taken.ensures.seat;
      view = hears_load c.args.lead (owner_of c.args.owner.now) (owner_of c.catch_up.new.owner) (owner_of c.learn.new.owner) c.catch_up.ensures.view c.requires.learned nothing
          c.in-Taken.ensures.saw (learnt.Taken c.in-Taken.stamp) c.in-Taken.ensures.view c.in-Taken.ensures.cause c.in-Taken.ensures.told;
    }

pub returns-in-Passed : goal.returns-in-Passed
returns-in-Passed c =
    let nothing : heard_at (owner_of c.args.owner.now) c.args.lead ≡ None =
    heard_nothing c.args.mark _ _ c.requires.unknown c.in_default.not-Seen c.requires.marked in
    record {
      seat = c.in-Passed.ensures.seat;
      view = hears_load c.args.lead (owner_of c.args.owner.now) (owner_of c.catch_up.new.owner) (owner_of c.learn.new.owner) c.catch_up.ensures.view c.requires.learned nothing
          c.in-Passed.ensures.saw (learnt.Passed c.in-Passed.stamp) c.in-Passed.ensures.view c.in-Passed.ensures.cause c.in-Passed.ensures.told;
    }
