use Rattle.merge_run.proofs.Meeting.{met_sender}
use Rattle.merge_run.proofs.party.settle_sender.Goals as goal

pub returns : goal.returns
returns c =
    met_sender c.args.producer.now c.args.relay.now c.settle_end.new.self c.args.link c.settle_end.new.send c.settle_end.ensures c.last-last.ensures.carries
