use Rattle.merge_run.proofs.Meeting.{met_receiver}
use Rattle.merge_run.proofs.party.settle_receiver.Goals as goal

pub returns : goal.returns
returns c =
    met_receiver c.args.relay.now c.settle_out.new.self c.args.consumer.now c.args.link c.settle_out.new.recv c.settle_out.ensures c.last-last.ensures.carries
