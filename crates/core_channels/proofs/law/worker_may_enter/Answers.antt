use Rattle.core_channels.proofs.Entering.{did_enters, pass_enters}
use Rattle.core_channels.proofs.law.worker_may_enter.Goals as goal

pub returns-clause-did : goal.returns-clause-did
returns-clause-did c = λ terms ends j turn l v answer t h r. did_enters terms ends j turn v l t h answer r

pub returns-clause-pass : goal.returns-clause-pass
returns-clause-pass c = λ terms ends j turn l v t h. pass_enters terms ends j turn v l t h
