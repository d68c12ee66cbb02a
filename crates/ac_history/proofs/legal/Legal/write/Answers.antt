use Rattle.std.proofs.Common.{ap, ◌∙◌}
use Rattle.ac_history.proofs.Putting.{put_written, put_unchanged}
use Rattle.ac_history.proofs.legal.Legal.write.Goals as goal

pub returns-clause-files : goal.returns-clause-files
returns-clause-files c =
    put_written c.step_and_write-taken.result c.self.inside.files c.take.new.self c.put.new.self c.args.self.now.files c.args.file c.args.from c.args.bytes.now
    c.into_vec-whole.result.items c.step_and_write-taken.new.file.items c.from_vec.result (ap (λ h. h.files) c.self.view_is)
    (c.into_vec-whole.ensures ∙ c.take.ensures.bytes) c.take.ensures.files c.put.ensures c.from_vec.ensures c.step_and_write-taken.ensures.file

pub returns-clause-err : goal.returns-clause-err
returns-clause-err c =
    put_unchanged c.step_and_write-taken.result c.self.inside.links c.step_and_write-taken.new.links c.self.inside.files c.take.new.self c.put.new.self c.args.self.now c.args.file
    c.into_vec-whole.result.items c.step_and_write-taken.new.file.items c.from_vec.result c.self.view_is
    (c.into_vec-whole.ensures ∙ c.take.ensures.bytes) c.take.ensures.files c.put.ensures c.from_vec.ensures c.step_and_write-taken.ensures.err
