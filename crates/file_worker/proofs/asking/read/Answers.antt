-- What was read is the answer.
use Rattle.std.proofs.Common.{rules, ◌≡◌, sym, ap, ◌∙◌, subst, length, take}
use Rattle.ac_base.specs.declared.entry.Answer.TheVariants.{Bytes}
use Rattle.ac_base.specs.declared.entry.Payload.TheVariants.{Read}
use Rattle.file_ops.specs.Asked.{Called}
use Rattle.file_ops.proofs.Reading.{called_read, written_whole}
use Rattle.file_worker.proofs.asking.read.Goals as goal

pub returns-in-Ok-clause-called : goal.returns-in-Ok-clause-called
returns-in-Ok-clause-called g c =
    let before = g.D.Disk.told c.args.disk.now in
    let after = g.D.Disk.told c.read_at.new.self in
    let room : length c.as_mut_slice.result.now ≡ c.args.len = search rules in
    let link = c.first_bytes.ensures.journal ∙ ap (λ xs. Bytes (take c.in-Ok.count xs))
    (written_whole c.read_at.new.into c.truncate.new.self.items c.truncate.new.self.len (c.read_at.auto.into ∙ c.as_mut_slice.ensures.len)) in
    subst (Called before after (Read c.args.file c.args.from c.args.len)) (sym link)
    (called_read before after c.read_at.ensures.none c.read_at.ensures.silent c.read_at.ensures.cause.later c.args.file c.args.from c.args.len c.read_at.ensures.same
    (length c.as_mut_slice.result.now) c.in-Ok.count c.read_at.new.into room (c.read_at.auto.into ∙ room) c.in-Ok.ensures.bytes c.in-Ok.ensures.cause.unchanged)
