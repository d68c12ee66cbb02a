use Rattle.std.proofs.Common.{None, refl, sym, ap, Err, ◌∙◌, subst, arith}
use Rattle.program_reading.specs.Lines.{disk_line, limit_file_line}
use Rattle.ac_program.specs.Making.{IsDueOfProgram}
use Rattle.ac_program.specs.Making.IsDueOfProgram.{disk_fault, long_file, made}
use Rattle.program_reading.specs.Source.{needed}
use Rattle.ac_program.specs.declared.outcome.Outcome.{Outcome}
use Rattle.ac_program.specs.inner.Parts.{GivesDone}
use Rattle.ac_program.proofs.Endings.{whole_of, part_of}
use Rattle.ac_program.proofs.Left.{long_left, made_faults, tells_well, tells_fault}
use Rattle.ac_program.proofs.Statuses.{made_status, not_made, not_made_one}
use Rattle.ac_program.proofs.answering.do_program.Goals as goal

pub returns-in-Err-NoMemory-clause-left : goal.returns-in-Err-NoMemory-clause-left
returns-in-Err-NoMemory-clause-left g c =
    let disk = g.D.Disk.told c.args.disk.now in
    let later = g.D.Disk.told c.make.new.disk in
    λ _. subst (λ fault. GivesDone c.args.task c.args.checked.now disk later (Err fault)) c.in-Err-NoMemory.field-0-is c.in-Err-NoMemory.ensures

pub returns-in-Err-NoMemory-clause-disk : goal.returns-in-Err-NoMemory-clause-disk
returns-in-Err-NoMemory-clause-disk g c =
    let disk = g.D.Disk.told c.args.disk.now in
    let later = g.D.Disk.told c.make.new.disk in
    tells_well disk later _ _ (λ e. omega (arith, e, ap (λ (o : Outcome). o.status.number) c.no_memory.ensures))
    (λ kept _. absurd (kept (ap (λ (o : Outcome). o.status.number) c.no_memory.ensures)))

pub returns-in-Err-Failed-clause-whole : goal.returns-in-Err-Failed-clause-whole
returns-in-Err-Failed-clause-whole g c =
    let disk = g.D.Disk.told c.args.disk.now in
    let later = g.D.Disk.told c.make.new.disk in
    let a = c.refuse in
    let r = c.in-Err-Failed in
    let h = subst (λ fault. GivesDone c.args.task c.args.checked.now disk later (Err fault)) r.field-0-is r.ensures in
    λ well kept. whole_of (IsDueOfProgram c.args.task c.args.checked.now disk later) 9 a.result.status.number disk_line None a.result.run _ _ (disk_fault refl refl refl h)
    a.ensures.run a.ensures.status a.ensures.whole well

pub returns-in-Err-Failed-clause-part : goal.returns-in-Err-Failed-clause-part
returns-in-Err-Failed-clause-part g c =
    let disk = g.D.Disk.told c.args.disk.now in
    let later = g.D.Disk.told c.make.new.disk in
    let a = c.refuse in
    let r = c.in-Err-Failed in
    let h = subst (λ fault. GivesDone c.args.task c.args.checked.now disk later (Err fault)) r.field-0-is r.ensures in
    part_of (IsDueOfProgram c.args.task c.args.checked.now disk later) 9 a.result.status.number disk_line None a.result.run _ _ (disk_fault refl refl refl h) a.ensures.run a.ensures.part

pub returns-in-Err-Failed-clause-disk : goal.returns-in-Err-Failed-clause-disk
returns-in-Err-Failed-clause-disk g c =
    let disk = g.D.Disk.told c.args.disk.now in
    let later = g.D.Disk.told c.make.new.disk in
    let r = c.in-Err-Failed in
    let h = subst (λ fault. GivesDone c.args.task c.args.checked.now disk later (Err fault)) r.field-0-is r.ensures in
    tells_fault disk later _ _ c.refuse.ensures.status h.cause.1

pub returns-in-Err-TooLong-clause-whole : goal.returns-in-Err-TooLong-clause-whole
returns-in-Err-TooLong-clause-whole g c =
    let disk = g.D.Disk.told c.args.disk.now in
    let later = g.D.Disk.told c.make.new.disk in
    let a = c.refuse_file in
    let r = c.in-Err-TooLong in
    let h = subst (λ fault. GivesDone c.args.task c.args.checked.now disk later (Err fault)) r.field-0-is r.ensures in
    λ well kept. whole_of (IsDueOfProgram c.args.task c.args.checked.now disk later) 10 a.result.status.number (limit_file_line r.file) None a.result.run _ _ (long_file r.file refl refl refl h)
    a.ensures.run (λ w. a.ensures.status w kept) (λ w. a.ensures.whole w kept) well

pub returns-in-Err-TooLong-clause-part : goal.returns-in-Err-TooLong-clause-part
returns-in-Err-TooLong-clause-part g c =
    let disk = g.D.Disk.told c.args.disk.now in
    let later = g.D.Disk.told c.make.new.disk in
    let a = c.refuse_file in
    let r = c.in-Err-TooLong in
    let h = subst (λ fault. GivesDone c.args.task c.args.checked.now disk later (Err fault)) r.field-0-is r.ensures in
    part_of (IsDueOfProgram c.args.task c.args.checked.now disk later) 10 a.result.status.number (limit_file_line r.file) None a.result.run _ _ (long_file r.file refl refl refl h)
    a.ensures.run a.ensures.part

pub returns-in-Err-TooLong-clause-left : goal.returns-in-Err-TooLong-clause-left
returns-in-Err-TooLong-clause-left g c =
    let disk = g.D.Disk.told c.args.disk.now in
    let later = g.D.Disk.told c.make.new.disk in
    let r = c.in-Err-TooLong in
    let h = subst (λ fault. GivesDone c.args.task c.args.checked.now disk later (Err fault)) r.field-0-is r.ensures in
    λ _. long_left (needed c.args.task c.args.checked.now) r.file disk later h

pub returns-in-Err-TooLong-clause-disk : goal.returns-in-Err-TooLong-clause-disk
returns-in-Err-TooLong-clause-disk g c =
    let disk = g.D.Disk.told c.args.disk.now in
    let later = g.D.Disk.told c.make.new.disk in
    let a = c.refuse_file in
    let r = c.in-Err-TooLong in
    let h = subst (λ fault. GivesDone c.args.task c.args.checked.now disk later (Err fault)) r.field-0-is r.ensures in
    tells_well disk later _ _ (λ is. let e = a.ensures.status (λ k. omega (arith, is, k)) (λ k. omega (arith, is, k)) in omega (arith, is, e)) (λ _ _. h.cause)

pub returns-in-Err-TooLong-clause-other : goal.returns-in-Err-TooLong-clause-other
returns-in-Err-TooLong-clause-other g c = let a = c.refuse_file in (
  (λ is. let e = a.ensures.status (λ k. omega (arith, is, k)) (λ k. omega (arith, is, k)) in omega (arith, is, e)),
  (λ is. let e = a.ensures.status (λ k. omega (arith, is, k)) (λ k. omega (arith, is, k)) in omega (arith, is, e)),
)

pub give-requires : goal.give-requires
give-requires g c =
    let disk = g.D.Disk.told c.args.disk.now in
    let later = g.D.Disk.told c.make.new.disk in
    λ e.
    not_made c.in-Ok.done.status.number 8 (made_status c.args.task c.args.checked.now disk later c.in-Ok.done.status.number c.in-Ok.done refl c.in-Ok.ensures) e (omega arith) (omega arith)

pub returns-in-Ok-clause-whole : goal.returns-in-Ok-clause-whole
returns-in-Ok-clause-whole g c =
    let disk = g.D.Disk.told c.args.disk.now in
    let later = g.D.Disk.told c.make.new.disk in
    λ well _. whole_of (IsDueOfProgram c.args.task c.args.checked.now disk later) c.in-Ok.done.status.number c.give.result.status.number c.in-Ok.done.text c.in-Ok.done.run c.give.result.run _ _
    (made c.in-Ok.done refl refl refl c.in-Ok.ensures) c.give.ensures.run c.give.ensures.status c.give.ensures.whole well

pub returns-in-Ok-clause-part : goal.returns-in-Ok-clause-part
returns-in-Ok-clause-part g c =
    let disk = g.D.Disk.told c.args.disk.now in
    let later = g.D.Disk.told c.make.new.disk in
    part_of (IsDueOfProgram c.args.task c.args.checked.now disk later) c.in-Ok.done.status.number c.give.result.status.number c.in-Ok.done.text c.in-Ok.done.run c.give.result.run _ _
    (made c.in-Ok.done refl refl refl c.in-Ok.ensures) c.give.ensures.run c.give.ensures.part

pub returns-in-Ok-clause-left : goal.returns-in-Ok-clause-left
returns-in-Ok-clause-left g c =
    let disk = g.D.Disk.told c.args.disk.now in
    let later = g.D.Disk.told c.make.new.disk in
    λ is.
    let same = c.give.ensures.status (λ e. omega (arith, is, e)) in
    absurd (not_made c.in-Ok.done.status.number 11 (made_status c.args.task c.args.checked.now disk later c.in-Ok.done.status.number c.in-Ok.done refl c.in-Ok.ensures) (sym same ∙ is) (omega arith)
    (omega arith))

pub returns-in-Ok-clause-memory : goal.returns-in-Ok-clause-memory
returns-in-Ok-clause-memory g c =
    let disk = g.D.Disk.told c.args.disk.now in
    let later = g.D.Disk.told c.make.new.disk in
    λ is.
    let same = c.give.ensures.status (λ e. omega (arith, is, e)) in
    absurd (not_made c.in-Ok.done.status.number 11 (made_status c.args.task c.args.checked.now disk later c.in-Ok.done.status.number c.in-Ok.done refl c.in-Ok.ensures) (sym same ∙ is) (omega arith)
    (omega arith))

pub returns-in-Ok-clause-no_run : goal.returns-in-Ok-clause-no_run
returns-in-Ok-clause-no_run g c =
    let disk = g.D.Disk.told c.args.disk.now in
    let later = g.D.Disk.told c.make.new.disk in
    λ is.
    let same = c.give.ensures.status (λ e. omega (arith, is, e)) in
    absurd (not_made c.in-Ok.done.status.number 11 (made_status c.args.task c.args.checked.now disk later c.in-Ok.done.status.number c.in-Ok.done refl c.in-Ok.ensures) (sym same ∙ is) (omega arith)
    (omega arith))

pub returns-in-Ok-clause-disk : goal.returns-in-Ok-clause-disk
returns-in-Ok-clause-disk g c =
    let disk = g.D.Disk.told c.args.disk.now in
    let later = g.D.Disk.told c.make.new.disk in
    let of_made = made_status c.args.task c.args.checked.now disk later c.in-Ok.done.status.number c.in-Ok.done refl c.in-Ok.ensures in
    tells_well disk later _ _ (λ is. not_made c.in-Ok.done.status.number 9 of_made (sym (c.give.ensures.status (λ e. omega (arith, is, e))) ∙ is) (omega arith) (omega arith))
    (λ _ none. made_faults c.args.task c.args.checked.now disk later c.in-Ok.done c.in-Ok.ensures (sym c.give.ensures.run ∙ none))

pub returns-in-Ok-clause-other : goal.returns-in-Ok-clause-other
returns-in-Ok-clause-other g c =
    let disk = g.D.Disk.told c.args.disk.now in
    let later = g.D.Disk.told c.make.new.disk in
    let of_made = made_status c.args.task c.args.checked.now disk later c.in-Ok.done.status.number c.in-Ok.done refl c.in-Ok.ensures in (
      (λ is. not_made_one c.in-Ok.done.status.number of_made (sym (c.give.ensures.status (λ e. omega (arith, is, e))) ∙ is)),
      (λ is. not_made c.in-Ok.done.status.number 7 of_made (sym (c.give.ensures.status (λ e. omega (arith, is, e))) ∙ is) (omega arith) (omega arith)),
    )
