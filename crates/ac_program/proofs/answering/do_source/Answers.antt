use Rattle.std.proofs.Common.{None, refl, subst}
use Rattle.program_reading.specs.Lines.{refusal_line, refusal_status}
use Rattle.program_reading.specs.Source.{Stops}
use Rattle.ac_program.specs.Making.{IsDueOf, IsDueOfProgram}
use Rattle.ac_program.specs.Making.IsDueOf.{refused, ready}
use Rattle.ac_program.specs.Headline.IsLeft.{of_program}
use Rattle.ac_program.proofs.Endings.{whole_of, part_of, whole_as, part_as}
use Rattle.program_reading.proofs.Paths.{few_paths, paths_are_texts, paths_differ}
use Rattle.ac_program.proofs.answering.do_source.Goals as goal

pub returns-in-Err-Refused-clause-whole : goal.returns-in-Err-Refused-clause-whole
returns-in-Err-Refused-clause-whole g c =
    let h = subst (Stops c.args.source.now c.args.task) c.in-Err-Refused.field-0-is c.in-Err-Refused.ensures in
    let x = c.in-Err-Refused.refusal in
    λ well kept. whole_of (IsDueOf c.args.source.now c.args.task _ _) (refusal_status x) c.refuse_source.result.status.number (refusal_line x) None c.refuse_source.result.run _ _
    (refused x refl refl refl h refl) c.refuse_source.ensures.run
    (λ w. rw c.in-Err-Refused.field-0-is at (c.refuse_source.ensures.status w kept)) (λ w. rw c.in-Err-Refused.field-0-is at (c.refuse_source.ensures.whole w kept)) well

pub returns-in-Err-Refused-clause-part : goal.returns-in-Err-Refused-clause-part
returns-in-Err-Refused-clause-part g c =
    let h = subst (Stops c.args.source.now c.args.task) c.in-Err-Refused.field-0-is c.in-Err-Refused.ensures in
    let x = c.in-Err-Refused.refusal in
    part_of (IsDueOf c.args.source.now c.args.task _ _) (refusal_status x) c.refuse_source.result.status.number (refusal_line x) None c.refuse_source.result.run _ _
    (refused x refl refl refl h refl) c.refuse_source.ensures.run (λ f. rw c.in-Err-Refused.field-0-is at (c.refuse_source.ensures.part f))

pub do_program-requires-clause-few : goal.do_program-requires-clause-few
do_program-requires-clause-few g c κs within = c.in-Ok.ensures.within

pub do_program-requires-clause-files : goal.do_program-requires-clause-files
do_program-requires-clause-files g c κs within = few_paths c.args.source.now c.in-Ok.checked c.in-Ok.ensures.is_accepted

pub do_program-requires-clause-texts : goal.do_program-requires-clause-texts
do_program-requires-clause-texts g c κs within = paths_are_texts c.args.source.now c.in-Ok.checked c.in-Ok.ensures.is_accepted

pub do_program-requires-clause-differ : goal.do_program-requires-clause-differ
do_program-requires-clause-differ g c κs within = paths_differ c.args.source.now c.in-Ok.checked c.in-Ok.ensures.is_accepted

pub returns-in-Ok-clause-whole : goal.returns-in-Ok-clause-whole
returns-in-Ok-clause-whole g c =
    λ well kept. whole_as (IsDueOfProgram c.args.task c.in-Ok.checked _ _) (IsDueOf c.args.source.now c.args.task _ _) (λ n t run due. ready c.in-Ok.checked c.in-Ok.ensures due)
    c.do_program.result.run _ _ c.do_program.result.status.number (c.do_program.ensures.whole well kept)

pub returns-in-Ok-clause-part : goal.returns-in-Ok-clause-part
returns-in-Ok-clause-part g c =
    λ failed. part_as (IsDueOfProgram c.args.task c.in-Ok.checked _ _) (IsDueOf c.args.source.now c.args.task _ _) (λ n t run due. ready c.in-Ok.checked c.in-Ok.ensures due)
    c.do_program.result.run _ _ (c.do_program.ensures.part failed)

pub returns-in-Ok-clause-left : goal.returns-in-Ok-clause-left
returns-in-Ok-clause-left g c = λ is. of_program c.args.source.now c.in-Ok.checked refl c.in-Ok.ensures (c.do_program.ensures.left is)
