-- The next entry is counted where it is one of those.
use Rattle.std.proofs.Common.{◌≡◌, true, false, sym, ◌∙◌, arith}
use Rattle.ac_base.specs.Done.{is_done_on}
use Rattle.file_worker.proofs.DoneLists.{one_there, one_done, none_done}
use Rattle.file_worker.proofs.desk.count_done.Goals.{then-is_done_on, else-is_done_on}
use Rattle.file_worker.proofs.desk.count_done.Goals as goal

pub loop-place-preserved : goal.loop-place-preserved
loop-place-preserved c =
    let es = c.args.journal.now.entries in
    let n = c.loop-place.place in
    let there = one_there es n (let same = c.len-place-end.ensures.same in let low = c.loop-place-test.true in omega (arith, same, low)) in
    let was = c.loop-place.invariant in
    elim c.if-is_done_on.branch [
      | then-is_done_on w ↦
          let is : is_done_on c.args.link there.0.event ≡ true = sym (c.is_done_on.ensures there.0 there.1) ∙ w.if-is_done_on.true in
          let one = one_done c.args.link es n there.0 there.1 is in
          let more = w.done-is in
          (omega (arith, one, was.0, more), omega (arith, was.1, more))
      | else-is_done_on w ↦
          let is : is_done_on c.args.link there.0.event ≡ false = sym (c.is_done_on.ensures there.0 there.1) ∙ w.if-is_done_on.false in
          let none = none_done c.args.link es n there.0 there.1 is in
          let same = w.done-is in
          (omega (arith, none, was.0, same), omega (arith, was.1, same))
    ]
