-- What is dealt over these words is a run as it begins; what its parties have made is a run of the program, and their disk is left as it says.
use Rattle.std.proofs.Common.{◌≡◌, ◌∙◌, ap, sym, subst, List, length, arith}
use Rattle.std.specs.Prelude.{IfSome, IsTrue}
use Rattle.ac_outside.specs.Disks.{DiskTold}
use Rattle.stack_code.specs.declared.parts.ChannelEnds.{ChannelEnds}
use Rattle.program_run.specs.DiskLeft.{LeavesDisk}
use Rattle.file_ops.specs.Asked.{texts}
use Rattle.core_runner.proofs.Dealing.{dealt_over, begins}
use Rattle.core_runner.proofs.LastParty.{where_ok}
use Rattle.core_runner.proofs.NewParties.{all_new, all_ways, few_parties, all_paired, all_ready}
use Rattle.core_runner.proofs.Whole.{is_a_run, disk_is_left}
use Rattle.core_runner.proofs.running.run_over.Goals as goal

pub cores_of-requires-clause-ends : goal.cores_of-requires-clause-ends
cores_of-requires-clause-ends g c = (dealt_over c.args.code.now c.instrs-instrs.ensures.valid.lists.links c.args.words.now c.args.seats c.requires.unused c.requires.channels c.ends.result.now
    c.as_slice.result.now
    c.in_ok-ports.field-0.ports.items c.in_ok-ports.field-0.asks.items c.in_ok-ports.field-0.replies.items c.ends.ensures (c.as_slice.ensures ∙ c.capacities.ensures) c.in_ok-ports.ensures).each

pub new-worker-requires-clause-links : goal.new-worker-requires-clause-links
new-worker-requires-clause-links g c =
    let n = (dealt_over c.args.code.now c.instrs-instrs.ensures.valid.lists.links c.args.words.now c.args.seats c.requires.unused c.requires.channels c.ends.result.now c.as_slice.result.now
    c.in_ok-ports.field-0.ports.items c.in_ok-ports.field-0.asks.items c.in_ok-ports.field-0.replies.items c.ends.ensures (c.as_slice.ensures
    ∙ c.capacities.ensures) c.in_ok-ports.ensures).asks_count in
    let well = c.instrs-instrs.ensures.valid.lists.links in
    let m = ap (λ (x : List ChannelEnds). length x) c.ends-3.ensures in
    let few = well.few in let each = well.each in omega (arith, n, m, few, each)

pub new-worker-requires-clause-new : goal.new-worker-requires-clause-new
new-worker-requires-clause-new g c =
    all_new c.args.code.now c.in_ok-ports.field-0.ports.items c.in_ok-ports.field-0.asks.items c.in_ok-ports.field-0.replies.items
    (dealt_over c.args.code.now c.instrs-instrs.ensures.valid.lists.links c.args.words.now c.args.seats c.requires.unused c.requires.channels c.ends.result.now c.as_slice.result.now
    c.in_ok-ports.field-0.ports.items c.in_ok-ports.field-0.asks.items c.in_ok-ports.field-0.replies.items c.ends.ensures (c.as_slice.ensures ∙ c.capacities.ensures) c.in_ok-ports.ensures)

pub run_all-ended-requires-clause-parties : goal.run_all-ended-requires-clause-parties
run_all-ended-requires-clause-parties g c κs within =
    few_parties c.args.code.now c.instrs-instrs.ensures.valid.lists.links c.args.steps c.in_ok-cores.cores.items c.as_slice-2.result.now c.new-worker.result
    (begins c.args.code.now c.args.steps c.in_ok-ports.field-0.ports.items c.in_ok-ports.field-0.asks.items c.in_ok-ports.field-0.replies.items c.in_ok-cores.cores.items
    c.in_ok-ways.ways.items c.as_slice-2.result.now c.new-worker.result c.ends-2.result.now c.ends-3.result.now c.entries.result.now
    (dealt_over c.args.code.now c.instrs-instrs.ensures.valid.lists.links c.args.words.now c.args.seats c.requires.unused c.requires.channels c.ends.result.now c.as_slice.result.now
    c.in_ok-ports.field-0.ports.items c.in_ok-ports.field-0.asks.items c.in_ok-ports.field-0.replies.items c.ends.ensures (c.as_slice.ensures ∙ c.capacities.ensures) c.in_ok-ports.ensures)
    c.in_ok-cores.ensures.cores c.as_slice-2.ensures.value c.ends-2.ensures c.entries.ensures c.in_ok-ways.ensures c.ends-3.ensures c.new-worker.ensures.first c.new-worker.ensures.ends
    c.new-worker.ensures.entries) c.instrs-instrs.ensures.valid.lists.cores.few

pub run_all-ended-requires-clause-ways : goal.run_all-ended-requires-clause-ways
run_all-ended-requires-clause-ways g c κs within =
    all_ways c.args.code.now c.instrs-instrs.ensures.valid.lists.links c.args.steps c.in_ok-cores.cores.items c.as_slice-2.result.now c.new-worker.result
    (begins c.args.code.now c.args.steps c.in_ok-ports.field-0.ports.items c.in_ok-ports.field-0.asks.items c.in_ok-ports.field-0.replies.items c.in_ok-cores.cores.items
    c.in_ok-ways.ways.items c.as_slice-2.result.now c.new-worker.result c.ends-2.result.now c.ends-3.result.now c.entries.result.now
    (dealt_over c.args.code.now c.instrs-instrs.ensures.valid.lists.links c.args.words.now c.args.seats c.requires.unused c.requires.channels c.ends.result.now c.as_slice.result.now
    c.in_ok-ports.field-0.ports.items c.in_ok-ports.field-0.asks.items c.in_ok-ports.field-0.replies.items c.ends.ensures (c.as_slice.ensures ∙ c.capacities.ensures) c.in_ok-ports.ensures)
    c.in_ok-cores.ensures.cores c.as_slice-2.ensures.value c.ends-2.ensures c.entries.ensures c.in_ok-ways.ensures c.ends-3.ensures c.new-worker.ensures.first c.new-worker.ensures.ends
    c.new-worker.ensures.entries)

pub run_all-ended-requires-clause-paired : goal.run_all-ended-requires-clause-paired
run_all-ended-requires-clause-paired g c κs within =
    all_paired c.args.code.now c.instrs-instrs.ensures.valid.lists.links c.args.steps c.in_ok-cores.cores.items c.as_slice-2.result.now c.new-worker.result
    (begins c.args.code.now c.args.steps c.in_ok-ports.field-0.ports.items c.in_ok-ports.field-0.asks.items c.in_ok-ports.field-0.replies.items c.in_ok-cores.cores.items
    c.in_ok-ways.ways.items c.as_slice-2.result.now c.new-worker.result c.ends-2.result.now c.ends-3.result.now c.entries.result.now
    (dealt_over c.args.code.now c.instrs-instrs.ensures.valid.lists.links c.args.words.now c.args.seats c.requires.unused c.requires.channels c.ends.result.now c.as_slice.result.now
    c.in_ok-ports.field-0.ports.items c.in_ok-ports.field-0.asks.items c.in_ok-ports.field-0.replies.items c.ends.ensures (c.as_slice.ensures ∙ c.capacities.ensures) c.in_ok-ports.ensures)
    c.in_ok-cores.ensures.cores c.as_slice-2.ensures.value c.ends-2.ensures c.entries.ensures c.in_ok-ways.ensures c.ends-3.ensures c.new-worker.ensures.first c.new-worker.ensures.ends
    c.new-worker.ensures.entries)

pub run_all-ended-requires-clause-ready : goal.run_all-ended-requires-clause-ready
run_all-ended-requires-clause-ready g c κs within =
    all_ready c.args.code.now c.instrs-instrs.ensures.valid.lists.links c.args.steps c.in_ok-cores.cores.items c.as_slice-2.result.now c.new-worker.result
    (begins c.args.code.now c.args.steps c.in_ok-ports.field-0.ports.items c.in_ok-ports.field-0.asks.items c.in_ok-ports.field-0.replies.items c.in_ok-cores.cores.items
    c.in_ok-ways.ways.items c.as_slice-2.result.now c.new-worker.result c.ends-2.result.now c.ends-3.result.now c.entries.result.now
    (dealt_over c.args.code.now c.instrs-instrs.ensures.valid.lists.links c.args.words.now c.args.seats c.requires.unused c.requires.channels c.ends.result.now c.as_slice.result.now
    c.in_ok-ports.field-0.ports.items c.in_ok-ports.field-0.asks.items c.in_ok-ports.field-0.replies.items c.ends.ensures (c.as_slice.ensures ∙ c.capacities.ensures) c.in_ok-ports.ensures)
    c.in_ok-cores.ensures.cores c.as_slice-2.ensures.value c.ends-2.ensures c.entries.ensures c.in_ok-ways.ensures c.ends-3.ensures c.new-worker.ensures.first c.new-worker.ensures.ends
    c.new-worker.ensures.entries)
    g.D.Disk.told (subst (λ (d : DiskTold). IsTrue d.is_ready) (sym c.new-worker.ensures.told) c.requires.ready)

pub returns-clause-run : goal.returns-clause-run
returns-clause-run g c =
    where_ok c.run_all-ended.result.0 _ _ c.run_all-ended.ensures.run (λ ended ran program is_code is_same.
    is_a_run g.D.Disk.told c.args.code.now c.instrs-instrs.ensures.valid c.args.steps c.args.start c.in_ok-cores.cores.items c.as_slice-2.result.now c.new-worker.result
    (begins c.args.code.now c.args.steps c.in_ok-ports.field-0.ports.items c.in_ok-ports.field-0.asks.items c.in_ok-ports.field-0.replies.items c.in_ok-cores.cores.items
    c.in_ok-ways.ways.items c.as_slice-2.result.now c.new-worker.result c.ends-2.result.now c.ends-3.result.now c.entries.result.now
    (dealt_over c.args.code.now c.instrs-instrs.ensures.valid.lists.links c.args.words.now c.args.seats c.requires.unused c.requires.channels c.ends.result.now c.as_slice.result.now
    c.in_ok-ports.field-0.ports.items c.in_ok-ports.field-0.asks.items c.in_ok-ports.field-0.replies.items c.ends.ensures (c.as_slice.ensures ∙ c.capacities.ensures) c.in_ok-ports.ensures)
    c.in_ok-cores.ensures.cores c.as_slice-2.ensures.value c.ends-2.ensures c.entries.ensures c.in_ok-ways.ensures c.ends-3.ensures c.new-worker.ensures.first c.new-worker.ensures.ends
    c.new-worker.ensures.entries) (g.D.Disk.told c.run_all-ended.result.1.now) ended ran program is_code c.settled_ends_make_a_run.ensures c.requires.few is_same)

pub returns-clause-disk : goal.returns-clause-disk
returns-clause-disk g c =
    let last = c.disk-1.given.1 (sym c.new-worker.ensures.loan ∙ sym c.run_all-ended.ensures.loan) in
    where_ok c.run_all-ended.result.0 _ _ c.run_all-ended.ensures.run (λ ended ran program is_code is_same.
    subst (λ d. LeavesDisk program c.args.start ended.journals (g.D.Disk.told c.args.disk.now) (g.D.Disk.told d)) (sym last)
    (subst (λ (t : DiskTold). LeavesDisk program c.args.start ended.journals t (g.D.Disk.told c.run_all-ended.result.1.now)) c.new-worker.ensures.told
    (disk_is_left g.D.Disk.told c.args.code.now c.instrs-instrs.ensures.valid c.args.steps c.args.start c.in_ok-cores.cores.items c.as_slice-2.result.now c.new-worker.result
    (begins c.args.code.now c.args.steps c.in_ok-ports.field-0.ports.items c.in_ok-ports.field-0.asks.items c.in_ok-ports.field-0.replies.items c.in_ok-cores.cores.items
    c.in_ok-ways.ways.items c.as_slice-2.result.now c.new-worker.result c.ends-2.result.now c.ends-3.result.now c.entries.result.now
    (dealt_over c.args.code.now c.instrs-instrs.ensures.valid.lists.links c.args.words.now c.args.seats c.requires.unused c.requires.channels c.ends.result.now c.as_slice.result.now
    c.in_ok-ports.field-0.ports.items c.in_ok-ports.field-0.asks.items c.in_ok-ports.field-0.replies.items c.ends.ensures (c.as_slice.ensures ∙ c.capacities.ensures) c.in_ok-ports.ensures)
    c.in_ok-cores.ensures.cores c.as_slice-2.ensures.value c.ends-2.ensures c.entries.ensures c.in_ok-ways.ensures c.ends-3.ensures c.new-worker.ensures.first c.new-worker.ensures.ends
    c.new-worker.ensures.entries) (g.D.Disk.told c.run_all-ended.result.1.now) ended ran program is_code c.settled_ends_leave_the_disk.ensures
    (subst (λ (t : DiskTold). IfSome t.held (λ h. t.bound ≡ length h.files)) (sym c.new-worker.ensures.told) ((g.met.D.Disk g.world.𝓛 g.world.𝓜 g.world.𝓡
    (λ s h. h, λ p. p, λ n s. n s, λ x. x)).tells_bound c.args.disk.now))
    (subst (λ (t : DiskTold). IfSome t.held (λ h. texts h ≡ c.args.start)) (sym c.new-worker.ensures.told) c.requires.held))))
