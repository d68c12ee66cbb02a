use Rattle.std.proofs.Common.{take}
use Rattle.trace_writes.specs.Doing.{DidAll}
use Rattle.trace_writes.proofs.doing.do_writes.Given as goal

abbrev pub invariant-loop-write : goal.invariant-loop-write
invariant-loop-write g l = DidAll (take l.write-index l.writes) (g.D.Disk.told l.initial.disk) (g.D.Disk.told l.disk)
