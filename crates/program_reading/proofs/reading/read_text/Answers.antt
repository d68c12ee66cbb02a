-- Where memory is refused for what a read gave, that was taken all the same.
use Rattle.std.proofs.Common.{take, inr}
use Rattle.program_reading.proofs.Readings.{took_more}
use Rattle.program_reading.proofs.reading.read_text.Goals as goal

pub returns-in_err-extend_from_slice-clause-tried : goal.returns-in_err-extend_from_slice-clause-tried
returns-in_err-extend_from_slice-clause-tried g c =
    inr (took_more (g.L.Library.told c.args.library.now) (g.L.Library.told c.reading.library) (g.L.Library.told c.read.new.self) c.args.name.now c.reading.text.items
    (take c.in_ok-count.count c.read.new.into) c.reading.invariant.consumed c.in_ok-count.ensures.bytes.0 c.reading.invariant.few c.in_ok-count.ensures.once)

pub returns-in_err-extend_from_slice-clause-took : goal.returns-in_err-extend_from_slice-clause-took
returns-in_err-extend_from_slice-clause-took g c =
    λ other. took_more (g.L.Library.told c.args.library.now) (g.L.Library.told c.reading.library) (g.L.Library.told c.read.new.self) c.args.name.now c.reading.text.items
    (take c.in_ok-count.count c.read.new.into) c.reading.invariant.consumed c.in_ok-count.ensures.bytes.0 c.reading.invariant.few c.in_ok-count.ensures.once
