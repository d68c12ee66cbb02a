-- What a worker has beside its disk, from its fields.
use Rattle.std.specs.Prelude.{◌≡◌, ◌+◌, ◌<◌, ◌^◌, length}
use Rattle.ac_links.specs.Journals.{last_of}
use Rattle.file_worker.specs.declared.desk.Desk.TheInside.{Inside}
use Rattle.file_worker.specs.Ends.{AtDesk, AreReady, core_ends}
use Rattle.file_worker.specs.Agreement.{WorkerAgrees}

abbrev pub at_desk : Inside → AtDesk
at_desk it = record { first = it.first; ends = core_ends it.asks.items it.replies.items; entries = it.journal.entries }

-- it has both ends of each core, and its clock is at its last entry
pub record IsAtDesk (it : Inside) : Type 0 where
  pub both : length it.asks.items ≡ length it.replies.items
  pub links : it.first + length it.asks.items < 2 ^ 32
  pub clock : it.clock ≡ last_of 0 it.journal.entries
  pub agrees : WorkerAgrees (at_desk it)
  pub ready : AreReady (at_desk it)
