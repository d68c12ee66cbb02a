-- The notes of an owner's side, from its fields.
use Rattle.std.specs.Prelude.{length}
use Rattle.completion_word.specs.Seats.{owner_of}
use Rattle.channel_ends.specs.declared.side.OwnerSide.TheInside.{Inside}
use Rattle.channel_ends.specs.Sending.{OwnerNotes}
use Rattle.channel_ends.specs.inner.Noted.{tabulated, heard_at, made_by, AreNoted}

abbrev pub notes_of : Inside → OwnerNotes
notes_of it = record {
  table = it.owner.seat.table_id;
  offers = tabulated (made_by it.lead it.marks (owner_of it.owner)) 0 (length (owner_of it.owner).offers);
  heard = tabulated (heard_at (owner_of it.owner)) 0 (length (owner_of it.owner).offers);
  told = length (owner_of it.owner).told;
  loads = (owner_of it.owner).loads;
  saw = (owner_of it.owner).saw;
}

abbrev pub IsNoted : Inside → Type 0
IsNoted it = AreNoted it.lead it.marks (owner_of it.owner)
