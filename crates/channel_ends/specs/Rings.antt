-- Which ring it is: the two ends of one ring have the same name.
use denote.RawPtr.{Ptr}
use Rattle.rtrb.specs.Shared.{Names}

-- where its words and its slots are, and what no other ring shares with it
pub record RingName : Type 0 where
  pub words : Ptr
  pub slots : Ptr
  pub names : Names
