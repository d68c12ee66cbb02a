-- What a core that is run over ports gives.
use Rattle.std.specs.Prelude.{◌≡◌, ℕ, List, ◌++◌, true, false}
use Rattle.ac_base.specs.declared.entry.Entry.{Entry}
use Rattle.ac_links.specs.declared.payloads.Terms.{Terms}
use Rattle.ac_links.specs.Party.{LinkEnd}
use Rattle.ac_history.specs.Quiet.{has_stopped, waits_on}
use Rattle.core_ports.specs.AtHand.{AtHand}
use Rattle.core_ports.specs.Ends.{has_room, awaits_reply}
use Rattle.core_ports.specs.declared.side.Side.TheVariants.{Owner, Peer}
use Rattle.core_ports.specs.Sides.{side_of}
use Rattle.run_laws.specs.Cores.{CoreView, EndsAs}

-- the same core later: its journal has only grown
pub record IsLater (before after : CoreView) : Type 0 where
  pub code : after.code ≡ before.code
  pub core : after.core ≡ before.core
  pub bound : after.bound ≡ before.bound
  pub entries : List Entry
  pub journal : after.journal ≡ before.journal ++ entries

-- as it stops nothing is at hand for it
pub record LeavesNothing (c : CoreView) (terms : ℕ → Terms) (ends : ℕ → LinkEnd) (hands : ℕ → AtHand) : Type 0 where
  pub decision : (l : ℕ) → side_of c.code.ends c.core l ≡ Owner → (hands l).decision ≡ false
  pub front : (l : ℕ) → side_of c.code.ends c.core l ≡ Peer → waits_on l c.end.core ≡ true → (hands l).front ≡ false
  pub reply : (l : ℕ) → side_of c.code.ends c.core l ≡ Owner → (terms l).requests ≡ true → awaits_reply (ends l) ≡ true
      → (hands l).reply ≡ false
  pub slot : (l : ℕ) → side_of c.code.ends c.core l ≡ Owner → waits_on l c.end.core ≡ true → has_room (terms l) (ends l) ≡ true
      → (hands l).slot ≡ false

-- it has come to its end, or it is idle and nothing is left for it
pub record HasStopped (c : CoreView) (terms : ℕ → Terms) (ends : ℕ → LinkEnd) (hands : ℕ → AtHand) : Type 0 where
  pub comes : EndsAs c c.end
  pub stopped : has_stopped c.end.core ≡ true
  pub leaves : c.end.core.idle ≡ true → LeavesNothing c terms ends hands
