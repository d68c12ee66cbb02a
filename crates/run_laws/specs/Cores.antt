-- A core as it is seen from outside, when it agrees with the links of its run, and when it rests on them.
use Rattle.std.specs.Prelude.{◌≡◌, ℕ, ◌<◌, List, [], ◌∷◌, ◌++◌, length, map, slice_get, Some, None, true, ◌⊎◌}
use Rattle.std.specs.List.{AllByRecursion}
use Rattle.ac_base.specs.declared.entry.Entry.{Entry}
use Rattle.ac_base.specs.declared.ends.CoreEnd.{CoreEnd}
use Rattle.ac_base.specs.declared.ends.MachineEnd.{MachineEnd}
use Rattle.ac_base.specs.Stamps.{stamp_after}
use Rattle.stack_code.specs.Parts.{Parts}
use Rattle.code_meaning.specs.Machine.{Runs}
use Rattle.ac_links.specs.Journals.{last_of}
use Rattle.ac_links.specs.Party.{PartyAgrees}
use Rattle.ac_history.specs.History.{has_its_width}
use Rattle.ac_history.specs.Quiet.{CoreRests}
use Rattle.core_channels.specs.LinkViews.{LinkViews}
use Rattle.program_run.specs.Parties.{owner_of, peer_of}
use Rattle.run_laws.specs.Network.{terms_in, offers_in, decisions_in, ends_in, heard_in, AreLinksOf}

-- a core of this code with this bound on its steps: its journal, and what is seen of it
pub record CoreView : Type 0 where
  pub code : Parts
  pub core : ℕ
  pub bound : ℕ
  pub journal : List Entry
  pub end : MachineEnd

-- the code of the core comes to this end under its journal
abbrev pub EndsAs : CoreView → MachineEnd → Type 0
EndsAs c end = Runs c.code c.core c.bound c.journal (record { core = Some end.core; count = end.instructions })

-- its journal has what was done at its ends of these links
pub record AgreesWith (c : CoreView) (links : List LinkViews) : Type 0 where
  pub core : c.core < length c.code.entries
  pub party : PartyAgrees (terms_in links) c.core (ends_in c.code.ends c.core links) c.journal

-- it has come to what is seen of it, which is its end, or it is idle and nothing on these links is for it
pub record IsAtRest (c : CoreView) (links : List LinkViews) : Type 0 where
  pub comes : EndsAs c c.end
  pub rests : CoreRests c.code.capacities (length c.code.entries) (owner_of c.code.ends) (peer_of c.code.ends (length c.code.entries))
      (offers_in links) (decisions_in links) c.core c.end.core

-- no stamp is left to it for an entry that answers the greatest that it has heard of on some link
pub record HasNoStamp (c : CoreView) (heard : ℕ → ℕ) : Type 0 where
  pub end : MachineEnd
  pub comes : EndsAs c end
  pub link : ℕ
  pub full : stamp_after (last_of 0 c.journal) (heard link) ≡ None

abbrev pub HasFullClock : CoreView → List LinkViews → Type 0
HasFullClock c links = HasNoStamp c (heard_in c.code.ends c.core links)

-- it can go on no further
abbrev pub IsDone : CoreView → List LinkViews → Type 0
IsDone c links = IsAtRest c links ⊎ HasFullClock c links

-- ---- all cores of a code

-- the core of this number
pub record IsCoreOf (code : Parts) (bound number : ℕ) (c : CoreView) : Type 0 where
  pub code_is : c.code ≡ code
  pub core_is : c.core ≡ number
  pub bound_is : c.bound ≡ bound

-- the cores of the code in order, with what they have of its links
pub record AreCoresOf (code : Parts) (bound : ℕ) (cores : List CoreView) (links : List LinkViews) : Type 0 where
  pub count : length cores ≡ length code.entries
  pub each : (k : ℕ) (c : CoreView) → slice_get cores k ≡ Some c → IsCoreOf code bound k c
  pub agree : (k : ℕ) (c : CoreView) → slice_get cores k ≡ Some c → AgreesWith c links
  pub linked : AreLinksOf code links

-- each message that one of them offers on a channel has as many ints as the channel's width
abbrev pub AreOfTheirWidth : Parts → List CoreView → Type 0
AreOfTheirWidth code cores = (k : ℕ) (c : CoreView) → slice_get cores k ≡ Some c
    → AllByRecursion (λ e. has_its_width code.widths e.event ≡ true) c.journal

-- their journals, and that of the worker
abbrev pub journals_of : List CoreView → List Entry → List (List Entry)
journals_of cores entries = map (λ c. c.journal) cores ++ entries ∷ []

-- what is seen of them
abbrev pub ends_of : List CoreView → List CoreEnd
ends_of cores = map (λ c. c.end.core) cores
