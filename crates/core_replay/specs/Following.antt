-- How far a core follows a journal.
use Rattle.std.specs.Prelude.{◌≡◌, ℕ, ◌<◌, ◌≤◌, List, length, take}
use Rattle.ac_base.specs.declared.entry.Entry.{Entry}
use Rattle.replay_laws.specs.Given.{HasRun}
use Rattle.core_replay.specs.declared.replay.Followed.{Followed}
use Rattle.core_replay.specs.declared.replay.Followed.TheVariants.{Done, Misfit}
use Rattle.core_replay.specs.Replayed.{Replayed}

-- these are the first entries of the journal, so many of them as they are
pub record IsFront (journal front : List Entry) : Type 0 where
  pub is_front : front ≡ take (length front) journal

-- the core has a run under the entries before this place and under each front of them, and under none that goes on to it
pub record MisfitsAt (r : Replayed) (journal : List Entry) (place : ℕ) : Type 0 where
  pub within : place < length journal
  pub runs : (k : ℕ) → k ≤ place → HasRun r.code r.core r.bound (take k journal)
  pub none : (k : ℕ) → place < k → HasRun r.code r.core r.bound (take k journal) → ⊥

-- The core has a run under the whole journal, and has taken it; or the entry of that place is the first with which it has none, and it has
-- taken those before it.
abbrev pub Follows : Replayed → List Entry → Followed → List Entry → Type 0
Follows r journal Done taken = HasRun r.code r.core r.bound journal × (taken ≡ journal)
Follows r journal (Misfit place) taken = MisfitsAt r journal place × (taken ≡ take place journal)
