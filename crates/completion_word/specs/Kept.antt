-- Each kind of step keeps the word rule, from whatever state that meets it, and tells its seat what `Steps` says of it.
-- `id` is the seat that makes the step, and `slots` how many slots the table has.
use Rattle.std.specs.Prelude.{◌≡◌, ℕ, ◌+◌, ◌%◌, ◌^◌, ◌<◌, ◌≤◌, ◌==◌, [], length, replicate, Some}
use mathlib.Core.Option as maybe
use prog.Atomic.{either}
use Rattle.atomic_table.specs.Table.{State, Me, Step, step, opening, Allows, Splits, Joins}
use Rattle.completion_word.specs.declared.answers.Look.TheVariants as look
use Rattle.completion_word.specs.declared.standing.Standing.TheVariants.{Offered, Withdrawn, Taken, Passed}
use Rattle.completion_word.specs.declared.views.Owner.{Owner}
use Rattle.completion_word.specs.declared.views.Peer.{Peer}
use Rattle.completion_word.specs.declared.views.OwnerNote.{OwnerNote}
use Rattle.completion_word.specs.declared.views.PeerNote.{PeerNote}
use Rattle.completion_word.specs.declared.views.View.{View}
use Rattle.completion_word.specs.Link.{offer_at, code, new_owner, new_peer, owner_view, peer_view, both_views, no_view}
use Rattle.completion_word.specs.Steps.{IsOpen, owner_with, peer_with, notes_of, with_notes}
use Rattle.completion_word.specs.Steps.{Posts, Withdraws, Learns, Looks, Takes, Passes, HearsOwner, HearsPeer, Checks}
use Rattle.completion_word.specs.Rule.{WordRule}

-- the rule, of a table that has ints in its slots, if any
abbrev pub Holds : ℕ → State ℕ View → Type 0
Holds places = WordRule places

-- ---- a step of a seat that knows this, on that word; it tells the seat what `then` says

abbrev pub Telling : Type 1
Telling = Step ℕ → Me ℕ View → ℕ → Me ℕ View → Type 0

abbrev pub KeptByLoad : ℕ → ℕ → ℕ → View → ℕ → Telling → Type 0
KeptByLoad places slots id v word then =
    Allows (Holds places) slots id (v, []) word (λ n. n) (then (step slots word 0 0 maybe.none) (v, []))

abbrev pub KeptByStore : ℕ → ℕ → ℕ → View → ℕ → ℕ → Telling → Type 0
KeptByStore places slots id v word new then =
    Allows (Holds places) slots id (v, []) word (λ _. new) (λ _. then (step slots word new 0 maybe.none) (v, []) new)

abbrev pub KeptByExchange : ℕ → ℕ → ℕ → View → ℕ → ℕ → ℕ → maybe.Option ℕ → Telling → Type 0
KeptByExchange places slots id v word old new said then =
    Allows (Holds places) slots id (v, []) word (λ n. either (n == old) new n) (then (step slots word old new said) (v, []))

-- ---- the kinds of step

-- words that no offer has used, as one seat has both views
abbrev pub Begins : Type 0
Begins = (places : ℕ) → 0 < places → Holds places (opening (replicate places 0) [] (both_views new_owner new_peer))

abbrev pub SplitKeeps : Type 0
SplitKeeps = (places id : ℕ) (o : Owner) (p : Peer) → Splits (Holds places) id (both_views o p) (owner_view o) (peer_view p)

abbrev pub PostKeeps : Type 0
PostKeeps = (places slots id : ℕ) (o : Owner) (t : ℕ) → length o.offers < length o.learned + places → o.last < t → t < 2 ^ 60
    → KeptByStore places slots id (owner_view o) (length o.offers % places) (code (Offered t)) Posts

abbrev pub WithdrawKeeps : Type 0
WithdrawKeeps = (places slots id : ℕ) (o : Owner) (k u : ℕ) → length o.learned ≤ k → k < length o.offers → IsOpen (offer_at o.offers k)
    → o.last < u → u < 2 ^ 60
    → KeptByExchange places slots id (owner_view o) (k % places) (code (Offered (offer_at o.offers k).stamp)) (code (Withdrawn u))
    (maybe.some k) Withdraws

abbrev pub LearnKeeps : Type 0
LearnKeeps = (places slots id : ℕ) (o : Owner) → length o.learned < length o.offers
    → KeptByLoad places slots id (owner_view o) (length o.learned % places) Learns

abbrev pub LookKeeps : Type 0
LookKeeps = (places slots id : ℕ) (p : Peer) → KeptByLoad places slots id (peer_view p) (length p.decisions % places) Looks

abbrev pub TakeKeeps : Type 0
TakeKeeps = (places slots id : ℕ) (p : Peer) (t u : ℕ) → p.look ≡ Some (look.Offered t) → t < u
    → KeptByExchange places slots id (peer_view p) (length p.decisions % places) (code (Offered t)) (code (Taken u)) maybe.none Takes

abbrev pub PassKeeps : Type 0
PassKeeps = (places slots id : ℕ) (p : Peer) (w u : ℕ) → p.look ≡ Some (look.Withdrawn w) → w < u
    → KeptByStore places slots id (peer_view p) (length p.decisions % places) (code (Passed u)) Passes

abbrev pub JoinKeeps : Type 0
JoinKeeps = (places id other : ℕ) (o : Owner) (p : Peer)
    → Joins (Holds places) id (owner_view o) other (peer_view p) (both_views o p) no_view

-- a note is copied off a seat, joined to another one, and told to it
abbrev pub NoteKeeps : Type 0
NoteKeeps = (places id : ℕ) (v : View) → Splits (Holds places) id v v (notes_of v)

abbrev pub NoteJoinKeeps : Type 0
NoteJoinKeeps = (places id other : ℕ) (v w : View) → Joins (Holds places) id v other w (with_notes v w) no_view

abbrev pub ToldPeerKeeps : Type 0
ToldPeerKeeps = (places slots id : ℕ) (p : Peer) (n : OwnerNote) → KeptByLoad places slots id (peer_with p n) 0 HearsOwner

abbrev pub ToldOwnerKeeps : Type 0
ToldOwnerKeeps = (places slots id : ℕ) (o : Owner) (n : PeerNote) → KeptByLoad places slots id (owner_with o n) 0 HearsPeer

abbrev pub CheckKeeps : Type 0
CheckKeeps = (places slots id : ℕ) (o : Owner) → KeptByLoad places slots id (owner_view o) 0 Checks
