-- The links of a code: each is a channel between two cores, or after the channels that of the requests of one; and the ways between the parties
-- of a run, which are made link by link.
use Rattle.std.proofs.Common.{◌≡◌, ◌≢◌, ◌⊎◌, inl, inr, ⊎_elim, ℕ, suc, ◌+◌, ◌-◌, ◌<◌, ◌≤◌, List, [], ◌∷◌, ◌++◌, Option, Some, None, Bool, true, false, refl, sym, ap, ◌∙◌, subst, arith, length}
use Rattle.std.specs.Prelude.{slice_get, nat_le, ◌==◌, if◌then◌else◌}
use Rattle.std.proofs.lemmas.Bool.{cases_lt}
use Rattle.std.proofs.lemmas.Bool.Decides.{nat_tests}
use Rattle.std.proofs.lemmas.Option.{slice_get_within, slice_get_past, get_or_from_slice_get}
use Rattle.stack_code.specs.declared.parts.ChannelEnds.{ChannelEnds}
use Rattle.stack_code.specs.Parts.{Parts}
use Rattle.stack_code.specs.Valid.{HasLinks, IsChannel}
use Rattle.core_ports.specs.declared.side.Side.TheVariants.{Owner, Peer, Neither}
use Rattle.core_ports.specs.Sides.{side_at, side_of}
use Rattle.program_run.specs.Parties.{owner_at, owner_of, peer_at, peer_of}
use Rattle.settled_rounds.specs.declared.party.Way.{Way}
use Rattle.settled_rounds.specs.Linked.{AreWays}
use Rattle.core_runner.specs.inner.Parties.{IsWayAt, AreWaysOf}
use Rattle.core_runner.proofs.Lists.{found, at_more}

pub is_low : (m n : ℕ) → m < n → nat_le n m ≡ false
is_low m n h = grind (arith, nat_tests)

pub is_high : (m n : ℕ) → n ≤ m → nat_le n m ≡ true
is_high m n h = grind (arith, nat_tests)

same_number : (m n : ℕ) → (m == n) ≡ true → m ≡ n
same_number m n h = grind (arith, nat_tests)

-- ---- which link is which

no_peer : (b : Bool) → (if b then Owner else Neither) ≡ Peer → ⊥
no_peer true e = absurd cc
no_peer false e = absurd cc

-- a core receives on channels alone
pub peer_low : (channels : List ChannelEnds) (k l : ℕ) → side_of channels k l ≡ Peer → l < length channels
peer_low channels k l is = elim (cases_lt l (length channels)) [
  | inl low ↦ low
  | inr high ↦ absurd (no_peer (l == length channels + k) (sym (ap (side_at (length channels) k l) (slice_get_past channels l high)) ∙ is))
]

-- link l is a channel between two of the cores
pub record IsChannelAt (code : Parts) (l : ℕ) : Type 0 where
  pub ends : ChannelEnds
  pub here : slice_get code.ends l ≡ Some ends
  pub low : l < length code.ends
  pub from_core : ends.from < length code.entries
  pub to_core : ends.to < length code.entries
  pub apart : ends.from ≢ ends.to
  pub owner : owner_of code.ends l ≡ ends.from
  pub peer : peer_of code.ends (length code.entries) l ≡ ends.to

-- it is that of the requests of a core
pub record IsRequestsAt (code : Parts) (l : ℕ) : Type 0 where
  pub core : ℕ
  pub within : core < length code.entries
  pub here : length code.ends + core ≡ l
  pub owner : owner_of code.ends l ≡ core
  pub peer : peer_of code.ends (length code.entries) l ≡ length code.entries

module _ (code : Parts) (well : HasLinks code) where
  abbrev no_ends : ChannelEnds
  no_ends = record { from = 0; to = 0 }

  is_channel : (l : ℕ) (e : ChannelEnds) → l < length code.ends → slice_get code.ends l ≡ Some e → IsChannel code e
  is_channel l e low here = subst (IsChannel code) (get_or_from_slice_get code.ends l e no_ends here) (well.channels l no_ends low)

  pub channel_at : (l : ℕ) → l < length code.ends → IsChannelAt code l
  channel_at l low =
      let (e, here) = found code.ends l low in
      let is = is_channel l e low here in
      record {
        ends = e;
        here = here;
        low = low;
        from_core = is.0;
        to_core = is.1;
        apart = is.2;
        owner = ap (owner_at (length code.ends) l) here;
        peer = ap (peer_at (length code.entries)) here;
      }

  pub requests_at : (l : ℕ) → length code.ends ≤ l → l < length code.capacities → IsRequestsAt code l
  requests_at l low high =
      let none = slice_get_past code.ends l low in
      let count = well.each in
      record {
        core = l - length code.ends;
        within = omega (arith, low, high, count);
        here = omega (arith, low);
        owner = ap (owner_at (length code.ends) l) none;
        peer = ap (peer_at (length code.entries)) none;
      }

  pub which : (l : ℕ) → l < length code.capacities → IsChannelAt code l ⊎ IsRequestsAt code l
  which l h = elim (cases_lt l (length code.ends)) [
    | inl low ↦ inl (channel_at l low)
    | inr high ↦ inr (requests_at l high h)
  ]

  -- ---- the links of one core are among them

  within_by : (k l : ℕ) → k < length code.entries → (o : Option ChannelEnds) → slice_get code.ends l ≡ o
      → side_at (length code.ends) k l o ≢ Neither → l < length code.capacities
  within_by k l h (Some e) here side = let w = slice_get_within code.ends l e here in let count = well.each in omega (arith, w, count)
  within_by k l h None here side = by (l == length code.ends + k) refl side
    where
      by : (b : Bool) → (l == length code.ends + k) ≡ b → (if b then Owner else Neither) ≢ Neither → l < length code.capacities
      by true e side = let is = same_number l (length code.ends + k) e in let count = well.each in omega (arith, is, h, count)
      by false e side = absurd (side refl)

  pub side_within : (k l : ℕ) → k < length code.entries → side_of code.ends k l ≢ Neither → l < length code.capacities
  side_within k l h side = within_by k l h (slice_get code.ends l) refl side

  -- ---- the ways

  module _ (ways : List Way) (are : AreWaysOf code.ends (length code.entries) ways) where
    pub way_count : length ways ≡ length code.capacities
    way_count = are.count ∙ sym well.each

    pub way_within : (l : ℕ) (w : Way) → slice_get ways l ≡ Some w → l < length code.capacities
    way_within l w at = let i = slice_get_within ways l w at in let n = way_count in omega (arith, i, n)

    pub are_ways : (parties : ℕ) → parties ≡ suc (length code.entries) → AreWays parties ways
    are_ways parties many l w at =
        let is = are.each l w at in
        ⊎_elim (λ (c : IsChannelAt code l).
        let from = is.from ∙ c.owner in let to = is.to ∙ c.peer in let f = c.from_core in let t = c.to_core in
        (omega (arith, from, f, many), omega (arith, to, t, many), λ e. c.apart (sym from ∙ e ∙ to)))
        (λ (r : IsRequestsAt code l).
        let from = is.from ∙ r.owner in let to = is.to ∙ r.peer in let f = r.within in
        (omega (arith, from, f, many), omega (arith, to, many), λ e. absurd (omega (arith, from, to, f, e))))
        (which l (way_within l w at))

    -- the parties at its two ends, where the way leads
    pub way_at : (l : ℕ) → l < length code.capacities → (w : Way) × (slice_get ways l ≡ Some w) × IsWayAt code.ends (length code.entries) l w
    way_at l h = let n = way_count in let (w, at) = found ways l (omega (arith, h, n)) in (w, at, are.each l w at)

-- ---- they are made link by link

abbrev pub AreWaysSoFar : List ChannelEnds → ℕ → List Way → Type 0
AreWaysSoFar channels cores ways = (l : ℕ) (w : Way) → slice_get ways l ≡ Some w → IsWayAt channels cores l w

pub one_way_more : (channels : List ChannelEnds) (cores : ℕ) (ways : List Way) (w : Way) → AreWaysSoFar channels cores ways
    → IsWayAt channels cores (length ways) w → AreWaysSoFar channels cores (ways ++ w ∷ [])
one_way_more channels cores ways w before is l x at = ⊎_elim (λ old. before l x old)
    (λ new. subst (λ y. IsWayAt channels cores l y) new.1 (subst (λ n. IsWayAt channels cores n w) (sym new.0) is)) (at_more ways w x l at)

pub channel_way : (channels : List ChannelEnds) (cores l : ℕ) (e : ChannelEnds) → slice_get channels l ≡ Some e
    → IsWayAt channels cores l (record { from = e.from; to = e.to })
channel_way channels cores l e here = record { from = sym (ap (owner_at (length channels) l) here); to = sym (ap (peer_at cores) here) }

pub request_way : (channels : List ChannelEnds) (cores l core : ℕ) → l ≡ length channels + core
    → IsWayAt channels cores l (record { from = core; to = cores })
request_way channels cores l core is =
    let none = slice_get_past channels l (omega (arith, is)) in
    record {
      from = sym (ap (owner_at (length channels) l) none ∙ (let n : l - length channels ≡ core = omega (arith, is) in n));
      to = sym (ap (peer_at cores) none);
    }
