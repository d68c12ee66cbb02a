-- Who the parties of a link are, and what each of them has of it.
use Rattle.std.proofs.Common.{◌≡◌, ◌⊎◌, ℕ, ◌+◌, ◌-◌, ◌<◌, ◌≤◌, List, Option, Some, None, Bool, true, false, cond, refl, sym, ap, ◌∙◌, subst, inl, inr, arith, length}
use Rattle.std.specs.Prelude.{◌≢◌, ◌==◌, slice_get, nat_le}
use Rattle.std.proofs.Math.Path.{fun_ext}
use Rattle.std.proofs.lemmas.Bool.Decides.{eqb_tells, leb_tells, nat_tests}
use Rattle.std.proofs.lemmas.List.Elements.{All-get_or}
use Rattle.std.proofs.lemmas.Option.{slice_get-get_or, slice_get_past, slice_get_cases, get_or_from_slice_get, none-some}
use Rattle.stack_code.specs.declared.parts.ChannelEnds.{ChannelEnds}
use Rattle.stack_code.specs.Parts.{Parts}
use Rattle.stack_code.specs.Valid.{HasLinks, IsChannel}
use Rattle.ac_links.specs.declared.payloads.Terms.{Terms}
use Rattle.ac_links.specs.Party.{LinkEnd}
use Rattle.ac_links.specs.Party.LinkEnd.{Owns, Decides, Absent}
use Rattle.ac_history.specs.Network.{IsPeer}
use Rattle.core_channels.specs.LinkViews.{LinkViews, no_link, link_at}
use Rattle.core_ports.specs.declared.side.Side.{Side}
use Rattle.core_ports.specs.declared.side.Side.TheVariants.{Owner, Peer, Neither}
use Rattle.core_ports.specs.Sides.{side_at, side_of}
use Rattle.file_ops.specs.Agreement.{is_own, worker_ends}
use Rattle.run_laws.specs.Ends.{end_of}
use Rattle.program_run.specs.Parties.{owner_at, owner_of, peer_at, peer_of}
use Rattle.run_laws.specs.Network.{offers_in, decisions_in, ends_in, AreLinksOf}

-- ---- the side of a core is that of the party

by_owner : (b c : Bool) → cond b Owner (cond c Peer Neither) ≡ Owner → b ≡ true
by_owner true c h = refl
by_owner false true h = cc
by_owner false false h = cc

by_peer : (b c : Bool) → cond b Owner (cond c Peer Neither) ≡ Peer → c ≡ true
by_peer true c h = cc
by_peer false true h = refl
by_peer false false h = cc

by_request : (b : Bool) → cond b Owner Neither ≡ Owner → b ≡ true
by_request true h = refl
by_request false h = cc

no_request : (b : Bool) → cond b Owner Neither ≡ Peer → ⊥
no_request true h = cc
no_request false h = cc

same : (m n : ℕ) → (m == n) ≡ true → m ≡ n
same m n h = grind (arith, nat_tests)

owner_is_at : (channels core l : ℕ) (o : Option ChannelEnds) → side_at channels core l o ≡ Owner → owner_at channels l o ≡ core
owner_is_at channels core l None h = let e = same l (channels + core) (by_request (l == channels + core) h) in omega arith
owner_is_at channels core l (Some ends) h = same ends.from core (by_owner (ends.from == core) (ends.to == core) h)

pub owner_is : (channels : List ChannelEnds) (core l : ℕ) → side_of channels core l ≡ Owner → owner_of channels l ≡ core
owner_is channels core l h = owner_is_at (length channels) core l (slice_get channels l) h

peer_is_at : (channels cores core l : ℕ) (o : Option ChannelEnds) → side_at channels core l o ≡ Peer → peer_at cores o ≡ core
peer_is_at channels cores core l None h = absurd (no_request (l == channels + core) h)
peer_is_at channels cores core l (Some ends) h = same ends.to core (by_peer (ends.from == core) (ends.to == core) h)

pub peer_is : (channels : List ChannelEnds) (cores core l : ℕ) → side_of channels core l ≡ Peer → peer_of channels cores l ≡ core
peer_is channels cores core l h = peer_is_at (length channels) cores core l (slice_get channels l) h

-- ---- the end of any party, the worker too

abbrev party_end_at : LinkViews → Side → LinkEnd
party_end_at v Owner = Owns v.offers
party_end_at v Peer = Decides v.decisions
party_end_at v Neither = Absent

abbrev party_end_of : Side → Option LinkViews → LinkEnd
party_end_of side None = Absent
party_end_of side (Some v) = party_end_at v side

abbrev side_by : ℕ → ℕ → ℕ → Side
side_by owner peer p = cond (owner == p) Owner (cond (peer == p) Peer Neither)

abbrev pub party_ends : List ChannelEnds → ℕ → List LinkViews → ℕ → ℕ → LinkEnd
party_ends channels cores links p l = party_end_of (side_by (owner_of channels l) (peer_of channels cores l) p) (slice_get links l)

differs : (m n : ℕ) → m ≢ n → (m == n) ≡ false
differs m n h = grind (arith, nat_tests)

equals : (m n : ℕ) → m ≡ n → (m == n) ≡ true
equals m n h = grind (arith, nat_tests)

-- a core has the side that it has as a party
same_side : (channels cores core l : ℕ) (o : Option ChannelEnds) → core < cores → (o ≡ None → channels ≤ l) → side_at channels core l o ≡ side_by (owner_at channels l o) (peer_at cores o) core
same_side channels cores core l (Some ends) lt low = refl
same_side channels cores core l None lt low =
    let le = low refl in
    elim (eqb_tells l (channels + core)) [
      | inl q ↦ (let e = q.1 in
          ap (λ b. cond b Owner Neither) q.0 ∙ sym (ap (λ b. cond b Owner (cond (cores == core) Peer Neither)) (equals (l - channels) core (omega arith))))
      | inr q ↦ (let n = q.1 in
          ap (λ b. cond b Owner Neither) q.0
          ∙ sym (ap (λ b. cond b Owner (cond (cores == core) Peer Neither)) (differs (l - channels) core (λ e. n (omega arith)))
          ∙ ap (λ b. cond b Peer Neither) (differs cores core (λ e. omega arith))))
    ]

-- on a channel, which carries messages, and where there is no link, its end is that of the party
same_end : (side : Side) (o : Option LinkViews) → (side ≡ Peer → (v : LinkViews) → o ≡ Some v → v.terms.requests ≡ false) → end_of side o ≡ party_end_of side o
same_end side None channel = refl
same_end Owner (Some v) channel = refl
same_end Peer (Some v) channel = ap (λ b. cond b Absent (Decides v.decisions)) (channel refl v refl)
same_end Neither (Some v) channel = refl

not_at_least : (m n : ℕ) → n < m → nat_le m n ≡ false
not_at_least m n h = grind (arith, nat_tests)

module _ (code : Parts) (valid : HasLinks code) (links : List LinkViews) (of : AreLinksOf code links) where
  abbrev channels : ℕ
  channels = length code.ends

  abbrev cores : ℕ
  cores = length code.entries

  pub request_or_channel : (l : ℕ) → l < length code.capacities
      → ((ends : ChannelEnds) × (slice_get code.ends l ≡ Some ends) × (l < channels) × IsChannel code ends) ⊎ ((slice_get code.ends l ≡ None) × (channels ≤ l) × (l < channels + cores))
  request_or_channel l h = elim (slice_get_cases code.ends l).1 [
    | inl q ↦ inl (q.0, q.2, q.1, subst (IsChannel code) q.3 (All-get_or (IsChannel code) code.ends l q.0 q.1 valid.channels))
    | inr q ↦ (let e = valid.each in inr (q.1, q.0, omega arith))
  ]

  there : (l : ℕ) → l < length code.capacities → slice_get links l ≡ Some (link_at links l)
  there l h = slice_get-get_or links l no_link (let e = of.count in omega arith)

  nowhere : (l : ℕ) → length code.capacities ≤ l → slice_get links l ≡ None
  nowhere l h = slice_get_past links l (let e = of.count in omega arith)

  -- ---- what a core has of a link

  pub carries_messages : (l : ℕ) → l < channels → (link_at links l).terms.requests ≡ false
  carries_messages l h =
      let e = valid.each in
      ap (λ (t : Terms). t.requests) (of.terms l (omega arith)) ∙ not_at_least channels l h

  past_channels : (l : ℕ) → slice_get code.ends l ≡ None → channels ≤ l
  past_channels l e = elim (slice_get_cases code.ends l).1 [ inl q ↦ absurd (none-some q.0 (sym e ∙ q.2)) | inr q ↦ q.0 ]

  pub peer_of_channel : (core l : ℕ) → side_of code.ends core l ≡ Peer → l < channels
  peer_of_channel core l h = elim (slice_get_cases code.ends l).1 [
    | inl q ↦ q.1
    | inr q ↦ absurd (no_request (l == channels + core) (sym (ap (side_at channels core l) q.1) ∙ h))
  ]

  pub core_ends : (core : ℕ) → core < cores → ends_in code.ends core links ≡ party_ends code.ends cores links core
  core_ends core lt = fun_ext (λ l.
      same_end (side_of code.ends core l) (slice_get links l) (λ p v e. ap (λ (w : LinkViews). w.terms.requests) (sym (get_or_from_slice_get links l v no_link e))
      ∙ carries_messages l (peer_of_channel core l p))
      ∙ ap (λ side. party_end_of side (slice_get links l)) (same_side channels cores core l (slice_get code.ends l) lt (past_channels l)))

  -- ---- what the two parties of a link have of it, and no other

  pub owner_has : (l : ℕ) → l < length code.capacities → party_ends code.ends cores links (owner_of code.ends l) l ≡ Owns (offers_in links l)
  owner_has l h =
      let owner = owner_of code.ends l in
      ap (λ b. party_end_of (cond b Owner (cond (peer_of code.ends cores l == owner) Peer Neither)) (slice_get links l)) (equals owner owner refl)
      ∙ ap (party_end_of Owner) (there l h)

  pub apart : (l : ℕ) → l < length code.capacities → owner_of code.ends l ≢ peer_of code.ends cores l
  apart l h = elim (request_or_channel l h) [
    | inl q ↦ (λ e. q.3.2 (sym (ap (owner_at channels l) q.1) ∙ e ∙ ap (peer_at cores) q.1))
    | inr q ↦ (let low = q.1 in let high = q.2 in λ e. absurd (let w : l - channels ≡ cores = sym (ap (owner_at channels l) q.0) ∙ e ∙ ap (peer_at cores) q.0 in omega arith))
  ]

  pub peer_has : (l : ℕ) → l < length code.capacities → party_ends code.ends cores links (peer_of code.ends cores l) l ≡ Decides (decisions_in links l)
  peer_has l h =
      let peer = peer_of code.ends cores l in
      ap (λ b. party_end_of (cond b Owner (cond (peer == peer) Peer Neither)) (slice_get links l)) (differs (owner_of code.ends l) peer (apart l h))
      ∙ ap (λ b. party_end_of (cond b Peer Neither) (slice_get links l)) (equals peer peer refl) ∙ ap (party_end_of Peer) (there l h)

  pub other_has : (l p : ℕ) → l < length code.capacities → p ≢ owner_of code.ends l → p ≢ peer_of code.ends cores l → party_ends code.ends cores links p l ≡ Absent
  other_has l p h a b =
      let peer = peer_of code.ends cores l in
      ap (λ t. party_end_of (cond t Owner (cond (peer == p) Peer Neither)) (slice_get links l)) (differs (owner_of code.ends l) p (λ e. a (sym e)))
      ∙ ap (λ t. party_end_of (cond t Peer Neither) (slice_get links l)) (differs peer p (λ e. b (sym e))) ∙ ap (party_end_of Neither) (there l h)

  pub none_has : (l p : ℕ) → length code.capacities ≤ l → party_ends code.ends cores links p l ≡ Absent
  none_has l p h = ap (party_end_of (side_by (owner_of code.ends l) (peer_of code.ends cores l) p)) (nowhere l h)

  pub owner_is_core : (l : ℕ) → l < length code.capacities → owner_of code.ends l < cores
  owner_is_core l h = elim (request_or_channel l h) [
    | inl q ↦ subst (λ (n : ℕ). n < cores) (sym (ap (owner_at channels l) q.1)) q.3.0
    | inr q ↦ (let low = q.1 in let high = q.2 in subst (λ (n : ℕ). n < cores) (sym (ap (owner_at channels l) q.0)) (omega arith))
  ]

  peer_is_party : (l : ℕ) → l < length code.capacities → peer_of code.ends cores l ≤ cores
  peer_is_party l h = elim (request_or_channel l h) [
    | inl q ↦ (let w : q.0.to < cores = q.3.1 in let same : peer_of code.ends cores l ≡ q.0.to = ap (peer_at cores) q.1 in omega arith)
    | inr q ↦ (let same : peer_of code.ends cores l ≡ cores = ap (peer_at cores) q.0 in omega arith)
  ]

  kind_by : (l : ℕ) (b : Bool) → nat_le channels l ≡ b → (l < channels → peer_of code.ends cores l < cores) → (channels ≤ l → peer_of code.ends cores l ≡ cores) →
      IsPeer cores b (peer_of code.ends cores l)
  kind_by l true e f g = g (grind (arith, nat_tests))
  kind_by l false e f g = f (grind (arith, nat_tests))

  pub kind : (l : ℕ) → l < length code.capacities → IsPeer cores (nat_le channels l) (peer_of code.ends cores l)
  kind l h = kind_by l (nat_le channels l) refl
      (λ lt. elim (request_or_channel l h) [
        | inl q ↦ subst (λ (n : ℕ). n < cores) (sym (ap (peer_at cores) q.1)) q.3.1
        | inr q ↦ absurd (let low = q.1 in omega arith)
      ])
      (λ le. elim (request_or_channel l h) [
        | inl q ↦ absurd (let low = q.2 in omega arith)
        | inr q ↦ ap (peer_at cores) q.0
      ])

  -- ---- a party that is no core

  not_own_low : (l : ℕ) → l < channels → is_own channels cores l ≡ false
  not_own_low l h = grind (arith, nat_tests)

  not_own_past : (l : ℕ) → length code.capacities ≤ l → is_own channels cores l ≡ false
  not_own_past l h = let e = valid.each in let past : channels + cores ≤ l = omega arith in grind (arith, nat_tests)

  own_between : (l : ℕ) → channels ≤ l → l < channels + cores → is_own channels cores l ≡ true
  own_between l low high = grind (arith, nat_tests)

  -- the worker decides on the links of requests
  pub worker_has : (l : ℕ) → party_ends code.ends cores links cores l ≡ worker_ends channels cores links l
  worker_has l = elim (leb_tells (length code.capacities) l) [
    | inl q ↦ none_has l cores q.1 ∙ sym (ap (λ b. cond b (Decides (decisions_in links l)) Absent) (not_own_past l q.1))
    | inr q ↦ (let lt : l < length code.capacities = let n = q.1 in omega arith in
        elim (request_or_channel l lt) [
          | inl r ↦
              other_has l cores lt (λ e. absurd (let w : owner_of code.ends l < cores = owner_is_core l lt in omega arith))
              (λ e. absurd (let w : r.0.to < cores = r.3.1 in let same : peer_of code.ends cores l ≡ r.0.to = ap (peer_at cores) r.1 in omega arith))
              ∙ sym (ap (λ b. cond b (Decides (decisions_in links l)) Absent) (not_own_low l r.2))
          | inr r ↦
              ap (λ p. party_ends code.ends cores links p l) (sym (ap (peer_at cores) r.0)) ∙ peer_has l lt
              ∙ sym (ap (λ b. cond b (Decides (decisions_in links l)) Absent) (own_between l r.1 r.2))
        ])
  ]

  -- and nobody comes after it
  pub nobody_has : (p l : ℕ) → cores < p → party_ends code.ends cores links p l ≡ Absent
  nobody_has p l past = elim (leb_tells (length code.capacities) l) [
    | inl q ↦ none_has l p q.1
    | inr q ↦ (let lt : l < length code.capacities = let n = q.1 in omega arith in
        other_has l p lt (λ e. absurd (let w : owner_of code.ends l < cores = owner_is_core l lt in omega arith))
        (λ e. absurd (let w = peer_is_party l lt in omega arith)))
  ]

  -- ---- a party that is a core has that side

  pub owner_side : (core l : ℕ) → l < length code.capacities → owner_of code.ends l ≡ core → side_of code.ends core l ≡ Owner
  owner_side core l h is = elim (request_or_channel l h) [
    | inl q ↦ (let e : q.0.from ≡ core = sym (ap (owner_at channels l) q.1) ∙ is in
        ap (side_at channels core l) q.1 ∙ ap (λ b. cond b Owner (cond (q.0.to == core) Peer Neither)) (equals q.0.from core e))
    | inr q ↦ (let e : l - channels ≡ core = sym (ap (owner_at channels l) q.0) ∙ is in let low = q.1 in
        ap (side_at channels core l) q.0 ∙ ap (λ b. cond b Owner Neither) (equals l (channels + core) (omega arith)))
  ]

  pub peer_side : (core l : ℕ) → core < cores → l < length code.capacities → peer_of code.ends cores l ≡ core → side_of code.ends core l ≡ Peer
  peer_side core l lt h is = elim (request_or_channel l h) [
    | inl q ↦ (let e : q.0.to ≡ core = sym (ap (peer_at cores) q.1) ∙ is in
        ap (side_at channels core l) q.1 ∙ ap (λ b. cond b Owner (cond (q.0.to == core) Peer Neither)) (differs q.0.from core (λ f. q.3.2 (f ∙ sym e)))
        ∙ ap (λ b. cond b Peer Neither) (equals q.0.to core e))
    | inr q ↦ absurd (let e : cores ≡ core = sym (ap (peer_at cores) q.0) ∙ is in omega arith)
  ]

  -- ---- a link on which a core has a side

  owner_within : (core l : ℕ) → core < cores → side_of code.ends core l ≡ Owner → l < length code.capacities
  owner_within core l lt is = elim (slice_get_cases code.ends l).1 [
    | inl q ↦ (let low = q.1 in let e = valid.each in omega arith)
    | inr q ↦ (let e = valid.each in
        let here : l ≡ channels + core = same l (channels + core) (by_request (l == channels + core) (sym (ap (side_at channels core l) q.1) ∙ is)) in
        omega arith)
  ]

  within_by : (core l : ℕ) → core < cores → (side : Side) → side_of code.ends core l ≡ side → (side ≡ Neither → ⊥) → l < length code.capacities
  within_by core l lt Owner is some = owner_within core l lt is
  within_by core l lt Peer is some = let low = peer_of_channel core l is in let e = valid.each in omega arith
  within_by core l lt Neither is some = absurd (some refl)

  pub side_within : (core l : ℕ) → core < cores → (side_of code.ends core l ≡ Neither → ⊥) → l < length code.capacities
  side_within core l lt some = within_by core l lt (side_of code.ends core l) refl some
