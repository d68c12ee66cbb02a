-- Where all cores and all links rest, the run is quiet, and the other way round. For `is_quiet`.
-- The test asks each core and each link once, where the definition asks of each core all of its links; the two are matched by a link's owner and peer.
use Rattle.std.proofs.Common.{◌≡◌, ℕ, zero, suc, ◌+◌, ◌<◌, ◌≤◌, List, [], ◌∷◌, Option, Some, None, Bool, true}
use Rattle.std.proofs.Common.{false, refl, sym, ap, ◌∙◌, ◌⊎◌, zero-add, subst, inl, inr, arith, length, eq-eqb, eqb-true}
use Rattle.std.specs.Prelude.{◌==◌, ◌&&◌, ◌||◌, nat_le, nat_eq, slice_get}
use Rattle.std.specs.List.{list_any, list_all, enumerate_from, AllByRecursion}
use Rattle.std.proofs.lemmas.Option.{slice_get_within, slice_get_cases}
use Rattle.ac_base.specs.declared.ends.Waiting.{Waiting}
use Rattle.ac_base.specs.declared.ends.CoreEnd.{CoreEnd}
use Rattle.ac_links.specs.declared.offer.LinkOffer.{LinkOffer}
use Rattle.ac_links.specs.AtRest.{has_front, has_room, is_news, is_unreplied}
use Rattle.ac_history.specs.History.{Past, link_at, terms_of}
use Rattle.ac_history.specs.Quiet.{has_stopped, is_waiting, owner_in, owner_at, peer_in, peer_at, CoreIsQuiet, IsQuiet}
use Rattle.ac_history.specs.inner.Resting.{has_for, can_go_on, core_rests, is_idle, idles, link_rests, cores_rest, links_rest}
use Rattle.ac_history.specs.declared.quiet.LinkParties.{LinkParties}

-- ---- tests of each element with its place

each_passes : {X : Type 0} (p : ℕ → X → Bool) (n : ℕ) (xs : List X) → list_all (λ (c : ℕ × X). p c.0 c.1) (enumerate_from n xs) ≡ true
    → (k : ℕ) (x : X) → slice_get xs k ≡ Some x → p (n + k) x ≡ true
each_passes p n [] all k x at = cc
each_passes p n (y ∷ ys) all zero x at =
    let same : y ≡ x = cc in let here : p n y ≡ true = grind arith in let place : n + 0 ≡ n = omega arith in rw place (subst (λ z. p n z ≡ true) same here)
each_passes p n (y ∷ ys) all (suc k) x at =
    let rest : list_all (λ c. p c.0 c.1) (enumerate_from (n + 1) ys) ≡ true = grind arith in
    let place : (n + 1) + k ≡ n + suc k = omega arith in
    subst (λ m. p m x ≡ true) place (each_passes p (n + 1) ys rest k x at)

all_pass : {X : Type 0} (p : ℕ → X → Bool) (n : ℕ) (xs : List X) → ((k : ℕ) (x : X) → slice_get xs k ≡ Some x → p (n + k) x ≡ true)
    → list_all (λ (c : ℕ × X). p c.0 c.1) (enumerate_from n xs) ≡ true
all_pass p n [] each = refl
all_pass p n (y ∷ ys) each =
    let place : n + 0 ≡ n = omega arith in
    let here : p n y ≡ true = subst (λ m. p m y ≡ true) place (each 0 y refl) in
    let rest : list_all (λ c. p c.0 c.1) (enumerate_from (n + 1) ys) ≡ true =
    all_pass p (n + 1) ys (λ k x at. let moved : n + suc k ≡ (n + 1) + k = omega arith in subst (λ m. p m x ≡ true) moved (each (suc k) x at)) in
    grind arith

-- ---- what waits in a core

bool_cases : (b : Bool) → (b ≡ true) ⊎ (b ≡ false)
bool_cases true = inl refl
bool_cases false = inr refl

-- what waits on link l could go on there, if it had anything for the core
none_can_go_on : (past : Past) (parties : List LinkParties) (k l : ℕ) (ws : List Waiting) → list_any (can_go_on past parties k) ws ≡ false
    → list_any (λ w. nat_eq w.link l && is_waiting w.phase) ws ≡ true → has_for past l (slice_get parties l) k ≡ false
none_can_go_on past parties k l [] none some = cc
none_can_go_on past parties k l (w ∷ ws) none some =
    elim (bool_cases (nat_eq w.link l && is_waiting w.phase)) [
      | inl here ↦
          let at : w.link ≡ l = eqb-true w.link l grind arith in
          let no : can_go_on past parties k w ≡ false = grind arith in
          let waits : is_waiting w.phase ≡ true = grind arith in
          let has : has_for past w.link (slice_get parties w.link) k ≡ false = grind arith in
          subst (λ m. has_for past m (slice_get parties m) k ≡ false) at has
      | inr other ↦ none_can_go_on past parties k l ws grind arith grind arith
    ]

some_can_go_on : (past : Past) (parties : List LinkParties) (k : ℕ) (ws : List Waiting) → list_any (can_go_on past parties k) ws ≡ true
    → (l : ℕ) × (list_any (λ w. nat_eq w.link l && is_waiting w.phase) ws ≡ true) × (has_for past l (slice_get parties l) k ≡ true)
some_can_go_on past parties k [] some = cc
some_can_go_on past parties k (w ∷ ws) some =
    elim (bool_cases (can_go_on past parties k w)) [
      | inl here ↦ (w.link, (let same : nat_eq w.link w.link ≡ true = eq-eqb w.link w.link refl in grind arith), grind arith)
      | inr other ↦ let (l, waits, has) = some_can_go_on past parties k ws grind arith in (l, grind arith, has)
    ]

-- ---- where all rest, it is quiet

-- the parties of a link that is there
parties_there : (parties : List LinkParties) (n l : ℕ) → length parties ≡ n → l < n → (p : LinkParties) × (slice_get parties l ≡ Some p)
parties_there parties n l same h =
    elim (slice_get_cases parties l).1 [
      | inl w ↦ (w.0, w.2)
      | inr w ↦ absurd (omega arith)
    ]

-- no element passes either of two tests
neither : (os : List LinkOffer) → list_any (λ o. is_news o || is_unreplied o) os ≡ false
    → AllByRecursion (λ o. is_news o ≡ false) os × AllByRecursion (λ o. is_unreplied o ≡ false) os
neither [] none = (tt, tt)
neither (o ∷ os) none = let rest = neither os grind arith in ((grind arith, rest.0), (grind arith, rest.1))

none_of : (os : List LinkOffer) → AllByRecursion (λ o. is_news o ≡ false) os → AllByRecursion (λ o. is_unreplied o ≡ false) os
    → list_any (λ o. is_news o || is_unreplied o) os ≡ false
none_of [] known replied = refl
none_of (o ∷ os) known replied =
    let a : is_news o ≡ false = known.0 in let b : is_unreplied o ≡ false = replied.0 in
    let rest : list_any (λ o. is_news o || is_unreplied o) os ≡ false = none_of os known.1 replied.1 in grind arith

-- A link that is there has an owner and a peer. What the owner is still to know or to have comes from the test of the link, room and offers from that of the core:
-- an operation that waits on a link could go on there if the link had anything for the core.
pub rests_is_quiet : (past : Past) (parties : List LinkParties) (cores : List CoreEnd) → length parties ≡ length past.links
    → cores_rest past parties cores ≡ true → links_rest past parties cores ≡ true → IsQuiet (owner_in parties) (peer_in parties) past cores
rests_is_quiet past parties cores same all each = record { core = core; worker = worker }
  where
    link : (l : ℕ) (p : LinkParties) → slice_get parties l ≡ Some p → link_rests past cores l p ≡ true
    link l p at = subst (λ m. link_rests past cores m p ≡ true) (zero-add l) (each_passes (link_rests past cores) 0 parties each l p at)

    worker : (l : ℕ) → l < length past.links → past.channels ≤ l → has_front (link_at past l) ≡ false
    worker l h from =
        let (p, at) = parties_there parties (length past.links) l same h in
        let rests : link_rests past cores l p ≡ true = link l p at in
        let asks : nat_le past.channels l ≡ true = grind arith in
        grind arith

    core : (k : ℕ) (c : CoreEnd) → slice_get cores k ≡ Some c → CoreIsQuiet (owner_in parties) (peer_in parties) past k c
    core k c there =
        let rests : core_rests past parties k c ≡ true =
        subst (λ m. core_rests past parties m c ≡ true) (zero-add k) (each_passes (core_rests past parties) 0 cores all k c there) in
        record {
          stopped = grind arith;
          owns = λ idle l h is.
              let (p, at) = parties_there parties (length past.links) l same h in
              let mine : p.owner ≡ k = sym (ap owner_at at) ∙ is in
              let its : link_rests past cores l p ≡ true = link l p at in
              let idles_here : idles cores p.owner ≡ true = subst (λ m. idles cores m ≡ true) (sym mine) (ap is_idle there ∙ idle) in
              let none : list_any (λ o. is_news o || is_unreplied o) (link_at past l) ≡ false = grind arith in
              let both = neither (link_at past l) none in
              record {
                known = both.0;
                replied = both.1;
                full = λ waits.
                    let no : list_any (can_go_on past parties k) c.waiting ≡ false = grind arith in
                    let has : has_for past l (Some p) k ≡ false = subst (λ o. has_for past l o k ≡ false) at (none_can_go_on past parties k l c.waiting no waits) in
                    let owns : (p.owner == k) ≡ true = eq-eqb p.owner k mine in grind arith;
              };
          decides = λ idle l h is waits.
              let (p, at) = parties_there parties (length past.links) l same h in
              let mine : p.peer ≡ k = sym (ap peer_at at) ∙ is in
              let no : list_any (can_go_on past parties k) c.waiting ≡ false = grind arith in
              let has : has_for past l (Some p) k ≡ false = subst (λ o. has_for past l o k ≡ false) at (none_can_go_on past parties k l c.waiting no waits) in
              let takes : (p.peer == k) ≡ true = eq-eqb p.peer k mine in grind arith;
        }

-- ---- where it is quiet, all rest

-- what has something for a core has parties, and is there
has_parties : (past : Past) (l k : ℕ) (o : Option LinkParties) → has_for past l o k ≡ true → (p : LinkParties) × (o ≡ Some p)
has_parties past l k None has = cc
has_parties past l k (Some p) has = (p, refl)

-- Were an operation able to go on, its link would have room for the core as its owner, or an offer for it as its peer; where it is quiet, it has neither.
pub quiet_cores_rest : (past : Past) (parties : List LinkParties) (cores : List CoreEnd) → length parties ≡ length past.links
    → IsQuiet (owner_in parties) (peer_in parties) past cores → cores_rest past parties cores ≡ true
quiet_cores_rest past parties cores same quiet =
    all_pass (core_rests past parties) 0 cores (λ k c at. subst (λ m. core_rests past parties m c ≡ true) (sym (zero-add k)) (each k c at))
  where
    -- an operation that could go on has something waiting for it on a link that is there
    cannot : (k : ℕ) (c : CoreEnd) → CoreIsQuiet (owner_in parties) (peer_in parties) past k c → c.idle ≡ true → list_any (can_go_on past parties k) c.waiting ≡ true → ⊥
    cannot k c q idle some =
        let (l, waits, has) = some_can_go_on past parties k c.waiting some in
        let (p, at) = has_parties past l k (slice_get parties l) has in
        let here : has_for past l (Some p) k ≡ true = subst (λ o. has_for past l o k ≡ true) at has in
        let within : l < length parties = slice_get_within parties l p at in
        let there : l < length past.links = subst (λ n. l < n) same within in
        elim (bool_cases (p.owner == k)) [
          | inl mine ↦
              let is : owner_in parties l ≡ k = ap owner_at at ∙ eqb-true p.owner k mine in
              let full : has_room (terms_of past.capacities past.channels l) (link_at past l) ≡ false = (q.owns idle l there is).full waits in
              elim (bool_cases (p.peer == k)) [
                | inl takes ↦
                    let none : has_front (link_at past l) ≡ false = q.decides idle l there (ap peer_at at ∙ eqb-true p.peer k takes) waits in
                    cc
                | inr other ↦ cc
              ]
          | inr other ↦
              elim (bool_cases (p.peer == k)) [
                | inl takes ↦
                    let none : has_front (link_at past l) ≡ false = q.decides idle l there (ap peer_at at ∙ eqb-true p.peer k takes) waits in
                    cc
                | inr neither_side ↦ cc
              ]
        ]

    each : (k : ℕ) (c : CoreEnd) → slice_get cores k ≡ Some c → core_rests past parties k c ≡ true
    each k c at =
        let q = quiet.core k c at in
        let stopped : has_stopped c ≡ true = q.stopped in
        elim (bool_cases c.idle) [
          | inl idle ↦
              elim (bool_cases (list_any (can_go_on past parties k) c.waiting)) [
                | inl some ↦ absurd (cannot k c q idle some)
                | inr none ↦ grind arith
              ]
          | inr ended ↦ grind arith
        ]

pub quiet_links_rest : (past : Past) (parties : List LinkParties) (cores : List CoreEnd) → length parties ≡ length past.links
    → IsQuiet (owner_in parties) (peer_in parties) past cores → links_rest past parties cores ≡ true
quiet_links_rest past parties cores same quiet =
    all_pass (link_rests past cores) 0 parties (λ l p at. subst (λ m. link_rests past cores m p ≡ true) (sym (zero-add l)) (each l p at))
  where
    told : (l : ℕ) (p : LinkParties) → slice_get parties l ≡ Some p → l < length past.links → (o : Option CoreEnd) → slice_get cores p.owner ≡ o → is_idle o ≡ true
        → list_any (λ o. is_news o || is_unreplied o) (link_at past l) ≡ false
    told l p at h None there idle = cc
    told l p at h (Some c) there idle =
        let owned = (quiet.core p.owner c there).owns idle l h (ap owner_at at) in none_of (link_at past l) owned.known owned.replied

    each : (l : ℕ) (p : LinkParties) → slice_get parties l ≡ Some p → link_rests past cores l p ≡ true
    each l p at =
        let within : l < length parties = slice_get_within parties l p at in
        let h : l < length past.links = subst (λ n. l < n) same within in
        let asks : (nat_le past.channels l && has_front (link_at past l)) ≡ false =
        elim (bool_cases (nat_le past.channels l)) [
          | inl from ↦ let none : has_front (link_at past l) ≡ false = quiet.worker l h grind arith in grind arith
          | inr channel ↦ grind arith
        ] in
        elim (bool_cases (idles cores p.owner)) [
          | inl idle ↦ let none : list_any (λ o. is_news o || is_unreplied o) (link_at past l) ≡ false = told l p at h (slice_get cores p.owner) refl idle in grind arith
          | inr busy ↦ grind arith
        ]
