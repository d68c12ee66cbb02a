-- Where no stamp of a history is great, no clock of its parties is full.
use Rattle.std.proofs.Common.{◌≡◌, ℕ, zero, suc, ◌<◌, ◌≤◌, List, [], ◌∷◌, ◌++◌, Option, Some, None, Bool, true, false, cond, refl, sym, ap, ◌∙◌, subst, inl, inr, arith, length, get_or, max}
use Rattle.std.specs.Prelude.{◌^◌, nat_le, nat_lt, IfSome, slice_get}
use Rattle.std.specs.List.{AllByRecursion}
use Rattle.std.proofs.lemmas.Bool.{cases_Bool}
use Rattle.std.proofs.lemmas.Bool.Decides.{leb_tells, nat_tests}
use Rattle.std.proofs.lemmas.List.{get_or_past}
use Rattle.ac_base.specs.declared.entry.Entry.{Entry}
use Rattle.ac_base.specs.declared.entry.Stamped.{Stamped}
use Rattle.ac_base.specs.Stamps.{stamp_after}
use Rattle.stack_code.specs.Parts.{Parts}
use Rattle.stack_code.specs.Valid.{HasLinks}
use Rattle.ac_links.specs.Order.{of_party, placed, in_order, stamp_of}
use Rattle.ac_links.specs.Journals.{last_of}
use Rattle.ac_links.specs.Views.{OwnerOffer, PeerDecision}
use Rattle.ac_links.specs.Noted.{or_zero}
use Rattle.ac_links.specs.Party.{LinkEnd}
use Rattle.ac_links.specs.Party.LinkEnd.{Owns, Decides}
use Rattle.ac_history.specs.Merged.{all_from, merged}
use Rattle.core_channels.specs.LinkViews.{LinkViews, no_link, link_at}
use Rattle.core_ports.specs.Ends.{IsDecisionUpTo, IsOfferUpTo, IsUpTo, greatest, last_stamp_of}
use Rattle.core_ports.proofs.UpTo.{up_to_all}
use Rattle.core_ports.specs.declared.side.Side.{Side}
use Rattle.core_ports.specs.declared.side.Side.TheVariants.{Owner, Peer, Neither}
use Rattle.run_laws.specs.Hands.{heard_at}
use Rattle.core_ports.specs.Sides.{side_of}
use Rattle.program_run.specs.Parties.{owner_of, peer_of}
use Rattle.run_laws.specs.Network.{offers_in, decisions_in}
use Rattle.run_laws.specs.Cores.{CoreView, AreCoresOf, HasFullClock, journals_of}
use Rattle.run_laws.proofs.Parties.{party_ends, owner_has, peer_has}
use Rattle.run_laws.specs.Workers.{WorkerAgreesWith, WorkerHasNoStamp}
use Rattle.run_laws.proofs.Together.{party, journal_at, worker_journal}

-- ---- stamps that are left

-- where no stamp comes after one, none comes after a greater one
pub none_above : (last low high : ℕ) → low ≤ high → stamp_after last low ≡ None → stamp_after last high ≡ None
none_above last low high h e = elim (cases_Bool (nat_lt (suc (max last high)) (2 ^ 60))) [
  | inl t ↦ let s : nat_lt (suc (max last low)) (2 ^ 60) ≡ true = grind (arith, nat_tests) in
      let some : stamp_after last low ≡ Some (suc (max last low)) = ap (λ b. cond b (Some (suc (max last low))) None) s in
      absurd (let no : Some (suc (max last low)) ≡ None = sym some ∙ e in cc)
  | inr f ↦ ap (λ b. cond b (Some (suc (max last high))) None) f
]

-- ---- each stamp of a journal is one of the merged history

module _ {X : Type 0} (P : X → Type 0) where
  placed_by : (x y : X) (ys others : List X) (b : Bool) → (AllByRecursion P others → P x × AllByRecursion P ys) → AllByRecursion P (cond b (x ∷ y ∷ ys) (y ∷ others)) → P x × AllByRecursion P (y ∷ ys)
  placed_by x y ys others true ih a = (a.0, a.1)
  placed_by x y ys others false ih a = let r = ih a.1 in (r.0, (a.0, r.1))

  from_placed : (key : X → ℕ) (x : X) (ys : List X) → AllByRecursion P (placed key x ys) → P x × AllByRecursion P ys
  from_placed key x [] a = (a.0, tt)
  from_placed key x (y ∷ ys) a = placed_by x y ys (placed key x ys) (nat_le (key x) (key y)) (from_placed key x ys) a

  from_order : (key : X → ℕ) (xs : List X) → AllByRecursion P (in_order key xs) → AllByRecursion P xs
  from_order key [] a = tt
  from_order key (x ∷ xs) a = let r = from_placed key x (in_order key xs) a in (r.0, from_order key xs r.1)

  halves : (xs ys : List X) → AllByRecursion P (xs ++ ys) → AllByRecursion P xs × AllByRecursion P ys
  halves [] ys a = (tt, a)
  halves (x ∷ xs) ys a = let r = halves xs ys a.1 in ((a.0, r.0), r.1)

abbrev Below : ℕ → Stamped → Type 0
Below most e = e.entry.stamp ≤ most

last_below : (most last p : ℕ) (j : List Entry) → last ≤ most → AllByRecursion (Below most) (of_party p j) → last_of last j ≤ most
last_below most last p [] h a = h
last_below most last p (e ∷ es) h a = last_below most e.stamp p es a.0 a.1

each_last : (most p : ℕ) (js : List (List Entry)) (k : ℕ) → AllByRecursion (Below most) (all_from p js) → last_of 0 (get_or js k []) ≤ most
each_last most p [] k a = omega arith
each_last most p (j ∷ js) zero a = last_below most 0 p j (omega arith) (halves (Below most) (of_party p j) (all_from (suc p) js) a).0
each_last most p (j ∷ js) (suc k) a = each_last most (suc p) js k (halves (Below most) (of_party p j) (all_from (suc p) js) a).1

-- ---- what a side has seen of the other is among the stamps of the other

greatest_below : {X : Type 0} (stamp : X → ℕ) (most : ℕ) (xs : List X) → AllByRecursion (λ x. stamp x ≤ most) xs → greatest stamp xs ≤ most
greatest_below stamp most [] a = omega arith
greatest_below stamp most (x ∷ xs) a = let ih = greatest_below stamp most xs a.1 in let h = a.0 in grind (arith, nat_tests)

all_more : {X : Type 0} (P Q : X → Type 0) → ((x : X) → P x → Q x) → (xs : List X) → AllByRecursion P xs → AllByRecursion Q xs
all_more P Q f [] a = tt
all_more P Q f (x ∷ xs) a = (f x a.0, all_more P Q f xs a.1)

withdrawn_below : (last : ℕ) (w : Option ℕ) → IfSome w (λ s. s ≤ last) → or_zero w ≤ last
withdrawn_below last None h = omega arith
withdrawn_below last (Some s) h = h

offer_below : (last : ℕ) (o : OwnerOffer) → IsOfferUpTo last o → last_stamp_of o ≤ last
offer_below last o h = let a = h.made in let b = withdrawn_below last o.withdrawn h.withdrawn in grind (arith, nat_tests)

decisions_below : (last : ℕ) (x : LinkEnd) (ds : List PeerDecision) → x ≡ Decides ds → IsUpTo last x → greatest (λ (d : PeerDecision). d.stamp) ds ≤ last
decisions_below last x ds e u = greatest_below (λ (d : PeerDecision). d.stamp) last ds (all_more (IsDecisionUpTo last) (λ d. d.stamp ≤ last) (λ d h. h.made) ds (subst (IsUpTo last) e u))

offers_below : (last : ℕ) (x : LinkEnd) (os : List OwnerOffer) → x ≡ Owns os → IsUpTo last x → greatest last_stamp_of os ≤ last
offers_below last x os e u = greatest_below last_stamp_of last os (all_more (IsOfferUpTo last) (λ o. last_stamp_of o ≤ last) (offer_below last) os (subst (IsUpTo last) e u))

not_full : (last heard most : ℕ) → last ≤ most → heard ≤ most → suc most < 2 ^ 60 → stamp_after last heard ≡ None → ⊥
not_full last heard most a b c h = by (nat_lt (suc (max last heard)) (2 ^ 60)) refl h
  where
    by : (t : Bool) → nat_lt (suc (max last heard)) (2 ^ 60) ≡ t → cond t (Some (suc (max last heard))) None ≡ None → ⊥
    by true e k = cc
    by false e k = grind (arith, nat_tests)

heard_none : (side : Side) → heard_at no_link side ≡ 0
heard_none Owner = refl
heard_none Peer = refl
heard_none Neither = refl

module _ (code : Parts) (valid : HasLinks code) (bound : ℕ) (cores : List CoreView) (entries : List Entry) (links : List LinkViews) (all : AreCoresOf code bound cores links)
    (work : WorkerAgreesWith code entries links) (most : ℕ) (small : AllByRecursion (Below most) (merged (journals_of cores entries))) where
  abbrev many : ℕ
  many = length code.entries

  lasts : (p : ℕ) → last_of 0 (get_or (journals_of cores entries) p []) ≤ most
  lasts p = each_last most 0 (journals_of cores entries) p (from_order (Below most) stamp_of (all_from 0 (journals_of cores entries)) small)

  up : (p l : ℕ) → IsUpTo (last_of 0 (get_or (journals_of cores entries) p [])) (party_ends code.ends many links p l)
  up p l = up_to_all _ p (party_ends code.ends many links p) (get_or (journals_of cores entries) p []) (party code valid bound cores entries links all work p) l

  heard_by : (l : ℕ) → l < length code.capacities → (side : Side) → heard_at (link_at links l) side ≤ most
  heard_by l h Owner =
      let p = peer_of code.ends many l in
      let a = lasts p in
      let b = decisions_below (last_of 0 (get_or (journals_of cores entries) p [])) (party_ends code.ends many links p l) (decisions_in links l) (peer_has code valid links all.linked l h) (up p l) in
      omega arith
  heard_by l h Peer =
      let p = owner_of code.ends l in
      let a = lasts p in
      let b = offers_below (last_of 0 (get_or (journals_of cores entries) p [])) (party_ends code.ends many links p l) (offers_in links l) (owner_has code valid links all.linked l h) (up p l) in
      omega arith
  heard_by l h Neither = omega arith

  heard : (l : ℕ) (side : Side) → heard_at (link_at links l) side ≤ most
  heard l side = elim (leb_tells (length code.capacities) l) [
    | inl q ↦ (let e = heard_none side in
        let none : link_at links l ≡ no_link = get_or_past links l no_link (let n = all.linked.count in let le = q.1 in omega arith) in
        let z : heard_at (link_at links l) side ≡ 0 = ap (λ v. heard_at v side) none ∙ e in omega arith)
    | inr q ↦ heard_by l (let n = q.1 in omega arith) side
  ]

  pub none_full : suc most < 2 ^ 60 → (k : ℕ) (c : CoreView) → slice_get cores k ≡ Some c → HasFullClock c links → ⊥
  none_full few k c is h =
      not_full (last_of 0 c.journal) (heard_at (link_at links h.link) (side_of c.code.ends c.core h.link)) most
      (subst (λ j. last_of 0 j ≤ most) (journal_at entries cores k c is) (lasts k)) (heard h.link (side_of c.code.ends c.core h.link)) few h.full

  -- nor is that of the worker
  pub worker_not_full : suc most < 2 ^ 60 → WorkerHasNoStamp entries links → ⊥
  worker_not_full few h =
      not_full (last_of 0 entries) (heard_at (link_at links h.link) Peer) most
      (subst (λ j. last_of 0 j ≤ most) (worker_journal entries cores many all.count) (lasts many)) (heard h.link Peer) few h.full
