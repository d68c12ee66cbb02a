-- What the calls of the parties leave of what holds of one, or of the two at the ends of a link.
use Rattle.std.specs.Prelude.{◌≡◌, ℕ, zero, suc, ℤ, List, [], ◌∷◌, length, Some, None, slice_get, refl, ◌⊎◌}
use mathlib.Core.List.{IsPrefix}
use Rattle.std.proofs.Common.{sym, ◌∙◌, subst, arith, inl, inr, ⊎_elim}
use Rattle.channel_ends.specs.Sending.{Sending}
use Rattle.channel_ends.specs.Receiving.{Receiving}
use Rattle.channel_ends.specs.Pairs.{IsSameSend, IsSameRecv}
use Rattle.ac_choice.specs.AnyOf.{SoAt, AreSameEnds}
use Rattle.ac_choice.specs.Relaying.{Relaying}
use Rattle.ac_choice.specs.Steps.{IsSameRelay}
use Rattle.merge_run.specs.declared.producer.Producer.{Producer}
use Rattle.merge_run.specs.declared.party.MergeParty.{MergeParty}
use Rattle.merge_run.specs.declared.party.MergeParty.TheVariants.{Produces, Relays, Consumes}
use Rattle.merge_run.specs.inner.Parties.{IsSameProducer, IsGoing, IsLater, HaveEnds, AreEndsAt, AreSettledAt, IsPrefixAt}
use Rattle.merge_run.specs.inner.Parties.{HasPopped, KeepsLists}

-- ---- lists of ends

same_Some : {X : Type 0} (x y : X) → Some x ≡ Some y → x ≡ y
same_Some x y e = cc

pub so_self : {X : Type 0} (R : X → X → Type 0) → ((x : X) → R x x) → (xs : List X) (k : ℕ) → SoAt R xs k xs
so_self R self xs k = λ a b from to. subst (λ z. R a z) (same_Some a b (sym from ∙ to)) (self a)

pub both_at : {X : Type 0} (xs ys : List X) (k : ℕ) → length ys ≡ length xs
    → ((x : X) × (y : X) × (slice_get xs k ≡ Some x) × (slice_get ys k ≡ Some y)) ⊎ ((slice_get xs k ≡ None) × (slice_get ys k ≡ None))
both_at [] [] k e = inr (refl, refl)
both_at [] (y ∷ ys) k e = absurd (omega arith)
both_at (x ∷ xs) [] k e = absurd (omega arith)
both_at (x ∷ xs) (y ∷ ys) zero e = inl (x, y, refl, refl)
both_at (x ∷ xs) (y ∷ ys) (suc k) e = both_at xs ys k (omega arith)

abbrev Both : {X : Type 0} → List X → List X → ℕ → Type 0
Both {X} xs ys k = (x : X) × (y : X) × (slice_get xs k ≡ Some x) × (slice_get ys k ≡ Some y)

abbrev Neither : {X : Type 0} → List X → List X → ℕ → Type 0
Neither xs ys k = (slice_get xs k ≡ None) × (slice_get ys k ≡ None)

so_then : {X : Type 0} (R : X → X → Type 0) → ((x y z : X) → R x y → R y z → R x z) → (xs ys zs : List X) (k : ℕ) → length ys ≡ length xs
    → SoAt R xs k ys → SoAt R ys k zs → SoAt R xs k zs
so_then {X} R then xs ys zs k count h i = λ a c from to.
    ⊎_elim (λ (p : Both xs ys k). then a p.1 c (h a p.1 from p.3) (i p.1 c p.3 to))
    (λ (p : Neither xs ys k). absurd (let e = p.0 in cc)) (both_at xs ys k count)

-- ---- the same ends

same_send : {M : Type 0} (s : Sending M) → IsSameSend s s
same_send s = record { table = refl; ring = refl }

send_then : {M : Type 0} (r s t : Sending M) → IsSameSend r s → IsSameSend s t → IsSameSend r t
send_then r s t a b = record { table = b.table ∙ a.table; ring = b.ring ∙ a.ring }

same_recv : {M : Type 0} (r : Receiving M) → IsSameRecv r r
same_recv r = record { table = refl; ring = refl }

recv_then : {M : Type 0} (r s t : Receiving M) → IsSameRecv r s → IsSameRecv s t → IsSameRecv r t
recv_then r s t a b = record { table = b.table ∙ a.table; ring = b.ring ∙ a.ring }

same_relay : (r : Relaying) → IsSameRelay r r
same_relay r = record { ins = record { count = refl; each = so_self IsSameRecv same_recv r.ins }; out = same_send r.out }

relay_then : (r s t : Relaying) → IsSameRelay r s → IsSameRelay s t → IsSameRelay r t
relay_then r s t a b = record {
  ins = record {
    count = b.ins.count ∙ a.ins.count;
    each = λ k. so_then IsSameRecv recv_then r.ins s.ins t.ins k a.ins.count (a.ins.each k) (b.ins.each k);
  };
  out = send_then r.out s.out t.out a.out b.out;
}

producer_then : (p q r : Producer) → IsSameProducer p q → IsSameProducer q r → IsSameProducer p r
producer_then p q r a b = record {
  end = send_then p.end q.end r.end a.end b.end;
  tag = b.tag ∙ a.tag;
  width = b.width ∙ a.width;
  count = b.count ∙ a.count;
}

-- ---- the laws

pub later_self : (p : MergeParty) → IsLater p p
later_self (Produces p) = (record { end = same_send p.end; tag = refl; width = refl; count = refl }, λ h. h)
later_self (Relays r) = (same_relay r, λ h. h)
later_self (Consumes c) = (same_recv c.end, λ h. h)

pub later_then : (p q r : MergeParty) → IsLater p q → IsLater q r → IsLater p r
later_then (Produces p) (Produces q) (Produces r) a b = (producer_then p q r a.0 b.0, λ h. b.1 (a.1 h))
later_then (Produces p) (Produces q) (Relays t) a b = absurd b
later_then (Produces p) (Produces q) (Consumes e) a b = absurd b
later_then (Produces p) (Relays s) r a b = absurd a
later_then (Produces p) (Consumes d) r a b = absurd a
later_then (Relays r) (Produces q) t a b = absurd a
later_then (Relays r) (Relays s) (Produces p) a b = absurd b
later_then (Relays r) (Relays s) (Relays t) a b = (relay_then r s t a.0 b.0, λ h. b.1 (a.1 h))
later_then (Relays r) (Relays s) (Consumes e) a b = absurd b
later_then (Relays r) (Consumes d) t a b = absurd a
later_then (Consumes c) (Produces q) e a b = absurd a
later_then (Consumes c) (Relays s) e a b = absurd a
later_then (Consumes c) (Consumes d) (Produces q) a b = absurd b
later_then (Consumes c) (Consumes d) (Relays s) a b = absurd b
later_then (Consumes c) (Consumes d) (Consumes e) a b = (recv_then c.end d.end e.end a.0 b.0, λ h. b.1 (a.1 h))

pub going_stays : (p q : MergeParty) → IsGoing p → IsLater p q → IsGoing q
going_stays (Produces p) (Produces q) h a = a.1 h
going_stays (Produces p) (Relays s) h a = absurd a
going_stays (Produces p) (Consumes d) h a = absurd a
going_stays (Relays r) (Produces q) h a = absurd a
going_stays (Relays r) (Relays s) h a = a.1 h
going_stays (Relays r) (Consumes d) h a = absurd a
going_stays (Consumes c) (Produces q) h a = absurd a
going_stays (Consumes c) (Relays s) h a = absurd a
going_stays (Consumes c) (Consumes d) h a = a.1 h

pub keeps_self : (p : MergeParty) → KeepsLists p p
keeps_self (Produces p) = refl
keeps_self (Relays r) = record { count = refl; ins = so_self HasPopped (λ a. refl) r.ins; out = refl }
keeps_self (Consumes c) = refl

ends_at : (s t : Sending ℤ) (xs ys : List (Receiving ℤ)) (l : ℕ) → AreEndsAt s (slice_get xs l) → IsSameSend s t → AreSameEnds xs ys →
    AreEndsAt t (slice_get ys l)
ends_at s t xs ys l h a b =
    ⊎_elim (λ (p : Both xs ys l).
    let e = subst (λ o. AreEndsAt s o) p.2 h in
    let f = b.each l p.0 p.1 p.2 p.3 in
    subst (λ o. AreEndsAt t o) (sym p.3) (a.table ∙ e.0 ∙ sym f.table, a.ring ∙ e.1 ∙ sym f.ring))
    (λ (p : Neither xs ys l). absurd (subst (λ o. AreEndsAt s o) p.0 h)) (both_at xs ys l b.count)

pub ends_stay : (l : ℕ) (p q r s : MergeParty) → HaveEnds l p q → IsLater p r → IsLater q s → HaveEnds l r s
ends_stay l (Produces a) (Produces b) r s h x y = absurd h
ends_stay l (Produces a) (Relays b) (Produces c) (Produces d) h x y = absurd y
ends_stay l (Produces a) (Relays b) (Produces c) (Relays d) h x y = ends_at a.end c.end b.ins d.ins l h x.0.end y.0.ins
ends_stay l (Produces a) (Relays b) (Produces c) (Consumes d) h x y = absurd y
ends_stay l (Produces a) (Relays b) (Relays c) s h x y = absurd x
ends_stay l (Produces a) (Relays b) (Consumes c) s h x y = absurd x
ends_stay l (Produces a) (Consumes b) r s h x y = absurd h
ends_stay l (Relays a) (Produces b) r s h x y = absurd h
ends_stay l (Relays a) (Relays b) r s h x y = absurd h
ends_stay l (Relays a) (Consumes b) (Produces c) s h x y = absurd x
ends_stay l (Relays a) (Consumes b) (Relays c) (Produces d) h x y = absurd y
ends_stay l (Relays a) (Consumes b) (Relays c) (Relays d) h x y = absurd y
ends_stay l (Relays a) (Consumes b) (Relays c) (Consumes d) h x y =
    (x.0.out.table ∙ h.0 ∙ sym y.0.table, x.0.out.ring ∙ h.1 ∙ sym y.0.ring)
ends_stay l (Relays a) (Consumes b) (Consumes c) s h x y = absurd x
ends_stay l (Consumes a) q r s h x y = absurd h

prefix_at : (xs ys : List (Receiving ℤ)) (l : ℕ) (ps qs : List ℤ) → IsPrefixAt (slice_get xs l) ps → length ys ≡ length xs → SoAt HasPopped
    xs l ys → qs ≡ ps
    → IsPrefixAt (slice_get ys l) qs
prefix_at xs ys l ps qs h count so e =
    ⊎_elim (λ (p : Both xs ys l).
    let f : IsPrefix p.0.popped ps = subst (λ o. IsPrefixAt o ps) p.2 h in
    subst (λ o. IsPrefixAt o qs) (sym p.3) (subst (λ us. IsPrefix us qs) (sym (so p.0 p.1 p.2 p.3)) (subst (λ us. IsPrefix p.0.popped us)
    (sym e) f)))
    (λ (p : Neither xs ys l). absurd (subst (λ o. IsPrefixAt o ps) p.0 h)) (both_at xs ys l count)

pub settled_keeps : (l : ℕ) (p q r s : MergeParty) → AreSettledAt l p q → KeepsLists p r → KeepsLists q s → AreSettledAt l r s
settled_keeps l (Produces a) (Produces b) r s h x y = absurd h
settled_keeps l (Produces a) (Relays b) (Produces c) (Produces d) h x y = absurd y
settled_keeps l (Produces a) (Relays b) (Produces c) (Relays d) h x y = prefix_at b.ins d.ins l a.end.payloads c.end.payloads h y.count
    (y.ins l) x
settled_keeps l (Produces a) (Relays b) (Produces c) (Consumes d) h x y = absurd y
settled_keeps l (Produces a) (Relays b) (Relays c) s h x y = absurd x
settled_keeps l (Produces a) (Relays b) (Consumes c) s h x y = absurd x
settled_keeps l (Produces a) (Consumes b) r s h x y = absurd h
settled_keeps l (Relays a) (Produces b) r s h x y = absurd h
settled_keeps l (Relays a) (Relays b) r s h x y = absurd h
settled_keeps l (Relays a) (Consumes b) (Produces c) s h x y = absurd x
settled_keeps l (Relays a) (Consumes b) (Relays c) (Produces d) h x y = absurd y
settled_keeps l (Relays a) (Consumes b) (Relays c) (Relays d) h x y = absurd y
settled_keeps l (Relays a) (Consumes b) (Relays c) (Consumes d) h x y =
    subst (λ us. IsPrefix us c.out.payloads) (sym y) (subst (λ us. IsPrefix b.end.popped us) (sym x.out) h)
settled_keeps l (Relays a) (Consumes b) (Consumes c) s h x y = absurd x
settled_keeps l (Consumes a) q r s h x y = absurd h
