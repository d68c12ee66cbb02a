-- The parties of a merge as it begins: each may go on, and the two ends of each link are of one pair.
use Rattle.std.proofs.Common.{◌≡◌, ℕ, suc, ◌<◌, List, [], ◌∷◌, ◌++◌, Some, length, map, refl, sym, ap, ◌∙◌, subst, arith, inl, inr}
use Rattle.std.specs.Prelude.{slice_get, ◌⊎◌}
use Rattle.std.specs.List.{AllByRecursion}
use Rattle.std.proofs.lemmas.Bool.{cases_lt}
use Rattle.std.proofs.lemmas.Option.{slice_get_within}
use Rattle.settled_rounds.specs.declared.party.Way.{Way}
use Rattle.settled_rounds.specs.Linked.{OnLinks}
use Rattle.merge_run.specs.declared.producer.Producer.{Producer}
use Rattle.merge_run.specs.declared.party.MergeParty.{MergeParty}
use Rattle.merge_run.specs.declared.party.MergeParty.TheVariants.{Produces, Relays, Consumes}
use Rattle.merge_run.specs.inner.Parties.{IsGoing, IsProducing, HaveEnds, AreEndsAt}
use Rattle.merge_run.specs.inner.Making.{AreNewParties, AreWaysOf}
use Rattle.merge_run.proofs.Positions.{same_Some, exists, among, next, next_but_one, all_of}
use Rattle.merge_run.proofs.Made.{way}

-- a link is that of a producer, or the last one
which : (width : ℕ) (ways : List Way) (l : ℕ) (w : Way) → AreWaysOf width ways → slice_get ways l ≡ Some w
    → ((l < width) × (way l width ≡ w)) ⊎ ((width ≡ l) × (way width (suc width) ≡ w))
which width ways l w h at =
    elim (cases_lt l width) [
      | inl m ↦ inl (m, same_Some (way l width) w (sym (h.each l m) ∙ at))
      | inr g ↦ let b = slice_get_within ways l w at in let c = h.ways_count in
          let e : width ≡ l = omega (arith, g, b, c) in
          inr (e, same_Some (way width (suc width)) w (sym h.last ∙ ap (slice_get ways) e ∙ at))
    ]

module _ (width count : ℕ) (ps : List MergeParty) (new : AreNewParties width count ps) where
  pub parties_count : length ps ≡ suc (suc width)
  parties_count =
      let a = all_of Produces new.producers (Relays new.relay ∷ Consumes new.consumer ∷ []) in
      let b = ap length new.are in let c = new.producers_count in omega (arith, a, b, c)

  pub relay_at : slice_get ps width ≡ Some (Relays new.relay)
  relay_at =
      subst (λ k. slice_get ps k ≡ Some (Relays new.relay)) new.producers_count
      (subst (λ xs. slice_get xs (length new.producers) ≡ Some (Relays new.relay)) (sym new.are)
      (next Produces new.producers (Relays new.relay) (Consumes new.consumer ∷ [])))

  pub consumer_at : slice_get ps (suc width) ≡ Some (Consumes new.consumer)
  consumer_at =
      subst (λ k. slice_get ps (suc k) ≡ Some (Consumes new.consumer)) new.producers_count
      (subst (λ xs. slice_get xs (suc (length new.producers)) ≡ Some (Consumes new.consumer)) (sym new.are)
      (next_but_one Produces new.producers (Relays new.relay) (Consumes new.consumer) []))

  two_at : (l : ℕ) (a b x y : MergeParty) (from to : ℕ) → slice_get ps from ≡ Some x → slice_get ps to ≡ Some y → slice_get ps from ≡ Some a → slice_get ps to ≡ Some b
      → HaveEnds l x y → HaveEnds l a b
  two_at l a b x y from to is_x is_y is_a is_b h =
      subst (λ v. HaveEnds l v b) (same_Some x a (sym is_x ∙ is_a)) (subst (λ v. HaveEnds l x v) (same_Some y b (sym is_y ∙ is_b)) h)

  pub all_paired : (ways : List Way) → AreWaysOf width ways → OnLinks HaveEnds ways ps
  all_paired ways h l w a b is from to =
      elim (which width ways l w h is) [
        | inl p ↦
            let at = among Produces new.producers (Relays new.relay ∷ Consumes new.consumer ∷ []) l (let c = new.producers_count in omega (arith, c, p.0)) in
            let r = exists new.relay.ins l (let c = new.producers_count in let d = new.new.same_count in omega (arith, c, d, p.0)) in
            let pair : AreEndsAt at.0.end (slice_get new.relay.ins l) = subst (λ o. AreEndsAt at.0.end o) (sym r.1) (new.new.each l at.0 r.0 at.1 r.1).pair in
            two_at l a b (Produces at.0) (Relays new.relay) l width (ap (λ xs. slice_get xs l) new.are ∙ at.2) relay_at
            (subst (λ (v : Way). slice_get ps v.from ≡ Some a) (sym p.1) from) (subst (λ (v : Way). slice_get ps v.to ≡ Some b) (sym p.1) to) pair
        | inr p ↦
            two_at l a b (Relays new.relay) (Consumes new.consumer) width (suc width) relay_at consumer_at
            (subst (λ (v : Way). slice_get ps v.from ≡ Some a) (sym p.1) from) (subst (λ (v : Way). slice_get ps v.to ≡ Some b) (sym p.1) to) new.out
      ]

  all_produce : (qs : List Producer) (rest : List MergeParty) → ((k : ℕ) (p : Producer) → slice_get qs k ≡ Some p → IsProducing p) → AllByRecursion IsGoing rest
      → AllByRecursion IsGoing (map Produces qs ++ rest)
  all_produce [] rest each more = more
  all_produce (q ∷ qs) rest each more = (each 0 q refl, all_produce qs rest (λ k p at. each (suc k) p at) more)

  pub all_going : AllByRecursion IsGoing ps
  all_going =
      subst (λ xs. AllByRecursion IsGoing xs) (sym new.are)
      (all_produce new.producers (Relays new.relay ∷ Consumes new.consumer ∷ [])
      (λ k p at. let r = exists new.relay.ins k (let b = slice_get_within new.producers k p at in let d = new.new.same_count in omega (arith, b, d)) in
      (new.new.each k p r.0 at r.1).going)
      (new.carries, (new.consumes, tt)))
