-- The causal order of a legal history goes forward: in places and in stamps. For `stamps_rise`.
-- By induction on the order: along a party both rise, and what is answered is before what answers it.
use Rattle.std.proofs.Common.{◌≡◌, ℕ, ◌<◌, List, Some, sym, ◌∙◌, ap, arith}
use Rattle.std.specs.Prelude.{slice_get}
use Rattle.std.proofs.lemmas.Option.{same_Some}
use Rattle.ac_base.specs.declared.entry.Stamped.{Stamped}
use Rattle.ac_history.specs.History.{IsLegal, start}
use Rattle.ac_causal.specs.Before.{IsBefore, of_one_party, by_answer, by_way}
use Rattle.ac_causal.proofs.Answered.{seen_made, seen_all, stamp_of_party, stamp_of_answer}

stamp_same : (a b : Stamped) → a ≡ b → a.entry.stamp ≡ b.entry.stamp
stamp_same a b h = ap (λ (x : Stamped). x.entry.stamp) h

there : (es : List Stamped) (i j : ℕ) → IsBefore es i j → (b : Stamped) × (slice_get es j ≡ Some b)
there es i j (of_one_party _ _ h) = (h.next, h.is_next)
there es i j (by_answer _ _ h) = (h.answering, h.answers_it)
there es i j (by_way _ k _ f g) = there es k j g

pub places_rise : (capacities widths : List ℕ) (cores : ℕ) (es : List Stamped) (i j : ℕ) → IsLegal (start capacities widths cores) es → IsBefore es i j → i < j
places_rise capacities widths cores es i j legal (of_one_party _ _ h) = h.earlier
places_rise capacities widths cores es i j legal (by_answer _ _ h) =
    (seen_made capacities widths cores es legal j i h.answering h.answers_it (seen_all capacities widths cores es legal i j h)).0
places_rise capacities widths cores es i j legal (by_way _ k _ f g) =
    let a = places_rise capacities widths cores es i k legal f in
    let b = places_rise capacities widths cores es k j legal g in
    omega (arith, a, b)

pub stamps_rise : (capacities widths : List ℕ) (cores : ℕ) (es : List Stamped) (i j : ℕ) (a b : Stamped) → IsLegal (start capacities widths cores) es
    → slice_get es i ≡ Some a → slice_get es j ≡ Some b → IsBefore es i j → a.entry.stamp < b.entry.stamp
stamps_rise capacities widths cores es i j a b legal is_a is_b (of_one_party _ _ h) =
    let p = stamp_of_party capacities widths cores es legal i j h.one h.next h.earlier h.is_one h.is_next h.party in
    let x = stamp_same h.one a (same_Some h.one a (sym h.is_one ∙ is_a)) in
    let y = stamp_same h.next b (same_Some h.next b (sym h.is_next ∙ is_b)) in
    omega (arith, p, x, y)
stamps_rise capacities widths cores es i j a b legal is_a is_b (by_answer _ _ h) =
    let p = stamp_of_answer capacities widths cores es legal i j h in
    let x = stamp_same h.asking a (same_Some h.asking a (sym h.asks ∙ is_a)) in
    let y = stamp_same h.answering b (same_Some h.answering b (sym h.answers_it ∙ is_b)) in
    omega (arith, p, x, y)
stamps_rise capacities widths cores es i j a b legal is_a is_b (by_way _ k _ f g) =
    let m = there es i k f in
    let p = stamps_rise capacities widths cores es i k a m.0 legal is_a m.1 f in
    let q = stamps_rise capacities widths cores es k j m.0 b legal m.1 is_b g in
    omega (arith, p, q)
