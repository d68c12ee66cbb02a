-- What contracts see of an owner's notes after a change: one element of its lists is another, and the rest is as it was.
use Rattle.std.proofs.Common.{◌≡◌, ℕ, suc, ◌+◌, ◌%◌, ◌<◌, ◌≤◌, List, [], ◌∷◌, ◌++◌, Option, Some, None, Bool, true, false, cond, ◌||◌, refl, sym, ap, ◌∙◌, subst, arith, length, set, is_some}
use Rattle.std.proofs.Common.{⊎_elim, length-append, nat_lt}
use Rattle.std.proofs.lemmas.List.{get_or_append_left, get_or_push}
use Rattle.std.proofs.lemmas.Bool.{cases_lt}
use mathlib.Core.Logic.{dite}
use native.Mathlib.Decide.{ℕ_discrete}
use Rattle.ac_links.specs.Views.{altered}
use Rattle.completion_word.specs.declared.views.Owner.{Owner}
use Rattle.completion_word.specs.declared.views.Offer.{Offer}
use Rattle.completion_word.specs.Link.{offer, offer_at}
use Rattle.completion_word.specs.Steps.{after_post}
use Rattle.channel_ends.specs.declared.marks.Mark.{Mark}
use Rattle.channel_ends.specs.declared.marks.Mark.TheVariants.{Open, Known, Seen}
use Rattle.channel_ends.specs.Sending.{MadeOffer, made_offer, known_at, known_lead}
use Rattle.channel_ends.specs.inner.Noted.{tabulated, heard_at, mark_at, is_known, known_by, made_by, AreNoted}
use Rattle.channel_ends.specs.inner.Knowing.{IsKnownFrom}
use Rattle.channel_ends.specs.inner.Catching.{SameStamps, GoesOn}
use Rattle.channel_ends.proofs.Lists.{is_less, is_not_less, mark_set, mark_kept}
use Rattle.channel_ends.proofs.Tables.{table_same, table_more, table_changed, table_lead}
use Rattle.channel_ends.proofs.Heard.{heard_posted, heard_of_new}

-- an offer of the words, with what is known of it
abbrev pub made_from : Offer → Option ℕ → MadeOffer
made_from x q = record { stamp = x.stamp; withdrawn = x.withdrawn; known = q }

-- ---- what is known of one offer

or_true : (b : Bool) → (b || true) ≡ true
or_true true = refl
or_true false = refl

pub known_below : (lead : ℕ) (marks : List Mark) (o : Owner) (k : ℕ) → k < lead → known_by lead marks o k ≡ heard_at o k
known_below lead marks o k l = ap (λ b. cond (b || is_known (mark_at marks k)) (heard_at o k) None) (is_less k lead l)

pub known_marked : (lead : ℕ) (marks : List Mark) (o : Owner) (k : ℕ) → is_known (mark_at marks k) ≡ true → known_by lead marks o k ≡ heard_at o k
known_marked lead marks o k e = ap (λ b. cond (nat_lt k lead || b) (heard_at o k) None) e ∙ ap (λ b. cond b (heard_at o k) None) (or_true (nat_lt k lead))

pub known_not : (lead : ℕ) (marks : List Mark) (o : Owner) (k : ℕ) → lead ≤ k → is_known (mark_at marks k) ≡ false → known_by lead marks o k ≡ None
known_not lead marks o k l e =
    ap (λ b. cond (nat_lt k lead || b) (heard_at o k) None) e ∙ ap (λ b. cond (b || false) (heard_at o k) None) (is_not_less k lead l)

-- the count of known leading offers is the one that is kept
pub lead_is : (lead : ℕ) (marks : List Mark) (o : Owner) → AreNoted lead marks o → known_lead (tabulated (made_by lead marks o) 0 (length o.offers)) ≡ lead
lead_is lead marks o n =
    table_lead (made_by lead marks o) 0 (length o.offers) lead n.lead_within
    (λ j a l. ap is_some (known_below lead marks o j (omega arith)) ∙ n.leading j (omega arith))
    (λ l. let here : 0 + lead ≡ lead = omega arith in
    subst (λ (j : ℕ). is_some (known_by lead marks o j) ≡ false) (sym here) (ap is_some (known_not lead marks o lead (omega arith) (n.first l))))

-- ---- one more is heard, and known

module _ (lead : ℕ) (marks : List Mark) (o o' : Owner) (n : AreNoted lead marks o) (number t : ℕ) (at : lead ≤ number) (inside : number < length o.offers)
    (same : SameStamps o o') (others : (k : ℕ) → (k ≡ number → ⊥) → heard_at o' k ≡ heard_at o k) (heard : heard_at o' number ≡ Some t) where
  pub heard_list : tabulated (heard_at o') 0 (length o'.offers) ≡ altered (tabulated (heard_at o) 0 (length o.offers)) number (λ _. Some t)
  heard_list =
      subst (λ (m : ℕ). tabulated (heard_at o') 0 m ≡ altered (tabulated (heard_at o) 0 (length o.offers)) number (λ _. Some t)) (sym same.count)
      (sym (table_changed (heard_at o) (heard_at o') (λ _. Some t) (length o.offers) number inside heard (λ j l ne. others j ne)))

  made_of_same : (q q' : Option ℕ) (k : ℕ) → q ≡ q' → made_from (offer_at o'.offers k) q ≡ made_from (offer_at o.offers k) q'
  made_of_same q q' k e =
      ap (λ (s : ℕ). made_from (record { stamp = s; withdrawn = (offer_at o'.offers k).withdrawn; found_taken = None }) q) (same.stamp k)
      ∙ ap (λ (w : Option ℕ). made_from (record { stamp = (offer_at o.offers k).stamp; withdrawn = w; found_taken = None }) q) (same.withdrawn k)
      ∙ ap (λ (q : Option ℕ). made_from (offer_at o.offers k) q) e

  -- an offer as it was, where what is known of it is
  made_same : (lead' : ℕ) (marks' : List Mark) (k : ℕ) → known_by lead' marks' o' k ≡ known_by lead marks o k → made_by lead' marks' o' k ≡ made_by lead marks o k
  made_same lead' marks' k e = made_of_same (known_by lead' marks' o' k) (known_by lead marks o k) k e

  -- where it is heard only, the offers are as before
  pub offers_heard : (gone : Bool) → length marks ≡ 64 → number % 64 < 64 → is_known (mark_at marks number) ≡ false
      → tabulated (made_by lead (set marks (number % 64) (Seen gone t)) o') 0 (length o'.offers) ≡ tabulated (made_by lead marks o) 0 (length o.offers)
  offers_heard gone len lt open' =
      subst (λ (m : ℕ). tabulated (made_by lead (set marks (number % 64) (Seen gone t)) o') 0 m ≡ tabulated (made_by lead marks o) 0 (length o.offers)) (sym same.count)
      (table_same _ _ 0 (length o.offers) (λ j a l. made_same lead (set marks (number % 64) (Seen gone t)) j (one j (omega arith))))
    where
      marks' : List Mark
      marks' = set marks (number % 64) (Seen gone t)

      above : (j : ℕ) → lead ≤ j → j < length o.offers → (j ≡ number → ⊥) → (b : Bool) → is_known (mark_at marks j) ≡ b → known_by lead marks' o' j ≡ known_by lead marks o j
      above j a l ne true e =
          known_marked lead marks' o' j (ap is_known (mark_kept marks number j lead (Seen gone t) ne at a (omega (arith, n.near)) (omega (arith, n.near))) ∙ e)
          ∙ others j ne ∙ sym (known_marked lead marks o j e)
      above j a l ne false e =
          known_not lead marks' o' j a (ap is_known (mark_kept marks number j lead (Seen gone t) ne at a (omega (arith, n.near)) (omega (arith, n.near))) ∙ e)
          ∙ sym (known_not lead marks o j a e)

      here : known_by lead marks' o' number ≡ known_by lead marks o number
      here = known_not lead marks' o' number at (ap is_known (mark_set marks number (Seen gone t) len lt)) ∙ sym (known_not lead marks o number at open')

      one : (j : ℕ) → j < length o.offers → known_by lead marks' o' j ≡ known_by lead marks o j
      one j l = dite (ℕ_discrete j number) (λ e. subst (λ (i : ℕ). known_by lead marks' o' i ≡ known_by lead marks o i) (sym e) here)
          (λ ne. ⊎_elim
          (λ (a : j < lead). known_below lead marks' o' j a ∙ others j ne ∙ sym (known_below lead marks o j a))
          (λ (a : lead ≤ j). above j a l ne (is_known (mark_at marks j)) refl)
          (cases_lt j lead))

  -- where it is known, it alone is another
  pub offers_known : (end : ℕ) → length marks ≡ 64 → number % 64 < 64 → IsKnownFrom (set marks (number % 64) Known) lead (length o'.offers) end
      → tabulated (made_by end (set marks (number % 64) Known) o') 0 (length o'.offers) ≡ altered (tabulated (made_by lead marks o) 0 (length o.offers)) number (known_at t)
  offers_known end len lt from =
      subst (λ (m : ℕ). tabulated (made_by end (set marks (number % 64) Known) o') 0 m ≡ altered (tabulated (made_by lead marks o) 0 (length o.offers)) number (known_at t)) (sym same.count)
      (sym (table_changed (made_by lead marks o) (made_by end marks' o') (known_at t) (length o.offers) number inside here (λ j l ne. made_same end marks' j (one j l ne))))
    where
      true_not_false : true ≡ false → ⊥
      true_not_false e = cc

      marks' : List Mark
      marks' = set marks (number % 64) Known

      kept : (j : ℕ) → lead ≤ j → j < length o.offers → (j ≡ number → ⊥) → is_known (mark_at marks' j) ≡ is_known (mark_at marks j)
      kept j a l ne = ap is_known (mark_kept marks number j lead Known ne at a (omega (arith, n.near)) (omega (arith, n.near)))

      above : (j : ℕ) → lead ≤ j → j < length o.offers → (j ≡ number → ⊥) → (b : Bool) → is_known (mark_at marks j) ≡ b → known_by end marks' o' j ≡ known_by lead marks o j
      above j a l ne true e = known_marked end marks' o' j (kept j a l ne ∙ e) ∙ others j ne ∙ sym (known_marked lead marks o j e)
      above j a l ne false e =
          known_not end marks' o' j
          (⊎_elim (λ (b : j < end). absurd (true_not_false (sym (from.known j a b) ∙ kept j a l ne ∙ e))) (λ (b : end ≤ j). b) (cases_lt j end))
          (kept j a l ne ∙ e)
          ∙ sym (known_not lead marks o j a e)

      one : (j : ℕ) → j < length o.offers → (j ≡ number → ⊥) → known_by end marks' o' j ≡ known_by lead marks o j
      one j l ne = ⊎_elim
          (λ (a : j < lead). known_below end marks' o' j (omega (arith, from.above)) ∙ others j ne ∙ sym (known_below lead marks o j a))
          (λ (a : lead ≤ j). above j a l ne (is_known (mark_at marks j)) refl)
          (cases_lt j lead)

      here : made_by end marks' o' number ≡ known_at t (made_by lead marks o number)
      here = made_of_same (known_by end marks' o' number) (Some t) number (known_marked end marks' o' number (ap is_known (mark_set marks number Known len lt)) ∙ heard)

-- ---- learning on the words alone

pub heard_caught : (lead : ℕ) (o o' : Owner) → GoesOn lead o o' → tabulated (heard_at o') 0 (length o'.offers) ≡ tabulated (heard_at o) 0 (length o.offers)
heard_caught lead o o' goes =
    subst (λ xs. tabulated (heard_at o') 0 (length xs) ≡ tabulated (heard_at o) 0 (length o.offers)) (sym goes.same.offers)
    (table_same _ _ 0 (length o.offers) (λ j a l. goes.heard j))

-- ---- one offer more

module _ (lead : ℕ) (marks : List Mark) (o o' : Owner) (t : ℕ) (n : AreNoted lead marks o) (goes : GoesOn lead o o') (learned : length o'.learned ≤ length o'.offers) (len : length marks ≡ 64)
    (lt : length o'.offers % 64 < 64) (room : length o'.offers < lead + 64) where
  private_count : length o'.offers ≡ length o.offers
  private_count = ap length goes.same.offers

  longer : length (after_post t o').offers ≡ suc (length o'.offers)
  longer = omega (arith, length-append o'.offers (offer t ∷ []))

  pub heard_posts : tabulated (heard_at (after_post t o')) 0 (length (after_post t o').offers) ≡ tabulated (heard_at o) 0 (length o.offers) ++ None ∷ []
  heard_posts =
      let here : 0 + length o'.offers ≡ length o'.offers = omega arith in
      ap (λ (m : ℕ). tabulated (heard_at (after_post t o')) 0 m) longer
      ∙ table_more (heard_at (after_post t o')) 0 (length o'.offers)
      ∙ ap (λ xs. xs ++ heard_at (after_post t o') (0 + length o'.offers) ∷ []) (table_same _ (heard_at o') 0 (length o'.offers) (λ j a l. heard_posted o' t j (omega arith))
      ∙ heard_caught lead o o' goes)
      ∙ ap (λ q. tabulated (heard_at o) 0 (length o.offers) ++ q ∷ []) (ap (heard_at (after_post t o')) here ∙ heard_of_new o' t learned)

  abbrev marks' : List Mark
  marks' = set marks (length o'.offers % 64) Open

  before : (k : ℕ) → k < length o'.offers → known_by lead marks' (after_post t o') k ≡ known_by lead marks o k
  before k l = ⊎_elim
      (λ (a : k < lead). known_below lead marks' (after_post t o') k a ∙ heard_posted o' t k l ∙ goes.heard k ∙ sym (known_below lead marks o k a))
      (λ (a : lead ≤ k). above a (is_known (mark_at marks k)) refl)
      (cases_lt k lead)
    where
      kept : lead ≤ k → is_known (mark_at marks' k) ≡ is_known (mark_at marks k)
      kept a = ap is_known (mark_kept marks (length o'.offers) k lead Open (λ e. omega arith) (omega arith) a room (omega arith))

      above : lead ≤ k → (b : Bool) → is_known (mark_at marks k) ≡ b → known_by lead marks' (after_post t o') k ≡ known_by lead marks o k
      above a true e = known_marked lead marks' (after_post t o') k (kept a ∙ e) ∙ heard_posted o' t k l ∙ goes.heard k ∙ sym (known_marked lead marks o k e)
      above a false e = known_not lead marks' (after_post t o') k a (kept a ∙ e) ∙ sym (known_not lead marks o k a e)

  made_before : (k : ℕ) → k < length o'.offers → made_by lead marks' (after_post t o') k ≡ made_by lead marks o k
  made_before k l =
      ap (λ (x : Offer). made_from x (known_by lead marks' (after_post t o') k)) (get_or_append_left o'.offers (offer t ∷ []) (offer 0) k l ∙ ap (λ xs. offer_at xs k) goes.same.offers)
      ∙ ap (λ (q : Option ℕ). made_from (offer_at o.offers k) q) (before k l)

  newest : made_by lead marks' (after_post t o') (length o'.offers) ≡ made_offer t
  newest =
      let inside : lead ≤ length o'.offers = omega (arith, n.lead_within, private_count) in
      ap (λ (x : Offer). made_from x (known_by lead marks' (after_post t o') (length o'.offers))) (get_or_push o'.offers (offer t) (offer 0) (length o'.offers) refl)
      ∙ ap (λ (q : Option ℕ). made_from (offer t) q) (known_not lead marks' (after_post t o') (length o'.offers) inside (ap is_known (mark_set marks (length o'.offers) Open len lt)))

  pub offers_posts : tabulated (made_by lead (set marks (length o'.offers % 64) Open) (after_post t o')) 0 (length (after_post t o').offers)
      ≡ tabulated (made_by lead marks o) 0 (length o.offers) ++ made_offer t ∷ []
  offers_posts =
      let here : 0 + length o'.offers ≡ length o'.offers = omega arith in
      ap (λ (m : ℕ). tabulated (made_by lead marks' (after_post t o')) 0 m) longer
      ∙ table_more (made_by lead marks' (after_post t o')) 0 (length o'.offers)
      ∙ ap (λ xs. xs ++ made_by lead marks' (after_post t o') (0 + length o'.offers) ∷ [])
      (table_same _ (made_by lead marks o) 0 (length o'.offers) (λ j a l. made_before j (omega arith)) ∙ ap (λ (m : ℕ). tabulated (made_by lead marks o) 0 m) private_count)
      ∙ ap (λ q. tabulated (made_by lead marks o) 0 (length o.offers) ++ q ∷ []) (ap (made_by lead marks' (after_post t o')) here ∙ newest)
