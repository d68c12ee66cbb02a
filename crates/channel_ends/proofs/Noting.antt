-- How the notes of an owner's side change: where an offer is posted, where one is withdrawn, and where one more is heard or known.
-- In each case the notes hold again (`AreNoted`), number by number; the lists that contracts see follow in Changes.
use Rattle.std.proofs.Common.{◌≡◌, ℕ, ◌+◌, ◌%◌, ◌<◌, ◌≤◌, List, [], ◌∷◌, ◌++◌, Option, Some, None, Bool, true, refl, sym, ap, ◌∙◌, subst, arith, length, set, is_some, cond, nat_lt}
use Rattle.std.proofs.Common.{⊎_elim, length-append, length-set, get_or-set_other, get_or-set_same}
use Rattle.std.proofs.lemmas.List.{get_or_append_left, get_or_push}
use Rattle.std.proofs.lemmas.Bool.{cases_lt}
use Rattle.std.specs.Option.{ForSome}
use mathlib.Core.Logic.{dite}
use native.Mathlib.Decide.{ℕ_discrete}
use Rattle.completion_word.specs.declared.views.Owner.{Owner}
use Rattle.completion_word.specs.declared.views.Offer.{Offer}
use Rattle.completion_word.specs.Link.{offer, offer_at, outcome_at}
use Rattle.channel_ends.specs.Settled.{stamp_of}
use Rattle.completion_word.specs.Steps.{after_post, after_withdraw}
use Rattle.completion_word.specs.declared.answers.Withdrawal.TheVariants as withdrawal
use Rattle.channel_ends.specs.declared.marks.Mark.{Mark}
use Rattle.channel_ends.specs.declared.marks.Mark.TheVariants.{Open, Known, Seen}
use Rattle.channel_ends.specs.inner.Noted.{heard_at, mark_at, is_known, MarkFits, IsMarked, AreNoted}
use Rattle.channel_ends.specs.inner.Knowing.{IsKnownFrom}
use Rattle.channel_ends.specs.inner.Catching.{SameStamps, IsSame, GoesOn}
use Rattle.channel_ends.proofs.Lists.{mark_set, mark_kept}
use Rattle.channel_ends.proofs.Heard.{heard_posted, heard_of_new}

-- a mark fits where all three are the same
pub marks_same : (m m' : Mark) (h h' : Option ℕ) (w w' : Bool) → m' ≡ m → h' ≡ h → w' ≡ w → MarkFits m h w → MarkFits m' h' w'
marks_same m m' h h' w w' a b c f = subst (λ x. MarkFits x h' w') (sym a) (subst (λ x. MarkFits m x w') (sym b) (subst (λ x. MarkFits m h x) (sym c) f))

-- of an offer whose mark says that it is known, a decision was heard
pub known_is_heard : (m : Mark) (h : Option ℕ) (w : Bool) → is_known m ≡ true → MarkFits m h w → is_some h ≡ true
known_is_heard Open h w e f = cc
known_is_heard Known h w e f = f
known_is_heard (Seen gone stamp) h w e f = cc

some_heard : (h : Option ℕ) (t : ℕ) → h ≡ Some t → is_some h ≡ true
some_heard h t e = ap is_some e

-- ---- one offer more

module _ (lead : ℕ) (marks : List Mark) (o : Owner) (t : ℕ) (n : AreNoted lead marks o) (learned : length o.learned ≤ length o.offers) (len : length marks ≡ 64) (lt : length o.offers % 64 < 64)
    (room : length o.offers < lead + 64) where
  posted_marked : (k : ℕ) → lead ≤ k → k < length (o.offers ++ offer t ∷ []) → IsMarked (set marks (length o.offers % 64) Open) (after_post t o) k
  posted_marked k a l =
      dite (ℕ_discrete k (length o.offers))
      (λ e. subst (λ (j : ℕ). IsMarked (set marks (length o.offers % 64) Open) (after_post t o) j) (sym e)
      (subst (λ m. MarkFits m (heard_at (after_post t o) (length o.offers)) (is_some (offer_at (after_post t o).offers (length o.offers)).withdrawn)) (sym (mark_set marks
      (length o.offers) Open len lt))
      (heard_of_new o t learned)))
      (λ ne. let below : k < length o.offers = omega (arith, length-append o.offers (offer t ∷ [])) in
      marks_same (mark_at marks k) _ (heard_at o k) _ (is_some (offer_at o.offers k).withdrawn) _
      (mark_kept marks (length o.offers) k lead Open ne n.lead_within a room (omega (arith, n.near)))
      (heard_posted o t k below)
      (ap (λ (x : Offer). is_some x.withdrawn) (get_or_append_left o.offers (offer t ∷ []) (offer 0) k below))
      (n.marked k a below))

  pub noted_posted : AreNoted lead (set marks (length o.offers % 64) Open) (after_post t o)
  noted_posted = record {
    lead_within = omega (arith, n.lead_within, length-append o.offers (offer t ∷ []));
    near = omega (arith, room, length-append o.offers (offer t ∷ []));
    learned = n.learned;
    leading = λ k l. ap is_some (heard_posted o t k (omega (arith, n.lead_within))) ∙ n.leading k l;
    marked = posted_marked;
    first = λ l. dite (ℕ_discrete lead (length o.offers))
        (λ e. ap is_known (subst (λ (j : ℕ). mark_at (set marks (length o.offers % 64) Open) j ≡ Open) (sym e) (mark_set marks (length o.offers) Open len lt)))
        (λ ne. ap is_known (mark_kept marks (length o.offers) lead lead Open ne n.lead_within (omega arith) room (omega arith)) ∙ n.first (omega (arith, n.lead_within)));
    last = λ most h. let here = h (length o.offers) (omega (arith, length-append o.offers (offer t ∷ []))) in
        subst (λ (x : Offer). x.stamp ≤ most) (get_or_push o.offers (offer t) (offer 0) (length o.offers) refl) here.0;
  }

-- ---- one that is heard

module _ (lead : ℕ) (marks : List Mark) (o o' : Owner) (n : AreNoted lead marks o) (len : length marks ≡ 64) (number : ℕ) (at : lead ≤ number) (inside : number < length o.offers)
    (lt : number % 64 < 64) (same : SameStamps o o') (last : o'.last ≡ o.last) (learned : length o'.learned ≤ lead + 1)
    (others : (k : ℕ) → (k ≡ number → ⊥) → heard_at o' k ≡ heard_at o k) where
  -- the marks of the others fit as before, whatever the mark of this one is now
  others_marked : (m : Mark) (k : ℕ) → lead ≤ k → k < length o.offers → (k ≡ number → ⊥) → IsMarked (set marks (number % 64) m) o' k
  others_marked m k a l ne =
      marks_same (mark_at marks k) _ (heard_at o k) _ (is_some (offer_at o.offers k).withdrawn) _
      (mark_kept marks number k lead m ne at a (omega (arith, n.near)) (omega (arith, n.near)))
      (others k ne)
      (ap is_some (same.withdrawn k))
      (n.marked k a l)

  all_marked : (m : Mark) → MarkFits m (heard_at o' number) (is_some (offer_at o'.offers number).withdrawn) → (k : ℕ) → lead ≤ k → k < length o'.offers
      → IsMarked (set marks (number % 64) m) o' k
  all_marked m fits k a l =
      dite (ℕ_discrete k number)
      (λ e. subst (λ (j : ℕ). IsMarked (set marks (number % 64) m) o' j) (sym e)
      (subst (λ x. MarkFits x (heard_at o' number) (is_some (offer_at o'.offers number).withdrawn)) (sym (mark_set marks number m len lt)) fits))
      (λ ne. others_marked m k a (omega (arith, same.count)) ne)

  lasts : (most : ℕ) → ((k : ℕ) → k < length o'.offers → ((offer_at o'.offers k).stamp ≤ most) × ForSome (offer_at o'.offers k).withdrawn (λ w. w ≤ most)) → o'.last ≤ most
  lasts most h = subst (λ x. x ≤ most) (sym last)
      (n.last most (λ k l. let at_k = h k (omega (arith, same.count)) in (subst (λ x. x ≤ most) (same.stamp k) at_k.0, subst (λ q. ForSome q (λ w. w ≤ most)) (same.withdrawn k) at_k.1)))

  leads : (k : ℕ) → k < lead → is_some (heard_at o' k) ≡ true
  leads k l = ap is_some (others k (λ e. omega arith)) ∙ n.leading k l

  -- and no stamp is left for it
  pub noted_seen : (gone : Bool) (t : ℕ) → heard_at o' number ≡ Some t → gone ≡ is_some (offer_at o'.offers number).withdrawn
      → AreNoted lead (set marks (number % 64) (Seen gone t)) o'
  noted_seen gone t heard is = record {
    lead_within = omega (arith, n.lead_within, same.count);
    near = omega (arith, n.near, same.count);
    learned = learned;
    leading = leads;
    marked = all_marked (Seen gone t) (heard, is);
    first = λ l. dite (ℕ_discrete lead number)
        (λ e. ap is_known (subst (λ (j : ℕ). mark_at (set marks (number % 64) (Seen gone t)) j ≡ Seen gone t) (sym e) (mark_set marks number (Seen gone t) len lt)))
        (λ ne. ap is_known (mark_kept marks number lead lead (Seen gone t) ne at (omega arith) (omega (arith, n.near)) (omega arith))
        ∙ n.first (omega (arith, same.count)));
    last = lasts;
  }

  -- and known
  pub noted_known : (t end : ℕ) → heard_at o' number ≡ Some t → IsKnownFrom (set marks (number % 64) Known) lead (length o'.offers) end
      → AreNoted end (set marks (number % 64) Known) o'
  noted_known t end heard from =
      let fits = all_marked Known (some_heard (heard_at o' number) t heard) in
      record {
        lead_within = from.below;
        near = omega (arith, n.near, from.above, same.count);
        learned = omega (arith, learned, from.above);
        leading = λ k l. ⊎_elim (λ (a : k < lead). leads k a)
            (λ (a : lead ≤ k). known_is_heard _ _ _ (from.known k a l) (fits k a (omega (arith, from.below))))
            (cases_lt k lead);
        marked = λ k a l. fits k (omega (arith, from.above)) l;
        first = from.first;
        last = lasts;
      }

-- ---- learning on the words alone

pub noted_same : (lead : ℕ) (marks : List Mark) (o o' : Owner) → AreNoted lead marks o → IsSame o o' → ((k : ℕ) → heard_at o' k ≡ heard_at o k) → length o'.learned ≤ lead + 1
    → AreNoted lead marks o'
noted_same lead marks o o' n same heard learned = record {
  lead_within = omega (arith, n.lead_within, ap length same.offers);
  near = omega (arith, n.near, ap length same.offers);
  learned = learned;
  leading = λ k l. ap is_some (heard k) ∙ n.leading k l;
  marked = λ k a l. marks_same (mark_at marks k) _ (heard_at o k) _ (is_some (offer_at o.offers k).withdrawn) _ refl (heard k) (ap (λ xs. is_some (offer_at xs k).withdrawn) same.offers)
      (n.marked k a (omega (arith, ap length same.offers)));
  first = λ l. n.first (omega (arith, ap length same.offers));
  last = λ most h. subst (λ x. x ≤ most) (sym same.last)
      (n.last most (λ k l. subst (λ xs. ((offer_at xs k).stamp ≤ most) × ForSome (offer_at xs k).withdrawn (λ w. w ≤ most)) same.offers (h k (omega (arith, ap length same.offers)))));
}

pub noted_caught : (lead : ℕ) (marks : List Mark) (o o' : Owner) → AreNoted lead marks o → GoesOn lead o o' → AreNoted lead marks o'
noted_caught lead marks o o' n goes = noted_same lead marks o o' n goes.same goes.heard (omega (arith, n.learned, goes.most))

-- ---- one that is withdrawn

open_fits : (m : Mark) (h : Option ℕ) (w w' : Bool) → h ≡ None → MarkFits m h w → MarkFits m h w'
open_fits Open h w w' e f = f
open_fits Known h w w' e f = absurd cc
open_fits (Seen gone stamp) h w w' e f = let g = f.0 in absurd cc

module _ (lead : ℕ) (marks : List Mark) (o : Owner) (number s : ℕ) (n : AreNoted lead marks o) (at : lead ≤ number) (inside : number < length o.offers) (nothing : heard_at o number ≡ None) where
  abbrev after : Owner
  after = after_withdraw withdrawal.Withdrawn number s o

  abbrev gone : Offer
  gone = record (offer_at o.offers number) { withdrawn = Some s }

  pub now_gone : offer_at after.offers number ≡ gone
  now_gone = get_or-set_same o.offers number gone (offer 0) inside

  pub others_stay : (k : ℕ) → (k ≡ number → ⊥) → offer_at after.offers k ≡ offer_at o.offers k
  others_stay k ne = get_or-set_other o.offers number k gone (offer 0) ne

  pub as_many : length after.offers ≡ length o.offers
  as_many = length-set o.offers number gone

  found_same : (k : ℕ) → (offer_at after.offers k).found_taken ≡ (offer_at o.offers k).found_taken
  found_same k = dite (ℕ_discrete k number)
      (λ e. subst (λ (j : ℕ). (offer_at after.offers j).found_taken ≡ (offer_at o.offers j).found_taken) (sym e) (ap (λ (x : Offer). x.found_taken) now_gone))
      (λ ne. ap (λ (x : Offer). x.found_taken) (others_stay k ne))

  pub heard_stays : (k : ℕ) → heard_at after k ≡ heard_at o k
  heard_stays k = ap (λ q. cond (nat_lt k (length o.learned)) (Some (stamp_of (outcome_at o.learned k))) q) (found_same k)

  pub noted_withdrawn : AreNoted lead marks after
  noted_withdrawn = record {
    lead_within = omega (arith, n.lead_within, as_many);
    near = omega (arith, n.near, as_many);
    learned = n.learned;
    leading = λ k l. ap is_some (heard_stays k) ∙ n.leading k l;
    marked = λ k a l. dite (ℕ_discrete k number)
        (λ e. subst (λ (j : ℕ). IsMarked marks after j) (sym e)
        (open_fits (mark_at marks number) (heard_at after number) (is_some (offer_at o.offers number).withdrawn) _ (heard_stays number ∙ nothing)
        (subst (λ h. MarkFits (mark_at marks number) h (is_some (offer_at o.offers number).withdrawn)) (sym (heard_stays number)) (n.marked number at inside))))
        (λ ne. marks_same (mark_at marks k) _ (heard_at o k) _ (is_some (offer_at o.offers k).withdrawn) _ refl (heard_stays k)
        (ap (λ (x : Offer). is_some x.withdrawn) (others_stay k ne)) (n.marked k a (omega (arith, as_many))));
    first = λ l. n.first (omega (arith, as_many));
    last = λ most h. (h number (omega (arith, as_many))).1 s (ap (λ (x : Offer). x.withdrawn) now_gone);
  }
