-- What a withdrawal changes of an owner's notes: one that is won, and one that finds its offer taken.
use Rattle.std.proofs.Common.{◌≡◌, ℕ, ◌<◌, ◌≤◌, List, Option, Some, None, cond, ◌||◌, sym, ap, ◌∙◌, subst, length, nat_lt, length-set, get_or-set_other, get_or-set_same}
use mathlib.Core.Logic.{dite}
use native.Mathlib.Decide.{ℕ_discrete}
use Rattle.ac_links.specs.Views.{altered}
use Rattle.completion_word.specs.declared.views.Owner.{Owner}
use Rattle.completion_word.specs.declared.views.Offer.{Offer}
use Rattle.completion_word.specs.declared.answers.Withdrawal.TheVariants as withdrawal
use Rattle.completion_word.specs.Link.{offer, offer_at, outcome_at}
use Rattle.completion_word.specs.Steps.{after_withdraw}
use Rattle.channel_ends.specs.declared.marks.Mark.{Mark}
use Rattle.channel_ends.specs.Settled.{stamp_of}
use Rattle.channel_ends.specs.Sending.{withdrawn_at}
use Rattle.channel_ends.specs.inner.Noted.{tabulated, heard_at, mark_at, is_known, known_by, made_by, AreNoted}
use Rattle.channel_ends.specs.inner.Catching.{SameStamps}
use Rattle.channel_ends.proofs.Tables.{table_same, table_changed}
use Rattle.channel_ends.proofs.Heard.{heard_found}
use Rattle.channel_ends.proofs.Noting.{now_gone, others_stay, as_many, heard_stays}
use Rattle.channel_ends.proofs.Changes.{made_from}

-- ---- one that is won

module _ (lead : ℕ) (marks : List Mark) (o : Owner) (number s : ℕ) (n : AreNoted lead marks o) (at : lead ≤ number) (inside : number < length o.offers) (nothing : heard_at o number ≡ None) where
  abbrev after : Owner
  after = after_withdraw withdrawal.Withdrawn number s o

  known_stays : (k : ℕ) → known_by lead marks after k ≡ known_by lead marks o k
  known_stays k = ap (λ (h : Option ℕ). cond (nat_lt k lead || is_known (mark_at marks k)) h None) (heard_stays lead marks o number s n at inside nothing k)

  pub heard_withdraws : tabulated (heard_at after) 0 (length after.offers) ≡ tabulated (heard_at o) 0 (length o.offers)
  heard_withdraws =
      subst (λ (m : ℕ). tabulated (heard_at after) 0 m ≡ tabulated (heard_at o) 0 (length o.offers)) (sym (as_many lead marks o number s n at inside nothing))
      (table_same _ _ 0 (length o.offers) (λ j a l. heard_stays lead marks o number s n at inside nothing j))

  pub offers_withdraws : tabulated (made_by lead marks after) 0 (length after.offers) ≡ altered (tabulated (made_by lead marks o) 0 (length o.offers)) number (withdrawn_at s)
  offers_withdraws =
      subst (λ (m : ℕ). tabulated (made_by lead marks after) 0 m ≡ altered (tabulated (made_by lead marks o) 0 (length o.offers)) number (withdrawn_at s)) (sym
      (as_many lead marks o number s n at inside nothing))
      (sym (table_changed (made_by lead marks o) (made_by lead marks after) (withdrawn_at s) (length o.offers) number inside
      (ap (λ (x : Offer). made_from x (known_by lead marks after number)) (now_gone lead marks o number s n at inside nothing)
      ∙ ap (λ (q : Option ℕ). made_from (record (offer_at o.offers number) { withdrawn = Some s }) q) (known_stays number))
      (λ j l ne. ap (λ (x : Offer). made_from x (known_by lead marks after j)) (others_stay lead marks o number s n at inside nothing j ne)
      ∙ ap (λ (q : Option ℕ). made_from (offer_at o.offers j) q) (known_stays j))))

-- ---- one that finds its offer taken

module _ (o : Owner) (number s t : ℕ) (learned : length o.learned ≤ number) (inside : number < length o.offers) where
  abbrev lost : Owner
  lost = after_withdraw (withdrawal.Taken t) number s o

  abbrev found : Offer
  found = record (offer_at o.offers number) { found_taken = Some t }

  now_found : offer_at lost.offers number ≡ found
  now_found = get_or-set_same o.offers number found (offer 0) inside

  pub same_lost : SameStamps o lost
  same_lost = record {
    count = length-set o.offers number found;
    stamp = λ k. dite (ℕ_discrete k number)
        (λ e. subst (λ (j : ℕ). (offer_at lost.offers j).stamp ≡ (offer_at o.offers j).stamp) (sym e) (ap (λ (x : Offer). x.stamp) now_found))
        (λ ne. ap (λ (x : Offer). x.stamp) (get_or-set_other o.offers number k found (offer 0) ne));
    withdrawn = λ k. dite (ℕ_discrete k number)
        (λ e. subst (λ (j : ℕ). (offer_at lost.offers j).withdrawn ≡ (offer_at o.offers j).withdrawn) (sym e) (ap (λ (x : Offer). x.withdrawn) now_found))
        (λ ne. ap (λ (x : Offer). x.withdrawn) (get_or-set_other o.offers number k found (offer 0) ne));
  }

  pub heard_lost : heard_at lost number ≡ Some t
  heard_lost = heard_found lost number learned ∙ ap (λ (x : Offer). x.found_taken) now_found

  pub others_lost : (k : ℕ) → (k ≡ number → ⊥) → heard_at lost k ≡ heard_at o k
  others_lost k ne = ap (λ (x : Offer). cond (nat_lt k (length o.learned)) (Some (stamp_of (outcome_at o.learned k))) x.found_taken) (get_or-set_other o.offers number k found (offer 0) ne)
