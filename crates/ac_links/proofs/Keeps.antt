-- Each change of one side keeps the two views in agreement. For `views_go_on_agreeing`.
-- By induction on the two views, down to the offer that changes; an owner learns only what was decided, and withdraws only what was not.
use Rattle.std.proofs.Common.{◌≡◌, ℕ, zero, suc, ◌≤◌, List, [], ◌∷◌, ◌++◌, Some, None, sym, ap, ◌∙◌, subst, arith, length}
use Rattle.std.specs.Prelude.{slice_get}
use Rattle.ac_base.specs.declared.entry.Answer.{Answer}
use Rattle.ac_links.specs.Payloads.Taking.{Done}
use Rattle.ac_links.specs.Views.{OwnerOffer, PeerDecision, altered, withdrawn_at, known_at, replied_with, OfferAgrees, ViewsAgree}

pub agree_offer : (fs : List OwnerOffer) (gs : List PeerDecision) (o : OwnerOffer) → o.known ≡ None → o.reply ≡ None → ViewsAgree fs gs → ViewsAgree (fs ++ o ∷ []) gs
agree_offer [] [] o e r a = (e, r, tt)
agree_offer [] (d ∷ ds) o e r a = absurd a
agree_offer (x ∷ fs) [] o e r a = (a.0, a.1, agree_offer fs [] o e r a.2)
agree_offer (x ∷ fs) (d ∷ ds) o e r a = (a.0, agree_offer fs ds o e r a.1)

pub agree_decide : (fs : List OwnerOffer) (gs : List PeerDecision) (f : OwnerOffer) (d : PeerDecision) → slice_get fs (length gs) ≡ Some f → OfferAgrees f d → ViewsAgree fs gs
    → ViewsAgree fs (gs ++ d ∷ [])
agree_decide [] gs f d h one a = cc
agree_decide (x ∷ fs) [] f d h one a = let e : f ≡ x = cc in (subst (λ y. OfferAgrees y d) e one, a.2)
agree_decide (x ∷ fs) (y ∷ gs) f d h one a = (a.0, agree_decide fs gs f d h one a.1)

pub agree_withdraw : (fs : List OwnerOffer) (gs : List PeerDecision) (n s : ℕ) → length gs ≤ n → ViewsAgree fs gs → ViewsAgree (altered fs n (withdrawn_at s)) gs
agree_withdraw [] gs n s h a = a
agree_withdraw (x ∷ fs) [] zero s h a = a
agree_withdraw (x ∷ fs) [] (suc n) s h a = (a.0, a.1, agree_withdraw fs [] n s (omega arith) a.2)
agree_withdraw (x ∷ fs) (y ∷ gs) zero s h a = absurd (omega arith)
agree_withdraw (x ∷ fs) (y ∷ gs) (suc n) s h a = (a.0, agree_withdraw fs gs n s (omega arith) a.1)

pub agree_learn : (fs : List OwnerOffer) (gs : List PeerDecision) (n : ℕ) (g : PeerDecision) → slice_get gs n ≡ Some g → ViewsAgree fs gs → ViewsAgree (altered fs n (known_at g.stamp)) gs
agree_learn [] gs n g h a = a
agree_learn (x ∷ fs) [] n g h a = cc
agree_learn (x ∷ fs) (y ∷ gs) zero g h a = let e : g.stamp ≡ y.stamp = (let q : y ≡ g = cc in ap (λ d. d.stamp) (sym q)) in ((a.0.0, a.0.1, e, a.0.3, a.0.4), a.1)
agree_learn (x ∷ fs) (y ∷ gs) (suc n) g h a = (a.0, agree_learn fs gs n g h a.1)

pub agree_reply : (fs : List OwnerOffer) (gs : List PeerDecision) (n : ℕ) (g : PeerDecision) (w : Answer) → slice_get gs n ≡ Some g → g.value ≡ Some (Done w) → ViewsAgree fs gs
    → ViewsAgree (altered fs n (replied_with w g.stamp)) gs
agree_reply [] gs n g w h v a = a
agree_reply (x ∷ fs) [] n g w h v a = cc
agree_reply (x ∷ fs) (y ∷ gs) zero g w h v a = let q : y ≡ g = cc in ((a.0.0, a.0.1, a.0.2, a.0.3, (ap (λ d. d.value) q ∙ v, ap (λ d. d.stamp) (sym q))), a.1)
agree_reply (x ∷ fs) (y ∷ gs) (suc n) g w h v a = (a.0, agree_reply fs gs n g w h v a.1)
