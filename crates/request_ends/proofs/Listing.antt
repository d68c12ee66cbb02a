-- The list of a core's requests, with their replies, as one is made, withdrawn, known or replied.
use Rattle.std.proofs.Common.{◌≡◌, ℕ, zero, suc, ◌≤◌, List, [], ◌∷◌, ◌++◌, Option, Some, None, true, refl, sym, ap, ◌∙◌, subst, arith, length, is_some}
use Rattle.ac_base.specs.declared.entry.Payload.{Payload}
use Rattle.ac_links.specs.Views.{Response, OwnerOffer, owner_offer, altered, replied_with, withdrawn_at as withdrawn_in, known_at as known_in}
use Rattle.channel_ends.specs.Sending.{MadeOffer, made_offer, withdrawn_at, known_at}
use Rattle.request_ends.specs.declared.marks.Asked.{Asked}
use Rattle.request_ends.specs.declared.marks.Asked.TheVariants.{Started}
use Rattle.request_ends.specs.Asking.{asked, reply_for, replies_after}
use Rattle.request_ends.specs.Marking.{AreNoted}
use Rattle.request_ends.proofs.Nexts.{none_after, none_for, rest_over, rest_marked}

-- a request as the list has it
abbrev one : Payload → MadeOffer → Option Response → OwnerOffer
one x o r = record { payload = x; stamp = o.stamp; withdrawn = o.withdrawn; known = o.known; reply = r }

pub asked_more : (n : ℕ) (xs : List Payload) (os : List MadeOffer) (rs : List Response) (ms : List Asked) (x : Payload) (s : ℕ) → length xs ≡ length os
    → AreNoted n os rs ms → asked (xs ++ x ∷ []) (os ++ made_offer s ∷ []) rs ≡ asked xs os rs ++ owner_offer x s ∷ []
asked_more zero [] [] rs ms x s e h = subst (λ (rs : List Response). asked (x ∷ []) (made_offer s ∷ []) rs ≡ owner_offer x s ∷ []) (sym h.0) refl
asked_more (suc n) xs [] rs ms x s e h = absurd h
asked_more n [] (o ∷ os) rs ms x s e h = absurd (omega arith)
asked_more zero (y ∷ xs) [] rs ms x s e h = absurd (omega arith)
asked_more zero (y ∷ xs) (o ∷ os) rs [] x s e h = absurd h.1
asked_more zero (y ∷ xs) (o ∷ os) rs (m ∷ ms) x s e h = ap (λ l. one y o (reply_for o.withdrawn rs) ∷ l)
    (asked_more zero xs os (replies_after o.withdrawn rs) ms x s (omega arith) (rest_marked o os rs m ms h))
asked_more (suc n) (y ∷ xs) (o ∷ os) rs ms x s e h = ap (λ l. one y o (reply_for o.withdrawn rs) ∷ l)
    (asked_more n xs os (replies_after o.withdrawn rs) ms x s (omega arith) (rest_over n o os rs ms h))

pub asked_known : (xs : List Payload) (os : List MadeOffer) (rs : List Response) (k of : ℕ)
    → asked xs (altered os k (known_at of)) rs ≡ altered (asked xs os rs) k (known_in of)
asked_known [] os rs k of = refl
asked_known (x ∷ xs) [] rs k of = refl
asked_known (x ∷ xs) (o ∷ os) rs zero of = refl
asked_known (x ∷ xs) (o ∷ os) rs (suc k) of = ap (λ l. one x o (reply_for o.withdrawn rs) ∷ l) (asked_known xs os (replies_after o.withdrawn rs) k of)

withdrawn_here : (x : Payload) (xs : List Payload) (o : MadeOffer) (os : List MadeOffer) (s : ℕ)
    → asked (x ∷ xs) (withdrawn_at s o ∷ os) [] ≡ altered (asked (x ∷ xs) (o ∷ os) []) 0 (withdrawn_in s)
withdrawn_here x xs o os s = ap (λ (r : Option Response). one x (withdrawn_at s o) r ∷ asked xs os []) (sym (none_for o.withdrawn))
    ∙ ap (λ (rs : List Response). one x (withdrawn_at s o) (reply_for o.withdrawn []) ∷ asked xs os rs) (sym (none_after o.withdrawn))

-- one that is not over
pub asked_withdrawn : (n : ℕ) (xs : List Payload) (os : List MadeOffer) (rs : List Response) (ms : List Asked) (k s : ℕ) → AreNoted n os rs ms → n ≤ k
    → asked xs (altered os k (withdrawn_at s)) rs ≡ altered (asked xs os rs) k (withdrawn_in s)
asked_withdrawn n [] os rs ms k s h l = refl
asked_withdrawn n (x ∷ xs) [] rs ms k s h l = refl
asked_withdrawn zero (x ∷ xs) (o ∷ os) rs [] k s h l = absurd h.1
asked_withdrawn zero (x ∷ xs) (o ∷ os) rs (m ∷ ms) zero s h l =
    subst (λ (rs : List Response). asked (x ∷ xs) (withdrawn_at s o ∷ os) rs ≡ altered (asked (x ∷ xs) (o ∷ os) rs) 0 (withdrawn_in s)) (sym h.0)
    (withdrawn_here x xs o os s)
asked_withdrawn zero (x ∷ xs) (o ∷ os) rs (m ∷ ms) (suc k) s h l = ap (λ l. one x o (reply_for o.withdrawn rs) ∷ l)
    (asked_withdrawn zero xs os (replies_after o.withdrawn rs) ms k s (rest_marked o os rs m ms h) (omega arith))
asked_withdrawn (suc n) (x ∷ xs) (o ∷ os) rs ms zero s h l = absurd (omega arith)
asked_withdrawn (suc n) (x ∷ xs) (o ∷ os) rs ms (suc k) s h l = ap (λ l. one x o (reply_for o.withdrawn rs) ∷ l)
    (asked_withdrawn n xs os (replies_after o.withdrawn rs) ms k s (rest_over n o os rs ms h) (omega arith))

-- the reply of the first that stands changes nothing of those that are over
for_one : (w : Option ℕ) (rs : List Response) (r : Response) (n : ℕ) (o : MadeOffer) (os : List MadeOffer) (ms : List Asked) → o.withdrawn ≡ w
    → AreNoted (suc n) (o ∷ os) rs ms → reply_for w (rs ++ r ∷ []) ≡ reply_for w rs
for_one (Some v) rs r n o os ms e h = refl
for_one None [] r n o os ms e h = absurd (subst (λ (w : Option ℕ). is_some w ≡ true → ⊥) (sym e) (λ q. cc) h.0)
for_one None (q ∷ rs) r n o os ms e h = refl

after_one : (w : Option ℕ) (rs : List Response) (r : Response) (n : ℕ) (o : MadeOffer) (os : List MadeOffer) (ms : List Asked) → o.withdrawn ≡ w
    → AreNoted (suc n) (o ∷ os) rs ms → replies_after w (rs ++ r ∷ []) ≡ replies_after w rs ++ r ∷ []
after_one (Some v) rs r n o os ms e h = refl
after_one None [] r n o os ms e h = absurd (subst (λ (w : Option ℕ). is_some w ≡ true → ⊥) (sym e) (λ q. cc) h.0)
after_one None (q ∷ rs) r n o os ms e h = refl

replied_here : (x : Payload) (xs : List Payload) (o : MadeOffer) (os : List MadeOffer) (r : Response) (w : Option ℕ) → w ≡ None
    → (record { payload = x; stamp = o.stamp; withdrawn = w; known = o.known; reply = reply_for w (r ∷ []) } ∷ asked xs os (replies_after w (r ∷ [])))
    ≡ altered (record { payload = x; stamp = o.stamp; withdrawn = w; known = o.known; reply = reply_for w [] } ∷ asked xs os (replies_after w [])) 0 (replied_with r.answer r.of)
replied_here x xs o os r None e = refl
replied_here x xs o os r (Some v) e = absurd cc

pub asked_replied : (n : ℕ) (xs : List Payload) (os : List MadeOffer) (rs : List Response) (ms : List Asked) (r : Response) → AreNoted n os rs (Started ∷ ms)
    → asked xs os (rs ++ r ∷ []) ≡ altered (asked xs os rs) n (replied_with r.answer r.of)
asked_replied n [] os rs ms r h = refl
asked_replied n (x ∷ xs) [] rs ms r h = refl
asked_replied zero (x ∷ xs) (o ∷ os) rs ms r h =
    subst (λ (rs : List Response). asked (x ∷ xs) (o ∷ os) (rs ++ r ∷ []) ≡ altered (asked (x ∷ xs) (o ∷ os) rs) 0 (replied_with r.answer r.of)) (sym h.0)
    (replied_here x xs o os r o.withdrawn h.1.0.0)
asked_replied (suc n) (x ∷ xs) (o ∷ os) rs ms r h =
    ap (λ (q : Option Response). one x o q ∷ asked xs os (replies_after o.withdrawn (rs ++ r ∷ []))) (for_one o.withdrawn rs r n o os (Started ∷ ms) refl h)
    ∙ ap (λ (qs : List Response). one x o (reply_for o.withdrawn rs) ∷ asked xs os qs) (after_one o.withdrawn rs r n o os (Started ∷ ms) refl h)
    ∙ ap (λ l. one x o (reply_for o.withdrawn rs) ∷ l) (asked_replied n xs os (replies_after o.withdrawn rs) ms r (rest_over n o os rs (Started ∷ ms) h))
