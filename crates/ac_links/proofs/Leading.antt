-- How many leading offers pass a test, after a change: the front of a link and how far its owner knows are two such counts.
-- By induction on the offers. A change at n leaves the count at least the lesser of what it was and n, so a search need not begin again at nought. For `Link`.
use Rattle.std.proofs.Common.{◌≡◌, ℕ, zero, suc, ◌+◌, ◌<◌, ◌≤◌, List, [], ◌∷◌, ◌++◌, Option, Some, None, Bool, true, false, cond, refl, sym, ap, ◌∙◌, subst, arith, length, get_or, set}
use Rattle.std.specs.Prelude.{slice_get, min}
use Rattle.ac_base.specs.declared.entry.Event.{Event}
use Rattle.ac_base.specs.declared.entry.Event.TheVariants.{Offer, Withdraw, Know, Room, Got, Pass, Did, Reply}
use Rattle.ac_links.specs.declared.offer.Standing.TheVariants.{Offered, Withdrawn, Passed}
use Rattle.ac_links.specs.declared.offer.LinkOffer.{LinkOffer}
use Rattle.ac_links.specs.Link.{is_decided, front_of, known_lead, changed, stands, now_taken, now_known, now_replied, link_after, number_of, new_offer}
use Rattle.ac_links.specs.inner.Counting.{gives_standing, is_learned}
use Rattle.ac_links.specs.Payloads.Taking.{Message, Done}

at_most : {m n : ℕ} (k : ℕ) → m ≤ n → min m k ≤ n
at_most k h = omega arith

module _ (test : LinkOffer → Bool) where
  abbrev pub leading : List LinkOffer → ℕ
  leading [] = 0
  leading (o ∷ os) = cond (test o) (suc (leading os)) 0

  -- the first that does not pass
  after_first : (o : LinkOffer) (os : List LinkOffer) (n : ℕ) (b : Bool) → test o ≡ b → suc n ≤ cond b (suc (leading os)) 0 → n ≤ leading os
  after_first o os n true e h = omega arith
  after_first o os n false e h = absurd (omega arith)

  after_rest : (o : LinkOffer) (os : List LinkOffer) (n : ℕ) (b : Bool) → test o ≡ b → suc n ≤ cond b (suc (leading os)) 0 → b ≡ true
  after_rest o os n true e h = refl
  after_rest o os n false e h = absurd (omega arith)

  pub leading_more : (os : List LinkOffer) (n : ℕ) (d : LinkOffer) → n ≤ leading os → n < length os → test (get_or os n d) ≡ true → n + 1 ≤ leading os
  leading_more [] n d h l t = absurd (omega arith)
  leading_more (o ∷ os) zero d h l t = let e = ap (λ b. cond b (suc (leading os)) 0) t in omega arith
  leading_more (o ∷ os) (suc n) d h l t =
      let e = ap (λ b. cond b (suc (leading os)) 0) (after_rest o os n (test o) refl h) in
      let ih = leading_more os n d (after_first o os n (test o) refl h) (omega arith) t in omega arith

  pub leading_stop : (os : List LinkOffer) (n : ℕ) (d : LinkOffer) → n ≤ leading os → n < length os → test (get_or os n d) ≡ false → n ≡ leading os
  leading_stop [] n d h l t = absurd (omega arith)
  leading_stop (o ∷ os) zero d h l t = let e = ap (λ b. cond b (suc (leading os)) 0) t in omega arith
  leading_stop (o ∷ os) (suc n) d h l t =
      let e = ap (λ b. cond b (suc (leading os)) 0) (after_rest o os n (test o) refl h) in
      let ih = leading_stop os n d (after_first o os n (test o) refl h) (omega arith) t in omega arith

  pub leading_all : (os : List LinkOffer) → leading os ≤ length os
  leading_all [] = omega arith
  leading_all (o ∷ os) = let ih = leading_all os in elim (test o) as (λ b. cond b (suc (leading os)) 0 ≤ suc (length os)) [ true ↦ omega arith | false ↦ omega arith ]

  pub leading_set : (os : List LinkOffer) (n : ℕ) (x : LinkOffer) → min (leading os) n ≤ leading (set os n x)
  leading_set [] n x = omega arith
  leading_set (o ∷ os) zero x = omega arith
  leading_set (o ∷ os) (suc n) x = let ih = leading_set os n x in
      elim (test o) as (λ b. min (cond b (suc (leading os)) 0) (suc n) ≤ cond b (suc (leading (set os n x))) 0) [ true ↦ omega arith | false ↦ omega arith ]

  pub leading_push : (os : List LinkOffer) (x : LinkOffer) → leading os ≤ leading (os ++ x ∷ [])
  leading_push [] x = omega arith
  leading_push (o ∷ os) x = let ih = leading_push os x in
      elim (test o) as (λ b. cond b (suc (leading os)) 0 ≤ cond b (suc (leading (os ++ x ∷ []))) 0) [ true ↦ omega arith | false ↦ omega arith ]

  -- a change that leaves the test as it was
  leading_set_same : (os : List LinkOffer) (n : ℕ) (x o : LinkOffer) → slice_get os n ≡ Some o → test x ≡ test o → leading (set os n x) ≡ leading os
  leading_set_same [] n x o h t = cc
  leading_set_same (y ∷ os) zero x o h t = let q : o ≡ y = cc in ap (λ b. cond b (suc (leading os)) 0) (t ∙ ap test q)
  leading_set_same (y ∷ os) (suc n) x o h t = ap (λ r. cond (test y) (suc r) 0) (leading_set_same os n x o h t)

  pub leading_same : (os : List LinkOffer) (n : ℕ) (f : LinkOffer → LinkOffer) → ((o : LinkOffer) → test (f o) ≡ test o) → (q : Option LinkOffer) → slice_get os n ≡ q
      → leading (changed os n f q) ≡ leading os
  leading_same os n f h None e = refl
  leading_same os n f h (Some o) e = leading_set_same os n (f o) o e (h o)

  -- one more that does not pass
  pub leading_not : (os : List LinkOffer) (x : LinkOffer) → test x ≡ false → leading (os ++ x ∷ []) ≡ leading os
  leading_not [] x t = ap (λ b. cond b 1 0) t
  leading_not (o ∷ os) x t = ap (λ r. cond (test o) (suc r) 0) (leading_not os x t)

  leading_changed : (os : List LinkOffer) (n : ℕ) (f : LinkOffer → LinkOffer) (q : Option LinkOffer) → min (leading os) n ≤ leading (changed os n f q)
  leading_changed os n f None = omega arith
  leading_changed os n f (Some o) = leading_set os n (f o)

  pub leading_after : (os : List LinkOffer) (s : ℕ) (e : Event) → min (leading os) (number_of e) ≤ leading (link_after os s e)
  leading_after os s (Offer l n p) = let h : leading os ≤ leading (os ++ record { payload = p; standing = Offered; stamp = s; known = false; answer = None; replied = false } ∷ []) =
      leading_push os (record { payload = p; standing = Offered; stamp = s; known = false; answer = None; replied = false }) in at_most n h
  leading_after os s (Withdraw l n) = leading_changed os n (stands Withdrawn s) (slice_get os n)
  leading_after os s (Know l n) = leading_changed os n now_known (slice_get os n)
  leading_after os s (Room l n) = leading_changed os n now_known (slice_get os n)
  leading_after os s (Got l n v) = leading_changed os n (now_taken (Message v) s) (slice_get os n)
  leading_after os s (Pass l n) = leading_changed os n (stands Passed s) (slice_get os n)
  leading_after os s (Did l n w) = leading_changed os n (now_taken (Done w) s) (slice_get os n)
  leading_after os s (Reply l n w) = leading_changed os n now_replied (slice_get os n)

pub front_is : (os : List LinkOffer) → front_of os ≡ leading (λ o. is_decided o.standing) os
front_is [] = refl
front_is (o ∷ os) = ap (λ n. cond (is_decided o.standing) (suc n) 0) (front_is os)

pub lead_is : (os : List LinkOffer) → known_lead os ≡ leading (λ o. o.known) os
lead_is [] = refl
lead_is (o ∷ os) = ap (λ n. cond o.known (suc n) 0) (lead_is os)

pub front_after : (os : List LinkOffer) (s : ℕ) (e : Event) → min (front_of os) (number_of e) ≤ front_of (link_after os s e)
front_after os s e = let a = front_is os in let b = front_is (link_after os s e) in let c = leading_after (λ o. is_decided o.standing) os s e in omega arith

pub lead_after : (os : List LinkOffer) (s : ℕ) (e : Event) → min (known_lead os) (number_of e) ≤ known_lead (link_after os s e)
lead_after os s e = let a = lead_is os in let b = lead_is (link_after os s e) in let c = leading_after (λ o. o.known) os s e in omega arith

-- what changes no standing leaves the front
pub front_stays : (os : List LinkOffer) (s : ℕ) (e : Event) → gives_standing e ≡ false → front_of (link_after os s e) ≡ front_of os
front_stays os s (Offer l n p) h = cc
front_stays os s (Withdraw l n) h = cc
front_stays os s (Know l n) h = front_is _ ∙ leading_same (λ o. is_decided o.standing) os n now_known (λ o. refl) (slice_get os n) refl ∙ sym (front_is os)
front_stays os s (Room l n) h = front_is _ ∙ leading_same (λ o. is_decided o.standing) os n now_known (λ o. refl) (slice_get os n) refl ∙ sym (front_is os)
front_stays os s (Got l n v) h = cc
front_stays os s (Pass l n) h = cc
front_stays os s (Did l n w) h = cc
front_stays os s (Reply l n w) h = front_is _ ∙ leading_same (λ o. is_decided o.standing) os n now_replied (λ o. refl) (slice_get os n) refl ∙ sym (front_is os)

-- what is not learned leaves what is known
pub lead_stays : (os : List LinkOffer) (s : ℕ) (e : Event) → is_learned e ≡ false → known_lead (link_after os s e) ≡ known_lead os
lead_stays os s (Offer l n p) h = lead_is _ ∙ leading_not (λ o. o.known) os (new_offer p s) refl ∙ sym (lead_is os)
lead_stays os s (Withdraw l n) h = lead_is _ ∙ leading_same (λ o. o.known) os n (stands Withdrawn s) (λ o. refl) (slice_get os n) refl ∙ sym (lead_is os)
lead_stays os s (Know l n) h = cc
lead_stays os s (Room l n) h = cc
lead_stays os s (Got l n v) h = lead_is _ ∙ leading_same (λ o. o.known) os n (now_taken (Message v) s) (λ o. refl) (slice_get os n) refl ∙ sym (lead_is os)
lead_stays os s (Pass l n) h = lead_is _ ∙ leading_same (λ o. o.known) os n (stands Passed s) (λ o. refl) (slice_get os n) refl ∙ sym (lead_is os)
lead_stays os s (Did l n w) h = lead_is _ ∙ leading_same (λ o. o.known) os n (now_taken (Done w) s) (λ o. refl) (slice_get os n) refl ∙ sym (lead_is os)
lead_stays os s (Reply l n w) h = lead_is _ ∙ leading_same (λ o. o.known) os n now_replied (λ o. refl) (slice_get os n) refl ∙ sym (lead_is os)

pub front_more : (os : List LinkOffer) (n : ℕ) (x : LinkOffer) → n ≤ front_of os → n < length os → is_decided (get_or os n x).standing ≡ true → n + 1 ≤ front_of os
front_more os n x h l t = subst (λ k. n + 1 ≤ k) (sym (front_is os)) (leading_more (λ o. is_decided o.standing) os n x (subst (λ k. n ≤ k) (front_is os) h) l t)

pub front_stop : (os : List LinkOffer) (n : ℕ) (x : LinkOffer) → n ≤ front_of os → n < length os → is_decided (get_or os n x).standing ≡ false → n ≡ front_of os
front_stop os n x h l t = leading_stop (λ o. is_decided o.standing) os n x (subst (λ k. n ≤ k) (front_is os) h) l t ∙ sym (front_is os)

pub front_end : (os : List LinkOffer) (n : ℕ) → n ≤ front_of os → length os ≤ n → n ≡ front_of os
front_end os n h l = let a = leading_all (λ o. is_decided o.standing) os in let b = front_is os in omega arith

pub lead_more : (os : List LinkOffer) (n : ℕ) (x : LinkOffer) → n ≤ known_lead os → n < length os → (get_or os n x).known ≡ true → n + 1 ≤ known_lead os
lead_more os n x h l t = subst (λ k. n + 1 ≤ k) (sym (lead_is os)) (leading_more (λ o. o.known) os n x (subst (λ k. n ≤ k) (lead_is os) h) l t)

pub lead_stop : (os : List LinkOffer) (n : ℕ) (x : LinkOffer) → n ≤ known_lead os → n < length os → (get_or os n x).known ≡ false → n ≡ known_lead os
lead_stop os n x h l t = leading_stop (λ o. o.known) os n x (subst (λ k. n ≤ k) (lead_is os) h) l t ∙ sym (lead_is os)

pub lead_end : (os : List LinkOffer) (n : ℕ) → n ≤ known_lead os → length os ≤ n → n ≡ known_lead os
lead_end os n h l = let a = leading_all (λ o. o.known) os in let b = lead_is os in omega arith

pub lead_within : (os : List LinkOffer) → known_lead os ≤ length os
lead_within os = let a = leading_all (λ o. o.known) os in let b = lead_is os in omega arith
