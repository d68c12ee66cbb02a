-- How great the stamps of a legal history are. For `stamps_are_few`.
-- By induction on the entries: after n of them all stamps kept of offers and parties are at most n, and the next entry's stamp is at most one more than the greatest of them.
use Rattle.std.proofs.Common.{◌≡◌, ℕ, zero, suc, ◌+◌, ◌≤◌, List, [], ◌∷◌, ◌++◌, Option, Some, None, Bool, true, arith, length, get_or, set}
use Rattle.std.specs.Prelude.{◌==◌, ◌&&◌, slice_get, replicate}
use Rattle.std.specs.List.{AllByRecursion}
use Rattle.std.proofs.lemmas.Bool.Decides.{nat_tests}
use Rattle.ac_base.specs.declared.entry.Event.{Event}
use Rattle.ac_base.specs.declared.entry.Event.TheVariants.{Offer, Withdraw, Know, Room, Got, Pass, Did, Reply}
use Rattle.ac_base.specs.declared.entry.Stamped.{Stamped}
use Rattle.ac_base.specs.Stamps.{next_stamp}
use Rattle.ac_links.specs.declared.offer.Standing.TheVariants.{Withdrawn, Passed}
use Rattle.ac_links.specs.declared.offer.LinkOffer.{LinkOffer}
use Rattle.ac_links.specs.Link.{answered, link_after, standing_stamp, changed, stands, now_taken, now_known, now_replied, link_of}
use Rattle.ac_links.specs.Payloads.Taking.{Message, Done}
use Rattle.ac_history.specs.History.{Past, link_at, is_later, has_stamp, in_range, fits, after, IsLegal, start}

-- each element of xs, by recursion, and after a write
module _ {X : Type 0} (P : X → Type 0) where
  each_set : (xs : List X) (i : ℕ) (x : X) → P x → AllByRecursion P xs → AllByRecursion P (set xs i x)
  each_set [] i x h a = tt
  each_set (y ∷ ys) zero x h a = (h, a.1)
  each_set (y ∷ ys) (suc i) x h a = (a.0, each_set ys i x h a.1)

  each_push : (xs : List X) (x : X) → P x → AllByRecursion P xs → AllByRecursion P (xs ++ x ∷ [])
  each_push [] x h a = (h, tt)
  each_push (y ∷ ys) x h a = (a.0, each_push ys x h a.1)

  each_get_or : (xs : List X) (i : ℕ) (d : X) → P d → AllByRecursion P xs → P (get_or xs i d)
  each_get_or [] i d h a = h
  each_get_or (y ∷ ys) zero d h a = a.0
  each_get_or (y ∷ ys) (suc i) d h a = each_get_or ys i d h a.1

  each_replicate : (n : ℕ) (x : X) → P x → AllByRecursion P (replicate n x)
  each_replicate zero x h = tt
  each_replicate (suc n) x h = (h, each_replicate n x h)

each_more : {X : Type 0} (P Q : X → Type 0) → ((x : X) → P x → Q x) → (xs : List X) → AllByRecursion P xs → AllByRecursion Q xs
each_more P Q f [] a = tt
each_more P Q f (x ∷ xs) a = (f x a.0, each_more P Q f xs a.1)

-- the stamps of the offers are at most n
abbrev UpTo : ℕ → List LinkOffer → Type 0
UpTo n = AllByRecursion (λ o. o.stamp ≤ n)

up_more : (m n : ℕ) → m ≤ n → (os : List LinkOffer) → UpTo m os → UpTo n os
up_more m n h = each_more _ _ (λ o p. omega arith)

stamp_up : (n : ℕ) (os : List LinkOffer) (k : ℕ) → UpTo n os → standing_stamp (slice_get os k) ≤ n
stamp_up n [] k a = omega arith
stamp_up n (o ∷ os) zero a = a.0
stamp_up n (o ∷ os) (suc k) a = stamp_up n os k a.1

answered_up : (n : ℕ) (os : List LinkOffer) (e : Event) → UpTo n os → answered os e ≤ n
answered_up n os (Offer l k p) a = omega arith
answered_up n os (Withdraw l k) a = omega arith
answered_up n os (Know l k) a = stamp_up n os k a
answered_up n os (Room l k) a = stamp_up n os k a
answered_up n os (Got l k v) a = stamp_up n os k a
answered_up n os (Pass l k) a = stamp_up n os k a
answered_up n os (Did l k w) a = stamp_up n os k a
answered_up n os (Reply l k w) a = stamp_up n os k a

changed_up : (n : ℕ) (os : List LinkOffer) (k : ℕ) (f : LinkOffer → LinkOffer) → ((o : LinkOffer) → o.stamp ≤ n → (f o).stamp ≤ n) → UpTo n os → (q : Option LinkOffer) → standing_stamp q ≤ n
    → UpTo n (changed os k f q)
changed_up n os k f h a None p = a
changed_up n os k f h a (Some o) p = each_set _ os k (f o) (h o p) a

after_up : (n s : ℕ) (os : List LinkOffer) (e : Event) → s ≤ n → UpTo n os → UpTo n (link_after os s e)
after_up n s os (Offer l k p) h a = each_push _ os _ h a
after_up n s os (Withdraw l k) h a = changed_up n os k (stands Withdrawn s) (λ o p. h) a (slice_get os k) (stamp_up n os k a)
after_up n s os (Know l k) h a = changed_up n os k now_known (λ o p. p) a (slice_get os k) (stamp_up n os k a)
after_up n s os (Room l k) h a = changed_up n os k now_known (λ o p. p) a (slice_get os k) (stamp_up n os k a)
after_up n s os (Got l k v) h a = changed_up n os k (now_taken (Message v) s) (λ o p. h) a (slice_get os k) (stamp_up n os k a)
after_up n s os (Pass l k) h a = changed_up n os k (stands Passed s) (λ o p. h) a (slice_get os k) (stamp_up n os k a)
after_up n s os (Did l k w) h a = changed_up n os k (now_taken (Done w) s) (λ o p. h) a (slice_get os k) (stamp_up n os k a)
after_up n s os (Reply l k w) h a = changed_up n os k now_replied (λ o p. p) a (slice_get os k) (stamp_up n os k a)

record Bounded (n : ℕ) (past : Past) : Type 0 where
  links : AllByRecursion (UpTo n) past.links
  lasts : AllByRecursion (λ s. s ≤ n) past.lasts

third : (a b c d e f : Bool) → a && b && c && d && e && f ≡ true → c ≡ true
third a b c d e f h = grind (arith, nat_tests)

stamp_true : (s last seen n : ℕ) → (s == next_stamp last seen) ≡ true → last ≤ n → seen ≤ n → s ≤ suc n
stamp_true s last seen n h p q = grind (arith, nat_tests)

stamp_bound : (n : ℕ) (past : Past) (e : Stamped) → Bounded n past → fits past e ≡ true → e.entry.stamp ≤ suc n
stamp_bound n past e b h = stamp_true e.entry.stamp (get_or past.lasts e.party 0) (answered (link_at past (link_of e.entry.event)) e.entry.event) n
    (third (in_range past e) (is_later past.stamp past.party e) (has_stamp past e) _ _ _ h)
    (each_get_or _ past.lasts e.party 0 (omega arith) b.lasts)
    (answered_up n (link_at past (link_of e.entry.event)) e.entry.event (each_get_or (UpTo n) past.links (link_of e.entry.event) [] tt b.links))

bounded_after : (n : ℕ) (past : Past) (e : Stamped) → Bounded n past → e.entry.stamp ≤ suc n → Bounded (suc n) (after past e)
bounded_after n past e b h =
    let links : AllByRecursion (UpTo (suc n)) past.links = each_more (UpTo n) (UpTo (suc n)) (λ os. up_more n (suc n) (omega arith) os) past.links b.links in
    let l = link_of e.entry.event in
    record {
      links = each_set (UpTo (suc n)) past.links l (link_after (link_at past l) e.entry.stamp e.entry.event)
          (after_up (suc n) e.entry.stamp (link_at past l) e.entry.event h (each_get_or (UpTo (suc n)) past.links l [] tt links)) links;
      lasts = each_set (λ s. s ≤ suc n) past.lasts e.party e.entry.stamp h (each_more (λ s. s ≤ n) (λ s. s ≤ suc n) (λ s p. omega arith) past.lasts b.lasts);
    }

-- the stamps of a legal history, after n entries
bounded_from : (n : ℕ) (past : Past) (es : List Stamped) → Bounded n past → IsLegal past es → AllByRecursion (λ e. e.entry.stamp ≤ n + length es) es
bounded_from n past [] b h = tt
bounded_from n past (e ∷ es) b h = let s = stamp_bound n past e b h.0 in
    (omega arith, each_more _ _ (λ x p. omega arith) es (bounded_from (suc n) (after past e) es (bounded_after n past e b s) h.1))

pub stamps_at_most : (capacities widths : List ℕ) (cores : ℕ) (es : List Stamped) → IsLegal (start capacities widths cores) es → AllByRecursion (λ e. e.entry.stamp ≤ length es) es
stamps_at_most capacities widths cores es h = each_more _ _ (λ x p. omega arith) es (bounded_from 0 (start capacities widths cores) es (record {
  links = each_replicate _ (length capacities) [] tt;
  lasts = each_replicate _ (suc cores) 0 (omega arith);
}) h)
