-- One link beside itself with fewer entries: when an entry that fits the one fits the other, and what it makes of both. An offer stands alike in
-- both where the entry that gave it its standing is in both; what more an entry needs is how many offers there are, which of them are known, and
-- that those before it are decided.
use Rattle.std.proofs.Common.{◌≡◌, ℕ, zero, suc, ◌-◌, ◌<◌, ◌≤◌, List, [], ◌∷◌, ◌++◌, length, Option, Some, None}
use Rattle.std.proofs.Common.{Bool, true, false, refl, sym, ap, ◌∙◌, subst, arith, get_or, eq-eqb, ◌⊎◌, inl, inr, if◌then◌else◌}
use Rattle.std.specs.Prelude.{◌==◌, ◌&&◌, not, slice_get, slice_set, nat_lt}
use Rattle.std.proofs.lemmas.Bool.{and_parts, eqb-true, cases_Bool}
use Rattle.std.proofs.lemmas.Option.{same_Some, get_or_from_slice_get}
use Rattle.ac_base.specs.declared.entry.Event.{Event}
use Rattle.ac_base.specs.declared.entry.Event.TheVariants.{Offer, Withdraw, Know, Room, Got, Pass, Did, Reply}
use Rattle.ac_links.specs.declared.offer.Standing.{Standing}
use Rattle.ac_links.specs.declared.offer.Standing.TheVariants.{Offered, Taken, Withdrawn, Passed}
use Rattle.ac_links.specs.declared.offer.LinkOffer.{LinkOffer}
use Rattle.ac_links.specs.declared.payloads.Terms.{Terms}
use Rattle.ac_links.specs.Payloads.{carries, has_answer, is_payload}
use Rattle.ac_links.specs.Payloads.Taking.{Message, Done}
use Rattle.ac_links.specs.Link.{is_offered, is_taken, is_withdrawn, is_passed, is_decided, front_of, known_lead, takes, knows, withdraws, passes, frees, replies}
use Rattle.ac_links.specs.Link.{link_fits, link_after, number_of, changed, stands, now_taken, now_known, now_replied, new_offer, answered}
use Rattle.ac_causal.proofs.Steps.{level, gives, wants, some_of, own_changed, offers_next, offered_level, get_pushed_last}

-- ---- which end of its link an event is made at

-- at that of the party that makes offers
abbrev pub is_owners : Event → Bool
is_owners (Offer l n payload) = true
is_owners (Withdraw l n) = true
is_owners (Know l n) = true
is_owners (Room l n) = true
is_owners _ = false

-- at that of the party that decides them
abbrev pub is_peers : Event → Bool
is_peers (Got l n value) = true
is_peers (Pass l n) = true
is_peers (Did l n answer) = true
is_peers _ = false

abbrev pub is_new : Event → Bool
is_new (Offer l n payload) = true
is_new _ = false

pub gives_owners : (e : Event) → gives e ≡ 1 → is_owners e ≡ true
gives_owners (Offer l n payload) h = refl
gives_owners (Withdraw l n) h = refl
gives_owners (Know l n) h = refl
gives_owners (Room l n) h = refl
gives_owners (Got l n value) h = absurd (omega (arith, h))
gives_owners (Pass l n) h = absurd (omega (arith, h))
gives_owners (Did l n answer) h = absurd (omega (arith, h))
gives_owners (Reply l n answer) h = absurd (omega (arith, h))

pub gives_peers : (e : Event) → 3 ≤ gives e → is_peers e ≡ true
gives_peers (Offer l n payload) h = absurd (omega (arith, h))
gives_peers (Withdraw l n) h = absurd (omega (arith, h))
gives_peers (Know l n) h = absurd (omega (arith, h))
gives_peers (Room l n) h = absurd (omega (arith, h))
gives_peers (Got l n value) h = refl
gives_peers (Pass l n) h = refl
gives_peers (Did l n answer) h = refl
gives_peers (Reply l n answer) h = absurd (omega (arith, h))

pub wants_old : (e : Event) → 0 < wants e → is_new e ≡ false
wants_old (Offer l n payload) w = absurd (omega (arith, w))
wants_old (Withdraw l n) w = refl
wants_old (Know l n) w = refl
wants_old (Room l n) w = refl
wants_old (Got l n value) w = refl
wants_old (Pass l n) w = refl
wants_old (Did l n answer) w = refl
wants_old (Reply l n answer) w = refl

pub decided_level : (s : Standing) → is_decided s ≡ true → 3 ≤ level s
decided_level Offered h = let bad : false ≡ true = h in absurd (cc)
decided_level Taken h = omega arith
decided_level Withdrawn h = let bad : false ≡ true = h in absurd (cc)
decided_level Passed h = omega arith

offered_open : (s : Standing) → is_offered s ≡ true → is_decided s ≡ false
offered_open Offered h = refl
offered_open Taken h = let bad : false ≡ true = h in absurd (cc)
offered_open Withdrawn h = refl
offered_open Passed h = let bad : false ≡ true = h in absurd (cc)

withdrawn_open : (s : Standing) → is_withdrawn s ≡ true → is_decided s ≡ false
withdrawn_open Offered h = refl
withdrawn_open Taken h = let bad : false ≡ true = h in absurd (cc)
withdrawn_open Withdrawn h = refl
withdrawn_open Passed h = let bad : false ≡ true = h in absurd (cc)

pub answers_no_stamp : (os : List LinkOffer) (e : Event) → wants e ≡ 0 → answered os e ≡ 0
answers_no_stamp os (Offer l n payload) w = refl
answers_no_stamp os (Withdraw l n) w = refl
answers_no_stamp os (Know l n) w = absurd (omega (arith, w))
answers_no_stamp os (Room l n) w = absurd (omega (arith, w))
answers_no_stamp os (Got l n value) w = absurd (omega (arith, w))
answers_no_stamp os (Pass l n) w = absurd (omega (arith, w))
answers_no_stamp os (Did l n answer) w = absurd (omega (arith, w))
answers_no_stamp os (Reply l n answer) w = absurd (omega (arith, w))

pub both_true : (a b : Bool) → a ≡ true → b ≡ true → a && b ≡ true
both_true a b p q = rw (p, q)

-- ---- what is told of each offer in its turn

abbrev pub flags : (LinkOffer → Bool) → List LinkOffer → List Bool
flags f [] = []
flags f (o ∷ os) = f o ∷ flags f os

abbrev pub knowns : List LinkOffer → List Bool
knowns os = flags (λ (o : LinkOffer). o.known) os

abbrev pub replieds : List LinkOffer → List Bool
replieds os = flags (λ (o : LinkOffer). o.replied) os

module _ (f : LinkOffer → Bool) where
  flags_length : (os : List LinkOffer) → length (flags f os) ≡ length os
  flags_length [] = refl
  flags_length (o ∷ os) = ap suc (flags_length os)

  flags_pushed : (os : List LinkOffer) (o : LinkOffer) → flags f (os ++ o ∷ []) ≡ flags f os ++ f o ∷ []
  flags_pushed [] o = refl
  flags_pushed (x ∷ os) o = ap (λ bs. f x ∷ bs) (flags_pushed os o)

  flags_get : (os : List LinkOffer) (n : ℕ) (o : LinkOffer) → slice_get os n ≡ Some o → slice_get (flags f os) n ≡ Some (f o)
  flags_get [] n o h = let bad : None ≡ Some o = h in absurd (cc)
  flags_get (x ∷ os) zero o h = ap (λ y. Some (f y)) (same_Some x o h)
  flags_get (x ∷ os) (suc n) o h = flags_get os n o h

  shifted : (x : LinkOffer) (os : List LinkOffer) (n : ℕ) (g : LinkOffer → LinkOffer) (q : Option LinkOffer) → changed (x ∷ os) (suc n) g q ≡ x ∷ changed os n g q
  shifted x os n g None = refl
  shifted x os n g (Some o) = refl

  flags_kept : (g : LinkOffer → LinkOffer) → ((o : LinkOffer) → f (g o) ≡ f o) → (os : List LinkOffer) (n : ℕ) → flags f (changed os n g (slice_get os n)) ≡ flags f os
  flags_kept g same [] n = refl
  flags_kept g same (x ∷ os) zero = ap (λ b. b ∷ flags f os) (same x)
  flags_kept g same (x ∷ os) (suc n) = ap (flags f) (shifted x os n g (slice_get os n)) ∙ ap (λ bs. f x ∷ bs) (flags_kept g same os n)

  flags_set : (g : LinkOffer → LinkOffer) → ((o : LinkOffer) → f (g o) ≡ true) → (os : List LinkOffer) (n : ℕ)
      → flags f (changed os n g (slice_get os n)) ≡ slice_set (flags f os) n true
  flags_set g sets [] n = refl
  flags_set g sets (x ∷ os) zero = ap (λ b. b ∷ flags f os) (sets x)
  flags_set g sets (x ∷ os) (suc n) = ap (flags f) (shifted x os n g (slice_get os n)) ∙ ap (λ bs. f x ∷ bs) (flags_set g sets os n)

abbrev lead : List Bool → ℕ
lead [] = 0
lead (b ∷ bs) = if b then suc (lead bs) else 0

lead_is : (os : List LinkOffer) → known_lead os ≡ lead (knowns os)
lead_is [] = refl
lead_is (o ∷ os) = ap (λ n. if o.known then suc n else 0) (lead_is os)

abbrev pub knowns_after : List Bool → Event → List Bool
knowns_after bs (Offer l n payload) = bs ++ false ∷ []
knowns_after bs (Withdraw l n) = bs
knowns_after bs (Know l n) = slice_set bs n true
knowns_after bs (Room l n) = slice_set bs n true
knowns_after bs (Got l n value) = bs
knowns_after bs (Pass l n) = bs
knowns_after bs (Did l n answer) = bs
knowns_after bs (Reply l n answer) = bs

pub knowns_go_on : (os : List LinkOffer) (s : ℕ) (e : Event) → knowns (link_after os s e) ≡ knowns_after (knowns os) e
knowns_go_on os s (Offer l n payload) = flags_pushed (λ (o : LinkOffer). o.known) os (new_offer payload s)
knowns_go_on os s (Withdraw l n) = flags_kept (λ (o : LinkOffer). o.known) (stands Withdrawn s) (λ o. refl) os n
knowns_go_on os s (Know l n) = flags_set (λ (o : LinkOffer). o.known) now_known (λ o. refl) os n
knowns_go_on os s (Room l n) = flags_set (λ (o : LinkOffer). o.known) now_known (λ o. refl) os n
knowns_go_on os s (Got l n value) = flags_kept (λ (o : LinkOffer). o.known) (now_taken (Message value) s) (λ o. refl) os n
knowns_go_on os s (Pass l n) = flags_kept (λ (o : LinkOffer). o.known) (stands Passed s) (λ o. refl) os n
knowns_go_on os s (Did l n answer) = flags_kept (λ (o : LinkOffer). o.known) (now_taken (Done answer) s) (λ o. refl) os n
knowns_go_on os s (Reply l n answer) = flags_kept (λ (o : LinkOffer). o.known) now_replied (λ o. refl) os n

pub knowns_stay : (bs : List Bool) (e : Event) → is_owners e ≡ false → knowns_after bs e ≡ bs
knowns_stay bs (Offer l n payload) h = let bad : true ≡ false = h in absurd (cc)
knowns_stay bs (Withdraw l n) h = refl
knowns_stay bs (Know l n) h = let bad : true ≡ false = h in absurd (cc)
knowns_stay bs (Room l n) h = let bad : true ≡ false = h in absurd (cc)
knowns_stay bs (Got l n value) h = refl
knowns_stay bs (Pass l n) h = refl
knowns_stay bs (Did l n answer) h = refl
knowns_stay bs (Reply l n answer) h = refl

-- ---- replies

-- each that has its reply in the one has it in the other
abbrev pub RepliedToo : List Bool → List Bool → Type 0
RepliedToo bs cs = (n : ℕ) → get_or bs n false ≡ true → get_or cs n false ≡ true

abbrev pub replieds_after : List Bool → Event → List Bool
replieds_after bs (Offer l n payload) = bs ++ false ∷ []
replieds_after bs (Withdraw l n) = bs
replieds_after bs (Know l n) = bs
replieds_after bs (Room l n) = bs
replieds_after bs (Got l n value) = bs
replieds_after bs (Pass l n) = bs
replieds_after bs (Did l n answer) = bs
replieds_after bs (Reply l n answer) = slice_set bs n true

pub replieds_go_on : (os : List LinkOffer) (s : ℕ) (e : Event) → replieds (link_after os s e) ≡ replieds_after (replieds os) e
replieds_go_on os s (Offer l n payload) = flags_pushed (λ (o : LinkOffer). o.replied) os (new_offer payload s)
replieds_go_on os s (Withdraw l n) = flags_kept (λ (o : LinkOffer). o.replied) (stands Withdrawn s) (λ o. refl) os n
replieds_go_on os s (Know l n) = flags_kept (λ (o : LinkOffer). o.replied) now_known (λ o. refl) os n
replieds_go_on os s (Room l n) = flags_kept (λ (o : LinkOffer). o.replied) now_known (λ o. refl) os n
replieds_go_on os s (Got l n value) = flags_kept (λ (o : LinkOffer). o.replied) (now_taken (Message value) s) (λ o. refl) os n
replieds_go_on os s (Pass l n) = flags_kept (λ (o : LinkOffer). o.replied) (stands Passed s) (λ o. refl) os n
replieds_go_on os s (Did l n answer) = flags_kept (λ (o : LinkOffer). o.replied) (now_taken (Done answer) s) (λ o. refl) os n
replieds_go_on os s (Reply l n answer) = flags_set (λ (o : LinkOffer). o.replied) now_replied (λ o. refl) os n

pushed_false : (bs : List Bool) (n : ℕ) → get_or (bs ++ false ∷ []) n false ≡ get_or bs n false
pushed_false [] zero = refl
pushed_false [] (suc n) = refl
pushed_false (b ∷ bs) zero = refl
pushed_false (b ∷ bs) (suc n) = pushed_false bs n

set_more : (bs : List Bool) (m n : ℕ) → get_or bs n false ≡ true → get_or (slice_set bs m true) n false ≡ true
set_more [] m n h = h
set_more (b ∷ bs) zero zero h = refl
set_more (b ∷ bs) zero (suc n) h = h
set_more (b ∷ bs) (suc m) zero h = h
set_more (b ∷ bs) (suc m) (suc n) h = set_more bs m n h

-- what is set in both, where there is a place for it in the second
set_both : (bs cs : List Bool) (m : ℕ) → m < length cs → RepliedToo bs cs → RepliedToo (slice_set bs m true) (slice_set cs m true)
set_both bs cs m lt h n t = by bs cs m n lt (h n) t
  where
    by : (bs cs : List Bool) (m n : ℕ) → m < length cs → (get_or bs n false ≡ true → get_or cs n false ≡ true)
        → get_or (slice_set bs m true) n false ≡ true → get_or (slice_set cs m true) n false ≡ true
    by bs [] m n lt h t = absurd (omega (arith, lt))
    by bs (c ∷ cs) zero zero lt h t = refl
    by [] (c ∷ cs) (suc m) zero lt h t = h t
    by (b ∷ bs) (c ∷ cs) (suc m) zero lt h t = h t
    by [] (c ∷ cs) zero (suc n) lt h t = h t
    by (b ∷ bs) (c ∷ cs) zero (suc n) lt h t = h t
    by [] (c ∷ cs) (suc m) (suc n) lt h t = set_more cs m n (h t)
    by (b ∷ bs) (c ∷ cs) (suc m) (suc n) lt h t = by bs cs m n (omega (arith, lt)) h t

-- an entry takes no reply away
pub replied_more : (bs : List Bool) (e : Event) → RepliedToo bs (replieds_after bs e)
replied_more bs (Offer l m payload) n h = pushed_false bs n ∙ h
replied_more bs (Withdraw l m) n h = h
replied_more bs (Know l m) n h = h
replied_more bs (Room l m) n h = h
replied_more bs (Got l m value) n h = h
replied_more bs (Pass l m) n h = h
replied_more bs (Did l m answer) n h = h
replied_more bs (Reply l m answer) n h = set_more bs m n h

pub replied_both : (bs cs : List Bool) (e : Event) → (is_new e ≡ false → number_of e < length cs) → RepliedToo bs cs → RepliedToo (replieds_after bs e) (replieds_after cs e)
replied_both bs cs (Offer l m payload) lt h n t = pushed_false cs n ∙ h n (sym (pushed_false bs n) ∙ t)
replied_both bs cs (Withdraw l m) lt h n t = h n t
replied_both bs cs (Know l m) lt h n t = h n t
replied_both bs cs (Room l m) lt h n t = h n t
replied_both bs cs (Got l m value) lt h n t = h n t
replied_both bs cs (Pass l m) lt h n t = h n t
replied_both bs cs (Did l m answer) lt h n t = h n t
replied_both bs cs (Reply l m answer) lt h n t = set_both bs cs m (lt refl) h n t

pub many_replieds : (os : List LinkOffer) → length (replieds os) ≡ length os
many_replieds os = flags_length (λ (o : LinkOffer). o.replied) os

-- ---- an offer that stands alike

-- it is there, and carries the same, stands the same by an entry of the same stamp, and has the same answer
pub record StandsAlike (q : Option LinkOffer) (o : LinkOffer) : Type 0 where
  pub it : LinkOffer
  pub there : q ≡ Some it
  pub payload : it.payload ≡ o.payload
  pub standing : it.standing ≡ o.standing
  pub stamp : it.stamp ≡ o.stamp
  pub answer : it.answer ≡ o.answer

-- an event that makes no offer is about one that is there
pub old_offer : (terms : Terms) (os : List LinkOffer) (e : Event) → is_new e ≡ false → link_fits terms os e ≡ true → (o : LinkOffer) × (slice_get os (number_of e) ≡ Some o)
old_offer terms os (Offer l n payload) h fits = let bad : true ≡ false = h in absurd (cc)
old_offer terms os (Withdraw l n) h fits = let q = some_of withdraws refl (slice_get os n) fits in (q.0, q.1)
old_offer terms os (Know l n) h fits = let q = some_of knows refl (slice_get os n) fits in (q.0, q.1)
old_offer terms os (Room l n) h fits = let q = some_of frees refl (slice_get os n) fits in (q.0, q.1)
old_offer terms os (Got l n value) h fits =
    let q = some_of (takes (Message value)) refl (slice_get os n) (and_parts (n == front_of os) (takes (Message value) (slice_get os n)) fits).1 in (q.0, q.1)
old_offer terms os (Pass l n) h fits = let q = some_of passes refl (slice_get os n) (and_parts (n == front_of os) (passes (slice_get os n)) fits).1 in (q.0, q.1)
old_offer terms os (Did l n answer) h fits =
    let q = some_of (takes (Done answer)) refl (slice_get os n) (and_parts (n == front_of os) (takes (Done answer) (slice_get os n)) fits).1 in (q.0, q.1)
old_offer terms os (Reply l n answer) h fits = let q = some_of (replies answer) refl (slice_get os n) fits in (q.0, q.1)

-- one that makes none and answers none withdraws an offer
pub withdraws_offered : (terms : Terms) (os : List LinkOffer) (e : Event) → is_new e ≡ false → wants e ≡ 0 → link_fits terms os e ≡ true
    → (o : LinkOffer) → slice_get os (number_of e) ≡ Some o → (level o.standing ≡ 1) × (is_owners e ≡ true)
withdraws_offered terms os (Offer l n payload) h w fits o is = let bad : true ≡ false = h in absurd (cc)
withdraws_offered terms os (Withdraw l n) h w fits o is =
    let q = some_of withdraws refl (slice_get os n) fits in
    (ap (λ (x : LinkOffer). level x.standing) (same_Some o q.0 (sym is ∙ q.1)) ∙ offered_level q.0.standing q.2, refl)
withdraws_offered terms os (Know l n) h w fits o is = absurd (omega (arith, w))
withdraws_offered terms os (Room l n) h w fits o is = absurd (omega (arith, w))
withdraws_offered terms os (Got l n value) h w fits o is = absurd (omega (arith, w))
withdraws_offered terms os (Pass l n) h w fits o is = absurd (omega (arith, w))
withdraws_offered terms os (Did l n answer) h w fits o is = absurd (omega (arith, w))
withdraws_offered terms os (Reply l n answer) h w fits o is = absurd (omega (arith, w))

-- the offers before the front are decided
front_decided : (os : List LinkOffer) (i : ℕ) → i < front_of os → (o : LinkOffer) × (slice_get os i ≡ Some o) × (is_decided o.standing ≡ true)
front_decided [] i lt = absurd (omega (arith, lt))
front_decided (o ∷ os) i lt = by (is_decided o.standing) refl i lt (λ j below. front_decided os j below)
  where
    by : (b : Bool) → is_decided o.standing ≡ b → (i : ℕ) → i < (if b then suc (front_of os) else 0)
        → ((j : ℕ) → j < front_of os → (x : LinkOffer) × (slice_get os j ≡ Some x) × (is_decided x.standing ≡ true))
        → (x : LinkOffer) × (slice_get (o ∷ os) i ≡ Some x) × (is_decided x.standing ≡ true)
    by true is zero lt again = (o, refl, is)
    by true is (suc i) lt again = again i (omega (arith, lt))
    by false is i lt again = absurd (omega (arith, lt))

-- and the first that is not is the front
front_is : (qs : List LinkOffer) (n : ℕ) → ((i : ℕ) → i < n → (o : LinkOffer) × (slice_get qs i ≡ Some o) × (is_decided o.standing ≡ true))
    → (q : LinkOffer) → slice_get qs n ≡ Some q → is_decided q.standing ≡ false → front_of qs ≡ n
front_is [] n before q is undecided = let bad : None ≡ Some q = is in absurd (cc)
front_is (x ∷ qs) zero before q is undecided =
    ap (λ b. if b then suc (front_of qs) else 0) (ap (λ (y : LinkOffer). is_decided y.standing) (same_Some x q is) ∙ undecided)
front_is (x ∷ qs) (suc n) before q is undecided =
    let first = before 0 (omega arith) in
    ap (λ b. if b then suc (front_of qs) else 0) (ap (λ (y : LinkOffer). is_decided y.standing) (same_Some x first.0 first.1) ∙ first.2)
    ∙ ap suc (front_is qs n (λ i lt. before (suc i) (omega (arith, lt))) q is undecided)

module _ (terms : Terms) (os qs : List LinkOffer) where
  as_many : knowns qs ≡ knowns os → length qs ≡ length os
  as_many h = sym (flags_length (λ (o : LinkOffer). o.known) qs) ∙ ap length h ∙ flags_length (λ (o : LinkOffer). o.known) os

  as_far : knowns qs ≡ knowns os → known_lead qs ≡ known_lead os
  as_far h = lead_is qs ∙ ap lead h ∙ sym (lead_is os)

  known_as : knowns qs ≡ knowns os → (n : ℕ) (o it : LinkOffer) → slice_get os n ≡ Some o → slice_get qs n ≡ Some it → it.known ≡ o.known
  known_as h n o it is there =
      same_Some it.known o.known (sym (flags_get (λ (x : LinkOffer). x.known) qs n it there) ∙ ap (λ bs. slice_get bs n) h ∙ flags_get (λ (x : LinkOffer). x.known) os n o is)

  front_too : (n : ℕ) → (n == front_of os) ≡ true → ((i : ℕ) (o : LinkOffer) → i < n → slice_get os i ≡ Some o → is_decided o.standing ≡ true → StandsAlike (slice_get qs i) o)
      → (it : LinkOffer) → slice_get qs n ≡ Some it → is_decided it.standing ≡ false → (n == front_of qs) ≡ true
  front_too n h before it there undecided =
      let same = eqb-true n (front_of os) h in
      eq-eqb n (front_of qs) (sym (front_is qs n (λ i lt. decided_at i (front_decided os i (omega (arith, lt, same))) lt) it there undecided))
    where
      decided_at : (i : ℕ) → (o : LinkOffer) × (slice_get os i ≡ Some o) × (is_decided o.standing ≡ true) → i < n
          → (o : LinkOffer) × (slice_get qs i ≡ Some o) × (is_decided o.standing ≡ true)
      decided_at i f lt = let a = before i f.0 lt f.1 f.2 in (a.it, a.there, ap is_decided a.standing ∙ f.2)

  abbrev AlikeOffer : Event → Type 0
  AlikeOffer e = is_new e ≡ false → (o : LinkOffer) → slice_get os (number_of e) ≡ Some o → StandsAlike (slice_get qs (number_of e)) o

  abbrev AlikeBefore : Event → Type 0
  AlikeBefore e = is_peers e ≡ true → (i : ℕ) (o : LinkOffer) → i < number_of e → slice_get os i ≡ Some o → is_decided o.standing ≡ true → StandsAlike (slice_get qs i) o

  -- an entry that fits the one fits the other
  pub fits_too : (e : Event) → link_fits terms os e ≡ true → (is_owners e ≡ true → knowns qs ≡ knowns os) → AlikeOffer e → AlikeBefore e → RepliedToo (replieds qs) (replieds os)
      → link_fits terms qs e ≡ true
  fits_too (Offer l n payload) fits known alike before replied =
      ap (λ k. (n == k) && nat_lt (k - known_lead qs) terms.capacity && is_payload terms.requests payload) (as_many (known refl))
      ∙ ap (λ k. (n == length os) && nat_lt (length os - k) terms.capacity && is_payload terms.requests payload) (as_far (known refl)) ∙ fits
  fits_too (Withdraw l n) fits known alike before replied =
      let q = some_of withdraws refl (slice_get os n) fits in
      let a = alike refl q.0 q.1 in
      ap withdraws a.there ∙ ap is_offered a.standing ∙ q.2
  fits_too (Know l n) fits known alike before replied =
      let q = some_of knows refl (slice_get os n) fits in
      let a = alike refl q.0 q.1 in
      ap knows a.there ∙ ap (λ s. is_taken s && not a.it.known) a.standing ∙ ap (λ b. is_taken q.0.standing && not b) (known_as (known refl) n q.0 a.it q.1 a.there) ∙ q.2
  fits_too (Room l n) fits known alike before replied =
      let q = some_of frees refl (slice_get os n) fits in
      let a = alike refl q.0 q.1 in
      ap frees a.there ∙ ap (λ s. is_passed s && not a.it.known) a.standing ∙ ap (λ b. is_passed q.0.standing && not b) (known_as (known refl) n q.0 a.it q.1 a.there) ∙ q.2
  fits_too (Got l n value) fits known alike before replied =
      let p = and_parts (n == front_of os) (takes (Message value) (slice_get os n)) fits in
      let q = some_of (takes (Message value)) refl (slice_get os n) p.1 in
      let a = alike refl q.0 q.1 in
      let undecided = offered_open q.0.standing (and_parts (is_offered q.0.standing) (carries (Message value) q.0.payload) q.2).0 in
      both_true (n == front_of qs) (takes (Message value) (slice_get qs n)) (front_too n p.0 (before refl) a.it a.there (ap is_decided a.standing ∙ undecided))
      (ap (takes (Message value)) a.there ∙ ap (λ s. is_offered s && carries (Message value) a.it.payload) a.standing
      ∙ ap (λ x. is_offered q.0.standing && carries (Message value) x) a.payload ∙ q.2)
  fits_too (Pass l n) fits known alike before replied =
      let p = and_parts (n == front_of os) (passes (slice_get os n)) fits in
      let q = some_of passes refl (slice_get os n) p.1 in
      let a = alike refl q.0 q.1 in
      both_true (n == front_of qs) (passes (slice_get qs n)) (front_too n p.0 (before refl) a.it a.there (ap is_decided a.standing ∙ withdrawn_open q.0.standing q.2))
      (ap passes a.there ∙ ap is_withdrawn a.standing ∙ q.2)
  fits_too (Did l n answer) fits known alike before replied =
      let p = and_parts (n == front_of os) (takes (Done answer) (slice_get os n)) fits in
      let q = some_of (takes (Done answer)) refl (slice_get os n) p.1 in
      let a = alike refl q.0 q.1 in
      let undecided = offered_open q.0.standing (and_parts (is_offered q.0.standing) (carries (Done answer) q.0.payload) q.2).0 in
      both_true (n == front_of qs) (takes (Done answer) (slice_get qs n)) (front_too n p.0 (before refl) a.it a.there (ap is_decided a.standing ∙ undecided))
      (ap (takes (Done answer)) a.there ∙ ap (λ s. is_offered s && carries (Done answer) a.it.payload) a.standing
      ∙ ap (λ x. is_offered q.0.standing && carries (Done answer) x) a.payload ∙ q.2)
  fits_too (Reply l n answer) fits known alike before replied =
      let q = some_of (replies answer) refl (slice_get os n) fits in
      let a = alike refl q.0 q.1 in
      let p = and_parts (has_answer answer q.0.answer) (not q.0.replied) q.2 in
      ap (replies answer) a.there ∙ ap (λ x. has_answer answer x && not a.it.replied) a.answer
      ∙ ap (λ b. has_answer answer q.0.answer && not b) (no_reply a.it.replied q.0.replied (cases_Bool a.it.replied)
      (λ t. sym (at_place os q.0 q.1) ∙ replied n (at_place qs a.it a.there ∙ t)) p.1)
      ∙ q.2
    where
      at_place : (xs : List LinkOffer) (x : LinkOffer) → slice_get xs n ≡ Some x → get_or (replieds xs) n false ≡ x.replied
      at_place xs x h = get_or_from_slice_get (replieds xs) n x.replied false (flags_get (λ (y : LinkOffer). y.replied) xs n x h)

      no_reply : (b c : Bool) → (b ≡ true) ⊎ (b ≡ false) → (b ≡ true → c ≡ true) → not c ≡ true → b ≡ c
      no_reply b true d h none = let bad : false ≡ true = none in absurd (cc)
      no_reply b false (inl t) h none = let bad : false ≡ true = h t in absurd (cc)
      no_reply b false (inr f) h none = f

  -- ---- and what it makes of both

  module _ (s : ℕ) where
    changed_alike : (n : ℕ) (f : LinkOffer → LinkOffer) (o new : LinkOffer) → slice_get os n ≡ Some o → slice_get (changed os n f (slice_get os n)) n ≡ Some new
        → (a : StandsAlike (slice_get qs n) o) → ((f a.it).payload ≡ (f o).payload) → ((f a.it).standing ≡ (f o).standing) → ((f a.it).stamp ≡ (f o).stamp)
        → ((f a.it).answer ≡ (f o).answer) → StandsAlike (slice_get (changed qs n f (slice_get qs n)) n) new
    changed_alike n f o new is now a payload standing stamp answer =
        subst (λ x. StandsAlike (slice_get (changed qs n f (slice_get qs n)) n) x) (same_Some (f o) new (sym (own_changed os n f o is) ∙ now))
        (record { it = f a.it; there = own_changed qs n f a.it a.there; payload = payload; standing = standing; stamp = stamp; answer = answer })

    pub alike_after : (e : Event) → is_new e ≡ false → (o new : LinkOffer) → slice_get os (number_of e) ≡ Some o → slice_get (link_after os s e) (number_of e) ≡ Some new
        → StandsAlike (slice_get qs (number_of e)) o → StandsAlike (slice_get (link_after qs s e) (number_of e)) new
    alike_after (Offer l n payload) h o new is now a = let bad : true ≡ false = h in absurd (cc)
    alike_after (Withdraw l n) h o new is now a = changed_alike n (stands Withdrawn s) o new is now a a.payload refl refl a.answer
    alike_after (Know l n) h o new is now a = changed_alike n now_known o new is now a a.payload a.standing a.stamp a.answer
    alike_after (Room l n) h o new is now a = changed_alike n now_known o new is now a a.payload a.standing a.stamp a.answer
    alike_after (Got l n value) h o new is now a = changed_alike n (now_taken (Message value) s) o new is now a a.payload refl refl refl
    alike_after (Pass l n) h o new is now a = changed_alike n (stands Passed s) o new is now a a.payload refl refl a.answer
    alike_after (Did l n answer) h o new is now a = changed_alike n (now_taken (Done answer) s) o new is now a a.payload refl refl refl
    alike_after (Reply l n answer) h o new is now a = changed_alike n now_replied o new is now a a.payload a.standing a.stamp a.answer

    pub new_alike : (e : Event) → is_new e ≡ true → link_fits terms os e ≡ true → link_fits terms qs e ≡ true → (new : LinkOffer)
        → slice_get (link_after os s e) (number_of e) ≡ Some new → StandsAlike (slice_get (link_after qs s e) (number_of e)) new
    new_alike (Offer l n payload) h fits too new now =
        subst (λ x. StandsAlike (slice_get (qs ++ new_offer payload s ∷ []) n) x) (same_Some (new_offer payload s) new (sym (last_of os (offers_next terms os s l n payload fits)) ∙ now))
        (record { it = new_offer payload s; there = last_of qs (offers_next terms qs s l n payload too); payload = refl; standing = refl; stamp = refl; answer = refl })
      where
        last_of : (xs : List LinkOffer) → n ≡ length xs → slice_get (xs ++ new_offer payload s ∷ []) n ≡ Some (new_offer payload s)
        last_of xs e = subst (λ k. slice_get (xs ++ new_offer payload s ∷ []) k ≡ Some (new_offer payload s)) (sym e) (get_pushed_last xs (new_offer payload s))
    new_alike (Withdraw l n) h fits too new now = let bad : false ≡ true = h in absurd (cc)
    new_alike (Know l n) h fits too new now = let bad : false ≡ true = h in absurd (cc)
    new_alike (Room l n) h fits too new now = let bad : false ≡ true = h in absurd (cc)
    new_alike (Got l n value) h fits too new now = let bad : false ≡ true = h in absurd (cc)
    new_alike (Pass l n) h fits too new now = let bad : false ≡ true = h in absurd (cc)
    new_alike (Did l n answer) h fits too new now = let bad : false ≡ true = h in absurd (cc)
    new_alike (Reply l n answer) h fits too new now = let bad : false ≡ true = h in absurd (cc)

    -- an entry that leaves its offer where it stands
    pub alike_stays : (e : Event) → gives e ≡ 0 → (o new : LinkOffer) → slice_get os (number_of e) ≡ Some o → slice_get (link_after os s e) (number_of e) ≡ Some new
        → StandsAlike (slice_get qs (number_of e)) o → StandsAlike (slice_get qs (number_of e)) new
    alike_stays e z o new is now a =
        let k = kept_of e z is now in
        record { it = a.it; there = a.there; payload = a.payload ∙ sym k.0; standing = a.standing ∙ sym k.1; stamp = a.stamp ∙ sym k.2; answer = a.answer ∙ sym k.3 }
      where
        kept_by : (x : LinkOffer) → (x.payload ≡ o.payload) × (x.standing ≡ o.standing) × (x.stamp ≡ o.stamp) × (x.answer ≡ o.answer) → x ≡ new
            → (new.payload ≡ o.payload) × (new.standing ≡ o.standing) × (new.stamp ≡ o.stamp) × (new.answer ≡ o.answer)
        kept_by x h e = subst (λ (y : LinkOffer). (y.payload ≡ o.payload) × (y.standing ≡ o.standing) × (y.stamp ≡ o.stamp) × (y.answer ≡ o.answer)) e h

        kept_at : (n : ℕ) (f : LinkOffer → LinkOffer) → slice_get os n ≡ Some o → slice_get (changed os n f (slice_get os n)) n ≡ Some new
            → ((f o).payload ≡ o.payload) × ((f o).standing ≡ o.standing) × ((f o).stamp ≡ o.stamp) × ((f o).answer ≡ o.answer)
            → (new.payload ≡ o.payload) × (new.standing ≡ o.standing) × (new.stamp ≡ o.stamp) × (new.answer ≡ o.answer)
        kept_at n f is now h = kept_by (f o) h (same_Some (f o) new (sym (own_changed os n f o is) ∙ now))

        kept_of : (e : Event) → gives e ≡ 0 → slice_get os (number_of e) ≡ Some o → slice_get (link_after os s e) (number_of e) ≡ Some new
            → (new.payload ≡ o.payload) × (new.standing ≡ o.standing) × (new.stamp ≡ o.stamp) × (new.answer ≡ o.answer)
        kept_of (Offer l n payload) z is now = absurd (omega (arith, z))
        kept_of (Withdraw l n) z is now = absurd (omega (arith, z))
        kept_of (Know l n) z is now = kept_at n now_known is now (refl, refl, refl, refl)
        kept_of (Room l n) z is now = kept_at n now_known is now (refl, refl, refl, refl)
        kept_of (Got l n value) z is now = absurd (omega (arith, z))
        kept_of (Pass l n) z is now = absurd (omega (arith, z))
        kept_of (Did l n answer) z is now = absurd (omega (arith, z))
        kept_of (Reply l n answer) z is now = kept_at n now_replied is now (refl, refl, refl, refl)
