-- What the calls make of the two views of a link are the views of a link again (`AreViews`). This is the invariant of `KeptLink`.
-- That the views agree is taken over from ac_links; new here is that each offer is one of the link's kind, kept by the element that changes.
-- The hard case is a reply: the first that waits is that of the least open request.
use Rattle.std.proofs.Common.{◌≡◌, ℕ, zero, suc, ◌<◌, ◌≤◌, List, [], ◌∷◌, ◌++◌, Option, Some, None, Bool, true, false, IfSome, refl, sym, ap, ◌∙◌, subst, arith, length, get_or, set, ℤ}
use Rattle.std.specs.Prelude.{slice_get}
use Rattle.std.specs.List.{All}
use Rattle.std.specs.Cmp.Lexicographic.{pointwise_decides}
use Rattle.std.proofs.lemmas.List.Elements.{All-push, All-cons, All-head, All-tail}
use Rattle.std.proofs.lemmas.Bool.Decides.{Decides-int_eq}
use Rattle.ac_base.specs.Messages.{ints_eq}
use Rattle.ac_base.specs.declared.entry.Payload.{Payload}
use Rattle.ac_base.specs.declared.entry.Payload.TheVariants.{Int, Read, Write}
use Rattle.ac_links.specs.declared.payloads.Terms.{Terms}
use Rattle.ac_base.specs.declared.entry.Answer.{Answer}
use Rattle.ac_links.specs.Payloads.{Taking, is_payload, carries, answer_fits, is_request}
use Rattle.ac_links.specs.Views.{OwnerOffer, PeerDecision, altered, known_at, withdrawn_at, replied_with, Response, may_reply, owner_offer, ViewsAgree, IsReplyTo, DecisionFits}
use Rattle.ac_links.specs.Noted.{offer_stamp, decision_stamp}
use Rattle.ac_links.specs.Payloads.Taking.{Message, Done}
use Rattle.ac_links.specs.Replies.{waiting_replies, least_open, is_done_or_passed, NoMessages, TakesReply}
use Rattle.ac_links.proofs.Keeps.{agree_offer, agree_decide, agree_withdraw, agree_learn}
use Rattle.ac_links.proofs.Waiting.{takes_reply}
use Rattle.core_channels.specs.LinkViews.{IsOffer, AreViews}
use Rattle.core_channels.specs.Takes.{message_of, taken_decision, passed_decision}
use Rattle.core_channels.specs.Requests.{did_decision}

pub decided_within : (os : List OwnerOffer) (ds : List PeerDecision) → ViewsAgree os ds → length ds ≤ length os
decided_within [] [] a = omega arith
decided_within [] (d ∷ ds) a = absurd a
decided_within (o ∷ os) [] a = omega arith
decided_within (o ∷ os) (d ∷ ds) a = let ih = decided_within os ds a.1 in omega arith

-- nothing is known of an offer that is not decided
pub is_open : (os : List OwnerOffer) (ds : List PeerDecision) (o : OwnerOffer) → slice_get os (length ds) ≡ Some o → ViewsAgree os ds → (o.known ≡ None) × (o.reply ≡ None)
is_open [] [] o h a = cc
is_open [] (d ∷ ds) o h a = absurd a
is_open (x ∷ os) [] o h a = let e : x ≡ o = cc in (subst (λ y. y.known ≡ None) e a.0, subst (λ y. y.reply ≡ None) e a.1)
is_open (x ∷ os) (d ∷ ds) o h a = is_open os ds o h a.1

-- an element that is changed in its place
set_alters : {X : Type 0} (f : X → X) (xs : List X) (n : ℕ) (d : X) → set xs n (f (get_or xs n d)) ≡ altered xs n f
set_alters f [] n d = refl
set_alters f (x ∷ xs) zero d = refl
set_alters f (x ∷ xs) (suc n) d = ap (λ r. x ∷ r) (set_alters f xs n d)

pub set_is_altered : {X : Type 0} (f : X → X) (xs : List X) (n : ℕ) (x y : X) → y ≡ f x → x ≡ get_or xs n x → set xs n y ≡ altered xs n f
set_is_altered f xs n x y e g = ap (set xs n) (e ∙ ap f g) ∙ set_alters f xs n x

all_altered : {X : Type 0} (P : X → Type 0) (f : X → X) (xs : List X) (n : ℕ) → ((x : X) → slice_get xs n ≡ Some x → P x → P (f x)) → All P xs → All P (altered xs n f)
all_altered P f [] n h a = a
all_altered P f (x ∷ xs) zero h a = All-cons P (f x) xs (h x refl (All-head P x xs a)) (All-tail P x xs a)
all_altered P f (x ∷ xs) (suc n) h a = All-cons P x (altered xs n f) (All-head P x xs a) (all_altered P f xs n h (All-tail P x xs a))

pub views_offer : (r : Bool) (os : List OwnerOffer) (ds : List PeerDecision) (p : Payload) (s : ℕ) → is_payload r p ≡ true → AreViews r os ds → AreViews r (os ++ owner_offer p s ∷ []) ds
views_offer r os ds p s h v = record {
  agree = agree_offer os ds (owner_offer p s) refl refl v.agree;
  each = All-push (IsOffer r) os (owner_offer p s) v.each (record { carried = h; later = tt });
}

views_know : (r : Bool) (os : List OwnerOffer) (ds : List PeerDecision) (n : ℕ) (d : PeerDecision) → slice_get ds n ≡ Some d → AreViews r os ds → AreViews r (altered os n (known_at d.stamp)) ds
views_know r os ds n d h v = record {
  agree = agree_learn os ds n d h v.agree;
  each = all_altered (IsOffer r) (known_at d.stamp) os n (λ o e p. record { carried = p.carried; later = p.later }) v.each;
}

found : {X : Type 0} (xs : List X) (n : ℕ) → n < length xs → (x : X) × (slice_get xs n ≡ Some x)
found [] n l = absurd (omega arith)
found (x ∷ xs) zero l = (x, refl)
found (x ∷ xs) (suc n) l = found xs n (omega arith)

pub views_known : (r : Bool) (os : List OwnerOffer) (ds : List PeerDecision) (n s : ℕ) → n < length ds → decision_stamp (slice_get ds n) ≡ s → AreViews r os ds
    → AreViews r (altered os n (known_at s)) ds
views_known r os ds n s l e v = let d = found ds n l in
    subst (λ x. AreViews r (altered os n (known_at x)) ds) (ap decision_stamp (sym d.1) ∙ e) (views_know r os ds n d.0 d.1 v)

pub views_withdraw : (r : Bool) (os : List OwnerOffer) (ds : List PeerDecision) (n s : ℕ) → length ds ≤ n → offer_stamp (slice_get os n) < s → AreViews r os ds
    → AreViews r (altered os n (withdrawn_at s)) ds
views_withdraw r os ds n s h l v = record {
  agree = agree_withdraw os ds n s h v.agree;
  each = all_altered (IsOffer r) (withdrawn_at s) os n (λ o e p. record { carried = p.carried; later = subst (λ q. offer_stamp q < s) e l }) v.each;
}

ints_eq_self : (v : List ℤ) → ints_eq v v ≡ true
ints_eq_self v = (pointwise_decides Decides-int_eq v v).1 refl

-- a channel's offer carries the message that is taken of it
is_carried : (p : Payload) → is_payload false p ≡ true → carries (Message (message_of p)) p ≡ true
is_carried (Int v) h = ints_eq_self v
is_carried (Read f a n) h = cc
is_carried (Write f a b) h = cc

pub all_at : {X : Type 0} (P : X → Type 0) (xs : List X) (n : ℕ) (x : X) → slice_get xs n ≡ Some x → All P xs → P x
all_at P [] n x h a = cc
all_at P (y ∷ xs) zero x h a = let e : y ≡ x = cc in subst P e (All-head P y xs a)
all_at P (y ∷ xs) (suc n) x h a = all_at P xs n x h (All-tail P y xs a)

if_none : {X : Type 0} (P : X → Type 0) (q : Option X) → q ≡ None → IfSome q P
if_none P None e = tt
if_none P (Some x) e = cc

pub views_take : (os : List OwnerOffer) (ds : List PeerDecision) (o : OwnerOffer) (s : ℕ) → slice_get os (length ds) ≡ Some o → o.withdrawn ≡ None → o.stamp < s → AreViews false os ds
    → AreViews false os (ds ++ taken_decision (message_of o.payload) s o.stamp ∷ [])
views_take os ds o s h w l v =
    let free = is_open os ds o h v.agree in
    let fits : DecisionFits o.payload o.stamp (taken_decision (message_of o.payload) s o.stamp) o.withdrawn =
    subst (DecisionFits o.payload o.stamp (taken_decision (message_of o.payload) s o.stamp)) (sym w)
    (Message (message_of o.payload), refl, is_carried o.payload (all_at (IsOffer false) os (length ds) o h v.each).carried, refl) in
    record {
      agree = agree_decide os ds o (taken_decision (message_of o.payload) s o.stamp) h
          (l, fits, if_none (λ k. k ≡ s) o.known free.0, l, if_none (IsReplyTo (taken_decision (message_of o.payload) s o.stamp)) o.reply free.1) v.agree;
      each = v.each;
    }

later_than : (q : Option ℕ) (s w : ℕ) → q ≡ Some w → IfSome q (λ k. s < k) → s < w
later_than None s w e h = cc
later_than (Some k) s w e h = let q : k ≡ w = cc in subst (λ x. s < x) q h

pub views_pass : (r : Bool) (os : List OwnerOffer) (ds : List PeerDecision) (o : OwnerOffer) (s w : ℕ) → slice_get os (length ds) ≡ Some o → o.withdrawn ≡ Some w → w < s → AreViews r os ds
    → AreViews r os (ds ++ passed_decision s w ∷ [])
views_pass r os ds o s w h e l v =
    let free = is_open os ds o h v.agree in
    let own : o.stamp < w = later_than o.withdrawn o.stamp w e (all_at (IsOffer r) os (length ds) o h v.each).later in
    let up : o.stamp < s = omega arith in
    let fits : DecisionFits o.payload o.stamp (passed_decision s w) o.withdrawn = subst (DecisionFits o.payload o.stamp (passed_decision s w)) (sym e) (refl, refl) in
    record {
      agree = agree_decide os ds o (passed_decision s w) h (up, fits, if_none (λ k. k ≡ s) o.known free.0, l, if_none (IsReplyTo (passed_decision s w)) o.reply free.1) v.agree;
      each = v.each;
    }

pub views_did : (r : Bool) (os : List OwnerOffer) (ds : List PeerDecision) (o : OwnerOffer) (w : Answer) (s : ℕ) → slice_get os (length ds) ≡ Some o → o.withdrawn ≡ None
    → answer_fits w o.payload ≡ true → o.stamp < s → AreViews r os ds → AreViews r os (ds ++ did_decision w s o.stamp ∷ [])
views_did r os ds o w s h e f l v =
    let free = is_open os ds o h v.agree in
    let fits : DecisionFits o.payload o.stamp (did_decision w s o.stamp) o.withdrawn =
    subst (DecisionFits o.payload o.stamp (did_decision w s o.stamp)) (sym e) (Done w, refl, f, refl) in
    record {
      agree = agree_decide os ds o (did_decision w s o.stamp) h
          (l, fits, if_none (λ k. k ≡ s) o.known free.0, l, if_none (IsReplyTo (did_decision w s o.stamp)) o.reply free.1) v.agree;
      each = v.each;
    }

-- ---- replies

-- no request is taken as a message
not_a_message : (p : Payload) (g : Taking) → is_request p ≡ true → carries g p ≡ true → is_done_or_passed (Some g) ≡ true
not_a_message (Int v) g h c = cc
not_a_message (Read f a n) (Message v) h c = cc
not_a_message (Read f a n) (Done w) h c = refl
not_a_message (Write f a b) (Message v) h c = cc
not_a_message (Write f a b) (Done w) h c = refl

decided_so : (p : Payload) (stamp : ℕ) (d : PeerDecision) (q : Option ℕ) → is_request p ≡ true → DecisionFits p stamp d q → is_done_or_passed d.value ≡ true
decided_so p stamp d None h f = subst (λ x. is_done_or_passed x ≡ true) (sym f.1) (not_a_message p f.0 h f.2)
decided_so p stamp d (Some w) h f = subst (λ x. is_done_or_passed x ≡ true) (sym f.0) refl

pub no_messages : (os : List OwnerOffer) (ds : List PeerDecision) → All (IsOffer true) os → ViewsAgree os ds → NoMessages ds
no_messages [] [] e a = tt
no_messages [] (d ∷ ds) e a = absurd a
no_messages (o ∷ os) [] e a = tt
no_messages (o ∷ os) (d ∷ ds) e a =
    (decided_so o.payload o.stamp d o.withdrawn (All-head (IsOffer true) o os e).carried a.0.1, no_messages os ds (All-tail (IsOffer true) o os e) a.1)

front_and_rest : {X : Type 0} (xs : List X) (x : X) → slice_get xs 0 ≡ Some x → (rest : List X) × (xs ≡ x ∷ rest)
front_and_rest [] x h = cc
front_and_rest (y ∷ ys) x h = let e : y ≡ x = cc in (ys, ap (λ z. z ∷ ys) e)

-- the owner may take the first reply that waits, as that of its least open request
pub next_reply : (terms : Terms) (l : ℕ) (os : List OwnerOffer) (ds : List PeerDecision) (r : Response) → slice_get (waiting_replies os ds) 0 ≡ Some r → AreViews true os ds
    → (rest : List Response) × TakesReply terms l os ds r rest
next_reply terms l os ds r h v = let f = front_and_rest (waiting_replies os ds) r h in (f.0, takes_reply terms l os ds r f.0 v.agree (no_messages os ds v.each v.agree) f.1)

pub views_reply : (terms : Terms) (os : List OwnerOffer) (ds : List PeerDecision) (w : Answer) (of : ℕ) → slice_get (waiting_replies os ds) 0 ≡ Some (record { answer = w; of = of })
    → AreViews true os ds → AreViews true (altered os (least_open os) (replied_with w of)) ds
views_reply terms os ds w of h v = let t = next_reply terms 0 os ds (record { answer = w; of = of }) h v in record {
  agree = t.1.agree;
  each = all_altered (IsOffer true) (replied_with w of) os (least_open os) (λ o e p. record { carried = p.carried; later = p.later }) v.each;
}

in_list : (os : List OwnerOffer) (n : ℕ) → may_reply (slice_get os n) ≡ true → n < length os
in_list [] n h = cc
in_list (o ∷ os) zero h = omega arith
in_list (o ∷ os) (suc n) h = let ih = in_list os n h in omega arith

pub reply_within : (terms : Terms) (os : List OwnerOffer) (ds : List PeerDecision) (r : Response) → slice_get (waiting_replies os ds) 0 ≡ Some r → AreViews true os ds → least_open os < length os
reply_within terms os ds r h v = let t = next_reply terms 0 os ds r h v in in_list os (least_open os) t.1.fits
