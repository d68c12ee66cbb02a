-- What comes over the ring of the replies is the answer to the least request that waits for one, and none is lost. For `replies_come_in_order` and `ring_goes_on`.
-- By induction on the two views together: requests that were withdrawn or replied are passed over on both sides, and the first that waits is the least open one.
-- Behind a request that waits none has had its reply (`AreInTurn`), so what was had and what waits are together what was done, in its order.
use Rattle.std.proofs.Common.{◌≡◌, ℕ, zero, suc, ◌≤◌, List, [], ◌∷◌, ◌++◌, Option, Some, None, Bool, true, false, cond, ◌&&◌, refl, sym, ap, ◌∙◌, subst, arith, length, append_assoc}
use Rattle.std.specs.Prelude.{slice_get, is_some, is_none, ◌||◌, IfSome}
use Rattle.std.proofs.lemmas.List.{append-nil}
use Rattle.ac_base.specs.declared.entry.Payload.{Payload}
use Rattle.ac_base.specs.declared.entry.Answer.{Answer}
use Rattle.ac_links.specs.declared.payloads.Terms.{Terms}
use Rattle.ac_links.specs.Payloads.{Taking}
use Rattle.ac_links.specs.Payloads.Taking.{Message, Done}
use Rattle.ac_links.specs.Views.{Response, OwnerOffer, PeerDecision, may_reply, altered, withdrawn_at, known_at, replied_with, IsReplyTo, DecisionFits, ViewsAgree}
use Rattle.ac_links.specs.Replies.{response_at, response_of, responses, waiting_replies, least_open, is_done_or_passed, NoMessages, reply_had, replies_had, NoneAfter, AreInTurn, TakesReply}
use Rattle.ac_links.proofs.Keeps.{agree_reply}

-- the front of the ring, r, is what the peer decided of offer n, which waits for its reply
record Next (os : List OwnerOffer) (ds : List PeerDecision) (r : Response) (rest : List Response) (n : ℕ) : Type 0 where
  own : OwnerOffer
  own_at : slice_get os n ≡ Some own
  open' : own.withdrawn ≡ None
  unreplied : own.reply ≡ None
  done : PeerDecision
  done_at : slice_get ds n ≡ Some done
  value : done.value ≡ Some (Done r.answer)
  stamp : r.of ≡ done.stamp
  left : waiting_replies (altered os n (replied_with r.answer r.of)) ds ≡ rest

waiting_had : (o : OwnerOffer) (os : List OwnerOffer) (d : PeerDecision) (ds : List PeerDecision) (x : Response) → o.reply ≡ Some x → waiting_replies (o ∷ os) (d ∷ ds) ≡ waiting_replies os ds
waiting_had o os d ds x e = ap (λ q. cond (is_some q) (waiting_replies os ds) (response_of d ++ waiting_replies os ds)) e

waiting_not : (o : OwnerOffer) (os : List OwnerOffer) (d : PeerDecision) (ds : List PeerDecision) → o.reply ≡ None → waiting_replies (o ∷ os) (d ∷ ds) ≡ response_of d ++ waiting_replies os ds
waiting_not o os d ds e = ap (λ q. cond (is_some q) (waiting_replies os ds) (response_of d ++ waiting_replies os ds)) e

or_right : (a b : Bool) → b ≡ true → a || b ≡ true
or_right true b p = refl
or_right false b p = p

or_left : (a b : Bool) → a ≡ true → a || b ≡ true
or_left a b p = rw p refl

least_skip : (o : OwnerOffer) (os : List OwnerOffer) → is_some o.withdrawn || is_some o.reply ≡ true → least_open (o ∷ os) ≡ suc (least_open os)
least_skip o os e = ap (λ b. cond b (suc (least_open os)) 0) e

least_here : (o : OwnerOffer) (os : List OwnerOffer) → o.withdrawn ≡ None → o.reply ≡ None → least_open (o ∷ os) ≡ 0
least_here o os e f = ap (λ q. cond (is_some q || is_some o.reply) (suc (least_open os)) 0) e ∙ ap (λ q. cond (is_some q) (suc (least_open os)) 0) f

-- one that is passed over
skip : (o : OwnerOffer) (os : List OwnerOffer) (d : PeerDecision) (ds : List PeerDecision) (r : Response) (rest : List Response) (n : ℕ)
    → ((ps : List OwnerOffer) → waiting_replies (o ∷ ps) (d ∷ ds) ≡ waiting_replies ps ds) → Next os ds r rest n
    → Next (o ∷ os) (d ∷ ds) r rest (suc n)
skip o os d ds r rest n e x = record {
  own = x.own;
  own_at = x.own_at;
  open' = x.open';
  unreplied = x.unreplied;
  done = x.done;
  done_at = x.done_at;
  value = x.value;
  stamp = x.stamp;
  left = e (altered os n (replied_with r.answer r.of)) ∙ x.left;
}

decided_none : (p : Payload) (t w : ℕ) (d : PeerDecision) (q : Option ℕ) → DecisionFits p t d q → q ≡ Some w → d.value ≡ None
decided_none p t w d None h e = cc
decided_none p t w d (Some x) h e = h.0

decided_some : (p : Payload) (t : ℕ) (d : PeerDecision) (q : Option ℕ) → DecisionFits p t d q → q ≡ None → (g : Taking) × (d.value ≡ Some g)
decided_some p t d None h e = (h.0, h.1)
decided_some p t d (Some x) h e = cc

-- on a link of requests what is taken is done
is_done : (q : Option Taking) (g : Taking) → is_done_or_passed q ≡ true → q ≡ Some g → (a : Answer) × (q ≡ Some (Done a))
is_done None g h e = cc
is_done (Some (Message v)) g h e = cc
is_done (Some (Done a)) g h e = (a, refl)

head_is : {X : Type 0} {x y : X} {xs ys : List X} → x ∷ xs ≡ y ∷ ys → x ≡ y
head_is h = cc

tail_is : {X : Type 0} {x y : X} {xs ys : List X} → x ∷ xs ≡ y ∷ ys → xs ≡ ys
tail_is h = cc

-- this one waits: it is the one
here : (o : OwnerOffer) (os : List OwnerOffer) (d : PeerDecision) (ds : List PeerDecision) (a : Answer) (r : Response) (rest : List Response) → o.withdrawn ≡ None → o.reply ≡ None
    → d.value ≡ Some (Done a)
    → waiting_replies (o ∷ os) (d ∷ ds) ≡ r ∷ rest → Next (o ∷ os) (d ∷ ds) r rest 0
here o os d ds a r rest e f v h =
    let x : Response = record { answer = a; of = d.stamp } in
    let w : x ∷ waiting_replies os ds ≡ r ∷ rest = sym (waiting_not o os d ds f ∙ ap (λ q. response_at d.stamp q ++ waiting_replies os ds) v) ∙ h in
    let same : x ≡ r = head_is w in
    record {
      own = o;
      own_at = refl;
      open' = e;
      unreplied = f;
      done = d;
      done_at = refl;
      value = v ∙ ap (λ y. Some (Done y.answer)) same;
      stamp = ap (λ y. y.of) (sym same);
      left = tail_is w;
    }

next_at : (o : OwnerOffer) (os : List OwnerOffer) (d : PeerDecision) (ds : List PeerDecision) (r : Response) (rest : List Response) → DecisionFits o.payload o.stamp d o.withdrawn
    → is_done_or_passed d.value ≡ true → (waiting_replies os ds ≡ r ∷ rest → Next os ds r rest (least_open os))
    → waiting_replies (o ∷ os) (d ∷ ds) ≡ r ∷ rest → (q : Option Response) → o.reply ≡ q → (w : Option ℕ) → o.withdrawn ≡ w → Next (o ∷ os) (d ∷ ds) r rest (least_open (o ∷ os))
next_at o os d ds r rest k g go h (Some x) e w f =
    subst (Next (o ∷ os) (d ∷ ds) r rest) (sym (least_skip o os (or_right _ _ (ap is_some e))))
    (skip o os d ds r rest (least_open os) (λ ps. waiting_had o ps d ds x e) (go (sym (waiting_had o os d ds x e) ∙ h)))
next_at o os d ds r rest k g go h None e (Some w) f =
    let v : d.value ≡ None = decided_none o.payload o.stamp w d o.withdrawn k f in
    let past : (ps : List OwnerOffer) → waiting_replies (o ∷ ps) (d ∷ ds) ≡ waiting_replies ps ds = λ ps. waiting_not o ps d ds e ∙ ap (λ y. response_at d.stamp y ++ waiting_replies ps ds) v in
    subst (Next (o ∷ os) (d ∷ ds) r rest) (sym (least_skip o os (or_left _ _ (ap is_some f)))) (skip o os d ds r rest (least_open os) past (go (sym (past os) ∙ h)))
next_at o os d ds r rest k g go h None e None f =
    let v = decided_some o.payload o.stamp d o.withdrawn k f in
    let a = is_done d.value v.0 g v.1 in
    subst (Next (o ∷ os) (d ∷ ds) r rest) (sym (least_here o os f e)) (here o os d ds a.0 r rest f e a.1 h)

next : (os : List OwnerOffer) (ds : List PeerDecision) (r : Response) (rest : List Response) → ViewsAgree os ds → NoMessages ds → waiting_replies os ds ≡ r ∷ rest → Next os ds r rest (least_open os)
next [] ds r rest a m h = cc
next (o ∷ os) [] r rest a m h = cc
next (o ∷ os) (d ∷ ds) r rest a m h = next_at o os d ds r rest a.0.1 m.0 (λ k. next os ds r rest a.1 m.1 k) h o.reply refl o.withdrawn refl

and_true : (a b : Bool) → a ≡ true → b ≡ true → a && b ≡ true
and_true a b p q = rw (p, q)

-- the owner takes the front of the ring as the reply to its least request that waits: it may, and the views and the ring go on agreeing
pub takes_reply : (terms : Terms) (l : ℕ) (os : List OwnerOffer) (ds : List PeerDecision) (r : Response) (rest : List Response) → ViewsAgree os ds → NoMessages ds → waiting_replies os ds ≡ r ∷ rest
    → TakesReply terms l os ds r rest
takes_reply terms l os ds r rest a m h =
    let n = least_open os in
    let x = next os ds r rest a m h in
    record {
      fits = ap may_reply x.own_at ∙ and_true _ _ (ap is_none x.open') (ap is_none x.unreplied);
      agree = subst (λ s. ViewsAgree (altered os n (replied_with r.answer s)) ds) (sym x.stamp) (agree_reply os ds n x.done r.answer x.done_at x.value a);
      left = x.left;
    }

waiting_end : (os : List OwnerOffer) → waiting_replies os [] ≡ []
waiting_end [] = refl
waiting_end (o ∷ os) = refl

push_at : (xs ys : List Response) (b : Bool) (before after : List Response) → after ≡ before ++ xs → cond b after (ys ++ after) ≡ cond b before (ys ++ before) ++ xs
push_at xs ys true before after e = e
push_at xs ys false before after e = ap (λ r. ys ++ r) e ∙ sym (append_assoc ys before xs)

-- the peer decides the next: what it did goes to the end of the ring
pub waiting_decide : (os : List OwnerOffer) (ds : List PeerDecision) (d : PeerDecision) (o : OwnerOffer) → slice_get os (length ds) ≡ Some o → o.reply ≡ None
    → waiting_replies os (ds ++ d ∷ []) ≡ waiting_replies os ds ++ response_of d
waiting_decide [] ds d o h e = cc
waiting_decide (x ∷ os) [] d o h e =
    let q : o ≡ x = cc in
    waiting_not x os d [] (ap (λ y. y.reply) (sym q) ∙ e) ∙ ap (λ r. response_of d ++ r) (waiting_end os) ∙ append-nil (response_of d)
waiting_decide (x ∷ os) (y ∷ ds) d o h e = push_at (response_of d) (response_of y) (is_some x.reply) (waiting_replies os ds) (waiting_replies os (ds ++ d ∷ [])) (waiting_decide os ds d o h e)

pub waiting_offer : (os : List OwnerOffer) (ds : List PeerDecision) (o : OwnerOffer) → length ds ≤ length os → waiting_replies (os ++ o ∷ []) ds ≡ waiting_replies os ds
waiting_offer [] [] o h = refl
waiting_offer [] (d ∷ ds) o h = absurd (omega arith)
waiting_offer (x ∷ os) [] o h = refl
waiting_offer (x ∷ os) (d ∷ ds) o h = ap (λ r. cond (is_some x.reply) r (response_of d ++ r)) (waiting_offer os ds o (omega arith))

-- what changes no reply changes nothing on the ring
waiting_alter : (os : List OwnerOffer) (ds : List PeerDecision) (n : ℕ) (g : OwnerOffer → OwnerOffer) → ((o : OwnerOffer) → (g o).reply ≡ o.reply)
    → waiting_replies (altered os n g) ds ≡ waiting_replies os ds
waiting_alter [] ds n g h = refl
waiting_alter (x ∷ os) [] zero g h = refl
waiting_alter (x ∷ os) [] (suc n) g h = refl
waiting_alter (x ∷ os) (d ∷ ds) zero g h = ap (λ q. cond (is_some q) (waiting_replies os ds) (response_of d ++ waiting_replies os ds)) (h x)
waiting_alter (x ∷ os) (d ∷ ds) (suc n) g h = ap (λ r. cond (is_some x.reply) r (response_of d ++ r)) (waiting_alter os ds n g h)

pub waiting_withdraw : (os : List OwnerOffer) (ds : List PeerDecision) (n s : ℕ) → waiting_replies (altered os n (withdrawn_at s)) ds ≡ waiting_replies os ds
waiting_withdraw os ds n s = waiting_alter os ds n (withdrawn_at s) (λ o. refl)

pub waiting_learn : (os : List OwnerOffer) (ds : List PeerDecision) (n k : ℕ) → waiting_replies (altered os n (known_at k)) ds ≡ waiting_replies os ds
waiting_learn os ds n k = waiting_alter os ds n (known_at k) (λ o. refl)

-- the replies that were had, and those on the ring, are all that the peer did, in its order

had_none : (o : OwnerOffer) (os : List OwnerOffer) → replies_had (o ∷ os) ≡ [] → (q : Option Response) → o.reply ≡ q → (o.reply ≡ None) × (replies_had os ≡ [])
had_none o os h None e = (e, sym (ap (λ q. reply_had q ++ replies_had os) e) ∙ h)
had_none o os h (Some r) e = let w : r ∷ replies_had os ≡ [] = sym (ap (λ q. reply_had q ++ replies_had os) e) ∙ h in cc

-- nothing was had: all of it is on the ring
all_wait : (os : List OwnerOffer) (ds : List PeerDecision) → ViewsAgree os ds → replies_had os ≡ [] → waiting_replies os ds ≡ responses ds
all_wait [] [] a h = refl
all_wait [] (d ∷ ds) a h = absurd a
all_wait (o ∷ os) [] a h = refl
all_wait (o ∷ os) (d ∷ ds) a h = let w = had_none o os h o.reply refl in waiting_not o os d ds w.0 ∙ ap (λ r. response_of d ++ r) (all_wait os ds a.1 w.1)

had_beyond : (os : List OwnerOffer) → ViewsAgree os [] → replies_had os ≡ []
had_beyond [] a = refl
had_beyond (o ∷ os) a = ap (λ q. reply_had q ++ replies_had os) a.1 ∙ had_beyond os a.2

response_was : (d : PeerDecision) (x : Response) → (d.value ≡ Some (Done x.answer)) × (x.of ≡ d.stamp) → response_of d ≡ x ∷ []
response_was d x h = ap (response_at d.stamp) h.0 ∙ ap (λ s. record { answer = x.answer; of = s } ∷ []) (sym h.1)

turn_at : (o : OwnerOffer) (os : List OwnerOffer) (d : PeerDecision) (ds : List PeerDecision) → DecisionFits o.payload o.stamp d o.withdrawn → IfSome o.reply (IsReplyTo d) → ViewsAgree os ds
    → (replies_had os ++ waiting_replies os ds ≡ responses ds)
    → NoneAfter (is_some o.withdrawn || is_some o.reply) os → (q : Option Response) → o.reply ≡ q → (w : Option ℕ) → o.withdrawn ≡ w
    → replies_had (o ∷ os) ++ waiting_replies (o ∷ os) (d ∷ ds) ≡ responses (d ∷ ds)
turn_at o os d ds k r a ih t (Some x) e w f =
    let v = response_was d x (subst (λ q. IfSome q (IsReplyTo d)) e r) in
    ap (λ q. (reply_had q ++ replies_had os) ++ waiting_replies (o ∷ os) (d ∷ ds)) e ∙ ap (λ y. x ∷ (replies_had os ++ y)) (waiting_had o os d ds x e) ∙ ap (λ y. x ∷ y) ih
    ∙ sym (ap (λ y. y ++ responses ds) v)
turn_at o os d ds k r a ih t None e (Some w) f =
    let v : d.value ≡ None = decided_none o.payload o.stamp w d o.withdrawn k f in
    ap (λ q. (reply_had q ++ replies_had os) ++ waiting_replies (o ∷ os) (d ∷ ds)) e
    ∙ ap (λ y. replies_had os ++ y) (waiting_not o os d ds e ∙ ap (λ y. response_at d.stamp y ++ waiting_replies os ds) v) ∙ ih ∙ sym (ap (λ y. response_at d.stamp y ++ responses ds) v)
turn_at o os d ds k r a ih t None e None f =
    let n : replies_had os ≡ [] = subst (λ b. NoneAfter b os) (ap (λ q. is_some q || is_some o.reply) f ∙ ap is_some e) t in
    ap (λ q. (reply_had q ++ replies_had os) ++ waiting_replies (o ∷ os) (d ∷ ds)) e ∙ ap (λ y. y ++ waiting_replies (o ∷ os) (d ∷ ds)) n ∙ waiting_not o os d ds e
    ∙ ap (λ y. response_of d ++ y) (all_wait os ds a n)

pub in_turn : (os : List OwnerOffer) (ds : List PeerDecision) → ViewsAgree os ds → AreInTurn os → replies_had os ++ waiting_replies os ds ≡ responses ds
in_turn [] [] a t = refl
in_turn [] (d ∷ ds) a t = absurd a
in_turn (o ∷ os) [] a t = append-nil (replies_had (o ∷ os)) ∙ had_beyond (o ∷ os) a
in_turn (o ∷ os) (d ∷ ds) a t = turn_at o os d ds a.0.1 a.0.4 a.1 (in_turn os ds a.1 t.1) t.0 o.reply refl o.withdrawn refl

-- each change of the owner keeps its replies in turn

had_push : (os : List OwnerOffer) (o : OwnerOffer) → o.reply ≡ None → replies_had (os ++ o ∷ []) ≡ replies_had os
had_push [] o e = ap (λ q. reply_had q ++ []) e
had_push (x ∷ os) o e = ap (λ r. reply_had x.reply ++ r) (had_push os o e)

none_more : (b : Bool) (os ps : List OwnerOffer) → replies_had ps ≡ replies_had os → NoneAfter b os → NoneAfter b ps
none_more true os ps e h = tt
none_more false os ps e h = e ∙ h

none_last : (b : Bool) → NoneAfter b []
none_last true = tt
none_last false = refl

pub turn_offer : (os : List OwnerOffer) (o : OwnerOffer) → o.reply ≡ None → AreInTurn os → AreInTurn (os ++ o ∷ [])
turn_offer [] o e t = (none_last (is_some o.withdrawn || is_some o.reply), tt)
turn_offer (x ∷ os) o e t = (none_more (is_some x.withdrawn || is_some x.reply) os (os ++ o ∷ []) (had_push os o e) t.0, turn_offer os o e t.1)

had_alter : (os : List OwnerOffer) (n : ℕ) (g : OwnerOffer → OwnerOffer) → ((o : OwnerOffer) → (g o).reply ≡ o.reply) → replies_had (altered os n g) ≡ replies_had os
had_alter [] n g h = refl
had_alter (x ∷ os) zero g h = ap (λ q. reply_had q ++ replies_had os) (h x)
had_alter (x ∷ os) (suc n) g h = ap (λ r. reply_had x.reply ++ r) (had_alter os n g h)

pub turn_withdraw : (os : List OwnerOffer) (n s : ℕ) → AreInTurn os → AreInTurn (altered os n (withdrawn_at s))
turn_withdraw [] n s t = t
turn_withdraw (x ∷ os) zero s t = (tt, t.1)
turn_withdraw (x ∷ os) (suc n) s t = (none_more (is_some x.withdrawn || is_some x.reply) os (altered os n (withdrawn_at s)) (had_alter os n (withdrawn_at s) (λ o. refl)) t.0, turn_withdraw os n s t.1)

pub turn_learn : (os : List OwnerOffer) (n k : ℕ) → AreInTurn os → AreInTurn (altered os n (known_at k))
turn_learn [] n k t = t
turn_learn (x ∷ os) zero k t = t
turn_learn (x ∷ os) (suc n) k t = (none_more (is_some x.withdrawn || is_some x.reply) os (altered os n (known_at k)) (had_alter os n (known_at k) (λ o. refl)) t.0, turn_learn os n k t.1)

turn_reply_at : (o : OwnerOffer) (os : List OwnerOffer) (w : Answer) (s : ℕ) → AreInTurn os → AreInTurn (altered os (least_open os) (replied_with w s)) → (b : Bool)
    → is_some o.withdrawn || is_some o.reply ≡ b
    → AreInTurn (altered (o ∷ os) (cond b (suc (least_open os)) 0) (replied_with w s))
turn_reply_at o os w s t ih true e = (subst (λ b. NoneAfter b (altered os (least_open os) (replied_with w s))) (sym e) tt, ih)
turn_reply_at o os w s t ih false e = (subst (λ b. NoneAfter b os) (sym (or_right (is_some o.withdrawn) true refl)) tt, t)

pub turn_reply : (os : List OwnerOffer) (w : Answer) (s : ℕ) → AreInTurn os → AreInTurn (altered os (least_open os) (replied_with w s))
turn_reply [] w s t = tt
turn_reply (o ∷ os) w s t = turn_reply_at o os w s t.1 (turn_reply os w s t.1) (is_some o.withdrawn || is_some o.reply) refl
