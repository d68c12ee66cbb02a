-- What a call on a link answers is an entry that its party may make, at an end that is then what the call has left.
-- For each answer three things are shown: the event fits the end, the stamp is the next, and the end notes the stamp that the entry answers.
-- The laws of the crate are these lemmas, one for each call; `owner_enters` and `peer_enters` are what they have in common.
use Rattle.std.proofs.Common.{◌≡◌, ℕ, zero, suc, List, [], ◌∷◌, ◌++◌, Option, Some, None, Bool, true, false, cond, not, ◌&&◌, ℤ, is_some, is_none, refl, sym, ap, ◌∙◌, subst, arith, length, nat_lt}
use Rattle.std.specs.Prelude.{slice_get, ◌==◌}
use Rattle.std.proofs.lemmas.Bool.Decides.{nat_tests}
use Rattle.ac_base.specs.declared.entry.Payload.{Payload}
use Rattle.ac_base.specs.declared.entry.Answer.{Answer}
use Rattle.ac_base.specs.declared.entry.Entry.{Entry}
use Rattle.ac_base.specs.declared.entry.Event.{Event}
use Rattle.ac_base.specs.declared.entry.Event.TheVariants.{Offer, Withdraw, Know, Room, Got, Pass, Did, Reply}
use Rattle.ac_base.specs.Stamps.{next_stamp, stamp_after}
use Rattle.ac_links.specs.declared.payloads.Terms.{Terms}
use Rattle.ac_links.specs.Link.{link_of}
use Rattle.ac_links.specs.Payloads.{is_payload}
use Rattle.ac_links.specs.Views.{OwnerOffer, PeerDecision, owner_lead, altered, known_at, replied_with, ViewsAgree, may_reply, owner_fits, owner_after, peer_fits, decision_of, may_withdraw, may_free}
use Rattle.ac_links.specs.Noted.{seen_of, owner_noted, peer_noted, known_stamp, reply_stamp, answers_stamp, decision_stamp, offer_stamp, withdrawal_stamp, or_zero}
use Rattle.ac_links.specs.Replies.{least_open}
use Rattle.ac_links.specs.Journals.{last_of}
use Rattle.ac_links.specs.Party.{LinkEnd, end_fits, end_after, end_noted}
use Rattle.ac_links.specs.Party.LinkEnd.{Owns, Decides}
use Rattle.core_channels.specs.declared.answers.Offering.{Offering}
use Rattle.core_channels.specs.declared.answers.Learning.{Learning}
use Rattle.core_channels.specs.declared.answers.Withdrawing.{Withdrawing}
use Rattle.core_channels.specs.declared.answers.Receiving.{Receiving}
use Rattle.core_channels.specs.LinkViews.{LinkViews, IsLink, AreViews}
use Rattle.core_channels.specs.Offers.{has_room, placed_offer, stamped_offer, offer_by_room, offering, after_offering}
use Rattle.core_channels.specs.Learns.{learned_at, stamped_learning, decided_learning, learning_of, learning, after_learning}
use Rattle.core_channels.specs.Withdraws.{own_withdrawal, late_withdrawal, withdrawing_of, withdrawing, after_withdrawing}
use Rattle.core_channels.specs.Takes.{message_of, passed_at, took_at, receiving_one, receiving_of, receiving, after_receiving}
use Rattle.core_channels.specs.Requests.{did_stamp, pass_stamp, after_doing, after_passing, ReplyIsNext, after_reply}
use Rattle.core_channels.specs.Laws.{Told, told_by_offering, told_by_learning, told_by_withdrawing, told_by_receiving, told_by_doing, told_by_passing, told_by_reply, Enters}
use Rattle.core_channels.proofs.Keeping.{next_reply}
use Rattle.core_channels.proofs.Stamping.{stamp_is_next}

-- ---- what the two ends note

known_is : (os : List OwnerOffer) (n of : ℕ) (o : OwnerOffer) → slice_get os n ≡ Some o → known_stamp (slice_get (altered os n (known_at of)) n) ≡ of
known_is [] n of o h = cc
known_is (x ∷ os) zero of o h = refl
known_is (x ∷ os) (suc n) of o h = known_is os n of o h

replied_is : (os : List OwnerOffer) (n : ℕ) (w : Answer) (of : ℕ) → may_reply (slice_get os n) ≡ true → reply_stamp (slice_get (altered os n (replied_with w of)) n) ≡ of
replied_is [] n w of h = cc
replied_is (x ∷ os) zero w of h = refl
replied_is (x ∷ os) (suc n) w of h = replied_is os n w of h

-- a reply on which the two views agree has the stamp of its decision
reply_is_of : (os : List OwnerOffer) (ds : List PeerDecision) (n : ℕ) (w : Answer) (of : ℕ) → may_reply (slice_get os n) ≡ true → ViewsAgree (altered os n (replied_with w of)) ds
    → decision_stamp (slice_get ds n) ≡ of
reply_is_of [] ds n w of h a = cc
reply_is_of (x ∷ os) [] zero w of h a = let e = a.1 in cc
reply_is_of (x ∷ os) [] (suc n) w of h a = reply_is_of os [] n w of h a.2
reply_is_of (x ∷ os) (d ∷ ds) zero w of h a = sym a.0.4.1
reply_is_of (x ∷ os) (d ∷ ds) (suc n) w of h a = reply_is_of os ds n w of h a.1

last_is : (ds : List PeerDecision) (d : PeerDecision) → slice_get (ds ++ d ∷ []) (length ds) ≡ Some d
last_is [] d = refl
last_is (x ∷ ds) d = last_is ds d

-- the first whose decision is not known
lead_is_open : (os : List OwnerOffer) (o : OwnerOffer) → slice_get os (owner_lead os) ≡ Some o → is_some o.known ≡ false
lead_is_open [] o h = cc
lead_is_open (x ∷ os) o h = by (is_some x.known) refl (lead_is_open os o) h
  where
    by : (b : Bool) → is_some x.known ≡ b → (slice_get os (owner_lead os) ≡ Some o → is_some o.known ≡ false) → slice_get (x ∷ os) (cond b (suc (owner_lead os)) 0) ≡ Some o → is_some o.known ≡ false
    by true e further g = further g
    by false e further g = let q : x ≡ o = cc in subst (λ y. is_some y.known ≡ false) q e

none_of : {X : Type 0} (q : Option X) → is_some q ≡ false → is_none q ≡ true
none_of None h = refl
none_of (Some x) h = cc

are_equal : (m n : ℕ) → m ≡ n → (m == n) ≡ true
are_equal m n h = grind (arith, nat_tests)

same_number : (n : ℕ) → (n == n) ≡ true
same_number n = are_equal n n refl

both : (a b : Bool) → a ≡ true → b ≡ true → (a && b) ≡ true
both true b h k = k
both false b h k = h

three : (a b c : Bool) → a ≡ true → b ≡ true → c ≡ true → (a && b && c) ≡ true
three true true true h k m = refl
three true true false h k m = m
three true false c h k m = cc
three false b c h k m = cc

-- ---- one end

module _ (terms : ℕ → Terms) (ends : ℕ → LinkEnd) (j : List Entry) (turn : ℕ) (v : LinkViews) where
  abbrev seen : Event → ℕ
  seen e = seen_of v.offers v.decisions e

  at_end : (x : LinkEnd) (e : Event) (s : ℕ) → ends (link_of e) ≡ x → end_fits (terms (link_of e)) x e ≡ true → s ≡ next_stamp (last_of 0 j) (seen e)
      → seen e ≡ end_noted (end_after x s (seen e) e) e
      → Enters terms ends j turn (link_of e) v (Some (record { event = e; stamp = s })) (end_after x s (seen e) e)
  at_end x e s h fits next noted = (
    record {
      fits = subst (λ y. end_fits (terms (link_of e)) y e ≡ true) (sym h) fits;
      next = next;
      noted = subst (λ y. seen e ≡ end_noted (end_after y s (seen e) e) e) (sym h) noted;
    },
    ap (λ y. end_after y s (seen e) e) h,
  )

  owner_enters : (e : Event) (s : ℕ) → terms (link_of e) ≡ v.terms → ends (link_of e) ≡ Owns v.offers → owner_fits v.terms v.offers e ≡ true
      → s ≡ next_stamp (last_of 0 j) (seen e) → seen e ≡ owner_noted (owner_after v.offers s (seen e) e) e
      → Enters terms ends j turn (link_of e) v (Some (record { event = e; stamp = s })) (Owns (owner_after v.offers s (seen e) e))
  owner_enters e s t h fits next noted = at_end (Owns v.offers) e s h (subst (λ y. owner_fits y v.offers e ≡ true) (sym t) fits) next noted

  peer_enters : (e : Event) (s : ℕ) → terms (link_of e) ≡ v.terms → ends (link_of e) ≡ Decides v.decisions → peer_fits v.terms v.decisions e ≡ true
      → s ≡ next_stamp (last_of 0 j) (seen e) → seen e ≡ peer_noted (v.decisions ++ decision_of s (seen e) e ∷ []) e
      → Enters terms ends j turn (link_of e) v (Some (record { event = e; stamp = s })) (Decides (v.decisions ++ decision_of s (seen e) e ∷ []))
  peer_enters e s t h fits next noted = at_end (Decides v.decisions) e s h (subst (λ y. peer_fits y v.decisions e ≡ true) (sym t) fits) next noted

  module _ (l : ℕ) (t : terms l ≡ v.terms) where
    module _ (h : ends l ≡ Owns v.offers) where
      abbrev OwnerEnters : Option Told → List OwnerOffer → Type 0
      OwnerEnters told os = Enters terms ends j turn l v told (Owns os)

      -- offers
      module _ (payload : Payload) (fits : is_payload v.terms.requests payload ≡ true) where
        abbrev Offers : Offering Payload → Type 0
        Offers a = OwnerEnters (told_by_offering l payload a) (after_offering v payload a).offers

        by_spare : (s : ℕ) (b : Bool) → has_room v ≡ true → s ≡ next_stamp (last_of 0 j) 0 → Offers (placed_offer v payload s b)
        by_spare s false r next = sym h
        by_spare s true r next = owner_enters (Offer l (length v.offers) payload) s t h
            (three (length v.offers == length v.offers) (has_room v) (is_payload v.terms.requests payload) (same_number (length v.offers)) r fits) next refl

        by_stamp : (q : Option ℕ) → has_room v ≡ true → stamp_after (last_of 0 j) 0 ≡ q → Offers (stamped_offer v payload q)
        by_stamp None r e = sym h
        by_stamp (Some s) r e = by_spare s (nat_lt 0 v.spare) r (stamp_is_next (last_of 0 j) 0 s e)

        by_room : (b : Bool) → has_room v ≡ b → Offers (offer_by_room v payload (last_of 0 j) b)
        by_room false r = sym h
        by_room true r = by_stamp (stamp_after (last_of 0 j) 0) r refl

        pub offer_enters : Offers (offering v payload (last_of 0 j))
        offer_enters = by_room (has_room v) refl

      -- what is learned
      learned : (n s : ℕ) (d : PeerDecision) → slice_get v.decisions n ≡ Some d → stamp_after (last_of 0 j) d.stamp ≡ Some s → s ≡ next_stamp (last_of 0 j) (decision_stamp (slice_get v.decisions n))
      learned n s d g a = stamp_is_next (last_of 0 j) d.stamp s a ∙ ap (λ x. next_stamp (last_of 0 j) (decision_stamp x)) (sym g)

      abbrev Learns : Learning → Type 0
      Learns a = OwnerEnters (told_by_learning l a) (after_learning v a).offers

      open_fits : (n : ℕ) (o : OwnerOffer) → slice_get v.offers n ≡ Some o → is_some o.withdrawn ≡ false → is_some o.known ≡ false → may_withdraw (slice_get v.offers n) ≡ true
      open_fits n o f w k = subst (λ q. may_withdraw q ≡ true) (sym f) (both (is_none o.withdrawn) (is_none o.known) (none_of o.withdrawn w) (none_of o.known k))

      passed_fits : (n : ℕ) (o : OwnerOffer) → slice_get v.offers n ≡ Some o → is_some o.withdrawn ≡ true → is_some o.known ≡ false → may_free (slice_get v.offers n) ≡ true
      passed_fits n o f w k = subst (λ q. may_free q ≡ true) (sym f) (both (is_some o.withdrawn) (is_none o.known) w (none_of o.known k))

      by_withdrawal : (n s : ℕ) (o : OwnerOffer) (d : PeerDecision) (b : Bool) → slice_get v.offers n ≡ Some o → is_some o.known ≡ false → slice_get v.decisions n ≡ Some d
          → stamp_after (last_of 0 j) d.stamp ≡ Some s → is_some o.withdrawn ≡ b → Learns (learned_at n s b)
      by_withdrawal n s o d true f k g a w = owner_enters (Room l n) s t h (passed_fits n o f w k) (learned n s d g a)
          (sym (known_is v.offers n (decision_stamp (slice_get v.decisions n)) o f))
      by_withdrawal n s o d false f k g a w = owner_enters (Know l n) s t h (open_fits n o f w k) (learned n s d g a)
          (sym (known_is v.offers n (decision_stamp (slice_get v.decisions n)) o f))

      by_learning_stamp : (n : ℕ) (o : OwnerOffer) (d : PeerDecision) (q : Option ℕ) → slice_get v.offers n ≡ Some o → is_some o.known ≡ false → slice_get v.decisions n ≡ Some d
          → stamp_after (last_of 0 j) d.stamp ≡ q → Learns (stamped_learning n (is_some o.withdrawn) q)
      by_learning_stamp n o d None f k g a = sym h
      by_learning_stamp n o d (Some s) f k g a = by_withdrawal n s o d (is_some o.withdrawn) f k g a refl

      by_decision : (n : ℕ) (o : OwnerOffer) (q : Option PeerDecision) → slice_get v.offers n ≡ Some o → is_some o.known ≡ false → slice_get v.decisions n ≡ q
          → Learns (decided_learning (last_of 0 j) n (is_some o.withdrawn) q)
      by_decision n o None f k g = sym h
      by_decision n o (Some d) f k g = by_learning_stamp n o d (stamp_after (last_of 0 j) d.stamp) f k g refl

      by_offer : (q : Option OwnerOffer) → slice_get v.offers (owner_lead v.offers) ≡ q
          → Learns (learning_of (last_of 0 j) (owner_lead v.offers) q (slice_get v.decisions (owner_lead v.offers)))
      by_offer None f = sym h
      by_offer (Some o) f = by_decision (owner_lead v.offers) o (slice_get v.decisions (owner_lead v.offers)) f (lead_is_open v.offers o f) refl

      pub learning_enters : Learns (learning v (last_of 0 j))
      learning_enters = by_offer (slice_get v.offers (owner_lead v.offers)) refl

      -- withdrawals
      module _ (n : ℕ) (fits : may_withdraw (slice_get v.offers n) ≡ true) where
        abbrev Withdraws : Withdrawing → Type 0
        Withdraws a = OwnerEnters (told_by_withdrawing l n a) (after_withdrawing v n a).offers

        own : (q : Option ℕ) → stamp_after (last_of 0 j) 0 ≡ q → Withdraws (own_withdrawal q)
        own None e = sym h
        own (Some s) e = owner_enters (Withdraw l n) s t h fits (stamp_is_next (last_of 0 j) 0 s e) refl

        there : (q : Option OwnerOffer) → slice_get v.offers n ≡ q → may_withdraw q ≡ true → (o : OwnerOffer) × (slice_get v.offers n ≡ Some o)
        there None e f = cc
        there (Some o) e f = (o, e)

        late : (d : PeerDecision) (q : Option ℕ) → slice_get v.decisions n ≡ Some d → stamp_after (last_of 0 j) d.stamp ≡ q → Withdraws (late_withdrawal q)
        late d None g e = sym h
        late d (Some s) g e = let o = there (slice_get v.offers n) refl fits in
            owner_enters (Know l n) s t h fits (learned n s d g e) (sym (known_is v.offers n (decision_stamp (slice_get v.decisions n)) o.0 o.1))

        by_decided : (q : Option PeerDecision) → slice_get v.decisions n ≡ q → Withdraws (withdrawing_of (last_of 0 j) q)
        by_decided None g = own (stamp_after (last_of 0 j) 0) refl
        by_decided (Some d) g = late d (stamp_after (last_of 0 j) d.stamp) g refl

        pub withdrawal_enters : Withdraws (withdrawing v n (last_of 0 j))
        withdrawal_enters = by_decided (slice_get v.decisions n) refl

    -- takings and passings
    module _ (h : ends l ≡ Decides v.decisions) (channel : v.terms.requests ≡ false) where
      abbrev Takes : Receiving (List ℤ) → Type 0
      Takes a = Enters terms ends j turn l v (told_by_receiving l a) (Decides (after_receiving v a).decisions)

      got : (o : OwnerOffer) (q : Option ℕ) → slice_get v.offers (length v.decisions) ≡ Some o → stamp_after (last_of 0 j) o.stamp ≡ q → Takes (took_at (length v.decisions) o.payload q)
      got o None f e = sym h
      got o (Some s) f e = peer_enters (Got l (length v.decisions) (message_of o.payload)) s t h
          (both (not v.terms.requests) (length v.decisions == length v.decisions) (ap not channel) (same_number (length v.decisions)))
          (stamp_is_next (last_of 0 j) o.stamp s e ∙ ap (λ x. next_stamp (last_of 0 j) (offer_stamp x)) (sym f))
          (sym (ap answers_stamp (last_is v.decisions (decision_of s (seen (Got l (length v.decisions) (message_of o.payload))) (Got l (length v.decisions) (message_of o.payload))))))

      pass : (o : OwnerOffer) (w : ℕ) (q : Option ℕ) → slice_get v.offers (length v.decisions) ≡ Some o → o.withdrawn ≡ Some w → stamp_after (last_of 0 j) w ≡ q
          → Takes (passed_at (length v.decisions) q)
      pass o w None f k e = sym h
      pass o w (Some s) f k e = peer_enters (Pass l (length v.decisions)) s t h (same_number (length v.decisions))
          (stamp_is_next (last_of 0 j) w s e ∙ sym (ap (λ x. next_stamp (last_of 0 j) (or_zero x)) k) ∙ ap (λ x. next_stamp (last_of 0 j) (withdrawal_stamp x)) (sym f))
          (sym (ap answers_stamp (last_is v.decisions (decision_of s (seen (Pass l (length v.decisions))) (Pass l (length v.decisions))))))

      by_standing : (o : OwnerOffer) (q : Option ℕ) → slice_get v.offers (length v.decisions) ≡ Some o → o.withdrawn ≡ q → Takes (receiving_one (last_of 0 j) (length v.decisions) o q)
      by_standing o None f k = got o (stamp_after (last_of 0 j) o.stamp) f refl
      by_standing o (Some w) f k = pass o w (stamp_after (last_of 0 j) w) f k refl

      by_front : (q : Option OwnerOffer) → slice_get v.offers (length v.decisions) ≡ q → Takes (receiving_of (last_of 0 j) (length v.decisions) q)
      by_front None f = sym h
      by_front (Some o) f = by_standing o o.withdrawn f refl

      pub take_enters : Takes (receiving v (last_of 0 j))
      take_enters = by_front (slice_get v.offers (length v.decisions)) refl

    -- requests that are done, and passed
    module _ (h : ends l ≡ Decides v.decisions) where
      abbrev did : Answer → Event
      did answer = Did l (length v.decisions) answer

      abbrev passing : Event
      passing = Pass l (length v.decisions)

      pub did_enters : (answer : Answer) → v.terms.requests ≡ true
          → Enters terms ends j turn l v (Some (told_by_doing l v answer (last_of 0 j))) (Decides (after_doing v answer (last_of 0 j)).decisions)
      did_enters answer r = peer_enters (did answer) (did_stamp v (last_of 0 j)) t h (both v.terms.requests (length v.decisions == length v.decisions) r (same_number (length v.decisions))) refl
          (sym (ap answers_stamp (last_is v.decisions (decision_of (did_stamp v (last_of 0 j)) (seen (did answer)) (did answer)))))

      pub pass_enters : Enters terms ends j turn l v (Some (told_by_passing l v (last_of 0 j))) (Decides (after_passing v (last_of 0 j)).decisions)
      pass_enters = peer_enters passing (pass_stamp v (last_of 0 j)) t h (same_number (length v.decisions)) refl
          (sym (ap answers_stamp (last_is v.decisions (decision_of (pass_stamp v (last_of 0 j)) (seen passing) passing))))

    -- replies
    module _ (h : ends l ≡ Owns v.offers) (is : IsLink v) (r : v.terms.requests ≡ true) (answer : Answer) (of : ℕ) (next : ReplyIsNext v answer of) where
      abbrev back : Event
      back = Reply l (least_open v.offers) answer

      pub reply_enters : Enters terms ends j turn l v (Some (told_by_reply l v answer of (last_of 0 j))) (Owns (after_reply v answer of).offers)
      reply_enters =
          let takes = (next_reply v.terms l v.offers v.decisions (record { answer = answer; of = of }) next (subst (λ b. AreViews b v.offers v.decisions) r is)).1 in
          subst (λ x. Enters terms ends j turn l v (Some (record { event = back; stamp = next_stamp (last_of 0 j) x })) (Owns (altered v.offers (least_open v.offers) (replied_with answer x))))
          (reply_is_of v.offers v.decisions (least_open v.offers) answer of takes.fits takes.agree)
          (owner_enters back (next_stamp (last_of 0 j) (seen back)) t h takes.fits refl (sym (replied_is v.offers (least_open v.offers) answer (seen back) takes.fits)))
