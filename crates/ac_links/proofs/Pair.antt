-- Where the two views of a link agree, the entries of its two sides, in order, fit the link, and lead to the link that the views make.
-- By induction on the mix of the two sides (Mixing). `State` says of a moment that each side still leads from its view now to its view at the end.
-- `Step` is one entry: it fits, answers and asks what the views say, and the link after it is again the one that the two views make.
-- The hard case is a decision: the offer that it decides is there already since its stamp is earlier, and stands as it does at the end since what is new is later (Growth).
use Rattle.std.proofs.Common.{◌≡◌, ℕ, zero, suc, ◌<◌, ◌≤◌, List, [], ◌∷◌, ◌++◌, Option, Some, None, Bool, true, not, refl, sym, ap, ◌∙◌, subst, inl, inr, arith, length}
use Rattle.std.specs.Prelude.{slice_get, is_some, ◌&&◌, ◌==◌, IfSome, bytes_eq, ℤ}
use Rattle.std.specs.List.{AllByRecursion}
use Rattle.std.proofs.lemmas.List.{length-append}
use Rattle.std.proofs.lemmas.Bool.Decides.{nat_tests, leb_tells}
use Rattle.ac_base.specs.declared.entry.Payload.{Payload}
use Rattle.ac_base.specs.declared.entry.Answer.{Answer}
use Rattle.ac_base.specs.declared.entry.Answer.TheVariants.{Bytes, Count, Fault}
use Rattle.ac_base.specs.declared.entry.Event.{Event}
use Rattle.ac_base.specs.declared.entry.Event.TheVariants.{Offer, Withdraw, Know, Room, Got, Pass, Did, Reply}
use Rattle.ac_base.specs.declared.entry.Stamped.{Stamped}
use Rattle.ac_links.specs.declared.offer.Standing.TheVariants.{Withdrawn, Passed}
use Rattle.ac_links.specs.Order.{stamp_of, in_order, AllFrom, Rises}
use Rattle.ac_links.specs.declared.payloads.Terms.{Terms}
use Rattle.ac_links.specs.Payloads.{Taking, carries, answer_eq, has_answer}
use Rattle.ac_links.specs.Link.{is_offered, is_taken, is_withdrawn, is_passed, front_of, takes, can_take, knows, withdraws, passes, frees, replies, link_fits, answered, asked, standing_stamp}
use Rattle.ac_links.specs.Link.{offered_payload, link_after, changed, stands, now_taken, now_known, now_replied}
use Rattle.ac_links.specs.Payloads.Taking.{Message, Done}
use Rattle.ac_links.specs.Journals.{LinkAgrees}
use Rattle.ac_links.specs.Views.{OwnerOffer, PeerDecision, Response, IsReplyTo, owner_fits, owner_after, altered, withdrawn_at, known_at, replied_with, peer_fits, decision_of, OwnerRuns, PeerRuns}
use Rattle.ac_links.specs.Views.{DecisionFits, OfferAgrees, ViewsAgree}
use Rattle.ac_links.specs.Noted.{offer_stamp, withdrawal_stamp, or_zero, decision_stamp, seen_of, offer_payload, request_of}
use Rattle.ac_links.specs.Combined.{undecided_standing, undecided_stamp, decided_standing, decided_answer, link_offer_of, combine, link_after_all}
use Rattle.ac_links.proofs.Combine.{changed_is, length_combine, lead_combine, get_combine, altered_combine, decide_combine, push_combine, front_combine}
use Rattle.ac_links.proofs.Mixing.{Mix, mix_in_order}
use Rattle.ac_links.proofs.Growth.{cases_opt, OptGrows, Grows, Before, BeforeD, both_true, may_withdraw_is, may_free_is, may_reply_is, some_one, before_of, before_at, before_new, altered_at}
use Rattle.ac_links.proofs.Growth.{decision_stamp_is, beforeD_of, beforeD_at, beforeD_new, beforeD_next, none_past, some_within, agree_at, agree_owner, agree_known, agree_replied}

true_eq : (m n : ℕ) → (m == n) ≡ true → m ≡ n
true_eq m n h = grind (arith, nat_tests)

eq_true : (m n : ℕ) → m ≡ n → (m == n) ≡ true
eq_true m n h = grind (arith, nat_tests)

and_true : (a b : Bool) → a ≡ true → b ≡ true → a && b ≡ true
and_true a b p q = rw (p, q)

-- the decisions so far are not after s
abbrev Past : ℕ → List PeerDecision → Type 0
Past s = AllByRecursion (λ d. d.stamp ≤ s)

past_at : (s : ℕ) (ds : List PeerDecision) (n : ℕ) (d : PeerDecision) → Past s ds → slice_get ds n ≡ Some d → d.stamp ≤ s
past_at s [] n d a h = cc
past_at s (x ∷ ds) zero d a h = let e : x ≡ d = cc in subst (λ y. y.stamp ≤ s) e a.0
past_at s (x ∷ ds) (suc n) d a h = past_at s ds n d a.1 h

length_altered : (os : List OwnerOffer) (n : ℕ) (g : OwnerOffer → OwnerOffer) → length (altered os n g) ≡ length os
length_altered [] n g = refl
length_altered (o ∷ os) zero g = refl
length_altered (o ∷ os) (suc n) g = ap suc (length_altered os n g)

taken_of : (p : Payload) (t : ℕ) (g : PeerDecision) (s : ℕ) (q : Option ℕ) → DecisionFits p t g q → OptGrows s None q → g.answers < g.stamp → g.stamp < s →
    is_taken (decided_standing g.value) ≡ true
taken_of p t g s None d h lt l = ap (λ v. is_taken (decided_standing v)) d.1
taken_of p t g s (Some w) d h lt l = let up = d.1 in absurd (omega arith)

carried : (p : Payload) (t : ℕ) (v : Taking) (s of : ℕ) (q : Option ℕ) → DecisionFits p t (record { value = Some v; stamp = s; answers = of }) q → carries v p ≡ true
carried p t v s of None d = let e : v ≡ d.0 = (let h = d.1 in cc) in subst (λ x. carries x p ≡ true) (sym e) d.2
carried p t v s of (Some w) d = let h = d.0 in cc

-- what the peer took was not withdrawn
not_gone : (p : Payload) (t : ℕ) (v : Taking) (s of : ℕ) (q r : Option ℕ) → DecisionFits p t (record { value = Some v; stamp = s; answers = of }) q → OptGrows s r q → r ≡ None
not_gone p t v s of q None d h = refl
not_gone p t v s of None (Some w) d h = cc
not_gone p t v s of (Some x) (Some w) d h = let e = d.0 in cc

bytes_same : (bs : List ℕ) → bytes_eq bs bs ≡ true
bytes_same [] = refl
bytes_same (b ∷ bs) = and_true _ _ (eq_true b b refl) (bytes_same bs)

answer_same : (a : Answer) → answer_eq a a ≡ true
answer_same (Bytes bs) = bytes_same bs
answer_same (Count n) = eq_true n n refl
answer_same (Fault n) = eq_true n n refl

-- what the peer passed was withdrawn
was_gone : (p : Payload) (t s of : ℕ) (q r : Option ℕ) → of < s → DecisionFits p t (record { value = None; stamp = s; answers = of }) q → OptGrows s r q → (w : ℕ) × (r ≡ Some w) × (q ≡ Some w)
was_gone p t s of None r lt d h = let e = d.1 in cc
was_gone p t s of (Some x) None lt d h = let l = d.1 in absurd (omega arith)
was_gone p t s of (Some x) (Some w) lt d h = (w, refl, h)

-- what one entry shows
record Step (terms : Terms) (fs : List OwnerOffer) (gs : List PeerDecision) (s : ℕ) (os : List OwnerOffer) (ds : List PeerDecision) (e : Event) (os' : List OwnerOffer)
    (ds' : List PeerDecision) : Type 0 where
  fit : link_fits terms (combine os ds) e ≡ true
  answer : seen_of fs gs e ≡ answered (combine os ds) e
  asks : request_of fs e ≡ asked (combine os ds) e
  next : link_after (combine os ds) s e ≡ combine os' ds'
  short : length ds' ≤ length os'

withdrawn_step : (s : ℕ) (o : OwnerOffer) → stands Withdrawn s (link_offer_of o None) ≡ link_offer_of (withdrawn_at s o) None
withdrawn_step s o = refl

known_step : (of : ℕ) (o : OwnerOffer) (d : PeerDecision) → now_known (link_offer_of o (Some d)) ≡ link_offer_of (known_at of o) (Some d)
known_step of o d = refl

replied_step : (a : Answer) (of : ℕ) (o : OwnerOffer) (d : PeerDecision) → now_replied (link_offer_of o (Some d)) ≡ link_offer_of (replied_with a of o) (Some d)
replied_step a of o d = refl

module _ (terms : Terms) (fs : List OwnerOffer) (gs : List PeerDecision) (agree : ViewsAgree fs gs) (s of : ℕ) (lt : of < s) (os : List OwnerOffer) (ds : List PeerDecision)
    (short : length ds ≤ length os) where
  offer_step : (l n : ℕ) (p : Payload) → owner_fits terms os (Offer l n p) ≡ true → Step terms fs gs s os ds (Offer l n p) (owner_after os s of (Offer l n p)) ds
  offer_step l n p h = record {
    fit = rw (length_combine os ds, lead_combine os ds) h;
    answer = refl;
    asks = refl;
    next = sym (push_combine os ds _ short);
    short = let e = length-append os (record { payload = p; stamp = s; withdrawn = None; known = None; reply = None } ∷ []) in omega arith;
  }

  module _ (n : ℕ) (past : Past s ds) (bd : BeforeD s ds gs) where
    -- one that the owner withdraws now is not decided yet
    undecided : (o : OwnerOffer) → slice_get os n ≡ Some o → Before s (owner_after os s of (Withdraw 0 n)) fs → (q : Option PeerDecision) → slice_get ds n ≡ q → slice_get ds n ≡ None
    undecided o e b None h = h
    undecided o e b (Some d) h =
        let f = before_at s _ fs n (withdrawn_at s o) b (altered_at os n (withdrawn_at s) o e) in
        let a = agree_at fs gs n f.0 d agree f.1 (beforeD_at s ds gs n d bd h) in
        let w : DecisionFits f.0.payload f.0.stamp d (Some s) = subst (DecisionFits f.0.payload f.0.stamp d) f.2.withdrawn a.1 in
        let less = a.3 in
        let low = past_at s ds n d past h in
        let up = w.1 in absurd (omega arith)

    withdraw_step : (l : ℕ) → owner_fits terms os (Withdraw l n) ≡ true → Before s (owner_after os s of (Withdraw l n)) fs
        → Step terms fs gs s os ds (Withdraw l n) (owner_after os s of (Withdraw l n)) ds
    withdraw_step l h b =
        let w = may_withdraw_is (slice_get os n) h in
        let u = undecided w.0 w.1 b (slice_get ds n) refl in
        record {
          fit = ap withdraws (get_combine os ds n w.0 w.1 ∙ ap (λ q. Some (link_offer_of w.0 q)) u) ∙ ap (λ q. is_offered (undecided_standing q)) w.2;
          answer = refl;
          asks = refl;
          next = changed_is (combine os ds) n (stands Withdrawn s)
              ∙ altered_combine os ds n (stands Withdrawn s) (withdrawn_at s)
              (λ o. subst (λ q. stands Withdrawn s (link_offer_of o q) ≡ link_offer_of (withdrawn_at s o) q) (sym u) (withdrawn_step s o));
          short = let e = length_altered os n (withdrawn_at s) in omega arith;
        }

    -- what was decided before now is in the peer's view
    there : (g : PeerDecision) → slice_get gs n ≡ Some g → g.stamp < s → slice_get ds n ≡ Some g
    there g e low = elim (cases_opt (slice_get ds n)) [
      | inl u ↦ (let up = beforeD_new s ds gs n g bd u e in absurd (omega arith))
      | inr r ↦ r.1 ∙ sym (beforeD_at s ds gs n r.0 bd r.1) ∙ e
    ]

    -- what is known now was decided
    decided : (o : OwnerOffer) → slice_get os n ≡ Some o → Before s (owner_after os s of (Know 0 n)) fs
        → (f : OwnerOffer) × Grows s (known_at of o) f × (g : PeerDecision) × (slice_get ds n ≡ Some g) × (slice_get gs n ≡ Some g) × OfferAgrees f g × (g.stamp < s)
    decided o e b =
        let f = before_at s _ fs n (known_at of o) b (altered_at os n (known_at of) o e) in
        let g = agree_known fs gs n f.0 of agree f.1 f.2.known in
        let a = agree_at fs gs n f.0 g.0 agree f.1 g.1 in
        let same : of ≡ g.0.stamp = subst (λ q. IfSome q (λ k. k ≡ g.0.stamp)) f.2.known a.2 in
        let low : g.0.stamp < s = omega arith in
        (f.0, f.2, g.0, there g.0 g.1 low, g.1, a, low)

    -- what is replied now was done
    done : (w : Answer) (o : OwnerOffer) → slice_get os n ≡ Some o → Before s (owner_after os s of (Reply 0 n w)) fs
        → (g : PeerDecision) × (slice_get ds n ≡ Some g) × (slice_get gs n ≡ Some g) × (g.value ≡ Some (Done w))
    done w o e b =
        let f = before_at s _ fs n (replied_with w of o) b (altered_at os n (replied_with w of) o e) in
        let r : Response = record { answer = w; of = of } in
        let g = agree_replied fs gs n f.0 r agree f.1 f.2.reply in
        let a = agree_at fs gs n f.0 g.0 agree f.1 g.1 in
        let same : IsReplyTo g.0 r = subst (λ q. IfSome q (IsReplyTo g.0)) f.2.reply a.4 in
        let at = same.1 in
        let low : g.0.stamp < s = omega arith in
        (g.0, there g.0 g.1 low, g.1, same.0)

    reply_step : (l : ℕ) (w : Answer) → owner_fits terms os (Reply l n w) ≡ true → Before s (owner_after os s of (Reply l n w)) fs
        → Step terms fs gs s os ds (Reply l n w) (owner_after os s of (Reply l n w)) ds
    reply_step l w h b =
        let o = may_reply_is (slice_get os n) h in
        let x = done w o.0 o.1 b in
        let at : slice_get (combine os ds) n ≡ Some (link_offer_of o.0 (Some x.0)) = get_combine os ds n o.0 o.1 ∙ ap (λ q. Some (link_offer_of o.0 q)) x.1 in
        record {
          fit = ap (replies w) at ∙ and_true _ _ (ap (λ v. has_answer w (decided_answer v)) x.3 ∙ answer_same w) (ap (λ q. not (is_some q)) o.3);
          answer = ap decision_stamp x.2 ∙ sym (ap standing_stamp at);
          asks = refl;
          next = changed_is (combine os ds) n now_replied ∙ altered_combine os ds n now_replied (replied_with w of)
              (λ y. subst (λ q. now_replied (link_offer_of y q) ≡ link_offer_of (replied_with w of y) q) (sym x.1) (replied_step w of y x.0));
          short = let e = length_altered os n (replied_with w of) in omega arith;
        }

    know_step : (l : ℕ) → owner_fits terms os (Know l n) ≡ true → Before s (owner_after os s of (Know l n)) fs → Step terms fs gs s os ds (Know l n) (owner_after os s of (Know l n)) ds
    know_step l h b =
        let w = may_withdraw_is (slice_get os n) h in
        let x = decided w.0 w.1 b in
        let at : slice_get (combine os ds) n ≡ Some (link_offer_of w.0 (Some x.2)) = get_combine os ds n w.0 w.1 ∙ ap (λ q. Some (link_offer_of w.0 q)) x.3 in
        record {
          fit = ap knows at ∙ and_true _ _ (taken_of x.0.payload x.0.stamp x.2 s x.0.withdrawn x.5.1 (subst (λ q. OptGrows s q x.0.withdrawn) w.2 x.1.withdrawn) x.5.3 x.6)
              (ap (λ q. not (is_some q)) w.3);
          answer = ap decision_stamp x.4 ∙ sym (ap standing_stamp at);
          asks = refl;
          next = changed_is (combine os ds) n now_known ∙ altered_combine os ds n now_known (known_at of)
              (λ o. subst (λ q. now_known (link_offer_of o q) ≡ link_offer_of (known_at of o) q) (sym x.3) (known_step of o x.2));
          short = let e = length_altered os n (known_at of) in omega arith;
        }

    free_step : (l : ℕ) → owner_fits terms os (Room l n) ≡ true → Before s (owner_after os s of (Room l n)) fs → Step terms fs gs s os ds (Room l n) (owner_after os s of (Room l n)) ds
    free_step l h b =
        let w = may_free_is (slice_get os n) h in
        let x = decided w.0 w.1 b in
        let at : slice_get (combine os ds) n ≡ Some (link_offer_of w.0 (Some x.2)) = get_combine os ds n w.0 w.1 ∙ ap (λ q. Some (link_offer_of w.0 q)) x.3 in
        let f : x.0.withdrawn ≡ Some w.2.0 = subst (λ q. OptGrows s q x.0.withdrawn) w.2.1 x.1.withdrawn in
        let d : DecisionFits x.0.payload x.0.stamp x.2 (Some w.2.0) = subst (DecisionFits x.0.payload x.0.stamp x.2) f x.5.1 in
        record {
          fit = ap frees at ∙ and_true _ _ (ap (λ v. is_passed (decided_standing v)) d.0) (ap (λ q. not (is_some q)) w.3);
          answer = ap decision_stamp x.4 ∙ sym (ap standing_stamp at);
          asks = refl;
          next = changed_is (combine os ds) n now_known ∙ altered_combine os ds n now_known (known_at of)
              (λ o. subst (λ q. now_known (link_offer_of o q) ≡ link_offer_of (known_at of o) q) (sym x.3) (known_step of o x.2));
          short = let e = length_altered os n (known_at of) in omega arith;
        }

  -- an entry of the owner
  owner_step : (e : Event) → owner_fits terms os e ≡ true → Before s (owner_after os s of e) fs → BeforeD s ds gs → Past s ds → Step terms fs gs s os ds e (owner_after os s of e) ds
  owner_step (Offer l n p) h b bd past = offer_step l n p h
  owner_step (Withdraw l n) h b bd past = withdraw_step n past bd l h b
  owner_step (Know l n) h b bd past = know_step n past bd l h b
  owner_step (Room l n) h b bd past = free_step n past bd l h b
  owner_step (Got l n v) h b bd past = cc
  owner_step (Pass l n) h b bd past = cc
  owner_step (Did l n w) h b bd past = cc
  owner_step (Reply l n w) h b bd past = reply_step n past bd l w h b

  -- the offer that the peer decides next
  next_offer : (d : PeerDecision) → d.stamp ≡ s → Before s os fs → BeforeD s (ds ++ d ∷ []) gs
      → (f : OwnerOffer) × (slice_get fs (length ds) ≡ Some f) × OfferAgrees f d × (o : OwnerOffer) × (slice_get os (length ds) ≡ Some o) × Grows s o f × (length ds < length os)
  next_offer d e b bd =
      let g = beforeD_next s ds d gs bd in
      let f = agree_owner fs gs (length ds) d agree g in
      let a = agree_at fs gs (length ds) f.0 d agree f.1 g in
      let low = a.0 in
      let within : length ds < length os = elim (leb_tells (length os) (length ds)) [ inl v ↦ (let up = before_new s os fs (length ds) f.0 b v.1 f.1 in absurd (omega arith)) | inr v ↦ v.1 ] in
      let o = some_within os (length ds) within in
      let x = before_at s os fs (length ds) o.0 b o.1 in
      (f.0, f.1, a, o.0, o.1, subst (Grows s o.0) (some_one x.1 f.1) x.2, within)

  -- the peer takes the next offer
  record Take (n : ℕ) (g : Taking) (ds' : List PeerDecision) : Type 0 where
    fit : can_take (combine os ds) n g ≡ true
    answer : offer_stamp (slice_get fs n) ≡ standing_stamp (slice_get (combine os ds) n)
    asks : offer_payload (slice_get fs n) ≡ offered_payload (slice_get (combine os ds) n)
    next : changed (combine os ds) n (now_taken g s) (slice_get (combine os ds) n) ≡ combine os ds'
    within : length ds' ≤ length os

  take_step : (n : ℕ) (v : Taking) → n ≡ length ds → Before s os fs → BeforeD s (ds ++ record { value = Some v; stamp = s; answers = of } ∷ []) gs
      → Take n v (ds ++ record { value = Some v; stamp = s; answers = of } ∷ [])
  take_step n v e b bd =
      let d : PeerDecision = record { value = Some v; stamp = s; answers = of } in
      let x = next_offer d refl b bd in
      let open' : x.3.withdrawn ≡ None = not_gone x.0.payload x.0.stamp v s of x.0.withdrawn x.3.withdrawn x.2.1 x.5.withdrawn in
      let at : slice_get (combine os ds) n ≡ Some (link_offer_of x.3 None) = ap (slice_get (combine os ds)) e ∙ get_combine os ds (length ds) x.3 x.4
      ∙ ap (λ q. Some (link_offer_of x.3 q)) (none_past ds) in
      record {
        fit = and_true _ _ (eq_true n (front_of (combine os ds)) (e ∙ sym (front_combine os ds short)))
            (ap (takes v) at ∙ and_true _ _ (ap (λ q. is_offered (undecided_standing q)) open') (ap (carries v) (sym x.5.payload) ∙ carried x.0.payload x.0.stamp v s of x.0.withdrawn x.2.1));
        answer = ap (λ k. offer_stamp (slice_get fs k)) e ∙ ap offer_stamp x.1 ∙ x.5.stamp ∙ sym (ap standing_stamp at ∙ ap (undecided_stamp x.3.stamp) open');
        asks = ap (λ k. offer_payload (slice_get fs k)) e ∙ ap offer_payload x.1 ∙ ap (λ p. Some p) x.5.payload ∙ sym (ap offered_payload at);
        next = changed_is (combine os ds) n (now_taken v s) ∙ ap (λ k. altered (combine os ds) k (now_taken v s)) e ∙ decide_combine os ds d x.3 (now_taken v s) x.4 refl;
        within = let w = x.6 in let q = length-append ds (d ∷ []) in omega arith;
      }

  got_step : (l n : ℕ) (v : List ℤ) → n ≡ length ds → Before s os fs → BeforeD s (ds ++ record { value = Some (Message v); stamp = s; answers = of } ∷ []) gs
      → Step terms fs gs s os ds (Got l n v) os (ds ++ record { value = Some (Message v); stamp = s; answers = of } ∷ [])
  got_step l n v e b bd = let t = take_step n (Message v) e b bd in record { fit = t.fit; answer = t.answer; asks = refl; next = t.next; short = t.within }

  did_step : (l n : ℕ) (w : Answer) → n ≡ length ds → Before s os fs → BeforeD s (ds ++ record { value = Some (Done w); stamp = s; answers = of } ∷ []) gs
      → Step terms fs gs s os ds (Did l n w) os (ds ++ record { value = Some (Done w); stamp = s; answers = of } ∷ [])
  did_step l n w e b bd = let t = take_step n (Done w) e b bd in record { fit = t.fit; answer = t.answer; asks = t.asks; next = t.next; short = t.within }

  pass_step : (l n : ℕ) → n ≡ length ds → Before s os fs → BeforeD s (ds ++ record { value = None; stamp = s; answers = of } ∷ []) gs
      → Step terms fs gs s os ds (Pass l n) os (ds ++ record { value = None; stamp = s; answers = of } ∷ [])
  pass_step l n e b bd =
      let d : PeerDecision = record { value = None; stamp = s; answers = of } in
      let x = next_offer d refl b bd in
      let w = was_gone x.0.payload x.0.stamp s of x.0.withdrawn x.3.withdrawn lt x.2.1 x.5.withdrawn in
      let at : slice_get (combine os ds) n ≡ Some (link_offer_of x.3 None) = ap (slice_get (combine os ds)) e ∙ get_combine os ds (length ds) x.3 x.4
      ∙ ap (λ q. Some (link_offer_of x.3 q)) (none_past ds) in
      record {
        fit = and_true _ _ (eq_true n (front_of (combine os ds)) (e ∙ sym (front_combine os ds short))) (ap passes at ∙ ap (λ q. is_withdrawn (undecided_standing q)) w.1);
        answer = ap (λ k. withdrawal_stamp (slice_get fs k)) e ∙ ap withdrawal_stamp x.1 ∙ ap or_zero w.2 ∙ sym (ap standing_stamp at ∙ ap (undecided_stamp x.3.stamp) w.1);
        asks = refl;
        next = changed_is (combine os ds) n (stands Passed s) ∙ ap (λ k. altered (combine os ds) k (stands Passed s)) e ∙ decide_combine os ds d x.3 (stands Passed s) x.4 refl;
        short = let v = x.6 in let q = length-append ds (d ∷ []) in omega arith;
      }

  -- an entry of the peer
  peer_step : (e : Event) → peer_fits terms ds e ≡ true → Before s os fs → BeforeD s (ds ++ decision_of s of e ∷ []) gs → Step terms fs gs s os ds e os (ds ++ decision_of s of e ∷ [])
  peer_step (Offer l n p) h b bd = cc
  peer_step (Withdraw l n) h b bd = cc
  peer_step (Know l n) h b bd = cc
  peer_step (Room l n) h b bd = cc
  peer_step (Got l n v) h b bd = got_step l n v (true_eq n (length ds) (both_true (not terms.requests) (n == length ds) h).1) b bd
  peer_step (Pass l n) h b bd = pass_step l n (true_eq n (length ds) h) b bd
  peer_step (Did l n w) h b bd = did_step l n w (true_eq n (length ds) (both_true terms.requests (n == length ds) h).1) b bd
  peer_step (Reply l n w) h b bd = cc

-- the decisions so far are not after the owner's next entry
abbrev Low : List Stamped → List PeerDecision → Type 0
Low [] ds = Unit {0}
Low (u ∷ us) ds = Past u.entry.stamp ds

past_more : (s t : ℕ) → s ≤ t → (ds : List PeerDecision) → Past s ds → Past t ds
past_more s t h [] p = tt
past_more s t h (d ∷ ds) p = (let a = p.0 in omega arith, past_more s t h ds p.1)

past_push : (s : ℕ) (ds : List PeerDecision) (d : PeerDecision) → d.stamp ≤ s → Past s ds → Past s (ds ++ d ∷ [])
past_push s [] d h p = (h, tt)
past_push s (x ∷ ds) d h p = (p.0, past_push s ds d h p.1)

low_next : (s : ℕ) (us : List Stamped) (ds : List PeerDecision) → AllFrom stamp_of s us → Past s ds → Low us ds
low_next s [] ds a p = tt
low_next s (u ∷ us) ds a p = past_more s u.entry.stamp a.0 ds p

low_push : (s : ℕ) (us : List Stamped) (ds : List PeerDecision) (d : PeerDecision) → d.stamp ≡ s → AllFrom stamp_of s us → Low us ds → Low us (ds ++ d ∷ [])
low_push s [] ds d e a p = tt
low_push s (u ∷ us) ds d e a p = past_push u.entry.stamp ds d (let b = a.0 in omega arith) p

module _ (terms : Terms) (fs : List OwnerOffer) (gs : List PeerDecision) (agree : ViewsAgree fs gs) (mine yours : Event → ℕ) where
  record State (os : List OwnerOffer) (ds : List PeerDecision) (us bs : List Stamped) : Type 0 where
    short : length ds ≤ length os
    owner : OwnerRuns terms mine os us fs
    peer : PeerRuns terms yours ds bs gs
    owner_rises : Rises stamp_of us
    peer_rises : Rises stamp_of bs
    low : Low us ds

  from_owner : (os : List OwnerOffer) (ds : List PeerDecision) (h : Stamped) (us bs : List Stamped) → State os ds (h ∷ us) bs → AllFrom stamp_of h.entry.stamp bs
      → Step terms fs gs h.entry.stamp os ds h.entry.event (owner_after os h.entry.stamp (mine h.entry.event) h.entry.event) ds
  from_owner os ds h us bs o a = owner_step terms fs gs agree h.entry.stamp (mine h.entry.event) o.owner.1 os ds o.short h.entry.event o.owner.0
      (before_of terms h.entry.stamp mine (owner_after os h.entry.stamp (mine h.entry.event) h.entry.event) us fs o.owner.2 o.owner_rises.0)
      (beforeD_of terms h.entry.stamp yours ds bs gs o.peer a) o.low

  from_peer : (os : List OwnerOffer) (ds : List PeerDecision) (h : Stamped) (us bs : List Stamped) → State os ds us (h ∷ bs) → AllFrom stamp_of h.entry.stamp us
      → Step terms fs gs h.entry.stamp os ds h.entry.event os (ds ++ decision_of h.entry.stamp (yours h.entry.event) h.entry.event ∷ [])
  from_peer os ds h us bs o a = peer_step terms fs gs agree h.entry.stamp (yours h.entry.event) o.peer.1 os ds o.short h.entry.event o.peer.0
      (before_of terms h.entry.stamp mine os us fs o.owner a)
      (beforeD_of terms h.entry.stamp yours (ds ++ decision_of h.entry.stamp (yours h.entry.event) h.entry.event ∷ []) bs gs o.peer.2 o.peer_rises.0)

  after_owner : (os : List OwnerOffer) (ds : List PeerDecision) (h : Stamped) (us bs : List Stamped) → State os ds (h ∷ us) bs → AllFrom stamp_of h.entry.stamp bs
      → State (owner_after os h.entry.stamp (mine h.entry.event) h.entry.event) ds us bs
  after_owner os ds h us bs o a = record {
    short = (from_owner os ds h us bs o a).short;
    owner = o.owner.2;
    peer = o.peer;
    owner_rises = o.owner_rises.1;
    peer_rises = o.peer_rises;
    low = low_next h.entry.stamp us ds o.owner_rises.0 o.low;
  }

  after_peer : (os : List OwnerOffer) (ds : List PeerDecision) (h : Stamped) (us bs : List Stamped) → State os ds us (h ∷ bs) → AllFrom stamp_of h.entry.stamp us
      → State os (ds ++ decision_of h.entry.stamp (yours h.entry.event) h.entry.event ∷ []) us bs
  after_peer os ds h us bs o a = record {
    short = (from_peer os ds h us bs o a).short;
    owner = o.owner;
    peer = o.peer.2;
    owner_rises = o.owner_rises;
    peer_rises = o.peer_rises.1;
    low = low_push h.entry.stamp us ds (decision_of h.entry.stamp (yours h.entry.event) h.entry.event) (decision_stamp_is h.entry.stamp (yours h.entry.event) h.entry.event) a o.low;
  }

  -- each entry is right on the link, which ends as what the two views make
  record Ends (os : List OwnerOffer) (ds : List PeerDecision) (hs : List Stamped) : Type 0 where
    agrees : LinkAgrees (seen_of fs gs) (request_of fs) terms (combine os ds) hs
    link : link_after_all (combine os ds) hs ≡ combine fs gs

  ends_after : (os os' : List OwnerOffer) (ds ds' : List PeerDecision) (h : Stamped) (hs : List Stamped) → Step terms fs gs h.entry.stamp os ds h.entry.event os' ds' → Ends os' ds' hs →
      Ends os ds (h ∷ hs)
  ends_after os os' ds ds' h hs t x = record {
    agrees = (t.fit, t.answer, t.asks, subst (λ ps. LinkAgrees (seen_of fs gs) (request_of fs) terms ps hs) (sym t.next) x.agrees);
    link = ap (λ ps. link_after_all ps hs) t.next ∙ x.link;
  }

  go : (hs : List Stamped) (os : List OwnerOffer) (ds : List PeerDecision) (us bs : List Stamped) → State os ds us bs → Mix us bs hs → Ends os ds hs
  go [] os ds us bs o m =
      let a : fs ≡ os = subst (λ x. OwnerRuns terms mine os x fs) m.0 o.owner in
      let b : gs ≡ ds = subst (λ x. PeerRuns terms yours ds x gs) m.1 o.peer in
      record { agrees = tt; link = sym (ap (λ x. combine x gs) a ∙ ap (combine os) b) }
  go (h ∷ hs) os ds us bs o (inl w) =
      let o' = subst (λ x. State os ds x bs) w.1 o in
      ends_after os (owner_after os h.entry.stamp (mine h.entry.event) h.entry.event) ds ds h hs (from_owner os ds h w.0 bs o' w.2)
      (go hs (owner_after os h.entry.stamp (mine h.entry.event) h.entry.event) ds w.0 bs (after_owner os ds h w.0 bs o' w.2) w.3)
  go (h ∷ hs) os ds us bs o (inr w) =
      let o' = subst (λ x. State os ds us x) w.1 o in
      ends_after os os ds (ds ++ decision_of h.entry.stamp (yours h.entry.event) h.entry.event ∷ []) h hs (from_peer os ds h us w.0 o' w.2)
      (go hs os (ds ++ decision_of h.entry.stamp (yours h.entry.event) h.entry.event ∷ []) us w.0 (after_peer os ds h us w.0 o' w.2) w.3)

  mix_swap : (hs us bs : List Stamped) → Mix us bs hs → Mix bs us hs
  mix_swap [] us bs m = (m.1, m.0)
  mix_swap (h ∷ hs) us bs (inl w) = inr (w.0, w.1, w.2, mix_swap hs w.0 bs w.3)
  mix_swap (h ∷ hs) us bs (inr w) = inl (w.0, w.1, w.2, mix_swap hs us w.0 w.3)

  module _ (us bs : List Stamped) (ru : OwnerRuns terms mine [] us fs) (rb : PeerRuns terms yours [] bs gs) (up : Rises stamp_of us) (up' : Rises stamp_of bs) where
    nothing_yet : State [] [] us bs
    nothing_yet = record { short = omega arith; owner = ru; peer = rb; owner_rises = up; peer_rises = up'; low = low_none us }
      where
        low_none : (us : List Stamped) → Low us []
        low_none [] = tt
        low_none (u ∷ us) = tt

    -- the owner is the earlier party, or the later
    by_owner : Ends [] [] (in_order stamp_of (us ++ bs))
    by_owner = go (in_order stamp_of (us ++ bs)) [] [] us bs nothing_yet (mix_in_order us bs up up')

    by_peer : Ends [] [] (in_order stamp_of (bs ++ us))
    by_peer = go (in_order stamp_of (bs ++ us)) [] [] us bs nothing_yet (mix_swap (in_order stamp_of (bs ++ us)) bs us (mix_in_order bs us up' up))

    pub owner_first : LinkAgrees (seen_of fs gs) (request_of fs) terms [] (in_order stamp_of (us ++ bs))
    owner_first = by_owner.agrees

    pub peer_first : LinkAgrees (seen_of fs gs) (request_of fs) terms [] (in_order stamp_of (bs ++ us))
    peer_first = by_peer.agrees

    pub owner_first_ends : link_after_all [] (in_order stamp_of (us ++ bs)) ≡ combine fs gs
    owner_first_ends = by_owner.link

    pub peer_first_ends : link_after_all [] (in_order stamp_of (bs ++ us)) ≡ combine fs gs
    peer_first_ends = by_peer.link
