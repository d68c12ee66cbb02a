-- What each side noted of an answered entry is what the other side has. For `two_views_make_a_link`.
-- By induction on the entries of one side: what it noted at an entry still stands in its view at the end (Growth), and there the two views agree.
use Rattle.std.proofs.Common.{◌≡◌, ℕ, List, [], ◌∷◌, ◌++◌, Option, Some, None, true, refl, sym, ap, ◌∙◌, subst, arith, length}
use Rattle.std.specs.Prelude.{slice_get, ◌==◌, IfSome, not}
use Rattle.std.specs.List.{AllByRecursion}
use Rattle.std.proofs.lemmas.Bool.Decides.{nat_tests}
use Rattle.ac_base.specs.declared.entry.Payload.{Payload}
use Rattle.ac_base.specs.declared.entry.Answer.{Answer}
use Rattle.ac_base.specs.declared.entry.Event.{Event}
use Rattle.ac_base.specs.declared.entry.Event.TheVariants.{Offer, Withdraw, Know, Room, Got, Pass, Did, Reply}
use Rattle.ac_base.specs.declared.entry.Stamped.{Stamped}
use Rattle.ac_links.specs.Order.{stamp_of, AllFrom}
use Rattle.ac_links.specs.declared.payloads.Terms.{Terms}
use Rattle.ac_links.specs.Payloads.{Taking}
use Rattle.ac_links.specs.Payloads.Taking.{Message, Done}
use Rattle.ac_links.specs.Views.{OwnerOffer, PeerDecision, Response, IsReplyTo, owner_fits, owner_after, known_at, replied_with, peer_fits, decision_of, answers_none, OwnerRuns, PeerRuns}
use Rattle.ac_links.specs.Views.{DecisionFits, ViewsAgree}
use Rattle.ac_links.specs.Noted.{offer_stamp, withdrawal_stamp, or_zero, decision_stamp, seen_of}
use Rattle.ac_links.proofs.Growth.{Before, BeforeD, both_true, may_withdraw_is, may_free_is, may_reply_is, before_of, before_at, altered_at, beforeD_of, beforeD_next, agree_at, agree_owner}
use Rattle.ac_links.proofs.Growth.{agree_known, agree_replied}

true_eq : (m n : ℕ) → (m == n) ≡ true → m ≡ n
true_eq m n h = grind (arith, nat_tests)

eq_true : (m n : ℕ) → m ≡ n → (m == n) ≡ true
eq_true m n h = grind (arith, nat_tests)

pub from_zero : (es : List Stamped) → AllFrom stamp_of 0 es
from_zero [] = tt
from_zero (e ∷ es) = (omega arith, from_zero es)

took : (p : Payload) (t : ℕ) (v : Taking) (s of : ℕ) (q : Option ℕ) → DecisionFits p t (record { value = Some v; stamp = s; answers = of }) q → of ≡ t
took p t v s of None d = d.3
took p t v s of (Some w) d = let h = d.0 in cc

passed : (p : Payload) (t s of : ℕ) (q : Option ℕ) → DecisionFits p t (record { value = None; stamp = s; answers = of }) q → of ≡ or_zero q
passed p t s of None d = let h = d.1 in cc
passed p t s of (Some w) d = d.1

module _ (fs : List OwnerOffer) (gs : List PeerDecision) (agree : ViewsAgree fs gs) (mine : Event → ℕ) (first : (e : Event) → answers_none e ≡ true → mine e ≡ 0) where
  knew : (s of n : ℕ) (os : List OwnerOffer) (o : OwnerOffer) → slice_get os n ≡ Some o → Before 0 (owner_after os s of (Know 0 n)) fs → of ≡ decision_stamp (slice_get gs n)
  knew s of n os o e b =
      let f = before_at 0 _ fs n (known_at of o) b (altered_at os n (known_at of) o e) in
      let g = agree_known fs gs n f.0 of agree f.1 f.2.known in
      let a = agree_at fs gs n f.0 g.0 agree f.1 g.1 in
      let same : of ≡ g.0.stamp = subst (λ q. IfSome q (λ k. k ≡ g.0.stamp)) f.2.known a.2 in
      same ∙ sym (ap decision_stamp g.1)

  had : (s of n : ℕ) (w : Answer) (os : List OwnerOffer) (o : OwnerOffer) → slice_get os n ≡ Some o → Before 0 (owner_after os s of (Reply 0 n w)) fs → of ≡ decision_stamp (slice_get gs n)
  had s of n w os o e b =
      let f = before_at 0 _ fs n (replied_with w of o) b (altered_at os n (replied_with w of) o e) in
      let r : Response = record { answer = w; of = of } in
      let g = agree_replied fs gs n f.0 r agree f.1 f.2.reply in
      let a = agree_at fs gs n f.0 g.0 agree f.1 g.1 in
      let same : IsReplyTo g.0 r = subst (λ q. IfSome q (IsReplyTo g.0)) f.2.reply a.4 in
      same.1 ∙ sym (ap decision_stamp g.1)

  told_at : (terms : Terms) (s : ℕ) (os : List OwnerOffer) (e : Event) → owner_fits terms os e ≡ true → Before 0 (owner_after os s (mine e) e) fs → mine e ≡ seen_of fs gs e
  told_at terms s os (Offer l n p) h b = first (Offer l n p) refl
  told_at terms s os (Withdraw l n) h b = first (Withdraw l n) refl
  told_at terms s os (Know l n) h b = let w = may_withdraw_is (slice_get os n) h in knew s (mine (Know l n)) n os w.0 w.1 b
  told_at terms s os (Room l n) h b = let w = may_free_is (slice_get os n) h in knew s (mine (Room l n)) n os w.0 w.1 b
  told_at terms s os (Got l n v) h b = cc
  told_at terms s os (Pass l n) h b = cc
  told_at terms s os (Did l n w) h b = cc
  told_at terms s os (Reply l n w) h b = let o = may_reply_is (slice_get os n) h in had s (mine (Reply l n w)) n w os o.0 o.1 b

  pub told_owner : (terms : Terms) (os : List OwnerOffer) (es : List Stamped) → OwnerRuns terms mine os es fs → AllByRecursion (λ e. mine e.entry.event ≡ seen_of fs gs e.entry.event) es
  told_owner terms os [] r = tt
  told_owner terms os (e ∷ es) r = let after = owner_after os e.entry.stamp (mine e.entry.event) e.entry.event in
      (told_at terms e.entry.stamp os e.entry.event r.0 (before_of terms 0 mine after es fs r.2 (from_zero es)), told_owner terms after es r.2)

  saw_taken : (s n : ℕ) (ds : List PeerDecision) (v : Taking) (of : ℕ) → n ≡ length ds → BeforeD 0 (ds ++ record { value = Some v; stamp = s; answers = of } ∷ []) gs
      → of ≡ offer_stamp (slice_get fs n)
  saw_taken s n ds v of h b =
      let d : PeerDecision = record { value = Some v; stamp = s; answers = of } in
      let g = beforeD_next 0 ds d gs b in
      let f = agree_owner fs gs (length ds) d agree g in
      let a = agree_at fs gs (length ds) f.0 d agree f.1 g in
      took f.0.payload f.0.stamp v s of f.0.withdrawn a.1 ∙ sym (ap (λ k. offer_stamp (slice_get fs k)) h ∙ ap offer_stamp f.1)

  saw_at : (terms : Terms) (s : ℕ) (ds : List PeerDecision) (e : Event) → peer_fits terms ds e ≡ true → BeforeD 0 (ds ++ decision_of s (mine e) e ∷ []) gs → mine e ≡ seen_of fs gs e
  saw_at terms s ds (Offer l n p) h b = cc
  saw_at terms s ds (Withdraw l n) h b = cc
  saw_at terms s ds (Know l n) h b = cc
  saw_at terms s ds (Room l n) h b = cc
  saw_at terms s ds (Got l n v) h b = saw_taken s n ds (Message v) (mine (Got l n v)) (true_eq n (length ds) (both_true (not terms.requests) (n == length ds) h).1) b
  saw_at terms s ds (Pass l n) h b =
      let d : PeerDecision = record { value = None; stamp = s; answers = mine (Pass l n) } in
      let g = beforeD_next 0 ds d gs b in
      let f = agree_owner fs gs (length ds) d agree g in
      let a = agree_at fs gs (length ds) f.0 d agree f.1 g in
      passed f.0.payload f.0.stamp s (mine (Pass l n)) f.0.withdrawn a.1 ∙ sym (ap (λ k. withdrawal_stamp (slice_get fs k)) (true_eq n (length ds) h) ∙ ap withdrawal_stamp f.1)
  saw_at terms s ds (Did l n w) h b = saw_taken s n ds (Done w) (mine (Did l n w)) (true_eq n (length ds) (both_true terms.requests (n == length ds) h).1) b
  saw_at terms s ds (Reply l n w) h b = cc

  pub told_peer : (terms : Terms) (ds : List PeerDecision) (es : List Stamped) → PeerRuns terms mine ds es gs → AllByRecursion (λ e. mine e.entry.event ≡ seen_of fs gs e.entry.event) es
  told_peer terms ds [] r = tt
  told_peer terms ds (e ∷ es) r = let after = ds ++ decision_of e.entry.stamp (mine e.entry.event) e.entry.event ∷ [] in
      (saw_at terms e.entry.stamp ds e.entry.event r.0 (beforeD_of terms 0 mine after es gs r.2 (from_zero es)), told_peer terms after es r.2)
