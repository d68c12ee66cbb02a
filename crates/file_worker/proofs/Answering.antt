-- One decision more, with its reply where it takes a request; and the worker's decisions as those of an end that makes a link.
use Rattle.std.proofs.Common.{◌≡◌, ℕ, suc, ◌+◌, List, [], ◌∷◌, ◌++◌, Some, None, true, refl, sym, ap, ◌∙◌, subst, arith, length}
use Rattle.ac_base.specs.declared.entry.Payload.{Payload}
use Rattle.ac_base.specs.declared.entry.Answer.{Answer}
use Rattle.ac_links.specs.Payloads.{Taking, answer_fits, carries}
use Rattle.ac_links.specs.Payloads.Taking.{Done}
use Rattle.ac_links.specs.Views.{Response, PeerDecision}
use Rattle.ac_links.specs.Replies.{NoMessages, responses, response_at, is_done_or_passed}
use Rattle.completion_word.specs.declared.views.Decision.{Decision}
use Rattle.completion_word.specs.declared.views.DecisionKind.{DecisionKind}
use Rattle.completion_word.specs.declared.views.DecisionKind.TheVariants.{Taken, Passed}
use Rattle.completion_word.specs.Link.{decision}
use Rattle.channel_ends.specs.Settled.{stamp_of, taking_by, IsTakenAs, AreTakenAs, peer_decisions}
use Rattle.file_worker.specs.Ends.{done_by, replies_left, decisions_of, HasReply, AreAnswered}
use Rattle.file_worker.specs.Laws.{first_answer, answer_at, taking_of, AreViewed}

pub decisions_long : (ds : List Decision) (rs : List Response) → length (decisions_of ds rs) ≡ length ds
decisions_long [] rs = refl
decisions_long (d ∷ ds) rs = ap suc (decisions_long ds (replies_left d.outcome rs))

-- one item was taken for each decision
pub popped_long : (xs : List Payload) (ds : List Decision) (rs : List Response) → AreAnswered xs ds rs → length xs ≡ length ds
popped_long [] [] rs h = refl
popped_long [] (d ∷ ds) rs h = absurd h
popped_long (x ∷ xs) [] rs h = absurd h
popped_long (x ∷ xs) (d ∷ ds) rs h = ap suc (popped_long xs ds (replies_left d.outcome rs) h.1)

-- a reply at the end belongs to none of the decisions that have theirs
left_more : (x : Payload) (kind : DecisionKind) (rs : List Response) (r : Response) → HasReply x kind rs
    → (replies_left kind (rs ++ r ∷ []) ≡ replies_left kind rs ++ r ∷ []) × (done_by kind (rs ++ r ∷ []) ≡ done_by kind rs) × HasReply x kind (rs ++ r ∷ [])
left_more x (Taken t) [] r h = absurd h
left_more x (Taken t) (q ∷ rs) r h = (refl, refl, h)
left_more x (Passed t) rs r h = (refl, refl, tt)

abbrev taken_decision : Answer → ℕ → ℕ → PeerDecision
taken_decision answer t of = record { value = Some (Done answer); stamp = t; answers = of }

abbrev passed_decision : ℕ → ℕ → PeerDecision
passed_decision t of = record { value = None; stamp = t; answers = of }

module _ (x : Payload) (t of : ℕ) (answer : Answer) (fits : answer_fits answer x ≡ true) where
  abbrev r : Response
  r = record { answer = answer; of = t }

  pub taken_more : (xs : List Payload) (ds : List Decision) (rs : List Response) → AreAnswered xs ds rs
      → AreAnswered (xs ++ x ∷ []) (ds ++ decision (Taken t) of ∷ []) (rs ++ r ∷ [])
      × (decisions_of (ds ++ decision (Taken t) of ∷ []) (rs ++ r ∷ []) ≡ decisions_of ds rs ++ taken_decision answer t of ∷ [])
  taken_more [] [] rs e =
      subst (λ q. AreAnswered (x ∷ []) (decision (Taken t) of ∷ []) (q ++ r ∷ []) × (decisions_of (decision (Taken t) of ∷ []) (q ++ r ∷ []) ≡ taken_decision answer t of ∷ []))
      (sym e) (((refl, fits), refl), refl)
  taken_more [] (d ∷ ds) rs h = absurd h
  taken_more (y ∷ xs) [] rs h = absurd h
  taken_more (y ∷ xs) (d ∷ ds) rs h =
      let m = left_more y d.outcome rs r h.0 in
      let ih = taken_more xs ds (replies_left d.outcome rs) h.1 in
      let more = ds ++ decision (Taken t) of ∷ [] in (
        (m.2, subst (AreAnswered (xs ++ x ∷ []) more) (sym m.0) ih.0),
        ap (λ v. record { value = v; stamp = stamp_of d.outcome; answers = d.answers } ∷ decisions_of more (replies_left d.outcome (rs ++ r ∷ []))) m.1
            ∙ ap (λ q. record { value = done_by d.outcome rs; stamp = stamp_of d.outcome; answers = d.answers } ∷ decisions_of more q) m.0
            ∙ ap (λ l. record { value = done_by d.outcome rs; stamp = stamp_of d.outcome; answers = d.answers } ∷ l) ih.1,
      )

pub passed_more : (x : Payload) (t of : ℕ) (xs : List Payload) (ds : List Decision) (rs : List Response) → AreAnswered xs ds rs
    → AreAnswered (xs ++ x ∷ []) (ds ++ decision (Passed t) of ∷ []) rs
    × (decisions_of (ds ++ decision (Passed t) of ∷ []) rs ≡ decisions_of ds rs ++ passed_decision t of ∷ [])
passed_more x t of [] [] rs e = ((tt, e), refl)
passed_more x t of [] (d ∷ ds) rs h = absurd h
passed_more x t of (y ∷ xs) [] rs h = absurd h
passed_more x t of (y ∷ xs) (d ∷ ds) rs h =
    let ih = passed_more x t of xs ds (replies_left d.outcome rs) h.1 in (
      (h.0, ih.0),
      ap (λ l. record { value = done_by d.outcome rs; stamp = stamp_of d.outcome; answers = d.answers } ∷ l) ih.1,
    )

-- ---- as an end that makes a link

first_taken : (taking : ℕ → Payload → Taking) (k : ℕ) (x : Payload) (kind : DecisionKind) (rs : List Response) → HasReply x kind rs → taking k x ≡ Done (first_answer rs)
    → IsTakenAs (λ y. y) taking k x kind × (taking_by (taking k x) kind ≡ done_by kind rs)
first_taken taking k x (Taken t) [] h e = absurd h
first_taken taking k x (Taken t) (r ∷ rs) h e = (ap (λ v. carries v x) e ∙ h.1, ap Some e)
first_taken taking k x (Passed t) rs h e = (tt, refl)

taken_as : (taking : ℕ → Payload → Taking) (k : ℕ) (xs : List Payload) (ds : List Decision) (rs : List Response) → AreAnswered xs ds rs
    → ((i : ℕ) (x : Payload) → taking (k + i) x ≡ Done (answer_at ds rs i)) → AreTakenAs (λ y. y) taking k xs ds × (peer_decisions taking k xs ds ≡ decisions_of ds rs)
taken_as taking k [] [] rs h e = (tt, refl)
taken_as taking k [] (d ∷ ds) rs h e = absurd h
taken_as taking k (x ∷ xs) [] rs h e = absurd h
taken_as taking k (x ∷ xs) (d ∷ ds) rs h e =
    let same : k + 0 ≡ k = omega arith in
    let here = first_taken taking k x d.outcome rs h.0 (subst (λ n. taking n x ≡ Done (first_answer rs)) same (e 0 x)) in
    let ih = taken_as taking (suc k) xs ds (replies_left d.outcome rs) h.1
    (λ i y. let next : k + suc i ≡ suc k + i = omega arith in subst (λ n. taking n y ≡ Done (answer_at ds (replies_left d.outcome rs) i)) next (e (suc i) y)) in (
      (here.0, ih.0),
      ap (λ v. record { value = v; stamp = stamp_of d.outcome; answers = d.answers } ∷ peer_decisions taking (suc k) xs ds) here.1
          ∙ ap (λ l. record { value = done_by d.outcome rs; stamp = stamp_of d.outcome; answers = d.answers } ∷ l) ih.1,
    )

first_on_ring : (x : Payload) (kind : DecisionKind) (rs rest : List Response) → HasReply x kind rs → rest ≡ replies_left kind rs
    → response_at (stamp_of kind) (done_by kind rs) ++ rest ≡ rs
first_on_ring x (Taken t) [] rest h e = absurd h
first_on_ring x (Taken t) (r ∷ rs) rest h e = ap (λ l. record { answer = r.answer; of = t } ∷ l) e ∙ ap (λ o. record { answer = r.answer; of = o } ∷ rs) (sym h.0)
first_on_ring x (Passed t) rs rest h e = e

on_ring : (xs : List Payload) (ds : List Decision) (rs : List Response) → AreAnswered xs ds rs → responses (decisions_of ds rs) ≡ rs
on_ring [] [] rs h = sym h
on_ring [] (d ∷ ds) rs h = absurd h
on_ring (x ∷ xs) [] rs h = absurd h
on_ring (x ∷ xs) (d ∷ ds) rs h = first_on_ring x d.outcome rs (responses (decisions_of ds (replies_left d.outcome rs))) h.0 (on_ring xs ds (replies_left d.outcome rs) h.1)

is_request_taken : (kind : DecisionKind) (rs : List Response) → is_done_or_passed (done_by kind rs) ≡ true
is_request_taken (Taken t) [] = refl
is_request_taken (Taken t) (r ∷ rs) = refl
is_request_taken (Passed t) rs = refl

no_messages : (ds : List Decision) (rs : List Response) → NoMessages (decisions_of ds rs)
no_messages [] rs = tt
no_messages (d ∷ ds) rs = (is_request_taken d.outcome rs, no_messages ds (replies_left d.outcome rs))

pub are_viewed : (xs : List Payload) (ds : List Decision) (rs : List Response) → AreAnswered xs ds rs → AreViewed xs ds rs
are_viewed xs ds rs h =
    let both = taken_as (taking_of ds rs) 0 xs ds rs h (λ i x. ap (λ n. Done (answer_at ds rs n)) (let e : 0 + i ≡ i = omega arith in e)) in
    record { taken = both.0; same = both.1; requests = no_messages ds rs; on_ring = on_ring xs ds rs h }
