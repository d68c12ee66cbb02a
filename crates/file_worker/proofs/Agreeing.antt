-- After the turn of one core the worker's journal agrees with its ends as before: with one entry more, or with none.
use Rattle.std.proofs.Common.{◌≡◌, ℕ, ◌+◌, ◌<◌, ◌≤◌, List, [], ◌∷◌, ◌++◌, Some, true, inl, inr, refl, sym, ap, ◌∙◌, subst, arith, length, slice_set, Bool}
use Rattle.std.specs.Prelude.{◌==◌, ◌&&◌, slice_get}
use Rattle.std.specs.List.{AllByRecursion}
use Rattle.std.proofs.lemmas.Bool.Decides.{eqb_tells, nat_tests}
use Rattle.std.proofs.lemmas.List.{length-set}
use Rattle.std.proofs.lemmas.Option.{slice_get_within}
use Rattle.ac_base.specs.declared.entry.Payload.{Payload}
use Rattle.ac_base.specs.declared.entry.Entry.{Entry}
use Rattle.ac_base.specs.declared.entry.Event.{Event}
use Rattle.ac_base.specs.declared.entry.Event.TheVariants.{Did, Pass}
use Rattle.ac_base.specs.declared.entry.Stamped.{Stamped}
use Rattle.ac_base.specs.Stamps.{next_stamp}
use Rattle.ac_links.specs.declared.payloads.Terms.{Terms}
use Rattle.ac_links.specs.Link.{link_of}
use Rattle.ac_links.specs.Order.{of_party}
use Rattle.ac_links.specs.Journals.{last_of}
use Rattle.ac_links.specs.Noted.{peer_noted, answers_stamp}
use Rattle.ac_links.specs.Views.{Response, PeerDecision, decision_of, peer_fits}
use Rattle.ac_links.specs.Party.{LinkEnd, PartyAgrees, with_end, end_fits, end_after, end_noted}
use Rattle.ac_links.specs.Party.LinkEnd.{Decides}
use Rattle.ac_links.proofs.Party.{party_goes_on, of_party_push}
use Rattle.ac_outside.specs.Disks.{DiskTold}
use Rattle.completion_word.specs.declared.views.Decision.{Decision}
use Rattle.completion_word.specs.declared.views.DecisionKind.TheVariants.{Taken, Passed}
use Rattle.completion_word.specs.Link.{decision}
use Rattle.core_channels.proofs.Stamping.{stamp_is_next}
use Rattle.file_worker.specs.declared.turns.Turned.TheVariants.{Made}
use Rattle.file_worker.specs.Ends.{CoreEnds, AtDesk, AreAnswered, decisions_of, end_of, worker_ends}
use Rattle.file_worker.specs.Agreement.{WorkerAgrees}
use Rattle.file_worker.specs.inner.Turns.{DoesNext, PassesNext, Turns}
use Rattle.file_worker.proofs.Answering.{decisions_long, taken_more, passed_more}
use Rattle.file_worker.proofs.EndLists.{set_same, set_other, same_some, own_end, kept_ends, changed_ends}

get_last : (ds : List PeerDecision) (d : PeerDecision) (n : ℕ) → n ≡ length ds → slice_get (ds ++ d ∷ []) n ≡ Some d
get_last ds d n e = ap (slice_get (ds ++ d ∷ [])) e ∙ by ds
  where
    by : (xs : List PeerDecision) → slice_get (xs ++ d ∷ []) (length xs) ≡ Some d
    by [] = refl
    by (x ∷ xs) = by xs

eq_true : (m n : ℕ) → m ≡ n → (m == n) ≡ true
eq_true m n h = grind (arith, nat_tests)

and_true : (a b : Bool) → a ≡ true → b ≡ true → a && b ≡ true
and_true a b p q = rw (p, q)

all_push : (P : Stamped → Type 0) (es : List Stamped) (e : Stamped) → AllByRecursion P es → P e → AllByRecursion P (es ++ e ∷ [])
all_push P [] e a h = (h, tt)
all_push P (x ∷ es) e a h = (a.0, all_push P es e a.1 h)

abbrev Answered : CoreEnds → Type 0
Answered e = AreAnswered e.ask.popped e.ask.peer.decisions e.reply.replies

abbrev decided : CoreEnds → List PeerDecision
decided e = decisions_of e.ask.peer.decisions e.reply.replies

answered_by : (xs : List Payload) (ds : List Decision) (rs : List Response) (b : CoreEnds) → b.ask.popped ≡ xs → b.ask.peer.decisions ≡ ds → b.reply.replies ≡ rs → AreAnswered xs ds rs → Answered b
answered_by xs ds rs b p d r h = subst (λ ys. AreAnswered ys b.ask.peer.decisions b.reply.replies) (sym p) (subst (λ es. AreAnswered xs es b.reply.replies) (sym d) (subst (AreAnswered xs ds)
    (sym r) h))

decided_by : (ds : List Decision) (rs : List Response) (b : CoreEnds) → b.ask.peer.decisions ≡ ds → b.reply.replies ≡ rs → decided b ≡ decisions_of ds rs
decided_by ds rs b d r = ap (λ es. decisions_of es b.reply.replies) d ∙ ap (decisions_of ds) r

module _ (w : AtDesk) (core : ℕ) (a b : CoreEnds) (was : slice_get w.ends core ≡ Some a) (agrees : WorkerAgrees w) where
  within : core < length w.ends
  within = slice_get_within w.ends core a was

  abbrev ends : List CoreEnds
  ends = slice_set w.ends core b

  answered : Answered b → (c : ℕ) (e : CoreEnds) → slice_get ends c ≡ Some e → Answered e
  answered now c e at = elim (eqb_tells core c) [
    | inl q ↦ subst Answered (same_some b e (sym (set_same w.ends core b within) ∙ ap (slice_get ends) q.1 ∙ at)) now
    | inr q ↦ agrees.answered c e (sym (set_other w.ends core c b q.1) ∙ at)
  ]

  -- nothing was decided
  pub rest_agrees : b.ask.popped ≡ a.ask.popped → b.ask.peer.decisions ≡ a.ask.peer.decisions → b.reply.replies ≡ a.reply.replies → WorkerAgrees (record w { ends = ends })
  rest_agrees p d r =
      let count = length-set w.ends core b in
      let same : end_of b ≡ end_of a = ap (λ ds. Decides (decisions_of ds b.reply.replies)) d ∙ ap (λ rs. Decides (decisions_of a.ask.peer.decisions rs)) r in
      let now = answered_by a.ask.popped a.ask.peer.decisions a.reply.replies b p d r (agrees.answered core a was) in
      record {
        journal = λ terms requests. subst (λ n. PartyAgrees terms n (worker_ends w.first ends) w.entries) (sym count)
            (subst (λ f. PartyAgrees terms (length w.ends) f w.entries) (sym (kept_ends w.first w.ends core a b was same)) (agrees.journal terms requests));
        turns = subst (λ n. AllByRecursion (λ e. e.entry.turn ≡ 0) (of_party n w.entries)) (sym count) agrees.turns;
        answered = answered now;
      }

  -- one decision more, by this entry of the core's link
  module _ (stamp of : ℕ) (event : Event) (on : link_of event ≡ w.first + core) (next : stamp ≡ next_stamp (last_of 0 w.entries) of)
      (fits : (terms : Terms) → terms.requests ≡ true → peer_fits terms (decided a) event ≡ true)
      (noted : peer_noted (decided a ++ decision_of stamp of event ∷ []) event ≡ of) (more : decided b ≡ decided a ++ decision_of stamp of event ∷ []) (now : Answered b) where
    abbrev e : Entry
    e = record { stamp = stamp; turn = 0; event = event }

    abbrev held : ℕ → LinkEnd
    held = worker_ends w.first w.ends

    mine : held (link_of event) ≡ end_of a
    mine = ap held on ∙ own_end w.first w.ends core a was

    module _ (terms : ℕ → Terms) (requests : (l : ℕ) → w.first ≤ l → (terms l).requests ≡ true) where
      may_fit : end_fits (terms (link_of event)) (held (link_of event)) event ≡ true
      may_fit =
          let own : (terms (link_of event)).requests ≡ true = subst (λ k. (terms k).requests ≡ true) (sym on) (requests (w.first + core) (omega arith)) in
          subst (λ x. end_fits (terms (link_of event)) x event ≡ true) (sym mine) (fits (terms (link_of event)) own)

      is_noted : of ≡ end_noted (end_after (held (link_of event)) stamp of event) event
      is_noted = sym (ap (λ x. end_noted (end_after x stamp of event) event) mine ∙ noted)

      gone_on : PartyAgrees terms (length w.ends) (with_end held (link_of event) (end_after (held (link_of event)) stamp of event)) (w.entries ++ e ∷ [])
      gone_on = party_goes_on terms (length w.ends) held w.entries e of (agrees.journal terms requests) (record { fits = may_fit; next = next; noted = is_noted })

      end_is : end_after (held (link_of event)) stamp of event ≡ end_of b
      end_is = ap (λ x. end_after x stamp of event) mine ∙ ap Decides (sym more)

      journal : PartyAgrees terms (length ends) (worker_ends w.first ends) (w.entries ++ e ∷ [])
      journal = subst (λ n. PartyAgrees terms n (worker_ends w.first ends) (w.entries ++ e ∷ [])) (sym (length-set w.ends core b))
          (subst (λ f. PartyAgrees terms (length w.ends) f (w.entries ++ e ∷ [])) (sym (changed_ends w.first w.ends core b within))
          (subst (λ l. PartyAgrees terms (length w.ends) (with_end held l (end_of b)) (w.entries ++ e ∷ [])) on
          (subst (λ x. PartyAgrees terms (length w.ends) (with_end held (link_of event) x) (w.entries ++ e ∷ [])) end_is gone_on)))

    one_more : WorkerAgrees (record w { ends = ends; entries = w.entries ++ e ∷ [] })
    one_more = record {
      journal = journal;
      turns = subst (λ n. AllByRecursion (λ x. x.entry.turn ≡ 0) (of_party n (w.entries ++ e ∷ []))) (sym (length-set w.ends core b))
          (subst (AllByRecursion (λ x. x.entry.turn ≡ 0)) (sym (of_party_push (length w.ends) w.entries e))
          (all_push (λ x. x.entry.turn ≡ 0) (of_party (length w.ends) w.entries) (record { party = length w.ends; entry = e }) agrees.turns refl));
      answered = answered now;
    }

  module _ (before after : DiskTold) (e : Entry) where
    abbrev Agrees : Entry → Type 0
    Agrees x = WorkerAgrees (record w { ends = ends; entries = w.entries ++ x ∷ [] })

    does_agree : DoesNext (w.first + core) (last_of 0 w.entries) a before e b after → Agrees e
    does_agree x =
        let of = x.ask.of in
        let number : x.number ≡ length (decided a) = x.ask.number_is ∙ sym (decisions_long a.ask.peer.decisions a.reply.replies) in
        let all = taken_more x.payload x.stamp of x.answer x.fits a.ask.popped a.ask.peer.decisions a.reply.replies (agrees.answered core a was) in
        let event = Did (w.first + core) x.number x.answer in
        let d = decision_of x.stamp of event in
        let more : decided b ≡ decided a ++ d ∷ [] = decided_by (a.ask.peer.decisions ++ decision (Taken x.stamp) of ∷ [])
        (a.reply.replies ++ record { answer = x.answer; of = x.stamp } ∷ []) b x.ask.decisions x.reply.replies ∙ all.1 in
        let now = answered_by (a.ask.popped ++ x.payload ∷ []) (a.ask.peer.decisions ++ decision (Taken x.stamp) of ∷ [])
        (a.reply.replies ++ record { answer = x.answer; of = x.stamp } ∷ []) b x.ask.popped x.ask.decisions x.reply.replies
        all.0 in
        subst Agrees (sym x.entry) (one_more x.stamp of event refl (stamp_is_next (last_of 0 w.entries) of x.stamp x.ask.next)
        (λ terms r. and_true terms.requests (x.number == length (decided a)) r (eq_true x.number (length (decided a)) number))
        (ap answers_stamp (get_last (decided a) d x.number number)) more now)

    passes_agree : PassesNext (w.first + core) (last_of 0 w.entries) a before e b after → Agrees e
    passes_agree x =
        let of = x.ask.of in
        let number : x.number ≡ length (decided a) = x.ask.number_is ∙ sym (decisions_long a.ask.peer.decisions a.reply.replies) in
        let all = passed_more x.payload x.stamp of a.ask.popped a.ask.peer.decisions a.reply.replies (agrees.answered core a was) in
        let event = Pass (w.first + core) x.number in
        let d = decision_of x.stamp of event in
        let more : decided b ≡ decided a ++ d ∷ [] = decided_by (a.ask.peer.decisions ++ decision (Passed x.stamp) of ∷ []) (a.reply.replies) b x.ask.decisions x.reply.replies ∙ all.1 in
        let now = answered_by (a.ask.popped ++ x.payload ∷ []) (a.ask.peer.decisions ++ decision (Passed x.stamp) of ∷ []) (a.reply.replies) b x.ask.popped x.ask.decisions x.reply.replies
        all.0 in
        subst Agrees (sym x.entry) (one_more x.stamp of event refl (stamp_is_next (last_of 0 w.entries) of x.stamp x.ask.next)
        (λ terms r. eq_true x.number (length (decided a)) number)
        (ap answers_stamp (get_last (decided a) d x.number number)) more now)

    pub made_agrees : Turns (w.first + core) (last_of 0 w.entries) a before (Made e) b after → WorkerAgrees (record w { ends = ends; entries = w.entries ++ e ∷ [] })
    made_agrees x = elim x [
      | inl y ↦ does_agree y
      | inr y ↦ passes_agree y
    ]
