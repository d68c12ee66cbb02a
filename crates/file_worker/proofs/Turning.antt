-- One core's turn, from the fields of the desk: only the ends of that core change, and the journal agrees with the ends as before.
use Rattle.std.proofs.Common.{◌≡◌, ℕ, ◌+◌, ◌<◌, List, [], ◌∷◌, ◌++◌, Some, inl, inr, sym, ap, ◌∙◌, subst, arith, length, slice_index_or, slice_set}
use Rattle.std.specs.Prelude.{slice_get}
use Rattle.std.proofs.lemmas.Bool.Decides.{eqb_tells}
use Rattle.std.proofs.lemmas.List.{length-set}
use Rattle.std.proofs.lemmas.Option.{slice_get_within}
use Rattle.ac_base.specs.declared.entry.Entry.{Entry}
use Rattle.ac_links.specs.Journals.{last_of}
use Rattle.ac_outside.specs.Disks.{DiskTold}
use Rattle.file_worker.specs.declared.desk.Desk.TheInside.{Inside}
use Rattle.file_worker.specs.declared.turns.Round.{Round}
use Rattle.file_worker.specs.declared.turns.Turned.TheVariants.{Made}
use Rattle.file_worker.specs.Ends.{AtDesk, CoreEnds, IsReady, AreReady, core_ends}
use Rattle.file_worker.specs.Agreement.{WorkerAgrees}
use Rattle.file_worker.specs.Rounds.{Rests}
use Rattle.file_worker.specs.inner.Desks.{at_desk, IsAtDesk}
use Rattle.file_worker.specs.inner.Turns.{Turns}
use Rattle.file_worker.specs.inner.Rounds.{seen, TurnsBy, TurnsAt}
use Rattle.file_worker.proofs.Answering.{popped_long}
use Rattle.file_worker.proofs.EndLists.{ends_get, ends_long, ends_set, set_same, set_other, same_some}
use Rattle.file_worker.proofs.Readying.{rests_ready, does_ready, passes_ready}
use Rattle.file_worker.proofs.Going.{last_is}
use Rattle.file_worker.proofs.Agreeing.{rest_agrees, made_agrees}

-- a core that is there has both ends, and its link is within the range of links
pub has_core : (it : Inside) (w : AtDesk) (core : ℕ) → at_desk it ≡ w → IsAtDesk it → core < length w.ends
    → (core < length it.asks.items) × (core < length it.replies.items) × (it.first + core < 4294967296)
has_core it w core view is h =
    let within : core < length (core_ends it.asks.items it.replies.items) = subst (λ (v : AtDesk). core < length v.ends) (sym view) h in
    let long = ends_long it.asks.items it.replies.items is.both in
    let both = is.both in
    let links = is.links in
    (omega (arith, within, long), omega (arith, within, long, both), omega (arith, within, long, links))

module _ (it new : Inside) (core : ℕ) (a b : CoreEnds) (is : IsAtDesk it) (there : core < length it.asks.items) (ask : a.ask ≡ slice_index_or it.asks.items core a.ask)
    (reply : a.reply ≡ slice_index_or it.replies.items core a.reply) (asks : new.asks.items ≡ slice_set it.asks.items core b.ask)
    (replies : new.replies.items ≡ slice_set it.replies.items core b.reply) (first : new.first ≡ it.first) where
  pub was : slice_get (at_desk it).ends core ≡ Some a
  was = ends_get it.asks.items it.replies.items core a.ask a.reply there is.both ask reply

  now : (at_desk new).ends ≡ slice_set (at_desk it).ends core b
  now = ap (λ xs. core_ends xs new.replies.items) asks ∙ ap (core_ends (slice_set it.asks.items core b.ask)) replies ∙ ends_set it.asks.items it.replies.items core b.ask b.reply

  pub now_at : slice_get (at_desk new).ends core ≡ Some b
  now_at = ap (λ ends. slice_get ends core) now ∙ set_same (at_desk it).ends core b (slice_get_within (at_desk it).ends core a was)

  pub desk_is : (es : List Entry) → new.journal.entries ≡ es → record (at_desk it) { ends = slice_set (at_desk it).ends core b; entries = es } ≡ at_desk new
  desk_is es e = ap (λ f. record { first = f; ends = slice_set (at_desk it).ends core b; entries = es }) (sym first)
      ∙ ap (λ xs. record { first = new.first; ends = xs; entries = es }) (sym now) ∙ ap (λ xs. record { first = new.first; ends = (at_desk new).ends; entries = xs }) (sym e)

  pub turns_at : (r : Round) (before after : DiskTold) → TurnsBy r (it.first + core) (seen (at_desk it) before) a b (seen (at_desk new) after)
      → TurnsAt core (seen (at_desk it) before) r (seen (at_desk new) after)
  turns_at r before after x = record {
    before = a;
    after = b;
    was = was;
    is = now;
    first = first;
    one_each = popped_long a.ask.popped a.ask.peer.decisions a.reply.replies (is.agrees.answered core a was);
    turns = x;
  }

  -- each core is as ready as before, where this one is
  ready_at_desk : IsReady b → AreReady (at_desk new)
  ready_at_desk here c e at = elim (eqb_tells core c) [
    | inl q ↦ subst IsReady (same_some b e (sym now_at ∙ ap (slice_get (at_desk new).ends) q.1 ∙ at)) here
    | inr q ↦ is.ready c e (sym (ap (λ ends. slice_get ends c) now ∙ set_other (at_desk it).ends core c b q.1) ∙ at)
  ]

  stays_at_desk : new.clock ≡ last_of 0 new.journal.entries → WorkerAgrees (at_desk new) → IsReady b → IsAtDesk new
  stays_at_desk clock agrees here =
      let count = ap length asks ∙ length-set it.asks.items core b.ask in
      let links = is.links in
      record {
        both = count ∙ is.both ∙ sym (ap length replies ∙ length-set it.replies.items core b.reply);
        links = omega (arith, count, links, first);
        clock = clock;
        agrees = agrees;
        ready = ready_at_desk here;
      }

  -- and of the core's own ends nothing that the journal agrees with
  pub same_at_desk : b.ask.popped ≡ a.ask.popped → b.ask.peer.decisions ≡ a.ask.peer.decisions → b.reply.replies ≡ a.reply.replies → new.clock ≡ it.clock
      → new.journal.entries ≡ it.journal.entries → IsReady b → IsAtDesk new
  same_at_desk popped decisions put clock entries here = stays_at_desk (clock ∙ is.clock ∙ ap (last_of 0) (sym entries))
      (subst WorkerAgrees (desk_is it.journal.entries entries)
      (rest_agrees (at_desk it) core a b was is.agrees popped decisions put)) here

  pub rests_at_desk : Rests a b → new.clock ≡ it.clock → new.journal.entries ≡ it.journal.entries → IsAtDesk new
  rests_at_desk x clock entries = same_at_desk x.ask.popped x.ask.decisions x.reply.replies clock entries (rests_ready a b x (is.ready core a was))

  pub made_at_desk : (e : Entry) (before after : DiskTold) → Turns (it.first + core) (last_of 0 it.journal.entries) a before (Made e) b after → new.clock ≡ e.stamp
      → new.journal.entries ≡ it.journal.entries ++ e ∷ [] → IsAtDesk new
  made_at_desk e before after x clock entries = stays_at_desk (clock ∙ sym (ap (last_of 0) entries ∙ last_is 0 it.journal.entries e))
      (subst WorkerAgrees (desk_is (it.journal.entries ++ e ∷ []) entries)
      (made_agrees (at_desk it) core a b was is.agrees before after e x)) (made_ready x)
    where
      made_ready : Turns (it.first + core) (last_of 0 it.journal.entries) a before (Made e) b after → IsReady b
      made_ready x = elim x [
        | inl y ↦ does_ready _ _ a b before after e y (is.ready core a was)
        | inr y ↦ passes_ready _ _ a b before after e y (is.ready core a was)
      ]
