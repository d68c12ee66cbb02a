-- The worker does the next request of a link: its journal, its end, the ring and the disk go on agreeing. For `the_worker_goes_on`.
-- One law of ac_links each for the journal, the views and the ring; the disk has one more deed at the end. Of an undecided offer nothing is known (`beyond`).
use Rattle.std.proofs.Common.{◌≡◌, ℕ, ◌<◌, List, [], ◌∷◌, ◌++◌, Option, Some, None, Bool, true, refl, sym, ap, ◌∙◌, subst, arith, length}
use Rattle.std.specs.Prelude.{slice_get, ◌==◌, ◌&&◌, IfSome}
use Rattle.std.proofs.lemmas.Bool.Decides.{nat_tests}
use Rattle.ac_base.specs.declared.entry.Payload.{Payload}
use Rattle.ac_base.specs.declared.entry.Answer.{Answer}
use Rattle.ac_base.specs.declared.entry.Event.{Event}
use Rattle.ac_base.specs.declared.entry.Entry.{Entry}
use Rattle.ac_base.specs.Stamps.{next_stamp}
use Rattle.ac_links.specs.declared.payloads.Terms.{Terms}
use Rattle.ac_links.specs.Payloads.Taking.{Done}
use Rattle.ac_links.specs.Order.{of_party}
use Rattle.ac_links.specs.Journals.{last_of}
use Rattle.ac_links.specs.Views.{Response, IsReplyTo, OwnerOffer, PeerDecision, DecisionFits, OfferAgrees, ViewsAgree}
use Rattle.ac_links.specs.Noted.{answers_stamp}
use Rattle.ac_links.specs.Party.{LinkEnd, end_fits, end_after, end_noted, PartyAgrees, with_end}
use Rattle.ac_links.specs.Party.LinkEnd.{Decides}
use Rattle.ac_links.specs.Replies.{NoMessages, is_done_or_passed}
use Rattle.ac_history.specs.Files.{files_done, serves, contents, IsServed, deed_of, deeds_by}
use Rattle.ac_history.specs.Working.{WorkerLink, WorkerDisk, WorkerAnswers, did_entry, done_decision, WorkerGoesOn}
use Rattle.ac_links.proofs.Keeps.{agree_decide}
use Rattle.ac_links.proofs.Waiting.{waiting_decide}
use Rattle.ac_links.proofs.Party.{party_goes_on, of_party_push, same_end, other_end}
use Rattle.ac_history.proofs.Disk.{deeds_push, contents_append, served_append}

eq_true : (m n : ℕ) → m ≡ n → (m == n) ≡ true
eq_true m n h = grind (arith, nat_tests)

and_true : (a b : Bool) → a ≡ true → b ≡ true → a && b ≡ true
and_true a b p q = rw (p, q)

above : (last of : ℕ) → of < next_stamp last of
above last of = grind (arith, nat_tests)

get_last : (ds : List PeerDecision) (d : PeerDecision) → slice_get (ds ++ d ∷ []) (length ds) ≡ Some d
get_last [] d = refl
get_last (x ∷ ds) d = get_last ds d

-- of what is not decided nothing is known, and there is no reply
beyond : (os : List OwnerOffer) (ds : List PeerDecision) (o : OwnerOffer) → ViewsAgree os ds → slice_get os (length ds) ≡ Some o → (o.known ≡ None) × (o.reply ≡ None)
beyond [] ds o a h = cc
beyond (x ∷ os) [] o a h = let e : x ≡ o = cc in (sym (ap (λ y. y.known) e) ∙ a.0, sym (ap (λ y. y.reply) e) ∙ a.1)
beyond (x ∷ os) (d ∷ ds) o a h = beyond os ds o a.1 h

one_more : (o : OwnerOffer) (d : PeerDecision) → o.stamp < d.stamp → o.withdrawn ≡ None → o.known ≡ None → o.reply ≡ None → DecisionFits o.payload o.stamp d None → d.answers < d.stamp
    → OfferAgrees o d
one_more o d lt e k r dec up = (
  lt,
  subst (DecisionFits o.payload o.stamp d) (sym e) dec,
  subst (λ q. IfSome q (λ k. k ≡ d.stamp)) (sym k) tt,
  up,
  subst (λ q. IfSome q (IsReplyTo d)) (sym r) tt,
)

no_messages_push : (ds : List PeerDecision) (d : PeerDecision) → is_done_or_passed d.value ≡ true → NoMessages ds → NoMessages (ds ++ d ∷ [])
no_messages_push [] d h a = (h, tt)
no_messages_push (x ∷ ds) d h a = (a.0, no_messages_push ds d h a.1)

module _ (terms : ℕ → Terms) (p : ℕ) (ends : ℕ → LinkEnd) (j : List Entry) (k : ℕ) (os : List OwnerOffer) (ds : List PeerDecision) (ring : List Response) (got : Event
    → Option Payload) (first files : List (List ℕ))
    (was : WorkerLink terms ends k os ds ring) (disk : WorkerDisk terms p ends j got first files) (o : OwnerOffer) (w : Answer) (now : WorkerAnswers k os ds o w got files) where
  abbrev e : Entry
  e = did_entry j k ds o w

  abbrev d : PeerDecision
  d = done_decision j o w

  fits : end_fits (terms k) (ends k) e.event ≡ true
  fits = subst (λ x. end_fits (terms k) x e.event ≡ true) (sym was.mine) (and_true _ _ was.requests (eq_true (length ds) (length ds) refl))

  after : end_after (ends k) e.stamp o.stamp e.event ≡ Decides (ds ++ d ∷ [])
  after = ap (λ x. end_after x e.stamp o.stamp e.event) was.mine

  noted : o.stamp ≡ end_noted (end_after (ends k) e.stamp o.stamp e.event) e.event
  noted = sym (ap (λ x. end_noted x e.event) after ∙ ap answers_stamp (get_last ds d))

  journal : PartyAgrees terms p (with_end ends k (Decides (ds ++ d ∷ []))) (j ++ e ∷ [])
  journal = subst (λ x. PartyAgrees terms p (with_end ends k x) (j ++ e ∷ [])) after (party_goes_on terms p ends j e o.stamp disk.journal (record { fits = fits; next = refl; noted = noted }))

  unknown : (o.known ≡ None) × (o.reply ≡ None)
  unknown = beyond os ds o was.both now.front

  deeds : deeds_by got (of_party p (j ++ e ∷ [])) ≡ deeds_by got (of_party p j) ++ record { payload = o.payload; answer = w } ∷ []
  deeds = ap (deeds_by got) (of_party_push p j e) ∙ deeds_push got (of_party p j) (record { party = p; entry = e }) ∙ ap (λ q. deeds_by got (of_party p j) ++ deed_of q e.event) now.asked

  served : IsServed first (deeds_by got (of_party p (j ++ e ∷ [])))
  served = subst (IsServed first) (sym deeds) (served_append first (deeds_by got (of_party p j)) (record {
    payload = o.payload;
    answer = w;
  } ∷ []) disk.served (subst (λ f. serves f o.payload w ≡ true) disk.held now.serves, tt))

  held : files_done files o.payload w ≡ contents first (deeds_by got (of_party p (j ++ e ∷ [])))
  held = ap (λ f. files_done f o.payload w) disk.held ∙ sym (ap (contents first) deeds ∙ contents_append first (deeds_by got (of_party p j)) (record { payload = o.payload; answer = w } ∷ []))

  pub worker_goes_on : WorkerGoesOn terms p ends j k os ds ring got first files o w
  worker_goes_on = record {
    link = record {
      mine = same_end ends k (Decides (ds ++ d ∷ []));
      both = agree_decide os ds o d now.front (one_more o d (above (last_of 0 j) o.stamp) now.open' unknown.0 unknown.1 (Done w, refl, now.fits, refl) (above (last_of 0 j) o.stamp)) was.both;
      requests = was.requests;
      only = no_messages_push ds d refl was.only;
      on_ring = ap (λ r. r ++ record { answer = w; of = d.stamp } ∷ []) was.on_ring ∙ sym (waiting_decide os ds d o now.front unknown.1);
    };
    others = λ l os' ds' ring' h a. record {
      mine = other_end ends k l (Decides (ds ++ d ∷ [])) h ∙ a.mine;
      both = a.both;
      requests = a.requests;
      only = a.only;
      on_ring = a.on_ring;
    };
    disk = record { journal = journal; served = served; held = held };
  }
