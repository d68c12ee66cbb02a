-- A core that records what its ports tell goes on agreeing with its journal.
use Rattle.std.proofs.Common.{◌≡◌, ℕ, List, [], ◌∷◌, ◌++◌, Option, Some, None, Bool, refl, sym, ap, ◌∙◌, subst, inl, inr}
use Rattle.std.proofs.lemmas.Bool.Decides.{eqb_tells}
use Rattle.std.proofs.lemmas.List.{append-nil}
use Rattle.ac_base.specs.declared.entry.Event.{Event}
use Rattle.ac_base.specs.declared.entry.Entry.{Entry}
use Rattle.ac_links.specs.declared.payloads.Terms.{Terms}
use Rattle.ac_links.specs.Link.{link_of}
use Rattle.ac_links.specs.Journals.{last_of}
use Rattle.ac_links.specs.Party.{LinkEnd, end_after, with_end, PartyAgrees}
use Rattle.ac_links.specs.Party.LinkEnd.{Owns, Decides, Absent}
use Rattle.ac_links.proofs.Party.{same_end, other_end, party_goes_on}
use Rattle.core_channels.specs.Laws.{Told}
use Rattle.core_ports.specs.Ends.{is_owner, is_peer}
use Rattle.core_ports.specs.Tells.{Tells, recorded}
use Rattle.core_ports.specs.Laws.{GoesOn}

last_push : (last : ℕ) (j : List Entry) (e : Entry) → last_of last (j ++ e ∷ []) ≡ e.stamp
last_push last [] e = refl
last_push last (x ∷ j) e = last_push x.stamp j e

-- an end stays one of its side

owner_stays : (x : LinkEnd) (s of : ℕ) (e : Event) → is_owner (end_after x s of e) ≡ is_owner x
owner_stays (Owns os) s of e = refl
owner_stays (Decides ds) s of e = refl
owner_stays Absent s of e = refl

peer_stays : (x : LinkEnd) (s of : ℕ) (e : Event) → is_peer (end_after x s of e) ≡ is_peer x
peer_stays (Owns os) s of e = refl
peer_stays (Decides ds) s of e = refl
peer_stays Absent s of e = refl

side_at : (side : LinkEnd → Bool) (ends : ℕ → LinkEnd) (l k : ℕ) (x : LinkEnd) → side x ≡ side (ends l) → side (with_end ends l x k) ≡ side (ends k)
side_at side ends l k x h = elim (eqb_tells l k) [
  | inl w ↦ subst (λ m. side (with_end ends l x m) ≡ side (ends m)) w.1 (ap side (same_end ends l x) ∙ h)
  | inr w ↦ ap side (other_end ends l k x w.0)
]

-- with what was told recorded, the core agrees with its journal
pub core_goes_on : (terms : ℕ → Terms) (core : ℕ) (before after : ℕ → LinkEnd) (journal : List Entry) (turn : ℕ) (told : Option Told) (now : ℕ)
    → PartyAgrees terms core before journal → Tells terms before (last_of 0 journal) told after now → GoesOn terms core before after (journal ++ recorded turn told) now
core_goes_on terms core before after journal turn None now was t =
    subst (λ js. GoesOn terms core before after js now) (sym (append-nil journal))
    (record {
      agrees = subst (λ x. PartyAgrees terms core x journal) (sym t.0) was;
      clock = t.1;
      owner = λ l. ap (λ x. is_owner (x l)) t.0;
      peer = λ l. ap (λ x. is_peer (x l)) t.0;
    })
core_goes_on terms core before after journal turn (Some t) now was h =
    let l = link_of t.event in
    let x = end_after (before l) t.stamp h.answers t.event in
    let e : Entry = record { stamp = t.stamp; turn = turn; event = t.event } in
    record {
      agrees = subst (λ ends. PartyAgrees terms core ends (journal ++ e ∷ [])) (sym h.ends)
          (party_goes_on terms core before journal e h.answers was (record { fits = h.fits; next = h.next; noted = h.noted }));
      clock = h.clock ∙ sym (last_push 0 journal e);
      owner = λ k. ap (λ ends. is_owner (ends k)) h.ends ∙ side_at is_owner before l k x (owner_stays (before l) t.stamp h.answers t.event);
      peer = λ k. ap (λ ends. is_peer (ends k)) h.ends ∙ side_at is_peer before l k x (peer_stays (before l) t.stamp h.answers t.event);
    }
