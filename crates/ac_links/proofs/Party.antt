-- One entry more of a party with many ends and one journal. For `a_party_goes_on`.
-- At each link either the entry is of it, and its end goes on (Push), or neither entries nor end change there. Notes and stamps are then put together link by link (Parted).
use Rattle.std.proofs.Common.{◌≡◌, ℕ, ◌<◌, List, [], ◌∷◌, ◌++◌, Bool, true, false, cond, refl, sym, ap, ◌∙◌, subst, inl, inr, arith}
use Rattle.std.specs.Prelude.{◌==◌}
use Rattle.std.specs.List.{filter, AllByRecursion}
use Rattle.std.proofs.lemmas.Bool.Decides.{nat_tests, eqb_tells}
use Rattle.std.proofs.lemmas.List.{append-nil}
use Rattle.std.proofs.lemmas.List.Elements.{filter-append}
use Rattle.ac_base.specs.declared.entry.Event.{Event}
use Rattle.ac_base.specs.declared.entry.Entry.{Entry}
use Rattle.ac_base.specs.declared.entry.Stamped.{Stamped}
use Rattle.ac_base.specs.Stamps.{next_stamp}
use Rattle.ac_links.specs.declared.payloads.Terms.{Terms}
use Rattle.ac_links.specs.Order.{of_party, is_of_link}
use Rattle.ac_links.specs.Link.{link_of}
use Rattle.ac_links.specs.Journals.{last_of}
use Rattle.ac_links.specs.Views.{owner_after}
use Rattle.ac_links.specs.Noted.{owner_noted, peer_noted}
use Rattle.ac_links.specs.Party.{LinkEnd, end_fits, end_after, end_noted, EndRuns, party_noted, with_end, PartyAgrees, MayEnter}
use Rattle.ac_links.specs.Party.LinkEnd.{Owns, Decides, Absent}
use Rattle.ac_links.proofs.Growth.{Before, before_same, before_step}
use Rattle.ac_links.proofs.Parted.{by_link, stamps_same, kept}
use Rattle.ac_links.proofs.Push.{noted_stays, peer_noted_stays, owner_push, peer_push, stamps_push}

-- one end

end_push : (terms : Terms) (of : ℕ) (x : LinkEnd) (es : List Stamped) (e : Stamped) → EndRuns terms x es → end_fits terms x e.entry.event ≡ true → of < e.entry.stamp
    → of ≡ end_noted (end_after x e.entry.stamp of e.entry.event) e.entry.event → EndRuns terms (end_after x e.entry.stamp of e.entry.event) (es ++ e ∷ [])
end_push terms of (Owns os) es e r h lt same = owner_push terms of es os e r h lt same
end_push terms of (Decides ds) es e r h lt same = peer_push terms of es ds e r h lt same
end_push terms of Absent es e r h lt same = cc

end_stays : (terms : Terms) (s of : ℕ) (x : LinkEnd) (es : List Stamped) (e : Event) → EndRuns terms x es → end_fits terms x e ≡ true
    → AllByRecursion (λ y. end_noted x y.entry.event ≡ end_noted (end_after x s of e) y.entry.event) es
end_stays terms s of (Owns os) es e r h =
    let more : Before 0 os (owner_after os s of e) = before_step terms 0 s of os e (owner_after os s of e) (omega arith) h (before_same 0 (owner_after os s of e)) in
    noted_stays os (owner_after os s of e) more terms (owner_noted os) [] es r
end_stays terms s of (Decides ds) es e r h = peer_noted_stays terms ds _ (peer_noted ds) [] es r
end_stays terms s of Absent es e r h = cc

-- one journal

pub of_party_push : (p : ℕ) (j : List Entry) (e : Entry) → of_party p (j ++ e ∷ []) ≡ of_party p j ++ record { party = p; entry = e } ∷ []
of_party_push p [] e = refl
of_party_push p (x ∷ j) e = ap (λ r. record { party = p; entry = x } ∷ r) (of_party_push p j e)

part_push : (k p : ℕ) (j : List Entry) (e : Entry) (b : Bool) → (link_of e.event == k) ≡ b
    → filter (is_of_link k) (of_party p (j ++ e ∷ [])) ≡ filter (is_of_link k) (of_party p j) ++ cond b (record { party = p; entry = e } ∷ []) []
part_push k p j e b h = ap (filter (is_of_link k)) (of_party_push p j e) ∙ filter-append (is_of_link k) (of_party p j) (record { party = p; entry = e } ∷ [])
    ∙ ap (λ c. filter (is_of_link k) (of_party p j) ++ cond c (record { party = p; entry = e } ∷ []) []) h

above : (last of s : ℕ) → s ≡ next_stamp last of → of < s
above last of s h = grind (arith, nat_tests)

eq_true : (m n : ℕ) → m ≡ n → (m == n) ≡ true
eq_true m n h = grind (arith, nat_tests)

pub same_end : (ends : ℕ → LinkEnd) (l : ℕ) (x : LinkEnd) → with_end ends l x l ≡ x
same_end ends l x = ap (λ b. cond b x (ends l)) (eq_true l l refl)

pub other_end : (ends : ℕ → LinkEnd) (l k : ℕ) (x : LinkEnd) → (l == k) ≡ false → with_end ends l x k ≡ ends k
other_end ends l k x h = ap (λ b. cond b x (ends k)) h

all_along : {A : Stamped → Type 0} {B : Stamped → Type 0} (C : Stamped → Type 0) → ((e : Stamped) → A e → B e → C e) → (es : List Stamped) → AllByRecursion A es → AllByRecursion B es
    → AllByRecursion C es
all_along C f [] a b = tt
all_along C f (e ∷ es) a b = (f e a.0 b.0, all_along C f es a.1 b.1)

pub all_of : {A : Stamped → Type 0} (C : Stamped → Type 0) → ((e : Stamped) → A e → C e) → (es : List Stamped) → AllByRecursion A es → AllByRecursion C es
all_of C f [] a = tt
all_of C f (e ∷ es) a = (f e a.0, all_of C f es a.1)

module _ (terms : ℕ → Terms) (p : ℕ) (ends : ℕ → LinkEnd) (j : List Entry) (e : Entry) (of : ℕ) (was : PartyAgrees terms p ends j) where
  abbrev now : LinkEnd
  now = end_after (ends (link_of e.event)) e.stamp of e.event

  abbrev after : ℕ → LinkEnd
  after = with_end ends (link_of e.event) now

  module _ (fits : end_fits (terms (link_of e.event)) (ends (link_of e.event)) e.event ≡ true) (next : e.stamp ≡ next_stamp (last_of 0 j) of) (noted : of ≡ end_noted now e.event) where
    runs_at : (k : ℕ) → EndRuns (terms k) (after k) (filter (is_of_link k) (of_party p (j ++ e ∷ [])))
    runs_at k = elim (eqb_tells (link_of e.event) k) [
      | inl w ↦ subst (λ m. EndRuns (terms m) (after m) (filter (is_of_link m) (of_party p (j ++ e ∷ [])))) w.1
          (subst (λ x. EndRuns (terms (link_of e.event)) x (filter (is_of_link (link_of e.event)) (of_party p (j ++ e ∷ [])))) (sym (same_end ends (link_of e.event) now))
          (subst (EndRuns (terms (link_of e.event)) now) (sym (part_push (link_of e.event) p j e true (eq_true (link_of e.event) (link_of e.event) refl)))
          (end_push (terms (link_of e.event)) of (ends (link_of e.event)) (filter (is_of_link (link_of e.event)) (of_party p j)) (record {
            party = p;
            entry = e;
          }) (was.runs (link_of e.event)) fits (above (last_of 0 j) of e.stamp next) noted)))
      | inr w ↦ subst (λ x. EndRuns (terms k) x (filter (is_of_link k) (of_party p (j ++ e ∷ [])))) (sym (other_end ends (link_of e.event) k now w.0))
          (subst (EndRuns (terms k) (ends k)) (sym (part_push k p j e false w.0 ∙ append-nil (filter (is_of_link k) (of_party p j)))) (was.runs k))
    ]

    at_link : (k : ℕ) (y : Stamped) → link_of y.entry.event ≡ k → end_noted (ends k) y.entry.event ≡ end_noted (after k) y.entry.event
        → party_noted ends y.entry.event ≡ party_noted after y.entry.event
    at_link k y h same = ap (λ m. end_noted (ends m) y.entry.event) h ∙ same ∙ sym (ap (λ m. end_noted (after m) y.entry.event) h)

    stays_at : (k : ℕ) → AllByRecursion (λ y. end_noted (ends k) y.entry.event ≡ end_noted (after k) y.entry.event) (filter (is_of_link k) (of_party p j))
    stays_at k = elim (eqb_tells (link_of e.event) k) [
      | inl w ↦ subst (λ m. AllByRecursion (λ y. end_noted (ends m) y.entry.event ≡ end_noted (after m) y.entry.event) (filter (is_of_link m) (of_party p j))) w.1
          (subst (λ x. AllByRecursion (λ y. end_noted (ends (link_of e.event)) y.entry.event ≡ end_noted x y.entry.event) (filter (is_of_link (link_of e.event)) (of_party p j)))
          (sym (same_end ends (link_of e.event) now))
          (end_stays (terms (link_of e.event)) e.stamp of (ends (link_of e.event)) (filter (is_of_link (link_of e.event)) (of_party p j)) e.event (was.runs (link_of e.event)) fits))
      | inr w ↦ subst (λ x. AllByRecursion (λ y. end_noted (ends k) y.entry.event ≡ end_noted x y.entry.event) (filter (is_of_link k) (of_party p j)))
          (sym (other_end ends (link_of e.event) k now w.0))
          (all_of _ (λ y h. refl) (filter (is_of_link k) (of_party p j)) (kept k (of_party p j)))
    ]

    notes_stay : AllByRecursion (λ y. party_noted ends y.entry.event ≡ party_noted after y.entry.event) (of_party p j)
    notes_stay = by_link _ (of_party p j) (λ k. all_along _ (at_link k) (filter (is_of_link k) (of_party p j)) (kept k (of_party p j)) (stays_at k))

    -- the party makes one more entry
    pub party_push : PartyAgrees terms p after (j ++ e ∷ [])
    party_push = record {
      runs = runs_at;
      stamps = stamps_push (party_noted after) 0 j e (stamps_same (party_noted ends) (party_noted after) 0 p j was.stamps notes_stay)
          (next ∙ ap (next_stamp (last_of 0 j)) (noted ∙ sym (ap (λ x. end_noted x e.event) (same_end ends (link_of e.event) now))));
    }

-- the same, in one statement
pub party_goes_on : (terms : ℕ → Terms) (p : ℕ) (ends : ℕ → LinkEnd) (j : List Entry) (e : Entry) (of : ℕ) → PartyAgrees terms p ends j → MayEnter terms ends j e of
    → PartyAgrees terms p (with_end ends (link_of e.event) (end_after (ends (link_of e.event)) e.stamp of e.event)) (j ++ e ∷ [])
party_goes_on terms p ends j e of was g = party_push terms p ends j e of was g.fits g.next g.noted
