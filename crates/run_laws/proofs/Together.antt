-- The cores of a code and the worker, which agree with their links, are the parties of one legal history.
use Rattle.std.proofs.Common.{◌≡◌, ◌⊎◌, ℕ, zero, suc, ◌-◌, ◌<◌, ◌≤◌, List, [], ◌∷◌, Some, refl, sym, ap, ◌∙◌, subst, inl, inr, arith, length}
use Rattle.std.proofs.Common.{get_or, map}
use Rattle.std.specs.Prelude.{◌≢◌, ◌==◌, slice_get, nat_le, nat_lt, Bool, true, false}
use Rattle.std.specs.List.{AllByRecursion}
use Rattle.std.proofs.Math.Path.{fun_ext}
use Rattle.std.proofs.lemmas.Bool.{and_parts}
use Rattle.std.proofs.lemmas.Bool.Decides.{eqb_tells, leb_tells, nat_tests}
use Rattle.std.proofs.lemmas.List.{length-append, length-map}
use Rattle.std.proofs.lemmas.List.Elements.{All-get_or}
use Rattle.std.proofs.lemmas.Option.{slice_get_cases}
use Rattle.ac_base.specs.declared.entry.Entry.{Entry}
use Rattle.ac_base.specs.declared.entry.Event.{Event}
use Rattle.ac_base.specs.declared.entry.Event.TheVariants.{Offer}
use Rattle.ac_base.specs.declared.entry.Stamped.{Stamped}
use Rattle.stack_code.specs.Parts.{Parts}
use Rattle.stack_code.specs.Valid.{HasLinks}
use Rattle.ac_links.specs.declared.payloads.Terms.{Terms}
use Rattle.ac_links.specs.Order.{of_party}
use Rattle.ac_links.specs.Views.{ViewsAgree}
use Rattle.ac_links.specs.Party.{LinkEnd, EndRuns, PartyAgrees}
use Rattle.ac_links.specs.Party.LinkEnd.{Absent}
use Rattle.ac_links.specs.Link.{link_of}
use Rattle.ac_history.specs.Merged.{all_from, merged}
use Rattle.ac_history.specs.Agreement.{AllMade, AllOfTheirWidth}
use Rattle.ac_history.specs.History.{IsLegal, has_its_width, makes, may_make, start}
use Rattle.ac_history.specs.History as history
use Rattle.ac_history.specs.Files.{Deed, IsServed, contents, deeds, deeds_by}
use Rattle.ac_history.specs.Network.{IsPeer, NetworkAgrees, worker_entries}
use Rattle.ac_history.specs.Parties.{PartiesAgree, pair_of}
use Rattle.ac_history.proofs.Parties.{parties_agree}
use Rattle.ac_history.specs.Working.{WorkerDisk}
use Rattle.ac_history.proofs.Journals.{each_journal, from_journals}
use Rattle.ac_history.proofs.Runtime.{legal_network, deeds_network, made}
use Rattle.ac_links.specs.Party.{party_noted}
use Rattle.core_channels.specs.LinkViews.{LinkViews, no_link, IsLink}
use Rattle.file_ops.specs.Agreement.{worker_ends}
use Rattle.program_run.specs.Parties.{owner_of, peer_of}
use Rattle.run_laws.specs.Network.{terms_in, offers_in, decisions_in, request_in, ends_in}
use Rattle.run_laws.specs.Cores.{CoreView, AreCoresOf, AreOfTheirWidth, journals_of}
use Rattle.run_laws.specs.Workers.{WorkerAgreesWith}
use Rattle.run_laws.proofs.Parties.{party_ends, core_ends, owner_has, peer_has, other_has, none_has, worker_has, nobody_has, apart, owner_is_core, kind}

-- ---- journals

module _ (entries : List Entry) where
  pub journal_at : (cores : List CoreView) (k : ℕ) (c : CoreView) → slice_get cores k ≡ Some c → get_or (journals_of cores entries) k [] ≡ c.journal
  journal_at [] k c h = cc
  journal_at (x ∷ cores) zero c h = let e : x ≡ c = cc in ap (λ (y : CoreView). y.journal) e
  journal_at (x ∷ cores) (suc k) c h = journal_at cores k c h

  pub worker_journal : (cores : List CoreView) (k : ℕ) → length cores ≡ k → get_or (journals_of cores entries) k [] ≡ entries
  worker_journal [] zero h = refl
  worker_journal [] (suc k) h = absurd (omega arith)
  worker_journal (x ∷ cores) zero h = absurd (omega arith)
  worker_journal (x ∷ cores) (suc k) h = worker_journal cores k (omega arith)

  no_journal : (cores : List CoreView) (k : ℕ) → length cores < k → get_or (journals_of cores entries) k [] ≡ []
  no_journal [] zero h = absurd (omega arith)
  no_journal [] (suc k) h = refl
  no_journal (x ∷ cores) zero h = absurd (omega arith)
  no_journal (x ∷ cores) (suc k) h = no_journal cores k (omega arith)

  pub how_many : (cores : List CoreView) → length (journals_of cores entries) ≡ suc (length cores)
  how_many cores = let a = length-append (map (λ (c : CoreView). c.journal) cores) (entries ∷ []) in let b = length-map cores (λ (c : CoreView). c.journal) in omega arith

-- the turns of a journal are those of its party's entries
turns_of : (p : ℕ) (j : List Entry) → AllByRecursion (λ e. e.turn ≡ 0) j → AllByRecursion (λ e. e.entry.turn ≡ 0) (of_party p j)
turns_of p [] a = tt
turns_of p (e ∷ es) a = (a.0, turns_of p es a.1)

by_order : (m n : ℕ) → m ≤ n → m ≢ n → m < n
by_order m n le ne = elim (leb_tells n m) [
  | inl q ↦ absurd (ne (let a = q.1 in omega arith))
  | inr q ↦ q.1
]

-- what a party makes that is no core is no offer, and has no message of a width
by_another : (widths : List ℕ) (core worker requests : Bool) (v : Event) → core ≡ false → makes core worker requests v ≡ true → has_its_width widths v ≡ true
by_another widths core worker requests (Offer l n payload) none h = let no : true ≡ false = sym h ∙ none in absurd (cc)
by_another widths core worker requests v none h = refl

no_core : (many : ℕ) → nat_lt many many ≡ false
no_core many = grind (arith, nat_tests)

-- what a core's journal says of messages, its entries say in the history
of_core : (widths : List ℕ) (p : ℕ) (j : List Entry) → AllByRecursion (λ e. has_its_width widths e.event ≡ true) j → AllByRecursion (λ e. has_its_width widths e.entry.event ≡ true) (of_party p j)
of_core widths p [] a = tt
of_core widths p (e ∷ es) a = (a.0, of_core widths p es a.1)

-- ---- the terms matter only where there is an end

end_runs : (t s : Terms) (x : LinkEnd) (es : List Stamped) → (x ≡ Absent) ⊎ (t ≡ s) → EndRuns t x es → EndRuns s x es
end_runs t s x es (inl none) r = subst (λ y. EndRuns s y es) (sym none) (subst (λ y. EndRuns t y es) none r)
end_runs t s x es (inr e) r = subst (λ u. EndRuns u x es) e r

with_terms : (terms others : ℕ → Terms) (p : ℕ) (ends : ℕ → LinkEnd) (j : List Entry) → ((l : ℕ) → (ends l ≡ Absent) ⊎ (terms l ≡ others l)) → PartyAgrees terms p ends j → PartyAgrees others p ends j
with_terms terms others p ends j same a = record { runs = λ l. end_runs (terms l) (others l) (ends l) _ (same l) (a.runs l); stamps = a.stamps }

moved : (terms : ℕ → Terms) (p q : ℕ) (ends others : ℕ → LinkEnd) (j k : List Entry) → p ≡ q → ends ≡ others → j ≡ k → PartyAgrees terms p ends j → PartyAgrees terms q others k
moved terms p q ends others j k n e i a = rw (← n, ← e, ← i) a

module _ (code : Parts) (valid : HasLinks code) (bound : ℕ) (cores : List CoreView) (entries : List Entry) (links : List LinkViews) (all : AreCoresOf code bound cores links)
    (work : WorkerAgreesWith code entries links) where
  abbrev channels : ℕ
  channels = length code.ends

  abbrev many : ℕ
  many = length code.entries

  abbrev js : List (List Entry)
  js = journals_of cores entries

  abbrev terms : ℕ → Terms
  terms = history.terms_of code.capacities (length code.capacities - many)

  abbrev pub ends : ℕ → ℕ → LinkEnd
  ends = party_ends code.ends many links

  so_many : length code.capacities - many ≡ channels
  so_many = let e = valid.each in omega arith

  its_terms : (l : ℕ) → l < length code.capacities → terms_in links l ≡ terms l
  its_terms l h = all.linked.terms l h ∙ sym (ap (λ n. history.terms_of code.capacities n l) so_many)

  absent_or_same : (p l : ℕ) → (ends p l ≡ Absent) ⊎ (terms_in links l ≡ terms l)
  absent_or_same p l = elim (leb_tells (length code.capacities) l) [
    | inl q ↦ inl (none_has code valid links all.linked l p q.1)
    | inr q ↦ inr (let n = q.1 in its_terms l (omega arith))
  ]

  core_party : (k : ℕ) (c : CoreView) → slice_get cores k ≡ Some c → k < many → PartyAgrees terms k (ends k) (get_or js k [])
  core_party k c is lt =
      let it = all.each k c is in
      with_terms (terms_in links) terms k (ends k) (get_or js k []) (absent_or_same k)
      (moved (terms_in links) c.core k (ends_in c.code.ends c.core links) (ends k) c.journal (get_or js k []) it.core_is
      (ap (λ (x : Parts). ends_in x.ends c.core links) it.code_is ∙ ap (λ n. ends_in code.ends n links) it.core_is ∙ core_ends code valid links all.linked k lt)
      (sym (journal_at entries cores k c is)) (all.agree k c is).party)

  worker_party : PartyAgrees terms many (ends many) (get_or js many [])
  worker_party =
      with_terms (terms_in links) terms many (ends many) (get_or js many []) (absent_or_same many)
      (moved (terms_in links) many many (worker_ends channels many links) (ends many) entries (get_or js many []) refl
      (sym (fun_ext (worker_has code valid links all.linked))) (sym (worker_journal entries cores many all.count)) work.party)

  other_party : (p : ℕ) → many < p → PartyAgrees terms p (ends p) (get_or js p [])
  other_party p h =
      let none : get_or js p [] ≡ [] = no_journal entries cores p (let n = all.count in omega arith) in
      subst (PartyAgrees terms p (ends p)) (sym none)
      (record { runs = λ l. subst (λ x. EndRuns (terms l) x []) (sym (nobody_has code valid links all.linked p l h)) refl; stamps = tt })

  pub party : (p : ℕ) → PartyAgrees terms p (ends p) (get_or js p [])
  party p = elim (leb_tells many p) [
    | inl q ↦ elim (eqb_tells many p) [
      | inl e ↦ subst (λ n. PartyAgrees terms n (ends n) (get_or js n [])) e.1 worker_party
      | inr e ↦ other_party p (let le = q.1 in let ne = e.1 in by_order many p le ne)
    ]
    | inr q ↦ (let lt = q.1 in elim (slice_get_cases cores p).1 [
      | inl r ↦ core_party p r.0 r.2 lt
      | inr r ↦ absurd (let n = all.count in let le = r.0 in omega arith)
    ])
  ]

  both : (l : ℕ) → l < length code.capacities → ViewsAgree (offers_in links l) (decisions_in links l)
  both l h = (All-get_or IsLink links l no_link (let n = all.linked.count in omega arith) all.linked.agree).agree

  its_kind : (l : ℕ) → l < length code.capacities → IsPeer many (nat_le (length code.capacities - many) l) (peer_of code.ends many l)
  its_kind l h = subst (λ n. IsPeer many (nat_le n l) (peer_of code.ends many l)) (sym so_many) (kind code valid links all.linked l h)

  turns : AllByRecursion (λ e. e.entry.turn ≡ 0) (worker_entries many js)
  turns = subst (λ j. AllByRecursion (λ e. e.entry.turn ≡ 0) (of_party many j)) (sym (worker_journal entries cores many all.count)) (turns_of many entries work.turns)

  pub agree : PartiesAgree code.capacities many (owner_of code.ends) (peer_of code.ends many) ends (offers_in links) (decisions_in links) js
  agree = record {
    parties = how_many entries cores ∙ ap suc all.count;
    party = party;
    owns = owner_has code valid links all.linked;
    decides = peer_has code valid links all.linked;
    absent = other_has code valid links all.linked;
    beyond = none_has code valid links all.linked;
    apart = apart code valid links all.linked;
    core = owner_is_core code valid links all.linked;
    kind = its_kind;
    both = both;
    turns = turns;
  }

  network : NetworkAgrees code.capacities many (λ p. party_noted (ends p)) (pair_of code.capacities many (owner_of code.ends) (peer_of code.ends many) (offers_in links) (decisions_in links)) js
  network = parties_agree code.capacities many (owner_of code.ends) (peer_of code.ends many) ends (offers_in links) (decisions_in links) js agree

  -- ---- messages have their widths

  abbrev Wide : Stamped → Type 0
  Wide e = has_its_width code.widths e.entry.event ≡ true

  its_makers : AllMade (length code.capacities - many) many (all_from 0 js)
  its_makers = made code.capacities code.widths many (λ p. party_noted (ends p)) (pair_of code.capacities many (owner_of code.ends) (peer_of code.ends many) (offers_in links) (decisions_in links)) js
      network

  -- the worker offers nothing
  worker_wide : (j : List Entry) → AllMade (length code.capacities - many) many (of_party many j) → AllByRecursion Wide (of_party many j)
  worker_wide [] a = tt
  worker_wide (e ∷ es) a = (
    by_another code.widths (nat_lt many many) (many == many) (nat_le (length code.capacities - many) (link_of e.event)) e.event (no_core many)
        (and_parts (makes (nat_lt many many) (many == many) (nat_le (length code.capacities - many) (link_of e.event)) e.event) _ a.0).0,
    worker_wide es a.1,
  )

  wide_journal : AreOfTheirWidth code cores → (p : ℕ) → AllByRecursion Wide (of_party p (get_or js p []))
  wide_journal wide p = elim (leb_tells many p) [
    | inl q ↦ elim (eqb_tells many p) [
      | inl e ↦ subst (λ n. AllByRecursion Wide (of_party n (get_or js n []))) e.1
          (worker_wide (get_or js many []) (each_journal (λ s. may_make (length code.capacities - many) many s ≡ true) 0 many many (omega arith) js its_makers))
      | inr e ↦
          let none : get_or js p [] ≡ [] = no_journal entries cores p (let n = all.count in let lt = by_order many p q.1 e.1 in omega arith) in
          subst (λ j. AllByRecursion Wide (of_party p j)) (sym none) tt
    ]
    | inr q ↦ (let lt = q.1 in elim (slice_get_cases cores p).1 [
      | inl r ↦ subst (λ j. AllByRecursion Wide (of_party p j)) (sym (journal_at entries cores p r.0 r.2)) (of_core code.widths p r.0.journal (wide p r.0 r.2))
      | inr r ↦ absurd (let n = all.count in let le = r.0 in omega arith)
    ])
  ]

  all_wide : AreOfTheirWidth code cores → AllOfTheirWidth code.widths (all_from 0 js)
  all_wide wide = from_journals Wide 0 js (λ k p e. let same : k ≡ p = omega (arith, e) in
      subst (λ n. AllByRecursion Wide (of_party p (get_or js n []))) (sym same) (wide_journal wide p))

  -- their journals, merged by the stamps of their entries, are legal
  pub legal : AreOfTheirWidth code cores → IsLegal (start code.capacities code.widths many) (merged js)
  legal wide = legal_network code.capacities code.widths many (λ p. party_noted (ends p))
      (pair_of code.capacities many (owner_of code.ends) (peer_of code.ends many) (offers_in links) (decisions_in links)) js network (all_wide wide)

  -- ---- what was done

  abbrev its_deeds : List Deed
  its_deeds = deeds (start code.capacities code.widths many) (merged js)

  pub did : its_deeds ≡ deeds_by (request_in links) (of_party many entries)
  did = deeds_network code.capacities code.widths many (λ p. party_noted (ends p)) (pair_of code.capacities many (owner_of code.ends) (peer_of code.ends many) (offers_in links)
      (decisions_in links)) js network
      ∙ ap (λ j. deeds_by (request_in links) (of_party many j)) (worker_journal entries cores many all.count)

  pub served : (files left : List (List ℕ)) → WorkerDisk (terms_in links) many (worker_ends channels many links) entries (request_in links) files left
      → IsServed files its_deeds × (left ≡ contents files its_deeds)
  served files left disk = (subst (IsServed files) (sym did) disk.served, disk.held ∙ ap (contents files) (sym did))
