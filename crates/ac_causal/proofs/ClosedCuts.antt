-- The entries of a closed cut of a run, merged, are legal. Each entry of a run is made at its party's own end of its link: a core's by its code, the
-- worker's by what it may make. So those inside are legal in their order (CutLegal); and since they rise, they are the merge of the cut's journals.
use Rattle.std.proofs.Common.{◌≡◌, ℕ, zero, suc, ◌+◌, ◌<◌, ◌≤◌, List, [], ◌∷◌, ◌++◌, length, Option, Some, None, Bool, true, false, refl, sym, ap, ◌∙◌, subst, arith, take, append-nil, ◌⊎◌, inl, inr}
use Rattle.std.specs.Prelude.{◌==◌, ◌||◌, ◌-◌, nat_eq, nat_le, nat_lt, slice_get, slice_index, if◌then◌else◌}
use Rattle.std.specs.List.{AllByRecursion}
use Rattle.std.proofs.lemmas.Bool.{and_parts, cases_lt, cases_Bool, eqb-true, eq-eqb, lt-ltb, le-ltb, leb-true, ltb-true}
use Rattle.std.proofs.lemmas.List.{length-map, length-replicate, length-set}
use Rattle.std.proofs.lemmas.Option.{same_Some, slice_get_past}
use Rattle.ac_base.specs.declared.entry.Entry.{Entry}
use Rattle.ac_base.specs.declared.entry.Event.{Event}
use Rattle.ac_base.specs.declared.entry.Event.TheVariants.{Offer, Withdraw, Know, Room, Got, Pass, Did, Reply}
use Rattle.ac_base.specs.declared.entry.Stamped.{Stamped}
use Rattle.ac_base.specs.declared.ends.CoreEnd.{CoreEnd}
use Rattle.ac_commands.specs.declared.program.Core.{Core}
use Rattle.ac_commands.specs.declared.program.Resolved.{Resolved}
use Rattle.ac_semantics.specs.Replay.{Replays}
use Rattle.ac_translation.specs.Translation.{code_of}
use Rattle.ac_translation.specs.Same.{IsSame}
use Rattle.stack_code.specs.declared.parts.ChannelEnds.{ChannelEnds}
use Rattle.stack_code.specs.Parts.{Parts}
use Rattle.stack_code.specs.Kept.{IsRanked}
use Rattle.stack_code.specs.Valid.{IsValid}
use Rattle.code_safety.specs.KeptEnds.{KeepsEnds}
use Rattle.replay_laws.specs.Given.{HasRun}
use Rattle.ac_links.specs.Link.{link_of, link_fits}
use Rattle.ac_history.specs.Merged.{merged}
use Rattle.ac_history.specs.History.{Past, IsLegal, start, after, fits, makes, may_make, has_its_width, in_range, is_later, has_stamp, terms_of, link_at}
use Rattle.ac_history.proofs.Parts.{IsRising}
use Rattle.program_run.specs.Parties.{owner_of, peer_of, peer_at}
use Rattle.trace_text.specs.declared.trace.Trace.{Trace}
use Rattle.trace_text.specs.declared.trace.TraceEnd.{TraceEnd}
use Rattle.trace_audit.specs.Laws.{IsSound}
use Rattle.trace_audit.specs.RunTrace.{journal_of, AllEndAsTold, IsRunTrace}
use Rattle.trace_audit.proofs.Merging.{parts, journal_append, parts_are_whole}
use Rattle.ac_causal.specs.Cuts.{made_by, IsCut, IsClosed}
use Rattle.ac_causal.specs.States.{cut_journal, cut_journals, cut_history}
use Rattle.ac_causal.proofs.Answered.{party_in}
use Rattle.ac_causal.proofs.Audited.{is_legal}
use Rattle.ac_causal.proofs.Counting.{get_some}
use Rattle.ac_causal.proofs.Fronts.{take_all, one_of, none_of, front_long, front_takes, front_full, front_other}
use Rattle.ac_causal.proofs.Held.{after_one, past_at, fits_at}
use Rattle.ac_causal.proofs.Alike.{is_owners, is_peers}
use Rattle.ac_causal.proofs.OwnEntries.{IsOwn, own_entries}
use Rattle.ac_causal.proofs.CutLegal.{AreAtEnds, added_if, all_parts, no_true, inside_to, inside_legal}

-- ---- a core's journal in a run

-- the cores of a run come to ends under their journals
end_at : (program : Resolved) (t : Trace) (core : ℕ) (tolds : List TraceEnd) (ends : List CoreEnd) → AllEndAsTold program t core tolds ends → (k p : ℕ) → p ≡ core + k → k < length tolds
    → (end : CoreEnd) × Replays program p t.steps (journal_of p t.entries) (Some end)
end_at program t core [] ends a k p is lt = absurd (omega (arith, lt))
end_at program t core (told ∷ tolds) [] a k p is lt = absurd a
end_at program t core (told ∷ tolds) (end ∷ ends) a zero p is lt =
    (end, subst (λ c. Replays program c t.steps (journal_of c t.entries) (Some end)) (omega (arith, is)) a.0.replays)
end_at program t core (told ∷ tolds) (end ∷ ends) a (suc k) p is lt = end_at program t (suc core) tolds ends a.1 k p (omega (arith, is)) (omega (arith, lt))

cores_are : (program : Resolved) → length (code_of program).entries ≡ length program.cores
cores_are program = length-map program.cores (λ (core : Core). core.entry)

-- each core's journal has a run of the code
pub journal_runs : (program : Resolved) (t : Trace) → IsSame (code_of program) program → IsRunTrace program t → (core : ℕ) → core < length (code_of program).entries
    → HasRun (code_of program) core t.steps (journal_of core t.entries)
journal_runs program t same run core lt =
    let many = cores_are program in
    let every = run.end.every_core in
    let e = end_at program t 0 t.ends run.end.ends run.end.told core core (omega arith) (omega (arith, lt, many, every)) in
    let c = (same core t.steps (journal_of core t.entries) (Some e.0)).0 e.1 in
    record { end = e.0; count = c.0; runs = c.1 }

-- ---- each entry is made at its party's own end

own_at : (Q : Entry → Type 0) (p : ℕ) (es : List Stamped) (i : ℕ) (s : Stamped) → slice_get es i ≡ Some s → s.party ≡ p → AllByRecursion Q (journal_of p es) → Q s.entry
own_at Q p [] i s is own all = let no : None ≡ Some s = is in absurd (cc)
own_at Q p (x ∷ es) i s is own all = by i is (nat_eq x.party p) refl (λ j later rest. own_at Q p es j s later own rest) all
  where
    by : (i : ℕ) → slice_get (x ∷ es) i ≡ Some s → (b : Bool) → nat_eq x.party p ≡ b
        → ((j : ℕ) → slice_get es j ≡ Some s → AllByRecursion Q (journal_of p es) → Q s.entry)
        → AllByRecursion Q (if b then x.entry ∷ journal_of p es else journal_of p es) → Q s.entry
    by zero is true same again all = subst (λ (y : Stamped). Q y.entry) (same_Some x s is) all.0
    by zero is false other again all =
        let party : x.party ≡ p = ap (λ (y : Stamped). y.party) (same_Some x s is) ∙ own in
        no_true (sym other ∙ eq-eqb x.party p party)
    by (suc i) is true same again all = again i is all.1
    by (suc i) is false other again all = again i is all

-- the worker decides requests, and does nothing else at an end
worker_makes : (worker requests : Bool) (e : Event) → makes false worker requests e ≡ true → (is_owners e ≡ true → ⊥) × (is_peers e ≡ true → requests ≡ true)
worker_makes worker requests (Offer l n payload) h = no_true h
worker_makes worker requests (Withdraw l n) h = no_true h
worker_makes worker requests (Know l n) h = no_true h
worker_makes worker requests (Room l n) h = no_true h
worker_makes worker requests (Got l n value) h = no_true h
worker_makes worker true (Pass l n) h = ((λ g. no_true g), (λ g. refl))
worker_makes worker false (Pass l n) h = no_true h
worker_makes worker requests (Did l n answer) h = ((λ g. no_true g), (λ g. (and_parts worker requests h).1))
worker_makes worker requests (Reply l n answer) h = no_true h

-- the links and the parties of a history stay
past_channels : (P : Past) (es : List Stamped) (k : ℕ) → (past_at P es k).channels ≡ P.channels
past_channels P es zero = refl
past_channels P es (suc k) = by (slice_get es k) ∙ past_channels P es k
  where
    by : (q : Option Stamped) → (after_one (past_at P es k) q).channels ≡ (past_at P es k).channels
    by None = refl
    by (Some e) = refl

past_cores : (P : Past) (es : List Stamped) (k : ℕ) → (past_at P es k).cores ≡ P.cores
past_cores P es zero = refl
past_cores P es (suc k) = by (slice_get es k) ∙ past_cores P es k
  where
    by : (q : Option Stamped) → (after_one (past_at P es k) q).cores ≡ (past_at P es k).cores
    by None = refl
    by (Some e) = refl

le_of : (m n : ℕ) → nat_le m n ≡ true → m ≤ n
le_of m n h = leb-true m n h

module _ (code : Parts) (v : IsValid code) (keeps : KeepsEnds code) (ranks : List ℕ) (ranked : IsRanked code ranks) (bound : ℕ) (es : List Stamped)
    (legal : IsLegal (start code.capacities code.widths (length code.entries)) es)
    (runs : (core : ℕ) → core < length code.entries → HasRun code core bound (journal_of core es)) where
  abbrev first : Past
  first = start code.capacities code.widths (length code.entries)

  made_at : (i : ℕ) (e : Stamped) → slice_get es i ≡ Some e → may_make first.channels (length code.entries) e ≡ true
  made_at i e is =
      let P = past_at first es i in
      let p = all_parts (in_range P e) (is_later P.stamp P.party e) (has_stamp P e) (may_make P.channels P.cores e)
      (has_its_width P.widths e.entry.event) (link_fits (terms_of P.capacities P.channels (link_of e.entry.event)) (link_at P (link_of e.entry.event)) e.entry.event) (fits_at first es legal i e is) in
      ap (λ n. may_make n (length code.entries) e) (sym (past_channels first es i)) ∙ ap (λ n. may_make P.channels n e) (sym (past_cores first es i)) ∙ p.3

  -- an entry of a core
  core_own : (i : ℕ) (e : Stamped) → slice_get es i ≡ Some e → e.party < length code.entries → IsOwn code e.party e.entry.event
  core_own i e is lt =
      own_at (λ (x : Entry). IsOwn code e.party x.event) e.party es i e is refl (own_entries code v keeps ranks ranked e.party bound lt (journal_of e.party es) (runs e.party lt))

  -- and one of the worker
  worker_own : (i : ℕ) (e : Stamped) → slice_get es i ≡ Some e → length code.entries ≤ e.party
      → (is_owners e.entry.event ≡ true → ⊥) × (is_peers e.entry.event ≡ true → peer_of code.ends (length code.entries) (link_of e.entry.event) ≡ length code.entries)
  worker_own i e is le =
      let made : makes (nat_lt e.party (length code.entries)) (e.party == length code.entries) (nat_le first.channels (link_of e.entry.event)) e.entry.event ≡ true =
      (and_parts (makes (nat_lt e.party (length code.entries)) (e.party == length code.entries) (nat_le first.channels (link_of e.entry.event)) e.entry.event)
      (nat_lt e.party (length code.entries) || (e.entry.turn == 0)) (made_at i e is)).0 in
      let as_worker : makes false (e.party == length code.entries) (nat_le first.channels (link_of e.entry.event)) e.entry.event ≡ true =
      ap (λ b. makes b (e.party == length code.entries) (nat_le first.channels (link_of e.entry.event)) e.entry.event) (sym (le-ltb e.party (length code.entries) le)) ∙ made in
      let w = worker_makes (e.party == length code.entries) (nat_le first.channels (link_of e.entry.event)) e.entry.event as_worker in
      (w.0, λ g. request_peer (link_of e.entry.event) (le_of first.channels (link_of e.entry.event) (w.1 g)))
    where
      request_peer : (l : ℕ) → length code.capacities - length code.entries ≤ l → peer_of code.ends (length code.entries) l ≡ length code.entries
      request_peer l le =
          let each = v.lists.links.each in
          ap (λ (q : Option ChannelEnds). peer_at (length code.entries) q) (slice_get_past code.ends l (omega (arith, each, le)))

  at_ends : AreAtEnds (owner_of code.ends) (peer_of code.ends (length code.entries)) es
  at_ends = record { owners = owners; peers = peers }
    where
      owners : (i : ℕ) (e : Stamped) → slice_get es i ≡ Some e → is_owners e.entry.event ≡ true → e.party ≡ owner_of code.ends (link_of e.entry.event)
      owners i e is owns = by (cases_lt e.party (length code.entries))
        where
          by : (e.party < length code.entries) ⊎ (length code.entries ≤ e.party) → e.party ≡ owner_of code.ends (link_of e.entry.event)
          by (inl lt) = sym ((core_own i e is lt).owns owns)
          by (inr le) = absurd ((worker_own i e is le).0 owns)

      peers : (i : ℕ) (e : Stamped) → slice_get es i ≡ Some e → is_peers e.entry.event ≡ true → e.party ≡ peer_of code.ends (length code.entries) (link_of e.entry.event)
      peers i e is decides = by (cases_lt e.party (length code.entries))
        where
          by : (e.party < length code.entries) ⊎ (length code.entries ≤ e.party) → e.party ≡ peer_of code.ends (length code.entries) (link_of e.entry.event)
          by (inl lt) = sym ((core_own i e is lt).decides decides)
          by (inr le) =
              let last = party_in code.capacities code.widths (length code.entries) es legal i e is in
              let peer = (worker_own i e is le).1 decides in
              omega (arith, last, le, peer)

-- ---- the journals of a cut are those of its entries

module _ (owner peer : ℕ → ℕ) (capacities widths : List ℕ) (cores : ℕ) (es : List Stamped) (counts : List ℕ) (legal : IsLegal (start capacities widths cores) es)
    (ends : AreAtEnds owner peer es) (closed : IsClosed es counts) where
  abbrev inside : ℕ → List Stamped
  inside k = inside_to owner peer capacities widths cores es counts legal ends closed k

  abbrev those : ℕ → Stamped → List Stamped
  those k e = added_if (nat_lt (made_by es e.party k) (slice_index counts e.party)) e

  abbrev added_at : ℕ → Option Stamped → List Stamped
  added_at k None = []
  added_at k (Some e) = those k e

  abbrev So : ℕ → ℕ → Type 0
  So p k = journal_of p (inside k) ≡ take (slice_index counts p) (journal_of p (take k es))

  those_other : (p k : ℕ) (e : Stamped) → nat_eq e.party p ≡ false → (b : Bool) → journal_of p (added_if b e) ≡ []
  those_other p k e other true = none_of p e other
  those_other p k e other false = refl

  so_next : (p k : ℕ) (e : Stamped) → k ≤ length es → slice_get es k ≡ Some e → So p k → (nat_eq e.party p ≡ true) ⊎ (nat_eq e.party p ≡ false)
      → (made_by es e.party k < slice_index counts e.party) ⊎ (slice_index counts e.party ≤ made_by es e.party k)
      → journal_of p (inside k ++ those k e) ≡ take (slice_index counts p) (journal_of p (take (suc k) es))
  so_next p k e le is before (inl same) (inl lt) =
      let party = eqb-true e.party p same in
      let long = front_long es p k le in
      let here : made_by es p k < slice_index counts p = subst (λ q. made_by es q k < slice_index counts q) party lt in
      journal_append p (inside k) (those k e)
      ∙ ap (λ xs. journal_of p (inside k) ++ xs) (ap (λ b. journal_of p (added_if b e)) (lt-ltb (made_by es e.party k) (slice_index counts e.party) lt) ∙ one_of p e party)
      ∙ ap (λ xs. xs ++ e.entry ∷ []) before
      ∙ sym (front_takes es p (slice_index counts p) k e is party (omega (arith, long, here)))
  so_next p k e le is before (inl same) (inr full) =
      let party = eqb-true e.party p same in
      let long = front_long es p k le in
      let here : slice_index counts p ≤ made_by es p k = subst (λ q. slice_index counts q ≤ made_by es q k) party full in
      journal_append p (inside k) (those k e)
      ∙ ap (λ xs. journal_of p (inside k) ++ xs) (ap (λ b. journal_of p (added_if b e)) (le-ltb (made_by es e.party k) (slice_index counts e.party) full))
      ∙ append-nil (journal_of p (inside k)) ∙ before
      ∙ sym (front_full es p (slice_index counts p) k e is (omega (arith, long, here)))
  so_next p k e le is before (inr other) o =
      journal_append p (inside k) (those k e)
      ∙ ap (λ xs. journal_of p (inside k) ++ xs) (those_other p k e other (nat_lt (made_by es e.party k) (slice_index counts e.party)))
      ∙ append-nil (journal_of p (inside k)) ∙ before ∙ sym (front_other es p (slice_index counts p) k e is other)

  so_all : (p k : ℕ) → k ≤ length es → So p k
  so_all p zero le = by (slice_index counts p)
    where
      by : (c : ℕ) → ◌≡◌ {A = List Entry} [] (take c [])
      by zero = refl
      by (suc c) = refl
  so_all p (suc k) le =
      let e = get_some es k (omega (arith, le)) in
      let before = so_all p k (omega (arith, le)) in
      subst (λ q. journal_of p (inside k ++ added_at k q) ≡ take (slice_index counts p) (journal_of p (take (suc k) es))) (sym e.1)
      (so_next p k e.0 (omega (arith, le)) e.1 before (cases_Bool (nat_eq e.0.party p)) (cases_lt (made_by es e.0.party k) (slice_index counts e.0.party)))

  cut_is : (p : ℕ) → journal_of p (inside (length es)) ≡ cut_journal es counts p
  cut_is p = so_all p (length es) (omega arith) ∙ ap (λ xs. take (slice_index counts p) (journal_of p xs)) (take_all es (length es) (omega arith))

  parts_from : (q : ℕ) (cs : List ℕ) → ((i : ℕ) → i < length cs → slice_index cs i ≡ slice_index counts (q + i)) → parts q (length cs) (inside (length es)) ≡ cut_journals es q cs
  parts_from q [] same = refl
  parts_from q (c ∷ cs) same =
      let zero_more : q + 0 ≡ q = omega arith in
      let here : slice_index counts q ≡ c = sym (same 0 (omega arith) ∙ ap (λ i. slice_index counts i) zero_more) in
      let first_part : journal_of q (inside (length es)) ≡ take c (journal_of q es) = cut_is q ∙ ap (λ n. take n (journal_of q es)) here in
      let rest = parts_from (suc q) cs (λ i lt. same (suc i) (omega (arith, lt)) ∙ ap (λ n. slice_index counts n) (more i)) in
      ap (λ j. j ∷ parts (suc q) (length cs) (inside (length es))) first_part ∙ ap (λ js. take c (journal_of q es) ∷ js) rest
    where
      more : (i : ℕ) → q + suc i ≡ suc q + i
      more i = omega arith

  abbrev whole : List Stamped
  whole = inside (length es)

  rising_from : (P : Past) (xs : List Stamped) → IsLegal P xs → IsRising P.stamp P.party xs
  rising_from P [] h = tt
  rising_from P (e ∷ xs) h = ((parts_of P e h.0).1, rising_from (after P e) xs h.1)
    where
      parts_of : (P : Past) (e : Stamped) → fits P e ≡ true → (in_range P e ≡ true) × (is_later P.stamp P.party e ≡ true)
      parts_of P e f =
          let p = all_parts (in_range P e) (is_later P.stamp P.party e) (has_stamp P e) (may_make P.channels P.cores e)
          (has_its_width P.widths e.entry.event) (link_fits (terms_of P.capacities P.channels (link_of e.entry.event)) (link_at P (link_of e.entry.event)) e.entry.event) f in
          (p.0, p.1)

  below_from : (n : ℕ) (P : Past) (xs : List Stamped) → length P.lasts ≡ n → IsLegal P xs → AllByRecursion (λ (s : Stamped). s.party < n) xs
  below_from n P [] long h = tt
  below_from n P (e ∷ xs) long h = (
    subst (λ k. e.party < k) long (ltb-true e.party (length P.lasts) (and_parts (nat_lt (link_of e.entry.event) (length P.links)) (nat_lt e.party (length P.lasts)) in_it).1),
    below_from n (after P e) xs (length-set P.lasts e.party e.entry.stamp ∙ long) h.1,
  )
    where
      in_it : in_range P e ≡ true
      in_it = (all_parts (in_range P e) (is_later P.stamp P.party e) (has_stamp P e) (may_make P.channels P.cores e)
          (has_its_width P.widths e.entry.event) (link_fits (terms_of P.capacities P.channels (link_of e.entry.event)) (link_at P (link_of e.entry.event)) e.entry.event) h.0).0

  pub cut_is_legal : IsCut es (suc cores) counts → IsLegal (start capacities widths cores) (cut_history es counts)
  cut_is_legal cut =
      let those_legal = inside_legal owner peer capacities widths cores es counts legal ends closed in
      let merge_is : merged (parts 0 (length counts) whole) ≡ whole =
      parts_are_whole (length counts) whole (rising_from (start capacities widths cores) whole those_legal)
      (below_from (length counts) (start capacities widths cores) whole (length-replicate {A = ℕ} (suc cores) 0 ∙ sym cut.so_many) those_legal) in
      let journals_are : parts 0 (length counts) whole ≡ cut_journals es 0 counts = parts_from 0 counts (λ i lt. ap (λ n. slice_index counts n) (none_more i)) in
      subst (IsLegal (start capacities widths cores)) (sym merge_is ∙ ap merged journals_are) those_legal
    where
      none_more : (i : ℕ) → i ≡ 0 + i
      none_more i = omega arith

-- ---- the law

pub closed_cuts : (program : Resolved) (t : Trace) (counts : List ℕ) → IsSound program → KeepsEnds (code_of program) → IsRunTrace program t
    → IsCut t.entries (suc (length program.cores)) counts → IsClosed t.entries counts
    → IsLegal (start (code_of program).capacities (code_of program).widths (length program.cores)) (cut_history t.entries counts)
closed_cuts program t counts sound keeps run cut closed =
    let code = code_of program in
    let legal = is_legal program t run in
    let ends = at_ends code sound.valid keeps sound.ranks sound.ranked t.steps t.entries legal (λ core lt. journal_runs program t sound.same run core lt) in
    subst (λ n. IsLegal (start code.capacities code.widths n) (cut_history t.entries counts)) (cores_are program)
    (cut_is_legal (owner_of code.ends) (peer_of code.ends (length code.entries)) code.capacities code.widths (length code.entries) t.entries counts legal ends closed
    (subst (λ n. IsCut t.entries (suc n) counts) (sym (cores_are program)) cut))
