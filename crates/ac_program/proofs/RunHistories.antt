-- The stamps of the history of a run, and that of a program without channels and files, which is empty: a worker answers requests alone,
-- and no core has made one. A stamp is at least 1, as an entry fits with the next stamp only, and small, as entries are few.
use Rattle.std.proofs.Common.{◌≡◌, ℕ, zero, suc, ◌+◌, ◌*◌, ◌<◌, ◌≤◌, ◌^◌, Bool, true, false, List, [], ◌∷◌, ◌++◌, length, map, Some, refl, sym, ap, ◌∙◌, subst, arith}
use Rattle.std.specs.Prelude.{All, ◌&&◌, ◌||◌, ◌==◌, nat_lt, nat_le, replicate, slice_get, slice_index_or, slice_index}
use Rattle.std.specs.List.{AllByRecursion}
use Rattle.std.proofs.lemmas.Bool.Decides.{nat_tests}
use Rattle.std.proofs.lemmas.Bool.{and_parts}
use Rattle.std.proofs.lemmas.List.{length-map}
use Rattle.std.proofs.lemmas.List.Elements.{All-from_recursion}
use Rattle.ac_base.specs.Log.{Log}
use Rattle.ac_base.specs.Stamps.{next_stamp}
use Rattle.ac_base.specs.declared.entry.Entry.{Entry}
use Rattle.ac_base.specs.declared.entry.Event.{Event}
use Rattle.ac_base.specs.declared.entry.Event.TheVariants.{Offer, Withdraw, Know, Room, Got, Pass, Did, Reply}
use Rattle.ac_base.specs.declared.entry.Stamped.{Stamped}
use Rattle.ac_base.specs.declared.ends.MachineEnd.{MachineEnd}
use Rattle.ac_links.specs.declared.offer.LinkOffer.{LinkOffer}
use Rattle.ac_links.specs.Link.{link_fits, link_of, answered}
use Rattle.ac_links.specs.Order.{stamp_of, of_party}
use Rattle.ac_history.specs.Merged.{merged, all_from, entries_of}
use Rattle.ac_history.specs.History.{Past, link_at, terms_of, in_range, is_later, has_stamp, may_make, has_its_width, makes, fits, after, start, IsLegal}
use Rattle.ac_history.proofs.Parts.{each_in_order}
use Rattle.ac_commands.specs.declared.program.Resolved.{Resolved}
use Rattle.std.proofs.Math.Nat.{mul_left_comm}
use Rattle.std.proofs.lemmas.Nat.{mul-le}
use Rattle.ac_base.specs.declared.ends.CoreEnd.{CoreEnd}
use Rattle.ac_semantics.specs.Replay.{Replays}
use Rattle.ac_translation.specs.Translation.{code_of}
use Rattle.journal_bounds.specs.Actions.{most_actions}
use Rattle.journal_bounds.specs.Laws.{AllReplay, IsShortHistory}
use Rattle.journal_bounds.proofs.Sizes.{actions_few}
use Rattle.journal_bounds.proofs.Stamps.{histories_short, stamps_small}
use Rattle.program_run.specs.declared.ended.Ended.{Ended}
use Rattle.program_run.specs.Run.{IsCoreRun, AreCoreRuns, IsRunOf, history_of, nothing_yet}

-- ---- the least stamp

parts : (a b c d e f : Bool) → a && b && c && d && e && f ≡ true → (c ≡ true) × ((d ≡ true) × (f ≡ true))
parts true true true true true true h = (refl, (refl, refl))
parts true true true true true false h = cc
parts true true true true false f h = cc
parts true true true false e f h = cc
parts true true false d e f h = cc
parts true false c d e f h = cc
parts false b c d e f h = cc

least : (s last seen : ℕ) → (s == next_stamp last seen) ≡ true → 1 ≤ s
least s last seen h = grind (arith, nat_tests)

-- what is known of an entry that fits
its_parts : (past : Past) (s : Stamped) → fits past s ≡ true → (has_stamp past s ≡ true) × ((may_make past.channels past.cores s ≡ true)
    × (link_fits (terms_of past.capacities past.channels (link_of s.entry.event)) (link_at past (link_of s.entry.event)) s.entry.event ≡ true))
its_parts past s h = parts (in_range past s) (is_later past.stamp past.party s) (has_stamp past s) (may_make past.channels past.cores s)
    (has_its_width past.widths s.entry.event) (link_fits (terms_of past.capacities past.channels (link_of s.entry.event)) (link_at past (link_of s.entry.event)) s.entry.event) h

pub each_is_stamped : (past : Past) (es : List Stamped) → IsLegal past es → AllByRecursion (λ s. 1 ≤ s.entry.stamp) es
each_is_stamped past [] h = tt
each_is_stamped past (s ∷ es) h = (
  least s.entry.stamp (slice_index past.lasts s.party) (answered (link_at past (link_of s.entry.event)) s.entry.event) (its_parts past s h.0).0,
  each_is_stamped (after past s) es h.1,
)

-- ---- a history in which only the worker has entries

abbrev no_offers : List LinkOffer
no_offers = []

none_there : (n l : ℕ) → slice_index_or (replicate n no_offers) l [] ≡ []
none_there zero l = refl
none_there (suc n) zero = refl
none_there (suc n) (suc l) = none_there n l

-- the worker makes nothing before an offer
no_first : (core worker requests : Bool) (capacities : List ℕ) (channels : ℕ) (e : Event) → core ≡ false → makes core worker requests e ≡ true
    → link_fits (terms_of capacities channels (link_of e)) [] e ≡ true → ⊥
no_first core worker requests capacities channels (Offer l n payload) c m f = absurd (cc (c, m))
no_first core worker requests capacities channels (Withdraw l n) c m f = absurd (cc (c, m))
no_first core worker requests capacities channels (Know l n) c m f = absurd (cc (c, m))
no_first core worker requests capacities channels (Room l n) c m f = absurd (cc (c, m))
no_first core worker requests capacities channels (Reply l n answer) c m f = absurd (cc (c, m))
no_first core worker requests capacities channels (Got l n value) c m f = none_taken (n == 0) f where
  none_taken : (b : Bool) → b && false ≡ true → ⊥
  none_taken true h = cc
  none_taken false h = cc
no_first core worker requests capacities channels (Pass l n) c m f = none_passed (n == 0) f where
  none_passed : (b : Bool) → b && false ≡ true → ⊥
  none_passed true h = cc
  none_passed false h = cc
no_first core worker requests capacities channels (Did l n answer) c m f = none_done (n == 0) f where
  none_done : (b : Bool) → b && false ≡ true → ⊥
  none_done true h = cc
  none_done false h = cc

no_core : (party cores : ℕ) → party ≡ cores → nat_lt party cores ≡ false
no_core party cores e = grind (arith, nat_tests)

empty_for_worker : (capacities widths : List ℕ) (cores : ℕ) (es : List Stamped) → AllByRecursion (λ s. s.party ≡ cores) es → IsLegal (start capacities widths cores) es → es ≡ []
empty_for_worker capacities widths cores [] all h = refl
empty_for_worker capacities widths cores (s ∷ es) all h =
    let p = its_parts (start capacities widths cores) s h.0 in
    let past = start capacities widths cores in
    let may = (and_parts (makes (nat_lt s.party cores) (s.party == cores) (nat_le past.channels (link_of s.entry.event)) s.entry.event) (nat_lt s.party cores || (s.entry.turn == 0)) p.1.0).0 in
    let empty : link_at past (link_of s.entry.event) ≡ [] = none_there (length capacities) (link_of s.entry.event) in
    absurd (no_first (nat_lt s.party cores) (s.party == cores) (nat_le past.channels (link_of s.entry.event)) capacities past.channels s.entry.event (no_core s.party cores all.0) may
    (subst (λ (os : List LinkOffer). link_fits (terms_of capacities past.channels (link_of s.entry.event)) os s.entry.event ≡ true) empty p.1.1))

of_one_party : (p : ℕ) (j : List Entry) → AllByRecursion (λ s. s.party ≡ p) (of_party p j)
of_one_party p [] = tt
of_one_party p (e ∷ j) = (refl, of_one_party p j)

-- no core has an entry
abbrev pub NoneBefore : ℕ → List (List Entry) → Type 0
NoneBefore cores js = (k : ℕ) (j : List Entry) → k < cores → slice_get js k ≡ Some j → j ≡ []

behind_none : (from cores : ℕ) (js : List (List Entry)) → length js ≡ suc cores → NoneBefore cores js → (n : ℕ) → n ≡ from + cores → AllByRecursion (λ s. s.party ≡ n) (all_from from js)
behind_none from zero [] len none n e = absurd (omega (arith, len))
behind_none from zero (j ∷ []) len none n e = all_of from n (omega (arith, e)) j where
  all_of : (p q : ℕ) → p ≡ q → (i : List Entry) → AllByRecursion (λ s. s.party ≡ q) (of_party p i ++ [])
  all_of p q same [] = tt
  all_of p q same (x ∷ i) = (same, all_of p q same i)
behind_none from zero (j ∷ k ∷ js) len none n e = absurd (omega (arith, len))
behind_none from (suc cores) [] len none n e = absurd (omega (arith, len))
behind_none from (suc cores) (j ∷ js) len none n e =
    subst (λ (i : List Entry). AllByRecursion (λ s. s.party ≡ n) (of_party from i ++ all_from (suc from) js)) (sym (none 0 j (omega arith) refl))
    (behind_none (suc from) cores js (omega (arith, len)) (λ k i lt is. none (suc k) i (omega (arith, lt)) is) n (omega (arith, e)))

pub empty_history : (capacities widths : List ℕ) (cores : ℕ) (js : List (List Entry)) → length js ≡ suc cores → NoneBefore cores js → IsLegal (start capacities widths cores) (merged js) → merged js
    ≡ []
empty_history capacities widths cores js len none h =
    empty_for_worker capacities widths cores (merged js)
    (each_in_order stamp_of (λ s. s.party ≡ cores) (all_from 0 js) (behind_none 0 cores js len none cores (omega arith))) h

-- ---- the journals of a run

pub as_many_journals : (program : Resolved) (bound core : ℕ) (journals : List Log) (ends : List MachineEnd) → AreCoreRuns program bound core journals ends → length journals ≡ suc (length ends)
as_many_journals program bound core journals [] h = h
as_many_journals program bound core [] (end ∷ ends) h = absurd h
as_many_journals program bound core (journal ∷ journals) (end ∷ ends) h = ap suc (as_many_journals program bound (suc core) journals ends h.1)

core_at : (program : Resolved) (bound from : ℕ) (journals : List Log) (ends : List MachineEnd) → AreCoreRuns program bound from journals ends → (k n : ℕ) → n ≡ from + k → k < length ends
    → (end : CoreEnd) × Replays program n bound (slice_index_or (map entries_of journals) k []) (Some end)
core_at program bound from journals [] h k n e lt = absurd (omega (arith, lt))
core_at program bound from [] (end ∷ ends) h k n e lt = absurd h
core_at program bound from (journal ∷ journals) (end ∷ ends) h zero n e lt =
    (end.core, subst (λ (m : ℕ). Replays program m bound journal.entries (Some end.core)) (let same : from ≡ n = omega (arith, e) in same) h.0.source)
core_at program bound from (journal ∷ journals) (end ∷ ends) h (suc k) n e lt = core_at program bound (suc from) journals ends h.1 k n (omega (arith, e)) (omega (arith, lt))

none_after : (program : Resolved) (bound from : ℕ) (journals : List Log) (ends : List MachineEnd) → AreCoreRuns program bound from journals ends
    → ((core : ℕ) (journal : Log) (end : MachineEnd) → IsCoreRun program core bound journal end → journal.entries ≡ []) → NoneBefore (length ends) (map entries_of journals)
none_after program bound from journals [] h none k j lt is = absurd (omega (arith, lt))
none_after program bound from [] (end ∷ ends) h none k j lt is = absurd h
none_after program bound from (journal ∷ journals) (end ∷ ends) h none zero j lt is = let same : journal.entries ≡ j = cc (is) in sym same ∙ none from journal end h.0
none_after program bound from (journal ∷ journals) (end ∷ ends) h none (suc k) j lt is = none_after program bound (suc from) journals ends h.1 none k j (omega (arith, lt)) is

-- where no core makes an entry, nothing happens
pub no_history : (program : Resolved) (bound : ℕ) (start : List (List ℕ)) (ended : Ended) → IsRunOf program bound start ended
    → ((core : ℕ) (journal : Log) (end : MachineEnd) → IsCoreRun program core bound journal end → journal.entries ≡ []) → history_of ended.journals ≡ []
no_history program bound start ended run none =
    let many = as_many_journals program bound 0 ended.journals ended.cores run.cores in
    empty_history (code_of program).capacities (code_of program).widths (length program.cores) (map entries_of ended.journals)
    (length-map ended.journals entries_of ∙ many ∙ ap suc run.every_core)
    (subst (λ (n : ℕ). NoneBefore n (map entries_of ended.journals)) run.every_core (none_after program bound 0 ended.journals ended.cores run.cores none)) run.legal

-- ---- how great its stamps are

small_bound : (many most bound instrs : ℕ) → most ≤ instrs → instrs < 2 ^ 32 → many * bound ≤ 4000000 → many * (4 * (most * bound)) < 2 ^ 60
small_bound many most bound instrs a b c =
    let e = mul_left_comm many 4 (most * bound) in
    let f = mul_left_comm many most bound in
    let few : most * (many * bound) ≤ 4294967296 * 4000000 = mul-le most (many * bound) 4294967296 4000000 (omega arith) c in
    omega arith

each_below : (m n : ℕ) → m < n → (es : List Stamped) → AllByRecursion (λ e. e.entry.stamp ≤ m) es → AllByRecursion (λ e. e.entry.stamp < n) es
each_below m n lt [] a = tt
each_below m n lt (e ∷ es) a = (let h = a.0 in omega arith, each_below m n lt es a.1)

module _ (program : Resolved) (bound : ℕ) (start : List (List ℕ)) (ended : Ended) (run : IsRunOf program bound start ended) where
  pub least_stamps : All (λ s. 1 ≤ s.entry.stamp) (history_of ended.journals)
  least_stamps = All-from_recursion (λ s. 1 ≤ s.entry.stamp) (history_of ended.journals) (each_is_stamped (nothing_yet program) (history_of ended.journals) run.legal)

  count : length (map entries_of ended.journals) ≡ suc (length program.cores)
  count = length-map ended.journals entries_of ∙ as_many_journals program bound 0 ended.journals ended.cores run.cores ∙ ap suc run.every_core

  all_replay : AllReplay program (length program.cores) bound (map entries_of ended.journals)
  all_replay core lt = core_at program bound 0 ended.journals ended.cores run.cores core core (omega arith) (let n = run.every_core in omega (arith, lt, n))

  -- it has few entries, and no stamp is above their number
  pub short_history : IsShortHistory program (length program.cores) bound (history_of ended.journals)
  short_history = histories_short program (code_of program).capacities (code_of program).widths (length program.cores) bound (map entries_of ended.journals) count all_replay run.legal

  pub greatest_stamps : length (code_of program).instrs < 2 ^ 32 → length program.cores * bound ≤ 4000000 → All (λ s. s.entry.stamp < 2 ^ 60) (history_of ended.journals)
  greatest_stamps short few =
      let most = most_actions program in
      All-from_recursion (λ s. s.entry.stamp < 2 ^ 60) (history_of ended.journals)
      (each_below (length program.cores * (4 * (most * bound))) (2 ^ 60) (small_bound (length program.cores) most bound (length (code_of program).instrs) (actions_few program) short few)
      (history_of ended.journals)
      (stamps_small program (code_of program).capacities (code_of program).widths (length program.cores) bound (map entries_of ended.journals) count all_replay run.legal))
