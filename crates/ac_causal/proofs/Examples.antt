-- What the definitions of the causal order say of a small run: two cores, each of which sends on a channel and receives on the other.
-- The two offers come first and are concurrent; each core takes the other's message, and then learns that its own was taken.
-- What holds is built from its parts. That the offers are concurrent: of an offer that is its party's first entry, nothing is before it.
use Rattle.std.proofs.Common.{◌≡◌, ℕ, zero, suc, ◌+◌, ◌<◌, ◌≤◌, List, [], ◌∷◌, length, Option, Some, None, Bool, true, false, cond, refl, sym, ap, ◌∙◌, subst, arith, ◌⊎◌, inl, inr}
use Rattle.std.specs.Prelude.{◌&&◌, pos, slice_get, slice_index}
use Rattle.std.proofs.lemmas.Bool.{and_parts}
use Rattle.ac_base.specs.declared.entry.Payload.TheVariants.{Int}
use Rattle.ac_base.specs.declared.entry.Answer.TheVariants.{Count}
use Rattle.ac_base.specs.declared.entry.Event.TheVariants.{Offer, Withdraw, Know, Room, Got, Pass, Did, Reply}
use Rattle.ac_base.specs.declared.entry.Stamped.{Stamped}
use Rattle.ac_commands.specs.declared.program.Resolved.{Resolved}
use Rattle.ac_translation.specs.Translation.{code_of}
use Rattle.stack_code.specs.Parts.{Parts}
use Rattle.ac_links.specs.Link.{link_fits}
use Rattle.ac_history.specs.History.{Past, IsLegal, start, in_range, is_later, has_stamp, may_make, has_its_width, terms_of, link_at}
use Rattle.trace_text.specs.declared.trace.Trace.{Trace}
use Rattle.trace_audit.specs.RunTrace.{IsRunTrace}
use Rattle.ac_history.proofs.Examples.{by}
use Rattle.ac_causal.specs.Before.{is_offering, is_passing, is_doing, answers, Answers, IsEarlier, IsBefore, of_one_party, by_answer, by_way, IsOrder, count_below, is_of, IsVector}
use Rattle.ac_causal.specs.declared.order.Order.TheVariants.{Same, Before, After, Concurrent}
use Rattle.ac_causal.specs.Laws.{BeforeIsEarlier, StampsRise, RunsAreLegal}
use Rattle.ac_causal.specs.Run.{CausalRun}

-- ---- events

pub an_offer_is_taken : answers (Got 0 2 (pos 5 ∷ [])) (Offer 0 2 (Int (pos 5 ∷ []))) ∷ answers (Got 0 2 (pos 5 ∷ [])) (Offer 1 2 (Int (pos 5 ∷ []))) ∷ answers (Got 0 2 (pos 5 ∷ [])) (Offer 0 3 (Int
    (pos 5 ∷ []))) ∷ []
    ≡ true ∷ false ∷ false ∷ []
an_offer_is_taken = refl

pub nothing_is_answered_by_an_offer : answers (Offer 0 2 (Int (pos 5 ∷ []))) (Got 0 1 (pos 5 ∷ [])) ∷ answers (Withdraw 0 2) (Offer 0 2 (Int (pos 5 ∷ []))) ∷ [] ≡ false ∷ false ∷ []
nothing_is_answered_by_an_offer = refl

pub its_room_comes_back : answers (Pass 0 2) (Withdraw 0 2) ∷ answers (Pass 0 2) (Offer 0 2 (Int (pos 5 ∷ []))) ∷ answers (Room 0 2) (Pass 0 2) ∷ answers (Room 0 2) (Got 0 2 (pos 5 ∷ [])) ∷ []
    ≡ true ∷ false ∷ true ∷ false ∷ []
its_room_comes_back = refl

pub a_request_has_its_reply : answers (Did 3 0 (Count 1)) (Offer 3 0 (Int (pos 5 ∷ []))) ∷ answers (Know 3 0) (Did 3 0 (Count 1)) ∷ answers (Reply 3 0 (Count 1)) (Did 3 0 (Count 1)) ∷ answers
    (Reply 3 0
    (Count 1)) (Offer 3 0 (Int (pos 5 ∷ []))) ∷ [] ≡ true ∷ true ∷ true ∷ false ∷ []
a_request_has_its_reply = refl

pub by_number_and_link : is_offering 0 1 (Offer 0 1 (Int (pos 5 ∷ []))) ∷ is_offering 0 1 (Offer 1 1 (Int (pos 5 ∷ []))) ∷ is_passing 0 1 (Pass 0 1) ∷ is_passing 0 1 (Pass 0 0) ∷ is_doing 0 1 (Did 0 1
    (Count 1)) ∷ is_doing 0 1 (Got 0 1 (pos 5 ∷ [])) ∷ []
    ≡ true ∷ false ∷ true ∷ false ∷ true ∷ false ∷ []
by_number_and_link = refl

-- ---- a run

abbrev pub entries : List Stamped
entries = by 0 1 2 (Offer 0 0 (Int (pos 5 ∷ []))) ∷ by 1 1 2 (Offer 1 0 (Int (pos 6 ∷ []))) ∷ by 0 2 2 (Got 1 0 (pos 6 ∷ [])) ∷ by 1 2 2 (Got 0 0 (pos 5 ∷ []))
    ∷ by 0 3 2 (Know 0 0) ∷ by 1 3 2 (Know 1 0) ∷ []

abbrev capacities : List ℕ
capacities = 1 ∷ 1 ∷ 16 ∷ 16 ∷ []

abbrev widths : List ℕ
widths = 1 ∷ 1 ∷ []

pub they_are_legal : IsLegal (start capacities widths 2) entries
they_are_legal = (refl, (refl, (refl, (refl, (refl, (refl, tt))))))

pub the_fourth_answers_the_first : Answers entries 0 3
the_fourth_answers_the_first = record {
  asking = by 0 1 2 (Offer 0 0 (Int (pos 5 ∷ [])));
  answering = by 1 2 2 (Got 0 0 (pos 5 ∷ []));
  asks = refl;
  answers_it = refl;
  answer = refl;
}

some_same : (a b : Stamped) → Some a ≡ Some b → a ≡ b
some_same a b h = cc

-- the third takes another message
pub it_does_not_answer_the_second : Answers entries 1 3 → ⊥
it_does_not_answer_the_second h =
    let a : by 1 1 2 (Offer 1 0 (Int (pos 6 ∷ []))) ≡ h.asking = some_same _ _ h.asks in
    let b : by 1 2 2 (Got 0 0 (pos 5 ∷ [])) ≡ h.answering = some_same _ _ h.answers_it in
    let bad : false ≡ true = ap (λ (x : Stamped). answers (Got 0 0 (pos 5 ∷ [])) x.entry.event) a ∙ ap (λ (x : Stamped). answers x.entry.event h.asking.entry.event) b ∙ h.answer in
    cc

pub the_third_is_later_than_the_first : IsEarlier entries 0 2
the_third_is_later_than_the_first = record {
  one = by 0 1 2 (Offer 0 0 (Int (pos 5 ∷ [])));
  next = by 0 2 2 (Got 1 0 (pos 6 ∷ []));
  is_one = refl;
  is_next = refl;
  party = refl;
  earlier = omega arith;
}

pub not_of_another_party : IsEarlier entries 0 1 → ⊥
not_of_another_party h =
    let a : by 0 1 2 (Offer 0 0 (Int (pos 5 ∷ []))) ≡ h.one = some_same _ _ h.is_one in
    let b : by 1 1 2 (Offer 1 0 (Int (pos 6 ∷ []))) ≡ h.next = some_same _ _ h.is_next in
    let bad : 0 ≡ 1 = ap (λ (x : Stamped). x.party) a ∙ h.party ∙ sym (ap (λ (x : Stamped). x.party) b) in
    omega (arith, bad)

pub the_first_is_before_the_fourth : IsOrder entries 0 3 Before
the_first_is_before_the_fourth = by_answer 0 3 the_fourth_answers_the_first

pub the_fifth_is_after_the_fourth : IsOrder entries 4 3 After
the_fifth_is_after_the_fourth = by_answer 3 4 (record {
  asking = by 1 2 2 (Got 0 0 (pos 5 ∷ []));
  answering = by 0 3 2 (Know 0 0);
  asks = refl;
  answers_it = refl;
  answer = refl;
})

-- over the fourth entry, which another party made
pub the_first_is_before_the_fifth : IsBefore entries 0 4
the_first_is_before_the_fifth = by_way 0 3 4 the_first_is_before_the_fourth the_fifth_is_after_the_fourth

pub an_entry_is_itself : IsOrder entries 2 2 Same
an_entry_is_itself = refl

answers_at : (i j x y : ℕ) → i ≡ x → j ≡ y → Answers entries i j → Answers entries x y
answers_at i j x y p q h = subst (λ k. Answers entries k y) p (subst (λ k. Answers entries i k) q h)

earlier_at : (i j x y : ℕ) → i ≡ x → j ≡ y → IsEarlier entries i j → IsEarlier entries x y
earlier_at i j x y p q h = subst (λ k. IsEarlier entries k y) p (subst (λ k. IsEarlier entries i k) q h)

-- an entry with this event answers none of them
answers_no : (j : ℕ) (e : Stamped) → slice_get entries j ≡ Some e → ((x : Stamped) → answers e.entry.event x.entry.event ≡ false) → (i : ℕ) → Answers entries i j → ⊥
answers_no j e is none i h =
    let b : e ≡ h.answering = some_same _ _ (sym is ∙ h.answers_it) in
    let bad : false ≡ true = sym (none h.asking) ∙ ap (λ (x : Stamped). answers x.entry.event h.asking.entry.event) b ∙ h.answer in
    cc

-- of an offer that is the first entry of its party
nothing_is_before_the_second : (i j : ℕ) → IsBefore entries i j → j ≡ 1 → ⊥
nothing_is_before_the_second i j (of_one_party _ _ h) q = let lt = h.earlier in not_of_another_party (earlier_at i j 0 1 (omega (arith, lt, q)) q h)
nothing_is_before_the_second i j (by_answer _ _ h) q =
    answers_no 1 (by 1 1 2 (Offer 1 0 (Int (pos 6 ∷ [])))) refl (λ x. refl) i (answers_at i j i 1 refl q h)
nothing_is_before_the_second i j (by_way _ k _ f g) q = nothing_is_before_the_second k j g q

nothing_is_before_the_first : (i j : ℕ) → IsBefore entries i j → j ≡ 0 → ⊥
nothing_is_before_the_first i j (of_one_party _ _ h) q = let lt = h.earlier in omega (arith, lt, q)
nothing_is_before_the_first i j (by_answer _ _ h) q =
    answers_no 0 (by 0 1 2 (Offer 0 0 (Int (pos 5 ∷ [])))) refl (λ x. refl) i (answers_at i j i 0 refl q h)
nothing_is_before_the_first i j (by_way _ k _ f g) q = nothing_is_before_the_first k j g q

pub the_offers_are_concurrent : IsOrder entries 0 1 Concurrent
the_offers_are_concurrent = ((λ e. omega (arith, e)), (λ h. nothing_is_before_the_second 0 1 h refl), (λ h. nothing_is_before_the_first 1 0 h refl))

-- ---- vectors

pub three_are_of_the_first_party : count_below (λ i. is_of 0 (slice_get entries i)) 6 ∷ count_below (λ i. is_of 0 (slice_get entries i)) 2 ∷ count_below (λ i. is_of 2 (slice_get entries i)) 6 ∷ []
    ≡ 3 ∷ 1 ∷ 0 ∷ []
three_are_of_the_first_party = refl

-- what is in the past of the fourth entry: the first two, and itself
abbrev in_its_past : ℕ → Bool
in_its_past zero = true
in_its_past (suc zero) = true
in_its_past (suc (suc zero)) = false
in_its_past (suc (suc (suc zero))) = true
in_its_past (suc (suc (suc (suc n)))) = false

the_second_is_before_the_fourth : IsBefore entries 1 3
the_second_is_before_the_fourth = of_one_party 1 3 (record {
  one = by 1 1 2 (Offer 1 0 (Int (pos 6 ∷ [])));
  next = by 1 2 2 (Got 0 0 (pos 5 ∷ []));
  is_one = refl;
  is_next = refl;
  party = refl;
  earlier = omega arith;
})

-- by the law, which has it that what is before stands before
module _ (law : BeforeIsEarlier) where
  earlier : (i j : ℕ) → IsBefore entries i j → i < j
  earlier i j h = law capacities widths 2 entries i j they_are_legal h

  -- the third entry is not of the fourth's party, the fourth answers another, and no entry stands between them
  the_third_is_not_before_the_fourth : (i j : ℕ) → IsBefore entries i j → i ≡ 2 → j ≡ 3 → ⊥
  the_third_is_not_before_the_fourth i j (of_one_party _ _ h) p q =
      let e = earlier_at i j 2 3 p q h in
      let a : by 0 2 2 (Got 1 0 (pos 6 ∷ [])) ≡ e.one = some_same _ _ e.is_one in
      let b : by 1 2 2 (Got 0 0 (pos 5 ∷ [])) ≡ e.next = some_same _ _ e.is_next in
      let bad : 0 ≡ 1 = ap (λ (x : Stamped). x.party) a ∙ e.party ∙ sym (ap (λ (x : Stamped). x.party) b) in
      omega (arith, bad)
  the_third_is_not_before_the_fourth i j (by_answer _ _ h) p q =
      let e = answers_at i j 2 3 p q h in
      let a : by 0 2 2 (Got 1 0 (pos 6 ∷ [])) ≡ e.asking = some_same _ _ e.asks in
      let b : by 1 2 2 (Got 0 0 (pos 5 ∷ [])) ≡ e.answering = some_same _ _ e.answers_it in
      let bad : false ≡ true = ap (λ (x : Stamped). answers (Got 0 0 (pos 5 ∷ [])) x.entry.event) a
      ∙ ap (λ (x : Stamped). answers x.entry.event e.asking.entry.event) b ∙ e.answer in
      cc
  the_third_is_not_before_the_fourth i j (by_way _ k _ f g) p q = let a = earlier i k f in let b = earlier k j g in omega (arith, a, b, p, q)

  -- what the test says of each entry
  in_it : (i : ℕ) → i < 6 → in_its_past i ≡ true → (i ≡ 3) ⊎ IsBefore entries i 3
  in_it zero lt h = inr the_first_is_before_the_fourth
  in_it (suc zero) lt h = inr the_second_is_before_the_fourth
  in_it (suc (suc zero)) lt h = let bad : false ≡ true = h in absurd (cc)
  in_it (suc (suc (suc zero))) lt h = inl refl
  in_it (suc (suc (suc (suc n)))) lt h = let bad : false ≡ true = h in absurd (cc)

  all_of_it : (i : ℕ) → i < 6 → (i ≡ 3) ⊎ IsBefore entries i 3 → in_its_past i ≡ true
  all_of_it zero lt h = refl
  all_of_it (suc zero) lt h = refl
  all_of_it (suc (suc zero)) lt (inl same) = absurd (omega (arith, same))
  all_of_it (suc (suc zero)) lt (inr h) = absurd (the_third_is_not_before_the_fourth 2 3 h refl refl)
  all_of_it (suc (suc (suc zero))) lt h = refl
  all_of_it (suc (suc (suc (suc n)))) lt (inl same) = absurd (omega (arith, same))
  all_of_it (suc (suc (suc (suc n)))) lt (inr h) = let a = earlier (suc (suc (suc (suc n)))) 3 h in absurd (omega (arith, a))

  each_count : (p : ℕ) → p < 3 → slice_index (1 ∷ 2 ∷ 0 ∷ []) p ≡ count_below (λ i. in_its_past i && is_of p (slice_get entries i)) 6
  each_count zero lt = refl
  each_count (suc zero) lt = refl
  each_count (suc (suc zero)) lt = refl
  each_count (suc (suc (suc n))) lt = absurd (omega (arith, lt))

  pub the_vector_of_the_fourth : IsVector entries 3 3 (1 ∷ 2 ∷ 0 ∷ [])
  the_vector_of_the_fourth = record { parties_are = refl; past = in_its_past; in_past = in_it; all_past = all_of_it; counted = each_count }

-- a vector that forgets the answered entry
pub not_without_what_it_answers : IsVector entries 3 3 (0 ∷ 2 ∷ 0 ∷ []) → ⊥
not_without_what_it_answers h =
    let first : h.past 0 ≡ true = h.all_past 0 (omega arith) (inr the_first_is_before_the_fourth) in
    let count = h.counted 0 (omega arith) in
    let some = at_least_one h.past first in
    omega (arith, count, some)
  where
    at_least_one : (past : ℕ → Bool) → past 0 ≡ true → 1 ≤ count_below (λ i. past i && is_of 0 (slice_get entries i)) 6
    at_least_one past first =
        let a : count_below (λ i. past i && is_of 0 (slice_get entries i)) 1 ≡ 1 = ap (λ b. 0 + cond (b && true) 1 0) first in
        omega (arith, a)

-- ---- the laws, and what contracts see

pub stamps_rise_to_the_fifth : StampsRise → 1 < 3
stamps_rise_to_the_fifth law =
    law capacities widths 2 entries 0 4 (by 0 1 2 (Offer 0 0 (Int (pos 5 ∷ [])))) (by 0 3 2 (Know 0 0)) they_are_legal refl refl the_first_is_before_the_fifth

abbrev run : Parts → CausalRun
run code = record { code = code; steps = 100; entries = entries; parties = 3 }

pub three_parties_made_six_entries : (code : Parts) → length (run code).entries ∷ (run code).parties ∷ [] ≡ 6 ∷ 3 ∷ []
three_parties_made_six_entries code = refl

-- ---- stamps alone do not tell the order: a core offers twice, and another once, which nobody answers

abbrev apart : List Stamped
apart = by 0 1 1 (Offer 0 0 (Int (pos 5 ∷ []))) ∷ by 1 1 1 (Offer 1 0 (Int (pos 6 ∷ []))) ∷ by 0 2 1 (Offer 0 1 (Int (pos 7 ∷ []))) ∷ []

pub they_are_legal_too : IsLegal (start (2 ∷ 1 ∷ 16 ∷ 16 ∷ []) widths 2) apart
they_are_legal_too = (refl, (refl, (refl, tt)))

abbrev party_of : ℕ → ℕ
party_of zero = 0
party_of (suc zero) = 1
party_of (suc (suc n)) = 0

-- no entry answers another, so the order is that of the parties
of_one_party_alone : (i j : ℕ) → IsBefore apart i j → party_of i ≡ party_of j
of_one_party_alone i j (of_one_party _ _ h) = known i h.one h.is_one ∙ h.party ∙ sym (known j h.next h.is_next)
  where
    known : (i : ℕ) (e : Stamped) → slice_get apart i ≡ Some e → party_of i ≡ e.party
    known zero e is = ap (λ (x : Stamped). x.party) (some_same _ _ is)
    known (suc zero) e is = ap (λ (x : Stamped). x.party) (some_same _ _ is)
    known (suc (suc zero)) e is = ap (λ (x : Stamped). x.party) (some_same _ _ is)
    known (suc (suc (suc n))) e is = let bad : ◌≡◌ {A = Option Stamped} None (Some e) = is in absurd (cc)
of_one_party_alone i j (by_answer _ _ h) = absurd (offers_alone j h.answering h.answers_it h.answer)
  where
    offers_alone : (j : ℕ) (e : Stamped) → slice_get apart j ≡ Some e → answers e.entry.event h.asking.entry.event ≡ true → ⊥
    offers_alone zero e is a = let bad : false ≡ true = ap (λ (x : Stamped). answers x.entry.event h.asking.entry.event) (some_same _ _ is) ∙ a in cc
    offers_alone (suc zero) e is a = let bad : false ≡ true = ap (λ (x : Stamped). answers x.entry.event h.asking.entry.event) (some_same _ _ is) ∙ a in cc
    offers_alone (suc (suc zero)) e is a = let bad : false ≡ true = ap (λ (x : Stamped). answers x.entry.event h.asking.entry.event) (some_same _ _ is) ∙ a in cc
    offers_alone (suc (suc (suc n))) e is a = let bad : ◌≡◌ {A = Option Stamped} None (Some e) = is in cc
of_one_party_alone i j (by_way _ k _ f g) = of_one_party_alone i k f ∙ of_one_party_alone k j g

pub a_lesser_stamp_is_not_before : IsOrder apart 1 2 Concurrent
a_lesser_stamp_is_not_before =
    ((λ e. omega (arith, e)), (λ h. let bad : 1 ≡ 0 = of_one_party_alone 1 2 h in omega (arith, bad)), (λ h. let bad : 0 ≡ 1 = of_one_party_alone 2 1 h in omega (arith, bad)))

pub nothing_later_is_before : BeforeIsEarlier → IsBefore entries 3 1 → ⊥
nothing_later_is_before law h = let lt = law capacities widths 2 entries 3 1 they_are_legal h in omega (arith, lt)

-- ---- a trace that is a run

-- its first entry has a stamp that is not the first
abbrev pub no_run : Trace
no_run = record { steps = 100; start = []; entries = by 0 2 1 (Offer 0 0 (Int (pos 5 ∷ []))) ∷ []; ends = [] }

stamp_of_six : (a b c d w f : Bool) → a && b && c && d && w && f ≡ true → c ≡ true
stamp_of_six a b c d w f h =
    (and_parts (a && b) c (and_parts (a && b && c) d (and_parts (a && b && c && d) w (and_parts (a && b && c && d && w) f h).0).0).0).1

no_first_entry : (capacities widths : List ℕ) (cores : ℕ) → IsLegal (start capacities widths cores) no_run.entries → ⊥
no_first_entry capacities widths cores h =
    let e : Stamped = by 0 2 1 (Offer 0 0 (Int (pos 5 ∷ []))) in
    let P : Past = start capacities widths cores in
    let bad : false ≡ true = stamp_of_six (in_range P e) (is_later P.stamp P.party e) (has_stamp P e) (may_make P.channels P.cores e)
    (has_its_width P.widths e.entry.event) (link_fits (terms_of P.capacities P.channels 0) (link_at P 0) e.entry.event) h.0 in
    cc

pub an_audit_says_no_to_it : RunsAreLegal → (program : Resolved) → IsRunTrace program no_run → ⊥
an_audit_says_no_to_it law program run = no_first_entry (code_of program).capacities (code_of program).widths (length (code_of program).entries) (law program no_run run)
