-- Withdrawn offers whose room has not come back: a withdrawal makes one more of them, and room that comes back one less.
-- They are counted by going through the journal with all of it at hand. By induction on what is left; the hard case is room, which lowers the count at its own withdrawal.
use Rattle.std.proofs.Common.{◌≡◌, ℕ, ◌+◌, ◌≤◌, List, [], ◌∷◌, ◌++◌, Bool, true, false, refl, sym, subst, arith}
use Rattle.std.specs.Prelude.{not, ◌&&◌, ◌||◌, nat_eq, if◌then◌else◌}
use Rattle.std.specs.List.{list_any}
use Rattle.std.proofs.lemmas.Bool.{eqb-true, eq-eqb}
use Rattle.std.proofs.lemmas.List.Folds.{list_any-append}
use Rattle.ac_base.specs.declared.entry.Event.{Event}
use Rattle.ac_base.specs.declared.entry.Event.TheVariants as event
use Rattle.ac_base.specs.declared.entry.Entry.{Entry}
use Rattle.core_state.specs.Arrivals.{is_withdrawal, is_room, keeps_room}
use Rattle.journal_bounds.proofs.Counting.{withdrawal_of}

-- whether these entries give the room of an offer back
abbrev has_room : ℕ → ℕ → List Entry → Bool
has_room link number past = list_any (λ (e : Entry). is_room link number e.event) past

-- an offer that is withdrawn counts for one where its room has not come back
abbrev keeping_one : List Entry → Event → ℕ
keeping_one past (event.Withdraw link number) = if has_room link number past then 0 else 1
keeping_one past other = 0

abbrev keeping_among : List Entry → List Entry → ℕ
keeping_among past [] = 0
keeping_among past (e ∷ es) = keeping_one past e.event + keeping_among past es

abbrev pub keeping_in : List Entry → ℕ
keeping_in past = keeping_among past past

-- ---- one entry more

at_most_one : (past : List Entry) (v : Event) → keeping_one past v ≤ withdrawal_of v
at_most_one past (event.Withdraw link number) = at (has_room link number past)
  where
    at : (b : Bool) → (if b then 0 else 1) ≤ 1
    at true = omega arith
    at false = omega arith
at_most_one past other = omega arith

more_room : (past : List Entry) (e : Entry) (v : Event) → keeping_one (past ++ e ∷ []) v ≤ keeping_one past v
more_room past e (event.Withdraw link number) =
    subst (λ (b : Bool). (if b then 0 else 1) ≤ (if has_room link number past then 0 else 1))
    (sym (list_any-append (λ (x : Entry). is_room link number x.event) past (e ∷ []))) (at (has_room link number past) (is_room link number e.event || false))
  where
    at : (a b : Bool) → (if a || b then 0 else 1) ≤ (if a then 0 else 1)
    at true b = omega arith
    at false true = omega arith
    at false false = omega arith
more_room past e other = omega arith

more_rooms : (past : List Entry) (e : Entry) (es : List Entry) → keeping_among (past ++ e ∷ []) es ≤ keeping_among past es
more_rooms past e [] = omega arith
more_rooms past e (x ∷ es) = let one = more_room past e x.event in let ih = more_rooms past e es in omega arith

among_push : (past es : List Entry) (e : Entry) → keeping_among past (es ++ e ∷ []) ≡ keeping_among past es + keeping_one past e.event
among_push past [] e = omega arith
among_push past (x ∷ es) e = let ih = among_push past es e in omega arith

pub keeping_push : (past : List Entry) (e : Entry) → keeping_in (past ++ e ∷ []) ≤ keeping_in past + withdrawal_of e.event
keeping_push past e =
    let last = among_push (past ++ e ∷ []) past e in
    let one = at_most_one (past ++ e ∷ []) e.event in
    let others = more_rooms past e past in
    omega arith

-- ---- room comes back

module _ (past : List Entry) (stamp turn link number : ℕ) where
  abbrev room : Entry
  room = record { stamp = stamp; turn = turn; event = event.Room link number }

  -- of one that is withdrawn under this number
  -- The shorter journal has no such room and the longer one has, so the withdrawal of this link and number counted 1 and now counts 0. No other event is that withdrawal.
  given_back : has_room link number past ≡ false → (v : Event) → is_withdrawal link number v ≡ true → keeping_one (past ++ room ∷ []) v + 1 ≤ keeping_one past v
  given_back none (event.Withdraw l n) h = at (nat_eq l link) (nat_eq n number) refl refl h
    where
      its_own : l ≡ link → n ≡ number → is_room l n (event.Room link number) ≡ true
      its_own p q = by (nat_eq link l) (nat_eq number n) (eq-eqb link l (sym p)) (eq-eqb number n (sym q))
        where
          by : (a b : Bool) → a ≡ true → b ≡ true → a && b ≡ true
          by true true c d = refl
          by true false c d = d
          by false b c d = c

      counts : (a b : Bool) → a ≡ false → b ≡ true → (if a || (b || false) then 0 else 1) + 1 ≤ (if a then 0 else 1)
      counts true b c d = absurd (cc)
      counts false true c d = omega arith
      counts false false c d = absurd (cc)

      at : (a b : Bool) → nat_eq l link ≡ a → nat_eq n number ≡ b → a && b ≡ true → keeping_one (past ++ room ∷ []) (event.Withdraw l n) + 1 ≤ keeping_one past (event.Withdraw l n)
      at true true p q e =
          let same_link = eqb-true l link p in
          let same_number = eqb-true n number q in
          subst (λ (b : Bool). (if b then 0 else 1) + 1 ≤ (if has_room l n past then 0 else 1)) (sym (list_any-append (λ (x : Entry). is_room l n x.event) past (room ∷ [])))
          (counts (has_room l n past) (is_room l n (event.Room link number))
          (subst (λ (k : ℕ). has_room l k past ≡ false) (sym same_number) (subst (λ (k : ℕ). has_room k number past ≡ false) (sym same_link) none))
          (its_own same_link same_number))
      at true false p q e = cc
      at false b p q e = cc
  given_back none other h = cc

  one_gives : has_room link number past ≡ false → (es : List Entry) → list_any (λ (e : Entry). is_withdrawal link number e.event) es ≡ true
      → keeping_among (past ++ room ∷ []) es + 1 ≤ keeping_among past es
  one_gives none [] h = cc
  one_gives none (x ∷ es) h = at (is_withdrawal link number x.event) refl h (one_gives none es)
    where
      at : (b : Bool) → is_withdrawal link number x.event ≡ b → b || list_any (λ (e : Entry). is_withdrawal link number e.event) es ≡ true
          → (list_any (λ (e : Entry). is_withdrawal link number e.event) es ≡ true → keeping_among (past ++ room ∷ []) es + 1 ≤ keeping_among past es)
          → keeping_among (past ++ room ∷ []) (x ∷ es) + 1 ≤ keeping_among past (x ∷ es)
      at true e k later = let one = given_back none x.event e in let others = more_rooms past room es in omega arith
      at false e k later = let one = more_room past room x.event in let ih = later k in omega arith

  both : (a b : Bool) → a && not b ≡ true → (a ≡ true) × (b ≡ false)
  both true true h = let no : false ≡ true = h in absurd (cc)
  both true false h = (refl, refl)
  both false b h = let no : false ≡ true = h in absurd (cc)

  pub room_less : keeps_room link number past ≡ true → keeping_in (past ++ room ∷ []) + 1 ≤ keeping_in past
  room_less h =
      let k = both (list_any (λ (e : Entry). is_withdrawal link number e.event) past) (has_room link number past) h in
      let last = among_push (past ++ room ∷ []) past room in
      let gives = one_gives k.1 past k.0 in
      omega arith
