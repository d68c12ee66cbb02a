-- In a pass the parties go on one by one, in a round in two halves: what is left of all clocks falls where one makes an entry, and else it is
-- the same. So it falls in each turn of a run but the last, in which each party has stopped after all was settled, and the settling stands.
use Rattle.std.proofs.Common.{◌≡◌, ℕ, ◌+◌, ◌-◌, ◌^◌, ◌<◌, ◌++◌, List, [], ◌∷◌, length, get_or, slice_set, Bool, true, false, ◌||◌, ◌≤◌, refl, sym, ◌∙◌, ap, subst, arith}
use Rattle.std.specs.Prelude.{IfOk, Result, Ok}
use Rattle.std.proofs.lemmas.List.Sums.{sum_by-cons}
use Rattle.settled_rounds.specs.declared.party.Way.{Way}
use Rattle.settled_rounds.specs.Linked.{Pointwise, OnLinks}
use Rattle.settled_rounds.specs.inner.Passing.{left, Moves, Passes, Settles, Works}
use Rattle.settled_rounds.specs.inner.Settling.{SettlesAll}
use Rattle.settled_rounds.proofs.Pointwise.{each_self, each_at, each_joined, at_ok}

module _ {P : Type 0} (later : P → P → Type 0) (later_self : (p : P) → later p p) where
  -- the first has gone on, and the rest
  pub more_later : (all front rest qs : List P) (x q : P) → all ≡ front ++ rest → length front ≡ 1 → later (get_or front 0 x) q → Pointwise later rest qs
      → Pointwise later all (slice_set front 0 q ++ qs)
  more_later all [] rest qs x q e len one more = absurd (omega arith)
  more_later all (y ∷ z ∷ ys) rest qs x q e len one more = absurd (omega arith)
  more_later all (y ∷ []) rest qs x q e len one more = subst (λ (xs : List P). Pointwise later xs (q ∷ qs)) (sym e) (one, more)

  pub one_later : (all front rest : List P) (x q : P) → all ≡ front ++ rest → length front ≡ 1 → later (get_or front 0 x) q
      → Pointwise later all (slice_set front 0 q ++ rest)
  one_later all front rest x q e len one = more_later all front rest rest x q e len one (each_self later later_self rest)

module _ {P : Type 0} (clock : P → ℕ) (still : P → P → Type 0) (stopped : P → Type 0) where
  left_cons : (p : P) (ps : List P) → left clock (p ∷ ps) ≡ (2 ^ 60 - clock p) + left clock ps
  left_cons p ps = sum_by-cons (λ p. 2 ^ 60 - clock p) p ps

  same_left : (ps qs : List P) → Pointwise (λ p q. clock q ≡ clock p) ps qs → left clock qs ≡ left clock ps
  same_left [] [] h = refl
  same_left [] (q ∷ qs) h = absurd h
  same_left (p ∷ ps) [] h = absurd h
  same_left (p ∷ ps) (q ∷ qs) h = left_cons q qs ∙ ap (λ n. (2 ^ 60 - n) + left clock qs) h.0 ∙ ap (λ n. (2 ^ 60 - clock p) + n) (same_left ps qs h.1) ∙ sym (left_cons p ps)

-- ---- what is left

module _ {P : Type 0} (clock : P → ℕ) where
  never_rises : (old new : List P) (m : Bool) → Moves clock old new m → left clock new ≤ left clock old
  never_rises old new true h = let l : left clock new < left clock old = h.one refl in omega arith
  never_rises old new false h = let l : left clock new ≡ left clock old = h.none refl in omega arith

-- ---- a settling

module _ {P : Type 0} (clock : P → ℕ) (later : P → P → Type 0) (known : ℕ → P → P → Type 0) (still : P → P → Type 0) (apart : ℕ → P → P → Type 0)
    (settled : ℕ → P → P → Type 0) (stopped : P → Type 0) (ways : List Way) where
  known_after : ((l : ℕ) (p q : P) → settled l p q → known l p q) → ((l : ℕ) (p q r s : P) → known l p q → still p r → still q s → known l r s)
      → (mid qs : List P) → OnLinks settled ways mid → Pointwise still mid qs → OnLinks known ways qs
  known_after knows stays mid qs all s l w c d is from to =
      let (a, a_at, ac) = each_at still mid qs w.from c s from in
      let (b, b_at, bd) = each_at still mid qs w.to d s to in
      stays l a b c d (knows l a b (all l w a b is a_at b_at)) ac bd

  -- one made an entry after all was settled
  pub settles_moved : (ps mid qs : List P) (m : Bool) → SettlesAll clock later known still apart stopped ways ps mid → Passes clock still stopped mid qs m → m ≡ true
      → Settles clock settled stopped ways ps qs m
  settles_moved ps mid qs m s p is = record {
    one = λ e. let a : left clock mid ≡ left clock ps = same_left clock still stopped ps mid s.clocks in let b : left clock qs < left clock mid = p.moves.one e in omega arith;
    all_settled = λ e. absurd cc;
    rest = λ e. absurd cc;
  }

  -- none did, and all is settled again
  pub settles_still : ((l : ℕ) (p q : P) → settled l p q → known l p q) → ((l : ℕ) (p q r s : P) → known l p q → still p r → still q s → known l r s)
      → (ps mid qs rs : List P) (m : Bool) → OnLinks settled ways mid → Passes clock still stopped mid qs m → m ≡ false
      → SettlesAll clock later known still apart stopped ways qs rs → OnLinks settled ways rs → Settles clock settled stopped ways ps rs m
  settles_still knows stays ps mid qs rs m all p is again done = record {
    one = λ e. absurd cc;
    all_settled = λ e. done;
    rest = λ e. again.again (known_after knows stays mid qs all (p.same is)) p.rest;
  }

  -- some made an entry after all was settled
  pub moves_settle : (ps mid qs : List P) (m : Bool) → SettlesAll clock later known still apart stopped ways ps mid → Moves clock mid qs m → m ≡ true
      → Settles clock settled stopped ways ps qs true
  moves_settle ps mid qs m s p is = record {
    one = λ e. let a : left clock mid ≡ left clock ps = same_left clock still stopped ps mid s.clocks in let b : left clock qs < left clock mid = p.one is in omega arith;
    all_settled = λ e. absurd cc;
    rest = λ e. absurd cc;
  }

  -- none did, and what follows is a settling
  pub none_settle : (ps mid qs rs : List P) (m n : Bool) → SettlesAll clock later known still apart stopped ways ps mid → Moves clock mid qs m → m ≡ false
      → Settles clock settled stopped ways qs rs n → Settles clock settled stopped ways ps rs n
  none_settle ps mid qs rs m n s p is q = record {
    one = λ e.
        let a : left clock mid ≡ left clock ps = same_left clock still stopped ps mid s.clocks in
        let b : left clock qs ≡ left clock mid = p.none is in
        let c : left clock rs < left clock qs = q.one e in
        omega arith;
    all_settled = q.all_settled;
    rest = q.rest;
  }

-- ---- the parts of a round

module _ {P : Type 0} (clock : P → ℕ) (worked : P → P → Type 0) where
  left_append : (ps qs : List P) → left clock (ps ++ qs) ≡ left clock ps + left clock qs
  left_append [] qs = omega arith
  left_append (p ∷ ps) qs =
      let a = sum_by-cons (λ p. 2 ^ 60 - clock p) p (ps ++ qs) in
      let b = sum_by-cons (λ p. 2 ^ 60 - clock p) p ps in
      let c = left_append ps qs in
      omega (arith, a, b, c)

  moves_either : (ps qs xs ys : List P) (m n : Bool) → Moves clock ps xs m → Moves clock qs ys n → Moves clock (ps ++ qs) (xs ++ ys) (m || n)
  moves_either ps qs xs ys true n a b = record {
    one = λ e.
        let f : left clock xs < left clock ps = a.one refl in
        let g : left clock ys ≤ left clock qs = never_rises clock qs ys n b in
        let c = left_append ps qs in
        let d = left_append xs ys in
        omega (arith, c, d, f, g);
    none = λ e. absurd cc;
  }
  moves_either ps qs xs ys false n a b = record {
    one = λ e.
        let f : left clock xs ≡ left clock ps = a.none refl in
        let g : left clock ys < left clock qs = b.one e in
        let c = left_append ps qs in
        let d = left_append xs ys in
        omega (arith, c, d, f, g);
    none = λ e.
        let f : left clock xs ≡ left clock ps = a.none refl in
        let g : left clock ys ≡ left clock qs = b.none e in
        let c = left_append ps qs in
        let d = left_append xs ys in
        omega (arith, c, d, f, g);
  }

  either : (all ps qs xs ys : List P) (m n : Bool) → ps ++ qs ≡ all → Works clock worked ps xs m → Works clock worked qs ys n
      → Works clock worked all (xs ++ ys) (m || n)
  either all ps qs xs ys m n cut a b = record {
    moves = subst (λ zs. Moves clock zs (xs ++ ys) (m || n)) cut (moves_either ps qs xs ys m n a.moves b.moves);
    parts = each_joined worked all ps qs xs ys cut a.parts b.parts;
  }

  joined : {E : Type 0} (all ps qs xs ys : List P) (r s : Result Bool E) (m n : Bool) → ps ++ qs ≡ all → r ≡ Ok m → s ≡ Ok n
      → IfOk r (λ it. Works clock worked ps xs it) → IfOk s (λ it. Works clock worked qs ys it) → Works clock worked all (xs ++ ys) (m || n)
  joined all ps qs xs ys r s m n cut is also a b =
      either all ps qs xs ys m n cut (at_ok r m (λ it. Works clock worked ps xs it) is a) (at_ok s n (λ it. Works clock worked qs ys it) also b)

  pub works_first : {E : Type 0} (all ps qs xs ys : List P) (r s : Result Bool E) (m n : Bool) → ps ++ qs ≡ all → r ≡ Ok m → s ≡ Ok n
      → IfOk r (λ it. Works clock worked ps xs it) → IfOk s (λ it. Works clock worked qs ys it) → m ≡ true → Works clock worked all (xs ++ ys) m
  works_first all ps qs xs ys r s true n cut is also a b e = joined all ps qs xs ys r s true n cut is also a b
  works_first all ps qs xs ys r s false n cut is also a b e = absurd cc

  pub works_second : {E : Type 0} (all ps qs xs ys : List P) (r s : Result Bool E) (m n : Bool) → ps ++ qs ≡ all → r ≡ Ok m → s ≡ Ok n
      → IfOk r (λ it. Works clock worked ps xs it) → IfOk s (λ it. Works clock worked qs ys it) → m ≡ false → Works clock worked all (xs ++ ys) n
  works_second all ps qs xs ys r s true n cut is also a b e = absurd cc
  works_second all ps qs xs ys r s false n cut is also a b e = joined all ps qs xs ys r s false n cut is also a b
