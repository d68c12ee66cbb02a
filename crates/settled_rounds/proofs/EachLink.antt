-- The settling of one link leaves the parties that have no end of it, and of all links one after the other each is settled in the end, since
-- what is settled is disturbed by no other link. Where all was known before, nothing is new to a party that has stopped.
use Rattle.std.proofs.Common.{◌≡◌, ℕ, ◌+◌, ◌<◌, ◌≤◌, ◌++◌, List, length, get_or, slice_set, Some, refl, sym, ◌∙◌, ap, subst, arith, inl, inr}
use Rattle.std.specs.Prelude.{slice_get, IfOk, OnOk, Result, Ok, Err}
use Rattle.std.specs.List.{AllByRecursion}
use Rattle.std.proofs.lemmas.Bool.{cases_lt}
use Rattle.std.proofs.lemmas.Option.{slice_get_within}
use Rattle.settled_rounds.specs.declared.party.Way.{Way}
use Rattle.settled_rounds.specs.Linked.{Pointwise, OnLinks}
use Rattle.settled_rounds.specs.inner.Settling.{Keeps, SettlesOne, SettlesAll}
use Rattle.settled_rounds.proofs.Pointwise.{each_at, each_self, each_then, each_weaker, all_keep}
use Rattle.settled_rounds.proofs.Pairs.{two_each, two_read, two_stand, same_Some}

pub if_ok : {A E : Type 0} (r : Result A E) (X Y : A → Type 0) → ((a : A) → X a → Y a) → IfOk r X → IfOk r Y
if_ok (Ok a) X Y f h = f a h
if_ok (Err e) X Y f h = h

pub on_ok : {A E : Type 0} (r : Result A E) (X Y : Type 0) → (X → Y) → OnOk r X → OnOk r Y
on_ok (Ok a) X Y f h = f h
on_ok (Err e) X Y f h = h

module _ {P : Type 0} (clock : P → ℕ) (later : P → P → Type 0) (known : ℕ → P → P → Type 0) (still : P → P → Type 0) (apart : ℕ → P → P → Type 0)
    (later_self : (p : P) → later p p) (still_self : (p : P) → still p p) (apart_self : (l : ℕ) (p : P) → apart l p p) where
  keeps_self : (l : ℕ) (p : P) → Keeps clock later known still apart l p p
  keeps_self l p = record { is_later = later_self p; same_clock = refl; is_apart = apart_self l p }

  both_keep : (all front back : List P) (i j l : ℕ) (x y c d : P) → all ≡ front ++ back → length front ≡ j → i < j → j < length all
      → Keeps clock later known still apart l (get_or front i x) c → Keeps clock later known still apart l (get_or back 0 y) d
      → Pointwise (Keeps clock later known still apart l) all (slice_set front i c ++ slice_set back 0 d)
  both_keep all front back i j l x y c d e len below inside one two =
      two_each (Keeps clock later known still apart l) (keeps_self l) all front back i j x y c d e len below inside one two

  -- the owner stands before the peer
  pub settles_up : (all front back : List P) (i j l : ℕ) (x y c d : P) → all ≡ front ++ back → length front ≡ j → i < j → j < length all
      → Keeps clock later known still apart l (get_or front i x) c → Keeps clock later known still apart l (get_or back 0 y) d
      → (known l (get_or front i x) (get_or back 0 y) → still (get_or front i x) c × still (get_or back 0 y) d)
      → SettlesOne clock later known still apart l i j all (slice_set front i c ++ slice_set back 0 d)
  settles_up all front back i j l x y c d e len below inside one two again = record {
    keeps = both_keep all front back i j l x y c d e len below inside one two;
    again = λ k.
        let (a, b) = two_stand all front back i j x y e len below inside in
        let (s, t) = again (k (get_or front i x) (get_or back 0 y) a b) in
        two_each still still_self all front back i j x y c d e len below inside s t;
  }

  -- it stands behind
  pub settles_down : (all front back : List P) (i j l : ℕ) (x y c d : P) → all ≡ front ++ back → length front ≡ j → i < j → j < length all
      → Keeps clock later known still apart l (get_or front i x) c → Keeps clock later known still apart l (get_or back 0 y) d
      → (known l (get_or back 0 y) (get_or front i x) → still (get_or back 0 y) d × still (get_or front i x) c)
      → SettlesOne clock later known still apart l j i all (slice_set front i c ++ slice_set back 0 d)
  settles_down all front back i j l x y c d e len below inside one two again = record {
    keeps = both_keep all front back i j l x y c d e len below inside one two;
    again = λ k.
        let (a, b) = two_stand all front back i j x y e len below inside in
        let (s, t) = again (k (get_or back 0 y) (get_or front i x) b a) in
        two_each still still_self all front back i j x y c d e len below inside t s;
  }

pub settled_up : {P : Type 0} (settled : P → P → Type 0) (all front back : List P) (i j : ℕ) (c d : P) → all ≡ front ++ back → length front ≡ j → i < j → j < length all
    → settled c d → (a b : P) → slice_get (slice_set front i c ++ slice_set back 0 d) i ≡ Some a → slice_get (slice_set front i c ++ slice_set back 0 d) j ≡ Some b → settled a b
settled_up settled all front back i j c d e len below inside s a b at_i at_j =
    let (reads, also) = two_read all front back i j c d e len below inside in
    let p = same_Some c a (sym reads ∙ at_i) in
    let q = same_Some d b (sym also ∙ at_j) in
    subst (λ z. settled a z) q (subst (λ z. settled z d) p s)

-- ---- all links

module _ {P : Type 0} (clock : P → ℕ) (later : P → P → Type 0) (known : ℕ → P → P → Type 0) (still : P → P → Type 0) (apart : ℕ → P → P → Type 0)
    (settled pair : ℕ → P → P → Type 0) (stopped : P → Type 0) where
  -- the links below this number are settled
  pub record SettledBelow (ways : List Way) (n : ℕ) (ps qs : List P) : Type 0 where
    pub all_later : Pointwise later ps qs
    pub clocks : Pointwise (λ p q. clock q ≡ clock p) ps qs
    pub all_known : OnLinks known ways ps → OnLinks known ways qs
    pub rest : OnLinks known ways ps → AllByRecursion stopped ps → AllByRecursion stopped qs
    pub below : (l : ℕ) (w : Way) (a b : P) → l < n → slice_get ways l ≡ Some w → slice_get qs w.from ≡ Some a → slice_get qs w.to ≡ Some b → settled l a b

  module _ (later_self : (p : P) → later p p) where
    pub none_settled : (ways : List Way) (ps : List P) → SettledBelow ways 0 ps ps
    none_settled ways ps = record {
      all_later = each_self later later_self ps;
      clocks = each_self (λ p q. clock q ≡ clock p) (λ p. refl) ps;
      all_known = λ k. k;
      rest = λ k s. s;
      below = λ l w a b less is from to. absurd (omega arith);
    }

  module _ (later_then : (p q r : P) → later p q → later q r → later p r)
      (settled_apart : (l o : ℕ) (p q r s : P) → settled l p q → (l ≡ o → ⊥) → apart o p r → apart o q s → settled l r s)
      (known_still : (l : ℕ) (p q r s : P) → known l p q → still p r → still q s → known l r s)
      (stopped_still : (l : ℕ) (p q : P) → stopped p → apart l p q → still p q → stopped q) where
    known_on : (ways : List Way) (qs rs : List P) → OnLinks known ways qs → Pointwise still qs rs → OnLinks known ways rs
    known_on ways qs rs k s l w c d is from to =
        let (a, a_at, ac) = each_at still qs rs w.from c s from in
        let (b, b_at, bd) = each_at still qs rs w.to d s to in
        known_still l a b c d (k l w a b is a_at b_at) ac bd

    all_still : (ways : List Way) (n : ℕ) (w : Way) (qs rs : List P) → slice_get ways n ≡ Some w → SettlesOne clock later known still apart n w.from w.to qs rs
        → OnLinks known ways qs → Pointwise still qs rs
    all_still ways n w qs rs is one k = one.again (λ a b at_a at_b. k n w a b is at_a at_b)

    still_below : (ways : List Way) (n : ℕ) (w : Way) (ps qs rs : List P) → slice_get ways n ≡ Some w → SettledBelow ways n ps qs
        → SettlesOne clock later known still apart n w.from w.to qs rs → SettledBelow ways n ps rs
    still_below ways n w ps qs rs is all one = record {
      all_later = each_then later later_then ps qs rs all.all_later (each_weaker (Keeps clock later known still apart n) later (λ p q h. h.is_later) qs rs one.keeps);
      clocks = each_then (λ p q. clock q ≡ clock p) (λ p q r a b. b ∙ a) ps qs rs all.clocks
          (each_weaker (Keeps clock later known still apart n) (λ p q. clock q ≡ clock p) (λ p q h. h.same_clock) qs rs one.keeps);
      all_known = λ k. let m = all.all_known k in known_on ways qs rs m (all_still ways n w qs rs is one m);
      rest = λ k s.
          let m = all.all_known k in
          all_keep (Keeps clock later known still apart n) still stopped (λ p q h t z. stopped_still n p q z h.is_apart t) qs rs one.keeps
          (all_still ways n w qs rs is one m) (all.rest k s);
      below = λ l v c d before at from to.
          let (a, a_at, ac) = each_at (Keeps clock later known still apart n) qs rs v.from c one.keeps from in
          let (b, b_at, bd) = each_at (Keeps clock later known still apart n) qs rs v.to d one.keeps to in
          settled_apart l n a b c d (all.below l v a b before at a_at b_at) (λ e. absurd (omega arith)) ac.is_apart bd.is_apart;
    }

    -- which stands at an error too
    pub one_more_kept : (ways : List Way) (n : ℕ) (w : Way) (ps qs rs : List P) → slice_get ways n ≡ Some w → SettledBelow ways n ps qs
        → SettlesOne clock later known still apart n w.from w.to qs rs → SettlesAll clock later known still apart stopped ways ps rs
    one_more_kept ways n w ps qs rs is all one =
        let kept = still_below ways n w ps qs rs is all one in
        record { all_later = kept.all_later; clocks = kept.clocks; again = kept.rest }

    pub one_more_settled : (ways : List Way) (n : ℕ) (w : Way) (ps qs rs : List P) → slice_get ways n ≡ Some w → SettledBelow ways n ps qs
        → SettlesOne clock later known still apart n w.from w.to qs rs
        → ((a b : P) → slice_get rs w.from ≡ Some a → slice_get rs w.to ≡ Some b → settled n a b) → SettledBelow ways (n + 1) ps rs
    one_more_settled ways n w ps qs rs is all one here =
        let kept = still_below ways n w ps qs rs is all one in
        record {
          all_later = kept.all_later;
          clocks = kept.clocks;
          all_known = kept.all_known;
          rest = kept.rest;
          below = λ l v c d less at from to.
              elim (cases_lt l n) [
                | inl before ↦ kept.below l v c d before at from to
                | inr last ↦
                    (let e : n ≡ l = omega arith in
                    let same : w ≡ v = same_Some w v (sym is ∙ ap (slice_get ways) e ∙ at) in
                    subst (λ k. settled k c d) e
                    (here c d (subst (λ z. slice_get rs z.from ≡ Some c) (sym same) from) (subst (λ z. slice_get rs z.to ≡ Some d) (sym same) to)))
              ];
        }

  pub all_below : (ways : List Way) (n : ℕ) (ps qs : List P) → length ways ≤ n → SettledBelow ways n ps qs → OnLinks settled ways qs
  all_below ways n ps qs whole all l w a b is from to = all.below l w a b (let h = slice_get_within ways l w is in omega arith) is from to

  module _ (pair_stays : (l : ℕ) (p q r s : P) → pair l p q → later p r → later q s → pair l r s) where
    pub pairs_stay : (ways : List Way) (ps qs : List P) → OnLinks pair ways ps → Pointwise later ps qs → OnLinks pair ways qs
    pairs_stay ways ps qs paired all l w c d is from to =
        let (a, a_at, ac) = each_at later ps qs w.from c all from in
        let (b, b_at, bd) = each_at later ps qs w.to d all to in
        pair_stays l a b c d (paired l w a b is a_at b_at) ac bd
