-- The offer that a cancel tries stands at its link, so it may be withdrawn; and the core goes on by what its link answers. That it stands is
-- read off the journal: each operation that was offered has one open offer there, and the end of the link has the same offers.
use Rattle.std.proofs.Common.{◌≡◌, ℕ, ◌+◌, ◌<◌, ◌≤◌, List, [], ◌∷◌, Option, Some, None, Bool, true, false, refl, sym, ap, ◌∙◌, subst, arith}
use Rattle.std.specs.Prelude.{IfNone, find, nat_eq, is_none, ◌&&◌, if◌then◌else◌}
use Rattle.std.proofs.lemmas.Bool.{eq-eqb}
use Rattle.ac_links.specs.Views.{may_withdraw}
use Rattle.work_item.specs.declared.ids.BlockId.{BlockId}
use Rattle.work_item.specs.declared.ids.Item.{Item}
use Rattle.cancel_scope.specs.declared.operation.Operation.{Operation}
use Rattle.cancel_scope.specs.declared.operation.Progress.{Progress}
use Rattle.cancel_scope.specs.declared.operation.Progress.TheVariants as progress
use Rattle.cancel_scope.specs.Outstanding.{is_offered, is_under}
use Rattle.core_channels.specs.Laws.{Told}
use Rattle.core_ports.specs.Ends.{offer_at}
use Rattle.core_ports.specs.Tells.{Tells}
use Rattle.core_state.specs.Cancelling.{Fate, is_to_try}
use Rattle.core_state.specs.Moves.{Move, On, Over}
use Rattle.stack_code.specs.Parts.{Parts}
use Rattle.code_meaning.specs.Machine.{Flat, FlatEnd, is_inside}
use Rattle.code_safety.specs.Fit.{one_if, total}
use Rattle.core_machine.specs.declared.tried.Tried.{Tried}
use Rattle.core_machine.specs.Machine.{Machine, IsOnItsWay, IsSameCore, has_ended}
use Rattle.core_machine.specs.Points.{HasTracks, is_at_point, operations_of, work_left}
use Rattle.core_machine.specs.Tracks.{standing_of}
use Rattle.core_machine.specs.Tried.{HasDecided, cancelled_at, cancelled_in, tried_as, tried_in, tried_of, tried_within}
use Rattle.core_driver.specs.inner.InStep.{Holds, InStep}
use Rattle.core_driver.specs.inner.Outside.{Outside}
use Rattle.core_driver.specs.inner.Rounds.{left_over}
use Rattle.core_driver.proofs.Together.{Called, recorded_holds, roomed_less, stands_open, with_room}

-- ---- when the core asks

-- it does not at a dispatch point
pub asks_nothing : (code : Parts) (state : Move Flat FlatEnd) → is_at_point state ≡ true → tried_of code state ≡ None
asks_nothing code (On m) h = by m.running h
  where
    by : (r : Option Item) → is_none r ≡ true → tried_within m (cancelled_at code m r) ≡ None
    by None h = refl
    by (Some t) h = let no : false ≡ true = h in absurd (cc)
asks_nothing code (Over x) h = refl

-- nor once it has ended
pub asks_going : (code : Parts) (state : Move Flat FlatEnd) (t : Tried) → tried_of code state ≡ Some t → has_ended state ≡ false
asks_going code (On m) t h = refl
asks_going code (Over x) t h = let no : None ≡ Some t = h in absurd (cc)

-- ---- what it asks of

found_counts : (test seen : Operation → Bool) (os : List Operation) (o : Operation) → find test os ≡ Some o → seen o ≡ true → 1 ≤ total (λ (o : Operation). one_if (seen o)) os
found_counts test seen [] o is h = let no : None ≡ Some o = is in absurd (cc)
found_counts test seen (x ∷ os) o is h = by (found_counts test seen os o) (test x) is
  where
    by : (find test os ≡ Some o → seen o ≡ true → 1 ≤ total (λ (o : Operation). one_if (seen o)) os) → (b : Bool) → (if b then Some x else find test os) ≡ Some o
        → 1 ≤ one_if (seen x) + total (λ (o : Operation). one_if (seen o)) os
    by later true is = let same : x ≡ o = (let e : Some x ≡ Some o = is in cc) in let one : one_if (seen x) ≡ 1 = ap (λ y. one_if (seen y)) same ∙ ap one_if h in omega (arith, one)
    by later false is = let rest = later is h in omega (arith, rest)

-- an operation that is tried stands under its number
stands_under : (o : Operation) (t : Tried) → tried_in (Some o) ≡ Some t → is_offered t.link t.number o ≡ true
stands_under o t h = by o.progress h
  where
    under : (n : ℕ) → Some (record { link = o.link; number = n }) ≡ Some t → (nat_eq o.link t.link && nat_eq n t.number) ≡ true
    under n h =
        let e : record { link = o.link; number = n } ≡ t = cc in
        let a : nat_eq o.link t.link ≡ true = eq-eqb o.link t.link (ap (λ (x : Tried). x.link) e) in
        let b : nat_eq n t.number ≡ true = eq-eqb n t.number (ap (λ (x : Tried). x.number) e) in
        ap (λ z. z && nat_eq n t.number) a ∙ b

    by : (p : Progress) → tried_as o.link p ≡ Some t → (nat_eq o.link t.link && is_under t.number p) ≡ true
    by progress.Waiting h = let no : None ≡ Some t = h in absurd (cc)
    by (progress.Offered n) h = under n h
    by (progress.Started n) h = let no : None ≡ Some t = h in absurd (cc)

pub tried_stands : (code : Parts) (state : Move Flat FlatEnd) (t : Tried) → tried_of code state ≡ Some t → 1 ≤ standing_of t.link t.number (operations_of state)
tried_stands code (Over x) t h = let no : None ≡ Some t = h in absurd (cc)
tried_stands code (On m) t h = by (cancelled_in code m) h
  where
    found : (block : BlockId) (q : Option Operation) → find (is_to_try (is_inside m block)) m.operations ≡ q → tried_in q ≡ Some t → 1 ≤ standing_of t.link t.number m.operations
    found block None is h = let no : None ≡ Some t = h in absurd (cc)
    found block (Some o) is h = found_counts (is_to_try (is_inside m block)) (is_offered t.link t.number) m.operations o is (stands_under o t h)

    by : (c : Option BlockId) → tried_within m c ≡ Some t → 1 ≤ standing_of t.link t.number m.operations
    by None h = let no : None ≡ Some t = h in absurd (cc)
    by (Some block) h = found block (find (is_to_try (is_inside m block)) m.operations) refl h

-- ---- the call of its link

pub withdraw_called : (o p : Outside) (told : Option Told) → Tells o.terms o.ends o.last told p.ends p.last → IfNone told (p.hand ≡ o.hand) → p.terms ≡ o.terms
    → p.polls ≡ o.polls → p.tries ≡ o.tries → Called o p told
withdraw_called o p told tells hand terms polls tries = record {
  tells = tells;
  hand = hand;
  terms = terms;
  polls = λ k. subst (λ (f : ℕ → ℕ). o.polls k ≤ f k) (sym polls) (omega arith);
  tries = λ k. subst (λ (f : ℕ → ℕ). o.tries k ≤ f k) (sym tries) (omega arith);
}

-- room was made
module _ (m b : Machine) (o : Outside) (h : InStep m o) (same : IsSameCore m b) (state : b.state ≡ m.state) (run : IsOnItsWay b) (tried : Tried)
    (asks : tried_of m.code m.state ≡ Some tried) where
  pub still_asks : tried_of b.code b.state ≡ Some tried
  still_asks = ap (λ (code : Parts). tried_of code b.state) same.code ∙ ap (tried_of m.code) state ∙ asks

  pub asks_on : has_ended b.state ≡ false
  asks_on = asks_going b.code b.state tried still_asks

  module _ (all : HasTracks b) where
    stands : 1 ≤ standing_of tried.link tried.number (operations_of b.state)
    stands = tried_stands b.code b.state tried still_asks

    pub may_be_withdrawn : may_withdraw (offer_at (o.ends tried.link) tried.number) ≡ true
    may_be_withdrawn = stands_open b o (with_room m b o h same state run) (all asks_on) tried.link tried.number stands

    -- the outcome was told, and is recorded
    module _ (p : Outside) (t : Told) (call : Called o p (Some t)) (n : Machine) (it : Fate) (done : HasDecided b tried it t.event t.stamp n)
        (less : (ranks : List ℕ) → work_left ranks n < work_left ranks b) (goes : IsOnItsWay n) where
      pub decided_holds : Holds m o n p
      decided_holds = recorded_holds m b o h same state run p t call n done.flat.shared.turn (record { journal = done.journal; code = done.code; core = done.core; bound = done.bound }) goes

      pub decided_less : (ranks : List ℕ) → left_over ranks n p.last < left_over ranks m o.last
      decided_less ranks =
          let a = less ranks in
          let c = roomed_less m b o h same state run ranks in
          let d = decided_holds.ports.clock in
          omega (arith, a, c, d)
