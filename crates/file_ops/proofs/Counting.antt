-- The disk is called once for each request of a bound file that is done, and fails where FAULT is answered: one deed more is one call more or none.
use Rattle.std.proofs.Common.{◌≡◌, ℕ, suc, ◌+◌, ◌≤◌, List, [], ◌∷◌, ◌++◌, Option, Some, None, Bool, true, false, cond, refl, sym, ap, ◌∙◌, subst, arith, length}
use Rattle.std.specs.Prelude.{IfSome, ◌&&◌}
use Rattle.std.specs.List.{filter}
use Rattle.ac_base.specs.declared.entry.Payload.{Payload}
use Rattle.ac_base.specs.declared.entry.Payload.TheVariants.{Int, Read, Write}
use Rattle.ac_base.specs.declared.entry.Answer.{Answer}
use Rattle.ac_base.specs.declared.entry.Event.TheVariants.{Pass}
use Rattle.ac_links.specs.Payloads.{answer_fits}
use Rattle.ac_history.specs.Files.{Deed, deed_of}
use Rattle.ac_outside.specs.Disks.{Held, DiskTold}
use Rattle.ac_outside.specs.Told.{one_more}
use Rattle.file_ops.specs.Asked.{is_of_bound, is_fault, held_after, FaultIsDue, Called, AskedBy}
use Rattle.file_ops.specs.Counting.{raised, is_call, is_failure, calls_among, failures_among, AreCounted}

-- ---- what is passed is no deed

pub no_deed : (q : Option Payload) (l n : ℕ) → deed_of q (Pass l n) ≡ []
no_deed None l n = refl
no_deed (Some p) l n = refl

-- ---- one deed more

abbrev one_if : Bool → ℕ
one_if true = 1
one_if false = 0

count_push : (test : Deed → Bool) (ds : List Deed) (d : Deed) → length (filter test (ds ++ d ∷ [])) ≡ length (filter test ds) + one_if (test d)
count_push test [] d = by (test d)
  where
    by : (b : Bool) → length (cond b (d ∷ []) []) ≡ 0 + one_if b
    by true = refl
    by false = refl
count_push test (x ∷ ds) d = by (test x) (count_push test ds d)
  where
    by : (b : Bool) → length (filter test (ds ++ d ∷ [])) ≡ length (filter test ds) + one_if (test d)
        → length (cond b (x ∷ filter test (ds ++ d ∷ [])) (filter test (ds ++ d ∷ []))) ≡ length (cond b (x ∷ filter test ds) (filter test ds)) + one_if (test d)
    by true e = omega arith
    by false e = e

raised_by : (count n : ℕ) (b : Bool) → raised count (n + one_if b) ≡ cond b (one_more (raised count n)) (raised count n)
raised_by count n true = ap (raised count) (let e : n + 1 ≡ suc n = omega arith in e)
raised_by count n false = ap (raised count) (let e : n + 0 ≡ n = omega arith in e)

rises_with : (m n : ℕ) → m ≤ n → one_more m ≤ one_more n
rises_with m n h = omega arith

-- a call of a request that has its answer is counted
calls_once : (h : Held) (payload : Payload) (answer : Answer) → answer_fits answer payload ≡ true → (held_after h payload answer).calls ≡ one_more h.calls
calls_once h (Int v) answer f = cc
calls_once h (Read f a n) answer e = refl
calls_once h (Write f a b) answer e = refl

pub counted_none : (d : DiskTold) → AreCounted d d []
counted_none d = record { calls = by d.held; failures = omega arith; none = λ e. refl }
  where
    by : (q : Option Held) → IfSome q (λ h. IfSome q (λ g. g.calls ≡ h.calls))
    by None = tt
    by (Some h) = refl

-- what is held after one call more, if anything is
calls_push : (start : Option Held) (mid end : Option Held) (n : ℕ) (payload : Payload) (answer : Answer) → answer_fits answer payload ≡ true
    → IfSome mid (λ h. end ≡ Some (held_after h payload answer)) → (mid ≡ None → end ≡ None)
    → IfSome start (λ h. IfSome mid (λ g. g.calls ≡ raised h.calls n)) → IfSome start (λ h. IfSome end (λ g. g.calls ≡ raised h.calls (suc n)))
calls_push None mid end n payload answer f x z c = tt
calls_push (Some h) None end n payload answer f x z c = subst (λ q. IfSome q (λ g. g.calls ≡ raised h.calls (suc n))) (sym (z refl)) tt
calls_push (Some h) (Some g) end n payload answer f x z c =
    subst (λ q. IfSome q (λ k. k.calls ≡ raised h.calls (suc n))) (sym x) (calls_once g payload answer f ∙ ap one_more c)

module _ (before mid after : DiskTold) (ds : List Deed) (payload : Payload) (answer : Answer) (was : AreCounted before mid ds) (bound : mid.bound ≡ before.bound) where
  abbrev d : Deed
  d = record { payload = payload; answer = answer }

  calls_are : (b : Bool) → is_of_bound before.bound payload ≡ b → calls_among before.bound (ds ++ d ∷ []) ≡ calls_among before.bound ds + one_if b
  calls_are b e = count_push (is_call before.bound) ds d ∙ ap (λ x. calls_among before.bound ds + one_if x) e

  failures_are : (b c : Bool) → is_of_bound before.bound payload ≡ b → is_fault answer ≡ c → failures_among before.bound (ds ++ d ∷ []) ≡ failures_among before.bound ds + one_if (b && c)
  failures_are b c e f = count_push (is_failure before.bound) ds d ∙ ap (λ x. failures_among before.bound ds + one_if (x && is_fault answer)) e
      ∙ ap (λ x. failures_among before.bound ds + one_if (b && x)) f

  by_fault : (c : Bool) → is_of_bound before.bound payload ≡ true → is_fault answer ≡ c → Called mid after payload answer → FaultIsDue c mid.faults after.faults → AreCounted before after
      (ds ++ d ∷ [])
  by_fault true e f x rose = let n = failures_are true true e f in let w = was.failures in record {
    calls = subst (λ k. IfSome before.held (λ h. IfSome after.held (λ g. g.calls ≡ raised h.calls k))) (sym (calls_are true e ∙ (let q : calls_among before.bound ds + 1 ≡ suc
        (calls_among before.bound ds) = omega arith in q)))
        (calls_push before.held mid.held after.held (calls_among before.bound ds) payload answer x.fits x.held x.silent was.calls);
    failures = let up = rises_with (raised before.faults (failures_among before.bound ds)) mid.faults w in
        let r = ap (raised before.faults) n ∙ raised_by before.faults (failures_among before.bound ds) true in omega arith;
    none = λ z. absurd (omega arith);
  }
  by_fault false e f x well = let n = failures_are true false e f in let w = was.failures in record {
    calls = subst (λ k. IfSome before.held (λ h. IfSome after.held (λ g. g.calls ≡ raised h.calls k))) (sym (calls_are true e ∙ (let q : calls_among before.bound ds + 1 ≡ suc
        (calls_among before.bound ds) = omega arith in q)))
        (calls_push before.held mid.held after.held (calls_among before.bound ds) payload answer x.fits x.held x.silent was.calls);
    failures = let r = ap (raised before.faults) n ∙ raised_by before.faults (failures_among before.bound ds) false in omega arith;
    none = λ z. well ∙ was.none (let m : failures_among before.bound ds ≡ 0 = omega arith in m);
  }

  by_bound : (b : Bool) → is_of_bound before.bound payload ≡ b → AskedBy b mid after payload answer → AreCounted before after (ds ++ d ∷ [])
  by_bound true e x = by_fault (is_fault answer) e refl x x.cause
  by_bound false e x =
      let c = calls_are false e ∙ (let q : calls_among before.bound ds + 0 ≡ calls_among before.bound ds = omega arith in q) in
      let f = failures_are false (is_fault answer) e refl ∙ (let q : failures_among before.bound ds + 0 ≡ failures_among before.bound ds = omega arith in q) in
      subst (λ t. AreCounted before t (ds ++ d ∷ [])) (sym x.0)
      (record {
        calls = subst (λ k. IfSome before.held (λ h. IfSome mid.held (λ g. g.calls ≡ raised h.calls k))) (sym c) was.calls;
        failures = subst (λ k. raised before.faults k ≤ mid.faults) (sym f) was.failures;
        none = λ z. was.none (sym f ∙ z);
      })

  pub counted_more : AskedBy (is_of_bound mid.bound payload) mid after payload answer → AreCounted before after (ds ++ d ∷ [])
  counted_more x = by_bound (is_of_bound mid.bound payload) (ap (λ n. is_of_bound n payload) (sym bound)) x
