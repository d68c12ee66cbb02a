-- The two ends of a channel are given to its cores.
use Rattle.std.proofs.Common.{◌≡◌, ℕ, List, [], ◌∷◌, ◌++◌, Option, Some, Bool, true, false, cond, refl, sym, ap, ◌∙◌, subst, arith, set}
use Rattle.std.specs.Prelude.{slice_get, ◌==◌}
use Rattle.std.proofs.lemmas.Bool.Decides.{nat_tests}
use Rattle.std.proofs.lemmas.Option.{slice_get_within}
use Rattle.stack_code.specs.declared.parts.ChannelEnds.{ChannelEnds}
use Rattle.end_ports.specs.Held.{SendingAt, ReceivingAt}
use Rattle.run_ends.specs.inner.Hands.{Handed, sends_in, recvs_in, Gives}
use Rattle.run_ends.proofs.Places.{are_equal, at_changed, at_others, map_changed}

equal_if : (m n : ℕ) → (m == n) ≡ true → m ≡ n
equal_if m n h = grind (arith, nat_tests)

unequal_if : (m n : ℕ) → (m == n) ≡ false → m ≡ n → ⊥
unequal_if m n h e = let t = are_equal m n e in cc

-- one element is another one, and of each is taken what f says
module _ {Y : Type 0} (f : Option Handed → Y) (xs : List Handed) (j : ℕ) (x y : Handed) (was : slice_get xs j ≡ Some x) where
  pub changed : (g : Y → Y) → f (Some y) ≡ g (f (Some x)) → (k : ℕ) → f (slice_get (set xs j y) k) ≡ cond (j == k) (g (f (slice_get xs k))) (f (slice_get xs k))
  changed g e k = by (j == k) refl
    where
      by : (b : Bool) → (j == k) ≡ b → f (slice_get (set xs j y) k) ≡ cond b (g (f (slice_get xs k))) (f (slice_get xs k))
      by true t = let same = equal_if j k t in
          subst (λ k. f (slice_get (set xs j y) k) ≡ g (f (slice_get xs k))) same
          (ap f (at_changed xs j y (slice_get_within xs j x was)) ∙ e ∙ sym (ap (λ o. g (f o)) was))
      by false t = ap f (at_others xs j k y (unequal_if j k t))

  pub unchanged : f (Some y) ≡ f (Some x) → (k : ℕ) → f (slice_get (set xs j y) k) ≡ f (slice_get xs k)
  unchanged e k = changed (λ v. v) e k ∙ either (j == k) (f (slice_get xs k))
    where
      either : (b : Bool) (v : Y) → cond b v v ≡ v
      either true v = refl
      either false v = refl

pub gives : (old : List Handed) (ends : ChannelEnds) (send : SendingAt) (recv : ReceivingAt) (a a' b b' : Handed)
    → slice_get old ends.from ≡ Some a → a' ≡ record a { sends = a.sends ++ send ∷ [] }
    → slice_get (set old ends.from a') ends.to ≡ Some b → b' ≡ record b { recvs = b.recvs ++ recv ∷ [] }
    → Gives old ends send recv (set (set old ends.from a') ends.to b')
gives old ends send recv a a' b b' was is was' is' = record {
  sends = λ k. unchanged sends_in (set old ends.from a') ends.to b b' was' (ap (λ (h : Handed). h.sends) is') k
      ∙ changed sends_in old ends.from a a' was (λ xs. xs ++ send ∷ []) (ap (λ (h : Handed). h.sends) is) k;
  recvs = λ k. changed recvs_in (set old ends.from a') ends.to b b' was' (λ xs. xs ++ recv ∷ []) (ap (λ (h : Handed). h.recvs) is') k
      ∙ ap (λ (xs : List ReceivingAt). cond (ends.to == k) (xs ++ recv ∷ []) xs) (unchanged recvs_in old ends.from a a' was (ap (λ (h : Handed). h.recvs) is) k);
  asks = map_changed (λ (h : Handed). h.ask) (set old ends.from a') ends.to b b' was' (ap (λ (h : Handed). h.ask) is')
      ∙ map_changed (λ (h : Handed). h.ask) old ends.from a a' was (ap (λ (h : Handed). h.ask) is);
}
