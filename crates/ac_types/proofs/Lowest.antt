-- The first broken rule of a list of nodes is that of the least pair. First the least rule of one node, by recursion on its tests;
-- then the first node that breaks one, by recursion on the list, where the numbers of all later nodes are one higher.
use Rattle.std.proofs.Common.{◌≡◌, ℕ, zero, suc, ◌<◌, ◌≤◌, ◌⊎◌, Bool, true, false, List, [], ◌∷◌, Option, None, Some, refl, inl, inr, arith, ap, subst}
use Rattle.std.specs.Prelude.{nat_lt, if◌then◌else◌}
use Rattle.std.proofs.lemmas.Bool.Decides.{nat_tests}
use Rattle.ac_types.specs.declared.rule.BrokenRule.{BrokenRule}
use Rattle.ac_types.specs.declared.rule.Rule.{Rule}
use Rattle.ac_names.specs.Scopes.{or_else}
use Rattle.ac_types.specs.Nodes.{Node}
use Rattle.ac_types.specs.inner.Seen.{least_with, least_broken, first_of, at_node}
use Rattle.ac_types.specs.Rules.{rule_number, IsUpTo}
use Rattle.ac_types.specs.Reached.{IsBrokenRule, BreaksIn}

-- ---- the least rule of a node

pub record IsMin (r : Rule) (ts : List (Rule × Bool)) : Type 0 where
  pub among : IsBrokenRule (rule_number r) ts
  pub least : (q : ℕ) → IsBrokenRule q ts → rule_number r ≤ q

abbrev pub MinOf : List (Rule × Bool) → Option Rule → Type 0
MinOf ts None = (q : ℕ) → IsBrokenRule q ts → ⊥
MinOf ts (Some r) = IsMin r ts

not_both : (b : Bool) → b ≡ false → b ≡ true → ⊥
not_both b e f = cc

one_test : (t : Rule × Bool) (ts : List (Rule × Bool)) (b : Bool) (o : Option Rule) → t.1 ≡ b → MinOf ts o → MinOf (t ∷ ts) (least_with t.0 b o)
one_test t ts false None e m = λ q h. by q h where
  by : (q : ℕ) → ((q ≡ rule_number t.0) × (t.1 ≡ true)) ⊎ IsBrokenRule q ts → ⊥
  by q (inl h) = not_both t.1 e h.1
  by q (inr h) = m q h
one_test t ts false (Some r) e m = record { among = inr m.among; least = λ q h. by q h } where
  by : (q : ℕ) → ((q ≡ rule_number t.0) × (t.1 ≡ true)) ⊎ IsBrokenRule q ts → rule_number r ≤ q
  by q (inl h) = absurd (not_both t.1 e h.1)
  by q (inr h) = m.least q h
one_test t ts true None e m = record { among = inl (refl, e); least = λ q h. by q h } where
  by : (q : ℕ) → ((q ≡ rule_number t.0) × (t.1 ≡ true)) ⊎ IsBrokenRule q ts → rule_number t.0 ≤ q
  by q (inl h) = let f = h.0 in omega (arith, f)
  by q (inr h) = absurd (m q h)
one_test t ts true (Some r) e m = here (nat_lt (rule_number r) (rule_number t.0)) refl where
  lower : rule_number r < rule_number t.0 → (q : ℕ) → ((q ≡ rule_number t.0) × (t.1 ≡ true)) ⊎ IsBrokenRule q ts → rule_number r ≤ q
  lower lt q (inl h) = let f = h.0 in omega (arith, f, lt)
  lower lt q (inr h) = m.least q h

  higher : rule_number t.0 ≤ rule_number r → (q : ℕ) → ((q ≡ rule_number t.0) × (t.1 ≡ true)) ⊎ IsBrokenRule q ts → rule_number t.0 ≤ q
  higher le q (inl h) = let f = h.0 in omega (arith, f)
  higher le q (inr h) = let l = m.least q h in omega (arith, l, le)

  here : (b : Bool) → nat_lt (rule_number r) (rule_number t.0) ≡ b → IsMin (if b then r else t.0) (t ∷ ts)
  here true f = record { among = inr m.among; least = λ q h. lower (grind (arith, nat_tests, f)) q h }
  here false f = record { among = inl (refl, e); least = λ q h. higher (grind (arith, nat_tests, f)) q h }

pub min_of : (ts : List (Rule × Bool)) → MinOf ts (least_broken ts)
min_of [] = λ q h. h
min_of (t ∷ ts) = one_test t ts t.1 (least_broken ts) refl (min_of ts)

-- ---- the least pair of a list of nodes

pub record LeastIn (nodes : List Node) (rule at : ℕ) : Type 0 where
  pub number : ℕ
  pub is : BreaksIn nodes number rule
  pub place : is.node.at ≡ at
  pub least : (n r : ℕ) → BreaksIn nodes n r → IsUpTo number rule n r

abbrev pub Tells : List Node → Option BrokenRule → Type 0
Tells nodes None = (number rule : ℕ) → BreaksIn nodes number rule → ⊥
Tells nodes (Some r) = LeastIn nodes (rule_number r.rule) r.at

none_broken : (n r : ℕ) → BreaksIn [] n r → ⊥
none_broken n r b = cc b.stands

abbrev shifted : (n : Node) (ns : List Node) (m r : ℕ) → BreaksIn ns m r → BreaksIn (n ∷ ns) (suc m) r
shifted n ns m r b = record { node = b.node; stands = b.stands; breaks = b.breaks }

back : (n : Node) (ns : List Node) (m r : ℕ) → BreaksIn (n ∷ ns) (suc m) r → BreaksIn ns m r
back n ns m r b = record { node = b.node; stands = b.stands; breaks = b.breaks }

head : (n : Node) (ns : List Node) (r : ℕ) → BreaksIn (n ∷ ns) zero r → IsBrokenRule r n.tests
head n ns r b =
    let same : b.node ≡ n = cc b.stands in
    subst (λ (x : Node). IsBrokenRule r x.tests) same b.breaks

up : (a r m q : ℕ) → IsUpTo a r m q → IsUpTo (suc a) r (suc m) q
up a r m q (inl h) = inl (omega arith)
up a r m q (inr h) = inr (ap suc h.0, h.1)

none_more : (n : Node) (ns : List Node) → ((q : ℕ) → IsBrokenRule q n.tests → ⊥) → ((m r : ℕ) → BreaksIn ns m r → ⊥) → (m r : ℕ) → BreaksIn (n ∷ ns) m r → ⊥
none_more n ns e h zero r b = e r (head n ns r b)
none_more n ns e h (suc m) r b = h m r (back n ns m r b)

least_more : (n : Node) (ns : List Node) (a r : ℕ) → ((q : ℕ) → IsBrokenRule q n.tests → ⊥) → ((m q : ℕ) → BreaksIn ns m q → IsUpTo a r m q) → (m q : ℕ) → BreaksIn (n ∷ ns) m q → IsUpTo (suc a) r m q
least_more n ns a r e h zero q b = absurd (e q (head n ns q b))
least_more n ns a r e h (suc m) q b = up a r m q (h m q (back n ns m q b))

least_here : (n : Node) (ns : List Node) (r : Rule) → IsMin r n.tests → (m q : ℕ) → BreaksIn (n ∷ ns) m q → IsUpTo zero (rule_number r) m q
least_here n ns r h zero q b = inr (refl, h.least q (head n ns q b))
least_here n ns r h (suc m) q b = inl (omega arith)

one_node_more : (n : Node) (ns : List Node) (m : Option Rule) (o : Option BrokenRule) → MinOf n.tests m → Tells ns o → Tells (n ∷ ns) (or_else (at_node n.at m) o)
one_node_more n ns None None e h = none_more n ns e h
one_node_more n ns None (Some r) e h = record {
  number = suc h.number;
  is = shifted n ns h.number (rule_number r.rule) h.is;
  place = h.place;
  least = least_more n ns h.number (rule_number r.rule) e h.least;
}
one_node_more n ns (Some r) o e h = record {
  number = zero;
  is = record { node = n; stands = refl; breaks = e.among };
  place = refl;
  least = least_here n ns r e;
}

pub first_tells : (nodes : List Node) → Tells nodes (first_of nodes)
first_tells [] = none_broken
first_tells (n ∷ ns) = one_node_more n ns (least_broken n.tests) (first_of ns) (min_of n.tests) (first_tells ns)
