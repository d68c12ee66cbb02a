-- Nodes that break no rule. That no pair is broken is turned into one fact for each node, which is then taken apart as the list of
-- nodes is: what stands sooner and what stands later in it.
use Rattle.std.proofs.Common.{◌≡◌, ℕ, suc, Bool, true, false, List, [], ◌∷◌, ◌++◌, refl}
use Rattle.std.specs.Prelude.{not}
use Rattle.ac_tree.specs.declared.item.Item.{Item}
use Rattle.ac_reach.specs.declared.reached.Reached.{Reached}
use Rattle.ac_types.specs.Nodes.{Node}
use Rattle.ac_types.specs.Items.{program_nodes}
use Rattle.ac_types.specs.Reached.{IsBrokenRule, BreaksIn, BreaksNone, all_calls, entries_of}
use Rattle.ac_reach.proofs.Rows.{rows_there}

abbrev pub AllClean : List Node → Type 0
AllClean [] = Unit {0}
AllClean (n ∷ ns) = ((q : ℕ) → IsBrokenRule q n.tests → ⊥) × AllClean ns

clean_nodes : (ns : List Node) → ((n q : ℕ) → BreaksIn ns n q → ⊥) → AllClean ns
clean_nodes [] h = tt
clean_nodes (n ∷ ns) h = (λ q b. h 0 q (record { node = n; stands = refl; breaks = b }), clean_nodes ns (λ m q b. h (suc m) q (record { node = b.node; stands = b.stands; breaks = b.breaks })))

pub clean_sooner : (xs ys : List Node) → AllClean (xs ++ ys) → AllClean xs
clean_sooner [] ys h = tt
clean_sooner (x ∷ xs) ys h = (h.0, clean_sooner xs ys h.1)

pub clean_later : (xs ys : List Node) → AllClean (xs ++ ys) → AllClean ys
clean_later [] ys h = h
clean_later (x ∷ xs) ys h = clean_later xs ys h.1

pub not_false : (b : Bool) → (not b ≡ true → ⊥) → b ≡ true
not_false true h = refl
not_false false h = absurd (h refl)

-- the nodes of a program that breaks no rule
pub clean_program : (items : List Item) → BreaksNone items → (rows : List Reached) × AllClean (program_nodes items rows)
clean_program items c = let r = rows_there (all_calls items) (entries_of items) in
    (r.rows, clean_nodes (program_nodes items r.rows) (λ n q b. c n q (record { rows = r.rows; reached = r.are; is = b })))
