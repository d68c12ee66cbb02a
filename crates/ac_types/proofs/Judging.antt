-- The first rule of a program is that of its least pair. There is one table of what is reached, so what is broken by some table is
-- broken by the one at hand; the rest is the law on lists of nodes.
use Rattle.std.proofs.Common.{◌≡◌, ℕ, List, Option, None, Some, sym, ap, ◌∙◌, subst}
use Rattle.ac_tree.specs.declared.item.Item.{Item}
use Rattle.ac_types.specs.declared.rule.BrokenRule.{BrokenRule}
use Rattle.ac_types.specs.declared.rule.Rule.{Rule}
use Rattle.ac_reach.specs.declared.reached.Reached.{Reached}
use Rattle.ac_names.specs.Scopes.{or_else}
use Rattle.ac_types.specs.inner.Seen.{least_broken, first_of, at_node}
use Rattle.ac_names.specs.Items.{whole}
use Rattle.ac_types.specs.Rules.{rule_number}
use Rattle.ac_types.specs.Items.{program_tests, program_nodes, items_nodes}
use Rattle.ac_types.specs.Reached.{all_calls, entries_of, AreReached, BreaksIn, Breaks, IsLeastBroken, BreaksNone}
use Rattle.ac_types.proofs.Lowest.{Tells, first_tells}
use Rattle.ac_reach.proofs.Rows.{rows_there, one_table}

abbrev pub TellsOf : List Item → Option BrokenRule → Type 0
TellsOf items None = BreaksNone items
TellsOf items (Some r) = IsLeastBroken items (rule_number r.rule) r.at

module _ (items : List Item) (rows : List Reached) (are : AreReached items rows) where
  in_rows : (n q : ℕ) → Breaks items n q → BreaksIn (program_nodes items rows) n q
  in_rows n q b = subst (λ xs. BreaksIn (program_nodes items xs) n q) (one_table (all_calls items) (entries_of items) b.rows rows b.reached are) b.is

  told : (o : Option BrokenRule) → Tells (program_nodes items rows) o → TellsOf items o
  told None h = λ n q b. h n q (in_rows n q b)
  told (Some x) h = record {
    number = h.number;
    is = record { rows = rows; reached = are; is = h.is };
    place = h.place;
    least = λ n q b. h.least n q (in_rows n q b);
  }

  pub program_told : (o : Option BrokenRule) → o ≡ first_of (program_nodes items rows) → TellsOf items o
  program_told o e = told o (subst (Tells (program_nodes items rows)) (sym e) (first_tells (program_nodes items rows)))

  -- the program's own node breaks none
  pub items_told : (o : Option BrokenRule) → least_broken (program_tests (whole items).counts.cores) ≡ None → o ≡ first_of (items_nodes items rows) → TellsOf items o
  items_told o n e = program_told o (e ∙ ap (λ m. or_else (at_node 0 m) (first_of (items_nodes items rows))) (sym n))

-- the program's own node breaks one
pub program_first : (items : List Item) (rule : Rule) → least_broken (program_tests (whole items).counts.cores) ≡ Some rule → IsLeastBroken items (rule_number rule) 0
program_first items rule e =
    let t = rows_there (all_calls items) (entries_of items) in
    program_told items t.rows t.are (Some (record { rule = rule; at = 0 })) (ap (λ m. or_else (at_node 0 m) (first_of (items_nodes items t.rows))) (sym e))
