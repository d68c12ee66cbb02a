-- What a check finds of a program.
use Rattle.std.specs.Prelude.{◌≡◌, List}
use Rattle.ac_tree.specs.declared.item.Item.{Item}
use Rattle.ac_names.specs.Items.{whole}
use Rattle.ac_reach.specs.Reached.{AreAll}
use Rattle.ac_types.specs.declared.gathered.Gathered.{Gathered}
use Rattle.ac_types.specs.declared.verdict.Verdict.{Verdict}
use Rattle.ac_types.specs.declared.verdict.Verdict.TheVariants as v
use Rattle.ac_types.specs.Rules.{rule_number}
use Rattle.ac_types.specs.Items.{tables_of, all_widths}
use Rattle.ac_types.specs.Reached.{AreReached, IsLeastBroken, BreaksNone, entries_of, all_calls}

-- the tables of a program, with what each core reaches
pub record AreTables (items : List Item) (g : Gathered) : Type 0 where
  pub tables : g.tables ≡ tables_of items g.tables.reached
  pub reached : AreReached items g.tables.reached
  pub flags : AreAll (all_calls items) (entries_of items) g.reach

abbrev pub Judges : List Item → Verdict → Type 0
Judges items (v.Broken broken) = IsLeastBroken items (rule_number broken.rule) broken.at
Judges items (v.Clean counts reach widths) = BreaksNone items
    × ((counts ≡ (whole items).counts) × AreAll (all_calls items) (entries_of items) reach × (widths ≡ all_widths items))
