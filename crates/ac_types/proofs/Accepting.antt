-- What a check says of the program that it accepts: the verdict is clean, so no rule is broken, and its counts, flags and widths are
-- those of the program. Only equal things are put for one another.
use Rattle.std.proofs.Common.{◌≡◌, ℕ, List, Bool, subst}
use Rattle.ac_tree.specs.declared.item.Item.{Item}
use Rattle.ac_types.specs.declared.verdict.Verdict.{Verdict}
use Rattle.ac_types.specs.declared.verdict.Verdict.TheVariants as v
use Rattle.ac_names.specs.declared.past.Counts.{Counts}
use Rattle.ac_names.specs.Items.{whole}
use Rattle.ac_types.specs.Items.{all_widths}
use Rattle.ac_types.specs.Reached.{BreaksNone, entries_of, all_calls}
use Rattle.ac_reach.specs.Reached.{AreAll}
use Rattle.ac_types.specs.inner.Verdicts.{Judges}

pub clean_told : (items items2 : List Item) (verdict : Verdict) (counts : Counts) (reach : List (List Bool)) (widths : List ℕ) → items2 ≡ items → Judges items2 verdict → verdict
    ≡ v.Clean counts reach widths →
    BreaksNone items × ((counts ≡ (whole items).counts) × AreAll (all_calls items) (entries_of items) reach × (widths ≡ all_widths items))
clean_told items items2 verdict counts reach widths e h f = subst (λ x. Judges x (v.Clean counts reach widths)) e (subst (Judges items2) f h)
