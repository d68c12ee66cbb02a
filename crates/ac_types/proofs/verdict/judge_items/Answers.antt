use Rattle.std.proofs.Common.{Some, None, sym, ap, ◌∙◌}
use Rattle.ac_names.specs.declared.past.Past.{Past}
use Rattle.ac_types.specs.declared.numbered.Tables.{Tables}
use Rattle.ac_types.proofs.Gathering.{few_cores}
use Rattle.ac_types.proofs.Judging.{items_told}
use Rattle.ac_types.proofs.verdict.judge_items.Goals as goal

pub gather-requires-clause-few : goal.gather-requires-clause-few
gather-requires-clause-few c = few_cores c.args.items.now c.requires.clean

pub returns-in-Some : goal.returns-in-Some
returns-in-Some c =
    items_told c.args.items.now c.in_ok-gathered.gathered.tables.reached c.in_ok-gathered.ensures.tables.reached (Some c.in-Some.broken) c.requires.clean (sym c.in-Some.is ∙ c.in_ok-broken.ensures)

pub returns : goal.returns
returns c = (
  items_told c.args.items.now c.in_ok-gathered.gathered.tables.reached c.in_ok-gathered.ensures.tables.reached None c.requires.clean (sym c.in-None.is ∙ c.in_ok-broken.ensures),
  (
    ap (λ (p : Past). p.counts) c.requires.past,
    c.in_ok-gathered.ensures.tables.flags,
    ap (λ (t : Tables). t.widths) c.in_ok-gathered.ensures.tables.tables,
  ),
)
