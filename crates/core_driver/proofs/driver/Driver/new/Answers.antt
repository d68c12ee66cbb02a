use Rattle.std.proofs.Common.{◌≡◌, true, false, sym, ap, ◌∙◌}
use Rattle.ac_links.specs.Journals.{last_of}
use Rattle.core_driver.proofs.driver.Driver.new.Goals as goal

pub invariant_of-result : goal.invariant_of-result
invariant_of-result c = record {
  clock = c.new.ensures ∙ ap (last_of 0) (sym c.requires);
  run = c.ending-ending.ensures.run;
  going = λ e. let no : false ≡ true = e in absurd (cc);
}
