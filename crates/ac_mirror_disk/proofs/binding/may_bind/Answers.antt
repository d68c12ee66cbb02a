use Rattle.std.proofs.Common.{sym, ap, ◌∙◌}
use Rattle.std.specs.Prelude.{string_bytes}
use Rattle.std.specs.List.{list_any}
use Rattle.std.specs.Str.{bytes_eq}
use Rattle.ac_mirror_disk.proofs.NewPath.{any_map, not_is}
use Rattle.ac_mirror_disk.proofs.binding.may_bind.Goals as goal

pub returns-clause-new : goal.returns-clause-new
returns-clause-new c = λ e.
    any_map string_bytes (λ kept. bytes_eq kept c.args.path.now) c.args.paths.now.bound.items
    ∙ ap (λ bound. list_any (λ kept. bytes_eq (string_bytes kept) c.args.path.now) bound.items) (sym c.ask.ensures.bound)
    ∙ sym c.has.ensures ∙ not_is c.has.result e
