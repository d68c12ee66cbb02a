use Rattle.std.proofs.Common.{◌≡◌, ◌≤◌, ◌-◌, ◌++◌, length, take, min, arith, ap, ◌∙◌}
use Rattle.std.proofs.lemmas.Grind.{common_steps}
use Rattle.ac_outside.specs.declared.safe.TheConstants.{KEPT}
use Rattle.ac_outside.proofs.Keeping.{kept_front}
use Rattle.ac_outside.proofs.safe.SafeSinkSink.write.Goals as goal

pub returns-then-count-piece-clause-taken : goal.returns-then-count-piece-clause-taken
returns-then-count-piece-clause-taken c =
    let held = ap (λ v. v.taken) c.self.view_is in
    let grown : c.extend_from_slice.new.self.items ≡ c.args.self.now.taken ++ take c.min-count.result c.args.piece.now = grind (arith, common_steps) in
    let small : length c.args.self.now.taken ≤ KEPT = grind (arith, common_steps) in
    let count : c.min-count.result ≡ min (length c.args.piece.now) (KEPT - length c.args.self.now.taken) = grind (arith, common_steps) in
    grown ∙ kept_front _ _ _ _ small count

pub returns-else-count-piece-clause-taken : goal.returns-else-count-piece-clause-taken
returns-else-count-piece-clause-taken c =
    let held = ap (λ v. v.taken) c.self.view_is in
    let grown : c.extend_from_slice.new.self.items ≡ c.args.self.now.taken ++ take c.min-count.result c.args.piece.now = grind (arith, common_steps) in
    let small : length c.args.self.now.taken ≤ KEPT = grind (arith, common_steps) in
    let count : c.min-count.result ≡ min (length c.args.piece.now) (KEPT - length c.args.self.now.taken) = grind (arith, common_steps) in
    grown ∙ kept_front _ _ _ _ small count
