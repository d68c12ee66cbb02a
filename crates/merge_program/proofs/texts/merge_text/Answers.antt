use Rattle.std.proofs.Common.{◌≡◌, ◌++◌, ap, ◌∙◌, sym, add-one, arith}
use Rattle.merge_program.specs.Lines.{end_lines}
use Rattle.merge_program.proofs.texts.merge_text.Goals as goal

pub loop-tag-preserved : goal.loop-tag-preserved
loop-tag-preserved c =
    let tag = c.loop-tag.tag in let messages = c.args.messages.now in
    c.in_ok-extend_from_slice.ensures.items ∙ ap (λ bs. bs ++ c.as_bytes.result.now) c.loop-tag.invariant
    ∙ ap (λ bs. end_lines tag messages ++ bs) (c.as_bytes.ensures.value ∙ c.in_ok-line.ensures) ∙ ap (λ n. end_lines n messages) (sym (add-one tag))

pub returns : goal.returns
returns c =
    let messages = c.args.messages.now in
    let is : c.loop-tag.tag ≡ c.args.producers = omega arith in
    c.from_vec.ensures ∙ c.in_ok-extend_from_slice-2.ensures.items
    ∙ ap (λ bs. bs ++ c.as_bytes-2.result.now) (c.loop-tag.invariant ∙ ap (λ n. end_lines n messages) is)
    ∙ ap (λ bs. end_lines c.args.producers messages ++ bs) (c.as_bytes-2.ensures.value ∙ c.in_ok-last.ensures)
