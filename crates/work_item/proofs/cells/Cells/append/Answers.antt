use Rattle.std.proofs.Common.{◌≡◌, ◌++◌, length, ap, ◌∙◌, arith}
use Rattle.work_item.specs.Cells.{others_from}
use Rattle.work_item.proofs.RowCalls.{keep_of, kept_of, view_of, row_appended}
use Rattle.work_item.proofs.cells.Cells.append.Goals as goal

pub invariant_of-self-2 : goal.invariant_of-self-2
invariant_of-self-2 c =
    let words = c.self.inside.words.items in
    let others = c.self.inside.others.items in
    let cells = c.args.self.now in
    let k = keep_of 0 words others cells c.self.invariant c.self.view_is in
    let part = c.args.part.now in
    let from = c.part.inside.start in
    let kp = keep_of from c.part.inside.words.now c.part.inside.others.now part c.part.invariant c.part.view_is in
    let at : c.len-start.result ≡ length words = omega (arith, c.len-start.ensures, c.reserve.new.self.ok.0, ap length c.in_ok-reserve.ensures.items) in
    let e : c.put_words.new.words.items ≡ words ++ c.part.inside.words.now =
    c.put_words.ensures.items ∙ ap (λ l. l ++ c.part.inside.words.now) c.in_ok-reserve.ensures.items in
    let f : c.put_others.new.others.items ≡ others ++ others_from (length words) part =
    c.put_others.ensures part kp.others_are ∙ ap (λ l. l ++ others_from c.len-start.result part) c.make_more.ensures.items ∙ ap (λ i. others ++ others_from i part) at in
    let h = row_appended words c.put_words.new.words.items c.part.inside.words.now others c.put_others.new.others.items cells part k kp.words_are e f in
    kept_of 0 c.put_words.new.words.items c.put_others.new.others.items (cells ++ part) h

pub returns-clause-ok : goal.returns-clause-ok
returns-clause-ok c =
    let words = c.self.inside.words.items in
    let others = c.self.inside.others.items in
    let cells = c.args.self.now in
    let k = keep_of 0 words others cells c.self.invariant c.self.view_is in
    let part = c.args.part.now in
    let from = c.part.inside.start in
    let kp = keep_of from c.part.inside.words.now c.part.inside.others.now part c.part.invariant c.part.view_is in
    let at : c.len-start.result ≡ length words = omega (arith, c.len-start.ensures, c.reserve.new.self.ok.0, ap length c.in_ok-reserve.ensures.items) in
    let e : c.put_words.new.words.items ≡ words ++ c.part.inside.words.now =
    c.put_words.ensures.items ∙ ap (λ l. l ++ c.part.inside.words.now) c.in_ok-reserve.ensures.items in
    let f : c.put_others.new.others.items ≡ others ++ others_from (length words) part =
    c.put_others.ensures part kp.others_are ∙ ap (λ l. l ++ others_from c.len-start.result part) c.make_more.ensures.items ∙ ap (λ i. others ++ others_from i part) at in
    let h = row_appended words c.put_words.new.words.items c.part.inside.words.now others c.put_others.new.others.items cells part k kp.words_are e f in
    view_of 0 c.put_words.new.words.items c.put_others.new.others.items (cells ++ part) h
