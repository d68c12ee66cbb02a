use Rattle.std.proofs.Common.{◌≡◌, ◌∷◌, [], ◌++◌, length, ap, ◌∙◌, arith}
use Rattle.work_item.proofs.RowCalls.{keep_of, kept_of, view_of, one, other_pushed}
use Rattle.work_item.proofs.cells.Cells.push_other.Goals as goal

pub invariant_of-self-2 : goal.invariant_of-self-2
invariant_of-self-2 c =
    let words = c.self.inside.words.items in
    let others = c.self.inside.others.items in
    let cells = c.args.self.now in
    let k = keep_of 0 words others cells c.self.invariant c.self.view_is in
    let now = c.push_word.new.words.items in
    let left = c.push_reserved.new.self.items in
    let at : c.len-index.result ≡ length words = omega (arith, c.len-index.ensures, c.self.inside.words.ok.0) in
    let f : left ≡ others ++ one (length words) c.args.cell ∷ [] =
    c.push_reserved.ensures.items ∙ ap (λ l. l ++ one c.len-index.result c.args.cell ∷ []) c.make_room.ensures.items
    ∙ ap (λ i. others ++ one i c.args.cell ∷ []) at in
    let h = other_pushed words now others left cells c.args.cell k c.requires c.in_ok-push_word.ensures.ok f in
    kept_of 0 now left (cells ++ c.args.cell ∷ []) h

pub returns-clause-ok : goal.returns-clause-ok
returns-clause-ok c =
    let words = c.self.inside.words.items in
    let others = c.self.inside.others.items in
    let cells = c.args.self.now in
    let k = keep_of 0 words others cells c.self.invariant c.self.view_is in
    let now = c.push_word.new.words.items in
    let left = c.push_reserved.new.self.items in
    let at : c.len-index.result ≡ length words = omega (arith, c.len-index.ensures, c.self.inside.words.ok.0) in
    let f : left ≡ others ++ one (length words) c.args.cell ∷ [] =
    c.push_reserved.ensures.items ∙ ap (λ l. l ++ one c.len-index.result c.args.cell ∷ []) c.make_room.ensures.items
    ∙ ap (λ i. others ++ one i c.args.cell ∷ []) at in
    let h = other_pushed words now others left cells c.args.cell k c.requires c.in_ok-push_word.ensures.ok f in
    view_of 0 now left (cells ++ c.args.cell ∷ []) h
