use Rattle.std.proofs.Common.{◌≡◌, ◌-◌, ◌++◌, length, map, replicate, pos, ap, ◌∙◌, arith}
use Rattle.std.proofs.lemmas.List.{length-map}
use Rattle.work_item.specs.Store.{int_in, no_int}
use Rattle.work_item.specs.Cells.{others_from}
use Rattle.work_item.proofs.RowCalls.{keep_of, kept_of, view_of, length_words, row_filled}
use Rattle.work_item.proofs.cells.Cells.fill.Goals as goal

pub lay_words-requires : goal.lay_words-requires
lay_words-requires c =
    let first = c.args.first.now in
    let fw = c.first.inside.words.now in
    let kf = keep_of c.first.inside.start fw c.first.inside.others.now first c.first.invariant c.first.view_is in
    omega (arith, length_words c.first.inside.start fw c.first.inside.others.now first kf, c.requires)

pub invariant_of-self-2 : goal.invariant_of-self-2
invariant_of-self-2 c =
    let first = c.args.first.now in
    let fw = c.first.inside.words.now in
    let kf = keep_of c.first.inside.start fw c.first.inside.others.now first c.first.invariant c.first.view_is in
    let n = c.args.len - length first in
    let e : c.lay_words.new.words.items ≡ map int_in first ++ replicate n (pos 0) =
    c.in_ok-lay_words.ensures.ok ∙ ap (λ l. l ++ replicate (c.args.len - length l) (pos 0)) kf.words_are
    ∙ ap (λ m. map int_in first ++ replicate (c.args.len - m) (pos 0)) (length-map first int_in) in
    let f : c.put_others.new.others.items ≡ others_from 0 first =
    c.put_others.ensures first kf.others_are ∙ ap (λ l. l ++ others_from 0 first) c.clear.ensures.items in
    let h = row_filled c.lay_words.new.words.items c.put_others.new.others.items first n e f in
    kept_of 0 c.lay_words.new.words.items c.put_others.new.others.items (first ++ replicate n no_int) h

pub returns-clause-ok : goal.returns-clause-ok
returns-clause-ok c =
    let first = c.args.first.now in
    let fw = c.first.inside.words.now in
    let kf = keep_of c.first.inside.start fw c.first.inside.others.now first c.first.invariant c.first.view_is in
    let n = c.args.len - length first in
    let e : c.lay_words.new.words.items ≡ map int_in first ++ replicate n (pos 0) =
    c.in_ok-lay_words.ensures.ok ∙ ap (λ l. l ++ replicate (c.args.len - length l) (pos 0)) kf.words_are
    ∙ ap (λ m. map int_in first ++ replicate (c.args.len - m) (pos 0)) (length-map first int_in) in
    let f : c.put_others.new.others.items ≡ others_from 0 first =
    c.put_others.ensures first kf.others_are ∙ ap (λ l. l ++ others_from 0 first) c.clear.ensures.items in
    let h = row_filled c.lay_words.new.words.items c.put_others.new.others.items first n e f in
    view_of 0 c.lay_words.new.words.items c.put_others.new.others.items (first ++ replicate n no_int) h
