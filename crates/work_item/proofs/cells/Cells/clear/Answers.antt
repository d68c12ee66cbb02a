use Rattle.std.proofs.Common.{◌≡◌, ◌+◌, ◌-◌, length, map, sym, ap, ◌∙◌, arith}
use Rattle.std.specs.Vec.{with_items}
use Rattle.std.proofs.lemmas.List.{with_items_is, length-map}
use Rattle.work_item.specs.Store.{int_in, cleared}
use Rattle.work_item.specs.Cells.{others_from}
use Rattle.work_item.proofs.Clearing.{length-cleared}
use Rattle.work_item.proofs.RowCalls.{Keep, keep_of, kept_of, view_of, length_words}
use Rattle.work_item.proofs.cells.Cells.clear.Goals as goal

pub invariant_of-self : goal.invariant_of-self
invariant_of-self c =
    let words = c.self.inside.words.items in
    let others = c.self.inside.others.items in
    let cells = c.args.self.now in
    let k = keep_of 0 words others cells c.self.invariant c.self.view_is in
    let now = c.clear_words.new.words in
    let left = cleared c.args.start c.args.len cells in
    let told : now ≡ map int_in left = c.clear_words.ensures cells (c.deref_mut.ensures.value ∙ k.words_are) in
    let size : length now ≡ length words =
    ap length told ∙ length-map left int_in ∙ length-cleared c.args.start c.args.len cells ∙ sym (length_words 0 words others cells k) in
    let same = with_items_is c.self.inside.words now (size ∙ sym c.self.inside.words.ok.0) in
    let span : c.args.start + c.args.len - c.args.start ≡ c.args.len = omega arith in
    let h : Keep 0 (with_items c.self.inside.words now).items c.clear_others.new.others.items left = record {
      words_are = same ∙ told;
      others_are = c.clear_others.ensures cells k.others_are ∙ ap (λ n. others_from 0 (cleared c.args.start n cells)) span;
    } in
    kept_of 0 (with_items c.self.inside.words now).items c.clear_others.new.others.items left h

pub returns : goal.returns
returns c =
    let words = c.self.inside.words.items in
    let others = c.self.inside.others.items in
    let cells = c.args.self.now in
    let k = keep_of 0 words others cells c.self.invariant c.self.view_is in
    let now = c.clear_words.new.words in
    let left = cleared c.args.start c.args.len cells in
    let told : now ≡ map int_in left = c.clear_words.ensures cells (c.deref_mut.ensures.value ∙ k.words_are) in
    let size : length now ≡ length words =
    ap length told ∙ length-map left int_in ∙ length-cleared c.args.start c.args.len cells ∙ sym (length_words 0 words others cells k) in
    let same = with_items_is c.self.inside.words now (size ∙ sym c.self.inside.words.ok.0) in
    let span : c.args.start + c.args.len - c.args.start ≡ c.args.len = omega arith in
    let h : Keep 0 (with_items c.self.inside.words now).items c.clear_others.new.others.items left = record {
      words_are = same ∙ told;
      others_are = c.clear_others.ensures cells k.others_are ∙ ap (λ n. others_from 0 (cleared c.args.start n cells)) span;
    } in
    view_of 0 (with_items c.self.inside.words now).items c.clear_others.new.others.items left h
