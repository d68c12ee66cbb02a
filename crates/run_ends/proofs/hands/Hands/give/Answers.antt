use Rattle.std.proofs.Common.{◌≡◌, ◌<◌, Some, ap, sym, ◌∙◌, subst, set, length}
use Rattle.std.specs.Prelude.{slice_get}
use Rattle.std.proofs.lemmas.Option.{slice_get-get_or}
use Rattle.std.proofs.lemmas.Result.{on_ok_weaker}
use Rattle.run_ends.specs.inner.Hands.{Gives}
use Rattle.run_ends.proofs.Giving.{gives}
use Rattle.run_ends.proofs.Places.{length_changed}
use Rattle.run_ends.proofs.hands.Hands.give.Goals as goal

pub returns : goal.returns
returns c =
    let old = c.self.inside.list.items in
    let view : c.args.self.now ≡ old = sym c.self.view_is in
    let from_is : c.args.ends.from < length old = subst (λ hs. c.args.ends.from < length hs) view c.requires.0 in
    let to_is : c.args.ends.to < length (set old c.args.ends.from c.add_send.new.self) =
    subst (λ n. c.args.ends.to < n) (sym (length_changed old c.args.ends.from c.add_send.new.self)) (subst (λ hs. c.args.ends.to < length hs) view c.requires.1) in
    let was : slice_get old c.args.ends.from ≡ Some c.index_mut.result.now = slice_get-get_or old c.args.ends.from _ from_is ∙ ap Some (sym c.index_mut.ensures.value) in
    let was' : slice_get (set old c.args.ends.from c.add_send.new.self) c.args.ends.to ≡ Some c.index_mut-2.result.now =
    slice_get-get_or (set old c.args.ends.from c.add_send.new.self) c.args.ends.to _ to_is ∙ ap Some (sym c.index_mut-2.ensures.value) in
    on_ok_weaker c.add_recv.result
    (λ is. subst (λ hs. Gives hs c.args.ends c.args.send c.args.recv (set (set old c.args.ends.from c.add_send.new.self) c.args.ends.to c.add_recv.new.self)) (sym view)
    (gives old c.args.ends c.args.send c.args.recv c.index_mut.result.now c.add_send.new.self c.index_mut-2.result.now c.add_recv.new.self
    was c.in_ok-add_send.ensures was' is))
    c.add_recv.ensures
