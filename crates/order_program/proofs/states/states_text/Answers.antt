use Rattle.std.proofs.Common.{◌≡◌, ℕ, ◌++◌, length, drop, refl, sym, ap, subst, add-one, ◌∙◌}
use Rattle.std.proofs.lemmas.Option.{slice_get_past, slice_get_read}
use Rattle.order_program.specs.Lines.{ending_of, states_text}
use Rattle.order_program.proofs.StateLines.{line_more, no_end_left, no_name_left}
use Rattle.order_program.proofs.states.states_text.Goals as goal

pub loop-place-preserved : goal.loop-place-preserved
loop-place-preserved c =
    subst
    (λ (n : ℕ). c.add_line.new.text.items ++ states_text (drop n c.args.names.now) (drop n c.args.ends.now) ≡ states_text c.args.names.now c.args.ends.now)
    (sym (add-one c.loop-place.place))
    (line_more c.args.names.now c.args.ends.now c.loop-place.place c.loop-place.text.items _ c.loop-place.invariant c.index-names-place.result c.in-Some.end.now c.add_line.new.text.items
    c.loop-place-test.true c.index-names-place.is
    (slice_get_read c.args.ends.now (length c.args.ends.now) c.loop-place.place c.in-Some.end.now refl c.in-Some.ensures.lookup.3.0 c.in-Some.ensures.lookup.1)
    (c.in_ok-add_line.ensures ∙ ap (λ name. c.loop-place.text.items ++ (name ++ ending_of c.in-Some.end.now)) c.as_slice.ensures))

pub returns-in_default : goal.returns-in_default
returns-in_default c =
    c.from_vec.ensures
    ∙ no_end_left c.args.names.now c.args.ends.now c.loop-place.place c.loop-place.text.items _ c.loop-place.invariant
    (slice_get_past c.args.ends.now c.loop-place.place c.in_default.ensures.lookup.3)

pub returns : goal.returns
returns c = c.from_vec-2.ensures ∙ no_name_left c.args.names.now c.args.ends.now c.loop-place.place c.loop-place.text.items _ c.loop-place.invariant c.loop-place-test.false
