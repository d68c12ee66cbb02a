use Rattle.std.proofs.Common.{◌≡◌, ◌∷◌, map, string_bytes, Global, refl, ap}
use Rattle.std.proofs.lemmas.Option.{IfSome_then}
use Rattle.ac_words.specs.inner.Scanning.{texts_of}
use Rattle.ac_words.proofs.Scans.{arguments_of, stands_of}
use Rattle.ac_words.proofs.call.read_words.Goals as goal

pub returns-in_err-arguments-clause-usage : goal.returns-in_err-arguments-clause-usage
returns-in_err-arguments-clause-usage c = λ none asked call.
    let e : map (string_bytes {Z = Global}) c.args.words.now ≡ string_bytes {Z = Global} c.in_ok-command.command.now ∷ map (string_bytes {Z = Global}) c.in_ok-command.others.now =
    ap (λ ws. map (string_bytes {Z = Global}) ws) c.in_ok-command.ensures.cases.0 in
    c.in_err-arguments.ensures.usage refl call.operands call.given (arguments_of _ _ _ asked call e)

pub returns-clause-usage : goal.returns-clause-usage
returns-clause-usage c = λ none asked call.
    let e : map (string_bytes {Z = Global}) c.args.words.now ≡ string_bytes {Z = Global} c.in_ok-command.command.now ∷ map (string_bytes {Z = Global}) c.in_ok-command.others.now =
    ap (λ ws. map (string_bytes {Z = Global}) ws) c.in_ok-command.ensures.cases.0 in
    let one = c.in_ok-arguments.ensures.only call.operands call.given (arguments_of _ _ _ asked call e) in
    c.call_of.ensures.none none asked
    (stands_of _ _ _ asked call e c.as_str.result.now (texts_of c.in_ok-arguments.arguments.operands) c.in_ok-arguments.arguments.steps c.as_str.ensures.value one.0 one.1)

pub returns-clause-only : goal.returns-clause-only
returns-clause-only c = IfSome_then c.call_of.result c.call_of.ensures.only (λ found only asked call.
    let e : map (string_bytes {Z = Global}) c.args.words.now ≡ string_bytes {Z = Global} c.in_ok-command.command.now ∷ map (string_bytes {Z = Global}) c.in_ok-command.others.now =
    ap (λ ws. map (string_bytes {Z = Global}) ws) c.in_ok-command.ensures.cases.0 in
    let one = c.in_ok-arguments.ensures.only call.operands call.given (arguments_of _ _ _ asked call e) in
    only asked
    (stands_of _ _ _ asked call e c.as_str.result.now (texts_of c.in_ok-arguments.arguments.operands) c.in_ok-arguments.arguments.steps c.as_str.ensures.value one.0 one.1))
