use Rattle.std.proofs.Common.{◌≡◌, ◌+◌, ◌∷◌, [], map, drop, string_bytes, subst, sym, refl, Global}
use Rattle.std.proofs.lemmas.Option.{IfSome_then}
use Rattle.ac_words.specs.inner.Scanning.{Completes}
use Rattle.ac_words.proofs.Scans.{words_from, words_end}
use Rattle.ac_words.proofs.scan.read_arguments.Goals as goal

pub loop-word-preserved : goal.loop-word-preserved
loop-word-preserved c = λ operands given.
    let e : map (string_bytes {Z = Global}) (drop c.loop-word.word-index c.args.words.now)
    ≡ c.as_str.result.now ∷ map (string_bytes {Z = Global}) (drop (c.loop-word.word-index + 1) c.args.words.now) =
    words_from (string_bytes {Z = Global}) c.args.words.now c.loop-word.word-index c.word-item.result c.as_str.result.now c.loop-word-test.true c.word-item.is c.as_str.ensures.value in
    let inv = c.loop-word.invariant operands given in
    let taken = c.in_ok-scan.ensures.taken (map (string_bytes {Z = Global}) (drop (c.loop-word.word-index + 1) c.args.words.now)) operands given in
    (λ g. taken.0 (subst (λ ws. Completes c.loop-word.scan ws operands given) e (inv.0 g)), λ h. inv.1 (subst (λ ws. Completes c.loop-word.scan ws operands given) (sym e) (taken.1 h)))

pub returns-in_err-scan-clause-usage : goal.returns-in_err-scan-clause-usage
returns-in_err-scan-clause-usage c = λ none operands given g.
    let e : map (string_bytes {Z = Global}) (drop c.loop-word.word-index c.args.words.now)
    ≡ c.as_str.result.now ∷ map (string_bytes {Z = Global}) (drop (c.loop-word.word-index + 1) c.args.words.now) =
    words_from (string_bytes {Z = Global}) c.args.words.now c.loop-word.word-index c.word-item.result c.as_str.result.now c.loop-word-test.true c.word-item.is c.as_str.ensures.value in
    let inv = c.loop-word.invariant operands given in
    c.in_err-scan.ensures.refused refl (map (string_bytes {Z = Global}) (drop (c.loop-word.word-index + 1) c.args.words.now)) operands given
    (subst (λ ws. Completes c.loop-word.scan ws operands given) e (inv.0 g))

pub returns-clause-usage : goal.returns-clause-usage
returns-clause-usage c = λ none operands given g.
    let inv = c.loop-word.invariant operands given in
    let e : map (string_bytes {Z = Global}) (drop c.loop-word.word-index c.args.words.now)
    ≡ [] = words_end (string_bytes {Z = Global}) c.args.words.now c.loop-word.word-index c.loop-word-test.false in
    c.finish.ensures.refused none operands given (subst (λ ws. Completes c.loop-word.scan ws operands given) e (inv.0 g))

pub returns-clause-only : goal.returns-clause-only
returns-clause-only c =
    let e : map (string_bytes {Z = Global}) (drop c.loop-word.word-index c.args.words.now)
    ≡ [] = words_end (string_bytes {Z = Global}) c.args.words.now c.loop-word.word-index c.loop-word-test.false in
    IfSome_then c.finish.result c.finish.ensures.only (λ call one operands given g. one operands given (subst (λ ws. Completes c.loop-word.scan ws operands given) e
    ((c.loop-word.invariant operands given).0 g)))
