use Rattle.std.proofs.Common.{◌≡◌, ℕ, List, [], ◌∷◌, ◌++◌, length, codes, ap, ◌∙◌, append_assoc, rules, to_z, of_z}
use Rattle.std.specs.Int.{w128}
use Rattle.std.specs.Fmt.{decimal, signed_decimal}
use Rattle.std.proofs.lemmas.Int.{ints, to_z-of_z}
use Rattle.ac_choice.specs.Relaying.{of_end}
use Rattle.merge_program.proofs.texts.end_line.Goals as goal

regroup : (a p b q s e : List ℕ) → a ++ (p ++ (b ++ (q ++ (s ++ e)))) ≡ a ++ p ++ b ++ q ++ s ++ e
regroup a p b q s e = simp (append_assoc)

pub returns : goal.returns
returns c =
    let same : to_z w128 (of_z w128 c.counted-count.result.1) ≡ c.counted-count.result.1 = search (rules, ints, to_z-of_z) in
    let tag = c.args.tag in let shown = to_z w128 (of_z w128 c.counted-count.result.1) in let number = length (of_end tag c.args.messages.now) in
    let front = decimal tag ++ codes ": " in let middle = codes " messages, sum " in
    c.in_ok-format.ensures.ok ∙ regroup (decimal tag) (codes ": ") (decimal c.counted-count.result.0) middle (signed_decimal shown) (10 ∷ [])
    ∙ ap (λ n. front ++ decimal n ++ middle ++ signed_decimal shown ++ 10 ∷ []) c.counted-count.ensures.count
    ∙ ap (λ s. front ++ decimal number ++ middle ++ signed_decimal s ++ 10 ∷ []) (same ∙ c.counted-count.ensures.sum)
