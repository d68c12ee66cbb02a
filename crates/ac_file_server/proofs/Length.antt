-- The text is short, at most 2131 bytes (`the_text_is_short`, for `load_text`): the part without clients has a length that computes, and that of a
-- client varies only with the digits of the turns, of which there are three at most. Lengths are added line by line (`length_of_lines`).
use Rattle.std.proofs.Common.{◌≡◌, ℕ, ◌+◌, ◌≤◌, suc, List, [], ◌∷◌, ◌++◌, length, codes, refl, ◌∙◌, ap, sym, subst, arith, length-append}
use Rattle.std.proofs.lemmas.Fmt.{length-decimal-le}
use Rattle.std.specs.Fmt.{decimal}
use Rattle.ac_file_server.specs.ServerText.{lines, server_text, client0, client1, client2, load_text}

abbrev total : List (List ℕ) → ℕ
total [] = 0
total (line ∷ more) = length line + suc (total more)

length_of_lines : (texts : List (List ℕ)) → length (lines texts) ≡ total texts
length_of_lines [] = refl
length_of_lines (line ∷ more) = length-append line (10 ∷ lines more) ∙ ap (λ n. length line + suc n) (length_of_lines more)

together : (s a b c : List ℕ) → length s ≡ 1327 → length a ≤ 256 → length b ≤ 274 → length c ≤ 274 → length (s ++ (a ++ (b ++ c))) ≤ 2131
together s a b c of_server of_first of_second of_third =
    omega (arith, length-append s (a ++ (b ++ c)), length-append a (b ++ c), length-append b c, of_server, of_first, of_second, of_third)

module _ (turns : ℕ) (few : turns ≤ 500) where
  digits_are_few : length (decimal turns) ≤ 3
  digits_are_few = length-decimal-le 3 turns (omega arith) (omega (arith, few)) (omega (arith, few))

  in_the_loop : length (decimal turns ++ codes "; j = j + 1) {") ≡ length (decimal turns) + 14
  in_the_loop = length-append (decimal turns) (codes "; j = j + 1) {")

  of_the_first : length (lines (client0 turns)) ≤ 256
  of_the_first = subst (λ n. n ≤ 256) (sym (length_of_lines (client0 turns))) (omega (arith, in_the_loop, digits_are_few))

  of_the_second : length (lines (client1 turns)) ≤ 274
  of_the_second = subst (λ n. n ≤ 274) (sym (length_of_lines (client1 turns))) (omega (arith, in_the_loop, digits_are_few))

  of_the_third : length (lines (client2 turns)) ≤ 274
  of_the_third = subst (λ n. n ≤ 274) (sym (length_of_lines (client2 turns))) (omega (arith, in_the_loop, digits_are_few))

  pub the_text_is_short : length (load_text turns) ≤ 2131
  the_text_is_short = together server_text (lines (client0 turns)) (lines (client1 turns)) (lines (client2 turns)) refl of_the_first of_the_second of_the_third
