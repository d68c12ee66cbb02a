-- The lines of the cores from a place on are that of the next core and those behind it; where no core or no end is left, there are none. So
-- what is written so far and the lines that are left stay the whole text.
use Rattle.std.proofs.Common.{◌≡◌, ℕ, ◌<◌, ◌≤◌, List, [], ◌∷◌, ◌++◌, length, get_or, drop, None, Some, zero, suc, refl, sym, ap, ◌∙◌, append_assoc, append-nil, arith}
use Rattle.std.specs.Prelude.{slice_get}
use Rattle.std.proofs.Math.ListN.{drop_of_length-le}
use Rattle.ac_base.specs.declared.ends.CoreEnd.{CoreEnd}
use Rattle.order_program.specs.Lines.{ending_of, states_text}

-- ---- the lines from a place on

a_line : (names : List (List ℕ)) (ends : List CoreEnd) (place : ℕ) (name : List ℕ) (end : CoreEnd) → place < length names → name ≡ get_or names place name → slice_get ends place ≡ Some end
    → states_text (drop place names) (drop place ends) ≡ (name ++ ending_of end) ++ states_text (drop (suc place) names) (drop (suc place) ends)
a_line [] ends place name end l is e = absurd (omega (arith, l))
a_line (n ∷ names) [] place name end l is e = absurd (cc (e))
a_line (n ∷ names) (x ∷ ends) zero name end l is e =
    let same : x ≡ end = cc (e) in
    ap (λ (line : List ℕ). line ++ states_text names ends) (ap (λ (m : List ℕ). m ++ ending_of x) (sym is) ∙ ap (λ (d : CoreEnd). name ++ ending_of d) same)
a_line (n ∷ names) (x ∷ ends) (suc place) name end l is e = a_line names ends place name end (omega (arith, l)) is e

no_ends : (names : List (List ℕ)) → states_text names [] ≡ []
no_ends [] = refl
no_ends (n ∷ names) = refl

no_line : (names : List (List ℕ)) (ends : List CoreEnd) (place : ℕ) → slice_get ends place ≡ None → states_text (drop place names) (drop place ends) ≡ []
no_line [] ends zero e = refl
no_line [] ends (suc place) e = refl
no_line (n ∷ names) [] zero e = refl
no_line (n ∷ names) [] (suc place) e = no_ends (drop place names)
no_line (n ∷ names) (x ∷ ends) zero e = absurd (cc (e))
no_line (n ∷ names) (x ∷ ends) (suc place) e = no_line names ends place e

-- ---- what is written and what is left

module _ (names : List (List ℕ)) (ends : List CoreEnd) (place : ℕ) (text whole : List ℕ) (left : text ++ states_text (drop place names) (drop place ends) ≡ whole) where
  pub line_more : (name : List ℕ) (end : CoreEnd) (later : List ℕ) → place < length names → name ≡ get_or names place name → slice_get ends place ≡ Some end
      → later ≡ text ++ (name ++ ending_of end) → later ++ states_text (drop (suc place) names) (drop (suc place) ends) ≡ whole
  line_more name end later l is e t =
      let rest = states_text (drop (suc place) names) (drop (suc place) ends) in
      ap (λ (bs : List ℕ). bs ++ rest) t ∙ append_assoc text (name ++ ending_of end) rest ∙ ap (λ (bs : List ℕ). text ++ bs) (sym (a_line names ends place name end l is e)) ∙ left

  nothing_left : states_text (drop place names) (drop place ends) ≡ [] → text ≡ whole
  nothing_left e = sym (append-nil text) ∙ ap (λ (bs : List ℕ). text ++ bs) (sym e) ∙ left

  pub no_end_left : slice_get ends place ≡ None → text ≡ whole
  no_end_left e = nothing_left (no_line names ends place e)

  pub no_name_left : length names ≤ place → text ≡ whole
  no_name_left l = nothing_left (ap (λ (ns : List (List ℕ)). states_text ns (drop place ends)) (drop_of_length-le names l))
