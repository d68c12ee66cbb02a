-- A text to which parts are added one by one is that text with all of them behind it, for `load_text`: by putting appends in order.
use Rattle.std.proofs.Common.{◌≡◌, ℕ, List, ◌++◌, ◌∙◌, ap, append_assoc}

pub three_parts : (text a b c x y z : List ℕ) → x ≡ text ++ a → y ≡ x ++ b → z ≡ y ++ c → z ≡ text ++ (a ++ (b ++ c))
three_parts text a b c x y z first second third =
    third ∙ ap (λ xs. xs ++ c) (second ∙ ap (λ xs. xs ++ b) first) ∙ append_assoc (text ++ a) b c ∙ append_assoc text a (b ++ c)
