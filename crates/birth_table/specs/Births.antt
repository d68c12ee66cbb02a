-- What a contract sees of a table of values at the numbers of their births.
use Rattle.std.specs.Prelude.{ℕ, List, Option, Some, None, refl, slice_index_or, slice_set}
use Rattle.std.specs.Coded.{Coded, code_by, coded×, coded_ℕ, coded_list, coded_option}

-- by number, each value that lives and none where it is gone; a value that is gone and is left where the
-- next one comes; and for how many further values there is room
pub record Births (T : Type 0) : Type 0 where
  pub items : List (Option T)
  pub left : Option T
  pub spare : ℕ

-- stored as the tuple of its fields
abbrev pub births_code : {T : Type 0} → Coded T → Coded (Births T)
births_code {T} code =
    code_by
    (List (Option T) × (Option T × ℕ))
    (coded× (coded_list (coded_option code)) (coded× (coded_option code) coded_ℕ))
    (λ b. (b.items, (b.left, b.spare)))
    (λ p. record { items = p.0; left = p.1.0; spare = p.1.1 })
    (λ _. refl)

module _ {T : Type 0} where
  -- what stands at a number
  abbrev pub item_at : Births T → ℕ → Option T
  item_at b number = slice_index_or b.items number None

  -- this value in place of the one at a number
  abbrev pub with_value : Births T → ℕ → T → Births T
  with_value b number value = record b { items = slice_set b.items number (Some value) }

  -- this value in place of the one that is left
  abbrev pub with_left : Births T → T → Births T
  with_left b value = record b { left = Some value }
