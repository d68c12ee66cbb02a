-- Others from one index up to another are dropped: those of the cleared cells are left.
-- By induction on the cells: up to the first index and from the last one on an other passes the test, and between them none does.
use Rattle.std.proofs.Common.{◌≡◌, ℕ, zero, suc, ◌+◌, ◌<◌, ◌≤◌, List, [], ◌∷◌, Bool, true, false, ◌||◌, nat_lt, nat_le, cond}
use Rattle.std.proofs.Common.{ap, ◌∙◌, refl, arith}
use Rattle.std.specs.List.{filter}
use Rattle.std.proofs.lemmas.Bool.Decides.{nat_tests}
use Rattle.work_item.specs.declared.cell.Cell.{Cell}
use Rattle.work_item.specs.declared.cell.Cell.TheVariants as c
use Rattle.work_item.specs.declared.others.Other.{Other}
use Rattle.work_item.specs.Store.{cleared_front, cleared}
use Rattle.work_item.specs.Cells.{others_from}
use Rattle.work_item.proofs.RowCalls.{one}

abbrev pub lies_out : ℕ → ℕ → Other → Bool
lies_out start end o = nat_lt o.index start || nat_le end o.index

module _ (start end : ℕ) where
  stays : (o : Other) (others left : List Other) → lies_out start end o ≡ true → filter (lies_out start end) others ≡ left
      → filter (lies_out start end) (o ∷ others) ≡ o ∷ left
  stays o others left q e =
      ap (λ b. cond b (o ∷ filter (lies_out start end) others) (filter (lies_out start end) others)) q ∙ ap (λ l. o ∷ l) e

  goes : (o : Other) (others left : List Other) → lies_out start end o ≡ false → filter (lies_out start end) others ≡ left
      → filter (lies_out start end) (o ∷ others) ≡ left
  goes o others left q e = ap (λ b. cond b (o ∷ filter (lies_out start end) others) (filter (lies_out start end) others)) q ∙ e

  low_out : (i : ℕ) (x : Cell) → i < start → lies_out start end (one i x) ≡ true
  low_out i x lt = let q : nat_lt i start ≡ true = grind (arith, nat_tests) in ap (λ b. b || nat_le end i) q

  high_out : (i : ℕ) (x : Cell) → end ≤ i → lies_out start end (one i x) ≡ true
  high_out i x le = go (nat_lt i start)
    where
      q : nat_le end i ≡ true
      q = grind (arith, nat_tests)

      go : (b : Bool) → (b || nat_le end i) ≡ true
      go true = refl
      go false = q

  lies_in : (i : ℕ) (x : Cell) → start ≤ i → i < end → lies_out start end (one i x) ≡ false
  lies_in i x le lt =
      let q : nat_lt i start ≡ false = grind (arith, nat_tests) in
      let r : nat_le end i ≡ false = grind (arith, nat_tests) in
      ap (λ b. b || nat_le end i) q ∙ r

  all_out : (cells : List Cell) (from : ℕ) → end ≤ from → filter (lies_out start end) (others_from from cells) ≡ others_from from cells
  all_out [] from le = refl
  all_out (c.Int v ∷ cells) from le = all_out cells (suc from) (omega arith)
  all_out (c.Array p ∷ cells) from le =
      stays (one from (c.Array p)) (others_from (suc from) cells) (others_from (suc from) cells) (high_out from (c.Array p) le) (all_out cells (suc from) (omega arith))
  all_out (c.Block b ∷ cells) from le =
      stays (one from (c.Block b)) (others_from (suc from) cells) (others_from (suc from) cells) (high_out from (c.Block b) le) (all_out cells (suc from) (omega arith))

  front_out : (cells : List Cell) (from n : ℕ) → start ≤ from → from + n ≡ end
      → filter (lies_out start end) (others_from from cells) ≡ others_from from (cleared_front n cells)
  front_out cells from zero le e = all_out cells from (omega arith)
  front_out [] from (suc n) le e = refl
  front_out (c.Int v ∷ cells) from (suc n) le e = front_out cells (suc from) n (omega arith) (omega arith)
  front_out (c.Array p ∷ cells) from (suc n) le e =
      goes (one from (c.Array p)) (others_from (suc from) cells) (others_from (suc from) (cleared_front n cells)) (lies_in from (c.Array p) le (omega arith))
      (front_out cells (suc from) n (omega arith) (omega arith))
  front_out (c.Block b ∷ cells) from (suc n) le e =
      goes (one from (c.Block b)) (others_from (suc from) cells) (others_from (suc from) (cleared_front n cells)) (lies_in from (c.Block b) le (omega arith))
      (front_out cells (suc from) n (omega arith) (omega arith))

  pub filtered : (cells : List Cell) (from slot n : ℕ) → from + slot ≡ start → start + n ≡ end
      → filter (lies_out start end) (others_from from cells) ≡ others_from from (cleared slot n cells)
  filtered cells from zero n e f = front_out cells from n (omega arith) (omega arith)
  filtered [] from (suc slot) n e f = refl
  filtered (c.Int v ∷ cells) from (suc slot) n e f = filtered cells (suc from) slot n (omega arith) f
  filtered (c.Array p ∷ cells) from (suc slot) n e f =
      stays (one from (c.Array p)) (others_from (suc from) cells) (others_from (suc from) (cleared slot n cells)) (low_out from (c.Array p) (omega arith))
      (filtered cells (suc from) slot n (omega arith) f)
  filtered (c.Block b ∷ cells) from (suc slot) n e f =
      stays (one from (c.Block b)) (others_from (suc from) cells) (others_from (suc from) (cleared slot n cells)) (low_out from (c.Block b) (omega arith))
      (filtered cells (suc from) slot n (omega arith) f)
