-- The counts of blocks where a thread is started in the innermost one or has ended in it.
-- One number in one block of the table changes by one; for every block this is the number of threads that were started directly in it.
use Rattle.std.proofs.Common.{◌≡◌, ◌≢◌, ℕ, ◌+◌, ◌-◌, ◌<◌, List, [], ◌∷◌, length, Option, Some, None, inl, inr, refl, sym, ap, ◌∙◌, subst, arith}
use Rattle.std.proofs.lemmas.Bool.{cases_eq}
use Rattle.std.proofs.lemmas.List.{get_or-set_other, length-set}
use Rattle.work_item.specs.declared.ids.BlockId.{BlockId}
use Rattle.code_meaning.specs.Machine.{Block, block_at, with_block, one_more, counted_in}
use Rattle.ac_translation.proofs.Tables.{Changed, set_changed, in_table, first, one, one_same, one_other}
use Rattle.ac_translation.proofs.Blocks.{same_block, head_is}

-- a block that stands in the table
pub block_stands : (bs : List (Option Block)) (b : BlockId) (x : Block) → block_at bs b ≡ Some x → b.number < length bs
block_stands bs b x h = in_table (λ o. o ≡ Some x) None bs b.number never h
  where
    never : None ≡ Some x → ⊥
    never e = cc

pub block_put : (bs : List (Option Block)) (b : BlockId) (x : Block) (y : Option Block) → block_at bs b ≡ Some x → Changed None bs (with_block bs b y) b.number y
block_put bs b x y h = set_changed None bs b.number y (block_stands bs b x h)

-- the counts of the blocks with one thread more in the innermost of these, or in none
pub counted_in_tells : (bs : List (Option Block)) (path : List BlockId) (b : BlockId) (k : ℕ) (x : Block) → k ≡ x.count + head_is b path → block_at bs b ≡ Some x
    → block_at (counted_in bs (first path)) b ≡ Some (record x { count = k })
counted_in_tells bs [] b k x q h = let z : x.count ≡ k = omega (arith, q) in h ∙ ap {A = ℕ} {B = Option Block} (λ y. Some (record x { count = y })) z
counted_in_tells bs (c ∷ path) b k x q h =
    elim (cases_eq c.number b.number) as (λ _. block_at (counted_in bs (Some c)) b ≡ Some (record x { count = k })) [
      | inl s ↦
          let same : c ≡ b = same_block c b s in
          let stood : block_at bs c ≡ Some x = ap (block_at bs) same ∙ h in
          let o : one b.number c.number ≡ 1 = subst (λ z. one b.number z ≡ 1) (sym s) (one_same b.number) in
          let z : x.count + 1 ≡ k = omega (arith, q, o) in
          let put = block_put bs c x (one_more (block_at bs c)) stood in
          subst (λ (z : BlockId). block_at (with_block bs c (one_more (block_at bs c))) z ≡ one_more (block_at bs c)) same put.here
          ∙ ap one_more stood
          ∙ ap {A = ℕ} {B = Option Block} (λ y. Some (record x { count = y })) z
      | inr ne ↦
          let none = one_other b.number c.number (λ s. ne (sym s)) in
          let z : x.count ≡ k = omega (arith, q, none) in
          other c (one_more (block_at bs c)) (λ s. ne s) ∙ h ∙ ap {A = ℕ} {B = Option Block} (λ y. Some (record x { count = y })) z
    ]
  where
    other : (c : BlockId) (y : Option Block) → c.number ≢ b.number → block_at (with_block bs c y) b ≡ block_at bs b
    other c y ne = get_or-set_other bs c.number b.number y None (λ s. ne (sym s))

pub counted_in_length : (bs : List (Option Block)) (path : Option BlockId) → length (counted_in bs path) ≡ length bs
counted_in_length bs None = refl
counted_in_length bs (Some c) = length-set bs c.number (one_more (block_at bs c))

-- the counts with one thread less in the innermost of these, which stands in the table
pub counted_out_tells : (bs : List (Option Block)) (c : BlockId) (path : List BlockId) (z x : Block) (b : BlockId) (k : ℕ) → block_at bs c ≡ Some z → x.count ≡ k + head_is b (c ∷ path)
    → block_at bs b ≡ Some x →
    block_at (with_block bs c (Some (record z { count = z.count - 1 }))) b ≡ Some (record x { count = k })
counted_out_tells bs c path z x b k stood q h =
    let put = block_put bs c z (Some (record z { count = z.count - 1 })) stood in
    elim (cases_eq c.number b.number) as (λ _. block_at (with_block bs c (Some (record z { count = z.count - 1 }))) b ≡ Some (record x { count = k })) [
      | inl s ↦
          let same : c ≡ b = same_block c b s in
          let is : Some z ≡ Some x = sym stood ∙ ap (block_at bs) same ∙ h in
          let z_is : z ≡ x = cc in
          let o : one b.number c.number ≡ 1 = subst (λ n. one b.number n ≡ 1) (sym s) (one_same b.number) in
          let less : x.count - 1 ≡ k = omega (arith, q, o) in
          subst (λ (y : BlockId). block_at (with_block bs c (Some (record z { count = z.count - 1 }))) y ≡ Some (record z { count = z.count - 1 })) same put.here
          ∙ ap {A = Block} {B = Option Block} (λ y. Some (record y { count = y.count - 1 })) z_is
          ∙ ap {A = ℕ} {B = Option Block} (λ n. Some (record x { count = n })) less
      | inr ne ↦
          let none = one_other b.number c.number (λ s. ne (sym s)) in
          let same : x.count ≡ k = omega (arith, q, none) in
          put.there b.number ne ∙ h ∙ ap {A = ℕ} {B = Option Block} (λ n. Some (record x { count = n })) same
    ]
