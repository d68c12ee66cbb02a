-- Each change of the blocks keeps them rooted: the parent of a live block lives and is older. This is the invariant of `Blocks`.
-- Each lemma splits on whether a block is the one that was changed or another. The hard case is a block given back: nothing may lie in it, so it is nobody's parent.
-- `seen_gone` and `seen_made` say the same of a table that is known as contracts see it, for the proofs of single calls.
use Rattle.std.proofs.Common.{◌≡◌, ℕ, ◌<◌, List, [], ◌∷◌, ◌++◌, length, Option, Some, None, IsSome, IfSome, inl, inr, sym, ap, ◌∙◌, subst, arith, get_or-set_same, set}
use Rattle.std.proofs.lemmas.Bool.{cases_eq}
use Rattle.std.proofs.Math.ListN.{get_or-append}
use Rattle.work_item.specs.declared.ids.Item.{Item}
use Rattle.work_item.specs.declared.ids.BlockId.{BlockId}
use Rattle.work_item.proofs.Children.{within, some_of, is_there, other, pushed}
use Rattle.finish_block.specs.declared.block.Block.{Block}
use Rattle.finish_block.specs.Table.{Table, block_at, new_block}
use Rattle.finish_block.specs.Conditions.{Lives, ParentLives, Childless, IsRooted}

pub same_number : (a b : BlockId) → a.number ≡ b.number → a ≡ b
same_number a b e = let at_number : ℕ → BlockId = λ n. record { number = n } in ap at_number e

-- what now stands at the number of the block that was changed
changed : (bs : List (Option Block)) (b c : BlockId) (y : Option Block) → b.number < length bs → b.number ≡ c.number → block_at (set bs b.number y) c ≡ y
changed bs b c y lt e = subst (λ n. block_at (set bs b.number y) (record { number = n }) ≡ y) e (get_or-set_same bs b.number y None lt)

still : (bs : List (Option Block)) (b c : BlockId) (y : Block) → b.number < length bs → Lives bs c → Lives (set bs b.number (Some y)) c
still bs b c y lt l =
    elim (cases_eq b.number c.number) as (λ _. Lives (set bs b.number (Some y)) c) [
      | inl q ↦ is_there (block_at (set bs b.number (Some y)) c) y (changed bs b c (Some y) lt q)
      | inr ne ↦ subst (λ o. IsSome o) (sym (other bs b.number c.number (Some y) ne)) l
    ]

pub rooted_same : (bs : List (Option Block)) (b : BlockId) (x y : Block) → IsRooted bs → block_at bs b ≡ Some x → y.parent ≡ x.parent → IsRooted (set bs b.number (Some y))
rooted_same bs b x y r e same c z p ez ep =
    elim (cases_eq b.number c.number) as (λ _. (p.number < c.number) × Lives (set bs b.number (Some y)) p) [
      | inl q ↦
          let is : Some y ≡ Some z = sym (changed bs b c (Some y) lt q) ∙ ez in
          let up : y.parent ≡ Some p = (let h : y ≡ z = cc in ap (λ w. w.parent) h ∙ ep) in
          let k = r b x p e (sym same ∙ up) in
          (subst (λ n. p.number < n) q k.0, still bs b p y lt k.1)
      | inr ne ↦
          let k = r c z p (sym (other bs b.number c.number (Some y) ne) ∙ ez) ep in
          (k.0, still bs b p y lt k.1)
    ]
  where
    lt : b.number < length bs
    lt = within bs b.number x e

pub rooted_gone : (bs : List (Option Block)) (b : BlockId) (x : Block) → IsRooted bs → block_at bs b ≡ Some x → Childless bs b → IsRooted (set bs b.number None)
rooted_gone bs b x r e alone c z p ez ep =
    elim (cases_eq b.number c.number) as (λ _. (p.number < c.number) × Lives (set bs b.number None) p) [
      | inl q ↦
          let no : None ≡ Some z = sym (changed bs b c None (within bs b.number x e) q) ∙ ez in
          absurd (cc)
      | inr ne ↦
          let was = sym (other bs b.number c.number None ne) ∙ ez in
          let k = r c z p was ep in
          let apart : b.number ≡ p.number → ⊥ = (λ q. alone c z was (ep ∙ ap Some (same_number p b (sym q)))) in
          (k.0, subst (λ o. IsSome o) (sym (other bs b.number p.number None apart)) k.1)
    ]

pub rooted_made : (bs : List (Option Block)) (parent : Option BlockId) (owner : Item) → IsRooted bs → ParentLives bs parent → IsRooted (bs ++ Some (new_block parent owner) ∷ [])
rooted_made bs parent owner r alive c z p ez ep =
    elim (pushed bs (new_block parent owner) c.number z ez) as (λ _. (p.number < c.number) × Lives (bs ++ Some (new_block parent owner) ∷ []) p) [
      | inl was ↦ let k = r c z p was ep in (k.0, more p k.1)
      | inr is ↦
          let l = given parent alive (ap (λ w. w.parent) is.1 ∙ ep) in
          (omega (arith, there p l, is.0), more p l)
    ]
  where
    there : (b : BlockId) → Lives bs b → b.number < length bs
    there b l = let x = some_of (block_at bs b) l in within bs b.number x.0 x.1

    more : (b : BlockId) → Lives bs b → Lives (bs ++ Some (new_block parent owner) ∷ []) b
    more b l = subst (λ o. IsSome o) (sym (get_or-append bs (Some (new_block parent owner) ∷ []) None b.number (there b l))) l

    given : (o : Option BlockId) → ParentLives bs o → o ≡ Some p → Lives bs p
    given None a e = let no : None ≡ Some p = e in absurd (cc)
    given (Some q) a e = let s : q ≡ p = cc in subst (Lives bs) s a

-- what is said of a block, where it is known
pub of_some : (o : Option Block) (P : Block → Type 0) (x : Block) → o ≡ Some x → IfSome o P → P x
of_some o P x e l = subst (λ q. IfSome q P) e l

-- ---- the same, where the block is known of what contracts see

abbrev pub Shows : List (Option Block) → ℕ → Table → Type 0
Shows bs spare t = record { blocks = bs; spare = spare } ≡ t

pub seen_gone : (bs after : List (Option Block)) (spare : ℕ) (t : Table) (b : BlockId) (x : Block) → IsRooted bs → Shows bs spare t → block_at t.blocks b ≡ Some x
    → Childless t.blocks b → after ≡ set bs b.number None → IsRooted after
seen_gone bs after spare t b x r same e alone is =
    subst IsRooted (sym is) (rooted_gone bs b x r (ap (λ u. block_at u.blocks b) same ∙ e) (subst (λ u. Childless u.blocks b) (sym same) alone))

pub seen_made : (bs after : List (Option Block)) (spare : ℕ) (t : Table) (parent : Option BlockId) (owner : Item) → IsRooted bs → Shows bs spare t → ParentLives t.blocks parent
    → after ≡ bs ++ Some (new_block parent owner) ∷ [] → IsRooted after
seen_made bs after spare t parent owner r same alive is =
    subst IsRooted (sym is) (rooted_made bs parent owner r (subst (λ u. ParentLives u.blocks parent) (sym same) alive))
