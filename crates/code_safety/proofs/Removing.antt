-- What holds of the other blocks where one is given back in which no thread lives.
-- It is the innermost block of its owner and no thread was started in it, so no other block lies in it and each thread keeps the blocks
-- round it.
use Rattle.std.proofs.Common.{◌≡◌, ◌⊎◌, ℕ, ◌≤◌, ◌<◌, List, Option, Some, None, true, refl, sym, ap, ◌∙◌, subst, inl, inr, arith}
use Rattle.std.proofs.lemmas.Bool.{cases_eq}
use Rattle.std.proofs.lemmas.List.{get_or-set_same, get_or-set_other}
use Rattle.work_item.specs.declared.ids.Item.{Item}
use Rattle.work_item.specs.declared.ids.BlockId.{BlockId}
use Rattle.code_meaning.specs.Machine.{Block, block_at, with_block}
use Rattle.code_safety.specs.Fit.{Life, life_at, starts_in, total, innermost, AtFinish, IsBlock}
use Rattle.code_safety.proofs.Lasting.{KeepsBlocks}
use Rattle.code_safety.proofs.Lives.{same_item, same_block}
use Rattle.code_safety.proofs.Making.{there_within}

-- ---- the table after one block is set

-- it is that block or another one
pub same_or_not : (a b : BlockId) → (a ≡ b) ⊎ (a ≡ b → ⊥)
same_or_not a b = elim (cases_eq a.number b.number) as (λ _. (a ≡ b) ⊎ (a ≡ b → ⊥)) [
  | inl e ↦ inl (same_block a b e)
  | inr ne ↦ inr (λ e. ne (ap (λ (x : BlockId). x.number) e))
]

pub same_or_other : (t u : Item) → (t ≡ u) ⊎ (t ≡ u → ⊥)
same_or_other t u = elim (cases_eq t.number u.number) as (λ _. (t ≡ u) ⊎ (t ≡ u → ⊥)) [
  | inl e ↦ inl (same_item t u e)
  | inr ne ↦ inr (λ e. ne (ap (λ (x : Item). x.number) e))
]

module _ (blocks : List (Option Block)) (b : BlockId) (o : Option Block) where
  pub set_aside : (c : BlockId) → (b ≡ c → ⊥) → block_at (with_block blocks b o) c ≡ block_at blocks c
  set_aside c ne = get_or-set_other blocks b.number c.number o None (λ e. ne (same_block b c (sym e)))

  pub set_there : (x : Block) → block_at blocks b ≡ Some x → block_at (with_block blocks b o) b ≡ o
  set_there x e = get_or-set_same blocks b.number o None (there_within blocks b.number x e)

  pub set_is : (x : Block) → block_at blocks b ≡ Some x → (c : BlockId) (y : Block) → block_at (with_block blocks b o) c ≡ Some y
      → ((b ≡ c) × (o ≡ Some y)) ⊎ ((b ≡ c → ⊥) × (block_at blocks c ≡ Some y))
  set_is x here c y e = elim (same_or_not b c) as (λ _. ((b ≡ c) × (o ≡ Some y)) ⊎ ((b ≡ c → ⊥) × (block_at blocks c ≡ Some y))) [
    | inl same ↦ inl (same, sym (set_there x here) ∙ ap (λ d. block_at (with_block blocks b o) d) same ∙ e)
    | inr ne ↦ inr (ne, sym (set_aside c ne) ∙ e)
  ]

-- ---- one is given back

module _ (lives after : List Life) (blocks : List (Option Block)) (b : BlockId) (x : Block) (here : block_at blocks b ≡ Some x)
    (all : (c : BlockId) (y : Block) → block_at blocks c ≡ Some y → IsBlock lives blocks c y) (inner : innermost (life_at lives x.owner) ≡ Some b) where
  abbrev pub removed : List (Option Block)
  removed = with_block blocks b None

  pub was_there : (c : BlockId) (y : Block) → block_at removed c ≡ Some y → (b ≡ c → ⊥) × (block_at blocks c ≡ Some y)
  was_there c y e = elim (set_is blocks b None x here c y e) as (λ _. (b ≡ c → ⊥) × (block_at blocks c ≡ Some y)) [
    | inl p ↦ absurd (let no : None ≡ Some y = p.1 in cc)
    | inr p ↦ p
  ]

  pub stays : (c : BlockId) (y : Block) → (b ≡ c → ⊥) → block_at blocks c ≡ Some y → block_at removed c ≡ Some y
  stays c y ne e = set_aside blocks b None c ne ∙ e

  -- another block of its owner lies round it
  own_other : (c : BlockId) (y : Block) → (b ≡ c → ⊥) → block_at blocks c ≡ Some y → y.owner ≡ x.owner → c.number < b.number
  own_other c y ne e owner =
      let i = all c y e in
      let q : i.inner ≡ b = let both : Some i.inner ≡ Some b = sym i.innermost ∙ ap (λ u. innermost (life_at lives u)) owner ∙ inner in cc in
      let le : c.number ≤ b.number = subst (λ (d : BlockId). c.number ≤ d.number) q i.within in
      elim (cases_eq c.number b.number) as (λ _. c.number < b.number) [
        | inl k ↦ absurd (ne (same_block b c (sym k)))
        | inr k ↦ omega (arith, le, k)
      ]

  pub keeps_others : (u : Item) (k : ℕ) → (u ≡ x.owner → ⊥) → KeepsBlocks blocks removed u k
  keeps_others u k ne c y e owner lt =
      let other : b ≡ c → ⊥ = (λ same. let z : x ≡ y = let both : Some x ≡ Some y = sym here ∙ ap (block_at blocks) same ∙ e in cc in ne (sym owner ∙ ap (λ (w : Block). w.owner) (sym z))) in
      (y, (stays c y other e, (refl, refl)))

  pub keeps_before : (u : Item) → KeepsBlocks blocks removed u b.number
  keeps_before u c y e owner lt = (y, (stays c y (λ same. let z = ap (λ (d : BlockId). d.number) same in omega (arith, lt, z)) e, (refl, refl)))

  module _ (alone : (c : BlockId) (y : Block) → block_at blocks c ≡ Some y → (life_at lives y.owner).start ≡ Some b → ⊥) where
    no_child : (c : BlockId) (y : Block) → block_at blocks c ≡ Some y → y.parent ≡ Some b → ⊥
    no_child c y e up =
        let i = all c y e in
        let r = i.rooted b up in
        elim r.1.1.1 as (λ _. ⊥) [
          | inl owner ↦
              let z : r.1.0 ≡ x = let both : Some r.1.0 ≡ Some x = sym r.1.1.0 ∙ here in cc in
              let same : y.owner ≡ x.owner = sym owner ∙ ap (λ (w : Block). w.owner) z in
              let lt = own_other c y (λ k. let n = ap (λ (d : BlockId). d.number) k in let l = r.0 in omega (arith, n, l)) e same in
              let l = r.0 in omega (arith, lt, l)
          | inr start ↦ alone c y e start
        ]

    -- The lives afterwards: the owner is out of the block, and each other thread is where it was. Then each other block has its owner, its
    -- parent and its count.
    module _ (inner_after : innermost (life_at after x.owner) ≡ x.parent)
        (inner_other : (c : BlockId) (y : Block) → block_at blocks c ≡ Some y → (y.owner ≡ x.owner → ⊥) → innermost (life_at after y.owner) ≡ innermost (life_at lives y.owner))
        (starts : (c : BlockId) (y : Block) → block_at blocks c ≡ Some y → (life_at after y.owner).start ≡ (life_at lives y.owner).start)
        (counts : (c : BlockId) (y : Block) → block_at blocks c ≡ Some y → (b ≡ c → ⊥) → y.count ≡ total (starts_in c) after)
        (waiting : (c : BlockId) (y : Block) → block_at blocks c ≡ Some y → (b ≡ c → ⊥) → y.waits ≡ true → (life_at after y.owner).phase ≡ AtFinish c) where
      pub other_blocks : (c : BlockId) (y : Block) → block_at removed c ≡ Some y → IsBlock after removed c y
      other_blocks c y f =
          let w = was_there c y f in
          let e = w.1 in
          let i = all c y e in
          let q = elim (same_or_other y.owner x.owner) as (λ _. (q : BlockId) × ((innermost (life_at after y.owner) ≡ Some q) × (c.number ≤ q.number))) [
            | inl owner ↦
                let n = (all b x here).nested c y e owner (own_other c y w.0 e owner) in
                (n.0, (ap (λ u. innermost (life_at after u)) owner ∙ inner_after ∙ n.1.0, n.1.1))
            | inr ne ↦ (i.inner, (inner_other c y e ne ∙ i.innermost, i.within))
          ] in
          record {
            inner = q.0;
            innermost = q.1.0;
            within = q.1.1;
            nested = λ d z g owner lt. i.nested d z (was_there d z g).1 owner lt;
            rooted = λ p up.
                let r = i.rooted p up in (
                  r.0,
                  (
                    r.1.0,
                    (
                      stays p r.1.0 (λ k. no_child c y e (up ∙ ap (λ d. Some d) (sym k))) r.1.1.0,
                      elim r.1.1.1 as (λ _. (r.1.0.owner ≡ y.owner) ⊎ ((life_at after y.owner).start ≡ Some p)) [
                        | inl k ↦ inl k
                        | inr k ↦ inr (starts c y e ∙ k)
                      ],
                    ),
                  ),
                );
            newer = λ a k. i.newer a (sym (starts c y e) ∙ k);
            count = counts c y e w.0;
            waits = λ k. waiting c y e w.0 k;
          }
