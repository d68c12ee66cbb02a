-- What the stack of a thread keeps where frames and blocks come and go that are not its own.
-- By induction over the activations, and over the blocks within each. Then the changes of its own: another address or other operands, a
-- block more, a block less, a caller more or less, and what stands at its bottom.
use Rattle.std.proofs.Common.{◌≡◌, ℕ, ◌+◌, ◌<◌, List, [], ◌∷◌, ◌⊎◌, Option, Some, None, refl, sym, ap, ◌∙◌, subst, inl, inr, arith}
use Rattle.std.specs.Prelude.{slice_get}
use Rattle.work_item.specs.declared.ids.Item.{Item}
use Rattle.work_item.specs.declared.ids.FrameId.{FrameId}
use Rattle.work_item.specs.declared.ids.BlockId.{BlockId}
use Rattle.work_item.specs.declared.cell.Cell.{Cell}
use Rattle.stack_code.specs.declared.shape.Shape.{Shape}
use Rattle.stack_code.specs.Parts.{Parts}
use Rattle.stack_code.specs.Valid.{Reaches}
use Rattle.code_meaning.specs.Machine.{Caller, Thread, Block, block_at}
use Rattle.code_safety.specs.Fit.{own_blocks}
use Rattle.code_safety.specs.Chains.{Origin, AtEntry, CalledIn, Came, LiesIn, Names, AllName, HasEnteredIn, none_in, one_in, IsLevel, Starts, IsStack, outermost, called, HasStack}
use Rattle.code_safety.proofs.Lasting.{KeepsBlocks, IsBefore, AreRooted}
use Rattle.code_safety.proofs.Own.{block_bound, is_bound}
use Rattle.code_safety.proofs.Chained.{Extends, chain_grown, lies_grown, names_onto}

-- the block in which a thread was started stays that of its owner
abbrev pub KeepsStart : List (Option Block) → List (Option Block) → Option BlockId → Type 0
KeepsStart old new start = (b : BlockId) (x : Block) → start ≡ Some b → block_at old b ≡ Some x → (y : Block) × ((block_at new b ≡ Some y) × (y.owner ≡ x.owner))

module _ (code : Parts) (origins more : List Origin) (grown : Extends origins more) (old new : List (Option Block)) (rooted : AreRooted old) (sites further : List FrameId)
    (wider : Extends sites further) (t : Item) where
  before_parent : (k : ℕ) (b : BlockId) (x : Block) → block_at old b ≡ Some x → b.number < k → (o : Option BlockId) → x.parent ≡ o → IsBefore k o
  before_parent k b x here lt None e = tt
  before_parent k b x here lt (Some p) e = let r = rooted b x p here e in omega (arith, r, lt)

  pub entered_in_kept : (k : ℕ) → KeepsBlocks old new t k → (f : FrameId) (n : ℕ) (o p : Option BlockId) → IsBefore k o → HasEnteredIn old sites t f n o p
      → HasEnteredIn new further t f n o p × IsBefore k p
  entered_in_kept k keeps f _ _ _ before (none_in o) = (none_in o, before)
  entered_in_kept k keeps f _ _ _ before (one_in n b x o here owner site rest) =
      let y = keeps b x here owner before in
      let r = entered_in_kept k keeps f n x.parent o (before_parent k b x here before x.parent refl) rest in
      (one_in n b y.0 o y.1.0 (y.1.1.0 ∙ owner) (wider b.number f site) (subst (λ q. HasEnteredIn new further t f n q o) (sym y.1.1.1) r.0), r.1)

  starts_kept : (f : FrameId) (start : Option BlockId) → KeepsStart old new start → Starts origins old sites t f start → Starts more new further t f start
  starts_kept f None keeps s = grown f.number AtEntry s
  starts_kept f (Some b) keeps s =
      let y = keeps b s.block refl s.here in
      record {
        block = y.0;
        here = y.1.0;
        older = subst (λ (o : Item). o.number < t.number) (sym y.1.1) s.older;
        site = s.site;
        at = wider b.number s.site s.at;
        inside = lies_grown origins more grown f s.site s.inside;
      }

  level_kept : (k : ℕ) → KeepsBlocks old new t k → (place : ℕ) (f : FrameId) (ops : List Cell) (o p : Option BlockId) → IsBefore k o → IsLevel code origins old sites t place f ops o p
      → IsLevel code more new further t place f ops o p × IsBefore k p
  level_kept k keeps place f ops o p before l =
      let e = entered_in_kept k keeps f (own_blocks l.shape) o p before l.entered in
      (record { shape = l.shape; reached = l.reached; names = names_onto origins more f f (λ g c. chain_grown origins more grown f g c) ops l.names; entered = e.0 }, e.1)

  pub stack_kept : (k : ℕ) → KeepsBlocks old new t k → (start : Option BlockId) → KeepsStart old new start → (place : ℕ) (f : FrameId) (ops : List Cell) (callers : List Caller) (o : Option BlockId)
      → IsBefore k o → IsStack code origins old sites t start place f ops callers o → IsStack code more new further t start place f ops callers o
  stack_kept k keeps start at _ _ _ _ _ before (outermost place f ops o level starts) =
      outermost place f ops o (level_kept k keeps place f ops o start before level).0 (starts_kept f start at starts)
  stack_kept k keeps start at _ _ _ _ _ before (called place f ops c callers o outer level came rest) =
      let l = level_kept k keeps place f ops o outer before level in
      called place f ops c callers o outer l.0 (grown f.number (CalledIn c.frame) came) (stack_kept k keeps start at c.place c.frame c.operands callers outer l.1 rest)

  pub has_stack_kept : (h : Thread) → KeepsBlocks old new t (block_bound h.block) → (z : HasStack code origins old sites t h) → KeepsStart old new z.start → HasStack code more new further t h
  has_stack_kept h keeps z at = record {
    start = z.start;
    stack = stack_kept (block_bound h.block) keeps z.start at h.place h.frame h.operands h.callers h.block (is_bound h.block) z.stack;
  }

-- the innermost activation at another address, with other operands and the same blocks
module _ (code : Parts) (origins : List Origin) (blocks : List (Option Block)) (sites : List FrameId) (t : Item) (start : Option BlockId) where
  pub stack_at : (place : ℕ) (f : FrameId) (ops : List Cell) (callers : List Caller) (o : Option BlockId) → (to : ℕ) (now : List Cell) (s : Shape) → Reaches code to s → AllName origins f now
      → IsStack code origins blocks sites t start place f ops callers o → ((u : Shape) → Reaches code place u → own_blocks u ≡ own_blocks s)
      → IsStack code origins blocks sites t start to f now callers o
  stack_at _ _ _ _ _ to now s reached names (outermost place f ops o level starts) same =
      let entered = subst (λ n. HasEnteredIn blocks sites t f n o start) (same level.shape level.reached) level.entered in
      outermost to f now o (record { shape = s; reached = reached; names = names; entered = entered }) starts
  stack_at _ _ _ _ _ to now s reached names (called place f ops c callers o outer level came rest) same =
      let entered = subst (λ n. HasEnteredIn blocks sites t f n o outer) (same level.shape level.reached) level.entered in
      called to f now c callers o outer (record { shape = s; reached = reached; names = names; entered = entered }) came rest

  -- what its operands name
  pub top_names : (place : ℕ) (f : FrameId) (ops : List Cell) (callers : List Caller) (o : Option BlockId) → IsStack code origins blocks sites t start place f ops callers o → AllName origins f ops
  top_names _ _ _ _ _ (outermost place f ops o level starts) = level.names
  top_names _ _ _ _ _ (called place f ops c callers o outer level came rest) = level.names

  -- ---- blocks that are entered and finished

  -- a block more that was entered in the innermost activation
  pub stack_entered : (place : ℕ) (f : FrameId) (ops : List Cell) (callers : List Caller) (o : Option BlockId) → IsStack code origins blocks sites t start place f ops callers o → (to : ℕ) (s : Shape)
      → Reaches code to s → ((u : Shape) → Reaches code place u → 1 + own_blocks u ≡ own_blocks s) → (b : BlockId) (x : Block) → block_at blocks b ≡ Some x → x.owner ≡ t → x.parent ≡ o
      → slice_get sites b.number ≡ Some f → IsStack code origins blocks sites t start to f ops callers (Some b)
  stack_entered _ _ _ _ _ (outermost place f ops o level starts) to s reached same b x here owner up site =
      let inner = subst (λ q. HasEnteredIn blocks sites t f (own_blocks level.shape) q start) (sym up) level.entered in
      let entered = subst (λ n. HasEnteredIn blocks sites t f n (Some b) start) (same level.shape level.reached) (one_in (own_blocks level.shape) b x start here owner site inner) in
      outermost to f ops (Some b) (record { shape = s; reached = reached; names = level.names; entered = entered }) starts
  stack_entered _ _ _ _ _ (called place f ops c callers o outer level came rest) to s reached same b x here owner up site =
      let inner = subst (λ q. HasEnteredIn blocks sites t f (own_blocks level.shape) q outer) (sym up) level.entered in
      let entered = subst (λ n. HasEnteredIn blocks sites t f n (Some b) outer) (same level.shape level.reached) (one_in (own_blocks level.shape) b x outer here owner site inner) in
      called to f ops c callers (Some b) outer (record { shape = s; reached = reached; names = level.names; entered = entered }) came rest

  -- the innermost of them
  pub record Inner (f : FrameId) (n : ℕ) (o p : Option BlockId) : Type 0 where
    pub b : BlockId
    pub is : o ≡ Some b
    pub x : Block
    pub here : block_at blocks b ≡ Some x
    pub owner : x.owner ≡ t
    pub site : slice_get sites b.number ≡ Some f
    pub rest : HasEnteredIn blocks sites t f n x.parent p

  inner_of : (f : FrameId) (k n : ℕ) (o p : Option BlockId) → HasEnteredIn blocks sites t f k o p → k ≡ 1 + n → Inner f n o p
  inner_of f _ n _ _ (none_in o) e = absurd (omega (arith, e))
  inner_of f _ n _ _ (one_in j b x o here owner site rest) e =
      let same : j ≡ n = omega (arith, e) in
      record { b = b; is = refl; x = x; here = here; owner = owner; site = site; rest = subst (λ q. HasEnteredIn blocks sites t f q x.parent o) same rest }

  pub record Finishes (to : ℕ) (f : FrameId) (ops : List Cell) (callers : List Caller) (o : Option BlockId) : Type 0 where
    pub b : BlockId
    pub is : o ≡ Some b
    pub x : Block
    pub here : block_at blocks b ≡ Some x
    pub owner : x.owner ≡ t
    pub site : slice_get sites b.number ≡ Some f
    pub stack : IsStack code origins blocks sites t start to f ops callers x.parent

  -- the innermost block, and the stack without it
  pub stack_finished : (place : ℕ) (f : FrameId) (ops : List Cell) (callers : List Caller) (o : Option BlockId) → IsStack code origins blocks sites t start place f ops callers o → (to : ℕ) (s : Shape)
      → Reaches code to s → ((u : Shape) → Reaches code place u → own_blocks u ≡ 1 + own_blocks s) → Finishes to f ops callers o
  stack_finished _ _ _ _ _ (outermost place f ops o level starts) to s reached less =
      let i = inner_of f (own_blocks level.shape) (own_blocks s) o start level.entered (less level.shape level.reached) in
      record {
        b = i.b;
        is = i.is;
        x = i.x;
        here = i.here;
        owner = i.owner;
        site = i.site;
        stack = outermost to f ops i.x.parent (record { shape = s; reached = reached; names = level.names; entered = i.rest }) starts;
      }
  stack_finished _ _ _ _ _ (called place f ops c callers o outer level came rest) to s reached less =
      let i = inner_of f (own_blocks level.shape) (own_blocks s) o outer level.entered (less level.shape level.reached) in
      record {
        b = i.b;
        is = i.is;
        x = i.x;
        here = i.here;
        owner = i.owner;
        site = i.site;
        stack = called to f ops c callers i.x.parent outer (record { shape = s; reached = reached; names = level.names; entered = i.rest }) came rest;
      }

  -- ---- calls

  pub stack_pushed : (x : Cell) (place : ℕ) (f : FrameId) (ops : List Cell) (callers : List Caller) (o : Option BlockId) → Names origins f x
      → IsStack code origins blocks sites t start place f ops callers o → IsStack code origins blocks sites t start place f (x ∷ ops) callers o
  stack_pushed x _ _ _ _ _ n (outermost place f ops o level starts) =
      outermost place f (x ∷ ops) o (record { shape = level.shape; reached = level.reached; names = (n, level.names); entered = level.entered }) starts
  stack_pushed x _ _ _ _ _ n (called place f ops c callers o outer level came rest) =
      called place f (x ∷ ops) c callers o outer (record { shape = level.shape; reached = level.reached; names = (n, level.names); entered = level.entered }) came rest

  none_entered : (f : FrameId) (n : ℕ) (o p : Option BlockId) → HasEnteredIn blocks sites t f n o p → n ≡ 0 → p ≡ o
  none_entered f _ _ _ (none_in o) e = refl
  none_entered f _ _ _ (one_in n b x o here owner site rest) e = absurd (omega (arith, e))

  -- an activation that was called and in which no block is entered, and that of its caller
  pub record Calls (f : FrameId) (c : Caller) (callers : List Caller) (o : Option BlockId) : Type 0 where
    pub came : Came origins f (CalledIn c.frame)
    pub stack : IsStack code origins blocks sites t start c.place c.frame c.operands callers o

  pub stack_caller : (place : ℕ) (f : FrameId) (ops : List Cell) (all : List Caller) (o : Option BlockId) → IsStack code origins blocks sites t start place f ops all o
      → ((u : Shape) → Reaches code place u → own_blocks u ≡ 0) → (c : Caller) (callers : List Caller) → all ≡ c ∷ callers → Calls f c callers o
  stack_caller _ _ _ _ _ (outermost place f ops o level starts) none c callers e = let no : [] ≡ c ∷ callers = e in absurd (cc)
  stack_caller _ _ _ _ _ (called place f ops d rest_of o outer level came rest) none c callers e =
      let first : d ≡ c = cc in
      let others : rest_of ≡ callers = cc in
      let same : outer ≡ o = none_entered f (own_blocks level.shape) o outer level.entered (none level.shape level.reached) in
      record {
        came = subst (λ (z : Caller). Came origins f (CalledIn z.frame)) first came;
        stack = subst (λ (z : Caller). IsStack code origins blocks sites t start z.place z.frame z.operands callers o) first
            (subst (λ cs. IsStack code origins blocks sites t start d.place d.frame d.operands cs o) others
            (subst (IsStack code origins blocks sites t start d.place d.frame d.operands rest_of) same rest));
      }

  -- ---- where a thread begins

  pub stack_starts : (place : ℕ) (f : FrameId) (ops : List Cell) (callers : List Caller) (o : Option BlockId) → IsStack code origins blocks sites t start place f ops callers o → callers ≡ []
      → Starts origins blocks sites t f start
  stack_starts _ _ _ _ _ (outermost place f ops o level starts) e = starts
  stack_starts _ _ _ _ _ (called place f ops c callers o outer level came rest) e = let no : c ∷ callers ≡ [] = e in absurd (cc)

  -- where the innermost block was entered: in the frame, or in one in which it lies
  pub record Round (f : FrameId) (b : BlockId) : Type 0 where
    pub site : FrameId
    pub at : slice_get sites b.number ≡ Some site
    pub lies : (f ≡ site) ⊎ LiesIn origins f site

  site_in : (f : FrameId) (n : ℕ) (o p : Option BlockId) → HasEnteredIn blocks sites t f n o p → (b : BlockId) → o ≡ Some b → (slice_get sites b.number ≡ Some f) ⊎ ((n ≡ 0) × (p ≡ Some b))
  site_in f _ _ _ (none_in o) b e = inr (refl, e)
  site_in f _ _ _ (one_in n c x o here owner site rest) b e = let same : c ≡ b = cc in inl (ap (λ (z : BlockId). slice_get sites z.number) (sym same) ∙ site)

  started_at : (f : FrameId) (o : Option BlockId) → Starts origins blocks sites t f o → (b : BlockId) → o ≡ Some b → Round f b
  started_at f None s b e = let no : None ≡ Some b = e in absurd (cc)
  started_at f (Some a) s b e = let same : a ≡ b = cc in
      record { site = s.site; at = ap (λ (z : BlockId). slice_get sites z.number) (sym same) ∙ s.at; lies = inr s.inside }

  pub stack_site : (place : ℕ) (f : FrameId) (ops : List Cell) (callers : List Caller) (o : Option BlockId) → IsStack code origins blocks sites t start place f ops callers o
      → ((u : Shape) → Reaches code place u → own_blocks u ≡ 0 → callers ≡ []) → (b : BlockId) → o ≡ Some b → Round f b
  stack_site _ _ _ _ _ (outermost place f ops o level starts) bare b e = elim (site_in f (own_blocks level.shape) o start level.entered b e) as (λ _. Round f b) [
    | inl at ↦ record { site = f; at = at; lies = inl refl }
    | inr p ↦ started_at f start starts b p.1
  ]
  stack_site _ _ _ _ _ (called place f ops c callers o outer level came rest) bare b e = elim (site_in f (own_blocks level.shape) o outer level.entered b e) as (λ _. Round f b) [
    | inl at ↦ record { site = f; at = at; lies = inl refl }
    | inr p ↦ absurd (let no : c ∷ callers ≡ [] = bare level.shape level.reached p.0 in cc)
  ]
