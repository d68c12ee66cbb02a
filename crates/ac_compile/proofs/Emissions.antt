-- What is emitted after what.
-- `with_code p e` is what has been emitted with the piece p behind it. These laws put pieces together as the emitting functions do: one
-- after another, a jump whose address is set behind what it passes over, and the elements of a list in a loop.
use Rattle.std.proofs.Common.{◌≡◌, ℕ, ◌+◌, ◌<◌, List, [], ◌∷◌, ◌++◌, length, refl, sym, ap, ◌∙◌, arith, append_assoc, append-nil, length-append, length-set, get_or, drop, ◌≤◌}
use Rattle.std.specs.Prelude.{slice_set}
use Rattle.std.proofs.Math.Seq.{set-append_seam}
use Rattle.std.proofs.lemmas.List.{at_drop_more, at_drop_all}
use Rattle.stack_code.specs.declared.instr.Instr.{Instr}
use Rattle.stack_code.specs.declared.instr.Instr.TheVariants as i
use Rattle.ac_translation.specs.Pieces.{Piece, no_code, one, ◌⨾◌, over, out_past, out_turn}
use Rattle.ac_translation.specs.Translation.{no_exits}
use Rattle.ac_compile.specs.inner.Emission.{Emitted, with_code, with_instr, with_outs, with_jumps, jumps_set, HasRoom}
use Rattle.ac_translation.proofs.Sized.{IsSized, one_sized}

abbrev pub emitted : List Instr → List ℕ → List ℕ → Emitted
emitted instrs pasts turns = record { instrs = instrs; pasts = pasts; turns = turns }

pub same : (xs xs' : List Instr) (ps ps' ts ts' : List ℕ) → xs ≡ xs' → ps ≡ ps' → ts ≡ ts' → emitted xs ps ts ≡ emitted xs' ps' ts'
same xs xs' ps ps' ts ts' e f g = ap (λ l. emitted l ps ts) e ∙ ap (λ l. emitted xs' l ts) f ∙ ap (emitted xs' ps') g

-- ---- what the emitter does

pub is_put : (instr : Instr) (xs ys : List Instr) (ps ts : List ℕ) (e : Emitted) → emitted xs ps ts ≡ e → ys ≡ xs ++ instr ∷ [] → emitted ys ps ts ≡ with_code (one instr) e
unfolding with_code
is_put instr xs ys ps ts e v h = same ys _ ps _ ts _ h (sym (append-nil ps)) (sym (append-nil ts)) ∙ ap (with_code (one instr)) v

pub is_past : (xs ys : List Instr) (ps qs ts : List ℕ) (at : ℕ) (e : Emitted) → emitted xs ps ts ≡ e → at ≡ length e.instrs → qs ≡ ps ++ at ∷ [] → ys ≡ xs ++ i.Jump 0 ∷ []
    → emitted ys qs ts ≡ with_code out_past e
unfolding with_code
is_past xs ys ps qs ts at e v n h k =
    same ys _ qs _ ts _ k (h ∙ ap (λ m. ps ++ m ∷ []) (n ∙ ap (λ (d : Emitted). length d.instrs) (sym v))) (sym (append-nil ts)) ∙ ap (with_code out_past) v

pub is_turn : (xs ys : List Instr) (ps ts us : List ℕ) (at : ℕ) (e : Emitted) → emitted xs ps ts ≡ e → at ≡ length e.instrs → us ≡ ts ++ at ∷ [] → ys ≡ xs ++ i.Jump 0 ∷ []
    → emitted ys ps us ≡ with_code out_turn e
unfolding with_code
is_turn xs ys ps ts us at e v n h k =
    same ys _ ps _ us _ k (sym (append-nil ps)) (h ∙ ap (λ m. ts ++ m ∷ []) (n ∙ ap (λ (d : Emitted). length d.instrs) (sym v))) ∙ ap (with_code out_turn) v

pub is_set : (at : ℕ) (instr : Instr) (xs : List Instr) (ps ts : List ℕ) (e : Emitted) → emitted xs ps ts ≡ e → emitted (slice_set xs at instr) ps ts ≡ with_instr at instr e
unfolding with_instr
is_set at instr xs ps ts e v = ap (with_instr at instr) v

pub is_exchanged : (xs : List Instr) (ps ts qs us : List ℕ) (e : Emitted) → emitted xs ps ts ≡ e → emitted xs qs us ≡ with_outs qs us e
unfolding with_outs
is_exchanged xs ps ts qs us e v = ap (with_outs qs us) v

-- at the end of the loop over the addresses
pub is_filled : (to n : ℕ) (at : List ℕ) (xs ys : List Instr) (ps qs ts us : List ℕ) (e : Emitted) → emitted xs ps ts ≡ e → length at ≤ n → jumps_set to (drop n at) ys ≡ jumps_set to at xs → qs ≡ ps
    → us ≡ ts →
    emitted ys qs us ≡ with_jumps to at e
unfolding with_jumps
is_filled to n at xs ys ps qs ts us e v le h f g =
    same ys _ qs ps us ts (sym (at_drop_all (λ k. jumps_set to k ys) at n le) ∙ h) f g ∙ ap (with_jumps to at) v

-- ---- one piece after another

pub grown : (p : Piece) (e : Emitted) → IsSized p → length (with_code p e).instrs ≡ length e.instrs + p.size
unfolding with_code
grown p e s = length-append e.instrs (p.at no_exits (length e.instrs)) ∙ ap (λ n. length e.instrs + n) (s.sized no_exits (length e.instrs))

pub both_are : (a b : Piece) (e : Emitted) → IsSized a → with_code (a ⨾ b) e ≡ with_code b (with_code a e)
unfolding with_code
both_are a b e s =
    let n = length e.instrs in
    let front = a.at no_exits n in
    let m : n + a.size ≡ length (e.instrs ++ front) = sym (length-append e.instrs front ∙ ap (λ k. n + k) (s.sized no_exits n)) in
    same _ _ _ _ _ _
    (ap (λ k. e.instrs ++ (front ++ b.at no_exits k)) m ∙ sym (append_assoc e.instrs front (b.at no_exits (length (e.instrs ++ front)))))
    (ap (λ k. e.pasts ++ (a.pasts n ++ b.pasts k)) m ∙ sym (append_assoc e.pasts (a.pasts n) (b.pasts (length (e.instrs ++ front)))))
    (ap (λ k. e.turns ++ (a.turns n ++ b.turns k)) m ∙ sym (append_assoc e.turns (a.turns n) (b.turns (length (e.instrs ++ front)))))

pub none_is : (e : Emitted) → with_code no_code e ≡ e
unfolding with_code
none_is e = same _ e.instrs _ e.pasts _ e.turns (append-nil e.instrs) (append-nil e.pasts) (append-nil e.turns)

-- ---- a jump over a piece, whose address is set behind it

over_at : (jump : ℕ → Instr) (instr : Instr) (q : Piece) (e : Emitted) (to : ℕ) → to ≡ length e.instrs + 1 + q.size →
    with_instr (length e.instrs) (jump to) (with_code q (with_code (one instr) e)) ≡ with_code q (with_code (over jump q.size) e)
unfolding with_code with_instr
over_at jump instr q e to h =
    let n = length e.instrs in
    let last = λ (x : Instr). length-append e.instrs (x ∷ []) in
    let code = λ (x : Instr). q.at no_exits (length (e.instrs ++ x ∷ [])) in
    let j = jump (n + 1 + q.size) in
    let k : length (e.instrs ++ instr ∷ []) ≡ length (e.instrs ++ j ∷ []) = last instr ∙ sym (last j) in
    same _ _ _ _ _ _
    (
    ap (λ l. slice_set l n (jump to)) (append_assoc e.instrs (instr ∷ []) (code instr))
    ∙ set-append_seam e.instrs instr (code instr) (jump to)
    ∙ ap (λ m. e.instrs ++ jump m ∷ code instr) h
    ∙ ap (λ m. e.instrs ++ j ∷ q.at no_exits m) k
    ∙ sym (append_assoc e.instrs (j ∷ []) (code j))
    )
    (ap (λ m. (e.pasts ++ []) ++ q.pasts m) k)
    (ap (λ m. (e.turns ++ []) ++ q.turns m) k)

pub over_is : (jump : ℕ → Instr) (instr : Instr) (q : Piece) (e : Emitted) → IsSized q →
    with_instr (length e.instrs) (jump (length (with_code q (with_code (one instr) e)).instrs)) (with_code q (with_code (one instr) e)) ≡ with_code q (with_code (over jump q.size) e)
over_is jump instr q e s =
    over_at jump instr q e (length (with_code q (with_code (one instr) e)).instrs) (grown q (with_code (one instr) e) s ∙ ap (λ n. n + q.size) (grown (one instr) e (one_sized instr)))

-- as it stands in the emitting functions: a jump without its address, a piece, and then the address
pub over_then : (jump : ℕ → Instr) (instr : Instr) (q : Piece) (d0 d1 d2 d3 : Emitted) (at to : ℕ) → IsSized q → d1 ≡ with_code (one instr) d0 → at ≡ length d0.instrs → d2 ≡ with_code q d1
    → to ≡ length d2.instrs →
    d3 ≡ with_instr at (jump to) d2 → d3 ≡ with_code q (with_code (over jump q.size) d0)
over_then jump instr q d0 d1 d2 d3 at to s e f g h k =
    let code = g ∙ ap (with_code q) e in
    k
    ∙ ap (λ n. with_instr n (jump to) d2) f
    ∙ ap (λ n. with_instr (length d0.instrs) (jump n) d2) h
    ∙ ap (λ (d : Emitted). with_instr (length d0.instrs) (jump (length d.instrs)) d) code
    ∙ over_is jump instr q d0 s

-- ---- several pieces

pub grown_to : (a : Piece) (e d : Emitted) → IsSized a → d ≡ with_code a e → length d.instrs ≡ length e.instrs + a.size
grown_to a e d s h = ap (λ (x : Emitted). length x.instrs) h ∙ grown a e s

pub same_length : (at : ℕ) (instr : Instr) (e d : Emitted) → d ≡ with_instr at instr e → length d.instrs ≡ length e.instrs
unfolding with_instr
same_length at instr e d h = ap (λ (x : Emitted). length x.instrs) h ∙ length-set e.instrs at instr

pub outs_length : (ps ts : List ℕ) (e d : Emitted) → d ≡ with_outs ps ts e → length d.instrs ≡ length e.instrs
unfolding with_outs
outs_length ps ts e d h = ap (λ (x : Emitted). length x.instrs) h

jumps_length : (to : ℕ) (at : List ℕ) (l : List Instr) → length (jumps_set to at l) ≡ length l
jumps_length to [] l = refl
jumps_length to (x ∷ at) l = jumps_length to at (slice_set l x (i.Jump to)) ∙ length-set l x (i.Jump to)

pub filled_length : (to : ℕ) (at : List ℕ) (e d : Emitted) → d ≡ with_jumps to at e → length d.instrs ≡ length e.instrs
unfolding with_jumps
filled_length to at e d h = ap (λ (x : Emitted). length x.instrs) h ∙ jumps_length to at e.instrs

module _ (a b : Piece) (s : IsSized a) where
  pub two_are : (d0 d1 d2 : Emitted) → d1 ≡ with_code a d0 → d2 ≡ with_code b d1 → d2 ≡ with_code (a ⨾ b) d0
  two_are d0 d1 d2 e f = f ∙ ap (with_code b) e ∙ sym (both_are a b d0 s)

module _ (a b c : Piece) (s : IsSized a) (r : IsSized b) where
  pub three_are : (d0 d1 d2 d3 : Emitted) → d1 ≡ with_code a d0 → d2 ≡ with_code b d1 → d3 ≡ with_code c d2 → d3 ≡ with_code (a ⨾ (b ⨾ c)) d0
  three_are d0 d1 d2 d3 e f g = two_are a (b ⨾ c) s d0 d1 d3 e (two_are b c r d1 d2 d3 f g)

module _ (a b c d : Piece) (s : IsSized a) (r : IsSized b) (q : IsSized c) where
  pub four_are : (d0 d1 d2 d3 d4 : Emitted) → d1 ≡ with_code a d0 → d2 ≡ with_code b d1 → d3 ≡ with_code c d2 → d4 ≡ with_code d d3 → d4 ≡ with_code (a ⨾ (b ⨾ (c ⨾ d))) d0
  four_are d0 d1 d2 d3 d4 e f g h = two_are a (b ⨾ (c ⨾ d)) s d0 d1 d4 e (three_are b c d r q d1 d2 d3 d4 f g h)

-- a piece in two parts
pub apart : (a b : Piece) (d e : Emitted) → IsSized a → e ≡ with_code (a ⨾ b) d → e ≡ with_code b (with_code a d)
apart a b d e s h = h ∙ both_are a b d s

-- a jump from behind which so many instructions stand
pub over_as : (jump : ℕ → Instr) (count to : ℕ) (e d : Emitted) → to ≡ length e.instrs + 1 + count → d ≡ with_code (one (jump to)) e → d ≡ with_code (over jump count) e
unfolding with_code
over_as jump count to e d h k = k ∙ ap (λ n. emitted (e.instrs ++ jump n ∷ []) (e.pasts ++ []) (e.turns ++ [])) h

-- ---- the pieces of the elements of a list, one after the other

module _ {X : Type 0} (F : List X → Piece) (G : X → Piece) (first : (x : X) (xs : List X) → F (x ∷ xs) ≡ G x ⨾ F xs) (none : F [] ≡ no_code) (sized : (x : X) → IsSized (G x)) (xs : List X)
    (at : ℕ) where
  pub done : (d whole : Emitted) → length xs ≤ at → with_code (F (drop at xs)) d ≡ whole → d ≡ whole
  done d whole le h = sym (none_is d) ∙ ap (λ p. with_code p d) (sym (at_drop_all F xs at le ∙ none)) ∙ h

  module _ (x : X) (d : Emitted) (lt : at < length xs) (is : x ≡ get_or xs at x) where
    here : F (drop at xs) ≡ G x ⨾ F (drop (at + 1) xs)
    here = at_drop_more F xs at x lt ∙ ap (λ z. F (z ∷ drop (at + 1) xs)) (sym is) ∙ first x (drop (at + 1) xs)

    pub item_room : HasRoom (F (drop at xs)) d → HasRoom (G x) d
    item_room room = let m = ap (λ (p : Piece). p.size) here in omega (arith, m, room)

    pub sizes : (F (drop at xs)).size ≡ (G x).size + (F (drop (at + 1) xs)).size
    sizes = ap (λ (p : Piece). p.size) here

    pub turn : (e whole : Emitted) → e ≡ with_code (G x) d → with_code (F (drop at xs)) d ≡ whole → with_code (F (drop (at + 1) xs)) e ≡ whole
    turn e whole h k = two_are (G x) (F (drop (at + 1) xs)) (sized x) d e _ h refl ∙ ap (λ p. with_code p d) (sym here) ∙ k

    pub rest_room : (e : Emitted) → e ≡ with_code (G x) d → HasRoom (F (drop at xs)) d → HasRoom (F (drop (at + 1) xs)) e
    rest_room e h room = let n = grown_to (G x) d e (sized x) h in let m = ap (λ (p : Piece). p.size) here in omega (arith, n, m, room)
