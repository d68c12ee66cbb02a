-- Parts of a grammar: what reads them, what spells them, and a smallest one. The laws say that what is read is spelled so, that where reading
-- stops a spelling goes on from what was used, that what is spelled is read, and that the next token alone decides.
-- Each way to make a part has a lemma that gives its law by those of its parts, so the law of a grammar is put together as its reader is. The
-- hard law is where reading stops: the spelling from there on is that of the part that stopped, and then smallest parts (`filled`).
use Rattle.std.proofs.Common.{◌≡◌, ℕ, ◌<◌, ◌≤◌, List, [], ◌∷◌, ◌++◌, Option, Some, None, Ok, Err, refl, sym, ap, ◌∙◌, subst, append_assoc, inl, inr, arith}
use Rattle.std.specs.Prelude.{Bool, true, false, if◌then◌else◌}
use Rattle.ac_lexer.specs.declared.token.Token.{Token}
use Rattle.reading_laws.specs.Marks.{Marked, mark, tokens, Low, cut}
use Rattle.reading_laws.specs.Readers.{Reads, Cause, halt, unexpected, too_deep, ◌>>=◌, taken, token_at, look}
use Rattle.reading_laws.proofs.Halts.{bind_ok, bind_err, result, failed, same_result, same_stop, not_both}
use Rattle.reading_laws.proofs.Marking.{tokens_split, low_append, not_over, is_over, or_else, cut_append}
use Rattle.reading_laws.proofs.Heads.{Local, ByHead, local_return, local_stop, local_bind, local_if, local_select, local_same, local_look, local_token}

-- some value has a spelling
pub record Filled (X : Type 0) (P : X → List Marked → Type 0) : Type 0 where
  pub value : X
  pub marks : List Marked
  pub spells : P value marks

pub record Part (X : Type 0) : Type 1 where
  pub read : List Token → Reads X
  pub spells : X → List Marked → Type 0
  pub filled : Filled X spells

-- ---- what is read, and where reading stops

pub record Read (L : ℕ) (X : Type 0) (P : X → List Marked → Type 0) (x : X) (a r : List Token) : Type 0 where
  pub used : List Marked
  pub split : a ≡ tokens used ++ r
  pub low : Low L used
  pub spells : P x used

-- what is filled in begins with the next token, which is too deep there
pub record Deep (L : ℕ) (closing : List Marked) (r : List Token) : Type 0 where
  pub head : Marked
  pub others : List Marked
  pub behind : List Token
  pub is : closing ≡ head ∷ others
  pub over : L < head.depth
  pub rest : r ≡ head.token ∷ behind

abbrev pub Why : ℕ → Cause → List Marked → List Token → Type 0
Why L unexpected closing r = Unit {0}
Why L too_deep closing r = Deep L closing r

pub record Begun (L : ℕ) (X : Type 0) (P : X → List Marked → Type 0) (c : Cause) (a r : List Token) : Type 0 where
  pub used : List Marked
  pub split : a ≡ tokens used ++ r
  pub low : Low L used
  pub closing : List Marked
  pub why : Why L c closing r
  pub value : X
  pub spells : P value (used ++ closing)

pub record GoodAt (L : ℕ) (X : Type 0) (f : List Token → Reads X) (P : X → List Marked → Type 0) (a : List Token) : Type 0 where
  pub ok : (x : X) (r : List Token) → f a ≡ Ok (x, r) → Read L X P x a r
  pub err : (c : Cause) (r : List Token) → f a ≡ Err (halt c r) → Begun L X P c a r

-- the value, or the first token that is too deep
abbrev pub verdict : {X : Type 0} → X → List Token → Option (List Token) → Reads X
verdict x rest None = Ok (x, rest)
verdict x rest (Some r) = Err (halt too_deep r)

-- F says what may follow
pub record Law (L : ℕ) (X : Type 0) (p : Part X) (F : X → List Token → Type 0) : Type 0 where
  pub good : (a : List Token) → GoodAt L X p.read p.spells a
  pub reads : (x : X) (ms : List Marked) → p.spells x ms → (rest : List Token) → F x rest → p.read (tokens ms ++ rest) ≡ verdict x rest (cut L ms rest)
  pub local : Local X p.read

-- anything may follow
abbrev pub Any : {X : Type 0} → X → List Token → Type 0
Any x rest = Unit {0}

pub law_before : {L : ℕ} {X : Type 0} {p : Part X} {F G : X → List Token → Type 0} → Law L X p F → ((x : X) (rest : List Token) → G x rest → F x rest) → Law L X p G
law_before l g = record { good = l.good; reads = λ x ms s rest f. l.reads x ms s rest (g x rest f); local = l.local }

-- ---- the same reader and spelling by other names

pub law_same : {L : ℕ} {X : Type 0} {F : X → List Token → Type 0} (p q : Part X) → ((a : List Token) → q.read a ≡ p.read a) → ((x : X) (ms : List Marked) → p.spells x ms → q.spells x ms)
    → ((x : X) (ms : List Marked) → q.spells x ms → p.spells x ms) → Law L X p F → Law L X q F
law_same {L} {X} {F} p q same to from l = record {
  good = λ a. record {
    ok = λ x r h. let z = (l.good a).ok x r (sym (same a) ∙ h) in record { used = z.used; split = z.split; low = z.low; spells = to x z.used z.spells };
    err = λ c r h. let z = (l.good a).err c r (sym (same a) ∙ h) in record {
      used = z.used;
      split = z.split;
      low = z.low;
      closing = z.closing;
      why = z.why;
      value = z.value;
      spells = to z.value (z.used ++ z.closing) z.spells;
    };
  };
  reads = λ x ms s rest f. same (tokens ms ++ rest) ∙ l.reads x ms (from x ms s) rest f;
  local = local_same X q.read p.read same l.local;
}

-- ---- nothing

pub data Is (X : Type 0) (x : X) : X → List Marked → Type 0 where
  itself : Is X x x []

unfoldable pub ret : {X : Type 0} → X → Part X
ret {X} x = record { read = λ a. Ok (x, a); spells = Is X x; filled = record { value = x; marks = []; spells = itself } }

ret_reads : (X : Type 0) (x y : X) (ms : List Marked) (L : ℕ) → Is X x y ms → (rest : List Token) → Ok (x, tokens ms ++ rest) ≡ verdict y rest (cut L ms rest)
ret_reads X x _ _ L itself rest = refl

pub law_ret : {L : ℕ} {X : Type 0} (x : X) (F : X → List Token → Type 0) → Law L X (ret x) F
unfolding ret
law_ret {L} {X} x F = record {
  good = λ a. record {
    ok = λ y r h. let q = same_result X x y a r h in record { used = []; split = q.1; low = tt; spells = subst (λ (z : X). Is X x z []) q.0 itself };
    err = λ c r h. absurd (not_both (X × List Token) (x, a) (halt c r) h);
  };
  reads = λ y ms s rest f. ret_reads X x y ms L s rest;
  local = local_return X x;
}

-- ---- one token

pub record Picked (b : ℕ) (X : Type 0) (pick : Token → Option X) (x : X) (ms : List Marked) : Type 0 where
  pub token : Token
  pub is : ms ≡ mark b token ∷ []
  pub picks : pick token ≡ Some x

taken_ok : (X : Type 0) (i : Option X) (t : Token) (a r : List Token) (x : X) → taken i t a ≡ result X (x, r) → (i ≡ Some x) × (a ≡ r)
taken_ok X (Some y) t a r x h = let q = same_result X y x a r h in (ap (λ (z : X). Some z) q.0, q.1)
taken_ok X None t a r x h = absurd (not_both (X × List Token) (x, r) (halt unexpected (t ∷ a)) (sym h))

taken_err : (X : Type 0) (i : Option X) (t : Token) (a r : List Token) (c : Cause) → taken i t a ≡ failed (X × List Token) (halt c r) → (unexpected ≡ c) × (t ∷ a ≡ r)
taken_err X (Some y) t a r c h = absurd (not_both (X × List Token) (y, a) (halt c r) h)
taken_err X None t a r c h = same_stop (X × List Token) unexpected c (t ∷ a) r h

pub why_unexpected : (L : ℕ) (c : Cause) (closing : List Marked) (r : List Token) → unexpected ≡ c → Why L c closing r
why_unexpected L c closing r q = subst (λ (c : Cause). Why L c closing r) q tt

-- it stops at once, and a smallest part is filled in
pub at_once : (L : ℕ) (X : Type 0) (P : X → List Marked → Type 0) (d : Filled X P) (c : Cause) (a r : List Token) → (unexpected ≡ c) × (a ≡ r) → Begun L X P c a r
at_once L X P d c a r q = record { used = []; split = q.1; low = tt; closing = d.marks; why = why_unexpected L c d.marks r q.0; value = d.value; spells = d.spells }

token_good : (L b : ℕ) (le : b ≤ L) (X : Type 0) (pick : Token → Option X) (P : X → List Marked → Type 0) (d : Filled X P) → ((t : Token) (x : X) → pick t ≡ Some x → P x (mark b t ∷ []))
    → (a : List Token) → GoodAt L X (token_at pick) P a
token_good L b le X pick P d sound [] = record {
  ok = λ x r h. absurd (not_both (X × List Token) (x, r) (halt unexpected []) (sym h));
  err = λ c r h. at_once L X P d c [] r (same_stop (X × List Token) unexpected c [] r h);
}
token_good L b le X pick P d sound (t ∷ a) = record {
  ok = λ x r h. let q = taken_ok X (pick t) t a r x h in record { used = mark b t ∷ []; split = ap (λ (c : List Token). t ∷ c) q.1; low = (le, tt); spells = sound t x q.0 };
  err = λ c r h. at_once L X P d c (t ∷ a) r (taken_err X (pick t) t a r c h);
}

token_reads : (L b : ℕ) (le : b ≤ L) (X : Type 0) (pick : Token → Option X) (x : X) (ms : List Marked) → Picked b X pick x ms → (rest : List Token)
    → token_at pick (tokens ms ++ rest) ≡ verdict x rest (cut L ms rest)
token_reads L b le X pick x ms q rest =
    let one : token_at pick (q.token ∷ rest) ≡ verdict x rest (cut L (mark b q.token ∷ []) rest) = rw (q.picks, not_over L b le) refl in
    subst (λ (ms : List Marked). token_at pick (tokens ms ++ rest) ≡ verdict x rest (cut L ms rest)) (sym q.is) one

pub law_token : {X : Type 0} (L b : ℕ) → b ≤ L → (pick : Token → Option X) (P : X → List Marked → Type 0) (d : Filled X P) → ((t : Token) (x : X) → pick t ≡ Some x → P x (mark b t ∷ []))
    → ((x : X) (ms : List Marked) → P x ms → Picked b X pick x ms) → Law L X (record { read = token_at pick; spells = P; filled = d }) Any
law_token {X} L b le pick P d sound complete = record {
  good = token_good L b le X pick P d sound;
  reads = λ x ms s rest f. token_reads L b le X pick x ms (complete x ms s) rest;
  local = local_token X pick;
}

-- ---- one part after the other

pub data Seq (X Y : Type 0) (P : X → List Marked → Type 0) (Q : X → Y → List Marked → Type 0) : Y → List Marked → Type 0 where
  seq : (x : X) (y : Y) (a c : List Marked) → P x a → Q x y c → Seq X Y P Q y (a ++ c)

unfoldable pub bind : {X Y : Type 0} → Part X → (X → Part Y) → Part Y
bind {X} {Y} p k = record {
  read = λ a. p.read a >>= λ z. (k z.0).read z.1;
  spells = Seq X Y p.spells (λ x. (k x).spells);
  filled = let v = (k p.filled.value).filled in record { value = v.value; marks = p.filled.marks ++ v.marks; spells = seq p.filled.value v.value p.filled.marks v.marks p.filled.spells v.spells };
}

why_more : (L : ℕ) (c : Cause) (closing more : List Marked) (r : List Token) → Why L c closing r → Why L c (closing ++ more) r
why_more L unexpected closing more r w = tt
why_more L too_deep closing more r w = record { head = w.head; others = w.others ++ more; behind = w.behind; is = ap (λ (c : List Marked). c ++ more) w.is; over = w.over; rest = w.rest }

-- What is read is one spelling behind the other. Where the first part stops, a smallest second one follows what closes the first; where the
-- second one stops, what the first used stands before it.
pub bind_good : (L : ℕ) (X Y : Type 0) (f : List Token → Reads X) (k : X → List Token → Reads Y) (P : X → List Marked → Type 0) (Q : X → Y → List Marked → Type 0)
    → (a : List Token) → GoodAt L X f P a → ((x : X) (m : List Token) → f a ≡ Ok (x, m) → GoodAt L Y (k x) (Q x) m) → ((x : X) → Filled Y (Q x))
    → GoodAt L Y (λ a. f a >>= λ z. k z.0 z.1) (Seq X Y P Q) a
bind_good L X Y f k P Q a g l d = record {
  ok = λ y r h.
      let z = bind_ok (f a) (λ z. k z.0 z.1) (y, r) h in
      let u = g.ok z.0.0 z.0.1 z.1 in
      let v = (l z.0.0 z.0.1 z.1).ok y r z.2 in
      record {
        used = u.used ++ v.used;
        split = u.split ∙ ap (λ (c : List Token). tokens u.used ++ c) v.split ∙ sym (tokens_split u.used v.used r);
        low = low_append L u.used v.used u.low v.low;
        spells = seq z.0.0 y u.used v.used u.spells v.spells;
      };
  err = λ c r h. elim (bind_err (f a) (λ z. k z.0 z.1) (halt c r) h) [
    | inl e ↦
        let u = g.err c r e in
        let v = d u.value in
        record {
          used = u.used;
          split = u.split;
          low = u.low;
          closing = u.closing ++ v.marks;
          why = why_more L c u.closing v.marks r u.why;
          value = v.value;
          spells = subst (λ (ms : List Marked). Seq X Y P Q v.value ms) (append_assoc u.used u.closing v.marks) (seq u.value v.value (u.used ++ u.closing) v.marks u.spells v.spells);
        }
    | inr z ↦
        let u = g.ok z.0.0 z.0.1 z.1 in
        let v = (l z.0.0 z.0.1 z.1).err c r z.2 in
        record {
          used = u.used ++ v.used;
          split = u.split ∙ ap (λ (c : List Token). tokens u.used ++ c) v.split ∙ sym (tokens_split u.used v.used r);
          low = low_append L u.used v.used u.low v.low;
          closing = v.closing;
          why = v.why;
          value = v.value;
          spells = subst (λ (ms : List Marked). Seq X Y P Q v.value ms) (sym (append_assoc u.used v.used v.closing)) (seq z.0.0 v.value u.used (v.used ++ v.closing) u.spells v.spells);
        }
  ];
}

verdict_case : (X Y : Type 0) (k : X → List Token → Reads Y) (x : X) (y : Y) (mid rest : List Token) (o p : Option (List Token)) → (o ≡ None → k x mid ≡ verdict y rest p)
    → (verdict x mid o >>= λ z. k z.0 z.1) ≡ verdict y rest (or_else o p)
verdict_case X Y k x y mid rest (Some r) p h = refl
verdict_case X Y k x y mid rest None p h = h refl

pub bind_reads : (L : ℕ) (X Y : Type 0) (f : List Token → Reads X) (k : X → List Token → Reads Y) (x : X) (y : Y) (a b : List Marked) (rest : List Token)
    → f (tokens a ++ (tokens b ++ rest)) ≡ verdict x (tokens b ++ rest) (cut L a (tokens b ++ rest))
    → (f (tokens a ++ (tokens b ++ rest)) ≡ Ok (x, tokens b ++ rest) → k x (tokens b ++ rest) ≡ verdict y rest (cut L b rest))
    → (f (tokens (a ++ b) ++ rest) >>= λ z. k z.0 z.1) ≡ verdict y rest (cut L (a ++ b) rest)
bind_reads L X Y f k x y a b rest h g =
    ap (λ (c : List Token). f c >>= λ z. k z.0 z.1) (tokens_split a b rest) ∙ ap (λ (c : Reads X). c >>= λ z. k z.0 z.1) h
    ∙ verdict_case X Y k x y (tokens b ++ rest) rest (cut L a (tokens b ++ rest)) (cut L b rest) (λ n. g (h ∙ ap (verdict x (tokens b ++ rest)) n))
    ∙ ap (verdict y rest) (sym (cut_append L a b rest))

pub seq_reads : (L : ℕ) (X Y : Type 0) (f : List Token → Reads X) (k : X → List Token → Reads Y) (P : X → List Marked → Type 0) (Q : X → Y → List Marked → Type 0) (y : Y) (ms : List Marked)
    → Seq X Y P Q y ms → (rest : List Token)
    → ((x : X) (a c : List Marked) → P x a → Q x y c → f (tokens a ++ (tokens c ++ rest)) ≡ verdict x (tokens c ++ rest) (cut L a (tokens c ++ rest)))
    → ((x : X) (a c : List Marked) → Q x y c → f (tokens a ++ (tokens c ++ rest)) ≡ Ok (x, tokens c ++ rest) → k x (tokens c ++ rest) ≡ verdict y rest (cut L c rest))
    → (f (tokens ms ++ rest) >>= λ z. k z.0 z.1) ≡ verdict y rest (cut L ms rest)
seq_reads L X Y f k P Q _ _ (seq x y a c p q) rest h g = bind_reads L X Y f k x y a c rest (h x a c p q) (g x a c q)

-- the second part is read only where the first one was
pub law_bind : {L : ℕ} {X Y : Type 0} {F : X → List Token → Type 0} {H : Y → List Token → Type 0} {p : Part X} {k : X → Part Y}
    → Law L X p F → ((x : X) (a m : List Token) → p.read a ≡ Ok (x, m) → Law L Y (k x) H)
    → ((x : X) (y : Y) (c : List Marked) (rest : List Token) → (k x).spells y c → H y rest → F x (tokens c ++ rest))
    → Law L Y (bind p k) H
unfolding bind
law_bind {L} {X} {Y} {F} {H} {p} {k} l n fits = record {
  good = λ a. bind_good L X Y p.read (λ x. (k x).read) p.spells (λ x. (k x).spells) a (l.good a) (λ x m h. (n x a m h).good m) (λ x. (k x).filled);
  reads = λ y ms s rest h. seq_reads L X Y p.read (λ x. (k x).read) p.spells (λ x. (k x).spells) y ms s rest
      (λ x a c u v. l.reads x a u (tokens c ++ rest) (fits x y c rest v h))
      (λ x a c v e. (n x (tokens a ++ (tokens c ++ rest)) (tokens c ++ rest) e).reads y c v rest h);
  local = local_bind X Y p.read (λ x. (k x).read) l.local (λ a z e. (n z.0 a z.1 e).local);
}

-- behind a first part that may be followed by anything
pub law_then : {L : ℕ} {X Y : Type 0} {H : Y → List Token → Type 0} {p : Part X} {k : X → Part Y} → Law L X p Any → ((x : X) → Law L Y (k x) H) → Law L Y (bind p k) H
law_then l n = law_bind l (λ x a m h. n x) (λ x y c rest s h. tt)

-- ---- a part, and a value made of its own

pub data Made (X Y : Type 0) (P : X → List Marked → Type 0) (h : X → Y) : Y → List Marked → Type 0 where
  made : (x : X) (a : List Marked) → P x a → Made X Y P h (h x) a

unfoldable pub made_of : {X Y : Type 0} → Part X → (X → Y) → Part Y
made_of {X} {Y} p h = record {
  read = λ a. p.read a >>= λ z. Ok (h z.0, z.1);
  spells = Made X Y p.spells h;
  filled = record { value = h p.filled.value; marks = p.filled.marks; spells = made p.filled.value p.filled.marks p.filled.spells };
}

verdict_map : (X Y : Type 0) (f : X → Y) (x : X) (rest : List Token) (o : Option (List Token)) → (verdict x rest o >>= λ z. Ok (f z.0, z.1)) ≡ verdict (f x) rest o
verdict_map X Y f x rest None = refl
verdict_map X Y f x rest (Some r) = refl

pub made_good : (L : ℕ) (X Y : Type 0) (f : List Token → Reads X) (P : X → List Marked → Type 0) (h : X → Y) (a : List Token) → GoodAt L X f P a
    → GoodAt L Y (λ a. f a >>= λ z. Ok (h z.0, z.1)) (Made X Y P h) a
made_good L X Y f P h a g = record {
  ok = λ y r e.
      let z = bind_ok (f a) (λ z. Ok (h z.0, z.1)) (y, r) e in
      let u = g.ok z.0.0 z.0.1 z.1 in
      let q = same_result Y (h z.0.0) y z.0.1 r z.2 in
      record { used = u.used; split = u.split ∙ ap (λ (c : List Token). tokens u.used ++ c) q.1; low = u.low; spells = subst (λ (y : Y). Made X Y P h y u.used) q.0 (made z.0.0 u.used u.spells) };
  err = λ c r e. elim (bind_err (f a) (λ z. Ok (h z.0, z.1)) (halt c r) e) [
    | inl i ↦ let u = g.err c r i in record { used = u.used; split = u.split; low = u.low; closing = u.closing; why = u.why; value = h u.value; spells = made u.value (u.used ++ u.closing) u.spells }
    | inr z ↦ absurd (not_both (Y × List Token) (h z.0.0, z.0.1) (halt c r) z.2)
  ];
}

pub made_reads : (L : ℕ) (X Y : Type 0) (f : List Token → Reads X) (P : X → List Marked → Type 0) (h : X → Y) (y : Y) (ms : List Marked) → Made X Y P h y ms
    → (rest : List Token) (H : Y → List Token → Type 0) → H y rest
    → ((x : X) → P x ms → H (h x) rest → f (tokens ms ++ rest) ≡ verdict x rest (cut L ms rest)) → (f (tokens ms ++ rest) >>= λ z. Ok (h z.0, z.1)) ≡ verdict y rest (cut L ms rest)
made_reads L X Y f P h _ _ (made x ms p) rest H i g = ap (λ (y : Reads X). y >>= λ z. Ok (h z.0, z.1)) (g x p i) ∙ verdict_map X Y h x rest (cut L ms rest)

pub law_made : {L : ℕ} {X Y : Type 0} {F : X → List Token → Type 0} {p : Part X} (h : X → Y) (H : Y → List Token → Type 0) → Law L X p F → ((x : X) (rest : List Token) → H (h x) rest → F x rest)
    → Law L Y (made_of p h) H
unfolding made_of
law_made {L} {X} {Y} {F} {p} h H l fits = record {
  good = λ a. made_good L X Y p.read p.spells h a (l.good a);
  reads = λ y ms s rest f. made_reads L X Y p.read p.spells h y ms s rest H f (λ x u i. l.reads x ms u rest (fits x rest i));
  local = local_bind X Y p.read (λ x a. Ok (h x, a)) l.local (λ a z e. local_return Y (h z.0));
}

-- ---- one of two, and one of several

pub data Either_of (X : Type 0) (P Q : X → List Marked → Type 0) : X → List Marked → Type 0 where
  first : (x : X) (ms : List Marked) → P x ms → Either_of X P Q x ms
  second : (x : X) (ms : List Marked) → Q x ms → Either_of X P Q x ms

-- the first where the test holds; a smallest one is the second
unfoldable pub either : {X : Type 0} → (List Token → Bool) → Part X → Part X → Part X
either {X} test p q = record {
  read = λ a. if test a then p.read a else q.read a;
  spells = Either_of X p.spells q.spells;
  filled = record { value = q.filled.value; marks = q.filled.marks; spells = second q.filled.value q.filled.marks q.filled.spells };
}

-- the one that the test takes is good, and its spelling is one of the first or of the second
pub either_good : (L : ℕ) (X : Type 0) (t : Bool) (f g : List Token → Reads X) (P Q : X → List Marked → Type 0) (a : List Token) → GoodAt L X f P a → GoodAt L X g Q a
    → GoodAt L X (λ a. if t then f a else g a) (Either_of X P Q) a
either_good L X true f g P Q a u v = record {
  ok = λ x r h. let z = u.ok x r h in record { used = z.used; split = z.split; low = z.low; spells = first x z.used z.spells };
  err = λ c r h. let z = u.err c r h in record {
    used = z.used;
    split = z.split;
    low = z.low;
    closing = z.closing;
    why = z.why;
    value = z.value;
    spells = first z.value (z.used ++ z.closing) z.spells;
  };
}
either_good L X false f g P Q a u v = record {
  ok = λ x r h. let z = v.ok x r h in record { used = z.used; split = z.split; low = z.low; spells = second x z.used z.spells };
  err = λ c r h. let z = v.err c r h in record {
    used = z.used;
    split = z.split;
    low = z.low;
    closing = z.closing;
    why = z.why;
    value = z.value;
    spells = second z.value (z.used ++ z.closing) z.spells;
  };
}

either_reads : (L : ℕ) (X : Type 0) (test : List Token → Bool) (f g : List Token → Reads X) (P Q : X → List Marked → Type 0) (x : X) (ms : List Marked) → Either_of X P Q x ms → (rest : List Token)
    → (P x ms → (test (tokens ms ++ rest) ≡ true) × (f (tokens ms ++ rest) ≡ verdict x rest (cut L ms rest)))
    → (Q x ms → (test (tokens ms ++ rest) ≡ false) × (g (tokens ms ++ rest) ≡ verdict x rest (cut L ms rest)))
    → (if test (tokens ms ++ rest) then f (tokens ms ++ rest) else g (tokens ms ++ rest)) ≡ verdict x rest (cut L ms rest)
either_reads L X test f g P Q _ _ (first x ms p) rest u v = let z = u p in rw z.0 z.1
either_reads L X test f g P Q _ _ (second x ms p) rest u v = let z = v p in rw z.0 z.1

pub law_either : {L : ℕ} {X : Type 0} {F : X → List Token → Type 0} {p q : Part X} (test : List Token → Bool) → ByHead test → Law L X p F → Law L X q F
    → ((x : X) (ms : List Marked) (rest : List Token) → p.spells x ms → F x rest → test (tokens ms ++ rest) ≡ true)
    → ((x : X) (ms : List Marked) (rest : List Token) → q.spells x ms → F x rest → test (tokens ms ++ rest) ≡ false) → Law L X (either test p q) F
unfolding either
law_either {L} {X} {F} {p} {q} test d u v holds fails = record {
  good = λ a. let z = either_good L X (test a) p.read q.read p.spells q.spells a (u.good a) (v.good a) in record { ok = z.ok; err = z.err };
  reads = λ x ms s rest f. either_reads L X test p.read q.read p.spells q.spells x ms s rest (λ h. (holds x ms rest h f, u.reads x ms h rest f)) (λ h. (fails x ms rest h f, v.reads x ms h rest f));
  local = local_if X test d p.read q.read u.local v.local;
}

pub data Chosen (X C : Type 0) (is : C → Bool) (P : C → X → List Marked → Type 0) : X → List Marked → Type 0 where
  chosen : (c : C) (x : X) (ms : List Marked) → is c ≡ true → P c x ms → Chosen X C is P x ms

-- the one that the first token tells, where it tells one; a smallest one is of the given form
unfoldable pub select : {X C : Type 0} → (form : List Token → C) (is : C → Bool) (part : C → Part X) (least : C) → is least ≡ true → Part X
select {X} {C} form is part least q = record {
  read = λ a. if is (form a) then (part (form a)).read a else Err (halt unexpected a);
  spells = Chosen X C is (λ c. (part c).spells);
  filled = let v = (part least).filled in record { value = v.value; marks = v.marks; spells = chosen least v.value v.marks q v.spells };
}

select_good : (L : ℕ) (X C : Type 0) (is : C → Bool) (c : C) (t : Bool) → is c ≡ t → (f : C → List Token → Reads X) (P : C → X → List Marked → Type 0) (d : Filled X (Chosen X C is P)) (a : List Token)
    → (is c ≡ true → GoodAt L X (f c) (P c) a)
    → GoodAt L X (λ a. if t then f c a else Err (halt unexpected a)) (Chosen X C is P) a
select_good L X C is c true q f P d a g = record {
  ok = λ x r h. let z = (g q).ok x r h in record { used = z.used; split = z.split; low = z.low; spells = chosen c x z.used q z.spells };
  err = λ e r h. let z = (g q).err e r h in record {
    used = z.used;
    split = z.split;
    low = z.low;
    closing = z.closing;
    why = z.why;
    value = z.value;
    spells = chosen c z.value (z.used ++ z.closing) q z.spells;
  };
}
select_good L X C is c false q f P d a g = record {
  ok = λ x r h. absurd (not_both (X × List Token) (x, r) (halt unexpected a) (sym h));
  err = λ e r h. at_once L X (Chosen X C is P) d e a r (same_stop (X × List Token) unexpected e a r h);
}

select_reads : (L : ℕ) (X C : Type 0) (form : List Token → C) (is : C → Bool) (f : C → List Token → Reads X) (P : C → X → List Marked → Type 0) (x : X) (ms : List Marked) → Chosen X C is P x ms
    → (rest : List Token)
    → ((c : C) → is c ≡ true → P c x ms → (form (tokens ms ++ rest) ≡ c) × (f c (tokens ms ++ rest) ≡ verdict x rest (cut L ms rest)))
    → (if is (form (tokens ms ++ rest)) then f (form (tokens ms ++ rest)) (tokens ms ++ rest) else Err (halt unexpected (tokens ms ++ rest))) ≡ verdict x rest (cut L ms rest)
select_reads L X C form is f P _ _ (chosen c x ms q p) rest u =
    let z = u c q p in
    ap (λ (c : C). if is c then f c (tokens ms ++ rest) else Err (halt unexpected (tokens ms ++ rest))) z.0
    ∙ ap (λ (t : Bool). if t then f c (tokens ms ++ rest) else Err (halt unexpected (tokens ms ++ rest))) q ∙ z.1

select_local : (X C : Type 0) (is : C → Bool) (f : C → List Token → Reads X) (c : C) (t : Bool) → is c ≡ t → (is c ≡ true → Local X (f c)) → Local X (λ a. if t then f c a else Err (halt unexpected a))
select_local X C is f c true q l = l q
select_local X C is f c false q l = local_stop X unexpected

pub law_select : {L : ℕ} {X C : Type 0} {F : X → List Token → Type 0} (form : List Token → C) (is : C → Bool) (part : C → Part X) (least : C) (q : is least ≡ true) → ByHead form
    → ((c : C) → is c ≡ true → Law L X (part c) F)
    → ((c : C) (x : X) (ms : List Marked) (rest : List Token) → is c ≡ true → (part c).spells x ms → F x rest → form (tokens ms ++ rest) ≡ c) → Law L X (select form is part least q) F
unfolding select
law_select {L} {X} {C} {F} form is part least q d l same = record {
  good = λ a. let z = select_good L X C is (form a) (is (form a)) refl (λ c. (part c).read) (λ c. (part c).spells) (select form is part least q).filled a (λ i. (l (form a) i).good a) in
      record { ok = z.ok; err = z.err };
  reads = λ x ms s rest f. select_reads L X C form is (λ c. (part c).read) (λ c. (part c).spells) x ms s rest (λ c i h. (same c x ms rest i h f, (l c i).reads x ms h rest f));
  local = local_select X C form d (λ c a. if is c then (part c).read a else Err (halt unexpected a)) (λ c. select_local X C is (λ c. (part c).read) c (is c) refl (λ i. (l c i).local));
}

-- ---- no room

-- a part that its first token begins, at the given depth or deeper
pub record Opens (X : Type 0) (P : X → List Marked → Type 0) (b : ℕ) (t : Token) : Type 0 where
  pub own : ℕ
  pub deep : b ≤ own
  pub value : X
  pub others : List Marked
  pub spells : P value (mark own t ∷ others)

-- the first token of a spelling
pub record First (b : ℕ) (begins : List Token → Bool) (ms : List Marked) : Type 0 where
  pub own : ℕ
  pub deep : b ≤ own
  pub token : Token
  pub others : List Marked
  pub is : ms ≡ mark own token ∷ others
  pub begun : (rest : List Token) → begins (token ∷ rest) ≡ true

look_ok : (X : Type 0) (a : List Token) (test : Bool) (y : X × List Token) → look test a ≡ result X y → ⊥
look_ok X a true y h = not_both (X × List Token) y (halt too_deep a) (sym h)
look_ok X a false y h = not_both (X × List Token) y (halt unexpected a) (sym h)

look_case : (L : ℕ) (X : Type 0) (P : X → List Marked → Type 0) (b : ℕ) (t : Token) (ts : List Token) (test : Bool) → L < b → (test ≡ true → Opens X P b t) → Filled X P → (c : Cause) (r : List Token)
    → look test (t ∷ ts) ≡ failed (X × List Token) (halt c r) → Begun L X P c (t ∷ ts) r
look_case L X P b t ts true over o d c r h =
    let q = same_stop (X × List Token) too_deep c (t ∷ ts) r h in
    let v = o refl in
    let w : Why L too_deep (mark v.own t ∷ v.others) r = record { head = mark v.own t; others = v.others; behind = ts; is = refl; over = omega (arith, over, v.deep); rest = sym q.1 } in
    record { used = []; split = q.1; low = tt; closing = mark v.own t ∷ v.others; why = subst (λ (c : Cause). Why L c (mark v.own t ∷ v.others) r) q.0 w; value = v.value; spells = v.spells }
look_case L X P b t ts false over o d c r h = at_once L X P d c (t ∷ ts) r (same_stop (X × List Token) unexpected c (t ∷ ts) r h)

look_good : (L : ℕ) (X : Type 0) (P : X → List Marked → Type 0) (b : ℕ) (test : List Token → Bool) → L < b → test [] ≡ false → ((t : Token) (ts : List Token) → test (t ∷ ts) ≡ true → Opens X P b t)
    → Filled X P → (a : List Token) → GoodAt L X (λ a. look (test a) a) P a
look_good L X P b test over none o d [] = record {
  ok = λ x r h. absurd (look_ok X [] (test []) (x, r) h);
  err = λ c r h. at_once L X P d c [] r (same_stop (X × List Token) unexpected c [] r (sym (ap (λ (t : Bool). look t []) none) ∙ h));
}
look_good L X P b test over none o d (t ∷ ts) = record {
  ok = λ x r h. absurd (look_ok X (t ∷ ts) (test (t ∷ ts)) (x, r) h);
  err = λ c r h. look_case L X P b t ts (test (t ∷ ts)) over (o t ts) d c r h;
}

look_reads : (L b : ℕ) (X : Type 0) (test : List Token → Bool) (x : X) (ms : List Marked) (rest : List Token) → L < b → First b test ms
    → look (test (tokens ms ++ rest)) (tokens ms ++ rest) ≡ verdict x rest (cut L ms rest)
look_reads L b X test x ms rest over f =
    let one : look {X = X} (test (f.token ∷ (tokens f.others ++ rest))) (f.token ∷ (tokens f.others ++ rest))
    ≡ verdict x rest (cut L (mark f.own f.token ∷ f.others) rest) = rw (f.begun (tokens f.others ++ rest), is_over L f.own (omega (arith, over, f.deep))) refl in
    subst (λ (ms : List Marked). look (test (tokens ms ++ rest)) (tokens ms ++ rest) ≡ verdict x rest (cut L ms rest)) (sym f.is) one

-- a part whose first token would be too deep
pub law_look : {X : Type 0} {F : X → List Token → Type 0} (L b : ℕ) (test : List Token → Bool) (P : X → List Marked → Type 0) (d : Filled X P) → L < b → test [] ≡ false → ByHead test
    → ((t : Token) (ts : List Token) → test (t ∷ ts) ≡ true → Opens X P b t) → ((x : X) (ms : List Marked) → P x ms → First b test ms)
    → Law L X (record { read = λ a. look (test a) a; spells = P; filled = d }) F
law_look {X} L b test P d over none by o f = record {
  good = look_good L X P b test over none o d;
  reads = λ x ms s rest h. look_reads L b X test x ms rest over (f x ms s);
  local = local_look X test by;
}

-- where a part was read, its first token was not too deep
pub look_never : (X : Type 0) (test : Bool) (a : List Token) (y : X × List Token) → look test a ≡ Ok y → ⊥
look_never X test a y h = look_ok X a test y h
