-- A reader looks no further than the token at which it stops (`Local`): where it stops before r, it stops alike before all that begins as r does.
-- Shown for each way to put readers together. The hard one is a reader behind another (`local_bind`): the first one stops before what the
-- second used, and that is followed by r, or by what begins as r does; so both begin the same there, too (`before`).
use Rattle.std.proofs.Common.{◌≡◌, List, [], ◌∷◌, ◌++◌, Option, Some, None, Result, Ok, Err, refl, sym, ap, ◌∙◌, append_assoc}
use Rattle.std.specs.Prelude.{Bool, true, false, if◌then◌else◌}
use Rattle.ac_lexer.specs.declared.token.Token.{Token}
use Rattle.reading_laws.specs.Readers.{Reads, Cause, halt, unexpected, too_deep, ◌>>=◌, taken, token_at, look}
use Rattle.reading_laws.proofs.Halts.{same_result, same_stop, not_both}

abbrev pub head_of : List Token → Option Token
head_of [] = None
head_of (t ∷ ts) = Some t

-- both lists have the same first token, or both have none
abbrev pub SameHead : List Token → List Token → Type 0
SameHead p q = head_of p ≡ head_of q

pub before : (w p q : List Token) → SameHead p q → SameHead (w ++ p) (w ++ q)
before [] p q h = h
before (t ∷ w) p q h = refl

abbrev pub token : Token → Option Token
token t = Some t

abbrev pub no_token : Option Token
no_token = None

pub one_token : {t u : Token} → token t ≡ token u → t ≡ u
one_token h = cc

pub no_one : {t : Token} → token t ≡ no_token → ⊥
no_one h = cc

-- what stands behind the same first token
pub record Behind (t : Token) (b : List Token) : Type 0 where
  pub others : List Token
  pub is : b ≡ t ∷ others

behind : (t : Token) (a b : List Token) → SameHead (t ∷ a) b → Behind t b
behind t a [] h = absurd (no_one h)
behind t a (u ∷ b) h = record { others = b; is = ap (λ (v : Token). v ∷ b) (sym (one_token h)) }

pub behind_rest : (t : Token) (a r b : List Token) → t ∷ a ≡ r → SameHead r b → Behind t b
behind_rest t a r b q h = behind t a b (ap head_of q ∙ h)

no_tokens : (b : List Token) → SameHead [] b → b ≡ []
no_tokens [] h = refl
no_tokens (t ∷ b) h = absurd (no_one (sym h))

pub no_rest : (r b : List Token) → [] ≡ r → SameHead r b → b ≡ []
no_rest r b q h = no_tokens b (ap head_of q ∙ h)

-- what is told by the first token alone
abbrev pub ByHead : {C : Type 0} → (List Token → C) → Type 0
ByHead f = (p q : List Token) → SameHead p q → f p ≡ f q

-- so it is where it is a function of the first token
pub by_head : {C : Type 0} (f : List Token → C) (none : C) (some : Token → C) → f [] ≡ none → ((t : Token) (ts : List Token) → f (t ∷ ts) ≡ some t) → ByHead f
by_head f none some e g [] [] h = refl
by_head f none some e g [] (t ∷ q) h = absurd (no_one (sym h))
by_head f none some e g (t ∷ p) [] h = absurd (no_one h)
by_head f none some e g (t ∷ p) (u ∷ q) h = g t p ∙ ap some (one_token h) ∙ sym (g u q)

-- a value, or why the next token stops it, and the tokens from there on
abbrev pub stops_at : {X : Type 0} → Result X Cause → List Token → Reads X
stops_at (Ok x) r = Ok (x, r)
stops_at (Err c) r = Err (halt c r)

-- f does the same before b
pub record Moves (X : Type 0) (f : List Token → Reads X) (o : Result X Cause) (a r b : List Token) : Type 0 where
  pub used : List Token
  pub split : a ≡ used ++ r
  pub same : f (used ++ b) ≡ stops_at o b

-- Where f stops before r, it stops before each b with the same first token, with the same answer.
abbrev pub Local : (X : Type 0) → (f : List Token → Reads X) → Type 0
Local X f = (o : Result X Cause) (a r b : List Token) → SameHead r b → f a ≡ stops_at o r → Moves X f o a r b

pub local_return : (X : Type 0) (x : X) → Local X (λ a. Ok (x, a))
local_return X x (Ok y) a r b h e = let q = same_result X x y a r e in record { used = []; split = q.1; same = ap (λ (y : X). Ok (y, b)) q.0 }
local_return X x (Err c) a r b h e = absurd (not_both (X × List Token) (x, a) (halt c r) e)

-- it stops at once
pub local_stop : (X : Type 0) (c : Cause) → Local X (λ a. Err (halt c a))
local_stop X c (Ok y) a r b h e = absurd (not_both (X × List Token) (y, r) (halt c a) (sym e))
local_stop X c (Err d) a r b h e = let q = same_stop (X × List Token) c d a r e in record { used = []; split = q.1; same = ap (λ (c : Cause). Err (halt c b)) q.0 }

bind_stop : (X Y : Type 0) (f : List Token → Reads X) (k : X → List Token → Reads Y) (d : Cause) (s : List Token)
    → (o : Result Y Cause) (a r b : List Token) → SameHead r b
    → ((p : Result X Cause) (c e : List Token) → SameHead c e → Err (halt d s) ≡ stops_at p c → Moves X f p a c e)
    → Err (halt d s) ≡ stops_at o r → Moves Y (λ a. f a >>= λ z. k z.0 z.1) o a r b
bind_stop X Y f k d s (Ok y) a r b h lf e = absurd (not_both (Y × List Token) (y, r) (halt d s) (sym e))
bind_stop X Y f k d s (Err c) a r b h lf e =
    let q = same_stop (Y × List Token) d c s r e in
    let n = lf (Err c) r b h (ap (λ (d : Cause). Err (halt d s)) q.0 ∙ ap (λ (s : List Token). Err (halt c s)) q.1) in
    record { used = n.used; split = n.split; same = ap (λ (y : Reads X). y >>= λ z. k z.0 z.1) n.same }

bind_case : (X Y : Type 0) (f : List Token → Reads X) (k : X → List Token → Reads Y)
    → (o : Result Y Cause) (a r b : List Token) → SameHead r b → (y : Reads X) → ((z : X × List Token) → y ≡ Ok z → Local Y (k z.0))
    → ((p : Result X Cause) (c d : List Token) → SameHead c d → y ≡ stops_at p c → Moves X f p a c d)
    → (y >>= λ z. k z.0 z.1) ≡ stops_at o r → Moves Y (λ a. f a >>= λ z. k z.0 z.1) o a r b
bind_case X Y f k o a r b h (Ok z) lk lf e =
    let m = lk z refl o z.1 r b h e in
    let n = lf (Ok z.0) (m.used ++ r) (m.used ++ b) (before m.used r b h) (ap (λ (c : List Token). Ok (z.0, c)) m.split) in
    let one : f ((n.used ++ m.used) ++ b) ≡ Ok (z.0, m.used ++ b) = ap f (append_assoc n.used m.used b) ∙ n.same in
    record { used = n.used ++ m.used; split = n.split ∙ sym (append_assoc n.used m.used r); same = ap (λ (y : Reads X). y >>= λ z. k z.0 z.1) one ∙ m.same }
bind_case X Y f k o a r b h (Err (halt d s)) lk lf e = bind_stop X Y f k d s o a r b h lf e

-- one reader after the other
pub local_bind : (X Y : Type 0) (f : List Token → Reads X) (k : X → List Token → Reads Y) → Local X f → ((a : List Token) (z : X × List Token) → f a ≡ Ok z → Local Y (k z.0))
    → Local Y (λ a. f a >>= λ z. k z.0 z.1)
local_bind X Y f k lf lk o a r b h e = bind_case X Y f k o a r b h (f a) (lk a) (λ p c d i g. lf p a c d i g) e

if_case : (X : Type 0) (test : List Token → Bool) → ByHead test → (f g : List Token → Reads X) → Local X f → Local X g
    → (o : Result X Cause) (a r b : List Token) → SameHead r b → (t : Bool) → test a ≡ t → (if t then f a else g a) ≡ stops_at o r → Moves X (λ a. if test a then f a else g a) o a r b
if_case X test d f g lf lg o a r b h true q e =
    let m = lf o a r b h e in
    let p : test (m.used ++ b) ≡ true = sym (d (m.used ++ r) (m.used ++ b) (before m.used r b h)) ∙ sym (ap test m.split) ∙ q in
    record { used = m.used; split = m.split; same = ap (λ (t : Bool). if t then f (m.used ++ b) else g (m.used ++ b)) p ∙ m.same }
if_case X test d f g lf lg o a r b h false q e =
    let m = lg o a r b h e in
    let p : test (m.used ++ b) ≡ false = sym (d (m.used ++ r) (m.used ++ b) (before m.used r b h)) ∙ sym (ap test m.split) ∙ q in
    record { used = m.used; split = m.split; same = ap (λ (t : Bool). if t then f (m.used ++ b) else g (m.used ++ b)) p ∙ m.same }

-- the next token alone decides
pub local_if : (X : Type 0) (test : List Token → Bool) → ByHead test → (f g : List Token → Reads X) → Local X f → Local X g → Local X (λ a. if test a then f a else g a)
local_if X test d f g lf lg o a r b h e = if_case X test d f g lf lg o a r b h (test a) refl e

-- the next token alone decides between several
pub local_select : (X C : Type 0) (form : List Token → C) → ByHead form → (f : C → List Token → Reads X) → ((c : C) → Local X (f c)) → Local X (λ a. f (form a) a)
local_select X C form d f lf o a r b h e =
    let m = lf (form a) o a r b h e in
    let p : form (m.used ++ b) ≡ form a = sym (d (m.used ++ r) (m.used ++ b) (before m.used r b h)) ∙ sym (ap form m.split) in
    record { used = m.used; split = m.split; same = ap (λ (c : C). f c (m.used ++ b)) p ∙ m.same }

-- one that does the same everywhere
pub local_same : (X : Type 0) (f g : List Token → Reads X) → ((a : List Token) → f a ≡ g a) → Local X g → Local X f
local_same X f g s lg o a r b h e = let m = lg o a r b h (sym (s a) ∙ e) in record { used = m.used; split = m.split; same = s (m.used ++ b) ∙ m.same }

-- no room
pub local_look : (X : Type 0) (test : List Token → Bool) → ByHead test → Local X (λ a. look (test a) a)
local_look X test d = local_select X Bool test d (λ t. look t) each
  where
    each : (t : Bool) → Local X (λ a. look t a)
    each true = local_stop X too_deep
    each false = local_stop X unexpected

-- ---- one token

taken_case : (X : Type 0) (pick : Token → Option X) (o : Result X Cause) (t : Token) (a r b : List Token) → SameHead r b → (i : Option X) → pick t ≡ i → taken i t a ≡ stops_at o r
    → Moves X (token_at pick) o (t ∷ a) r b
taken_case X pick (Ok y) t a r b h (Some x) q e =
    let p = same_result X x y a r e in
    record { used = t ∷ []; split = ap (λ (c : List Token). t ∷ c) p.1; same = rw q (ap (λ (z : X). Ok (z, b)) p.0) }
taken_case X pick (Err c) t a r b h (Some x) q e = absurd (not_both (X × List Token) (x, a) (halt c r) e)
taken_case X pick (Ok y) t a r b h None q e = absurd (not_both (X × List Token) (y, r) (halt unexpected (t ∷ a)) (sym e))
taken_case X pick (Err c) t a r b h None q e =
    let p = same_stop (X × List Token) unexpected c (t ∷ a) r e in
    let z = behind_rest t a r b p.1 h in
    let one : token_at pick (t ∷ z.others) ≡ Err (halt unexpected (t ∷ z.others)) = rw q refl in
    record { used = []; split = p.1; same = ap (token_at pick) z.is ∙ one ∙ ap (λ (c : List Token). Err (halt unexpected c)) (sym z.is) ∙ ap (λ (c : Cause). Err (halt c b)) p.0 }

end_case : (X : Type 0) (pick : Token → Option X) (o : Result X Cause) (r b : List Token) → SameHead r b → Err (halt unexpected []) ≡ stops_at o r → Moves X (token_at pick) o [] r b
end_case X pick (Ok y) r b h e = absurd (not_both (X × List Token) (y, r) (halt unexpected []) (sym e))
end_case X pick (Err c) r b h e =
    let q = same_stop (X × List Token) unexpected c [] r e in
    let z : b ≡ [] = no_rest r b q.1 h in
    record { used = []; split = q.1; same = ap (token_at pick) z ∙ ap (λ (c : List Token). Err (halt unexpected c)) (sym z) ∙ ap (λ (c : Cause). Err (halt c b)) q.0 }

pub local_token : (X : Type 0) (pick : Token → Option X) → Local X (token_at pick)
local_token X pick o [] r b h e = end_case X pick o r b h e
local_token X pick o (t ∷ a) r b h e = taken_case X pick o t a r b h (pick t) refl e
