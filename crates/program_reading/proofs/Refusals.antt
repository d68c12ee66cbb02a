-- No source is refused with two statuses for one task, and for none that is refused is the task done. What a source comes to is told by
-- its tokens, its tree, its least broken rule and its steps, in this order, and each of them is one.
use Rattle.std.proofs.Common.{◌≡◌, ℕ, ◌<◌, ◌≤◌, List, length, Ok, refl, sym, ◌∙◌, subst, arith}
use Rattle.ac_lexer.specs.declared.token.Token.{Token}
use Rattle.ac_lexer.specs.declared.fault.LexFault.{LexFault}
use Rattle.ac_lexer.specs.declared.fault.LexFault.TheVariants as l
use Rattle.ac_tree.specs.declared.item.Program.{Program}
use Rattle.ac_parser.specs.Places.{UnexpectedAt, TooDeepAt}
use Rattle.ac_types.specs.Reached.{BreaksNone, IsLeastBroken}
use Rattle.ac_words.specs.declared.task.Task.{Task}
use Rattle.program_reading.specs.declared.refusal.Refusal.{Refusal}
use Rattle.program_reading.specs.declared.refusal.Refusal.TheVariants as r
use Rattle.program_reading.specs.Lines.{refusal_status}
use Rattle.program_reading.specs.Source.{HasTokens, HasFault, IsUnexpected, IsTooDeep, IsSpelled, IsReady, Refuses, all_steps}
use Rattle.program_reading.proofs.Answered.{not_deep, not_unexpected, not_both}

-- ---- what a source is, from its tokens on

-- what is known of a program that a source spells
pub data Ruled (task : Task) (p : Program) : ℕ → Type 0 where
  breaks : (rule at : ℕ) → IsLeastBroken p.items rule at → Ruled task p 3
  many : BreaksNone p.items → 4000000 < all_steps p task → Ruled task p 10
  fits : BreaksNone p.items → all_steps p task ≤ 4000000 → Ruled task p 0

-- what a source comes to, by its status, where 0 stands for those of what is made of it
pub data Comes (source : List ℕ) (task : Task) : ℕ → Type 0 where
  faulty : (f : LexFault) → HasFault source f → Comes source task 2
  stray : (at : ℕ) → IsUnexpected source at → Comes source task 2
  deep : (at : ℕ) → IsTooDeep source at → Comes source task 10
  spelled : (p : Program) (number : ℕ) → IsSpelled source p → Ruled task p number → Comes source task number

pub comes_of : (source : List ℕ) (task : Task) → length source ≤ 1048576 → (refusal : Refusal) → Refuses source task refusal → Comes source task (refusal_status refusal)
comes_of source task short r.TooLong h = absurd (omega (arith, short, h))
comes_of source task short (r.BadByte at) h = faulty (l.BadByte at) h
comes_of source task short (r.NumberTooLarge at) h = faulty (l.NumberTooLarge at) h
comes_of source task short (r.OpenComment at) h = faulty (l.OpenComment at) h
comes_of source task short (r.OpenText at) h = faulty (l.OpenText at) h
comes_of source task short (r.Unexpected at) h = stray at h
comes_of source task short (r.TooDeep at) h = deep at h
comes_of source task short (r.Broken rule) h = spelled h.program 3 h.spelled (breaks rule.rule rule.at h.least)
comes_of source task short r.TooManySteps h = spelled h.program 10 h.is_accepted.spelled (many h.is_accepted.clean h.over)

pub ready_of : (source : List ℕ) (task : Task) (p : Program) → IsReady source task p → Comes source task 0
ready_of source task p h = spelled p 0 h.is_accepted.spelled (fits h.is_accepted.clean h.within)

-- ---- one of each

no_tokens : (source : List ℕ) (f : LexFault) (ts : List Token) → HasFault source f → HasTokens source ts → ⊥
no_tokens source f ts h t = let e = h.only (Ok ts) t.lexed in absurd (cc (e))

same_tokens : (source : List ℕ) (ts us : List Token) → HasTokens source ts → HasTokens source us → us ≡ ts
same_tokens source ts us h t = let e = h.only (Ok us) t.lexed in cc (e)

module _ (source : List ℕ) where
  stray_spelled : (at : ℕ) (p : Program) → IsUnexpected source at → IsSpelled source p → ⊥
  stray_spelled at p u s = not_unexpected s.tokens p (length source) at s.tree
      (subst (λ (ts : List Token). UnexpectedAt (length source) ts at) (same_tokens source s.tokens u.tokens s.lexed u.lexed) u.unexpected)

  deep_spelled : (at : ℕ) (p : Program) → IsTooDeep source at → IsSpelled source p → ⊥
  deep_spelled at p d s = not_deep s.tokens p at s.tree (subst (λ (ts : List Token). TooDeepAt ts at) (same_tokens source s.tokens d.tokens s.lexed d.lexed) d.deep)

  stray_deep : (at place : ℕ) → IsUnexpected source at → IsTooDeep source place → ⊥
  stray_deep at place u d = not_both u.tokens (length source) at place u.unexpected (subst (λ (ts : List Token). TooDeepAt ts place) (same_tokens source u.tokens d.tokens u.lexed d.lexed) d.deep)

  pub same_program : (p q : Program) → IsSpelled source p → IsSpelled source q → p ≡ q
  same_program p q s t = s.tree.only q t.tree.marks t.tree.spells (sym t.tree.split ∙ same_tokens source s.tokens t.tokens s.lexed t.lexed)

one_rule : (task : Task) (p : Program) (m n : ℕ) → Ruled task p m → Ruled task p n → m ≡ n
one_rule task p _ _ (breaks rule at b) (breaks rule' at' b') = refl
one_rule task p _ _ (breaks rule at b) (many c o) = absurd (c b.number rule b.is)
one_rule task p _ _ (breaks rule at b) (fits c w) = absurd (c b.number rule b.is)
one_rule task p _ _ (many c o) (breaks rule at b) = absurd (c b.number rule b.is)
one_rule task p _ _ (many c o) (many c' o') = refl
one_rule task p _ _ (many c o) (fits c' w) = absurd (omega (arith, o, w))
one_rule task p _ _ (fits c w) (breaks rule at b) = absurd (c b.number rule b.is)
one_rule task p _ _ (fits c w) (many c' o) = absurd (omega (arith, o, w))
one_rule task p _ _ (fits c w) (fits c' w') = refl

pub one_status : (source : List ℕ) (task : Task) (m n : ℕ) → Comes source task m → Comes source task n → m ≡ n
one_status source task _ _ (faulty f h) (faulty f' h') = refl
one_status source task _ _ (faulty f h) (stray at u) = refl
one_status source task _ _ (faulty f h) (deep at d) = absurd (no_tokens source f d.tokens h d.lexed)
one_status source task _ _ (faulty f h) (spelled p _ s k) = absurd (no_tokens source f s.tokens h s.lexed)
one_status source task _ _ (stray at u) (faulty f h) = refl
one_status source task _ _ (stray at u) (stray at' u') = refl
one_status source task _ _ (stray at u) (deep at' d) = absurd (stray_deep source at at' u d)
one_status source task _ _ (stray at u) (spelled p _ s k) = absurd (stray_spelled source at p u s)
one_status source task _ _ (deep at d) (faulty f h) = absurd (no_tokens source f d.tokens h d.lexed)
one_status source task _ _ (deep at d) (stray at' u) = absurd (stray_deep source at' at u d)
one_status source task _ _ (deep at d) (deep at' d') = refl
one_status source task _ _ (deep at d) (spelled p _ s k) = absurd (deep_spelled source at p d s)
one_status source task _ _ (spelled p _ s k) (faulty f h) = absurd (no_tokens source f s.tokens h s.lexed)
one_status source task _ _ (spelled p _ s k) (stray at u) = absurd (stray_spelled source at p u s)
one_status source task _ _ (spelled p _ s k) (deep at d) = absurd (deep_spelled source at p d s)
one_status source task m n (spelled p _ s k) (spelled q _ t j) = one_rule task p m n k (subst (λ (x : Program). Ruled task x n) (sym (same_program source p q s t)) j)

-- ---- refusals

-- what refuses a source does so with one status
pub refused_once : (source : List ℕ) (task : Task) → length source ≤ 1048576 → (a b : Refusal) → Refuses source task a → Refuses source task b → refusal_status a ≡ refusal_status b
refused_once source task short a b h k =
    one_status source task (refusal_status a) (refusal_status b) (comes_of source task short a h) (comes_of source task short b k)

pub some_status : (refusal : Refusal) → 2 ≤ refusal_status refusal
some_status r.TooLong = omega arith
some_status (r.BadByte at) = omega arith
some_status (r.NumberTooLarge at) = omega arith
some_status (r.OpenComment at) = omega arith
some_status (r.OpenText at) = omega arith
some_status (r.Unexpected at) = omega arith
some_status (r.TooDeep at) = omega arith
some_status (r.Broken rule) = omega arith
some_status r.TooManySteps = omega arith

-- and for it the task is not done
pub refused_not : (source : List ℕ) (task : Task) → length source ≤ 1048576 → (refusal : Refusal) (p : Program) → Refuses source task refusal → IsReady source task p → ⊥
refused_not source task short refusal p h k =
    absurd (omega (arith, some_status refusal, one_status source task (refusal_status refusal) 0 (comes_of source task short refusal h) (ready_of source task p k)))
