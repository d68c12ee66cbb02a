-- Which request comes next: by the marks of those that are not over it is the first of them, and it awaits a reply where it has begun.
use Rattle.std.proofs.Common.{◌≡◌, ℕ, zero, suc, ◌+◌, List, [], ◌∷◌, Option, Some, None, true, cond, ◌||◌, refl, sym, ap, ◌∙◌, subst, arith, length, is_some, ⊎_elim}
use Rattle.std.specs.Prelude.{slice_get}
use Rattle.ac_base.specs.declared.entry.Payload.{Payload}
use Rattle.ac_links.specs.Views.{Response}
use Rattle.ac_links.specs.Replies.{least_open}
use Rattle.core_ports.specs.Ends.{is_known}
use Rattle.channel_ends.specs.Sending.{MadeOffer}
use Rattle.request_ends.specs.declared.marks.Asked.{Asked}
use Rattle.request_ends.specs.declared.marks.Asked.TheVariants.{Open, Started, Gone}
use Rattle.request_ends.specs.Asking.{asked, reply_for, replies_after}
use Rattle.request_ends.specs.inner.Marks.{is_started}
use Rattle.request_ends.specs.Marking.{MarkSays, AllMarked, AreNoted}

-- ---- the requests after the first

gone_keeps : (w : Option ℕ) (rs : List Response) → is_some w ≡ true → replies_after w rs ≡ rs
gone_keeps (Some v) rs e = refl
gone_keeps None rs e = absurd cc

pub none_after : (w : Option ℕ) → replies_after w [] ≡ []
none_after None = refl
none_after (Some v) = refl

pub none_for : (w : Option ℕ) → reply_for w [] ≡ None
none_for None = refl
none_for (Some v) = refl

-- of one that is over, and of one that is marked
pub rest_over : (n : ℕ) (o : MadeOffer) (os : List MadeOffer) (rs : List Response) (ms : List Asked) → AreNoted (suc n) (o ∷ os) rs ms
    → AreNoted n os (replies_after o.withdrawn rs) ms
rest_over n o os [] ms h = subst (λ rs. AreNoted n os rs ms) (sym (none_after o.withdrawn)) h.1
rest_over n o os (r ∷ rs) ms h = ⊎_elim
    (λ (g : (is_some o.withdrawn ≡ true) × AreNoted n os (r ∷ rs) ms). subst (λ qs. AreNoted n os qs ms) (sym (gone_keeps o.withdrawn (r ∷ rs) g.0)) g.1)
    (λ (g : (o.withdrawn ≡ None) × (is_some o.known ≡ true) × AreNoted n os rs ms).
    subst (λ (w : Option ℕ). AreNoted n os (replies_after w (r ∷ rs)) ms) (sym g.0) g.2)
    h

pub rest_marked : (o : MadeOffer) (os : List MadeOffer) (rs : List Response) (m : Asked) (ms : List Asked) → AreNoted zero (o ∷ os) rs (m ∷ ms)
    → AreNoted zero os (replies_after o.withdrawn rs) ms
rest_marked o os rs m ms h = (ap (λ qs. replies_after o.withdrawn qs) h.0 ∙ none_after o.withdrawn, h.1.1)

-- ---- how many there are

as_many_marks : (os : List MadeOffer) (ms : List Asked) → AllMarked os ms → length ms ≡ length os
as_many_marks [] [] h = refl
as_many_marks [] (m ∷ ms) h = absurd h
as_many_marks (o ∷ os) [] h = absurd h
as_many_marks (o ∷ os) (m ∷ ms) h = let g = as_many_marks os ms h.1 in omega arith

pub as_many : (n : ℕ) (os : List MadeOffer) (rs : List Response) (ms : List Asked) → AreNoted n os rs ms → n + length ms ≡ length os
as_many zero os rs ms h = let g = as_many_marks os ms h.1 in omega arith
as_many (suc n) [] rs ms h = absurd h
as_many (suc n) (o ∷ os) rs ms h = let g = as_many n os (replies_after o.withdrawn rs) ms (rest_over n o os rs ms h) in omega arith

-- ---- which is next

is_over : (o : MadeOffer) (n : ℕ) (os : List MadeOffer) (rs : List Response) (ms : List Asked) → AreNoted (suc n) (o ∷ os) rs ms
    → (is_some o.withdrawn || is_some (reply_for o.withdrawn rs)) ≡ true
is_over o n os [] ms h = ap (λ b. b || is_some (reply_for o.withdrawn [])) h.0
is_over o n os (r ∷ rs) ms h = ⊎_elim
    (λ (g : (is_some o.withdrawn ≡ true) × AreNoted n os (r ∷ rs) ms). ap (λ b. b || is_some (reply_for o.withdrawn (r ∷ rs))) g.0)
    (λ (g : (o.withdrawn ≡ None) × (is_some o.known ≡ true) × AreNoted n os rs ms). ap (λ (w : Option ℕ). is_some w || is_some (reply_for w (r ∷ rs))) g.0)
    h

stands : (m : Asked) (ms : List Asked) (o : MadeOffer) → MarkSays m o → (slice_get (m ∷ ms) 0 ≡ Some Gone → ⊥) → o.withdrawn ≡ None
stands Open ms o h f = h.0
stands Started ms o h f = h.0
stands Gone ms o h f = absurd (f refl)

-- the first that is not over is the least open one
pub least_is : (n : ℕ) (xs : List Payload) (os : List MadeOffer) (rs : List Response) (ms : List Asked) → length xs ≡ length os → AreNoted n os rs ms
    → (slice_get ms 0 ≡ Some Gone → ⊥) → least_open (asked xs os rs) ≡ n
least_is zero [] os rs ms e h f = refl
least_is zero (x ∷ xs) [] rs ms e h f = refl
least_is zero (x ∷ xs) (o ∷ os) rs [] e h f = absurd h.1
least_is zero (x ∷ xs) (o ∷ os) rs (m ∷ ms) e h f = subst (λ (rs : List Response). least_open (asked (x ∷ xs) (o ∷ os) rs) ≡ 0) (sym h.0)
    (subst (λ (w : Option ℕ). least_open (record { payload = x; stamp = o.stamp; withdrawn = w; known = o.known; reply = reply_for w [] } ∷ asked xs os (replies_after w [])) ≡ 0)
    (sym (stands m ms o h.1.0 f)) refl)
least_is (suc n) xs [] rs ms e h f = absurd h
least_is (suc n) [] (o ∷ os) rs ms e h f = absurd (omega arith)
least_is (suc n) (x ∷ xs) (o ∷ os) rs ms e h f =
    ap (λ b. cond b (suc (least_open (asked xs os (replies_after o.withdrawn rs)))) 0) (is_over o n os rs ms h)
    ∙ ap suc (least_is n xs os (replies_after o.withdrawn rs) ms (omega arith) (rest_over n o os rs ms h) f)

known_so : (m : Asked) (ms : List Asked) (o : MadeOffer) → MarkSays m o → (slice_get (m ∷ ms) 0 ≡ Some Gone → ⊥) → is_some o.known ≡ is_started (Some m)
known_so Open ms o h f = ap is_some h.1
known_so Started ms o h f = h.1
known_so Gone ms o h f = absurd (f refl)

-- and whether it is known that the worker has taken it is told by its mark
pub awaits_so : (n : ℕ) (xs : List Payload) (os : List MadeOffer) (rs : List Response) (ms : List Asked) → length xs ≡ length os → AreNoted n os rs ms
    → (slice_get ms 0 ≡ Some Gone → ⊥) → is_known (slice_get (asked xs os rs) n) ≡ is_started (slice_get ms 0)
awaits_so zero [] [] rs [] e h f = refl
awaits_so zero [] [] rs (m ∷ ms) e h f = absurd h.1
awaits_so zero [] (o ∷ os) rs ms e h f = absurd (omega arith)
awaits_so zero (x ∷ xs) [] rs ms e h f = absurd (omega arith)
awaits_so zero (x ∷ xs) (o ∷ os) rs [] e h f = absurd h.1
awaits_so zero (x ∷ xs) (o ∷ os) rs (m ∷ ms) e h f = known_so m ms o h.1.0 f
awaits_so (suc n) xs [] rs ms e h f = absurd h
awaits_so (suc n) [] (o ∷ os) rs ms e h f = absurd (omega arith)
awaits_so (suc n) (x ∷ xs) (o ∷ os) rs ms e h f = awaits_so n xs os (replies_after o.withdrawn rs) ms (omega arith) (rest_over n o os rs ms h) f
