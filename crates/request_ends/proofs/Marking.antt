-- The marks go on saying what is known of the requests: as one is made, withdrawn, known or replied, and as those that are gone are left.
use Rattle.std.proofs.Common.{◌≡◌, ℕ, zero, suc, ◌+◌, ◌<◌, ◌≤◌, inl, inr, List, [], ◌∷◌, ◌++◌, Option, Some, None, true, refl, sym, subst, arith, length, is_some, ⊎_elim}
use Rattle.std.specs.Prelude.{slice_get, slice_set, drop}
use Rattle.std.specs.List.{AllByRecursion}
use Rattle.ac_links.specs.Views.{Response, altered}
use Rattle.channel_ends.specs.Sending.{MadeOffer, made_offer, known_at}
use Rattle.channel_ends.specs.Withdraws.{MayWithdraw}
use Rattle.channel_ends.specs.Learns.{is_withdrawn}
use Rattle.request_ends.specs.declared.marks.Asked.{Asked}
use Rattle.request_ends.specs.declared.marks.Asked.TheVariants.{Open, Started, Gone}
use Rattle.request_ends.specs.inner.Marks.{is_started}
use Rattle.request_ends.specs.Marking.{MarkSays, AllMarked, AreNoted}

-- ---- one more is made

marks_more : (os : List MadeOffer) (ms : List Asked) (s : ℕ) → AllMarked os ms → AllMarked (os ++ made_offer s ∷ []) (ms ++ Open ∷ [])
marks_more [] [] s h = ((refl, refl), tt)
marks_more [] (m ∷ ms) s h = absurd h
marks_more (o ∷ os) [] s h = absurd h
marks_more (o ∷ os) (m ∷ ms) s h = (h.0, marks_more os ms s h.1)

pub noted_more : (n : ℕ) (os : List MadeOffer) (rs : List Response) (ms : List Asked) (s : ℕ) → AreNoted n os rs ms
    → AreNoted n (os ++ made_offer s ∷ []) rs (ms ++ Open ∷ [])
noted_more zero os rs ms s h = (h.0, marks_more os ms s h.1)
noted_more (suc n) [] rs ms s h = absurd h
noted_more (suc n) (o ∷ os) [] ms s h = (h.0, noted_more n os [] ms s h.1)
noted_more (suc n) (o ∷ os) (r ∷ rs) ms s h = ⊎_elim
    (λ (g : (is_some o.withdrawn ≡ true) × AreNoted n os (r ∷ rs) ms). inl (g.0, noted_more n os (r ∷ rs) ms s g.1))
    (λ (g : (o.withdrawn ≡ None) × (is_some o.known ≡ true) × AreNoted n os rs ms). inr (g.0, g.1, noted_more n os rs ms s g.2))
    h

-- ---- one changes that stands

-- an offer that is neither withdrawn nor known is not over
pub not_over : (n : ℕ) (os : List MadeOffer) (rs : List Response) (ms : List Asked) (k : ℕ) → AreNoted n os rs ms → MayWithdraw (slice_get os k) → n ≤ k
not_over zero os rs ms k h may = omega arith
not_over (suc n) [] rs ms k h may = absurd h
not_over (suc n) (o ∷ os) [] ms zero h may = absurd (none_some o.withdrawn may.0 h.0)
  where
    none_some : (w : Option ℕ) → w ≡ None → is_some w ≡ true → ⊥
    none_some None e f = cc
    none_some (Some v) e f = cc
not_over (suc n) (o ∷ os) (r ∷ rs) ms zero h may = absurd (⊎_elim
    (λ (g : (is_some o.withdrawn ≡ true) × AreNoted n os (r ∷ rs) ms). none_some o.withdrawn may.0 g.0)
    (λ (g : (o.withdrawn ≡ None) × (is_some o.known ≡ true) × AreNoted n os rs ms). none_some o.known may.1 g.1)
    h)
  where
    none_some : (w : Option ℕ) → w ≡ None → is_some w ≡ true → ⊥
    none_some None e f = cc
    none_some (Some v) e f = cc
not_over (suc n) (o ∷ os) [] ms (suc k) h may = let g = not_over n os [] ms k h.1 may in omega arith
not_over (suc n) (o ∷ os) (r ∷ rs) ms (suc k) h may = let g : n ≤ k = ⊎_elim
    (λ (g : (is_some o.withdrawn ≡ true) × AreNoted n os (r ∷ rs) ms). not_over n os (r ∷ rs) ms k g.1 may)
    (λ (g : (o.withdrawn ≡ None) × (is_some o.known ≡ true) × AreNoted n os rs ms). not_over n os rs ms k g.2 may)
    h in omega arith

pub may_within : (os : List MadeOffer) (k : ℕ) → MayWithdraw (slice_get os k) → k < length os
may_within [] k may = absurd may
may_within (o ∷ os) zero may = omega arith
may_within (o ∷ os) (suc k) may = let g = may_within os k may in omega arith

-- the mark of a request that stands is changed with it
marks_changed : (os : List MadeOffer) (ms : List Asked) (k : ℕ) (f : MadeOffer → MadeOffer) (m : Asked) → AllMarked os ms
    → ((o : MadeOffer) → slice_get os k ≡ Some o → MarkSays m (f o)) → AllMarked (altered os k f) (slice_set ms k m)
marks_changed [] [] k f m h c = tt
marks_changed [] (x ∷ ms) k f m h c = absurd h
marks_changed (o ∷ os) [] k f m h c = absurd h
marks_changed (o ∷ os) (x ∷ ms) zero f m h c = (c o refl, h.1)
marks_changed (o ∷ os) (x ∷ ms) (suc k) f m h c = (h.0, marks_changed os ms k f m h.1 c)

pub noted_changed : (n : ℕ) (os : List MadeOffer) (rs : List Response) (ms : List Asked) (k at : ℕ) (f : MadeOffer → MadeOffer) (m : Asked)
    → AreNoted n os rs ms → at + n ≡ k → ((o : MadeOffer) → slice_get os k ≡ Some o → MarkSays m (f o)) → AreNoted n (altered os k f) rs (slice_set ms at m)
noted_changed zero os rs ms k at f m h l c =
    let e : k ≡ at = omega arith in
    (h.0, subst (λ i. AllMarked (altered os k f) (slice_set ms i m)) e (marks_changed os ms k f m h.1 c))
noted_changed (suc n) [] rs ms k at f m h l c = absurd h
noted_changed (suc n) (o ∷ os) rs ms zero at f m h l c = absurd (omega arith)
noted_changed (suc n) (o ∷ os) [] ms (suc k) at f m h l c = (h.0, noted_changed n os [] ms k at f m h.1 (omega arith) c)
noted_changed (suc n) (o ∷ os) (r ∷ rs) ms (suc k) at f m h l c = ⊎_elim
    (λ (g : (is_some o.withdrawn ≡ true) × AreNoted n os (r ∷ rs) ms). inl (g.0, noted_changed n os (r ∷ rs) ms k at f m g.1 (omega arith) c))
    (λ (g : (o.withdrawn ≡ None) × (is_some o.known ≡ true) × AreNoted n os rs ms). inr (g.0, g.1, noted_changed n os rs ms k at f m g.2 (omega arith) c))
    h

-- ---- one that is withdrawn comes to be known: its mark says so as before

says_known : (m : Asked) (o : MadeOffer) (of : ℕ) → is_some o.withdrawn ≡ true → MarkSays m o → MarkSays m (known_at of o)
says_known Open o of e h = absurd (some_none o.withdrawn e h.0)
  where
    some_none : (w : Option ℕ) → is_some w ≡ true → w ≡ None → ⊥
    some_none None e f = cc
    some_none (Some v) e f = cc
says_known Started o of e h = (h.0, refl)
says_known Gone o of e h = h

marks_room : (os : List MadeOffer) (ms : List Asked) (k of : ℕ) → AllMarked os ms → is_withdrawn (slice_get os k) ≡ true → AllMarked (altered os k (known_at of)) ms
marks_room [] ms k of h e = h
marks_room (o ∷ os) [] k of h e = absurd h
marks_room (o ∷ os) (m ∷ ms) zero of h e = (says_known m o of e h.0, h.1)
marks_room (o ∷ os) (m ∷ ms) (suc k) of h e = (h.0, marks_room os ms k of h.1 e)

pub noted_room : (n : ℕ) (os : List MadeOffer) (rs : List Response) (ms : List Asked) (k of : ℕ) → AreNoted n os rs ms → is_withdrawn (slice_get os k) ≡ true
    → AreNoted n (altered os k (known_at of)) rs ms
noted_room zero os rs ms k of h e = (h.0, marks_room os ms k of h.1 e)
noted_room (suc n) [] rs ms k of h e = absurd h
noted_room (suc n) (o ∷ os) [] ms zero of h e = h
noted_room (suc n) (o ∷ os) (r ∷ rs) ms zero of h e = ⊎_elim
    (λ (g : (is_some o.withdrawn ≡ true) × AreNoted n os (r ∷ rs) ms). inl g)
    (λ (g : (o.withdrawn ≡ None) × (is_some o.known ≡ true) × AreNoted n os rs ms). inr (g.0, refl, g.2))
    h
noted_room (suc n) (o ∷ os) [] ms (suc k) of h e = (h.0, noted_room n os [] ms k of h.1 e)
noted_room (suc n) (o ∷ os) (r ∷ rs) ms (suc k) of h e = ⊎_elim
    (λ (g : (is_some o.withdrawn ≡ true) × AreNoted n os (r ∷ rs) ms). inl (g.0, noted_room n os (r ∷ rs) ms k of g.1 e))
    (λ (g : (o.withdrawn ≡ None) × (is_some o.known ≡ true) × AreNoted n os rs ms). inr (g.0, g.1, noted_room n os rs ms k of g.2 e))
    h

-- ---- the first that stands is over

-- it is gone
gone_one : (n : ℕ) (os : List MadeOffer) (rs : List Response) (ms : List Asked) → AreNoted n os rs (Gone ∷ ms) → AreNoted (suc n) os rs ms
gone_one zero [] rs ms h = absurd h.1
gone_one zero (o ∷ os) rs ms h = subst (λ qs. AreNoted 1 (o ∷ os) qs ms) (sym h.0) (h.1.0, (refl, h.1.1))
gone_one (suc n) [] rs ms h = absurd h
gone_one (suc n) (o ∷ os) [] ms h = (h.0, gone_one n os [] ms h.1)
gone_one (suc n) (o ∷ os) (r ∷ rs) ms h = ⊎_elim
    (λ (g : (is_some o.withdrawn ≡ true) × AreNoted n os (r ∷ rs) (Gone ∷ ms)). inl (g.0, gone_one n os (r ∷ rs) ms g.1))
    (λ (g : (o.withdrawn ≡ None) × (is_some o.known ≡ true) × AreNoted n os rs (Gone ∷ ms)). inr (g.0, g.1, gone_one n os rs ms g.2))
    h

pub gone_many : (gone : List Asked) (n : ℕ) (os : List MadeOffer) (rs : List Response) (ms : List Asked) → AllByRecursion (λ m. m ≡ Gone) gone
    → AreNoted n os rs (gone ++ ms) → AreNoted (n + length gone) os rs ms
gone_many [] n os rs ms all h = subst (λ k. AreNoted k os rs ms) (omega arith) h
gone_many (m ∷ gone) n os rs ms all h =
    let e : suc n + length gone ≡ n + length (m ∷ gone) = omega arith in
    subst (λ k. AreNoted k os rs ms) e
    (gone_many gone (suc n) os rs ms all.1 (gone_one n os rs (gone ++ ms) (subst (λ (x : Asked). AreNoted n os rs (x ∷ gone ++ ms)) all.0 h)))

-- it has its reply
begun_one : (n : ℕ) (os : List MadeOffer) (rs : List Response) (ms : List Asked) (r : Response) → AreNoted n os rs (Started ∷ ms)
    → AreNoted (suc n) os (rs ++ r ∷ []) ms
begun_one zero [] rs ms r h = absurd h.1
begun_one zero (o ∷ os) rs ms r h = subst (λ qs. AreNoted 1 (o ∷ os) (qs ++ r ∷ []) ms) (sym h.0) (inr (h.1.0.0, h.1.0.1, (refl, h.1.1)))
begun_one (suc n) [] rs ms r h = absurd h
begun_one (suc n) (o ∷ os) [] ms r h = inl (h.0, begun_one n os [] ms r h.1)
begun_one (suc n) (o ∷ os) (q ∷ rs) ms r h = ⊎_elim
    (λ (g : (is_some o.withdrawn ≡ true) × AreNoted n os (q ∷ rs) (Started ∷ ms)). inl (g.0, begun_one n os (q ∷ rs) ms r g.1))
    (λ (g : (o.withdrawn ≡ None) × (is_some o.known ≡ true) × AreNoted n os rs (Started ∷ ms)). inr (g.0, g.1, begun_one n os rs ms r g.2))
    h

pub noted_reply : (n : ℕ) (os : List MadeOffer) (rs : List Response) (ms : List Asked) (r : Response) → AreNoted n os rs ms
    → is_started (slice_get ms 0) ≡ true → AreNoted (suc n) os (rs ++ r ∷ []) (drop 1 ms)
noted_reply n os rs [] r h e = absurd cc
noted_reply n os rs (Open ∷ ms) r h e = absurd cc
noted_reply n os rs (Started ∷ ms) r h e = begun_one n os rs ms r h
noted_reply n os rs (Gone ∷ ms) r h e = absurd cc
