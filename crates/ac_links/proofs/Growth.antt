-- The views of the two sides at a moment, against those at the end: what was there stays, and what is new is not before the moment (`Before`, `BeforeD`).
-- By induction on the entries that are left, with one case for each entry that a side may make.
-- The lemmas `*_at`, `*_new` and `agree_*` read one offer or decision out of this.
use Rattle.std.proofs.Common.{◌≡◌, ℕ, zero, suc, ◌<◌, ◌≤◌, List, [], ◌∷◌, ◌++◌, Option, Some, None, Bool, true, false, refl, sym, ap, ◌∙◌, subst, inl, inr, ◌⊎◌, arith, length}
use Rattle.std.specs.Prelude.{slice_get, is_some, is_none, ◌&&◌}
use Rattle.std.specs.List.{AllByRecursion}
use Rattle.ac_base.specs.declared.entry.Event.{Event}
use Rattle.ac_base.specs.declared.entry.Event.TheVariants.{Offer, Withdraw, Know, Room, Got, Pass, Did, Reply}
use Rattle.ac_base.specs.declared.entry.Stamped.{Stamped}
use Rattle.ac_base.specs.declared.entry.Answer.{Answer}
use Rattle.ac_links.specs.Order.{stamp_of, AllFrom}
use Rattle.ac_links.specs.declared.payloads.Terms.{Terms}
use Rattle.ac_links.specs.Views.{OwnerOffer, PeerDecision, Response, may_withdraw, may_free, may_reply, owner_fits, owner_after, altered, withdrawn_at, known_at, replied_with, decision_of, OwnerRuns}
use Rattle.ac_links.specs.Views.{PeerRuns, OfferAgrees, ViewsAgree}

pub cases_opt : {X : Type 0} (q : Option X) → (q ≡ None) ⊎ ((x : X) × (q ≡ Some x))
cases_opt None = inl refl
cases_opt (Some x) = inr (x, refl)

abbrev pub OptGrows : ℕ → Option ℕ → Option ℕ → Type 0
OptGrows s (Some w) q = q ≡ Some w
OptGrows s None None = Unit {0}
OptGrows s None (Some w) = s ≤ w

abbrev pub OptKeeps : {X : Type 0} → Option X → Option X → Type 0
OptKeeps (Some w) q = q ≡ Some w
OptKeeps None q = Unit {0}

pub record Grows (s : ℕ) (o f : OwnerOffer) : Type 0 where
  pub payload : f.payload ≡ o.payload
  pub stamp : f.stamp ≡ o.stamp
  pub withdrawn : OptGrows s o.withdrawn f.withdrawn
  pub known : OptKeeps o.known f.known
  pub reply : OptKeeps o.reply f.reply

-- what was there stays, and what is new is not before s
abbrev pub Before : ℕ → List OwnerOffer → List OwnerOffer → Type 0
Before s [] fs = AllByRecursion (λ f. s ≤ f.stamp) fs
Before s (o ∷ os) [] = ⊥
Before s (o ∷ os) (f ∷ fs) = Grows s o f × Before s os fs

opt_same : (s : ℕ) (q : Option ℕ) → OptGrows s q q
opt_same s None = tt
opt_same s (Some w) = refl

opt_kept : {X : Type 0} (q : Option X) → OptKeeps q q
opt_kept None = tt
opt_kept (Some w) = refl

pub before_same : (s : ℕ) (os : List OwnerOffer) → Before s os os
before_same s [] = tt
before_same s (o ∷ os) = (record { payload = refl; stamp = refl; withdrawn = opt_same s o.withdrawn; known = opt_kept o.known; reply = opt_kept o.reply }, before_same s os)

before_push : (s : ℕ) (os : List OwnerOffer) (n : OwnerOffer) (fs : List OwnerOffer) → s ≤ n.stamp → Before s (os ++ n ∷ []) fs → Before s os fs
before_push s [] n [] h b = tt
before_push s [] n (f ∷ fs) h b = (let e = b.0.stamp in omega arith, b.1)
before_push s (o ∷ os) n [] h b = b
before_push s (o ∷ os) n (f ∷ fs) h b = (b.0, before_push s os n fs h b.1)

before_altered : (s : ℕ) (os : List OwnerOffer) (n : ℕ) (g : OwnerOffer → OwnerOffer) (fs : List OwnerOffer) → ((o f : OwnerOffer) → slice_get os n ≡ Some o → Grows s (g o) f → Grows s o f)
    → Before s (altered os n g) fs → Before s os fs
before_altered s [] n g fs h b = b
before_altered s (o ∷ os) zero g [] h b = b
before_altered s (o ∷ os) zero g (f ∷ fs) h b = (h o f refl b.0, b.1)
before_altered s (o ∷ os) (suc n) g [] h b = b
before_altered s (o ∷ os) (suc n) g (f ∷ fs) h b = (b.0, before_altered s os n g fs h b.1)

grows_withdrawn : (s t : ℕ) (o f : OwnerOffer) → s ≤ t → o.withdrawn ≡ None → Grows s (withdrawn_at t o) f → Grows s o f
grows_withdrawn s t o f h e g = record {
  payload = g.payload;
  stamp = g.stamp;
  known = g.known;
  reply = g.reply;
  withdrawn = subst (λ q. OptGrows s q f.withdrawn) (sym e) (subst (OptGrows s None) (sym g.withdrawn) h);
}

grows_known : (s t : ℕ) (o f : OwnerOffer) → o.known ≡ None → Grows s (known_at t o) f → Grows s o f
grows_known s t o f e g = record {
  payload = g.payload;
  stamp = g.stamp;
  withdrawn = g.withdrawn;
  known = subst (λ q. OptKeeps q f.known) (sym e) tt;
  reply = g.reply;
}

grows_replied : (s t : ℕ) (a : Answer) (o f : OwnerOffer) → o.reply ≡ None → Grows s (replied_with a t o) f → Grows s o f
grows_replied s t a o f e g = record {
  payload = g.payload;
  stamp = g.stamp;
  withdrawn = g.withdrawn;
  known = g.known;
  reply = subst (λ q. OptKeeps q f.reply) (sym e) tt;
}

none_is : {X : Type 0} (q : Option X) → is_none q ≡ true → q ≡ None
none_is None h = refl
none_is (Some x) h = cc

some_is : {X : Type 0} (q : Option X) → is_some q ≡ true → (x : X) × (q ≡ Some x)
some_is None h = cc
some_is (Some x) h = (x, refl)

pub both_true : (a b : Bool) → a && b ≡ true → (a ≡ true) × (b ≡ true)
both_true true b h = (refl, h)
both_true false b h = cc

pub may_withdraw_is : (q : Option OwnerOffer) → may_withdraw q ≡ true → (o : OwnerOffer) × (q ≡ Some o) × (o.withdrawn ≡ None) × (o.known ≡ None)
may_withdraw_is None h = cc
may_withdraw_is (Some o) h = let p = both_true (is_none o.withdrawn) (is_none o.known) h in (o, refl, none_is o.withdrawn p.0, none_is o.known p.1)

pub may_free_is : (q : Option OwnerOffer) → may_free q ≡ true → (o : OwnerOffer) × (q ≡ Some o) × ((w : ℕ) × (o.withdrawn ≡ Some w)) × (o.known ≡ None)
may_free_is None h = cc
may_free_is (Some o) h = let p = both_true (is_some o.withdrawn) (is_none o.known) h in (o, refl, some_is o.withdrawn p.0, none_is o.known p.1)

pub may_reply_is : (q : Option OwnerOffer) → may_reply q ≡ true → (o : OwnerOffer) × (q ≡ Some o) × (o.withdrawn ≡ None) × (o.reply ≡ None)
may_reply_is None h = cc
may_reply_is (Some o) h = let p = both_true (is_none o.withdrawn) (is_none o.reply) h in (o, refl, none_is o.withdrawn p.0, none_is o.reply p.1)

pub some_one : {X : Type 0} {a b : X} {q : Option X} → q ≡ Some a → q ≡ Some b → a ≡ b
some_one h k = cc

pub before_step : (terms : Terms) (s t of : ℕ) (os : List OwnerOffer) (e : Event) (fs : List OwnerOffer) → s ≤ t → owner_fits terms os e ≡ true → Before s (owner_after os t of e) fs → Before s os fs
before_step terms s t of os (Offer l n p) fs h f b = before_push s os _ fs h b
before_step terms s t of os (Withdraw l n) fs h f b = let w = may_withdraw_is (slice_get os n) f in
    before_altered s os n (withdrawn_at t) fs (λ o x e g. grows_withdrawn s t o x h (ap (λ y. y.withdrawn) (some_one e w.1) ∙ w.2) g) b
before_step terms s t of os (Know l n) fs h f b = let w = may_withdraw_is (slice_get os n) f in
    before_altered s os n (known_at of) fs (λ o x e g. grows_known s of o x (ap (λ y. y.known) (some_one e w.1) ∙ w.3) g) b
before_step terms s t of os (Room l n) fs h f b = let w = may_free_is (slice_get os n) f in
    before_altered s os n (known_at of) fs (λ o x e g. grows_known s of o x (ap (λ y. y.known) (some_one e w.1) ∙ w.3) g) b
before_step terms s t of os (Got l n v) fs h f b = b
before_step terms s t of os (Pass l n) fs h f b = b
before_step terms s t of os (Did l n w) fs h f b = b
before_step terms s t of os (Reply l n a) fs h f b = let w = may_reply_is (slice_get os n) f in
    before_altered s os n (replied_with a of) fs (λ o x e g. grows_replied s of a o x (ap (λ y. y.reply) (some_one e w.1) ∙ w.3) g) b

pub before_of : (terms : Terms) (s : ℕ) (mine : Event → ℕ) (os : List OwnerOffer) (es : List Stamped) (fs : List OwnerOffer) → OwnerRuns terms mine os es fs → AllFrom stamp_of s es → Before s os fs
before_of terms s mine os [] fs r a = subst (Before s os) (sym r) (before_same s os)
before_of terms s mine os (e ∷ es) fs r a = before_step terms s e.entry.stamp (mine e.entry.event) os e.entry.event fs a.0 r.0
    (before_of terms s mine (owner_after os e.entry.stamp (mine e.entry.event) e.entry.event) es fs r.2 a.1)

pub before_at : (s : ℕ) (os fs : List OwnerOffer) (n : ℕ) (o : OwnerOffer) → Before s os fs → slice_get os n ≡ Some o → (f : OwnerOffer) × (slice_get fs n ≡ Some f) × Grows s o f
before_at s [] fs n o b h = cc
before_at s (x ∷ os) [] n o b h = absurd b
before_at s (x ∷ os) (f ∷ fs) zero o b h = let e : x ≡ o = cc in (f, refl, subst (λ y. Grows s y f) e b.0)
before_at s (x ∷ os) (f ∷ fs) (suc n) o b h = before_at s os fs n o b.1 h

all_at : (s : ℕ) (fs : List OwnerOffer) (n : ℕ) (f : OwnerOffer) → AllByRecursion (λ x. s ≤ x.stamp) fs → slice_get fs n ≡ Some f → s ≤ f.stamp
all_at s [] n f a h = cc
all_at s (x ∷ fs) zero f a h = let e : x ≡ f = cc in subst (λ y. s ≤ y.stamp) e a.0
all_at s (x ∷ fs) (suc n) f a h = all_at s fs n f a.1 h

pub before_new : (s : ℕ) (os fs : List OwnerOffer) (n : ℕ) (f : OwnerOffer) → Before s os fs → length os ≤ n → slice_get fs n ≡ Some f → s ≤ f.stamp
before_new s [] fs n f b l h = all_at s fs n f b h
before_new s (x ∷ os) [] n f b l h = absurd b
before_new s (x ∷ os) (y ∷ fs) zero f b l h = absurd (omega arith)
before_new s (x ∷ os) (y ∷ fs) (suc n) f b l h = before_new s os fs n f b.1 (omega arith) h

pub altered_at : (os : List OwnerOffer) (n : ℕ) (g : OwnerOffer → OwnerOffer) (o : OwnerOffer) → slice_get os n ≡ Some o → slice_get (altered os n g) n ≡ Some (g o)
altered_at [] n g o h = cc
altered_at (x ∷ os) zero g o h = let e : x ≡ o = cc in ap (λ y. Some (g y)) e
altered_at (x ∷ os) (suc n) g o h = altered_at os n g o h

-- the peer's side

abbrev pub BeforeD : ℕ → List PeerDecision → List PeerDecision → Type 0
BeforeD s [] gs = AllByRecursion (λ g. s ≤ g.stamp) gs
BeforeD s (d ∷ ds) [] = ⊥
BeforeD s (d ∷ ds) (g ∷ gs) = (g ≡ d) × BeforeD s ds gs

beforeD_same : (s : ℕ) (ds : List PeerDecision) → BeforeD s ds ds
beforeD_same s [] = tt
beforeD_same s (d ∷ ds) = (refl, beforeD_same s ds)

beforeD_push : (s : ℕ) (ds : List PeerDecision) (d : PeerDecision) (gs : List PeerDecision) → s ≤ d.stamp → BeforeD s (ds ++ d ∷ []) gs → BeforeD s ds gs
beforeD_push s [] d [] h b = tt
beforeD_push s [] d (g ∷ gs) h b = (subst (λ x. s ≤ x.stamp) (sym b.0) h, b.1)
beforeD_push s (x ∷ ds) d [] h b = b
beforeD_push s (x ∷ ds) d (g ∷ gs) h b = (b.0, beforeD_push s ds d gs h b.1)

pub decision_stamp_is : (t of : ℕ) (e : Event) → (decision_of t of e).stamp ≡ t
decision_stamp_is t of (Offer l n p) = refl
decision_stamp_is t of (Withdraw l n) = refl
decision_stamp_is t of (Know l n) = refl
decision_stamp_is t of (Room l n) = refl
decision_stamp_is t of (Got l n v) = refl
decision_stamp_is t of (Pass l n) = refl
decision_stamp_is t of (Did l n w) = refl
decision_stamp_is t of (Reply l n w) = refl

pub beforeD_of : (terms : Terms) (s : ℕ) (mine : Event → ℕ) (ds : List PeerDecision) (es : List Stamped) (gs : List PeerDecision) → PeerRuns terms mine ds es gs → AllFrom stamp_of s es
    → BeforeD s ds gs
beforeD_of terms s mine ds [] gs r a = subst (BeforeD s ds) (sym r) (beforeD_same s ds)
beforeD_of terms s mine ds (e ∷ es) gs r a = beforeD_push s ds (decision_of e.entry.stamp (mine e.entry.event) e.entry.event) gs
    (subst (λ n. s ≤ n) (sym (decision_stamp_is e.entry.stamp (mine e.entry.event) e.entry.event)) a.0)
    (beforeD_of terms s mine (ds ++ decision_of e.entry.stamp (mine e.entry.event) e.entry.event ∷ []) es gs r.2 a.1)

pub beforeD_at : (s : ℕ) (ds gs : List PeerDecision) (n : ℕ) (d : PeerDecision) → BeforeD s ds gs → slice_get ds n ≡ Some d → slice_get gs n ≡ Some d
beforeD_at s [] gs n d b h = cc
beforeD_at s (x ∷ ds) [] n d b h = absurd b
beforeD_at s (x ∷ ds) (g ∷ gs) zero d b h = let e = b.0 in cc
beforeD_at s (x ∷ ds) (g ∷ gs) (suc n) d b h = beforeD_at s ds gs n d b.1 h

allD_at : (s : ℕ) (gs : List PeerDecision) (n : ℕ) (g : PeerDecision) → AllByRecursion (λ x. s ≤ x.stamp) gs → slice_get gs n ≡ Some g → s ≤ g.stamp
allD_at s [] n g a h = cc
allD_at s (x ∷ gs) zero g a h = let e : x ≡ g = cc in subst (λ y. s ≤ y.stamp) e a.0
allD_at s (x ∷ gs) (suc n) g a h = allD_at s gs n g a.1 h

pub beforeD_new : (s : ℕ) (ds gs : List PeerDecision) (n : ℕ) (g : PeerDecision) → BeforeD s ds gs → slice_get ds n ≡ None → slice_get gs n ≡ Some g → s ≤ g.stamp
beforeD_new s [] gs n g b l h = allD_at s gs n g b h
beforeD_new s (x ∷ ds) [] n g b l h = absurd b
beforeD_new s (x ∷ ds) (y ∷ gs) zero g b l h = cc
beforeD_new s (x ∷ ds) (y ∷ gs) (suc n) g b l h = beforeD_new s ds gs n g b.1 l h

pub beforeD_next : (s : ℕ) (ds : List PeerDecision) (d : PeerDecision) (gs : List PeerDecision) → BeforeD s (ds ++ d ∷ []) gs → slice_get gs (length ds) ≡ Some d
beforeD_next s [] d [] b = absurd b
beforeD_next s [] d (g ∷ gs) b = ap (λ x. Some x) b.0
beforeD_next s (x ∷ ds) d [] b = absurd b
beforeD_next s (x ∷ ds) d (g ∷ gs) b = beforeD_next s ds d gs b.1

pub none_past : (ds : List PeerDecision) → slice_get ds (length ds) ≡ None
none_past [] = refl
none_past (d ∷ ds) = none_past ds

pub some_within : (os : List OwnerOffer) (n : ℕ) → n < length os → (o : OwnerOffer) × (slice_get os n ≡ Some o)
some_within [] n h = absurd (omega arith)
some_within (o ∷ os) zero h = (o, refl)
some_within (o ∷ os) (suc n) h = some_within os n (omega arith)

-- the two views at the end

pub agree_at : (fs : List OwnerOffer) (gs : List PeerDecision) (n : ℕ) (f : OwnerOffer) (g : PeerDecision) → ViewsAgree fs gs → slice_get fs n ≡ Some f → slice_get gs n ≡ Some g → OfferAgrees f g
agree_at [] gs n f g a h k = cc
agree_at (x ∷ fs) [] n f g a h k = cc
agree_at (x ∷ fs) (y ∷ gs) zero f g a h k = let e : x ≡ f = cc in let e' : y ≡ g = cc in subst (λ z. OfferAgrees z g) e (subst (OfferAgrees x) e' a.0)
agree_at (x ∷ fs) (y ∷ gs) (suc n) f g a h k = agree_at fs gs n f g a.1 h k

pub agree_owner : (fs : List OwnerOffer) (gs : List PeerDecision) (n : ℕ) (g : PeerDecision) → ViewsAgree fs gs → slice_get gs n ≡ Some g → (f : OwnerOffer) × (slice_get fs n ≡ Some f)
agree_owner [] [] n g a k = cc
agree_owner [] (y ∷ gs) n g a k = absurd a
agree_owner (x ∷ fs) [] n g a k = cc
agree_owner (x ∷ fs) (y ∷ gs) zero g a k = (x, refl)
agree_owner (x ∷ fs) (y ∷ gs) (suc n) g a k = agree_owner fs gs n g a.1 k

pub agree_known : (fs : List OwnerOffer) (gs : List PeerDecision) (n : ℕ) (f : OwnerOffer) (k : ℕ) → ViewsAgree fs gs → slice_get fs n ≡ Some f → f.known ≡ Some k → (g : PeerDecision)
    × (slice_get gs n ≡ Some g)
agree_known [] gs n f k a h e = cc
agree_known (x ∷ fs) [] zero f k a h e = let q : x ≡ f = cc in let r = a.0 in let s : x.known ≡ Some k = ap (λ y. y.known) q ∙ e in cc
agree_known (x ∷ fs) [] (suc n) f k a h e = agree_known fs [] n f k a.2 h e
agree_known (x ∷ fs) (y ∷ gs) zero f k a h e = (y, refl)
agree_known (x ∷ fs) (y ∷ gs) (suc n) f k a h e = agree_known fs gs n f k a.1 h e

pub agree_replied : (fs : List OwnerOffer) (gs : List PeerDecision) (n : ℕ) (f : OwnerOffer) (r : Response) → ViewsAgree fs gs → slice_get fs n ≡ Some f → f.reply ≡ Some r → (g : PeerDecision)
    × (slice_get gs n ≡ Some g)
agree_replied [] gs n f r a h e = cc
agree_replied (x ∷ fs) [] zero f r a h e = let q : x ≡ f = cc in let t = a.1 in let s : x.reply ≡ Some r = ap (λ y. y.reply) q ∙ e in cc
agree_replied (x ∷ fs) [] (suc n) f r a h e = agree_replied fs [] n f r a.2 h e
agree_replied (x ∷ fs) (y ∷ gs) zero f r a h e = (y, refl)
agree_replied (x ∷ fs) (y ∷ gs) (suc n) f r a h e = agree_replied fs gs n f r a.1 h e
