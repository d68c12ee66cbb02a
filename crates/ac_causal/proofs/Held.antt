-- Where the marks point: for each offer to the entry by which it stands, for each party to its last entry.
-- By induction on a legal history: an entry that gives an offer its standing is from then on the one of its mark, and no earlier one gave that
-- standing; so what an entry answers is the one entry of the mark, and its stamp is less.
use Rattle.std.proofs.Common.{◌≡◌, ℕ, zero, suc, ◌<◌, ◌≤◌, List, [], ◌∷◌, length, Option, Some, None, Bool, true, false, refl, sym, ap, ◌∙◌, subst, arith, get_or, ◌⊎◌, inl, inr}
use Rattle.std.specs.Prelude.{◌==◌, ◌&&◌, ◌||◌, slice_get, slice_index, is_some, replicate, nat_lt}
use Rattle.std.proofs.lemmas.Bool.{and_parts, eqb-true, ltb-true, cases_eq, cases_lt}
use Rattle.std.proofs.lemmas.Option.{same_Some}
use Rattle.std.proofs.lemmas.List.{get_or-set_same, get_or-set_other, length-set, length-replicate}
use Rattle.ac_base.specs.declared.entry.Event.{Event}
use Rattle.ac_base.specs.declared.entry.Stamped.{Stamped}
use Rattle.ac_base.specs.Stamps.{next_stamp}
use Rattle.ac_links.specs.declared.offer.LinkOffer.{LinkOffer}
use Rattle.ac_links.specs.declared.payloads.Terms.{Terms}
use Rattle.ac_links.specs.Link.{link_fits, link_after, link_of, number_of, answered}
use Rattle.ac_history.specs.History.{Past, link_at, is_later, has_stamp, in_range, may_make, has_its_width, terms_of, fits, after, IsLegal, start}
use Rattle.ac_causal.specs.inner.Marks.{Marked, no_marks, marks_of, link_marks_after, marked_after, marked_by, marked_at}
use Rattle.ac_causal.proofs.Steps.{level, level_at, gives, is_did, did_gives, IsSound}
use Rattle.ac_causal.proofs.Steps.{Step, own_step, other_step, marks_length, other_mark, own_mark, same_marks}

-- ---- one entry that fits

six_parts : (a b c d w f : Bool) → a && b && c && d && w && f ≡ true → (a ≡ true) × (b ≡ true) × (c ≡ true) × (f ≡ true)
six_parts a b c d w f h =
    let p = and_parts (a && b && c && d && w) f h in
    let o = and_parts (a && b && c && d) w p.0 in
    let q = and_parts (a && b && c) d o.0 in
    let r = and_parts (a && b) c q.0 in
    let s = and_parts a b r.0 in
    (s.0, s.1, r.1, p.1)

or_cases : (x y : Bool) → (x || y) ≡ true → (x ≡ true) ⊎ (y ≡ true)
or_cases true y h = inl refl
or_cases false y h = inr h

pub zero_or : (n : ℕ) → (n ≡ 0) ⊎ (0 < n)
zero_or zero = inl refl
zero_or (suc n) = inr (omega arith)

pub same_entry : (es : List Stamped) (i k : ℕ) (e x : Stamped) → i ≡ k → slice_get es k ≡ Some e → slice_get es i ≡ Some x → e ≡ x
same_entry es i k e x p is g = same_Some e x (sym is ∙ ap (λ j. slice_get es j) (sym p) ∙ g)

-- ---- what is kept

-- an offer stands by the entry of its mark
pub record Held (es : List Stamped) (k l n : ℕ) (o : LinkOffer) (mark : ℕ) : Type 0 where
  pub place : ℕ
  pub entry : Stamped
  pub mark_is : mark ≡ suc place
  pub below : place < k
  pub stands : slice_get es place ≡ Some entry
  pub link : link_of entry.entry.event ≡ l
  pub number : number_of entry.entry.event ≡ n
  pub gave : gives entry.entry.event ≡ level o.standing
  pub stamp : entry.entry.stamp ≡ o.stamp
  pub did : is_some o.answer ≡ true → is_did entry.entry.event ≡ true

-- an entry of the party stands there
pub record MadeBy (es : List Stamped) (k p place : ℕ) : Type 0 where
  pub below : place < k
  pub entry : Stamped
  pub stands : slice_get es place ≡ Some entry
  pub party : entry.party ≡ p

-- the entry comes no later than the last one
abbrev pub NotAfter : Stamped → Past → Type 0
NotAfter x P = (x.entry.stamp < P.stamp) ⊎ ((x.entry.stamp ≡ P.stamp) × (x.party ≤ P.party))

-- after the first k entries
pub record Kept (es : List Stamped) (k : ℕ) (P : Past) (M : Marked) : Type 0 where
  pub wide : length M.links ≡ length P.links
  pub many : length M.lasts ≡ length P.lasts
  pub lengths : (l : ℕ) → length (marks_of M l) ≡ length (link_at P l)
  pub held : (l n : ℕ) (o : LinkOffer) → slice_get (link_at P l) n ≡ Some o → Held es k l n o (slice_index (marks_of M l) n)
  pub highest : (i : ℕ) (x : Stamped) → i < k → slice_get es i ≡ Some x
      → gives x.entry.event ≤ level_at (slice_get (link_at P (link_of x.entry.event)) (number_of x.entry.event))
  pub reach : (i : ℕ) (x : Stamped) → i < k → slice_get es i ≡ Some x → i < slice_index M.lasts x.party
  pub made : (p w : ℕ) → slice_index M.lasts p ≡ suc w → MadeBy es k p w
  pub later : (i : ℕ) (x : Stamped) → i < k → slice_get es i ≡ Some x → NotAfter x P

held_more : (es : List Stamped) (k l n : ℕ) (o : LinkOffer) (mark now : ℕ) → now ≡ mark → Held es k l n o mark → Held es (suc k) l n o now
held_more es k l n o mark now same h = record {
  place = h.place;
  entry = h.entry;
  mark_is = same ∙ h.mark_is;
  below = (let b = h.below in omega (arith, b));
  stands = h.stands;
  link = h.link;
  number = h.number;
  gave = h.gave;
  stamp = h.stamp;
  did = h.did;
}

made_more : (es : List Stamped) (k p w : ℕ) → MadeBy es k p w → MadeBy es (suc k) p w
made_more es k p w h = record { below = (let b = h.below in omega (arith, b)); entry = h.entry; stands = h.stands; party = h.party }

-- ---- one entry more

module _ (es : List Stamped) (k : ℕ) (P : Past) (M : Marked) (e : Stamped) (was : Kept es k P M) (is : slice_get es k ≡ Some e) (fit : fits P e ≡ true) where
  abbrev ev : Event
  ev = e.entry.event

  abbrev l0 : ℕ
  l0 = link_of ev

  abbrev n0 : ℕ
  n0 = number_of ev

  abbrev terms : Terms
  terms = terms_of P.capacities P.channels l0

  abbrev os : List LinkOffer
  os = link_at P l0

  abbrev ps : List ℕ
  ps = marks_of M l0

  abbrev os' : List LinkOffer
  os' = link_after os e.entry.stamp ev

  abbrev ps' : List ℕ
  ps' = link_marks_after ps (suc k) ev

  abbrev P' : Past
  P' = after P e

  abbrev M' : Marked
  M' = marked_after M (suc k) e

  parts : (in_range P e ≡ true) × (is_later P.stamp P.party e ≡ true) × (has_stamp P e ≡ true) × (link_fits terms os ev ≡ true)
  parts = six_parts (in_range P e) (is_later P.stamp P.party e) (has_stamp P e) (may_make P.channels P.cores e) (has_its_width P.widths ev) (link_fits terms os ev) fit

  in_links : l0 < length P.links
  in_links = ltb-true l0 (length P.links) (and_parts (nat_lt l0 (length P.links)) (nat_lt e.party (length P.lasts)) parts.0).0

  pub in_parties : e.party < length P.lasts
  in_parties = ltb-true e.party (length P.lasts) (and_parts (nat_lt l0 (length P.links)) (nat_lt e.party (length P.lasts)) parts.0).1

  pub comes_later : (P.stamp < e.entry.stamp) ⊎ ((P.stamp ≡ e.entry.stamp) × (P.party < e.party))
  comes_later = by (or_cases (nat_lt P.stamp e.entry.stamp) ((P.stamp == e.entry.stamp) && nat_lt P.party e.party) parts.1)
    where
      by : (nat_lt P.stamp e.entry.stamp ≡ true) ⊎ ((P.stamp == e.entry.stamp) && nat_lt P.party e.party ≡ true)
          → (P.stamp < e.entry.stamp) ⊎ ((P.stamp ≡ e.entry.stamp) × (P.party < e.party))
      by (inl h) = inl (ltb-true P.stamp e.entry.stamp h)
      by (inr h) = let p = and_parts (P.stamp == e.entry.stamp) (nat_lt P.party e.party) h in inr (eqb-true P.stamp e.entry.stamp p.0, ltb-true P.party e.party p.1)

  pub its_stamp : e.entry.stamp ≡ next_stamp (slice_index P.lasts e.party) (answered os ev)
  its_stamp = eqb-true e.entry.stamp (next_stamp (slice_index P.lasts e.party) (answered os ev)) parts.2

  pub link_same : link_at P' l0 ≡ os'
  link_same = get_or-set_same P.links l0 os' [] in_links

  pub link_other : (l : ℕ) → (l ≡ l0 → ⊥) → link_at P' l ≡ link_at P l
  link_other l h = get_or-set_other P.links l0 l os' [] h

  pub mark_same : marks_of M' l0 ≡ ps'
  mark_same = let wide = was.wide in let lt : l0 < length M.links = omega (arith, in_links, wide) in get_or-set_same M.links l0 ps' [] lt

  pub mark_other : (l : ℕ) → (l ≡ l0 → ⊥) → marks_of M' l ≡ marks_of M l
  mark_other l h = get_or-set_other M.links l0 l ps' [] h

  sound : (q : Option LinkOffer) → slice_get os n0 ≡ q → IsSound q
  sound None g a = let bad : false ≡ true = a in absurd (cc)
  sound (Some o) g a = let h = was.held l0 n0 o g in sym h.gave ∙ did_gives h.entry.entry.event (h.did a)

  pub own : Step ev e.entry.stamp (slice_get os n0) (slice_get os' n0)
  own = own_step terms os e.entry.stamp ev parts.3 (sound (slice_get os n0) refl)

  -- an offer and its mark stay, or it is the one that the entry is about
  abbrev Went : ℕ → ℕ → Type 0
  Went l n = ((slice_get (link_at P' l) n ≡ slice_get (link_at P l) n) × (slice_index (marks_of M' l) n ≡ slice_index (marks_of M l) n)) ⊎ ((l ≡ l0) × (n ≡ n0))

  went_near : (l n : ℕ) → l ≡ l0 → (n ≡ n0) ⊎ (n ≡ n0 → ⊥) → Went l n
  went_near l n p (inl q) = inr (p, q)
  went_near l n p (inr other) = inl (
    subst (λ x. slice_get (link_at P' x) n ≡ slice_get (link_at P x) n) (sym p)
        (ap (λ x. slice_get x n) link_same ∙ other_step terms os e.entry.stamp ev n parts.3 (λ q. other (sym q))),
    subst (λ x. slice_index (marks_of M' x) n ≡ slice_index (marks_of M x) n) (sym p)
        (ap (λ x. slice_index x n) mark_same ∙ other_mark terms os e.entry.stamp ps (suc k) (was.lengths l0) ev n parts.3 (λ q. other (sym q))),
  )

  went_by : (l n : ℕ) → (l ≡ l0) ⊎ (l ≡ l0 → ⊥) → Went l n
  went_by l n (inl p) = went_near l n p (cases_eq n n0)
  went_by l n (inr apart) = inl (ap (λ x. slice_get x n) (link_other l apart), ap (λ x. slice_index x n) (mark_other l apart))

  pub went : (l n : ℕ) → Went l n
  went l n = went_by l n (cases_eq l l0)

  -- no offer goes down the ladder, and this one stands at least where the entry brought it
  own_grown_by : (gives ev ≡ 0) ⊎ (0 < gives ev) → level_at (slice_get os n0) ≤ level own.new.standing
  own_grown_by (inl z) = let s = own.stays z in let a = ap level_at s.is_old in let b = ap level s.standing in omega (arith, a, b)
  own_grown_by (inr g) = let r = own.rises g in let a = r.below in let b = r.up in omega (arith, a, b)

  own_high_by : (gives ev ≡ 0) ⊎ (0 < gives ev) → gives ev ≤ level own.new.standing
  own_high_by (inl z) = omega (arith, z)
  own_high_by (inr g) = let r = own.rises g in let b = r.up in omega (arith, b)

  own_grown : level_at (slice_get os n0) ≤ level_at (slice_get (link_at P' l0) n0)
  own_grown =
      let a = own_grown_by (zero_or (gives ev)) in
      let b : level_at (slice_get (link_at P' l0) n0) ≡ level own.new.standing = ap (λ x. level_at (slice_get x n0)) link_same ∙ ap level_at own.is_new in
      omega (arith, a, b)

  own_high : gives ev ≤ level_at (slice_get (link_at P' l0) n0)
  own_high =
      let a = own_high_by (zero_or (gives ev)) in
      let b : level_at (slice_get (link_at P' l0) n0) ≡ level own.new.standing = ap (λ x. level_at (slice_get x n0)) link_same ∙ ap level_at own.is_new in
      omega (arith, a, b)

  grown_by : (l n : ℕ) → Went l n → level_at (slice_get (link_at P l) n) ≤ level_at (slice_get (link_at P' l) n)
  grown_by l n (inl stay) = let a = ap level_at stay.0 in omega (arith, a)
  grown_by l n (inr at) =
      subst (λ x. level_at (slice_get (link_at P x) n) ≤ level_at (slice_get (link_at P' x) n)) (sym at.0)
      (subst (λ y. level_at (slice_get (link_at P l0) y) ≤ level_at (slice_get (link_at P' l0) y)) (sym at.1) own_grown)

  -- its mark is this entry's, or the one that it had
  own_held_by : (gives ev ≡ 0) ⊎ (0 < gives ev) → Held es (suc k) l0 n0 own.new (slice_index ps' n0)
  own_held_by (inl z) =
      let s = own.stays z in
      let h = was.held l0 n0 s.old s.is_old in
      record {
        place = h.place;
        entry = h.entry;
        mark_is = ap (λ x. slice_index x n0) (same_marks terms os e.entry.stamp ps (suc k) (was.lengths l0) ev z) ∙ h.mark_is;
        below = (let b = h.below in omega (arith, b));
        stands = h.stands;
        link = h.link;
        number = h.number;
        gave = h.gave ∙ ap level (sym s.standing);
        stamp = h.stamp ∙ sym s.stamp;
        did = λ a. h.did (ap is_some (sym s.answer) ∙ a);
      }
  own_held_by (inr g) =
      let r = own.rises g in
      record {
        place = k;
        entry = e;
        mark_is = own_mark terms os e.entry.stamp ps (suc k) (was.lengths l0) ev parts.3 g;
        below = omega arith;
        stands = is;
        link = refl;
        number = refl;
        gave = sym r.up;
        stamp = sym r.stamp;
        did = r.answer;
      }

  own_held : (o : LinkOffer) → slice_get (link_at P' l0) n0 ≡ Some o → Held es (suc k) l0 n0 o (slice_index (marks_of M' l0) n0)
  own_held o g =
      let same : own.new ≡ o = same_Some own.new o (sym own.is_new ∙ ap (λ x. slice_get x n0) (sym link_same) ∙ g) in
      subst (λ x. Held es (suc k) l0 n0 o (slice_index x n0)) (sym mark_same)
      (subst (λ x. Held es (suc k) l0 n0 x (slice_index ps' n0)) same (own_held_by (zero_or (gives ev))))

  held_by : (l n : ℕ) → Went l n → (o : LinkOffer) → slice_get (link_at P' l) n ≡ Some o → Held es (suc k) l n o (slice_index (marks_of M' l) n)
  held_by l n (inl stay) o g = held_more es k l n o _ _ stay.1 (was.held l n o (sym stay.0 ∙ g))
  held_by l n (inr at) o g =
      let all : (o : LinkOffer) → slice_get (link_at P' l) n ≡ Some o → Held es (suc k) l n o (slice_index (marks_of M' l) n) =
      subst (λ x. (o : LinkOffer) → slice_get (link_at P' x) n ≡ Some o → Held es (suc k) x n o (slice_index (marks_of M' x) n)) (sym at.0)
      (subst (λ y. (o : LinkOffer) → slice_get (link_at P' l0) y ≡ Some o → Held es (suc k) l0 y o (slice_index (marks_of M' l0) y)) (sym at.1) own_held) in
      all o g

  highest_by : (i : ℕ) (x : Stamped) → i < suc k → slice_get es i ≡ Some x → (i < k) ⊎ (k ≤ i)
      → gives x.entry.event ≤ level_at (slice_get (link_at P' (link_of x.entry.event)) (number_of x.entry.event))
  highest_by i x lt g (inl before) =
      let a = was.highest i x before g in
      let b = grown_by (link_of x.entry.event) (number_of x.entry.event) (went (link_of x.entry.event) (number_of x.entry.event)) in
      omega (arith, a, b)
  highest_by i x lt g (inr not_before) =
      let same : i ≡ k = omega arith in
      subst (λ y. gives y.entry.event ≤ level_at (slice_get (link_at P' (link_of y.entry.event)) (number_of y.entry.event))) (same_entry es i k e x same is g) own_high

  -- ---- the last entry of each party

  last_same : slice_index M'.lasts e.party ≡ suc k
  last_same = let many = was.many in let lt : e.party < length M.lasts = omega (arith, in_parties, many) in get_or-set_same M.lasts e.party (suc k) 0 lt

  last_other : (p : ℕ) → (p ≡ e.party → ⊥) → slice_index M'.lasts p ≡ slice_index M.lasts p
  last_other p h = get_or-set_other M.lasts e.party p (suc k) 0 h

  reach_by : (i : ℕ) (x : Stamped) → i < suc k → slice_get es i ≡ Some x → (x.party ≡ e.party) ⊎ (x.party ≡ e.party → ⊥) → i < slice_index M'.lasts x.party
  reach_by i x lt g (inl p) = subst (λ q. i < slice_index M'.lasts q) (sym p) (let a = last_same in omega (arith, a, lt))
  reach_by i x lt g (inr other) =
      let before : i < k = reach_before (cases_lt i k) in
      let a = was.reach i x before g in
      let b = last_other x.party other in
      omega (arith, a, b)
    where
      reach_before : (i < k) ⊎ (k ≤ i) → i < k
      reach_before (inl before) = before
      reach_before (inr not_before) = let same : i ≡ k = omega arith in absurd (other (ap (λ (y : Stamped). y.party) (sym (same_entry es i k e x same is g))))

  made_by : (p w : ℕ) → slice_index M'.lasts p ≡ suc w → (p ≡ e.party) ⊎ (p ≡ e.party → ⊥) → MadeBy es (suc k) p w
  made_by p w h (inl q) =
      let a : slice_index M'.lasts p ≡ suc k = ap (λ x. slice_index M'.lasts x) q ∙ last_same in
      let same : w ≡ k = omega (arith, a, h) in
      record { below = omega (arith, same); entry = e; stands = ap (λ x. slice_get es x) same ∙ is; party = sym q }
  made_by p w h (inr other) = made_more es k p w (was.made p w (sym (last_other p other) ∙ h))

  -- ---- stamps and parties

  later_by : (i : ℕ) (x : Stamped) → i < suc k → slice_get es i ≡ Some x → (i < k) ⊎ (k ≤ i) → NotAfter x P'
  later_by i x lt g (inr not_before) =
      let same : i ≡ k = omega arith in
      let a : e ≡ x = same_entry es i k e x same is g in
      inr (ap (λ (y : Stamped). y.entry.stamp) (sym a), (let b = ap (λ (y : Stamped). y.party) a in omega (arith, b)))
  later_by i x lt g (inl before) = both (was.later i x before g) comes_later
    where
      both : NotAfter x P → (P.stamp < e.entry.stamp) ⊎ ((P.stamp ≡ e.entry.stamp) × (P.party < e.party)) → NotAfter x P'
      both (inl a) (inl b) = inl (omega (arith, a, b))
      both (inl a) (inr b) = let c = b.0 in inl (omega (arith, a, c))
      both (inr a) (inl b) = let c = a.0 in inl (omega (arith, b, c))
      both (inr a) (inr b) = let c = a.1 in let d = b.1 in inr (a.0 ∙ b.0, omega (arith, c, d))

  pub goes_on : Kept es (suc k) P' M'
  goes_on = record {
    wide = length-set M.links l0 ps' ∙ was.wide ∙ sym (length-set P.links l0 os');
    many = length-set M.lasts e.party (suc k) ∙ was.many ∙ sym (length-set P.lasts e.party e.entry.stamp);
    lengths = λ l. lengths_by l (cases_eq l l0);
    held = λ l n. held_by l n (went l n);
    highest = λ i x lt g. highest_by i x lt g (cases_lt i k);
    reach = λ i x lt g. reach_by i x lt g (cases_eq x.party e.party);
    made = λ p w h. made_by p w h (cases_eq p e.party);
    later = λ i x lt g. later_by i x lt g (cases_lt i k);
  }
    where
      lengths_by : (l : ℕ) → (l ≡ l0) ⊎ (l ≡ l0 → ⊥) → length (marks_of M' l) ≡ length (link_at P' l)
      lengths_by l (inl p) =
          subst (λ x. length (marks_of M' x) ≡ length (link_at P' x)) (sym p)
          (ap length mark_same ∙ marks_length terms os e.entry.stamp ps (suc k) (was.lengths l0) ev ∙ sym (ap length link_same))
      lengths_by l (inr apart) = ap length (mark_other l apart) ∙ was.lengths l ∙ sym (ap length (link_other l apart))

-- ---- all of a history

abbrev pub after_one : Past → Option Stamped → Past
after_one P None = P
after_one P (Some e) = after P e

-- the links and the stamps after the first so many entries
abbrev pub past_at : Past → List Stamped → ℕ → Past
past_at P es zero = P
past_at P es (suc k) = after_one (past_at P es k) (slice_get es k)

past_cons : (P : Past) (x : Stamped) (es : List Stamped) (k : ℕ) → past_at P (x ∷ es) (suc k) ≡ past_at (after P x) es k
past_cons P x es zero = refl
past_cons P x es (suc k) = ap (λ q. after_one q (slice_get es k)) (past_cons P x es k)

pub fits_at : (P : Past) (es : List Stamped) → IsLegal P es → (k : ℕ) (e : Stamped) → slice_get es k ≡ Some e → fits (past_at P es k) e ≡ true
fits_at P [] h k e is = let bad : ◌≡◌ {A = Option Stamped} None (Some e) = is in absurd (cc)
fits_at P (x ∷ es) h zero e is = subst (λ y. fits P y ≡ true) (same_Some x e is) h.0
fits_at P (x ∷ es) h (suc k) e is = subst (λ q. fits q e ≡ true) (sym (past_cons P x es k)) (fits_at (after P x) es h.1 k e is)

pub empty_at : {X : Type 0} (k l : ℕ) → get_or {A = List X} (replicate k []) l [] ≡ []
empty_at zero l = refl
empty_at (suc k) zero = refl
empty_at (suc k) (suc l) = empty_at k l

pub zero_at : (k p : ℕ) → get_or {A = ℕ} (replicate k 0) p 0 ≡ 0
zero_at zero p = refl
zero_at (suc k) zero = refl
zero_at (suc k) (suc p) = zero_at k p

begins : (capacities widths : List ℕ) (cores : ℕ) (es : List Stamped) → Kept es 0 (start capacities widths cores) (no_marks (length capacities) (suc cores))
begins capacities widths cores es = record {
  wide = length-replicate {A = List ℕ} (length capacities) [] ∙ sym (length-replicate {A = List LinkOffer} (length capacities) []);
  many = refl;
  lengths = λ l. ap length (empty_at {X = ℕ} (length capacities) l) ∙ sym (ap length (empty_at {X = LinkOffer} (length capacities) l));
  held = λ l n o g. absurd (none l n o g);
  highest = λ i x lt g. absurd (omega (arith, lt));
  reach = λ i x lt g. absurd (omega (arith, lt));
  made = λ p w h. absurd (let z = zero_at (suc cores) p in omega (arith, z, h));
  later = λ i x lt g. absurd (omega (arith, lt));
}
  where
    none : (l n : ℕ) (o : LinkOffer) → slice_get (link_at (start capacities widths cores) l) n ≡ Some o → ⊥
    none l n o g =
        let bad : ◌≡◌ {A = Option LinkOffer} None (Some o) = sym (ap (λ x. slice_get x n) (empty_at {X = LinkOffer} (length capacities) l)) ∙ g in cc

goes_by : (es : List Stamped) (k : ℕ) (P : Past) (M : Marked) → Kept es k P M → ((e : Stamped) → slice_get es k ≡ Some e → fits P e ≡ true)
    → (q : Option Stamped) → slice_get es k ≡ q → Kept es (suc k) (after_one P q) (marked_by M (suc k) q)
goes_by es k P M was fit (Some e) is = goes_on es k P M e was is (fit e is)
goes_by es k P M was fit None is = record {
  wide = was.wide;
  many = was.many;
  lengths = was.lengths;
  held = λ l n o g. held_more es k l n o _ _ refl (was.held l n o g);
  highest = λ i x lt g. was.highest i x (before i x lt g (cases_lt i k)) g;
  reach = λ i x lt g. was.reach i x (before i x lt g (cases_lt i k)) g;
  made = λ p w h. made_more es k p w (was.made p w h);
  later = λ i x lt g. was.later i x (before i x lt g (cases_lt i k)) g;
}
  where
    before : (i : ℕ) (x : Stamped) → i < suc k → slice_get es i ≡ Some x → (i < k) ⊎ (k ≤ i) → i < k
    before i x lt g (inl b) = b
    before i x lt g (inr b) =
        let same : k ≡ i = omega arith in
        let bad : ◌≡◌ {A = Option Stamped} None (Some x) = sym is ∙ ap (λ j. slice_get es j) same ∙ g in
        absurd (cc)

pub kept_at : (capacities widths : List ℕ) (cores : ℕ) (es : List Stamped) → IsLegal (start capacities widths cores) es
    → (k : ℕ) → Kept es k (past_at (start capacities widths cores) es k) (marked_at es (no_marks (length capacities) (suc cores)) k)
kept_at capacities widths cores es legal zero = begins capacities widths cores es
kept_at capacities widths cores es legal (suc k) =
    goes_by es k _ _ (kept_at capacities widths cores es legal k) (λ e is. fits_at (start capacities widths cores) es legal k e is) (slice_get es k) refl
