-- The entries of a closed cut are legal, where each link is used by its two parties alone. By induction on the whole history: the links after those
-- of its entries that are inside stand beside the links after all of them. An offer stands alike in both where the entry that gave it its standing
-- is inside; and where a party has no entry outside so far, what it alone makes of a link is the same in both.
use Rattle.std.proofs.Common.{◌≡◌, ℕ, zero, suc, ◌+◌, ◌<◌, ◌≤◌, List, [], ◌∷◌, ◌++◌, length, Option, Some, None}
use Rattle.std.proofs.Common.{Bool, true, false, refl, sym, ap, ◌∙◌, subst, arith, get_or, cond, eq-eqb, ◌⊎◌, inl, inr}
use Rattle.std.specs.Prelude.{◌==◌, ◌&&◌, ◌||◌, slice_get, slice_index, nat_lt}
use Rattle.std.proofs.lemmas.Bool.{and_parts, cases_eq, cases_lt, cases_Bool, lt-ltb, le-ltb, ltb-true}
use Rattle.std.proofs.lemmas.Option.{same_Some, slice_get_within}
use Rattle.std.proofs.lemmas.List.{get_or-set_same, get_or-set_other, length-set, append-nil}
use Rattle.ac_base.specs.declared.entry.Event.{Event}
use Rattle.ac_base.specs.declared.entry.Stamped.{Stamped}
use Rattle.ac_base.specs.Stamps.{next_stamp}
use Rattle.ac_links.specs.declared.offer.LinkOffer.{LinkOffer}
use Rattle.ac_links.specs.declared.payloads.Terms.{Terms}
use Rattle.ac_links.specs.Link.{link_fits, link_after, link_of, number_of, answered, standing_stamp, is_decided}
use Rattle.ac_history.specs.History.{Past, link_at, is_later, has_stamp, in_range, may_make, has_its_width, terms_of, fits, after, IsLegal, start}
use Rattle.ac_history.specs.Quiet.{after_all_of}
use Rattle.ac_causal.specs.Before.{is_of}
use Rattle.ac_causal.specs.Cuts.{made_by, IsInside, IsClosed}
use Rattle.ac_causal.specs.inner.Marks.{Marked, marks_of, link_marks_after, marked_after, marked_by, seen_mark}
use Rattle.ac_causal.proofs.Steps.{gives, wants, Step, other_step, other_mark, own_mark, same_marks, sees_mark, sees_stamp}
use Rattle.ac_causal.proofs.Held.{zero_or, Held, Kept, link_same, link_other, mark_same, mark_other, own, comes_later, after_one, past_at, fits_at, kept_at}
use Rattle.ac_causal.proofs.Answered.{marks, seen_made}
use Rattle.ac_causal.proofs.Counting.{count_le, get_some}
use Rattle.ac_causal.proofs.Alike.{is_owners, is_peers, is_new, gives_owners, gives_peers, wants_old, decided_level}
use Rattle.ac_causal.proofs.Alike.{answers_no_stamp, both_true, knowns, replieds, knowns_after, knowns_go_on, knowns_stay}
use Rattle.ac_causal.proofs.Alike.{RepliedToo, replieds_go_on, replied_more, replied_both, many_replieds, StandsAlike, old_offer, withdraws_offered, fits_too, alike_after, new_alike, alike_stays}

-- each entry is made by that party of its link which makes such entries; a reply may be any party's
pub record AreAtEnds (owner peer : ℕ → ℕ) (es : List Stamped) : Type 0 where
  pub owners : (i : ℕ) (e : Stamped) → slice_get es i ≡ Some e → is_owners e.entry.event ≡ true → e.party ≡ owner (link_of e.entry.event)
  pub peers : (i : ℕ) (e : Stamped) → slice_get es i ≡ Some e → is_peers e.entry.event ≡ true → e.party ≡ peer (link_of e.entry.event)

-- ---- small facts

pub all_parts : (a b c d w f : Bool) → a && b && c && d && w && f ≡ true → (a ≡ true) × (b ≡ true) × (c ≡ true) × (d ≡ true) × (w ≡ true) × (f ≡ true)
all_parts a b c d w f h =
    let p = and_parts (a && b && c && d && w) f h in
    let o = and_parts (a && b && c && d) w p.0 in
    let q = and_parts (a && b && c) d o.0 in
    let r = and_parts (a && b) c q.0 in
    let s = and_parts a b r.0 in
    (s.0, s.1, r.1, q.1, o.1, p.1)

all_six : (a b c d w f : Bool) → a ≡ true → b ≡ true → c ≡ true → d ≡ true → w ≡ true → f ≡ true → a && b && c && d && w && f ≡ true
all_six a b c d w f p q r s t u = rw (p, q, r, s, t, u)

or_right : (a b : Bool) → b ≡ true → (a || b) ≡ true
or_right true b h = refl
or_right false b h = h

or_left : (a b : Bool) → a ≡ true → (a || b) ≡ true
or_left a b h = rw h

later_of : (stamp party : ℕ) (e : Stamped) → (stamp < e.entry.stamp) ⊎ ((stamp ≡ e.entry.stamp) × (party < e.party)) → is_later stamp party e ≡ true
later_of stamp party e (inl lt) = or_left (nat_lt stamp e.entry.stamp) ((stamp == e.entry.stamp) && nat_lt party e.party) (lt-ltb stamp e.entry.stamp lt)
later_of stamp party e (inr h) =
    or_right (nat_lt stamp e.entry.stamp) ((stamp == e.entry.stamp) && nat_lt party e.party)
    (both_true (stamp == e.entry.stamp) (nat_lt party e.party) (eq-eqb stamp e.entry.stamp h.0) (lt-ltb party e.party h.1))

pub no_true : {A : Type 0} → false ≡ true → A
no_true h = absurd (cc)

-- a history goes on by one entry
pub after_more : (P : Past) (xs : List Stamped) (e : Stamped) → after_all_of P (xs ++ e ∷ []) ≡ after (after_all_of P xs) e
after_more P [] e = refl
after_more P (x ∷ xs) e = after_more (after P x) xs e

pub legal_more : (P : Past) (xs : List Stamped) (e : Stamped) → IsLegal P xs → fits (after_all_of P xs) e ≡ true → IsLegal P (xs ++ e ∷ [])
legal_more P [] e h f = (f, tt)
legal_more P (x ∷ xs) e h f = (h.0, legal_more (after P x) xs e h.1 f)

-- the entry, if it is in
abbrev pub added_if : Bool → Stamped → List Stamped
added_if true e = e ∷ []
added_if false e = []

-- ---- how many entries a party has made

module _ (es : List Stamped) where
  pub mine : (p j : ℕ) (e : Stamped) → slice_get es j ≡ Some e → e.party ≡ p → made_by es p (suc j) ≡ suc (made_by es p j)
  mine p j e is same =
      let a : made_by es p (suc j) ≡ made_by es p j + 1 = ap (λ b. made_by es p j + cond b 1 0) (ap (λ o. is_of p o) is ∙ eq-eqb e.party p same) in
      omega (arith, a)

  pub grows : (p j : ℕ) → made_by es p j ≤ made_by es p (suc j)
  grows p j = count_le (λ i. is_of p (slice_get es i)) j (suc j) (omega arith)

module _ (owner peer : ℕ → ℕ) (capacities widths : List ℕ) (cores : ℕ) (es : List Stamped) (counts : List ℕ) (legal : IsLegal (start capacities widths cores) es)
    (ends : AreAtEnds owner peer es) (closed : IsClosed es counts) where
  abbrev first : Past
  first = start capacities widths cores

  abbrev past : ℕ → Past
  past k = past_at first es k

  abbrev marked : ℕ → Marked
  marked k = marks capacities widths cores es legal k

  kept : (k : ℕ) → Kept es k (past k) (marked k)
  kept k = kept_at capacities widths cores es legal k

  -- none of the party's first entries is outside
  abbrev Full : ℕ → ℕ → Type 0
  Full p k = made_by es p k ≤ slice_index counts p

  abbrev AlikeAt : Past → Marked → Past → ℕ → ℕ → Type 0
  AlikeAt P M Q l n = (place : ℕ) (o : LinkOffer) → slice_get (link_at P l) n ≡ Some o → slice_index (marks_of M l) n ≡ suc place → IsInside es counts place
      → StandsAlike (slice_get (link_at Q l) n) o

  abbrev NoLater : Past → Past → Type 0
  NoLater Q P = (Q.stamp < P.stamp) ⊎ ((Q.stamp ≡ P.stamp) × (Q.party ≤ P.party))

  -- after the first k entries, and after those of them that are inside
  record Beside (k : ℕ) (P : Past) (M : Marked) (Q : Past) : Type 0 where
    capacities_are : Q.capacities ≡ P.capacities
    widths_are : Q.widths ≡ P.widths
    channels_are : Q.channels ≡ P.channels
    cores_are : Q.cores ≡ P.cores
    wide : length Q.links ≡ length P.links
    many : length Q.lasts ≡ length P.lasts
    no_later : NoLater Q P
    last : (p : ℕ) → Full p k → slice_index Q.lasts p ≡ slice_index P.lasts p
    known : (l : ℕ) → Full (owner l) k → knowns (link_at Q l) ≡ knowns (link_at P l)
    replied : (l : ℕ) → RepliedToo (replieds (link_at Q l)) (replieds (link_at P l))
    alike : (l n : ℕ) → AlikeAt P M Q l n

  beside_first : Beside 0 first (marked 0) first
  beside_first = record {
    capacities_are = refl;
    widths_are = refl;
    channels_are = refl;
    cores_are = refl;
    wide = refl;
    many = refl;
    no_later = inr (refl, omega arith);
    last = λ p f. refl;
    known = λ l f. refl;
    replied = λ l n h. h;
    alike = λ l n place o is mark inside. record { it = o; there = is; payload = refl; standing = refl; stamp = refl; answer = refl };
  }

  module _ (k : ℕ) (e : Stamped) (is : slice_get es k ≡ Some e) (Q : Past) (was : Beside k (past k) (marked k) Q) where
    abbrev P : Past
    P = past k

    abbrev M : Marked
    M = marked k

    abbrev ev : Event
    ev = e.entry.event

    abbrev l0 : ℕ
    l0 = link_of ev

    abbrev n0 : ℕ
    n0 = number_of ev

    abbrev os : List LinkOffer
    os = link_at P l0

    abbrev qs : List LinkOffer
    qs = link_at Q l0

    abbrev s : ℕ
    s = e.entry.stamp

    abbrev terms : Terms
    terms = terms_of P.capacities P.channels l0

    abbrev P' : Past
    P' = after P e

    abbrev M' : Marked
    M' = marked_after M (suc k) e

    w : Kept es k P M
    w = kept k

    fit : fits P e ≡ true
    fit = fits_at first es legal k e is

    parts : (in_range P e ≡ true) × (is_later P.stamp P.party e ≡ true) × (has_stamp P e ≡ true) × (may_make P.channels P.cores e ≡ true) × (has_its_width P.widths ev ≡ true)
        × (link_fits terms os ev ≡ true)
    parts = all_parts (in_range P e) (is_later P.stamp P.party e) (has_stamp P e) (may_make P.channels P.cores e) (has_its_width P.widths ev) (link_fits terms os ev) fit

    in_links : l0 < length P.links
    in_links = ltb-true l0 (length P.links) (and_parts (nat_lt l0 (length P.links)) (nat_lt e.party (length P.lasts)) parts.0).0

    in_parties : e.party < length P.lasts
    in_parties = ltb-true e.party (length P.lasts) (and_parts (nat_lt l0 (length P.links)) (nat_lt e.party (length P.lasts)) parts.0).1

    -- what the entry makes of the links and marks after all entries
    p_same : link_at P' l0 ≡ link_after os s ev
    p_same = link_same es k P M e w is fit

    p_other : (l : ℕ) → (l ≡ l0 → ⊥) → link_at P' l ≡ link_at P l
    p_other l h = link_other es k P M e w is fit l h

    -- another offer, of this link or of another one
    abbrev Apart : ℕ → ℕ → Type 0
    Apart l n = (l ≡ l0 → ⊥) ⊎ ((l ≡ l0) × (n ≡ n0 → ⊥))

    p_stays : (l n : ℕ) → Apart l n → slice_get (link_at P' l) n ≡ slice_get (link_at P l) n
    p_stays l n (inl apart) = ap (λ x. slice_get x n) (p_other l apart)
    p_stays l n (inr at) =
        subst (λ x. slice_get (link_at P' x) n ≡ slice_get (link_at P x) n) (sym at.0)
        (ap (λ x. slice_get x n) p_same ∙ other_step terms os s ev n parts.5 (λ q. at.1 (sym q)))

    mark_stays : (l n : ℕ) → Apart l n → slice_index (marks_of M' l) n ≡ slice_index (marks_of M l) n
    mark_stays l n (inl apart) = ap (λ x. slice_index x n) (mark_other es k P M e w is fit l apart)
    mark_stays l n (inr at) =
        subst (λ x. slice_index (marks_of M' x) n ≡ slice_index (marks_of M x) n) (sym at.0)
        (ap (λ x. slice_index x n) (mark_same es k P M e w is fit) ∙ other_mark terms os s (marks_of M l0) (suc k) (w.lengths l0) ev n parts.5 (λ q. at.1 (sym q)))

    abbrev Where : ℕ → ℕ → Type 0
    Where l n = Apart l n ⊎ ((l ≡ l0) × (n ≡ n0))

    which : (l n : ℕ) → Where l n
    which l n = by (cases_eq l l0) (cases_eq n n0)
      where
        by : (l ≡ l0) ⊎ (l ≡ l0 → ⊥) → (n ≡ n0) ⊎ (n ≡ n0 → ⊥) → Where l n
        by (inl p) (inl q) = inr (p, q)
        by (inl p) (inr other) = inl (inr (p, other))
        by (inr apart) o = inl (inl apart)

    step : Step ev s (slice_get os n0) (slice_get (link_after os s ev) n0)
    step = own es k P M e w is fit

    -- its mark, once it has come
    mark_here : (place : ℕ) → slice_index (marks_of M' l0) n0 ≡ suc place → slice_index (link_marks_after (marks_of M l0) (suc k) ev) n0 ≡ suc place
    mark_here place mark = ap (λ x. slice_index x n0) (sym (mark_same es k P M e w is fit)) ∙ mark

    earlier_full : (p : ℕ) → Full p (suc k) → Full p k
    earlier_full p f = let g = grows es p k in omega (arith, g, f)

    p_last_other : (p : ℕ) → (p ≡ e.party → ⊥) → slice_index P'.lasts p ≡ slice_index P.lasts p
    p_last_other p h = get_or-set_other P.lasts e.party p s 0 h

    later : (P.stamp < s) ⊎ ((P.stamp ≡ s) × (P.party < e.party))
    later = comes_later es k P M e w is fit

    q_later : (Q.stamp < s) ⊎ ((Q.stamp ≡ s) × (Q.party < e.party))
    q_later = both was.no_later later
      where
        both : NoLater Q P → (P.stamp < s) ⊎ ((P.stamp ≡ s) × (P.party < e.party)) → (Q.stamp < s) ⊎ ((Q.stamp ≡ s) × (Q.party < e.party))
        both (inl a) (inl b) = inl (omega (arith, a, b))
        both (inl a) (inr b) = let c = b.0 in inl (omega (arith, a, c))
        both (inr a) (inl b) = let c = a.0 in inl (omega (arith, b, c))
        both (inr a) (inr b) = let c = a.1 in let d = b.1 in inr (a.0 ∙ b.0, omega (arith, c, d))

    -- ---- an entry outside

    module _ (outside : slice_index counts e.party ≤ made_by es e.party k) where
      not_full : {A : Type 0} → Full e.party (suc k) → A
      not_full f = absurd (let m = mine es e.party k e is refl in omega (arith, m, f, outside))

      not_inside : {A : Type 0} → (place : ℕ) → place ≡ k → IsInside es counts place → A
      not_inside place same h = absurd (
          let lt = subst (λ j. made_by es h.entry.party j < slice_index counts h.entry.party) same h.first in
          let there : slice_get es k ≡ Some h.entry = ap (λ j. slice_get es j) (sym same) ∙ h.there in
          let here = subst (λ (x : Stamped). made_by es x.party k < slice_index counts x.party) (same_Some h.entry e (sym there ∙ is)) lt in
          omega (arith, here, outside))

      own_outside : AlikeAt P' M' Q l0 n0
      own_outside place o there mark inside = by (zero_or (gives ev))
        where
          new_is : slice_get (link_after os s ev) n0 ≡ Some o
          new_is = ap (λ x. slice_get x n0) (sym p_same) ∙ there

          by : (gives ev ≡ 0) ⊎ (0 < gives ev) → StandsAlike (slice_get qs n0) o
          by (inl z) =
              let old = step.stays z in
              let marks_stay = ap (λ x. slice_index x n0) (same_marks terms os s (marks_of M l0) (suc k) (w.lengths l0) ev z) in
              alike_stays terms os qs s ev z old.old o old.is_old new_is (was.alike l0 n0 place old.old old.is_old (sym marks_stay ∙ mark_here place mark) inside)
          by (inr g) =
              let its_own = own_mark terms os s (marks_of M l0) (suc k) (w.lengths l0) ev parts.5 g in
              let mark_is = mark_here place mark in
              not_inside place (omega (arith, its_own, mark_is)) inside

      last_outside : (p : ℕ) → Full p (suc k) → (p ≡ e.party) ⊎ (p ≡ e.party → ⊥) → slice_index Q.lasts p ≡ slice_index P'.lasts p
      last_outside p f (inl same) = not_full (subst (λ x. Full x (suc k)) same f)
      last_outside p f (inr other) = was.last p (earlier_full p f) ∙ sym (p_last_other p other)

      known_outside : (l : ℕ) → Full (owner l) (suc k) → (l ≡ l0) ⊎ (l ≡ l0 → ⊥) → (is_owners ev ≡ true) ⊎ (is_owners ev ≡ false) → knowns (link_at Q l) ≡ knowns (link_at P' l)
      known_outside l f (inl here) (inl owns) = not_full (subst (λ x. Full x (suc k)) (ap owner here ∙ sym (ends.owners k e is owns)) f)
      known_outside l f (inl here) (inr not) =
          let stay : knowns (link_at P' l0) ≡ knowns (link_at P l0) = ap knowns p_same ∙ knowns_go_on os s ev ∙ knowns_stay (knowns os) ev not in
          was.known l (earlier_full (owner l) f) ∙ sym (subst (λ x. knowns (link_at P' x) ≡ knowns (link_at P x)) (sym here) stay)
      known_outside l f (inr apart) o = was.known l (earlier_full (owner l) f) ∙ sym (ap knowns (p_other l apart))

      replied_outside : (l : ℕ) → (l ≡ l0) ⊎ (l ≡ l0 → ⊥) → RepliedToo (replieds (link_at Q l)) (replieds (link_at P' l))
      replied_outside l (inl here) =
          subst (λ x. RepliedToo (replieds (link_at Q x)) (replieds (link_at P' x))) (sym here)
          (λ n h. ap (λ bs. get_or bs n false) (ap replieds p_same ∙ replieds_go_on os s ev) ∙ replied_more (replieds os) ev n (was.replied l0 n h))
      replied_outside l (inr apart) = λ n h. ap (λ x. get_or (replieds x) n false) (p_other l apart) ∙ was.replied l n h

      alike_outside : (l n : ℕ) → Where l n → AlikeAt P' M' Q l n
      alike_outside l n (inl apart) place o there mark inside =
          was.alike l n place o (sym (p_stays l n apart) ∙ there) (sym (mark_stays l n apart) ∙ mark) inside
      alike_outside l n (inr at) place o there mark inside =
          let all : AlikeAt P' M' Q l n = subst (λ x. AlikeAt P' M' Q x n) (sym at.0) (subst (λ y. AlikeAt P' M' Q l0 y) (sym at.1) own_outside) in
          all place o there mark inside

      no_later_outside : (Q.stamp < s) ⊎ ((Q.stamp ≡ s) × (Q.party < e.party)) → NoLater Q P'
      no_later_outside (inl lt) = inl lt
      no_later_outside (inr at) = let lt = at.1 in inr (at.0, omega (arith, lt))

      goes_on_outside : Beside (suc k) P' M' Q
      goes_on_outside = record {
        capacities_are = was.capacities_are;
        widths_are = was.widths_are;
        channels_are = was.channels_are;
        cores_are = was.cores_are;
        wide = was.wide ∙ sym (length-set P.links l0 (link_after os s ev));
        many = was.many ∙ sym (length-set P.lasts e.party s);
        no_later = no_later_outside q_later;
        last = λ p f. last_outside p f (cases_eq p e.party);
        known = λ l f. known_outside l f (cases_eq l l0) (cases_Bool (is_owners ev));
        replied = λ l. replied_outside l (cases_eq l l0);
        alike = λ l n. alike_outside l n (which l n);
      }

    -- ---- an entry inside

    module _ (inside : made_by es e.party k < slice_index counts e.party) where
      abbrev Q' : Past
      Q' = after Q e

      it_is_inside : IsInside es counts k
      it_is_inside = record { entry = e; there = is; first = inside }

      full : Full e.party k
      full = omega (arith, inside)

      -- so are the earlier entries of its party
      earlier : (i : ℕ) (a : Stamped) → i < k → slice_get es i ≡ Some a → a.party ≡ e.party → IsInside es counts i
      earlier i a lt there same = record {
        entry = a;
        there = there;
        first = subst (λ p. made_by es p i < slice_index counts p) (sym same)
            (let le = count_le (λ j. is_of e.party (slice_get es j)) i k (omega (arith, lt)) in omega (arith, le, inside));
      }

      -- the entry by which its offer stands is inside: it answers that, or it withdraws an offer of its own party
      stands_inside : is_new ev ≡ false → (o : LinkOffer) → slice_get os n0 ≡ Some o → (h : Held es k l0 n0 o (slice_index (marks_of M l0) n0))
          → (wants ev ≡ 0) ⊎ (0 < wants ev) → IsInside es counts h.place
      stands_inside old o there h (inr positive) =
          let seen : seen_mark M e ≡ suc h.place = sees_mark (marks_of M l0) ev positive ∙ h.mark_is in
          closed h.place k (seen_made capacities widths cores es legal k h.place e is seen).1 it_is_inside
      stands_inside old o there h (inl none) =
          let withdraws = withdraws_offered terms os ev old none parts.5 o there in
          let its_owner = ends.owners h.place h.entry h.stands (gives_owners h.entry.entry.event (h.gave ∙ withdraws.0)) in
          earlier h.place h.entry h.below h.stands (its_owner ∙ ap owner h.link ∙ sym (ends.owners k e is withdraws.1))

      its_alike : is_new ev ≡ false → (o : LinkOffer) → slice_get os n0 ≡ Some o → StandsAlike (slice_get qs n0) o
      its_alike old o there =
          let h = w.held l0 n0 o there in was.alike l0 n0 h.place o there h.mark_is (stands_inside old o there h (zero_or (wants ev)))

      -- what its party has decided before
      before_alike : is_peers ev ≡ true → (i : ℕ) (o : LinkOffer) → i < n0 → slice_get os i ≡ Some o → is_decided o.standing ≡ true → StandsAlike (slice_get qs i) o
      before_alike decides i o lt there decided =
          let h = w.held l0 i o there in
          let three = decided_level o.standing decided in
          let gave = h.gave in
          let its_peer = ends.peers h.place h.entry h.stands (gives_peers h.entry.entry.event (omega (arith, three, gave))) in
          was.alike l0 i h.place o there h.mark_is (earlier h.place h.entry h.below h.stands (its_peer ∙ ap peer h.link ∙ sym (ends.peers k e is decides)))

      fits_link : link_fits terms qs ev ≡ true
      fits_link = fits_too terms os qs ev parts.5 (λ owns. was.known l0 (subst (λ p. Full p k) (ends.owners k e is owns) full)) its_alike before_alike (was.replied l0)

      answered_same : answered qs ev ≡ answered os ev
      answered_same = by (zero_or (wants ev))
        where
          by : (wants ev ≡ 0) ⊎ (0 < wants ev) → answered qs ev ≡ answered os ev
          by (inl none) = answers_no_stamp qs ev none ∙ sym (answers_no_stamp os ev none)
          by (inr positive) =
              let o = old_offer terms os ev (wants_old ev positive) parts.5 in
              let a = its_alike (wants_old ev positive) o.0 o.1 in
              sees_stamp qs ev positive ∙ ap standing_stamp a.there ∙ a.stamp ∙ sym (ap standing_stamp o.1) ∙ sym (sees_stamp os ev positive)

      fits_inside : fits Q e ≡ true
      fits_inside =
          all_six (in_range Q e) (is_later Q.stamp Q.party e) (has_stamp Q e) (may_make Q.channels Q.cores e) (has_its_width Q.widths ev)
          (link_fits (terms_of Q.capacities Q.channels l0) qs ev)
          (ap (λ n. nat_lt l0 n && nat_lt e.party (length Q.lasts)) was.wide ∙ ap (λ n. nat_lt l0 (length P.links) && nat_lt e.party n) was.many ∙ parts.0)
          (later_of Q.stamp Q.party e q_later)
          (ap (λ n. s == next_stamp n (answered qs ev)) (was.last e.party full) ∙ ap (λ n. s == next_stamp (slice_index P.lasts e.party) n) answered_same ∙ parts.2)
          (ap (λ n. may_make n Q.cores e) was.channels_are ∙ ap (λ n. may_make P.channels n e) was.cores_are ∙ parts.3)
          (ap (λ ns. has_its_width ns ev) was.widths_are ∙ parts.4)
          (ap (λ c. link_fits (terms_of c Q.channels l0) qs ev) was.capacities_are ∙ ap (λ c. link_fits (terms_of P.capacities c l0) qs ev) was.channels_are ∙ fits_link)

      q_same : link_at Q' l0 ≡ link_after qs s ev
      q_same = let wide = was.wide in let lt : l0 < length Q.links = omega (arith, in_links, wide) in get_or-set_same Q.links l0 (link_after qs s ev) [] lt

      q_other : (l : ℕ) → (l ≡ l0 → ⊥) → link_at Q' l ≡ link_at Q l
      q_other l h = get_or-set_other Q.links l0 l (link_after qs s ev) [] h

      q_stays : (l n : ℕ) → Apart l n → slice_get (link_at Q' l) n ≡ slice_get (link_at Q l) n
      q_stays l n (inl apart) = ap (λ x. slice_get x n) (q_other l apart)
      q_stays l n (inr at) =
          subst (λ x. slice_get (link_at Q' x) n ≡ slice_get (link_at Q x) n) (sym at.0)
          (ap (λ x. slice_get x n) q_same ∙ other_step terms qs s ev n fits_link (λ q. at.1 (sym q)))

      own_inside : AlikeAt P' M' Q' l0 n0
      own_inside place o there mark place_inside = subst (λ x. StandsAlike (slice_get x n0) o) (sym q_same) (by (cases_Bool (is_new ev)))
        where
          new_is : slice_get (link_after os s ev) n0 ≡ Some o
          new_is = ap (λ x. slice_get x n0) (sym p_same) ∙ there

          by : (is_new ev ≡ true) ⊎ (is_new ev ≡ false) → StandsAlike (slice_get (link_after qs s ev) n0) o
          by (inl new) = new_alike terms os qs s ev new parts.5 fits_link o new_is
          by (inr old) = let x = old_offer terms os ev old parts.5 in alike_after terms os qs s ev old x.0 o x.1 new_is (its_alike old x.0 x.1)

      alike_inside : (l n : ℕ) → Where l n → AlikeAt P' M' Q' l n
      alike_inside l n (inl apart) place o there mark place_inside =
          subst (λ q. StandsAlike q o) (sym (q_stays l n apart))
          (was.alike l n place o (sym (p_stays l n apart) ∙ there) (sym (mark_stays l n apart) ∙ mark) place_inside)
      alike_inside l n (inr at) place o there mark place_inside =
          let all : AlikeAt P' M' Q' l n = subst (λ x. AlikeAt P' M' Q' x n) (sym at.0) (subst (λ y. AlikeAt P' M' Q' l0 y) (sym at.1) own_inside) in
          all place o there mark place_inside

      last_inside : (p : ℕ) → Full p (suc k) → (p ≡ e.party) ⊎ (p ≡ e.party → ⊥) → slice_index Q'.lasts p ≡ slice_index P'.lasts p
      last_inside p f (inl same) =
          let many = was.many in
          let lt : e.party < length Q.lasts = omega (arith, in_parties, many) in
          subst (λ x. slice_index Q'.lasts x ≡ slice_index P'.lasts x) (sym same)
          (get_or-set_same Q.lasts e.party s 0 lt ∙ sym (get_or-set_same P.lasts e.party s 0 in_parties))
      last_inside p f (inr other) = get_or-set_other Q.lasts e.party p s 0 other ∙ was.last p (earlier_full p f) ∙ sym (p_last_other p other)

      known_inside : (l : ℕ) → Full (owner l) (suc k) → (l ≡ l0) ⊎ (l ≡ l0 → ⊥) → knowns (link_at Q' l) ≡ knowns (link_at P' l)
      known_inside l f (inl here) =
          let before : knowns qs ≡ knowns os = subst (λ x. knowns (link_at Q x) ≡ knowns (link_at P x)) here (was.known l (earlier_full (owner l) f)) in
          subst (λ x. knowns (link_at Q' x) ≡ knowns (link_at P' x)) (sym here)
          (ap knowns q_same ∙ knowns_go_on qs s ev ∙ ap (λ bs. knowns_after bs ev) before ∙ sym (knowns_go_on os s ev) ∙ sym (ap knowns p_same))
      known_inside l f (inr apart) = ap knowns (q_other l apart) ∙ was.known l (earlier_full (owner l) f) ∙ sym (ap knowns (p_other l apart))

      replied_inside : (l : ℕ) → (l ≡ l0) ⊎ (l ≡ l0 → ⊥) → RepliedToo (replieds (link_at Q' l)) (replieds (link_at P' l))
      replied_inside l (inl here) =
          subst (λ x. RepliedToo (replieds (link_at Q' x)) (replieds (link_at P' x))) (sym here)
          (λ n h. ap (λ bs. get_or bs n false) (ap replieds p_same ∙ replieds_go_on os s ev)
          ∙ replied_both (replieds qs) (replieds os) ev in_list (was.replied l0) n (ap (λ bs. get_or bs n false) (sym (ap replieds q_same ∙ replieds_go_on qs s ev)) ∙ h))
        where
          in_list : is_new ev ≡ false → n0 < length (replieds os)
          in_list old =
              let x = old_offer terms os ev old parts.5 in
              let lt = slice_get_within os n0 x.0 x.1 in
              let long = many_replieds os in
              omega (arith, lt, long)
      replied_inside l (inr apart) =
          λ n h. ap (λ x. get_or (replieds x) n false) (p_other l apart) ∙ was.replied l n (ap (λ x. get_or (replieds x) n false) (sym (q_other l apart)) ∙ h)

      goes_on_inside : Beside (suc k) P' M' Q'
      goes_on_inside = record {
        capacities_are = was.capacities_are;
        widths_are = was.widths_are;
        channels_are = was.channels_are;
        cores_are = was.cores_are;
        wide = length-set Q.links l0 (link_after qs s ev) ∙ was.wide ∙ sym (length-set P.links l0 (link_after os s ev));
        many = length-set Q.lasts e.party s ∙ was.many ∙ sym (length-set P.lasts e.party s);
        no_later = inr (refl, omega arith);
        last = λ p f. last_inside p f (cases_eq p e.party);
        known = λ l f. known_inside l f (cases_eq l l0);
        replied = λ l. replied_inside l (cases_eq l l0);
        alike = λ l n. alike_inside l n (which l n);
      }

  -- ---- all entries

  abbrev added : ℕ → Option Stamped → List Stamped
  added k None = []
  added k (Some e) = added_if (nat_lt (made_by es e.party k) (slice_index counts e.party)) e

  -- those of the first k that are inside
  abbrev pub inside_to : ℕ → List Stamped
  inside_to zero = []
  inside_to (suc k) = inside_to k ++ added k (slice_get es k)

  record SoFar (k : ℕ) (P : Past) (M : Marked) (xs : List Stamped) : Type 0 where
    legal_to : IsLegal first xs
    beside : Beside k P M (after_all_of first xs)

  abbrev Next : ℕ → Option Stamped → Type 0
  Next k q = SoFar (suc k) (after_one (past k) q) (marked_by (marked k) (suc k) q) (inside_to k ++ added k q)

  abbrev Then : ℕ → Stamped → Bool → Type 0
  Then k e b = SoFar (suc k) (after (past k) e) (marked_after (marked k) (suc k) e) (inside_to k ++ added_if b e)

  next : (k : ℕ) → SoFar k (past k) (marked k) (inside_to k) → (e : Stamped) → slice_get es k ≡ Some e → Next k (Some e)
  next k h e is = by (cases_lt (made_by es e.party k) (slice_index counts e.party))
    where
      by : (made_by es e.party k < slice_index counts e.party) ⊎ (slice_index counts e.party ≤ made_by es e.party k) → Next k (Some e)
      by (inl inside) =
          subst (Then k e) (sym (lt-ltb (made_by es e.party k) (slice_index counts e.party) inside)) (record {
            legal_to = legal_more first (inside_to k) e h.legal_to (fits_inside k e is (after_all_of first (inside_to k)) h.beside inside);
            beside = subst (Beside (suc k) (after (past k) e) (marked_after (marked k) (suc k) e)) (sym (after_more first (inside_to k) e)) (goes_on_inside k e is (after_all_of first
                (inside_to k)) h.beside inside);
          })
      by (inr outside) =
          subst (Then k e) (sym (le-ltb (made_by es e.party k) (slice_index counts e.party) outside)) (record {
            legal_to = subst (IsLegal first) (sym (append-nil (inside_to k))) h.legal_to;
            beside = subst (λ xs. Beside (suc k) (after (past k) e) (marked_after (marked k) (suc k) e) (after_all_of first xs)) (sym (append-nil (inside_to k)))
                (goes_on_outside k e is (after_all_of first (inside_to k)) h.beside outside);
          })

  so_far : (k : ℕ) → k ≤ length es → SoFar k (past k) (marked k) (inside_to k)
  so_far zero le = record { legal_to = tt; beside = beside_first }
  so_far (suc k) le =
      let e = get_some es k (omega (arith, le)) in
      subst (Next k) (sym e.1) (next k (so_far k (omega (arith, le))) e.0 e.1)

  pub inside_legal : IsLegal first (inside_to (length es))
  inside_legal = (so_far (length es) (omega arith)).legal_to
