-- What entries make of one offer: each withdrawal and each taking of it is seen in how it stands. For `offers_end_once`.
-- How an offer stands counts 1 for withdrawn or 1 for taken, never both. By induction on a legal history each such entry adds its 1 there, so there is at most one.
-- What its owner knows to be taken stands as taken by then.
use Rattle.std.proofs.Common.{◌≡◌, ℕ, zero, suc, ◌+◌, ◌<◌, ◌≤◌, List, [], ◌∷◌, ◌++◌, length, Option, Some, None, Bool, true, false, cond, refl, sym, ap, ◌∙◌, subst, arith, inl, inr, get_or, set}
use Rattle.std.specs.Prelude.{◌==◌, ◌&&◌, slice_get, slice_set, replicate}
use Rattle.std.proofs.Math.Dec.{eqb-suc-suc, eqb-suc-zero, eqb-zero-suc}
use Rattle.std.proofs.lemmas.Bool.{and_parts, eqb-true, ltb-true}
use Rattle.std.proofs.lemmas.Bool.Decides.{eqb_tells}
use Rattle.std.proofs.lemmas.List.{get_or-set_same, get_or-set_other}
use Rattle.std.proofs.lemmas.List.Sums.{sum_by-cons}
use Rattle.ac_base.specs.declared.entry.Event.{Event}
use Rattle.ac_base.specs.declared.entry.Event.TheVariants.{Offer, Withdraw, Know, Room, Got, Pass, Did, Reply}
use Rattle.ac_base.specs.declared.entry.Stamped.{Stamped}
use Rattle.ac_links.specs.declared.offer.Standing.{Standing}
use Rattle.ac_links.specs.declared.offer.Standing.TheVariants.{Offered, Taken, Withdrawn, Passed}
use Rattle.ac_links.specs.declared.offer.LinkOffer.{LinkOffer}
use Rattle.ac_links.specs.declared.payloads.Terms.{Terms}
use Rattle.ac_links.specs.Payloads.{Taking, carries}
use Rattle.ac_links.specs.Payloads.Taking.{Message, Done}
use Rattle.ac_links.specs.Link.{is_offered, is_taken, is_withdrawn, front_of, takes, knows, withdraws, passes, frees, replies, link_fits, link_after, link_of}
use Rattle.ac_links.specs.Link.{changed, stands, now_taken, now_known, now_replied, new_offer}
use Rattle.ac_history.specs.History.{Past, link_at, is_later, has_stamp, in_range, may_make, has_its_width, terms_of, fits, after, IsLegal, start}
use Rattle.ac_history.specs.Quiet.{after_all_of}
use Rattle.ac_history.specs.Outcomes.{is_withdrawal, is_taking, is_news, times}

-- ---- how an offer stands

-- 1 where it was withdrawn
abbrev gone : Standing → ℕ
gone Offered = 0
gone Taken = 0
gone Withdrawn = 1
gone Passed = 1

-- 1 where it was taken
abbrev took : Standing → ℕ
took Offered = 0
took Taken = 1
took Withdrawn = 0
took Passed = 0

one_of_both : (s : Standing) → gone s + took s ≤ 1
one_of_both Offered = omega arith
one_of_both Taken = omega arith
one_of_both Withdrawn = omega arith
one_of_both Passed = omega arith

open_not_gone : (s : Standing) → is_offered s ≡ true → gone s ≡ 0
open_not_gone Offered h = refl
open_not_gone Taken h = refl
open_not_gone Withdrawn h = let no : false ≡ true = h in absurd (cc)
open_not_gone Passed h = let no : false ≡ true = h in absurd (cc)

open_not_taken : (s : Standing) → is_offered s ≡ true → took s ≡ 0
open_not_taken Offered h = refl
open_not_taken Taken h = let no : false ≡ true = h in absurd (cc)
open_not_taken Withdrawn h = refl
open_not_taken Passed h = refl

withdrawn_is_gone : (s : Standing) → is_withdrawn s ≡ true → gone s ≡ 1
withdrawn_is_gone Offered h = let no : false ≡ true = h in absurd (cc)
withdrawn_is_gone Taken h = let no : false ≡ true = h in absurd (cc)
withdrawn_is_gone Withdrawn h = refl
withdrawn_is_gone Passed h = let no : false ≡ true = h in absurd (cc)

withdrawn_not_taken : (s : Standing) → is_withdrawn s ≡ true → took s ≡ 0
withdrawn_not_taken Offered h = refl
withdrawn_not_taken Taken h = let no : false ≡ true = h in absurd (cc)
withdrawn_not_taken Withdrawn h = refl
withdrawn_not_taken Passed h = refl

taken_is_taken : (s : Standing) → is_taken s ≡ true → took s ≡ 1
taken_is_taken Offered h = let no : false ≡ true = h in absurd (cc)
taken_is_taken Taken h = refl
taken_is_taken Withdrawn h = let no : false ≡ true = h in absurd (cc)
taken_is_taken Passed h = let no : false ≡ true = h in absurd (cc)

-- ---- one entry of the offer's link

none_added : (b : Bool) (n : ℕ) → n ≡ n + cond b 0 0
none_added true n = omega arith
none_added false n = omega arith

on_it : (l k : ℕ) (b : Bool) → (k == l) ≡ true → ((k == l) && b) ≡ b
on_it l k b h = ap (λ z. z && b) h

off_it : (l k : ℕ) (b : Bool) → (k == l) ≡ false → ((k == l) && b) ≡ false
off_it l k b h = ap (λ z. z && b) h

module _ (weight : Standing → ℕ) where
  abbrev at : Option LinkOffer → ℕ
  at None = 0
  at (Some o) = weight o.standing

  at_pushed : (os : List LinkOffer) (o : LinkOffer) (n : ℕ) → weight o.standing ≡ 0 → at (slice_get (os ++ o ∷ []) n) ≡ at (slice_get os n)
  at_pushed [] o zero h = h
  at_pushed [] o (suc n) h = refl
  at_pushed (x ∷ os) o zero h = refl
  at_pushed (x ∷ os) o (suc n) h = at_pushed os o n h

  module _ (f : LinkOffer → LinkOffer) (more : ℕ) where
    at_set : (os : List LinkOffer) (k n : ℕ) (o : LinkOffer) → slice_get os k ≡ Some o → weight (f o).standing ≡ weight o.standing + more
        → at (slice_get (slice_set os k (f o)) n) ≡ at (slice_get os n) + cond (k == n) more 0
    at_set [] k n o is h = let no : None ≡ Some o = is in absurd (cc)
    at_set (x ∷ os) zero zero o is h =
        let same : x ≡ o = (let some : Some x ≡ Some o = is in cc) in
        h ∙ ap (λ (y : LinkOffer). weight y.standing + more) (sym same)
    at_set (x ∷ os) zero (suc n) o is h = let e : cond (zero == suc n) more 0 ≡ 0 = ap (λ b. cond b more 0) (eqb-zero-suc n) in omega (arith, e)
    at_set (x ∷ os) (suc k) zero o is h = let e : cond (suc k == zero) more 0 ≡ 0 = ap (λ b. cond b more 0) (eqb-suc-zero k) in omega (arith, e)
    at_set (x ∷ os) (suc k) (suc n) o is h =
        let e : cond (suc k == suc n) more 0 ≡ cond (k == n) more 0 = ap (λ b. cond b more 0) (eqb-suc-suc k n) in
        let i = at_set os k n o is h in
        omega (arith, e, i)

    -- an offer that is there is changed
    at_changed : (test : Option LinkOffer → Bool) → test None ≡ false → ((o : LinkOffer) → test (Some o) ≡ true → weight (f o).standing ≡ weight o.standing + more)
        → (os : List LinkOffer) (k n : ℕ) → test (slice_get os k) ≡ true → at (slice_get (changed os k f (slice_get os k)) n) ≡ at (slice_get os n) + cond (k == n) more 0
    at_changed test none adds os k n h = by (slice_get os k) refl h
      where
        by : (q : Option LinkOffer) → slice_get os k ≡ q → test q ≡ true → at (slice_get (changed os k f q) n) ≡ at (slice_get os n) + cond (k == n) more 0
        by None is h = let no : false ≡ true = sym none ∙ h in absurd (cc)
        by (Some o) is h = at_set os k n o is (adds o h)

module _ (terms : Terms) (os : List LinkOffer) (s l n : ℕ) where
  taken_open : (taking : Taking) (o : LinkOffer) → takes taking (Some o) ≡ true → is_offered o.standing ≡ true
  taken_open taking o h = (and_parts (is_offered o.standing) (carries taking o.payload) h).0

  step_gone : (v : Event) → (link_of v == l) ≡ true → link_fits terms os v ≡ true
      → at gone (slice_get (link_after os s v) n) ≡ at gone (slice_get os n) + cond (is_withdrawal l n v) 1 0
  step_gone (Offer k j payload) h fits = let p = at_pushed gone os (new_offer payload s) n refl in omega (arith, p)
  step_gone (Withdraw k j) h fits =
      let p = at_changed gone (stands Withdrawn s) 1 withdraws refl (λ o w. let z = open_not_gone o.standing w in omega (arith, z)) os j n fits in
      p ∙ ap (λ b. at gone (slice_get os n) + cond b 1 0) (sym (on_it l k (j == n) h))
  step_gone (Know k j) h fits =
      at_changed gone now_known 0 knows refl (λ o w. omega arith) os j n fits ∙ sym (none_added (j == n) _) ∙ none_added true _
  step_gone (Room k j) h fits =
      at_changed gone now_known 0 frees refl (λ o w. omega arith) os j n fits ∙ sym (none_added (j == n) _) ∙ none_added true _
  step_gone (Got k j value) h fits =
      at_changed gone (now_taken (Message value) s) 0 (takes (Message value)) refl (λ o w. let z = open_not_gone o.standing (taken_open (Message value) o w) in omega (arith, z)) os j n
      (and_parts (j == front_of os) (takes (Message value) (slice_get os j)) fits).1 ∙ sym (none_added (j == n) _) ∙ none_added true _
  step_gone (Pass k j) h fits =
      at_changed gone (stands Passed s) 0 passes refl (λ o w. let z = withdrawn_is_gone o.standing w in omega (arith, z)) os j n
      (and_parts (j == front_of os) (passes (slice_get os j)) fits).1 ∙ sym (none_added (j == n) _) ∙ none_added true _
  step_gone (Did k j answer) h fits =
      at_changed gone (now_taken (Done answer) s) 0 (takes (Done answer)) refl (λ o w. let z = open_not_gone o.standing (taken_open (Done answer) o w) in omega (arith, z)) os j n
      (and_parts (j == front_of os) (takes (Done answer) (slice_get os j)) fits).1 ∙ sym (none_added (j == n) _) ∙ none_added true _
  step_gone (Reply k j answer) h fits =
      at_changed gone now_replied 0 (replies answer) refl (λ o w. omega arith) os j n fits ∙ sym (none_added (j == n) _) ∙ none_added true _

  step_took : (v : Event) → (link_of v == l) ≡ true → link_fits terms os v ≡ true
      → at took (slice_get (link_after os s v) n) ≡ at took (slice_get os n) + cond (is_taking l n v) 1 0
  step_took (Offer k j payload) h fits = let p = at_pushed took os (new_offer payload s) n refl in omega (arith, p)
  step_took (Withdraw k j) h fits =
      at_changed took (stands Withdrawn s) 0 withdraws refl (λ o w. let z = open_not_taken o.standing w in omega (arith, z)) os j n fits ∙ sym (none_added (j == n) _) ∙ none_added true _
  step_took (Know k j) h fits =
      at_changed took now_known 0 knows refl (λ o w. omega arith) os j n fits ∙ sym (none_added (j == n) _) ∙ none_added true _
  step_took (Room k j) h fits =
      at_changed took now_known 0 frees refl (λ o w. omega arith) os j n fits ∙ sym (none_added (j == n) _) ∙ none_added true _
  step_took (Got k j value) h fits =
      at_changed took (now_taken (Message value) s) 1 (takes (Message value)) refl (λ o w. let z = open_not_taken o.standing (taken_open (Message value) o w) in omega (arith, z)) os j n
      (and_parts (j == front_of os) (takes (Message value) (slice_get os j)) fits).1 ∙ ap (λ b. at took (slice_get os n) + cond b 1 0) (sym (on_it l k (j == n) h))
  step_took (Pass k j) h fits =
      at_changed took (stands Passed s) 0 passes refl (λ o w. let z = withdrawn_not_taken o.standing w in omega (arith, z)) os j n
      (and_parts (j == front_of os) (passes (slice_get os j)) fits).1 ∙ sym (none_added (j == n) _) ∙ none_added true _
  step_took (Did k j answer) h fits =
      at_changed took (now_taken (Done answer) s) 1 (takes (Done answer)) refl (λ o w. let z = open_not_taken o.standing (taken_open (Done answer) o w) in omega (arith, z)) os j n
      (and_parts (j == front_of os) (takes (Done answer) (slice_get os j)) fits).1 ∙ ap (λ b. at took (slice_get os n) + cond b 1 0) (sym (on_it l k (j == n) h))
  step_took (Reply k j answer) h fits =
      at_changed took now_replied 0 (replies answer) refl (λ o w. omega arith) os j n fits ∙ sym (none_added (j == n) _) ∙ none_added true _

  -- what is known is taken
  news_of_taken : (v : Event) → (link_of v == l) ≡ true → link_fits terms os v ≡ true → is_news l n v ≡ true → at took (slice_get os n) ≡ 1
  news_of_taken (Know k j) h fits news =
      let same : j ≡ n = eqb-true j n (sym (on_it l k (j == n) h) ∙ news) in
      subst (λ i. at took (slice_get os i) ≡ 1) same (by (slice_get os j) fits)
    where
      by : (q : Option LinkOffer) → knows q ≡ true → at took q ≡ 1
      by None h = let no : false ≡ true = h in absurd (cc)
      by (Some o) h = taken_is_taken o.standing (and_parts (is_taken o.standing) _ h).0
  news_of_taken _ h fits news = let no : false ≡ true = news in absurd (cc)

-- ---- entries of other links

other_withdrawal : (l n : ℕ) (v : Event) → (link_of v == l) ≡ false → is_withdrawal l n v ≡ false
other_withdrawal l n (Withdraw k j) h = off_it l k (j == n) h
other_withdrawal l n _ h = refl

other_taking : (l n : ℕ) (v : Event) → (link_of v == l) ≡ false → is_taking l n v ≡ false
other_taking l n (Got k j value) h = off_it l k (j == n) h
other_taking l n (Did k j answer) h = off_it l k (j == n) h
other_taking l n _ h = refl

other_news : (l n : ℕ) (v : Event) → (link_of v == l) ≡ false → is_news l n v ≡ false
other_news l n (Know k j) h = off_it l k (j == n) h
other_news l n _ h = refl

-- ---- a legal history

times_more : (test : Event → Bool) (e : Stamped) (es : List Stamped) → times test (e ∷ es) ≡ cond (test e.entry.event) 1 0 + times test es
times_more test e es = sum_by-cons (λ (x : Stamped). cond (test x.entry.event) 1 0) e es

six_parts : (a b c d e f : Bool) → a && b && c && d && e && f ≡ true → (a ≡ true) × (f ≡ true)
six_parts a b c d e f h = let p = and_parts (a && b && c && d && e) f h in
    ((and_parts a b (and_parts (a && b) c (and_parts (a && b && c) d (and_parts (a && b && c && d) e p.0).0).0).0).0, p.1)

within : (past : Past) (e : Stamped) → fits past e ≡ true → link_of e.entry.event < length past.links
within past e h = ltb-true (link_of e.entry.event) (length past.links) (and_parts _ _
    (six_parts (in_range past e) (is_later past.stamp past.party e) (has_stamp past e) (may_make past.channels past.cores e) (has_its_width past.widths e.entry.event) _ h).0).0

of_link : (past : Past) (e : Stamped) → fits past e ≡ true
    → link_fits (terms_of past.capacities past.channels (link_of e.entry.event)) (link_at past (link_of e.entry.event)) e.entry.event ≡ true
of_link past e h = (six_parts (in_range past e) (is_later past.stamp past.party e) (has_stamp past e) (may_make past.channels past.cores e) (has_its_width past.widths e.entry.event) _ h).1

abbrev now : (Standing → ℕ) → ℕ → ℕ → Past → ℕ
now weight l n past = at weight (slice_get (link_at past l) n)

abbrev counted_as : Bool → ℕ
counted_as b = cond b 1 0

-- an entry adds 1 where the test holds of it
abbrev Adds : (Standing → ℕ) → (Event → Bool) → ℕ → ℕ → Type 0
Adds weight test l n = (terms : Terms) (os : List LinkOffer) (s : ℕ) (v : Event) → (link_of v == l) ≡ true → link_fits terms os v ≡ true
    → at weight (slice_get (link_after os s v) n) ≡ at weight (slice_get os n) + cond (test v) 1 0

module _ (weight : Standing → ℕ) (test : Event → Bool) (l n : ℕ) (adds : Adds weight test l n) (other : (v : Event) → (link_of v == l) ≡ false → test v ≡ false) where
  one_entry : (past : Past) (e : Stamped) → fits past e ≡ true → now weight l n (after past e) ≡ now weight l n past + cond (test e.entry.event) 1 0
  one_entry past e h =
      let o = link_of e.entry.event in
      let new = link_after (link_at past o) e.entry.stamp e.entry.event in
      elim (eqb_tells o l) [
        | inl w ↦
            let here = adds (terms_of past.capacities past.channels o) (link_at past o) e.entry.stamp e.entry.event w.0 (of_link past e h) in
            subst (λ k. at weight (slice_get (get_or (set past.links o new) k []) n) ≡ at weight (slice_get (link_at past k) n) + cond (test e.entry.event) 1 0) w.1
            (ap (λ os. at weight (slice_get os n)) (get_or-set_same past.links o new [] (within past e h)) ∙ here)
        | inr w ↦
            let none = ap counted_as (other e.entry.event w.0) in
            let same : now weight l n (after past e) ≡ now weight l n past = ap (λ os. at weight (slice_get os n)) (get_or-set_other past.links o l new [] (λ q. w.1 (sym q))) in
            omega (arith, none, same)
      ]

  all_entries : (past : Past) (es : List Stamped) → IsLegal past es → now weight l n (after_all_of past es) ≡ now weight l n past + times test es
  all_entries past [] h = omega arith
  all_entries past (e ∷ es) h =
      let first = one_entry past e h.0 in
      let rest = all_entries (after past e) es h.1 in
      let count = times_more test e es in
      omega (arith, first, rest, count)

nothing_there : (capacities widths : List ℕ) (cores l n : ℕ) (weight : Standing → ℕ) → now weight l n (start capacities widths cores) ≡ 0
nothing_there capacities widths cores l n weight = ap (λ os. at weight (slice_get os n)) (go (length capacities) l)
  where
    go : (k l : ℕ) → get_or {A = List LinkOffer} (replicate k []) l [] ≡ []
    go zero l = refl
    go (suc k) zero = refl
    go (suc k) (suc l) = go k l

all_gone : (past : Past) (es : List Stamped) (l n : ℕ) → IsLegal past es → now gone l n (after_all_of past es) ≡ now gone l n past + times (is_withdrawal l n) es
all_gone past es l n = all_entries gone (is_withdrawal l n) l n (λ terms os s. step_gone terms os s l n) (other_withdrawal l n) past es

all_taken : (past : Past) (es : List Stamped) (l n : ℕ) → IsLegal past es → now took l n (after_all_of past es) ≡ now took l n past + times (is_taking l n) es
all_taken past es l n = all_entries took (is_taking l n) l n (λ terms os s. step_took terms os s l n) (other_taking l n) past es

pub ends_once : (capacities widths : List ℕ) (cores : ℕ) (es : List Stamped) (l n : ℕ) → IsLegal (start capacities widths cores) es
    → times (is_withdrawal l n) es + times (is_taking l n) es ≤ 1
ends_once capacities widths cores es l n h =
    let a = all_gone (start capacities widths cores) es l n h in
    let b = all_taken (start capacities widths cores) es l n h in
    let c = nothing_there capacities widths cores l n gone in
    let d = nothing_there capacities widths cores l n took in
    let both = by (slice_get (link_at (after_all_of (start capacities widths cores) es) l) n) in
    omega (arith, a, b, c, d, both)
  where
    by : (o : Option LinkOffer) → at gone o + at took o ≤ 1
    by None = omega arith
    by (Some o) = one_of_both o.standing

known_next : (past : Past) (e : Stamped) (es : List Stamped) (l n : ℕ) → IsLegal past (e ∷ es) → 1 ≤ times (is_news l n) (e ∷ es)
    → (1 ≤ times (is_news l n) es → 1 ≤ now took l n (after past e) + times (is_taking l n) es) → (b : Bool) → is_news l n e.entry.event ≡ b
    → 1 ≤ now took l n past + times (is_taking l n) (e ∷ es)
known_next past e es l n h some later true is = elim (eqb_tells (link_of e.entry.event) l) [
  | inl w ↦
      let fit = subst (λ k. link_fits (terms_of past.capacities past.channels k) (link_at past k) e.entry.event ≡ true) w.1 (of_link past e h.0) in
      let here = news_of_taken (terms_of past.capacities past.channels l) (link_at past l) e.entry.stamp l n e.entry.event w.0 fit is in
      omega (arith, here)
  | inr w ↦ let no : true ≡ false = sym is ∙ other_news l n e.entry.event w.0 in absurd (cc)
]
known_next past e es l n h some later false is =
    let none = ap counted_as is in
    let count = times_more (is_news l n) e es in
    let first = one_entry took (is_taking l n) l n (λ terms os s. step_took terms os s l n) (other_taking l n) past e h.0 in
    let rest = later (omega (arith, none, count, some)) in
    let takings = times_more (is_taking l n) e es in
    omega (arith, first, rest, takings)

-- where it becomes known in what follows, it is taken already or is taken there
known_from : (past : Past) (es : List Stamped) (l n : ℕ) → IsLegal past es → 1 ≤ times (is_news l n) es → 1 ≤ now took l n past + times (is_taking l n) es
known_from past [] l n h some = absurd (omega (arith, some))
known_from past (e ∷ es) l n h some = known_next past e es l n h some (known_from (after past e) es l n h.1) (is_news l n e.entry.event) refl

pub known_is_taken : (capacities widths : List ℕ) (cores : ℕ) (es : List Stamped) (l n : ℕ) → IsLegal (start capacities widths cores) es → 1 ≤ times (is_news l n) es
    → times (is_taking l n) es ≡ 1
known_is_taken capacities widths cores es l n h some =
    let a = ends_once capacities widths cores es l n h in
    let b = known_from (start capacities widths cores) es l n h some in
    let c = nothing_there capacities widths cores l n took in
    omega (arith, a, b, c)
