-- In a legal history no more offers are passed over, and done by the worker, than cores have made; and the worker does nothing else.
-- By induction on the entries, with the offers of all links that are not settled: one that is made adds 1, one that is passed over or done takes 1 away.
use Rattle.std.proofs.Common.{◌≡◌, ℕ, zero, suc, ◌+◌, ◌-◌, ◌≤◌, List, [], ◌∷◌, ◌++◌, length, get_or, set, Option, Some, None, Bool, true, false, refl, ap, arith}
use Rattle.std.specs.Prelude.{◌==◌, ◌&&◌, ◌||◌, nat_eq, nat_le, nat_lt, if◌then◌else◌, slice_get, replicate}
use Rattle.std.proofs.lemmas.Bool.Decides.{nat_tests}
use Rattle.ac_base.specs.declared.entry.Event.{Event}
use Rattle.ac_base.specs.declared.entry.Event.TheVariants.{Offer, Withdraw, Know, Room, Got, Pass, Did, Reply}
use Rattle.ac_base.specs.declared.entry.Stamped.{Stamped}
use Rattle.ac_links.specs.declared.offer.Standing.{Standing}
use Rattle.ac_links.specs.declared.offer.Standing.TheVariants.{Offered, Taken, Withdrawn, Passed}
use Rattle.ac_links.specs.declared.offer.LinkOffer.{LinkOffer}
use Rattle.ac_links.specs.declared.payloads.Terms.{Terms}
use Rattle.ac_links.specs.Payloads.Taking.{Message, Done}
use Rattle.ac_links.specs.Payloads.{Taking, carries}
use Rattle.ac_links.specs.Link.{is_offered, is_withdrawn, front_of, takes, withdraws, passes, link_fits, link_after, changed, stands, now_taken, now_known, now_replied, new_offer, link_of}
use Rattle.ac_history.specs.History.{Past, link_at, terms_of, in_range, is_later, has_stamp, makes, may_make, has_its_width, after, IsLegal, start}
use Rattle.journal_bounds.proofs.Counting.{offer_of, settles_of, count, settled, offered_below, idle_of}

-- ---- the offers of a link that are not settled

abbrev pend : Standing → ℕ
pend Offered = 1
pend Taken = 0
pend Withdrawn = 1
pend Passed = 0

abbrev pending : List LinkOffer → ℕ
pending [] = 0
pending (o ∷ os) = pend o.standing + pending os

abbrev pend_of : Option LinkOffer → ℕ
pend_of None = 0
pend_of (Some o) = pend o.standing

abbrev pend_then : (LinkOffer → LinkOffer) → Option LinkOffer → ℕ
pend_then f None = 0
pend_then f (Some o) = pend (f o).standing

pending_set : (os : List LinkOffer) (n : ℕ) (x o : LinkOffer) → slice_get os n ≡ Some o → pending (set os n x) + pend o.standing ≡ pending os + pend x.standing
pending_set [] n x o h = let no : None ≡ Some o = h in absurd (cc)
pending_set (p ∷ os) zero x o h = let same : pend p.standing ≡ pend o.standing = ap pend_of h in omega arith
pending_set (p ∷ os) (suc n) x o h = let ih = pending_set os n x o h in omega arith

pending_changed : (os : List LinkOffer) (n : ℕ) (f : LinkOffer → LinkOffer) (q : Option LinkOffer) → slice_get os n ≡ q
    → pending (changed os n f q) + pend_of q ≡ pending os + pend_then f q
pending_changed os n f None h = refl
pending_changed os n f (Some o) h = pending_set os n (f o) o h

pending_push : (os : List LinkOffer) (o : LinkOffer) → pending (os ++ o ∷ []) ≡ pending os + pend o.standing
pending_push [] o = omega arith
pending_push (p ∷ os) o = let ih = pending_push os o in omega arith

-- ---- one entry

keeps : (f : LinkOffer → LinkOffer) → ((o : LinkOffer) → (f o).standing ≡ o.standing) → (q : Option LinkOffer) → pend_then f q ≡ pend_of q
keeps f h None = refl
keeps f h (Some o) = ap pend (h o)

stays_pending : (s : ℕ) (q : Option LinkOffer) → withdraws q ≡ true → pend_then (stands Withdrawn s) q ≡ pend_of q
stays_pending s None h = let no : false ≡ true = h in absurd (cc)
stays_pending s (Some o) h = by o.standing h
  where
    by : (x : Standing) → is_offered x ≡ true → pend Withdrawn ≡ pend x
    by Offered e = refl
    by Taken e = let no : false ≡ true = e in absurd (cc)
    by Withdrawn e = refl
    by Passed e = let no : false ≡ true = e in absurd (cc)

none_then : (f : LinkOffer → LinkOffer) → ((o : LinkOffer) → pend (f o).standing ≡ 0) → (q : Option LinkOffer) → pend_then f q ≡ 0
none_then f h None = refl
none_then f h (Some o) = h o

was_withdrawn : (q : Option LinkOffer) → passes q ≡ true → pend_of q ≡ 1
was_withdrawn None h = let no : false ≡ true = h in absurd (cc)
was_withdrawn (Some o) h = by o.standing h
  where
    by : (x : Standing) → is_withdrawn x ≡ true → pend x ≡ 1
    by Offered e = let no : false ≡ true = e in absurd (cc)
    by Taken e = let no : false ≡ true = e in absurd (cc)
    by Withdrawn e = refl
    by Passed e = let no : false ≡ true = e in absurd (cc)

was_offered : (taking : Taking) (q : Option LinkOffer) → takes taking q ≡ true → pend_of q ≡ 1
was_offered taking None h = let no : false ≡ true = h in absurd (cc)
was_offered taking (Some o) h = by o.standing (carries taking o.payload) h
  where
    by : (x : Standing) (b : Bool) → is_offered x && b ≡ true → pend x ≡ 1
    by Offered b e = refl
    by Taken b e = let no : false ≡ true = e in absurd (cc)
    by Withdrawn b e = refl
    by Passed b e = let no : false ≡ true = e in absurd (cc)

second : (a b : Bool) → a && b ≡ true → b ≡ true
second true b h = h
second false b h = let no : false ≡ true = h in absurd (cc)

link_settles : (terms : Terms) (os : List LinkOffer) (s : ℕ) (v : Event) → link_fits terms os v ≡ true → pending (link_after os s v) + settles_of v ≤ pending os + offer_of v
link_settles terms os s (Offer l n payload) h = let p = pending_push os (new_offer payload s) in omega arith
link_settles terms os s (Withdraw l n) h =
    let p = pending_changed os n (stands Withdrawn s) (slice_get os n) refl in
    let k = stays_pending s (slice_get os n) h in
    omega arith
link_settles terms os s (Know l n) h = let p = pending_changed os n now_known (slice_get os n) refl in let k = keeps now_known (λ o. refl) (slice_get os n) in omega arith
link_settles terms os s (Room l n) h = let p = pending_changed os n now_known (slice_get os n) refl in let k = keeps now_known (λ o. refl) (slice_get os n) in omega arith
link_settles terms os s (Got l n value) h =
    let p = pending_changed os n (now_taken (Message value) s) (slice_get os n) refl in
    let k = none_then (now_taken (Message value) s) (λ o. refl) (slice_get os n) in
    omega arith
link_settles terms os s (Pass l n) h =
    let p = pending_changed os n (stands Passed s) (slice_get os n) refl in
    let k = none_then (stands Passed s) (λ o. refl) (slice_get os n) in
    let w = was_withdrawn (slice_get os n) (second (n == front_of os) (passes (slice_get os n)) h) in
    omega arith
link_settles terms os s (Did l n answer) h =
    let p = pending_changed os n (now_taken (Done answer) s) (slice_get os n) refl in
    let k = none_then (now_taken (Done answer) s) (λ o. refl) (slice_get os n) in
    let w = was_offered (Done answer) (slice_get os n) (second (n == front_of os) (takes (Done answer) (slice_get os n)) h) in
    omega arith
link_settles terms os s (Reply l n answer) h = let p = pending_changed os n now_replied (slice_get os n) refl in let k = keeps now_replied (λ o. refl) (slice_get os n) in omega arith

-- a core offers it
is_a_cores : (core worker requests rest : Bool) (v : Event) → makes core worker requests v && rest ≡ true → offer_of v ≤ (if core then offer_of v else 0)
is_a_cores true worker requests rest v h = omega arith
is_a_cores false worker requests rest (Offer l n payload) h = let no : false ≡ true = h in absurd (cc)
is_a_cores false worker requests rest v h = omega arith

-- who is no core settles it
is_a_workers : (requests rest : Bool) (v : Event) → makes false true requests v && rest ≡ true → 1 - settles_of v ≡ 0
is_a_workers requests rest (Pass l n) h = refl
is_a_workers requests rest (Did l n answer) h = refl
is_a_workers requests rest other h = let no : false ≡ true = h in absurd (cc)

never_idle : (core worker requests rest : Bool) (v : Event) → (worker ≡ true → core ≡ false) → makes core worker requests v && rest ≡ true → (if worker then 1 - settles_of v else 0) ≡ 0
never_idle core false requests rest v one h = refl
never_idle false true requests rest v one h = is_a_workers requests rest v h
never_idle true true requests rest v one h = let no : true ≡ false = one refl in absurd (cc)

no_core : (party cores : ℕ) → nat_eq party cores ≡ true → nat_lt party cores ≡ false
no_core party cores h = grind (arith, nat_tests)

-- ---- a history

abbrev all_pending : List (List LinkOffer) → ℕ
all_pending [] = 0
all_pending (os ∷ links) = pending os + all_pending links

links_set : (links : List (List LinkOffer)) (i : ℕ) (os : List LinkOffer) → all_pending (set links i os) + pending (get_or links i []) ≤ all_pending links + pending os
links_set [] i os = omega arith
links_set (x ∷ links) zero os = omega arith
links_set (x ∷ links) (suc i) os = let ih = links_set links i os in omega arith

fourth : (a b c d e f : Bool) → a && b && c && d && e && f ≡ true → d ≡ true
fourth a b c d e f h = grind (arith, nat_tests)

sixth : (a b c d e f : Bool) → a && b && c && d && e && f ≡ true → f ≡ true
sixth a b c d e f h = grind (arith, nat_tests)

-- no more are settled, and the worker is never idle
settled_from : (past : Past) (es : List Stamped) → IsLegal past es
    → (count settled es ≤ all_pending past.links + count (offered_below past.cores) es) × (count (idle_of past.cores) es ≡ 0)
settled_from past [] h = (omega arith, refl)
settled_from past (e ∷ es) h =
    let l = link_of e.entry.event in
    let os = link_at past l in
    let terms = terms_of past.capacities past.channels l in
    let core = nat_lt e.party past.cores in
    let worker = e.party == past.cores in
    let wide = has_its_width past.widths e.entry.event in
    let makes_it = fourth (in_range past e) (is_later past.stamp past.party e) (has_stamp past e) (may_make past.channels past.cores e) wide (link_fits terms os e.entry.event) h.0 in
    let fits_it = sixth (in_range past e) (is_later past.stamp past.party e) (has_stamp past e) (may_make past.channels past.cores e) wide (link_fits terms os e.entry.event) h.0 in
    let own = is_a_cores core worker (nat_le past.channels l) (core || (e.entry.turn == 0)) e.entry.event makes_it in
    let busy = never_idle core worker (nat_le past.channels l) (core || (e.entry.turn == 0)) e.entry.event (no_core e.party past.cores) makes_it in
    let one = link_settles terms os e.entry.stamp e.entry.event fits_it in
    let all = links_set past.links l (link_after os e.entry.stamp e.entry.event) in
    let rest = settled_from (after past e) es h.1 in
    let fewer = rest.0 in
    let idle = rest.1 in
    (omega arith, omega arith)

none_pending : (n : ℕ) → all_pending (replicate n []) ≡ 0
none_pending zero = refl
none_pending (suc n) = let ih = none_pending n in omega arith

pub settled_at_most : (capacities widths : List ℕ) (cores : ℕ) (es : List Stamped) → IsLegal (start capacities widths cores) es
    → (count settled es ≤ count (offered_below cores) es) × (count (idle_of cores) es ≡ 0)
settled_at_most capacities widths cores es h =
    let p = settled_from (start capacities widths cores) es h in
    let fewer = p.0 in
    let z = none_pending (length capacities) in
    (omega arith, p.1)
