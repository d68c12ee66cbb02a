-- From pairs of views that agree, and journals with their stamps, to the merged history. For `network_is_legal` and `deeds_are_the_workers`.
-- Of each link only two parties have entries (`parts_two`); whether the owner or the peer is the earlier decides which law of ac_links is used (`owner_first`, `peer_first`).
-- What each party noted is what the links tell (`right`), each entry is made by one that may make it, and Whole puts links and journals together.
use Rattle.std.proofs.Common.{◌≡◌, ◌≢◌, ℕ, zero, suc, ◌+◌, ◌-◌, ◌<◌, ◌≤◌, List, [], ◌∷◌, ◌++◌, Option, Bool, true, false, cond, refl, sym, ap, ◌∙◌, subst, inl, inr, ◌⊎◌, arith, length, get_or}
use Rattle.std.specs.Prelude.{◌==◌, ◌&&◌, ◌||◌, not, nat_lt, nat_le}
use Rattle.std.specs.List.{filter, AllByRecursion}
use Rattle.std.proofs.lemmas.Bool.Decides.{nat_tests, leb_tells, eqb_tells}
use Rattle.std.proofs.lemmas.List.{append-nil}
use Rattle.std.proofs.lemmas.List.Elements.{filter-append}
use Rattle.ac_base.specs.declared.entry.Payload.{Payload}
use Rattle.ac_base.specs.declared.entry.Event.{Event}
use Rattle.ac_base.specs.declared.entry.Event.TheVariants.{Offer, Withdraw, Know, Room, Got, Pass, Did, Reply}
use Rattle.ac_base.specs.declared.entry.Entry.{Entry}
use Rattle.ac_base.specs.declared.entry.Stamped.{Stamped}
use Rattle.ac_links.specs.declared.offer.LinkOffer.{LinkOffer}
use Rattle.ac_links.specs.declared.payloads.Terms.{Terms}
use Rattle.ac_links.specs.Order.{of_party, in_order, stamp_of, is_of_link, Rises}
use Rattle.ac_links.specs.Link.{link_after, link_of}
use Rattle.ac_links.specs.Journals.{LinkAgrees}
use Rattle.ac_links.specs.Views.{OwnerOffer, PeerDecision, owner_fits, owner_after, peer_fits, decision_of, OwnerRuns, PeerRuns}
use Rattle.ac_links.specs.Noted.{seen_of, request_of}
use Rattle.ac_links.specs.Combined.{link_after_all, combine}
use Rattle.ac_history.specs.Merged.{all_from, merged}
use Rattle.ac_history.specs.History.{terms_of, makes, may_make, IsLegal, start}
use Rattle.ac_history.specs.Files.{deeds, deeds_by}
use Rattle.ac_history.specs.Agreement.{InRange, AllMade, AllOfTheirWidth, link_part, AllStamps}
use Rattle.ac_history.specs.Network.{Pair, entries_at, IsPeer, PairAgrees, seen_by, request_by, worker_entries, NetworkAgrees}
use Rattle.ac_links.proofs.Sorting.{rises_filter}
use Rattle.ac_links.proofs.Pair.{owner_first, peer_first, owner_first_ends, peer_first_ends}
use Rattle.ac_links.proofs.Told.{told_owner, told_peer}
use Rattle.ac_links.proofs.Parted.{by_link, kept}
use Rattle.ac_links.proofs.Growth.{both_true}
use Rattle.ac_history.proofs.Parts.{rises_party, stamps_at, each_in_order}
use Rattle.ac_history.proofs.Journals.{all_same, each_journal, zero_sum, from_journals}
use Rattle.ac_history.proofs.Whole.{legal_merged, deeds_merged}

not_eq : (m n : ℕ) → m < n → (m == n) ≡ false
not_eq m n h = grind (arith, nat_tests)

strict : (b a : ℕ) → b ≤ a → a ≢ b → b < a
strict b a h n = omega arith

module _ (l : ℕ) where
  abbrev part : ℕ → List Entry → List Stamped
  part p j = filter (is_of_link l) (of_party p j)

  joined : (q : ℕ) (j : List Entry) (js : List (List Entry)) (xs ys : List Stamped) → part q j ≡ xs → filter (is_of_link l) (all_from (suc q) js) ≡ ys
      → filter (is_of_link l) (all_from q (j ∷ js)) ≡ xs ++ ys
  joined q j js xs ys e f = filter-append (is_of_link l) (of_party q j) (all_from (suc q) js) ∙ ap (λ r. r ++ filter (is_of_link l) (all_from (suc q) js)) e ∙ ap (λ r. xs ++ r) f

  parts_none : (q : ℕ) (js : List (List Entry)) → ((k p : ℕ) → p ≡ q + k → part p (get_or js k []) ≡ []) → filter (is_of_link l) (all_from q js) ≡ []
  parts_none q [] h = refl
  parts_none q (j ∷ js) h = joined q j js [] [] (h 0 q (omega arith)) (parts_none (suc q) js (λ k p e. h (suc k) p (omega arith)))

  parts_one : (q : ℕ) (js : List (List Entry)) (i a : ℕ) → a ≡ q + i → ((k p : ℕ) → p ≡ q + k → p ≢ a → part p (get_or js k []) ≡ []) → filter (is_of_link l) (all_from q js) ≡ part a (get_or js i [])
  parts_one q [] i a e h = refl
  parts_one q (j ∷ js) zero a e h = joined q j js (part a j) [] (let s : q ≡ a = omega arith in ap (λ n. part n j) s) (parts_none (suc q) js (λ k p f. h (suc k) p (omega arith) (λ g. omega arith)))
      ∙ append-nil (part a j)
  parts_one q (j ∷ js) (suc i) a e h = joined q j js [] (part a (get_or js i [])) (h 0 q (omega arith) (λ g. omega arith))
      (parts_one (suc q) js i a (omega arith) (λ k p f n. h (suc k) p (omega arith) n))

  -- the entries of a link come from the journals of its two parties
  parts_two : (q : ℕ) (js : List (List Entry)) (i a k b : ℕ) → a ≡ q + i → b ≡ q + k → a < b → ((m p : ℕ) → p ≡ q + m → p ≢ a → p ≢ b → part p (get_or js m []) ≡ [])
      → filter (is_of_link l) (all_from q js) ≡ part a (get_or js i []) ++ part b (get_or js k [])
  parts_two q [] i a k b e f lt h = refl
  parts_two q (j ∷ js) zero a zero b e f lt h = absurd (omega arith)
  parts_two q (j ∷ js) (suc i) a zero b e f lt h = absurd (omega arith)
  parts_two q (j ∷ js) zero a (suc k) b e f lt h = joined q j js (part a j) (part b (get_or js k [])) (let s : q ≡ a = omega arith in ap (λ n. part n j) s)
      (parts_one (suc q) js k b (omega arith) (λ m p g n. h (suc m) p (omega arith) (λ w. omega arith) n))
  parts_two q (j ∷ js) (suc i) a (suc k) b e f lt h = joined q j js [] (part a (get_or js i []) ++ part b (get_or js k [])) (h 0 q (omega arith) (λ g. omega arith) (λ g. omega arith))
      (parts_two (suc q) js i a k b (omega arith) (omega arith) lt (λ m p g n o. h (suc m) p (omega arith) n o))

-- what a link's own entries answer is told by its own ends
same_seen : (seen other : Event → ℕ) (asks its : Event → Option Payload) (l : ℕ) (terms : Terms) → ((e : Event) → link_of e ≡ l → other e ≡ seen e) → ((e : Event) → link_of e ≡ l → its e ≡ asks e)
    → (os : List LinkOffer) (es : List Stamped) → AllByRecursion (λ e. link_of e.entry.event ≡ l) es → LinkAgrees seen asks terms os es → LinkAgrees other its terms os es
same_seen seen other asks its l terms h k os [] a g = tt
same_seen seen other asks its l terms h k os (e ∷ es) a g = (
  g.0,
  h e.entry.event a.0 ∙ g.1,
  k e.entry.event a.0
      ∙ g.2,
  same_seen seen other asks its l terms h k (link_after os e.entry.stamp e.entry.event) es a.1 g.3,
)

-- a link that is out of range has no entries
no_part : (l n : ℕ) (xs : List Stamped) → n ≤ l → InRange n xs → filter (is_of_link l) xs ≡ []
no_part l n [] h a = refl
no_part l n (x ∷ xs) h a = let e : (link_of x.entry.event == l) ≡ false = (let p = a.0 in not_eq (link_of x.entry.event) l (omega arith)) in
    ap (λ b. cond b (x ∷ filter (is_of_link l) xs) (filter (is_of_link l) xs)) e ∙ no_part l n xs h a.1

-- of the entries of link l, as all links tell it
as_told : (own seen other : Event → ℕ) (l : ℕ) (es : List Stamped) → ((e : Event) → link_of e ≡ l → other e ≡ seen e) → AllByRecursion (λ e. link_of e.entry.event ≡ l) es
    → AllByRecursion (λ e. own e.entry.event ≡ seen e.entry.event) es → AllByRecursion (λ e. own e.entry.event ≡ other e.entry.event) es
as_told own seen other l [] h a b = tt
as_told own seen other l (e ∷ es) h a b = (b.0 ∙ sym (h e.entry.event a.0), as_told own seen other l es h a.1 b.1)

-- which party may make what

owner_makes : (terms : Terms) (os : List OwnerOffer) (e : Event) → owner_fits terms os e ≡ true → (core worker requests : Bool) → core ≡ true → makes core worker requests e ≡ true
owner_makes terms os (Offer l n p) h core worker requests c = c
owner_makes terms os (Withdraw l n) h core worker requests c = c
owner_makes terms os (Know l n) h core worker requests c = c
owner_makes terms os (Room l n) h core worker requests c = c
owner_makes terms os (Got l n v) h core worker requests c = cc
owner_makes terms os (Pass l n) h core worker requests c = cc
owner_makes terms os (Did l n w) h core worker requests c = cc
owner_makes terms os (Reply l n w) h core worker requests c = c

-- the peer is the worker on a link of requests, and a core on a channel
abbrev Plays : Bool → Bool → Bool → Type 0
Plays core worker true = worker ≡ true
Plays core worker false = core ≡ true

peer_makes : (terms : Terms) (ds : List PeerDecision) (e : Event) → peer_fits terms ds e ≡ true → (core worker requests : Bool) → terms.requests ≡ requests → Plays core worker requests
    → makes core worker requests e ≡ true
peer_makes terms ds (Offer l n p) h core worker requests r c = cc
peer_makes terms ds (Withdraw l n) h core worker requests r c = cc
peer_makes terms ds (Know l n) h core worker requests r c = cc
peer_makes terms ds (Room l n) h core worker requests r c = cc
peer_makes terms ds (Got l n v) h core worker true r c = let t = (both_true (not terms.requests) (n == length ds) h).0 in let u : not terms.requests ≡ false = ap not r in cc
peer_makes terms ds (Got l n v) h core worker false r c = rw c refl
peer_makes terms ds (Pass l n) h core worker true r c = c
peer_makes terms ds (Pass l n) h core worker false r c = c
peer_makes terms ds (Did l n w) h core worker true r c = rw c refl
peer_makes terms ds (Did l n w) h core worker false r c = let t = (both_true terms.requests (n == length ds) h).0 in cc
peer_makes terms ds (Reply l n w) h core worker requests r c = cc

and_true : (a b : Bool) → a ≡ true → b ≡ true → a && b ≡ true
and_true a b p q = rw (p, q)

lt_true : (m n : ℕ) → m < n → nat_lt m n ≡ true
lt_true m n h = grind (arith, nat_tests)

eq_true : (m n : ℕ) → m ≡ n → (m == n) ≡ true
eq_true m n h = grind (arith, nat_tests)

or_left : (a b : Bool) → a ≡ true → a || b ≡ true
or_left a b p = rw p refl

or_right : (a b : Bool) → b ≡ true → a || b ≡ true
or_right true b p = refl
or_right false b p = p

abbrev IsTurn : ℕ → Stamped → Type 0
IsTurn cores e = (nat_lt e.party cores || (e.entry.turn == 0)) ≡ true

module _ (channels cores l a : ℕ) (terms : Terms) (mine : Event → ℕ) (kind : terms.requests ≡ nat_le channels l) where
  abbrev Here : Stamped → Type 0
  Here e = (link_of e.entry.event ≡ l) × (e.party ≡ a) × IsTurn cores e

  made_at : (e : Stamped) → Here e → makes (nat_lt a cores) (a == cores) (nat_le channels l) e.entry.event ≡ true → may_make channels cores e ≡ true
  made_at e h m = and_true _ _
      (subst (λ k. makes (nat_lt k cores) (k == cores) (nat_le channels (link_of e.entry.event)) e.entry.event ≡ true) (sym h.1)
      (subst (λ k. makes (nat_lt a cores) (a == cores) (nat_le channels k) e.entry.event ≡ true) (sym h.0) m)) h.2

  made_owner : a < cores → (os : List OwnerOffer) (es : List Stamped) (fs : List OwnerOffer) → OwnerRuns terms mine os es fs → AllByRecursion Here es → AllMade channels cores es
  made_owner lt os [] fs r h = tt
  made_owner lt os (e ∷ es) fs r h = (
    made_at e h.0 (owner_makes terms os e.entry.event r.0 _ _ _ (lt_true a cores lt)),
    made_owner lt (owner_after os e.entry.stamp (mine e.entry.event) e.entry.event) es fs r.2 h.1,
  )

  made_peer : Plays (nat_lt a cores) (a == cores) (nat_le channels l) → (ds : List PeerDecision) (es : List Stamped) (gs : List PeerDecision) → PeerRuns terms mine ds es gs → AllByRecursion Here es
      → AllMade channels cores es
  made_peer p ds [] gs r h = tt
  made_peer p ds (e ∷ es) gs r h = (
    made_at e h.0 (peer_makes terms ds e.entry.event r.0 _ _ _ kind p),
    made_peer p (ds ++ decision_of e.entry.stamp (mine e.entry.event) e.entry.event ∷ []) es gs r.2 h.1,
  )

plays : (cores a : ℕ) (requests : Bool) → IsPeer cores requests a → Plays (nat_lt a cores) (a == cores) requests
plays cores a true h = eq_true a cores h
plays cores a false h = lt_true a cores h

-- what holds of a journal's entries holds of those of one link
each_filter_at : (P : Stamped → Type 0) (f : Stamped → Bool) (x : Stamped) (xs : List Stamped) → P x → AllByRecursion P (filter f xs) → (b : Bool) → f x ≡ b
    → AllByRecursion P (cond b (x ∷ filter f xs) (filter f xs))
each_filter_at P f x xs p a true e = (p, a)
each_filter_at P f x xs p a false e = a

each_filter : (P : Stamped → Type 0) (f : Stamped → Bool) (xs : List Stamped) → AllByRecursion P xs → AllByRecursion P (filter f xs)
each_filter P f [] a = tt
each_filter P f (x ∷ xs) a = each_filter_at P f x xs a.0 (each_filter P f xs a.1) (f x) refl

all_party : (p : ℕ) (j : List Entry) → AllByRecursion (λ e. e.party ≡ p) (of_party p j)
all_party p [] = tt
all_party p (e ∷ es) = (refl, all_party p es)

-- the turns of a core are its own, and those of the worker are 0
core_turns : (cores p : ℕ) (j : List Entry) → p < cores → AllByRecursion (IsTurn cores) (of_party p j)
core_turns cores p [] h = tt
core_turns cores p (e ∷ es) h = (or_left _ _ (lt_true p cores h), core_turns cores p es h)

worker_turns : (cores : ℕ) (xs : List Stamped) → AllByRecursion (λ e. e.entry.turn ≡ 0) xs → AllByRecursion (IsTurn cores) xs
worker_turns cores [] a = tt
worker_turns cores (x ∷ xs) a = (or_right _ _ (eq_true x.entry.turn 0 a.0), worker_turns cores xs a.1)

all_here : (cores l a : ℕ) (xs : List Stamped) → AllByRecursion (λ e. link_of e.entry.event ≡ l) xs → AllByRecursion (λ e. e.party ≡ a) xs → AllByRecursion (IsTurn cores) xs
    → AllByRecursion (λ e. (link_of e.entry.event ≡ l) × (e.party ≡ a) × IsTurn cores e) xs
all_here cores l a [] h k t = tt
all_here cores l a (x ∷ xs) h k t = ((h.0, k.0, t.0), all_here cores l a xs h.1 k.1 t.1)

module _ (capacities widths : List ℕ) (cores : ℕ) (mine : ℕ → Event → ℕ) (pairs : ℕ → Pair) (js : List (List Entry)) (net : NetworkAgrees capacities cores mine pairs js) where
  abbrev channels : ℕ
  channels = length capacities - cores

  seen_at : (l : ℕ) (e : Event) → link_of e ≡ l → seen_by pairs e ≡ seen_of (pairs l).offers (pairs l).decisions e
  seen_at l e h = ap (λ k. seen_of (pairs k).offers (pairs k).decisions e) h

  told_pair : (l p : ℕ) → (w : PairAgrees cores mine js l (pairs l)) → AllByRecursion (λ e. mine p e.entry.event ≡ seen_of (pairs l).offers (pairs l).decisions e.entry.event) (entries_at l js p)
  told_pair l p w =
      let fs = (pairs l).offers in
      let gs = (pairs l).decisions in
      let goal : ℕ → Type 0 = λ k. AllByRecursion (λ e. mine k e.entry.event ≡ seen_of fs gs e.entry.event) (entries_at l js k) in
      elim (eqb_tells (pairs l).owner p) [
        | inl v ↦ subst goal v.1 (told_owner fs gs w.both (mine (pairs l).owner) (net.first (pairs l).owner) (pairs l).terms [] (entries_at l js (pairs l).owner) w.owner)
        | inr v ↦ elim (eqb_tells (pairs l).peer p) [
          | inl u ↦ subst goal u.1 (told_peer fs gs w.both (mine (pairs l).peer) (net.first (pairs l).peer) (pairs l).terms [] (entries_at l js (pairs l).peer) w.peer)
          | inr u ↦ subst (AllByRecursion (λ e. mine p e.entry.event ≡ seen_of fs gs e.entry.event)) (sym (w.others p (λ q. v.1 (sym q)) (λ q. u.1 (sym q)))) tt
        ]
      ]

  told_link : (l p : ℕ) → AllByRecursion (λ e. mine p e.entry.event ≡ seen_by pairs e.entry.event) (entries_at l js p)
  told_link l p = elim (leb_tells (length capacities) l) [
    | inl v ↦ subst (AllByRecursion (λ e. mine p e.entry.event ≡ seen_by pairs e.entry.event))
        (sym (no_part l (length capacities) (of_party p (get_or js p [])) v.1 (each_journal _ 0 p p (omega arith) js net.range))) tt
    | inr v ↦ as_told (mine p) (seen_of (pairs l).offers (pairs l).decisions) (seen_by pairs) l (entries_at l js p) (seen_at l) (kept l (of_party p (get_or js p []))) (told_pair l p (net.pair l v.1))
  ]

  right : AllStamps (seen_by pairs) js
  right = all_same mine (seen_by pairs) 0 js net.stamps (λ k p e. subst (λ n. AllByRecursion (λ x. mine p x.entry.event ≡ seen_by pairs x.entry.event) (of_party p (get_or js n []))) (zero_sum p k e)
      (by_link _ (of_party p (get_or js p [])) (λ l. told_link l p)))

  rises_at : (l p : ℕ) → Rises stamp_of (entries_at l js p)
  rises_at l p = rises_filter stamp_of (is_of_link l) (of_party p (get_or js p [])) (rises_party (seen_by pairs) 0 p (get_or js p []) (stamps_at (seen_by pairs) js right p))

  -- the entries of a link are those of its two ends, one after the other
  of_both : (l : ℕ) (w : PairAgrees cores mine js l (pairs l)) (goal : List Stamped → Type 0)
      → goal (entries_at l js (pairs l).owner ++ entries_at l js (pairs l).peer) → goal (entries_at l js (pairs l).peer ++ entries_at l js (pairs l).owner)
      → goal (filter (is_of_link l) (all_from 0 js))
  of_both l w goal forth back =
      let a = (pairs l).owner in
      let b = (pairs l).peer in
      elim (leb_tells b a) [
        | inl v ↦ subst goal (sym (parts_two l 0 js b b a a (omega arith) (omega arith) (let ne = w.apart in let le = v.1 in strict b a le ne) (λ m p e n o. subst (λ k. part l p
            (get_or js k []) ≡ []) (zero_sum p m e) (w.others p o n)))) back
        | inr v ↦ subst goal (sym (parts_two l 0 js a a b b (omega arith) (omega arith) v.1 (λ m p e n o. subst (λ k. part l p (get_or js k []) ≡ []) (zero_sum p m e) (w.others p n o)))) forth
      ]

  ends_agree : (l : ℕ) → (w : PairAgrees cores mine js l (pairs l)) → LinkAgrees (seen_of (pairs l).offers (pairs l).decisions) (request_of (pairs l).offers) (pairs l).terms [] (link_part l js)
  ends_agree l w =
      let a = (pairs l).owner in
      let b = (pairs l).peer in
      of_both l w (λ xs. LinkAgrees (seen_of (pairs l).offers (pairs l).decisions) (request_of (pairs l).offers) (pairs l).terms [] (in_order stamp_of xs))
      (owner_first (pairs l).terms (pairs l).offers (pairs l).decisions w.both (mine a) (mine b) (entries_at l js a) (entries_at l js b) w.owner w.peer (rises_at l a) (rises_at l b))
      (peer_first (pairs l).terms (pairs l).offers (pairs l).decisions w.both (mine a) (mine b) (entries_at l js a) (entries_at l js b) w.owner w.peer (rises_at l a) (rises_at l b))

  -- after all its entries a link is what its two views make it
  pub pair_ends : (l : ℕ) → (w : PairAgrees cores mine js l (pairs l)) → link_after_all [] (link_part l js) ≡ combine (pairs l).offers (pairs l).decisions
  pair_ends l w =
      let a = (pairs l).owner in
      let b = (pairs l).peer in
      of_both l w (λ xs. link_after_all [] (in_order stamp_of xs) ≡ combine (pairs l).offers (pairs l).decisions)
      (owner_first_ends (pairs l).terms (pairs l).offers (pairs l).decisions w.both (mine a) (mine b) (entries_at l js a) (entries_at l js b) w.owner w.peer (rises_at l a) (rises_at l b))
      (peer_first_ends (pairs l).terms (pairs l).offers (pairs l).decisions w.both (mine a) (mine b) (entries_at l js a) (entries_at l js b) w.owner w.peer (rises_at l a) (rises_at l b))

  paid_at : (l : ℕ) (e : Event) → link_of e ≡ l → request_by pairs e ≡ request_of (pairs l).offers e
  paid_at l e h = ap (λ k. request_of (pairs k).offers e) h

  link_agrees : (l : ℕ) → LinkAgrees (seen_by pairs) (request_by pairs) (terms_of capacities channels l) [] (link_part l js)
  link_agrees l = elim (leb_tells (length capacities) l) [
    | inl v ↦ subst (LinkAgrees (seen_by pairs) (request_by pairs) (terms_of capacities channels l) []) (sym (ap (in_order stamp_of) (no_part l (length capacities) (all_from 0 js) v.1 net.range))) tt
    | inr v ↦ subst (λ t. LinkAgrees (seen_by pairs) (request_by pairs) t [] (link_part l js)) (net.terms l v.1)
        (same_seen (seen_of (pairs l).offers (pairs l).decisions) (seen_by pairs) (request_of (pairs l).offers) (request_by pairs) l (pairs l).terms (seen_at l) (paid_at l) [] (link_part l js)
        (each_in_order stamp_of _ (filter (is_of_link l) (all_from 0 js)) (kept l (all_from 0 js))) (ends_agree l (net.pair l v.1)))
  ]

  turns_at : (p : ℕ) → p < cores ⊎ (p ≡ cores) → AllByRecursion (IsTurn cores) (of_party p (get_or js p []))
  turns_at p (inl h) = core_turns cores p (get_or js p []) h
  turns_at p (inr h) = subst (λ k. AllByRecursion (IsTurn cores) (of_party k (get_or js k []))) (sym h) (worker_turns cores (worker_entries cores js) net.turns)

  here : (l p : ℕ) → p < cores ⊎ (p ≡ cores) → AllByRecursion (λ e. (link_of e.entry.event ≡ l) × (e.party ≡ p) × IsTurn cores e) (entries_at l js p)
  here l p h =
      let xs = of_party p (get_or js p []) in
      all_here cores l p (entries_at l js p) (kept l xs) (each_filter _ (is_of_link l) xs (all_party p (get_or js p []))) (each_filter _ (is_of_link l) xs (turns_at p h))

  within : (requests : Bool) (p : ℕ) → IsPeer cores requests p → p < cores ⊎ (p ≡ cores)
  within true p h = inr h
  within false p h = inl h

  made_pair : (l p : ℕ) → l < length capacities → PairAgrees cores mine js l (pairs l) → AllMade channels cores (entries_at l js p)
  made_pair l p lt w =
      let kind : (pairs l).terms.requests ≡ nat_le channels l = ap (λ t. t.requests) (net.terms l lt) in
      let a = (pairs l).owner in
      let b = (pairs l).peer in
      elim (eqb_tells a p) [
        | inl v ↦ subst (λ k. AllMade channels cores (entries_at l js k)) v.1
            (made_owner channels cores l a (pairs l).terms (mine a) kind w.core [] (entries_at l js a) (pairs l).offers w.owner (here l a (inl w.core)))
        | inr v ↦ elim (eqb_tells b p) [
          | inl u ↦ subst (λ k. AllMade channels cores (entries_at l js k)) u.1
              (made_peer channels cores l b (pairs l).terms (mine b) kind (subst (Plays (nat_lt b cores) (b == cores)) kind (plays cores b (pairs l).terms.requests w.party))
              [] (entries_at l js b) (pairs l).decisions w.peer (here l b (within (pairs l).terms.requests b w.party)))
          | inr u ↦ subst (AllMade channels cores) (sym (w.others p (λ q. v.1 (sym q)) (λ q. u.1 (sym q)))) tt
        ]
      ]

  made_link : (l p : ℕ) → AllMade channels cores (entries_at l js p)
  made_link l p = elim (leb_tells (length capacities) l) [
    | inl v ↦ subst (AllMade channels cores) (sym (no_part l (length capacities) (of_party p (get_or js p [])) v.1 (each_journal _ 0 p p (omega arith) js net.range))) tt
    | inr v ↦ made_pair l p v.1 (net.pair l v.1)
  ]

  pub made : AllMade channels cores (all_from 0 js)
  made = from_journals _ 0 js (λ k p e. subst (λ n. AllMade channels cores (of_party p (get_or js n []))) (zero_sum p k e) (by_link _ (of_party p (get_or js p [])) (λ l. made_link l p)))

  pub legal_network : AllOfTheirWidth widths (all_from 0 js) → IsLegal (start capacities widths cores) (merged js)
  legal_network = legal_merged (seen_by pairs) (request_by pairs) capacities widths cores js net.parties right link_agrees made net.range

  pub deeds_network : deeds (start capacities widths cores) (merged js) ≡ deeds_by (request_by pairs) (worker_entries cores js)
  deeds_network = deeds_merged (seen_by pairs) (request_by pairs) capacities widths cores js net.parties right link_agrees made net.range
