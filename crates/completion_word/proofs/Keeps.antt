-- Each step on a word keeps what is said of the words and of the parts of the two views that they rest on. For each kind of step there is a
-- lemma on the words and one on the views, over plain lists, without seats: what changes is one item, and `Lists` does the others.
use Rattle.std.proofs.Common.{◌≡◌, ℕ, ◌+◌, ◌-◌, ◌%◌, ◌^◌, ◌<◌, ◌≤◌, List, [], ◌∷◌, ◌++◌, length, get_or, set, Option, Some, None, sym}
use Rattle.std.proofs.Common.{refl, ap, ◌∙◌, subst, ⊎_elim, arith, length-append, length-set, get_or-set_other, get_or-set_same, le_refl}
use Rattle.std.specs.Option.{ForSome}
use Rattle.std.proofs.lemmas.List.{get_or_append_left}
use Rattle.std.proofs.lemmas.Bool.{cases_lt}
use Rattle.std.proofs.Math.Nat.{mod-lt, mod-eq_of_lt, add-mod_right}
use Rattle.completion_word.specs.declared.answers.Learnt.{Learnt}
use Rattle.completion_word.specs.declared.answers.Look.{Look}
use Rattle.completion_word.specs.declared.answers.Look.TheVariants as look
use Rattle.completion_word.specs.declared.standing.Standing.{Standing}
use Rattle.completion_word.specs.declared.standing.Standing.TheVariants.{Offered, Withdrawn}
use Rattle.completion_word.specs.declared.views.Offer.{Offer}
use Rattle.completion_word.specs.declared.views.DecisionKind.{DecisionKind}
use Rattle.completion_word.specs.declared.views.DecisionKind.TheVariants as outcome
use Rattle.completion_word.specs.declared.views.Decision.{Decision}
use Rattle.completion_word.specs.Link.{offer, decision, offer_at, decision_at, code, standing_of, open_by, open_standing, decided_standing, AreWords, Answers, IsTrueLook, Agree}
use Rattle.completion_word.specs.Steps.{learnt_of, with_learnt, look_of}
use Rattle.completion_word.proofs.Lists.{snoc_all, set_all, apart, apart_back, apart_both}
use Rattle.completion_word.proofs.Codes.{standing_is, learnt-open, with_learnt-decided, look-decided}
use Rattle.completion_word.proofs.Growth.{grows_push, grows_set, look_grows}

-- ---- post

pub words_post : (places : ℕ) (ws : List ℕ) (offers : List Offer) (ds : List Decision) (t : ℕ) → AreWords places ws offers ds → 0 < places → length ds ≤ length offers
    → length offers < length ds + places
    → AreWords places (set ws (length offers % places) (code (Offered t))) (offers ++ offer t ∷ []) ds
words_post places ws offers ds t h some_place decided room =
    let s = length offers in
    let r = length ds in
    let v = code (Offered t) in
    let longer : length (offers ++ offer t ∷ []) ≡ s + 1 = length-append offers (offer t ∷ []) in
    let wide = h.one_each in
    let here : s % places < length ws = omega (arith, mod-lt s some_place) in record {
      one_each = length-set ws (s % places) v ∙ wide;
      undecided = snoc_all (λ j y. r ≤ j → get_or (set ws (s % places) v) (j % places) 0 ≡ code (open_standing y)) offers (offer t) (offer 0)
          (λ j l rj. get_or-set_other ws (s % places) (j % places) v 0 (apart j s places l (omega arith)) ∙ h.undecided j l rj)
          (λ _. get_or-set_same ws (s % places) v 0 here);
      decided = λ k l near. get_or-set_other ws (s % places) (k % places) v 0 (apart k s places (omega arith) (omega arith)) ∙ h.decided k l (omega arith);
      unused = λ k sk l. get_or-set_other ws (s % places) k v 0 (λ same. let low : s % places ≡ s = mod-eq_of_lt (omega arith) in omega arith) ∙ h.unused k (omega arith) l;
    }

pub agree_post : (places : ℕ) (offers : List Offer) (learned : List DecisionKind) (last : ℕ) (ds : List Decision) (seen : Option Look) (t : ℕ) → Agree places offers learned last ds seen
    → length offers < length learned + places → last < t → t < 2 ^ 60
    → Agree places (offers ++ offer t ∷ []) learned t ds seen
agree_post places offers learned last ds seen t h room later small =
    let s = length offers in
    let r = length ds in
    let a = h.decided_offered in
    let few = h.counts_small in
    let longer : length (offers ++ offer t ∷ []) ≡ s + 1 = length-append offers (offer t ∷ []) in
    let old : (k : ℕ) → k < s → offer_at (offers ++ offer t ∷ []) k ≡ offer_at offers k = λ k l. get_or_append_left offers (offer t ∷ []) (offer 0) k l in record {
      learned_decided = h.learned_decided;
      decided_offered = omega arith;
      offered_within = omega arith;
      answered = λ k l. subst (λ x. Answers x (decision_at ds k)) (sym (old k (omega arith))) (h.answered k l);
      learned_true = h.learned_true;
      found_true = snoc_all (λ j y. ForSome y.found_taken (λ u. (j < r) × ((decision_at ds j).outcome ≡ outcome.Taken u))) offers (offer t) (offer 0) h.found_true (λ u none. absurd (cc));
      offers_stamped = snoc_all (λ j y. y.stamp ≤ t) offers (offer t) (offer 0) (λ j l. omega (arith, h.offers_stamped j l)) (le_refl t);
      withdrawals_stamped = snoc_all (λ j y. ForSome y.withdrawn (λ w. (y.stamp < w) × (w ≤ t))) offers (offer t) (offer 0)
          (λ j l w is. let q = h.withdrawals_stamped j l w is in (q.0, omega (arith, q.1)))
          (λ w none. absurd (cc));
      counts_small = (omega arith, small);
      look_true = λ k is. look_grows offers (offers ++ offer t ∷ []) r k (grows_push offers (offer t)) (h.look_true k is);
    }

-- ---- withdraw

pub words_withdraw : (places : ℕ) (ws : List ℕ) (offers : List Offer) (ds : List Decision) (k u : ℕ) (y : Offer) → AreWords places ws offers ds → 0 < places → length offers ≤ length ds + places
    → length ds ≤ k → k < length offers
    → y.withdrawn ≡ Some u → AreWords places (set ws (k % places) (code (Withdrawn u))) (set offers k y) ds
words_withdraw places ws offers ds k u y h some_place near undecided inside is =
    let r = length ds in
    let v = code (Withdrawn u) in
    let same : length (set offers k y) ≡ length offers = length-set offers k y in
    let wide = h.one_each in
    let here : k % places < length ws = omega (arith, mod-lt k some_place) in record {
      one_each = length-set ws (k % places) v ∙ wide;
      undecided = set_all (λ j z. r ≤ j → get_or (set ws (k % places) v) (j % places) 0 ≡ code (open_standing z)) offers k y (offer 0)
          (λ j l ne rj. get_or-set_other ws (k % places) (j % places) v 0 (apart_both j k r places ne rj undecided (omega arith) (omega arith)) ∙ h.undecided j l rj)
          (λ _ _. get_or-set_same ws (k % places) v 0 here ∙ ap (λ (w : Option ℕ). code (open_by y.stamp w)) (sym is));
      decided = λ j l far. get_or-set_other ws (k % places) (j % places) v 0 (apart j k places (omega arith) (omega arith)) ∙ h.decided j l (omega arith);
      unused = λ j sj l. get_or-set_other ws (k % places) j v 0 (λ at. let low : k % places ≡ k = mod-eq_of_lt (omega arith) in omega arith) ∙ h.unused j (omega arith) l;
    }

pub agree_withdraw : (places : ℕ) (offers : List Offer) (learned : List DecisionKind) (last : ℕ) (ds : List Decision) (seen : Option Look) (k u : ℕ) → Agree places offers learned last ds seen
    → length ds ≤ k → k < length offers → (offer_at offers k).withdrawn ≡ None → last < u → u < 2 ^ 60
    → Agree places (set offers k (record (offer_at offers k) { withdrawn = Some u })) learned u ds seen
agree_withdraw places offers learned last ds seen k u h undecided inside open_ later small =
    let r = length ds in
    let x = offer_at offers k in
    let y : Offer = record x { withdrawn = Some u } in
    let same : length (set offers k y) ≡ length offers = length-set offers k y in
    let a = h.decided_offered in
    let b = h.offered_within in
    let few = h.counts_small in record {
      learned_decided = h.learned_decided;
      decided_offered = omega arith;
      offered_within = omega arith;
      answered = λ j l. subst (λ z. Answers z (decision_at ds j)) (sym (get_or-set_other offers k j y (offer 0) (λ is. omega arith))) (h.answered j l);
      learned_true = h.learned_true;
      found_true = set_all (λ j z. ForSome z.found_taken (λ t. (j < r) × ((decision_at ds j).outcome ≡ outcome.Taken t))) offers k y (offer 0) (λ j l _. h.found_true j l) (λ l. h.found_true k l);
      offers_stamped = set_all (λ j z. z.stamp ≤ u) offers k y (offer 0) (λ j l _. omega (arith, h.offers_stamped j l)) (λ l. omega (arith, h.offers_stamped k l));
      withdrawals_stamped = set_all (λ j z. ForSome z.withdrawn (λ w. (z.stamp < w) × (w ≤ u))) offers k y (offer 0)
          (λ j l _ w is. let q = h.withdrawals_stamped j l w is in (q.0, omega (arith, q.1)))
          (λ l w is. let e : u ≡ w = cc in let q = h.offers_stamped k l in (omega arith, omega arith));
      counts_small = (omega arith, small);
      look_true = λ shown is. look_grows offers (set offers k y) r shown (grows_set offers k y refl (λ w now. absurd (cc))) (h.look_true shown is);
    }

-- a withdrawal that came too late leaves the words
pub words_find : (places : ℕ) (ws : List ℕ) (offers : List Offer) (ds : List Decision) (k : ℕ) (found : Option ℕ) → AreWords places ws offers ds
    → AreWords places ws (set offers k (record (offer_at offers k) { found_taken = found })) ds
words_find places ws offers ds k found h =
    let y : Offer = record (offer_at offers k) { found_taken = found } in
    let same : length (set offers k y) ≡ length offers = length-set offers k y in record {
      one_each = h.one_each;
      undecided = set_all (λ j z. length ds ≤ j → get_or ws (j % places) 0 ≡ code (open_standing z)) offers k y (offer 0) (λ j l _ rj. h.undecided j l rj) (λ l rk. h.undecided k l rk);
      decided = λ j l far. h.decided j l (omega arith);
      unused = λ j sj l. h.unused j (omega arith) l;
    }

pub agree_find : (places : ℕ) (offers : List Offer) (learned : List DecisionKind) (last : ℕ) (ds : List Decision) (seen : Option Look) (k t : ℕ) → Agree places offers learned last ds seen
    → k < length ds
    → (decision_at ds k).outcome ≡ outcome.Taken t
    → Agree places (set offers k (record (offer_at offers k) { found_taken = Some t })) learned last ds seen
agree_find places offers learned last ds seen k t h decided taken =
    let r = length ds in
    let x = offer_at offers k in
    let y : Offer = record x { found_taken = Some t } in
    let same : length (set offers k y) ≡ length offers = length-set offers k y in
    let a = h.decided_offered in
    let b = h.offered_within in
    let few = h.counts_small in record {
      learned_decided = h.learned_decided;
      decided_offered = omega arith;
      offered_within = omega arith;
      answered = λ j l. set_all (λ i z. i < r → Answers z (decision_at ds i)) offers k y (offer 0) (λ i _ _ m. h.answered i m) (λ _ m. h.answered k m) j (omega arith) l;
      learned_true = h.learned_true;
      found_true = set_all (λ j z. ForSome z.found_taken (λ u. (j < r) × ((decision_at ds j).outcome ≡ outcome.Taken u))) offers k y (offer 0)
          (λ j l _. h.found_true j l)
          (λ _ u is. let e : t ≡ u = cc in (decided, taken ∙ ap outcome.Taken e));
      offers_stamped = set_all (λ j z. z.stamp ≤ last) offers k y (offer 0) (λ j l _. h.offers_stamped j l) (λ l. h.offers_stamped k l);
      withdrawals_stamped = set_all (λ j z. ForSome z.withdrawn (λ w. (z.stamp < w) × (w ≤ last))) offers k y (offer 0) (λ j l _. h.withdrawals_stamped j l) (λ l. h.withdrawals_stamped k l);
      counts_small = (omega arith, few.1);
      look_true = λ shown is. look_grows offers (set offers k y) r shown (grows_set offers k y refl (λ w now. now)) (h.look_true shown is);
    }

-- ---- learn

agree_learnt : (places : ℕ) (offers : List Offer) (learned : List DecisionKind) (last : ℕ) (ds : List Decision) (seen : Option Look) → Agree places offers learned last ds seen
    → length learned < length ds
    → Agree places offers (learned ++ (decision_at ds (length learned)).outcome ∷ []) last ds seen
agree_learnt places offers learned last ds seen h more =
    let d = (decision_at ds (length learned)).outcome in
    let longer : length (learned ++ d ∷ []) ≡ length learned + 1 = length-append learned (d ∷ []) in
    let a = h.offered_within in record {
      learned_decided = omega arith;
      decided_offered = h.decided_offered;
      offered_within = omega arith;
      answered = h.answered;
      learned_true = snoc_all (λ j y. y ≡ (decision_at ds j).outcome) learned d (outcome.Taken 0) h.learned_true refl;
      found_true = h.found_true;
      offers_stamped = h.offers_stamped;
      withdrawals_stamped = h.withdrawals_stamped;
      counts_small = h.counts_small;
      look_true = h.look_true;
    }

pub agree_learn : (places : ℕ) (ws : List ℕ) (offers : List Offer) (learned : List DecisionKind) (last : ℕ) (ds : List Decision) (seen : Option Look) → AreWords places ws offers ds
    → Agree places offers learned last ds seen → length learned < length offers
    → Agree places offers (with_learnt (learnt_of (standing_of (get_or ws (length learned % places) 0))) learned) last ds seen
agree_learn places ws offers learned last ds seen words h some_left =
    let l = length learned in
    let n = get_or ws (l % places) 0 in
    let x = offer_at offers l in
    let d = decision_at ds l in
    let After : List DecisionKind → Type 0 = λ xs. Agree places offers xs last ds seen in
    ⊎_elim
    (λ (decided : l < length ds).
    let saw = standing_is n (decided_standing d) (words.decided l decided h.offered_within) in
    subst After (sym (ap (λ (s : Standing). with_learnt (learnt_of s) learned) saw ∙ with_learnt-decided d.outcome learned)) (agree_learnt places offers learned last ds seen h decided))
    (λ (undecided : length ds ≤ l).
    let saw = standing_is n (open_standing x) (words.undecided l some_left undecided) in
    subst After (sym (ap (λ (s : Standing). with_learnt (learnt_of s) learned) saw ∙ ap (λ (k : Learnt). with_learnt k learned) (learnt-open x.stamp x.withdrawn))) h)
    (cases_lt l (length ds))

-- ---- look

pub agree_seen : (places : ℕ) (offers : List Offer) (learned : List DecisionKind) (last : ℕ) (ds : List Decision) (seen seen' : Option Look) → Agree places offers learned last ds seen
    → ForSome seen' (IsTrueLook offers (length ds)) → Agree places offers learned last ds seen'
agree_seen places offers learned last ds seen seen' h true_ = record {
  learned_decided = h.learned_decided;
  decided_offered = h.decided_offered;
  offered_within = h.offered_within;
  answered = h.answered;
  learned_true = h.learned_true;
  found_true = h.found_true;
  offers_stamped = h.offers_stamped;
  withdrawals_stamped = h.withdrawals_stamped;
  counts_small = h.counts_small;
  look_true = true_;
}

-- the word in which the next offer will stand shows nothing
nothing_yet : (places : ℕ) (ws : List ℕ) (offers : List Offer) (ds : List Decision) → AreWords places ws offers ds → 0 < places → length ds ≤ length offers → length offers ≤ length ds
    → look_of (standing_of (get_or ws (length ds % places) 0)) ≡ look.Nothing
nothing_yet places ws offers ds h some_place decided all =
    let r = length ds in
    let Word : ℕ → Look = λ i. look_of (standing_of (get_or ws i 0)) in
    ⊎_elim
    (λ (l : r < places). let low : r % places ≡ r = mod-eq_of_lt l in ap Word low ∙ ap (λ (n : ℕ). look_of (standing_of n)) (h.unused r all l))
    (λ (l : places ≤ r).
    let k = r - places in
    let back : k + places ≡ r = omega arith in
    let same : r % places ≡ k % places = ap (λ (i : ℕ). i % places) (sym back) ∙ add-mod_right k places in
    let d = decision_at ds k in
    let saw = standing_is (get_or ws (k % places) 0) (decided_standing d) (h.decided k (omega arith) (omega arith)) in
    ap Word same ∙ ap look_of saw ∙ look-decided d.outcome)
    (cases_lt r places)

shown_true : (offers : List Offer) (r : ℕ) (w : Option ℕ) → r < length offers → (offer_at offers r).withdrawn ≡ w → IsTrueLook offers r (look_of (open_by (offer_at offers r).stamp w))
shown_true offers r None inside is = (inside, refl)
shown_true offers r (Some w) inside is = (inside, is)

pub agree_look : (places : ℕ) (ws : List ℕ) (offers : List Offer) (learned : List DecisionKind) (last : ℕ) (ds : List Decision) (seen : Option Look) → AreWords places ws offers ds → 0 < places
    → Agree places offers learned last ds seen
    → Agree places offers learned last ds (Some (look_of (standing_of (get_or ws (length ds % places) 0))))
agree_look places ws offers learned last ds seen words some_place h =
    let r = length ds in
    let n = get_or ws (r % places) 0 in
    let x = offer_at offers r in
    let True : Look → Type 0 = IsTrueLook offers r in
    let shown : True (look_of (standing_of n)) = ⊎_elim
    (λ (l : r < length offers).
    let saw = standing_is n (open_standing x) (words.undecided r l (le_refl r)) in
    subst (λ (s : Standing). True (look_of s)) (sym saw) (shown_true offers r x.withdrawn l refl))
    (λ (l : length offers ≤ r). subst True (sym (nothing_yet places ws offers ds words some_place h.decided_offered l)) tt)
    (cases_lt r (length offers)) in
    agree_seen places offers learned last ds seen (Some (look_of (standing_of n))) h (λ k is. let e : look_of (standing_of n) ≡ k = cc in subst True e shown)

-- ---- take and pass

pub words_decide : (places : ℕ) (ws : List ℕ) (offers : List Offer) (ds : List Decision) (d : Decision) → AreWords places ws offers ds → 0 < places → length ds < length offers
    → length offers ≤ length ds + places
    → AreWords places (set ws (length ds % places) (code (decided_standing d))) offers (ds ++ d ∷ [])
words_decide places ws offers ds d h some_place open_ near =
    let s = length offers in
    let r = length ds in
    let v = code (decided_standing d) in
    let longer : length (ds ++ d ∷ []) ≡ r + 1 = length-append ds (d ∷ []) in
    let wide = h.one_each in
    let here : r % places < length ws = omega (arith, mod-lt r some_place) in record {
      one_each = length-set ws (r % places) v ∙ wide;
      undecided = λ k l rk. get_or-set_other ws (r % places) (k % places) v 0 (apart_back r k places (omega arith) (omega arith)) ∙ h.undecided k l (omega arith);
      decided = snoc_all (λ j y. s ≤ j + places → get_or (set ws (r % places) v) (j % places) 0 ≡ code (decided_standing y)) ds d (decision (outcome.Taken 0) 0)
          (λ j l far. get_or-set_other ws (r % places) (j % places) v 0 (apart j r places l (omega arith)) ∙ h.decided j l far)
          (λ _. get_or-set_same ws (r % places) v 0 here);
      unused = λ k sk l. get_or-set_other ws (r % places) k v 0 (λ at. let low : r % places ≡ r = mod-eq_of_lt (omega arith) in omega arith) ∙ h.unused k sk l;
    }

pub agree_decide : (places : ℕ) (offers : List Offer) (learned : List DecisionKind) (last : ℕ) (ds : List Decision) (seen : Option Look) (d : Decision) → Agree places offers learned last ds seen
    → length ds < length offers → Answers (offer_at offers (length ds)) d
    → Agree places offers learned last (ds ++ d ∷ []) None
agree_decide places offers learned last ds seen d h open_ answer =
    let r = length ds in
    let longer : length (ds ++ d ∷ []) ≡ r + 1 = length-append ds (d ∷ []) in
    let old : (k : ℕ) → k < r → decision_at (ds ++ d ∷ []) k ≡ decision_at ds k = λ k l. get_or_append_left ds (d ∷ []) (decision (outcome.Taken 0) 0) k l in
    let a = h.learned_decided in record {
      learned_decided = omega arith;
      decided_offered = omega arith;
      offered_within = h.offered_within;
      answered = snoc_all (λ j y. Answers (offer_at offers j) y) ds d (decision (outcome.Taken 0) 0) h.answered answer;
      learned_true = λ k l. h.learned_true k l ∙ ap (λ (y : Decision). y.outcome) (sym (old k (omega arith)));
      found_true = λ k l t is. let q = h.found_true k l t is in (omega (arith, q.0), ap (λ (y : Decision). y.outcome) (old k q.0) ∙ q.1);
      offers_stamped = h.offers_stamped;
      withdrawals_stamped = h.withdrawals_stamped;
      counts_small = h.counts_small;
      look_true = λ k none. absurd (cc);
    }
