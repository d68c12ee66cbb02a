-- One entry more of one side: its end and its journal go on agreeing.
-- A side's notes are read from its view at the end, so a longer view must note the same of each entry before: what it knew and had is kept (Growth).
-- The runs themselves are lengthened by induction on the entries.
use Rattle.std.proofs.Common.{◌≡◌, ℕ, zero, suc, ◌<◌, ◌≤◌, List, [], ◌∷◌, ◌++◌, Option, Some, true, not, refl, sym, ap, ◌∙◌, subst, arith, length}
use Rattle.std.specs.Prelude.{slice_get, ◌==◌}
use Rattle.std.proofs.lemmas.List.{length-append}
use Rattle.std.proofs.lemmas.Bool.Decides.{nat_tests}
use Rattle.std.specs.List.{AllByRecursion}
use Rattle.ac_base.specs.declared.entry.Answer.{Answer}
use Rattle.ac_base.specs.declared.entry.Event.{Event}
use Rattle.ac_base.specs.declared.entry.Event.TheVariants.{Offer, Withdraw, Know, Room, Got, Pass, Did, Reply}
use Rattle.ac_base.specs.declared.entry.Entry.{Entry}
use Rattle.ac_base.specs.declared.entry.Stamped.{Stamped}
use Rattle.ac_base.specs.Stamps.{next_stamp}
use Rattle.ac_links.specs.Journals.{HasStamps, last_of}
use Rattle.ac_links.specs.declared.payloads.Terms.{Terms}
use Rattle.ac_links.specs.Views.{OwnerOffer, PeerDecision, Response, peer_fits, decision_of, PeerRuns, owner_fits, owner_after, known_at, replied_with, OwnerRuns}
use Rattle.ac_links.specs.Noted.{answers_stamp, peer_noted, or_zero, known_stamp, response_stamp, reply_stamp, owner_noted}
use Rattle.ac_links.proofs.Growth.{OptKeeps, Before, both_true, may_withdraw_is, may_free_is, may_reply_is, before_same, before_step, before_of, before_at, altered_at}
use Rattle.ac_links.proofs.Told.{from_zero}

true_eq : (m n : ℕ) → (m == n) ≡ true → m ≡ n
true_eq m n h = grind (arith, nat_tests)

pub runs_same : (terms : Terms) (m m' : Event → ℕ) (os : List OwnerOffer) (es : List Stamped) (fs : List OwnerOffer) → AllByRecursion (λ e. m e.entry.event ≡ m' e.entry.event) es
    → OwnerRuns terms m os es fs → OwnerRuns terms m' os es fs
runs_same terms m m' os [] fs a r = r
runs_same terms m m' os (e ∷ es) fs a r = (
  r.0,
  subst (λ k. k < e.entry.stamp) a.0 r.1,
  subst (λ k. OwnerRuns terms m' (owner_after os e.entry.stamp k e.entry.event) es fs) a.0 (runs_same terms m m' (owner_after os e.entry.stamp (m e.entry.event) e.entry.event) es fs a.1 r.2),
)

runs_push : (terms : Terms) (m : Event → ℕ) (os : List OwnerOffer) (es : List Stamped) (fs : List OwnerOffer) (e : Stamped) → OwnerRuns terms m os es fs → owner_fits terms fs e.entry.event ≡ true
    → m e.entry.event < e.entry.stamp
    → OwnerRuns terms m os (es ++ e ∷ []) (owner_after fs e.entry.stamp (m e.entry.event) e.entry.event)
runs_push terms m os [] fs e r h lt = (subst (λ x. owner_fits terms x e.entry.event ≡ true) r h, lt, ap (λ x. owner_after x e.entry.stamp (m e.entry.event) e.entry.event) r)
runs_push terms m os (x ∷ es) fs e r h lt = (r.0, r.1, runs_push terms m (owner_after os x.entry.stamp (m x.entry.event) x.entry.event) es fs e r.2 h lt)

kept : {X : Type 0} (q q' : Option X) (k : X) → q ≡ Some k → OptKeeps q q' → q' ≡ Some k
kept q q' k e h = subst (λ x. OptKeeps x q') e h

module _ (fs fs' : List OwnerOffer) (more : Before 0 fs fs') where
  knew : (s of n : ℕ) (os : List OwnerOffer) (o : OwnerOffer) → slice_get os n ≡ Some o → Before 0 (owner_after os s of (Know 0 n)) fs → known_stamp (slice_get fs n) ≡ known_stamp (slice_get fs' n)
  knew s of n os o e b =
      let f = before_at 0 _ fs n (known_at of o) b (altered_at os n (known_at of) o e) in
      let g = before_at 0 fs fs' n f.0 more f.1 in
      (ap known_stamp f.1 ∙ ap or_zero f.2.known) ∙ sym (ap known_stamp g.1 ∙ ap or_zero (kept f.0.known g.0.known of f.2.known g.2.known))

  had : (s of n : ℕ) (w : Answer) (os : List OwnerOffer) (o : OwnerOffer) → slice_get os n ≡ Some o → Before 0 (owner_after os s of (Reply 0 n w)) fs
      → reply_stamp (slice_get fs n) ≡ reply_stamp (slice_get fs' n)
  had s of n w os o e b =
      let f = before_at 0 _ fs n (replied_with w of o) b (altered_at os n (replied_with w of) o e) in
      let g = before_at 0 fs fs' n f.0 more f.1 in
      let r : Response = record { answer = w; of = of } in
      (ap reply_stamp f.1 ∙ ap response_stamp f.2.reply) ∙ sym (ap reply_stamp g.1 ∙ ap response_stamp (kept f.0.reply g.0.reply r f.2.reply g.2.reply))

  stays_at : (terms : Terms) (s of : ℕ) (os : List OwnerOffer) (e : Event) → owner_fits terms os e ≡ true → Before 0 (owner_after os s of e) fs → owner_noted fs e ≡ owner_noted fs' e
  stays_at terms s of os (Offer l n p) h b = refl
  stays_at terms s of os (Withdraw l n) h b = refl
  stays_at terms s of os (Know l n) h b = let w = may_withdraw_is (slice_get os n) h in knew s of n os w.0 w.1 b
  stays_at terms s of os (Room l n) h b = let w = may_free_is (slice_get os n) h in knew s of n os w.0 w.1 b
  stays_at terms s of os (Got l n v) h b = refl
  stays_at terms s of os (Pass l n) h b = refl
  stays_at terms s of os (Did l n w) h b = refl
  stays_at terms s of os (Reply l n w) h b = let o = may_reply_is (slice_get os n) h in had s of n w os o.0 o.1 b

  -- what was noted stays
  pub noted_stays : (terms : Terms) (m : Event → ℕ) (os : List OwnerOffer) (es : List Stamped) → OwnerRuns terms m os es fs
      → AllByRecursion (λ e. owner_noted fs e.entry.event ≡ owner_noted fs' e.entry.event) es
  noted_stays terms m os [] r = tt
  noted_stays terms m os (e ∷ es) r = let after = owner_after os e.entry.stamp (m e.entry.event) e.entry.event in
      (stays_at terms e.entry.stamp (m e.entry.event) os e.entry.event r.0 (before_of terms 0 m after es fs r.2 (from_zero es)), noted_stays terms m after es r.2)

-- the owner makes one more entry, which answers one of stamp `of`
pub owner_push : (terms : Terms) (of : ℕ) (es : List Stamped) (fs : List OwnerOffer) (e : Stamped) → OwnerRuns terms (owner_noted fs) [] es fs → owner_fits terms fs e.entry.event ≡ true
    → of < e.entry.stamp
    → of ≡ owner_noted (owner_after fs e.entry.stamp of e.entry.event) e.entry.event
    → OwnerRuns terms (owner_noted (owner_after fs e.entry.stamp of e.entry.event)) [] (es ++ e ∷ []) (owner_after fs e.entry.stamp of e.entry.event)
owner_push terms of es fs e r h lt same =
    let fs' = owner_after fs e.entry.stamp of e.entry.event in
    let more : Before 0 fs fs' = before_step terms 0 e.entry.stamp of fs e.entry.event fs' (omega arith) h (before_same 0 fs') in
    let r' : OwnerRuns terms (owner_noted fs') [] es fs = runs_same terms (owner_noted fs) (owner_noted fs') [] es fs (noted_stays fs fs' more terms (owner_noted fs) [] es r) r in
    subst (λ k. OwnerRuns terms (owner_noted fs') [] (es ++ e ∷ []) (owner_after fs e.entry.stamp k e.entry.event)) (sym same)
    (runs_push terms (owner_noted fs') [] es fs e r' h (subst (λ k. k < e.entry.stamp) same lt))

-- the peer

pub peer_runs_same : (terms : Terms) (m m' : Event → ℕ) (ds : List PeerDecision) (es : List Stamped) (gs : List PeerDecision) → AllByRecursion (λ e. m e.entry.event ≡ m' e.entry.event) es
    → PeerRuns terms m ds es gs → PeerRuns terms m' ds es gs
peer_runs_same terms m m' ds [] gs a r = r
peer_runs_same terms m m' ds (e ∷ es) gs a r = (
  r.0,
  subst (λ k. k < e.entry.stamp) a.0 r.1,
  subst (λ k. PeerRuns terms m' (ds ++ decision_of e.entry.stamp k e.entry.event ∷ []) es gs) a.0
      (peer_runs_same terms m m' (ds ++ decision_of e.entry.stamp (m e.entry.event) e.entry.event ∷ []) es gs a.1 r.2),
)

peer_runs_push : (terms : Terms) (m : Event → ℕ) (ds : List PeerDecision) (es : List Stamped) (gs : List PeerDecision) (e : Stamped) → PeerRuns terms m ds es gs
    → peer_fits terms gs e.entry.event ≡ true → m e.entry.event < e.entry.stamp
    → PeerRuns terms m ds (es ++ e ∷ []) (gs ++ decision_of e.entry.stamp (m e.entry.event) e.entry.event ∷ [])
peer_runs_push terms m ds [] gs e r h lt = (subst (λ x. peer_fits terms x e.entry.event ≡ true) r h, lt, ap (λ x. x ++ decision_of e.entry.stamp (m e.entry.event) e.entry.event ∷ []) r)
peer_runs_push terms m ds (x ∷ es) gs e r h lt = (r.0, r.1, peer_runs_push terms m (ds ++ decision_of x.entry.stamp (m x.entry.event) x.entry.event ∷ []) es gs e r.2 h lt)

get_push : (gs : List PeerDecision) (d : PeerDecision) (n : ℕ) → n < length gs → slice_get (gs ++ d ∷ []) n ≡ slice_get gs n
get_push [] d n h = absurd (omega arith)
get_push (g ∷ gs) d zero h = refl
get_push (g ∷ gs) d (suc n) h = get_push gs d n (omega arith)

-- a later decision changes no note of an earlier one
module _ (terms : Terms) (gs : List PeerDecision) (d : PeerDecision) where
  seen_before : (ds : List PeerDecision) (e : Event) → peer_fits terms ds e ≡ true → length ds < length gs → peer_noted gs e ≡ peer_noted (gs ++ d ∷ []) e
  seen_before ds (Offer l n p) h lt = cc
  seen_before ds (Withdraw l n) h lt = cc
  seen_before ds (Know l n) h lt = cc
  seen_before ds (Room l n) h lt = cc
  seen_before ds (Got l n v) h lt = let e = true_eq n (length ds) (both_true (not terms.requests) (n == length ds) h).1 in sym (ap answers_stamp (get_push gs d n (omega arith)))
  seen_before ds (Pass l n) h lt = let e = true_eq n (length ds) h in sym (ap answers_stamp (get_push gs d n (omega arith)))
  seen_before ds (Did l n w) h lt = let e = true_eq n (length ds) (both_true terms.requests (n == length ds) h).1 in sym (ap answers_stamp (get_push gs d n (omega arith)))
  seen_before ds (Reply l n w) h lt = cc

  runs_longer : (m : Event → ℕ) (ds : List PeerDecision) (es : List Stamped) → PeerRuns terms m ds es gs → length ds ≤ length gs
  runs_longer m ds [] r = let e = ap length r in omega arith
  runs_longer m ds (e ∷ es) r = let x = decision_of e.entry.stamp (m e.entry.event) e.entry.event in let ih = runs_longer m (ds ++ x ∷ []) es r.2 in let k = length-append ds (x ∷ []) in omega arith

  pub peer_noted_stays : (m : Event → ℕ) (ds : List PeerDecision) (es : List Stamped) → PeerRuns terms m ds es gs
      → AllByRecursion (λ e. peer_noted gs e.entry.event ≡ peer_noted (gs ++ d ∷ []) e.entry.event) es
  peer_noted_stays m ds [] r = tt
  peer_noted_stays m ds (e ∷ es) r =
      let x = decision_of e.entry.stamp (m e.entry.event) e.entry.event in
      let up = runs_longer m (ds ++ x ∷ []) es r.2 in
      let k = length-append ds (x ∷ []) in
      (seen_before ds e.entry.event r.0 (omega arith), peer_noted_stays m (ds ++ x ∷ []) es r.2)

-- the peer makes one more entry, which answers one of stamp `of`
pub peer_push : (terms : Terms) (of : ℕ) (es : List Stamped) (gs : List PeerDecision) (e : Stamped) → PeerRuns terms (peer_noted gs) [] es gs → peer_fits terms gs e.entry.event ≡ true
    → of < e.entry.stamp
    → of ≡ peer_noted (gs ++ decision_of e.entry.stamp of e.entry.event ∷ []) e.entry.event
    → PeerRuns terms (peer_noted (gs ++ decision_of e.entry.stamp of e.entry.event ∷ [])) [] (es ++ e ∷ []) (gs ++ decision_of e.entry.stamp of e.entry.event ∷ [])
peer_push terms of es gs e r h lt same =
    let d = decision_of e.entry.stamp of e.entry.event in
    let gs' = gs ++ d ∷ [] in
    let r' : PeerRuns terms (peer_noted gs') [] es gs = peer_runs_same terms (peer_noted gs) (peer_noted gs') [] es gs (peer_noted_stays terms gs d (peer_noted gs) [] es r) r in
    subst (λ k. PeerRuns terms (peer_noted gs') [] (es ++ e ∷ []) (gs ++ decision_of e.entry.stamp k e.entry.event ∷ [])) (sym same)
    (peer_runs_push terms (peer_noted gs') [] es gs e r' h (subst (λ k. k < e.entry.stamp) same lt))

pub stamps_push : (m : Event → ℕ) (last : ℕ) (es : List Entry) (e : Entry) → HasStamps m last es → e.stamp ≡ next_stamp (last_of last es) (m e.event) → HasStamps m last (es ++ e ∷ [])
stamps_push m last [] e h s = (s, tt)
stamps_push m last (x ∷ es) e h s = (h.0, stamps_push m x.stamp es e h.1 s)
