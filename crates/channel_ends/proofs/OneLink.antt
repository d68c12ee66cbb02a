-- What the words say of the two views of a link, once both sides have met, holds of the lists of the two ends; and then these are the lists
-- of one legal link.
use Rattle.std.proofs.Common.{◌≡◌, ℕ, suc, ◌+◌, ◌<◌, ◌≤◌, List, [], ◌∷◌, ◌++◌, Option, Some, None, Bool, true}
use Rattle.std.proofs.Common.{false, cond, ◌||◌, refl, sym, ap, ◌∙◌, subst, arith, length, get_or, IfSome, ⊎_elim, nat_lt}
use Rattle.std.proofs.lemmas.Bool.{cases_lt}
use Rattle.std.specs.Option.{ForSome}
use Rattle.std.specs.List.{All}
use Rattle.std.proofs.lemmas.List.Elements.{All-cons, All-head, All-tail}
use Rattle.ac_base.specs.declared.entry.Payload.{Payload}
use Rattle.ac_links.specs.Payloads.{Taking, is_payload}
use Rattle.ac_links.specs.Views.{PeerDecision, ViewsAgree, DecisionFits}
use Rattle.core_channels.specs.LinkViews.{IsOffer}
use Rattle.completion_word.specs.declared.answers.Look.{Look}
use Rattle.completion_word.specs.declared.answers.Look.TheVariants as look
use Rattle.completion_word.specs.declared.views.Owner.{Owner}
use Rattle.completion_word.specs.declared.views.Peer.{Peer}
use Rattle.completion_word.specs.declared.views.Decision.{Decision}
use Rattle.completion_word.specs.Link.{outcome_at, decision_at, Answered, Agreed, IsTrueLook}
use Rattle.channel_ends.specs.declared.marks.Mark.{Mark}
use Rattle.channel_ends.specs.Sending.{MadeOffer, OwnerNotes, Sending, made_at, made_offer, heard_of}
use Rattle.channel_ends.specs.Receiving.{Receiving}
use Rattle.channel_ends.specs.Settled.{stamp_of, IsTrueOf, AreOfOneLink, AreSettled, MakeALink, owner_offers, taking_by, peer_decisions, IsTakenAs, AreTakenAs}
use Rattle.channel_ends.specs.inner.Noted.{tabulated, heard_at, mark_at, is_known, made_by}
use Rattle.channel_ends.proofs.Tables.{table_length, table_at}
use Rattle.channel_ends.proofs.Heard.{heard_learned, heard_found}

-- ---- from the views to the lists

cond_some : (b : Bool) (h : Option ℕ) (t : ℕ) → cond b h None ≡ Some t → h ≡ Some t
cond_some true h t e = e
cond_some false h t e = absurd cc

module _ (places lead : ℕ) (marks : List Mark) (o : Owner) (p : Peer) (e : OwnerNotes) (offers : e.offers ≡ tabulated (made_by lead marks o) 0 (length o.offers))
    (heard : e.heard ≡ tabulated (heard_at o) 0 (length o.offers)) (a : Agreed places o p) where
  as_many : length e.offers ≡ length o.offers
  as_many = ap length offers ∙ table_length (made_by lead marks o) 0 (length o.offers)

  at : (k : ℕ) → k < length o.offers → made_at e.offers k ≡ made_by lead marks o k
  at k l = let here : 0 + k ≡ k = omega arith in
      ap (λ xs. get_or xs k (made_offer 0)) offers ∙ table_at (made_by lead marks o) 0 (length o.offers) k (made_offer 0) l ∙ ap (made_by lead marks o) here

  heard_is : (k : ℕ) → k < length o.offers → heard_of e k ≡ heard_at o k
  heard_is k l = let here : 0 + k ≡ k = omega arith in
      ap (λ xs. get_or xs k None) heard ∙ table_at (heard_at o) 0 (length o.offers) k None l ∙ ap (heard_at o) here

  truly : (k t : ℕ) → k < length o.offers → heard_at o k ≡ Some t → (k < length p.decisions) × (stamp_of (decision_at p.decisions k).outcome ≡ t)
  truly k t l h = ⊎_elim
      (λ (b : k < length o.learned).
      let decided : k < length p.decisions = omega (arith, a.learned_decided) in
      (decided, ap stamp_of (sym (a.learned_true k b)) ∙ some_is (stamp_of (outcome_at o.learned k)) t (sym (heard_learned o k b) ∙ h)))
      (λ (b : length o.learned ≤ k).
      let found = a.found_true k l t (sym (heard_found o k b) ∙ h) in (found.0, ap stamp_of found.1))
      (cases_lt k (length o.learned))
    where
      some_is : (s t : ℕ) → Some s ≡ Some t → s ≡ t
      some_is s t e = cc

  seen : (shown : Look) → IsTrueLook o.offers (length p.decisions) shown → IsTrueOf e.offers (length p.decisions) shown
  seen (look.Offered t) h = (omega (arith, h.0, as_many), ap (λ x. x.stamp) (at (length p.decisions) h.0) ∙ h.1)
  seen (look.Withdrawn w) h = (omega (arith, h.0, as_many), ap (λ x. x.withdrawn) (at (length p.decisions) h.0) ∙ h.1)
  seen look.Nothing h = tt

  pub one_link : AreOfOneLink e p.decisions p.look
  one_link = record {
    decided_offered = omega (arith, a.decided_offered, as_many);
    answered = λ k l. subst (λ (x : MadeOffer). Answered x.stamp x.withdrawn (decision_at p.decisions k)) (sym (at k (omega (arith, a.decided_offered)))) (a.answered k l);
    withdrawn_later = λ k l. let inside : k < length o.offers = omega (arith, as_many) in
        subst (λ (x : MadeOffer). ForSome x.withdrawn (λ w. x.stamp < w)) (sym (at k inside)) (λ w is. (a.withdrawals_stamped k inside w is).0);
    known_heard = λ k l. let inside : k < length o.offers = omega (arith, as_many) in
        λ t is. heard_is k inside ∙ cond_some (nat_lt k lead || is_known (mark_at marks k)) (heard_at o k) t (sym (ap (λ x. x.known) (at k inside)) ∙ is);
    heard_true = λ k l. let inside : k < length o.offers = omega (arith, as_many) in λ t is. truly k t inside (sym (heard_is k inside) ∙ is);
    seen_true = λ shown is. seen shown (a.look_true shown is);
  }

-- ---- from the lists to a link

module _ {M : Type 0} (requests : Bool) (payload : M → Payload) (taking : ℕ → M → Taking) where
  abbrev IsSent : M → Type 0
  IsSent x = is_payload requests (payload x) ≡ true

  none_known : (q : Option ℕ) → ((t : ℕ) → q ≡ Some t → ⊥) → q ≡ None
  none_known None h = refl
  none_known (Some t) h = absurd (h t refl)

  abbrev decided : ℕ → M → Decision → PeerDecision
  decided k x d = record { value = taking_by (taking k x) d.outcome; stamp = stamp_of d.outcome; answers = d.answers }

  abbrev Fits : ℕ → M → ℕ → Option ℕ → Decision → Type 0
  Fits k x stamp w d = (stamp < stamp_of d.outcome) × DecisionFits (payload x) stamp (decided k x d) w × (d.answers < stamp_of d.outcome)

  -- each decision answers its offer
  fits : (k : ℕ) (x : M) (stamp : ℕ) (d : Decision) (w : Option ℕ) → IsTakenAs payload taking k x d.outcome → Answered stamp w d → ForSome w (λ v. stamp < v) → Fits k x stamp w d
  fits k x stamp d None c a l =
      subst (Fits k x stamp None) (sym a.2) (a.1, (taking k x, refl, subst (λ (d : Decision). IsTakenAs payload taking k x d.outcome) a.2 c, refl), a.1)
  fits k x stamp d (Some w) c a l = subst (Fits k x stamp (Some w)) (sym a.2) (omega (arith, l w refl, a.1), (refl, refl), a.1)

  if_known : (q : Option ℕ) (s : ℕ) → ForSome q (λ t. s ≡ t) → IfSome q (λ k. k ≡ s)
  if_known None s h = tt
  if_known (Some t) s h = sym (h t refl)

  pub views_agree : (j : ℕ) (xs : List M) (os : List MadeOffer) (popped items : List M) (ds : List Decision) → popped ++ items ≡ xs → length popped ≡ length ds → length xs ≡ length os
      → ((k : ℕ) → k < length ds → Answered (made_at os k).stamp (made_at os k).withdrawn (decision_at ds k))
      → ((k : ℕ) → k < length os → ForSome (made_at os k).withdrawn (λ w. (made_at os k).stamp < w))
      → ((k : ℕ) → k < length os → ForSome (made_at os k).known (λ t. (k < length ds) × (stamp_of (decision_at ds k).outcome ≡ t)))
      → AreTakenAs payload taking j popped ds
      → ViewsAgree (owner_offers payload xs os) (peer_decisions taking j popped ds)
  views_agree j [] os [] items ds e p n a l t c = tt
  views_agree j [] os (y ∷ popped) items ds e p n a l t c = absurd cc
  views_agree j (x ∷ xs) [] popped items ds e p n a l t c = absurd (omega arith)
  views_agree j (x ∷ xs) (o ∷ os) [] items [] e p n a l t c = (
    none_known o.known (λ s is. omega (arith, (t 0 (omega arith) s is).0)),
    refl,
    views_agree (suc j) xs os [] xs [] refl refl (omega arith) (λ k q. absurd (omega arith)) (λ k q. l (suc k) (omega arith))
        (λ k q s is. absurd (omega (arith, (t (suc k) (omega arith) s is).0))) tt,
  )
  views_agree j (x ∷ xs) (o ∷ os) [] items (d ∷ ds) e p n a l t c = absurd (omega arith)
  views_agree j (x ∷ xs) (o ∷ os) (y ∷ popped) items [] e p n a l t c = absurd (omega arith)
  views_agree j (x ∷ xs) (o ∷ os) (y ∷ popped) items (d ∷ ds) e p n a l t c =
      let same : y ≡ x = cc in
      let rest : popped ++ items ≡ xs = cc in
      let f = fits j x o.stamp d o.withdrawn (subst (λ y. IsTakenAs payload taking j y d.outcome) same c.0) (a 0 (omega arith)) (l 0 (omega arith)) in
      subst (λ y. ViewsAgree (owner_offers payload (x ∷ xs) (o ∷ os)) (peer_decisions taking j (y ∷ popped) (d ∷ ds))) (sym same) (
        (f.0, f.1, if_known o.known (stamp_of d.outcome) (λ s is. (t 0 (omega arith) s is).1), f.2, tt),
        views_agree (suc j) xs os popped items ds rest (omega arith) (omega arith) (λ k q. a (suc k) (omega arith)) (λ k q. l (suc k) (omega arith))
            (λ k q s is. let h = t (suc k) (omega arith) s is in (omega (arith, h.0), h.1)) c.1,
      )

  pub each_offer : (xs : List M) (os : List MadeOffer) → length xs ≡ length os → ((k : ℕ) → k < length os → ForSome (made_at os k).withdrawn (λ w. (made_at os k).stamp < w))
      → All IsSent xs → All (IsOffer requests) (owner_offers payload xs os)
  each_offer [] os n l c = λ i d q. absurd (omega arith)
  each_offer (x ∷ xs) [] n l c = absurd (omega arith)
  each_offer (x ∷ xs) (o ∷ os) n l c =
      All-cons (IsOffer requests) _ (owner_offers payload xs os)
      (record { carried = All-head IsSent x xs c; later = later o.withdrawn o.stamp (l 0 (omega arith)) })
      (each_offer xs os (omega arith) (λ k q. l (suc k) (omega arith)) (All-tail IsSent x xs c))
    where
      later : (w : Option ℕ) (stamp : ℕ) → ForSome w (λ v. stamp < v) → IfSome w (λ v. stamp < v)
      later None stamp h = tt
      later (Some v) stamp h = h v refl

pub makes_a_link : {M : Type 0} (send : Sending M) (recv : Receiving M) → AreSettled send recv → MakeALink send recv
makes_a_link send recv s = λ requests payload taking sent taken. record {
  agree = views_agree requests payload taking 0 send.payloads send.notes.offers recv.popped recv.items recv.peer.decisions s.in_order s.one_popped s.one_sent
      s.one_link.answered s.one_link.withdrawn_later (λ k l t is. s.one_link.heard_true k l t (s.one_link.known_heard k l t is)) taken;
  each = each_offer requests payload taking send.payloads send.notes.offers s.one_sent s.one_link.withdrawn_later sent;
}
