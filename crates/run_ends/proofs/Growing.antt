-- One channel more is dealt, and the requests of one core more.
use Rattle.std.proofs.Common.{◌≡◌, ⊎_elim, ℕ, suc, ◌+◌, ◌<◌, List, [], ◌∷◌, ◌++◌, Some, refl, sym, ap, ◌∙◌, subst, arith, length, zero}
use Rattle.std.specs.Prelude.{slice_get, ◌==◌}
use Rattle.std.proofs.lemmas.Bool.{cases_lt}
use Rattle.std.proofs.lemmas.List.{map-append, length-map}
use Rattle.std.proofs.lemmas.Option.{slice_get_within}
use Rattle.ac_base.specs.declared.entry.Payload.{Payload}
use Rattle.stack_code.specs.declared.parts.ChannelEnds.{ChannelEnds}
use Rattle.channel_ends.specs.Receiving.{Receiving}
use Rattle.request_ends.specs.Asking.{Asking}
use Rattle.request_ends.specs.Replying.{Replying}
use Rattle.end_ports.specs.Held.{SendingAt, ReceivingAt}
use Rattle.end_ports.specs.OnLinks.{sent_on, received_on}
use Rattle.run_ends.specs.inner.Hands.{Handed, sends_at, recvs_at, asks_of, Gives, port_of, ports_from}
use Rattle.run_ends.specs.inner.NewEnds.{IsNewChannel, AreNewRequests}
use Rattle.run_ends.specs.inner.Dealing.{IsDealt, AreDealtBelow, HaveNone, AreAllNew}
use Rattle.run_ends.proofs.Places.{same_some, at_more, grown_other, grown_here}

module _ (ends : List ChannelEnds) (capacities : List ℕ) (n : ℕ) (old : List Handed) (e : ChannelEnds) (c : ℕ) (send : SendingAt) (recv : ReceivingAt) (new : List Handed)
    (dealt : AreDealtBelow ends capacities n old) (here : slice_get ends n ≡ Some e) (size : slice_get capacities n ≡ Some c)
    (fresh : IsNewChannel c n send recv) (gives : Gives old e send recv new) where
  sends_stay : (k l : ℕ) → (n ≡ l → ⊥) → sent_on (sends_at new k) l ≡ sent_on (sends_at old k) l
  sends_stay k l other = ap (λ xs. sent_on xs l) (gives.sends k)
      ∙ grown_other (λ (s : SendingAt). s.link) send (e.from == k) (sends_at old k) l (λ f. other (sym fresh.sends ∙ f))

  recvs_stay : (k l : ℕ) → (n ≡ l → ⊥) → received_on (recvs_at new k) l ≡ received_on (recvs_at old k) l
  recvs_stay k l other = ap (λ xs. received_on xs l) (gives.recvs k)
      ∙ grown_other (λ (r : ReceivingAt). r.link) recv (e.to == k) (recvs_at old k) l (λ f. other (sym fresh.receives ∙ f))

  before : (l d : ℕ) (f : ChannelEnds) → l < n → IsDealt d l f old → IsDealt d l f new
  before l d f less was = record {
    send = was.send;
    recv = was.recv;
    new = was.new;
    sends = λ k. sends_stay k l (λ g. omega (arith, less, g)) ∙ was.sends k;
    recvs = λ k. recvs_stay k l (λ g. omega (arith, less, g)) ∙ was.recvs k;
  }

  this : IsDealt c n e new
  this = record {
    send = send;
    recv = recv;
    new = fresh;
    sends = λ k. ap (λ xs. sent_on xs n) (gives.sends k)
        ∙ grown_here (λ (s : SendingAt). s.link) send (e.from == k) (sends_at old k) n fresh.sends (dealt.no_sends k n (omega arith));
    recvs = λ k. ap (λ xs. received_on xs n) (gives.recvs k)
        ∙ grown_here (λ (r : ReceivingAt). r.link) recv (e.to == k) (recvs_at old k) n fresh.receives (dealt.no_recvs k n (omega arith));
  }

  pub deals_one : AreDealtBelow ends capacities (suc n) new
  deals_one = record {
    each = λ l d f less is size_is. ⊎_elim
        (λ lower. before l d f lower (dealt.each l d f lower is size_is))
        (λ past. let same : n ≡ l = omega (arith, less, past) in
        let ends_are : e ≡ f = same_some e f (sym here ∙ ap (slice_get ends) same ∙ is) in
        let sizes_are : c ≡ d = same_some c d (sym size ∙ ap (slice_get capacities) same ∙ size_is) in
        subst (λ d. IsDealt d l f new) sizes_are (subst (λ f. IsDealt c l f new) ends_are (subst (λ l. IsDealt c l e new) same this)))
        (cases_lt l n);
    no_sends = λ k l past. sends_stay k l (λ g. omega (arith, past, g)) ∙ dealt.no_sends k l (omega (arith, past));
    no_recvs = λ k l past. recvs_stay k l (λ g. omega (arith, past, g)) ∙ dealt.no_recvs k l (omega (arith, past));
  }

pub none_dealt : (ends : List ChannelEnds) (capacities : List ℕ) (hands : List Handed) → HaveNone hands → AreDealtBelow ends capacities 0 hands
none_dealt ends capacities hands none = record {
  each = λ l d f less is size. absurd (omega (arith, less));
  no_sends = λ k l past. ap (λ xs. sent_on xs l) (none k).0;
  no_recvs = λ k l past. ap (λ xs. received_on xs l) (none k).1;
}

-- ---- the requests

pub none_more : (hands : List Handed) (h : Handed) → h.sends ≡ [] → h.recvs ≡ [] → HaveNone hands → HaveNone (hands ++ h ∷ [])
none_more [] h s r none zero = (s, r)
none_more [] h s r none (suc k) = (refl, refl)
none_more (x ∷ xs) h s r none zero = none zero
none_more (x ∷ xs) h s r none (suc k) = none_more xs h s r (λ j. none (suc j)) k

pub new_more : (asks : List Asking) (recvs : List (Receiving Payload)) (ends : List Replying) (n : ℕ) (a : Asking) (r : Receiving Payload) (e : Replying)
    → length asks ≡ n → length recvs ≡ n → length ends ≡ n → AreAllNew asks recvs ends → AreNewRequests a r e
    → AreAllNew (asks ++ a ∷ []) (recvs ++ r ∷ []) (ends ++ e ∷ [])
new_more asks recvs ends n a r e na nr ne old new k a' r' e' is_a is_r is_e =
    ⊎_elim
    (λ wa. let within = slice_get_within asks k a' wa in
    ⊎_elim
    (λ wr. ⊎_elim (λ we. old k a' r' e' wa wr we) (λ le. absurd (omega (arith, within, na, ne, le.0))) (at_more ends e e' k is_e))
    (λ lr. absurd (omega (arith, within, na, nr, lr.0)))
    (at_more recvs r r' k is_r))
    (λ la. ⊎_elim
    (λ wr. let within = slice_get_within recvs k r' wr in absurd (omega (arith, within, na, nr, la.0)))
    (λ lr. ⊎_elim
    (λ we. let within = slice_get_within ends k e' we in absurd (omega (arith, within, na, ne, la.0)))
    (λ le. subst (λ x. AreNewRequests x r' e') la.1 (subst (λ x. AreNewRequests a x e') lr.1 (subst (λ x. AreNewRequests a r x) le.1 new)))
    (at_more ends e e' k is_e))
    (at_more recvs r r' k is_r))
    (at_more asks a a' k is_a)

pub asks_more : (hands : List Handed) (h : Handed) → asks_of (hands ++ h ∷ []) ≡ asks_of hands ++ h.ask ∷ []
asks_more hands h = map-append (λ (x : Handed). x.ask) hands (h ∷ [])

-- ---- the ports

pub ports_more : (asked : ℕ) (hands : List Handed) (h : Handed) → ports_from asked (hands ++ h ∷ []) ≡ ports_from asked hands ++ port_of (asked + length hands) h ∷ []
ports_more asked [] h = ap (λ m. port_of m h ∷ []) (omega arith)
ports_more asked (x ∷ xs) h = ap (λ ps. port_of asked x ∷ ps) (ports_more (suc asked) xs h ∙ ap (λ m. ports_from (suc asked) xs ++ port_of m h ∷ []) (omega arith))

-- ---- the requests of one core more, as its ends are pushed

module _ (hands : List Handed) (recvs : List (Receiving Payload)) (ends : List Replying) (n : ℕ) (h : Handed) (a : Asking) (r : Receiving Payload) (e : Replying)
    (hands' : List Handed) (recvs' : List (Receiving Payload)) (ends' : List Replying)
    (is_h : hands' ≡ hands ++ h ∷ []) (is_r : recvs' ≡ recvs ++ r ∷ []) (is_e : ends' ≡ ends ++ e ∷ []) (hand : h ≡ record { sends = []; recvs = []; ask = a }) where
  pub still_none : HaveNone hands → HaveNone hands'
  still_none none = subst HaveNone (sym is_h) (none_more hands h (ap (λ (x : Handed). x.sends) hand) (ap (λ (x : Handed). x.recvs) hand) none)

  pub all_new : length hands ≡ n → length recvs ≡ n → length ends ≡ n → AreAllNew (asks_of hands) recvs ends → AreNewRequests a r e → AreAllNew (asks_of hands') recvs' ends'
  all_new nh nr ne old new =
      let asks : asks_of hands' ≡ asks_of hands ++ a ∷ [] = ap asks_of is_h ∙ asks_more hands h ∙ ap (λ (x : Handed). asks_of hands ++ x.ask ∷ []) hand in
      subst (λ xs. AreAllNew xs recvs' ends') (sym asks)
      (subst (λ xs. AreAllNew (asks_of hands ++ a ∷ []) xs ends') (sym is_r)
      (subst (λ xs. AreAllNew (asks_of hands ++ a ∷ []) (recvs ++ r ∷ []) xs) (sym is_e)
      (new_more (asks_of hands) recvs ends n a r e (length-map hands (λ (x : Handed). x.ask) ∙ nh) nr ne old new)))
