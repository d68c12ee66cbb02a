-- Words, producers and links that are made one after another: those so far, and one more.
use Rattle.std.proofs.Common.{◌≡◌, ℕ, ℤ, zero, suc, ◌+◌, ◌<◌, List, [], ◌∷◌, ◌++◌, Some, length, map, refl, sym, ap, ◌∙◌, subst, append_assoc, arith, inl, inr, ⊎_elim}
use Rattle.std.specs.Prelude.{slice_get, ◌⊎◌}
use Rattle.std.proofs.lemmas.List.{append-nil, length-append}
use Rattle.std.proofs.lemmas.Bool.{cases_lt}
use Rattle.completion_word.specs.declared.words.Words.{Words}
use Rattle.channel_ends.specs.Receiving.{Receiving}
use Rattle.channel_ends.specs.Sending.{Sending}
use Rattle.channel_ends.specs.Settled.{AreEnds}
use Rattle.settled_rounds.specs.declared.party.Way.{Way}
use Rattle.ac_choice.specs.declared.answers.Tagged.{Tagged}
use Rattle.ac_choice.specs.Relaying.{Relaying, Carries, taken_by}
use Rattle.ac_choice.specs.Settling.{new_relay}
use Rattle.merge_run.specs.declared.making.Seats.{Seats}
use Rattle.merge_run.specs.declared.producer.Producer.{Producer}
use Rattle.merge_run.specs.declared.consumer.Consumer.{Consumer}
use Rattle.merge_run.specs.declared.party.MergeParty.{MergeParty}
use Rattle.merge_run.specs.declared.party.MergeParty.TheVariants.{Produces, Relays, Consumes}
use Rattle.merge_run.specs.inner.Making.{IsUnused, AreUnused, IsNewProducer, AreNewProducers, AreNewParties, AreWaysOf}
use Rattle.merge_run.proofs.Positions.{same_Some, exists, one_more, get_front, last_at}

pub at_more : {X : Type 0} (xs : List X) (y x : X) (k : ℕ) → slice_get (xs ++ y ∷ []) k ≡ Some x → (slice_get xs k ≡ Some x) ⊎ ((k ≡ length xs) × (y ≡ x))
at_more [] y x zero h = inr (refl, same_Some y x h)
at_more [] y x (suc k) h = cc
at_more (z ∷ zs) y x zero h = inl h
at_more (z ∷ zs) y x (suc k) h = ⊎_elim (λ w. inl w) (λ w. inr (ap suc w.0, w.1)) (at_more zs y x k h)

at_seam : {X : Type 0} (xs : List X) (y : X) (ys : List X) → slice_get (xs ++ y ∷ ys) (length xs) ≡ Some y
at_seam [] y ys = refl
at_seam (x ∷ xs) y ys = at_seam xs y ys

within : {X : Type 0} (xs : List X) (x : X) (k : ℕ) → slice_get xs k ≡ Some x → k < length xs
within [] x k h = cc
within (y ∷ xs) x zero h = omega arith
within (y ∷ xs) x (suc k) h = let l = within xs x k h in omega (arith, l)

nothing_left : {X : Type 0} (xs : List X) → length xs ≡ 0 → xs ≡ []
nothing_left [] h = refl
nothing_left (x ∷ xs) h = absurd (omega (arith, h))

-- ---- a loop over the elements of a list

module _ {X : Type 0} (yielded rest first all : List X) (left : yielded ++ rest ≡ first) (gives : first ≡ all) where
  -- the next one stands after those before it
  pub next_is : (x : X) (next : List X) → rest ≡ x ∷ next → slice_get all (length yielded) ≡ Some x
  next_is x next steps =
      let e : yielded ++ x ∷ next ≡ all = sym (ap (λ xs. yielded ++ xs) steps) ∙ left ∙ gives in
      ap (λ xs. slice_get xs (length yielded)) (sym e) ∙ at_seam yielded x next

  -- at the end there were all of them
  pub all_were : length rest ≡ 0 → yielded ≡ all
  all_were none = sym (append-nil yielded) ∙ sym (ap (λ xs. yielded ++ xs) (nothing_left rest none)) ∙ left ∙ gives

-- ---- words

abbrev no_words : List Words
no_words = []

pub none_unused : (ws : List Words) (ss : List Seats) → ws ≡ [] → ss ≡ [] → AreUnused 0 ws ss
none_unused ws ss a b = record { words_count = ap length a; seats_count = ap length b; each = λ k w s is_w is_s. absurd (none k w (ap (λ xs. slice_get xs k) (sym a) ∙ is_w)) }
  where
    none : (k : ℕ) (w : Words) → slice_get no_words k ≡ Some w → ⊥
    none k w e = cc

pub one_unused : (n : ℕ) (ws : List Words) (ss : List Seats) (w : Words) (s : Seats) → AreUnused n ws ss → IsUnused w s → AreUnused (n + 1) (ws ++ w ∷ []) (ss ++ s ∷ [])
one_unused n ws ss w s h new = record {
  words_count = let a = length-append ws (w ∷ []) in let b = h.words_count in omega (arith, a, b);
  seats_count = let a = length-append ss (s ∷ []) in let b = h.seats_count in omega (arith, a, b);
  each = λ k v t is_v is_t.
      ⊎_elim (λ (a : slice_get ws k ≡ Some v).
      ⊎_elim (λ (b : slice_get ss k ≡ Some t). h.each k v t a b)
      (λ (b : (k ≡ length ss) × (s ≡ t)). absurd (let l = within ws v k a in let m = h.words_count in let o = h.seats_count in let e = b.0 in omega (arith, l, m, o, e)))
      (at_more ss s t k is_t))
      (λ (a : (k ≡ length ws) × (w ≡ v)).
      ⊎_elim (λ (b : slice_get ss k ≡ Some t). absurd (let l = within ss t k b in let m = h.words_count in let o = h.seats_count in let e = a.0 in omega (arith, l, m, o, e)))
      (λ (b : (k ≡ length ss) × (s ≡ t)). subst (λ x. IsUnused x t) a.1 (subst (λ x. IsUnused w x) b.1 new))
      (at_more ss s t k is_t))
      (at_more ws w v k is_v);
}

-- ---- producers, in a list of parties

pub record AreMade (width count n : ℕ) (parties : List MergeParty) (ins : List (Receiving ℤ)) : Type 0 where
  pub producers : List Producer
  pub are : parties ≡ map Produces producers
  pub so_many : length producers ≡ n
  pub new : AreNewProducers width count producers ins

pub none_made : (width count : ℕ) (parties : List MergeParty) (ins : List (Receiving ℤ)) → parties ≡ [] → ins ≡ [] → AreMade width count 0 parties ins
none_made width count parties ins a b = record {
  producers = [];
  are = a;
  so_many = refl;
  new = record { same_count = ap length b; each = λ k p r is_p is_r. cc };
}

pub one_made : (width count n : ℕ) (parties : List MergeParty) (ins : List (Receiving ℤ)) (p : Producer) (r : Receiving ℤ) → AreMade width count n parties ins
    → IsNewProducer n width count p r → AreMade width count (n + 1) (parties ++ Produces p ∷ []) (ins ++ r ∷ [])
one_made width count n parties ins p r h new = record {
  producers = h.producers ++ p ∷ [];
  are = ap (λ xs. xs ++ Produces p ∷ []) h.are ∙ sym (one_more Produces h.producers p);
  so_many = let a = length-append h.producers (p ∷ []) in let b = h.so_many in omega (arith, a, b);
  new = record {
    same_count = let a = length-append h.producers (p ∷ []) in let b = length-append ins (r ∷ []) in let c = h.new.same_count in omega (arith, a, b, c);
    each = λ k q s is_q is_s.
        ⊎_elim (λ (a : slice_get h.producers k ≡ Some q).
        ⊎_elim (λ (b : slice_get ins k ≡ Some s). h.new.each k q s a b)
        (λ (b : (k ≡ length ins) × (r ≡ s)). absurd (let l = within h.producers q k a in let m = h.new.same_count in let e = b.0 in omega (arith, l, m, e)))
        (at_more ins r s k is_s))
        (λ (a : (k ≡ length h.producers) × (p ≡ q)).
        ⊎_elim (λ (b : slice_get ins k ≡ Some s). absurd (let l = within ins s k b in let m = h.new.same_count in let e = a.0 in omega (arith, l, m, e)))
        (λ (b : (k ≡ length ins) × (r ≡ s)).
        subst (λ x. IsNewProducer k width count x s) a.1 (subst (λ x. IsNewProducer k width count p x) b.1
        (subst (λ m. IsNewProducer m width count p r) (sym (a.0 ∙ h.so_many)) new)))
        (at_more ins r s k is_s))
        (at_more h.producers p q k is_q);
  };
}

-- nothing was decided at the ends that receive from them
pub made_undecided : (width count n : ℕ) (parties : List MergeParty) (ins : List (Receiving ℤ)) → AreMade width count n parties ins → (k : ℕ) (r : Receiving ℤ)
    → slice_get ins k ≡ Some r → (r.peer.decisions ≡ []) × (r.popped ≡ [])
made_undecided width count n parties ins h k r at =
    let p = exists h.producers k (let l = within ins r k at in let m = h.new.same_count in omega (arith, l, m)) in
    (h.new.each k p.0 r p.1 at).undecided

pub all_made : (width count n : ℕ) (parties more last : List MergeParty) (ins : List (Receiving ℤ)) (out : Sending Tagged) (relay : Relaying) (c : Consumer)
    → AreMade width count n parties ins → n ≡ width → relay ≡ new_relay ins out → Carries relay → more ≡ parties ++ Relays relay ∷ [] → last ≡ more ++ Consumes c ∷ []
    → c.received.items ≡ [] → c.end.popped ≡ [] → c.end.peer.decisions ≡ [] → AreEnds out c.end → AreNewParties width count last
all_made width count n parties more last ins out relay c h whole is carries one two received popped decided ends = record {
  producers = h.producers;
  relay = relay;
  consumer = c;
  are = two ∙ ap (λ xs. xs ++ Consumes c ∷ []) (one ∙ ap (λ xs. xs ++ Relays relay ∷ []) h.are)
      ∙ append_assoc (map Produces h.producers) (Relays relay ∷ []) (Consumes c ∷ []);
  producers_count = h.so_many ∙ whole;
  new = subst (λ (v : Relaying). AreNewProducers width count h.producers v.ins) (sym is) h.new;
  carries = carries;
  consumes = record {
    received = received ∙ sym (ap (λ ps. taken_by ps c.end.peer.decisions) popped);
    one_each = ap length popped ∙ sym (ap length decided);
  };
  out = subst (λ (v : Relaying). AreEnds v.out c.end) (sym is) ends;
}

-- ---- links

-- the links of the first so many producers
pub record AreWaysBelow (width n : ℕ) (ways : List Way) : Type 0 where
  pub ways_count : length ways ≡ n
  pub each : (k : ℕ) → k < n → slice_get ways k ≡ Some (record { from = k; to = width })

pub none_below : (width : ℕ) → AreWaysBelow width 0 []
none_below width = record { ways_count = refl; each = λ k l. absurd (omega (arith, l)) }

abbrev pub way : ℕ → ℕ → Way
way from to = record { from = from; to = to }

pub one_below : (width n : ℕ) (ways : List Way) → AreWaysBelow width n ways → AreWaysBelow width (n + 1) (ways ++ way n width ∷ [])
one_below width n ways h = record {
  ways_count = let a = length-append ways (way n width ∷ []) in let b = h.ways_count in omega (arith, a, b);
  each = λ k l.
      elim (cases_lt k n) [
        | inl m ↦ get_front ways (way n width) k (let c = h.ways_count in omega (arith, c, m)) ∙ h.each k m
        | inr g ↦ let e : length ways ≡ k = (let c = h.ways_count in omega (arith, c, l, g)) in
            let f : n ≡ k = omega (arith, l, g) in
            subst (λ j. slice_get (ways ++ way n width ∷ []) j ≡ Some (way k width)) e (last_at ways (way n width) ∙ ap (λ j. Some (way j width)) f)
      ];
}

pub all_ways : (width : ℕ) (ways : List Way) → AreWaysBelow width width ways → AreWaysOf width (ways ++ way width (suc width) ∷ [])
all_ways width ways h = record {
  ways_count = let a = length-append ways (way width (suc width) ∷ []) in let b = h.ways_count in omega (arith, a, b);
  each = λ k l. get_front ways (way width (suc width)) k (let c = h.ways_count in omega (arith, c, l)) ∙ h.each k l;
  last = subst (λ j. slice_get (ways ++ way width (suc width) ∷ []) j ≡ Some (way width (suc width))) h.ways_count (last_at ways (way width (suc width)));
}
