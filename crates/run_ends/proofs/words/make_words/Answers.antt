use Rattle.std.proofs.Common.{◌≡◌, ◌∙◌, ap, sym, subst, ◌+◌, ◌<◌, ◌≤◌, ◌++◌, List, [], ◌∷◌, length, append_assoc, arith, Vec, Global, inl, inr}
use Rattle.std.proofs.lemmas.List.{length-append}
use Rattle.std.proofs.lemmas.Option.{slice_get-get_or}
use Rattle.std.proofs.lemmas.Bool.{cases_lt}
use Rattle.completion_word.specs.declared.seats.OwnerSeat.{OwnerSeat}
use Rattle.completion_word.specs.declared.seats.PeerSeat.{PeerSeat}
use Rattle.run_ends.specs.declared.words.Seats.{Seats}
use Rattle.run_ends.specs.Unused.{AreUnusedAt}
use Rattle.run_ends.proofs.Unused.{unused_more, seats_first}
use Rattle.run_ends.proofs.words.make_words.Goals.{then-at-channels+in_ok-push-2, else-at-channels+in_ok-push-3}
use Rattle.run_ends.proofs.words.make_words.Goals as goal

pub loop-at-init : goal.loop-at-init
loop-at-init c = record {
  words = ap (λ xs. length xs) c.new-words.ensures.items;
  seats = let a = ap (λ xs. length xs) c.new-first.ensures.items in let b = ap (λ xs. length xs) c.new-others.ensures.items in omega arith;
  first = let a = ap (λ xs. length xs) c.new-first.ensures.items in omega arith;
  others = λ less. c.new-others.ensures.items;
  unused = λ l d w s is_c is_w is_s. cc (rw c.new-words.ensures.items at is_w);
}

abbrev new_seats : OwnerSeat → PeerSeat → Seats
new_seats o p = record { owner = o; peer = p }

abbrev items_of : Vec Seats Global → List Seats
items_of v = v.items

pub loop-at-preserved : goal.loop-at-preserved
loop-at-preserved c =
    let at = c.loop-at in
    let s : Seats = new_seats c.in_ok-made.owner c.in_ok-made.peer in
    let ws = at.words.items in let fs = at.first.items in let os = at.others.items in
    let made = c.in_ok-made.ensures in
    let within : at.at < length c.args.capacities.now = c.loop-at-test.true in
    let push : c.push.new.self.items ≡ ws ++ c.in_ok-made.made ∷ [] = c.in_ok-push.ensures.items in
    let fs' = c.if-at-channels.first.items in let os' = c.if-at-channels.others.items in
    let counted : length (fs ++ os) ≡ at.at = length-append fs os ∙ at.invariant.seats in
    let more = unused_more c.args.capacities.now ws (fs ++ os) at.at _ c.in_ok-made.made s at.invariant.words counted (slice_get-get_or c.args.capacities.now at.at 0 within)
    at.invariant.unused (record { places = made.places; owner_seat = made.owner.0; peer_seat = made.peer.0; owner = made.owner.1; peer = made.peer.1 }) in
    let words : length c.push.new.self.items ≡ at.at + 1 = let n = length-append ws (c.in_ok-made.made ∷ []) in let e = ap (λ xs. length xs) push in let was = at.invariant.words in omega arith in
    let unused : fs' ++ os' ≡ (fs ++ os) ++ s ∷ [] → AreUnusedAt c.args.capacities.now c.push.new.self.items (fs' ++ os') = λ e.
    subst (λ xs. AreUnusedAt c.args.capacities.now xs (fs' ++ os')) (sym push) (subst (λ xs. AreUnusedAt c.args.capacities.now (ws ++ c.in_ok-made.made ∷ []) xs) (sym e) more) in
    elim c.if-at-channels.branch [
      | then-at-channels+in_ok-push-2 w ↦
          let first_is : fs' ≡ fs ++ s ∷ [] = ap items_of w.first-is ∙ w.in_ok-push-2.ensures.items in
          let others_is : os' ≡ os = ap items_of w.others-is in
          let count = at.invariant.seats in
          let less : at.at < c.args.channels = w.if-at-channels.true in
          let none : os ≡ [] = at.invariant.others (omega arith) in
          let n = length-append fs (s ∷ []) in let e = ap (λ xs. length xs) first_is in let f = ap (λ xs. length xs) others_is in
          record {
            words = words;
            seats = omega arith;
            first = omega arith;
            others = λ h. others_is ∙ none;
            unused = unused (ap (λ xs. xs ++ os') first_is ∙ ap (λ xs. (fs ++ s ∷ []) ++ xs) others_is ∙ seats_first fs os s none);
          }
      | else-at-channels+in_ok-push-3 w ↦
          let first_is : fs' ≡ fs = ap items_of w.first-is in
          let others_is : os' ≡ os ++ s ∷ [] = ap items_of w.others-is ∙ w.in_ok-push-3.ensures.items in
          let count = at.invariant.seats in
          let least : c.args.channels ≤ at.at = w.if-at-channels.false in
          let n = length-append os (s ∷ []) in let e = ap (λ xs. length xs) first_is in let f = ap (λ xs. length xs) others_is in
          let full : length fs < c.args.channels → ⊥ = λ h. let z = ap (λ xs. length xs) (at.invariant.others h) in omega arith in
          record {
            words = words;
            seats = omega arith;
            first = subst (λ m. m ≤ c.args.channels) (sym e) at.invariant.first;
            others = λ h. absurd (full (subst (λ m. m < c.args.channels) e h));
            unused = unused (ap (λ xs. xs ++ os') first_is ∙ ap (λ xs. fs ++ xs) others_is ∙ sym (append_assoc fs os (s ∷ [])));
          }
    ]

pub returns-clause-unused : goal.returns-clause-unused
returns-clause-unused c =
    let at = c.loop-at in
    let most = at.auto.at-end in let least = c.loop-at-test.false in
    let words = at.invariant.words in let seats = at.invariant.seats in
    record {
      words_count = omega arith;
      seats_count = let n = length-append at.first.items at.others.items in omega arith;
      each = at.invariant.unused;
    }

pub returns-clause-channels : goal.returns-clause-channels
returns-clause-channels c =
    let at = c.loop-at in
    let least = c.loop-at-test.false in let most = c.requires.channels in let count = at.invariant.seats in let first = at.invariant.first in
    elim (cases_lt (length at.first.items) c.args.channels) [
      | inl less ↦ let none = ap (λ xs. length xs) (at.invariant.others less) in omega arith
      | inr past ↦ omega arith
    ]
