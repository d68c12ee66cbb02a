-- Words on which nothing was done, with their seats: of two places and of sixteen, beside words with fewer places, seats of other words or of
-- a pair that was used, and lists in another order.
use Rattle.std.proofs.Common.{◌≡◌, ℕ, zero, suc, [], ◌∷◌, ◌++◌, refl, sym, ap, ◌∙◌, subst, arith}
use Rattle.completion_word.specs.declared.words.Words.{Words}
use Rattle.completion_word.specs.declared.seats.OwnerSeat.{OwnerSeat}
use Rattle.completion_word.specs.declared.seats.PeerSeat.{PeerSeat}
use Rattle.completion_word.specs.declared.views.Owner.{Owner}
use Rattle.completion_word.specs.declared.views.Peer.{Peer}
use Rattle.completion_word.specs.Link.{new_owner, new_peer, offer}
use Rattle.completion_word.specs.Seats.{owner_of, peer_of, IsOwnerOf, IsPeerOf, places_of}
use Rattle.run_ends.specs.declared.words.Seats.{Seats}
use Rattle.run_ends.specs.declared.words.AllSeats.{AllSeats}
use Rattle.run_ends.specs.Unused.{IsUnused, AreUnusedAt, AreUnused, seats_of}
use Rattle.run_ends.proofs.Places.{same_some}

-- ---- the words of one link

module _ (words : Words) (owner : OwnerSeat) (peer : PeerSeat) (its_owner : IsOwnerOf owner words) (its_peer : IsPeerOf peer words) (two : places_of words ≡ 2) where
  abbrev seats : Seats
  seats = record { owner = owner; peer = peer }

  pub nothing_was_done : owner_of owner ≡ new_owner → peer_of peer ≡ new_peer → IsUnused 2 words seats
  nothing_was_done o p = record { places = two; owner_seat = its_owner; peer_seat = its_peer; owner = o; peer = p }

  pub not_for_three : IsUnused 3 words seats → ⊥
  not_for_three h = let e = h.places in omega (arith, two, e)

  pub not_once_an_offer_was_made : owner_of owner ≡ record new_owner { offers = offer 1 ∷ []; last = 1 } → IsUnused 2 words seats → ⊥
  not_once_an_offer_was_made o h = let e : ◌≡◌ {A = ℕ} 1 0 = ap (λ (x : Owner). x.last) (sym o ∙ h.owner) in absurd (omega arith)

  pub nor_once_the_peer_has_looked : peer_of peer ≡ record new_peer { looks = 1 } → IsUnused 2 words seats → ⊥
  nor_once_the_peer_has_looked p h = let e : ◌≡◌ {A = ℕ} 1 0 = ap (λ (x : Peer). x.looks) (sym p ∙ h.peer) in absurd (omega arith)

  pub not_with_the_seats_of_others : (others : Words) → (words.table.shared.table_id ≡ others.table.shared.table_id → ⊥) → IsUnused 2 others seats → ⊥
  not_with_the_seats_of_others others apart h = apart (sym its_owner ∙ h.owner_seat)

-- ---- of a channel, and of the requests of one core

module _ (small large : Words) (s t : Seats) (two : IsUnused 2 small s) (sixteen : IsUnused 16 large t) where
  pub each_at_its_place : AreUnusedAt (2 ∷ 16 ∷ []) (small ∷ large ∷ []) (s ∷ t ∷ [])
  each_at_its_place zero c w u is_c is_w is_u = subst (λ c. IsUnused c w u) (same_some 2 c is_c)
      (subst (λ w. IsUnused 2 w u) (same_some small w is_w) (subst (IsUnused 2 small) (same_some s u is_u) two))
  each_at_its_place (suc zero) c w u is_c is_w is_u = subst (λ c. IsUnused c w u) (same_some 16 c is_c)
      (subst (λ w. IsUnused 16 w u) (same_some large w is_w) (subst (IsUnused 16 large) (same_some t u is_u) sixteen))
  each_at_its_place (suc (suc l)) c w u is_c is_w is_u = cc

  pub words_and_seats_for_each : AreUnused (2 ∷ 16 ∷ []) (small ∷ large ∷ []) (s ∷ t ∷ [])
  words_and_seats_for_each = record { words_count = refl; seats_count = refl; each = each_at_its_place }

  pub not_in_another_order : AreUnusedAt (2 ∷ 16 ∷ []) (large ∷ small ∷ []) (t ∷ s ∷ []) → ⊥
  not_in_another_order h = let e = (h 0 2 large t refl refl refl).places in let f = sixteen.places in omega (arith, e, f)

  pub not_without_the_last : AreUnused (2 ∷ 16 ∷ []) (small ∷ []) (s ∷ []) → ⊥
  not_without_the_last h = let e : ◌≡◌ {A = ℕ} 1 2 = h.words_count in absurd (omega arith)

  pub seats_of_channels_come_first : (all : AllSeats) → all.channels.items ≡ s ∷ [] → all.requests.items ≡ t ∷ [] → seats_of all ≡ s ∷ t ∷ []
  seats_of_channels_come_first all channels requests = ap (λ xs. xs ++ all.requests.items) channels ∙ ap (λ xs. s ∷ xs) requests
