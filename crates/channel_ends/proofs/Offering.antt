-- What contracts see of an owner's side, number by number, and what it is once an offer is posted: its list has one more.
use Rattle.std.proofs.Common.{◌≡◌, ℕ, ◌+◌, ◌-◌, ◌%◌, ◌<◌, ◌≤◌, [], ◌∷◌, ◌++◌, None, true, sym, ap, ◌∙◌, subst, arith, length, set, nat_lt}
use Rattle.std.proofs.lemmas.Bool.Decides.{nat_tests}
use Rattle.std.specs.Option.{ForSome}
use Rattle.completion_word.specs.declared.views.Owner.{Owner}
use Rattle.completion_word.specs.declared.seats.OwnerSeat.{OwnerSeat}
use Rattle.completion_word.specs.Seats.{owner_of}
use Rattle.completion_word.specs.Steps.{after_post}
use Rattle.channel_ends.specs.declared.marks.Mark.TheVariants.{Open}
use Rattle.channel_ends.specs.declared.side.OwnerSide.TheInside.{Inside}
use Rattle.channel_ends.specs.Sending.{MadeOffer, OwnerNotes, AreWithin, made_at, made_offer, has_room, known_lead, capacity_of}
use Rattle.channel_ends.specs.Offers.{AddsOffer}
use Rattle.channel_ends.specs.inner.Noted.{tabulated, heard_at, made_by, AreNoted}
use Rattle.channel_ends.specs.inner.Fields.{notes_of, IsNoted}
use Rattle.channel_ends.specs.inner.Catching.{GoesOn}
use Rattle.channel_ends.proofs.Tables.{table_length, table_at}
use Rattle.channel_ends.proofs.Noting.{noted_posted, noted_caught}
use Rattle.channel_ends.proofs.Changes.{lead_is, heard_posts, offers_posts}

is_below : (a b : ℕ) → nat_lt a b ≡ true → a < b
is_below a b h = grind (arith, nat_tests)

-- ---- what is seen

module _ (it : Inside) (e : OwnerNotes) (view : notes_of it ≡ e) (n : IsNoted it) where
  abbrev own : Owner
  own = owner_of it.owner

  pub offered_is : length e.offers ≡ length own.offers
  offered_is = sym (ap (λ (v : OwnerNotes). length v.offers) view) ∙ table_length (made_by it.lead it.marks own) 0 (length own.offers)

  pub known_is : known_lead e.offers ≡ it.lead
  known_is = sym (ap (λ (v : OwnerNotes). known_lead v.offers) view) ∙ lead_is it.lead it.marks own n

  pub made_is : (k : ℕ) → k < length own.offers → made_at e.offers k ≡ made_by it.lead it.marks own k
  made_is k l =
      let here : 0 + k ≡ k = omega arith in
      sym (ap (λ (v : OwnerNotes). made_at v.offers k) view) ∙ table_at (made_by it.lead it.marks own) 0 (length own.offers) k (made_offer 0) l
      ∙ ap (made_by it.lead it.marks own) here

  pub room_is : has_room e ≡ true → length own.offers < it.lead + capacity_of e
  room_is h = omega (arith, is_below (length e.offers - known_lead e.offers) (capacity_of e) h, offered_is, known_is, n.lead_within)

  -- a stamp that is no less than all of the list is no less than the last of the words
  pub last_within : (last : ℕ) → AreWithin last e.offers → own.last ≤ last
  last_within last w = n.last last (λ k l.
      let h = w k (omega (arith, offered_is)) in
      (subst (λ (m : MadeOffer). m.stamp ≤ last) (made_is k l) h.0, subst (λ (m : MadeOffer). ForSome m.withdrawn (λ s. s ≤ last)) (made_is k l) h.1))

-- ---- one offer more

module _ (it : Inside) (e : OwnerNotes) (view : notes_of it ≡ e) (n : IsNoted it) (mid new : OwnerSeat) (t number : ℕ) (up : GoesOn it.lead (owner_of it.owner) (owner_of mid))
    (is : owner_of new ≡ after_post t (owner_of mid)) (number_is : number ≡ length (owner_of mid).offers) (len : length it.marks ≡ 64)
    (learned : length (owner_of mid).learned ≤ length (owner_of mid).offers) (room : length (owner_of mid).offers < it.lead + 64) (table : new.seat.table_id ≡ e.table) where
  lt : length (owner_of mid).offers % 64 < 64
  lt = omega arith

  abbrev posted : Inside
  posted = record { owner = new; lead = it.lead; marks = set it.marks (number % 64) Open }

  pub posted_noted : IsNoted posted
  posted_noted =
      subst (λ (k : ℕ). AreNoted it.lead (set it.marks (k % 64) Open) (owner_of new)) (sym number_is)
      (subst (AreNoted it.lead (set it.marks (length (owner_of mid).offers % 64) Open)) (sym is)
      (noted_posted it.lead it.marks (owner_of mid) t (noted_caught it.lead it.marks (owner_of it.owner) (owner_of mid) n up) learned len lt room))

  pub adds : AddsOffer e t (notes_of posted)
  adds = record {
    table = table;
    offers = ap (λ (k : ℕ). tabulated (made_by it.lead (set it.marks (k % 64) Open) (owner_of new)) 0 (length (owner_of new).offers)) number_is
        ∙ ap (λ (o : Owner). tabulated (made_by it.lead (set it.marks (length (owner_of mid).offers % 64) Open) o) 0 (length o.offers)) is
        ∙ offers_posts it.lead it.marks (owner_of it.owner) (owner_of mid) t n up learned len lt room
        ∙ ap (λ (v : OwnerNotes). v.offers ++ made_offer t ∷ []) view;
    heard = ap (λ (o : Owner). tabulated (heard_at o) 0 (length o.offers)) is
        ∙ heard_posts it.lead it.marks (owner_of it.owner) (owner_of mid) t n up learned len lt room
        ∙ ap (λ (v : OwnerNotes). v.heard ++ None ∷ []) view;
    told = ap (λ (o : Owner). length o.told) is ∙ ap length up.same.told ∙ ap (λ (v : OwnerNotes). v.told) view;
    loads = omega (arith, ap (λ (o : Owner). o.loads) is, up.loads, ap (λ (v : OwnerNotes). v.loads) view);
  }
