-- What contracts see of an owner's side once it has heard of an offer: that nothing was decided, or a decision, which is known then or, where
-- no stamp is left, kept in its mark.
use Rattle.std.proofs.Common.{◌≡◌, ℕ, ◌+◌, ◌%◌, ◌<◌, ◌≤◌, List, Option, Some, None, Bool, false, cond, ◌||◌, refl, sym, ap, ◌∙◌, subst, arith, length, set, is_some, nat_lt}
use Rattle.std.specs.Prelude.{slice_get}
use mathlib.Core.Logic.{dite}
use native.Mathlib.Decide.{ℕ_discrete}
use Rattle.ac_base.specs.Stamps.{stamp_after}
use Rattle.ac_links.specs.Views.{altered}
use Rattle.completion_word.specs.declared.views.Owner.{Owner}
use Rattle.completion_word.specs.declared.seats.OwnerSeat.{OwnerSeat}
use Rattle.completion_word.specs.Link.{offer_at}
use Rattle.completion_word.specs.Seats.{owner_of}
use Rattle.channel_ends.specs.declared.marks.Heard.{Heard}
use Rattle.channel_ends.specs.declared.marks.Heard.TheVariants.{Decided, Nothing}
use Rattle.channel_ends.specs.declared.marks.Mark.{Mark}
use Rattle.channel_ends.specs.declared.marks.Mark.TheVariants.{Known, Seen}
use Rattle.channel_ends.specs.declared.side.OwnerSide.TheInside.{Inside}
use Rattle.channel_ends.specs.Sending.{OwnerNotes, heard_of, known_at}
use Rattle.channel_ends.specs.Learns.{Hears, Knows, IsHeardOnly, IsUndecided, is_withdrawn}
use Rattle.channel_ends.specs.inner.Noted.{tabulated, heard_at, mark_at, is_known, known_by, made_by}
use Rattle.channel_ends.specs.inner.Fields.{notes_of, IsNoted}
use Rattle.channel_ends.specs.inner.Catching.{SameStamps, IsSame, HearsOne}
use Rattle.channel_ends.specs.inner.Knowing.{IsKnownFrom}
use Rattle.channel_ends.proofs.Tables.{table_at, table_get, table_same}
use Rattle.channel_ends.proofs.Noting.{noted_same, noted_seen, noted_known}
use Rattle.channel_ends.proofs.Changes.{made_from, heard_list, offers_heard, offers_known}
use Rattle.channel_ends.proofs.Offering.{offered_is, known_is}

pub same_stamps : (o o' : Owner) → IsSame o o' → SameStamps o o'
same_stamps o o' same = record {
  count = ap length same.offers;
  stamp = λ k. ap (λ xs. (offer_at xs k).stamp) same.offers;
  withdrawn = λ k. ap (λ xs. (offer_at xs k).withdrawn) same.offers;
}

-- what was heard, where it was no decision
pub is_nothing : (h : Heard) → ((gone : Bool) (stamp : ℕ) → h ≡ Decided gone stamp → ⊥) → h ≡ Nothing
is_nothing (Decided gone stamp) other = absurd (other gone stamp refl)
is_nothing Nothing other = refl

module _ (it : Inside) (e : OwnerNotes) (view : notes_of it ≡ e) (n : IsNoted it) where
  abbrev own : Owner
  own = owner_of it.owner

  pub withdrawn_is : (k : ℕ) → k < length own.offers → is_withdrawn (slice_get e.offers k) ≡ is_some (offer_at own.offers k).withdrawn
  withdrawn_is k l =
      let here : 0 + k ≡ k = omega arith in
      sym (ap (λ (v : OwnerNotes). is_withdrawn (slice_get v.offers k)) view) ∙ ap is_withdrawn (table_get (made_by it.lead it.marks own) 0 (length own.offers) k l)
      ∙ ap (λ (j : ℕ). is_some (offer_at own.offers j).withdrawn) here

  pub heard_is : (k : ℕ) → k < length own.offers → heard_of e k ≡ heard_at own k
  heard_is k l =
      let here : 0 + k ≡ k = omega arith in
      sym (ap (λ (v : OwnerNotes). heard_of v k) view) ∙ table_at (heard_at own) 0 (length own.offers) k None l ∙ ap (heard_at own) here

  -- ---- nothing was heard

  module _ (new : OwnerSeat) (some : it.lead < length own.offers) (hears : HearsOne it.lead own Nothing (owner_of new)) where
    all_same : (k : ℕ) → heard_at (owner_of new) k ≡ heard_at own k
    all_same k = dite (ℕ_discrete k it.lead)
        (λ q. subst (λ (j : ℕ). heard_at (owner_of new) j ≡ heard_at own j) (sym q) (hears.told_so.0 ∙ sym hears.told_so.1))
        (λ ne. hears.others k ne)

    abbrev undecided : Inside
    undecided = record { owner = new; lead = it.lead; marks = it.marks }

    pub undecided_noted : IsNoted undecided
    undecided_noted = noted_same it.lead it.marks own (owner_of new) n hears.same all_same hears.learned

    made_same : (k : ℕ) → made_by it.lead it.marks (owner_of new) k ≡ made_by it.lead it.marks own k
    made_same k =
        ap (λ xs. made_from (offer_at xs k) (known_by it.lead it.marks (owner_of new) k)) hears.same.offers
        ∙ ap (λ (h : Option ℕ). made_from (offer_at own.offers k) (cond (nat_lt k it.lead || is_known (mark_at it.marks k)) h None)) (all_same k)

    pub is_undecided : new.seat.table_id ≡ e.table → IsUndecided e (notes_of undecided)
    is_undecided table = record {
      some = omega (arith, known_is it e view n, offered_is it e view n, some);
      not_heard = ap (heard_of e) (known_is it e view n) ∙ heard_is it.lead some ∙ hears.told_so.1;
      not_told = omega (arith, known_is it e view n, ap (λ (v : OwnerNotes). v.told) view, hears.told_so.2);
      table = table;
      offers = ap (λ xs. tabulated (made_by it.lead it.marks (owner_of new)) 0 (length xs)) hears.same.offers
          ∙ table_same _ _ 0 (length own.offers) (λ j a l. made_same j) ∙ ap (λ (v : OwnerNotes). v.offers) view;
      heard = ap (λ xs. tabulated (heard_at (owner_of new)) 0 (length xs)) hears.same.offers
          ∙ table_same _ _ 0 (length own.offers) (λ j a l. all_same j) ∙ ap (λ (v : OwnerNotes). v.heard) view;
      told = ap length hears.same.told ∙ ap (λ (v : OwnerNotes). v.told) view;
      loads = omega (arith, ap (λ (v : OwnerNotes). v.loads) view, hears.told_so.3);
      saw = hears.told_so.4;
    }

  -- ---- a decision was heard

  module _ (new : OwnerSeat) (number t : ℕ) (at : it.lead ≤ number) (inside : number < length own.offers) (same : SameStamps own (owner_of new)) (last : (owner_of new).last ≡ own.last)
      (told : (owner_of new).told ≡ own.told) (learned : length (owner_of new).learned ≤ it.lead + 1) (others : (k : ℕ) → (k ≡ number → ⊥) → heard_at (owner_of new) k ≡ heard_at own k)
      (heard : heard_at (owner_of new) number ≡ Some t) (before : (s : ℕ) → heard_at own number ≡ Some s → s ≡ t) (loads : own.loads ≤ (owner_of new).loads)
      (len : length it.marks ≡ 64) (table : new.seat.table_id ≡ e.table) where
    lt : number % 64 < 64
    lt = omega arith

    hears_it : (lead : ℕ) (marks : List Mark) → Hears e number t (notes_of (record { owner = new; lead = lead; marks = marks }))
    hears_it lead marks = record {
      table = table;
      heard = heard_list it.lead it.marks own (owner_of new) n number t at inside same others heard ∙ ap (λ (v : OwnerNotes). altered v.heard number (λ _. Some t)) view;
      same = λ s q. before s (sym (heard_is number inside) ∙ q);
      told = ap length told ∙ ap (λ (v : OwnerNotes). v.told) view;
      loads = omega (arith, ap (λ (v : OwnerNotes). v.loads) view, loads);
    }

    pub seen_noted : (gone : Bool) → gone ≡ is_some (offer_at (owner_of new).offers number).withdrawn
        → IsNoted (record { owner = new; lead = it.lead; marks = set it.marks (number % 64) (Seen gone t) })
    seen_noted gone is = noted_seen it.lead it.marks own (owner_of new) n len number at inside lt same last learned others gone t heard is

    pub heard_only : (gone : Bool) (clock : ℕ) → is_known (mark_at it.marks number) ≡ false → stamp_after clock t ≡ None
        → IsHeardOnly e clock number (notes_of (record { owner = new; lead = it.lead; marks = set it.marks (number % 64) (Seen gone t) }))
    heard_only gone clock open' none = record {
      of = t;
      hears = hears_it it.lead (set it.marks (number % 64) (Seen gone t));
      none = none;
      offers = offers_heard it.lead it.marks own (owner_of new) n number t at inside same others heard gone len lt open' ∙ ap (λ (v : OwnerNotes). v.offers) view;
    }

    module _ (end : ℕ) (from : IsKnownFrom (set it.marks (number % 64) Known) it.lead (length (owner_of new).offers) end) where
      pub known_noted : IsNoted (record { owner = new; lead = end; marks = set it.marks (number % 64) Known })
      known_noted = noted_known it.lead it.marks own (owner_of new) n len number at inside lt same last learned others t end heard from

      pub knows : (clock s : ℕ) → stamp_after clock t ≡ Some s → Knows e clock number s (notes_of (record { owner = new; lead = end; marks = set it.marks (number % 64) Known }))
      knows clock s next = record {
        of = t;
        hears = hears_it end (set it.marks (number % 64) Known);
        next = next;
        offers = offers_known it.lead it.marks own (owner_of new) n number t at inside same others heard end len lt from
            ∙ ap (λ (v : OwnerNotes). altered v.offers number (known_at t)) view;
      }
