-- What contracts see of an owner's side once it has tried to withdraw an offer: the exchange was won and the offer is withdrawn, or the offer
-- was found taken, now or in an earlier call that had no stamp for it.
use Rattle.std.proofs.Common.{◌≡◌, ℕ, ◌+◌, ◌%◌, ◌<◌, ◌≤◌, List, Option, Some, None, Bool, true, false, refl, sym, ap, ◌∙◌, subst, arith, length, set, is_some, ⊎_elim}
use Rattle.std.proofs.lemmas.Bool.{cases_lt}
use Rattle.std.proofs.lemmas.Option.{slice_get_within}
use Rattle.std.specs.Prelude.{slice_get}
use Rattle.atomic_table.specs.Seated.{TableId}
use Rattle.ac_base.specs.Stamps.{stamp_after}
use Rattle.ac_links.specs.Views.{altered}
use Rattle.completion_word.specs.declared.answers.Withdrawal.TheVariants as withdrawal
use Rattle.completion_word.specs.declared.standing.Standing.{Standing}
use Rattle.completion_word.specs.declared.views.Owner.{Owner}
use Rattle.completion_word.specs.declared.seats.OwnerSeat.{OwnerSeat}
use Rattle.completion_word.specs.Link.{offer_at}
use Rattle.completion_word.specs.Seats.{owner_of}
use Rattle.completion_word.specs.Steps.{after_withdraw, IsOpen, IsWithdrawalAsTold}
use Rattle.channel_ends.specs.declared.marks.Mark.{Mark}
use Rattle.channel_ends.specs.declared.marks.Mark.TheVariants.{Known, Seen}
use Rattle.channel_ends.specs.declared.side.OwnerSide.TheInside.{Inside}
use Rattle.channel_ends.specs.Sending.{MadeOffer, OwnerNotes, withdrawn_at}
use Rattle.channel_ends.specs.Learns.{Knows, IsHeardOnly}
use Rattle.channel_ends.specs.Withdraws.{MayWithdraw, IsWithdrawn}
use Rattle.channel_ends.specs.inner.Noted.{tabulated, heard_at, mark_at, is_known, known_by, made_by, MarkFits, AreNoted}
use Rattle.channel_ends.specs.inner.Fields.{notes_of, IsNoted}
use Rattle.channel_ends.specs.inner.Catching.{SameStamps}
use Rattle.channel_ends.specs.inner.Knowing.{IsKnownFrom}
use Rattle.channel_ends.proofs.Tables.{table_get}
use Rattle.channel_ends.proofs.Heard.{heard_learned, heard_found}
use Rattle.channel_ends.proofs.Changes.{known_below, known_marked}
use Rattle.channel_ends.proofs.Noting.{noted_withdrawn, known_is_heard}
use Rattle.channel_ends.proofs.Withdrawals.{heard_withdraws, offers_withdraws, same_lost, heard_lost, others_lost}
use Rattle.channel_ends.proofs.Hearing.{heard_nothing}
use Rattle.channel_ends.proofs.Offering.{offered_is}
use Rattle.channel_ends.proofs.Learning.{heard_is, seen_noted, heard_only, known_noted, knows}

none_some : {t : ℕ} → None ≡ Some t → ⊥
none_some e = cc

not_both : true ≡ false → ⊥
not_both e = cc

some_is : (q : Option ℕ) → is_some q ≡ true → q ≡ None → ⊥
some_is None h e = cc
some_is (Some t) h e = cc

-- ---- which offers may be withdrawn

-- it is offered, not among the leading known ones, and its mark does not say that it is known
pub record IsOpenAt (it : Inside) (number : ℕ) : Type 0 where
  pub inside : number < length (owner_of it.owner).offers
  pub at : it.lead ≤ number
  pub unknown : is_known (mark_at it.marks number) ≡ false
  pub withdrawn : (offer_at (owner_of it.owner).offers number).withdrawn ≡ None

may_is : (q : Option MadeOffer) → MayWithdraw q → (m : MadeOffer) × (q ≡ Some m) × (m.withdrawn ≡ None) × (m.known ≡ None)
may_is None h = absurd h
may_is (Some m) h = (m, refl, h.0, h.1)

module _ (it : Inside) (e : OwnerNotes) (view : notes_of it ≡ e) (n : IsNoted it) (number : ℕ) (may : MayWithdraw (slice_get e.offers number)) where
  abbrev own : Owner
  own = owner_of it.owner

  there : (m : MadeOffer) × (slice_get e.offers number ≡ Some m) × (m.withdrawn ≡ None) × (m.known ≡ None)
  there = may_is (slice_get e.offers number) may

  inside : number < length own.offers
  inside = omega (arith, slice_get_within e.offers number there.0 there.1, offered_is it e view n)

  made : made_by it.lead it.marks own number ≡ there.0
  made =
      let here : 0 + number ≡ number = omega arith in
      some_same (sym (ap (λ (j : ℕ). Some (made_by it.lead it.marks own j)) here) ∙ sym (table_get (made_by it.lead it.marks own) 0 (length own.offers) number inside)
      ∙ ap (λ (v : OwnerNotes). slice_get v.offers number) view ∙ there.1)
    where
      some_same : {a b : MadeOffer} → Some a ≡ Some b → a ≡ b
      some_same e = cc

  not_known : known_by it.lead it.marks own number ≡ None
  not_known = ap (λ (m : MadeOffer). m.known) made ∙ there.3

  at : it.lead ≤ number
  at = ⊎_elim (λ (l : number < it.lead). absurd (some_is (heard_at own number) (n.leading number l) (sym (known_below it.lead it.marks own number l) ∙ not_known)))
      (λ (l : it.lead ≤ number). l) (cases_lt number it.lead)

  unknown_by : (b : Bool) → is_known (mark_at it.marks number) ≡ b → b ≡ false
  unknown_by false q = refl
  unknown_by true q = absurd (some_is (heard_at own number) (known_is_heard _ _ _ q (n.marked number at inside)) (sym (known_marked it.lead it.marks own number q) ∙ not_known))

  pub is_open : IsOpenAt it number
  is_open = record {
    inside = inside;
    at = at;
    unknown = unknown_by (is_known (mark_at it.marks number)) refl;
    withdrawn = ap (λ (m : MadeOffer). m.withdrawn) made ∙ there.2;
  }

  -- nothing was heard of it, where its mark does not say that either
  module _ (other : (gone : Bool) (stamp : ℕ) → mark_at it.marks number ≡ Seen gone stamp → ⊥) where
    pub nothing : heard_at own number ≡ None
    nothing = heard_nothing (mark_at it.marks number) _ _ is_open.unknown other (n.marked number at inside)

    pub not_learned : length own.learned ≤ number
    not_learned = ⊎_elim (λ (l : number < length own.learned). absurd (none_some (sym nothing ∙ heard_learned own number l))) (λ (l : length own.learned ≤ number). l)
        (cases_lt number (length own.learned))

    pub offer_is_open : IsOpen (offer_at own.offers number)
    offer_is_open = (is_open.withdrawn, sym (heard_found own number not_learned) ∙ nothing)

-- ---- the exchange is won

abbrev notes_with : TableId → List MadeOffer → List (Option ℕ) → ℕ → ℕ → Standing → OwnerNotes
notes_with table offers heard told loads saw = record { table = table; offers = offers; heard = heard; told = told; loads = loads; saw = saw }

-- equal parts make equal notes
same_notes : (t t' : TableId) (os os' : List MadeOffer) (hs hs' : List (Option ℕ)) (m m' l l' : ℕ) (s s' : Standing) → t ≡ t' → os ≡ os' → hs ≡ hs' → m ≡ m' → l ≡ l' → s ≡ s'
    → notes_with t os hs m l s ≡ notes_with t' os' hs' m' l' s'
same_notes t t' os os' hs hs' m m' l l' s s' a b c d e f =
    ap (λ x. notes_with x os hs m l s) a ∙ ap (λ x. notes_with t' x hs m l s) b ∙ ap (λ x. notes_with t' os' x m l s) c
    ∙ ap (λ x. notes_with t' os' hs' x l s) d ∙ ap (λ x. notes_with t' os' hs' m' x s) e ∙ ap (λ x. notes_with t' os' hs' m' l' x) f

module _ (it : Inside) (e : OwnerNotes) (view : notes_of it ≡ e) (n : IsNoted it) (number s : ℕ) (o : IsOpenAt it number) (nothing : heard_at (owner_of it.owner) number ≡ None)
    (new : OwnerSeat) (is : owner_of new ≡ after_withdraw withdrawal.Withdrawn number s (owner_of it.owner)) where
  abbrev gone : Inside
  gone = record { owner = new; lead = it.lead; marks = it.marks }

  pub gone_noted : IsNoted gone
  gone_noted = subst (λ (w : Owner). AreNoted it.lead it.marks w) (sym is)
      (noted_withdrawn it.lead it.marks (owner_of it.owner) number s n o.at o.inside nothing)

  pub withdrawn_so : (last : ℕ) → stamp_after last 0 ≡ Some s → e.told ≤ number → new.seat.table_id ≡ it.owner.seat.table_id → IsWithdrawn e last number s (notes_of gone)
  withdrawn_so last next told table = record {
    next = next;
    not_heard = heard_is it e view n number o.inside ∙ nothing;
    not_told = told;
    after = same_notes _ _ _ _ _ _ _ _ _ _ _ _ table
        (ap (λ (w : Owner). tabulated (made_by it.lead it.marks w) 0 (length w.offers)) is ∙ offers_withdraws it.lead it.marks (owner_of it.owner) number s n o.at o.inside nothing)
        (ap (λ (w : Owner). tabulated (heard_at w) 0 (length w.offers)) is ∙ heard_withdraws it.lead it.marks (owner_of it.owner) number s n o.at o.inside nothing)
        (ap (λ (w : Owner). length w.told) is) (ap (λ (w : Owner). w.loads) is) (ap (λ (w : Owner). w.saw) is)
        ∙ ap (λ (v : OwnerNotes). record v { offers = altered v.offers number (withdrawn_at s) }) view;
  }

pub told_less : (o : Owner) (number : ℕ) → IsWithdrawalAsTold o number withdrawal.Withdrawn → length o.told ≤ number
told_less o number h = ⊎_elim (λ (l : number < length o.told). absurd (never (h l).0 (h l).2)) (λ (l : length o.told ≤ number). l) (cases_lt number (length o.told))
  where
    never : (t : ℕ) → withdrawal.Withdrawn ≡ withdrawal.Taken t → ⊥
    never t e = cc

-- ---- it is found taken

-- the decision of the offer was heard, now or before
pub record Finds (it : Inside) (number t : ℕ) (now : Inside) : Type 0 where
  pub lead : now.lead ≡ it.lead
  pub marks : now.marks ≡ it.marks
  pub table : now.owner.seat.table_id ≡ it.owner.seat.table_id
  pub same : SameStamps (owner_of it.owner) (owner_of now.owner)
  pub last : (owner_of now.owner).last ≡ (owner_of it.owner).last
  pub told : (owner_of now.owner).told ≡ (owner_of it.owner).told
  pub learned : (owner_of now.owner).learned ≡ (owner_of it.owner).learned
  pub loads : (owner_of now.owner).loads ≡ (owner_of it.owner).loads
  pub others : (k : ℕ) → (k ≡ number → ⊥) → heard_at (owner_of now.owner) k ≡ heard_at (owner_of it.owner) k
  pub heard : heard_at (owner_of now.owner) number ≡ Some t
  pub before : (s : ℕ) → heard_at (owner_of it.owner) number ≡ Some s → s ≡ t

pub finds_seen : (it : Inside) (number t : ℕ) (gone : Bool) → IsNoted it → IsOpenAt it number → mark_at it.marks number ≡ Seen gone t → Finds it number t it
finds_seen it number t gone n o is = record {
  lead = refl;
  marks = refl;
  table = refl;
  same = record { count = refl; stamp = λ k. refl; withdrawn = λ k. refl };
  last = refl;
  told = refl;
  learned = refl;
  loads = refl;
  others = λ k ne. refl;
  heard = heard;
  before = λ s e. some_same (sym e ∙ heard);
}
  where
    heard : heard_at (owner_of it.owner) number ≡ Some t
    heard = (subst (λ m. MarkFits m (heard_at (owner_of it.owner) number) (is_some (offer_at (owner_of it.owner).offers number).withdrawn)) is (n.marked number o.at o.inside)).0

    some_same : {a b : ℕ} → Some a ≡ Some b → a ≡ b
    some_same e = cc

pub finds_taken : (it : Inside) (number s t : ℕ) (new : OwnerSeat) → IsOpenAt it number → heard_at (owner_of it.owner) number ≡ None → length (owner_of it.owner).learned ≤ number
    → new.seat.table_id ≡ it.owner.seat.table_id → owner_of new ≡ after_withdraw (withdrawal.Taken t) number s (owner_of it.owner)
    → Finds it number t (record { owner = new; lead = it.lead; marks = it.marks })
finds_taken it number s t new o nothing learned table is = record {
  lead = refl;
  marks = refl;
  table = table;
  same = subst (SameStamps (owner_of it.owner)) (sym is) (same_lost (owner_of it.owner) number s t learned o.inside);
  last = ap (λ (w : Owner). w.last) is;
  told = ap (λ (w : Owner). w.told) is;
  learned = ap (λ (w : Owner). w.learned) is;
  loads = ap (λ (w : Owner). w.loads) is;
  others = λ k ne. ap (λ (w : Owner). heard_at w k) is ∙ others_lost (owner_of it.owner) number s t learned o.inside k ne;
  heard = ap (λ (w : Owner). heard_at w number) is ∙ heard_lost (owner_of it.owner) number s t learned o.inside;
  before = λ r e. absurd (none_some (sym nothing ∙ e));
}

-- what was found is known then, or kept in its mark where no stamp is left
module _ (it : Inside) (e : OwnerNotes) (view : notes_of it ≡ e) (n : IsNoted it) (number t : ℕ) (o : IsOpenAt it number) (now : Inside) (f : Finds it number t now)
    (len : length it.marks ≡ 64) where
  moved : (P : ℕ → List Mark → Type 0) → P it.lead it.marks → P now.lead now.marks
  moved P p = subst (λ (l : ℕ). P l now.marks) (sym f.lead) (subst (λ (m : List Mark). P it.lead m) (sym f.marks) p)

  moved_back : (P : ℕ → List Mark → Type 0) → P now.lead now.marks → P it.lead it.marks
  moved_back P p = subst (λ (l : ℕ). P l it.marks) f.lead (subst (λ (m : List Mark). P now.lead m) f.marks p)

  few : length (owner_of now.owner).learned ≤ it.lead + 1
  few = omega (arith, n.learned, ap length f.learned)

  more : (owner_of it.owner).loads ≤ (owner_of now.owner).loads
  more = omega (arith, f.loads)

  table : now.owner.seat.table_id ≡ e.table
  table = f.table ∙ ap (λ (v : OwnerNotes). v.table) view

  pub late_noted : IsNoted (record { owner = now.owner; lead = now.lead; marks = set now.marks (number % 64) (Seen false t) })
  late_noted = moved (λ lead marks. IsNoted (record { owner = now.owner; lead = lead; marks = set marks (number % 64) (Seen false t) }))
      (seen_noted it e view n now.owner number t o.at o.inside f.same f.last f.told few f.others f.heard f.before more len table false
      (sym (ap is_some (f.same.withdrawn number ∙ o.withdrawn))))

  pub late_heard : (clock : ℕ) → stamp_after clock t ≡ None
      → IsHeardOnly e clock number (notes_of (record { owner = now.owner; lead = now.lead; marks = set now.marks (number % 64) (Seen false t) }))
  late_heard clock none =
      moved (λ lead marks. IsHeardOnly e clock number (notes_of (record { owner = now.owner; lead = lead; marks = set marks (number % 64) (Seen false t) })))
      (heard_only it e view n now.owner number t o.at o.inside f.same f.last f.told few f.others f.heard f.before more len table false clock o.unknown none)

  module _ (end : ℕ) (from : IsKnownFrom (set now.marks (number % 64) Known) now.lead (length (owner_of now.owner).offers) end) where
    from_it : IsKnownFrom (set it.marks (number % 64) Known) it.lead (length (owner_of now.owner).offers) end
    from_it = moved_back (λ lead marks. IsKnownFrom (set marks (number % 64) Known) lead (length (owner_of now.owner).offers) end) from

    pub late_known_noted : IsNoted (record { owner = now.owner; lead = end; marks = set now.marks (number % 64) Known })
    late_known_noted = moved (λ lead marks. IsNoted (record { owner = now.owner; lead = end; marks = set marks (number % 64) Known }))
        (known_noted it e view n now.owner number t o.at o.inside f.same f.last f.told few f.others f.heard f.before more len table end from_it)

    pub late_knows : (clock s : ℕ) → stamp_after clock t ≡ Some s
        → Knows e clock number s (notes_of (record { owner = now.owner; lead = end; marks = set now.marks (number % 64) Known }))
    late_knows clock s next = moved (λ lead marks. Knows e clock number s (notes_of (record { owner = now.owner; lead = end; marks = set marks (number % 64) Known })))
        (knows it e view n now.owner number t o.at o.inside f.same f.last f.told few f.others f.heard f.before more len table end from_it clock s next)
