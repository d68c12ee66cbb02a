-- What a journal stores stays what it is when further ints come to the end of its list, since all ints of its messages lie before them. So one
-- entry more, whose further ints are the last, is one more of what contracts see.
use Rattle.std.proofs.Common.{◌≡◌, refl, ℕ, ◌+◌, ℤ, List, [], ◌∷◌, ◌++◌, take, drop, length, map, Some, ap, ◌∙◌, sym, subst, arith, length-append, length-drop}
use Rattle.std.specs.Prelude.{slice_get}
use Rattle.std.proofs.lemmas.List.{drop-append-le, map-append, take-append-le, take_more}
use Rattle.std.proofs.lemmas.Option.{get_or_from_slice_get, slice_get_within}
use Rattle.ac_base.specs.declared.entry.Payload.TheVariants as payload
use Rattle.ac_base.specs.declared.entry.Event.{Event}
use Rattle.ac_base.specs.declared.entry.Event.TheVariants as event
use Rattle.ac_base.specs.declared.entry.Entry.{Entry}
use Rattle.ac_base.specs.declared.stored.StoredMessage.{StoredMessage}
use Rattle.ac_base.specs.declared.stored.StoredEvent.{StoredEvent}
use Rattle.ac_base.specs.declared.stored.StoredEvent.TheVariants.{Send, Read, Write, Withdraw, Know, Room, Got, Pass, Did, Reply}
use Rattle.ac_base.specs.declared.stored.StoredEntry.{StoredEntry}
use Rattle.ac_base.specs.Stored.{ints_of, event_of, entry_of, entries_from, IsWhole, HasInts, HaveInts}

pub take_next : {X : Type 0} (xs : List X) (i : ℕ) (x : X) → slice_get xs i ≡ Some x → take (i + 1) xs ≡ take i xs ++ x ∷ []
take_next xs i x at = take_more xs i x (slice_get_within xs i x at) ∙ ap (λ y. take i xs ++ y ∷ []) (get_or_from_slice_get xs i x x at)

module _ (f more : List ℤ) where
  pub whole_more : (m : StoredMessage) → IsWhole f m → IsWhole (f ++ more) m
  whole_more m w = let long = length-append f more in let there = w.there in record { there = omega (arith, long, there); few = w.few }

  pub ints_more : (m : StoredMessage) → IsWhole f m → ints_of (f ++ more) m ≡ ints_of f m
  ints_more m w =
      let there = w.there in
      let left = length-drop m.start f in
      ap (λ (xs : List ℤ). m.first ∷ xs) (ap (take m.count) (drop-append-le m.start f more (omega (arith, there))) ∙ take-append-le m.count (drop m.start f) more (omega (arith, there, left)))

  pub has_more : (e : StoredEvent) → HasInts f e → HasInts (f ++ more) e
  has_more (Send l n m) w = whole_more m w
  has_more (Got l n m) w = whole_more m w
  has_more (Read l n file from len) w = tt
  has_more (Write l n file from bytes) w = tt
  has_more (Withdraw l n) w = tt
  has_more (Know l n) w = tt
  has_more (Room l n) w = tt
  has_more (Pass l n) w = tt
  has_more (Did l n answer) w = tt
  has_more (Reply l n answer) w = tt

  pub event_more : (e : StoredEvent) → HasInts f e → event_of (f ++ more) e ≡ event_of f e
  event_more (Send l n m) w = ap (λ (xs : List ℤ). event.Offer l n (payload.Int xs)) (ints_more m w)
  event_more (Got l n m) w = ap (λ (xs : List ℤ). event.Got l n xs) (ints_more m w)
  event_more (Read l n file from len) w = refl
  event_more (Write l n file from bytes) w = refl
  event_more (Withdraw l n) w = refl
  event_more (Know l n) w = refl
  event_more (Room l n) w = refl
  event_more (Pass l n) w = refl
  event_more (Did l n answer) w = refl
  event_more (Reply l n answer) w = refl

  pub entries_more : (es : List StoredEntry) → HaveInts f es → entries_from (f ++ more) es ≡ entries_from f es
  entries_more [] h = refl
  entries_more (e ∷ es) h = cons (ap (λ (v : Event). record { stamp = e.stamp; turn = e.turn; event = v }) (event_more e.event h.0)) (entries_more es h.1) where
    cons : {x y : Entry} {xs ys : List Entry} → x ≡ y → xs ≡ ys → x ∷ xs ≡ y ∷ ys
    cons same rest = cc

  have_pushed : (es : List StoredEntry) (e : StoredEntry) → HaveInts f es → HasInts (f ++ more) e.event → HaveInts (f ++ more) (es ++ e ∷ [])
  have_pushed [] e h new = (new, tt)
  have_pushed (x ∷ es) e h new = (has_more x.event h.0, have_pushed es e h.1 new)

  are_pushed : (es : List StoredEntry) (e : StoredEntry) → HaveInts f es → entries_from (f ++ more) (es ++ e ∷ []) ≡ entries_from f es ++ entry_of (f ++ more) e ∷ []
  are_pushed es e h = map-append (entry_of (f ++ more)) es (e ∷ []) ∙ ap (λ xs. xs ++ entry_of (f ++ more) e ∷ []) (entries_more es h)

-- one entry more, whose further ints are the last
module _ (f g : List ℤ) (es : List StoredEntry) (e : StoredEntry) (h : HaveInts f es) (grows : (more : List ℤ) × (g ≡ f ++ more)) where
  pub have_more : (now : List StoredEntry) → now ≡ es ++ e ∷ [] → HasInts g e.event → HaveInts g now
  have_more now is new =
      subst (HaveInts g) (sym is) (subst (λ x. HaveInts x (es ++ e ∷ [])) (sym grows.1) (have_pushed f grows.0 es e h (subst (λ x. HasInts x e.event) grows.1 new)))

  pub are_more : (now : List StoredEntry) (entry : Entry) → now ≡ es ++ e ∷ [] → entry_of g e ≡ entry → entries_from g now ≡ entries_from f es ++ entry ∷ []
  are_more now entry is same =
      ap (entries_from g) is ∙ (subst (λ x. entries_from x (es ++ e ∷ []) ≡ entries_from f es ++ entry_of x e ∷ []) (sym grows.1) (are_pushed f grows.0 es e h)
      ∙ ap (λ x. entries_from f es ++ x ∷ []) same)
