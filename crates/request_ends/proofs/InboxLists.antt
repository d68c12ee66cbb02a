-- What is handed on of the replies that come, as the lists of an inbox change.
use Rattle.std.proofs.Common.{rules, append-nil, ◌≡◌, suc, ◌+◌, ◌-◌, ◌<◌, inl, List, [], ◌∷◌}
use Rattle.std.proofs.Common.{◌++◌, refl, sym, ap, ◌∙◌, length, take, map, arith, length-append, append_assoc}
use Rattle.std.proofs.lemmas.List.{length-map, map-append}
use Rattle.std.proofs.Math.Seq.{take-append_seam}
use mathlib.Core.List.{IsPrefix}
use Rattle.rtrb.specs.Ring.{received, known_items, ConsumerLooked}
use Rattle.request_ends.specs.declared.inbox.Inbox.TheInside.{Inside}
use Rattle.request_ends.specs.declared.replying.Reply.{Reply}
use Rattle.request_ends.specs.Replying.{response_of}
use Rattle.request_ends.specs.inner.Coming.{Coming, coming_of, IsComing, handed_on, LooksOnly, HasGathered, PopsNext, MayPop, HasMet}

module _ {X : Type 0} where
  -- the part that is not gathered is told by the lengths
  pub is_handed : (h g r : List X) → h ++ g ≡ r → take (length r - length g) r ≡ h
  is_handed h g r e =
      let long : length r ≡ length h + length g = ap length (sym e) ∙ length-append h g in
      let count : length r - length g ≡ length h = omega arith in
      ap (λ n. take n r) count ∙ ap (take (length h)) (sym e) ∙ take-append_seam h g

  pub prefix_then : (xs ys zs : List X) → IsPrefix xs ys → IsPrefix ys zs → IsPrefix xs zs
  prefix_then xs ys zs a b = (a.0 ++ b.0, sym (append_assoc xs a.0 b.0) ∙ ap (λ l. l ++ b.0) a.1 ∙ b.1)

pub prefix_map : {X Y : Type 0} (f : X → Y) (xs ys : List X) → IsPrefix xs ys → IsPrefix (map f xs) (map f ys)
prefix_map f xs ys p = (map f p.0, sym (map-append f xs p.0) ∙ ap (map f) p.1)

pub looks_so : (old new : Inside) → ConsumerLooked old.ring new.ring → new.gathered.items ≡ old.gathered.items → LooksOnly (coming_of old) (coming_of new)
looks_so old new l same = record {
  ring = search rules;
  had = ap (λ r. map response_of (take (length r - length new.gathered.items) r)) l.1
      ∙ ap (λ (g : List Reply). map response_of (take (length (received old.ring) - length g) (received old.ring))) same;
  gathered = ap (map response_of) same;
  items = prefix_map response_of (known_items old.ring) (known_items new.ring) l.2;
}

pub only_known : (it : Inside) → it.gathered.items ≡ [] → MayPop (coming_of it) → 0 < length (known_items it.ring)
only_known it none may =
    let gathered : length (map response_of it.gathered.items) ≡ 0 = ap (λ g. length (map response_of g)) none in
    let known : length (map response_of (known_items it.ring)) ≡ length (known_items it.ring) = length-map (known_items it.ring) response_of in
    omega (arith, may, gathered, known)

-- the first of the gathered ones is handed on
module _ (old new : Inside) (x : Reply) (ring : new.ring ≡ old.ring) (front : old.gathered.items ≡ x ∷ new.gathered.items) (is : IsComing old) where
  front_so : (handed_on old ++ x ∷ []) ++ new.gathered.items ≡ received new.ring
  front_so = append_assoc (handed_on old) (x ∷ []) new.gathered.items ∙ ap (λ g. handed_on old ++ g) (sym front) ∙ is ∙ ap received (sym ring)

  pub front_keeps : IsComing new
  front_keeps = ap (λ h. h ++ new.gathered.items) (is_handed (handed_on old ++ x ∷ []) new.gathered.items (received new.ring) front_so) ∙ front_so

  pub pops_front : PopsNext (coming_of old) (response_of x) (coming_of new)
  pops_front = record {
    ring = search rules;
    had = ap (map response_of) (is_handed (handed_on old ++ x ∷ []) new.gathered.items (received new.ring) front_so) ∙ map-append response_of (handed_on old) (x ∷ []);
    rest = inl (ap (map response_of) front, ap (λ c. map response_of (known_items c)) ring);
  }

-- after a look all that is known is gathered, and after that there may be looks again
pub meets : (old mid new : Coming) → LooksOnly old mid → HasGathered mid new → HasMet old new
meets old mid new l g = record {
  ring = g.ring ∙ l.ring;
  had = g.had ∙ l.had;
  all = (
    l.items.0,
    append_assoc old.gathered old.items l.items.0 ∙ ap (λ k. old.gathered ++ k) l.items.1 ∙ ap (λ k. k ++ mid.items) (sym l.gathered) ∙ sym g.all,
  );
}

pub meets_then : (old mid new : Coming) → HasMet old mid → LooksOnly mid new → HasMet old new
meets_then old mid new m l = record {
  ring = l.ring ∙ m.ring;
  had = l.had ∙ m.had;
  all = prefix_then (old.gathered ++ old.items) (mid.gathered ++ mid.items) (new.gathered ++ new.items) m.all
      (l.items.0, append_assoc mid.gathered mid.items l.items.0 ∙ ap (λ k. mid.gathered ++ k) l.items.1 ∙ ap (λ g. g ++ new.items) (sym l.gathered));
}

-- where the ring has told all that was put there and all of it is gathered, this is all that has come
pub all_come : (it : Inside) (new : Coming) (sent : List Reply) → IsComing it → received it.ring ++ known_items it.ring ≡ sent → HasGathered (coming_of it) new → new.items ≡ []
    → new.had ++ new.gathered ≡ map response_of sent
all_come it new sent is all g none =
    let gathered : new.gathered ≡ map response_of it.gathered.items ++ map response_of (known_items it.ring) =
    sym (append-nil new.gathered) ∙ ap (λ k. new.gathered ++ k) (sym none) ∙ g.all in
    ap (λ h. h ++ new.gathered) g.had ∙ ap (λ k. map response_of (handed_on it) ++ k) gathered
    ∙ sym (append_assoc (map response_of (handed_on it)) (map response_of it.gathered.items) (map response_of (known_items it.ring)))
    ∙ ap (λ h. h ++ map response_of (known_items it.ring)) (sym (map-append response_of (handed_on it) it.gathered.items) ∙ ap (map response_of) is)
    ∙ sym (map-append response_of (received it.ring) (known_items it.ring)) ∙ ap (map response_of) all

-- what was taken off the ring is as long as what was put there
pub as_long : (it : Inside) (new : Coming) (sent : List Reply) → coming_of it ≡ new → IsComing it → new.had ++ new.gathered ≡ map response_of sent → length (received it.ring) ≡ length sent
as_long it new sent view is all =
    let seen : map response_of (handed_on it) ++ map response_of it.gathered.items ≡ map response_of sent = ap (λ (v : Coming). v.had ++ v.gathered) view ∙ all in
    let same : map response_of (received it.ring) ≡ map response_of sent =
    ap (map response_of) (sym is) ∙ map-append response_of (handed_on it) it.gathered.items ∙ seen in
    sym (length-map (received it.ring) response_of) ∙ ap length same ∙ length-map sent response_of

pub no_more : {X : Type 0} (taken known sent : List X) → taken ++ known ≡ sent → length taken ≡ length sent → known ≡ []
no_more taken [] sent all long = refl
no_more taken (x ∷ known) sent all long =
    let more : length taken + suc (length known) ≡ length sent = sym (length-append taken (x ∷ known)) ∙ ap length all in
    absurd (omega (arith, more, long))
