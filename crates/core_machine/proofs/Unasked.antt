-- Where no operation is a request, none stands on the link of the core's requests. For `has_to_offer`, which then need not search.
-- Each operation stands at its place (`Tracks`), by which one on that link is a request; by induction on the operations.
use Rattle.std.proofs.Common.{◌≡◌, ℕ, List, [], ◌∷◌, None, Some, Bool, true, false, refl, sym, ap, ◌∙◌, subst}
use Rattle.std.specs.Prelude.{All, find, cond, nat_eq, is_some, ◌&&◌, ◌||◌}
use Rattle.std.specs.List.{list_any}
use Rattle.std.proofs.lemmas.List.Elements.{All-head, All-tail}
use Rattle.cancel_scope.specs.declared.operation.Operation.{Operation}
use Rattle.cancel_scope.specs.Outstanding.{is_outgoing, is_request, is_to_offer, is_waiting}
use Rattle.core_machine.specs.declared.running.Running.{Running}
use Rattle.core_machine.specs.Machine.{Machine, has_ended}
use Rattle.core_machine.specs.State.{IsSound, machine_of, state_of}
use Rattle.core_machine.specs.Points.{has_to_offer, operations_of, requests_of}
use Rattle.core_machine.specs.Tracks.{IsPlaced}
use Rattle.core_machine.proofs.Points.{going_on, operations_are, tracks_of}

neither : (a b : Bool) → (a || b) ≡ false → (a ≡ false) × (b ≡ false)
neither true b h = let no : true ≡ false = h in cc
neither false b h = (refl, h)

module _ (requests : ℕ) where
  -- the first is on another link, and so are the others
  elsewhere : (o : Operation) (os : List Operation) → All (IsPlaced requests) (o ∷ os) → list_any (λ o. is_request o.asked) (o ∷ os) ≡ false
      → (nat_eq o.link requests ≡ false) × (All (IsPlaced requests) os × (list_any (λ o. is_request o.asked) os ≡ false))
  elsewhere o os placed none =
      let both = neither (is_request o.asked) (list_any (λ o. is_request o.asked) os) none in
      (sym (All-head (IsPlaced requests) o os placed).link ∙ both.0, (All-tail (IsPlaced requests) o os placed, both.1))

  none_to_offer : (os : List Operation) → All (IsPlaced requests) os → list_any (λ o. is_request o.asked) os ≡ false → find (is_to_offer requests) os ≡ None
  none_to_offer [] placed none = refl
  none_to_offer (o ∷ os) placed none =
      let rest = elsewhere o os placed none in
      ap (λ b. cond (b && (is_outgoing o.asked && is_waiting o.progress)) (Some o) (find (is_to_offer requests) os)) rest.0 ∙ none_to_offer os rest.1.0 rest.1.1

  pub nothing_to_offer : (os : List Operation) → All (IsPlaced requests) os → list_any (λ o. is_request o.asked) os ≡ false → has_to_offer os requests ≡ false
  nothing_to_offer os placed none = ap is_some (none_to_offer os placed none)

-- ---- a core that goes on

module _ (m : Running) (old : Machine) (is : machine_of m ≡ old) (sound : IsSound m) (going : has_ended old.state ≡ false) where
  here : has_ended (state_of m) ≡ false
  here = subst (λ (n : Machine). has_ended n.state ≡ false) (sym is) going

  same : m.outstanding.operations ≡ operations_of old.state
  same = sym (operations_are m here) ∙ ap (λ (n : Machine). operations_of n.state) is

  pub requests_are : m.requests ≡ requests_of old
  requests_are = sound.requests (going_on m here) ∙ ap requests_of is

  placed : All (IsPlaced (requests_of old)) (operations_of old.state)
  placed = (tracks_of m old is sound going).placed

  pub offers_none : (link : ℕ) → link ≡ m.requests → list_any (λ o. is_request o.asked) m.outstanding.operations ≡ false → has_to_offer (operations_of old.state) link ≡ false
  offers_none link at none =
      subst (λ l. has_to_offer (operations_of old.state) l ≡ false) (sym (at ∙ requests_are))
      (nothing_to_offer (requests_of old) (operations_of old.state) placed (subst (λ os. list_any (λ (o : Operation). is_request o.asked) os ≡ false) same none))
