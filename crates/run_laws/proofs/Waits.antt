-- An operation that waits at an end of its core is to be offered, or is to receive, there.
use Rattle.std.proofs.Common.{◌≡◌, ℕ, ◌+◌, List, [], ◌∷◌, length, Some, Bool, true, false, cond, refl, sym, ap, ◌∙◌, subst, arith, eq-eqb}
use Rattle.std.specs.Prelude.{map, find, nat_eq, not, is_some, slice_get, ◌&&◌, ◌||◌, ◌==◌, ◌≢◌}
use Rattle.std.specs.List.{list_any}
use Rattle.std.proofs.lemmas.Bool.{and_parts, eqb-true}
use Rattle.std.proofs.lemmas.Bool.Decides.{nat_tests}
use Rattle.std.proofs.lemmas.List.Elements.{All-head, All-tail}
use Rattle.std.proofs.lemmas.Option.{slice_get_within, get_or_from_slice_get}
use Rattle.ac_base.specs.declared.ends.Waiting.{Waiting}
use Rattle.cancel_scope.specs.declared.operation.Asked.{Asked}
use Rattle.cancel_scope.specs.declared.operation.Asked.TheVariants.{Send, Recv, Read, Write}
use Rattle.cancel_scope.specs.declared.operation.Operation.{Operation}
use Rattle.cancel_scope.specs.declared.operation.Progress.{Progress}
use Rattle.cancel_scope.specs.declared.operation.Progress.TheVariants as progress
use Rattle.cancel_scope.specs.Outstanding as outstanding
use Rattle.cancel_scope.specs.Outstanding.{is_outgoing, is_to_offer, is_to_receive, phase_of, waiting_as}
use Rattle.ac_history.specs.Quiet.{is_waiting}
use Rattle.stack_code.specs.declared.parts.ChannelEnds.{ChannelEnds}
use Rattle.stack_code.specs.Parts.{Parts}
use Rattle.stack_code.specs.Valid.{HasLinks, IsChannel}
use Rattle.code_safety.specs.KeptEnds.{IsSender, IsReceiver, IsOwnLink, IsAtEnd, AreAtEnds}
use Rattle.core_machine.specs.Points.{has_to_offer, receives_from}
use Rattle.core_ports.specs.declared.side.Side.TheVariants.{Owner, Peer, Neither}
use Rattle.core_ports.specs.Sides.{channel_side, side_at, side_of}
use Rattle.core_driver.proofs.Looking.{peer_is_channel}

-- ---- the side of an end

module _ (code : Parts) (core l : ℕ) where
  side_there : (ends : ChannelEnds) → slice_get code.ends l ≡ Some ends → side_of code.ends core l ≡ channel_side core ends
  side_there ends h = ap (side_at (length code.ends) core l) h

  sender_owns : IsSender code core l → side_of code.ends core l ≡ Owner
  sender_owns h = side_there h.ends h.there ∙ ap (λ b. cond b Owner (cond (h.ends.to == core) Peer Neither)) (eq-eqb h.ends.from core h.from)

  two_cores : HasLinks code → (ends : ChannelEnds) → slice_get code.ends l ≡ Some ends → ends.from ≢ ends.to
  two_cores valid ends h =
      (subst (IsChannel code) (get_or_from_slice_get code.ends l ends ends h) (valid.channels l ends (slice_get_within code.ends l ends h))).2

  differs : (m n : ℕ) → m ≢ n → nat_eq m n ≡ false
  differs m n h = grind (arith, nat_tests)

  receiver_is_peer : HasLinks code → IsReceiver code core l → side_of code.ends core l ≡ Peer
  receiver_is_peer valid h =
      side_there h.ends h.there
      ∙ ap (λ b. cond b Owner (cond (h.ends.to == core) Peer Neither)) (differs h.ends.from core (λ e. two_cores valid h.ends h.there (e ∙ sym h.to)))
      ∙ ap (λ b. cond b Peer Neither) (eq-eqb h.ends.to core h.to)

  -- the link of its requests is no channel
  is_no_channel : IsOwnLink code core l → side_of code.ends core l ≡ Peer → ⊥
  is_no_channel own side =
      let low = peer_is_channel code.ends core l side in
      let at : l ≡ length code.ends + core = own in
      omega (arith, low, at)

  -- a core does not send where it receives
  no_send : (a : Asked) → IsAtEnd code core l a → side_of code.ends core l ≡ Peer → is_outgoing a ≡ false
  no_send (Send value) h side = let no : Owner ≡ Peer = sym (sender_owns h) ∙ side in absurd (cc)
  no_send (Recv place) h side = refl
  no_send (Read file from into) h side = absurd (is_no_channel h side)
  no_send (Write file from bytes) h side = absurd (is_no_channel h side)

  sends : HasLinks code → (a : Asked) → IsAtEnd code core l a → side_of code.ends core l ≡ Owner → is_outgoing a ≡ true
  sends valid (Send value) h side = refl
  sends valid (Recv place) h side = let no : Peer ≡ Owner = sym (receiver_is_peer valid h) ∙ side in absurd (cc)
  sends valid (Read file from into) h side = refl
  sends valid (Write file from bytes) h side = refl

-- ---- an operation that waits

waits_as : (p : Progress) → is_waiting (phase_of p) ≡ outstanding.is_waiting p
waits_as progress.Waiting = refl
waits_as (progress.Offered number) = refl
waits_as (progress.Started number) = refl

abbrev waits_there : ℕ → Waiting → Bool
waits_there l w = nat_eq w.link l && is_waiting w.phase

module _ (code : Parts) (core l : ℕ) where
  abbrev at_end : Operation → Type 0
  at_end o = IsAtEnd code core o.link o.asked

  here : (o : Operation) → at_end o → nat_eq o.link l ≡ true → IsAtEnd code core l o.asked
  here o h e = subst (λ k. IsAtEnd code core k o.asked) (eqb-true o.link l e) h

  pub receives_there : (os : List Operation) → AreAtEnds code core os → side_of code.ends core l ≡ Peer → list_any (waits_there l) (map waiting_as os) ≡ true → receives_from os l ≡ true
  receives_there [] ends side h = let no : false ≡ true = h in absurd (cc)
  receives_there (o ∷ os) ends side h = by (receives_there os (All-tail at_end o os ends) side) (nat_eq o.link l) refl
    where
      by : (list_any (waits_there l) (map waiting_as os) ≡ true → receives_from os l ≡ true) → (b : Bool) → nat_eq o.link l ≡ b → receives_from (o ∷ os) l ≡ true
      by later true e =
          let receives = no_send code core l o.asked (here o (All-head at_end o os ends) e) side in
          let it : is_to_receive l o ≡ true = ap (λ b. b && not (is_outgoing o.asked)) e ∙ ap not receives in
          ap (λ b. is_some (cond b (Some o) (find (is_to_receive l) os))) it
      by later false e =
          let not_it : is_to_receive l o ≡ false = ap (λ b. b && not (is_outgoing o.asked)) e in
          let waits : list_any (waits_there l) (map waiting_as os) ≡ true =
          sym (ap (λ b. (b && is_waiting (phase_of o.progress)) || list_any (waits_there l) (map waiting_as os)) e) ∙ h in
          ap (λ b. is_some (cond b (Some o) (find (is_to_receive l) os))) not_it ∙ later waits

  first_or_later : (b : Bool) (o : Operation) (os : List Operation) → has_to_offer os l ≡ true → is_some (cond b (Some o) (find (is_to_offer l) os)) ≡ true
  first_or_later true o os some = refl
  first_or_later false o os some = some

  pub sends_there : HasLinks code → (os : List Operation) → AreAtEnds code core os → side_of code.ends core l ≡ Owner → list_any (waits_there l) (map waiting_as os) ≡ true
      → has_to_offer os l ≡ true
  sends_there valid [] ends side h = let no : false ≡ true = h in absurd (cc)
  sends_there valid (o ∷ os) ends side h = by (sends_there valid os (All-tail at_end o os ends) side) (nat_eq o.link l && outstanding.is_waiting o.progress) refl
    where
      by : (list_any (waits_there l) (map waiting_as os) ≡ true → has_to_offer os l ≡ true) → (b : Bool) → (nat_eq o.link l && outstanding.is_waiting o.progress) ≡ b → has_to_offer (o ∷ os) l ≡ true
      by later true e =
          let parts = and_parts (nat_eq o.link l) (outstanding.is_waiting o.progress) e in
          let sending = sends code core l valid o.asked (here o (All-head at_end o os ends) parts.0) side in
          let it : is_to_offer l o ≡ true = ap (λ b. b && (is_outgoing o.asked && outstanding.is_waiting o.progress)) parts.0 ∙ ap (λ b. b && outstanding.is_waiting o.progress) sending ∙ parts.1 in
          ap (λ b. is_some (cond b (Some o) (find (is_to_offer l) os))) it
      by later false e =
          let waits : list_any (waits_there l) (map waiting_as os) ≡ true =
          sym (ap (λ b. (nat_eq o.link l && b) || list_any (waits_there l) (map waiting_as os)) (waits_as o.progress)
          ∙ ap (λ b. b || list_any (waits_there l) (map waiting_as os)) e) ∙ h in
          first_or_later (is_to_offer l o) o os (later waits)
