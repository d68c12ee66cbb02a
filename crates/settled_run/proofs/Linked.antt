-- The links of a run as one list, made of the ends that its parties hold.
use Rattle.std.proofs.Common.{◌≡◌, ℕ, ◌+◌, ◌<◌, ◌≤◌, List, Option, Some, None, Bool, true, false, cond, refl, sym, ap, ◌∙◌, subst, arith, length, get_or, map}
use Rattle.std.specs.Prelude.{slice_get, nat_le}
use Rattle.std.specs.List.{range_with_len}
use Rattle.std.proofs.lemmas.Bool.Decides.{nat_tests}
use Rattle.std.proofs.lemmas.List.FromFn.{length-map-range_with_len, get_or-map-range_with_len}
use Rattle.std.proofs.lemmas.Option.{slice_get-get_or}
use Rattle.stack_code.specs.Parts.{Parts}
use Rattle.stack_code.specs.Valid.{HasLinks}
use Rattle.ac_links.specs.Views.{OwnerOffer, PeerDecision}
use Rattle.ac_links.specs.Party.{LinkEnd}
use Rattle.ac_links.specs.Party.LinkEnd.{Owns, Decides, Absent}
use Rattle.core_channels.specs.Counts.{no_calls}
use Rattle.core_channels.specs.LinkViews.{LinkViews, AreViews, IsLink, no_link, link_at, terms_at}
use Rattle.core_ports.specs.Ends.{offers_of}
use Rattle.core_ports.specs.PortsTold.{PortsTold}
use Rattle.core_ports.specs.declared.side.Side.{Side}
use Rattle.core_ports.specs.declared.side.Side.TheVariants.{Owner, Peer, Neither}
use Rattle.core_ports.specs.Sides.{side_of}
use Rattle.file_ops.specs.Agreement.{is_own, worker_ends}
use Rattle.run_laws.specs.Ends.{end_of}
use Rattle.program_run.specs.Parties.{peer_of}
use Rattle.run_laws.specs.Network.{offers_in, decisions_in, ends_in, AreLinksOf}
use Rattle.run_laws.proofs.Parties.{owner_is, peer_is, carries_messages, peer_of_channel, side_within}
use Rattle.settled_run.specs.Ends.{decisions_of, owner_end, peer_end}
use Rattle.settled_run.specs.Settled.{AreSettledEnds}

-- ---- one end

owns_it : (x : LinkEnd) (os : List OwnerOffer) → x ≡ Owns os → x ≡ Owns (offers_of x)
owns_it x os e = e ∙ ap (λ y. Owns (offers_of y)) (sym e)

decides_it : (x : LinkEnd) (ds : List PeerDecision) → x ≡ Decides ds → x ≡ Decides (decisions_of x)
decides_it x ds e = e ∙ ap (λ y. Decides (decisions_of y)) (sym e)

no_end : (o : Option LinkViews) → end_of Neither o ≡ Absent
no_end None = refl
no_end (Some v) = refl

-- ---- numbers of links

not_at_least : (m n : ℕ) → n < m → nat_le m n ≡ false
not_at_least m n h = grind (arith, nat_tests)

pub at_least : (m n : ℕ) → m ≤ n → nat_le m n ≡ true
at_least m n h = grind (arith, nat_tests)

pub own_low : (m n l : ℕ) → is_own m n l ≡ true → m ≤ l
own_low m n l h = grind (arith, nat_tests)

pub own_high : (m n l : ℕ) → is_own m n l ≡ true → l < m + n
own_high m n l h = grind (arith, nat_tests)

module _ (code : Parts) (valid : HasLinks code) (ports : ℕ → PortsTold) (worker : ℕ → LinkEnd) (settled : AreSettledEnds code ports worker) where
  abbrev channels : ℕ
  channels = length code.ends

  abbrev many : ℕ
  many = length code.entries

  abbrev count : ℕ
  count = length code.capacities

  -- each link has a place left: what is told of its slots does not come from here
  abbrev view_at : ℕ → LinkViews
  view_at l = record { terms = terms_at channels code.capacities l; offers = offers_of (owner_end code ports l); decisions = decisions_of (peer_end code ports worker l); spare = 1; counts = no_calls }

  pub links : List LinkViews
  links = map view_at (range_with_len 0 count)

  as_many : length links ≡ count
  unfolding links
  as_many = length-map-range_with_len view_at 0 count

  found : (l : ℕ) (d : LinkViews) → l < count → get_or links l d ≡ view_at l
  unfolding links
  found l d h = get_or-map-range_with_len view_at 0 count l l d h (omega arith)

  at : (l : ℕ) → l < count → link_at links l ≡ view_at l
  at l h = found l no_link h

  pub has_place : (l : ℕ) → l < count → 0 < (link_at links l).spare
  has_place l h = subst (λ (v : LinkViews). 0 < v.spare) (sym (at l h)) (omega arith)

  is_link : (l : ℕ) → l < count → IsLink (view_at l)
  is_link l h =
      let s = settled.links l h in
      subst (λ os. AreViews (nat_le channels l) os (decisions_of (peer_end code ports worker l))) (sym (ap offers_of s.owns))
      (subst (λ ds. AreViews (nat_le channels l) s.offers ds) (sym (ap decisions_of s.decides)) s.views)

  pub linked : AreLinksOf code links
  linked = record {
    count = as_many;
    terms = λ l h. ap (λ (v : LinkViews). v.terms) (at l h);
    agree = λ l d h. let lt : l < count = omega (arith, as_many) in subst IsLink (sym (found l d lt)) (is_link l lt);
  }

  -- ---- its two ends are those that the parties hold

  pub owner_has : (l : ℕ) → l < count → owner_end code ports l ≡ Owns (offers_in links l)
  owner_has l h = let s = settled.links l h in
      owns_it (owner_end code ports l) s.offers s.owns ∙ ap Owns (sym (ap (λ (v : LinkViews). v.offers) (at l h)))

  pub peer_has : (l : ℕ) → l < count → peer_end code ports worker l ≡ Decides (decisions_in links l)
  peer_has l h = let s = settled.links l h in
      decides_it (peer_end code ports worker l) s.decisions s.decides ∙ ap Decides (sym (ap (λ (v : LinkViews). v.decisions) (at l h)))

  there : (l : ℕ) → l < count → slice_get links l ≡ Some (link_at links l)
  there l h = slice_get-get_or links l no_link (omega (arith, as_many))

  pub within : (k l : ℕ) → k < many → (side_of code.ends k l ≡ Neither → ⊥) → l < count
  within k l h some = side_within code valid links linked k l h some

  pub owner_within : (k l : ℕ) → k < many → side_of code.ends k l ≡ Owner → l < count
  owner_within k l h is = within k l h (λ none. absurd (let no : Owner ≡ Neither = sym is ∙ none in cc))

  pub peer_within : (k l : ℕ) → k < many → side_of code.ends k l ≡ Peer → l < count
  peer_within k l h is = within k l h (λ none. absurd (let no : Peer ≡ Neither = sym is ∙ none in cc))

  pub owner_holds : (k l : ℕ) → k < many → side_of code.ends k l ≡ Owner → (ports k).ends l ≡ Owns (offers_in links l)
  owner_holds k l h is = ap (λ p. (ports p).ends l) (sym (owner_is code.ends k l is)) ∙ owner_has l (owner_within k l h is)

  -- after the channels the peer is the worker
  pub worker_peer : (l : ℕ) → channels ≤ l → peer_end code ports worker l ≡ worker l
  worker_peer l h = ap (λ b. cond b (worker l) ((ports (peer_of code.ends many l)).ends l)) (at_least channels l h)

  core_peer : (l : ℕ) → l < channels → peer_end code ports worker l ≡ (ports (peer_of code.ends many l)).ends l
  core_peer l h = ap (λ b. cond b (worker l) ((ports (peer_of code.ends many l)).ends l)) (not_at_least channels l h)

  pub peer_holds : (k l : ℕ) → k < many → side_of code.ends k l ≡ Peer → (ports k).ends l ≡ Decides (decisions_in links l)
  peer_holds k l h is =
      ap (λ p. (ports p).ends l) (sym (peer_is code.ends many k l is)) ∙ sym (core_peer l (peer_of_channel code valid links linked k l is))
      ∙ peer_has l (peer_within k l h is)

  core_end_by : (k l : ℕ) → k < many → (s : Side) → side_of code.ends k l ≡ s → end_of s (slice_get links l) ≡ (ports k).ends l
  core_end_by k l h Owner e = ap (end_of Owner) (there l (owner_within k l h e)) ∙ sym (owner_holds k l h e)
  core_end_by k l h Peer e =
      ap (end_of Peer) (there l (peer_within k l h e))
      ∙ ap (λ b. cond b Absent (Decides (decisions_in links l))) (carries_messages code valid links linked l (peer_of_channel code valid links linked k l e))
      ∙ sym (peer_holds k l h e)
  core_end_by k l h Neither e = no_end (slice_get links l) ∙ sym (settled.cores k l h e)

  pub core_end : (k l : ℕ) → k < many → ends_in code.ends k links l ≡ (ports k).ends l
  core_end k l h = core_end_by k l h (side_of code.ends k l) refl

  pub own_within : (l : ℕ) → is_own channels many l ≡ true → l < count
  own_within l e = let high = own_high channels many l e in let n = valid.each in omega arith

  pub worker_holds : (l : ℕ) → is_own channels many l ≡ true → worker l ≡ Decides (decisions_in links l)
  worker_holds l e = sym (worker_peer l (own_low channels many l e)) ∙ peer_has l (own_within l e)

  worker_end_by : (l : ℕ) (b : Bool) → is_own channels many l ≡ b → cond b (Decides (decisions_in links l)) Absent ≡ worker l
  worker_end_by l true e = sym (worker_holds l e)
  worker_end_by l false e = sym (settled.others l e)

  pub worker_end : (l : ℕ) → worker_ends channels many links l ≡ worker l
  worker_end l = worker_end_by l (is_own channels many l) refl
