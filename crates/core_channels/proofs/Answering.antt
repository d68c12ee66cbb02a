-- What a call reads in a link determines its answer. For `take`, `withdraw` and `front`.
-- What was read in the fields stands in the link as contracts see it, and the offer at the number of decisions is the one that is received.
use Rattle.std.proofs.Common.{◌≡◌, ℕ, ◌<◌, List, Some, sym, ap, subst, length, get_or, refl}
use Rattle.std.specs.Prelude.{slice_get}
use Rattle.std.proofs.lemmas.Option.{slice_get_read}
use Rattle.ac_links.specs.Views.{OwnerOffer}
use Rattle.core_channels.specs.LinkViews.{LinkViews}
use Rattle.core_channels.specs.Takes.{receiving_one, receiving_of, receiving}

pub read_at : {X : Type 0} (xs ys : List X) (n : ℕ) (x : X) → xs ≡ ys → n < length xs → x ≡ get_or xs n x → slice_get ys n ≡ Some x
read_at xs ys n x e l g = subst (λ zs. slice_get zs n ≡ Some x) e (slice_get_read xs (length xs) n x refl l g)

-- the first offer that is not decided is received
pub first_is_received : (v : LinkViews) (last n : ℕ) (o : OwnerOffer) → n ≡ length v.decisions → slice_get v.offers n ≡ Some o → receiving v last ≡ receiving_one last n o o.withdrawn
first_is_received v last n o e h =
    subst (λ k. slice_get v.offers k ≡ Some o → receiving v last ≡ receiving_one last k o o.withdrawn) (sym e) (λ g. ap (λ q. receiving_of last (length v.decisions) q) g) h
