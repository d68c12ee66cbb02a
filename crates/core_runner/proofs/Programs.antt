-- In the code of a program each core's link of requests has sixteen places.
use Rattle.std.proofs.Common.{◌≡◌, ℕ, zero, suc, ◌+◌, ◌<◌, List, [], ◌∷◌, ◌++◌, Some, refl, sym, ap, ◌∙◌, subst, arith, length, map, replicate}
use Rattle.std.specs.Prelude.{slice_get}
use Rattle.std.proofs.lemmas.List.{length-map}
use Rattle.ac_commands.specs.declared.program.Channel.{Channel}
use Rattle.ac_commands.specs.declared.program.Core.{Core}
use Rattle.ac_commands.specs.declared.program.Resolved.{Resolved}
use Rattle.ac_translation.specs.Translation.{code_of, ends_of, request_capacity}
use Rattle.core_runner.specs.Places.{HavePlaces}

same_at : {X : Type 0} (n k : ℕ) (x : X) → k < n → slice_get (replicate n x) k ≡ Some x
same_at zero k x h = absurd (omega (arith, h))
same_at (suc n) zero x h = refl
same_at (suc n) (suc k) x h = same_at n k x (omega (arith, h))

at_second : {X : Type 0} (xs ys : List X) (n k : ℕ) → n ≡ length xs → slice_get (xs ++ ys) (n + k) ≡ slice_get ys k
at_second [] ys n k e = ap (slice_get ys) (omega (arith, e))
at_second (x ∷ xs) ys zero k e = absurd (omega (arith, e))
at_second (x ∷ xs) ys (suc n) k e = let next : suc n + k ≡ suc (n + k) = omega arith in
    ap (slice_get (x ∷ (xs ++ ys))) next ∙ at_second xs ys n k (omega (arith, e))

places_of : (program : Resolved) → HavePlaces (code_of program)
places_of program k low =
    let n = length-map program.channels ends_of in
    let m = length-map program.channels (λ (channel : Channel). channel.capacity) in
    let c = length-map program.cores (λ (core : Core). core.entry) in
    at_second (map (λ (channel : Channel). channel.capacity) program.channels) (replicate (length program.cores) request_capacity) (length (map ends_of program.channels)) k (n ∙ sym m)
    ∙ same_at (length program.cores) k request_capacity (omega (arith, low, c))

pub program_has_places : (program : Resolved) → (code : _) → code ≡ code_of program → HavePlaces code
program_has_places program code is = subst HavePlaces (sym is) (places_of program)
