-- Marks that are gone are taken from the front one by one.
use Rattle.std.proofs.Common.{◌≡◌, ◌+◌, List, [], ◌∷◌, ◌++◌, refl, sym, ap, ◌∙◌, length, arith, append_assoc}
use Rattle.std.specs.List.{AllByRecursion}
use Rattle.request_ends.specs.declared.marks.Asked.{Asked}
use Rattle.request_ends.specs.declared.marks.Asked.TheVariants.{Gone}
use Rattle.request_ends.specs.inner.Marks.{Marked, SkipsSome}

all_gone_snoc : (ms : List Asked) → AllByRecursion (λ m. m ≡ Gone) ms → AllByRecursion (λ m. m ≡ Gone) (ms ++ Gone ∷ [])
all_gone_snoc [] h = (refl, tt)
all_gone_snoc (m ∷ ms) h = (h.0, all_gone_snoc ms h.1)

length_snoc : (ms : List Asked) (m : Asked) → length (ms ++ m ∷ []) ≡ length ms + 1
length_snoc [] m = refl
length_snoc (x ∷ ms) m = let h = length_snoc ms m in omega arith

pub skips_one : (old mid new : Marked) → SkipsSome old mid → mid.list ≡ Gone ∷ new.list → new.places ≡ mid.places + 1 → SkipsSome old new
skips_one old mid new s e p = record {
  gone = s.gone ++ Gone ∷ [];
  list = s.list ∙ ap (λ l. s.gone ++ l) e ∙ sym (append_assoc s.gone (Gone ∷ []) new.list);
  all = all_gone_snoc s.gone s.all;
  places = let l = length_snoc s.gone Gone in let q = s.places in omega arith;
}
