-- What the items of a program mean is there, by its number. The lists of a program are told from the front on: what is done, and what is
-- still to come. The next item has the number of what is done, so what it means is the element at that place.
use Rattle.std.proofs.Common.{◌≡◌, ℕ, ◌+◌, ◌<◌, ◌≤◌, List, [], ◌∷◌, ◌++◌, length, Some, None, refl, sym, ap, ◌∙◌, length-append, arith}
use Rattle.std.specs.Prelude.{slice_get}
use Rattle.ac_tree.specs.declared.item.Item.{Item}
use Rattle.ac_tree.specs.declared.item.Item.TheVariants as i
use Rattle.ac_names.specs.declared.meaning.Meaning.{Meaning}
use Rattle.ac_names.specs.declared.past.Counts.{Counts}
use Rattle.ac_names.specs.declared.past.Past.{Past}
use Rattle.ac_names.specs.Scopes.{Declaration}
use Rattle.ac_names.specs.Items.{item_name, item_meaning, counted, past_after, past_all}
use Rattle.ac_names.specs.Numbered.{capacities, file_paths}
use Rattle.ac_names.proofs.Visible.{AllMean, added_mean}
use Rattle.ac_types.specs.declared.numbered.Tables.{Tables}
use Rattle.ac_types.specs.Widths.{widths_in}
use Rattle.ac_types.specs.Items.{signatures, all_carried}
use Rattle.ac_commands.specs.declared.program.Resolved.{Resolved}
use Rattle.ac_resolve.specs.Commands.{Texts}
use Rattle.ac_resolve.specs.Resolution.{cores_in, functions_in, function_in, function_texts, channels_in}
use Rattle.ac_resolve.specs.InPlace.{FrameRound}
use Rattle.ac_resolve.proofs.Within.{IsWithin}

-- ---- places in a list that is told from its front on

module _ {X : Type 0} where
  pub there_next : (done : List X) (x : X) (xs : List X) → slice_get (done ++ x ∷ xs) (length done) ≡ Some x
  there_next [] x xs = refl
  there_next (y ∷ done) x xs = there_next done x xs

  pub one_on : (done : List X) (x : X) (xs : List X) → done ++ x ∷ xs ≡ (done ++ x ∷ []) ++ xs
  one_on [] x xs = refl
  one_on (y ∷ done) x xs = ap (λ zs. y ∷ zs) (one_on done x xs)

  -- the list is what is done and what is still to come, and so many are done
  pub record IsTold (all todo : List X) (count : ℕ) : Type 0 where
    pub done : List X
    pub split : all ≡ done ++ todo
    pub many : length done ≡ count

  pub told_first : (all : List X) → IsTold all all 0
  told_first all = record { done = []; split = refl; many = refl }

  pub told_here : (all : List X) (x : X) (xs : List X) (count : ℕ) → IsTold all (x ∷ xs) count → slice_get all count ≡ Some x
  told_here all x xs count h = ap (λ zs. slice_get zs count) h.split ∙ ap (slice_get (h.done ++ x ∷ xs)) (sym h.many) ∙ there_next h.done x xs

  pub told_on : (all : List X) (x : X) (xs : List X) (count : ℕ) → IsTold all (x ∷ xs) count → IsTold all xs (count + 1)
  told_on all x xs count h = let many = h.many in record {
    done = h.done ++ x ∷ [];
    split = h.split ∙ one_on h.done x xs;
    many = omega (arith, many, length-append h.done (x ∷ []));
  }

  pub told_below : (all : List X) (x : X) (xs : List X) (count : ℕ) → IsTold all (x ∷ xs) count → count < length all
  told_below all x xs count h = let many = h.many in let whole = ap (λ zs. length zs) h.split in omega (arith, many, whole, length-append h.done (x ∷ xs))

-- ---- what all items of a list mean, by the numbers that are given before them

abbrev pub EachMeans : (Meaning → Type 0) → Counts → List Item → Type 0
EachMeans P c [] = Unit {0}
EachMeans P c (x ∷ xs) = P (item_meaning c x) × EachMeans P (counted c x) xs

pub names_mean : (P : Meaning → Type 0) (q : Past) (xs : List Item) → AllMean P q.names → EachMeans P q.counts xs → AllMean P (past_all q xs).names
names_mean P q [] h e = h
names_mean P q (x ∷ xs) h e = names_mean P (past_after q x) xs (added_mean P (item_name x) (item_meaning q.counts x) q.names e.0 h) e.1

pub slots_more : (q : Past) (xs : List Item) → q.counts.slots ≤ (past_all q xs).counts.slots
slots_more q [] = omega arith
slots_more q (x ∷ xs) = let h = slots_more (past_after q x) xs in let k = one_more q.counts x in omega (arith, h, k) where
  one_more : (c : Counts) (y : Item) → c.slots ≤ (counted c y).slots
  one_more c (i.Global at name size value) = omega arith
  one_more c (i.Function f) = omega arith
  one_more c (i.Channel at name from to cap) = omega arith
  one_more c (i.File at name path) = omega arith
  one_more c (i.Core at name entry) = omega arith

module _ (program : Resolved) (t : Tables) (all : List Item) (s : List (List Declaration)) where
  -- so far the program of all the items was told by these
  pub record AreTold (c : Counts) (xs : List Item) (ts : Texts) : Type 0 where
    pub signatures : IsTold t.functions (signatures xs) c.functions
    pub functions : IsTold program.functions (functions_in xs s ts) c.functions
    pub channels : IsTold program.channels (channels_in all c.channels xs s) c.channels
    pub widths : IsTold t.widths (widths_in (all_carried all) c.channels (length (capacities xs))) c.channels
    pub files : IsTold program.files (file_paths xs) c.files
    pub cores : IsTold program.cores (cores_in xs s) c.cores

  abbrev texts_after : Item → Texts → Texts
  texts_after (i.Function f) ts = function_texts f ts
  texts_after _ ts = ts

  pub told_after : (c : Counts) (x : Item) (xs : List Item) (ts : Texts) → AreTold c (x ∷ xs) ts → AreTold (counted c x) xs (texts_after x ts)
  told_after c (i.Global at name size value) xs ts h =
      record { signatures = h.signatures; functions = h.functions; channels = h.channels; widths = h.widths; files = h.files; cores = h.cores }
  told_after c (i.Function f) xs ts h = record {
    signatures = told_on _ _ _ _ h.signatures;
    functions = told_on _ _ _ _ h.functions;
    channels = h.channels;
    widths = h.widths;
    files = h.files;
    cores = h.cores;
  }
  told_after c (i.Channel at name from to cap) xs ts h =
      record { signatures = h.signatures; functions = h.functions; channels = told_on _ _ _ _ h.channels; widths = told_on _ _ _ _ h.widths; files = h.files; cores = h.cores }
  told_after c (i.File at name path) xs ts h =
      record { signatures = h.signatures; functions = h.functions; channels = h.channels; widths = h.widths; files = told_on _ _ _ _ h.files; cores = h.cores }
  told_after c (i.Core at name entry) xs ts h =
      record { signatures = h.signatures; functions = h.functions; channels = h.channels; widths = h.widths; files = h.files; cores = told_on _ _ _ _ h.cores }

  -- what an item means is there
  item_there : (frames : List FrameRound) (c : Counts) (x : Item) (xs : List Item) (ts : Texts) → AreTold c (x ∷ xs) ts → (counted c x).slots ≤ program.slots
      → IsWithin program t frames 0 (item_meaning c x)
  item_there frames c (i.Global at name None value) xs ts h le = omega (arith, le)
  item_there frames c (i.Global at name (Some size) value) xs ts h le = le
  item_there frames c (i.Function f) xs ts h le = record {
    signature = _;
    told = told_here _ _ _ _ h.signatures;
    function = function_in f s ts;
    there = told_here _ _ _ _ h.functions;
    params = refl;
  }
  item_there frames c (i.Channel at name from to cap) xs ts h le = record { channel = _; there = told_here _ _ _ _ h.channels; told = told_here _ _ _ _ h.widths }
  item_there frames c (i.File at name path) xs ts h le = told_below _ _ _ _ h.files
  item_there frames c (i.Core at name entry) xs ts h le = told_below _ _ _ _ h.cores

  pub items_there : (frames : List FrameRound) (q : Past) (xs : List Item) (ts : Texts) → AreTold q.counts xs ts
      → (past_all q xs).counts.slots ≤ program.slots → EachMeans (IsWithin program t frames 0) q.counts xs
  items_there frames q [] ts h le = tt
  items_there frames q (x ∷ xs) ts h le =
      let more = slots_more (past_after q x) xs in
      (item_there frames q.counts x xs ts h (omega (arith, more, le)), items_there frames (past_after q x) xs (texts_after x ts) (told_after q.counts x xs ts h) le)
