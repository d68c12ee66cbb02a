-- A program that breaks no rule names only what is there, once it is without names. Item by item, with what the nodes of the item do not
-- break: functions by the laws on statements, cores and channels by what their names mean, starting values by the slots before them.
use Rattle.std.proofs.Common.{◌≡◌, ℕ, zero, suc, ◌+◌, ◌<◌, ◌≤◌, List, [], ◌∷◌, ◌++◌, length, map, Option, Some, None, Bool, true, false, inl, inr, refl, sym, ap, ◌∙◌, subst, arith}
use Rattle.std.specs.Prelude.{◌≢◌, ℤ, pos, negsuc, nat_eq, nat_lt, nat_le, not, if◌then◌else◌, slice_get}
use Rattle.std.proofs.lemmas.Bool.Decides.{nat_tests}
use Rattle.ac_tree.specs.declared.item.Item.{Item}
use Rattle.ac_tree.specs.declared.item.Item.TheVariants as i
use Rattle.ac_tree.specs.declared.item.Function as tree
use Rattle.ac_tree.specs.declared.item.Param.{Param}
use Rattle.ac_tree.specs.declared.item.Program.{Program}
use Rattle.ac_tree.specs.Shape.{AreEntries, AreItems, HasShape}
use Rattle.ac_names.specs.declared.meaning.Meaning.{Meaning}
use Rattle.ac_names.specs.declared.meaning.Meaning.TheVariants as m
use Rattle.ac_names.specs.declared.names.Names.{Names}
use Rattle.ac_names.specs.declared.past.Past.{Past}
use Rattle.ac_names.specs.declared.kind.NameKind.TheVariants as ki
use Rattle.ac_names.specs.Kinds.{is_other, is_undeclared, either, both}
use Rattle.ac_names.specs.Scopes.{Declaration, in_scope, visible}
use Rattle.ac_names.specs.Items.{kinds_in, param_at, param_named, params_named, function_names, past_after, past_all, no_past, whole, outermost}
use Rattle.ac_names.specs.Numbered.{core_names, capacity_size}
use Rattle.ac_names.proofs.Numbers.{cores_counted, files_counted}
use Rattle.ac_names.proofs.Visible.{AllMean, none_mean, outer}
use Rattle.ac_reach.specs.declared.reached.Reached.{Reached}
use Rattle.ac_types.specs.declared.numbered.Tables.{Tables}
use Rattle.ac_types.specs.Tables.{callee, callee_of}
use Rattle.ac_types.specs.Nodes.{Node}
use Rattle.ac_types.specs.Expressions.{one_node, join_nodes}
use Rattle.ac_types.specs.Statements.{stmt_nodes, body_gives}
use Rattle.ac_types.specs.Items.{all_carried, channel_width}
use Rattle.ac_types.specs.Items.{tables_of, core_tests, link_tests, is_no_entry, is_capacity, is_same_core, reached_in, around_of, params_give, function_nodes, item_gives, items_give, program_nodes}
use Rattle.ac_types.specs.Judged.{lacks_one}
use Rattle.ac_types.specs.Reached.{BreaksNone}
use Rattle.ac_types.proofs.Widths.{is_width}
use Rattle.ac_types.proofs.Cleans.{AllClean, clean_program, clean_sooner, clean_later, not_false}
use Rattle.ac_commands.specs.declared.program.Function.{Function}
use Rattle.ac_commands.specs.declared.program.Channel.{Channel}
use Rattle.ac_commands.specs.declared.program.Core.{Core}
use Rattle.ac_commands.specs.declared.program.Start.{Start}
use Rattle.ac_commands.specs.declared.program.Resolved.{Resolved}
use Rattle.ac_resolve.specs.Places.{function_of, core_of}
use Rattle.ac_resolve.specs.Commands.{Texts}
use Rattle.ac_resolve.specs.Resolution.{body_names, function_in, function_texts, functions_in, items_texts, cores_in, channels_in, start_at, starts_in, resolved}
use Rattle.ac_resolve.proofs.Tellings.{Kept, kept_same, kept_further, body_kept}
use Rattle.ac_resolve.specs.InPlace.{Use, AsInt, AsReference, use_of, FrameRound, in_function, IsCore, IsChannel, IsFunction, AreStarts, IsInPlace}
use Rattle.ac_resolve.proofs.Uses.{uses_in, body_uses, own_body}
use Rattle.ac_resolve.proofs.Stretches.{Hold, Stands, whole_stands, stands_sooner, stands_later, hold_one}
use Rattle.ac_resolve.proofs.Within.{IsWithin, AllWithin, within_declared, reached_here}
use Rattle.ac_resolve.proofs.ValuesInPlace.{AreClean, asked_true}
use Rattle.ac_resolve.proofs.BodiesInPlace.{entries_do}
use Rattle.ac_resolve.proofs.ItemsInPlace.{told_first, names_mean, slots_more, AreTold, items_there}

-- ---- texts keep their numbers

items_kept : (xs : List Item) (ts : Texts) → Kept ts (items_texts xs ts)
items_kept [] ts = kept_same ts
items_kept (i.Function f ∷ xs) ts = kept_further ts (function_texts f ts) _ (body_kept f.body ts) (items_kept xs (function_texts f ts))
items_kept (i.Global at name size value ∷ xs) ts = items_kept xs ts
items_kept (i.Channel at name from to cap ∷ xs) ts = items_kept xs ts
items_kept (i.File at name path ∷ xs) ts = items_kept xs ts
items_kept (i.Core at name entry ∷ xs) ts = items_kept xs ts

-- ---- parameters

kinds_long : (ps : List Param) → length (kinds_in ps) ≡ length ps
kinds_long [] = refl
kinds_long (p ∷ ps) = let more = kinds_long ps in omega (arith, more)

kinds_held : (ps : List Param) → length (map use_of (kinds_in ps)) ≡ length ps
kinds_held [] = refl
kinds_held (p ∷ ps) = let more = kinds_held ps in omega (arith, more)

params_slot : (ps : List Param) (n : Names) → (params_named ps n).slot ≡ n.slot + length ps
params_slot [] n = omega arith
params_slot (p ∷ ps) n = let more = params_slot ps (param_named p n) in omega (arith, more)

params_labels : (ps : List Param) (n : Names) → (params_named ps n).labels ≡ n.labels
params_labels [] n = refl
params_labels (p ∷ ps) n = params_labels ps (param_named p n)

-- the frame of a function is the only one round its body
abbrev frame : List Use → List FrameRound
frame us = record { uses = us; entered = [] } ∷ []

first_true : (x y : Bool) → x ≡ true → either x y ≡ true
first_true true y h = refl
first_true false y h = cc

second_true : (x y : Bool) → y ≡ true → either x y ≡ true
second_true true y h = refl
second_true false y h = h

-- ---- what the rules on numbers allow

core_number : (n : ℕ) → (either (nat_eq n 0) (nat_lt 16 n) ≡ true → ⊥) → (1 ≤ n) × (n ≤ 16)
core_number n h = by (nat_eq n 0) (nat_lt 16 n) refl refl h where
  by : (a b : Bool) → nat_eq n 0 ≡ a → nat_lt 16 n ≡ b → (either a b ≡ true → ⊥) → (1 ≤ n) × (n ≤ 16)
  by true b p q k = absurd (k refl)
  by false true p q k = absurd (k refl)
  by false false p q k = (grind (arith, nat_tests, p), grind (arith, nat_tests, q))

file_number : (n : ℕ) → (nat_le 16 n ≡ true → ⊥) → n + 1 ≤ 16
file_number n h = by (nat_le 16 n) refl h where
  by : (b : Bool) → nat_le 16 n ≡ b → (b ≡ true → ⊥) → n + 1 ≤ 16
  by true p k = absurd (k refl)
  by false p k = grind (arith, nat_tests, p)

capacity_fits : (cap : ℤ) → is_capacity cap ≡ true → (1 ≤ capacity_size cap) × (capacity_size cap ≤ 64)
capacity_fits (pos n) e = by (nat_le 1 n) (nat_le n 64) refl refl e where
  by : (a b : Bool) → nat_le 1 n ≡ a → nat_le n 64 ≡ b → both a b ≡ true → (1 ≤ (if b then n else 0)) × ((if b then n else 0) ≤ 64)
  by true true p q k = (grind (arith, nat_tests, p), grind (arith, nat_tests, q))
  by true false p q k = cc
  by false b p q k = cc
capacity_fits (negsuc n) e = cc

-- ---- items

module _ (program : Resolved) (t : Tables) where
  -- parameters have the first slots
  params_within : (us rest : List Use) (ps : List Param) (n : Names) → Stands us (map use_of (kinds_in ps) ++ rest) n.slot → AllWithin program t (frame us) 0 n.scopes
      → AllWithin program t (frame us) 0 (params_named ps n).scopes
  params_within us rest [] n st h = h
  params_within us rest (p ∷ ps) n st h =
      let more = map use_of (kinds_in ps) ++ rest in
      params_within us rest ps (param_named p n) (stands_later us (use_of p.is_array ∷ []) more n.slot 1 refl st)
      (within_declared program t (frame us) 0 p.name (param_at p.is_array n.slot) n.scopes
      (by p.is_array (hold_one us (use_of p.is_array) n.slot (stands_sooner us (use_of p.is_array ∷ []) more n.slot st))) h) where
        by : (b : Bool) → Hold us n.slot 1 (use_of b) → IsWithin program t (frame us) 0 (param_at b n.slot)
        by true q = reached_here (frame us) 0 n.slot 1 AsReference (omega arith) q
        by false q = reached_here (frame us) 0 n.slot 1 AsInt (omega arith) q

  no_label : (name : List ℕ) (what : Meaning) → visible name [] ≡ Some what → ⊥
  no_label name what e = cc

  module _ (names : List Declaration) (there : (frames : List FrameRound) → AllMean (IsWithin program t frames 0) names) where
    abbrev s : List (List Declaration)
    s = names ∷ []

    all_there : (frames : List FrameRound) → AllWithin program t frames 0 s
    all_there frames name what e = there frames name what (outer (in_scope name names) what e)

    abbrev nodes_of : Past → List Item → List Node
    nodes_of q xs = items_give (List Node) one_node [] join_nodes q xs t s

    abbrev first_nodes : Past → Item → List Node
    first_nodes q x = item_gives (List Node) one_node [] join_nodes q x t s

    first_clean : (q : Past) (x : Item) (xs : List Item) → AllClean (nodes_of q (x ∷ xs)) → AllClean (first_nodes q x)
    first_clean q x xs c = clean_sooner (first_nodes q x) (nodes_of (past_after q x) xs) c

    rest_clean : (q : Past) (x : Item) (xs : List Item) → AllClean (nodes_of q (x ∷ xs)) → AllClean (nodes_of (past_after q x) xs)
    rest_clean q x xs c = clean_later (first_nodes q x) (nodes_of (past_after q x) xs) c

    -- ---- functions

    -- Its parameters have the first slots and its body those after them. So what is round the body is the scope of the parameters within
    -- the top level, one frame, and no label and no loop; and the statements of the body are in place there.
    function_there : (f : tree.Function) (ts : Texts) (reached : Reached) → AreEntries f.body → AllClean (function_nodes f t s reached)
        → Kept (function_texts f ts) program.texts → IsFunction program (function_in f s ts)
    function_there f ts reached g c kept =
        let params = map use_of (kinds_in f.params) in
        let others = uses_in f.body in
        let us = params ++ others in
        let n = body_names f s in
        let long = kinds_long f.params in
        let many = body_uses f.body in
        record {
          others = others;
          own = own_body f.body;
          slots = omega (arith, long, many);
          body = entries_do program t f.body g (in_function us) n (around_of f reached) ts
              (record {
                some = omega arith;
                loop = refl;
                block = refl;
                names = params_within us others f.params (function_names s) (whole_stands us) (all_there (frame us));
                labels = λ name what e. absurd (no_label name what (ap (λ ls. visible name ls) (sym (params_labels f.params (function_names s))) ∙ e));
                before = λ block e. cc;
                slots = subst (Stands us others) (sym (params_slot f.params (function_names s)))
                    (stands_later us params others 0 (length f.params) (kinds_held f.params) (whole_stands us));
                kept = kept;
              })
              (clean_later (params_give (List Node) one_node [] join_nodes f.params (function_names s))
              (body_gives (List Node) one_node [] join_nodes (map stmt_nodes f.body) t n (around_of f reached)) c);
        }

    functions_there : (q : Past) (xs : List Item) (ts : Texts) → AreItems xs → AllClean (nodes_of q xs) → Kept (items_texts xs ts) program.texts
        → (number : ℕ) (f : Function) → slice_get (functions_in xs s ts) number ≡ Some f → IsFunction program f
    functions_there q [] ts g c kept number f e = cc
    functions_there q (i.Function x ∷ xs) ts g c kept zero f e =
        subst (IsFunction program) (same (function_in x s ts) f e)
        (function_there x ts (reached_in (slice_get t.reached q.counts.functions)) g.0 (first_clean q (i.Function x) xs c).1
        (kept_further (function_texts x ts) (items_texts xs (function_texts x ts)) program.texts (items_kept xs (function_texts x ts)) kept)) where
          same : (a b : Function) → Some a ≡ Some b → a ≡ b
          same a b h = cc
    functions_there q (i.Function x ∷ xs) ts g c kept (suc number) f e =
        functions_there (past_after q (i.Function x)) xs (function_texts x ts) g.1 (rest_clean q (i.Function x) xs c) kept number f e
    functions_there q (i.Global at name size value ∷ xs) ts g c kept number f e =
        functions_there (past_after q (i.Global at name size value)) xs ts g.1 (rest_clean q (i.Global at name size value) xs c) kept number f e
    functions_there q (i.Channel at name from to cap ∷ xs) ts g c kept number f e =
        functions_there (past_after q (i.Channel at name from to cap)) xs ts g.1 (rest_clean q (i.Channel at name from to cap) xs c) kept number f e
    functions_there q (i.File at name path ∷ xs) ts g c kept number f e =
        functions_there (past_after q (i.File at name path)) xs ts g.1 (rest_clean q (i.File at name path) xs c) kept number f e
    functions_there q (i.Core at name entry ∷ xs) ts g c kept number f e =
        functions_there (past_after q (i.Core at name entry)) xs ts g.1 (rest_clean q (i.Core at name entry) xs c) kept number f e

    -- ---- cores

    none_for : (ps : List Bool) → nat_eq (length ps) 0 ≡ true → ps ≡ []
    none_for [] e = refl
    none_for (p ∷ ps) e = absurd (grind (arith, nat_tests, e))

    entry_there : (before o : Option Meaning) → ((what : Meaning) → o ≡ Some what → IsWithin program t [] 0 what) → AreClean (core_tests before o (callee t o))
        → (name : List ℕ) → IsCore program (record { name = name; entry = function_of o })
    entry_there before None h c name = absurd (c 2 (inr (inl (refl, refl))))
    entry_there before (Some (m.Function k)) h c name =
        let q = h (m.Function k) refl in
        let told = ap (λ o. is_no_entry (callee_of k o)) q.told in
        record {
          function = q.function;
          there = q.there;
          params = q.params ∙ none_for q.signature.params (no_params q.signature.is_async (nat_eq (length q.signature.params) 0)
              (λ e. c 10 (inr (inr (inr (inl (refl, told ∙ e)))))));
        } where
          no_params : (a b : Bool) → (either (not a) (not b) ≡ true → ⊥) → b ≡ true
          no_params true b n = not_false b n
          no_params false b n = absurd (n refl)
    entry_there before (Some what) h c name = absurd (c 4 (inr (inr (inl (refl, refl)))))

    cores_there : (q : Past) (xs : List Item) → AllClean (nodes_of q xs) → (number : ℕ) (core : Core) → slice_get (cores_in xs s) number ≡ Some core → IsCore program core
    cores_there q [] c number core e = cc
    cores_there q (i.Core at name entry ∷ xs) c zero core e =
        subst (IsCore program) (same (record { name = name; entry = function_of (visible entry s) }) core e)
        (entry_there (in_scope name q.names) (visible entry s) (all_there [] entry) (first_clean q (i.Core at name entry) xs c).0 name) where
          same : (a b : Core) → Some a ≡ Some b → a ≡ b
          same a b h = cc
    cores_there q (i.Core at name entry ∷ xs) c (suc number) core e = cores_there (past_after q (i.Core at name entry)) xs (rest_clean q (i.Core at name entry) xs c) number core e
    cores_there q (i.Function f ∷ xs) c number core e = cores_there (past_after q (i.Function f)) xs (rest_clean q (i.Function f) xs c) number core e
    cores_there q (i.Global at name size value ∷ xs) c number core e =
        cores_there (past_after q (i.Global at name size value)) xs (rest_clean q (i.Global at name size value) xs c) number core e
    cores_there q (i.Channel at name from to cap ∷ xs) c number core e =
        cores_there (past_after q (i.Channel at name from to cap)) xs (rest_clean q (i.Channel at name from to cap) xs c) number core e
    cores_there q (i.File at name path ∷ xs) c number core e = cores_there (past_after q (i.File at name path)) xs (rest_clean q (i.File at name path) xs c) number core e

    cores_many : (xs : List Item) → length (cores_in xs s) ≡ length (core_names xs)
    cores_many [] = refl
    cores_many (i.Core at name entry ∷ xs) = let more = cores_many xs in omega (arith, more)
    cores_many (i.Function f ∷ xs) = cores_many xs
    cores_many (i.Global at name size value ∷ xs) = cores_many xs
    cores_many (i.Channel at name from to cap ∷ xs) = cores_many xs
    cores_many (i.File at name path ∷ xs) = cores_many xs

    -- ---- channels

    -- an end of a channel
    data IsEnd : Option Meaning → Type 0 where
      is_end : (k : ℕ) → k < length program.cores → IsEnd (Some (m.Core k))

    end_there : (o : Option Meaning) → ((what : Meaning) → o ≡ Some what → IsWithin program t [] 0 what) → (is_undeclared o ≡ true → ⊥) → (is_other ki.Core o ≡ true → ⊥) → IsEnd o
    end_there None h u c = absurd (u refl)
    end_there (Some (m.Core k)) h u c = is_end k (h (m.Core k) refl)
    end_there (Some what) h u c = absurd (c refl)

    end_below : (o : Option Meaning) → IsEnd o → core_of o < length program.cores
    end_below _ (is_end k lt) = lt

    ends_differ : (from to : Option Meaning) → IsEnd from → IsEnd to → (is_same_core from to ≡ true → ⊥) → core_of from ≢ core_of to
    ends_differ _ _ (is_end j lt) (is_end k lt2) n e = n (grind (arith, nat_tests, e))

    channel_there : (all : List Item) (before : Option Meaning) (from to : List ℕ) (cap : ℤ) (channels : ℕ) → AreClean (link_tests before (visible from s) (visible to s) cap channels)
        → IsChannel program (record { from = core_of (visible from s); to = core_of (visible to s); capacity = capacity_size cap; width = channel_width all channels })
    channel_there all before from to cap channels c =
        let known : lacks_one (visible from s) (visible to s) ≡ true → ⊥ = λ e. c 2 (inr (inl (refl, e))) in
        let fitting : either (is_other ki.Core (visible from s)) (is_other ki.Core (visible to s)) ≡ true → ⊥ =
        λ e. c 4 (inr (inr (inl (refl, asked_true (lacks_one (visible from s) (visible to s)) _ known e)))) in
        let one = end_there (visible from s) (all_there [] from) (λ e. known (first_true _ _ e)) (λ e. fitting (first_true _ _ e)) in
        let two = end_there (visible to s) (all_there [] to) (λ e. known (second_true (is_undeclared (visible from s)) _ e))
        (λ e. fitting (second_true (is_other ki.Core (visible from s)) _ e)) in
        let fits = capacity_fits cap
        (not_false (is_capacity cap) (λ e. c 14 (inr (inr (inr (inl (refl, second_true (is_same_core (visible from s) (visible to s)) _ (first_true _ _ e)))))))) in
        record {
          from = end_below (visible from s) one;
          to = end_below (visible to s) two;
          other = ends_differ (visible from s) (visible to s) one two (λ e. c 14 (inr (inr (inr (inl (refl, first_true _ _ e))))));
          some = fits.0;
          few = fits.1;
          some_ints = (is_width (all_carried all) channels).some;
          few_ints = (is_width (all_carried all) channels).few;
        }

    channels_there : (all : List Item) (q : Past) (xs : List Item) → AllClean (nodes_of q xs) → (number : ℕ) (channel : Channel) → slice_get (channels_in all q.counts.channels xs s) number
        ≡ Some channel
        → IsChannel program channel
    channels_there all q [] c number channel e = cc
    channels_there all q (i.Channel at name from to cap ∷ xs) c zero channel e =
        subst (IsChannel program) (same _ channel e)
        (channel_there all (in_scope name q.names) from to cap q.counts.channels (first_clean q (i.Channel at name from to cap) xs c).0) where
          same : (a b : Channel) → Some a ≡ Some b → a ≡ b
          same a b h = cc
    channels_there all q (i.Channel at name from to cap ∷ xs) c (suc number) channel e =
        channels_there all (past_after q (i.Channel at name from to cap)) xs (rest_clean q (i.Channel at name from to cap) xs c) number channel e
    channels_there all q (i.Core at name entry ∷ xs) c number channel e =
        channels_there all (past_after q (i.Core at name entry)) xs (rest_clean q (i.Core at name entry) xs c) number channel e
    channels_there all q (i.Function f ∷ xs) c number channel e = channels_there all (past_after q (i.Function f)) xs (rest_clean q (i.Function f) xs c) number channel e
    channels_there all q (i.Global at name size value ∷ xs) c number channel e =
        channels_there all (past_after q (i.Global at name size value)) xs (rest_clean q (i.Global at name size value) xs c) number channel e
    channels_there all q (i.File at name path ∷ xs) c number channel e =
        channels_there all (past_after q (i.File at name path)) xs (rest_clean q (i.File at name path) xs c) number channel e

    -- ---- files

    files_few : (q : Past) (xs : List Item) → AllClean (nodes_of q xs) → q.counts.files ≤ 16 → (past_all q xs).counts.files ≤ 16
    files_few q [] c le = le
    files_few q (i.File at name path ∷ xs) c le =
        let here = (first_clean q (i.File at name path) xs c).0 in
        files_few (past_after q (i.File at name path)) xs (rest_clean q (i.File at name path) xs c)
        (file_number q.counts.files (λ e. here 17 (inr (inl (refl, first_true _ _ e)))))
    files_few q (i.Channel at name from to cap ∷ xs) c le = files_few (past_after q (i.Channel at name from to cap)) xs (rest_clean q (i.Channel at name from to cap) xs c) le
    files_few q (i.Core at name entry ∷ xs) c le = files_few (past_after q (i.Core at name entry)) xs (rest_clean q (i.Core at name entry) xs c) le
    files_few q (i.Function f ∷ xs) c le = files_few (past_after q (i.Function f)) xs (rest_clean q (i.Function f) xs c) le
    files_few q (i.Global at name size value ∷ xs) c le = files_few (past_after q (i.Global at name size value)) xs (rest_clean q (i.Global at name size value) xs c) le

-- ---- starting values

starts_sooner : (xs : List Start) (from more end : ℕ) → from ≤ more → AreStarts more end xs → AreStarts from end xs
starts_sooner [] from more end le h = tt
starts_sooner (x ∷ xs) from more end le h = let k = h.0 in (omega (arith, le, k), h.1, h.2, h.3)

start_there : (slot : ℕ) (value : ℤ) (xs : List Start) (from end : ℕ) → from ≤ slot → slot < end → AreStarts (slot + 1) end xs → AreStarts from end (start_at slot value ++ xs)
start_there slot (pos zero) xs from end le lt h = starts_sooner xs from (slot + 1) end (omega (arith, le)) h
start_there slot (pos (suc n)) xs from end le lt h = (le, lt, (λ e. cc), h)
start_there slot (negsuc n) xs from end le lt h = (le, lt, (λ e. cc), h)

starts_there : (q : Past) (xs : List Item) (from end : ℕ) → from ≤ q.counts.slots → (past_all q xs).counts.slots ≤ end → AreStarts from end (starts_in q.counts xs)
starts_there q [] from end le few = tt
starts_there q (i.Global at name None value ∷ xs) from end le few =
    let more = slots_more (past_after q (i.Global at name None value)) xs in
    start_there q.counts.slots value _ from end le (omega (arith, more, few)) (starts_there (past_after q (i.Global at name None value)) xs (q.counts.slots + 1) end (omega arith) few)
starts_there q (i.Global at name (Some size) value ∷ xs) from end le few = starts_there (past_after q (i.Global at name (Some size) value)) xs from end (omega (arith, le)) few
starts_there q (i.Function f ∷ xs) from end le few = starts_there (past_after q (i.Function f)) xs from end le few
starts_there q (i.Channel at name from2 to cap ∷ xs) from end le few = starts_there (past_after q (i.Channel at name from2 to cap)) xs from end le few
starts_there q (i.File at name path ∷ xs) from end le few = starts_there (past_after q (i.File at name path)) xs from end le few
starts_there q (i.Core at name entry ∷ xs) from end le few = starts_there (past_after q (i.Core at name entry)) xs from end le few

-- ---- the whole program

module _ (items : List Item) (rows : List Reached) (c : AllClean (program_nodes items rows)) (shaped : AreItems items) where
  abbrev program : Resolved
  program = resolved (record { items = items })

  abbrev t : Tables
  t = tables_of items rows

  all_told : AreTold program t items (outermost items) no_past.counts items []
  all_told = record { signatures = told_first _; functions = told_first _; channels = told_first _; widths = told_first _; files = told_first _; cores = told_first _ }

  all_mean : (frames : List FrameRound) → AllMean (IsWithin program t frames 0) (whole items).names
  all_mean frames = names_mean (IsWithin program t frames 0) no_past items (none_mean (IsWithin program t frames 0))
      (items_there program t items (outermost items) frames no_past items [] all_told (omega arith))

  core_count : (1 ≤ length program.cores) × (length program.cores ≤ 16)
  core_count =
      let counted = cores_counted no_past items in
      let many = cores_many program t (whole items).names all_mean items in
      let fits = core_number (whole items).counts.cores (λ e. c.0 15 (inl (refl, e))) in
      (omega (arith, counted, many, fits), omega (arith, counted, many, fits))

  file_count : length program.files ≤ 16
  file_count = let counted = files_counted no_past items in let few = files_few program t (whole items).names all_mean no_past items c.1 (omega arith) in omega (arith, counted, few)

  items_in_place : IsInPlace program
  items_in_place = record {
    functions = functions_there program t (whole items).names all_mean no_past items [] shaped c.1 (kept_same (items_texts items []));
    some_core = core_count.0;
    few_cores = core_count.1;
    cores = cores_there program t (whole items).names all_mean no_past items c.1;
    channels = channels_there program t (whole items).names all_mean items no_past items c.1;
    few_files = file_count;
    starts = starts_there no_past items 0 program.slots (omega arith) (omega arith);
  }

-- what is named in a program that breaks no rule is there, and is what it is used for
pub all_in_place : (p : Program) → BreaksNone p.items → HasShape p → IsInPlace (resolved p)
all_in_place p b shaped = let clean = clean_program p.items b in items_in_place p.items clean.0 clean.1 shaped
