-- The code of a program that breaks no rule keeps its ends: a core reaches in the code what it reaches in the program, and sends and
-- receives only where it is that end.
-- By induction on how a core reaches a function in the code: a call in it is one that the tree has (OwnActions), so the tree's rule on ends
-- speaks of the same functions. By that rule no core but the channel's end reaches a function that uses it.
use Rattle.std.proofs.Common.{◌≡◌, ℕ, zero, suc, ◌+◌, ◌<◌, ◌≤◌, inl, inr, List, [], ◌∷◌, ◌++◌, length, map, Bool, true, false, Option, Some, None, refl, sym, ap, ◌∙◌, subst, arith}
use Rattle.std.specs.Prelude.{slice_get, slice_index_or, nat_eq, nat_lt, option_map}
use Rattle.std.proofs.lemmas.Bool.{eqb-true, ltb-true}
use Rattle.std.proofs.lemmas.Bool.Decides.{nat_tests}
use Rattle.std.proofs.lemmas.Option.{slice_get-map, slice_get-get_or, slice_get_within}
use Rattle.ac_tree.specs.declared.item.Item.{Item}
use Rattle.ac_tree.specs.declared.item.Item.TheVariants as i
use Rattle.ac_tree.specs.declared.item.Program.{Program}
use Rattle.ac_tree.specs.Shape.{AreItems, HasShape}
use Rattle.ac_names.specs.declared.meaning.Meaning.{Meaning}
use Rattle.ac_names.specs.declared.meaning.Meaning.TheVariants as m
use Rattle.ac_names.specs.declared.past.Past.{Past}
use Rattle.ac_names.specs.Scopes.{Declaration, in_scope, visible}
use Rattle.ac_names.specs.Numbered.{capacity_size}
use Rattle.ac_names.specs.Items.{params_named, function_names, past_after, no_past, outermost}
use Rattle.ac_reach.specs.declared.reached.Reached.{Reached}
use Rattle.ac_reach.specs.declared.reached.Reached.TheVariants as r
use Rattle.ac_reach.specs.Reached.{IsAmong, here_is, later_is, IsCalled, is_entry, is_called, entry_in}
use Rattle.ac_reach.proofs.Rows.{Rows, rows_there}
use Rattle.ac_types.specs.declared.numbered.Callee.{Callee}
use Rattle.ac_types.specs.declared.numbered.Signature.{Signature}
use Rattle.ac_types.specs.declared.numbered.Tables.{Tables}
use Rattle.ac_types.specs.Around.{is_reached_by_another}
use Rattle.ac_types.specs.Tables.{callee}
use Rattle.ac_types.specs.Nodes as node
use Rattle.ac_types.specs.Nodes.{Node, calls_of}
use Rattle.ac_types.specs.Judged.{sends_away, takes_away}
use Rattle.ac_types.specs.Expressions.{one_node, join_nodes}
use Rattle.ac_types.specs.Items.{signature_of, signatures, core_number, all_ends, channel_width, first_tables, tables_of, reached_in}
use Rattle.ac_types.specs.Items.{core_tests, around_of, params_give, function_nodes, item_gives, items_give, program_nodes}
use Rattle.ac_types.specs.Reached as types
use Rattle.ac_types.specs.Reached.{function_number, entries, calls_in, entries_of, all_calls, BreaksIn, BreaksNone}
use Rattle.ac_types.proofs.Cleans.{AllClean, clean_sooner, clean_later}
use Rattle.ac_types.proofs.Others.{reached_by_another}
use Rattle.ac_commands.specs.declared.program.Channel.{Channel}
use Rattle.ac_commands.specs.declared.program.Core.{Core}
use Rattle.ac_commands.specs.declared.program.Function.{Function}
use Rattle.ac_commands.specs.declared.program.Resolved.{Resolved}
use Rattle.ac_resolve.specs.Places.{function_of, core_of}
use Rattle.ac_resolve.specs.Commands.{Texts}
use Rattle.ac_resolve.specs.Resolution.{function_texts, functions_in, cores_in, channels_in, resolved}
use Rattle.ac_resolve.specs.InPlace.{IsInPlace}
use Rattle.ac_resolve.proofs.ItemsInPlace.{IsTold, told_first, told_here, told_on}
use Rattle.ac_resolve.proofs.ProgramInPlace.{all_in_place}
use Rattle.ac_resolve.proofs.ValuesInPlace.{AreClean}
use Rattle.stack_code.specs.declared.instr.Instr.{Instr}
use Rattle.stack_code.specs.declared.instr.Instr.TheVariants as instr
use Rattle.stack_code.specs.declared.parts.Entered.{Entered}
use Rattle.stack_code.specs.declared.shape.Home.TheVariants as home
use Rattle.stack_code.specs.declared.shape.Shape.{Shape}
use Rattle.stack_code.specs.Parts.{Parts}
use Rattle.stack_code.specs.declared.shape.CellKind.TheVariants as kind
use Rattle.stack_code.specs.declared.shape.Want.TheVariants as want
use Rattle.stack_code.specs.Shapes as shapes
use Rattle.stack_code.specs.Shapes.{effect, channels_of, width_of, after, pushes}
use Rattle.stack_code.specs.Valid.{Fits, Reaches}
use Rattle.code_safety.specs.KeptEnds.{LiesIn, ReachesFunction, enters, calls, ReachesInstr, IsSender, IsReceiver, KeepsEnds}
use Rattle.code_safety.proofs.Taken.{on_some_is, if_is}
use Rattle.ac_translation.specs.Translation.{function_code, functions_from, ends_of, no_exits, code_of}
use Rattle.ac_translation.proofs.Placed.{HasAt}
use Rattle.ac_translation.proofs.Sized.{function_sized}
use Rattle.ac_compile.proofs.Instructions as each
use Rattle.ac_compile.proofs.Instructions.{is_own, Each, Holds}
use Rattle.ac_compile.proofs.OwnActions.{IsFair, own_fair, AllCall, call_later, untold, entries_given, entries_do}
use Rattle.ac_compile.proofs.Points.{Table, AreCalled}
use Rattle.ac_compile.proofs.Ranges.{Section, Lies, lies}
use Rattle.ac_compile.proofs.Validity.{belongs, section_at, code_shaped}

-- ---- lists

-- what the nodes of a list call is what they call all together
among_sooner : (function : ℕ) (xs ys : List ℕ) → IsAmong function xs → IsAmong function (xs ++ ys)
among_sooner function _ ys (here_is others) = here_is (others ++ ys)
among_sooner function _ ys (later_is other others h) = later_is other (others ++ ys) (among_sooner function others ys h)

among_later : (function : ℕ) (xs ys : List ℕ) → IsAmong function ys → IsAmong function (xs ++ ys)
among_later function [] ys h = h
among_later function (x ∷ xs) ys h = later_is x (xs ++ ys) (among_later function xs ys h)

all_call : (all : List ℕ) (ns : List Node) → ((function : ℕ) → IsAmong function (calls_of ns) → IsAmong function all) → AllCall all ns
all_call all [] h = tt
all_call all (n ∷ ns) h = (
  λ function e. h function (among_sooner function (node.called n.calls []) (calls_of ns) (subst (λ o. IsAmong function (node.called o [])) (sym e) (here_is []))),
  all_call all ns (λ function k. h function (among_later function (node.called n.calls []) (calls_of ns) k)),
)

none_among : (function : ℕ) (xs : List ℕ) → xs ≡ [] → IsAmong function xs → ⊥
none_among function _ e (here_is others) = cc
none_among function _ e (later_is other others h) = cc

clean_nodes : (ns : List Node) → ((n q : ℕ) → BreaksIn ns n q → ⊥) → AllClean ns
clean_nodes [] h = tt
clean_nodes (n ∷ ns) h = (λ q b. h 0 q (record { node = n; stands = refl; breaks = b }), clean_nodes ns (λ m q b. h (suc m) q (record { node = b.node; stands = b.stands; breaks = b.breaks })))

abbrev row_in : Option (List ℕ) → List ℕ
row_in None = []
row_in (Some row) = row

-- an instruction of a piece that stands in the code
in_piece : (P : Instr → Type 0) (own : (x : Instr) → is_own x ≡ true → P x) (code : List Instr) (xs : List Instr) (place at : ℕ) (x : Instr) → HasAt code place xs → Each P own xs → place ≤ at
    → at < place + length xs → slice_get code at ≡ Some x → P x
in_piece P own code [] place at x h p le lt e = absurd (omega (arith, le, lt))
in_piece P own code (y ∷ xs) place at x h p le lt e =
    by (nat_eq place at) refl (λ f. in_piece P own code xs (place + 1) at x h.1 p.1 (grind (arith, nat_tests, le, f)) (omega (arith, lt)) e)
  where
    by : (b : Bool) → nat_eq place at ≡ b → (nat_eq place at ≡ false → P x) → P x
    by true f next =
        let here : place ≡ at = eqb-true place at f in
        let same : y ≡ x = let both : Some y ≡ Some x = sym h.0 ∙ ap (slice_get code) here ∙ e in cc in
        subst P same p.0
    by false f next = next f

-- ---- the tree and the program without names

module _ (scopes : List (List Declaration)) where
  -- a function of the code has a signature
  signed : (xs : List Item) (texts : Texts) (place k : ℕ) (e : Entered) → slice_get (functions_from place (functions_in xs scopes texts)) k ≡ Some e
      → (s : Signature) × (slice_get (signatures xs) k ≡ Some s)
  signed [] texts place k e h = let no : ◌≡◌ {A = Option Entered} None (Some e) = h in cc
  signed (i.Function f ∷ xs) texts place zero e h = (signature_of f, refl)
  signed (i.Function f ∷ xs) texts place (suc k) e h = signed xs (function_texts f texts) _ k e h
  signed (i.Global at name size value ∷ xs) texts place k e h = signed xs texts place k e h
  signed (i.Channel at name from to cap ∷ xs) texts place k e h = signed xs texts place k e h
  signed (i.File at name path ∷ xs) texts place k e h = signed xs texts place k e h
  signed (i.Core at name entry ∷ xs) texts place k e h = signed xs texts place k e h

  -- and a row of what it calls
  as_many : (t : Tables) (xs : List Item) (texts : Texts) → length (calls_in t scopes xs) ≡ length (functions_in xs scopes texts)
  as_many t [] texts = refl
  as_many t (i.Function f ∷ xs) texts = let more = as_many t xs (function_texts f texts) in omega (arith, more)
  as_many t (i.Global at name size value ∷ xs) texts = as_many t xs texts
  as_many t (i.Channel at name from to cap ∷ xs) texts = as_many t xs texts
  as_many t (i.File at name path ∷ xs) texts = as_many t xs texts
  as_many t (i.Core at name entry ∷ xs) texts = as_many t xs texts

  -- the ends of a channel by their names
  record Named (xs : List Item) (k : ℕ) (channel : Channel) : Type 0 where
    from : Option Meaning
    to : Option Meaning
    told : slice_get (all_ends scopes xs) k ≡ Some (record { from = core_number from; to = core_number to })
    begins : channel.from ≡ core_of from
    ends : channel.to ≡ core_of to

  named : (all : List Item) (number : ℕ) (xs : List Item) (k : ℕ) (channel : Channel) → slice_get (channels_in all number xs scopes) k ≡ Some channel → Named xs k channel
  named all number [] k channel h = let no : ◌≡◌ {A = Option Channel} None (Some channel) = h in cc
  named all number (i.Channel at name from to cap ∷ xs) zero channel h =
      let same : (record { from = core_of (visible from scopes); to = core_of (visible to scopes); capacity = capacity_size cap; width = channel_width all number }) ≡ channel = cc in
      record {
        from = visible from scopes;
        to = visible to scopes;
        told = refl;
        begins = ap (λ (x : Channel). x.from) (sym same);
        ends = ap (λ (x : Channel). x.to) (sym same);
      }
  named all number (i.Channel at name from to cap ∷ xs) (suc k) channel h = let n = named all
      (number + 1) xs k channel h in record { from = n.from; to = n.to; told = n.told; begins = n.begins; ends = n.ends }
  named all number (i.Global at name size value ∷ xs) k channel h = let n = named all number xs k channel h in record { from = n.from; to = n.to; told = n.told; begins = n.begins; ends = n.ends }
  named all number (i.Function f ∷ xs) k channel h = let n = named all number xs k channel h in record { from = n.from; to = n.to; told = n.told; begins = n.begins; ends = n.ends }
  named all number (i.File at name path ∷ xs) k channel h = let n = named all number xs k channel h in record { from = n.from; to = n.to; told = n.told; begins = n.begins; ends = n.ends }
  named all number (i.Core at name entry ∷ xs) k channel h = let n = named all number xs k channel h in record { from = n.from; to = n.to; told = n.told; begins = n.begins; ends = n.ends }

-- an entry that breaks no rule means a function
entry_number : (before o : Option Meaning) (f : Option Callee) → AreClean (core_tests before o f) → function_number o ≡ Some (function_of o)
entry_number before None f c = absurd (c 2 (inr (inl (refl, refl))))
entry_number before (Some (m.Function k)) f c = refl
entry_number before (Some what) f c = absurd (c 4 (inr (inr (inl (refl, refl)))))

core_named : (o : Option Meaning) (core : ℕ) → core_number o ≡ Some core → core_of o ≡ core
core_named (Some (m.Core k)) core e = cc
core_named (Some what) core e = let no : ◌≡◌ {A = Option ℕ} None (Some core) = e in absurd (cc)
core_named None core e = let no : ◌≡◌ {A = Option ℕ} None (Some core) = e in absurd (cc)

-- ---- a program that breaks no rule

module _ (p : Program) (none : BreaksNone p.items) (shaped : HasShape p) where
  abbrev items : List Item
  items = p.items

  abbrev rows : Rows (all_calls items) (entries_of items)
  rows = rows_there (all_calls items) (entries_of items)

  abbrev t : Tables
  t = tables_of items rows.rows

  abbrev scopes : List (List Declaration)
  scopes = outermost items

  abbrev program : Resolved
  program = resolved p

  abbrev code : Parts
  code = code_of program

  in_place : IsInPlace program
  in_place = all_in_place p none shaped

  clean : AllClean (program_nodes items rows.rows)
  clean = clean_nodes (program_nodes items rows.rows) (λ n q b. none n q (record { rows = rows.rows; reached = rows.are; is = b }))

  -- what a function calls, and which cores reach it
  abbrev calls_at : ℕ → List ℕ
  calls_at number = row_in (slice_get (all_calls items) number)

  abbrev reached_at : ℕ → Reached
  reached_at number = reached_in (slice_get rows.rows number)

  abbrev F : ℕ → Instr → Type 0
  F number = IsFair t (calls_at number) (reached_at number)

  abbrev own : (number : ℕ) (x : Instr) → is_own x ≡ true → F number x
  own number = own_fair t (calls_at number) (reached_at number)

  -- ---- its functions

  abbrev AllFair : ℕ → List Function → Type 0
  AllFair number [] = Unit {0}
  AllFair number (f ∷ fs) = Holds (F number) (own number) (function_code f) × AllFair (number + 1) fs

  abbrev nodes_from : Past → List Item → List Node
  nodes_from q xs = items_give (List Node) one_node [] join_nodes q xs t scopes

  abbrev item_nodes : Past → Item → List Node
  item_nodes q x = item_gives (List Node) one_node [] join_nodes q x t scopes

  functions_fair : (q : Past) (xs : List Item) (texts : Texts) → AreItems xs → AllClean (nodes_from q xs) → IsTold (all_calls items) (calls_in (untold t) scopes xs) q.counts.functions
      → AllFair q.counts.functions (functions_in xs scopes texts)
  functions_fair q [] texts s c told = tt
  functions_fair q (i.Function f ∷ xs) texts s c told =
      let number = q.counts.functions in
      let here = clean_sooner (item_nodes q (i.Function f)) (nodes_from (past_after q (i.Function f)) xs) c in
      let names = params_named f.params (function_names scopes) in
      let whole = function_nodes f (untold t) scopes r.ByNone in
      let row : slice_get (all_calls items) number ≡ Some (calls_of whole) = told_here (all_calls items) (calls_of whole) (calls_in (untold t) scopes xs) number told in
      let all = all_call (calls_at number) whole (λ g h. subst (IsAmong g) (sym (ap row_in row)) h) in
      let params = params_give (List Node) one_node [] join_nodes f.params (function_names scopes) in
      let clean_body = clean_later params (entries_given t (calls_at number) f.body names t (around_of f (reached_at number))) here.1 in
      let body_calls = call_later (calls_at number) params (entries_given t (calls_at number) f.body names (untold t) (around_of f r.ByNone)) all in (
        each.function_holds (F number) (own number) _ (entries_do t (calls_at number) f.body s.0 names (around_of f (reached_at number)) texts (clean_body, body_calls)),
        functions_fair (past_after q (i.Function f)) xs (function_texts f texts) s.1 (clean_later (item_nodes q (i.Function f)) (nodes_from (past_after q (i.Function f)) xs) c)
            (told_on (all_calls items) (calls_of whole) (calls_in (untold t) scopes xs) number told),
      )
  functions_fair q (i.Global at name size value ∷ xs) texts s c told = functions_fair (past_after q (i.Global at name size value)) xs texts s.1 c.1 told
  functions_fair q (i.Channel at name from to cap ∷ xs) texts s c told = functions_fair (past_after q (i.Channel at name from to cap)) xs texts s.1 c.1 told
  functions_fair q (i.File at name path ∷ xs) texts s c told = functions_fair (past_after q (i.File at name path)) xs texts s.1 c.1 told
  functions_fair q (i.Core at name entry ∷ xs) texts s c told = functions_fair (past_after q (i.Core at name entry)) xs texts s.1 c.1 told

  all_fair : AllFair 0 program.functions
  all_fair = functions_fair no_past items [] shaped clean.1 (told_first (all_calls items))

  fair_at : (number k : ℕ) (fs : List Function) (f : Function) → AllFair number fs → slice_get fs k ≡ Some f → Holds (F (number + k)) (own (number + k)) (function_code f)
  fair_at number k [] f h e = let no : ◌≡◌ {A = Option Function} None (Some f) = e in absurd (cc)
  fair_at number zero (g ∷ fs) f h e =
      let n : number ≡ number + 0 = omega arith in
      let same : g ≡ f = cc in
      subst (λ j. Holds (F j) (own j) (function_code f)) n (subst (λ z. Holds (F number) (own number) (function_code z)) same h.0)
  fair_at number (suc k) (g ∷ fs) f h e =
      let n : number + 1 + k ≡ number + suc k = omega arith in
      subst (λ j. Holds (F j) (own j) (function_code f)) n (fair_at (number + 1) k fs f h.1 e)

  -- ---- what is reached in the code

  abbrev points : Table
  points = (section_at program in_place).0

  called : AreCalled code points
  called = (section_at program in_place).1.0

  sections : (number : ℕ) (e : Entered) → slice_get code.functions number ≡ Some e → Section code program (belongs program in_place) points number
  sections = (section_at program in_place).1.1

  abbrev L : ℕ → Shape → Type 0
  L at s = Lies code program (belongs program in_place) points sections called at s

  lies_there : (at : ℕ) (s : Shape) → Reaches code at s → L at s
  lies_there at s h = lies code program (belongs program in_place) points sections called at s h

  -- an instruction that lies in a function is fair there
  fair : (at function : ℕ) (x : Instr) → LiesIn code at function → slice_get code.instrs at ≡ Some x → F function x
  fair at function x h e =
      let l = lies_there at h.shape h.reached in
      let sec = l.section in
      let same : l.number ≡ function = let both : Some (home.Function l.number) ≡ Some (home.Function function) = sym l.round ∙ h.round in cc in
      let n : 0 + l.number ≡ l.number = omega arith in
      let holds = subst (λ j. Holds (F j) (own j) (function_code sec.function)) n (fair_at 0 l.number program.functions sec.function all_fair sec.there) in
      let sized = (function_sized sec.function).sized no_exits sec.place in
      let high = l.high in
      subst (λ j. F j x) same
      (in_piece (F l.number) (own l.number) code.instrs ((function_code sec.function).at no_exits sec.place) sec.place at x sec.placed.has (holds.each no_exits sec.place) l.low
      (omega (arith, high, sized)) e)

  -- what it finds
  finds : (at : ℕ) (s : Shape) (x : Instr) → Reaches code at s → slice_get code.instrs at ≡ Some x → (f : Fits code at s) × (f.instr ≡ x)
  finds at s x h e =
      let f = (code_shaped program in_place).fits at s h in
      let same : f.instr ≡ x = let both : Some f.instr ≡ Some x = sym f.here ∙ e in cc in
      (f, same)

  -- a function of the code is there in the tree
  below : (function : ℕ) (at : ℕ) → LiesIn code at function → function < length (all_calls items)
  below function at h =
      let l = lies_there at h.shape h.reached in
      let same : l.number ≡ function = let both : Some (home.Function l.number) ≡ Some (home.Function function) = sym l.round ∙ h.round in cc in
      let lt = slice_get_within program.functions l.number l.section.function l.section.there in
      let many = as_many scopes (first_tables items) items [] in
      omega (arith, same, lt, many)

  -- ---- what a core reaches

  entered : (q : Past) (xs : List Item) → AllClean (nodes_from q xs) → (k f : ℕ) → slice_get (map (λ (core : Core). core.entry) (cores_in xs scopes)) k ≡ Some f
      → slice_get (entries scopes xs) k ≡ Some (Some f)
  entered q [] c k f e = let no : ◌≡◌ {A = Option ℕ} None (Some f) = e in cc
  entered q (i.Core at name entry ∷ xs) c zero f e =
      let same : function_of (visible entry scopes) ≡ f = cc in
      ap Some (entry_number (in_scope name q.names) (visible entry scopes) (callee t (visible entry scopes)) c.0 ∙ ap Some same)
  entered q (i.Core at name entry ∷ xs) c (suc k) f e = entered (past_after q (i.Core at name entry)) xs c.1 k f e
  entered q (i.Function g ∷ xs) c k f e = entered (past_after q (i.Function g)) xs (clean_later (item_nodes q (i.Function g)) (nodes_from (past_after q (i.Function g)) xs) c) k f e
  entered q (i.Global at name size value ∷ xs) c k f e = entered (past_after q (i.Global at name size value)) xs c.1 k f e
  entered q (i.Channel at name from to cap ∷ xs) c k f e = entered (past_after q (i.Channel at name from to cap)) xs c.1 k f e
  entered q (i.File at name path ∷ xs) c k f e = entered (past_after q (i.File at name path)) xs c.1 k f e

  row_of : (caller function : ℕ) (o : Option (List ℕ)) → slice_get (all_calls items) caller ≡ o → IsAmong function (row_in o) → IsCalled (all_calls items) caller function
  row_of caller function None e h = absurd (none_among function [] refl h)
  row_of caller function (Some row) e h = record { row = row; stands = e; among = h }

  reaches : (core function : ℕ) → ReachesFunction code core function → types.Reaches items core function
  reaches core _ (enters function e) = is_entry function (ap entry_in (entered no_past items clean.1 core function e))
  reaches core _ (calls caller function at count h lies here) =
      let f = finds at lies.shape (instr.Call function count) lies.reached here in
      let found = on_some_is (slice_get code.functions function) (shapes.calls at function count lies.shape) f.0.leads (subst (λ x. effect code at x lies.shape ≡ Some f.0.leads) f.1 f.0.finds) in
      let s = signed scopes items [] 0 function found.0 found.1.0 in
      is_called caller function (reaches core caller h) (row_of caller function (slice_get (all_calls items) caller) refl (fair at caller (instr.Call function count) lies here s.0 s.1))

  -- ---- its ends

  -- no other core than that end reaches the function
  own_core : (core function at : ℕ) (o : Option ℕ) → types.Reaches items core function → LiesIn code at function → is_reached_by_another (reached_at function) o ≡ false → o ≡ Some core
  own_core core function at o h lies e = by o e
    where
      lt : function < length rows.rows
      lt = let count = rows.are.count in let less = below function at lies in omega (arith, count, less)

      row : slice_get rows.rows function ≡ Some (slice_index_or rows.rows function r.ByNone)
      row = slice_get-get_or rows.rows function r.ByNone lt

      not_another : (o : Option ℕ) → is_reached_by_another (reached_at function) o ≡ false → (Some core ≡ o → ⊥) → ⊥
      not_another o e n =
          let is = (reached_by_another items function rows.rows (slice_index_or rows.rows function r.ByNone) o rows.are row).1 (record { other = core; reaches = h; differs = n }) in
          let no : true ≡ false = sym is ∙ ap (λ z. is_reached_by_another (reached_in z) o) (sym row) ∙ e in
          cc

      same : (k : ℕ) → (b : Bool) → nat_eq k core ≡ b → is_reached_by_another (reached_at function) (Some k) ≡ false → Some k ≡ Some core
      same k true f e = ap Some (eqb-true k core f)
      same k false f e = absurd (not_another (Some k) e (λ g. let is : core ≡ k = let both : Some core ≡ Some k = g in cc in let no : nat_eq k k
          ≡ false = subst (λ z. nat_eq k z ≡ false) is f in grind (arith, nat_tests, no)))

      by : (o : Option ℕ) → is_reached_by_another (reached_at function) o ≡ false → o ≡ Some core
      by None e = absurd (not_another None e (λ g. let no : Some core ≡ None = g in cc))
      by (Some k) e = same k (nat_eq k core) refl e

  -- a channel of the code
  channel_at : (channel : ℕ) → nat_lt channel (channels_of code) ≡ true → (x : Channel) × (slice_get program.channels channel ≡ Some x)
  channel_at channel e =
      let lt = ltb-true channel (channels_of code) e in
      let many = (belongs program in_place).channels in
      let d : Channel = record { from = 0; to = 0; capacity = 0; width = 0 } in
      (slice_index_or program.channels channel d, slice_get-get_or program.channels channel d (omega (arith, lt, many)))

  ends_there : (channel : ℕ) (x : Channel) → slice_get program.channels channel ≡ Some x → slice_get code.ends channel ≡ Some (ends_of x)
  ends_there channel x e = slice_get-map ends_of program.channels channel ∙ by (slice_get program.channels channel) e
    where
      by : (o : Option Channel) → o ≡ Some x → option_map ends_of o ≡ Some (ends_of x)
      by o f = ap (option_map ends_of) f

  sends : (core channel : ℕ) → ReachesInstr code core (instr.Send channel) → IsSender code core channel
  sends core channel z =
      let f = finds z.at z.lies.shape (instr.Send channel) z.lies.reached z.stands in
      let found = if_is (nat_lt channel (channels_of code)) (after (want.Message (width_of code channel) ∷ []) z.lies.shape (pushes z.at kind.Int)) f.0.leads (subst
      (λ x. effect code z.at x z.lies.shape ≡ Some f.0.leads) f.1 f.0.finds) in
      let x = channel_at channel found.0 in
      let n = named scopes items 0 items channel x.0 x.1 in
      let away : is_reached_by_another (reached_at z.function) (core_number n.from) ≡ false =
      subst (λ o. sends_away (reached_at z.function) o ≡ false) n.told (fair z.at z.function (instr.Send channel) z.lies z.stands) in
      record {
        ends = ends_of x.0;
        there = ends_there channel x.0 x.1;
        from = n.begins ∙ core_named n.from core (own_core core z.function z.at (core_number n.from) (reaches core z.function z.reaches) z.lies away);
      }

  receives : (core channel : ℕ) → ReachesInstr code core (instr.Recv channel) → IsReceiver code core channel
  receives core channel z =
      let f = finds z.at z.lies.shape (instr.Recv channel) z.lies.reached z.stands in
      let found = if_is (nat_lt channel (channels_of code)) (after (want.Elements (width_of code channel) ∷ []) z.lies.shape (pushes z.at kind.Int)) f.0.leads
      (subst (λ x. effect code z.at x z.lies.shape ≡ Some f.0.leads) f.1 f.0.finds) in
      let x = channel_at channel found.0 in
      let n = named scopes items 0 items channel x.0 x.1 in
      let away : is_reached_by_another (reached_at z.function) (core_number n.to) ≡ false =
      subst (λ o. takes_away (reached_at z.function) o ≡ false) n.told (fair z.at z.function (instr.Recv channel) z.lies z.stands) in
      record {
        ends = ends_of x.0;
        there = ends_there channel x.0 x.1;
        to = n.ends ∙ core_named n.to core (own_core core z.function z.at (core_number n.to) (reaches core z.function z.reaches) z.lies away);
      }

  pub keeps_ends : KeepsEnds (code_of (resolved p))
  keeps_ends = record { sends = sends; receives = receives }
