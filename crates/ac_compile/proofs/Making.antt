-- The parts of a code that is made are those of the program's code.
-- For the loops over functions, whose invariant is that those made and those to come are the whole list, and for the record of all parts.
use Rattle.std.proofs.Common.{◌≡◌, ℕ, ◌+◌, ◌<◌, List, [], ◌∷◌, ◌++◌, length, get_or, drop, sym, ap, ◌∙◌, append_assoc}
use Rattle.std.proofs.lemmas.List.{at_drop_more}
use Rattle.ac_commands.specs.declared.program.Function.{Function}
use Rattle.ac_commands.specs.declared.program.Resolved.{Resolved}
use Rattle.stack_code.specs.declared.instr.Instr.{Instr}
use Rattle.stack_code.specs.declared.parts.Entered.{Entered}
use Rattle.stack_code.specs.declared.parts.Start.{Start}
use Rattle.stack_code.specs.declared.parts.ChannelEnds.{ChannelEnds}
use Rattle.stack_code.specs.Parts.{Parts}
use Rattle.ac_translation.specs.Translation.{no_exits, function_code, functions_code, functions_from, code_of}
use Rattle.ac_compile.specs.inner.Emission.{Emitted, nothing_yet, with_code}

abbrev entry_at : ℕ → Function → Entered
entry_at at f = record { name = f.name; at = at; params = f.params; words = f.slots }

-- one function more in the list of functions
pub one_more : (fs : List Function) (i : ℕ) (f : Function) (list new : List Entered) (x : Entered) (k at next : ℕ) (whole : List Entered) → i < length fs → f ≡ get_or fs i f → x ≡ entry_at k f
    → k ≡ at → new ≡ list ++ x ∷ [] →
    next ≡ at + (function_code f).size → list ++ functions_from at (drop i fs) ≡ whole → new ++ functions_from next (drop (i + 1) fs) ≡ whole
one_more fs i f list new x k at next whole lt is e m g n h =
    ap (λ l. l ++ functions_from next (drop (i + 1) fs)) g
    ∙ append_assoc list (x ∷ []) (functions_from next (drop (i + 1) fs))
    ∙ ap (λ y. list ++ (y ∷ functions_from next (drop (i + 1) fs))) (e ∙ ap (λ j. entry_at j f) m)
    ∙ ap (λ j. list ++ (entry_at at f ∷ functions_from j (drop (i + 1) fs))) n
    ∙ ap (λ y. list ++ functions_from at (y ∷ drop (i + 1) fs)) is
    ∙ ap (λ l. list ++ l) (sym (at_drop_more (functions_from at) fs i f lt))
    ∙ h

-- the instructions of the functions, where nothing stands before them
pub all_instrs : (xs ys : List Function) (e d : Emitted) (instrs : List Instr) → xs ≡ ys → e ≡ nothing_yet → d ≡ with_code (functions_code xs) e → instrs ≡ d.instrs
    → instrs ≡ (functions_code ys).at no_exits 0
unfolding with_code
all_instrs xs ys e d instrs same none h is = is ∙ ap (λ (k : Emitted). k.instrs) (h ∙ ap (with_code (functions_code xs)) none ∙ ap (λ l. with_code (functions_code l) nothing_yet) same)

abbrev parts : List Instr → List Entered → List (List ℕ) → List ℕ → List (List ℕ) → ℕ → List ℕ → List ChannelEnds → List Start → List ℕ → Parts
parts instrs functions texts entries names globals capacities ends starts widths = record {
  instrs = instrs;
  functions = functions;
  texts = texts;
  entries = entries;
  names = names;
  globals = globals;
  capacities = capacities;
  ends = ends;
  starts = starts;
  widths = widths;
}

pub made : (program : Resolved) (instrs : List Instr) (functions : List Entered) (texts : List (List ℕ)) (entries : List ℕ) (names : List (List ℕ)) (capacities : List ℕ) (ends : List ChannelEnds)
    (starts : List Start) (widths : List ℕ) →
    instrs ≡ (code_of program).instrs → functions ≡ (code_of program).functions → texts ≡ program.texts → entries ≡ (code_of program).entries → names ≡ (code_of program).names
    → capacities ≡ (code_of program).capacities →
    ends ≡ (code_of program).ends → starts ≡ (code_of program).starts → widths ≡ (code_of program).widths
    → parts instrs functions texts entries names program.slots capacities ends starts widths ≡ code_of program
made program instrs functions texts entries names capacities ends starts widths a b c d e f g h k =
    let code = code_of program in
    ap (λ x. parts x functions texts entries names program.slots capacities ends starts widths) a
    ∙ ap (λ x. parts code.instrs x texts entries names program.slots capacities ends starts widths) b
    ∙ ap (λ x. parts code.instrs code.functions x entries names program.slots capacities ends starts widths) c
    ∙ ap (λ x. parts code.instrs code.functions code.texts x names program.slots capacities ends starts widths) d
    ∙ ap (λ x. parts code.instrs code.functions code.texts code.entries x program.slots capacities ends starts widths) e
    ∙ ap (λ x. parts code.instrs code.functions code.texts code.entries code.names program.slots x ends starts widths) f
    ∙ ap (λ x. parts code.instrs code.functions code.texts code.entries code.names program.slots code.capacities x starts widths) g
    ∙ ap (λ x. parts code.instrs code.functions code.texts code.entries code.names program.slots code.capacities code.ends x widths) h
    ∙ ap (λ x. parts code.instrs code.functions code.texts code.entries code.names program.slots code.capacities code.ends code.starts x) k

pub all_functions : (xs ys : List Function) (e : Emitted) (list : List Entered) → xs ≡ ys → e ≡ nothing_yet → list ≡ functions_from (length e.instrs) xs → list ≡ functions_from 0 ys
all_functions xs ys e list same none h = h ∙ ap (λ (k : Emitted). functions_from (length k.instrs) xs) none ∙ ap (functions_from 0) same
