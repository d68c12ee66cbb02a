-- The lines of the program beside those of an audit.
use Rattle.std.specs.Prelude.{ℕ, List, [], ◌∷◌, ◌++◌, codes}
use Rattle.std.specs.Fmt.{decimal}
use Rattle.ac_base.specs.declared.ends.CoreEnd.{CoreEnd}
use Rattle.ac_base.specs.Report.{word_text}
use Rattle.ac_causal.specs.declared.order.Order.{Order}
use Rattle.ac_causal.specs.declared.order.Order.TheVariants.{Same, Before, After, Concurrent}
use Rattle.program_reading.specs.Lines.{place_line}

abbrev pub usage_line : List ℕ
usage_line = codes "usage: ac_order order FILE TRACE I J, ac_order cut FILE TRACE COUNTS" ++ 10 ∷ []

abbrev pub no_entry_line : ℕ → List ℕ
no_entry_line number = place_line (codes "no entry ") number

abbrev pub no_cut_line : List ℕ
no_cut_line = codes "no such cut" ++ 10 ∷ []

abbrev pub open_line : ℕ → List ℕ
open_line entry = place_line (codes "open at ") entry

-- how one entry stands to another
abbrev pub order_line : Order → List ℕ
order_line Same = codes "same" ++ 10 ∷ []
order_line Before = codes "before" ++ 10 ∷ []
order_line After = codes "after" ++ 10 ∷ []
order_line Concurrent = codes "concurrent" ++ 10 ∷ []

-- what stands behind the name of a core: how it ends, and after how many steps
abbrev pub ending_of : CoreEnd → List ℕ
ending_of end = codes ": " ++ word_text end.word ++ codes " after " ++ decimal end.steps ++ codes " steps" ++ 10 ∷ []

-- a line for each core
abbrev pub states_text : List (List ℕ) → List CoreEnd → List ℕ
states_text [] ends = []
states_text (name ∷ names) [] = []
states_text (name ∷ names) (end ∷ ends) = (name ++ ending_of end) ++ states_text names ends
