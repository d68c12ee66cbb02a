-- The summary of a load.
use Rattle.std.specs.Prelude.{ℕ, List, [], ◌∷◌, ◌++◌, take, drop, codes}
use Rattle.std.specs.Fmt.{decimal}
use Rattle.ac_base.specs.declared.ends.MachineEnd.{MachineEnd}

-- what cores have printed, as it is, one behind another
abbrev pub outputs_of : List MachineEnd → List ℕ
outputs_of [] = []
outputs_of (end ∷ ends) = end.core.output ++ outputs_of ends

-- the clients of the file server: cores 1, 2 and 3, counted from 0
abbrev pub clients_of : List MachineEnd → List MachineEnd
clients_of ends = take 3 (drop 1 ends)

-- how many turns the clients take, and the status of the run
abbrev pub summary_line : ℕ → ℕ → List ℕ
summary_line turns status = codes "load " ++ (decimal turns ++ (codes " status " ++ (decimal status ++ 10 ∷ [])))

-- this line, and what the clients have printed
abbrev pub summary_of : ℕ → ℕ → List MachineEnd → List ℕ
summary_of turns status ends = summary_line turns status ++ outputs_of (clients_of ends)
