use Rattle.std.proofs.Common.{◌≡◌, ◌+◌, ◌<◌, ◌≤◌, length, drop}
use Rattle.ac_names.specs.Items.{params_named}
use Rattle.ac_names.specs.Cut.{inner_len, cut}
use Rattle.ac_names.proofs.names.Names.declare_params.Given as goal

-- what is left is declared from here on, and what is declared so far can be taken back
abbrev pub invariant-loop-param : goal.invariant-loop-param
invariant-loop-param l =
    (params_named (drop l.param-index l.params) l.self ≡ params_named l.params l.fn.self)
    × (l.self.slot + length (drop l.param-index l.params) < 4294967296)
    × (inner_len l.fn.self.scopes ≤ inner_len l.self.scopes)
    × (cut (inner_len l.fn.self.scopes) l.self.scopes ≡ l.fn.self.scopes)
    × (l.self.labels ≡ l.fn.self.labels)
