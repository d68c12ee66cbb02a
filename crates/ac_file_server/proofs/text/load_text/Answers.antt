use Rattle.std.proofs.Common.{◌≡◌, ◌≤◌, length, ◌∙◌, ap, sym, subst}
use Rattle.std.specs.Prelude.{◌++◌}
use Rattle.ac_file_server.specs.ServerText.{lines, server_text, client0, client1, client2, load_text}
use Rattle.ac_file_server.proofs.Parts.{three_parts}
use Rattle.ac_file_server.proofs.Length.{the_text_is_short}
use Rattle.ac_file_server.proofs.text.load_text.Goals as goal

is_the_text : (c : goal.After-from_vec) → c.from_vec.result ≡ load_text c.args.turns
is_the_text c =
    c.from_vec.ensures ∙ three_parts _ _ _ _ _ _ _ c.in_ok-add_first.ensures c.in_ok-add_second.ensures c.in_ok-add_third.ensures
    ∙ ap (λ xs. xs ++ (lines (client0 c.args.turns) ++ (lines (client1 c.args.turns) ++ lines (client2 c.args.turns))))
    (c.in_ok-add_server.ensures ∙ ap (λ xs. xs ++ server_text) c.new-text.ensures.items)

pub returns-clause-same : goal.returns-clause-same
returns-clause-same c = is_the_text c

pub returns-clause-short : goal.returns-clause-short
returns-clause-short c = subst (λ xs. length xs ≤ 2131) (sym (is_the_text c)) (the_text_is_short c.args.turns c.requires.few)
