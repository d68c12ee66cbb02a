-- Words of a call, and what they ask for: calls of each command by the cases of the grammar, and words that are no call.
-- The latter are shown for each thing that a call may ask: its command would have another byte, or the words want an operand, or have one of
-- another form.
use Rattle.std.proofs.Common.{◌≡◌, refl, sym, ap, ◌∙◌, subst, ℕ, List, [], ◌∷◌, length, codes, Option, None, Some, arith}
use Rattle.std.proofs.lemmas.List.Elements.{All-from_recursion}
use Rattle.ac_words.specs.declared.task.Task.{Task}
use Rattle.ac_words.specs.declared.task.Task.TheVariants as t
use Rattle.ac_words.specs.declared.task.Telling.TheVariants as w
use Rattle.ac_words.specs.Words.{IsPlain, IsNumber, IsBound, IsTurns, IsLoad, IsArguments, IsTask, Asked, Does, Audits, Loads, StandsFor, IsCall, IsBounded, steps_of}
use Rattle.ac_words.specs.Words.{no_more, operand, bound_apart, bound_joined, only_operands}

x_ac : IsPlain (codes "x.ac")
x_ac e = cc

-- run x.ac, check x.ac and code x.ac
pub run_a_file : IsCall (codes "run" ∷ codes "x.ac" ∷ []) (Does (t.Run 100000 w.Report) (codes "x.ac"))
run_a_file = record { name = _; operands = _; given = None; command = record { rest = _; form = refl; arguments = operand x_ac no_more }; stands = (refl, (refl, refl)) }

pub check_a_file : IsCall (codes "check" ∷ codes "x.ac" ∷ []) (Does t.Check (codes "x.ac"))
check_a_file = record { name = _; operands = _; given = None; command = record { rest = _; form = refl; arguments = operand x_ac no_more }; stands = (refl, (refl, refl)) }

pub code_of_a_file : IsCall (codes "code" ∷ codes "x.ac" ∷ []) (Does t.Code (codes "x.ac"))
code_of_a_file = record { name = _; operands = _; given = None; command = record { rest = _; form = refl; arguments = operand x_ac no_more }; stands = (refl, (refl, refl)) }

abbrev first_of : List ℕ → ℕ
first_of [] = 0
first_of (x ∷ _) = x

abbrev second_of : List ℕ → ℕ
second_of [] = 0
second_of (_ ∷ xs) = first_of xs

-- a command stands for its task alone, and a bound is for a run alone
pub another_task : IsTask (codes "check") None t.Code → ⊥
another_task h = let e = h.0 in cc

pub no_run_of_a_check : (steps : ℕ) → IsTask (codes "check") None (t.Run steps w.Report) → ⊥
no_run_of_a_check steps h = let e = h.0 in cc

pub no_trace_of_a_run : (steps : ℕ) → IsTask (codes "run") None (t.Run steps w.Trace) → ⊥
no_trace_of_a_run steps h = let e = h.0 in cc

-- no task of a file is told by a summary
pub no_summary_of_a_file : (command : List ℕ) (given : Option ℕ) (steps turns : ℕ) → IsTask command given (t.Run steps (w.Summary turns)) → ⊥
no_summary_of_a_file command given steps turns h = h

pub no_bound_of_a_check : (task : Task) → IsTask (codes "check") (Some 7) task → ⊥
no_bound_of_a_check (t.Run steps w.Report) h = let e = h.0 in cc
no_bound_of_a_check (t.Run steps w.Trace) h = let n : 99 ≡ 116 = ap first_of h.0 in omega (arith, n)
no_bound_of_a_check (t.Run steps (w.Summary turns)) h = h
no_bound_of_a_check t.Check h = let e = h.1 in cc
no_bound_of_a_check t.Code h = let e = h.1 in cc

pub no_bound_of_a_listing : (task : Task) → IsTask (codes "code") (Some 7) task → ⊥
no_bound_of_a_listing (t.Run steps w.Report) h = let e = h.0 in cc
no_bound_of_a_listing (t.Run steps w.Trace) h = let n : 99 ≡ 116 = ap first_of h.0 in omega (arith, n)
no_bound_of_a_listing (t.Run steps (w.Summary turns)) h = h
no_bound_of_a_listing t.Check h = let e = h.1 in cc
no_bound_of_a_listing t.Code h = let e = h.1 in cc

-- only a run has steps
pub the_steps_of_tasks : steps_of (t.Run 7 w.Trace) ∷ steps_of t.Check ∷ steps_of t.Code ∷ [] ≡ 7 ∷ 0 ∷ 0 ∷ []
the_steps_of_tasks = refl

-- a number of one digit
pub seven : IsNumber (codes "7") 7
seven = record { some = omega arith; few = omega arith; digits = (omega arith, tt); first = λ e. cc; value = refl }

bound_seven : IsBound (codes "7") 7
bound_seven = record { number = seven; least = omega arith; most = omega arith }

-- run x.ac --steps 7, and run --steps=7 x.ac
pub run_with_a_bound : IsCall (codes "run" ∷ codes "x.ac" ∷ codes "--steps" ∷ codes "7" ∷ []) (Does (t.Run 7 w.Report) (codes "x.ac"))
run_with_a_bound =
    record { name = _; operands = _; given = Some 7; command = record { rest = _; form = refl; arguments = operand x_ac (bound_apart refl bound_seven no_more) }; stands = (refl, (refl, refl)) }

pub run_with_a_bound_before : IsCall (codes "run" ∷ codes "--steps=7" ∷ codes "x.ac" ∷ []) (Does (t.Run 7 w.Report) (codes "x.ac"))
run_with_a_bound_before =
    record { name = _; operands = _; given = Some 7; command = record { rest = _; form = refl; arguments = bound_joined refl bound_seven (operand x_ac no_more) }; stands = (refl, (refl, refl)) }

-- a leading nought is no number, and no word of eight digits is one
pub no_leading_nought : (n : ℕ) → IsNumber (codes "07") n → ⊥
no_leading_nought n h = h.first refl

pub no_eight_digits : (n : ℕ) → IsNumber (codes "10000000") n → ⊥
no_eight_digits n h = let le = h.few in omega (arith, le)

pub no_digit : (n : ℕ) → IsNumber [] n → ⊥
no_digit n h = let le = h.some in omega (arith, le)

-- the least bound and the greatest
pub the_least_bound : IsBound (codes "1") 1
the_least_bound = record {
  number = record { some = omega arith; few = omega arith; digits = (omega arith, tt); first = λ e. omega (arith, e); value = refl };
  least = omega arith;
  most = omega arith;
}

pub the_greatest_bound : IsBound (codes "2000000") 2000000
the_greatest_bound = record {
  number = record {
    some = omega arith;
    few = omega arith;
    digits = (omega arith, (omega arith, (omega arith, (omega arith, (omega arith, (omega arith, (omega arith, tt)))))));
    first = λ e. omega (arith, e);
    value = refl;
  };
  least = omega arith;
  most = omega arith;
}

pub a_bound_past_it : IsBound (codes "2000001") 2000001 → ⊥
a_bound_past_it h = let le = h.most in omega (arith, le)

-- run -- -x.ac: after `--` a word is an operand whatever it starts with, but for `-` alone
pub a_file_behind_two_dashes : IsCall (codes "run" ∷ codes "--" ∷ codes "-x.ac" ∷ []) (Does (t.Run 100000 w.Report) (codes "-x.ac"))
a_file_behind_two_dashes = record {
  name = _;
  operands = _;
  given = None;
  command = record { rest = _; form = refl; arguments = only_operands refl (All-from_recursion (λ (word : List ℕ). word ≡ codes "-" → ⊥) (codes "-x.ac" ∷ []) ((λ e. cc), tt)) };
  stands = (refl, (refl, refl));
}

pub a_word_with_a_dash_in_front : IsPlain (codes "-x.ac") → ⊥
a_word_with_a_dash_in_front h = h refl

-- there is no second bound
pub no_second_bound : (operands : List (List ℕ)) (given : Option ℕ) → IsArguments (codes "--steps=1" ∷ codes "--steps=2" ∷ []) operands given → ⊥
no_second_bound _ _ (operand plain more) = plain refl
no_second_bound _ _ (bound_apart is bound more) = cc
no_second_bound _ _ (bound_joined is bound more) = none_more more where
  none_more : {operands : List (List ℕ)} → IsArguments (codes "--steps=2" ∷ []) operands None → ⊥
  none_more (operand plain more) = plain refl
  none_more (only_operands is all) = cc
no_second_bound _ _ (only_operands is all) = cc

-- trace x.ac --steps 7, and audit x.ac x.trace
pub trace_with_a_bound : IsCall (codes "trace" ∷ codes "x.ac" ∷ codes "--steps" ∷ codes "7" ∷ []) (Does (t.Run 7 w.Trace) (codes "x.ac"))
trace_with_a_bound =
    record { name = _; operands = _; given = Some 7; command = record { rest = _; form = refl; arguments = operand x_ac (bound_apart refl bound_seven no_more) }; stands = (refl, (refl, refl)) }

pub audit_a_trace : IsCall (codes "audit" ∷ codes "x.ac" ∷ codes "x.trace" ∷ []) (Audits (codes "x.ac") (codes "x.trace"))
audit_a_trace =
    record { name = _; operands = _; given = None; command = record { rest = _; form = refl; arguments = operand x_ac (operand (λ e. cc) no_more) }; stands = (refl, (refl, refl)) }

-- an audit has no bound and two files, and a task has one
pub no_bound_of_an_audit : (operands : List (List ℕ)) (file trace : List ℕ) → StandsFor (codes "audit") operands (Some 7) (Audits file trace) → ⊥
no_bound_of_an_audit operands file trace h = let e = h.1.1 in cc

pub no_audit_of_one_file : (file trace : List ℕ) → StandsFor (codes "audit") (codes "x.ac" ∷ []) None (Audits file trace) → ⊥
no_audit_of_one_file file trace h = let n = ap (λ (ws : List (List ℕ)). length ws) h.0 in omega (arith, n)

pub no_task_with_two_files : (task : Task) (file : List ℕ) → StandsFor (codes "run") (codes "x.ac" ∷ codes "y.ac" ∷ []) None (Does task file) → ⊥
no_task_with_two_files task file h = let n = ap (λ (ws : List (List ℕ)). length ws) h.0 in omega (arith, n)

-- load 7, load -- 7 and load 7 --steps=7: a number of turns, and 100,000 steps where no bound is given
turns_seven : IsTurns (codes "7") 7
turns_seven = record { number = seven; least = omega arith; most = omega arith }

plain_seven : IsPlain (codes "7")
plain_seven e = cc

pub load_of_seven : IsCall (codes "load" ∷ codes "7" ∷ []) (Loads 7 100000)
load_of_seven = record {
  name = _;
  operands = _;
  given = None;
  command = record { rest = _; form = refl; arguments = operand plain_seven no_more };
  stands = (refl, record { word = codes "7"; one = refl; is_turns = turns_seven; steps_are = refl });
}

pub load_behind_two_dashes : IsCall (codes "load" ∷ codes "--" ∷ codes "7" ∷ []) (Loads 7 100000)
load_behind_two_dashes = record {
  name = _;
  operands = _;
  given = None;
  command = record { rest = _; form = refl; arguments = only_operands refl (All-from_recursion (λ (word : List ℕ). word ≡ codes "-" → ⊥) (codes "7" ∷ []) ((λ e. cc), tt)) };
  stands = (refl, record { word = codes "7"; one = refl; is_turns = turns_seven; steps_are = refl });
}

pub load_with_a_bound : IsCall (codes "load" ∷ codes "7" ∷ codes "--steps=7" ∷ []) (Loads 7 7)
load_with_a_bound = record {
  name = _;
  operands = _;
  given = Some 7;
  command = record { rest = _; form = refl; arguments = operand plain_seven (bound_joined refl bound_seven no_more) };
  stands = (refl, record { word = codes "7"; one = refl; is_turns = turns_seven; steps_are = refl });
}

-- the most turns and what is past them, and none
pub the_most_turns : IsTurns (codes "500") 500
the_most_turns = record {
  number = record { some = omega arith; few = omega arith; digits = (omega arith, (omega arith, (omega arith, tt))); first = λ e. omega (arith, e); value = refl };
  least = omega arith;
  most = omega arith;
}

pub a_turn_past_them : IsTurns (codes "501") 501 → ⊥
a_turn_past_them h = let le = h.most in omega (arith, le)

pub no_turn : (turns : ℕ) → IsTurns (codes "0") turns → ⊥
no_turn turns h = h.number.first refl

pub no_turns_below_nought : (turns : ℕ) → IsTurns (codes "-7") turns → ⊥
no_turns_below_nought turns h = let minus = h.number.digits.0 in omega (arith, minus)

-- a load has one operand, a number of turns, and takes no steps of its own
pub no_load_of_two : (turns steps : ℕ) → IsLoad (codes "7" ∷ codes "8" ∷ []) None turns steps → ⊥
no_load_of_two turns steps h = let n = ap (λ (ws : List (List ℕ)). length ws) h.one in omega (arith, n)

pub no_load_of_other_steps : (operands : List (List ℕ)) → IsLoad operands (Some 7) 7 100000 → ⊥
no_load_of_other_steps operands h = let e = h.steps_are in omega (arith, e)

pub no_load_of_another_command : (operands : List (List ℕ)) (turns steps : ℕ) → StandsFor (codes "run") operands None (Loads turns steps) → ⊥
no_load_of_another_command operands turns steps h = let n : 114 ≡ 108 = ap first_of h.0 in omega (arith, n)

-- a command without an operand is no call
no_arguments : {rest operands : List (List ℕ)} {given : Option ℕ} (file : List ℕ) → [] ≡ rest → IsArguments rest (file ∷ operands) given → ⊥
no_arguments file e (operand h more) = cc
no_arguments file e (bound_apart is bound more) = cc
no_arguments file e (bound_joined is bound more) = cc
no_arguments file e (only_operands is all) = cc

same_rest : {v w : List ℕ} {vs rest : List (List ℕ)} → v ∷ vs ≡ w ∷ rest → vs ≡ rest
same_rest e = cc

without_a_file : (name : List ℕ) (asked : Asked) → IsCall (name ∷ []) asked → ⊥
without_a_file name (Does task file) r =
    no_arguments file (same_rest r.command.form) (subst (λ (ws : List (List ℕ)). IsArguments r.command.rest ws r.given) r.stands.0 r.command.arguments)
without_a_file name (Audits file trace) r =
    no_arguments file (same_rest r.command.form) (subst (λ (ws : List (List ℕ)). IsArguments r.command.rest ws r.given) r.stands.0 r.command.arguments)
without_a_file name (Loads turns steps) r =
    no_arguments r.stands.1.word (same_rest r.command.form)
    (subst (λ (ws : List (List ℕ)). IsArguments r.command.rest ws r.given) r.stands.1.one r.command.arguments)

pub no_turns : (asked : Asked) → IsCall (codes "load" ∷ []) asked → ⊥
no_turns asked r = without_a_file (codes "load") asked r

pub no_file : (asked : Asked) → IsCall (codes "run" ∷ []) asked → ⊥
no_file asked r = without_a_file (codes "run") asked r

pub no_file_to_check : (asked : Asked) → IsCall (codes "check" ∷ []) asked → ⊥
no_file_to_check asked r = without_a_file (codes "check") asked r

-- load x.ac is no call, nor is a command of another name
same_first : {v w : List ℕ} {vs rest : List (List ℕ)} → v ∷ vs ≡ w ∷ rest → v ≡ w
same_first e = cc

abbrev first_word : List (List ℕ) → List ℕ
first_word [] = []
first_word (word ∷ _) = word

plain_x : {operands : List (List ℕ)} {given : Option ℕ} {word : List ℕ} {words : List (List ℕ)} → word ≡ codes "x.ac" → IsArguments (word ∷ words) operands given
    → first_word operands ≡ codes "x.ac"
plain_x e (operand plain more) = e
plain_x e (bound_apart is bound more) = absurd (cc (e, is))
plain_x e (bound_joined is bound more) = absurd (cc (e, is))
plain_x e (only_operands is all) = absurd (cc (e, is))

no_x_turns : (word : List ℕ) (turns : ℕ) → word ≡ codes "x.ac" → IsTurns word turns → ⊥
no_x_turns word turns e h = let digits = (subst (λ (w : List ℕ). IsTurns w turns) e h).number.digits.0 in omega (arith, digits)

no_command : (name : List ℕ) (words operands : List (List ℕ)) (given : Option ℕ) (asked : Asked) → codes "load" ≡ name → codes "x.ac" ∷ [] ≡ words → IsArguments words operands given
    → StandsFor name operands given asked → ⊥
no_command name words operands given (Does (t.Run steps w.Report) file) e r a h = let n : 108 ≡ 114 = ap first_of (e ∙ h.1.0) in omega (arith, n)
no_command name words operands given (Does (t.Run steps w.Trace) file) e r a h = let n : 108 ≡ 116 = ap first_of (e ∙ h.1.0) in omega (arith, n)
no_command name words operands given (Does (t.Run steps (w.Summary turns)) file) e r a h = h.1
no_command name words operands given (Does t.Check file) e r a h = let n : 108 ≡ 99 = ap first_of (e ∙ h.1.0) in omega (arith, n)
no_command name words operands given (Does t.Code file) e r a h = let n : 108 ≡ 99 = ap first_of (e ∙ h.1.0) in omega (arith, n)
no_command name words operands given (Audits file trace) e r a h = let n : 108 ≡ 97 = ap first_of (e ∙ h.1.0) in omega (arith, n)
no_command name words operands given (Loads turns steps) e r a h =
    let first = plain_x refl (subst (λ (ws : List (List ℕ)). IsArguments ws operands given) (sym r) a) in
    no_x_turns h.1.word turns (sym (ap first_word h.1.one) ∙ first) h.1.is_turns

pub no_load_of_a_file : (asked : Asked) → IsCall (codes "load" ∷ codes "x.ac" ∷ []) asked → ⊥
no_load_of_a_file asked r = no_command r.name r.command.rest r.operands r.given asked (same_first r.command.form) (same_rest r.command.form) r.command.arguments r.stands

no_such_command : (name : List ℕ) (operands : List (List ℕ)) (given : Option ℕ) (asked : Asked) → codes "list" ≡ name → StandsFor name operands given asked → ⊥
no_such_command name operands given (Does (t.Run steps w.Report) file) e h = let n : 108 ≡ 114 = ap first_of (e ∙ h.1.0) in omega (arith, n)
no_such_command name operands given (Does (t.Run steps w.Trace) file) e h = let n : 108 ≡ 116 = ap first_of (e ∙ h.1.0) in omega (arith, n)
no_such_command name operands given (Does (t.Run steps (w.Summary turns)) file) e h = h.1
no_such_command name operands given (Does t.Check file) e h = let n : 108 ≡ 99 = ap first_of (e ∙ h.1.0) in omega (arith, n)
no_such_command name operands given (Does t.Code file) e h = let n : 108 ≡ 99 = ap first_of (e ∙ h.1.0) in omega (arith, n)
no_such_command name operands given (Audits file trace) e h = let n : 108 ≡ 97 = ap first_of (e ∙ h.1.0) in omega (arith, n)
no_such_command name operands given (Loads turns steps) e h = let n : 105 ≡ 111 = ap second_of (e ∙ h.0) in omega (arith, n)

pub another_command : (asked : Asked) → IsCall (codes "list" ∷ codes "x.ac" ∷ []) asked → ⊥
another_command asked r = no_such_command r.name r.operands r.given asked (same_first r.command.form) r.stands

-- the bounds of a task
pub a_bound_of_seven : IsBounded (t.Run 7 w.Trace) × (IsBounded t.Check × IsBounded t.Code)
a_bound_of_seven = ((omega arith, omega arith), (tt, tt))

pub no_bound_of_nought : IsBounded (t.Run 0 w.Report) → ⊥
no_bound_of_nought h = let le = h.0 in omega (arith, le)
