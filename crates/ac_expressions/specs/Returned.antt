-- What a function that reads returns, beside what reading gives.
use Rattle.std.specs.Prelude.{◌≡◌, List, Result, Ok, Err}
use Rattle.ac_lexer.specs.declared.token.Token.{Token}
use Rattle.ac_expressions.specs.declared.cursor.Halt.{Halt}
use Rattle.ac_expressions.specs.declared.cursor.Halt.TheVariants as h
use Rattle.reading_laws.specs.Readers.{unexpected, too_deep, Fault, halt}

-- What a function returned, seen by view, is what reading gives, unless memory ran out; rest are the tokens that it left.
abbrev pub Fails : {Y : Type 0} → List Token → Halt → Result Y Fault → Type 0
Fails rest h.Unexpected read = read ≡ Err (halt unexpected rest)
Fails rest h.TooDeep read = read ≡ Err (halt too_deep rest)
Fails rest h.Memory read = Unit {0}

abbrev pub Gives : {X Y : Type 0} → List Token → (X → Y) → Result X Halt → Result Y Fault → Type 0
Gives rest view (Ok x) read = read ≡ Ok (view x)
Gives rest view (Err e) read = Fails rest e read
