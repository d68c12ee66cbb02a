-- What a sink has taken of a text.
use Rattle.std.specs.Prelude.{◌≡◌, ℕ, ◌<◌, List, ◌++◌, length}
use Rattle.std.specs.declared.option.Option.{Option}
use Rattle.ac_outside.specs.Told.{SinkTold, GrewBy}

-- the sink has taken a front of the text, and not the whole of it
pub record TookFront (held held_after : Option (List ℕ)) (text : List ℕ) : Type 0 where
  pub front : List ℕ
  pub rest : List ℕ
  pub cut : text ≡ front ++ rest
  pub short : 0 < length rest
  pub taken : GrewBy held held_after front

-- all of a text that is due with this status
pub record TookAll (Due : ℕ → List ℕ → Type 0) (status : ℕ) (sink written : SinkTold) : Type 0 where
  pub text : List ℕ
  pub due : Due status text
  pub taken : GrewBy sink.held written.held text

-- a front of a text that is due with some status
pub record TookSome (Due : ℕ → List ℕ → Type 0) (sink written : SinkTold) : Type 0 where
  pub status : ℕ
  pub text : List ℕ
  pub due : Due status text
  pub taken : TookFront sink.held written.held text
