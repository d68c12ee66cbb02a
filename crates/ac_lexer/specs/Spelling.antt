-- How the bytes of tokens are spelled.
use Rattle.std.specs.Prelude.{◌≡◌, ◌==◌, ◌||◌, ◌&&◌, nat_le, if◌then◌else◌, ℕ, ◌+◌, ◌-◌, ◌*◌, Bool, true, false, List, [], ◌∷◌, codes}
use Rattle.ac_lexer.specs.declared.token.Kind.{Kind}
use Rattle.ac_lexer.specs.declared.token.Token.{Token}
use Rattle.ac_lexer.specs.declared.token.Word.{Word}
use Rattle.ac_lexer.specs.declared.token.Word.TheVariants as w
use Rattle.ac_lexer.specs.declared.token.Mark.{Mark}
use Rattle.ac_lexer.specs.declared.token.Mark.TheVariants as m

-- ---- bytes

-- a space, a tab, a carriage return or a line feed
abbrev pub is_blank : ℕ → Bool
is_blank b = b == 32 || b == 9 || b == 13 || b == 10

abbrev pub is_digit : ℕ → Bool
is_digit b = nat_le 48 b && nat_le b 57

-- a letter or `_`
abbrev pub is_letter : ℕ → Bool
is_letter b = (nat_le 97 b && nat_le b 122) || (nat_le 65 b && nat_le b 90) || b == 95

-- a letter, a digit or `_`
abbrev pub is_name : ℕ → Bool
is_name b = is_letter b || is_digit b

abbrev pub is_zero : ℕ → Bool
is_zero b = b == 48

-- each byte passes the test
abbrev pub Each : (ℕ → Bool) → List ℕ → Type 0
Each p [] = Unit {0}
Each p (b ∷ bs) = (p b ≡ true) × Each p bs

-- there is a first byte, and it passes the test
abbrev pub starts : (ℕ → Bool) → List ℕ → Bool
starts p [] = false
starts p (b ∷ bs) = p b

-- the value of the digits at the front, after others of that value
abbrev pub value_of : ℕ → List ℕ → ℕ
value_of n [] = n
value_of n (b ∷ bs) = if is_digit b then value_of (n * 10 + (b - 48)) bs else n

-- ---- words and marks

abbrev pub letters : Word → List ℕ
letters w.Int = codes "int"
letters w.Void = codes "void"
letters w.Async = codes "async"
letters w.Do = codes "do"
letters w.Finish = codes "finish"
letters w.Cancel = codes "cancel"
letters w.Yield = codes "yield"
letters w.If = codes "if"
letters w.Else = codes "else"
letters w.While = codes "while"
letters w.For = codes "for"
letters w.Break = codes "break"
letters w.Continue = codes "continue"
letters w.Return = codes "return"
letters w.Core = codes "core"
letters w.Channel = codes "channel"
letters w.File = codes "file"
letters w.Printf = codes "printf"
letters w.Send = codes "Send"
letters w.Recv = codes "Recv"
letters w.Read = codes "Read"
letters w.Write = codes "Write"
letters w.Ok = codes "OK"
letters w.Cancelled = codes "CANCELLED"
letters w.Fault = codes "FAULT"

abbrev pub sign : Mark → List ℕ
sign m.OrOr = codes "||"
sign m.AndAnd = codes "&&"
sign m.EqEq = codes "=="
sign m.NotEq = codes "!="
sign m.LessEq = codes "<="
sign m.MoreEq = codes ">="
sign m.Shl = codes "<<"
sign m.Shr = codes ">>"
sign m.Plus = codes "+"
sign m.Minus = codes "-"
sign m.Star = codes "*"
sign m.Slash = codes "/"
sign m.Percent = codes "%"
sign m.Less = codes "<"
sign m.More = codes ">"
sign m.And = codes "&"
sign m.Bar = codes "|"
sign m.Caret = codes "^"
sign m.Not = codes "!"
sign m.Tilde = codes "~"
sign m.Assign = codes "="
sign m.OpenParen = codes "("
sign m.CloseParen = codes ")"
sign m.OpenBracket = codes "["
sign m.CloseBracket = codes "]"
sign m.OpenBrace = codes "{"
sign m.CloseBrace = codes "}"
sign m.Comma = codes ","
sign m.Semicolon = codes ";"
sign m.Colon = codes ":"

-- ---- places

-- a token whose bytes are those from a place up to another
abbrev pub placed : Kind → ℕ → ℕ → Token
placed kind at end = record { kind = kind; span = record { at = at; end = end } }
