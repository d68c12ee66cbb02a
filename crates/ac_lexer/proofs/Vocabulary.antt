-- Names and the table of words: the letters of each word are found as that word (`word_reads`, a case for each), what is found has those
-- letters (`word_is`, along the table), and what is read at the front is the whole run of bytes of names (`name_read`).
-- `name_or_word_is` joins the two kinds: what holds of words, and of names that are no words, holds of every such run.
use Rattle.std.proofs.Common.{◌≡◌, ℕ, ◌≤◌, ◌<◌, Bool, true, false, List, [], ◌∷◌, ◌++◌, length, take, Option, Some, None, refl, sym, ap, ◌∙◌, subst, arith}
use Rattle.std.specs.Prelude.{if◌then◌else◌, ◌&&◌}
use Rattle.std.specs.Str.{bytes_eq}
use Rattle.std.proofs.lemmas.Slice.Eq.{bytes_eq-Decides}
use Rattle.ac_lexer.specs.declared.token.Kind.{Kind}
use Rattle.ac_lexer.specs.declared.token.Kind.TheVariants as k
use Rattle.ac_lexer.specs.declared.token.Word.{Word}
use Rattle.ac_lexer.specs.declared.token.Word.TheVariants as w
use Rattle.ac_lexer.specs.Spelling.{Each, starts, is_letter, is_name, letters}
use Rattle.ac_lexer.specs.inner.Reading.{run, among, words_of, word_of, name_or_word, name_at, token_piece}
use Rattle.ac_lexer.proofs.Runs.{run_of, run_least, take_front, letter_name}

abbrev pub one : Word → Option Word
one v = Some v

pub same_word : {u v : Word} → one u ≡ one v → u ≡ v
same_word h = cc

pub no_word : (v : Word) → None ≡ one v → ⊥
no_word v h = cc

-- a letter or `_`, and then bytes of names
pub data Named : List ℕ → Type 0 where
  named : (b : ℕ) (bs : List ℕ) → is_letter b ≡ true → Each is_name bs → Named (b ∷ bs)

all_names : List ℕ → Bool
all_names [] = true
all_names (b ∷ bs) = is_name b && all_names bs

is_named : List ℕ → Bool
is_named [] = false
is_named (b ∷ bs) = is_letter b && all_names bs

and_left : (t u : Bool) → (t && u) ≡ true → t ≡ true
and_left true u h = refl
and_left false u h = h

and_right : (t u : Bool) → (t && u) ≡ true → u ≡ true
and_right true u h = h
and_right false u h = cc

each_name : (bs : List ℕ) → all_names bs ≡ true → Each is_name bs
unfolding all_names
each_name [] h = tt
each_name (b ∷ bs) h = (and_left (is_name b) (all_names bs) h, each_name bs (and_right (is_name b) (all_names bs) h))

named_if : (bs : List ℕ) → is_named bs ≡ true → Named bs
unfolding is_named
named_if [] h = cc
named_if (b ∷ bs) h = named b bs (and_left (is_letter b) (all_names bs) h) (each_name bs (and_right (is_letter b) (all_names bs) h))

-- by computing, word for word: the letters of each word are a letter and then bytes of names
word_is_named : (v : Word) → is_named (letters v) ≡ true
unfolding is_named all_names
word_is_named w.Int = refl
word_is_named w.Void = refl
word_is_named w.Async = refl
word_is_named w.Do = refl
word_is_named w.Finish = refl
word_is_named w.Cancel = refl
word_is_named w.Yield = refl
word_is_named w.If = refl
word_is_named w.Else = refl
word_is_named w.While = refl
word_is_named w.For = refl
word_is_named w.Break = refl
word_is_named w.Continue = refl
word_is_named w.Return = refl
word_is_named w.Core = refl
word_is_named w.Channel = refl
word_is_named w.File = refl
word_is_named w.Printf = refl
word_is_named w.Send = refl
word_is_named w.Recv = refl
word_is_named w.Read = refl
word_is_named w.Write = refl
word_is_named w.Ok = refl
word_is_named w.Cancelled = refl
word_is_named w.Fault = refl

pub word_named : (v : Word) → Named (letters v)
word_named v = named_if (letters v) (word_is_named v)

-- by computing, word for word: of the words of that length, the first with these letters is the word itself
pub word_reads : (v : Word) → word_of (letters v) ≡ Some v
unfolding word_of
word_reads w.Int = refl
word_reads w.Void = refl
word_reads w.Async = refl
word_reads w.Do = refl
word_reads w.Finish = refl
word_reads w.Cancel = refl
word_reads w.Yield = refl
word_reads w.If = refl
word_reads w.Else = refl
word_reads w.While = refl
word_reads w.For = refl
word_reads w.Break = refl
word_reads w.Continue = refl
word_reads w.Return = refl
word_reads w.Core = refl
word_reads w.Channel = refl
word_reads w.File = refl
word_reads w.Printf = refl
word_reads w.Send = refl
word_reads w.Recv = refl
word_reads w.Read = refl
word_reads w.Write = refl
word_reads w.Ok = refl
word_reads w.Cancelled = refl
word_reads w.Fault = refl

among_case : (u : Word) (vs : List Word) (a : List ℕ) (v : Word) (t : Bool) → bytes_eq a (letters u) ≡ t → (among vs a ≡ Some v → a ≡ letters v) → (if t then one u else among vs a) ≡ Some v
    → a ≡ letters v
among_case u vs a v true h g e = (bytes_eq-Decides a (letters u)).0 h ∙ ap letters (same_word e)
among_case u vs a v false h g e = g e

among_is : (vs : List Word) (a : List ℕ) (v : Word) → among vs a ≡ Some v → a ≡ letters v
among_is [] a v h = absurd (no_word v h)
among_is (u ∷ vs) a v h = among_case u vs a v (bytes_eq a (letters u)) refl (among_is vs a v) h

pub word_is : (a : List ℕ) (v : Word) → word_of a ≡ Some v → a ≡ letters v
unfolding word_of
word_is a v h = among_is (words_of (length a)) a v h

pub no_word_of : (a : List ℕ) (o : Option Word) → word_of a ≡ o → ((v : Word) → a ≡ letters v → ⊥) → word_of a ≡ None
no_word_of a (Some v) h n = absurd (n v (word_is a v h))
no_word_of a None h n = h

no_letters : (a : List ℕ) → word_of a ≡ None → (v : Word) → a ≡ letters v → ⊥
no_letters a h v e = no_word v (sym h ∙ ap word_of e ∙ word_reads v)

name_case : (P : Kind → List ℕ → Type 0) (a : List ℕ) (o : Option Word) → word_of a ≡ o → ((v : Word) → P (k.Word v) (letters v)) → (((v : Word) → a ≡ letters v → ⊥) → P (k.Name a) a)
    → P (name_or_word a o) a
name_case P a (Some v) h word name = subst (P (k.Word v)) (sym (word_is a v h)) (word v)
name_case P a None h word name = name (no_letters a h)

-- what holds of words, and of names that are no words, holds of each run of bytes of names
pub name_or_word_is : (P : Kind → List ℕ → Type 0) (a : List ℕ) → ((v : Word) → P (k.Word v) (letters v)) → (((v : Word) → a ≡ letters v → ⊥) → P (k.Name a) a) → P (name_or_word a (word_of a)) a
name_or_word_is P a word name = name_case P a (word_of a) refl word name

each_named : (a : List ℕ) → Named a → Each is_name a
each_named _ (named b bs l e) = (letter_name b l, e)

name_is : (n : ℕ) (a bs : List ℕ) → run is_name bs ≡ n → take n bs ≡ a → name_at bs ≡ token_piece (name_or_word a (word_of a)) n
unfolding name_at
name_is n a bs r t = rw (r, t) refl

pub name_read : (a rest : List ℕ) → Named a → starts is_name rest ≡ false → name_at (a ++ rest) ≡ token_piece (name_or_word a (word_of a)) (length a)
name_read a rest n s = name_is (length a) a (a ++ rest) (run_of is_name a rest (each_named a n) s) (take_front a rest)

pub name_len : (bs : List ℕ) → (name_at bs).len ≡ run is_name bs
unfolding name_at
name_len bs = refl

pub named_least : (a rest : List ℕ) → Named a → length a ≤ (name_at (a ++ rest)).len
named_least a rest n = rw name_len (run_least is_name a rest (each_named a n))

named_long : (a : List ℕ) → Named a → 0 < length a
named_long _ (named b bs l e) = omega arith

pub word_long : (v : Word) → 0 < length (letters v)
word_long v = named_long (letters v) (word_named v)
