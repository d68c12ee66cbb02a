-- Words of calls, and words that are no call: an entry is a number without a leading nought, and the counts of a cut have commas between them.
-- What holds is built from its parts; what does not is refused by the part that asks for it.
use Rattle.std.proofs.Common.{◌≡◌, refl, ap, ℕ, List, [], ◌∷◌, length, codes, arith}
use Rattle.order_words.specs.declared.words.Question.TheVariants as q
use Rattle.order_words.specs.declared.words.Call.{Call}
use Rattle.order_words.specs.Words.{IsNumber, IsNumbers, IsOfNumbers, Orders, Cuts, AreEntries, AreCounts, Asks, Asked, IsCall, one_number, and_others}
use Rattle.ac_words.specs.Words.{IsPlain}
use Rattle.order_words.specs.Called.{Means, HasMeaning, AsksFor}

-- ---- numbers

pub nought : IsNumber (codes "0") 0
nought = record { some = omega arith; few = omega arith; digits = (omega arith, tt); first = λ l. absurd (omega (arith, l)); value = refl }

pub one : IsNumber (codes "1") 1
one = record { some = omega arith; few = omega arith; digits = (omega arith, tt); first = λ l. absurd (omega (arith, l)); value = refl }

pub no_leading_nought : (n : ℕ) → IsNumber (codes "07") n → ⊥
no_leading_nought n h = h.first (omega arith) refl

pub no_ten_digits : (n : ℕ) → IsNumber (codes "1000000000") n → ⊥
no_ten_digits n h = let le = h.few in omega (arith, le)

pub no_digit : (n : ℕ) → IsNumber [] n → ⊥
no_digit n h = let le = h.some in omega (arith, le)

-- ---- counts

last_count : IsNumbers (codes "0") (0 ∷ [])
last_count = one_number (codes "0") (0 ∷ []) 0 refl nought

two_counts : IsNumbers (codes "1,0") (1 ∷ 0 ∷ [])
two_counts = and_others (codes "1,0") (1 ∷ 0 ∷ []) (codes "1") (codes "0") 1 (0 ∷ []) refl refl one last_count

pub three_counts : IsNumbers (codes "1,1,0") (1 ∷ 1 ∷ 0 ∷ [])
three_counts = and_others (codes "1,1,0") (1 ∷ 1 ∷ 0 ∷ []) (codes "1") (codes "1,0") 1 (1 ∷ 0 ∷ []) refl refl one two_counts

pub they_are_numbers : IsOfNumbers (codes "1,1,0")
they_are_numbers = record { numbers = 1 ∷ 1 ∷ 0 ∷ []; are = three_counts }

no_empty : (text : List ℕ) (numbers : List ℕ) → text ≡ [] → IsNumbers text numbers → ⊥
no_empty text numbers e (one_number _ _ n f h) = let le = h.some in let l = ap length e in omega (arith, le, l)
no_empty text numbers e (and_others _ _ [] rest n others f g h w) = let le = h.some in omega (arith, le)
no_empty text numbers e (and_others _ _ (b ∷ front) rest n others f g h w) = absurd (cc (e, f))

pub nothing_is_no_number : IsOfNumbers [] → ⊥
nothing_is_no_number h = no_empty [] h.numbers refl h.are

-- ---- calls

x_ac : IsPlain (codes "x.ac")
x_ac e = cc

x_trace : IsPlain (codes "x.trace")
x_trace e = cc

pub its_entries : AreEntries (codes "0" ∷ codes "1" ∷ []) 0 1
its_entries = record { first = codes "0"; second = codes "1"; two = refl; is_one = nought; is_other = one }

pub its_counts : AreCounts (codes "1,1,0" ∷ []) (1 ∷ 1 ∷ 0 ∷ [])
its_counts = record { word = codes "1,1,0"; one = refl; are = three_counts }

abbrev pub the_order : Asked
the_order = record { file = codes "x.ac"; trace = codes "x.trace"; question = Orders 0 1 }

pub an_order : IsCall (codes "order" ∷ codes "x.ac" ∷ codes "x.trace" ∷ codes "0" ∷ codes "1" ∷ []) the_order
an_order = record { command = codes "order"; operands = codes "0" ∷ codes "1" ∷ []; form = refl; file_plain = x_ac; trace_plain = x_trace; asks = (refl, its_entries) }

pub a_cut : IsCall (codes "cut" ∷ codes "x.ac" ∷ codes "x.trace" ∷ codes "1,1,0" ∷ []) (record { file = codes "x.ac"; trace = codes "x.trace"; question = Cuts (1 ∷ 1 ∷ 0 ∷ []) })
a_cut = record { command = codes "cut"; operands = codes "1,1,0" ∷ []; form = refl; file_plain = x_ac; trace_plain = x_trace; asks = (refl, its_counts) }

pub no_cut_of_an_order : (counts : List ℕ) → Asks (codes "order") (codes "1" ∷ []) (Cuts counts) → ⊥
no_cut_of_an_order counts h = let e = h.0 in cc

pub no_order_of_one_entry : (i j : ℕ) → Asks (codes "order") (codes "1" ∷ []) (Orders i j) → ⊥
no_order_of_one_entry i j h = let e = h.1.two in cc

pub no_words_are_no_call : (asked : Asked) → IsCall [] asked → ⊥
no_words_are_no_call asked h = let e = h.form in cc

-- ---- what was read stands for it

pub two_entries : Means (q.Order 0 1) (Orders 0 1)
two_entries = (refl, refl)

pub not_the_other_way : Means (q.Order 0 1) (Orders 1 0) → ⊥
not_the_other_way h = let e = h.0 in omega (arith, e)

pub it_has_a_meaning : HasMeaning (q.Order 0 1)
it_has_a_meaning = record { question = Orders 0 1; means = two_entries }

pub no_call_asks_for_nothing : (call : Call) → AsksFor [] call → ⊥
no_call_asks_for_nothing call h = no_words_are_no_call (record { file = call.file.now; trace = call.trace.now; question = h.meant.question }) (h.asks h.meant.question h.meant.means)
