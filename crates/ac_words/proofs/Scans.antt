-- What one more word does to the calls that are complete: the invariant of `read_arguments` says that what is read so far and the words that are
-- left give the same calls as all the words, and each kind of word keeps it (`at_plain` and those behind it), both ways.
-- The hard direction: a call in which the word stands is one of four (`Step`), and the word itself excludes three of them.
use Rattle.std.proofs.Common.{◌≡◌, ℕ, List, [], ◌∷◌, ◌++◌, None, Some, codes, refl, sym, ap, ◌∙◌, subst, ◌<◌, ◌≤◌, ◌+◌, length, get_or, drop, map, add-one, drop-cons, arith}
use Rattle.std.proofs.Common.{append-nil, append_assoc, length-append}
use Rattle.std.proofs.lemmas.List.{drop_all}
use Rattle.std.specs.declared.option.Option.{Option}
use Rattle.std.specs.Str.Parse.{digits_value}
use Rattle.ac_words.specs.declared.scan.Operands.{Operands}
use Rattle.ac_words.specs.declared.scan.Operands.TheVariants.{Zero, One, Two}
use Rattle.ac_words.specs.declared.scan.Next.{Next}
use Rattle.ac_words.specs.declared.scan.Next.TheVariants.{Any, Value, Operand}
use Rattle.ac_words.specs.Words.{IsPlain, IsBound, IsArguments, IsCall, Asked, Does, Audits, Loads, StandsFor}
use Rattle.ac_words.specs.Words.IsArguments.{no_more, operand, bound_apart, bound_joined, only_operands}
use Rattle.ac_words.specs.inner.Scanning.{texts_of, AreMeant, IsMeant, CompletesNext, CompletesAny, CompletesValue, CompletesOperands}

-- ---- operands

-- one of those to come is read
forth_one : (read others operands : List (List ℕ)) (word : List ℕ) → AreMeant read (word ∷ others) operands → AreMeant (read ++ word ∷ []) others operands
forth_one read others operands word h = record { all = h.all ∙ sym (append_assoc read (word ∷ []) others); few = h.few }

back_one : (read others operands : List (List ℕ)) (word : List ℕ) → AreMeant (read ++ word ∷ []) others operands → AreMeant read (word ∷ others) operands
back_one read others operands word h = record { all = h.all ∙ append_assoc read (word ∷ []) others; few = h.few }

-- ---- how a word goes into a call, where options may stand

data Step (read : List (List ℕ)) (bound : Option ℕ) (word : List ℕ) (words operands : List (List ℕ)) (given : Option ℕ) : Type 0 where
  plain : IsPlain word → CompletesAny (read ++ word ∷ []) bound words operands given → Step read bound word words operands given
  value : word ≡ codes "--steps" → bound ≡ None → CompletesValue read words operands given → Step read bound word words operands given
  joined : (numeral : List ℕ) (number : ℕ) → word ≡ codes "--steps=" ++ numeral → IsBound numeral number → bound ≡ None → CompletesAny read (Some number) words operands given
      → Step read bound word words operands given
  rest : word ≡ codes "--" → CompletesOperands read bound words operands given → Step read bound word words operands given

step_of : (read : List (List ℕ)) (bound : Option ℕ) {word : List ℕ} {words others : List (List ℕ)} {more : Option ℕ} (operands : List (List ℕ)) (given : Option ℕ) →
    IsArguments (word ∷ words) others more → AreMeant read others operands → IsMeant bound more given → Step read bound word words operands given
step_of read bound operands given (operand p a) o m = plain p (record { others = _; more = _; arguments = a; all = forth_one read _ operands _ o; meant = m })
step_of read None operands given (bound_apart e h a) o m = value e refl (record {
  value = _;
  rest = _;
  number = _;
  split = refl;
  is_bound = h;
  completes = record { others = _; more = None; arguments = a; all = o; meant = (refl, m) };
})
step_of read (Some old) operands given (bound_apart e h a) o m = absurd (cc (m.0))
step_of read None operands given (bound_joined e h a) o m = joined _ _ e h refl (record { others = _; more = None; arguments = a; all = o; meant = (refl, m) })
step_of read (Some old) operands given (bound_joined e h a) o m = absurd (cc (m.0))
step_of read bound operands given (only_operands e h) o m = rest e (record { named = h; all = o; meant = m })

forth : (read : List (List ℕ)) (bound : Option ℕ) (word : List ℕ) (words operands : List (List ℕ)) (given : Option ℕ) → CompletesAny read bound (word ∷ words) operands given
    → Step read bound word words operands given
forth read bound word words operands given g = step_of read bound operands given g.arguments g.all g.meant

back : (read : List (List ℕ)) (bound : Option ℕ) (word : List ℕ) (words operands : List (List ℕ)) (given : Option ℕ) → Step read bound word words operands given
    → CompletesAny read bound (word ∷ words) operands given
back read bound word words operands given (plain p g) =
    record { others = word ∷ g.others; more = g.more; arguments = operand p g.arguments; all = back_one read g.others operands word g.all; meant = g.meant }
back read None word words operands given (value e _ g) = record {
  others = g.completes.others;
  more = Some g.number;
  arguments = rw g.split (bound_apart e g.is_bound (rw g.completes.meant.0 at g.completes.arguments));
  all = g.completes.all;
  meant = g.completes.meant.1;
}
back read (Some old) word words operands given (value e b g) = absurd (cc (b))
back read None word words operands given (joined numeral number e h _ g) =
    record { others = g.others; more = Some number; arguments = bound_joined e h (rw g.meant.0 at g.arguments); all = g.all; meant = g.meant.1 }
back read (Some old) word words operands given (joined numeral number e h b g) = absurd (cc (b))
back read bound word words operands given (rest e g) = record { others = words; more = None; arguments = only_operands e g.named; all = g.all; meant = g.meant }

-- no word that starts with `-` is plain
not_plain : (word others : List ℕ) → word ≡ 45 ∷ others → IsPlain word → ⊥
not_plain word others e p = (rw e at p) refl

-- a word gives at most one bound
same_bound : (word other numeral : List ℕ) (many number : ℕ) → word ≡ codes "--steps=" ++ other → word ≡ codes "--steps=" ++ numeral → IsBound other many → IsBound numeral number → many ≡ number
same_bound word other numeral many number w e k h = let same : other ≡ numeral = cc (w, e) in k.number.value ∙ ap (λ xs. digits_value 10 xs) same ∙ sym h.number.value

module _ (read : List (List ℕ)) (bound : Option ℕ) (word : List ℕ) where
  at_plain : IsPlain word → (words operands : List (List ℕ)) (given : Option ℕ) →
      (CompletesAny read bound (word ∷ words) operands given → CompletesAny (read ++ word ∷ []) bound words operands given)
      × (CompletesAny (read ++ word ∷ []) bound words operands given → CompletesAny read bound (word ∷ words) operands given)
  at_plain p words operands given = (
    λ g. elim (forth read bound word words operands given g) [
      | plain _ h ↦ h
      | value w _ _ ↦ absurd (not_plain word _ w p)
      | joined _ _ w _ _ _ ↦ absurd (not_plain word _ w p)
      | rest w _ ↦
          absurd (not_plain word _ w p)
    ],
    λ h. back read bound word words operands given (plain p h),
  )

  pub plain_more : (more : List (List ℕ)) → more ≡ read ++ word ∷ [] → IsPlain word → (words operands : List (List ℕ)) (given : Option ℕ) →
      (CompletesAny read bound (word ∷ words) operands given → CompletesAny more bound words operands given)
      × (CompletesAny more bound words operands given → CompletesAny read bound (word ∷ words) operands given)
  plain_more more e p words operands given = rw e (at_plain p words operands given)

  pub at_operands : word ≡ codes "--" → (words operands : List (List ℕ)) (given : Option ℕ) →
      (CompletesAny read bound (word ∷ words) operands given → CompletesOperands read bound words operands given)
      × (CompletesOperands read bound words operands given → CompletesAny read bound (word ∷ words) operands given)
  at_operands e words operands given = (
    λ g. elim (forth read bound word words operands given g) [ plain p _ ↦ absurd (not_plain word _ e p) | value w _ _ ↦ absurd (cc (w, e)) | joined _ _ w _ _ _ ↦ absurd (cc (w, e)) | rest _ h ↦ h ],
    λ h. back read bound word words operands given (rest e h),
  )

  pub at_steps : word ≡ codes "--steps" → bound ≡ None → (words operands : List (List ℕ)) (given : Option ℕ) →
      (CompletesAny read bound (word ∷ words) operands given → CompletesValue read words operands given)
      × (CompletesValue read words operands given → CompletesAny read bound (word ∷ words) operands given)
  at_steps e b words operands given = (
    λ g. elim (forth read bound word words operands given g) [ plain p _ ↦ absurd (not_plain word _ e p) | value _ _ h ↦ h | joined _ _ w _ _ _ ↦ absurd (cc (w, e)) | rest w _ ↦ absurd (cc (w, e)) ],
    λ h. back read bound word words operands given (value e b h),
  )

  pub at_joined : (numeral : List ℕ) (number : ℕ) → word ≡ codes "--steps=" ++ numeral → IsBound numeral number → bound ≡ None → (words operands : List (List ℕ)) (given : Option ℕ) →
      (CompletesAny read bound (word ∷ words) operands given → CompletesAny read (Some number) words operands given)
      × (CompletesAny read (Some number) words operands given → CompletesAny read bound (word ∷ words) operands given)
  at_joined numeral number e h b words operands given = (
    λ g. elim (forth read bound word words operands given g) [
      | plain p _ ↦ absurd (not_plain word _ e p)
      | value w _ _ ↦ absurd (cc (w, e))
      | joined other many w k _ s ↦
          subst (λ n. CompletesAny read (Some n) words operands given) (same_bound word other numeral many number w e k h) s
      | rest w _ ↦ absurd (cc (w, e))
    ],
    λ s. back read bound word words operands given (joined numeral number e h b s),
  )

-- ---- where no word is left

nothing_more : (read : List (List ℕ)) → length read ≤ 2 → AreMeant read [] read
nothing_more read few = record { all = sym (append-nil read); few = few }

any_at_end : (bound : Option ℕ) (read : List (List ℕ)) → length read ≤ 2 → CompletesAny read bound [] read bound
any_at_end None read few = record { others = []; more = None; arguments = no_more; all = nothing_more read few; meant = refl }
any_at_end (Some n) read few = record { others = []; more = None; arguments = no_more; all = nothing_more read few; meant = (refl, refl) }

operands_at_end : (bound : Option ℕ) (read : List (List ℕ)) → length read ≤ 2 → CompletesOperands read bound [] read bound
operands_at_end None read few = record { named = λ k d l e. absurd (omega (arith, l)); all = nothing_more read few; meant = refl }
operands_at_end (Some n) read few = record { named = λ k d l e. absurd (omega (arith, l)); all = nothing_more read few; meant = (refl, refl) }

pub end_of : (next : Next) (bound : Option ℕ) (read : List (List ℕ)) → length read ≤ 2 → (next ≡ Value → ⊥) → CompletesNext next read bound [] read bound
end_of Any bound read few h = any_at_end bound read few
end_of Value bound read few h = absurd (h refl)
end_of Operand bound read few h = operands_at_end bound read few

-- the bound that is meant where none is to come
meant_none : (bound : Option ℕ) (given : Option ℕ) → IsMeant bound None given → given ≡ bound
meant_none None given m = m
meant_none (Some n) given m = m.1

-- no words give no bound and no operand
given_none : {words operands : List (List ℕ)} {given : Option ℕ} → words ≡ [] → IsArguments words operands given → (given ≡ None) × (operands ≡ [])
given_none e no_more = (refl, refl)
given_none e (operand p a) = absurd (cc (e))
given_none e (bound_apart w h a) = absurd (cc (e))
given_none e (bound_joined w h a) = absurd (cc (e))
given_none e (only_operands w h) = absurd (cc (e))

only_read : (read others operands : List (List ℕ)) → others ≡ [] → AreMeant read others operands → operands ≡ read
only_read read others operands e o = o.all ∙ ap (λ ws. read ++ ws) e ∙ append-nil read

-- only one call is formed
pub one_at_end : (next : Next) (read : List (List ℕ)) (bound : Option ℕ) → (operands : List (List ℕ)) (given : Option ℕ) → CompletesNext next read bound [] operands given
    → (operands ≡ read) × (given ≡ bound)
one_at_end Any read bound operands given g =
    (only_read read g.others operands (given_none refl g.arguments).1 g.all, meant_none bound given (rw ((given_none refl g.arguments).0) at g.meant))
one_at_end Value read bound operands given g = absurd (cc (g.split))
one_at_end Operand read bound operands given g = (only_read read [] operands refl g.all, meant_none bound given g.meant)

-- ---- the words from a place on

pub words_from : {A : Type 0} (f : A → List ℕ) (items : List A) (i : ℕ) (item : A) (now : List ℕ) → i < length items → item ≡ get_or items i item → now ≡ f item
    → map f (drop i items) ≡ now ∷ map f (drop (i + 1) items)
words_from f items i item now l e n = rw (add-one, drop-cons items i item, ← e, n) refl

pub words_end : {A : Type 0} (f : A → List ℕ) (items : List A) (i : ℕ) → length items ≤ i → map f (drop i items) ≡ []
words_end f items i l = rw (drop_all i items l) refl

-- ---- what a call asks of its words

few_operands : (asked : Asked) (name : List ℕ) (operands : List (List ℕ)) (given : Option ℕ) → StandsFor name operands given asked → length operands ≤ 2
few_operands (Does task file) name operands given h = let one = ap (λ ws. length ws) h.0 in omega (arith, one)
few_operands (Audits file trace) name operands given h = let two = ap (λ ws. length ws) h.0 in omega (arith, two)
few_operands (Loads turns steps) name operands given h = let one = ap (λ ws. length ws) h.1.one in omega (arith, one)

-- of those after its command
pub arguments_of : (words others : List (List ℕ)) (name : List ℕ) (asked : Asked) (r : IsCall words asked) → words ≡ name ∷ others →
    CompletesAny [] None others r.operands r.given
arguments_of words others name asked r e =
    let same : r.command.rest ≡ others = cc (r.command.form, e) in
    record { others = r.operands; more = r.given; arguments = rw same at r.command.arguments; all = record { all = refl; few = few_operands asked r.name r.operands r.given r.stands }; meant = refl }

-- and of its command, which has this text, with the operands and the bound that are given
pub stands_of : (words others : List (List ℕ)) (name : List ℕ) (asked : Asked) (r : IsCall words asked) → words ≡ name ∷ others →
    (text : List ℕ) (operands : List (List ℕ)) (given : Option ℕ) → text ≡ name → r.operands ≡ operands → r.given ≡ given → StandsFor text operands given asked
stands_of words others name asked r e text operands given t o g =
    let same : r.name ≡ text = cc (r.command.form, e, t) in
    subst (λ (b : Option ℕ). StandsFor text operands b asked) g
    (subst (λ (ws : List (List ℕ)). StandsFor text ws r.given asked) o (subst (λ (n : List ℕ). StandsFor n r.operands r.given asked) same r.stands))

pub call_is : (words others : List (List ℕ)) (name : List ℕ) (asked : Asked) (operands : List (List ℕ)) (given : Option ℕ) → CompletesAny [] None others operands given → words ≡ name ∷ others →
    StandsFor name operands given asked → IsCall words asked
call_is words others name asked operands given g e h = record {
  name = name;
  operands = g.others;
  given = g.more;
  command = record { rest = others; form = e; arguments = g.arguments };
  stands = subst (λ (b : Option ℕ). StandsFor name g.others b asked) g.meant (subst (λ (ws : List (List ℕ)). StandsFor name ws given asked) g.all.all h);
}

-- ---- the operands of a scan

pub few_texts : (operands : Operands) → length (texts_of operands) ≤ 2
few_texts Zero = omega arith
few_texts (One first) = omega arith
few_texts (Two first second) = omega arith

pub next_is : (next other : Next) (read : List (List ℕ)) (bound : Option ℕ) (words operands : List (List ℕ)) (given : Option ℕ) → next ≡ other → CompletesNext next read bound words operands given
    → CompletesNext other read bound words operands given
next_is next other read bound words operands given e h = subst (λ (n : Next). CompletesNext n read bound words operands given) e h
