use Rattle.std.proofs.Common.{[], ◌∷◌, refl, rules, subst}
use Rattle.order_words.specs.inner.Counting.{GoesOn}
use Rattle.order_words.proofs.numbers.are_numbers.Goals as goal

pub returns-in-Some-Last-clause-yes : goal.returns-in-Some-Last-clause-yes
returns-in-Some-Last-clause-yes c =
    let goes = subst (GoesOn c.looking.rest.now) c.in-Some-Last.field-0-is c.in-Some-Last.ensures.some in
    λ _. c.looking.invariant.yes (record { numbers = c.in-Some-Last.field-0-0 ∷ []; are = (goes (c.in-Some-Last.field-0-0 ∷ [])).1 refl })

pub looking-preserved : goal.looking-preserved
looking-preserved c =
    let goes = subst (GoesOn c.looking.rest.now) c.in-Some-More.field-0-is c.in-Some-More.ensures.some in
    let n = c.in-Some-More.field-0-0 in
    record {
      utf8 = search rules;
      yes = λ o. c.looking.invariant.yes (record { numbers = n ∷ o.numbers; are = (goes.1 (n ∷ o.numbers)).1 (record { rest = o.numbers; form = refl; are = o.are }) });
      no = λ numbers w. let o = c.looking.invariant.no numbers w in let j = (goes.1 o.numbers).0 o.are in record { numbers = j.rest; are = j.are };
    }
