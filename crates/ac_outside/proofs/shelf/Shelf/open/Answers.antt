use Rattle.std.proofs.Common.{◌≡◌, None, Some, position, refl, ap}
use Rattle.std.specs.Str.{bytes_eq}
use Rattle.ac_outside.proofs.Finding.{text_of-none, text_of-some}
use Rattle.ac_outside.proofs.shelf.Shelf.open.Goals as goal

pub returns-in_default-clause-held : goal.returns-in_default-clause-held
returns-in_default-clause-held c =
    let texts : c.self.inside.texts ≡ c.args.self.now.texts = ap (λ v. v.texts) c.self.view_is in
    let none : position (λ text. bytes_eq text.name c.args.name.now) c.args.self.now.texts ≡ None = cc in
    rw (text_of-none _ _ none) refl

pub returns-clause-held : goal.returns-clause-held
returns-clause-held c =
    let texts : c.self.inside.texts ≡ c.args.self.now.texts = ap (λ v. v.texts) c.self.view_is in
    let some : position (λ text. bytes_eq text.name c.args.name.now) c.args.self.now.texts ≡ Some c.in-Some.place = cc in
    rw (text_of-some _ _ _ some) refl

pub returns-clause-after : goal.returns-clause-after
returns-clause-after c =
    let texts : c.self.inside.texts ≡ c.args.self.now.texts = ap (λ v. v.texts) c.self.view_is in
    let some : position (λ text. bytes_eq text.name c.args.name.now) c.args.self.now.texts ≡ Some c.in-Some.place = cc in
    rw (text_of-some _ _ _ some, texts) refl
