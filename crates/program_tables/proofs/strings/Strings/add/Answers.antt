use Rattle.std.proofs.Common.{◌≡◌, ◌∷◌, [], ◌++◌, None, Vec, Global, ℕ, List, length, length-append, map, sym, ap, ◌∙◌, subst, arith}
use Rattle.class_lookup.specs.Numbered.{number_in, HasNumbers}
use Rattle.class_lookup.proofs.Numbering.{keys_more, long_keys, put_more}
use Rattle.program_tables.proofs.strings.Strings.add.Goals as goal

pub invariant_of-self-2 : goal.invariant_of-self-2
invariant_of-self-2 c =
    let old = map (λ v. v.items) c.self.inside.texts.items in
    let text = c.args.by_number.items in
    let none : number_in old text ≡ None = ap (λ xs. number_in xs text) c.self.view_is ∙ c.requires.new in
    let place : c.args.number ≡ length old = c.requires.number ∙ ap length (sym c.self.view_is) in
    let put = keys_more c.self.inside.texts.items c.push_reserved.new.self.items c.args.by_number (c.push_reserved.ensures.items ∙ ap (λ (xs : List (Vec ℕ Global)). xs ++ c.args.by_number ∷ []) c.reserve.ensures.items) in
    let long = sym (long_keys c.push_reserved.new.self.items) ∙ (ap length put ∙ length-append old (text ∷ [])) in
    let few = c.requires.few in (
      omega (arith, long, place, few),
      subst (λ xs. HasNumbers xs c.insert.new.self) (sym put)
          (put_more old c.self.inside.numbers c.insert.new.self c.args.in_order c.args.number text c.in_ok-insert.ensures.updates (sym c.requires.same) place none c.self.invariant.1),
    )
