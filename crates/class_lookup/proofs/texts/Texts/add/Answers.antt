use Rattle.std.proofs.Common.{◌≡◌, ◌∷◌, [], ◌++◌, Some, Vec, Global, ℕ, List, length, length-append, map, sym, ap, ◌∙◌, subst, arith}
use Rattle.std.specs.Prelude.{if◌then◌else◌}
use Rattle.class_lookup.specs.Parts.{same_text}
use Rattle.class_lookup.specs.Numbered.{number_in, number_of, AreNumbered, HasNumbers}
use Rattle.class_lookup.proofs.Numbering.{keys_more, long_keys, numbered_more, put_new, with_old, with_new, new_number, there_below, none_above}
use Rattle.class_lookup.proofs.texts.Texts.add.Goals as goal

pub invariant_of-self-in_err-number : goal.invariant_of-self-in_err-number
invariant_of-self-in_err-number c =
    let same : map (λ (v : Vec ℕ Global). v.items) c.reserve.new.self.items ≡ map (λ v. v.items) c.self.inside.texts.items = ap (map (λ (v : Vec ℕ Global). v.items)) c.reserve.ensures.items in
    let long = ap length c.reserve.ensures.items in
    let few = c.self.invariant.0 in (
      omega (arith, long, few),
      subst AreNumbered (sym same) c.self.invariant.1,
      λ t. c.in_err-number.ensures.kept t ∙ (c.self.invariant.2 t ∙ ap (λ xs. number_in xs t) (sym same)),
    )

pub returns-then-number-next-clause-texts : goal.returns-then-number-next-clause-texts
returns-then-number-next-clause-texts c =
    let text = c.args.by_number.items in
    let n = c.in_ok-number.number in
    let there = there_below (map (λ v. v.items) c.self.inside.texts.items) c.self.inside.numbers text c.args.in_order.items n c.args.next c.self.invariant.2 c.requires.same c.in_ok-number.ensures.found c.if-number-next.true in
    ap (map (λ (v : Vec ℕ Global). v.items)) c.reserve.ensures.items ∙ (c.self.view_is ∙ sym (with_old c.args.self.now text n (ap (λ xs. number_in xs text) (sym c.self.view_is) ∙ there)))

pub invariant_of-self-2 : goal.invariant_of-self-2
invariant_of-self-2 c =
    let old = map (λ v. v.items) c.self.inside.texts.items in
    let text = c.args.by_number.items in
    let n = c.in_ok-number.number in
    let next : c.args.next ≡ length old = c.requires.next ∙ ap length (sym c.self.view_is) in
    let new = none_above old c.self.inside.numbers text c.args.in_order.items n c.args.next c.self.invariant.2 c.requires.same c.in_ok-number.ensures.found next c.if-number-next.false in
    let put = keys_more c.self.inside.texts.items c.push_reserved.new.self.items c.args.by_number (c.push_reserved.ensures.items ∙ ap (λ (xs : List (Vec ℕ Global)). xs ++ c.args.by_number ∷ []) c.reserve.ensures.items) in
    let long = sym (long_keys c.push_reserved.new.self.items) ∙ (ap length put ∙ length-append old (text ∷ [])) in
    let few = c.requires.few in (
      omega (arith, long, next, few),
      subst AreNumbered (sym put) (numbered_more old text c.self.invariant.1 new.0),
      subst (λ xs. HasNumbers xs c.number_or.new.numbers) (sym put)
          (put_new old c.self.inside.numbers c.number_or.new.numbers text n
          (subst (λ t. (u : List ℕ) → number_of c.number_or.new.numbers u ≡ (if same_text u t then Some n else number_of c.self.inside.numbers u)) (sym c.requires.same) c.in_ok-number.ensures.written)
          new.1 new.0 c.self.invariant.2),
    )

pub returns-clause-texts : goal.returns-clause-texts
returns-clause-texts c =
    let old = map (λ v. v.items) c.self.inside.texts.items in
    let text = c.args.by_number.items in
    let next : c.args.next ≡ length old = c.requires.next ∙ ap length (sym c.self.view_is) in
    let new = none_above old c.self.inside.numbers text c.args.in_order.items c.in_ok-number.number c.args.next c.self.invariant.2 c.requires.same c.in_ok-number.ensures.found next c.if-number-next.false in
    let put = keys_more c.self.inside.texts.items c.push_reserved.new.self.items c.args.by_number (c.push_reserved.ensures.items ∙ ap (λ (xs : List (Vec ℕ Global)). xs ++ c.args.by_number ∷ []) c.reserve.ensures.items) in
    put ∙ (ap (λ (xs : List (List ℕ)). xs ++ text ∷ []) c.self.view_is ∙ sym (with_new c.args.self.now text (ap (λ xs. number_in xs text) (sym c.self.view_is) ∙ new.0)))

pub returns-clause-number : goal.returns-clause-number
returns-clause-number c =
    let old = map (λ v. v.items) c.self.inside.texts.items in
    let text = c.args.by_number.items in
    let next : c.args.next ≡ length old = c.requires.next ∙ ap length (sym c.self.view_is) in
    let new = none_above old c.self.inside.numbers text c.args.in_order.items c.in_ok-number.number c.args.next c.self.invariant.2 c.requires.same c.in_ok-number.ensures.found next c.if-number-next.false in
    let put = keys_more c.self.inside.texts.items c.push_reserved.new.self.items c.args.by_number (c.push_reserved.ensures.items ∙ ap (λ (xs : List (Vec ℕ Global)). xs ++ c.args.by_number ∷ []) c.reserve.ensures.items) in
    ap (λ xs. number_in xs text) put ∙ (new_number old text new.0 ∙ ap Some (sym new.1))
