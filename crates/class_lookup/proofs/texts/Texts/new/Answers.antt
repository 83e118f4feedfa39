use Rattle.std.proofs.Common.{◌∷◌, [], ◌++◌, Vec, Global, ℕ, List, length, sym, ap, ◌∙◌, subst, arith}
use Rattle.class_lookup.specs.Numbered.{AreNumbered, HasNumbers}
use Rattle.class_lookup.proofs.Numbering.{keys_more, long_keys, numbered_first, put_first}
use Rattle.class_lookup.proofs.texts.Texts.new.Goals as goal

pub invariant_of-result : goal.invariant_of-result
invariant_of-result c =
    let put = keys_more [] c.push.new.self.items c.new.result (c.in_ok-push.ensures.items ∙ ap (λ (xs : List (Vec ℕ Global)). xs ++ c.new.result ∷ []) c.new-texts.ensures.items) ∙ ap (λ (t : List ℕ). t ∷ []) c.new.ensures.items in
    let long = sym (long_keys c.push.new.self.items) ∙ ap length put in (
      omega (arith, long),
      subst AreNumbered (sym put) numbered_first,
      subst (λ xs. HasNumbers xs c.insert.new.self) (sym put) (put_first c.new-numbers.result c.insert.new.self c.new-2.result c.new-numbers.ensures.empty c.in_ok-insert.ensures.updates c.new-2.ensures.items),
    )
