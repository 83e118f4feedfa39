use Rattle.std.proofs.Common.{◌≡◌, ℕ, refl, sym, ap, ◌∙◌}
use Rattle.lists.proofs.Lemmas.{some_same}
use Rattle.bytecode_verifier.proofs.CheckedLemmas.{has_this_code, is_method}
use Rattle.bytecode_verifier.proofs.methods.checking_of.Goals as goal

pub returns-clause-there : goal.returns-clause-there
returns-clause-there c = has_this_code c.methods_stand_by_number.ensures _ c.args.number c.args.code.now c.requires.code c.as_slice.ensures

pub returns-clause-method : goal.returns-clause-method
returns-clause-method c = λ h given t classes same alike.
    let n = c.args.number in
    let k = c.args.code.now in
    let place : (c.class.inside.class, c.class.inside.index) ≡ h.place = c.class.view_is ∙ some_same c.method.result h.place (sym c.method.ensures ∙ h.by_number) in
    is_method c.methods_stand_by_number.ensures _ n k h c.shape-shape.result.now (record {
      classes = c.hierarchy.ensures;
      owner = ap (λ (p : ℕ × ℕ). p.0) place;
      init = refl;
      stands = refl;
      locals = refl;
      stack = refl;
      code = c.as_slice.ensures;
      handlers = alike;
      shape = c.shape-shape.ensures;
      result = refl;
    }) given t classes same
