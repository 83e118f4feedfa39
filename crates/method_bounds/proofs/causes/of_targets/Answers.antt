use Rattle.std.proofs.Common.{ℕ, ◌<◌, List, [], ◌∷◌, ◌++◌, length, take, take_all, get_or, sym, ap, ◌∙◌, subst}
use Rattle.std.proofs.lemmas.List.{take_more, get_or_default}
use Rattle.std.proofs.lemmas.List.Elements.{Contains-get_or}
use Rattle.method_bounds.specs.declared.causes.Leasts.{Leasts}
use Rattle.method_bounds.specs.Leasts.{AreLeasts, IsBelow, lesser_leasts, no_leasts}
use Rattle.method_bounds.proofs.Leasts.{below_more}
use Rattle.method_bounds.proofs.causes.of_targets.Goals as goal

pub loop-t-preserved : goal.loop-t-preserved
loop-t-preserved c = λ loops P known.
    let targets = c.args.targets.now in
    let methods = c.args.methods.now in
    let i = c.loop-t.t-index in
    let lt = c.loop-t-test.true in
    let t = get_or targets i 0 in
    let below : t < length methods = c.requires i 0 lt in
    let B : List ℕ → Type 0 = λ ts. AreLeasts loops (IsBelow P ts) c.lesser-leasts.result in
    let X : Leasts → Type 0 = λ x. AreLeasts loops (IsBelow P (take i targets ++ t ∷ [])) x in
    let same = c.lesser-leasts.ensures ∙ ap (λ (x : Leasts). lesser_leasts c.loop-t.leasts x) (get_or_default methods t _ no_leasts below) in
    subst B (sym (take_more targets i 0 lt))
    (subst X (sym same) (below_more loops P (take i targets) t c.loop-t.leasts (get_or methods t no_leasts) (c.loop-t.invariant loops P known) (known t (Contains-get_or targets i 0 lt))))

pub returns : goal.returns
returns c = λ loops P known.
    let B : List ℕ → Type 0 = λ ts. AreLeasts loops (IsBelow P ts) c.loop-t.leasts in
    subst B (take_all c.loop-t.t-index c.args.targets.now c.loop-t-test.false) (c.loop-t.invariant loops P known)
