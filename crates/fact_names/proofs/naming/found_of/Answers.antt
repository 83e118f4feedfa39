use Rattle.std.proofs.Common.{◌≡◌, ℕ, ◌+◌, ◌<◌, List, ◌++◌, length, take, drop, Option, sym, ap, ◌∙◌, subst, arith}
use Rattle.fact_names.specs.declared.naming.Found.{Found}
use Rattle.fact_names.specs.Found.{AreFoundIn}
use Rattle.fact_names.proofs.Meaning.{next_below, whole}
use Rattle.fact_names.proofs.naming.found_of.Goals as goal

pub loop-method-preserved : goal.loop-method-preserved
loop-method-preserved c =
    let f = c.args.f.now in
    let lines = c.args.lines.now in
    let m = c.loop-method.method in
    let old = c.loop-method.found.items in
    let new' = c.look_in.new.found in
    let long = c.look_in.ensures.long in
    let before = c.loop-method.invariant.1 in
    let ok = c.loop-method.found.ok in
    let is : take c.loop-method.found.len (new' ++ drop (length new') old) ≡ new' = whole c.loop-method.found.len new' old (omega arith) (omega (arith, ok.0)) in
    let lt = c.loop-method-test.true in
    let count = c.method_count-method-end.ensures.count in
    let below : m < length f.methods = omega arith in (
      subst (λ (xs : List (Option Found)). AreFoundIn f lines (m + 1) xs) (sym is) (next_below f lines m c.deref_mut.result.now new' below c.in_ok-look_in.ensures.looked_at (subst (λ (xs : List (Option Found)). AreFoundIn f lines m xs) (sym c.deref_mut.ensures.value) c.loop-method.invariant.0)),
      ap (λ (xs : List (Option Found)). length xs) is ∙ long,
    )

pub returns-clause-found : goal.returns-clause-found
returns-clause-found c =
    let end = c.loop-method-test.false in
    let top = c.loop-method.auto.method-end in
    let count = c.method_count-method-end.ensures.count in
    let last : c.loop-method.method ≡ length c.args.f.now.methods = omega arith in
    subst (λ (n : ℕ). AreFoundIn c.args.f.now c.args.lines.now n c.loop-method.found.items) last c.loop-method.invariant.0
