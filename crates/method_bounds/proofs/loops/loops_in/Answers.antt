use Rattle.std.proofs.Common.{ℕ, Option, subst}
use Rattle.node_costs.specs.Costs.{bounds_of}
use Rattle.bound_rules.specs.declared.faults.BoundRefusal.{BoundRefusal}
use Rattle.bound_causes.specs.Causes.{IsUnboundedIn, IsIrreducibleBy}
use Rattle.method_bounds.proofs.loops.loops_in.Goals as goal

pub returns-in-Ok-None : goal.returns-in-Ok-None
returns-in-Ok-None c = λ P is.
    let U : Option ℕ → Type 0 = λ place. IsUnboundedIn P (bounds_of c.args.f.now c.args.b.now) c.args.m place in
    subst U c.in-Ok-None.field-0-is (c.in-Ok-None.ensures.ok P is)

pub returns-in-Ok-Some : goal.returns-in-Ok-Some
returns-in-Ok-Some c = λ P is.
    let U : Option ℕ → Type 0 = λ place. IsUnboundedIn P (bounds_of c.args.f.now c.args.b.now) c.args.m place in
    subst U c.in-Ok-Some.field-0-is (c.in-Ok-Some.ensures.ok P is)

pub returns-in-Err-Irreducible : goal.returns-in-Err-Irreducible
returns-in-Err-Irreducible c = λ P is.
    let B : BoundRefusal → Type 0 = λ e. IsIrreducibleBy P c.args.m e in
    let found = subst B c.in-Err-Irreducible.field-0-is (c.in-Err-Irreducible.ensures.cause P is) in
    (c.in-Err-Irreducible.field-0-1.items, found.1, found.2)
