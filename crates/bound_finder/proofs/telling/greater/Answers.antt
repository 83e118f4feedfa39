use Rattle.std.proofs.Common.{Bool, ℕ, Option, Some, sym, ap, ap₂, ◌∙◌}
use Rattle.std.specs.Prelude.{if◌then◌else◌}
use Rattle.std.proofs.lemmas.Bool.{lt-ltb, le-ltb}
use Rattle.bound_rules.specs.Costs.{greater}
use Rattle.bound_finder.proofs.telling.greater.Goals as goal

pub returns-then-m-n : goal.returns-then-m-n
returns-then-m-n c =
    let m = c.in-Some-Some.m in
    let n = c.in-Some-Some.n in
    sym (ap₂ greater c.in-Some-Some.is-0 c.in-Some-Some.is-1 ∙ ap (λ (b : Bool). Some (if b then n else m)) (lt-ltb m n c.if-m-n.true))

pub returns-else-m-n : goal.returns-else-m-n
returns-else-m-n c =
    let m = c.in-Some-Some.m in
    let n = c.in-Some-Some.n in
    sym (ap₂ greater c.in-Some-Some.is-0 c.in-Some-Some.is-1 ∙ ap (λ (b : Bool). Some (if b then n else m)) (le-ltb m n c.if-m-n.false))

pub returns-in-Some-None : goal.returns-in-Some-None
returns-in-Some-None c = sym (ap₂ greater c.in-Some-None.is-0 c.in-Some-None.is-1)

pub returns-in-None-default : goal.returns-in-None-default
returns-in-None-default c = sym (ap (λ (a : Option ℕ). greater a c.args.b) c.in-None-default.is-0)
