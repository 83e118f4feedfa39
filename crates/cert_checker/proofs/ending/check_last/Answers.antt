use Rattle.std.proofs.Common.{Option, ℕ, inr, sym, subst}
use Rattle.std.proofs.lemmas.Bool.{both_ways}
use Rattle.bound_rules.specs.Conditions.{IsRight}
use Rattle.cert_checker.proofs.LastLine.{root_said}
use Rattle.cert_checker.proofs.ending.check_last.Goals as goal

pub returns-in_default-clause-fails : goal.returns-in_default-clause-fails
returns-in_default-clause-fails c =
    λ P of. (
      c.root-root.ensures,
      inr
          (root_said c.args.task.now c.args.values.now.valued c.root-root.result c.args.c.now.root c.method_count.result c.flow.result.now c.full.result _ c.flow.ensures.form c.root-root.ensures c.flow.ensures.flow
          c.method_count.ensures.count c.if-root-method_count.false c.full.ensures.said c.in_default.is P of),
    )

pub returns-then-is_right-clause-met : goal.returns-then-is_right-clause-met
returns-then-is_right-clause-met c =
    λ P of.
    let said =
    root_said c.args.task.now c.args.values.now.valued c.root-root.result c.args.c.now.root c.method_count.result c.flow.result.now c.full.result _ c.flow.ensures.form c.root-root.ensures c.flow.ensures.flow c.method_count.ensures.count
    c.if-root-method_count.false c.full.ensures.said c.in-Some.is P of
    in
    let R : Option ℕ → Type 0 = λ b. IsRight P c.args.task.now.timing c.in-Some.full b in
    record { coded = said.0; full = c.in-Some.full; says = said.1; right = subst R c.bound.ensures ((c.is_right.ensures P of).0 c.if-is_right.true) }

pub returns-else-is_right-clause-fails : goal.returns-else-is_right-clause-fails
returns-else-is_right-clause-fails c =
    λ P of.
    let said =
    root_said c.args.task.now c.args.values.now.valued c.root-root.result c.args.c.now.root c.method_count.result c.flow.result.now c.full.result _ c.flow.ensures.form c.root-root.ensures c.flow.ensures.flow c.method_count.ensures.count
    c.if-root-method_count.false c.full.ensures.said c.in-Some.is P of
    in
    let R : Option ℕ → Type 0 = λ b. IsRight P c.args.task.now.timing c.in-Some.full b in (
      c.root-root.ensures,
      record { coded = said.0; full = c.in-Some.full; says = said.1; wrong = λ right. both_ways c.is_right.result c.if-is_right.false ((c.is_right.ensures P of).1 (subst R (sym c.bound.ensures) right)) },
    )
