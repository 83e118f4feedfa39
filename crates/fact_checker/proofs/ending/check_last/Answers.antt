use Rattle.std.proofs.Common.{◌<◌, ◌^◌, inr, rules}
use Rattle.std.specs.Prelude.{IfSome}
use Rattle.std.proofs.lemmas.Bool.{both_ways}
use Rattle.cert_checker.proofs.LastLine.{root_said}
use Rattle.fact_rules.specs.Pricing.{root_due}
use Rattle.fact_checker.specs.Known.{pricing}
use Rattle.fact_checker.proofs.Line.{line_at}
use Rattle.fact_checker.proofs.ending.check_last.Goals as goal

pub returns-in_default-clause-fails : goal.returns-in_default-clause-fails
returns-in_default-clause-fails c =
    λ P of. (
      c.root-root.ensures,
      inr
          (root_said c.args.task.now c.args.values.now.valued c.root-root.result c.args.known.now.certificate.plain.root c.method_count.result c.flow.result.now c.full.result _ c.flow.ensures.form c.root-root.ensures
          c.flow.ensures.flow c.method_count.ensures.count c.if-root-method_count.false c.full.ensures.said c.in_default.is P of),
    )

pub returns-then-is_line-clause-met : goal.returns-then-is_line-clause-met
returns-then-is_line-clause-met c =
    λ P of.
    let said =
    root_said c.args.task.now c.args.values.now.valued c.root-root.result c.args.known.now.certificate.plain.root c.method_count.result c.flow.result.now c.full.result _ c.flow.ensures.form c.root-root.ensures
    c.flow.ensures.flow c.method_count.ensures.count c.if-root-method_count.false c.full.ensures.said c.in-Some.is P of
    in
    let q = pricing c.args.known.now in
    let small : IfSome c.bound.result (λ b. b < 2 ^ 64) = search rules in
    let line = line_at P c.args.task.now.timing c.root-root.result q.root c.root_due.result (root_due q) c.around.result c.in-Some.full c.bound.result c.args.known.now.certificate.plain.bound c.root-root.ensures
    c.root_due.ensures.value c.bound.ensures (c.around.ensures.around P of) small
    in
    record { coded = said.0; full = c.in-Some.full; says = said.1; right = line.0 (c.is_line.ensures.0 c.if-is_line.true) }

pub returns-else-is_line-clause-fails : goal.returns-else-is_line-clause-fails
returns-else-is_line-clause-fails c =
    λ P of.
    let said =
    root_said c.args.task.now c.args.values.now.valued c.root-root.result c.args.known.now.certificate.plain.root c.method_count.result c.flow.result.now c.full.result _ c.flow.ensures.form c.root-root.ensures
    c.flow.ensures.flow c.method_count.ensures.count c.if-root-method_count.false c.full.ensures.said c.in-Some.is P of
    in
    let q = pricing c.args.known.now in
    let small : IfSome c.bound.result (λ b. b < 2 ^ 64) = search rules in
    let line = line_at P c.args.task.now.timing c.root-root.result q.root c.root_due.result (root_due q) c.around.result c.in-Some.full c.bound.result c.args.known.now.certificate.plain.bound c.root-root.ensures
    c.root_due.ensures.value c.bound.ensures (c.around.ensures.around P of) small
    in (
      c.root-root.ensures,
      record { coded = said.0; full = c.in-Some.full; says = said.1; wrong = λ right. both_ways c.is_line.result c.if-is_line.false (c.is_line.ensures.1 (line.1 right)) },
    )
