use Rattle.std.proofs.Common.{ℕ, Option, sym, subst, inl, inr}
use Rattle.section_check.specs.Least.{IsLeast}
use Rattle.node_costs.specs.Costs.{bounds_of}
use Rattle.bound_rules.specs.Sections.{LacksBound}
use Rattle.cert_checker.specs.Prepared.{IsUnflagged}
use Rattle.cert_checker.specs.Section.{IsWrongBeside}
use Rattle.section_check.proofs.LeastLemmas.{least_either}
use Rattle.cert_checker.proofs.section.wrong_beside.Goals as goal

pub returns : goal.returns
returns c =
    let s = c.args.s.now in
    let B = bounds_of c.args.task.now.flow c.args.task.now.bounds in
    let flags = c.args.nodes.now in
    let W : ℕ → Type 0 = λ u. IsWrongBeside B s flags u in
    let P : Option ℕ → Type 0 = λ o. IsLeast W o in
    subst P (sym c.lesser.ensures)
    (least_either (IsUnflagged s.section flags) (LacksBound B s) W c.unflagged.result c.unbounded.result (λ u x. inl x) (λ u x. inr x) (λ u x. x) c.unflagged.ensures c.unbounded.ensures)
