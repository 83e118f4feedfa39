use Rattle.std.proofs.Common.{ℕ, ◌<◌, List, length, sym, subst, inl, inr, arith, rules, IfErr}
use Rattle.std.proofs.lemmas.Bool.{cases_lt}
use Rattle.call_regions.specs.Regions.{AreKnown}
use Rattle.call_regions.specs.Calling.{IsTargetsFirst}
use Rattle.call_regions.specs.Walking.{IsRingCause}
use Rattle.call_regions.proofs.Sorting.{if_err}
use Rattle.call_regions.proofs.Ordering.{table_order, lone_order, known_order, call_cause}
use Rattle.call_regions.proofs.targets_first.order.Goals as goal

pub returns-clause-order : goal.returns-clause-order
returns-clause-order c = λ P flow.
    let f = c.args.f.now in
    let root = c.args.root in
    let calls = c.runs_are_calls.ensures in
    let T : List ℕ → Type 0 = λ xs. IsTargetsFirst P root xs in
    subst T (sym c.new.ensures)
    (elim (cases_lt root (length f.methods)) [
      | inl lt ↦ table_order P f flow calls root c.in_ok-methods.methods.items (c.in_ok-methods.ensures.inside lt)
      | inr past ↦
          let none : root < length f.methods → ⊥ = λ lt. omega arith in
          subst T (sym (c.in_ok-methods.ensures.outside none)) (lone_order P f flow calls root none)
    ])

pub returns-clause-known : goal.returns-clause-known
returns-clause-known c = λ lt.
    let f = c.args.f.now in
    let K : List ℕ → Type 0 = λ xs. AreKnown f xs in
    subst K (sym c.new.ensures) (known_order f c.args.root c.in_ok-methods.methods.items (c.in_ok-methods.ensures.inside lt))

pub returns-in_err-methods-clause-cause : goal.returns-in_err-methods-clause-cause
returns-in_err-methods-clause-cause c =
    let f = c.args.f.now in
    let root = c.args.root in
    let cause : IfErr c.from_residual.result (IsRingCause f root) = search rules in
    if_err c.from_residual.result (IsRingCause f root) _ (λ e is P flow. call_cause P f flow c.runs_are_calls.ensures root e is) cause
