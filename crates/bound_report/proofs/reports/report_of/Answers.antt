use Rattle.std.proofs.Common.{ℕ, List, length, All, Some, sym, ap, ◌∙◌, subst}
use Rattle.bound_finder.specs.declared.known.Known.{Known}
use Rattle.bound_finder.specs.Known.{bounds_in, known_at, ForEach, IsLimited}
use Rattle.method_flow.specs.Costs.{IsPrintedOf}
use Rattle.bound_finder.specs.declared.ending.MethodBound.TheVariants.{Printed}
use Rattle.bound_finder.specs.Ending.{AreKnownWithin, IsMethodBound}
use Rattle.bound_report.specs.Settled.{IsSettled}
use Rattle.bound_finder.proofs.Certifying.{want_is_cause}
use Rattle.bound_report.proofs.Ending.{known, settled}
use Rattle.bound_report.proofs.reports.report_of.Goals as goal

pub method_bound-requires-clause-known : goal.method_bound-requires-clause-known
method_bound-requires-clause-known c =
    let set = c.args.task.now in
    let a = c.args.found.now in
    let K : List Known → Type 0 = λ tb. ForEach set (λ P. AreKnownWithin P set.timing (bounds_in set) tb a.least c.args.root) in
    subst K (sym c.deref.ensures.value) (known set c.args.root c.args.order.now a c.requires.root c.requires.found)

pub parts_of-requires : goal.parts_of-requires
parts_of-requires c =
    let set = c.args.task.now in
    let a = c.args.found.now in
    let root = c.args.root in
    let same = c.deref-in-Printed-Some.ensures.value in
    let by = rw c.in-Printed-Some.field-0-is at c.in-Printed-Some.ensures.printed in
    let L : List Known → Type 0 = λ tb. All IsLimited tb in
    let S : List Known → Type 0 = λ tb. ForEach set (λ P. IsSettled P set.timing (bounds_in set) root c.args.order.now tb) in
    let K : List Known → Type 0 = λ tb. ForEach set (λ P. IsPrintedOf P set.timing (known_at tb root).full (Some c.in-Printed-Some.bound)) in
    record {
      root = c.requires.root;
      known = c.requires.known;
      long = ap length same ∙ c.requires.found.found.long;
      limited = subst L (sym same) c.requires.found.found.limited;
      distinct = c.requires.found.distinct;
      settled = subst S (sym same) (settled set root c.args.order.now a c.requires.root c.requires.found by.0);
      printed = subst K (c.deref.ensures.value ∙ sym same) by.1.printed;
    }

pub returns-in-Err-clause-cause : goal.returns-in-Err-clause-cause
returns-in-Err-clause-cause c = λ P of. want_is_cause P c.args.task.now.timing (bounds_in c.args.task.now) c.args.root _ (c.in-Err.ensures.cause P of)

pub returns-in-Printed-None-clause-never : goal.returns-in-Printed-None-clause-never
returns-in-Printed-None-clause-never c = rw c.in-Printed-None.field-0-is at c.in-Printed-None.ensures.bound

pub returns-in-Ok-clause-printed : goal.returns-in-Ok-clause-printed
returns-in-Ok-clause-printed c =
    let set = c.args.task.now in
    let B : ℕ → Type 0 = λ n. ForEach set (λ P. IsMethodBound P set.timing (bounds_in set) c.args.root (Printed (Some n))) in
    subst B (sym c.in-Ok.ensures.bound) (rw c.in-Printed-Some.field-0-is at c.in-Printed-Some.ensures.bound)
