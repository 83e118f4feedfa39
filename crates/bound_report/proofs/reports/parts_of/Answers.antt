use Rattle.std.proofs.Common.{◌≡◌, ◌+◌, ◌<◌, ◌^◌, List, length, sum_by, refl, sym, ap, ◌∙◌, subst, arith}
use Rattle.method_flow.specs.Costs.{params}
use Rattle.method_flow.specs.Flow.{Flow, IsFlowOf}
use Rattle.method_flow.specs.Regions.{IsGreatestLoad}
use Rattle.method_flow.specs.declared.timing.Timing.{Timing}
use Rattle.micro_flow.specs.Costs.{IsGreatestInvoke}
use Rattle.bound_finder.specs.Known.{bounds_in, known_at}
use Rattle.bound_finder.proofs.Told.{known_read}
use Rattle.bound_report.specs.declared.counts.MethodCounts.{MethodCounts}
use Rattle.bound_report.specs.Callees.{more_of}
use Rattle.bound_report.specs.Report.{rows_of, loads_in}
use Rattle.bound_report.specs.Rows.{AreSmallParts}
use Rattle.bound_report.proofs.Reporting.{all_settled, small_parts, loads_small, report_is}
use Rattle.bound_report.proofs.reports.parts_of.Goals as goal

pub counts_of_all-requires-clause-settled : goal.counts_of_all-requires-clause-settled
counts_of_all-requires-clause-settled c = λ P of.
    let set = c.args.task.now in
    all_settled P set.timing (bounds_in set) c.args.root c.args.order.now c.args.table.now c.requires.distinct c.requires.limited (c.requires.settled P of) c.args.bound (c.requires.printed P of)

pub returns-clause-report : goal.returns-clause-report
returns-clause-report c = λ P of.
    let set = c.args.task.now in
    let table = c.args.table.now in
    let root = c.args.root in
    let order = c.args.order.now in
    let ks = c.in_ok-counts.counts.items in
    let all = c.in_ok-counts.ensures.counts P of in
    let small = small_parts P set.timing (bounds_in set) root order table c.requires.distinct c.requires.limited (c.requires.settled P of) c.args.bound (c.requires.printed P of) ks all in
    let few = loads_small P set.timing (bounds_in set) root order table c.requires.distinct c.requires.limited (c.requires.settled P of) c.args.bound (c.requires.printed P of) ks all in
    let R : List MethodCounts → Type 0 = λ js. AreSmallParts js → c.in-Ok.rows.items ≡ rows_of js in
    let rows = subst R c.deref.ensures.value c.in-Ok.ensures small in
    let inside = c.requires.root in
    let long = c.requires.long in
    let below : root < length table = omega arith in
    let more : c.more_of.result ≡ more_of (known_at table root) = c.more_of.ensures ∙ ap more_of (known_read table root _ below) in
    let L : List MethodCounts → Type 0 = λ js. sum_by loads_in js < 2 ^ 128 → c.loads_of.result ≡ sum_by loads_in js in
    let loads : c.loads_of.result ≡ sum_by loads_in ks = subst L c.deref-2.ensures.value c.loads_of.ensures (omega arith) in
    let sum : c.sum.result ≡ more_of (known_at table root) + sum_by loads_in ks = c.sum.ensures (omega arith) ∙ omega arith in
    let I : Timing → Type 0 = λ t. IsGreatestInvoke (params t 0 0) c.greatest_invoke.result in
    let F : Flow → Type 0 = λ f. IsFlowOf P f in
    let G : Timing → Type 0 = λ t. IsGreatestLoad P t.read c.greatest_load.result in
    let back = subst G c.timing-t.ensures.timing (c.greatest_load.ensures.greatest P (subst F (sym c.flow.ensures) of)) in
    report_is P set.timing (bounds_in set) root order table c.requires.distinct c.requires.limited (c.requires.settled P of) c.args.bound (c.requires.printed P of) ks all
    (record { rows = c.in-Ok.rows; totals = record { bound = c.args.bound; loads = c.sum.result; invoke = c.greatest_invoke.result; back = c.greatest_load.result } }) refl rows sum (subst I c.timing-t.ensures.timing c.greatest_invoke.ensures) back
