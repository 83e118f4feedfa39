use Rattle.std.proofs.Common.{◌^◌, ◌<◌, ℕ, List, length, All, Contains, get_or, sym, ap, ◌∙◌, subst, arith}
use Rattle.path_solver.specs.Distances.{AreLimited}
use Rattle.bound_report.proofs.VisitsLemmas.ProblemLemmas.{exits_within, exit_in_order, order_below, entry_leads_by, zeros_at, is_walk, some_exit_far}
use Rattle.bound_report.proofs.visits.rounds.add_walk.Goals as goal

pub costing-requires-clause-within : goal.costing-requires-clause-within
costing-requires-clause-within c =
    let P : List ℕ → Type 0 = λ us. All (λ u. u < length c.args.q.now.costs.now) us in
    subst P (sym c.exits.ensures.exits) (exits_within c.args.q.now c.requires.posed)

pub add_path-requires : goal.add_path-requires
add_path-requires c =
    let q = c.args.q.now in
    let posed = c.requires.posed in
    let same = c.as_slice-dist.ensures.value in
    let L : List ℕ → Type 0 = λ ds. AreLimited ds in
    let E : List ℕ → Type 0 = λ us. Contains us c.in-Some.end in
    let far = c.in-Some.ensures.found.1 in
    let value = posed.small in
    let few : get_or c.as_slice-dist.result.now c.in-Some.end 0 < 2 ^ 65 = omega arith in (
      posed,
      (
        ap length same ∙ posed.measured.dist_long,
        (
          subst L (sym same) posed.measured.dist_limited,
          (
            order_below q posed,
            (
              entry_leads_by q posed c.as_slice-dist.result.now same,
              (exit_in_order q posed c.in-Some.end (subst E c.exits.ensures.exits c.in-Some.ensures.found.0), (few, (c.requires.long, λ u. let zero' = zeros_at c.args.visits.now c.requires.none u in omega arith))),
            ),
          ),
        ),
      ),
    )

pub returns-in-Some : goal.returns-in-Some
returns-in-Some c =
    let E : List ℕ → Type 0 = λ us. Contains us c.in-Some.end in
    is_walk c.args.q.now c.requires.posed c.as_slice-dist.result.now c.as_slice-dist.ensures.value c.in-Some.end c.args.visits.now c.add_path.new.visits
    (subst E c.exits.ensures.exits c.in-Some.ensures.found.0) c.in-Some.ensures.found.1 c.requires.none c.add_path.ensures

pub returns-in_default : goal.returns-in_default
returns-in_default c =
    absurd
    (some_exit_far c.args.q.now c.requires.posed c.as_slice-dist.result.now c.as_slice-dist.ensures.value
    (λ u has. let P : List ℕ → Type 0 = λ us. Contains us u in c.in_default.ensures.none u (subst P (sym c.exits.ensures.exits) has)))
