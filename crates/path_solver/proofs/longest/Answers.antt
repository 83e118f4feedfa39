use Rattle.std.proofs.Common.{◌≡◌, ℕ, ◌^◌, ◌<◌, ◌≤◌, Bool, true, false, sym, subst, inl, inr, arith}
use Rattle.std.proofs.lemmas.Bool.{both_ways, cases_lt}
use Rattle.path_solver.specs.Solution.{Solution}
use Rattle.path_solver.proofs.Solutions.{IsFound, pass_of, value_too_large, iterations_too_large, iteration_costs_fit, found_by}
use Rattle.path_solver.proofs.longest.Goals as goal
use Rattle.path_solver.proofs.longest.Goals.{then-exceeds-via-then-exceeds, then-exceeds-via-else-exceeds+then-found}

not_exceeding : (n : ℕ) (b : Bool) → (b ≡ true → 2 ^ 64 ≤ n) × (2 ^ 64 ≤ n → b ≡ true) → b ≡ false → n < 2 ^ 64
not_exceeding n b h no' =
    elim (cases_lt n (2 ^ 64)) [
      | inl less ↦ less
      | inr more ↦ absurd (both_ways b no' (h.1 more))
    ]

pub returns-then-exceeds-clause-cause : goal.returns-then-exceeds-clause-cause
returns-then-exceeds-clause-cause c =
    let g = c.args.g.now in
    let loops = c.args.nest.now in
    let f = c.in-Some.found in
    let s = pass_of g loops c.args.costs.now c.args.bounds.now c.args.loads.now c.in_ok-found.field-0 f c.in-Some.is c.in_ok-found.ensures.pass in
    elim c.then-exceeds.branch [
      | then-exceeds-via-then-exceeds w ↦ value_too_large g loops c.args.costs.now c.args.bounds.now c.args.loads.now f.listed.items f.iteration_costs.items f.dist.items f.value f.turns_exceed s (c.exceeds.ensures.0 w.if-exceeds.true)
      | then-exceeds-via-else-exceeds+then-found w ↦ iterations_too_large g loops c.args.costs.now c.args.bounds.now c.args.loads.now f.listed.items f.iteration_costs.items f.dist.items f.value f.turns_exceed s w.if-found.true
    ]

pub section_of-requires-clause-few : goal.section_of-requires-clause-few
section_of-requires-clause-few c =
    let g = c.args.g.now in
    let loops = c.args.nest.now in
    let f = c.in-Some.found in
    let s = pass_of g loops c.args.costs.now c.args.bounds.now c.args.loads.now c.in_ok-found.field-0 f c.in-Some.is c.in_ok-found.ensures.pass in
    let long = s.reaching.long in
    let few = c.one_pass.ensures.few in
    omega arith

pub section_of-requires-clause-small : goal.section_of-requires-clause-small
section_of-requires-clause-small c =
    let g = c.args.g.now in
    let loops = c.args.nest.now in
    let f = c.in-Some.found in
    let s = pass_of g loops c.args.costs.now c.args.bounds.now c.args.loads.now c.in_ok-found.field-0 f c.in-Some.is c.in_ok-found.ensures.pass in
    iteration_costs_fit g loops c.args.costs.now c.args.bounds.now c.args.loads.now f.listed.items f.iteration_costs.items f.dist.items f.value f.turns_exceed s c.if-found.false

solution : (c : goal.After-drop-found-11) → IsFound c.args.g.now c.args.nest.now c.args.costs.now c.args.bounds.now c.args.loads.now c.new.result.value c.new.result.section
solution c =
    let g = c.args.g.now in
    let loops = c.args.nest.now in
    let f = c.in-Some.found in
    let s = pass_of g loops c.args.costs.now c.args.bounds.now c.args.loads.now c.in_ok-found.field-0 f c.in-Some.is c.in_ok-found.ensures.pass in
    let small = not_exceeding f.value c.exceeds.result c.exceeds.ensures c.if-exceeds.false in
    let found = found_by g loops c.args.costs.now c.args.bounds.now c.args.loads.now f.listed.items f.iteration_costs.items f.dist.items f.value f.turns_exceed s small c.if-found.false c.in_ok-section.section c.in_ok-section.ensures.nodes c.in_ok-section.ensures.loops in
    let P : Solution → Type 0 = λ (t : Solution). IsFound g loops c.args.costs.now c.args.bounds.now c.args.loads.now t.value t.section in
    subst P (sym c.new.ensures) found

pub returns-clause-greatest : goal.returns-clause-greatest
returns-clause-greatest c = (solution c).greatest

pub returns-clause-loops : goal.returns-clause-loops
returns-clause-loops c = (solution c).own_loops

pub returns-clause-form : goal.returns-clause-form
returns-clause-form c = (solution c).form

pub returns-clause-shown : goal.returns-clause-shown
returns-clause-shown c = (solution c).shown

pub returns-clause-fits : goal.returns-clause-fits
returns-clause-fits c = (solution c).fits

pub returns-clause-reached : goal.returns-clause-reached
returns-clause-reached c =
    let f = c.in-Some.found in
    let s = pass_of c.args.g.now c.args.nest.now c.args.costs.now c.args.bounds.now c.args.loads.now c.in_ok-found.field-0 f c.in-Some.is c.in_ok-found.ensures.pass in
    (s.reaching.each 0).0 s.entry
