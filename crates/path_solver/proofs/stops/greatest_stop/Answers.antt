use Rattle.std.proofs.Common.{◌≡◌, ℕ, List, length, Result, IfOk, IfErr, sym, ap, ◌∙◌, subst}
use Rattle.std.specs.Prelude.{replicate}
use Rattle.loop_nest.specs.Nest.{NaturalLoop}
use Rattle.section_check.specs.Bounded.{IsGreatest}
use Rattle.path_solver.specs.declared.solved.SolveFault.{SolveFault}
use Rattle.path_solver.specs.declared.solved.SolveFault.TheVariants.{TooLarge}
use Rattle.path_solver.specs.Longest.{bounded_loops, WalkExceeds}
use Rattle.path_solver.proofs.Solutions.{pass_of, none_of, value_tells, ok_of, err_of, stops_at_entry}
use Rattle.path_solver.proofs.stops.greatest_stop.Goals as goal

pub returns-in-Some-clause-greatest : goal.returns-in-Some-clause-greatest
returns-in-Some-clause-greatest c =
    let g = c.args.g.now in
    let loops = c.args.nest.now in
    let f = c.in-Some.found in
    let loads = c.deref.result.now in
    let s = pass_of g loops c.args.costs.now c.args.bounds.now loads c.in_ok-found.field-0 f c.in-Some.is c.in_ok-found.ensures.pass in
    let tells = value_tells g loops c.args.costs.now c.args.bounds.now loads f.listed.items f.iteration_costs.items f.dist.items f.value f.turns_exceed s c.within_limit.result c.within_limit.ensures in
    let are : loads ≡ replicate (length loops) 0 = c.deref.ensures.value ∙ c.in_ok-loads.ensures.items_if_clones_equal (λ y same. same) ∙ ap (λ (ls : List NaturalLoop). replicate (length ls) 0) c.loops.ensures in
    let found = ok_of c.within_limit.result TooLarge (WalkExceeds g c.args.costs.now (bounded_loops loops c.args.bounds.now loads)) (IsGreatest g c.args.costs.now (bounded_loops loops c.args.bounds.now loads)) tells in
    let P : Result ℕ SolveFault → Type 0 = λ r. IfOk r (IsGreatest g c.args.costs.now (bounded_loops loops c.args.bounds.now loads)) in
    let Q : List ℕ → Type 0 = λ zs. IfOk c.ok_or.result (IsGreatest g c.args.costs.now (bounded_loops loops c.args.bounds.now zs)) in
    subst Q are (subst P (sym c.ok_or.ensures.value) found)

pub returns-in-Some-clause-cause : goal.returns-in-Some-clause-cause
returns-in-Some-clause-cause c =
    let g = c.args.g.now in
    let loops = c.args.nest.now in
    let f = c.in-Some.found in
    let loads = c.deref.result.now in
    let s = pass_of g loops c.args.costs.now c.args.bounds.now loads c.in_ok-found.field-0 f c.in-Some.is c.in_ok-found.ensures.pass in
    let tells = value_tells g loops c.args.costs.now c.args.bounds.now loads f.listed.items f.iteration_costs.items f.dist.items f.value f.turns_exceed s c.within_limit.result c.within_limit.ensures in
    let are : loads ≡ replicate (length loops) 0 = c.deref.ensures.value ∙ c.in_ok-loads.ensures.items_if_clones_equal (λ y same. same) ∙ ap (λ (ls : List NaturalLoop). replicate (length ls) 0) c.loops.ensures in
    let found = err_of c.within_limit.result TooLarge (WalkExceeds g c.args.costs.now (bounded_loops loops c.args.bounds.now loads)) (IsGreatest g c.args.costs.now (bounded_loops loops c.args.bounds.now loads)) tells in
    let P : Result ℕ SolveFault → Type 0 = λ r. IfErr r (λ fault. fault ≡ TooLarge → WalkExceeds g c.args.costs.now (bounded_loops loops c.args.bounds.now loads)) in
    let Q : List ℕ → Type 0 = λ zs. IfErr c.ok_or.result (λ fault. fault ≡ TooLarge → WalkExceeds g c.args.costs.now (bounded_loops loops c.args.bounds.now zs)) in
    subst Q are (subst P (sym c.ok_or.ensures.value) found)

pub returns-clause-greatest : goal.returns-clause-greatest
returns-clause-greatest c = absurd (none_of c.in_ok-found.field-0 _ c.in-None.is c.in_ok-found.ensures.unreached (stops_at_entry c.args.g.now c.one_pass.ensures.valid c.requires.all))
