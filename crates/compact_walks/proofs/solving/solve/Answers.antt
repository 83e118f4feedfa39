use Rattle.std.proofs.Common.{◌∙◌, ap, sym, subst, length}
use Rattle.compact_walks.specs.declared.solving.Answer.{Answer}
use Rattle.compact_walks.specs.Solving.{Problem, IsWalkAnswer}
use Rattle.compact_walks.proofs.Charged.{charged_long}
use Rattle.compact_walks.proofs.Solutions.{answers}
use Rattle.compact_walks.proofs.solving.solve.Goals as goal

pub exceeding-requires-clause-fees : goal.exceeding-requires-clause-fees
exceeding-requires-clause-fees c =
    let ls = c.args.loads.now in
    let rs = c.args.regions.now in
    ap length c.deref.ensures.value ∙ ap length c.in_ok-fees-in-Err-TooLarge.ensures ∙ charged_long ls rs (c.requires.regions ∙ sym c.requires.loads) ∙ c.requires.loads

pub returns-in-Ok : goal.returns-in-Ok
returns-in-Ok c =
    let e = c.in-Ok.ensures in
    let p : Problem = record { graph = c.args.g.now; nest = c.args.nest.now; costs = c.args.costs.now; bounds = c.args.bounds.now; loads = c.args.loads.now; regions = c.args.regions.now } in
    subst (λ (a : Answer). IsWalkAnswer p a) (sym c.answer_of.ensures) (answers p c.in-Ok.found e.unreached e.reached e.fits e.greatest e.loops e.form e.shown)
