use Rattle.std.proofs.Common.{ℕ, List, Contains, sym, subst}
use Rattle.path_solver.proofs.Loops.{iterations_at, iterations_from}
use Rattle.path_solver.proofs.ordering.closes_loop.Goals as goal

pub returns-in-Some : goal.returns-in-Some
returns-in-Some c =
    let ls = c.args.loops.now in
    let u = c.args.u in
    let v = c.args.v in
    let l = c.index-loops-i.result in
    let P : List ℕ → Type 0 = λ ms. Contains ms u in (
      λ t. iterations_from ls u v c.in-Some.i l c.in-Some.ensures c.index-loops-i.is (subst P c.members.ensures (c.has.ensures.0 t)),
      λ t. c.has.ensures.1 (subst P (sym c.members.ensures) (iterations_at ls u v c.in-Some.i l c.requires.headers c.in-Some.ensures c.index-loops-i.is t)),
    )
