use Rattle.std.proofs.Common.{ℕ, ◌++◌, List, map, ap, ◌∙◌}
use Rattle.std.proofs.lemmas.List.{take_all}
use Rattle.loop_finder.specs.Methods.{found_in}
use Rattle.loop_finder.proofs.Programs.{appended_more}
use Rattle.loop_finder.proofs.finding.add_loops.Goals as goal

pub loop-bound-preserved : goal.loop-bound-preserved
loop-bound-preserved c =
    appended_more c.args.method c.args.bounds.now c.loop-bound.bound-index c.args.found.now.items c.loop-bound.found.items c.push.new.self.items c.loop-bound-test.true c.loop-bound.invariant c.in_ok-push.ensures.items

pub returns : goal.returns
returns c =
    let f = found_in c.args.method in
    c.loop-bound.invariant ∙ ap (λ (xs : List (ℕ × ℕ)). c.args.found.now.items ++ map f xs) (take_all c.loop-bound.bound-index c.args.bounds.now c.loop-bound-test.false)
