use Rattle.std.proofs.Common.{◌≡◌, ℕ, List, map, slice_index, ap, ◌∙◌, subst}
use Rattle.std.specs.Result.{IfOk}
use Rattle.bound_finder.specs.Known.{ForEach}
use Rattle.bound_finder.specs.Prepared.{IsCandidate}
use Rattle.bound_finder.proofs.charges.loop_candidate.Goals as goal

pub returns : goal.returns
returns c =
    let task = c.args.task.now in
    let node : ℕ → ℕ = slice_index c.args.nodes.now in
    let same : c.deref.result.now ≡ map node c.args.l.now.members = c.deref.ensures.value ∙ c.in_ok-members.ensures ∙ ap (map node) c.members.ensures in
    subst (λ (us : List ℕ). IfOk c.candidate.result (λ o. ForEach task (λ P. IsCandidate P task.timing c.args.m us o))) same c.candidate.ensures
