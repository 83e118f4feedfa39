use Rattle.std.proofs.Common.{◌≡◌, Bool, false, List, get_or, replicate, ap, ◌∙◌}
use Rattle.loop_nest.proofs.Searching.{same_everywhere}
use Rattle.loop_nest.proofs.dominance.dominators_first.Goals as goal

pub outwards-requires-clause-unseen : goal.outwards-requires-clause-unseen
outwards-requires-clause-unseen c = λ u.
    let seen = c.in_ok-seen.seen in
    let all : seen.items ≡ replicate c.nodes.result false = c.in_ok-seen.ensures.items_if_clones_equal (λ y h. h) in
    ap (λ (bs : List Bool). get_or bs u false) (c.deref_mut.ensures.value ∙ all) ∙ same_everywhere c.nodes.result u false
