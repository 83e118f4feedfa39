use Rattle.std.proofs.Common.{◌≡◌, ℕ, ℤ, IsTrue, List, get_or, Some, sym, ap, ◌∙◌, arith}
use Rattle.std.specs.Prelude.{◌+ℤ◌}
use lib.Signed.{le_z}
use Rattle.std.proofs.lemmas.Int.{ints}
use Rattle.section_check.specs.Section.{potential, headed_by}
use Rattle.priced_sections.specs.Views.{back_of, loops_in}
use Rattle.priced_sections.proofs.Deciding.{wrapped, pays_when, tested}
use Rattle.priced_sections.proofs.paying.edge_pays.Goals as goal

pub returns : goal.returns
returns c =
    let q = c.args.q.now in
    let below = c.in-Some.below in
    let left = c.in-Some-left.left in
    let price = c.edge_price.result in
    let listed : potential q.section.now.nodes c.args.v ≡ Some below = ap (λ (zs : List (ℕ × ℤ)). potential zs c.args.v) (sym c.nodes.ensures) ∙ sym c.in-Some.ensures.value in
    pays_when (headed_by c.args.v (loops_in q)) (get_or q.costs.now c.args.u 0) (back_of q c.args.u) c.args.u (potential q.section.now.nodes c.args.u) (potential q.section.now.nodes c.args.v) below left price (IsTrue (le_z (wrapped (wrapped below +ℤ wrapped price)) (wrapped left)))
    listed (sym c.in-Some-left.ensures.value) c.edge_price.ensures.value
    (tested below price left (wrapped (wrapped below +ℤ wrapped price)) (wrapped left) (omega (arith, ints, c.in-Some.ensures.range, c.edge_price.ensures.least, c.edge_price.ensures.most)) (omega (arith, ints, c.in-Some-left.ensures.least, c.in-Some-left.ensures.most)))
