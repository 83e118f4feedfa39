use Rattle.std.proofs.Common.{◌*◌, ◌∙◌, arith}
use Rattle.known_ints.proofs.Entering.{entered_where}
use Rattle.known_ints.proofs.code.has_source.Goals as goal

pub returns-then-place-places : goal.returns-then-place-places
returns-then-place-places c =
    let lt = c.if-place-places.true in
    entered_where c.args.graph.now c.args.place c.of.result.now c.is_empty.result (omega (arith, c.nodes-places.ensures.nodes))
    (c.of.ensures ∙ c.requires.each (2 * c.args.place) (omega (arith, c.nodes-places.ensures.nodes))) c.is_empty.ensures

pub returns-else-place-places : goal.returns-else-place-places
returns-else-place-places c = ((λ e. absurd (cc)), (λ h. let within = h.within in absurd (omega (arith, c.if-place-places.false, c.nodes-places.ensures.nodes))))
