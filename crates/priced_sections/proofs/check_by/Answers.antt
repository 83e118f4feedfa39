use Rattle.std.proofs.Common.{ap, sym, ◌∙◌, Option, ℤ}
use Rattle.priced_sections.specs.Views.{loops_in}
use Rattle.priced_sections.proofs.InPlace.{floored, floored_value, in_place, not_too_large}
use Rattle.priced_sections.proofs.check_by.Goals as goal

pub returns-in-Some-failing_edge : goal.returns-in-Some-failing_edge
returns-in-Some-failing_edge c =
    let q = c.args.q.now in
    (in_place q.graph.now q.section.now q.bounds.now q.loads.now q.facts.now c.in_default.ensures, c.in-Some-failing_edge.ensures)

pub returns-in-Some-failing_exit : goal.returns-in-Some-failing_exit
returns-in-Some-failing_exit c =
    let q = c.args.q.now in
    (in_place q.graph.now q.section.now q.bounds.now q.loads.now q.facts.now c.in_default.ensures, c.in_default-failing_edge.ensures, c.in-Some-failing_exit.ensures)

pub natural-requires : goal.natural-requires
natural-requires c =
    let q = c.args.q.now in
    not_too_large q.graph.now q.section.now q.bounds.now q.loads.now q.facts.now c.signed_value-value.result c.signed_value-value.ensures c.in_default.ensures

pub returns : goal.returns
returns c =
    let q = c.args.q.now in (
      record {
        nodes = in_place q.graph.now q.section.now q.bounds.now q.loads.now q.facts.now c.in_default.ensures;
        edges = c.in_default-failing_edge.ensures;
        exits = c.in_default-failing_exit.ensures;
      },
      c.natural.ensures ∙ ap (λ (o : Option ℤ). floored o) c.signed_value-value.ensures ∙ sym (floored_value q.section.now (loops_in q) q.facts.now),
    )
