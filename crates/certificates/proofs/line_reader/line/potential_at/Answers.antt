use Rattle.std.proofs.Common.{rules}
use Rattle.certificates.specs.Rests.{node_rest, IsNodeRest}
use Rattle.certificates.proofs.NumberLemmas.{nothing_found}
use Rattle.certificates.proofs.LineLemmas.{no_place, no_potential, no_sum}
use Rattle.certificates.proofs.line_reader.line.potential_at.Goals as goal

pub returns-in_err-place : goal.returns-in_err-place
returns-in_err-place c =
    nothing_found node_rest IsNodeRest _ c.from_residual-in_err-place.result (search rules)
    (no_place c.args.text.now c.in_ok-number.number.now c.in_ok-number.sum.now c.in_ok-number.ensures.0 c.in_ok-number.ensures.1 c.in_err-place.ensures)

pub returns-in_err-potential : goal.returns-in_err-potential
returns-in_err-potential c =
    nothing_found node_rest IsNodeRest _ c.from_residual-in_err-potential.result (search rules)
    (no_potential c.args.text.now c.in_ok-number.number.now c.in_ok-number.sum.now c.in_ok-number.ensures.0 c.in_ok-number.ensures.1 c.in_err-potential.ensures)

pub returns-in_err-number : goal.returns-in_err-number
returns-in_err-number c = nothing_found node_rest IsNodeRest _ c.from_residual.result (search rules) (no_sum c.args.text.now c.in_err-number.ensures)
