use Rattle.certificates.proofs.LineLemmas.{no_cost, no_header, no_iteration}
use Rattle.certificates.proofs.line_reader.line.loop_parts.Goals as goal

pub returns-in_default : goal.returns-in_default
returns-in_default c = no_cost c.args.text.now c.in_default.ensures

pub returns-in_default-place : goal.returns-in_default-place
returns-in_default-place c = no_header c.args.text.now c.in-Some.header.now c.in-Some.rest.now c.in-Some.ensures.0 c.in-Some.ensures.1 c.in_default-place.ensures

pub returns-in_default-number : goal.returns-in_default-number
returns-in_default-number c =
    no_iteration c.args.text.now c.in-Some.header.now c.in-Some.rest.now c.first_part.result.0.now c.first_part.result.1.now c.in-Some.ensures.0 c.in-Some.ensures.1
    c.first_part.ensures.whole c.first_part.ensures.no_space c.first_part.ensures.behind c.in_default-number.ensures
