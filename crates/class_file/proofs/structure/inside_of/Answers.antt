use Rattle.std.proofs.Common.{arith}
use Rattle.class_file.proofs.MemberLaws.{inside_found, inside_only}
use Rattle.class_file.proofs.structure.inside_of.Goals as goal

pub returns-clause-found : goal.returns-clause-found
returns-clause-found c = inside_found c.whole_inside.result c.args.minor c.args.major c.args.pool c.args.bytes.now (λ i. omega (arith, c.type_inv.bytes i)) c.whole_inside.ensures

pub returns-clause-only : goal.returns-clause-only
returns-clause-only c = inside_only c.whole_inside.result c.args.minor c.args.major c.args.pool c.args.bytes.now c.whole_inside.ensures
