use Rattle.known_ints.proofs.Computing.{negated_is, quotient_is}
use Rattle.known_ints.proofs.arithmetic.quotient.Goals as goal

pub returns-then-y-eqminus1 : goal.returns-then-y-eqminus1
returns-then-y-eqminus1 c =
    negated_is c.args.y c.args.x c.wrapping_neg.result c.ranges.y c.ranges.x (record { sfits = c.wrapping_neg.type_inv }) c.if-y-eqminus1.true c.wrapping_neg.ensures

pub returns-else-y-eqminus1 : goal.returns-else-y-eqminus1
returns-else-y-eqminus1 c = quotient_is c.args.y c.args.x c.ranges.y c.ranges.x c.requires c.if-y-eqminus1.false
