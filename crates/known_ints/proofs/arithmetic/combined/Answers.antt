use Rattle.known_ints.specs.declared.rows.Arithmetic.TheVariants.{Sum, Difference, Product, ShiftLeft, ShiftRightUnsigned, And, Or, ExclusiveOr}
use Rattle.known_ints.proofs.Computing.{of_kind, sum_is, difference_is, product_is, and_is, or_is, exclusive_or_is, left_is, right_unsigned_is}
use Rattle.known_ints.proofs.arithmetic.combined.Goals as goal

pub returns-in-Sum : goal.returns-in-Sum
returns-in-Sum c = of_kind c.args.arithmetic Sum c.args.y c.args.x _ c.in-Sum.is (sum_is c.args.y c.args.x c.ranges.y c.ranges.x)

pub returns-in-Difference : goal.returns-in-Difference
returns-in-Difference c = of_kind c.args.arithmetic Difference c.args.y c.args.x _ c.in-Difference.is (difference_is c.args.y c.args.x c.ranges.y c.ranges.x)

pub returns-in-Product : goal.returns-in-Product
returns-in-Product c = of_kind c.args.arithmetic Product c.args.y c.args.x _ c.in-Product.is (product_is c.args.y c.args.x c.ranges.y c.ranges.x)

pub returns-in-And : goal.returns-in-And
returns-in-And c = of_kind c.args.arithmetic And c.args.y c.args.x _ c.in-And.is (and_is c.args.y c.args.x c.ranges.y c.ranges.x)

pub returns-in-Or : goal.returns-in-Or
returns-in-Or c = of_kind c.args.arithmetic Or c.args.y c.args.x _ c.in-Or.is (or_is c.args.y c.args.x c.ranges.y c.ranges.x)

pub returns-in-ExclusiveOr : goal.returns-in-ExclusiveOr
returns-in-ExclusiveOr c = of_kind c.args.arithmetic ExclusiveOr c.args.y c.args.x _ c.in-ExclusiveOr.is (exclusive_or_is c.args.y c.args.x c.ranges.y c.ranges.x)

pub returns-in-ShiftLeft : goal.returns-in-ShiftLeft
returns-in-ShiftLeft c =
    of_kind c.args.arithmetic ShiftLeft c.args.y c.args.x _ c.in-ShiftLeft.is
    (left_is c.args.y c.args.x c.wrapping_shl.result c.cast_unsigned.result c.ranges.y c.ranges.x (record { sfits = c.wrapping_shl.type_inv }) c.cast_unsigned.ensures c.wrapping_shl.ensures)

pub returns-in-ShiftRightUnsigned : goal.returns-in-ShiftRightUnsigned
returns-in-ShiftRightUnsigned c =
    let n = c.cast_unsigned-in-ShiftRightUnsigned in
    let k = c.cast_unsigned-in-ShiftRightUnsigned-2 in
    let m = c.wrapping_shr-in-ShiftRightUnsigned in
    of_kind c.args.arithmetic ShiftRightUnsigned c.args.y c.args.x _ c.in-ShiftRightUnsigned.is
    (right_unsigned_is c.args.y c.args.x c.cast_signed.result k.result n.result m.result c.ranges.y c.ranges.x (record { sfits = c.cast_signed.type_inv }) k.ensures n.ensures m.ensures
    c.cast_signed.ensures)
