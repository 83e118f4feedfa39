use Rattle.std.proofs.Common.{w32, FitsSigned}
use Rattle.std.proofs.lemmas.Int.{to_z-of_z}
use Rattle.known_ints.specs.Knowing.{IsDoneBefore, IsReferenceLoad}
use Rattle.known_ints.proofs.Storing.{before_is}
use Rattle.known_ints.proofs.knowing.read_from.Goals as goal

pub returns : goal.returns
returns c =
    let v = c.args.value in
    let fits : FitsSigned w32 v = c.ranges.value in
    before_is (IsDoneBefore c.args.code.now IsReferenceLoad c.args.place) c.in_ok-from.from v _ (to_z-of_z w32 v fits) c.in_ok-from.ensures
