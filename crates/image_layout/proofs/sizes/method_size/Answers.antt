use Rattle.std.proofs.Common.{None}
use Rattle.image_layout.proofs.SizeLemmas.{method_sized}
use Rattle.image_layout.proofs.sizes.method_size.Goals as goal

pub returns-in-None : goal.returns-in-None
returns-in-None c =
    method_sized c.methods_stand_by_number.ensures c.members_are_there.ensures c.args.program.now c.args.method c.method-place.result None c.method-place.ensures c.in-None.ensures.code
