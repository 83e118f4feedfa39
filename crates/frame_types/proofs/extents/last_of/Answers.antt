use Rattle.std.proofs.Common.{rules, ◌≡◌, ◌-◌, length, Some}
use Rattle.std.specs.Prelude.{slice_get}
use Rattle.frame_types.specs.Extents.{whole_extent}
use Rattle.frame_types.proofs.ExtentLemmas.{last_there}
use Rattle.frame_types.proofs.extents.last_of.Goals as goal

pub returns-in-Some : goal.returns-in-Some
returns-in-Some c =
    let es = c.args.extents.now in
    let at : Some c.in-Some.last.now ≡ slice_get es (length es - 1) = search rules in
    last_there (whole_extent c.args.most) c.in-Some.last.now es at
