use Rattle.class_making.proofs.RoomLaws.{items_are_few}
use Rattle.class_making.proofs.laws.items_are_few.Goals as goal

pub returns : goal.returns
returns c = items_are_few
