use Rattle.image_file.proofs.Whole as whole
use Rattle.image_file.proofs.linked.laws.one_image.Goals as goal

pub returns : goal.returns
returns c = whole.one_image
