use Rattle.jopizer.proofs.ImageLemmas.{all_wrong}
use Rattle.jopizer.proofs.image_files.read_image.Goals as goal

pub returns-in-Ok-clause-wrong : goal.returns-in-Ok-clause-wrong
returns-in-Ok-clause-wrong c = all_wrong c.args.bytes.now c.in-Ok.image c.relinked.result c.in-Ok.ensures.image c.relinked.ensures.wrong
