use Rattle.jop_cli.proofs.ImagesLaw as images
use Rattle.jop_cli.proofs.OneBare as law
use Rattle.jop_cli.proofs.laws.one_bare_image.Goals as goal

pub returns-clause-one : goal.returns-clause-one
returns-clause-one c = law.one_bare_image

pub returns-clause-both : goal.returns-clause-both
returns-clause-both c = images.no_image_is_both
