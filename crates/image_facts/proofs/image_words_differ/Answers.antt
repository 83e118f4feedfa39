use Rattle.image_facts.proofs.Regions.{parts_differ, statics_differ}
use Rattle.image_facts.proofs.image_words_differ.Goals as goal

pub returns-clause-parts : goal.returns-clause-parts
returns-clause-parts c = parts_differ

pub returns-clause-statics : goal.returns-clause-statics
returns-clause-statics c = statics_differ
