use Rattle.image_facts.proofs.Regions.{alike_words, fixed_lie, objects_lie, parts_lie, statics_lie}
use Rattle.image_facts.proofs.image_words_lie.Goals as goal

pub returns-clause-fixed : goal.returns-clause-fixed
returns-clause-fixed c = fixed_lie

pub returns-clause-objects : goal.returns-clause-objects
returns-clause-objects c = objects_lie

pub returns-clause-parts : goal.returns-clause-parts
returns-clause-parts c = parts_lie

pub returns-clause-statics : goal.returns-clause-statics
returns-clause-statics c = statics_lie

pub returns-clause-widths : goal.returns-clause-widths
returns-clause-widths c = alike_words
