use Rattle.image_facts.proofs.Making.{count, object_made}
use Rattle.image_facts.proofs.image_words_grow.Goals as goal

pub returns-clause-end : goal.returns-clause-end
returns-clause-end c = count

pub returns-clause-made : goal.returns-clause-made
returns-clause-made c = object_made
