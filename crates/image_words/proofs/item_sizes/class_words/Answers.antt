use Rattle.image_words.proofs.FieldLemmas.{run_read, run_none}
use Rattle.image_words.proofs.item_sizes.class_words.Goals as goal

pub returns-then-class-instances : goal.returns-then-class-instances
returns-then-class-instances c = λ cs are. run_read cs c.args.instances.now c.args.class c.index-instances-class.result c.if-class-instances.true are

pub returns-else-class-instances : goal.returns-else-class-instances
returns-else-class-instances c = λ cs are. run_none cs c.args.instances.now c.args.class c.if-class-instances.false are
