use Rattle.std.proofs.Common.{◌∙◌}
use Rattle.class_checks.specs.Descriptors.{method_item}
use Rattle.class_checks.proofs.TableLemmas.{no_method_item}
use Rattle.class_checks.proofs.tables.DescriptorItems.of_method.Goals as goal

pub returns : goal.returns
returns c = c.item_at.ensures method_item no_method_item (c.deref.ensures.value ∙ c.requires.methods)
