use Rattle.std.proofs.Common.{◌∙◌}
use Rattle.class_checks.specs.Descriptors.{field_item}
use Rattle.class_checks.proofs.TableLemmas.{no_field_item}
use Rattle.class_checks.proofs.tables.DescriptorItems.of_field.Goals as goal

pub returns : goal.returns
returns c = c.item_at.ensures field_item no_field_item (c.deref.ensures.value ∙ c.requires.fields)
