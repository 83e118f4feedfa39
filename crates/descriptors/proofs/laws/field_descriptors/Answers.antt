use Rattle.descriptors.proofs.DescriptorLaws.{fields}
use Rattle.descriptors.proofs.laws.field_descriptors.Goals as goal

pub returns : goal.returns
returns c = fields
