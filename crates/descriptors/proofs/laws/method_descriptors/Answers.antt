use Rattle.descriptors.proofs.DescriptorLaws.{methods}
use Rattle.descriptors.proofs.laws.method_descriptors.Goals as goal

pub returns : goal.returns
returns c = methods
