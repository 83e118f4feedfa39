use Rattle.image_laws.proofs.Components.{components}
use Rattle.image_laws.proofs.Instances.{small}
use Rattle.image_laws.proofs.Supertypes.{supertypes}
use Rattle.image_laws.proofs.laws.types_are_said.Goals as goal

pub returns-clause-bits : goal.returns-clause-bits
returns-clause-bits c = supertypes

pub returns-clause-components : goal.returns-clause-components
returns-clause-components c = components

pub returns-clause-instances : goal.returns-clause-instances
returns-clause-instances c = small
