use Rattle.class_pool.specs.declared.kind.Owner.TheVariants as owners
use Rattle.class_file.proofs.WritingLemmas.RoomLemmas.{attributes_roomy, members_roomy}
use Rattle.class_file.proofs.writing.writer.put_inside.Goals as goal

pub put_members-requires : goal.put_members-requires
put_members-requires c = members_roomy owners.Field c.args.class.now.pool c.args.class.now.fields c.as_slice.result.now c.as_slice.ensures c.requires.inside.fields

pub put_members-requires-2 : goal.put_members-requires-2
put_members-requires-2 c = members_roomy owners.Method c.args.class.now.pool c.args.class.now.methods c.as_slice-2.result.now c.as_slice-2.ensures c.requires.inside.methods

pub put_attributes-requires : goal.put_attributes-requires
put_attributes-requires c = attributes_roomy owners.Class c.args.class.now.pool c.args.class.now.attributes c.as_slice-3.result.now c.as_slice-3.ensures c.requires.inside.attributes
