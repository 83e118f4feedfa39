use Rattle.image_file.specs.Linked.{contents}
use Rattle.endings.proofs.Endings.{refused}
use Rattle.endings.proofs.linked_image.unlinked.Goals as goal

pub returns : goal.returns
returns c =
    refused c.one_image.ensures c.args.bytes.now c.in-Ok.image c.args.refusal (contents c.files.result.now) c.not_linked.result c.in-Ok.ensures.image c.files.ensures.files c.requires c.not_linked.ensures
