use Rattle.image_file.specs.Linked.{contents}
use Rattle.jopizer.proofs.LinkLemmas.{begins_with_core}
use Rattle.jopizer.proofs.linking.joined.Goals as goal

pub verified-requires : goal.verified-requires
verified-requires c = record { core = begins_with_core (contents c.args.files.now) c.args.main.now c.args.program c.requires.program }
