use Rattle.outside.proofs.Known.{read_placed}
use Rattle.outside.proofs.host.system.read_from.Goals as goal

pub returns-clause-read : goal.returns-clause-read
returns-clause-read g c = read_placed _ _ _ c.args.file.now c.seek.new.self c.read.new.self _ _ _ _ c.in_ok-seek.ensures.moves c.in_ok-seek.ensures.bytes c.read.ensures.bound c.read.ensures.bytes
