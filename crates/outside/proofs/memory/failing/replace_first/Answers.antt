use Rattle.std.proofs.Common.{◌≡◌, ◌∙◌, get_or, arith}
use Rattle.std.proofs.lemmas.List.{get_or_default}
use Rattle.outside.proofs.Listed.{SameLaterCalls-replaced}
use Rattle.outside.proofs.memory.failing.replace_first.Goals as goal

pub returns-clause-later : goal.returns-clause-later
returns-clause-later c =
    let items = c.args.list.now.items in
    let read : c.index.result.now ≡ get_or items c.args.first 0 = c.index.ensures ∙ get_or_default items c.args.first c.index.result.now 0 (omega arith) in
    rw read (SameLaterCalls-replaced items c.args.first c.args.at c.args.number c.requires.before (omega arith))
