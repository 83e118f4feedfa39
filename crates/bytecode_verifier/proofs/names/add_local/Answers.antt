use Rattle.bytecode_verifier.proofs.ListedLemmas.{lists_with, added}
use Rattle.bytecode_verifier.proofs.names.add_local.Goals as goal

pub returns-clause-lists : goal.returns-clause-lists
returns-clause-lists c = lists_with c.args.lists.now _ _ c.in_ok-current.ensures.list

pub returns-clause-locals : goal.returns-clause-locals
returns-clause-locals c = λ types fits h.
    added c.args.lists.now c.push_with.new.self c.args.current.now _ types _ fits h c.in_ok-current.ensures.list c.in_ok-current.ensures.number c.in_ok-push.ensures.items c.in_ok-current-2.ensures
