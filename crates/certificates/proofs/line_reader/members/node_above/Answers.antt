use Rattle.std.proofs.Common.{sym}
use Rattle.certificates.proofs.MemberLemmas.{not_above}
use Rattle.certificates.proofs.line_reader.members.node_above.Goals as goal

pub returns-then-next-last : goal.returns-then-next-last
returns-then-next-last c =
    not_above c.args.members.now c.args.text.now c.in_ok-next.next c.in-Some.last.now c.in_ok-next.ensures.0 c.in_ok-next.ensures.1 (sym c.in-Some.ensures.value) c.if-next-last.true
