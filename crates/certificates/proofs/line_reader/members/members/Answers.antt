use Rattle.std.proofs.Common.{◌≢◌, ℕ, ◌<◌, ◌^◌, List, subst}
use Rattle.certificates.specs.Loop.{IsAbove, last_of}
use Rattle.certificates.specs.CertLines.{node_text}
use Rattle.certificates.proofs.MemberLemmas.{none_there, more_read}
use Rattle.certificates.proofs.line_reader.members.members.Goals as goal

pub returns-in_default-node_above : goal.returns-in_default-node_above
returns-in_default-node_above c =
    none_there c.args.text.now c.loop-behind.members.items c.loop-behind.rest.now c.in-Some.behind.now c.first_part.result.0.now c.first_part.result.1.now c.loop-behind.invariant
    c.in-Some.ensures.cases.0 c.in-Some.ensures.cases.1 c.first_part.ensures
    (subst (λ (ms : List ℕ). (u : ℕ) → (u < 2 ^ 32) × IsAbove (last_of ms) u → c.first_part.result.0.now ≢ node_text u) c.as_slice.ensures.value c.in_default-node_above.ensures)

pub loop-behind-preserved : goal.loop-behind-preserved
loop-behind-preserved c =
    let found = c.in-Some-node_above.ensures in
    more_read c.args.text.now c.loop-behind.members.items c.loop-behind.rest.now c.in-Some.behind.now c.first_part.result.0.now c.first_part.result.1.now c.push.new.self.items c.in-Some-node_above.node
    c.loop-behind.invariant c.in-Some.ensures.cases.0 c.in-Some.ensures.cases.1 c.first_part.ensures
    (found.0, (found.1.0, subst (λ (ms : List ℕ). IsAbove (last_of ms) c.in-Some-node_above.node) c.as_slice.ensures.value found.1.1)) c.in_ok-push.ensures.items
