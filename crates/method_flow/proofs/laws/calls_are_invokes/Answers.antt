use Rattle.method_flow.proofs.Kinding.{calls_are_invokes}
use Rattle.method_flow.proofs.laws.calls_are_invokes.Goals as goal

pub returns : goal.returns
returns c = calls_are_invokes c.instructions_are_read.ensures.forms
