use Rattle.bound_laws.proofs.Existing.{calls_end_without_recursion}
use Rattle.bound_laws.proofs.laws.calls_end_without_recursion.Goals as goal

pub returns : goal.returns
returns c = calls_end_without_recursion c.methods_have_code.ensures
