use Rattle.bound_laws.proofs.ShortCodes.{resolved_codes_are_short}
use Rattle.bound_laws.proofs.laws.resolved_codes_are_short.Goals as goal

pub returns : goal.returns
returns c = resolved_codes_are_short c.methods_have_code.ensures
