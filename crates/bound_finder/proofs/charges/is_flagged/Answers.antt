use Rattle.std.proofs.Common.{Bool, false, Option, ap, ◌∙◌, arith}
use Rattle.std.specs.Prelude.{unwrap_or}
use Rattle.bound_finder.proofs.charges.is_flagged.Goals as goal

pub returns : goal.returns
returns c = c.unwrap_or.ensures ∙ ap (λ (o : Option Bool). unwrap_or o false) c.copied.ensures ∙ c.get.ensures.lookup.4 (omega arith) false
