use Rattle.method_cache.proofs.Longest.{fitting-longest}
use Rattle.method_cache.proofs.fitting_methods_are_longest.Goals as goal

pub returns : goal.returns
returns c = fitting-longest
