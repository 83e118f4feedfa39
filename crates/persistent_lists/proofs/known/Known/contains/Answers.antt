use Rattle.std.proofs.Common.{subst, rules}
use Rattle.std.specs.List.{Contains}
use Rattle.persistent_lists.specs.contracts.known.TreePairPartialEq.TheImpl.{eq-value}
use Rattle.persistent_lists.proofs.KnownLemmas.{found}
use Rattle.persistent_lists.proofs.known.Known.contains.Goals as goal

pub returns-then-pair-eq0 : goal.returns-then-pair-eq0
returns-then-pair-eq0 c = λ h. subst (λ l. Contains l c.args.pair) c.self.view_is (found eq-value.it (λ a b. search rules) c.args.pair c.self.inside.set.keys c.contains.result c.contains.ensures h)
