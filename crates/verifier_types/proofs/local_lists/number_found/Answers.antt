use Rattle.std.proofs.Common.{sym, subst, rules}
use Rattle.verifier_types.specs.contracts.types.VarTypePartialEq.TheImpl.{eq-value}
use Rattle.verifier_types.specs.Numbered.{IsOnlyNumber}
use Rattle.verifier_types.proofs.PositionLemmas.{only_number}
use Rattle.verifier_types.proofs.local_lists.number_found.Goals as goal

pub returns : goal.returns
returns c = subst (λ o. IsOnlyNumber c.args.types.now.keys c.args.item o) (sym c.get_index_of.ensures.index) (only_number eq-value.it (λ a b. search rules) c.args.types.now.keys c.args.item c.len-count.ensures.unique)
