use Rattle.std.proofs.Common.{rules, arith}
use Rattle.std.proofs.lemmas.List.{get_or_default}
use Rattle.fact_bound.proofs.grammar.are_members.Goals as goal

pub returns : goal.returns
returns c = λ rises. record {
  some = search rules;
  rising = search rules;
  small = λ k d lt. let same = get_or_default c.args.members.now k d 0 lt in omega (arith, c.type_inv.members k);
}
