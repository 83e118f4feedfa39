use Rattle.std.proofs.Common.{arith}
use Rattle.std.proofs.lemmas.Grind.{common_steps}
use Rattle.std.specs.BTreeMap.Entry.{map_with_value}
use Rattle.class_lookup.proofs.Numbering.{written}
use Rattle.class_lookup.proofs.texts.number_or.Goals as goal

pub returns-clause-written : goal.returns-clause-written
returns-clause-written c =
    let found = c.or_insert.result.now in
    let after = written c.args.numbers.now (map_with_value c.in_ok-numbers.field-0 found) c.args.text found (c.in_ok-numbers.ensures.update.0 found) in
    λ t. grind (arith, common_steps, after t)
