use Rattle.std.proofs.Common.{◌≡◌, Some, None, rules, tests, eqb}
use Rattle.std.specs.List.{position}
use Rattle.std.proofs.lemmas.Iterator.Splits.{YieldsList-from_slice_split}
use Rattle.std.proofs.lemmas.Iterator.Search.{position_from_yields_List}
use Rattle.microcode_asm.specs.Parts.{is}
use Rattle.microcode_asm.specs.Statements.{operation_names}
use Rattle.microcode_asm.proofs.Names.{name_place}
use Rattle.microcode_asm.proofs.statement.operation.Goals as goal

pub returns-in-None-clause-code : goal.returns-in-None-clause-code
unfolding operation_names
returns-in-None-clause-code c =
    position_from_yields_List (λ operation. is c.args.name.now operation) _ _ None c.in-None.ensures.ran
    (YieldsList-from_slice_split _ (λ byte. eqb byte 32) _ c.split.ensures.rest c.split.ensures.done c.split.ensures.closure (λ x b q k. search (rules, tests)))
    (λ x b q k. search (rules, tests))

found : (c : goal.In-Some) → Some c.in-Some.place ≡ position (λ operation. is c.args.name.now operation) operation_names
unfolding operation_names
found c =
    position_from_yields_List (λ operation. is c.args.name.now operation) _ _ (Some c.in-Some.place) c.in-Some.ensures.ran
    (YieldsList-from_slice_split _ (λ byte. eqb byte 32) _ c.split.ensures.rest c.split.ensures.done c.split.ensures.closure (λ x b q k. search (rules, tests)))
    (λ x b q k. search (rules, tests))

pub returns-in-Some-clause-code : goal.returns-in-Some-clause-code
returns-in-Some-clause-code c = found c

pub returns-in-Some-clause-few : goal.returns-in-Some-clause-few
returns-in-Some-clause-few c = name_place _ c.in-Some.place (found c)
