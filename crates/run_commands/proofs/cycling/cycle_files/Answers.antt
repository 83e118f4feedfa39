use Rattle.std.proofs.Common.{ℕ, arith}
use Rattle.std.specs.Prelude.{Vec}
use Rattle.std.specs.declared.alloc.Global.{Global}
use Rattle.std.proofs.lemmas.List.{length-map}
use Rattle.endings.proofs.Texts.{within_all}
use Rattle.run_commands.proofs.cycling.cycle_files.Goals as goal

pub cycle_operands-requires-clause-few_files : goal.cycle_operands-requires-clause-few_files
cycle_operands-requires-clause-few_files g c =
    let many = c.in-Ok.ensures.files.many in
    let long = length-map c.in-Ok.operands.items (λ (f : Vec ℕ Global). f.items) in
    omega (arith, many, long, c.words-end.ensures, c.requires.few_words)

pub cycle_operands-requires-clause-short : goal.cycle_operands-requires-clause-short
cycle_operands-requires-clause-short g c k d below =
    let few = c.in-Ok.ensures.files.few in
    let one = within_all c.in-Ok.operands.items k d below in
    omega (arith, few, one)
