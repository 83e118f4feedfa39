-- The laws of plain opcodes: a row as a run of the machine, in at most its opcode's cost.
use Rattle.std.proofs.Common.{arith}
use Rattle.micro_sketch.proofs.RowSteps.{no_stalls}
use Rattle.micro_sketch.specs.Laws.{CostsHold}
use Rattle.micro_sketch.specs.RowLaws.{AreRowLaws}
use Rattle.micro_sketch.specs.Opcodes.{code_of}
use Rattle.micro_sketch.specs.PlainLaws.{PlainRowsRun, PlainRowsRaise}
use Rattle.micro_sketch.proofs.PlainRows.DivideRunning.{DivisionLaws}
use Rattle.micro_sketch.proofs.PlainRows.Steps.{row_run, raise_run}

pub rows_run : AreRowLaws → DivisionLaws → CostsHold → PlainRowsRun
rows_run laws divides costs n p op x e s stands ready calm =
    let r = row_run laws divides n p op x e s stands ready calm in
    let none = no_stalls r.after p.r r.follows.kept.loads r.follows.kept.loaded in
    record {
      after = r.after;
      reaches = r.reaches;
      done = r.done;
      follows = r.follows;
      cost = λ c is. omega (arith, costs p (code_of op) c n x r.after e stands.entry r.reaches r.done is, none);
    }

pub rows_raise : AreRowLaws → DivisionLaws → CostsHold → PlainRowsRaise
rows_raise laws divides costs n p op x e s stands ready hot =
    let r = raise_run laws divides n p op x e s stands ready hot in
    let none = no_stalls r.after p.r r.raises.kept.loads r.raises.kept.loaded in
    record {
      after = r.after;
      reaches = r.reaches;
      done = r.done;
      raises = r.raises;
      cost = λ c is. omega (arith, costs p (code_of op) c n x r.after e stands.entry r.reaches r.done is, none);
    }
