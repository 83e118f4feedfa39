use Rattle.std.proofs.Common.{sym, ◌∙◌, arith}
use Rattle.opcodes.specs.Target.{cases_of}
use Rattle.bytecode_verifier.proofs.SwitchLemmas.{cases_within}
use Rattle.bytecode_verifier.proofs.KeyLemmas.{key_above, key_not_above, few_rise}
use Rattle.bytecode_verifier.proofs.switches.keys_rise.Goals as goal

pub returns-then-not-is_below : goal.returns-then-not-is_below
returns-then-not-is_below c =
    sym (sym c.loop-index.invariant ∙ key_not_above (cases_of c.args.code.now c.args.instr.now) c.loop-index.index c.case-first.result c.case-second.result c.case-first.ensures c.case-second.ensures (sym c.is_below.ensures ∙ c.if-not-is_below.true))

pub loop-index-preserved : goal.loop-index-preserved
loop-index-preserved c =
    key_above (cases_of c.args.code.now c.args.instr.now) c.loop-index.index c.case-first.result c.case-second.result c.case-first.ensures c.case-second.ensures (sym c.is_below.ensures ∙ c.if-not-is_below.false) ∙ c.loop-index.invariant

pub returns : goal.returns
returns c =
    let end = c.loop-index-test.false in
    sym (sym c.loop-index.invariant ∙ few_rise (cases_of c.args.code.now c.args.instr.now) c.loop-index.index (omega (arith, end, cases_within c.args.code.now c.args.instr.now)))
