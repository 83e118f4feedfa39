use Rattle.std.proofs.Common.{◌≡◌, ◌↔◌, ℕ, ◌<◌, sym, ◌∙◌, subst, arith}
use Rattle.std.specs.Prelude.{IsSome}
use Rattle.bytecode_model.specs.Program.{body_of}
use Rattle.program_tables.specs.Resolved.{resolved}
use Rattle.flow_table.proofs.Coding.{none_coded, one_coded, just_coded, none_past, copied_none, copied_some}
use Rattle.flow_table.proofs.coded.coded_count.Goals as goal

pub loop-number-init : goal.loop-number-init
loop-number-init c = none_coded c.args.program.now

pub loop-number-preserved : goal.loop-number-preserved
loop-number-preserved c =
    let k = copied_some c.code.result c.if-is_none.ensures in
    one_coded c.methods_stand_by_number.ensures c.args.program.now c.loop-number.number k.0 c.loop-number.invariant (sym c.code.ensures.code ∙ k.1)

pub returns-then-is_none : goal.returns-then-is_none
returns-then-is_none c =
    just_coded c.methods_stand_by_number.ensures c.args.program.now c.loop-number.number c.loop-number.invariant (sym c.code.ensures.code ∙ copied_none c.code.result c.if-is_none.ensures)

pub returns : goal.returns
returns c =
    let cs = c.args.program.now in
    let n = c.loop-number.number in
    let end = c.loop-number-test.false in
    let top = c.loop-number.auto.number-end in
    let first = c.method_count-number-end.ensures in
    let second = c.method_count.ensures in
    let last : n ≡ c.method_count.result = omega arith in
    subst (λ (k : ℕ). (m : ℕ) → IsSome (body_of (resolved cs) m) ↔ (m < k)) last (just_coded c.methods_stand_by_number.ensures cs n c.loop-number.invariant (none_past cs n (omega arith)))
