use Rattle.std.proofs.Common.{◌≡◌, true, false, sym, ap, ◌∙◌, ◌&&◌, ◌+◌, map, reverse, drop, get_or, [], arith}
use Rattle.std.specs.Option.{option_map}
use Rattle.bytecode_typing.specs.Types.{TypeFrame, type_of, is_initialized}
use Rattle.bytecode_typing.specs.Assignable.{is_assignable_item}
use Rattle.bytecode_typing.specs.Checks.{seen}
use Rattle.program_tables.specs.declared.operand.Declared.TheVariants.{Int}
use Rattle.program_tables.specs.Meanings.{declared_seen}
use Rattle.verifier_types.specs.Frame.{operands_seen}
use Rattle.verifier_types.specs.Seen.{type_seen}
use Rattle.bytecode_verifier.specs.Arguments.{and_all, arguments_found}
use Rattle.bytecode_verifier.proofs.ArgumentLemmas.{and_all_true, and_all_twice, none_there, other_type, one_taken, declared_at, declared_many, all_done}
use Rattle.bytecode_verifier.proofs.calls.pop_arguments.Goals as goal

no_frame : TypeFrame
no_frame = record { locals = []; stack = []; flag = true }

pub loop-i-init : goal.loop-i-init
loop-i-init c = λ s st. and_all_true _

pub loop-i-preserved : goal.loop-i-preserved
loop-i-preserved c = λ s st.
    let ps = c.args.parameters.now in
    let rs = reverse (map declared_seen ps) in
    let t = type_seen c.in-Some.item in
    let lt = c.loop-i-test.true in
    let now = operands_seen c.loop-i.operands in
    let rest = operands_seen c.pop.new.self in
    let test : is_assignable_item s.program (seen s.program s.number s.method t) (type_of (get_or rs c.loop-i.i (declared_seen Int))) ≡ true =
    ap (λ d. is_assignable_item s.program (seen s.program s.number s.method t) (type_of d)) (declared_at ps c.loop-i.i Int lt) ∙ (sym (c.is_seen_for.ensures s no_frame st) ∙ c.if-not-is_seen_for.false) in
    ap (λ b. option_map (and_all b) (arguments_found s (drop (c.loop-i.i + 1) rs) rest)) (c.both-all.ensures ∙ ap (λ b. c.loop-i.all && b) c.is_initialized.ensures)
    ∙ (sym (and_all_twice c.loop-i.all (is_initialized t) (arguments_found s (drop (c.loop-i.i + 1) rs) rest))
    ∙ (ap (option_map (and_all c.loop-i.all)) (sym (one_taken s rs c.loop-i.i (declared_seen Int) now t rest (omega (arith, lt, declared_many ps)) c.in-Some.ensures test))
    ∙ c.loop-i.invariant s st))

pub returns : goal.returns
returns c = λ s st.
    let rs = reverse (map declared_seen c.args.parameters.now) in
    let end = c.loop-i-test.false in
    sym (all_done s rs c.loop-i.i (operands_seen c.loop-i.operands) c.loop-i.all (omega (arith, end, declared_many c.args.parameters.now))) ∙ c.loop-i.invariant s st

pub returns-in-None : goal.returns-in-None
returns-in-None c = λ s st.
    let rs = reverse (map declared_seen c.args.parameters.now) in
    let lt = c.loop-i-test.true in
    sym (ap (option_map (and_all c.loop-i.all)) (none_there s rs c.loop-i.i (declared_seen Int) (operands_seen c.loop-i.operands) (omega (arith, lt, declared_many c.args.parameters.now)) c.in-None.ensures))
    ∙ c.loop-i.invariant s st

pub returns-then-not-is_seen_for : goal.returns-then-not-is_seen_for
returns-then-not-is_seen_for c = λ s st.
    let ps = c.args.parameters.now in
    let rs = reverse (map declared_seen ps) in
    let t = type_seen c.in-Some.item in
    let lt = c.loop-i-test.true in
    let test : is_assignable_item s.program (seen s.program s.number s.method t) (type_of (get_or rs c.loop-i.i (declared_seen Int))) ≡ false =
    ap (λ d. is_assignable_item s.program (seen s.program s.number s.method t) (type_of d)) (declared_at ps c.loop-i.i Int lt) ∙ (sym (c.is_seen_for.ensures s no_frame st) ∙ c.if-not-is_seen_for.true) in
    sym (ap (option_map (and_all c.loop-i.all)) (other_type s rs c.loop-i.i (declared_seen Int) (operands_seen c.loop-i.operands) t (operands_seen c.pop.new.self) (omega (arith, lt, declared_many ps)) c.in-Some.ensures test))
    ∙ c.loop-i.invariant s st
