-- What an invoke costs by itself.
use Rattle.std.proofs.Common.{◌≡◌, ℕ, ◌≤◌, true, sym, subst, IsSomeAnd}
use Rattle.opcodes.specs.declared.instruction.Instr.{Instr}
use Rattle.opcodes.specs.Bytes.{u1}
use Rattle.opcodes.specs.Reading.{InstructionsAreOfTheirForm}
use Rattle.bytecode_model.specs.Program.{Body, body_of, instr_at}
use Rattle.bytecode_model.specs.Rows.{Row}
use Rattle.bytecode_model.specs.Steps.{row_in}
use Rattle.bytecode_model.specs.WellFormed.{is_call}
use Rattle.lists.proofs.Lemmas.{onto_some, some_is, some_in}
use Rattle.micro_flow.specs.Costs.{CostsAreSmall}
use Rattle.micro_flow.specs.Walk.{IsCost}
use Rattle.method_flow.specs.Costs.{params, InvokesKeepTheGreatest}
use Rattle.method_flow.proofs.Kinding.{calls_are_invokes}

pub invokes_keep_the_greatest : InstructionsAreOfTheirForm → CostsAreSmall → InvokesKeepTheGreatest
invokes_keep_the_greatest forms costs P t m p greatest range call is_greatest =
    let found = some_is (row_in P m p) (λ (x : ℕ × Row). is_call x.1 ≡ true) call in
    let x = found.0 in
    let body = onto_some (body_of P m) _ x found.1 in
    let instr = onto_some (instr_at P m p) _ x body.2 in
    let b = body.0 in
    let i = instr.0 in
    let invoke = calls_are_invokes forms P m p x.0 b i x.1 body.1 instr.1 found.1 found.2 in
    let from = subst (λ (op : ℕ). 182 ≤ op) invoke.opcode invoke.from in
    let to = subst (λ (op : ℕ). op ≤ 185) invoke.opcode invoke.to in
    let small = costs (params t 0 0) range (u1 b.code p) in
    let cost : IsCost (u1 b.code p) (params t i.count 0) small.cycles = subst (λ (n : ℕ). IsCost (u1 b.code p) (params t n 0) small.cycles) (sym invoke.no_cases) small.is in
    let at_instr = some_in (instr_at P m p) i (λ (j : Instr). IsCost (u1 b.code p) (params t j.count 0) small.cycles) instr.1 cost in (
      small.cycles,
      some_in (body_of P m) b (λ (c : Body). IsSomeAnd (instr_at P m p) (λ j. IsCost (u1 c.code p) (params t j.count 0) small.cycles)) body.1 at_instr,
      is_greatest.greatest (u1 b.code p) small.cycles (record { from = from; to = to }) small.is,
    )
