-- The nodes to which control comes in a typed program have costs.
use Rattle.std.proofs.Common.{◌≡◌, ℕ, ◌^◌, ◌<◌, ◌≤◌, List, length, Option, Some, None, Ok, Err, Result, IsSome, IsSomeAnd, refl, ap, arith}
use Rattle.std.proofs.lemmas.Bool.{false≢true}
use Rattle.lists.proofs.Lemmas.{none≢some, some_same, onto_some, some_in}
use Rattle.micro_flow.specs.Costs.{CostsAreSmall, RaiseIsSmall}
use Rattle.micro_flow.specs.Walk.{IsCost, IsRaiseCost}
use Rattle.opcodes.specs.declared.instruction.Instr.{Instr}
use Rattle.opcodes.specs.Bytes.{u1}
use Rattle.opcodes.specs.Form.{Form, NotAnOpcode, Fixed, Widened, TableSwitch, LookupSwitch, Wide}
use Rattle.opcodes.specs.Instruction.{decoded}
use Rattle.opcodes.specs.Row.{row_of}
use Rattle.opcodes.proofs.WithinLemmas.{IsWithin-decoded}
use Rattle.opcodes.proofs.SwitchLemmas.{SwitchIs, switch_is}
use Rattle.bytecode_model.specs.Program.{Program, Body, body_of, instr_at, as_instr}
use Rattle.bytecode_model.specs.Steps.{row_in}
use Rattle.bytecode_typing.specs.Typed.{Typing, Typed}
use Rattle.method_flow.specs.declared.timing.Timing.{Timing}
use Rattle.method_flow.specs.Costs.{params, IsOwnCost}
use Rattle.method_flow.specs.Nodes.{Node, At, RaiseAt, IsEdge, IsReached}
use Rattle.method_runs.specs.TypedGraphs.Laws.{TypedMethodsReachRows}
use Rattle.bound_laws.specs.Existing.{HaveShortCodes, OwnCostsExist}

-- ---- the cases of a switch

-- they are fewer than the bytes of the code
few_cases : (code : List ℕ) (p : ℕ) (i : Instr) → decoded code p ≡ Ok i → length code < 65536 → i.count < 2 ^ 32
few_cases code p i is short = by (row_of i.op).form refl (switch_is code p i is)
  where
    by : (form : Form) → (row_of i.op).form ≡ form → SwitchIs code p i form → i.count < 2 ^ 32
    by NotAnOpcode e none = omega arith
    by (Fixed o) e none = omega arith
    by (Widened o w) e none = omega arith
    by TableSwitch e same = let within = IsWithin-decoded code p i is in let ends = within.ends in let cases = within.table_switch e in omega arith
    by LookupSwitch e same = let within = IsWithin-decoded code p i is in let ends = within.ends in let cases = within.lookup_switch e in omega arith
    by Wide e none = omega arith

ok_of : {E : Type 0} (r : Result Instr E) (i : Instr) → as_instr r ≡ Some i → r ≡ Ok i
ok_of (Ok j) i e = ap (λ (x : Instr). Ok x) (some_same j i e)
ok_of (Err f) i e = absurd (none≢some i e)

there : {X : Type 0} (o : Option X) → IsSome o → (x : X) × (o ≡ Some x)
there None h = absurd (false≢true h)
there (Some x) h = (x, refl)

-- ---- costs

module _ (costs : CostsAreSmall) (raises : RaiseIsSmall) (rows : TypedMethodsReachRows) (P : Program) (types : Typing) (t : Timing) (typed : Typed P types) (read : t.read ≤ 63) (write : t.write ≤ 63) (short : HaveShortCodes P) where
  own : (m : ℕ) (b : Body) → body_of P m ≡ Some b → (u : Node) → IsReached (IsEdge P m) u → (cost : ℕ) × IsOwnCost P t m u cost
  own m b body (At p) reached =
      let x = there (row_in P m p) (rows P types typed m b body p reached) in
      let found = onto_some (body_of P m) _ x.0 x.1 in
      let instr = onto_some (instr_at P m p) _ x.0 found.2 in
      let i = instr.0 in
      let d = onto_some (body_of P m) (λ (c : Body). as_instr (decoded c.code p)) i instr.1 in
      let few = few_cases d.0.code p i (ok_of (decoded d.0.code p) i d.2) (short m d.0 d.1).code in
      let cost = costs (params t i.count 0) (record { r = read; w = write; pairs = few; entries = omega arith }) (u1 b.code p) in (
        cost.cycles,
        some_in (body_of P m) b (λ (c : Body). IsSomeAnd (instr_at P m p) (λ j. IsCost (u1 c.code p) (params t j.count 0) cost.cycles)) body
            (some_in (instr_at P m p) i (λ (j : Instr). IsCost (u1 b.code p) (params t j.count 0) cost.cycles) instr.1 cost.is),
      )
  own m b body (RaiseAt p) reached =
      let few = (short m b body).handlers in
      let cost = raises (params t 0 (length b.handlers)) (record { r = read; w = write; pairs = omega arith; entries = omega arith }) in
      (cost.cycles, some_in (body_of P m) b (λ (c : Body). IsRaiseCost (params t 0 (length c.handlers)) cost.cycles) body cost.is)

pub own_costs_exist : CostsAreSmall → RaiseIsSmall → TypedMethodsReachRows → OwnCostsExist
own_costs_exist costs raises rows P types t typed read write short m coded u reached =
    let b = there (body_of P m) coded in
    own costs raises rows P types t typed read write short m b.0 b.1 u reached
