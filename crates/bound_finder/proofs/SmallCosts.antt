-- What a node of a method takes by itself is far below 64 bits.
use Rattle.std.proofs.Common.{◌≡◌, ℕ, ◌^◌, ◌<◌, ◌≤◌, List, length, Some, Ok, Err, Result, IsSomeAnd, refl, sym, ap, ◌∙◌, arith}
use Rattle.std.proofs.lemmas.List.{length-map}
use Rattle.lists.proofs.Lemmas.{none≢some, some_same, onto_some, some_is}
use Rattle.micro_flow.specs.Costs.{CostsAreSmall, RaiseIsSmall}
use Rattle.micro_flow.specs.Walk.{IsCost, IsRaiseCost}
use Rattle.opcodes.specs.declared.instruction.Instr.{Instr}
use Rattle.opcodes.specs.Bytes.{u1}
use Rattle.opcodes.specs.Form.{Form, NotAnOpcode, Fixed, Widened, TableSwitch, LookupSwitch, Wide}
use Rattle.opcodes.specs.Instruction.{decoded}
use Rattle.opcodes.specs.Row.{row_of}
use Rattle.opcodes.specs.Start.{AreStarts}
use Rattle.opcodes.proofs.WithinLemmas.{IsWithin-decoded}
use Rattle.opcodes.proofs.SwitchLemmas.{SwitchIs, switch_is}
use Rattle.bytecode_model.specs.Program.{Program, Body, body_of, instr_at, as_instr}
use Rattle.method_flow.specs.declared.timing.Timing.{Timing}
use Rattle.method_flow.specs.Costs.{params, IsOwnCost}
use Rattle.method_flow.specs.Flow.{Coded, IsCoded, IsCodedOf, range_of}
use Rattle.method_flow.specs.Kinds.{RowsAreOfTheirKinds}
use Rattle.method_flow.specs.Nodes.{Node, At, RaiseAt}
use Rattle.node_costs.proofs.Filling.{greatest_small, opcode_small}
use Rattle.flow_graph.proofs.Starting.{body}
use Rattle.compact_walks.specs.Limited.{cycles_limit}

-- ---- the cases of a switch

-- they are fewer than the bytes of the code
few_cases : (code : List ℕ) (p : ℕ) (i : Instr) → decoded code p ≡ Ok i → length code < 65536 → i.count < 2 ^ 32
few_cases code p i is short = by (row_of i.op).form refl (switch_is code p i is)
  where
    by : (form : Form) → (row_of i.op).form ≡ form → SwitchIs code p i form → i.count < 2 ^ 32
    by NotAnOpcode e none = omega arith
    by (Fixed o) e none = omega arith
    by (Widened o w) e none = omega arith
    by TableSwitch e same = let within = IsWithin-decoded code p i is in let ends = within.ends in let cases = within.table_switch e in omega arith
    by LookupSwitch e same = let within = IsWithin-decoded code p i is in let ends = within.ends in let cases = within.lookup_switch e in omega arith
    by Wide e none = omega arith

ok_of : {E : Type 0} (r : Result Instr E) (i : Instr) → as_instr r ≡ Some i → r ≡ Ok i
ok_of (Ok j) i e = ap (λ (x : Instr). Ok x) (some_same j i e)
ok_of (Err f) i e = absurd (none≢some i e)

-- ---- small

module _ (starts : (code : List ℕ) → AreStarts code) (kinds : RowsAreOfTheirKinds) (costs : CostsAreSmall) (raises : RaiseIsSmall) (P : Program) (t : Timing) (m : ℕ) (k : Coded) (c : IsCoded k) (of : IsCodedOf P m k)
    (read : t.read ≤ 63) (write : t.write ≤ 63) where
  few_handlers : (b : Body) → body_of P m ≡ Some b → length b.handlers < 2 ^ 32
  few_handlers b is =
      let found = body starts kinds P m k c of in
      let same : b ≡ found.0 = some_same b found.0 (sym is ∙ found.1) in
      let ranges = ap length found.2.1 in
      let long = length-map found.0.handlers range_of in
      let few = c.few_ranges in
      let handlers = ap (λ (x : Body). length x.handlers) same in
      omega arith

  short_code : (b : Body) → body_of P m ≡ Some b → length b.code < 65536
  short_code b is =
      let found = body starts kinds P m k c of in
      let same : b ≡ found.0 = some_same b found.0 (sym is ∙ found.1) in
      let long = ap length found.2.0 in
      let short = c.short in
      let codes = ap (λ (x : Body). length x.code) same in
      omega arith

  pub own_small : (u : Node) (own : ℕ) → IsOwnCost P t m u own → own < cycles_limit
  own_small (At p) own is =
      let b = some_is (body_of P m) (λ b. IsSomeAnd (instr_at P m p) (λ i. IsCost (u1 b.code p) (params t i.count 0) own)) is in
      let i = some_is (instr_at P m p) (λ i. IsCost (u1 b.0.code p) (params t i.count 0) own) b.2 in
      let d = onto_some (body_of P m) (λ b. as_instr (decoded b.code p)) i.0 i.1 in
      let few = few_cases d.0.code p i.0 (ok_of (decoded d.0.code p) i.0 d.2) (short_code d.0 d.1) in
      let small = opcode_small costs t i.0.count (u1 b.0.code p) own read write few i.2 in
      omega arith
  own_small (RaiseAt p) own is =
      let b = some_is (body_of P m) (λ b. IsRaiseCost (params t 0 (length b.handlers)) own) is in
      let most = raises (params t 0 (length b.0.handlers)) (record { r = read; w = write; pairs = omega arith; entries = few_handlers b.0 b.1 }) in
      let small = greatest_small (params t 0 (length b.0.handlers)) _ own most.cycles b.2 most.is most.small in
      omega arith
