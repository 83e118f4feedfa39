-- Control stays at instructions.
use Rattle.std.proofs.Common.{ℕ, List, sym, subst}
use Rattle.lists.proofs.Lemmas.{some_in}
use Rattle.opcodes.specs.Start.{IsStart, AreStarts}
use Rattle.bytecode_model.specs.Program.{Program, body_of}
use Rattle.method_flow.specs.Flow.{Coded, IsCoded, IsCodedOf}
use Rattle.method_flow.specs.Kinds.{RowsAreOfTheirKinds}
use Rattle.method_flow.specs.Nodes.{IsEdge}
use Rattle.flow_graph.proofs.Joining.{reached_alike}
use Rattle.flow_graph.proofs.Starting.{IsPlaced, body, first_placed, next_placed}
use Rattle.loop_rules.specs.Further.Laws.{StaysAtStarts}

pub stays : ((code : List ℕ) → AreStarts code) → RowsAreOfTheirKinds → (P : Program) (m : ℕ) (k : Coded) → IsCoded k → IsCodedOf P m k → StaysAtStarts P m
stays starts kinds P m k c of p come =
    let placed = reached_alike (IsEdge P m) (IsEdge P m) (IsPlaced k) (first_placed starts kinds P m k c of) (λ s t at e. (e, next_placed starts kinds P m k c of s t at e)) come in
    let b = body starts kinds P m k c of in
    let start : IsStart k.code p = placed.1 in
    some_in (body_of P m) b.0 (λ z. IsStart z.code p) b.1 (subst (λ (xs : List ℕ). IsStart xs p) (sym b.2.0) start)
