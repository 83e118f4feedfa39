use Rattle.std.proofs.Common.{◌≡◌, ◌≢◌, ℕ, ◌<◌, List, [], length, map, All, sym, ap, ◌∙◌, subst, arith}
use Rattle.std.specs.Prelude.{slice_index}
use Rattle.std.specs.List.Sorted.{IsStrictlyIncreasing}
use Rattle.std.proofs.lemmas.Result.{IfOk-weaker}
use Rattle.loop_nest.specs.declared.loops.NestFault.{NestFault}
use Rattle.loop_nest.specs.Faults.{HasCause}
use Rattle.loop_nest.specs.Reduction.{Leaves}
use Rattle.method_flow.specs.Compact.{IsCompact}
use Rattle.loop_finder.specs.Methods.{AreMethodBounds, IsNestBy}
use Rattle.loop_acts.specs.Rules.{rules_by}
use Rattle.loop_finder.proofs.HeaderLemmas.{headed_is, heads_low, leaves_nodes, left_is}
use Rattle.loop_finder.proofs.MethodLemmas.{none_where_irreducible}
use Rattle.loop_finder.proofs.finding.loops_of_graph.Goals as goal

pub nested_loops-requires : goal.nested_loops-requires
nested_loops-requires c =
    let is = c.in_ok-compact.ensures in
    let d = c.in_ok-compact.compact.graph in
    let ls = c.in-Ok.nest in
    let same = c.as_slice-nodes.ensures in
    record {
      nest = subst (λ (ns : List ℕ). IsNestBy c.args.graph ns ls) (sym same) (record { compact = d; is = is.compact; long = is.long; nest = c.in-Ok.ensures.nest });
      headers = heads_low c.as_slice-nodes.result.now d is.compact.digraph (ap length same ∙ is.long) ls c.in-Ok.ensures.nest;
    }

pub numbers-requires : goal.numbers-requires
numbers-requires c =
    let is = c.in_ok-compact.ensures in
    let d = c.in_ok-compact.compact.graph in
    let long : length c.as_slice-nodes.result.now ≡ d.nodes = ap length c.as_slice-nodes.ensures ∙ is.long in
    let cause = subst (λ (e : NestFault). HasCause d e) c.in-Err-Irreducible.field-0-is c.in-Err-Irreducible.ensures.cause in
    subst (λ (n : ℕ). All (λ (u : ℕ). u < n) c.deref.result.now) (sym long)
    (subst (λ (us : List ℕ). All (λ (u : ℕ). u < d.nodes) us) (sym c.deref.ensures.value) (leaves_nodes d c.in-Err-Irreducible.left.items cause.0))

pub returns-in-Ok-clause-headers : goal.returns-in-Ok-clause-headers
returns-in-Ok-clause-headers c =
    let d = c.in_ok-compact.compact.graph in
    IfOk-weaker c.nested_loops.result _ _
    (λ x are P m is. headed_is P m c.args.graph is c.in_ok-compact.compact c.in_ok-compact.ensures c.in-Ok.nest c.in-Ok.ensures.reducible c.in-Ok.ensures.nest c.as_slice-nodes.result.now c.as_slice-nodes.ensures x.headers are)
    c.nested_loops.ensures.headers

pub returns-in-Ok-clause-bounds : goal.returns-in-Ok-clause-bounds
returns-in-Ok-clause-bounds c =
    let g = c.args.graph in
    let d = c.in_ok-compact.compact.graph in
    let compact = subst (λ (ns : List ℕ). IsCompact g d (slice_index ns)) (sym c.as_slice-nodes.ensures) c.in_ok-compact.ensures.compact in
    IfOk-weaker c.nested_loops.result _ _
    (λ x h P given m is coded ints. h P given m d coded ints is compact c.in-Ok.ensures.reducible c.in-Ok.ensures.nest)
    c.nested_loops.ensures.bounds

pub returns-in-Err-Irreducible-clause-headers : goal.returns-in-Err-Irreducible-clause-headers
returns-in-Err-Irreducible-clause-headers c P m is =
    let d = c.in_ok-compact.compact.graph in
    let left = c.deref.result.now in
    let same = c.deref.ensures.value in
    let cause = subst (λ (e : NestFault). HasCause d e) c.in-Err-Irreducible.field-0-is c.in-Err-Irreducible.ensures.cause in
    let leaves : Leaves d left = subst (λ (us : List ℕ). Leaves d us) (sym same) cause.0 in
    let some : left ≢ [] = subst (λ (us : List ℕ). us ≢ []) (sym same) cause.1 in
    let are = c.in_ok-numbers-in-Err-Irreducible.ensures ∙ ap (λ (ns : List ℕ). map (slice_index ns) left) c.as_slice-nodes.ensures in
    record {
      graph = c.args.graph;
      is_graph = is;
      compact = c.in_ok-compact.compact;
      is_compact = c.in_ok-compact.ensures;
      are = left_is P m c.args.graph is c.in_ok-compact.compact c.in_ok-compact.ensures left leaves some c.in_ok-numbers-in-Err-Irreducible.field-0.items are;
    }

pub returns-in-Err-Irreducible-clause-bounds : goal.returns-in-Err-Irreducible-clause-bounds
returns-in-Err-Irreducible-clause-bounds c P given m is coded ints =
    let g = c.args.graph in
    let d = c.in_ok-compact.compact.graph in
    let left = c.in-Err-Irreducible.left in
    let cause = subst (λ (e : NestFault). HasCause d e) c.in-Err-Irreducible.field-0-is c.in-Err-Irreducible.ensures.cause in
    let up : IsStrictlyIncreasing [] = λ k lt. absurd (omega arith) in
    subst (λ (bounds : List (ℕ × ℕ)). AreMethodBounds P (rules_by P given) m bounds) (sym c.new.ensures.items)
    (none_where_irreducible c.graphs_are_one.ensures.whole P (rules_by P given) m g is d (slice_index c.in_ok-compact.compact.nodes) c.in_ok-compact.ensures.compact c.parts_are_reducible.ensures.reducible
    c.reduction_has_one_end.ensures c.graphs_are_moved.ensures.graphs left.items cause.0 cause.1 up)
