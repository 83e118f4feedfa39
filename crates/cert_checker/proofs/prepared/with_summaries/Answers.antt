use Rattle.std.proofs.Common.{◌≡◌, ℕ, Bool, List, length, sym, ap, ◌∙◌, subst, arith}
use Rattle.std.specs.Vec.{with_items}
use Rattle.std.proofs.lemmas.List.{with_items_is}
use Rattle.section_check.specs.Least.{IsLeast}
use Rattle.method_flow.specs.Graphs.{IsGraphBy}
use Rattle.method_flow.specs.declared.flow.Call.{Call}
use Rattle.flow_graph.specs.Where.{IsEdgeWhere}
use Rattle.cert_checker.specs.Prepared.{AreCostsOf, IsAbsentAt}
use Rattle.cert_checker.proofs.Coding.{places_within, numbers_within, places_small}
use Rattle.cert_checker.proofs.prepared.with_summaries.Goals as goal

pub add-requires-clause-inside : goal.add-requires-clause-inside
add-requires-clause-inside c =
    let k = c.args.m.now in
    numbers_within k c.calls.result.now (length c.deref_mut.result.now) (ap length c.deref_mut.ensures.value ∙ c.requires.inside)
    (places_within k c.calls.result.now c.calls.ensures.whole (c.starts_follow_one_another.ensures k.code) c.calls.ensures.calls)

pub least_absent-absent-requires-clause-places : goal.least_absent-absent-requires-clause-places
least_absent-absent-requires-clause-places c =
    let k = c.args.m.now in
    places_small k c.calls-2.result.now c.calls.ensures.whole (places_within k c.calls-2.result.now c.calls.ensures.whole (c.starts_follow_one_another.ensures k.code) c.calls-2.ensures.calls)

pub returns-clause-prepared : goal.returns-clause-prepared
returns-clause-prepared c =
    let k = c.args.m.now in
    let costs = c.args.costs in
    let summaries = c.args.summaries.now in
    let new = c.add.new.costs in
    let ok = costs.ok in
    let was = c.deref_mut.ensures.value in
    let was_long = ap length was in
    let added_long = c.add.ensures.long in
    let items : (with_items costs new).items ≡ new = with_items_is costs new (omega (arith, ok.0)) in
    let C : List Call → Type 0 = λ cs. AreCostsOf costs.items cs summaries new in
    let W : List ℕ → Type 0 = λ us. AreCostsOf us c.calls.result.now summaries new in
    let N : List ℕ → Type 0 = λ us. AreCostsOf costs.items k.calls summaries us in
    let A : List Call → Type 0 = λ cs. IsLeast (IsAbsentAt cs summaries c.deref-2.result.now) c.least_absent-absent.result in
    let F : List Bool → Type 0 = λ flags. IsLeast (IsAbsentAt k.calls summaries flags) c.least_absent-absent.result in
    record {
      graph =
          λ P m of.
          let G : List Bool → Type 0 = λ goes. IsGraphBy (IsEdgeWhere P m k.calls goes) P m c.in_ok-graph.graph in
          subst G (c.deref.ensures.value ∙ c.in_ok-goes.ensures) (c.in_ok-graph.ensures.graph P m of);
      costs = subst N (sym items) (subst C c.calls.ensures.calls (subst W was c.add.ensures));
      nodes = c.in_ok-nodes.ensures;
      absent = subst F c.deref-2.ensures.value (subst A c.calls-2.ensures.calls c.least_absent-absent.ensures);
    }
