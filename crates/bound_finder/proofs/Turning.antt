-- The graph and the costs by the table's calls are the live graph and the costs of its nodes.
use Rattle.std.proofs.Common.{◌≡◌, ℕ, ◌+◌, ◌*◌, ◌<◌, true, false, Bool, List, length, map, get_or, All, Contains, Option, Some, slice_index, refl, sym, ap, ◌∙◌, subst, inl, inr, arith}
use Rattle.std.specs.Prelude.{slice_get, slice_index_or, unwrap_or}
use Rattle.std.specs.Option.{option_map}
use Rattle.std.proofs.lemmas.Bool.{cond_below}
use Rattle.std.proofs.lemmas.Option.{slice_get-map, slice_get-get_or, slice_get_within}
use Rattle.std.proofs.lemmas.List.Elements.{All-get_or}
use Rattle.lists.proofs.Lemmas.{some_same, holds_at, some_in}
use Rattle.lists.specs.Members.{has_or_not, map_contains}
use Rattle.loop_nest.specs.Digraph.{Digraph}
use Rattle.opcodes.specs.Start.{IsStart, AreStarts}
use Rattle.bytecode_model.specs.Program.{Program, body_of}
use Rattle.method_flow.specs.declared.flow.Call.{Call}
use Rattle.method_flow.specs.declared.timing.Timing.{Timing}
use Rattle.method_flow.specs.Calls.{IsCall, IsStartOf, IsTarget, targets_of}
use Rattle.method_flow.specs.Costs.{IsOwnCost}
use Rattle.method_flow.specs.Flow.{Flow, Coded, IsCoded, IsCodedOf, IsFlowOf, places_of, targets_of_call}
use Rattle.method_flow.specs.Graphs.{IsGraphBy, IsLiveGraph}
use Rattle.method_flow.specs.Kinds.{RowsAreOfTheirKinds}
use Rattle.method_flow.specs.Live.{CanBeTaken, IsLiveEdge}
use Rattle.method_flow.specs.Nodes.{Node, At, RaiseAt, number_of, IsReached}
use Rattle.method_flow.specs.Recursion.{MayCall}
use Rattle.method_flow.specs.Regions.{load}
use Rattle.flow_graph.specs.Where.{IsEdgeWhere, GoesWhere}
use Rattle.flow_graph.proofs.Joining.{reached_alike}
use Rattle.node_costs.specs.Costs.{AreOwnCosts}
use Rattle.bound_rules.specs.Costs.{added_at, greatest_of}
use Rattle.compact_walks.specs.Limited.{cycles_limit, limited}
use Rattle.bound_finder.specs.declared.known.Known.{Known}
use Rattle.bound_finder.specs.declared.telling.Told.{Told}
use Rattle.bound_finder.specs.Known.{known_at, CalleesAreKnown}
use Rattle.bound_finder.specs.Telling.{with_back, IsToldBy, AreToldBy, added_by, AreToldAdded}
use Rattle.bound_finder.specs.Prepared.{adds_by, AreLimitedCosts}
use Rattle.bound_finder.specs.Laws.{GraphsWhereTargetsEnd, CostsAreLimited}
use Rattle.bound_rules.proofs.Greatest.{same_members, none_greatest}
use Rattle.flow_graph.proofs.Starting.{call_at, among_at, place_among, target_calls, IsPlaced, body, first_placed, next_placed, call_listed, listed_calls}

module _ (starts : (code : List ℕ) → AreStarts code) (kinds : RowsAreOfTheirKinds) (P : Program) (t : Timing) (f : Flow) (of : IsFlowOf P f) (n : ℕ) (k : Coded) (c : IsCoded k) (is : slice_get f.methods n ≡ Some k) (table : List Known) (back : ℕ)
    (told : List Told) (are : AreToldBy table back f k.calls told) where
  coded : IsCodedOf P n k
  coded = of.methods n k is

  abbrev goes : List Bool
  goes = map (λ (s : Told). s.goes_on) told

  abbrev TableEdge : Node → Node → Type 0
  TableEdge = IsEdgeWhere P n k.calls goes

  no_told : Told
  no_told = record { goes_on = false; inside = 0; full = 0 }

  told_at : (i : ℕ) (d : Call) → slice_get k.calls i ≡ Some d → (s : Told) × (slice_get told i ≡ Some s) × IsToldBy table back (targets_of_call f d) s
  told_at i d at =
      let below = slice_get_within k.calls i d at in
      let long = are.long in
      let s = get_or told i no_told in
      let s_at : slice_get told i ≡ Some s = slice_get-get_or told i no_told (omega arith) in
      (s, s_at, are.each i d s at s_at)

  goes_at : (i : ℕ) (s : Told) → slice_get told i ≡ Some s → slice_get goes i ≡ Some s.goes_on
  goes_at i s at = slice_get-map (λ (x : Told). x.goes_on) told i ∙ ap (λ (o : Option Told). option_map (λ x. x.goes_on) o) at

  target_to : (i : ℕ) (d : Call) → slice_get k.calls i ≡ Some d → (x : ℕ) → Contains (targets_of_call f d) x → IsTarget P n d.place x
  target_to i d at x has = (of.targets n k d is (among_at k.calls i d at) x).0 has

  target_back : (i : ℕ) (d : Call) → slice_get k.calls i ≡ Some d → (x : ℕ) → IsTarget P n d.place x → Contains (targets_of_call f d) x
  target_back i d at x target = (of.targets n k d is (among_at k.calls i d at) x).1 target

  listed : (p : ℕ) → IsStart k.code p → IsCall P n p → Contains (places_of k.calls) p
  listed p start call = call_listed starts kinds P n k c coded p start call

  calls : (i : ℕ) (d : Call) → slice_get k.calls i ≡ Some d → IsCall P n d.place
  calls i d at = listed_calls starts kinds P n k c coded d.place (place_among k.calls i d at)

  start_of : (p : ℕ) → IsStart k.code p → IsStartOf P n p
  start_of p start =
      let b = body starts kinds P n k c coded in
      some_in (body_of P n) b.0 (λ z. IsStart z.code p) b.1 (subst (λ (xs : List ℕ). IsStart xs p) (sym b.2.0) start)

  place_start : (i : ℕ) (d : Call) → slice_get k.calls i ≡ Some d → IsStart k.code d.place
  place_start i d at = ((c.calls d.place).0 (place_among k.calls i d at)).start

  -- ---- edges

  module _ (ends : CalleesAreKnown P t table n) where
    may_call : (p x : ℕ) → IsStart k.code p → IsCall P n p → IsTarget P n p x → MayCall P n x
    may_call p x start call target = record { place = p; start = start_of p start; call = call; is_target = target }

    goes_to : (u v : Node) → IsPlaced k u → GoesWhere k.calls goes u v → CanBeTaken P n u v
    goes_to (At p) (At q) start on = λ call.
        let d = call_at k.calls p (listed p start call) in
        let s = told_at d.0 d.1 d.2 in
        let yes : s.0.goes_on ≡ true = some_same s.0.goes_on true (sym (goes_at d.0 s.0 s.1) ∙ on d.0 d.1 d.2 d.3) in
        let x = s.2.goes_on.0 yes in
        let target : IsTarget P n p x.0 = subst (λ (a : ℕ). IsTarget P n a x.0) d.3 (target_to d.0 d.1 d.2 x.0 x.1) in
        (x.0, target, (ends x.0 (may_call p x.0 start call target)).full.0 x.2)
    goes_to (At p) (RaiseAt q) start on = tt
    goes_to (RaiseAt p) (At q) start on = tt
    goes_to (RaiseAt p) (RaiseAt q) start on = tt

    goes_back : (u v : Node) → CanBeTaken P n u v → GoesWhere k.calls goes u v
    goes_back (At p) (At q) on =
        λ i d at place.
        let x = on (subst (λ (a : ℕ). IsCall P n a) place (calls i d at)) in
        let s = told_at i d at in
        let target : IsTarget P n d.place x.0 = subst (λ (a : ℕ). IsTarget P n a x.0) (sym place) x.1 in
        let some = (ends x.0 (may_call d.place x.0 (place_start i d at) (calls i d at) target)).full.1 x.2 in
        let yes = s.2.goes_on.1 (x.0, target_back i d at x.0 target, some) in
        goes_at i s.0 s.1 ∙ ap (λ (b : Bool). Some b) yes
    goes_back (At p) (RaiseAt q) on = tt
    goes_back (RaiseAt p) (At q) on = tt
    goes_back (RaiseAt p) (RaiseAt q) on = tt

    edge_to : (u v : Node) → IsPlaced k u → TableEdge u v → IsLiveEdge P n u v
    edge_to u v placed e = record { edge = e.edge; goes_on = goes_to u v placed e.goes_on }

    edge_back : (u v : Node) → IsLiveEdge P n u v → TableEdge u v
    edge_back u v e = record { edge = e.edge; goes_on = goes_back u v e.goes_on }

    reached_to : {u : Node} → IsReached TableEdge u → IsReached (IsLiveEdge P n) u × IsPlaced k u
    reached_to r = reached_alike TableEdge (IsLiveEdge P n) (IsPlaced k) (first_placed starts kinds P n k c coded) (λ s t placed e. (edge_to s t placed e, next_placed starts kinds P n k c coded s t placed e.edge)) r

    reached_back : {u : Node} → IsReached (IsLiveEdge P n) u → IsReached TableEdge u × IsPlaced k u
    reached_back r = reached_alike (IsLiveEdge P n) TableEdge (IsPlaced k) (first_placed starts kinds P n k c coded) (λ s t placed e. (edge_back s t e, next_placed starts kinds P n k c coded s t placed e.edge)) r

    pub live_graph : (g : Digraph) → IsGraphBy TableEdge P n g → IsLiveGraph P n g
    live_graph g h = record {
      digraph = h.digraph;
      size = h.size;
      edges = λ u v. (
        λ e.
            let x = (h.edges u v).0 e in
            let r = reached_to x.reached in
            record { source = x.source; target = x.target; reached = r.0; edge = edge_to x.source x.target r.1 x.edge; numbered = x.numbered },
        λ x. (h.edges u v).1 (record { source = x.source; target = x.target; reached = (reached_back x.reached).0; edge = edge_back x.source x.target x.edge; numbered = x.numbered }),
      );
      exits = λ u. (
        λ e. let x = (h.exits u).0 e in record { node = x.node; reached = (reached_to x.reached).0; exit = x.exit; numbered = x.numbered },
        λ x. (h.exits u).1 (record { node = x.node; reached = (reached_back x.reached).0; exit = x.exit; numbered = x.numbered }),
      );
    }

  -- ---- costs

  live_placed : {u : Node} → IsReached (IsLiveEdge P n) u → IsPlaced k u
  live_placed r = (reached_alike (IsLiveEdge P n) (IsLiveEdge P n) (IsPlaced k) (first_placed starts kinds P n k c coded) (λ s t placed e. (e, next_placed starts kinds P n k c coded s t placed e.edge)) r).1

  within_limit : (a b : ℕ) → a < cycles_limit → b ≡ 0 → limited (a + b) ≡ a
  within_limit a b lt none = let same : a + b ≡ a = omega arith in ap limited same ∙ sym (cond_below a cycles_limit a cycles_limit lt)

  module _ (loaded : back ≡ load P t.read n) (own costs : List ℕ) (without : List Bool) (owned : AreOwnCosts P t n k.code own) (small : All (λ c. c < cycles_limit) own) (h : AreToldAdded own k.calls told without costs) where
    abbrev adds : ℕ → ℕ
    adds p = adds_by P t table n (slice_index_or without (2 * p) false) p

    -- of the same targets, in whatever order
    over : (value : ℕ → Option ℕ) (i : ℕ) (d : Call) (p : ℕ) → slice_get k.calls i ≡ Some d → d.place ≡ p → greatest_of value (targets_of_call f d) ≡ greatest_of value (targets_of P n p)
    over value i d p at place =
        same_members value (targets_of_call f d) (targets_of P n p) (λ x has. subst (λ (a : ℕ). IsTarget P n a x) place (target_to i d at x has))
        (λ x target. target_back i d at x (subst (λ (a : ℕ). IsTarget P n a x) (sym place) target))

    added_is : (b : Bool) (i : ℕ) (d : Call) (s : Told) (p : ℕ) → slice_get k.calls i ≡ Some d → d.place ≡ p → IsToldBy table back (targets_of_call f d) s → added_by b s ≡ adds_by P t table n b p
    added_is true i d s p at place sum = sum.inside ∙ ap (λ (o : Option ℕ). unwrap_or o 0) (over (λ x. (known_at table x).asked) i d p at place)
    added_is false i d s p at place sum =
        sum.full ∙ ap (λ (o : Option ℕ). unwrap_or o 0) (over (λ x. with_back back (known_at table x).full) i d p at place)
        ∙ ap (λ (b : ℕ). unwrap_or (greatest_of (λ x. with_back b (known_at table x).full) (targets_of P n p)) 0) loaded

    none_added : (b : Bool) (p : ℕ) → ((x : ℕ) → IsTarget P n p x → ⊥) → adds_by P t table n b p ≡ 0
    none_added true p never = ap (λ (o : Option ℕ). unwrap_or o 0) (none_greatest (λ x. (known_at table x).asked) (targets_of P n p) never)
    none_added false p never = ap (λ (o : Option ℕ). unwrap_or o 0) (none_greatest (λ x. with_back (load P t.read n) (known_at table x).full) (targets_of P n p) never)

    own_small : (u : ℕ) → u < length own → slice_index own u < cycles_limit
    own_small u lt = All-get_or (λ c. c < cycles_limit) own u 0 lt small

    cost_at : (u : Node) → IsPlaced k u → (cost : ℕ) × IsOwnCost P t n u cost × (slice_index costs (number_of u) ≡ limited (cost + added_at adds u))
    cost_at (At p) start =
        elim (has_or_not (places_of k.calls) p) [
          | inl among ↦
              let d = call_at k.calls p among in
              let s = told_at d.0 d.1 d.2 in
              let C : ℕ → Type 0 = λ a. slice_index costs (2 * a) ≡ limited (slice_index own (2 * a) + added_by (slice_index_or without (2 * a) false) s.0) in (
                slice_index own (2 * p),
                owned.instructions p start,
                subst C d.3 (h.at_calls d.0 d.1 s.0 d.2 s.1) ∙ ap (λ (a : ℕ). limited (slice_index own (2 * p) + a)) (added_is (slice_index_or without (2 * p) false) d.0 d.1 s.0 p d.2 d.3 s.2),
              )
          | inr never ↦
              let below = (starts k.code).within_code p start in
              let long = owned.long in
              let none : adds p ≡ 0 = none_added (slice_index_or without (2 * p) false) p (λ x target. never (listed p start (target_calls P n p x target))) in
              let same = h.others (2 * p) (omega arith) (λ d among e. let here : d.place ≡ p = omega arith in never (subst (λ (a : ℕ). Contains (places_of k.calls) a) here (map_contains (λ (e : Call). e.place) k.calls d among))) in
              (slice_index own (2 * p), owned.instructions p start, same ∙ sym (within_limit (slice_index own (2 * p)) (adds p) (own_small (2 * p) (omega arith)) none))
        ]
    cost_at (RaiseAt p) start =
        let below = (starts k.code).within_code p start in
        let long = owned.long in
        let same = h.others (2 * p + 1) (omega arith) (λ d among e. omega arith) in
        (slice_index own (2 * p + 1), owned.raises p start, same ∙ sym (within_limit (slice_index own (2 * p + 1)) 0 (own_small (2 * p + 1) (omega arith)) refl))

    pub costs_limited : (g : Digraph) → IsLiveGraph P n g → AreLimitedCosts P t n adds g costs
    costs_limited g graph = record {
      long =
          let b = body starts kinds P n k c coded in
          let size : g.nodes ≡ 2 * length b.0.code = holds_at (body_of P n) b.0 (λ b. g.nodes ≡ 2 * length b.code) b.1 graph.size in
          h.long ∙ owned.long ∙ ap (λ (xs : List ℕ). 2 * length xs) (sym b.2.0) ∙ sym size;
      each = λ u r. cost_at u (live_placed r);
    }

pub graphs_where_targets_end : ((code : List ℕ) → AreStarts code) → RowsAreOfTheirKinds → GraphsWhereTargetsEnd
graphs_where_targets_end starts kinds P t f m k table back told g of is c ends are graph = live_graph starts kinds P t f of m k c is table back told are ends g graph

pub costs_are_limited : ((code : List ℕ) → AreStarts code) → RowsAreOfTheirKinds → CostsAreLimited
costs_are_limited starts kinds x h =
    costs_limited starts kinds x.program x.timing x.flow h.flow x.method x.coded h.coded h.at x.table (load x.program x.timing.read x.method) x.told h.told refl x.own x.costs x.without
    h.own h.small h.added x.graph h.graph
