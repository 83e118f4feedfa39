-- The graph, the costs and the absent targets of a section by the table's calls are those by what its invokes are told.
use Rattle.std.proofs.Common.{◌≡◌, ℕ, ◌+◌, ◌*◌, ◌≤◌, true, Bool, List, length, map, Contains, Option, Some, None, slice_index, refl, sym, ap, ◌∙◌, subst, inl, inr, arith}
use Rattle.std.specs.Prelude.{◌↔◌, slice_get, unwrap_or}
use Rattle.std.proofs.lemmas.Option.{slice_get-map, slice_get_within}
use Rattle.std.proofs.lemmas.Bool.{cases_lt}
use Rattle.std.specs.Option.{option_map}
use Rattle.lists.proofs.Lemmas.{some_same, holds_at}
use Rattle.lists.specs.Members.{has_or_not, map_contains}
use Rattle.section_check.specs.Least.{IsLeast}
use Rattle.loop_nest.specs.Digraph.{Digraph}
use Rattle.opcodes.specs.Start.{IsStart, AreStarts}
use Rattle.bytecode_model.specs.Program.{Program, body_of}
use Rattle.method_flow.specs.declared.flow.Call.{Call}
use Rattle.method_flow.specs.declared.timing.Timing.{Timing}
use Rattle.method_flow.specs.Calls.{IsCall, IsTarget, targets_of}
use Rattle.method_flow.specs.Costs.{IsOwnCost}
use Rattle.method_flow.specs.Flow.{Flow, Coded, IsCoded, IsCodedOf, IsFlowOf, places_of, targets_of_call}
use Rattle.method_flow.specs.Graphs.{IsGraphBy}
use Rattle.method_flow.specs.Kinds.{RowsAreOfTheirKinds}
use Rattle.method_flow.specs.Nodes.{Node, At, RaiseAt, number_of, IsReached}
use Rattle.method_flow.specs.Nodes.IsReached.{first, later}
use Rattle.flow_graph.specs.Reach.{flag_at}
use Rattle.flow_graph.specs.Where.{IsEdgeWhere, GoesWhere, CallsGoOn}
use Rattle.flow_graph.proofs.Cutting.{same_node}
use Rattle.flow_graph.proofs.Joining.{reached_alike}
use Rattle.node_costs.specs.Costs.{AreOwnCosts}
use Rattle.bound_rules.specs.Costs.{added, added_at, AreCosts, greatest_of}
use Rattle.bound_rules.specs.Told.{TargetValues}
use Rattle.bound_rules.specs.Sections.{IsSectionEdge, IsSectionNode, IsLacking}
use Rattle.cert_checker.specs.Telling.{IsSummary, AreSummaries}
use Rattle.cert_checker.specs.Prepared.{AreComeTo, AreCostsOf, IsAbsentAt}
use Rattle.cert_checker.specs.declared.summaries.Summary.{Summary}
use Rattle.cert_checker.proofs.Fulls.{entry_at}
use Rattle.bound_rules.proofs.Greatest.{same_members, none_greatest}
use Rattle.flow_graph.proofs.Starting.{call_at, among_at, place_among, target_calls, IsPlaced, body, first_placed, next_placed, call_listed, listed_calls}

-- the least number with a property is the least with one that it implies and that has one of the first kind below each
least_below : (A L : ℕ → Type 0) (o : Option ℕ) → ((x : ℕ) → A x → L x) → ((x : ℕ) → L x → (y : ℕ) × A y × (y ≤ x)) → IsLeast A o → IsLeast L o
least_below A L None to from h = λ u l. let y = from u l in h y.0 y.1
least_below A L (Some n) to from h = (to n h.0, λ u less l. let y = from u l in let le = y.2 in h.1 y.0 (omega arith) y.1)

module _ (starts : (code : List ℕ) → AreStarts code) (kinds : RowsAreOfTheirKinds) (P : Program) (f : Flow) (of : IsFlowOf P f) (n : ℕ) (k : Coded) (c : IsCoded k) (is : slice_get f.methods n ≡ Some k) (told : TargetValues)
    (summaries : List Summary) (are : AreSummaries told f k.calls summaries) where
  coded : IsCodedOf P n k
  coded = of.methods n k is

  abbrev goes : List Bool
  goes = map (λ (s : Summary). s.goes_on) summaries

  abbrev TableEdge : Node → Node → Type 0
  TableEdge = IsEdgeWhere P n k.calls goes

  abbrev ToldEdge : Node → Node → Type 0
  ToldEdge = IsSectionEdge P n told

  -- ---- calls

  summary_at : (i : ℕ) (d : Call) → slice_get k.calls i ≡ Some d → (s : Summary) × (slice_get summaries i ≡ Some s) × IsSummary (told d.place) (targets_of_call f d) s
  summary_at i d at =
      let below = slice_get_within k.calls i d at in
      let long = are.long in
      let s = entry_at summaries i (omega arith) in
      (s.0, s.1, are.each i d s.0 at s.1)

  goes_at : (i : ℕ) (s : Summary) → slice_get summaries i ≡ Some s → slice_get goes i ≡ Some s.goes_on
  goes_at i s at = slice_get-map (λ (x : Summary). x.goes_on) summaries i ∙ ap (λ (o : Option Summary). option_map (λ x. x.goes_on) o) at

  target_to : (i : ℕ) (d : Call) → slice_get k.calls i ≡ Some d → (x : ℕ) → Contains (targets_of_call f d) x → IsTarget P n d.place x
  target_to i d at x has = (of.targets n k d is (among_at k.calls i d at) x).0 has

  target_back : (i : ℕ) (d : Call) → slice_get k.calls i ≡ Some d → (x : ℕ) → IsTarget P n d.place x → Contains (targets_of_call f d) x
  target_back i d at x target = (of.targets n k d is (among_at k.calls i d at) x).1 target

  listed : (p : ℕ) → IsStart k.code p → IsCall P n p → Contains (places_of k.calls) p
  listed p start call = call_listed starts kinds P n k c coded p start call

  calls : (i : ℕ) (d : Call) → slice_get k.calls i ≡ Some d → IsCall P n d.place
  calls i d at = listed_calls starts kinds P n k c coded d.place (place_among k.calls i d at)

  -- ---- edges

  edge_to : (u v : Node) → IsPlaced k u → TableEdge u v → ToldEdge u v
  edge_to u v placed e = record {
    edge = e.edge;
    goes_on =
        λ p q is_u is_v call.
        let start : IsStart k.code p = subst (IsPlaced k) is_u placed in
        let A : Node → Type 0 = λ a. GoesWhere k.calls goes a v in
        let B : Node → Type 0 = λ b. GoesWhere k.calls goes (At p) b in
        let on : CallsGoOn k.calls goes p = subst B is_v (subst A is_u e.goes_on) in
        let d = call_at k.calls p (listed p start call) in
        let s = summary_at d.0 d.1 d.2 in
        let yes : s.0.goes_on ≡ true = some_same s.0.goes_on true (sym (goes_at d.0 s.0 s.1) ∙ on d.0 d.1 d.2 d.3) in
        let x = s.2.goes_on.0 yes in
        let T : ℕ → Type 0 = λ a. IsTarget P n a x.0 in
        (x.0, subst T d.3 (target_to d.0 d.1 d.2 x.0 x.1), λ none. x.2 (ap (λ (a : ℕ). told a x.0) d.3 ∙ none));
  }

  goes_back : (u v : Node) → ToldEdge u v → GoesWhere k.calls goes u v
  goes_back (At p) (At q) e =
      λ i d at place.
      let C : ℕ → Type 0 = λ a. IsCall P n a in
      let x = e.goes_on p q refl refl (subst C place (calls i d at)) in
      let s = summary_at i d at in
      let T : ℕ → Type 0 = λ a. IsTarget P n a x.0 in
      let yes = s.2.goes_on.1 (x.0, target_back i d at x.0 (subst T (sym place) x.1), λ none. x.2 (ap (λ (a : ℕ). told a x.0) (sym place) ∙ none)) in
      goes_at i s.0 s.1 ∙ ap (λ (b : Bool). Some b) yes
  goes_back (At p) (RaiseAt q) e = tt
  goes_back (RaiseAt p) (At q) e = tt
  goes_back (RaiseAt p) (RaiseAt q) e = tt

  edge_back : (u v : Node) → ToldEdge u v → TableEdge u v
  edge_back u v e = record { edge = e.edge; goes_on = goes_back u v e }

  reached_to : {u : Node} → IsReached TableEdge u → IsReached ToldEdge u × IsPlaced k u
  reached_to r = reached_alike TableEdge ToldEdge (IsPlaced k) (first_placed starts kinds P n k c coded) (λ s t placed e. (edge_to s t placed e, next_placed starts kinds P n k c coded s t placed e.edge)) r

  pub reached_back : {u : Node} → IsReached ToldEdge u → IsReached TableEdge u × IsPlaced k u
  reached_back r = reached_alike ToldEdge TableEdge (IsPlaced k) (first_placed starts kinds P n k c coded) (λ s t placed e. (edge_back s t e, next_placed starts kinds P n k c coded s t placed e.edge)) r

  -- ---- the graph and its nodes

  pub told_graph : (g : Digraph) → IsGraphBy TableEdge P n g → IsGraphBy ToldEdge P n g
  told_graph g h = record {
    digraph = h.digraph;
    size = h.size;
    edges = λ u v. (
      λ e.
          let x = (h.edges u v).0 e in
          let r = reached_to x.reached in
          record { source = x.source; target = x.target; reached = r.0; edge = edge_to x.source x.target r.1 x.edge; numbered = x.numbered },
      λ x. (h.edges u v).1 (record { source = x.source; target = x.target; reached = (reached_back x.reached).0; edge = edge_back x.source x.target x.edge; numbered = x.numbered }),
    );
    exits = λ u. (
      λ e. let x = (h.exits u).0 e in record { node = x.node; reached = (reached_to x.reached).0; exit = x.exit; numbered = x.numbered },
      λ x. (h.exits u).1 (record { node = x.node; reached = (reached_back x.reached).0; exit = x.exit; numbered = x.numbered }),
    );
  }

  abbrev IsNodeAt : ℕ → Type 0
  IsNodeAt u = (m : Node) × IsSectionNode P n told m × (number_of m ≡ u)

  module _ (g : Digraph) (flags : List Bool) (graph : IsGraphBy ToldEdge P n g) (come : AreComeTo g flags) where
    node_to : (u : ℕ) → flag_at flags u ≡ true → IsNodeAt u
    node_to u on =
        elim ((come.each u).0 on) [
          | inl zero ↦ (At 0, first, sym zero)
          | inr e ↦ let x = (graph.edges e.0 u).0 e.1 in (x.target, later x.reached x.edge, sym x.numbered.1)
        ]

    flag_of : {m : Node} → IsSectionNode P n told m → flag_at flags (number_of m) ≡ true
    flag_of first = (come.each 0).1 (inl refl)
    flag_of (later {u} {v} r e) =
        (come.each (number_of v)).1 (inr (number_of u, (graph.edges (number_of u) (number_of v)).1 (record { source = u; target = v; reached = r; edge = e; numbered = (refl, refl) })))

    pub nodes_told : (u : ℕ) → (flag_at flags u ≡ true) ↔ IsNodeAt u
    nodes_told u = (node_to u, λ x. let F : ℕ → Type 0 = λ v. flag_at flags v ≡ true in subst F x.2 (flag_of x.1))

    -- ---- absent targets

    lacks_to : (x : ℕ) → IsAbsentAt k.calls summaries flags x → IsLacking P n told x
    lacks_to x a =
        let s = are.each a.index a.call a.summary a.call_is a.summary_is in
        let L : Option ℕ → Type 0 = λ o. IsLeast (λ y. Contains (targets_of_call f a.call) y × (told a.call.place y ≡ None)) o in
        let least = subst L a.absent s.absent in
        let node = node_to (2 * a.call.place) a.come_to in
        let N : Node → Type 0 = λ m. IsSectionNode P n told m in
        record {
          place = a.call.place;
          reached = subst N (same_node node.0 (At a.call.place) node.2) node.1;
          call = calls a.index a.call a.call_is;
          target = target_to a.index a.call a.call_is x least.0.0;
          absent = least.0.1;
        }

    lacks_back : (x : ℕ) → IsLacking P n told x → (y : ℕ) × IsAbsentAt k.calls summaries flags y × (y ≤ x)
    lacks_back x l =
        let start : IsStart k.code l.place = (reached_back l.reached).1 in
        let d = call_at k.calls l.place (listed l.place start l.call) in
        let s = summary_at d.0 d.1 d.2 in
        let T : ℕ → Type 0 = λ a. IsTarget P n a x in
        let has = target_back d.0 d.1 d.2 x (subst T (sym d.3) l.target) in
        let none = ap (λ (a : ℕ). told a x) d.3 ∙ l.absent in
        let F : ℕ → Type 0 = λ a. flag_at flags (2 * a) ≡ true in
        let come_to = subst F (sym d.3) (flag_of l.reached) in
        by d.0 d.1 d.2 s.0 s.1 come_to has none s.0.absent refl s.2.absent
      where
        by : (i : ℕ) (d : Call) → slice_get k.calls i ≡ Some d → (s : Summary) → slice_get summaries i ≡ Some s → flag_at flags (2 * d.place) ≡ true → Contains (targets_of_call f d) x → told d.place x ≡ None
            → (o : Option ℕ) → s.absent ≡ o → IsLeast (λ y. Contains (targets_of_call f d) y × (told d.place y ≡ None)) o → (y : ℕ) × IsAbsentAt k.calls summaries flags y × (y ≤ x)
        by i d at s s_at come_to has none None e least = absurd (least x (has, none))
        by i d at s s_at come_to has none (Some y) e least = (
          y,
          record { index = i; call = d; summary = s; call_is = at; summary_is = s_at; come_to = come_to; absent = e },
          elim (cases_lt x y) [ inl less ↦ absurd (least.1 x less (has, none)) | inr le ↦ le ],
        )

    pub lacking_told : (o : Option ℕ) → IsLeast (IsAbsentAt k.calls summaries flags) o → IsLeast (IsLacking P n told) o
    lacking_told o h = least_below (IsAbsentAt k.calls summaries flags) (IsLacking P n told) o lacks_to lacks_back h

  -- ---- costs

  abbrev value_at : ℕ → ℕ → Option ℕ
  value_at p x = unwrap_or (told p x) None

  abbrev adds : ℕ → ℕ
  adds p = added P n p (value_at p)

  module _ (t : Timing) (own costs : List ℕ) (owned : AreOwnCosts P t n k.code own) (h : AreCostsOf own k.calls summaries costs) where
    added_is : (i : ℕ) (d : Call) (s : Summary) (p : ℕ) → slice_get k.calls i ≡ Some d → d.place ≡ p → IsSummary (told d.place) (targets_of_call f d) s → s.added ≡ adds p
    added_is i d s p at place sum =
        let T : (x a : ℕ) → Type 0 = λ x a. IsTarget P n a x in
        sum.added
        ∙ ap (λ (a : ℕ). unwrap_or (greatest_of (value_at a) (targets_of_call f d)) 0) place
        ∙ ap (λ (o : Option ℕ). unwrap_or o 0)
        (same_members (value_at p) (targets_of_call f d) (targets_of P n p) (λ x has. subst (T x) place (target_to i d at x has)) (λ x target. target_back i d at x (subst (T x) (sym place) target)))

    cost_at : (u : Node) → IsPlaced k u → (cost : ℕ) × IsOwnCost P t n u cost × (slice_index costs (number_of u) ≡ cost + added_at adds u)
    cost_at (At p) start =
        elim (has_or_not (places_of k.calls) p) [
          | inl among ↦
              let d = call_at k.calls p among in
              let s = summary_at d.0 d.1 d.2 in
              let C : ℕ → Type 0 = λ a. slice_index costs (2 * a) ≡ slice_index own (2 * a) + s.0.added in
              (slice_index own (2 * p), owned.instructions p start, subst C d.3 (h.at_calls d.0 d.1 s.0 d.2 s.1) ∙ ap (λ (a : ℕ). slice_index own (2 * p) + a) (added_is d.0 d.1 s.0 p d.2 d.3 s.2))
          | inr never ↦
              let below = (starts k.code).within_code p start in
              let long = owned.long in
              let none : adds p ≡ 0 = ap (λ (o : Option ℕ). unwrap_or o 0) (none_greatest (value_at p) (targets_of P n p) (λ x target. never (listed p start (target_calls P n p x target)))) in
              let same = h.others (2 * p) (omega arith) (λ d among e. let here : d.place ≡ p = omega arith in let Q : ℕ → Type 0 = λ a. Contains (places_of k.calls) a in never (subst Q here (map_place d among))) in
              (slice_index own (2 * p), owned.instructions p start, omega (arith, same, none))
        ]
      where
        map_place : (d : Call) → Contains k.calls d → Contains (places_of k.calls) d.place
        map_place d among = map_contains (λ (e : Call). e.place) k.calls d among
    cost_at (RaiseAt p) start =
        let below = (starts k.code).within_code p start in
        let long = owned.long in
        let same = h.others (2 * p + 1) (omega arith) (λ d among e. omega arith) in
        (slice_index own (2 * p + 1), owned.raises p start, omega (arith, same))

    pub costs_told : (g : Digraph) → IsGraphBy ToldEdge P n g → AreCosts P t n ToldEdge adds g costs
    costs_told g graph = record {
      long =
          let b = body starts kinds P n k c coded in
          let size : g.nodes ≡ 2 * length b.0.code = holds_at (body_of P n) b.0 (λ b. g.nodes ≡ 2 * length b.code) b.1 graph.size in
          h.long ∙ owned.long ∙ ap (λ (xs : List ℕ). 2 * length xs) (sym b.2.0) ∙ sym size;
      each = λ u r. cost_at u (reached_back r).1;
    }
