-- What the invokes of a found section are told: the known numbers, which are exact at each node that a run can come to.
use Rattle.std.proofs.Common.{◌≡◌, ◌≢◌, ℕ, ◌+◌, ◌<◌, ◌≤◌, Bool, true, false, cond, List, Contains, Option, Some, None, slice_index, refl, sym, ap, ◌∙◌, subst, arith, le-leb}
use Rattle.std.specs.Prelude.{◌↔◌, IsSome, unwrap_or}
use Rattle.std.specs.Option.{option_map}
use Rattle.std.proofs.lemmas.List.Elements.{All-contains, Contains-get_or}
use Rattle.lists.proofs.Lemmas.{none≢some, some_same}
use Rattle.loop_nest.specs.Digraph.{Digraph}
use Rattle.bytecode_model.specs.Program.{Program}
use Rattle.method_flow.specs.Calls.{IsTarget, targets_of}
use Rattle.method_flow.specs.Costs.{IsOwnCost}
use Rattle.method_flow.specs.Graphs.{IsGraphBy, IsLiveGraph}
use Rattle.method_flow.specs.Keeping.{BoundOf}
use Rattle.method_flow.specs.Live.{CanEnd, CanBeTaken, IsLiveEdge}
use Rattle.method_flow.specs.Nodes.{Node, At, RaiseAt, number_of, IsEdge, IsReached}
use Rattle.method_flow.specs.Nodes.IsReached.{first, later}
use Rattle.method_flow.specs.Recursion.{MayCall}
use Rattle.method_flow.specs.Regions.{load}
use Rattle.method_flow.specs.declared.timing.Timing.{Timing}
use Rattle.flow_graph.proofs.Joining.{reached_alike}
use Rattle.flow_graph.proofs.Starting.{target_calls}
use Rattle.bound_rules.specs.Costs.{added, added_at, greatest_of, AreCosts}
use Rattle.bound_rules.specs.Laws.{ReachesStarts}
use Rattle.bound_rules.specs.Sections.{IsSectionEdge}
use Rattle.bound_rules.specs.Told.{TargetValues, most_cycles, within_limit}
use Rattle.bound_rules.proofs.Greatest.{IsGreatestOf, greatest_is}
use Rattle.bound_rules.proofs.Owning.{same_of_each}
use Rattle.compact_walks.specs.Limited.{cycles_limit, limited, AreSmallAt}
use Rattle.bound_finder.specs.declared.known.Known.{Known}
use Rattle.bound_finder.specs.declared.prepared.Prepared.{Prepared}
use Rattle.bound_finder.specs.Known.{known_at, CalleesAreKnown}
use Rattle.bound_finder.specs.Telling.{with_back}
use Rattle.bound_finder.specs.Prepared.{IsPreparedFor, adds_by, is_without}
use Rattle.bound_finder.proofs.Limiting.{small_is}
use Rattle.bound_finder.proofs.Reached.{reachable}

-- ---- numbers within 64 bits

pub exact : (s : ℕ) → limited s < cycles_limit → (s < cycles_limit) × (limited s ≡ s)
exact s lt = let same = small_is s lt in (omega arith, same)

pub at_most : (f : ℕ → Option ℕ) (xs : List ℕ) (x n : ℕ) → Contains xs x → f x ≡ Some n → n ≤ unwrap_or (greatest_of f xs) 0
at_most f xs x n has is = by (greatest_of f xs) (greatest_is f xs)
  where
    by : (o : Option ℕ) → IsGreatestOf f xs o → n ≤ unwrap_or o 0
    by None none = absurd (none≢some n (sym (none x has) ∙ is))
    by (Some most) h = h.1 x n has is

-- the number with so many cycles more, where these count past 64 bits, too
abbrev pub more_by : ℕ → Option ℕ → Option ℕ
more_by back o = option_map (λ n. n + back) o

back_exact : (back : ℕ) (o : Option ℕ) (most : ℕ) → most < cycles_limit → ((n : ℕ) → with_back back o ≡ Some n → n ≤ most) → with_back back o ≡ more_by back o
back_exact back None most small le = refl
back_exact back (Some n) most small le = let up = le (limited (n + back)) refl in ap (λ (k : ℕ). Some k) (exact (n + back) (omega arith)).1

pub greatest_exact : (f : ℕ → Option ℕ) (back : ℕ) (xs : List ℕ) → unwrap_or (greatest_of (λ x. with_back back (f x)) xs) 0 < cycles_limit
    → greatest_of (λ x. with_back back (f x)) xs ≡ greatest_of (λ x. more_by back (f x)) xs
greatest_exact f back xs small =
    same_of_each (λ x. with_back back (f x)) (λ x. more_by back (f x)) xs
    (λ x has. back_exact back (f x) (unwrap_or (greatest_of (λ y. with_back back (f y)) xs) 0) small (λ n is. at_most (λ y. with_back back (f y)) xs x n has is))

some_of_map : (f : ℕ → ℕ) (o : Option ℕ) → IsSome (option_map f o) ↔ IsSome o
some_of_map f None = (λ h. h, λ h. h)
some_of_map f (Some n) = (λ h. h, λ h. h)

some_value : (o : Option ℕ) → IsSome o → ◌≢◌ {A = Option (Option ℕ)} (Some o) (Some None)
some_value o some same = let bad : false ≡ true = subst IsSome (some_same o None same) some in cc

value_some : (o : Option ℕ) → ◌≢◌ {A = Option (Option ℕ)} (Some o) (Some None) → IsSome o
value_some None not_none = absurd (not_none refl)
value_some (Some n) not_none = refl

-- ---- what is told

-- a method's number as a call adds it, where it costs nothing for loads or does
abbrev pub told_by : (back : ℕ) → (without_loads : Bool) → Known → Option ℕ
told_by back true k = k.asked
told_by back false k = more_by back k.full

module _ (P : Program) (t : Timing) (bound_of : BoundOf) (table : List Known) (m : ℕ) (p : Prepared) (starts : ReachesStarts P m) (ends : CalleesAreKnown P t table m) (h : IsPreparedFor P t bound_of table m p) where
  abbrev pub without : ℕ → Bool
  without q = is_without p.fits p.shape p.charges.flags.items q

  abbrev pub told : TargetValues
  told q x = Some (told_by (load P t.read m) (without q) (known_at table x))

  abbrev pub ToldEdge : Node → Node → Type 0
  ToldEdge = IsSectionEdge P m told

  pub may_call : (q x : ℕ) → IsReached (IsEdge P m) (At q) → IsTarget P m q x → MayCall P m x
  may_call q x r target = record { place = q; start = starts q r; call = target_calls P m q x target; is_target = target }

  told_ends : (b : Bool) (x : ℕ) → MayCall P m x → IsSome (told_by (load P t.read m) b (known_at table x)) ↔ CanEnd P x
  told_ends true x call = (ends x call).asked
  told_ends false x call =
      let s = some_of_map (λ n. n + load P t.read m) (known_at table x).full in
      let e = (ends x call).full in
      (λ some. e.0 (s.0 some), λ can. s.1 (e.1 can))

  -- ---- the graph

  edge_to : (u v : Node) → IsReached (IsEdge P m) u → IsLiveEdge P m u v → ToldEdge u v
  edge_to u v r e = record {
    edge = e.edge;
    goes_on =
        λ q y is_u is_v call.
        let A : Node → Type 0 = λ a. CanBeTaken P m a v in
        let B : Node → Type 0 = λ b. CanBeTaken P m (At q) b in
        let on : CanBeTaken P m (At q) (At y) = subst B is_v (subst A is_u e.goes_on) in
        let x = on call in
        let reached : IsReached (IsEdge P m) (At q) = subst (λ (a : Node). IsReached (IsEdge P m) a) is_u r in
        (x.0, x.1, some_value (told_by (load P t.read m) (without q) (known_at table x.0)) ((told_ends (without q) x.0 (may_call q x.0 reached x.1)).1 x.2));
  }

  goes_back : (u v : Node) → IsReached (IsEdge P m) u → ToldEdge u v → CanBeTaken P m u v
  goes_back (At q) (At y) r e = λ call.
      let x = e.goes_on q y refl refl call in
      (x.0, x.1, (told_ends (without q) x.0 (may_call q x.0 r x.1)).0 (value_some (told_by (load P t.read m) (without q) (known_at table x.0)) x.2))
  goes_back (At q) (RaiseAt y) r e = tt
  goes_back (RaiseAt q) (At y) r e = tt
  goes_back (RaiseAt q) (RaiseAt y) r e = tt

  edge_back : (u v : Node) → IsReached (IsEdge P m) u → ToldEdge u v → IsLiveEdge P m u v
  edge_back u v r e = record { edge = e.edge; goes_on = goes_back u v r e }

  pub reached_to : {u : Node} → IsReached (IsLiveEdge P m) u → IsReached ToldEdge u × IsReached (IsEdge P m) u
  reached_to r = reached_alike (IsLiveEdge P m) ToldEdge (IsReached (IsEdge P m)) first (λ s v i e. (edge_to s v i e, later i e.edge)) r

  pub reached_back : {u : Node} → IsReached ToldEdge u → IsReached (IsLiveEdge P m) u × IsReached (IsEdge P m) u
  reached_back r = reached_alike ToldEdge (IsLiveEdge P m) (IsReached (IsEdge P m)) first (λ s v i e. (edge_back s v i e, later i e.edge)) r

  pub told_graph : (g : Digraph) → IsLiveGraph P m g → IsGraphBy ToldEdge P m g
  told_graph g l = record {
    digraph = l.digraph;
    size = l.size;
    edges = λ u v. (
      λ e.
          let x = (l.edges u v).0 e in
          let r = reached_to x.reached in
          record { source = x.source; target = x.target; reached = r.0; edge = edge_to x.source x.target r.1 x.edge; numbered = x.numbered },
      λ x.
          let r = reached_back x.reached in
          (l.edges u v).1 (record { source = x.source; target = x.target; reached = r.0; edge = edge_back x.source x.target r.1 x.edge; numbered = x.numbered }),
    );
    exits = λ u. (
      λ e. let x = (l.exits u).0 e in record { node = x.node; reached = (reached_to x.reached).0; exit = x.exit; numbered = x.numbered },
      λ x. (l.exits u).1 (record { node = x.node; reached = (reached_back x.reached).0; exit = x.exit; numbered = x.numbered }),
    );
  }

  -- a node that a run can come to is one of the compact graph's
  node_listed : {u : Node} → IsReached (IsLiveEdge P m) u → Contains p.shape.nodes (number_of u)
  node_listed {u} r =
      let at = h.shape.compact.all (number_of u) (reachable P m h.graph h.is_live r) in
      let long = h.shape.long in
      let below = at.1 in
      subst (λ (x : ℕ). Contains p.shape.nodes x) at.2 (Contains-get_or p.shape.nodes at.0 0 (omega arith))

  -- ---- costs

  module _ (small : AreSmallAt p.shape.nodes p.costs.items) where
    abbrev adds : ℕ → ℕ
    adds q = adds_by P t table m (without q) q

    pub cost_is : (u : Node) → IsReached (IsLiveEdge P m) u
        → (own : ℕ) × IsOwnCost P t m u own × (slice_index p.costs.items (number_of u) ≡ own + added_at adds u) × (own + added_at adds u < cycles_limit)
    cost_is u r =
        let c = h.costs.each u r in
        let lt : slice_index p.costs.items (number_of u) < cycles_limit = All-contains (λ x. slice_index p.costs.items x < cycles_limit) p.shape.nodes (number_of u) small (node_listed r) in
        let e = exact (c.0 + added_at adds u) (subst (λ (n : ℕ). n < cycles_limit) c.2 lt) in
        (c.0, c.1, c.2 ∙ e.1, e.0)

    adds_exact : (b : Bool) (q : ℕ) → adds_by P t table m b q < cycles_limit → adds_by P t table m b q ≡ unwrap_or (greatest_of (λ x. told_by (load P t.read m) b (known_at table x)) (targets_of P m q)) 0
    adds_exact true q lt = refl
    adds_exact false q lt = ap (λ (o : Option ℕ). unwrap_or o 0) (greatest_exact (λ x. (known_at table x).full) (load P t.read m) (targets_of P m q) lt)

    same_adds : (u : Node) → added_at adds u < cycles_limit → added_at adds u ≡ added_at (λ q. added P m q (λ x. unwrap_or (told q x) None)) u
    same_adds (At q) lt = adds_exact (without q) q lt
    same_adds (RaiseAt q) lt = refl

    pub told_costs : AreCosts P t m ToldEdge (λ q. added P m q (λ x. unwrap_or (told q x) None)) h.graph p.costs.items
    told_costs = record {
      long = h.costs.long;
      each = λ u r.
          let c = cost_is u (reached_back r).0 in
          let lt = c.3 in
          (c.0, c.1, c.2 ∙ ap (λ (n : ℕ). c.0 + n) (same_adds u (omega arith)));
    }

    -- what a target adds is no more than what is added
    target_less : (b : Bool) (q x n : ℕ) → IsTarget P m q x → told_by (load P t.read m) b (known_at table x) ≡ Some n → adds_by P t table m b q < cycles_limit → n ≤ adds_by P t table m b q
    target_less b q x n target is lt = subst (λ (k : ℕ). n ≤ k) (sym (adds_exact b q lt)) (at_most (λ y. told_by (load P t.read m) b (known_at table y)) (targets_of P m q) x n target is)

    within : (own : ℕ) (o : Option ℕ) → ((n : ℕ) → o ≡ Some n → own + n < cycles_limit) → Some o ≡ within_limit own (Some o)
    within own None lt = refl
    within own (Some n) lt = let less = lt n refl in ap (λ (b : Bool). cond b (Some (Some n)) None) (sym (le-leb (own + n) most_cycles (omega arith)))

    pub told_within : (q x own : ℕ) → IsTarget P m q x → own + adds q < cycles_limit → told q x ≡ within_limit own (told q x)
    told_within q x own target lt =
        within own (told_by (load P t.read m) (without q) (known_at table x)) (λ n is. let le = target_less (without q) q x n target is (omega arith) in omega arith)

    pub told_small : (q x own : ℕ) → IsTarget P m q x → own + adds q < cycles_limit → (n : ℕ) → told_by (load P t.read m) (without q) (known_at table x) ≡ Some n → n < cycles_limit
    told_small q x own target lt n is = let le = target_less (without q) q x n target is (omega arith) in omega arith
