-- Graphs that are listed node by node, and those of the sample methods 1, 2 and 3.
use Rattle.std.proofs.Common.{◌≡◌, ◌≢◌, ◌⊎◌, ℕ, zero, suc, ◌*◌, ◌<◌, true, false, List, [], ◌∷◌, length, map, Contains, Some, None, pos, refl, sym, ap, subst, inl, inr, IsSomeAnd, arith}
use Rattle.std.specs.Int.{int_wrap}
use Rattle.std.specs.List.{AllAdjacentBelow}
use Rattle.std.specs.List.Sorted.{IsStrictlyIncreasing}
use Rattle.std.proofs.lemmas.List.Elements.{All-cons, All-nil}
use Rattle.opcodes.specs.Instruction.{decoded}
use Rattle.opcodes.specs.Row as opcodes
use Rattle.bytecode_model.specs.Program.{Program, body_of}
use Rattle.bytecode_model.specs.Table.{row_of}
use Rattle.lists.specs.Members.{at_head, in_tail, cons_cases, nil_contains, map_contains}
use Rattle.loop_nest.specs.Digraph.{Digraph, IsDigraph, IsBefore}
use Rattle.loop_nest.proofs.Elements.{from_map}
use Rattle.method_flow.specs.Nodes.{Node, At, RaiseAt, number_of, IsEdge, IsExit, IsReached}
use Rattle.method_flow.specs.Nodes.IsReached.{first, later}
use Rattle.method_flow.specs.Calls.{IsTarget}
use Rattle.method_flow.specs.Graphs.{IsGraphBy, IsReachedEdge, IsReachedExit}
use Rattle.method_flow.specs.Examples.{sample}
use Rattle.bound_rules.specs.Told.{TargetValues}
use Rattle.bound_rules.specs.Sections.{IsSectionEdge, IsSectionNode}

-- ---- listed graphs

abbrev numbers_of : Node × Node → ℕ × ℕ
numbers_of e = (number_of e.0, number_of e.1)

abbrev pub listed_graph : ℕ → List (Node × Node) → List Node → Digraph
listed_graph n es xs = record { nodes = n; edges = map numbers_of es; exits = map number_of xs }

module _ (IsEdgeIn : Node → Node → Type 0) (P : Program) (m : ℕ) where
  -- these are exactly the edges and the exits that are reached
  pub record AreListed (es : List (Node × Node)) (xs : List Node) : Type 0 where
    pub edges_are : (u v : Node) → Contains es (u, v) → IsReached IsEdgeIn u × IsEdgeIn u v
    pub edges_all : (u v : Node) → IsReached IsEdgeIn u → IsEdgeIn u v → Contains es (u, v)
    pub exits_are : (u : Node) → Contains xs u → IsReached IsEdgeIn u × IsExit P m u
    pub exits_all : (u : Node) → IsReached IsEdgeIn u → IsExit P m u → Contains xs u

  pub is_listed : (n : ℕ) (es : List (Node × Node)) (xs : List Node) → AreListed es xs → IsDigraph (listed_graph n es xs) → IsSomeAnd (body_of P m) (λ b. n ≡ 2 * length b.code) → IsGraphBy IsEdgeIn P m (listed_graph n es xs)
  is_listed n es xs listed digraph size = record { digraph = digraph; size = size; edges = λ u v. (to u v, from u v); exits = λ u. (exit_to u, exit_from u) }
    where
      to : (u v : ℕ) → Contains (map numbers_of es) (u, v) → IsReachedEdge IsEdgeIn u v
      to u v has =
          let r = from_map numbers_of es (u, v) has in
          let is = listed.edges_are r.0.0 r.0.1 r.1 in
          record { source = r.0.0; target = r.0.1; reached = is.0; edge = is.1; numbered = (ap (λ (e : ℕ × ℕ). e.0) (sym r.2), ap (λ (e : ℕ × ℕ). e.1) (sym r.2)) }

      from : (u v : ℕ) → IsReachedEdge IsEdgeIn u v → Contains (map numbers_of es) (u, v)
      from u v e =
          let has = map_contains numbers_of es (e.source, e.target) (listed.edges_all e.source e.target e.reached e.edge) in
          subst (λ (x : ℕ). Contains (map numbers_of es) (x, v)) (sym e.numbered.0) (subst (λ (y : ℕ). Contains (map numbers_of es) (number_of e.source, y)) (sym e.numbered.1) has)

      exit_to : (u : ℕ) → Contains (map number_of xs) u → IsReachedExit IsEdgeIn P m u
      exit_to u has =
          let r = from_map number_of xs u has in
          let is = listed.exits_are r.0 r.1 in
          record { node = r.0; reached = is.0; exit = is.1; numbered = sym r.2 }

      exit_from : (u : ℕ) → IsReachedExit IsEdgeIn P m u → Contains (map number_of xs) u
      exit_from u e = subst (λ (x : ℕ). Contains (map number_of xs) x) (sym e.numbered) (map_contains number_of xs e.node (listed.exits_all e.node e.reached e.exit))

-- ---- their edges

false_is : false ≡ true → ⊥
false_is e = absurd (cc)

at_offset : (n q : ℕ) → pos n ≡ pos q → q ≡ n
at_offset n q e = cc

-- a return leads nowhere
pub from_return : (w : Node) → IsEdge sample 1 (At 0) w → ⊥
unfolding decoded opcodes.row_of row_of int_wrap
from_return (At q) e = e
from_return (RaiseAt q) e = false_is e.1

-- the endless loop leads to itself
pub from_loop : (w : Node) → IsEdge sample 2 (At 0) w → w ≡ At 0
unfolding decoded opcodes.row_of row_of int_wrap
from_loop (At q) e = ap At (at_offset 0 q e)
from_loop (RaiseAt q) e = absurd (false_is e.1)

pub loop_edge : IsEdge sample 2 (At 0) (At 0)
unfolding decoded opcodes.row_of row_of int_wrap
loop_edge = refl

pub loop_no_exit : IsExit sample 2 (At 0) → ⊥
unfolding decoded opcodes.row_of row_of int_wrap
loop_no_exit e = e

-- the invoke leads behind itself and to its raise step
pub from_invoke : (w : Node) → IsEdge sample 3 (At 0) w → (w ≡ At 3) ⊎ (w ≡ RaiseAt 0)
unfolding decoded opcodes.row_of row_of int_wrap
from_invoke (At q) e = inl (ap At e)
from_invoke (RaiseAt q) e = inr (ap RaiseAt e.0)

pub from_raise : (w : Node) → IsEdge sample 3 (RaiseAt 0) w → ⊥
unfolding decoded opcodes.row_of row_of int_wrap
from_raise (At q) e = nil_contains e.entry e.among
from_raise (RaiseAt q) e = e

pub from_behind : (w : Node) → IsEdge sample 3 (At 3) w → ⊥
unfolding decoded opcodes.row_of row_of int_wrap
from_behind (At q) e = e
from_behind (RaiseAt q) e = false_is e.1

pub invoke_edges : IsEdge sample 3 (At 0) (At 3) × IsEdge sample 3 (At 0) (RaiseAt 0)
unfolding decoded opcodes.row_of row_of int_wrap
invoke_edges = (refl, (refl, refl))

pub return_exits : IsExit sample 1 (At 0) × IsExit sample 3 (At 3)
unfolding decoded opcodes.row_of row_of int_wrap
return_exits = (tt, tt)

pub invoke_no_exit : IsExit sample 3 (At 0) → ⊥
unfolding decoded opcodes.row_of row_of int_wrap
invoke_no_exit e = e

-- the invoke runs method 2, and nothing else does
pub invoke_target : IsTarget sample 3 0 2
unfolding decoded opcodes.row_of row_of int_wrap
invoke_target = at_head 2 []

pub target_is_loop : (x : ℕ) → IsTarget sample 3 0 x → x ≡ 2
unfolding decoded opcodes.row_of row_of int_wrap
target_is_loop x c = elim (cons_cases 2 x [] c) [ inl same ↦ sym same | inr there ↦ absurd (nil_contains x there) ]

pub no_target_behind : (x : ℕ) → IsTarget sample 3 3 x → ⊥
unfolding decoded opcodes.row_of row_of int_wrap
no_target_behind x c = nil_contains x c

pub no_target_of_return : (x : ℕ) → IsTarget sample 1 0 x → ⊥
unfolding decoded opcodes.row_of row_of int_wrap
no_target_of_return x c = nil_contains x c

-- ---- the graph of method 1

module _ (told : TargetValues) where
  pub only_return : {u : Node} → IsSectionNode sample 1 told u → u ≡ At 0
  only_return first = refl
  only_return (later {u} {v} reached e) = absurd (from_return v (subst (λ (x : Node). IsEdge sample 1 x v) (only_return reached) e.edge))

  pub return_graph : IsGraphBy (IsSectionEdge sample 1 told) sample 1 (listed_graph 2 [] (At 0 ∷ []))
  unfolding decoded opcodes.row_of row_of int_wrap
  return_graph =
      is_listed (IsSectionEdge sample 1 told) sample 1 2 [] (At 0 ∷ [])
      (record { edges_are = λ u v has. absurd (nil_contains {X = Node × Node} (u, v) has); edges_all = λ u v reached e. absurd (none u v reached e); exits_are = exits_are; exits_all = λ u reached e. subst (λ (x : Node). Contains (At 0 ∷ []) x) (sym (only_return reached)) (at_head (At 0) []) })
      (record {
        entry = omega arith;
        edges = record { ends = All-nil (λ (e : ℕ × ℕ). (e.0 < 2) × (e.1 < 2)); rising = λ k d below. absurd (omega arith) };
        exits = record { within = All-cons (λ (u : ℕ). u < 2) 0 [] (omega arith) (All-nil (λ (u : ℕ). u < 2)); rising = λ k below. absurd (omega arith) };
      })
      refl
    where
      none : (u v : Node) → IsSectionNode sample 1 told u → IsSectionEdge sample 1 told u v → ⊥
      none u v reached e = from_return v (subst (λ (x : Node). IsEdge sample 1 x v) (only_return reached) e.edge)

      exits_are : (u : Node) → Contains (At 0 ∷ []) u → IsSectionNode sample 1 told u × IsExit sample 1 u
      exits_are u has =
          elim (cons_cases (At 0) u [] has) [
            | inl same ↦ subst (λ (x : Node). IsSectionNode sample 1 told x × IsExit sample 1 x) same (first, return_exits.0)
            | inr none' ↦ absurd (nil_contains u none')
          ]

-- ---- the nodes of method 3

module _ (told : TargetValues) where
  pub nodes_of_call : {u : Node} → IsSectionNode sample 3 told u → (u ≡ At 0) ⊎ ((u ≡ At 3) ⊎ (u ≡ RaiseAt 0))
  nodes_of_call first = inl refl
  nodes_of_call (later {u} {v} reached e) = inr (by u (nodes_of_call reached) e.edge)
    where
      by : (w : Node) → (w ≡ At 0) ⊎ ((w ≡ At 3) ⊎ (w ≡ RaiseAt 0)) → IsEdge sample 3 w v → (v ≡ At 3) ⊎ (v ≡ RaiseAt 0)
      by w (inl at) edge = from_invoke v (subst (λ (x : Node). IsEdge sample 3 x v) at edge)
      by w (inr (inl at)) edge = absurd (from_behind v (subst (λ (x : Node). IsEdge sample 3 x v) at edge))
      by w (inr (inr at)) edge = absurd (from_raise v (subst (λ (x : Node). IsEdge sample 3 x v) at edge))

  pub raise_edge : IsSectionEdge sample 3 told (At 0) (RaiseAt 0)
  raise_edge = record { edge = invoke_edges.1; goes_on = λ p q is_u is_v call. absurd (apart q is_v) }
    where
      apart : (q : ℕ) → RaiseAt 0 ≡ At q → ⊥
      apart q e = absurd (cc)

  -- it goes on where method 2 isn't told to have no value
  pub on_edge : (told 0 2 ≢ Some None) → IsSectionEdge sample 3 told (At 0) (At 3)
  on_edge goes = record { edge = invoke_edges.0; goes_on = λ p q is_u is_v call. (2, at_place p is_u, λ none. goes (subst (λ (x : ℕ). told x 2 ≡ Some None) (sym (place p is_u)) none)) }
    where
      place : (p : ℕ) → At 0 ≡ At p → 0 ≡ p
      place p e = cc

      at_place : (p : ℕ) → At 0 ≡ At p → IsTarget sample 3 p 2
      at_place p e = subst (λ (x : ℕ). IsTarget sample 3 x 2) (place p e) invoke_target

  -- with both edges
  module _ (goes : told 0 2 ≢ Some None) where
    pub going_graph : IsGraphBy (IsSectionEdge sample 3 told) sample 3 (listed_graph 8 ((At 0, RaiseAt 0) ∷ (At 0, At 3) ∷ []) (RaiseAt 0 ∷ At 3 ∷ []))
    unfolding decoded opcodes.row_of row_of int_wrap
    going_graph =
        is_listed (IsSectionEdge sample 3 told) sample 3 8 ((At 0, RaiseAt 0) ∷ (At 0, At 3) ∷ []) (RaiseAt 0 ∷ At 3 ∷ [])
        (record { edges_are = edges_are; edges_all = λ u v reached e. edges_all u v (nodes_of_call reached) e.edge; exits_are = exits_are; exits_all = λ u reached e. exits_all u (nodes_of_call reached) e })
        (record {
          entry = omega arith;
          edges = record { ends = All-cons Below (0, 1) ((0, 6) ∷ []) (omega arith, omega arith) (All-cons Below (0, 6) [] (omega arith, omega arith) (All-nil Below)); rising = rising };
          exits = record { within = All-cons (λ (u : ℕ). u < 8) 1 (6 ∷ []) (omega arith) (All-cons (λ (u : ℕ). u < 8) 6 [] (omega arith) (All-nil (λ (u : ℕ). u < 8))); rising = exits_rise };
        })
        refl
      where
        Below : ℕ × ℕ → Type 0
        Below e = (e.0 < 8) × (e.1 < 8)

        rising : AllAdjacentBelow {X = ℕ × ℕ} IsBefore ((0, 1) ∷ (0, 6) ∷ []) 2
        rising zero d below = inr (refl, omega arith)
        rising (suc k) d below = absurd (omega arith)

        exits_rise : IsStrictlyIncreasing (1 ∷ 6 ∷ [])
        exits_rise zero below = omega arith
        exits_rise (suc k) below = absurd (omega arith)

        edges_are : (u v : Node) → Contains {X = Node × Node} ((At 0, RaiseAt 0) ∷ (At 0, At 3) ∷ []) (u, v) → IsSectionNode sample 3 told u × IsSectionEdge sample 3 told u v
        edges_are u v has =
            let K : Node × Node → Type 0 = λ e. IsSectionNode sample 3 told e.0 × IsSectionEdge sample 3 told e.0 e.1 in
            elim (cons_cases {X = Node × Node} (At 0, RaiseAt 0) (u, v) ((At 0, At 3) ∷ []) has) [
              | inl same ↦ subst K same (first, raise_edge)
              | inr more ↦
                  elim (cons_cases {X = Node × Node} (At 0, At 3) (u, v) [] more) [
                    | inl same ↦ subst K same (first, on_edge goes)
                    | inr none ↦ absurd (nil_contains {X = Node × Node} (u, v) none)
                  ]
            ]

        edges_all : (u v : Node) → (u ≡ At 0) ⊎ ((u ≡ At 3) ⊎ (u ≡ RaiseAt 0)) → IsEdge sample 3 u v → Contains {X = Node × Node} ((At 0, RaiseAt 0) ∷ (At 0, At 3) ∷ []) (u, v)
        edges_all u v (inl at) e =
            let K : Node → Type 0 = λ x. Contains {X = Node × Node} ((At 0, RaiseAt 0) ∷ (At 0, At 3) ∷ []) (x, v) in
            let L : Node → Type 0 = λ x. Contains {X = Node × Node} ((At 0, RaiseAt 0) ∷ (At 0, At 3) ∷ []) (At 0, x) in
            subst K (sym at) (elim (from_invoke v (subst (λ (x : Node). IsEdge sample 3 x v) at e)) [
              | inl on ↦ subst L (sym on) (in_tail {X = Node × Node} (At 0, RaiseAt 0) (At 0, At 3) ((At 0, At 3) ∷ []) (at_head {X = Node × Node} (At 0, At 3) []))
              | inr raises ↦ subst L (sym raises) (at_head {X = Node × Node} (At 0, RaiseAt 0) ((At 0, At 3) ∷ []))
            ])
        edges_all u v (inr (inl at)) e = absurd (from_behind v (subst (λ (x : Node). IsEdge sample 3 x v) at e))
        edges_all u v (inr (inr at)) e = absurd (from_raise v (subst (λ (x : Node). IsEdge sample 3 x v) at e))

        exits_are : (u : Node) → Contains (RaiseAt 0 ∷ At 3 ∷ []) u → IsSectionNode sample 3 told u × IsExit sample 3 u
        exits_are u has =
            let K : Node → Type 0 = λ x. IsSectionNode sample 3 told x × IsExit sample 3 x in
            elim (cons_cases (RaiseAt 0) u (At 3 ∷ []) has) [
              | inl same ↦ subst K same (later first raise_edge, tt)
              | inr more ↦ elim (cons_cases (At 3) u [] more) [ inl same ↦ subst K same (later first (on_edge goes), return_exits.1) | inr none ↦ absurd (nil_contains u none) ]
            ]

        exits_all : (u : Node) → (u ≡ At 0) ⊎ ((u ≡ At 3) ⊎ (u ≡ RaiseAt 0)) → IsExit sample 3 u → Contains (RaiseAt 0 ∷ At 3 ∷ []) u
        exits_all u (inl at) e = absurd (invoke_no_exit (subst (λ (x : Node). IsExit sample 3 x) at e))
        exits_all u (inr (inl at)) e = subst (λ (x : Node). Contains (RaiseAt 0 ∷ At 3 ∷ []) x) (sym at) (in_tail (RaiseAt 0) (At 3) (At 3 ∷ []) (at_head (At 3) []))
        exits_all u (inr (inr at)) e = subst (λ (x : Node). Contains (RaiseAt 0 ∷ At 3 ∷ []) x) (sym at) (at_head (RaiseAt 0) (At 3 ∷ []))

  -- with the edge to the raise step alone
  module _ (never : told 0 2 ≡ Some None) where
    no_on_edge : IsSectionEdge sample 3 told (At 0) (At 3) → ⊥
    unfolding decoded opcodes.row_of row_of int_wrap
    no_on_edge e = let g = e.goes_on 0 3 refl refl refl in g.2 (subst (λ (x : ℕ). told 0 x ≡ Some None) (sym (target_is_loop g.0 g.1)) never)

    pub nodes_of_never : {u : Node} → IsSectionNode sample 3 told u → (u ≡ At 0) ⊎ (u ≡ RaiseAt 0)
    nodes_of_never first = inl refl
    nodes_of_never (later {u} {v} reached e) = inr (by u (nodes_of_never reached) e)
      where
        by : (w : Node) → (w ≡ At 0) ⊎ (w ≡ RaiseAt 0) → IsSectionEdge sample 3 told w v → v ≡ RaiseAt 0
        by w (inr at) edge = absurd (from_raise v (subst (λ (x : Node). IsSectionEdge sample 3 told x v) at edge).edge)
        by w (inl at) edge =
            let here = subst (λ (x : Node). IsSectionEdge sample 3 told x v) at edge in
            elim (from_invoke v here.edge) [ inl on ↦ absurd (no_on_edge (subst (λ (x : Node). IsSectionEdge sample 3 told (At 0) x) on here)) | inr raises ↦ raises ]

    pub never_graph : IsGraphBy (IsSectionEdge sample 3 told) sample 3 (listed_graph 8 ((At 0, RaiseAt 0) ∷ []) (RaiseAt 0 ∷ []))
    unfolding decoded opcodes.row_of row_of int_wrap
    never_graph =
        is_listed (IsSectionEdge sample 3 told) sample 3 8 ((At 0, RaiseAt 0) ∷ []) (RaiseAt 0 ∷ [])
        (record { edges_are = edges_are; edges_all = λ u v reached e. edges_all u v (nodes_of_never reached) e; exits_are = exits_are; exits_all = λ u reached e. exits_all u (nodes_of_never reached) e })
        (record {
          entry = omega arith;
          edges = record { ends = All-cons (λ (e : ℕ × ℕ). (e.0 < 8) × (e.1 < 8)) (0, 1) [] (omega arith, omega arith) (All-nil (λ (e : ℕ × ℕ). (e.0 < 8) × (e.1 < 8))); rising = λ k d below. absurd (omega arith) };
          exits = record { within = All-cons (λ (u : ℕ). u < 8) 1 [] (omega arith) (All-nil (λ (u : ℕ). u < 8)); rising = λ k below. absurd (omega arith) };
        })
        refl
      where
        edges_are : (u v : Node) → Contains {X = Node × Node} ((At 0, RaiseAt 0) ∷ []) (u, v) → IsSectionNode sample 3 told u × IsSectionEdge sample 3 told u v
        edges_are u v has =
            elim (cons_cases {X = Node × Node} (At 0, RaiseAt 0) (u, v) [] has) [
              | inl same ↦ subst (λ (e : Node × Node). IsSectionNode sample 3 told e.0 × IsSectionEdge sample 3 told e.0 e.1) same (first, raise_edge)
              | inr none ↦ absurd (nil_contains {X = Node × Node} (u, v) none)
            ]

        edges_all : (u v : Node) → (u ≡ At 0) ⊎ (u ≡ RaiseAt 0) → IsSectionEdge sample 3 told u v → Contains {X = Node × Node} ((At 0, RaiseAt 0) ∷ []) (u, v)
        edges_all u v (inr at) e = absurd (from_raise v (subst (λ (x : Node). IsSectionEdge sample 3 told x v) at e).edge)
        edges_all u v (inl at) e =
            let here = subst (λ (x : Node). IsSectionEdge sample 3 told x v) at e in
            let K : Node → Type 0 = λ x. Contains {X = Node × Node} ((At 0, RaiseAt 0) ∷ []) (x, v) in
            let L : Node → Type 0 = λ x. Contains {X = Node × Node} ((At 0, RaiseAt 0) ∷ []) (At 0, x) in
            subst K (sym at) (elim (from_invoke v here.edge) [
              | inl on ↦ absurd (no_on_edge (subst (λ (x : Node). IsSectionEdge sample 3 told (At 0) x) on here))
              | inr raises ↦ subst L (sym raises) (at_head {X = Node × Node} (At 0, RaiseAt 0) [])
            ])

        exits_are : (u : Node) → Contains (RaiseAt 0 ∷ []) u → IsSectionNode sample 3 told u × IsExit sample 3 u
        exits_are u has =
            elim (cons_cases (RaiseAt 0) u [] has) [
              | inl same ↦ subst (λ (x : Node). IsSectionNode sample 3 told x × IsExit sample 3 x) same (later first raise_edge, tt)
              | inr none ↦ absurd (nil_contains u none)
            ]

        exits_all : (u : Node) → (u ≡ At 0) ⊎ (u ≡ RaiseAt 0) → IsExit sample 3 u → Contains (RaiseAt 0 ∷ []) u
        exits_all u (inl at) e = absurd (invoke_no_exit (subst (λ (x : Node). IsExit sample 3 x) at e))
        exits_all u (inr at) e = subst (λ (x : Node). Contains (RaiseAt 0 ∷ []) x) (sym at) (at_head (RaiseAt 0) [])
