-- The edges of a method's code are its edges in a program.
use Rattle.std.proofs.Common.{◌≡◌, ℕ, ◌+◌, ◌*◌, ◌<◌, ◌≤◌, Bool, true, false, List, length, map, Contains, Option, Some, None, refl, sym, ap, ◌∙◌, subst}
use Rattle.std.specs.Prelude.{Ok, IsSome, IsSomeAnd, slice_get}
use Rattle.std.proofs.lemmas.List.Elements.{All-contains}
use Rattle.opcodes.specs.declared.instruction.Instr.{Instr}
use Rattle.opcodes.specs.declared.table.Kind.{Kind}
use Rattle.opcodes.specs.declared.table.Kind.TheVariants.{Plain, Branch, Jump, Switch, Return, Throw, Invoke}
use Rattle.opcodes.specs.Instruction.{decoded}
use Rattle.opcodes.specs.Row as opcodes
use Rattle.opcodes.specs.Start.{IsStart, AreStarts}
use Rattle.opcodes.specs.Target as operands
use Rattle.bytecode_model.specs.Program.{Program, Body, body_of, instr_at, as_instr}
use Rattle.bytecode_model.specs.Lists as model
use Rattle.bytecode_model.specs.Rows.{Row}
use Rattle.bytecode_model.specs.Steps.{row_in}
use Rattle.lists.proofs.Lemmas.{some_is, some_in, holds_at}
use Rattle.lists.specs.Members.{map_contains}
use Rattle.loop_nest.specs.Digraph.{Digraph}
use Rattle.loop_nest.proofs.Elements.{from_map}
use Rattle.method_flow.specs.declared.flow.HandlerRange.{HandlerRange}
use Rattle.method_flow.specs.declared.flow.Call.{Call}
use Rattle.method_flow.specs.Flow.{Coded, IsCoded, IsCodedOf, IsRangeOf, range_of}
use Rattle.method_flow.specs.Graphs.{IsGraphBy, IsGraphOf}
use Rattle.method_flow.specs.Kinds.{LeadsByKind, IsOfKind, RowsAreOfTheirKinds}
use Rattle.method_flow.specs.Nodes.{Node, At, RaiseAt, LeadsTo, IsEdge, IsExit, IsReturn, IsReached, IsHandled, OnRow, MayRaise}
use Rattle.method_flow.specs.Nodes.IsReached.{first, later}
use Rattle.flow_graph.specs.Edges.{Leads, RaisesAt, IsCaught, CodeEdge, CodeExit, IsCodeGraph, is_return, raises_in, returns_in}
use Rattle.flow_graph.specs.Where.{IsEdgeWhere, GoesWhere}

-- ---- instructions

pub same_instr : (code : List ℕ) (p : ℕ) (a b : Instr) → decoded code p ≡ Ok a → decoded code p ≡ Ok b → a ≡ b
same_instr code p a b ea eb = cc

-- ---- nodes at instructions

abbrev pub IsPlaced : Coded → Node → Type 0
IsPlaced k (At p) = IsStart k.code p
IsPlaced k (RaiseAt p) = RaisesAt k.code p

pub source_placed : (k : Coded) (goes : List Bool) (s t : Node) → CodeEdge k goes s t → IsPlaced k s
source_placed k goes (At p) (At q) e = e.0.at.start
source_placed k goes (At p) (RaiseAt q) e = e.1.start
source_placed k goes (RaiseAt p) (At q) e = e.0
source_placed k goes (RaiseAt p) (RaiseAt q) e = absurd e

-- control stays at instructions
pub target_placed : (k : Coded) (goes : List Bool) → IsCoded k → (s t : Node) → CodeEdge k goes s t → IsPlaced k t
target_placed k goes c (At p) (At q) e =
    let l = e.0 in
    let stays = c.instructions p l.at.start in
    let P : Instr → Type 0 = λ i. LeadsByKind (opcodes.row_of i.op).kind (operands.targets_of k.code p i) (p + i.length) q in
    stays.leads q (subst P (same_instr k.code p l.instr stays.instr l.at.is stays.is) l.leads)
target_placed k goes c (At p) (RaiseAt q) e = subst (RaisesAt k.code) (sym e.0) e.1
target_placed k goes c (RaiseAt p) (At q) e =
    let h = e.1 in
    subst (IsStart k.code) h.handler (All-contains (IsRangeOf k.code) k.ranges h.range c.ranges h.among).handler
target_placed k goes c (RaiseAt p) (RaiseAt q) e = absurd e

-- ---- nodes that are reached alike

pub reached_alike : (E F : Node → Node → Type 0) (I : Node → Type 0) → I (At 0) → ((s t : Node) → I s → E s t → F s t × I t) → {s : Node} → IsReached E s → IsReached F s × I s
reached_alike E F I start step first = (first, start)
reached_alike E F I start step (later {u} {v} r e) =
    let h = reached_alike E F I start step r in
    let f = step u v h.1 e in
    (later h.0 f.0, f.1)

pub graph_alike : (E F : Node → Node → Type 0) → ((s t : Node) → E s t → F s t) → ((s t : Node) → F s t → E s t) → (P : Program) (n : ℕ) (g : Digraph) → IsGraphBy E P n g → IsGraphBy F P n g
graph_alike E F to back P n g h =
    let there : (s : Node) → IsReached E s → IsReached F s = λ s r. (reached_alike E F (λ _. Unit {0}) tt (λ s t _ e. (to s t e, tt)) r).0 in
    let again : (s : Node) → IsReached F s → IsReached E s = λ s r. (reached_alike F E (λ _. Unit {0}) tt (λ s t _ e. (back s t e, tt)) r).0 in
    record {
      digraph = h.digraph;
      size = h.size;
      edges = λ u v. (
        λ e. let x = (h.edges u v).0 e in record { source = x.source; target = x.target; reached = there x.source x.reached; edge = to x.source x.target x.edge; numbered = x.numbered },
        λ x. (h.edges u v).1 (record { source = x.source; target = x.target; reached = again x.source x.reached; edge = back x.source x.target x.edge; numbered = x.numbered }),
      );
      exits = λ u. (
        λ e. let x = (h.exits u).0 e in record { node = x.node; reached = there x.node x.reached; exit = x.exit; numbered = x.numbered },
        λ x. (h.exits u).1 (record { node = x.node; reached = again x.node x.reached; exit = x.exit; numbered = x.numbered }),
      );
    }

goes_anyway : (calls : List Call) (goes : List Bool) → ((i : ℕ) (c : Call) → slice_get calls i ≡ Some c → slice_get goes i ≡ Some true) → (s t : Node) → GoesWhere calls goes s t
goes_anyway calls goes all (At p) (At q) = λ i c is at. all i c is
goes_anyway calls goes all (At p) (RaiseAt q) = tt
goes_anyway calls goes all (RaiseAt p) (At q) = tt
goes_anyway calls goes all (RaiseAt p) (RaiseAt q) = tt

pub where_all_go_on : (P : Program) (n : ℕ) (calls : List Call) (goes : List Bool) (g : Digraph) → ((i : ℕ) (c : Call) → slice_get calls i ≡ Some c → slice_get goes i ≡ Some true) → IsGraphBy (IsEdgeWhere P n calls goes) P n g → IsGraphOf P n g
where_all_go_on P n calls goes g all h =
    graph_alike (IsEdgeWhere P n calls goes) (IsEdge P n) (λ s t e. e.edge) (λ s t e. record { edge = e; goes_on = goes_anyway calls goes all s t }) P n g h

-- ---- in a program

is_return_kind : (kind : Kind) → is_return kind ≡ true → kind ≡ Return
is_return_kind Plain e = absurd (cc)
is_return_kind Branch e = absurd (cc)
is_return_kind Jump e = absurd (cc)
is_return_kind Switch e = absurd (cc)
is_return_kind Return e = refl
is_return_kind Throw e = absurd (cc)
is_return_kind Invoke e = absurd (cc)

module _ (starts : (code : List ℕ) → AreStarts code) (rows : RowsAreOfTheirKinds) (P : Program) (n : ℕ) (k : Coded) (goes : List Bool) (c : IsCoded k) (of : IsCodedOf P n k) where
  abbrev E : Node → Node → Type 0
  E = IsEdgeWhere P n k.calls goes

  body : (b : Body) × (body_of P n ≡ Some b) × ((b.code ≡ k.code) × (map range_of b.handlers ≡ k.ranges))
  body = some_is (body_of P n) (λ b. (b.code ≡ k.code) × (map range_of b.handlers ≡ k.ranges)) of.body

  -- the instruction and the row at a start
  instr_is : (p : ℕ) (i : Instr) → decoded k.code p ≡ Ok i → instr_at P n p ≡ Some i
  instr_is p i is =
      ap (λ o. model.onto o (λ (b : Body). as_instr (decoded b.code p))) body.1
      ∙ ap (λ (code : List ℕ). as_instr (decoded code p)) body.2.0
      ∙ ap as_instr is

  some_there : {A : Type 0} (o : Option A) → IsSome o → (x : A) × (o ≡ Some x)
  some_there None h = absurd (let f : false ≡ true = h in cc)
  some_there (Some x) h = (x, refl)

  pub row_kind : (p : ℕ) → IsStart k.code p → (i : Instr) → decoded k.code p ≡ Ok i
      → (r : Row) × (row_in P n p ≡ Some (p + i.length, r)) × IsOfKind (opcodes.row_of i.op).kind (operands.targets_of k.code p i) p (p + i.length) r
  row_kind p start i is =
      let x = some_there (row_in P n p) (of.rows p start) in
      let h = rows P n p x.0.0 body.0 i x.0.1 body.1 (instr_is p i is) x.1 in
      let R : ℕ → Type 0 = λ next. row_in P n p ≡ Some (next, x.0.1) in
      let K : ℕ → Type 0 = λ next. IsOfKind (opcodes.row_of i.op).kind (operands.targets_of body.0.code p i) p next x.0.1 in
      let C : List ℕ → Type 0 = λ code. IsOfKind (opcodes.row_of i.op).kind (operands.targets_of code p i) p (p + i.length) x.0.1 in
      (x.0.1, subst R h.0 x.1, subst C body.2.0 (subst K h.0 h.1))

  leads_to : (p q : ℕ) → IsStart k.code p → OnRow P n p (λ next r. LeadsTo p next r q) → Leads k.code p q
  leads_to p q start on =
      let i = (c.instructions p start).instr in
      let is = (c.instructions p start).is in
      let r = row_kind p start i is in
      let l : LeadsTo p (p + i.length) r.0 q = holds_at (row_in P n p) (p + i.length, r.0) (λ x. LeadsTo p x.0 x.1 q) r.1 on in
      record { instr = i; at = record { start = start; is = is }; leads = (r.2.leads q).0 l }

  leads_back : (p q : ℕ) → Leads k.code p q → OnRow P n p (λ next r. LeadsTo p next r q)
  leads_back p q l =
      let r = row_kind p l.at.start l.instr l.at.is in
      some_in (row_in P n p) (p + l.instr.length, r.0) (λ x. LeadsTo p x.0 x.1 q) r.1 ((r.2.leads q).1 l.leads)

  raises_to : (p : ℕ) → IsStart k.code p → MayRaise P n p → RaisesAt k.code p
  raises_to p start may =
      let i = (c.instructions p start).instr in
      let is = (c.instructions p start).is in
      record { start = start; raises = ap raises_in is ∙ holds_at (instr_at P n p) i (λ x. (opcodes.row_of x.op).raises ≡ true) (instr_is p i is) may }

  raises_back : (p : ℕ) → RaisesAt k.code p → MayRaise P n p
  raises_back p h =
      let i = (c.instructions p h.start).instr in
      let is = (c.instructions p h.start).is in
      some_in (instr_at P n p) i (λ x. (opcodes.row_of x.op).raises ≡ true) (instr_is p i is) (sym (ap raises_in is) ∙ h.raises)

  caught_to : (p q : ℕ) → IsSomeAnd (body_of P n) (λ b. IsHandled b.handlers p q) → IsCaught k.ranges p q
  caught_to p q on =
      let h = holds_at (body_of P n) body.0 (λ b. IsHandled b.handlers p q) body.1 on in
      let R : List HandlerRange → Type 0 = λ rs. Contains rs (range_of h.entry) in
      record { range = range_of h.entry; among = subst R body.2.1 (map_contains range_of body.0.handlers h.entry h.among); from = h.from; to = h.to; handler = h.handler }

  caught_back : (p q : ℕ) → IsCaught k.ranges p q → IsSomeAnd (body_of P n) (λ b. IsHandled b.handlers p q)
  caught_back p q h =
      let R : List HandlerRange → Type 0 = λ rs. Contains rs h.range in
      let m = from_map range_of body.0.handlers h.range (subst R (sym body.2.1) h.among) in
      let F : HandlerRange → Type 0 = λ r. (r.start ≤ p) × (p < r.end) × (r.handler ≡ q) in
      let at : F (range_of m.0) = subst F (sym m.2) (h.from, h.to, h.handler) in
      some_in (body_of P n) body.0 (λ b. IsHandled b.handlers p q) body.1 (record { entry = m.0; among = m.1; from = at.0; to = at.1; handler = at.2 })

  edge_to : (s t : Node) → IsPlaced k s → E s t → CodeEdge k goes s t
  edge_to (At p) (At q) start e = (leads_to p q start e.edge, e.goes_on)
  edge_to (At p) (RaiseAt q) start e = (e.edge.0, raises_to p start e.edge.1)
  edge_to (RaiseAt p) (At q) raises e = (raises, caught_to p q e.edge)
  edge_to (RaiseAt p) (RaiseAt q) raises e = e.edge

  edge_back : (s t : Node) → CodeEdge k goes s t → E s t
  edge_back (At p) (At q) e = record { edge = leads_back p q e.0; goes_on = e.1 }
  edge_back (At p) (RaiseAt q) e = record { edge = (e.0, raises_back p e.1); goes_on = tt }
  edge_back (RaiseAt p) (At q) e = record { edge = caught_back p q e.1; goes_on = tt }
  edge_back (RaiseAt p) (RaiseAt q) e = absurd e

  exit_to : (s : Node) → IsPlaced k s → IsExit P n s → CodeExit k.code s
  exit_to (At p) start on =
      let i = (c.instructions p start).instr in
      let is = (c.instructions p start).is in
      let r = row_kind p start i is in
      let l : IsReturn r.0 = holds_at (row_in P n p) (p + i.length, r.0) (λ x. IsReturn x.1) r.1 on in
      ap returns_in is ∙ ap is_return (r.2.returns.0 l)
  exit_to (RaiseAt p) raises on = tt

  exit_back : (s : Node) → IsPlaced k s → CodeExit k.code s → IsExit P n s
  exit_back (At p) start e =
      let i = (c.instructions p start).instr in
      let is = (c.instructions p start).is in
      let r = row_kind p start i is in
      some_in (row_in P n p) (p + i.length, r.0) (λ x. IsReturn x.1) r.1 (r.2.returns.1 (is_return_kind (opcodes.row_of i.op).kind (sym (ap returns_in is) ∙ e)))
  exit_back (RaiseAt p) raises e = tt

  first_placed : IsPlaced k (At 0)
  first_placed = (starts k.code).first c.not_empty

  reached_to : {s : Node} → IsReached E s → IsReached (CodeEdge k goes) s × IsPlaced k s
  reached_to r = reached_alike E (CodeEdge k goes) (IsPlaced k) first_placed (λ s t placed e. let f = edge_to s t placed e in (f, target_placed k goes c s t f)) r

  reached_back : {s : Node} → IsReached (CodeEdge k goes) s → IsReached E s × IsPlaced k s
  reached_back r = reached_alike (CodeEdge k goes) E (IsPlaced k) first_placed (λ s t placed e. (edge_back s t e, target_placed k goes c s t e)) r

  pub is_graph : (g : Digraph) → IsCodeGraph k goes g → IsGraphBy E P n g
  is_graph g h = record {
    digraph = h.digraph;
    size = some_in (body_of P n) body.0 (λ b. g.nodes ≡ 2 * length b.code) body.1 (h.size ∙ ap (λ (code : List ℕ). 2 * length code) (sym body.2.0));
    edges = λ u v. (
      λ e. let x = (h.edges u v).0 e in record { source = x.source; target = x.target; reached = (reached_back x.reached).0; edge = edge_back x.source x.target x.edge; numbered = x.numbered },
      λ x.
          let r = reached_to x.reached in
          (h.edges u v).1 (record { source = x.source; target = x.target; reached = r.0; edge = edge_to x.source x.target r.1 x.edge; numbered = x.numbered }),
    );
    exits = λ u. (
      λ e. let x = (h.exits u).0 e in let r = reached_back x.reached in record { node = x.node; reached = r.0; exit = exit_back x.node r.1 x.exit; numbered = x.numbered },
      λ x. let r = reached_to x.reached in (h.exits u).1 (record { node = x.node; reached = r.0; exit = exit_to x.node r.1 x.exit; numbered = x.numbered }),
    );
  }
