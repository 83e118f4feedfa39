-- A constant that is stored on the one way into a loop is what the local variable begins with there.
use Rattle.std.proofs.Common.{◌≡◌, ℕ, ℤ, Bool, [], ◌∷◌, Option, Some, refl, sym, ap, subst, inl, inr}
use Rattle.std.specs.Prelude.{◌≢◌}
use Rattle.std.proofs.lemmas.Bool.{cases_eq}
use Rattle.lists.specs.Members.{cons_cases, nil_contains}
use Rattle.bytecode_model.specs.Program.{Program}
use Rattle.bytecode_model.specs.Rows as rows
use Rattle.loop_nest.specs.Digraph.{Digraph, Edge}
use Rattle.loop_nest.specs.Walks.{Dominates, IsHeader, IsBackEdge, IsEntering}
use Rattle.loop_nest.specs.Walks.Walk.{stay}
use Rattle.loop_nest.specs.Laws.{EntryDominatesAll}
use Rattle.method_flow.specs.Nodes.{Node, At, number_of, IsEdge, IsReached}
use Rattle.method_flow.specs.Graphs.{IsGraphOf}
use Rattle.code_lines.specs.Lines.{IsLine}
use Rattle.loop_rules.specs.Tests.{PushesLimit, IsLimit, IsTest}
use Rattle.loop_rules.specs.Tests.IsLimit.{constant, field}
use Rattle.loop_rules.specs.Tests.IsTest.{with_zero, with_limit}
use Rattle.loop_rules.specs.Iterations.{LastWrite, IsSetBefore}
use Rattle.loop_rules.specs.Iterations.LastWrite.{here as writes_here, before as writes_before}
use Rattle.loop_rules.specs.Further.Writing.{NodeWrites, MayBeLast}
use Rattle.loop_rules.specs.Further.Writing.MayBeLast.{here as last_here, unwritten, before as last_before}
use Rattle.loop_rules.specs.Further.Known.{Known, Pushes, Stores}
use Rattle.loop_rules.specs.Further.Known.Pushes.{constant as push_constant, field as push_field}
use Rattle.loop_rules.specs.Further.Known.Stores.{stores}
use Rattle.loop_rules.specs.Further.Beginning.{BeginsAt}
use Rattle.loop_rules.specs.Further.Laws.{LastWritesAreReached}
use Rattle.counted_laws.specs.Counting.{CountedLoopsAreFurther}
use Rattle.counted_laws.proofs.Visiting.{same_node}

module _ (reach : LastWritesAreReached) (entry : EntryDominatesAll) (P : Program) (known : Known) (m : ℕ) (g : Digraph) (of : IsGraphOf P m g) where
  -- ---- the last write

  taken : (u v : Node) → IsReached (IsEdge P m) u → IsEdge P m u v → Edge g (number_of u) (number_of v)
  taken u v come edge = (of.edges (number_of u) (number_of v)).1 (record { source = u; target = v; reached = come; edge = edge; numbered = (refl, refl) })

  same_at : (a b : ℕ) → At a ≡ At b → a ≡ b
  same_at a b e = cc

  -- at the write itself
  at_write : {k : ℕ} (p : ℕ) → NodeWrites P m (At p) k → {v : Node} {o : Option ℕ} → MayBeLast P m k v o → v ≡ At p → o ≡ Some p
  at_write {k} p writes (last_here {p = q} come w) at = ap Some (same_at q p at)
  at_write {k} p writes (unwritten none) at = absurd (none (subst (λ (x : Node). NodeWrites P m x k) (sym at) writes))
  at_write {k} p writes (last_before {u = b} {v = y} {w = o} last edge none) at = absurd (none (subst (λ (x : Node). NodeWrites P m x k) (sym at) writes))

  -- behind a node that isn't entered but from one, of which it is so
  behind : {k : ℕ} (u b : Node) (place : ℕ) → ((q : ℕ) → u ≡ At q → NodeWrites P m (At q) k → ⊥) → number_of u ≢ 0 → ((z : ℕ) → Edge g z (number_of u) → z ≡ number_of b)
      → ((v : Node) (o : Option ℕ) → v ≡ b → MayBeLast P m k v o → o ≡ Some place) → {v : Node} {o : Option ℕ} → MayBeLast P m k v o → v ≡ u → o ≡ Some place
  behind {k} u b place quiet nonzero alone further (last_here {p = q} come w) at = absurd (quiet q (sym at) w)
  behind {k} u b place quiet nonzero alone further (unwritten none) at = absurd (nonzero (ap number_of (sym at)))
  behind {k} u b place quiet nonzero alone further (last_before {u = c} {v = y} {w = o} last edge none) at =
      let here : Edge g (number_of c) (number_of u) = subst (λ (x : Node). Edge g (number_of c) (number_of x)) at (taken c y (reach P m k c o last) edge) in
      further c o (same_node c b (alone (number_of c) here)) last

  -- where each way leads by the write, it is the last one
  only_last : {k : ℕ} {u : Node} {place : ℕ} → LastWrite P m g k u place → (v : Node) (o : Option ℕ) → v ≡ u → MayBeLast P m k v o → o ≡ Some place
  only_last (writes_here {p} writes) v o at last = at_write p writes last at
  only_last (writes_before {u} {w} {p} quiet nonzero edge alone further) v o at last = behind u w p quiet nonzero alone (λ x q e l. only_last further x q e l) last at

  -- ---- the loop

  -- a loop that is entered isn't that of the first instruction
  not_first : (h u : ℕ) → IsEntering g h u h → h ≢ 0
  not_first h u enters zero' =
      let edge : IsBackEdge g u h = record { edge = enters.edge; dominates = subst (λ (z : ℕ). Dominates g z u) (sym zero') (entry g u) } in
      let header : IsHeader g h = (u, edge) in
      enters.outside (elim (cases_eq u h) [
        | inl at ↦ (header, inl at)
        | inr differ ↦ (header, inr (record { source = u; back_edge = edge; leads = (u ∷ [], stay, λ c. elim (cons_cases u h [] c) [ inl same ↦ differ same | inr none ↦ nil_contains h none ]) }))
      ])

  begins : (h local : ℕ) (c : ℤ) → IsSetBefore P m g h local c → BeginsAt P known m g h local c
  begins h local c set = record {
    entered = not_first h (number_of set.source) set.enters;
    stored = λ u o enters last.
        let source : u ≡ set.source = same_node u set.source (set.alone (number_of u) enters) in
        let write : o ≡ Some set.place = only_last set.last u o source last in
        subst (λ (x : Option ℕ). Stores P known m local x c) (sym write) (stores (push_constant set.pushed.push) set.store set.pushed.alone);
  }

-- what one line pushes is known
limit_known : (P : Program) (known : Known) (m from to : ℕ) (c : ℤ) → PushesLimit P known.constants m from to c → Pushes P known m from to c
limit_known P known m from to c (r, line, limit) = by r line limit
  where
    by : (r : rows.Row) → IsLine P m from to r → IsLimit P known.constants r c → Pushes P known m from to c
    by r line (constant) = push_constant line
    by r line (field is never) = push_field line is never

test_known : (P : Program) (known : Known) (m p next local : ℕ) (offset : ℤ) (taken : ℤ → Bool) → IsTest P (PushesLimit P known.constants m) m p next local offset taken → IsTest P (Pushes P known m) m p next local offset taken
test_known P known m p next local offset taken (with_zero load branch unnamed) = with_zero load branch unnamed
test_known P known m p next local offset taken (with_limit {push} {limit} load pushes branch unnamed unnamed') = with_limit load (limit_known P known m push p limit pushes) branch unnamed unnamed'

pub counted_loops_are_further : LastWritesAreReached → EntryDominatesAll → CountedLoopsAreFurther
counted_loops_are_further reach entry P known m g h n of count = record {
  local = count.local;
  step = count.step;
  behind_step = count.behind_step;
  s = count.s;
  increment = count.increment;
  moves = count.moves;
  each_step = count.each_step;
  no_other = count.no_other;
  test = count.test;
  behind_test = count.behind_test;
  offset = count.offset;
  taken = count.taken;
  out = count.out;
  is_test = test_known P known m count.test count.behind_test count.local count.offset count.taken count.is_test;
  each_test = count.each_test;
  leaves = count.leaves;
  c = count.c;
  begins = begins reach entry P known m g of (number_of (At h)) count.local count.c count.begins;
  first = count.first;
  tested = count.tested;
  first_out = count.first_out;
  small = count.small;
}
