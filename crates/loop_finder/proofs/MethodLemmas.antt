-- The loops that are found in a method are those of the loop rules.
use Rattle.std.proofs.Common.{◌≢◌, ℕ, ◌≤◌, List, [], Contains, subst, inl}
use Rattle.std.specs.List.Sorted.{IsStrictlyIncreasing}
use Rattle.lists.specs.Members.{nil_contains}
use Rattle.bytecode_model.specs.Program.{Program}
use Rattle.loop_nest.specs.Digraph.{Digraph}
use Rattle.loop_nest.specs.Reduction.{Leaves, IsReducible}
use Rattle.loop_nest.specs.Laws.{PartsAreReducible, ReductionHasOneEnd}
use Rattle.method_flow.specs.Compact.{IsCompact}
use Rattle.method_flow.specs.Graphs.{IsGraphOf}
use Rattle.bound_rules.specs.Laws.{GraphsAreOne}
use Rattle.compact_walks.specs.Laws.{GraphsAreMoved}
use Rattle.code_lines.specs.Laws.{LinesAreOne}
use Rattle.loop_acts.specs.Rules.{Rules}
use Rattle.loop_finder.specs.Counted.{CountsWith, IsCountedWith}
use Rattle.loop_finder.specs.Methods.{AreBoundsBy, AreMethodBounds}
use Rattle.loop_finder.proofs.Agreeing.{counted_is, counted_found}
use Rattle.loop_finder.proofs.Reducing.{left_over}

module _ (graphs : GraphsAreOne) (P : Program) (rules : Rules) (m : ℕ) (g : Digraph) (is : IsGraphOf P m g) (d : Digraph) (node : ℕ → ℕ) (compact : IsCompact g d node) where
  pub bounds_are : LinesAreOne → IsReducible d → (bounds : List (ℕ × ℕ)) → AreBoundsBy P rules m g bounds → AreMethodBounds P rules m bounds
  bounds_are one reducible bounds by = record { rising = by.are_bounds.rising; each = λ p n. (to p n, from p n) }
    where
      to : (p n : ℕ) → Contains bounds (p, n) → IsCountedWith P rules (record { method = m; place = p; bound = n })
      to p n has =
          let counted = counted_is P rules m by.acts g by.begins p one by.are_acts (by.are_begins p) n ((by.are_bounds.each p n).0 has) in
          record {
            graph = g;
            is_graph = is;
            reducible = record { compact = d; node = node; is_compact = compact; reducible = reducible };
            counts = counted.0;
            least = counted.1;
          }

      from : (p n : ℕ) → IsCountedWith P rules (record { method = m; place = p; bound = n }) → Contains bounds (p, n)
      from p n l =
          let same = graphs P m l.graph g l.is_graph is in
          let counts = subst (λ (f : Digraph). CountsWith P rules m f p n) same l.counts in
          let least = subst (λ (f : Digraph). (other : ℕ) → CountsWith P rules m f p other → n ≤ other) same l.least in
          (by.are_bounds.each p n).1 (counted_found P rules m by.acts g by.begins p one by.are_acts (by.are_begins p) n counts least)

  pub none_where_irreducible : PartsAreReducible → ReductionHasOneEnd → GraphsAreMoved → (left : List ℕ) → Leaves d left → left ≢ [] → IsStrictlyIncreasing [] → AreMethodBounds P rules m []
  none_where_irreducible parts ends moved left leaves some up = record {
    rising = up;
    each = λ p n. (
      λ has. absurd (nil_contains (p, n) has),
      λ l. absurd (
          let same = graphs P m l.graph g l.is_graph is in
          let other = subst (λ (f : Digraph). IsCompact f l.reducible.compact l.reducible.node) same l.reducible.is_compact in
          left_over g d l.reducible.compact node l.reducible.node (moved P m g d node (inl is) compact) (moved P m g l.reducible.compact l.reducible.node (inl is) other) parts ends left leaves some l.reducible.reducible),
    );
  }
