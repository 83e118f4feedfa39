-- Graphs with the same edges have the same walks, and so the same loops.
use Rattle.std.proofs.Common.{ℕ, List, inl, inr}
use Rattle.loop_nest.specs.Digraph.{Digraph, Edge}
use Rattle.loop_nest.specs.Walks.{Walk, Dominates, IsBackEdge, IsHeader, IsMember}
use Rattle.loop_nest.specs.Walks.Walk.{stay, along}
use Rattle.loop_nest.specs.Nest.{NaturalLoop, IsLoopOf, IsNest}

module _ (g h : Digraph) (out : (u v : ℕ) → Edge g u v → Edge h u v) where
  pub walk_as : {u v : ℕ} {ns : List ℕ} → Walk g u v ns → Walk h u v ns
  walk_as stay = stay
  walk_as (along {u} {v} e t) = along (out u v e) (walk_as t)

module _ (g h : Digraph) (out : (u v : ℕ) → Edge g u v → Edge h u v) (back : (u v : ℕ) → Edge h u v → Edge g u v) where
  dominates_as : (a u : ℕ) → Dominates g a u → Dominates h a u
  dominates_as a u dominates ns walk = dominates ns (walk_as h g back walk)

  back_edge_as : (u a : ℕ) → IsBackEdge g u a → IsBackEdge h u a
  back_edge_as u a e = record { edge = out u a e.edge; dominates = dominates_as a u e.dominates }

  pub header_as : (a : ℕ) → IsHeader g a → IsHeader h a
  header_as a e = (e.0, back_edge_as e.0 a e.1)

  pub member_as : (a x : ℕ) → IsMember g a x → IsMember h a x
  member_as a x (header, inl same) = (header_as a header, inl same)
  member_as a x (header, inr r) = (
    header_as a header,
    inr (record {
      source = r.source;
      back_edge = back_edge_as r.source a r.back_edge;
      leads = (r.leads.0, walk_as g h out r.leads.1, r.leads.2);
    }),
  )

module _ (g h : Digraph) (out : (u v : ℕ) → Edge g u v → Edge h u v) (back : (u v : ℕ) → Edge h u v → Edge g u v) where
  loop_as : (l : NaturalLoop) → IsLoopOf g l → IsLoopOf h l
  loop_as l is = record {
    header = header_as g h out back l.header is.header;
    rising = is.rising;
    members = λ x. (λ has. member_as g h out back l.header x ((is.members x).0 has), λ m. (is.members x).1 (member_as h g back out l.header x m));
  }

  pub nest_as : (ls : List NaturalLoop) → IsNest g ls → IsNest h ls
  nest_as ls is = record {
    rising = is.rising;
    loops = λ i d lt. loop_as _ (is.loops i d lt);
    complete = λ a header. is.complete a (header_as h g back out a header);
    outer = is.outer;
  }
