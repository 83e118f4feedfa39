-- The edges that close no loop lead to no cycle.
use Rattle.std.proofs.Common.{◌≡◌, ℕ, ◌<◌, Bool, true, false, List, [], ◌∷◌, ◌++◌, length, get_or, All, Contains, sym, ap, subst, inl, inr, arith}
use Rattle.std.proofs.lemmas.List.{length-append}
use Rattle.std.proofs.lemmas.List.Elements.{All-contains, All-from_get_or, Contains-get_or}
use Rattle.lists.specs.Members.{cons_cases, nil_contains, has_or_not}
use Rattle.loop_nest.specs.Digraph.{Digraph, Edge, IsDigraph}
use Rattle.loop_nest.specs.Walks.{Walk, IsBackEdge, IsMember}
use Rattle.loop_nest.specs.Walks.Walk.{stay, along}
use Rattle.loop_nest.specs.Reduction.{IsReducible}
use Rattle.loop_nest.specs.Nest.{NaturalLoop, IsNest, IsLoopOf}
use Rattle.loop_nest.specs.Laws.{CyclesTakeBackEdges}
use Rattle.loop_nest.proofs.Elements.{from_map}
use Rattle.path_solver.specs.Reaching.{IsFlagged, AreReaching}
use Rattle.path_solver.specs.Ordering.{AreLoops, ClosesLoop, AreTaken, graph_of, IsForwardOrder}
use Rattle.path_solver.proofs.Growing.{flagged_below}

starts_with : {g : Digraph} {u v x : ℕ} {ns xs : List ℕ} → Walk g u v ns → ns ≡ x ∷ xs → u ≡ x
starts_with stay is = cc
starts_with (along e t) is = cc

module _ (n : ℕ) (es : List (ℕ × ℕ)) where
  walk_in : (g : Digraph) → ((u v : ℕ) → Contains es (u, v) → Edge g u v) → {u v : ℕ} {ns : List ℕ} → Walk (graph_of n es) u v ns → Walk g u v ns
  walk_in g sub stay = stay
  walk_in g sub (along {u} {v} {w} {ns} e t) = along (sub u v e) (walk_in g sub t)

  edge_taken : {u w : ℕ} {ns : List ℕ} → Walk (graph_of n es) u w ns → (before after : List ℕ) (a h : ℕ) → ns ≡ before ++ a ∷ h ∷ after → Contains es (a, h)
  edge_taken (stay {u}) before after a h is =
      let l = length-append before (a ∷ h ∷ after) in
      let k = ap length is in
      absurd (omega arith)
  edge_taken (along {u} {v} {w} {ns} e t) [] after a h is =
      let first : u ≡ a = cc in
      let rest : ns ≡ h ∷ after = cc in
      let P : ℕ → Type 0 = λ z. Contains es (z, h) in
      let Q : ℕ → Type 0 = λ z. Contains es (u, z) in
      subst P first (subst Q (starts_with t rest) e)
  edge_taken (along {u} {v} {w} {ns} e t) (b ∷ bs) after a h is =
      let rest : ns ≡ bs ++ a ∷ h ∷ after = cc in
      edge_taken t bs after a h rest

-- a back edge closes a loop in the loop of its target
pub back_edge_closes : (g : Digraph) (ls : List NaturalLoop) → IsNest g ls → (a h : ℕ) → IsBackEdge g a h → ClosesLoop ls a h
back_edge_closes g ls nest a h b =
    let r = from_map (λ (l : NaturalLoop). l.header) ls h (nest.complete h (a, b)) in
    let l = r.0 in
    let loop : IsLoopOf g l = All-contains (IsLoopOf g) ls l nest.loops r.1 in
    let in_h : IsMember g h a = (
      (a, b),
      elim (has_or_not (a ∷ []) h) [
        | inl has ↦ elim (cons_cases a h [] has) [ inl same ↦ inl same | inr there ↦ absurd (nil_contains h there) ]
        | inr out ↦ inr (record { source = a; back_edge = b; leads = (a ∷ [], stay, out) })
      ],
    ) in
    let P : ℕ → Type 0 = λ z. IsMember g z a in
    record { loop = l; among = r.1; header = r.2; member = (loop.members a).1 (subst P (sym r.2) in_h) }

pub nest_loops : (g : Digraph) (ls : List NaturalLoop) → IsNest g ls → AreLoops ls
nest_loops g ls nest = record { headers = nest.rising; members = λ i d lt. (nest.loops i d lt).rising }

pub onward_acyclic : (g : Digraph) (ls : List NaturalLoop) (flags : List Bool) (es : List (ℕ × ℕ)) (n : ℕ) → CyclesTakeBackEdges → IsDigraph g → IsReducible g → IsNest g ls → AreTaken g.edges ls flags false es → (u v : ℕ) (ns : List ℕ) → Contains es (u, v) → Walk (graph_of n es) v u ns → ⊥
onward_acyclic g ls flags es n law wf red nest taken u v ns e t =
    let sub : (x y : ℕ) → Contains es (x, y) → Edge g x y = λ x y c. ((taken x y).0 c).0 in
    let r = law g wf red u v ns (sub u v e) (walk_in n es g sub t) in
    let whole : Walk (graph_of n es) u u (u ∷ ns) = along e t in
    let c = edge_taken n es whole r.2.0 r.2.1 r.0 r.1 r.2.2 in
    ((taken r.0 r.1).0 c).1.1 (back_edge_closes g ls nest r.0 r.1 r.3)

-- the sources of edges to flagged nodes are flagged
pub sources_flagged : (g : Digraph) (ls : List NaturalLoop) (flags : List Bool) (es : List (ℕ × ℕ)) → AreReaching g flags → AreTaken g.edges ls flags false es → (u v : ℕ) → Contains es (u, v) → IsFlagged flags u
sources_flagged g ls flags es reach taken u v c =
    let r = (taken u v).0 c in
    let x = (reach.each v).0 r.1.0 in
    (reach.each u).1 (record { exit = x.exit; among = x.among; nodes = u ∷ x.nodes; walk = along r.0 x.walk })

pub retaken : (es qs : List (ℕ × ℕ)) (ls ks : List NaturalLoop) (flags : List Bool) (b : Bool) (found : List (ℕ × ℕ)) → qs ≡ es → ks ≡ ls → AreTaken qs ks flags b found → AreTaken es ls flags b found
retaken es qs ls ks flags b found e l h =
    let P : List (ℕ × ℕ) → Type 0 = λ zs. AreTaken zs ks flags b found in
    let Q : List NaturalLoop → Type 0 = λ zs. AreTaken es zs flags b found in
    subst Q l (subst P e h)

pub targets_flagged : (g : Digraph) (ls : List NaturalLoop) (flags : List Bool) (b : Bool) (es : List (ℕ × ℕ)) → AreTaken g.edges ls flags b es → (u v : ℕ) → Contains es (u, v) → IsFlagged flags v
targets_flagged g ls flags true es taken u v c = ((taken u v).0 c).1.0
targets_flagged g ls flags false es taken u v c = ((taken u v).0 c).1.0

pub order_below : (flags : List Bool) (es : List (ℕ × ℕ)) (us : List ℕ) → IsForwardOrder flags es us → All (λ u. u < length flags) us
order_below flags es us h = All-from_get_or (λ u. u < length flags) us 0 (λ i lt. flagged_below flags (get_or us i 0) ((h.each (get_or us i 0)).0 (Contains-get_or us i 0 lt)))
