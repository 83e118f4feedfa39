-- The edges of a walk that a run can take.
use Rattle.std.proofs.Common.{◌≡◌, ℕ, List, [], ◌∷◌, refl, ap, ◌∙◌, subst, arith}
use Rattle.lists.specs.Members.{heads, tails}
use Rattle.bytecode_model.specs.Program.{Program}
use Rattle.method_flow.specs.Nodes.{Node, At, RaiseAt, number_of}
use Rattle.method_flow.specs.Live.{IsLiveEdge, LiveWalk}
use Rattle.method_flow.specs.Live.LiveWalk.{stops, along}

-- different nodes have different numbers
pub same_node : (u v : Node) → number_of u ≡ number_of v → u ≡ v
same_node (At p) (At q) e = ap (λ (x : ℕ). At x) (omega arith)
same_node (At p) (RaiseAt q) e = absurd (omega arith)
same_node (RaiseAt p) (At q) e = absurd (omega arith)
same_node (RaiseAt p) (RaiseAt q) e = ap (λ (x : ℕ). RaiseAt x) (omega arith)

module _ {P : Program} {m : ℕ} where
  first_node : {u : Node} {ns : List ℕ} → LiveWalk P m u ns → (n : ℕ) (rest : List ℕ) → ns ≡ n ∷ rest → number_of u ≡ n
  first_node (stops {u} e) n rest is = heads (number_of u) n [] rest is
  first_node (along {u} {v} {ns} e more) n rest is = heads (number_of u) n ns rest is

  first_edge : {u : Node} {ns : List ℕ} → LiveWalk P m u ns → (n x : ℕ) (rest : List ℕ) → ns ≡ n ∷ x ∷ rest → (v : Node) × IsLiveEdge P m u v × (number_of v ≡ x)
  first_edge (stops {u} e) n x rest is = let bad : [] ≡ x ∷ rest = tails (number_of u) n [] (x ∷ rest) is in absurd (cc)
  first_edge (along {u} {v} {ns} e more) n x rest is = (v, e, first_node more x rest (tails (number_of u) n ns (x ∷ rest) is))

  -- from the first node of a walk a run can take the edge to the second
  pub second_edge : (u w : Node) (n x : ℕ) (rest : List ℕ) → LiveWalk P m u (n ∷ x ∷ rest) → x ≡ number_of w → IsLiveEdge P m u w
  second_edge u w n x rest walk is =
      let r = first_edge walk n x rest refl in
      subst (λ (y : Node). IsLiveEdge P m u y) (same_node r.0 w (r.2 ∙ is)) r.1
