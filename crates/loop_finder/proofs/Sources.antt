-- With what a local variable begins in a loop, edge by edge to its header.
use Rattle.std.proofs.Common.{◌≡◌, ◌≢◌, ℕ, ℤ, List, [], ◌∷◌, ◌++◌, All, Option, Some, None, refl, sym, ◌∙◌, subst, inl, inr}
use Rattle.std.proofs.lemmas.List.Elements.{All-contains, All-push}
use Rattle.bytecode_model.specs.Program.{Program}
use Rattle.loop_nest.specs.Digraph.{Digraph, sources_of}
use Rattle.loop_nest.specs.Walks.{IsEntering, IsHeader, IsMember}
use Rattle.loop_nest.specs.Laws.{HeaderDominatesMembers, WalksComeByEdges}
use Rattle.loop_nest.proofs.Searching.{sources_has}
use Rattle.method_flow.specs.Nodes.{Node, IsEdge, IsReached, number_of}
use Rattle.method_flow.specs.Graphs.{IsGraphOf}
use Rattle.loop_rules.specs.Further.Beginning.{BeginsAt}
use Rattle.loop_rules.specs.Further.Known.{Known}
use Rattle.loop_rules.specs.Further.Laws.{LastWritesAreReached}
use Rattle.loop_finder.specs.declared.beginning.SoFar.{SoFar}
use Rattle.loop_finder.specs.declared.beginning.SoFar.TheVariants.{NotEntered, One, Unknown}
use Rattle.loop_acts.specs.Writing.{IsOnly}
use Rattle.loop_finder.specs.Beginning.{AllStore, IsJoined, IsKnownBeginning, StoresIfEntering}
use Rattle.loop_finder.proofs.Entered.{entered}

module _ (P : Program) (known : Known) (m : ℕ) (g : Digraph) (h k : ℕ) where
  abbrev By : List ℕ → SoFar → Type 0
  By us x = IsKnownBeginning P known m g h k us x

  module _ (us : List ℕ) (v : ℕ) where
    -- a member more
    pub member_more : IsMember g h v → (x : SoFar) → By us x → By (us ++ v ∷ []) x
    member_more member NotEntered all = All-push (IsMember g h) us v all member
    member_more member (One c) by = (All-push (StoresIfEntering P known m g h k c) us v by.0 (λ u at come e. absurd (e.outside member)), by.1)
    member_more member Unknown none = none

    pub unknown_more : (x : SoFar) → x ≡ Unknown → By us x → By (us ++ v ∷ []) x
    unknown_more x is by = subst (λ (z : SoFar). By (us ++ v ∷ []) z) (sym is) (subst (λ (z : SoFar). By us z) is by)

    module _ (e : IsEntering g h v h) (value : Option ℤ) (stored : (u : Node) → number_of u ≡ v → IsReached (IsEdge P m) u → IsOnly (AllStore P known m k u) value)
        (at : (u : Node) × (number_of u ≡ v) × IsReached (IsEdge P m) u) where
      only : IsOnly (AllStore P known m k at.0) value
      only = stored at.0 at.1 at.2

      all_at : (c : ℤ) → BeginsAt P known m g h k c → AllStore P known m k at.0 c
      all_at c b w may = b.stored at.0 w (subst (λ (z : ℕ). IsEntering g h z h) (sym at.1) e) may

      -- an edge more by which the loop is entered
      pub entry_more : (x y : SoFar) → IsJoined x value y → By us x → By (us ++ v ∷ []) y
      entry_more x y j by = more value stored only x y j by
        where
          Stored : Option ℤ → Type 0
          Stored o = (u : Node) → number_of u ≡ v → IsReached (IsEdge P m) u → IsOnly (AllStore P known m k u) o

          unknown : {y : SoFar} → y ≡ Unknown → ((c : ℤ) → ¬ BeginsAt P known m g h k c) → By (us ++ v ∷ []) y
          unknown is none = subst (λ (z : SoFar). By (us ++ v ∷ []) z) (sym is) none

          one : {y : SoFar} (c : ℤ) → y ≡ One c → All (StoresIfEntering P known m g h k c) us → Stored (Some c) → By (us ++ v ∷ []) y
          one c is all s = subst (λ (z : SoFar). By (us ++ v ∷ []) z) (sym is) (
            All-push (StoresIfEntering P known m g h k c) us v all (λ u num come into. (s u num come).0),
            λ d b. (s at.0 at.1 at.2).1 d (all_at d b),
          )

          more : (o : Option ℤ) → Stored o → IsOnly (AllStore P known m k at.0) o → (x y : SoFar) → IsJoined x o y → By us x → By (us ++ v ∷ []) y
          more None s none NotEntered y j by = unknown j (λ c b. none c (all_at c b))
          more None s none (One d) y j by = unknown j (λ c b. none c (all_at c b))
          more None s none Unknown y j by = unknown j by
          more (Some c) s is NotEntered y j by = one c j (λ i d lt u num come into. absurd (into.outside (by i d lt))) s
          more (Some c) s is (One d) y (inl same) by = one c same.1 (subst (λ (z : ℤ). All (StoresIfEntering P known m g h k z) us) same.0 by.0) s
          more (Some c) s is (One d) y (inr other) by = unknown other.1 (λ z b. other.0 (sym (by.1 z b) ∙ is.1 z (all_at z b)))
          more (Some c) s is Unknown y j by = unknown j by

  -- all edges
  pub one_begins : LastWritesAreReached → h ≢ 0 → (c : ℤ) → By (sources_of g.edges h) (One c) → IsOnly (BeginsAt P known m g h k) (Some c)
  one_begins reached nonzero c by = (
    record {
      entered = nonzero;
      stored = λ u w e may. All-contains (StoresIfEntering P known m g h k c) (sources_of g.edges h) (number_of u) by.0 (sources_has g.edges (number_of u) h e.edge) u refl (reached P m k u w may) e w may;
    },
    by.1,
  )

  pub none_begins : WalksComeByEdges → HeaderDominatesMembers → IsGraphOf P m g → IsHeader g h → (x : SoFar) → ((c : ℤ) → x ≢ One c) → By (sources_of g.edges h) x → IsOnly (BeginsAt P known m g h k) None
  none_begins come dominates is header NotEntered other all c b =
      let e = entered P m g is come dominates h header b.entered in
      e.1.outside (All-contains (IsMember g h) (sources_of g.edges h) (number_of e.0) all (sources_has g.edges (number_of e.0) h e.1.edge))
  none_begins come dominates is header (One d) other by c b = absurd (other d refl)
  none_begins come dominates is header Unknown other none c b = none c b
