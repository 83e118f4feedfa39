-- The loops of a nest with their bounds lie as the loops of a graph do.
use Rattle.std.proofs.Common.{◌≡◌, ℕ, zero, suc, Bool, List, [], ◌∷◌, length, arith, Contains, refl, sym, ap, ◌∙◌, subst, inl, inr}
use Rattle.loop_nest.specs.Digraph.{Digraph}
use Rattle.loop_nest.specs.Nest.{NaturalLoop}
use Rattle.section_check.specs.Bounded.{BoundedLoop}
use Rattle.section_check.specs.Placing.{IsEntryAt}
use Rattle.path_solver.specs.declared.topology.TopologicalOrder.{TopologicalOrder}
use Rattle.path_solver.specs.Longest.{bounded_loops}
use Rattle.path_solver.specs.Problem.{IsProblem}
use Rattle.path_solver.proofs.Loops.{same_place}
use Rattle.path_solver.proofs.Nesting.{contained}
use Rattle.path_solver.proofs.Structure as structure
use Rattle.bound_report.proofs.VisitsLemmas.GoingRound.{AreNatural}

-- the loop of the nest at the place of a bounded one
from_at : (loops : List NaturalLoop) (bounds loads : List ℕ) (i : ℕ) (k : BoundedLoop) → IsEntryAt (bounded_loops loops bounds loads) i k → (l : NaturalLoop) × IsEntryAt loops i l × (k.header ≡ l.header) × (k.members ≡ l.members)
from_at [] bounds loads i k at = absurd (let below = at.0 in omega arith)
from_at (l ∷ ls) [] loads i k at = absurd (let below = at.0 in omega arith)
from_at (l ∷ ls) (x ∷ xs) [] i k at = absurd (let below = at.0 in omega arith)
from_at (l ∷ ls) (x ∷ xs) (y ∷ ys) zero k at = (l, (omega arith, refl), sym (ap (λ (z : BoundedLoop). z.header) at.1), sym (ap (λ (z : BoundedLoop). z.members) at.1))
from_at (l ∷ ls) (x ∷ xs) (y ∷ ys) (suc i) k at =
    let below = at.0 in
    let r = from_at ls xs ys i k (omega arith, at.1) in
    let lt = r.1.0 in
    (r.0, (omega arith, r.1.1), r.2, r.3)

module _ (g : Digraph) (loops : List NaturalLoop) (flags : List Bool) (p : TopologicalOrder) (h : IsProblem g loops flags p) (bounds loads : List ℕ) (b : length bounds ≡ length loops) (m : length loads ≡ length loops) where
  abbrev all : List BoundedLoop
  all = bounded_loops loops bounds loads

  -- the loop of the nest at the same place
  pub record IsOf (i : ℕ) (k : BoundedLoop) : Type 0 where
    pub loop : NaturalLoop
    pub at : IsEntryAt loops i loop
    pub among : Contains loops loop
    pub header : k.header ≡ loop.header
    pub members : k.members ≡ loop.members

  pub loop_of : (i : ℕ) (k : BoundedLoop) → IsEntryAt all i k → IsOf i k
  loop_of i k at =
      let r = from_at loops bounds loads i k at in
      record { loop = r.0; at = r.1; among = contained loops i r.0 r.1; header = r.2; members = r.3 }

  to : (i : ℕ) (k : BoundedLoop) (r : IsOf i k) (x : ℕ) → Contains k.members x → Contains r.loop.members x
  to i k r x c = let P : List ℕ → Type 0 = λ ms. Contains ms x in subst P r.members c

  from : (i : ℕ) (k : BoundedLoop) (r : IsOf i k) (x : ℕ) → Contains r.loop.members x → Contains k.members x
  from i k r x c = let P : List ℕ → Type 0 = λ ms. Contains ms x in subst P (sym r.members) c

  at_header : (i : ℕ) (k : BoundedLoop) (r : IsOf i k) (ms : List ℕ) → Contains ms k.header → Contains ms r.loop.header
  at_header i k r ms c = let P : ℕ → Type 0 = λ z. Contains ms z in subst P r.header c

  from_header : (i : ℕ) (k : BoundedLoop) (r : IsOf i k) (ms : List ℕ) → Contains ms r.loop.header → Contains ms k.header
  from_header i k r ms c = let P : ℕ → Type 0 = λ z. Contains ms z in subst P (sym r.header) c

  pub natural : AreNatural g all
  natural = record {
    own = λ i k at. let r = loop_of i k at in from i k r k.header (let P : ℕ → Type 0 = λ z. Contains r.loop.members z in subst P (sym r.header) (structure.own_header g loops flags p h r.loop r.among));
    entered = λ i k at u v e inside outside.
        let r = loop_of i k at in
        structure.entered_at_header g loops flags p h r.loop u v r.among e (to i k r v inside) (λ c. outside (from i k r u c)) ∙ sym r.header;
    entry = λ i k at inside. let r = loop_of i k at in r.header ∙ structure.entry_heads g loops flags p h r.loop r.among (to i k r 0 inside);
    apart = λ i j k l at at' same.
        let r = loop_of i k at in
        let s = loop_of j l at' in
        same_place loops h.nest.rising i j r.loop s.loop r.at s.at (sym r.header ∙ (same ∙ s.header));
    within = λ i j k l at at' inner x inside.
        let r = loop_of i k at in
        let s = loop_of j l at' in
        from j l s x (structure.holds_all g loops flags p h r.loop s.loop x r.among s.among (at_header i k r s.loop.members (to j l s k.header inner)) (to i k r x inside));
    nested = λ i j k l x at at' inside inside'.
        let r = loop_of i k at in
        let s = loop_of j l at' in
        elim (structure.nested g loops flags p h r.loop s.loop x r.among s.among (to i k r x inside) (to j l s x inside')) [
          | inl around ↦ inl (from j l s k.header (from_header i k r s.loop.members around))
          | inr within ↦ inr (from i k r l.header (from_header j l s r.loop.members within))
        ];
  }
