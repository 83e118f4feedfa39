-- There is one cause at most why no need is given, and none where there is a need.
use Rattle.std.proofs.Common.{◌≡◌, ◌≢◌, ℕ, List, [], ◌∷◌, map, Some, refl, ap, ap₂, ◌∙◌, subst, inl, inr}
use Rattle.std.proofs.lemmas.Bool.{cases_order}
use Rattle.loop_nest.specs.Digraph.{Digraph}
use Rattle.loop_nest.specs.Reduction.{IsReducible, Leaves}
use Rattle.section_check.specs.Least.{IsLeast}
use Rattle.bytecode_model.specs.Program.{Program}
use Rattle.method_flow.specs.Compact.{IsCompact}
use Rattle.method_flow.specs.Keeping.{BoundOf}
use Rattle.bound_rules.specs.Bounding.{IsLeftWith, IsFirstIrreducible}
use Rattle.bound_rules.specs.Laws.{GraphsAreOne}
use Rattle.compact_walks.specs.Laws.{GraphsAreMoved, PartsAreSound, EndsAreOne}
use Rattle.memory_rules.specs.declared.causes.NeedCause.{NeedCause}
use Rattle.memory_rules.specs.declared.causes.NeedCause.TheVariants.{Recursion, Irreducible, MissingBound, MissingSize, TooLarge}
use Rattle.memory_rules.specs.Laws.{FirstLineIsOne, FirstLengthIsOne, LackingIsNotHaving}
use Rattle.memory_rules.specs.declared.needs.Need.{Need}
use Rattle.memory_bound.specs.Causes.{IsNeedCause, IsNeedOf, NeedIsTooLarge}

map_nil : (f : ℕ → ℕ) (xs : List ℕ) → [] ≡ map f xs → xs ≡ []
map_nil f [] e = refl
map_nil f (x ∷ xs) e = let bad : ⊥ = cc in absurd bad

-- the reduction of a method's graph doesn't leave nodes and none
pub not_both : GraphsAreMoved → PartsAreSound → EndsAreOne → GraphsAreOne → (P : Program) (m : ℕ) (nodes : List ℕ) → IsLeftWith P m nodes → nodes ≢ [] → IsLeftWith P m [] → ⊥
not_both moves sound ends one P m nodes h some k =
    let same : k.graph ≡ h.graph = one P m k.graph h.graph k.is_graph h.is_graph in
    let compact : IsCompact h.graph k.compact k.node = subst (λ (g : Digraph). IsCompact g k.compact k.node) same k.is_compact in
    let whole = moves P m h.graph k.compact k.node (inl h.is_graph) compact in
    let part = moves P m h.graph h.compact h.node (inl h.is_graph) h.is_compact in
    let none : k.left ≡ [] = map_nil k.node k.left k.nodes_are in
    let reducible : IsReducible k.compact = subst (λ (us : List ℕ). Leaves k.compact us) none k.leaves in
    let also = (sound h.graph h.graph k.compact h.compact k.node h.node whole part (λ u v e. e) reducible).reducible in
    let left : h.left ≡ [] = ends h.graph h.compact h.node h.is_compact h.left [] h.leaves also in
    some (h.nodes_are ∙ ap (map h.node) left)

module _ (moves : GraphsAreMoved) (sound : PartsAreSound) (ends : EndsAreOne) (one : GraphsAreOne) (line : FirstLineIsOne) (length : FirstLengthIsOne) (lacking : LackingIsNotHaving) (P : Program) (bounds lengths : BoundOf) where
  first_irreducible : (m x : ℕ) (ns ms : List ℕ) → IsFirstIrreducible P P.boot m ns → IsFirstIrreducible P P.boot x ms → m ≡ x
  first_irreducible m x ns ms h k =
      elim (cases_order m x) [
        | inl same ↦ same
        | inr apart ↦
            elim apart [
              | inl lt ↦ absurd (not_both moves sound ends one P m ns h.left h.some (k.first m lt h.within))
              | inr gt ↦ absurd (not_both moves sound ends one P x ms k.left k.some (h.first x gt k.within))
            ]
      ]

  least_one : (m x : ℕ) → IsLeast (NeedIsTooLarge P bounds lengths) (Some m) → IsLeast (NeedIsTooLarge P bounds lengths) (Some x) → m ≡ x
  least_one m x h k =
      elim (cases_order m x) [
        | inl same ↦ same
        | inr apart ↦
            elim apart [
              | inl lt ↦ absurd (k.1 m lt h.0)
              | inr gt ↦ absurd (h.1 x gt k.0)
            ]
      ]

  pub causes_are_one : (a b : NeedCause) → IsNeedCause P bounds lengths a → IsNeedCause P bounds lengths b → a ≡ b
  causes_are_one Recursion Recursion h k = refl
  causes_are_one Recursion (Irreducible x) h k = absurd (k.0 h.0 h.1)
  causes_are_one Recursion (MissingBound x q) h k = absurd (k.0 h.0 h.1)
  causes_are_one Recursion (MissingSize x q) h k = absurd (k.0 h.0 h.1)
  causes_are_one Recursion (TooLarge x) h k = absurd (k.0 h.0 h.1)
  causes_are_one (Irreducible m) Recursion h k = absurd (h.0 k.0 k.1)
  causes_are_one (Irreducible m) (Irreducible x) h k = ap Irreducible (first_irreducible m x h.1.0 k.1.0 h.1.1 k.1.1)
  causes_are_one (Irreducible m) (MissingBound x q) h k = let f = h.1.1 in absurd (not_both moves sound ends one P m h.1.0 f.left f.some (k.1 m f.within))
  causes_are_one (Irreducible m) (MissingSize x q) h k = let f = h.1.1 in absurd (not_both moves sound ends one P m h.1.0 f.left f.some (k.1 m f.within))
  causes_are_one (Irreducible m) (TooLarge x) h k = let f = h.1.1 in absurd (not_both moves sound ends one P m h.1.0 f.left f.some (k.1 m f.within))
  causes_are_one (MissingBound m p) Recursion h k = absurd (h.0 k.0 k.1)
  causes_are_one (MissingBound m p) (Irreducible x) h k = let f = k.1.1 in absurd (not_both moves sound ends one P x k.1.0 f.left f.some (h.1 x f.within))
  causes_are_one (MissingBound m p) (MissingBound x q) h k = let e = line P bounds m p x q h.2 k.2 in ap₂ MissingBound e.0 e.1
  causes_are_one (MissingBound m p) (MissingSize x q) h k = absurd ((lacking P bounds m p).0 h.2 k.2)
  causes_are_one (MissingBound m p) (TooLarge x) h k = absurd ((lacking P bounds m p).0 h.2 k.2)
  causes_are_one (MissingSize m p) Recursion h k = absurd (h.0 k.0 k.1)
  causes_are_one (MissingSize m p) (Irreducible x) h k = let f = k.1.1 in absurd (not_both moves sound ends one P x k.1.0 f.left f.some (h.1 x f.within))
  causes_are_one (MissingSize m p) (MissingBound x q) h k = absurd ((lacking P bounds x q).0 k.2 h.2)
  causes_are_one (MissingSize m p) (MissingSize x q) h k = let e = length P lengths m p x q h.3 k.3 in ap₂ MissingSize e.0 e.1
  causes_are_one (MissingSize m p) (TooLarge x) h k = absurd ((lacking P lengths m p).1 h.3 k.3)
  causes_are_one (TooLarge m) Recursion h k = absurd (h.0 k.0 k.1)
  causes_are_one (TooLarge m) (Irreducible x) h k = let f = k.1.1 in absurd (not_both moves sound ends one P x k.1.0 f.left f.some (h.1 x f.within))
  causes_are_one (TooLarge m) (MissingBound x q) h k = absurd ((lacking P bounds x q).0 k.2 h.2)
  causes_are_one (TooLarge m) (MissingSize x q) h k = absurd ((lacking P lengths x q).1 k.3 h.3)
  causes_are_one (TooLarge m) (TooLarge x) h k = ap TooLarge (least_one m x h.4 k.4)

  pub no_cause : (n : Need) → IsNeedOf P bounds lengths n → (cause : NeedCause) → IsNeedCause P bounds lengths cause → ⊥
  no_cause n is Recursion h = is.calls h.0 h.1
  no_cause n is (Irreducible m) h = let f = h.1.1 in not_both moves sound ends one P m h.1.0 f.left f.some (is.reducible m f.within)
  no_cause n is (MissingBound m p) h = (lacking P bounds m p).0 h.2 is.lines
  no_cause n is (MissingSize m p) h = (lacking P lengths m p).1 h.3 is.lengths_are
  no_cause n is (TooLarge m) h = is.small m h.4.0
