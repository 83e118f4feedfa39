-- The loads of loops, one loop after the other.
use Rattle.std.proofs.Common.{◌≡◌, ℕ, ◌<◌, List, [], ◌∷◌, ◌++◌, length, map, get_or, Option, sym, ◌∙◌, subst, inl, inr}
use Rattle.loop_nest.specs.Nest.{NaturalLoop}
use Rattle.section_check.specs.Placing.{IsEntryAt}
use Rattle.bytecode_model.specs.Program.{Program}
use Rattle.method_flow.specs.declared.timing.Timing.{Timing}
use Rattle.bound_finder.specs.declared.shape.Shape.{Shape}
use Rattle.bound_finder.specs.Prepared.{IsCandidate, AreCandidates, node_of, nest_of}
use Rattle.bound_finder.proofs.Within.{moved_members}
use Rattle.bound_finder.proofs.Pushed.{push_cases}

-- with those of one loop more
pub candidates_more : (P : Program) (t : Timing) (m : ℕ) (s : Shape) (xs : List NaturalLoop) (os : List (Option ℕ)) (i : ℕ) (item : NaturalLoop) (o : Option ℕ) → length os ≡ i → xs ≡ s.nest → i < length xs → item ≡ get_or xs i item
    → IsCandidate P t m (map (node_of s) item.members) o → AreCandidates P t m s os → AreCandidates P t m s (os ++ o ∷ [])
candidates_more P t m s xs os i item o long same lt is candidate before = λ k l p at got.
    elim (push_cases os o p k got) [
      | inl old ↦ before k l p at old
      | inr new ↦
          let here : i ≡ k = sym long ∙ sym new.0 in
          let at' : IsEntryAt (nest_of s) i l = subst (λ (n : ℕ). IsEntryAt (nest_of s) n l) (sym here) at in
          subst (λ (q : Option ℕ). IsCandidate P t m l.members q) new.1
          (subst (λ (us : List ℕ). IsCandidate P t m us o) (moved_members (node_of s) s.nest xs i item l same lt is at') candidate)
    ]
