-- A iteration cost is added at one member after another.
use Rattle.std.proofs.Common.{◌≡◌, ℕ, ◌+◌, ◌<◌, ◌≤◌, List, [], ◌∷◌, ◌++◌, length, get_or, set, take, Contains, refl, sym, ap, ◌∙◌, subst, inl, inr, arith}
use Rattle.std.specs.List.Sorted.{IsStrictlyIncreasing}
use Rattle.std.proofs.lemmas.List.{length-set, get_or-set_same, get_or-set_other}
use Rattle.std.proofs.lemmas.List.Elements.{All-set, Contains-append_left, Contains-push, Contains-push_cases}
use Rattle.lists.specs.Members.{nil_contains, rising_pair}
use Rattle.path_solver.specs.Distances.{distance_limit, limited, AreLimited}
use Rattle.path_solver.specs.Totals.{AreIterationsAdded}
use Rattle.path_solver.proofs.Order.{taken_at}

pub added_none : (iteration_cost : ℕ) (old : List ℕ) → AreLimited old → AreIterationsAdded [] iteration_cost old old
added_none iteration_cost old lim = record { long = refl; limited = lim; inside = λ u has. absurd (nil_contains u has); outside = λ u out. refl }

pub added_more : (members old now : List ℕ) (iteration_cost i x : ℕ) → IsStrictlyIncreasing members → i < length members → get_or members i 0 < length now → x ≡ limited (get_or now (get_or members i 0) 0 + iteration_cost) → x ≤ distance_limit → AreIterationsAdded (take i members) iteration_cost old now
    → AreIterationsAdded (take i members ++ get_or members i 0 ∷ []) iteration_cost old (set now (get_or members i 0) x)
added_more members old now iteration_cost i x rise lt inside is small h =
    let v = get_or members i 0 in
    let fresh : Contains (take i members) v → ⊥ = λ has. let r = taken_at members i v has in let up = rising_pair members rise r.0 i r.1 lt in let same = r.3 in omega arith in
    let P : ℕ → Type 0 = λ z. Contains (take i members) z in
    record {
      long = length-set now v x ∙ h.long;
      limited = All-set (λ d. d ≤ distance_limit) now v x small h.limited;
      inside = λ u has.
          elim (Contains-push_cases (take i members) v u has) [
            | inl done ↦ get_or-set_other now v u x 0 (λ same. fresh (subst P same done)) ∙ h.inside u done
            | inr same ↦
                let Q : ℕ → Type 0 = λ z. get_or (set now v x) z 0 ≡ limited (get_or old z 0 + iteration_cost) in
                subst Q same (get_or-set_same now v x 0 inside ∙ is ∙ ap (λ (d : ℕ). limited (d + iteration_cost)) (h.outside v fresh))
          ];
      outside = λ u out.
          get_or-set_other now v u x 0 (λ same. out (let R : ℕ → Type 0 = λ z. Contains (take i members ++ v ∷ []) z in subst R (sym same) (Contains-push (take i members) v)))
          ∙ h.outside u (λ has. out (Contains-append_left (take i members) (v ∷ []) u has));
    }
