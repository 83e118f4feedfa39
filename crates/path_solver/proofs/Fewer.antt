-- Lists of which one has all elements of the other.
use Rattle.std.proofs.Common.{ℕ, ◌<◌, ◌≤◌, List, ◌∷◌, length, Contains, subst, inl, inr, arith}
use Rattle.std.proofs.lemmas.Bool.{eqb-true}
use Rattle.std.proofs.lemmas.Cmp.{nat_eq_equiv}
use Rattle.std.proofs.lemmas.Map.Made.{length-le_from_is_member}
use Rattle.std.proofs.lemmas.Map.Views.{Contains-from_any, list_any-from_Contains}
use Rattle.lists.specs.Members.{cons_cases}
use Rattle.path_solver.specs.Ordering.{AreApart}
use Rattle.path_solver.proofs.Apart.{apart_cons, distinct}

pub few_within : (xs ys : List ℕ) → AreApart xs → ((x : ℕ) → Contains xs x → Contains ys x) → length xs ≤ length ys
few_within xs ys apart within = length-le_from_is_member nat_eq_equiv xs ys (distinct xs apart) (λ q has. list_any-from_Contains nat_eq_equiv q ys (within q (Contains-from_any eqb-true q xs has)))

pub fewer_within : (xs ys : List ℕ) (y : ℕ) → AreApart xs → ((x : ℕ) → Contains xs x → Contains ys x) → Contains ys y → (Contains xs y → ⊥) → length xs < length ys
fewer_within xs ys y apart within has out =
    let P : ℕ → Type 0 = λ z. Contains ys z in
    let few = few_within (y ∷ xs) ys (apart_cons y xs apart out) (λ x c. elim (cons_cases y x xs c) [ inl same ↦ subst P same has | inr there ↦ within x there ]) in
    omega arith
