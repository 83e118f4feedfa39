-- The one node outside a loop from which it is entered.
use Rattle.std.proofs.Common.{◌≡◌, ◌⊎◌, ℕ, ◌<◌, ◌≤◌, Bool, true, false, List, length, get_or, All, Contains, refl, sym, ◌∙◌, subst, inl, inr, arith}
use Rattle.std.proofs.lemmas.Bool.{both_ways, cases_Bool}
use Rattle.std.proofs.lemmas.List.Elements.{All-contains, All-from_get_or, Contains-get_or}
use Rattle.loop_nest.specs.Digraph.{Digraph, Edge, sources_of}
use Rattle.loop_nest.specs.Walks.{IsEntering}
use Rattle.loop_nest.proofs.Searching.{sources_has, from_sources}
use Rattle.loop_marks.specs.Reach.{flag_at}
use Rattle.loop_marks.specs.Marking.{Marks, AreMarksOf}
use Rattle.loop_finder.specs.Setting.{IsOnlyEntry}

module _ (g : Digraph) (k : Marks) (are : AreMarksOf g k) (xs : List ℕ) (is : xs ≡ sources_of g.edges k.header) where
  has : (u : ℕ) → Edge g u k.header → Contains xs u
  has u e = subst (λ (ys : List ℕ). Contains ys u) (sym is) (sources_has g.edges u k.header e)

  entering : (u : ℕ) → Contains xs u → flag_at k.members u ≡ false → IsEntering g k.header u k.header
  entering u among outside = record {
    edge = from_sources g.edges u k.header (subst (λ (ys : List ℕ). Contains ys u) is among);
    outside = λ m. both_ways (flag_at k.members u) outside ((are.members u).1 m);
    inside = (are.header, inl refl);
  }

  pub none_enters : All (λ u. flag_at k.members u ≡ true) xs → (u : ℕ) → IsOnlyEntry g k.header u → ⊥
  none_enters all u o = let e = o.enters in e.outside ((are.members u).0 (All-contains (λ v. flag_at k.members v ≡ true) xs u all (has u e.edge)))

  module _ (u : ℕ) (among : Contains xs u) (outside : flag_at k.members u ≡ false) where
    pub one_enters : All (λ v. (flag_at k.members v ≡ true) ⊎ (v ≡ u)) xs → IsOnlyEntry g k.header u
    one_enters all = record {
      enters = entering u among outside;
      alone = λ other e. elim (All-contains (λ v. (flag_at k.members v ≡ true) ⊎ (v ≡ u)) xs other all (has other e.edge)) [
        | inl member ↦ absurd (e.outside ((are.members other).0 member))
        | inr same ↦ same
      ];
    }

    pub others_enter : (All (λ v. (flag_at k.members v ≡ true) ⊎ (v ≡ u)) xs → ⊥) → (w : ℕ) → IsOnlyEntry g k.header w → ⊥
    others_enter some w o =
        some (All-from_get_or (λ v. (flag_at k.members v ≡ true) ⊎ (v ≡ u)) xs 0 (λ j lt.
        let v = get_or xs j 0 in
        elim (cases_Bool (flag_at k.members v)) [
          | inl member ↦ inl member
          | inr out ↦ inr (o.alone v (entering v (Contains-get_or xs j 0 lt) out) ∙ sym (o.alone u (entering u among outside)))
        ]))

-- ---- the first node outside

pub outside_at : (xs : List ℕ) (flags : List Bool) (j : ℕ) → j < length xs → flag_at flags (get_or xs j 0) ≡ false → Contains xs (get_or xs j 0) × (flag_at flags (get_or xs j 0) ≡ false)
outside_at xs flags j lt out = (Contains-get_or xs j 0 lt, out)

pub none_outside : (xs : List ℕ) (flags : List Bool) (n : ℕ) → length xs ≤ n → ((j : ℕ) → j < n → flag_at flags (get_or xs j 0) ≡ true) → All (λ u. flag_at flags u ≡ true) xs
none_outside xs flags n past all = All-from_get_or (λ u. flag_at flags u ≡ true) xs 0 (λ j lt. all j (omega arith))
