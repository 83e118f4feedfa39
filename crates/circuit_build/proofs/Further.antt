-- Rows that are made one after another.
use Rattle.std.proofs.Common.{◌≡◌, ℕ, zero, suc, ◌+◌, ◌<◌, ◌⊎◌, List, [], ◌∷◌, ◌++◌, length, refl, sym, ap, ◌∙◌, subst, inl, inr, arith}
use Rattle.std.specs.Prelude.{slice_index}
use Rattle.std.proofs.lemmas.List.{length-append}
use Rattle.circuit_build.proofs.Finished.{index_at, index_before}

split : (j k : ℕ) → j < k + 1 → (j < k) ⊎ (j ≡ k)
split zero zero h = inr refl
split zero (suc k) h = inl (omega arith)
split (suc j) zero h = absurd (omega (arith, h))
split (suc j) (suc k) h = elim (split j k (omega (arith, h))) [ inl a ↦ inl (omega (arith, a)) | inr e ↦ inr (ap suc e) ]

-- so many rows, each of its place
abbrev pub AreRows : (ℕ → ℕ → Type 0) → (rows : List ℕ) → ℕ → Type 0
AreRows P rows k = (length rows ≡ k) × ((j : ℕ) → j < k → P j (slice_index rows j))

row_at : (P : ℕ → ℕ → Type 0) (rows : List ℕ) (k row j : ℕ) → AreRows P rows k → P k row → (j < k) ⊎ (j ≡ k) → P j (slice_index (rows ++ row ∷ []) j)
row_at P rows k row j a h (inl lt) = subst (P j) (sym (index_before rows (row ∷ []) j (omega (arith, lt, a.0)))) (a.1 j lt)
row_at P rows k row j a h (inr e) =
    let at : slice_index (rows ++ row ∷ []) k ≡ row = subst (λ m. slice_index (rows ++ row ∷ []) m ≡ row) a.0 (index_at rows row) in
    subst (λ m. P m (slice_index (rows ++ row ∷ []) m)) (sym e) (subst (P k) (sym at) h)

pub further_row : (P : ℕ → ℕ → Type 0) (rows new : List ℕ) (k row : ℕ) → new ≡ rows ++ row ∷ [] → AreRows P rows k → P k row → AreRows P new (k + 1)
further_row P rows new k row e a h =
    let longer : length (rows ++ row ∷ []) ≡ length rows + 1 = length-append rows (row ∷ []) in (
      ap (λ l. length l) e ∙ longer ∙ ap (λ n. n + 1) a.0,
      λ j lt. subst (λ l. P j (slice_index l j)) (sym e) (row_at P rows k row j a h (split j k lt)),
    )
