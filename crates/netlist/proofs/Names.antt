-- Names that stand once.
use Rattle.std.proofs.Common.{◌≡◌, ◌≢◌, ◌↔◌, inl, inr, ℕ, ◌+◌, ◌<◌, ◌≤◌, true, false, List, [], length, refl, sym, ap, ◌∙◌, subst, arith}
use Rattle.std.specs.Prelude.{slice_index_or, IsTrue, nat_eq}
use Rattle.std.specs.List.{All, AllPairs}
use Rattle.std.proofs.lemmas.Bool.{cases_eq, true≢false}
use Rattle.std.proofs.lemmas.List.{get_or_default}
use lib.Pointwise.{pointwise, bytes_decides}
use Rattle.netlist.specs.Names.{IsLast}
use Rattle.netlist.specs.WellFormed.{IsName}

abbrev pub at : List (List ℕ) → ℕ → List ℕ
at names k = slice_index_or names k []

-- no name up to a later place is that at place k
abbrev pub IsLastUpTo : List (List ℕ) → (k end : ℕ) → Type 0
IsLastUpTo names k end = (j : ℕ) → k < j → j < end → at names k ≢ at names j

pub none_yet : (names : List (List ℕ)) (k : ℕ) → IsLastUpTo names k (k + 1)
none_yet names k j lt ge = absurd (omega (arith, lt, ge))

pub one_more : (names : List (List ℕ)) (k end : ℕ) → at names k ≢ at names end → IsLastUpTo names k end → IsLastUpTo names k (end + 1)
one_more names k end h before j lt below e =
    elim (cases_eq j end) [
      | inl same ↦ h (e ∙ ap (at names) same)
      | inr other ↦ before j lt (omega (arith, below, other)) e
    ]

-- the texts that were compared are those at the places
pub differ : (names : List (List ℕ)) (k j : ℕ) (x y : List ℕ) → x ≡ at names k → y ≡ at names j → pointwise nat_eq x y ≡ false → at names k ≢ at names j
differ names k j x y hx hy unlike e = true≢false (sym ((bytes_decides x y).1 (hx ∙ e ∙ sym hy)) ∙ unlike)

pub agree : (names : List (List ℕ)) (k j : ℕ) (x y : List ℕ) → x ≡ at names k → y ≡ at names j → pointwise nat_eq x y ≡ true → at names k ≡ at names j
agree names k j x y hx hy alike = sym hx ∙ (bytes_decides x y).0 alike ∙ hy

pub not_last : (names : List (List ℕ)) (k j : ℕ) → k < j → j < length names → at names k ≡ at names j → IsTrue false ↔ IsLast names k
not_last names k j lt below e = ((λ f. absurd (let g : false ≡ true = f in cc)), (λ last. absurd (last j lt below e)))

pub is_last : (names : List (List ℕ)) (k end : ℕ) → length names ≤ end → IsLastUpTo names k end → IsTrue true ↔ IsLast names k
is_last names k end le before = ((λ t j lt below. before j lt (omega (arith, le, below))), (λ last. refl))

-- ---- all names

pub record AreNamesUpTo (names : List (List ℕ)) (end : ℕ) : Type 0 where
  pub each : (j : ℕ) → j < end → IsName (at names j)
  pub once : (j : ℕ) → j < end → IsLast names j

pub no_names : (names : List (List ℕ)) → AreNamesUpTo names 0
no_names names = record { each = λ j lt. absurd (omega (arith, lt)); once = λ j lt. absurd (omega (arith, lt)) }

pub names_push : (names : List (List ℕ)) (k : ℕ) → IsName (at names k) → IsLast names k → AreNamesUpTo names k → AreNamesUpTo names (k + 1)
names_push names k is last before = record {
  each = λ j lt. elim (cases_eq j k) [
    | inl same ↦ subst (λ i. IsName (at names i)) (sym same) is
    | inr other ↦ before.each j (omega (arith, lt, other))
  ];
  once = λ j lt. elim (cases_eq j k) [
    | inl same ↦ subst (IsLast names) (sym same) last
    | inr other ↦ before.once j (omega (arith, lt, other))
  ];
}

abbrev pub AreNames : List (List ℕ) → Type 0
AreNames names = All IsName names × AllPairs (λ a b. a ≢ b) names

name_of : (names : List (List ℕ)) (k : ℕ) → k < length names → AreNames names → IsName (at names k)
name_of names k lt h = h.0 k [] lt

last_of : (names : List (List ℕ)) (k : ℕ) → AreNames names → IsLast names k
last_of names k h j lt below = h.1 k j [] lt below

pub not_names : (names : List (List ℕ)) (k : ℕ) → k < length names → (IsName (at names k) × IsLast names k → IsTrue false) → IsTrue false ↔ AreNames names
not_names names k lt h = ((λ f. absurd (let g : false ≡ true = f in cc)), (λ a. h (name_of names k lt a, last_of names k a)))

pub are_names : (names : List (List ℕ)) (end : ℕ) → length names ≤ end → AreNamesUpTo names end → IsTrue true ↔ AreNames names
are_names names end le a = (
  (λ t. (
    (λ k d lt. subst IsName (get_or_default names k [] d lt) (a.each k (omega (arith, le, lt)))),
    (λ i j d lt below e. a.once i (omega (arith, le, lt, below)) j lt below
        (get_or_default names i [] d (omega (arith, lt, below)) ∙ e ∙ sym (get_or_default names j [] d below))),
  )),
  (λ h. refl),
)
