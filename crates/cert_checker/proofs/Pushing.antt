-- Lists that grow by one item, beside another list or by their places.
use Rattle.std.proofs.Common.{◌≡◌, ℕ, ◌+◌, ◌<◌, ◌⊎◌, List, [], ◌∷◌, ◌++◌, length, get_or, Some, sym, ap, ◌∙◌, subst, inl, inr, arith}
use Rattle.std.specs.Prelude.{slice_get}
use Rattle.std.proofs.lemmas.Bool.{cases_lt}
use Rattle.std.proofs.lemmas.List.{get_or_append_left, get_or_push, length_push}
use Rattle.std.proofs.lemmas.Option.{slice_get-get_or, slice_get_within, get_or_from_slice_get}
use Rattle.lists.proofs.Lemmas.{some_same}
use Rattle.section_check.specs.Placing.{IsEntryAt}
use Rattle.section_check.proofs.LeastLemmas.{same_at}

-- what stands at a place of the longer list stood there before, or is the new item
pub push_cases : {Y : Type 0} (ys : List Y) (y z : Y) (i : ℕ) → slice_get (ys ++ y ∷ []) i ≡ Some z → (slice_get ys i ≡ Some z) ⊎ ((i ≡ length ys) × (y ≡ z))
push_cases ys y z i is =
    let below = slice_get_within (ys ++ y ∷ []) i z is in
    let long = length_push ys y in
    let at = get_or_from_slice_get (ys ++ y ∷ []) i z z is in
    elim (cases_lt i (length ys)) [
      | inl lt ↦ inl (slice_get-get_or ys i z lt ∙ ap Some (sym (get_or_append_left ys (y ∷ []) z i lt) ∙ at))
      | inr ge ↦
          let same : length ys ≡ i = omega arith in
          inr (sym same, sym (get_or_push ys y z i same) ∙ at)
    ]

-- each item of one list stands so to that at its place in another
abbrev pub EachAgrees : {X Y : Type 0} → (X → Y → Type 0) → List X → List Y → Type 0
EachAgrees {X} {Y} R xs ys = (i : ℕ) (x : X) (y : Y) → slice_get xs i ≡ Some x → slice_get ys i ≡ Some y → R x y

pub agrees_more : {X Y : Type 0} (R : X → Y → Type 0) (xs : List X) (ys : List Y) (i : ℕ) (x : X) (y : Y) → length ys ≡ i → slice_get xs i ≡ Some x → R x y → EachAgrees R xs ys → EachAgrees R xs (ys ++ y ∷ [])
agrees_more {X} {Y} R xs ys i x y long at agrees before = λ k u v ku kv.
    elim (push_cases ys y v k kv) [
      | inl old ↦ before k u v ku old
      | inr new ↦
          let same_place : i ≡ k = sym long ∙ sym new.0 in
          let P : X → Type 0 = λ w. R w v in
          let Q : Y → Type 0 = λ w. R x w in
          let S : ℕ → Type 0 = λ n. slice_get xs n ≡ Some x in
          subst P (some_same x u (sym (subst S same_place at) ∙ ku)) (subst Q new.1 agrees)
    ]

-- each item of the first n of one list stands so to what is read at its place in another
abbrev pub EachReads : {X Y : Type 0} → (X → Y → Type 0) → (none : Y) → List X → List Y → ℕ → Type 0
EachReads {X} {Y} R none xs ys n = (i : ℕ) (x : X) → i < n → IsEntryAt xs i x → R x (get_or ys i none)

pub reads_more : {X Y : Type 0} (R : X → Y → Type 0) (none : Y) (xs : List X) (ys : List Y) (n : ℕ) (x : X) (y : Y) → length ys ≡ n → x ≡ get_or xs n x → R x y → EachReads R none xs ys n → EachReads R none xs (ys ++ y ∷ []) (n + 1)
reads_more {X} {Y} R none xs ys n x y long at agrees before = λ i u early ui.
    elim (cases_lt i n) [
      | inl lt ↦ let P : Y → Type 0 = λ w. R u w in subst P (sym (get_or_append_left ys (y ∷ []) none i (omega arith))) (before i u lt ui)
      | inr ge ↦
          let same : n ≡ i = omega arith in
          let P : Y → Type 0 = λ w. R u w in
          let Q : X → Type 0 = λ w. R w y in
          let S : ℕ → Type 0 = λ k. x ≡ get_or xs k x in
          subst P (sym (get_or_push ys y none i (long ∙ same))) (subst Q (same_at xs i u x ui (subst S same at)) agrees)
    ]
