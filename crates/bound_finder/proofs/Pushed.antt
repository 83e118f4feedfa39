-- Lists that grow by one item, beside another list.
use Rattle.std.proofs.Common.{◌≡◌, ℕ, ◌⊎◌, List, [], ◌∷◌, ◌++◌, length, map, take, take_all, get_or, ◌<◌, ◌≤◌, ◌+◌, Some, sym, ap, ◌∙◌, subst, inl, inr, arith}
use Rattle.std.specs.Prelude.{slice_get}
use Rattle.std.proofs.lemmas.Bool.{cases_lt}
use Rattle.std.proofs.lemmas.List.{get_or_append_left, get_or_push, length_push, map_more}
use Rattle.std.proofs.lemmas.Option.{slice_get-get_or, slice_get_within, get_or_from_slice_get}
use Rattle.lists.proofs.Lemmas.{some_same}

-- what stands at a place of the longer list stood there before, or is the new item
pub push_cases : {Y : Type 0} (ys : List Y) (y z : Y) (i : ℕ) → slice_get (ys ++ y ∷ []) i ≡ Some z → (slice_get ys i ≡ Some z) ⊎ ((i ≡ length ys) × (y ≡ z))
push_cases ys y z i is =
    let below = slice_get_within (ys ++ y ∷ []) i z is in
    let long = length_push ys y in
    let at = get_or_from_slice_get (ys ++ y ∷ []) i z z is in
    elim (cases_lt i (length ys)) [
      | inl lt ↦ inl (slice_get-get_or ys i z lt ∙ ap Some (sym (get_or_append_left ys (y ∷ []) z i lt) ∙ at))
      | inr ge ↦
          let same : length ys ≡ i = omega arith in
          inr (sym same, sym (get_or_push ys y z i same) ∙ at)
    ]

-- each item of one list stands so to that at its place in another
abbrev pub EachAgrees : {X Y : Type 0} → (X → Y → Type 0) → List X → List Y → Type 0
EachAgrees {X} {Y} R xs ys = (i : ℕ) (x : X) (y : Y) → slice_get xs i ≡ Some x → slice_get ys i ≡ Some y → R x y

pub agrees_more : {X Y : Type 0} (R : X → Y → Type 0) (xs : List X) (ys : List Y) (i : ℕ) (x : X) (y : Y) → length ys ≡ i → slice_get xs i ≡ Some x → R x y → EachAgrees R xs ys → EachAgrees R xs (ys ++ y ∷ [])
agrees_more {X} {Y} R xs ys i x y long at agrees before = λ k u v ku kv.
    elim (push_cases ys y v k kv) [
      | inl old ↦ before k u v ku old
      | inr new ↦
          let same_place : i ≡ k = sym long ∙ sym new.0 in
          let P : X → Type 0 = λ w. R w v in
          let Q : Y → Type 0 = λ w. R x w in
          let S : ℕ → Type 0 = λ n. slice_get xs n ≡ Some x in
          subst P (some_same x u (sym (subst S same_place at) ∙ ku)) (subst Q new.1 agrees)
    ]

-- ---- the images of the first items of a list

pub images_more : {X Y : Type 0} (f : X → Y) (xs : List X) (i : ℕ) (d : X) (old new : List Y) → i < length xs → old ≡ map f (take i xs) → new ≡ old ++ f (get_or xs i d) ∷ [] → new ≡ map f (take (i + 1) xs)
images_more f xs i d old new lt before is = is ∙ ap (λ ys. ys ++ f (get_or xs i d) ∷ []) before ∙ sym (map_more f xs i d lt)

pub images_all : {X Y : Type 0} (f : X → Y) (xs : List X) (i : ℕ) (ys : List Y) → length xs ≤ i → ys ≡ map f (take i xs) → ys ≡ map f xs
images_all f xs i ys past is = is ∙ ap (map f) (take_all i xs past)
