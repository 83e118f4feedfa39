-- Words among other words.
use Rattle.std.proofs.Common.{◌≡◌, ℕ, zero, suc, ◌+◌, ◌*◌, ◌<◌, List, [], ◌∷◌, ◌++◌, Some, length, map, refl, sym, ap, ◌∙◌, append-nil, arith}
use Rattle.std.specs.Prelude.{slice_get, replicate, sum_by}
use Rattle.std.specs.List.{range_with_len}
use Rattle.std.proofs.Math.Nat.{suc-mul}
use Rattle.std.proofs.lemmas.List.Sums.{sum_by-cons}
use Rattle.lists.proofs.Lemmas.{none≢some, some_same}
use Rattle.image_facts.specs.Within.{LieAt}
use Rattle.image_facts.proofs.Pieces.{differ_of, lie_of, differ_behind, differ_ahead}

pub lie_behind : (front whole : List ℕ) (place : ℕ) (words : List ℕ) → LieAt whole place words → LieAt (front ++ whole) (length front + place) words
lie_behind front whole place words l =
    lie_of (front ++ whole) (front ++ whole) (length front + place) words words (differ_behind front whole whole place words words (differ_of whole place words l))

pub lie_ahead : (whole back : List ℕ) (place : ℕ) (words : List ℕ) → LieAt whole place words → LieAt (whole ++ back) place words
lie_ahead whole back place words l = lie_of (whole ++ back) (whole ++ back) place words words (differ_ahead whole whole back place words words (differ_of whole place words l))

pub lie_first : (words : List ℕ) → LieAt words 0 words
lie_first words = record { before = []; after = []; split = sym (append-nil words); place_is = refl }

lie_cons : (whole : List ℕ) (first place : ℕ) (words : List ℕ) → LieAt whole place words → LieAt (first ∷ whole) (suc place) words
lie_cons whole first place words l = record { before = first ∷ l.before; after = l.after; split = ap (λ (ws : List ℕ). first ∷ ws) l.split; place_is = ap suc l.place_is }

pub map_lie : {A : Type 0} (g : A → ℕ) (xs : List A) (i : ℕ) (x : A) → slice_get xs i ≡ Some x → LieAt (map g xs) i (g x ∷ [])
map_lie g [] i x h = absurd (none≢some x h)
map_lie g (y ∷ xs) zero x h = record { before = []; after = map g xs; split = ap (λ z. g z ∷ map g xs) (some_same y x h); place_is = refl }
map_lie g (y ∷ xs) (suc i) x h = lie_cons (map g xs) (g y) i (g x ∷ []) (map_lie g xs i x h)

pub zero_lies : (n i : ℕ) → i < n → LieAt (replicate n 0) i (0 ∷ [])
zero_lies zero i lt = absurd (omega (arith, lt))
zero_lies (suc n) zero lt = record { before = []; after = replicate n 0; split = refl; place_is = refl }
zero_lies (suc n) (suc i) lt = lie_cons (replicate n 0) 0 i (0 ∷ []) (zero_lies n i (omega (arith, lt)))

pub range_get : (a n c : ℕ) → c < n → slice_get (range_with_len a n) c ≡ Some (a + c)
range_get a zero c lt = absurd (omega (arith, lt))
range_get a (suc n) zero lt = let same : a ≡ a + 0 = omega arith in ap Some same
range_get a (suc n) (suc c) lt = let same : a + 1 + c ≡ a + suc c = omega arith in range_get (a + 1) n c (omega (arith, lt)) ∙ ap Some same

-- the sum of equal sizes
pub equal_sum : {A : Type 0} (w : ℕ) (xs : List A) → sum_by (λ x. w) xs ≡ length xs * w
equal_sum w [] = omega arith
equal_sum w (x ∷ xs) =
    let rest = equal_sum w xs in
    let step = suc-mul (length xs) w in
    let first = sum_by-cons (λ x. w) x xs in
    let same : w + length xs * w ≡ length xs * w + w = omega arith in
    first ∙ (ap (λ n. w + n) rest ∙ (same ∙ sym step))
