-- Bytes joined by spaces, one more at the end.
use Rattle.std.proofs.Common.{◌≡◌, ℕ, zero, suc, ◌+◌, ◌<◌, Bool, false, List, [], ◌∷◌, ◌++◌, length, map, get_or, take, refl, sym, ap, ◌∙◌, arith, inl, inr}
use Rattle.std.specs.Prelude.{◌==◌, decimal, if◌then◌else◌}
use Rattle.std.specs.List.{join_with_byte}
use Rattle.std.proofs.lemmas.Bool.{cases_Bool, eqb-true}
use Rattle.std.proofs.lemmas.List.{append_assoc, length-map, length-take-le, map-append, take_more}
use Rattle.answer_lines.specs.WorkLines.{bytes_text}

-- what stands before a piece: nothing at the first place
abbrev pub space_at : ℕ → List ℕ
space_at place = if place == 0 then [] else 32 ∷ []

behind : (x : List ℕ) (xs : List (List ℕ)) (y : List ℕ) → join_with_byte 32 ((x ∷ xs) ++ y ∷ []) ≡ join_with_byte 32 (x ∷ xs) ++ 32 ∷ y
behind x [] y = refl
behind x (z ∷ zs) y =
    ap (λ (t : List ℕ). x ++ 32 ∷ t) (behind z zs y) ∙ sym (append_assoc x (32 ∷ join_with_byte 32 (z ∷ zs)) (32 ∷ y))

not_first : (n : ℕ) → (suc n == 0) ≡ false
not_first n = elim (cases_Bool (suc n == 0)) [
  | inl e ↦ absurd (let same : suc n ≡ 0 = eqb-true (suc n) 0 e in omega arith)
  | inr e ↦ e
]

-- one piece more, by how many there are
one_more : (xs : List (List ℕ)) (y : List ℕ) (place : ℕ) → length xs ≡ place → join_with_byte 32 (xs ++ y ∷ []) ≡ join_with_byte 32 xs ++ (space_at place ++ y)
one_more [] y zero long = refl
one_more [] y (suc place) long = absurd (omega arith)
one_more (x ∷ xs) y zero long = absurd (omega arith)
one_more (x ∷ xs) y (suc place) long =
    behind x xs y ∙ ap (λ (first : Bool). join_with_byte 32 (x ∷ xs) ++ ((if first then [] else 32 ∷ []) ++ y)) (sym (not_first place))

pub byte_more : (bytes : List ℕ) (place : ℕ) → place < length bytes → bytes_text (take (place + 1) bytes) ≡ bytes_text (take place bytes) ++ (space_at place ++ decimal (get_or bytes place 0))
byte_more bytes place within =
    let before : List (List ℕ) = map decimal (take place bytes) in
    let long : length before ≡ place = length-map (take place bytes) decimal ∙ length-take-le place bytes (omega arith) in
    ap bytes_text (take_more bytes place 0 within)
    ∙ (ap (join_with_byte 32) (map-append decimal (take place bytes) (get_or bytes place 0 ∷ []))
    ∙ one_more before (decimal (get_or bytes place 0)) place long)
