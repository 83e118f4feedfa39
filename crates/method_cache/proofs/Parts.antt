-- The tags of a method's blocks.
use Rattle.std.proofs.Common.{◌≡◌, ℕ, zero, suc, ◌+◌, ◌<◌, [], ◌∷◌, ◌++◌, length, get_or, Option, Some, refl, ap, inl, inr, ◌∙◌, add-one, arith}
use Rattle.std.proofs.lemmas.List.{length_push, get_or_append_left, get_or_at}
use Rattle.std.proofs.lemmas.Bool.{cases_lt}
use Rattle.method_cache.specs.declared.blocks.Tag.{Tag}
use Rattle.method_cache.specs.Ring.{parts}

pub length-parts : (m n k : ℕ) → length (parts m n k) ≡ k
length-parts m n zero = refl
length-parts m n (suc k) = length_push (parts m n k) _ ∙ omega (arith, length-parts m n k)

-- one more block
pub parts_more : (m n k : ℕ) → parts m n (k + 1) ≡ parts m n k ++ Some (record { method = m; part = k; words = n }) ∷ []
parts_more m n k = ap (parts m n) (add-one k)

-- block j of a method is its part j
pub get_or-parts : (m n k j : ℕ) → j < k → (d : Option Tag) → get_or (parts m n k) j d ≡ Some (record { method = m; part = j; words = n })
get_or-parts m n zero j h d = absurd (omega arith)
get_or-parts m n (suc k) j h d =
    let long = length-parts m n k in
    elim (cases_lt j k) [
      | inl low ↦ get_or_append_left (parts m n k) _ d j (omega arith) ∙ get_or-parts m n k j low d
      | inr high ↦ let e : length (parts m n k) ≡ j = omega arith in
          get_or_at (parts m n k) _ [] d j e ∙ ap (λ (i : ℕ). Some (record { method = m; part = i; words = n })) (omega (arith, e, long))
    ]
