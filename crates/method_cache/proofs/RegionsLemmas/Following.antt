-- Look-ups behind others.
use Rattle.std.proofs.Common.{◌≡◌, ℕ, ◌+◌, Bool, true, false, cond, List, [], ◌∷◌, ◌++◌, length, sum_by, refl, ap, ◌∙◌}
use Rattle.std.proofs.lemmas.List.Sums.{sum_by-append}
use Rattle.method_cache.specs.Contents.{Cache, is_cached, loaded}
use Rattle.method_cache.specs.Regions.Region.{load_stall}
use Rattle.method_cache.specs.Regions.LookUps.{loads, after, stall_of_loads}

pub after-sizes : (words : ℕ → List ℕ) (ms : List ℕ) (c : Cache) → ((after words ms c).blocks ≡ c.blocks) × ((after words ms c).block_words ≡ c.block_words)
after-sizes words [] c = (refl, refl)
after-sizes words (m ∷ ms) c =
    let there = loaded m (words m) c in
    let P : Bool → Type 0 = λ b.
    ((cond b (after words ms c) (after words ms there)).blocks ≡ c.blocks) × ((cond b (after words ms c) (after words ms there)).block_words ≡ c.block_words)
    in
    elim (is_cached m c) as P [ true ↦ after-sizes words ms c | false ↦ after-sizes words ms there ]

pub after-append : (words : ℕ → List ℕ) (xs ys : List ℕ) (c : Cache) → after words (xs ++ ys) c ≡ after words ys (after words xs c)
after-append words [] ys c = refl
after-append words (m ∷ ms) ys c =
    let there = loaded m (words m) c in
    let P : Bool → Type 0 = λ b. cond b (after words (ms ++ ys) c) (after words (ms ++ ys) there) ≡ after words ys (cond b (after words ms c) (after words ms there)) in
    elim (is_cached m c) as P [ true ↦ after-append words ms ys c | false ↦ after-append words ms ys there ]

pub loads-append : (words : ℕ → List ℕ) (xs ys : List ℕ) (c : Cache) → loads words (xs ++ ys) c ≡ loads words xs c ++ loads words ys (after words xs c)
loads-append words [] ys c = refl
loads-append words (m ∷ ms) ys c =
    let there = loaded m (words m) c in
    let P : Bool → Type 0 = λ b.
    cond b (loads words (ms ++ ys) c) (m ∷ loads words (ms ++ ys) there)
    ≡ cond b (loads words ms c) (m ∷ loads words ms there) ++ loads words ys (cond b (after words ms c) (after words ms there))
    in
    elim (is_cached m c) as P [ true ↦ loads-append words ms ys c | false ↦ ap (λ (ks : List ℕ). m ∷ ks) (loads-append words ms ys there) ]

pub stalls-append : (words : ℕ → List ℕ) (r : ℕ) (xs ys : List ℕ) (c : Cache) → stall_of_loads words r (xs ++ ys) c ≡ stall_of_loads words r xs c + stall_of_loads words r ys (after words xs c)
stalls-append words r xs ys c =
    let f : ℕ → ℕ = λ m. load_stall r (length (words m)) in
    ap (sum_by f) (loads-append words xs ys c) ∙ sum_by-append f (loads words xs c) (loads words ys (after words xs c))
