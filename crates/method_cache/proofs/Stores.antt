-- What stands in the ring after a method was stored.
use Rattle.std.proofs.Common.{◌≡◌, ℕ, ◌+◌, ◌-◌, ◌*◌, ◌%◌, ◌<◌, ◌≤◌, List, ◌++◌, length, take, drop, ap, sym, inl, inr, mod-eq_of_lt, ◌∙◌, arith, length-drop, append_assoc}
use Rattle.std.proofs.Math.Nat.{mul-le-mul_right}
use Rattle.std.proofs.lemmas.Nat.{mul-add-lt}
use Rattle.std.proofs.lemmas.Bool.{cases_lt}
use native.Mathlib.Nat.{mod-eq-sub-mod}
use Rattle.std.proofs.lemmas.List.{drop-drop, drop_at, take_at, drop-append-le}
use Rattle.method_cache.specs.Ring.{rotated}
use Rattle.method_cache.proofs.Rotation.{length-rotated, rotated-rotated}

-- behind what was put at `next` come the others, and it comes last
turned : {X : Type 0} (next s : ℕ) (old put front : List X) → next < length old → s ≤ length old → length put ≡ length old → length front ≡ s → rotated next put ≡ front ++ drop s (rotated next old) → rotated ((next + s) % length old) put ≡ drop s (rotated next old) ++ front
turned {X} next s old put front place room same front_is was =
    let rest = drop s (rotated next old) in
    ap (λ (n : ℕ). rotated ((next + s) % n) put) (sym same)
    ∙ rotated-rotated next s put (omega arith) (omega arith)
    ∙ ap (rotated s) was
    ∙ ap (λ (xs : List X). xs ++ take s (front ++ rest)) (drop_at front rest s front_is)
    ∙ ap (λ (xs : List X). rest ++ xs) (take_at front rest s front_is)

-- the same, after others became free there
pub turned_tags : {X : Type 0} (next s end c : ℕ) (old put done front free : List X) → next < length old → s ≤ length old → length put ≡ length old → length front ≡ s → c + s ≤ length old → rotated next put ≡ front ++ drop s (rotated next old) → end ≡ (next + s) % length old → rotated end done ≡ free ++ drop c (rotated end put) → rotated end done ≡ (free ++ drop c (drop s (rotated next old))) ++ front
turned_tags {X} next s end c old put done front free place room same front_is c_le was end_is then =
    let rest = drop s (rotated next old) in
    let long = length-rotated next old (omega arith) in
    let long_rest = length-drop s (rotated next old) in
    then
    ∙ ap (λ (xs : List X). free ++ drop c xs) (ap (λ (e : ℕ). rotated e put) end_is ∙ turned next s old put front place room same front_is was)
    ∙ ap (λ (xs : List X). free ++ xs) (drop-append-le c rest front (omega arith))
    ∙ sym (append_assoc free (drop c rest) front)

-- the first word of a block that lies s blocks on
first_word : (next s w blocks : ℕ) → next < blocks → s ≤ blocks → 0 < w → ((next + s) % blocks) * w ≡ (next * w + s * w) % (blocks * w)
first_word next s w blocks place room some =
    let distributed : (next + s) * w ≡ next * w + s * w = omega arith in
    elim (cases_lt (next + s) blocks) [
      | inl low ↦
          let inside : (next + s) * w + 0 < w * blocks = mul-add-lt (next + s) w 0 blocks low some in
          ap (λ (k : ℕ). k * w) (mod-eq_of_lt low)
          ∙ distributed
          ∙ sym (mod-eq_of_lt (let h : next * w + s * w < blocks * w = omega arith in h))
      | inr high ↦
          let j = next + s - blocks in
          let below : j < blocks = omega arith in
          let wraps : (next + s) % blocks ≡ j = mod-eq-sub-mod high ∙ mod-eq_of_lt below in
          let back : (j + blocks) * w ≡ (next + s) * w = ap (λ (k : ℕ). k * w) (let e : j + blocks ≡ next + s = omega arith in e) in
          let inside : j * w + 0 < w * blocks = mul-add-lt j w 0 blocks below some in
          let turn : next * w + s * w - blocks * w ≡ j * w = omega arith in
          let past : blocks * w ≤ next * w + s * w = omega arith in
          ap (λ (k : ℕ). k * w) wraps
          ∙ sym turn
          ∙ sym (mod-eq-sub-mod past ∙ mod-eq_of_lt (let h : next * w + s * w - blocks * w < blocks * w = omega arith in h))
    ]

-- words of s blocks from a block on, where the method's words may end before those of its last block
pub turned_words : (next s end w blocks : ℕ) (old put ws : List ℕ) → next < blocks → s ≤ blocks → 0 < w → length old ≡ blocks * w → length put ≡ length old → length ws ≤ s * w → rotated (next * w) put ≡ ws ++ drop (length ws) (rotated (next * w) old) → end ≡ (next + s) % blocks → rotated (end * w) put ≡ drop (s * w) (rotated (next * w) old) ++ take (s * w) (ws ++ drop (length ws) (rotated (next * w) old))
turned_words next s end w blocks old put ws place room some long same fits was end_is =
    let ring = rotated (next * w) old in
    let n = length ws in
    let more = s * w - n in
    let inside = mul-add-lt next w 0 blocks place some in
    let whole : s * w ≤ blocks * w = mul-le-mul_right w room in
    let at : end * w ≡ (next * w + s * w) % length put =
    ap (λ (e : ℕ). e * w) end_is
    ∙ first_word next s w blocks place room some
    ∙ ap (λ (k : ℕ). (next * w + s * w) % k) (sym (same ∙ long)) in
    let sums : n + more ≡ s * w = omega arith in
    ap (λ (k : ℕ). rotated k put) at
    ∙ rotated-rotated (next * w) (s * w) put (omega arith) (omega arith)
    ∙ ap (rotated (s * w)) was
    ∙ ap (λ (xs : List ℕ). xs ++ take (s * w) (ws ++ drop n ring)) (
    ap (λ (k : ℕ). drop k (ws ++ drop n ring)) (sym sums)
    ∙ sym (drop-drop more n (ws ++ drop n ring))
    ∙ ap (drop more) (drop_at ws (drop n ring) n (let e : length ws ≡ n = omega arith in e))
    ∙ drop-drop more n ring
    ∙ ap (λ (k : ℕ). drop k ring) sums
    )
