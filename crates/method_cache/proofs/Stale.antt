-- The blocks of a method of which a load takes the first ones: they become free.
use Rattle.std.proofs.Common.{◌≡◌, ℕ, zero, suc, ◌+◌, ◌-◌, ◌<◌, ◌≤◌, false, cond, eqb, List, [], ◌∷◌, ◌++◌, length, get_or, drop, replicate, Option, None, refl, ap, sym, subst, inl, inr, ◌∙◌, arith, length-append, length-drop, append_assoc}
use Rattle.std.proofs.lemmas.List.{append-nil, drop-drop, drop-append-le, drop_all, drop_at, drop-replicate, length-replicate, get_or_append_left, get_or-append_right, get_or-drop}
use Rattle.std.proofs.lemmas.Bool.{cases_lt}
use Rattle.std.proofs.lemmas.Bool.Decides.{nat_tests}
use Rattle.method_cache.specs.declared.blocks.Tag.{Tag}
use Rattle.method_cache.specs.Contents.{Entry, blocks_of, total_blocks, fitting, HaveWords}
use Rattle.method_cache.specs.Ring.{parts, laid, stale_of, stale_first, cleared}
use Rattle.method_cache.proofs.Parts.{length-parts, get_or-parts}
use Rattle.method_cache.proofs.Held.{length-laid, blocks_for-pos}
use Rattle.method_cache.proofs.Fitting.{fitting-fits, fitting-full, fitting-zero, total_blocks-fitting}

abbrev pub Tags : Type 0
Tags = List (Option Tag)

-- nothing is stale at the oldest method
stale_first-laid : (w : ℕ) (es : List Entry) → 0 < w → HaveWords es → stale_first w (laid w es) ≡ 0
stale_first-laid w [] some h = refl
stale_first-laid w (e ∷ es) some h =
    let ps = parts e.method (length e.words) (blocks_of w e) in
    elim (cases_lt 0 (length (laid w es))) [
      | inl others ↦ ap (stale_of w) (get_or_append_left (laid w es) ps None 0 others) ∙ stale_first-laid w es some h.1
      | inr alone ↦ ap (stale_of w) (
          get_or-append_right (laid w es) ps 0 0 None (omega arith) (omega arith)
          ∙ get_or-parts e.method (length e.words) (blocks_of w e) 0 (blocks_for-pos w (length e.words) some h.0) None
          )
    ]

-- nor at the free blocks before it
pub stale_first-free : (w f : ℕ) (es : List Entry) → 0 < w → HaveWords es → stale_first w (replicate f None ++ laid w es) ≡ 0
stale_first-free w zero es some h = stale_first-laid w es some h
stale_first-free w (suc f) es some h = refl

cleared-none : (w : ℕ) (ts : Tags) → stale_first w ts ≡ 0 → cleared w ts ≡ ts
cleared-none w ts none = ap (λ (k : ℕ). replicate k None ++ drop k ts) none

cleared-free : (w n : ℕ) → cleared w (replicate n None) ≡ replicate n None
cleared-free w zero = refl
cleared-free w (suc n) = refl

cleared-append : (w : ℕ) (xs ys : Tags) → 0 < length xs → stale_first w xs ≤ length xs → cleared w (xs ++ ys) ≡ cleared w xs ++ ys
cleared-append w xs ys some le =
    let c = stale_first w xs in
    let same : stale_first w (xs ++ ys) ≡ c = ap (stale_of w) (get_or_append_left xs ys None 0 some) in
    ap (λ (k : ℕ). replicate k None ++ drop k (xs ++ ys)) same
    ∙ ap (λ ts. replicate c None ++ ts) (drop-append-le c xs ys le)
    ∙ sym (append_assoc (replicate c None) (drop c xs) ys)

pub length-free : (w f : ℕ) (es : List Entry) → length (replicate {A = Option Tag} f None ++ laid w es) ≡ f + total_blocks w es
length-free w f es = length-append (replicate f None) (laid w es) ∙ omega (arith, length-laid w es, length-replicate {A = Option Tag} f None)

-- the blocks up to the oldest method that stays are given away
abbrev pub Evicts : ℕ → ℕ → ℕ → List Entry → Type 0
Evicts w f s es =
    let room = f + total_blocks w es - s in
    let kept = fitting w room es in
    cleared w (drop s (replicate f None ++ laid w es)) ≡ replicate (room - total_blocks w kept) None ++ laid w kept

-- the newest method stays, and an older one or a free block too
evicted_before : (w f s : ℕ) (e : Entry) (es : List Entry) → s < f + total_blocks w es → Evicts w f s es → Evicts w f s (e ∷ es)
evicted_before w f s e es before older =
    let b = blocks_of w e in
    let total = total_blocks w es in
    let room = f + total - s in
    let kept = fitting w room es in
    let whole = f + (b + total) - s in
    let ps = parts e.method (length e.words) b in
    let all = replicate {A = Option Tag} f None ++ laid w es in
    let long = length-free w f es in
    let xs = drop s all in
    let long_xs : length xs ≡ room = length-drop s all ∙ omega arith in
    let fits = total_blocks-fitting w room es in
    let lengths : length (cleared w xs) ≡ (room - total_blocks w kept) + total_blocks w kept = ap length older ∙ length-free w (room - total_blocks w kept) kept in
    let c = stale_first w xs in
    let long_cleared : length (cleared w xs) ≡ c + (length xs - c) =
    length-append (replicate c None) (drop c xs) ∙ omega (arith, length-replicate {A = Option Tag} c None, length-drop c xs) in
    let c_le : c ≤ length xs = omega arith in
    let same_room : whole - b ≡ room = omega arith in
    let stays : fitting w whole (e ∷ es) ≡ e ∷ kept =
    fitting-fits w whole e es (omega arith) ∙ ap (λ (k : ℕ). e ∷ fitting w k es) same_room in
    let P : List Entry → Type 0 = λ fs. cleared w (drop s (replicate f None ++ (laid w es ++ ps))) ≡ replicate (whole - total_blocks w fs) None ++ laid w fs in
    subst P (sym stays) (
    ap (λ ts. cleared w (drop s ts)) (sym (append_assoc (replicate f None) (laid w es) ps))
    ∙ ap (cleared w) (drop-append-le s all ps (omega arith))
    ∙ cleared-append w xs ps (omega arith) c_le
    ∙ ap (λ ts. ts ++ ps) older
    ∙ append_assoc (replicate (room - total_blocks w kept) None) (laid w kept) ps
    ∙ ap (λ (k : ℕ). replicate k None ++ (laid w kept ++ ps)) (let e : room - total_blocks w kept ≡ whole - (b + total_blocks w kept) = omega arith in e)
    )

-- the newest method alone stays
evicted_at : (w f s : ℕ) (e : Entry) (es : List Entry) → 0 < w → HaveWords (e ∷ es) → s ≡ f + total_blocks w es → Evicts w f s (e ∷ es)
evicted_at w f s e es some h at =
    let b = blocks_of w e in
    let total = total_blocks w es in
    let whole = f + (b + total) - s in
    let ps = parts e.method (length e.words) b in
    let all = replicate {A = Option Tag} f None ++ laid w es in
    let long = length-free w f es in
    let none : stale_first w ps ≡ 0 = ap (stale_of w) (get_or-parts e.method (length e.words) b 0 (blocks_for-pos w (length e.words) some h.0) None) in
    let stays : fitting w whole (e ∷ es) ≡ e ∷ [] =
    fitting-fits w whole e es (omega arith)
    ∙ ap (λ (k : ℕ). e ∷ fitting w k es) (let z : whole - b ≡ 0 = omega arith in z)
    ∙ ap (λ (fs : List Entry). e ∷ fs) (fitting-zero w es some h.1) in
    let P : List Entry → Type 0 = λ fs. cleared w (drop s (replicate f None ++ (laid w es ++ ps))) ≡ replicate (whole - total_blocks w fs) None ++ laid w fs in
    subst P (sym stays) (
    ap (λ ts. cleared w (drop s ts)) (sym (append_assoc (replicate f None) (laid w es) ps))
    ∙ ap (cleared w) (drop_at all ps s (omega arith))
    ∙ cleared-none w ps none
    ∙ ap (λ (k : ℕ). replicate k None ++ ps) (let z : 0 ≡ whole - (b + 0) = omega arith in z)
    )

-- no method stays; the last blocks of the newest become free
evicted_within : (w f s : ℕ) (e : Entry) (es : List Entry) → f + total_blocks w es < s → s ≤ f + total_blocks w (e ∷ es) → Evicts w f s (e ∷ es)
evicted_within w f s e es after le =
    let b = blocks_of w e in
    let total = total_blocks w es in
    let whole = f + (b + total) - s in
    let j = s - (f + total) in
    let ps = parts e.method (length e.words) b in
    let all = replicate {A = Option Tag} f None ++ laid w es in
    let long = length-free w f es in
    let long_ps = length-parts e.method (length e.words) b in
    let sums : length all + j ≡ s = omega arith in
    let rest : drop s (all ++ ps) ≡ drop j ps =
    ap (λ (k : ℕ). drop k (all ++ ps)) (sym sums)
    ∙ sym (drop-drop j (length all) (all ++ ps))
    ∙ ap (drop j) (drop_at all ps (length all) refl) in
    let gone : fitting w whole (e ∷ es) ≡ [] = fitting-full w whole e es (omega arith) in
    let P : List Entry → Type 0 = λ fs. cleared w (drop s (replicate f None ++ (laid w es ++ ps))) ≡ replicate (whole - total_blocks w fs) None ++ laid w fs in
    let free : cleared w (drop j ps) ≡ replicate (b - j) None ++ [] = elim (cases_lt j b) [
      | inl low ↦
          let first : stale_first w (drop j ps) ≡ b - j =
          ap (stale_of w) (get_or-drop j ps 0 None ∙ ap (λ (k : ℕ). get_or ps k None) (let z : j + 0 ≡ j = omega arith in z) ∙ get_or-parts e.method (length e.words) b j low None)
          ∙ ap (λ t. cond t 0 (b - j)) (let later : eqb j 0 ≡ false = grind (arith, nat_tests) in later) in
          ap (λ (k : ℕ). replicate k None ++ drop k (drop j ps)) first
          ∙ ap (λ ts. replicate (b - j) None ++ ts) (drop_all (b - j) (drop j ps) (omega (arith, length-drop j ps)))
      | inr high ↦
          ap (cleared w) (drop_all j ps (omega arith))
          ∙ ap (λ (k : ℕ). replicate k None ++ []) (let z : 0 ≡ b - j = omega arith in z)
    ] in
    subst P (sym gone) (
    ap (λ ts. cleared w (drop s ts)) (sym (append_assoc (replicate f None) (laid w es) ps))
    ∙ ap (cleared w) rest
    ∙ free
    ∙ ap (λ (k : ℕ). replicate k None ++ []) (let z : b - j ≡ whole - 0 = omega arith in z)
    )

pub evicted : (w f s : ℕ) (es : List Entry) → 0 < w → HaveWords es → s ≤ f + total_blocks w es → Evicts w f s es
evicted w f s [] some h le =
    ap (λ ts. cleared w (drop s ts)) (append-nil (replicate f None))
    ∙ ap (cleared w) (drop-replicate s f None)
    ∙ cleared-free w (f - s)
    ∙ ap (λ (k : ℕ). replicate k None) (let z : f - s ≡ f + 0 - s - 0 = omega arith in z)
    ∙ sym (append-nil (replicate (f + 0 - s - 0) None))
evicted w f s (e ∷ es) some h le =
    elim (cases_lt s (f + total_blocks w es)) [
      | inl before ↦ evicted_before w f s e es before (evicted w f s es some h.1 (omega arith))
      | inr after ↦ elim (cases_lt (f + total_blocks w es) s) [
        | inl within ↦ evicted_within w f s e es within le
        | inr at ↦ evicted_at w f s e es some h (omega arith)
      ]
    ]

-- what becomes free is within what is left
pub stale_first-le : (w : ℕ) (xs ys : Tags) → cleared w xs ≡ ys → length ys ≡ length xs → stale_first w xs ≤ length xs
stale_first-le w xs ys e same =
    let c = stale_first w xs in
    let long : length (cleared w xs) ≡ c + (length xs - c) =
    length-append (replicate c None) (drop c xs) ∙ omega (arith, length-replicate {A = Option Tag} c None, length-drop c xs) in
    omega (arith, ap length e)
