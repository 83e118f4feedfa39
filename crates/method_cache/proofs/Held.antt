-- The methods that blocks hold.
use Rattle.std.proofs.Common.{◌≡◌, ℕ, zero, suc, ◌+◌, ◌-◌, ◌*◌, ◌<◌, ◌≤◌, false, eqb, List, [], ◌∷◌, ◌++◌, length, take, drop, replicate, Option, Some, None, refl, ap, sym, ◌∙◌, cond, arith, length-append, append_assoc}
use Rattle.std.proofs.lemmas.List.{append-nil, drop-drop}
use Rattle.std.proofs.lemmas.Grind.{div_ceil_times}
use Rattle.std.proofs.lemmas.Bool.Decides.{nat_tests}
use Rattle.method_cache.specs.declared.blocks.Tag.{Tag}
use Rattle.method_cache.specs.Contents.{Entry, blocks_for, blocks_of, total_blocks}
use Rattle.method_cache.specs.Ring.{beginning, held, parts, laid}
use Rattle.method_cache.proofs.Parts.{length-parts}

-- what blocks one behind the other hold
pub held-append : (w : ℕ) (xs ys : List (Option Tag)) (ws : List ℕ) → held w (xs ++ ys) ws ≡ held w ys (drop (length xs * w) ws) ++ held w xs ws
held-append w [] ys ws = sym (append-nil (held w ys (drop (0 * w) ws))
    ∙ ap (λ (k : ℕ). held w ys (drop k ws)) (let z : 0 * w ≡ 0 = omega arith in z))
held-append w (t ∷ xs) ys ws =
    ap (λ es. es ++ beginning t ws) (held-append w xs ys (drop w ws))
    ∙ append_assoc (held w ys (drop (length xs * w) (drop w ws))) (held w xs (drop w ws)) (beginning t ws)
    ∙ ap (λ us. held w ys us ++ (held w xs (drop w ws) ++ beginning t ws)) (drop-drop (length xs * w) w ws ∙ ap (λ (k : ℕ). drop k ws) (let e : w + length xs * w ≡ suc (length xs) * w = omega arith in e))

-- free blocks hold nothing
pub held-free : (w k : ℕ) (ws : List ℕ) → held w (replicate k None) ws ≡ []
held-free w zero ws = refl
held-free w (suc k) ws = append-nil (held w (replicate k None) (drop w ws)) ∙ held-free w k (drop w ws)

not_first : (k : ℕ) → eqb (suc k) 0 ≡ false
not_first k = grind (arith, nat_tests)

-- no method begins in a later part of one
beginning-later : (m n k : ℕ) (ws : List ℕ) → beginning (Some (record { method = m; part = suc k; words = n })) ws ≡ []
beginning-later m n k ws = ap (λ b. cond b (record { method = m; words = take n ws } ∷ []) []) (not_first k)

-- the blocks of a method hold it
pub held-parts : (w m n k : ℕ) (ws : List ℕ) → held w (parts m n (suc k)) ws ≡ record { method = m; words = take n ws } ∷ []
held-parts w m n zero ws = refl
held-parts w m n (suc k) ws =
    let us = drop (length (parts m n (suc k)) * w) ws in
    held-append w (parts m n (suc k)) (Some (record { method = m; part = suc k; words = n }) ∷ []) ws
    ∙ ap (λ (es : List Entry). es ++ held w (parts m n (suc k)) ws) (beginning-later m n k us)
    ∙ held-parts w m n k ws

-- a method of some words takes some blocks, which have room for them
pub blocks_for-pos : (w n : ℕ) → 0 < w → 0 < n → 0 < blocks_for w n
blocks_for-pos w n some words = let room = div_ceil_times n w some in
    grind (arith, room)

pub blocks_for-room : (w n : ℕ) → 0 < w → n ≤ blocks_for w n * w
blocks_for-room w n some = (div_ceil_times n w some).0

pub length-laid : (w : ℕ) (es : List Entry) → length (laid w es) ≡ total_blocks w es
length-laid w [] = refl
length-laid w (e ∷ es) =
    length-append (laid w es) _ ∙ omega (arith, length-laid w es, length-parts e.method (length e.words) (blocks_of w e))

-- the blocks of some methods hold the newest one at their end, and the others before it
pub held-laid : (w : ℕ) (e : Entry) (es : List Entry) (ws : List ℕ) → 0 < blocks_of w e → held w (laid w (e ∷ es)) ws ≡ record { method = e.method; words = take (length e.words) (drop (total_blocks w es * w) ws) } ∷ held w (laid w es) ws
held-laid w e es ws some =
    let b = blocks_of w e in
    let ps = parts e.method (length e.words) in
    let us = drop (length (laid w es) * w) ws in
    let newest : held w (ps b) us ≡ record { method = e.method; words = take (length e.words) us } ∷ [] =
    ap (λ (k : ℕ). held w (ps k) us) (let e : b ≡ suc (b - 1) = omega arith in e) ∙ held-parts w e.method (length e.words) (b - 1) us in
    held-append w (laid w es) (ps b) ws
    ∙ ap (λ (fs : List Entry). fs ++ held w (laid w es) ws) newest
    ∙ ap (λ (k : ℕ). record { method = e.method; words = take (length e.words) (drop (k * w) ws) } ∷ held w (laid w es) ws) (length-laid w es)
