-- What a load leaves in the ring.
use Rattle.std.proofs.Common.{◌≡◌, ℕ, ◌+◌, ◌-◌, ◌*◌, ◌%◌, ◌<◌, ◌≤◌, List, ◌∷◌, ◌++◌, length, get_or, take, drop, replicate, Option, None, refl, subst, sym, ap, inl, inr, ◌∙◌, arith, length-drop, append_assoc}
use Rattle.std.proofs.Math.Nat.{add-mod_right}
use Rattle.std.proofs.lemmas.List.{append-nil, drop-drop, drop_at, take_at, take-take, drop_all, drop-append-le, length-replicate, get_or-drop}
use Rattle.std.proofs.lemmas.Bool.{cases_lt}
use Rattle.method_cache.specs.declared.blocks.Tag.{Tag}
use Rattle.method_cache.specs.Contents.{Entry, blocks_for, total_blocks, fitting, HaveWords}
use Rattle.method_cache.specs.Ring.{rotated, parts, held, laid, stale_of, stale_first, cleared}
use Rattle.method_cache.proofs.Rotation.{get_or-rotated, length-rotated}
use Rattle.method_cache.proofs.Held.{held-append, held-free, held-laid, blocks_for-pos, blocks_for-room}
use Rattle.method_cache.proofs.Fitting.{fitting-fits, held-fitting, total_blocks-fitting, total_blocks-fitting-le}
use Rattle.method_cache.proofs.Stale.{Tags, evicted, stale_first-free, stale_first-le, length-free}

-- free blocks, and then the blocks of these methods
abbrev pub in_order : ℕ → ℕ → List Entry → Tags
in_order w blocks es = replicate (blocks - total_blocks w es) None ++ laid w es

length-in_order : (w blocks : ℕ) (es : List Entry) → total_blocks w es ≤ blocks → length (in_order w blocks es) ≡ blocks
length-in_order w blocks es fits = length-free w (blocks - total_blocks w es) es ∙ omega arith

-- the free blocks hold nothing
pub held-in_order : (w blocks : ℕ) (es : List Entry) (ws : List ℕ) → held w (in_order w blocks es) ws ≡ held w (laid w es) (drop ((blocks - total_blocks w es) * w) ws)
held-in_order w blocks es ws =
    let free = blocks - total_blocks w es in
    held-append w (replicate free None) (laid w es) ws
    ∙ ap (λ (fs : List Entry). held w (laid w es) (drop (length (replicate {A = Option Tag} free None) * w) ws) ++ fs) (held-free w free ws)
    ∙ append-nil _
    ∙ ap (λ (k : ℕ). held w (laid w es) (drop (k * w) ws)) (length-replicate {A = Option Tag} free None)

-- what is left once the first s blocks are taken
pub cleared-in_order : (w blocks s : ℕ) (es : List Entry) → 0 < w → HaveWords es → total_blocks w es ≤ blocks → s ≤ blocks → cleared w (drop s (in_order w blocks es)) ≡ in_order w (blocks - s) (fitting w (blocks - s) es)
cleared-in_order w blocks s es some h fits le =
    let total = total_blocks w es in
    let free = blocks - total in
    let room : free + total - s ≡ blocks - s = omega arith in
    let P : ℕ → Type 0 = λ k. cleared w (drop s (in_order w blocks es)) ≡ replicate (k - total_blocks w (fitting w k es)) None ++ laid w (fitting w k es) in
    subst P room (evicted w free s es some h (omega arith))

pub stale_room : (w blocks s : ℕ) (es : List Entry) → 0 < w → HaveWords es → total_blocks w es ≤ blocks → s ≤ blocks → stale_first w (drop s (in_order w blocks es)) ≤ length (drop s (in_order w blocks es))
stale_room w blocks s es some h fits le =
    let kept = fitting w (blocks - s) es in
    stale_first-le w _ _ (cleared-in_order w blocks s es some h fits le)
    (length-in_order w (blocks - s) kept (total_blocks-fitting w (blocks - s) es) ∙ sym (length-drop s (in_order w blocks es) ∙ ap (λ (k : ℕ). k - s) (length-in_order w blocks es fits)))

-- the block behind the first s says how many blocks are stale
pub stale_at : (w next s : ℕ) (es : List Entry) (tags : Tags) → 0 < w → HaveWords es → next < length tags → s ≤ length tags → rotated next tags ≡ in_order w (length tags) es → stale_of w (get_or tags ((next + s) % length tags) None) ≡ stale_first w (drop s (rotated next tags))
stale_at w next s es tags some h place le order =
    let n = length tags in
    elim (cases_lt s n) [
      | inl low ↦
          ap (stale_of w) (
          sym (get_or-rotated next tags (omega arith) s None low)
          ∙ ap (λ (k : ℕ). get_or (rotated next tags) k None) (let e : s ≡ s + 0 = omega arith in e)
          ∙ sym (get_or-drop s (rotated next tags) 0 None)
          )
      | inr high ↦
          let whole : s ≡ n = omega arith in
          let long = length-rotated next tags (omega arith) in
          let same : (next + s) % n ≡ (next + 0) % n =
          ap (λ (k : ℕ). (next + k) % n) whole ∙ add-mod_right next n ∙ ap (λ (k : ℕ). k % n) (let e : next ≡ next + 0 = omega arith in e) in
          ap (λ (k : ℕ). stale_of w (get_or tags k None)) same
          ∙ ap (stale_of w) (sym (get_or-rotated next tags (omega arith) 0 None (omega arith)))
          ∙ ap (stale_first w) order
          ∙ stale_first-free w (n - total_blocks w es) es some h
          ∙ sym (ap (stale_first w) (drop_all s (rotated next tags) (omega arith)))
    ]

-- the tags after a load
pub tags_after : (w blocks m : ℕ) (ws : List ℕ) (es : List Entry) (tags : Tags) → 0 < w → HaveWords es → total_blocks w es ≤ blocks → blocks_for w (length ws) ≤ blocks → tags ≡ in_order w blocks es → let s = blocks_for w (length ws) in cleared w (drop s tags) ++ parts m (length ws) s ≡ in_order w blocks (record { method = m; words = ws } ∷ fitting w (blocks - s) es)
tags_after w blocks m ws es tags some h fits room order =
    let s = blocks_for w (length ws) in
    let kept = fitting w (blocks - s) es in
    let ps = parts m (length ws) s in
    ap (λ ts. cleared w (drop s ts) ++ ps) order
    ∙ ap (λ ts. ts ++ ps) (cleared-in_order w blocks s es some h fits room)
    ∙ append_assoc (replicate (blocks - s - total_blocks w kept) None) (laid w kept) ps
    ∙ ap (λ (k : ℕ). replicate k None ++ (laid w kept ++ ps)) (let e : blocks - s - total_blocks w kept ≡ blocks - (s + total_blocks w kept) = omega arith in e)

-- the methods that the ring holds after a load: the loaded one, and those of the others that still fit
pub held_after : (w blocks m : ℕ) (ws : List ℕ) (es : List Entry) (words new : List ℕ) → 0 < w → 0 < length ws → HaveWords es → total_blocks w es ≤ blocks → blocks_for w (length ws) ≤ blocks → length words ≡ blocks * w → held w (in_order w blocks es) words ≡ es → take (length ws) new ≡ ws → let s = blocks_for w (length ws) in let kept = fitting w (blocks - s) es in held w (in_order w blocks (record { method = m; words = ws } ∷ kept)) (drop (s * w) words ++ new) ≡ record { method = m; words = ws } ∷ kept
held_after w blocks m ws es words new some has h fits room long was begins =
    let s = blocks_for w (length ws) in
    let e : Entry = record { method = m; words = ws } in
    let kept = fitting w (blocks - s) es in
    let total = total_blocks w es in
    let left = total_blocks w kept in
    let before = blocks - (s + left) in
    let left_fits : left ≤ blocks - s = total_blocks-fitting w (blocks - s) es in
    let left_le : left ≤ total = total_blocks-fitting-le w (blocks - s) es in
    let us = drop (s * w) words ++ new in
    let old = drop ((blocks - total) * w) words in
    let some_blocks : 0 < s = blocks_for-pos w (length ws) some has in
    let held_old : held w (laid w es) old ≡ es = sym (held-in_order w blocks es words) ∙ was in
    let long_s : s * w + (blocks - s) * w ≡ blocks * w = (let p : s * w + (blocks - s) * w ≡ (s + (blocks - s)) * w = omega arith in p) ∙ ap (λ (k : ℕ). k * w) (let q : s + (blocks - s) ≡ blocks = omega arith in q) in
    let parts_s : before * w + left * w ≡ (blocks - s) * w = (let p : before * w + left * w ≡ (before + left) * w = omega arith in p) ∙ ap (λ (k : ℕ). k * w) (let q : before + left ≡ blocks - s = omega arith in q) in
    let long_old : (blocks - total) * w + total * w ≡ blocks * w = (let p : (blocks - total) * w + total * w ≡ (blocks - total + total) * w = omega arith in p) ∙ ap (λ (k : ℕ). k * w) (let q : blocks - total + total ≡ blocks = omega arith in q) in
    let same_place : (blocks - total) * w + (total - left) * w ≡ s * w + before * w =
    (let p : (blocks - total) * w + (total - left) * w ≡ (blocks - total + (total - left)) * w = omega arith in p)
    ∙ ap (λ (k : ℕ). k * w) (let q : blocks - total + (total - left) ≡ s + before = omega arith in q)
    ∙ (let p : (s + before) * w ≡ s * w + before * w = omega arith in p) in
    let tail = length-drop (s * w) words in
    let tail_old = length-drop ((blocks - total) * w) words in
    -- the words from the oldest method that stays on
    let from_oldest : drop (before * w) us ≡ drop ((total - left) * w) old ++ new =
    drop-append-le (before * w) (drop (s * w) words) new (omega arith)
    ∙ ap (λ vs. vs ++ new) (
    drop-drop (before * w) (s * w) words
    ∙ ap (λ (k : ℕ). drop k words) (sym same_place)
    ∙ sym (drop-drop ((total - left) * w) ((blocks - total) * w) words)
    ) in
    -- the words of the newest
    let from_newest : drop (left * w) (drop (before * w) us) ≡ new =
    drop-drop (left * w) (before * w) us
    ∙ drop_at (drop (s * w) words) new _ (omega arith) in
    held-in_order w blocks (e ∷ kept) us
    ∙ held-laid w e kept (drop (before * w) us) some_blocks
    ∙ ap (λ vs. record { method = m; words = take (length ws) vs } ∷ held w (laid w kept) (drop (before * w) us)) from_newest
    ∙ ap (λ vs. record { method = m; words = vs } ∷ held w (laid w kept) (drop (before * w) us)) begins
    ∙ ap (λ vs. e ∷ held w (laid w kept) vs) from_oldest
    ∙ ap (λ (fs : List Entry). e ∷ fs) (held-fitting w (blocks - s) es old new some h (omega arith) held_old)

-- the methods after a load are those of the definition
pub held_loaded : (w blocks m : ℕ) (ws : List ℕ) (es : List Entry) (tags after : Tags) (words words_after : List ℕ) → 0 < w → 0 < length ws → HaveWords es → total_blocks w es ≤ blocks → blocks_for w (length ws) ≤ blocks → length words ≡ blocks * w → tags ≡ in_order w blocks es → held w tags words ≡ es → let s = blocks_for w (length ws) in after ≡ cleared w (drop s tags) ++ parts m (length ws) s → words_after ≡ drop (s * w) words ++ take (s * w) (ws ++ drop (length ws) words) → (held w after words_after ≡ fitting w blocks (record { method = m; words = ws } ∷ es)) × (after ≡ in_order w blocks (fitting w blocks (record { method = m; words = ws } ∷ es)))
held_loaded w blocks m ws es tags after words words_after some has h fits room long order was tags_are words_are =
    let s = blocks_for w (length ws) in
    let e : Entry = record { method = m; words = ws } in
    let new = take (s * w) (ws ++ drop (length ws) words) in
    let begins : take (length ws) new ≡ ws =
    take-take (length ws) (s * w) (ws ++ drop (length ws) words) (blocks_for-room w (length ws) some)
    ∙ take_at ws (drop (length ws) words) (length ws) refl in
    let kept : fitting w blocks (e ∷ es) ≡ e ∷ fitting w (blocks - s) es = fitting-fits w blocks e es room in
    let in_place = tags_are ∙ tags_after w blocks m ws es tags some h fits room order in
    let P : List Entry → Type 0 = λ fs. (held w after words_after ≡ fs) × (after ≡ in_order w blocks fs) in
    subst P (sym kept) (
      ap (λ ts. held w ts words_after) in_place
          ∙ ap (held w (in_order w blocks (e ∷ fitting w (blocks - s) es))) words_are
          ∙ held_after w blocks m ws es words new some has h fits room long (sym (ap (λ ts. held w ts words) order) ∙ was) begins,
      in_place,
    )
