-- A load begins: some methods are gone, and the others begin where they did.
use Rattle.std.proofs.Common.{◌≡◌, ℕ, ◌+◌, ◌-◌, ◌%◌, ◌<◌, ◌≤◌, false, List, [], ◌∷◌, ◌++◌, length, Some, sym, ap, subst, inl, inr, mod-eq_of_lt, ◌∙◌, arith}
use Rattle.std.specs.Prelude.{slice_get}
use Rattle.std.proofs.Math.Nat.{add-mod_right, mod-add-mod, zero-div}
use Rattle.std.proofs.lemmas.Bool.{cases_lt}
use Rattle.method_cache.specs.Contents.{Entry, Cache, blocks_of, blocks_for, total_blocks, fitting, is_cached, loaded, first_block, IsCache}
use Rattle.method_cache.proofs.Fitting.{fitting-fits, fitting-full}
use Rattle.method_cache.proofs.Loads.{IsCache-loaded}
use Rattle.circuit_cycles.specs.Shape.{Shape}
use Rattle.circuit_cycles.specs.Tags.{BlockTag}
use Rattle.circuit_cycles.specs.Methods.{HasMethods, HasPart, BeginsIn, IsRing, Lies, distance, ring_word}
use Rattle.circuit_cycles.proofs.Entries.{is_split, distance_of, total-append}

-- what fits is a front of what there was
pub kept_front : (w room : ℕ) (es newer : List Entry) (e : Entry) (older : List Entry) → fitting w room es ≡ newer ++ e ∷ older
    → (rest : List Entry) × (es ≡ newer ++ e ∷ rest)
kept_front w room [] newer e older h = absurd (none newer h)
  where
    none : (xs : List Entry) → [] ≡ xs ++ e ∷ older → ⊥
    none [] k = cc
    none (x ∷ xs) k = cc
kept_front w room (x ∷ es) newer e older h =
    elim (cases_lt room (blocks_of w x)) [
      | inl full ↦ absurd (none newer (sym (fitting-full w room x es full) ∙ h))
      | inr fits ↦ front newer (sym (fitting-fits w room x es fits) ∙ h) (kept_front w (room - blocks_of w x) es)
    ]
  where
    none : (xs : List Entry) → [] ≡ xs ++ e ∷ older → ⊥
    none [] k = cc
    none (y ∷ xs) k = cc

    front : (xs : List Entry) → x ∷ fitting w (room - blocks_of w x) es ≡ xs ++ e ∷ older
        → ((ys : List Entry) (f : Entry) (fs : List Entry) → fitting w (room - blocks_of w x) es ≡ ys ++ f ∷ fs → (rest : List Entry) × (es ≡ ys ++ f ∷ rest))
        → (rest : List Entry) × (x ∷ es ≡ xs ++ e ∷ rest)
    front [] k later = let head : x ≡ e = cc in (es, ap (λ (y : Entry). y ∷ es) head)
    front (y ∷ xs) k later =
        let head : x ≡ y = cc in
        let tail : fitting w (room - blocks_of w x) es ≡ xs ++ e ∷ older = cc in
        let behind = later xs e older tail in
        let same = behind.1 in
        (behind.0, (let e' : x ∷ es ≡ y ∷ (xs ++ e ∷ behind.0) = cc in e'))

-- and it has each method that fits with all newer ones
pub kept_all : (w room : ℕ) (newer : List Entry) (e : Entry) (older : List Entry) → total_blocks w newer + blocks_of w e ≤ room
    → fitting w room (newer ++ e ∷ older) ≡ newer ++ e ∷ fitting w (room - (total_blocks w newer + blocks_of w e)) older
kept_all w room [] e older h =
    fitting-fits w room e older (omega (arith, h)) ∙ ap (λ k. e ∷ fitting w k older) (let e' : room - blocks_of w e ≡ room - (0 + blocks_of w e) = omega arith in e')
kept_all w room (x ∷ newer) e older h =
    fitting-fits w room x (newer ++ e ∷ older) (omega (arith, h))
    ∙ ap (λ (es : List Entry). x ∷ es) (kept_all w (room - blocks_of w x) newer e older (omega (arith, h)))
    ∙ ap (λ k. x ∷ (newer ++ e ∷ fitting w k older)) (let e' : room - blocks_of w x - (total_blocks w newer + blocks_of w e) ≡ room - (blocks_of w x + total_blocks w newer + blocks_of w e) = omega arith in e')

pub no_blocks : (w : ℕ) → blocks_for w 0 ≡ 0
no_blocks w = let q = zero-div w in omega (arith, q)

-- where a method begins, as the newest takes its blocks
pub shifted : (n next own taken : ℕ) → next < n → own + taken ≤ n → ((next + own) % n + (n - (own + taken))) % n ≡ (next + (n - taken)) % n
shifted n next own taken start fits =
    mod-add-mod (next + own) n (n - (own + taken))
    ∙ ap (λ k. k % n) (let e : next + own + (n - (own + taken)) ≡ next + (n - taken) = omega (arith, fits) in e)

abbrev pub entry : ℕ → List ℕ → Entry
entry m words = record { method = m; words = words }

abbrev pub kept : ℕ → List ℕ → Cache → List Entry
kept m words cache = fitting cache.block_words (cache.blocks - blocks_of cache.block_words (entry m words)) cache.contents

module _ (shape : Shape) (ring : List ℕ) (tags : List BlockTag) (next : ℕ) (cache : Cache) (m : ℕ) (words : List ℕ) (is : IsRing shape ring tags cache) (valid : IsCache cache) (has : HasMethods shape ring tags next cache) (absent : is_cached m cache ≡ false) (some : 0 < length words) (fits : blocks_for cache.block_words (length words) ≤ cache.blocks) where
  some_words : 0 < cache.block_words
  some_words = let given = is.some_words in let same = is.block_words in omega (arith, given, same)

  pub valid_after : IsCache (loaded m words cache)
  valid_after = IsCache-loaded m words cache (let below = valid.next in omega (arith, below)) valid absent some

  pub contents_after : (loaded m words cache).contents ≡ entry m words ∷ kept m words cache
  contents_after = fitting-fits cache.block_words cache.blocks (entry m words) cache.contents fits

  -- the others begin where they began
  same_block : (newer : List Entry) (e : Entry) → blocks_of cache.block_words (entry m words) + total_blocks cache.block_words (newer ++ e ∷ []) ≤ cache.blocks
      → first_block (entry m words ∷ newer) e (loaded m words cache) ≡ first_block newer e cache
  same_block newer e h = shifted cache.blocks cache.next (blocks_of cache.block_words (entry m words)) (total_blocks cache.block_words (newer ++ e ∷ [])) valid.next h

  pub first_after : first_block [] (entry m words) (loaded m words cache) ≡ cache.next
  first_after =
      let own = blocks_of cache.block_words (entry m words) in
      shifted cache.blocks cache.next own 0 valid.next (omega (arith, fits))
      ∙ ap (λ k. k % cache.blocks) (let e : cache.next + (cache.blocks - 0) ≡ cache.next + cache.blocks = omega arith in e)
      ∙ add-mod_right cache.next cache.blocks ∙ mod-eq_of_lt valid.next

  olds : (newer : List Entry) (e : Entry) (older : List Entry) → (loaded m words cache).contents ≡ (entry m words ∷ newer) ++ e ∷ older
      → Lies shape ring tags (loaded m words cache) (entry m words ∷ newer) e
  olds newer e older split =
      let w = cache.block_words in
      let both : entry m words ∷ kept m words cache ≡ entry m words ∷ (newer ++ e ∷ older) = sym contents_after ∙ split in
      let tail : kept m words cache ≡ newer ++ e ∷ older = cc in
      let front = kept_front w (cache.blocks - blocks_of w (entry m words)) cache.contents newer e older tail in
      let lies : Lies shape ring tags cache newer e = has.all newer e front.0 front.1 in
      let part = is_split (loaded m words cache) (entry m words ∷ newer) e older valid_after some_words split in
      let room = part.within in
      let own = total-append w newer (e ∷ []) in
      let same = same_block newer e (omega (arith, room, own)) in
      record {
        words = λ i below. ap (λ block. ring_word shape ring block i) same ∙ lies.words i below;
        tag = ap (λ block. slice_get tags block) same ∙ lies.tag;
      }

  others : (block : ℕ) (tag : BlockTag) → slice_get tags block ≡ Some tag → tag.begins ≡ 1
      → blocks_of shape.block_words (entry m words) - blocks_for shape.block_words 0 ≤ distance shape next block → BeginsIn (loaded m words cache) block tag
  others block tag at begins far =
      let w = cache.block_words in
      let was : BeginsIn cache block tag = has.others block tag at begins (omega arith) in
      let part = is_split cache was.newer was.method was.older valid some_words was.split in
      let total = part.total in
      let taken = total_blocks w was.newer + blocks_of w was.method in
      let there : (block + (cache.blocks - cache.next)) % cache.blocks ≡ cache.blocks - total_blocks w (was.newer ++ was.method ∷ []) =
      ap (λ k. (k + (cache.blocks - cache.next)) % cache.blocks) was.place
      ∙ distance_of cache.blocks cache.next (total_blocks w (was.newer ++ was.method ∷ [])) valid.next (let s = part.some_blocks in omega (arith, s, total)) (let r = part.within in omega (arith, r, total)) in
      let D : ℕ → ℕ → ℕ → Type 0 = λ v n k. blocks_for v (length words) - blocks_for v 0 ≤ (block + (n - k)) % n in
      let far' : blocks_for w (length words) - blocks_for w 0 ≤ (block + (cache.blocks - cache.next)) % cache.blocks =
      subst (λ k. D w cache.blocks k) has.next (subst (λ n. D w n next) (sym is.blocks) (subst (λ v. D v shape.blocks next) (sym is.block_words) far)) in
      let none = no_blocks w in
      let fit = part.within in
      let room : total_blocks w was.newer + blocks_of w was.method ≤ cache.blocks - blocks_of w (entry m words) = omega (arith, far', there, none, total, fit) in
      let all = kept_all w (cache.blocks - blocks_of w (entry m words)) was.newer was.method was.older room in
      record {
        newer = entry m words ∷ was.newer;
        method = was.method;
        older = fitting w (cache.blocks - blocks_of w (entry m words) - (total_blocks w was.newer + blocks_of w was.method)) was.older;
        split = contents_after ∙ ap (λ (es : List Entry). entry m words ∷ fitting w (cache.blocks - blocks_of w (entry m words)) es) was.split ∙ ap (λ (es : List Entry). entry m words ∷ es) all;
        place = was.place ∙ sym (same_block was.newer was.method (omega (arith, room, total, fits)));
        own = was.own;
      }

  pub load_begins : HasPart shape ring tags next (loaded m words cache) (entry m words) 0
  load_begins = record {
    olds = olds;
    words = λ i below. absurd (omega (arith, below));
    tag = λ below. absurd (omega (arith, below));
    next =
        has.next
        ∙ sym (mod-eq_of_lt valid.next)
        ∙ ap (λ n. cache.next % n) is.blocks
        ∙ ap (λ k. k % shape.blocks) ((let e : cache.next ≡ cache.next + 0 = omega arith in e) ∙ ap (λ k. cache.next + k) (sym (no_blocks shape.block_words)) ∙ ap (λ k. k + blocks_for shape.block_words 0) (sym first_after));
    others = others;
  }
