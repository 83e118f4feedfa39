-- A word of a load is written: the others stay, and the block is the newest method's.
use Rattle.std.proofs.Common.{◌≡◌, ◌≢◌, ℕ, zero, suc, ◌+◌, ◌-◌, ◌*◌, ◌/◌, ◌%◌, ◌<◌, ◌≤◌, ◌⊎◌, Bool, true, false, min, List, [], ◌∷◌, ◌++◌, length, Some, refl, sym, ap, subst, inl, inr, mod-eq_of_lt, ◌∙◌, arith}
use Rattle.std.specs.Prelude.{slice_get, slice_set, slice_index, ◌==◌, if◌then◌else◌}
use Rattle.std.proofs.Math.Nat.{mod-add-mod, mul-le-mul_right}
use Rattle.std.proofs.lemmas.Nat.{mod_below, mod-mul-add, div-mul-add, div-add-mod'}
use Rattle.std.proofs.lemmas.Bool.{cases_lt, cases_eq}
use Rattle.std.proofs.lemmas.List.{get_or-set_same, get_or-set_other}
use Rattle.std.proofs.lemmas.Option.{slice_get_within}
use Rattle.method_cache.specs.Contents.{Entry, Cache, blocks_of, blocks_for, total_blocks, first_block, IsCache}
use Rattle.method_cache.proofs.Held.{blocks_for-room, blocks_for-pos}
use Rattle.circuit_cycles.specs.Shape.{Shape}
use Rattle.circuit_cycles.specs.Tags.{BlockTag, bit_of, behind}
use Rattle.circuit_cycles.specs.Methods.{HasPart, BeginsIn, IsRing, distance, ring_word, tag_of_entry, LieFrom}
use Rattle.circuit_cycles.proofs.Rounds.{same_place, word_around, behind_next, distance_falls, eqb_eq, eqb_ne}
use Rattle.circuit_cycles.proofs.Entries.{is_split}
use Rattle.circuit_cycles.proofs.LoadBegins.{no_blocks}

-- ---- lists that are set at a place

get_set_same : (tags : List BlockTag) (i : ℕ) (t : BlockTag) → i < length tags → slice_get (slice_set tags i t) i ≡ Some t
get_set_same [] i t h = absurd (omega (arith, h))
get_set_same (x ∷ tags) zero t h = refl
get_set_same (x ∷ tags) (suc i) t h = get_set_same tags i t (omega (arith, h))

get_set_other : (tags : List BlockTag) (i j : ℕ) (t : BlockTag) → i ≢ j → slice_get (slice_set tags i t) j ≡ slice_get tags j
get_set_other [] i j t h = refl
get_set_other (x ∷ tags) zero zero t h = absurd (h refl)
get_set_other (x ∷ tags) zero (suc j) t h = refl
get_set_other (x ∷ tags) (suc i) zero t h = refl
get_set_other (x ∷ tags) (suc i) (suc j) t h = get_set_other tags i j t (omega (arith, h))

-- ---- the blocks that some words take

parts : (w q r : ℕ) → r < w → blocks_for w (q * w + r) ≡ q + min 1 r
parts w q r h = ap (λ k. k + min 1 ((q * w + r) % w)) (div-mul-add q w r h) ∙ ap (λ k. q + min 1 k) (mod-mul-add q w r h)

-- a word more, by the blocks that are whole and the words of the last one
more : (w q r : ℕ) → r < w → (r ≡ 0 → blocks_for w (q * w + r + 1) ≡ blocks_for w (q * w + r) + 1) × (r ≢ 0 → blocks_for w (q * w + r + 1) ≡ blocks_for w (q * w + r))
more w q r h =
    let before = parts w q r h in
    elim (cases_lt (r + 1) w) [
      | inl low ↦
          let after : blocks_for w (q * w + r + 1) ≡ q + min 1 (r + 1) = ap (blocks_for w) (let e : q * w + r + 1 ≡ q * w + (r + 1) = omega arith in e) ∙ parts w q (r + 1) low in
          (λ even. omega (arith, before, after, even), λ odd. omega (arith, before, after, odd))
      | inr high ↦
          let end : r + 1 ≡ w = omega (arith, h, high) in
          let sum : q * w + r + 1 ≡ (q + 1) * w + 0 = (let e : q * w + r + 1 ≡ q * w + w = omega (arith, end) in e) ∙ (let e : q * w + w ≡ (q + 1) * w + 0 = omega arith in e) in
          let after : blocks_for w (q * w + r + 1) ≡ q + 1 + min 1 0 = ap (blocks_for w) sum ∙ parts w (q + 1) 0 (omega (arith, h)) in
          (λ even. omega (arith, before, after, even, end), λ odd. omega (arith, before, after, odd, end))
    ]

whole : (w n : ℕ) → n / w * w + n % w ≡ n
whole w n = div-add-mod' n w

pub block_more : (w n : ℕ) → 0 < w → n % w ≡ 0 → blocks_for w (n + 1) ≡ blocks_for w n + 1
block_more w n some even = subst (λ k. blocks_for w (k + 1) ≡ blocks_for w k + 1) (whole w n) ((more w (n / w) (n % w) (mod_below n w some)).0 even)

pub block_same : (w n : ℕ) → 0 < w → n % w ≢ 0 → blocks_for w (n + 1) ≡ blocks_for w n
block_same w n some odd = subst (λ k. blocks_for w (k + 1) ≡ blocks_for w k) (whole w n) ((more w (n / w) (n % w) (mod_below n w some)).1 odd)

pub block_below : (w n m : ℕ) → 0 < w → n % w ≡ 0 → n < m → blocks_for w n < blocks_for w m
block_below w n m some even below =
    let q = n / w in
    let at : n ≡ q * w = sym (whole w n) ∙ ap (λ k. q * w + k) even ∙ (let e : q * w + 0 ≡ q * w = omega arith in e) in
    let here : blocks_for w n ≡ q = ap (blocks_for w) (at ∙ (let e : q * w ≡ q * w + 0 = omega arith in e)) ∙ parts w q 0 some ∙ (let e : q + min 1 0 ≡ q = omega arith in e) in
    let room = blocks_for-room w m some in
    elim (cases_lt q (blocks_for w m)) [
      | inl low ↦ omega (arith, here, low)
      | inr high ↦ let product = mul-le-mul_right {m = blocks_for w m} {n = q} w high in absurd (omega (arith, at, room, product, below))
    ]

-- ---- the newest method's blocks are apart from those of the others

module _ (shape : Shape) (ring : List ℕ) (tags : List BlockTag) (cache : Cache) (newest : Entry) (older : List Entry) (is : IsRing shape ring tags cache) (valid : IsCache cache) (split : cache.contents ≡ newest ∷ older) where
  some_words : 0 < cache.block_words
  some_words = let given = is.some_words in let same = is.block_words in omega (arith, given, same)

  -- how many blocks another method begins before the newest one
  before : List Entry → Entry → ℕ
  before newer e = total_blocks cache.block_words newer + blocks_of cache.block_words e

  record IsBefore (newer : List Entry) (e : Entry) : Type 0 where
    some : 0 < before newer e
    room : before newer e + blocks_of cache.block_words newest ≤ shape.blocks
    words : length e.words ≤ before newer e * shape.block_words
    place : first_block [] newest cache ≡ (first_block (newest ∷ newer) e cache + before newer e) % shape.blocks
    block : first_block (newest ∷ newer) e cache < shape.blocks
    own : length newest.words ≤ blocks_of cache.block_words newest * shape.block_words

  is_before : (newer : List Entry) (e : Entry) (rest : List Entry) → cache.contents ≡ (newest ∷ newer) ++ e ∷ rest → IsBefore newer e
  unfolding before
  is_before newer e rest h =
      let w = cache.block_words in
      let part = is_split cache (newest ∷ newer) e rest valid some_words h in
      let blocks = is.blocks in
      let own = blocks_of w newest in
      let total = total_blocks w ((newest ∷ newer) ++ e ∷ []) in
      let long : total ≡ own + before newer e = part.total ∙ (let e' : own + total_blocks w newer + blocks_of w e ≡ own + (total_blocks w newer + blocks_of w e) = omega arith in e') in
      let within = part.within in
      let fits : own + before newer e ≤ cache.blocks = omega (arith, within) in
      let room_e = blocks_for-room w (length e.words) some_words in
      let more_e = mul-le-mul_right {m = blocks_of w e} {n = before newer e} w (omega arith) in
      let room_n = blocks_for-room w (length newest.words) some_words in
      let turned : (cache.next + (cache.blocks - (own + 0))) % cache.blocks ≡ ((cache.next + (cache.blocks - total)) % cache.blocks + before newer e) % cache.blocks =
      sym (mod-add-mod (cache.next + (cache.blocks - total)) cache.blocks (before newer e)
      ∙ ap (λ k. k % cache.blocks) (let e' : cache.next + (cache.blocks - total) + before newer e ≡ cache.next + (cache.blocks - (own + 0)) = omega (arith, long, fits) in e')) in
      let word_same = is.block_words in
      record {
        some = (let s = part.some_blocks in omega (arith, s));
        room = omega (arith, fits, blocks);
        words = subst (λ v. length e.words ≤ before newer e * v) word_same (omega (arith, room_e, more_e));
        place = turned ∙ ap (λ n. (first_block (newest ∷ newer) e cache + before newer e) % n) blocks;
        block = (let below = part.block in omega (arith, below, blocks));
        own = subst (λ v. length newest.words ≤ blocks_of w newest * v) word_same room_n;
      }

  -- a word of another method isn't the one that is written
  apart_word : (newer : List Entry) (e : Entry) (rest : List Entry) → cache.contents ≡ (newest ∷ newer) ++ e ∷ rest → (i j : ℕ) → i < length e.words → j < length newest.words
      → (first_block (newest ∷ newer) e cache * shape.block_words + i) % shape.ring_words ≢ (first_block [] newest cache * shape.block_words + j) % shape.ring_words
  apart_word newer e rest h i j low low' same =
      let b = is_before newer e rest h in
      let w = shape.block_words in
      let n = shape.blocks in
      let f = first_block (newest ∷ newer) e cache in
      let g = first_block [] newest cache in
      let d = before newer e in
      let own = blocks_of cache.block_words newest in
      let at : (g * w + j) % (n * w) ≡ (f * w + (d * w + j)) % (n * w) =
      ap (λ k. (k * w + j) % (n * w)) b.place ∙ word_around n w (f + d) j ∙ ap (λ k. k % (n * w)) (let e' : (f + d) * w + j ≡ f * w + (d * w + j) = omega arith in e') in
      let both : (f * w + i) % (n * w) ≡ (f * w + (d * w + j)) % (n * w) = subst (λ r. (f * w + i) % r ≡ (g * w + j) % r) is.ring_words same ∙ at in
      let product : (d + own) * w ≤ n * w = mul-le-mul_right {m = d + own} {n = n} w b.room in
      let sum : (d + own) * w ≡ d * w + own * w = omega arith in
      let long = b.words in
      let own_words = b.own in
      let clash : i ≡ d * w + j = same_place (n * w) (f * w) i (d * w + j) (omega (arith, low, long, product, sum)) (omega (arith, low', own_words, product, sum)) both in
      omega (arith, clash, low, long)

  -- the block of another method isn't one of the newest one's
  apart_block : (newer : List Entry) (e : Entry) (rest : List Entry) → cache.contents ≡ (newest ∷ newer) ++ e ∷ rest → (k : ℕ) → k < blocks_of cache.block_words newest
      → (first_block [] newest cache + k) % shape.blocks ≢ first_block (newest ∷ newer) e cache
  apart_block newer e rest h k low same =
      let b = is_before newer e rest h in
      let n = shape.blocks in
      let f = first_block (newest ∷ newer) e cache in
      let d = before newer e in
      let at : (f + (d + k)) % n ≡ (f + 0) % n =
      ap (λ m. m % n) (let e' : f + (d + k) ≡ f + d + k = omega arith in e')
      ∙ sym (ap (λ m. (m + k) % n) b.place ∙ mod-add-mod (f + d) n k)
      ∙ same
      ∙ sym (mod-eq_of_lt b.block)
      ∙ ap (λ m. m % n) (let e' : f ≡ f + 0 = omega arith in e') in
      let room = b.room in
      let some = b.some in
      let clash : d + k ≡ 0 = same_place n f (d + k) 0 (omega (arith, low, room)) (omega (arith, low, room)) at in
      omega (arith, clash, some)

  -- the newest method fits the ring
  record IsRoom : Type 0 where
    some_blocks : 0 < shape.blocks
    blocks : blocks_of cache.block_words newest ≤ shape.blocks
    words : length newest.words ≤ shape.ring_words
    block : first_block [] newest cache < shape.blocks
    same : blocks_of cache.block_words newest ≡ blocks_of shape.block_words newest

  is_room : IsRoom
  is_room =
      let part = is_split cache [] newest older valid some_words split in
      let within = part.within in
      let blocks = is.blocks in
      let fits : blocks_of cache.block_words newest ≤ shape.blocks = omega (arith, within, blocks) in
      let below = part.block in
      let next_below = valid.next in
      let room : length newest.words ≤ blocks_of cache.block_words newest * shape.block_words =
      subst (λ v. length newest.words ≤ blocks_of cache.block_words newest * v) is.block_words (blocks_for-room cache.block_words (length newest.words) some_words) in
      let product = mul-le-mul_right {m = blocks_of cache.block_words newest} {n = shape.blocks} shape.block_words fits in
      let long = is.ring_words in
      record {
        some_blocks = omega (arith, next_below, blocks);
        blocks = fits;
        words = omega (arith, room, product, long);
        block = omega (arith, below, blocks);
        same = ap (λ v. blocks_for v (length newest.words)) is.block_words;
      }

  -- ---- a word is written

  module _ (next done : ℕ) (has : HasPart shape ring tags next cache newest done) (below : done < length newest.words) where
    place : ℕ
    place = (first_block [] newest cache * shape.block_words + done) % shape.ring_words

    after : List ℕ
    after = slice_set ring place (slice_index newest.words done)

    tag_now : BlockTag
    tag_now = record { begins = bit_of (done == 0); method = newest.method; words = length newest.words }

    stays : (block i : ℕ) → (block * shape.block_words + i) % shape.ring_words ≢ place → ring_word shape after block i ≡ ring_word shape ring block i
    unfolding after
    stays block i other = get_or-set_other ring place ((block * shape.block_words + i) % shape.ring_words) (slice_index newest.words done) 0 other

    words : LieFrom shape after (first_block [] newest cache) (done + 1) newest
    unfolding after place
    words i low = elim (cases_lt i done) [
      | inl less ↦
          let room = is_room.words in
          stays (first_block [] newest cache) i (λ same.
          let clash = same_place shape.ring_words (first_block [] newest cache * shape.block_words) i done (omega (arith, less, below, room)) (omega (arith, below, room)) same in
          omega (arith, clash, less))
          ∙ has.words i less
      | inr more ↦
          let last : done ≡ i = omega (arith, low, more) in
          let room = is_room.words in
          let inside = mod_below (first_block [] newest cache * shape.block_words + done) shape.ring_words (omega (arith, below, room)) in
          let long = is.ring_length in
          subst (λ k. ring_word shape after (first_block [] newest cache) k ≡ slice_index newest.words k) last
          (get_or-set_same ring place (slice_index newest.words done) 0 (omega (arith, inside, long)))
    ]

    old_words : (newer : List Entry) (e : Entry) (rest : List Entry) → cache.contents ≡ (newest ∷ newer) ++ e ∷ rest
        → LieFrom shape after (first_block (newest ∷ newer) e cache) (length e.words) e
    unfolding place
    old_words newer e rest h i low =
        stays (first_block (newest ∷ newer) e cache) i (apart_word newer e rest h i done low below)
        ∙ (has.olds newer e rest h).words i low

    -- within a block that is taken already
    within_block : done % shape.block_words ≢ 0 → HasPart shape after tags next cache newest (done + 1)
    within_block odd =
        let same = block_same shape.block_words done is.some_words odd in
        record {
          olds = λ newer e rest h. record { words = old_words newer e rest h; tag = (has.olds newer e rest h).tag };
          words = words;
          tag = λ _. has.tag (some_done (cases_lt 0 done));
          next = has.next ∙ ap (λ k. (first_block [] newest cache + k) % shape.blocks) (sym same);
          others = λ block tag at begins far. has.others block tag at begins (subst (λ k. blocks_of shape.block_words newest - k ≤ distance shape next block) same far);
        }
      where
        some_done : (0 < done) ⊎ (done ≤ 0) → 0 < done
        some_done (inl later) = later
        some_done (inr none) = absurd (odd (ap (λ k. k % shape.block_words) (let e : done ≡ 0 = omega (arith, none) in e) ∙ mod-eq_of_lt is.some_words))

    -- the next block is taken
    module _ (even : done % shape.block_words ≡ 0) where
      few : blocks_for shape.block_words done < blocks_of cache.block_words newest
      few = let less = block_below shape.block_words done (length newest.words) is.some_words even below in let same = is_room.same in omega (arith, less, same)

      next_below : next < shape.blocks
      next_below = subst (λ k. k < shape.blocks) (sym has.next) (mod_below (first_block [] newest cache + blocks_for shape.block_words done) shape.blocks is_room.some_blocks)

      inside : next < length tags
      inside = let low = next_below in let long = is.tags_length in omega (arith, low, long)

      old_tag : (newer : List Entry) (e : Entry) (rest : List Entry) → cache.contents ≡ (newest ∷ newer) ++ e ∷ rest
          → slice_get (slice_set tags next tag_now) (first_block (newest ∷ newer) e cache) ≡ Some (tag_of_entry e)
      old_tag newer e rest h =
          get_set_other tags next (first_block (newest ∷ newer) e cache) tag_now (λ same. apart_block newer e rest h (blocks_for shape.block_words done) few (sym has.next ∙ same))
          ∙ (has.olds newer e rest h).tag

      first_next : done ≡ 0 → next ≡ first_block [] newest cache
      first_next zero' =
          has.next
          ∙ ap (λ k. (first_block [] newest cache + blocks_for shape.block_words k) % shape.blocks) zero'
          ∙ ap (λ k. (first_block [] newest cache + k) % shape.blocks) (no_blocks shape.block_words)
          ∙ ap (λ k. k % shape.blocks) (let e : first_block [] newest cache + 0 ≡ first_block [] newest cache = omega arith in e)
          ∙ mod-eq_of_lt is_room.block

      own_tag : done ≡ 0 → tag_now ≡ tag_of_entry newest
      unfolding tag_now
      own_tag zero' = ap (λ k. record { begins = bit_of (k == 0); method = newest.method; words = length newest.words }) zero'

      -- the first block, or a later one
      first_tag : (0 < done) ⊎ (done ≤ 0) → slice_get (slice_set tags next tag_now) (first_block [] newest cache) ≡ Some (tag_of_entry newest)
      first_tag (inl later) =
          let first = first_block [] newest cache in
          let some = blocks_for-pos shape.block_words done is.some_words later in
          get_set_other tags next first tag_now (λ same.
          let at : (first + blocks_for shape.block_words done) % shape.blocks ≡ (first + 0) % shape.blocks =
          sym has.next ∙ same ∙ sym (mod-eq_of_lt is_room.block) ∙ ap (λ k. k % shape.blocks) (let e : first ≡ first + 0 = omega arith in e) in
          let fit = is_room.blocks in
          let low = few in
          let clash = same_place shape.blocks first (blocks_for shape.block_words done) 0 (omega (arith, low, fit)) (omega (arith, low, fit)) at in
          omega (arith, clash, some))
          ∙ has.tag later
      first_tag (inr none) =
          let zero' : done ≡ 0 = omega (arith, none) in
          subst (λ k. slice_get (slice_set tags next tag_now) k ≡ Some (tag_of_entry newest)) (first_next zero')
          (get_set_same tags next tag_now inside ∙ ap (λ t. Some t) (own_tag zero'))

      apart_tags : (block : ℕ) (tag : BlockTag) → slice_get (slice_set tags next tag_now) block ≡ Some tag → tag.begins ≡ 1
          → blocks_of shape.block_words newest - blocks_for shape.block_words (done + 1) ≤ distance shape (behind shape.blocks next) block
          → block ≢ next → BeginsIn cache block tag
      apart_tags block tag at begins far other =
          let here : slice_get tags block ≡ Some tag = sym (get_set_other tags next block tag_now (λ same. other (sym same))) ∙ at in
          let low = slice_get_within tags block tag here in
          let long = is.tags_length in
          let falls = distance_falls shape.blocks next block next_below (omega (arith, low, long)) other in
          let same : behind shape.blocks next ≡ (next + 1) % shape.blocks = sym (ap (behind shape.blocks) (mod-eq_of_lt next_below)) ∙ behind_next shape.blocks next is_room.some_blocks in
          let far' : blocks_of shape.block_words newest - blocks_for shape.block_words (done + 1) ≤ (block + (shape.blocks - (next + 1) % shape.blocks)) % shape.blocks =
          subst (λ k. blocks_of shape.block_words newest - blocks_for shape.block_words (done + 1) ≤ (block + (shape.blocks - k)) % shape.blocks) same far in
          let one = block_more shape.block_words done is.some_words even in
          has.others block tag here begins (omega (arith, far', falls, one))

      own_block : (tag : BlockTag) → slice_get (slice_set tags next tag_now) next ≡ Some tag → tag.begins ≡ 1 → BeginsIn cache next tag
      unfolding tag_now
      own_block tag at begins =
          let both : Some tag_now ≡ Some tag = sym (get_set_same tags next tag_now inside) ∙ at in
          let is_now : tag_now ≡ tag = cc in
          let one : bit_of (done == 0) ≡ 1 = ap (λ (t : BlockTag). t.begins) is_now ∙ begins in
          let zero' : done ≡ 0 = bit_one (done == 0) refl one in
          record {
            newer = [];
            method = newest;
            older = older;
            split = split;
            place = first_next zero';
            own = sym is_now ∙ own_tag zero';
          }
        where
          bit_one : (b : Bool) → (done == 0) ≡ b → bit_of b ≡ 1 → done ≡ 0
          bit_one true e h = eqb_eq done 0 e
          bit_one false e h = absurd (omega (arith, h))

      takes_block : HasPart shape after (slice_set tags next tag_now) (behind shape.blocks next) cache newest (done + 1)
      takes_block =
          let one = block_more shape.block_words done is.some_words even in
          let first = first_block [] newest cache in
          record {
            olds = λ newer e rest h. record { words = old_words newer e rest h; tag = old_tag newer e rest h };
            words = words;
            tag = λ _. first_tag (cases_lt 0 done);
            next =
                ap (behind shape.blocks) has.next
                ∙ behind_next shape.blocks (first + blocks_for shape.block_words done) is_room.some_blocks
                ∙ ap (λ k. k % shape.blocks) (let e : first + blocks_for shape.block_words done + 1 ≡ first + blocks_for shape.block_words (done + 1) = omega (arith, one) in e);
            others = λ block tag at begins far. elim (cases_eq block next) [
              | inl same ↦
                  let B : ℕ → Type 0 = λ k. slice_get (slice_set tags next tag_now) k ≡ Some tag → BeginsIn cache k tag in
                  subst B (sym same) (λ here. own_block tag here begins) at
              | inr other ↦ apart_tags block tag at begins far other
            ];
          }

    pub word_written : HasPart shape (slice_set ring ((first_block [] newest cache * shape.block_words + done) % shape.ring_words) (slice_index newest.words done))
        (if done % shape.block_words == 0 then slice_set tags next (record { begins = bit_of (done == 0); method = newest.method; words = length newest.words }) else tags)
        (if done % shape.block_words == 0 then behind shape.blocks next else next) cache newest (done + 1)
    unfolding after place tag_now
    word_written = by (done % shape.block_words == 0) refl
      where
        by : (b : Bool) → (done % shape.block_words == 0) ≡ b → HasPart shape after (if b then slice_set tags next tag_now else tags) (if b then behind shape.blocks next else next) cache newest (done + 1)
        by true e = takes_block (eqb_eq (done % shape.block_words) 0 e)
        by false e = within_block (eqb_ne (done % shape.block_words) 0 e)
