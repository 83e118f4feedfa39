-- What the ring of blocks and their tags hold of the methods of the cache.
use Rattle.std.specs.Prelude.{ℕ, ◌≡◌, ◌+◌, ◌-◌, ◌*◌, ◌%◌, ◌^◌, ◌<◌, ◌≤◌, List, [], ◌∷◌, ◌++◌, length, slice_index, slice_get, Some}
use Rattle.method_cache.specs.Contents.{Entry, Cache, first_block, blocks_for, blocks_of}
use Rattle.circuit_cycles.specs.Shape.{Shape}
use Rattle.circuit_cycles.specs.Tags.{BlockTag}

-- word i of a method that begins in a block
abbrev pub ring_word : Shape → (ring : List ℕ) → (block i : ℕ) → ℕ
ring_word shape ring block i = slice_index ring ((block * shape.block_words + i) % shape.ring_words)

abbrev pub tag_of_entry : Entry → BlockTag
tag_of_entry e = record { begins = 1; method = e.method; words = length e.words }

-- The first words of a method lie in the ring, from its first block on.
abbrev pub LieFrom : Shape → (ring : List ℕ) → (block count : ℕ) → Entry → Type 0
LieFrom shape ring block count e = (i : ℕ) → i < count → ring_word shape ring block i ≡ slice_index e.words i

-- A method lies in the ring, where these are newer, and the tag of its first block is its own.
pub record Lies (shape : Shape) (ring : List ℕ) (tags : List BlockTag) (cache : Cache) (newer : List Entry) (e : Entry) : Type 0 where
  pub words : LieFrom shape ring (first_block newer e cache) (length e.words) e
  pub tag : slice_get tags (first_block newer e cache) ≡ Some (tag_of_entry e)

-- each method behind these newest ones lies in the ring
abbrev pub AllLie : Shape → (ring : List ℕ) → (tags : List BlockTag) → Cache → (newest : List Entry) → Type 0
AllLie shape ring tags cache newest =
    (newer : List Entry) (e : Entry) (older : List Entry) → cache.contents ≡ (newest ++ newer) ++ e ∷ older
    → Lies shape ring tags cache (newest ++ newer) e

-- A method of the cache begins in a block with this tag.
pub record BeginsIn (cache : Cache) (block : ℕ) (tag : BlockTag) : Type 0 where
  pub newer : List Entry
  pub method : Entry
  pub older : List Entry
  pub split : cache.contents ≡ newer ++ method ∷ older
  pub place : block ≡ first_block newer method cache
  pub own : tag ≡ tag_of_entry method

-- how far a block lies behind the next one to take
abbrev pub distance : Shape → (next_block block : ℕ) → ℕ
distance shape next_block block = (block + (shape.blocks - next_block)) % shape.blocks

-- Where a method begins by the tags, it is one that the cache holds and begins there, or the block is one of those that a load is still to take.
abbrev pub HasNoOthers : Shape → (tags : List BlockTag) → (next_block : ℕ) → Cache → (to_take : ℕ) → Type 0
HasNoOthers shape tags next_block cache to_take =
    (block : ℕ) (tag : BlockTag) → slice_get tags block ≡ Some tag → tag.begins ≡ 1 → to_take ≤ distance shape next_block block → BeginsIn cache block tag

-- All methods of the cache lie in the ring, and no others.
pub record HasMethods (shape : Shape) (ring : List ℕ) (tags : List BlockTag) (next_block : ℕ) (cache : Cache) : Type 0 where
  pub next : next_block ≡ cache.next
  pub all : AllLie shape ring tags cache []
  pub others : HasNoOthers shape tags next_block cache 0

-- The older methods lie in the ring, and of the newest one so many words, which is all that it has of others but in blocks that are still to take.
pub record HasPart (shape : Shape) (ring : List ℕ) (tags : List BlockTag) (next_block : ℕ) (cache : Cache) (newest : Entry) (done : ℕ) : Type 0 where
  pub olds : AllLie shape ring tags cache (newest ∷ [])
  pub words : LieFrom shape ring (first_block [] newest cache) done newest
  pub tag : 0 < done → slice_get tags (first_block [] newest cache) ≡ Some (tag_of_entry newest)
  pub next : next_block ≡ (first_block [] newest cache + blocks_for shape.block_words done) % shape.blocks
  pub others : HasNoOthers shape tags next_block cache (blocks_of shape.block_words newest - blocks_for shape.block_words done)

-- the cache, its ring and its tags have this shape
pub record IsRing (shape : Shape) (ring : List ℕ) (tags : List BlockTag) (cache : Cache) : Type 0 where
  pub blocks : cache.blocks ≡ shape.blocks
  pub block_words : cache.block_words ≡ shape.block_words
  pub some_words : 0 < shape.block_words
  pub ring_words : shape.ring_words ≡ shape.blocks * shape.block_words
  -- the bits of a place tell all places of the ring apart
  pub places : shape.ring_words ≤ 2 ^ shape.ring_bits
  pub ring_length : length ring ≡ shape.ring_words
  pub tags_length : length tags ≡ shape.blocks
