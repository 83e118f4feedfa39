-- What the fields of a method cache mean.
use Rattle.std.specs.Prelude.{◌≡◌, ℕ, ◌-◌, ◌*◌, ◌<◌, ◌≤◌, List, ◌++◌, length, replicate, Option, None, IfSome}
use Rattle.method_cache.specs.declared.blocks.Tag.{Tag}
use Rattle.method_cache.specs.declared.MethodCache.TheInside.{Inside}
use Rattle.method_cache.specs.declared.TheConstants.{MAX_BLOCKS, MAX_BLOCK_WORDS}
use Rattle.method_cache.specs.Contents.{Entry, Cache, total_blocks, IsCache}
use Rattle.method_cache.specs.Ring.{rotated, held, laid, IsExtent}

-- the tags of all blocks, from the pointer on
abbrev pub ring_tags : Inside → List (Option Tag)
ring_tags a = rotated a.next a.tags.items

-- the words of all blocks, from the pointer on
abbrev pub ring_words : Inside → List ℕ
ring_words a = rotated (a.next * a.block_words) a.words.items

abbrev pub contents_of : Inside → List Entry
contents_of a = held a.block_words (ring_tags a) (ring_words a)

abbrev pub cache_of : Inside → Cache
cache_of a = record { blocks = a.blocks; block_words = a.block_words; contents = contents_of a; next = a.next }

-- from the pointer on, the ring has the blocks that hold nothing, and then its methods' blocks from the oldest to the newest
pub record IsRing (a : Inside) : Type 0 where
  pub some_blocks : 0 < a.blocks
  pub most_blocks : a.blocks ≤ MAX_BLOCKS
  pub some_words : 0 < a.block_words
  pub most_words : a.block_words ≤ MAX_BLOCK_WORDS
  pub tags : length a.tags.items ≡ a.blocks
  pub words : length a.words.items ≡ a.blocks * a.block_words
  pub selected : IfSome a.selected (IsExtent a.block_words a.tags.items)
  pub holds : IsCache (cache_of a)
  pub in_order : ring_tags a ≡ replicate (a.blocks - total_blocks a.block_words (contents_of a)) None ++ laid a.block_words (contents_of a)
