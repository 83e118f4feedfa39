-- The method cache as the list of the methods that it holds (JOP Reference Handbook, "Method Cache").
use Rattle.std.specs.Int.{div_ceil}
use Rattle.std.specs.Prelude.{◌≡◌, ℕ, ◌+◌, ◌-◌, ◌%◌, ◌<◌, ◌≤◌, Bool, if◌then◌else◌, ◌==◌, ◌&&◌, nat_lt, nat_le, is_some, unwrap_or, List, [], ◌∷◌, ◌++◌, length}
use Rattle.std.specs.Prelude.{map, replicate, slice_index, slice_index_or, Option, Some, None}

-- a method that the cache holds: its place in main memory, and a copy of its words
pub record Entry : Type 0 where
  pub method : ℕ
  pub words : List ℕ

-- a cache of so many blocks of so many words, the methods that it holds, newest first, and the block with which the next load begins
pub record Cache : Type 0 where
  pub blocks : ℕ
  pub block_words : ℕ
  pub contents : List Entry
  pub next : ℕ

-- how many blocks of w words hold n words
abbrev pub blocks_for : ℕ → ℕ → ℕ
blocks_for w n = div_ceil n w

-- how many blocks of w words a method takes
abbrev pub blocks_of : ℕ → Entry → ℕ
blocks_of w e = blocks_for w (length e.words)

-- how many they take together
abbrev pub total_blocks : ℕ → List Entry → ℕ
total_blocks w [] = 0
total_blocks w (e ∷ es) = blocks_of w e + total_blocks w es

-- the longest prefix of the methods whose blocks sum to at most `room`
abbrev pub fitting : ℕ → ℕ → List Entry → List Entry
fitting w room [] = []
fitting w room (e ∷ es) = if nat_le (blocks_of w e) room then e ∷ fitting w (room - blocks_of w e) es else []

-- the words of method m, if it is among these
abbrev pub find_words : ℕ → List Entry → Option (List ℕ)
find_words m [] = None
find_words m (e ∷ es) = if e.method == m then Some e.words else find_words m es

-- whether the cache holds method m
abbrev pub is_cached : ℕ → Cache → Bool
is_cached m c = is_some (find_words m c.contents)

-- the methods that the cache holds, newest first
abbrev pub methods_of : Cache → List ℕ
methods_of c = map (λ e. e.method) c.contents

-- word i of method m; 0 past its words, and where the cache doesn't hold it
abbrev pub word_of : ℕ → ℕ → Cache → ℕ
word_of m i c = slice_index (unwrap_or (find_words m c.contents) []) i

-- whether a method of n words can be loaded
abbrev pub can_load : ℕ → Cache → Bool
can_load n c = nat_lt 0 n && nat_le (blocks_for c.block_words n) c.blocks

-- a cache that holds nothing
abbrev pub empty : ℕ → ℕ → Cache
empty blocks block_words = record { blocks = blocks; block_words = block_words; contents = []; next = 0 }

-- method m with these words is loaded: it becomes the newest, and the oldest that don't fit any more are gone
abbrev pub loaded : ℕ → List ℕ → Cache → Cache
loaded m ws c = record c {
  contents = fitting c.block_words c.blocks (record { method = m; words = ws } ∷ c.contents);
  next = (c.next + blocks_for c.block_words (length ws)) % c.blocks;
}

-- the tags of the blocks that methods take, from the oldest method to the newest: each block has its method's
abbrev pub method_tags : ℕ → List Entry → List (Option ℕ)
method_tags w [] = []
method_tags w (e ∷ es) = method_tags w es ++ replicate (blocks_of w e) (Some e.method)

-- the tags of all blocks from the pointer on: those of no method have none
abbrev pub tags_from_next : Cache → List (Option ℕ)
tags_from_next c =
    replicate (c.blocks - total_blocks c.block_words c.contents) None ++ method_tags c.block_words c.contents

-- the tag of a block
abbrev pub tag_of : ℕ → Cache → Option ℕ
tag_of block c = slice_index_or (tags_from_next c) ((block + (c.blocks - c.next)) % c.blocks) None

-- no method is found again behind itself
abbrev pub AreApart : List Entry → Type 0
AreApart [] = Unit {0}
AreApart (e ∷ es) = (find_words e.method es ≡ None) × AreApart es

-- each method has a word
abbrev pub HaveWords : List Entry → Type 0
HaveWords [] = Unit {0}
HaveWords (e ∷ es) = (0 < length e.words) × HaveWords es

-- methods without repeats, whose blocks sum to at most all blocks
pub record IsCache (c : Cache) : Type 0 where
  pub fits : total_blocks c.block_words c.contents ≤ c.blocks
  pub apart : AreApart c.contents
  pub have_words : HaveWords c.contents
  pub next : c.next < c.blocks

-- the block with which method e begins, where these methods are newer: it lies as many blocks before the pointer, around the ring, as it and they take
abbrev pub first_block : List Entry → Entry → Cache → ℕ
first_block newer e c = (c.next + (c.blocks - total_blocks c.block_words (newer ++ e ∷ []))) % c.blocks

-- the block is among the consecutive blocks of method m
pub record Occupies (block m : ℕ) (c : Cache) : Type 0 where
  pub newer : List Entry
  pub entry : Entry
  pub older : List Entry
  pub split : c.contents ≡ newer ++ entry ∷ older
  pub method : entry.method ≡ m
  pub part : ℕ
  pub within : part < blocks_of c.block_words entry
  pub place : block ≡ (first_block newer entry c + part) % c.blocks
