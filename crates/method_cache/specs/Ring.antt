-- What the blocks of the ring mean: the methods that they hold.
use Rattle.std.specs.Prelude.{◌≡◌, ℕ, ◌*◌, ◌<◌, zero, suc, ◌-◌, Bool, false, if◌then◌else◌, ◌==◌, ◌&&◌, List, [], ◌∷◌, ◌++◌, length, replicate, take, drop}
use Rattle.std.specs.Prelude.{slice_index_or, Option, Some, None}
use Rattle.method_cache.specs.declared.blocks.Tag.{Tag}
use Rattle.method_cache.specs.declared.blocks.Extent.{Extent}
use Rattle.method_cache.specs.Contents.{Entry, blocks_for, blocks_of}

-- a ring as a list that begins at place k
abbrev pub rotated : {X : Type 0} → ℕ → List X → List X
rotated k xs = drop k xs ++ take k xs

-- the method that begins in a block, where the words go on from that block
abbrev pub beginning : Option Tag → List ℕ → List Entry
beginning None ws = []
beginning (Some t) ws = if t.part == 0 then record { method = t.method; words = take t.words ws } ∷ [] else []

-- the methods that begin in these blocks, newest first, where the blocks stand from the oldest on
abbrev pub held : ℕ → List (Option Tag) → List ℕ → List Entry
held w [] ws = []
held w (t ∷ ts) ws = held w ts (drop w ws) ++ beginning t ws

-- the tags of the first blocks of a method
abbrev pub parts : ℕ → ℕ → ℕ → List (Option Tag)
parts m n zero = []
parts m n (suc k) = parts m n k ++ Some (record { method = m; part = k; words = n }) ∷ []

-- the tags of all blocks of these methods, from the oldest to the newest
abbrev pub laid : ℕ → List Entry → List (Option Tag)
laid w [] = []
laid w (e ∷ es) = laid w es ++ parts e.method (length e.words) (blocks_of w e)

-- whether method m begins in a block with this tag
abbrev pub begins : ℕ → Option Tag → Bool
begins m None = false
begins m (Some t) = (t.method == m) && (t.part == 0)

-- a method of so many words begins in a block, and its first word is that block's
pub record IsExtent (w : ℕ) (tags : List (Option Tag)) (e : Extent) : Type 0 where
  pub block : ℕ
  pub within : block < length tags
  pub tagged : slice_index_or tags block None ≡ Some (record { method = e.method; part = 0; words = e.words })
  pub first : e.first ≡ block * w

-- the method that lies in a block with this tag
abbrev pub method_of : Option Tag → Option ℕ
method_of None = None
method_of (Some t) = Some t.method

-- how many blocks are left of the method that lies in the block, from that block on, where the method doesn't begin in it
abbrev pub stale_of : ℕ → Option Tag → ℕ
stale_of w None = 0
stale_of w (Some t) = if t.part == 0 then 0 else blocks_for w t.words - t.part

-- how many blocks of a method stand first that begins before them
abbrev pub stale_first : ℕ → List (Option Tag) → ℕ
stale_first w ts = stale_of w (slice_index_or ts 0 None)

-- those become free
abbrev pub cleared : ℕ → List (Option Tag) → List (Option Tag)
cleared w ts = replicate (stale_first w ts) None ++ drop (stale_first w ts) ts
