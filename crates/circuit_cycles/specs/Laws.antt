-- What holds of the ring, and of a load.
use Rattle.std.specs.Prelude.{ℕ, ◌≡◌, ◌<◌, ◌≤◌, ◌+◌, ◌-◌, ◌*◌, ◌%◌, ◌++◌, ◌∷◌, [], List, length, Some, false, true, ◌==◌, if◌then◌else◌}
use Rattle.std.specs.Prelude.{slice_get, slice_set, slice_index}
use Rattle.method_cache.specs.Contents.{Entry, Cache, IsCache, first_block, is_cached, loaded, blocks_for}
use Rattle.circuit_cycles.specs.Shape.{Shape}
use Rattle.circuit_cycles.specs.Tags.{BlockTag, find_tag, bit_of, behind}
use Rattle.circuit_cycles.specs.Methods.{HasMethods, HasPart, IsRing}
use Rattle.jop_core.specs.State.{MachineState}
use Rattle.jop_core.specs.Operations.{code_words}
use Rattle.jop_core.specs.Cycle.{counted}
use Rattle.circuit_cycles.specs.Core.{Core, Given, next, runs}
use Rattle.circuit_cycles.specs.Stands.{Stands, HasRing, loads, load_left}

abbrev pub LookUpsFind : Type 0
LookUpsFind =
    (shape : Shape) (ring : List ℕ) (tags : List BlockTag) (next : ℕ) (cache : Cache) → IsRing shape ring tags cache → IsCache cache
    → HasMethods shape ring tags next cache → (newer : List Entry) (e : Entry) (older : List Entry)
    → cache.contents ≡ newer ++ e ∷ older → find_tag 0 e.method tags ≡ Some (first_block newer e cache, length e.words)

abbrev pub LoadsBegin : Type 0
LoadsBegin =
    (shape : Shape) (ring : List ℕ) (tags : List BlockTag) (next : ℕ) (cache : Cache) (m : ℕ) (words : List ℕ) → IsRing shape ring tags cache → IsCache cache
    → HasMethods shape ring tags next cache → is_cached m cache ≡ false → 0 < length words → blocks_for cache.block_words (length words) ≤ cache.blocks
    → HasPart shape ring tags next (loaded m words cache) (record { method = m; words = words }) 0

abbrev pub WordsAreWritten : Type 0
WordsAreWritten =
    (shape : Shape) (ring : List ℕ) (tags : List BlockTag) (next : ℕ) (cache : Cache) (newest : Entry) (older : List Entry) (done : ℕ)
    → IsRing shape ring tags cache → IsCache cache → cache.contents ≡ newest ∷ older
    → HasPart shape ring tags next cache newest done → done < length newest.words
    → let tag : BlockTag = record { begins = bit_of (done == 0); method = newest.method; words = length newest.words } in
    HasPart shape
    (slice_set ring ((first_block [] newest cache * shape.block_words + done) % shape.ring_words) (slice_index newest.words done))
    (if done % shape.block_words == 0 then slice_set tags next tag else tags)
    (if done % shape.block_words == 0 then behind shape.blocks next else next) cache newest (done + 1)

abbrev pub LoadsEnd : Type 0
LoadsEnd =
    (shape : Shape) (ring : List ℕ) (tags : List BlockTag) (next : ℕ) (cache : Cache) (newest : Entry) (older : List Entry)
    → IsRing shape ring tags cache → IsCache cache → cache.contents ≡ newest ∷ older
    → HasPart shape ring tags next cache newest (length newest.words) → HasMethods shape ring tags next cache

-- A stalled cycle of the machine.
abbrev pub rested : MachineState → MachineState
rested s = record (counted s) { stall = s.stall - 1 }

-- A clock of a load that is under way: it goes on or has ended, and a cycle less is left of its stall.
pub record LoadGoesOn (shape : Shape) (c d : Core) (s : MachineState) : Type 0 where
  pub ring : HasRing (loads d) shape d (rested s)
  pub left : load_left shape c (code_words s.port.words s.method) ≡ load_left shape d (code_words s.port.words s.method) + 1

abbrev pub LoadsGoOn : Type 0
LoadsGoOn =
    (shape : Shape) (given : Given) (c : Core) (s : MachineState) → Stands shape c s → runs c ≡ false → loads c ≡ true
    → LoadGoesOn shape c (next shape given c) s

-- Where no load is under way, no two tags that say that a method begins stand for the same one.
abbrev pub MethodsHaveOneTag : Type 0
MethodsHaveOneTag =
    (shape : Shape) (c : Core) (s : MachineState) → Stands shape c s → loads c ≡ false → (i j : ℕ) (t u : BlockTag) → slice_get c.tags i ≡ Some t
    → slice_get c.tags j ≡ Some u → t.begins ≡ 1 → u.begins ≡ 1 → t.method ≡ u.method → i ≡ j
