-- The tags of the method cache, the nets that hold them, and what a look-up finds among them.
use Rattle.std.specs.Prelude.{◌≡◌, ℕ, ◌<◌, ◌≤◌, Bool, true, false, ◌==◌, ◌&&◌, if◌then◌else◌, Option, Some, None, List, length, slice_index_or}
use Rattle.netlist.specs.Meaning.{Words, word_on}
use Rattle.circuit_cycles.specs.Shape.{Shape}
use Rattle.circuit_cycles.specs.Tags.{BlockTag}
use Rattle.circuit_cycles.specs.Core.{Core}
use Rattle.machine_circuit.specs.declared.nets.Tag.{Tag}

-- whether the tag is that of a block in which the method with this place begins
abbrev pub begins_with : (place : ℕ) → BlockTag → Bool
begins_with place tag = tag.begins == 1 && tag.method == place

-- The nets hold this tag.
pub record HoldsTag (ws : Words) (nets : Tag) (tag : BlockTag) : Type 0 where
  pub begins : word_on ws nets.begins ≡ tag.begins
  pub method : word_on ws nets.method ≡ tag.method
  pub words : word_on ws nets.words ≡ tag.words
  pub begins_fits : tag.begins < 2

-- The nets hold the tags of the core, and no two of these are of the method that A is.
pub record HoldTags (shape : Shape) (ws : Words) (nets : List Tag) (core : Core) : Type 0 where
  pub count : length core.tags ≡ length nets
  pub blocks : length nets ≤ shape.blocks
  pub tags : (k : ℕ) (net : Tag) (tag : BlockTag) → k < length nets → HoldsTag ws (slice_index_or nets k net) (slice_index_or core.tags k tag)
  pub one :
      (j k : ℕ) (tag : BlockTag) → j < k → k < length core.tags → begins_with core.a (slice_index_or core.tags j tag) ≡ true
      → begins_with core.a (slice_index_or core.tags k tag) ≡ false

-- what is found of a method, where this was before and the method may begin in this block, whose words these are
abbrev pub also : (here : ℕ × ℕ) (begins : Bool) (before : Option (ℕ × ℕ)) → Option (ℕ × ℕ)
also here begins (Some found) = Some found
also here begins None = if begins then Some here else None

abbrev pub also_found : (block place : ℕ) → BlockTag → (before : Option (ℕ × ℕ)) → Option (ℕ × ℕ)
also_found block place tag before = also (block, tag.words) (begins_with place tag) before

-- A method that begins in this block wasn't found before.
abbrev pub IsOnlyOne : (place : ℕ) → BlockTag → (before : Option (ℕ × ℕ)) → Type 0
IsOnlyOne place tag before = begins_with place tag ≡ true → before ≡ None
