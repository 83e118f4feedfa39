-- Whether a machine with settings holds an image: its code the method cache, and its words the memory.
use Rattle.std.specs.Prelude.{◌≡◌, ℕ, ◌<◌, List, length}
use Rattle.image_file.specs.Bare.{BareContent}
use Rattle.method_cache.specs.Contents.{blocks_for}
use Rattle.jop_core.specs.Reset.{words_for}
use Rattle.command_line.specs.declared.command.Settings.{Settings}
use Rattle.endings.specs.declared.outcome.Refusal.TheVariants.{MethodTooLong, MemoryTooSmall}
use Rattle.endings.specs.declared.outcome.Ending.{Ending}
use Rattle.endings.specs.declared.outcome.Ending.TheVariants.{Refused, NoMemory, TooLong}
use Rattle.class_pool.specs.declared.class.ClassFile.{ClassFile}
use Rattle.program_tables.specs.Resolved.{resolved}
use Rattle.jopizer.specs.Linked.{Parts}
use Rattle.jopizer.specs.Methods.Fitting.{MethodFits, IsFirst}
use Rattle.name_laws.specs.Written.{written_name}

-- how many blocks of the method cache the code of an image takes
abbrev pub blocks_of_code : Settings → BareContent → ℕ
blocks_of_code settings image = blocks_for settings.block_words (words_for (length image.code))

-- the code of a bare image takes more blocks than the method cache has
pub record EndsTooLong (s : Settings) (image : BareContent) (ending : Ending) : Type 0 where
  pub more : s.blocks < blocks_of_code s image
  pub says : ending ≡ Refused (MethodTooLong 0 (blocks_of_code s image) s.blocks)

-- each code fits the method cache
abbrev pub CodesFit : Settings → Parts → Type 0
CodesFit settings l = (m : ℕ) → MethodFits (resolved l.classes) settings.blocks settings.block_words m

-- The words of the image pass the memory, and each code fits the method cache.
pub record ImageIsTooLarge (settings : Settings) (l : Parts) (words : ℕ) : Type 0 where
  pub codes : CodesFit settings l
  pub count : words ≡ length l.laid.words
  pub more : settings.memory < words

-- the method of this number is the first whose code takes more blocks than the method cache has: so many
abbrev pub IsTooLong : Settings → Parts → (method blocks : ℕ) → Type 0
IsTooLong settings l method blocks = IsFirst (resolved l.classes) settings.blocks settings.block_words (record { method = method; blocks = blocks })

-- this is written of the name of the method of this number, behind its class and before its descriptor
abbrev pub NamesMethod : List ClassFile → (method : ℕ) → (name : List ℕ) → Type 0
NamesMethod cs method name = name ≡ written_name cs method

-- this ending says that the method's code doesn't fit; or there was no memory for its name
abbrev pub IsTooLongAs : List ClassFile → (method blocks limit : ℕ) → Ending → Type 0
IsTooLongAs cs method blocks limit (TooLong number name count most) = (number ≡ method) × (count ≡ blocks) × (most ≡ limit) × NamesMethod cs method name.items
IsTooLongAs cs method blocks limit NoMemory = Unit {0}
IsTooLongAs cs method blocks limit ending = ⊥

-- why a machine with the settings doesn't hold what was linked: the first method whose code doesn't fit, or else that the words pass the memory
abbrev pub IsUnheld : Settings → Parts → Ending → Type 0
IsUnheld settings l (TooLong method name blocks limit) =
    IsTooLong settings l method blocks × (limit ≡ settings.blocks) × NamesMethod l.classes method name.items
IsUnheld settings l (Refused (MemoryTooSmall words given)) = ImageIsTooLarge settings l words × (given ≡ settings.memory)
IsUnheld settings l NoMemory = Unit {0}
IsUnheld settings l ending = ⊥
