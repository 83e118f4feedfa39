-- Items put last by symbols: a symbol is marked whose items are there.
use Rattle.std.specs.Prelude.{◌≡◌, ℕ, Bool, true, List, [], ◌∷◌, length, Some, slice_get}
use Rattle.std.specs.Option.{option_map_or}
use Rattle.std.specs.List.{list_any, list_all}
use Rattle.class_pool.specs.declared.class.ClassFile.{ClassFile}
use Rattle.bytecode_model.specs.Lists.{onto}
use Rattle.bytecode_model.specs.Types.{Kind, same_kind}
use Rattle.class_lookup.specs.Parts.{same_text}
use Rattle.program_tables.specs.declared.mentions.Mentions.{Mentions}
use Rattle.program_tables.specs.declared.mentions.Arrays.{Arrays}
use Rattle.program_tables.specs.declared.mentions.Literals.{Literals}
use Rattle.program_tables.specs.Numbers.{reference_arrays}
use Rattle.class_lookup.specs.Symbols.{texts}
use Rattle.program_tables.specs.Tables.{kinds_of}
use Rattle.program_tables.specs.Texts.{kind_of_text}

-- the items of each marked number are among those that are there
abbrev pub AreAdded : {A : Type 0} → (same : A → A → Bool) → (items : ℕ → List A) → (there : List A) → (marks : List Bool) → Type 0
AreAdded same items there marks = (n : ℕ) → slice_get marks n ≡ Some true → list_all (λ x. list_any (same x) there) (items n) ≡ true

-- the text of a symbol, and the types of arrays of references within the type that it gives in a Class entry
abbrev pub text_of : List ClassFile → (symbol : ℕ) → List (List ℕ)
text_of cs n = option_map_or (λ text. text ∷ []) (slice_get (texts cs) n) []

abbrev pub arrays_of_text : List ClassFile → (symbol : ℕ) → List Kind
arrays_of_text cs n = option_map_or reference_arrays (onto (slice_get (texts cs) n) (kind_of_text cs)) []

pub record AreArrays (cs : List ClassFile) (a : Arrays) : Type 0 where
  pub long : length a.added.items ≡ length (texts cs)
  pub added : AreAdded same_kind (arrays_of_text cs) (kinds_of a.types) a.added.items

pub record AreLiterals (cs : List ClassFile) (s : Literals) : Type 0 where
  pub long : length s.added.items ≡ length (texts cs)
  pub added : AreAdded same_text (text_of cs) s.strings s.added.items

pub record AreMentions (cs : List ClassFile) (m : Mentions) : Type 0 where
  pub arrays : AreArrays cs m.arrays
  pub literals : AreLiterals cs m.literals
