-- The image that is laid out, and the first limit that a program passes.
use Rattle.std.specs.Prelude.{◌≡◌, List, [], ◌∷◌, length, map, Option}
use Rattle.std.specs.List.{range_with_len}
use Rattle.class_pool.specs.declared.class.ClassFile.{ClassFile}
use Rattle.lists.specs.Lists.{first_some}
use Rattle.program_tables.specs.Numbers.{fields_by_number, types_of, strings_of}
use Rattle.program_tables.specs.Operands.{string_object}
use Rattle.program_tables.specs.Resolved.{resolved}
use Rattle.image_words.specs.Slots.{interface_methods}
use Rattle.image_words.specs.Layout.{classes_of}
use Rattle.image_words.specs.Pools.{static_word}
use Rattle.image_words.specs.Regions.{first_place, image_words_of, places_of}
use Rattle.image_words.specs.Limits.{coded_methods, most_types, most_interface_methods, most_methods, most_words}
use Rattle.image_builder.specs.Laid.{Laid}
use Rattle.image_builder.specs.Passed.{CountPastLimit, passed}
use Rattle.image_builder.specs.declared.fault.Counted.TheVariants.{Types, InterfaceMethods, Methods, Words}

pub record IsLaidOut (cs : List ClassFile) (made : Laid) : Type 0 where
  pub words : made.words ≡ image_words_of cs
  pub methods : made.methods ≡ map (places_of cs).method (range_with_len 0 (length (resolved cs).methods))
  pub types : made.types ≡ map (places_of cs).type (range_with_len 0 (length (types_of cs)))
  pub pools : made.pools ≡ map (places_of cs).pool (classes_of cs)
  pub fields : made.fields ≡ map (static_word cs (places_of cs)) (fields_by_number cs)
  pub strings : made.strings ≡ map (λ n. first_place cs (places_of cs) (string_object n)) (range_with_len 0 (length (strings_of cs)))

-- the first of the limits on what is counted before the words
abbrev pub counts_passed : List ClassFile → Option CountPastLimit
counts_passed cs =
    first_some
    (passed Types (length (types_of cs)) most_types
    ∷ passed InterfaceMethods (length (interface_methods cs)) most_interface_methods
    ∷ passed Methods (coded_methods cs) most_methods
    ∷ [])

-- the first limit that the program passes, if it passes one
abbrev pub first_passed : List ClassFile → Option CountPastLimit
first_passed cs =
    first_some
    (passed Types (length (types_of cs)) most_types
    ∷ passed InterfaceMethods (length (interface_methods cs)) most_interface_methods
    ∷ passed Methods (coded_methods cs) most_methods
    ∷ passed Words (length (image_words_of cs)) most_words
    ∷ [])
