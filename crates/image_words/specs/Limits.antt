-- How large the image of a program may be: its types, the methods of its interfaces, its methods with code, and its words. They are tried in this order.
use Rattle.std.specs.Prelude.{ℕ, ◌≤◌, List, length}
use Rattle.std.specs.List.{filter}
use Rattle.class_pool.specs.declared.class.ClassFile.{ClassFile}
use Rattle.program_tables.specs.Numbers.{places_of, is_coded, types_of}
use Rattle.image_words.specs.Slots.{interface_methods}
use Rattle.image_words.specs.Regions.{image_words_of}

-- the methods with code, which have the first numbers
abbrev pub coded_methods : List ClassFile → ℕ
coded_methods cs = length (filter (is_coded cs) (places_of (λ k. k.methods) cs))

abbrev pub most_types : ℕ
most_types = 2048

abbrev pub most_interface_methods : ℕ
most_interface_methods = 512

abbrev pub most_methods : ℕ
most_methods = 65535

abbrev pub most_words : ℕ
most_words = 1048576

pub record IsWithinLimits (cs : List ClassFile) : Type 0 where
  pub types : length (types_of cs) ≤ most_types
  pub interface_methods : length (interface_methods cs) ≤ most_interface_methods
  pub methods : coded_methods cs ≤ most_methods
  pub words : length (image_words_of cs) ≤ most_words
