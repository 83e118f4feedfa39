-- Tables of the instance fields of each class, by its number.
use Rattle.std.specs.Prelude.{ℕ, List, [], length, map}
use Rattle.std.specs.List.{range_with_len}
use Rattle.std.specs.Option.{option_map_or}
use Rattle.class_pool.specs.declared.class.ClassFile.{ClassFile}
use Rattle.class_lookup.specs.Hierarchy.{superclass}
use Rattle.class_lookup.specs.Lookup.{Place}
use Rattle.program_tables.specs.Numbers.{own_instance_fields, instance_fields}

-- those that each class declares
abbrev pub own_lists : List ClassFile → List (List Place)
own_lists cs = map (own_instance_fields cs) (range_with_len 0 (length cs))

-- how many an object of each class has
abbrev pub instance_counts : List ClassFile → List ℕ
instance_counts cs = map (λ c. length (instance_fields cs c)) (range_with_len 0 (length cs))

-- those of the direct superclass, if there is one
abbrev pub fields_above : List ClassFile → (class : ℕ) → List Place
fields_above cs c = option_map_or (instance_fields cs) (superclass cs c) []
