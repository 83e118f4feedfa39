-- Parts of a frame of a StackMapTable: JVM Specification SE 8, 4.7.4. Of each the indexes of the classes that it names, and the bytes behind it.
use Rattle.std.specs.Prelude.{ℕ, ◌-◌, nat_lt, if◌then◌else◌, [], ◌∷◌, Some}
use Rattle.bytecode_model.specs.Lists.{onto}
use Rattle.class_pool.specs.Reading.{number_in}
use Rattle.program_tables.specs.FrameClasses.{FramePart, many, type_in, full_in}

-- the index of a class
abbrev pub index_in : FramePart
index_in bytes = onto (number_in 2 bytes) (λ class. Some (class.0 ∷ [], class.1))

-- a place of the code
abbrev pub place_in : FramePart
place_in bytes = onto (number_in 2 bytes) (λ place. Some ([], place.1))

-- what stands behind the offset of a frame that has one of two bytes
abbrev pub change_in : (tag : ℕ) → FramePart
change_in tag bytes =
    if nat_lt tag 248 then type_in bytes
    else if nat_lt tag 252 then Some ([], bytes)
    else if nat_lt tag 255 then many type_in (tag - 251) bytes
    else full_in bytes
