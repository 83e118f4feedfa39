-- What is found in the attributes of a member or of code: JVM Specification SE 8, 4.7.2 to 4.7.4.
use Rattle.std.specs.Prelude.{ℕ, List, [], ◌∷◌, Option, Some, None, codes, if◌then◌else◌}
use Rattle.class_pool.specs.declared.entry.Entry.{Entry}
use Rattle.class_pool.specs.declared.class.Body.{Body}
use Rattle.class_pool.specs.declared.class.Body.TheVariants.{Code, ConstantValue}
use Rattle.class_pool.specs.declared.class.Code.{Code as CodeParts}
use Rattle.class_pool.specs.declared.class.Member.{Member}
use Rattle.class_pool.specs.Kind.{is_named}

abbrev pub otherwise : {Y : Type 0} → Option Y → Option Y → Option Y
otherwise (Some y) other = Some y
otherwise None other = other

-- what the first item has that has it
abbrev pub first_of : {X Y : Type 0} → (X → Option Y) → List X → Option Y
first_of part [] = None
first_of part (x ∷ xs) = otherwise (part x) (first_of part xs)

abbrev pub code_part : Body → Option CodeParts
code_part (Code code) = Some code
code_part body = None

abbrev pub constant_part : Body → Option ℕ
constant_part (ConstantValue constant) = Some constant
constant_part body = None

-- the code of a method (4.7.3)
abbrev pub code_of : Member → Option CodeParts
code_of m = first_of (λ a. code_part a.body) m.attributes

-- the index of a field's constant (4.7.2)
abbrev pub constant_value_of : Member → Option ℕ
constant_value_of m = first_of (λ a. constant_part a.body) m.attributes

abbrev pub frames_part : List Entry → ℕ × List ℕ → Option (List ℕ)
frames_part pool a = if is_named pool a.0 (codes "StackMapTable") then Some a.1 else None

-- the bytes of a code's StackMapTable (4.7.4)
abbrev pub stack_map_of : List Entry → CodeParts → Option (List ℕ)
stack_map_of pool code = first_of (frames_part pool) code.attributes
