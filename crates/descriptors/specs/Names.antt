-- The forms of names: JVM Specification SE 8, 4.2.
use Rattle.std.specs.Prelude.{ℕ, Bool, true, false, not, ◌&&◌, ◌||◌, ◌==◌, if◌then◌else◌, List, [], ◌∷◌, codes, length}
use Prim.Native.Char.{code}
use Rattle.std.specs.List.{list_all}
use lib.Pointwise.{pointwise}
use Rattle.std.specs.Prelude.{nat_eq}

-- none of . ; [ and /
abbrev pub is_plain : ℕ → Bool
is_plain unit = not (unit == code "." || unit == code ";" || unit == code "[" || unit == code "/")

-- an unqualified name (4.2.2)
abbrev pub is_unqualified : List ℕ → Bool
is_unqualified units = not (length units == 0) && list_all is_plain units

-- neither < nor >
abbrev pub is_not_angle : ℕ → Bool
is_not_angle unit = not (unit == code "<" || unit == code ">")

abbrev pub is_instance_initializer : List ℕ → Bool
is_instance_initializer units = pointwise nat_eq units (codes "<init>")

abbrev pub is_class_initializer : List ℕ → Bool
is_class_initializer units = pointwise nat_eq units (codes "<clinit>")

-- the name of a method (4.2.2)
abbrev pub is_method_name : List ℕ → Bool
is_method_name units = is_instance_initializer units || is_class_initializer units || (is_unqualified units && list_all is_not_angle units)

-- no ( : the name of a declared method holds none
abbrev pub has_no_parenthesis : List ℕ → Bool
has_no_parenthesis units = list_all (λ unit. not (unit == code "(")) units

-- unqualified names with a / between each two (4.2.1); fresh tells whether a name is about to begin
abbrev pub is_path : Bool → List ℕ → Bool
is_path fresh [] = not fresh
is_path fresh (unit ∷ units) = if unit == code "/" then not fresh && is_path true units else is_plain unit && is_path false units

-- the name of a class or an interface (4.2.1)
abbrev pub is_class_name : List ℕ → Bool
is_class_name units = is_path true units
