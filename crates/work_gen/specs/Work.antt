-- The class W, an input of any size: methods m1 to mn, each of which adds in a counted loop, a main that calls them, and the bounds of the loops.
use Rattle.std.specs.Prelude.{ℕ, ◌+◌, ◌-◌, ◌%◌, Bool, ◌||◌, ◌==◌, if◌then◌else◌, List, [], ◌∷◌, ◌++◌, map, filter, codes, decimal, Some}
use Rattle.std.specs.List.{flat_map, range_with_len}
use Rattle.class_pool.specs.Spelling.{u2}
use Rattle.class_pool.specs.declared.class.ClassFile.{ClassFile}
use Rattle.class_making.specs.declared.item.Item.TheVariants.{Method}
use Rattle.class_making.specs.declared.plan.Piece.{Piece}
use Rattle.class_making.specs.declared.plan.Piece.TheVariants.{Byte, Index}
use Rattle.class_making.specs.declared.plan.CodePlan.{CodePlan}
use Rattle.class_making.specs.declared.plan.MethodPlan.{MethodPlan}
use Rattle.class_making.specs.declared.plan.ClassPlan.{ClassPlan}
use Rattle.class_making.specs.Plans.{bare_class, class_of}
use Rattle.core_classes.specs.Core.{object_name, open_class, static_method}

-- ---- names

abbrev pub class_name : List ℕ
class_name = codes "W"

-- m and the number
abbrev pub adder_name : ℕ → List ℕ
adder_name k = codes "m" ++ decimal k

-- from an int to an int
abbrev pub adder_descriptor : List ℕ
adder_descriptor = codes "(I)I"

-- ---- code

abbrev pub bytes_in : List ℕ → List Piece
bytes_in bytes = map Byte bytes

-- invokestatic
abbrev pub call_of : ℕ → List Piece
call_of k = Byte 0xB8 ∷ Index (Method class_name (adder_name k) adder_descriptor) ∷ []

-- ---- an adder, public and static

-- how often its loop goes round
abbrev pub turns_of : ℕ → ℕ
turns_of k = k % 8 + 1

-- It adds 0, 1 and so on below the turns to its argument: iconst_0, istore_1; at place 2 iload_1, bipush the turns, if_icmpge to place 18; iload_0,
-- iload_1, iadd, istore_0, iinc local 1 by 1, goto place 2; at place 18 iload_0.
abbrev pub loop_bytes : (turns : ℕ) → List ℕ
loop_bytes turns =
    0x03 ∷ 0x3C ∷ 0x1B ∷ 0x10 ∷ turns ∷ 0xA2 ∷ 0x00 ∷ 0x0D ∷ 0x1A ∷ 0x1B ∷ 0x60 ∷ 0x3B ∷ 0x84 ∷ 0x01 ∷ 0x01 ∷ 0xA7 ∷ 0xFF ∷ 0xF3 ∷ 0x1A ∷ []

-- The first of ten calls none. Each other hands the sum to the adder before it.
abbrev pub call_before : ℕ → List Piece
call_before k = if k % 10 == 1 then [] else call_of (k - 1)

-- the loop, the call, ireturn
abbrev pub adder_pieces : ℕ → List Piece
adder_pieces k = bytes_in (loop_bytes (turns_of k)) ++ (call_before k ++ Byte 0xAC ∷ [])

-- two frames (4.7.4): at place 2 local 1 is an int too (append), and so it is at place 18 (same)
abbrev pub adder_frames : List ℕ
adder_frames = 0x00 ∷ 0x02 ∷ 0xFC ∷ 0x00 ∷ 0x02 ∷ 0x01 ∷ 0x0F ∷ []

unfoldable pub adder_code : ℕ → CodePlan
adder_code k = record { max_stack = 2; max_locals = 2; pieces = adder_pieces k; stack_map = Some adder_frames }

unfoldable pub adder : ℕ → MethodPlan
adder k = record { flags = 0x0009; name = adder_name k; descriptor = adder_descriptor; code = Some (adder_code k) }

-- ---- main

-- main calls the last of each ten, and the last of all
abbrev pub is_called : (n : ℕ) → ℕ → Bool
is_called n k = k % 10 == 0 || k == n

abbrev pub called : (n : ℕ) → List ℕ
called n = filter (is_called n) (range_with_len 1 n)

-- invokestatic jop/Io.write, return
abbrev pub main_end : List Piece
main_end = Byte 0xB8 ∷ Index (Method (codes "jop/Io") (codes "write") (codes "(I)V")) ∷ Byte 0xB1 ∷ []

-- sipush n, and the calls, in rising order, each with what the one before gave
unfoldable pub main_pieces : (n : ℕ) → List Piece
main_pieces n = bytes_in (0x11 ∷ u2 n) ++ (flat_map call_of (called n) ++ main_end)

unfoldable pub main_method : (n : ℕ) → MethodPlan
main_method n = static_method (codes "main") (codes "([Ljava/lang/String;)V") 1 1 (main_pieces n)

-- ---- the class

-- the adders in order, and then main
unfoldable pub methods : (n : ℕ) → List MethodPlan
methods n = map adder (range_with_len 1 n) ++ main_method n ∷ []

unfoldable pub work_plan : (n : ℕ) → ClassPlan
work_plan n = bare_class open_class class_name (Some object_name) (methods n)

unfoldable pub work : (n : ℕ) → ClassFile
work n = class_of (work_plan n)

-- ---- bounds

-- the loop of an adder, whose header is at place 2
unfoldable pub bound_line : ℕ → List ℕ
bound_line k = codes "W." ++ (adder_name k ++ (codes "(I)I 2 loop<=" ++ (decimal (turns_of k) ++ codes "\n")))

unfoldable pub bounds_text : (n : ℕ) → List ℕ
bounds_text n = flat_map bound_line (range_with_len 1 n)
