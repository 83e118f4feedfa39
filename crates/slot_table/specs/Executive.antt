-- The executive: a class whose main calls the slots of a table in order, so many rounds.
use Rattle.std.specs.Prelude.{ℕ, ◌+◌, ◌-◌, ◌*◌, ◌^◌, nat_lt, if◌then◌else◌, List, [], ◌∷◌, ◌++◌, length, map, codes, Some}
use Rattle.std.specs.List.{flat_map}
use Rattle.class_pool.specs.Spelling.{u2}
use Rattle.class_pool.specs.declared.class.ClassFile.{ClassFile}
use Rattle.class_making.specs.declared.item.Item.{Item}
use Rattle.class_making.specs.declared.item.Item.TheVariants.{Method}
use Rattle.class_making.specs.declared.plan.Piece.{Piece}
use Rattle.class_making.specs.declared.plan.Piece.TheVariants.{Byte, Index}
use Rattle.class_making.specs.declared.plan.CodePlan.{CodePlan}
use Rattle.class_making.specs.declared.plan.MethodPlan.{MethodPlan}
use Rattle.class_making.specs.declared.plan.ClassPlan.{ClassPlan}
use Rattle.class_making.specs.Plans.{bare_class, class_of}
use Rattle.slot_table.specs.declared.slot.Slot.{Slot}

-- ---- main: local variable 1 counts the rounds

-- iconst_0, istore_1; at place 2 iload_1, sipush the rounds, if_icmpge to the return
abbrev pub front_bytes : (rounds slots : ℕ) → List ℕ
front_bytes rounds n = 0x03 ∷ 0x3C ∷ 0x1B ∷ 0x11 ∷ (u2 rounds ++ 0xA2 ∷ u2 (9 + 3 * n))

-- iinc local 1 by 1, goto place 2, return
abbrev pub back_bytes : (slots : ℕ) → List ℕ
back_bytes n = 0x84 ∷ 0x01 ∷ 0x01 ∷ 0xA7 ∷ (u2 (2 ^ 16 - (10 + 3 * n)) ++ 0xB1 ∷ [])

abbrev pub bytes_in : List ℕ → List Piece
bytes_in bytes = map Byte bytes

-- the method of a slot takes nothing and returns nothing
abbrev pub method_of : Slot → Item
method_of s = Method s.class s.method (codes "()V")

-- invokestatic
abbrev pub call_of : Slot → List Piece
call_of s = Byte 0xB8 ∷ Index (method_of s) ∷ []

-- where the call of a slot stands in the code, in bytes
abbrev pub call_place : (slot : ℕ) → ℕ
call_place slot = 9 + 3 * slot

abbrev pub main_pieces : List Slot → (rounds : ℕ) → List Piece
main_pieces slots rounds = bytes_in (front_bytes rounds (length slots)) ++ flat_map call_of slots ++ bytes_in (back_bytes (length slots))

-- as many local variables as at the frame before, behind so many bytes (4.7.4): same where they are fewer than 64, else same_frame_extended
abbrev pub same_frame : (delta : ℕ) → List ℕ
same_frame delta = if nat_lt delta 64 then delta ∷ [] else 0xFB ∷ u2 delta

-- two frames: at place 2 local variable 1 is an int too (append), and so it is at the return
abbrev pub frames_bytes : (slots : ℕ) → List ℕ
frames_bytes n = 0x00 ∷ 0x02 ∷ 0xFC ∷ 0x00 ∷ 0x02 ∷ 0x01 ∷ same_frame (12 + 3 * n)

abbrev pub main_code : List Slot → (rounds : ℕ) → CodePlan
main_code slots rounds = record { max_stack = 2; max_locals = 2; pieces = main_pieces slots rounds; stack_map = Some (frames_bytes (length slots)) }

-- public and static
abbrev pub main_method : List Slot → (rounds : ℕ) → MethodPlan
main_method slots rounds = record { flags = 0x0009; name = codes "main"; descriptor = codes "([Ljava/lang/String;)V"; code = Some (main_code slots rounds) }

-- ---- the class

-- public, with ACC_SUPER, and of version 50
unfoldable pub executive_plan : List Slot → (rounds : ℕ) → ClassPlan
executive_plan slots rounds = record (bare_class 0x0021 (codes "Cyclic") (Some (codes "java/lang/Object")) (main_method slots rounds ∷ [])) { major = 50 }

unfoldable pub executive_of : List Slot → (rounds : ℕ) → ClassFile
executive_of slots rounds = class_of (executive_plan slots rounds)
