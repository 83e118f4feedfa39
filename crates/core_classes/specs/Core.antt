-- The classes that stand before all others, and the class that is run.
use Rattle.std.specs.Prelude.{ℕ, List, [], ◌∷◌, ◌++◌, map, codes, Some, None}
use Rattle.std.specs.List.{flat_map}
use Rattle.class_pool.specs.declared.class.ClassFile.{ClassFile}
use Rattle.class_making.specs.declared.item.Item.TheVariants.{Class, Field, Method}
use Rattle.class_making.specs.declared.plan.Piece.{Piece}
use Rattle.class_making.specs.declared.plan.Piece.TheVariants.{Byte, Index}
use Rattle.class_making.specs.declared.plan.FieldPlan.{FieldPlan}
use Rattle.class_making.specs.declared.plan.MethodPlan.{MethodPlan}
use Rattle.class_making.specs.declared.plan.ClassPlan.{ClassPlan}
use Rattle.core_classes.specs.declared.table.ErrorClass.{ErrorClass}
use Rattle.class_making.specs.Plans.{class_of, field_plan, method_plan, bare_class}

-- ---- names

abbrev pub object_name : List ℕ
object_name = codes "java/lang/Object"

abbrev pub string_name : List ℕ
string_name = codes "java/lang/String"

abbrev pub throwable_name : List ℕ
throwable_name = codes "java/lang/Throwable"

abbrev pub init_name : List ℕ
init_name = codes "<init>"

abbrev pub no_arguments : List ℕ
no_arguments = codes "()V"

abbrev pub takes_string : List ℕ
takes_string = codes "(Ljava/lang/String;)V"

-- ---- flags: tables 4.1-B, 4.5-A and 4.6-A; each class that is no interface has ACC_SUPER

abbrev pub open_class : ℕ
open_class = 0x0021

abbrev pub abstract_class : ℕ
abstract_class = 0x0421

abbrev pub final_class : ℕ
final_class = 0x0031

abbrev pub public_interface : ℕ
public_interface = 0x0601

-- ---- parts

abbrev pub public_method : (name descriptor : List ℕ) (max_stack max_locals : ℕ) → List Piece → MethodPlan
public_method = method_plan 0x0001

abbrev pub static_method : (name descriptor : List ℕ) (max_stack max_locals : ℕ) → List Piece → MethodPlan
static_method = method_plan 0x0009

-- a class that implements java/io/Serializable, with a field
abbrev pub serializable_class : (flags : ℕ) (name : List ℕ) → FieldPlan → List MethodPlan → ClassPlan
serializable_class flags name field methods = record {
  major = 52;
  flags = flags;
  name = name;
  superclass = Some object_name;
  interfaces = codes "java/io/Serializable" ∷ [];
  fields = field ∷ [];
  methods = methods;
}

-- ---- java/lang/Object, java/io/Serializable and java/lang/Cloneable

-- return
unfoldable pub empty_init : MethodPlan
empty_init = public_method init_name no_arguments 0 1 (Byte 0xB1 ∷ [])

unfoldable pub object_plan : ClassPlan
object_plan = bare_class open_class object_name None (empty_init ∷ [])

unfoldable pub interface_plan : (name : List ℕ) → ClassPlan
interface_plan name = bare_class public_interface name (Some object_name) []

-- ---- java/lang/String

abbrev pub chars_field : FieldPlan
chars_field = field_plan 0x0012 (codes "chars") (codes "[C")

abbrev pub chars_of : Piece
chars_of = Index (Field string_name (codes "chars") (codes "[C"))

-- aload_0, getfield chars, arraylength, ireturn
unfoldable pub length_method : MethodPlan
length_method = public_method (codes "length") (codes "()I") 1 1 (Byte 0x2A ∷ Byte 0xB4 ∷ chars_of ∷ Byte 0xBE ∷ Byte 0xAC ∷ [])

-- aload_0, getfield chars, iload_1, caload, ireturn
unfoldable pub char_at_method : MethodPlan
char_at_method = public_method (codes "charAt") (codes "(I)C") 2 2 (Byte 0x2A ∷ Byte 0xB4 ∷ chars_of ∷ Byte 0x1B ∷ Byte 0x34 ∷ Byte 0xAC ∷ [])

unfoldable pub string_plan : ClassPlan
string_plan = serializable_class final_class string_name chars_field (length_method ∷ char_at_method ∷ [])

-- ---- java/lang/Throwable

-- aload_0, invokespecial the superclass's, return
unfoldable pub plain_init : (superclass : List ℕ) → MethodPlan
plain_init superclass = public_method init_name no_arguments 1 1 (Byte 0x2A ∷ Byte 0xB7 ∷ Index (Method superclass init_name no_arguments) ∷ Byte 0xB1 ∷ [])

abbrev pub message_field : FieldPlan
message_field = field_plan 0x0002 (codes "message") (codes "Ljava/lang/String;")

abbrev pub message_of : Piece
message_of = Index (Field throwable_name (codes "message") (codes "Ljava/lang/String;"))

-- aload_0, invokespecial the superclass's, aload_0, aload_1, putfield message, return
unfoldable pub keeping_init : MethodPlan
keeping_init =
    public_method init_name takes_string 2 2
    (Byte 0x2A ∷ Byte 0xB7 ∷ Index (Method object_name init_name no_arguments) ∷ Byte 0x2A ∷ Byte 0x2B ∷ Byte 0xB5 ∷ message_of ∷ Byte 0xB1 ∷ [])

-- aload_0, getfield message, areturn
unfoldable pub get_message_method : MethodPlan
get_message_method = public_method (codes "getMessage") (codes "()Ljava/lang/String;") 1 1 (Byte 0x2A ∷ Byte 0xB4 ∷ message_of ∷ Byte 0xB0 ∷ [])

unfoldable pub throwable_plan : ClassPlan
throwable_plan = serializable_class open_class throwable_name message_field (plain_init object_name ∷ keeping_init ∷ get_message_method ∷ [])

-- ---- the exceptions and errors

-- aload_0, aload_1, invokespecial the superclass's, return
unfoldable pub handing_init : (superclass : List ℕ) → MethodPlan
handing_init superclass = public_method init_name takes_string 2 2
    (Byte 0x2A ∷ Byte 0x2B ∷ Byte 0xB7 ∷ Index (Method superclass init_name takes_string) ∷ Byte 0xB1 ∷ [])

unfoldable pub error_plan : (flags : ℕ) (name superclass : List ℕ) → ClassPlan
error_plan flags name superclass = bare_class flags name (Some superclass) (plain_init superclass ∷ handing_init superclass ∷ [])

-- that of a row of the code's table
abbrev pub error_of : ErrorClass → ClassPlan
error_of e = error_plan e.flags e.name.now e.superclass.now

-- each with its superclass (Java SE 8 API Specification)
unfoldable pub error_plans : List ClassPlan
error_plans =
    error_plan open_class (codes "java/lang/Exception") throwable_name
    ∷ error_plan open_class (codes "java/lang/RuntimeException") (codes "java/lang/Exception")
    ∷ error_plan open_class (codes "java/lang/Error") throwable_name
    ∷ error_plan open_class (codes "java/lang/ArithmeticException") (codes "java/lang/RuntimeException")
    ∷ error_plan open_class (codes "java/lang/ArrayStoreException") (codes "java/lang/RuntimeException")
    ∷ error_plan open_class (codes "java/lang/ClassCastException") (codes "java/lang/RuntimeException")
    ∷ error_plan open_class (codes "java/lang/IllegalArgumentException") (codes "java/lang/RuntimeException")
    ∷ error_plan open_class (codes "java/lang/IllegalStateException") (codes "java/lang/RuntimeException")
    ∷ error_plan open_class (codes "java/lang/IndexOutOfBoundsException") (codes "java/lang/RuntimeException")
    ∷ error_plan open_class (codes "java/lang/ArrayIndexOutOfBoundsException") (codes "java/lang/IndexOutOfBoundsException")
    ∷ error_plan open_class (codes "java/lang/NegativeArraySizeException") (codes "java/lang/RuntimeException")
    ∷ error_plan open_class (codes "java/lang/NullPointerException") (codes "java/lang/RuntimeException")
    ∷ error_plan open_class (codes "java/lang/LinkageError") (codes "java/lang/Error")
    ∷ error_plan open_class (codes "java/lang/IncompatibleClassChangeError") (codes "java/lang/LinkageError")
    ∷ error_plan abstract_class (codes "java/lang/VirtualMachineError") (codes "java/lang/Error")
    ∷ error_plan open_class (codes "java/lang/OutOfMemoryError") (codes "java/lang/VirtualMachineError")
    ∷ error_plan open_class (codes "java/lang/StackOverflowError") (codes "java/lang/VirtualMachineError")
    ∷ []

-- ---- jop/Io

-- impdep1, ireturn
unfoldable pub read_method : MethodPlan
read_method = static_method (codes "read") (codes "()I") 1 0 (Byte 0xFE ∷ Byte 0xAC ∷ [])

-- iload_0, impdep2, return
unfoldable pub write_method : MethodPlan
write_method = static_method (codes "write") (codes "(I)V") 1 1 (Byte 0x1A ∷ Byte 0xFF ∷ Byte 0xB1 ∷ [])

unfoldable pub io_plan : ClassPlan
io_plan = bare_class final_class (codes "jop/Io") (Some object_name) (read_method ∷ write_method ∷ [])

-- ---- all of them, in order

unfoldable pub first_plans : List ClassPlan
first_plans = object_plan ∷ interface_plan (codes "java/io/Serializable") ∷ interface_plan (codes "java/lang/Cloneable") ∷ string_plan ∷ throwable_plan ∷ []

unfoldable pub core_plans : List ClassPlan
core_plans = first_plans ++ (error_plans ++ io_plan ∷ [])

-- the core classes
unfoldable pub core : List ClassFile
core = map class_of core_plans

-- ---- jop/Boot

-- invokestatic the class's initialization method
unfoldable pub call_pieces : List ℕ → List Piece
call_pieces name = Byte 0xB8 ∷ Index (Method name (codes "<clinit>") no_arguments) ∷ []

-- iconst_0, anewarray String, invokestatic main, return
unfoldable pub main_pieces : List ℕ → List Piece
main_pieces main = Byte 0x03 ∷ Byte 0xBD ∷ Index (Class string_name) ∷ Byte 0xB8 ∷ Index (Method main (codes "main") (codes "([Ljava/lang/String;)V"))
    ∷ Byte 0xB1 ∷ []

unfoldable pub boot_pieces : (calls : List (List ℕ)) (main : List ℕ) → List Piece
boot_pieces calls main = flat_map call_pieces calls ++ main_pieces main

-- private and static
unfoldable pub boot_method : (calls : List (List ℕ)) (main : List ℕ) → MethodPlan
boot_method calls main = method_plan 0x000A (codes "boot") no_arguments 1 0 (boot_pieces calls main)

-- final, and not public
unfoldable pub boot_plan : (calls : List (List ℕ)) (main : List ℕ) → ClassPlan
boot_plan calls main = bare_class 0x0030 (codes "jop/Boot") (Some object_name) (boot_method calls main ∷ [])

-- the class that calls the initialization methods of these classes, and then main of that class
unfoldable pub boot : (calls : List (List ℕ)) (main : List ℕ) → ClassFile
boot calls main = class_of (boot_plan calls main)
