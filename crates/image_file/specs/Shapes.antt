-- The opcodes of bare images, but for the return at the end.
use Rattle.std.specs.Prelude.{ℕ, ◌-◌, Bool, ◌==◌, ◌&&◌, ◌||◌, nat_le, if◌then◌else◌, Some, None}
use Rattle.std.specs.declared.option.Option.{Option}
use Rattle.image_file.specs.declared.bare.shape.Shape.{Shape}

abbrev pub shape : (bytes locals pops pushes : ℕ) → Option Shape
shape bytes locals pops pushes = Some (record { bytes = bytes; locals = locals; pops = pops; pushes = pushes })

abbrev pub is_within : (low high op : ℕ) → Bool
is_within low high op = nat_le low op && nat_le op high

-- What an opcode has and does (JVM Specification SE 8, chapter 6): nop, iconst_m1 to iconst_5, bipush, iload_0 to iload_3,
-- istore_0 to istore_3, pop, dup, then iadd, isub, iand, ior and ixor, and impdep2, which puts a byte out.
abbrev pub shape_of : ℕ → Option Shape
shape_of op =
    if op == 0 then shape 0 0 0 0
    else if is_within 2 8 op then shape 0 0 0 1
    else if op == 16 then shape 1 0 0 1
    else if is_within 26 29 op then shape 0 (op - 25) 0 1
    else if is_within 59 62 op then shape 0 (op - 58) 1 0
    else if op == 87 then shape 0 0 1 0
    else if op == 89 then shape 0 0 1 2
    else if op == 96 || op == 100 || op == 126 || op == 128 || op == 130 then shape 0 0 2 1
    else if op == 255 then shape 0 0 1 0
    else None
