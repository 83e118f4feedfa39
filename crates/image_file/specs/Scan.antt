-- The tests by which the reader of bare images goes over the bytes.
use Rattle.std.specs.Prelude.{ℕ, zero, suc, ◌+◌, ◌-◌, ◌*◌, Bool, false, ◌==◌, ◌&&◌, nat_le, if◌then◌else◌, List, [], ◌∷◌, length, Some, None}
use Rattle.std.specs.declared.option.Option.{Option}
use Rattle.image_file.specs.declared.bare.shape.Shape.{Shape}
use Rattle.image_file.specs.Shapes.{shape_of}
use Rattle.image_file.specs.Bare.{BareContent, return_code}

abbrev pub shape_fits : (max_locals max_stack depth : ℕ) → Option Shape → Bool
shape_fits max_locals max_stack depth None = false
shape_fits max_locals max_stack depth (Some s) =
    nat_le s.locals max_locals && nat_le s.pops depth && nat_le (depth - s.pops + s.pushes) max_stack

abbrev pub depth_after : ℕ → Option Shape → ℕ
depth_after depth None = 0
depth_after depth (Some s) = depth - s.pops + s.pushes

abbrev pub bytes_behind : Option Shape → ℕ
bytes_behind None = 0
bytes_behind (Some s) = s.bytes

-- so many operands are on the stack, and so many bytes of an instruction are still to come
abbrev pub scan : (max_locals max_stack depth behind : ℕ) → List ℕ → Bool
scan max_locals max_stack depth zero [] = false
scan max_locals max_stack depth (suc behind) [] = false
scan max_locals max_stack depth (suc behind) (byte ∷ rest) = scan max_locals max_stack depth behind rest
scan max_locals max_stack depth zero (op ∷ rest) =
    if op == return_code then length rest == 0
    else shape_fits max_locals max_stack depth (shape_of op) && scan max_locals max_stack (depth_after depth (shape_of op)) (bytes_behind (shape_of op)) rest

abbrev pub image_test : (max_locals max_stack count : ℕ) → List ℕ → Bool
image_test max_locals max_stack count code =
    count == length code && nat_le count 4096 && nat_le (max_locals + 5 + max_stack) 176 && scan max_locals max_stack 0 0 code

abbrev pub header_test : ℕ → ℕ → ℕ → ℕ → ℕ → ℕ → Bool
header_test j o p b v w = j == 74 && o == 79 && p == 80 && b == 66 && v == 0 && w == 1

-- the bare image that the bytes spell, if they do
abbrev pub image_in : List ℕ → Option BareContent
image_in (j ∷ o ∷ p ∷ b ∷ v ∷ w ∷ l0 ∷ l1 ∷ s0 ∷ s1 ∷ n0 ∷ n1 ∷ n2 ∷ n3 ∷ code) =
    if header_test j o p b v w && image_test (l0 * 256 + l1) (s0 * 256 + s1) ((n0 * 256 + n1) * 65536 + (n2 * 256 + n3)) code
    then Some (record { max_locals = l0 * 256 + l1; max_stack = s0 * 256 + s1; code = code }) else None
image_in bytes = None
