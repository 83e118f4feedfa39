-- The row of each instruction of a bare image.
use Rattle.std.proofs.Common.{◌≡◌, ℕ, zero, suc, ◌+◌, ◌-◌, ◌^◌, ◌<◌, ◌≤◌, ℤ, pos, negsuc, Bool, true, false, cond, nat_lt, ◌==◌, ◌||◌, List, [], ◌∷◌, Option, Some, None, refl, sym, ◌∙◌, ap, subst, arith, eqb-true, lt-ltb, ◌⊎◌, inl, inr}
use Rattle.std.specs.Prelude.{nat_le, FitsSigned, bit_and, bit_or, bit_xor}
use Rattle.std.specs.Int.{w8, w32, cast_signed}
use Rattle.std.proofs.lemmas.Bool.{and_parts, leb-true}
use Rattle.image_file.specs.declared.bare.shape.Shape.{Shape}
use Rattle.image_file.specs.Shapes.{shape_of, is_within}
use Rattle.opcodes.specs.declared.instruction.Instr.{Instr}
use Rattle.opcodes.specs.Bytes.{u1}
use Rattle.opcodes.specs.Form.{Fixed, Operands, Absent, SignedByte}
use Rattle.opcodes.specs.Row as opcodes
use Rattle.opcodes.specs.Instruction.{fixed_at, operands_width}
use Rattle.bytecode_model.specs.declared.Value.TheVariants.{Int}
use Rattle.bytecode_model.specs.Numbers.{sum, difference, bitwise}
use Rattle.bytecode_model.specs.Types.{IntType, Numbers}
use Rattle.bytecode_model.specs.Program.{Body, NoOperand}
use Rattle.bytecode_model.specs.Rows as rows
use Rattle.bytecode_model.specs.Rows.{Row, Zero, One, Drop, Copy}
use Rattle.bytecode_model.specs.Table.{row_of, of_ints}
use Rattle.bytecode_typing.specs.Typed.{RaisesNothing}
use Rattle.bytecode_typing.specs.Bare.{depth_behind, IsIntConstant}

-- a row that puts nothing out
abbrev pub IsSilent : Row → Type 0
IsSilent rows.Write = ⊥
IsSilent r = Unit {0}

-- An opcode of this shape is one of the standard with as many bytes behind it, and its row keeps to the stack and the local variables as the shape says.
pub record Line (op : ℕ) (t : Shape) : Type 0 where
  pub operands : Operands
  pub form : (opcodes.row_of op).form ≡ Fixed operands
  pub width : operands_width operands ≡ t.bytes
  pub row : Instr → Row
  pub is : (code : List ℕ) (i : Instr) → i.op ≡ op → row_of code i NoOperand ≡ Some (row i)
  pub quiet : (i : Instr) → RaisesNothing (row i)
  pub constant : (code : List ℕ) (pc : ℕ) → ((k : ℕ) → u1 code k < 2 ^ 8) → IsIntConstant (row (fixed_at code pc false operands))
  pub depth : (b : Body) (i : Instr) (d : ℕ) → t.locals ≤ b.max_locals → t.pops ≤ d → d - t.pops + t.pushes ≤ b.max_stack → depth_behind b (row i) d ≡ Some (d - t.pops + t.pushes)
  pub silent : (op ≡ 255) ⊎ ((i : Instr) → IsSilent (row i))

abbrev shape : (bytes locals popped pushed : ℕ) → Shape
shape bytes locals popped pushed = record { bytes = bytes; locals = locals; pops = popped; pushes = pushed }

abbrev pub none : Operands
none = record { first = Absent; second = Absent; unused = 0 }

abbrev byte : Operands
byte = record { first = SignedByte; second = Absent; unused = 0 }

-- ---- how deep the stack is behind a row

pushes : (b : Body) (n : ℤ) (d : ℕ) → d - 0 + 1 ≤ b.max_stack → depth_behind b (rows.Push (Int n)) d ≡ Some (d - 0 + 1)
pushes b n d room = let below : nat_lt d b.max_stack ≡ true = lt-ltb d b.max_stack (omega (arith, room)) in rw below (let same : suc d ≡ d - 0 + 1 = omega arith in ap Some same)

loads : (b : Body) (k d : ℕ) → k + 1 ≤ b.max_locals → d - 0 + 1 ≤ b.max_stack → depth_behind b (rows.Load (Numbers IntType) k) d ≡ Some (d - 0 + 1)
loads b k d few room =
    let local : nat_lt k b.max_locals ≡ true = lt-ltb k b.max_locals (omega (arith, few)) in
    let below : nat_lt d b.max_stack ≡ true = lt-ltb d b.max_stack (omega (arith, room)) in
    rw (local, below) (let same : suc d ≡ d - 0 + 1 = omega arith in ap Some same)

stores : (b : Body) (k d : ℕ) → k + 1 ≤ b.max_locals → 1 ≤ d → depth_behind b (rows.Store (Numbers IntType) k) d ≡ Some (d - 1 + 0)
stores b k zero few some = absurd (omega (arith, some))
stores b k (suc d) few some = let local : nat_lt k b.max_locals ≡ true = lt-ltb k b.max_locals (omega (arith, few)) in rw local (let same : d ≡ suc d - 1 + 0 = omega arith in ap Some same)

drops : (b : Body) (d : ℕ) → 1 ≤ d → depth_behind b (rows.Shuffle Drop One Zero) d ≡ Some (d - 1 + 0)
drops b zero some = absurd (omega (arith, some))
drops b (suc d) some = let same : d ≡ suc d - 1 + 0 = omega arith in ap Some same

copies : (b : Body) (d : ℕ) → 1 ≤ d → d - 1 + 2 ≤ b.max_stack → depth_behind b (rows.Shuffle Copy One Zero) d ≡ Some (d - 1 + 2)
copies b zero some room = absurd (omega (arith, some))
copies b (suc d) some room =
    let below : nat_lt (suc d) b.max_stack ≡ true = lt-ltb (suc d) b.max_stack (omega (arith, room)) in
    rw below (let same : suc (suc d) ≡ suc d - 1 + 2 = omega arith in ap Some same)

combines : (b : Body) (f : ℤ → ℤ → Option ℤ) (d : ℕ) → 2 ≤ d → depth_behind b (rows.Compute (IntType ∷ IntType ∷ []) IntType f) d ≡ Some (d - 2 + 1)
combines b f zero some = absurd (omega (arith, some))
combines b f (suc zero) some = absurd (omega (arith, some))
combines b f (suc (suc d)) some = let same : suc d ≡ suc (suc d) - 2 + 1 = omega arith in ap Some same

writes : (b : Body) (d : ℕ) → 1 ≤ d → depth_behind b rows.Write d ≡ Some (d - 1 + 0)
writes b zero some = absurd (omega (arith, some))
writes b (suc d) some = let same : d ≡ suc d - 1 + 0 = omega arith in ap Some same

-- ---- the rows

-- the row that the table has at an opcode
at : (op : ℕ) (row : Instr → Row) → ((code : List ℕ) (i : Instr) → row_of code (record i { op = op }) NoOperand ≡ Some (row i)) → (code : List ℕ) (i : Instr) → i.op ≡ op → row_of code i NoOperand ≡ Some (row i)
at op row table code i is = ap (λ (k : ℕ). row_of code (record i { op = k }) NoOperand) is ∙ table code i

line_0 : Line 0 (shape 0 0 0 0)
unfolding opcodes.row_of row_of
line_0 = record { operands = none; form = refl; width = refl; row = λ i. rows.Nothing; is = at 0 (λ i. rows.Nothing) (λ code i. refl); quiet = λ i. tt; constant = λ code pc h. tt; depth = λ b i d l p s. (let same : d ≡ d - 0 + 0 = omega arith in ap Some same); silent = inr (λ i. tt) }

line_2 : Line 2 (shape 0 0 0 1)
unfolding opcodes.row_of row_of
line_2 = record { operands = none; form = refl; width = refl; row = λ i. rows.Push (Int (negsuc 0)); is = at 2 (λ i. rows.Push (Int (negsuc 0))) (λ code i. refl); quiet = λ i. tt; constant = λ code pc h. grind arith; depth = λ b i d l p s. pushes b (negsuc 0) d s; silent = inr (λ i. tt) }

line_3 : Line 3 (shape 0 0 0 1)
unfolding opcodes.row_of row_of
line_3 = record { operands = none; form = refl; width = refl; row = λ i. rows.Push (Int (pos 0)); is = at 3 (λ i. rows.Push (Int (pos 0))) (λ code i. refl); quiet = λ i. tt; constant = λ code pc h. grind arith; depth = λ b i d l p s. pushes b (pos 0) d s; silent = inr (λ i. tt) }

line_4 : Line 4 (shape 0 0 0 1)
unfolding opcodes.row_of row_of
line_4 = record { operands = none; form = refl; width = refl; row = λ i. rows.Push (Int (pos 1)); is = at 4 (λ i. rows.Push (Int (pos 1))) (λ code i. refl); quiet = λ i. tt; constant = λ code pc h. grind arith; depth = λ b i d l p s. pushes b (pos 1) d s; silent = inr (λ i. tt) }

line_5 : Line 5 (shape 0 0 0 1)
unfolding opcodes.row_of row_of
line_5 = record { operands = none; form = refl; width = refl; row = λ i. rows.Push (Int (pos 2)); is = at 5 (λ i. rows.Push (Int (pos 2))) (λ code i. refl); quiet = λ i. tt; constant = λ code pc h. grind arith; depth = λ b i d l p s. pushes b (pos 2) d s; silent = inr (λ i. tt) }

line_6 : Line 6 (shape 0 0 0 1)
unfolding opcodes.row_of row_of
line_6 = record { operands = none; form = refl; width = refl; row = λ i. rows.Push (Int (pos 3)); is = at 6 (λ i. rows.Push (Int (pos 3))) (λ code i. refl); quiet = λ i. tt; constant = λ code pc h. grind arith; depth = λ b i d l p s. pushes b (pos 3) d s; silent = inr (λ i. tt) }

line_7 : Line 7 (shape 0 0 0 1)
unfolding opcodes.row_of row_of
line_7 = record { operands = none; form = refl; width = refl; row = λ i. rows.Push (Int (pos 4)); is = at 7 (λ i. rows.Push (Int (pos 4))) (λ code i. refl); quiet = λ i. tt; constant = λ code pc h. grind arith; depth = λ b i d l p s. pushes b (pos 4) d s; silent = inr (λ i. tt) }

line_8 : Line 8 (shape 0 0 0 1)
unfolding opcodes.row_of row_of
line_8 = record { operands = none; form = refl; width = refl; row = λ i. rows.Push (Int (pos 5)); is = at 8 (λ i. rows.Push (Int (pos 5))) (λ code i. refl); quiet = λ i. tt; constant = λ code pc h. grind arith; depth = λ b i d l p s. pushes b (pos 5) d s; silent = inr (λ i. tt) }

a_byte : (x : ℕ) → x < 2 ^ 8 → FitsSigned w32 (cast_signed w8 x)
a_byte x h = grind arith

line_16 : Line 16 (shape 1 0 0 1)
unfolding opcodes.row_of row_of
line_16 = record { operands = byte; form = refl; width = refl; row = λ i. rows.Push (Int i.first); is = at 16 (λ i. rows.Push (Int i.first)) (λ code i. refl); quiet = λ i. tt; constant = λ code pc h. a_byte (u1 code (pc + 0 + 1)) (h (pc + 0 + 1)); depth = λ b i d l p s. pushes b i.first d s; silent = inr (λ i. tt) }

line_26 : Line 26 (shape 0 1 0 1)
unfolding opcodes.row_of row_of
line_26 = record { operands = none; form = refl; width = refl; row = λ i. rows.Load (Numbers IntType) 0; is = at 26 (λ i. rows.Load (Numbers IntType) 0) (λ code i. refl); quiet = λ i. tt; constant = λ code pc h. tt; depth = λ b i d l p s. loads b 0 d l s; silent = inr (λ i. tt) }

line_27 : Line 27 (shape 0 2 0 1)
unfolding opcodes.row_of row_of
line_27 = record { operands = none; form = refl; width = refl; row = λ i. rows.Load (Numbers IntType) 1; is = at 27 (λ i. rows.Load (Numbers IntType) 1) (λ code i. refl); quiet = λ i. tt; constant = λ code pc h. tt; depth = λ b i d l p s. loads b 1 d l s; silent = inr (λ i. tt) }

line_28 : Line 28 (shape 0 3 0 1)
unfolding opcodes.row_of row_of
line_28 = record { operands = none; form = refl; width = refl; row = λ i. rows.Load (Numbers IntType) 2; is = at 28 (λ i. rows.Load (Numbers IntType) 2) (λ code i. refl); quiet = λ i. tt; constant = λ code pc h. tt; depth = λ b i d l p s. loads b 2 d l s; silent = inr (λ i. tt) }

line_29 : Line 29 (shape 0 4 0 1)
unfolding opcodes.row_of row_of
line_29 = record { operands = none; form = refl; width = refl; row = λ i. rows.Load (Numbers IntType) 3; is = at 29 (λ i. rows.Load (Numbers IntType) 3) (λ code i. refl); quiet = λ i. tt; constant = λ code pc h. tt; depth = λ b i d l p s. loads b 3 d l s; silent = inr (λ i. tt) }

line_59 : Line 59 (shape 0 1 1 0)
unfolding opcodes.row_of row_of
line_59 = record { operands = none; form = refl; width = refl; row = λ i. rows.Store (Numbers IntType) 0; is = at 59 (λ i. rows.Store (Numbers IntType) 0) (λ code i. refl); quiet = λ i. tt; constant = λ code pc h. tt; depth = λ b i d l p s. stores b 0 d l p; silent = inr (λ i. tt) }

line_60 : Line 60 (shape 0 2 1 0)
unfolding opcodes.row_of row_of
line_60 = record { operands = none; form = refl; width = refl; row = λ i. rows.Store (Numbers IntType) 1; is = at 60 (λ i. rows.Store (Numbers IntType) 1) (λ code i. refl); quiet = λ i. tt; constant = λ code pc h. tt; depth = λ b i d l p s. stores b 1 d l p; silent = inr (λ i. tt) }

line_61 : Line 61 (shape 0 3 1 0)
unfolding opcodes.row_of row_of
line_61 = record { operands = none; form = refl; width = refl; row = λ i. rows.Store (Numbers IntType) 2; is = at 61 (λ i. rows.Store (Numbers IntType) 2) (λ code i. refl); quiet = λ i. tt; constant = λ code pc h. tt; depth = λ b i d l p s. stores b 2 d l p; silent = inr (λ i. tt) }

line_62 : Line 62 (shape 0 4 1 0)
unfolding opcodes.row_of row_of
line_62 = record { operands = none; form = refl; width = refl; row = λ i. rows.Store (Numbers IntType) 3; is = at 62 (λ i. rows.Store (Numbers IntType) 3) (λ code i. refl); quiet = λ i. tt; constant = λ code pc h. tt; depth = λ b i d l p s. stores b 3 d l p; silent = inr (λ i. tt) }

line_87 : Line 87 (shape 0 0 1 0)
unfolding opcodes.row_of row_of
line_87 = record { operands = none; form = refl; width = refl; row = λ i. rows.Shuffle Drop One Zero; is = at 87 (λ i. rows.Shuffle Drop One Zero) (λ code i. refl); quiet = λ i. tt; constant = λ code pc h. tt; depth = λ b i d l p s. drops b d p; silent = inr (λ i. tt) }

line_89 : Line 89 (shape 0 0 1 2)
unfolding opcodes.row_of row_of
line_89 = record { operands = none; form = refl; width = refl; row = λ i. rows.Shuffle Copy One Zero; is = at 89 (λ i. rows.Shuffle Copy One Zero) (λ code i. refl); quiet = λ i. tt; constant = λ code pc h. tt; depth = λ b i d l p s. copies b d p s; silent = inr (λ i. tt) }

line_96 : Line 96 (shape 0 0 2 1)
unfolding opcodes.row_of row_of
line_96 = record { operands = none; form = refl; width = refl; row = λ i. of_ints (sum); is = at 96 (λ i. of_ints (sum)) (λ code i. refl); quiet = λ i. λ n m. tt; constant = λ code pc h. tt; depth = λ b i d l p s. combines b (λ y x. Some ((sum) y x)) d p; silent = inr (λ i. tt) }

line_100 : Line 100 (shape 0 0 2 1)
unfolding opcodes.row_of row_of
line_100 = record { operands = none; form = refl; width = refl; row = λ i. of_ints (difference); is = at 100 (λ i. of_ints (difference)) (λ code i. refl); quiet = λ i. λ n m. tt; constant = λ code pc h. tt; depth = λ b i d l p s. combines b (λ y x. Some ((difference) y x)) d p; silent = inr (λ i. tt) }

line_126 : Line 126 (shape 0 0 2 1)
unfolding opcodes.row_of row_of
line_126 = record { operands = none; form = refl; width = refl; row = λ i. of_ints (bitwise w32 bit_and); is = at 126 (λ i. of_ints (bitwise w32 bit_and)) (λ code i. refl); quiet = λ i. λ n m. tt; constant = λ code pc h. tt; depth = λ b i d l p s. combines b (λ y x. Some ((bitwise w32 bit_and) y x)) d p; silent = inr (λ i. tt) }

line_128 : Line 128 (shape 0 0 2 1)
unfolding opcodes.row_of row_of
line_128 = record { operands = none; form = refl; width = refl; row = λ i. of_ints (bitwise w32 bit_or); is = at 128 (λ i. of_ints (bitwise w32 bit_or)) (λ code i. refl); quiet = λ i. λ n m. tt; constant = λ code pc h. tt; depth = λ b i d l p s. combines b (λ y x. Some ((bitwise w32 bit_or) y x)) d p; silent = inr (λ i. tt) }

line_130 : Line 130 (shape 0 0 2 1)
unfolding opcodes.row_of row_of
line_130 = record { operands = none; form = refl; width = refl; row = λ i. of_ints (bitwise w32 bit_xor); is = at 130 (λ i. of_ints (bitwise w32 bit_xor)) (λ code i. refl); quiet = λ i. λ n m. tt; constant = λ code pc h. tt; depth = λ b i d l p s. combines b (λ y x. Some ((bitwise w32 bit_xor) y x)) d p; silent = inr (λ i. tt) }

line_255 : Line 255 (shape 0 0 1 0)
unfolding opcodes.row_of row_of
line_255 = record { operands = none; form = refl; width = refl; row = λ i. rows.Write; is = at 255 (λ i. rows.Write) (λ code i. refl); quiet = λ i. tt; constant = λ code pc h. tt; depth = λ b i d l p s. writes b d p; silent = inl refl }

-- what stands at the end
pub return_is : (code : List ℕ) (i : Instr) → i.op ≡ 177 → row_of code i NoOperand ≡ Some (rows.Return None)
unfolding row_of
return_is code i is = ap (λ (k : ℕ). row_of code (record i { op = k }) NoOperand) is

pub return_form : (opcodes.row_of 177).form ≡ Fixed none
unfolding opcodes.row_of
return_form = refl

-- ---- each opcode of the bare grammar is one of these

one_of : (op k : ℕ) (t known : Shape) → op ≡ k → shape_of op ≡ Some t → shape_of k ≡ Some known → Line k known → Line op t
one_of op k t known is shaped at line =
    let same : Some known ≡ Some t = sym at ∙ sym (ap shape_of is) ∙ shaped in
    let shapes : known ≡ t = cc in
    let P : Shape → Type 0 = λ u. Line k u in
    let Q : ℕ → Type 0 = λ j. Line j t in
    subst Q (sym is) (subst P shapes line)

-- the first test holds, or the rest decides
tests : {P : Type 0} (b : Bool) (x y : Option Shape) (t : Shape) → cond b x y ≡ Some t → (b ≡ true → P) → (y ≡ Some t → P) → P
tests true x y t is here there = here refl
tests false x y t is here there = there is

either : {P : Type 0} (a b : Bool) → (a || b) ≡ true → (a ≡ true → P) → (b ≡ true → P) → P
either true b is here there = here refl
either false b is here there = there is

-- so many places behind the first
record Behind (low count op : ℕ) : Type 0 where
  k : ℕ
  few : k ≤ count
  is : op ≡ low + k

behind : (low high op : ℕ) → is_within low high op ≡ true → Behind low (high - low) op
behind low high op is =
    let tested = and_parts (nat_le low op) (nat_le op high) is in
    let l = leb-true low op tested.0 in
    let h = leb-true op high tested.1 in
    record { k = op - low; few = omega (arith, l, h); is = omega (arith, l) }

a_const : (op k : ℕ) (t : Shape) → k ≤ 6 → op ≡ 2 + k → shape_of op ≡ Some t → Line op t
a_const op zero t few is shaped = one_of op 2 t _ is shaped refl line_2
a_const op (suc zero) t few is shaped = one_of op 3 t _ is shaped refl line_3
a_const op (suc (suc zero)) t few is shaped = one_of op 4 t _ is shaped refl line_4
a_const op (suc (suc (suc zero))) t few is shaped = one_of op 5 t _ is shaped refl line_5
a_const op (suc (suc (suc (suc zero)))) t few is shaped = one_of op 6 t _ is shaped refl line_6
a_const op (suc (suc (suc (suc (suc zero))))) t few is shaped = one_of op 7 t _ is shaped refl line_7
a_const op (suc (suc (suc (suc (suc (suc zero)))))) t few is shaped = one_of op 8 t _ is shaped refl line_8
a_const op (suc (suc (suc (suc (suc (suc (suc k))))))) t few is shaped = absurd (omega (arith, few))

a_load : (op k : ℕ) (t : Shape) → k ≤ 3 → op ≡ 26 + k → shape_of op ≡ Some t → Line op t
a_load op zero t few is shaped = one_of op 26 t _ is shaped refl line_26
a_load op (suc zero) t few is shaped = one_of op 27 t _ is shaped refl line_27
a_load op (suc (suc zero)) t few is shaped = one_of op 28 t _ is shaped refl line_28
a_load op (suc (suc (suc zero))) t few is shaped = one_of op 29 t _ is shaped refl line_29
a_load op (suc (suc (suc (suc k)))) t few is shaped = absurd (omega (arith, few))

a_store : (op k : ℕ) (t : Shape) → k ≤ 3 → op ≡ 59 + k → shape_of op ≡ Some t → Line op t
a_store op zero t few is shaped = one_of op 59 t _ is shaped refl line_59
a_store op (suc zero) t few is shaped = one_of op 60 t _ is shaped refl line_60
a_store op (suc (suc zero)) t few is shaped = one_of op 61 t _ is shaped refl line_61
a_store op (suc (suc (suc zero))) t few is shaped = one_of op 62 t _ is shaped refl line_62
a_store op (suc (suc (suc (suc k)))) t few is shaped = absurd (omega (arith, few))

two_operands : (op : ℕ) (t : Shape) → shape_of op ≡ Some t → (op == 96 || op == 100 || op == 126 || op == 128 || op == 130) ≡ true → Line op t
two_operands op t shaped is =
    either (op == 96 || op == 100 || op == 126 || op == 128) (op == 130) is
    (λ is1. either (op == 96 || op == 100 || op == 126) (op == 128) is1
    (λ is2. either (op == 96 || op == 100) (op == 126) is2
    (λ is3. either (op == 96) (op == 100) is3 (λ e. one_of op 96 t _ (eqb-true op 96 e) shaped refl line_96) (λ e. one_of op 100 t _ (eqb-true op 100 e) shaped refl line_100))
    (λ e. one_of op 126 t _ (eqb-true op 126 e) shaped refl line_126))
    (λ e. one_of op 128 t _ (eqb-true op 128 e) shaped refl line_128))
    (λ e. one_of op 130 t _ (eqb-true op 130 e) shaped refl line_130)

pub found : (op : ℕ) (t : Shape) → shape_of op ≡ Some t → Line op t
found op t shaped =
    tests (op == 0) _ _ t shaped (λ e. one_of op 0 t _ (eqb-true op 0 e) shaped refl line_0)
    (λ is1. tests (is_within 2 8 op) _ _ t is1 (λ e. let b = behind 2 8 op e in a_const op b.k t b.few b.is shaped)
    (λ is2. tests (op == 16) _ _ t is2 (λ e. one_of op 16 t _ (eqb-true op 16 e) shaped refl line_16)
    (λ is3. tests (is_within 26 29 op) _ _ t is3 (λ e. let b = behind 26 29 op e in a_load op b.k t b.few b.is shaped)
    (λ is4. tests (is_within 59 62 op) _ _ t is4 (λ e. let b = behind 59 62 op e in a_store op b.k t b.few b.is shaped)
    (λ is5. tests (op == 87) _ _ t is5 (λ e. one_of op 87 t _ (eqb-true op 87 e) shaped refl line_87)
    (λ is6. tests (op == 89) _ _ t is6 (λ e. one_of op 89 t _ (eqb-true op 89 e) shaped refl line_89)
    (λ is7. tests (op == 96 || op == 100 || op == 126 || op == 128 || op == 130) _ _ t is7 (λ e. two_operands op t shaped e)
    (λ is8. tests (op == 255) _ _ t is8 (λ e. one_of op 255 t _ (eqb-true op 255 e) shaped refl line_255)
    (λ is9. let none : None ≡ Some t = is9 in absurd (cc))))))))))
