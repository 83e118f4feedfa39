-- What a call by a receiver takes of the operands, and how it goes on.
use Rattle.std.proofs.Common.{◌≡◌, ◌⊎◌, inl, inr, ℕ, ◌+◌, ◌≤◌, Bool, true, false, List, [], ◌∷◌, ◌++◌, Option, Some, pos, reverse, if◌then◌else◌, refl, sym, ap, ◌∙◌, arith, append-nil}
use Rattle.std.specs.Prelude.{slice_get}
use Rattle.std.specs.List.{sum_by}
use Rattle.std.proofs.lemmas.Option.{none-some}
use Rattle.std.proofs.lemmas.List.Sums.{sum_by-cons, sum_by-append}
use Rattle.machine_stands.proofs.Defined.{on_defined, only_if_defined}
use Rattle.lists.proofs.Lemmas.{some_same}
use mathlib.Core.List.{reverse_aux, reverse_aux-eq}
use Rattle.opcodes.specs.Bytes.{u2}
use Rattle.opcodes.specs.Form.{Operands, UnsignedShort, UnsignedByte, one}
use Rattle.opcodes.specs.Instruction.{operands_width}
use Rattle.opcodes.specs.Row as opcodes
use Rattle.opcodes.specs.Reading.{plain_instr}
use Rattle.bytecode_model.specs.declared.Value.{Value}
use Rattle.bytecode_model.specs.declared.Value.TheVariants.{Int, Long, Ref, Null, Unset}
use Rattle.bytecode_model.specs.Types.{IntType, LongType, OfClass, Declared, Numeric, Reference, suits}
use Rattle.bytecode_model.specs.Rows.{Row, CallSpecial, CallVirtual, CallInterface}
use Rattle.bytecode_model.specs.State.{Object, Frame, State}
use Rattle.bytecode_model.specs.Program.{Program, Limits, Method, Operand, NoOperand, AnInt, ALong, AString, AStatic, AField, AMethod, AType, kind_of}
use Rattle.bytecode_model.specs.Sizes.{value_words}
use Rattle.bytecode_model.specs.Table.{row_of, by_method}
use Rattle.bytecode_model.specs.Effects.{Effect, Call, IncompatibleClassChangeError, fault, on, only_if, on_values, on_object, on_receiver, has_class, selected, effect}
use Rattle.bytecode_model.specs.Steps.{applied}
use Rattle.image_facts.specs.Words.{declared_words}
use Rattle.image_facts.specs.Says.{argument_words_of}
use Rattle.call_steps.specs.Tables.{TableCall, Invokevirtual, Invokespecial, Invokeinterface, table_code}
use Rattle.machine_stands.specs.Reading.{operands_of}

-- ---- the instruction

abbrev pub form : TableCall → Operands
form Invokevirtual = one UnsignedShort
form Invokespecial = one UnsignedShort
form Invokeinterface = record { first = UnsignedShort; second = UnsignedByte; unused = 1 }

pub form_read : (op : TableCall) → operands_of (opcodes.row_of (table_code op)).form ≡ Some (form op)
unfolding opcodes.row_of
form_read Invokevirtual = refl
form_read Invokespecial = refl
form_read Invokeinterface = refl

pub long_enough : (op : TableCall) → 3 ≤ 1 + operands_width (form op)
long_enough Invokevirtual = omega arith
long_enough Invokespecial = omega arith
long_enough Invokeinterface = omega arith

pub first_is : (op : TableCall) (code : List ℕ) (pc : ℕ) → (plain_instr (table_code op) code pc (form op)).first ≡ pos (u2 code (pc + 1))
first_is Invokevirtual code pc = refl
first_is Invokespecial code pc = refl
first_is Invokeinterface code pc = refl

-- ---- its row

abbrev pub call_row : TableCall → (named method : ℕ) → Row
call_row Invokevirtual named t = CallVirtual named t
call_row Invokespecial named t = CallSpecial named t
call_row Invokeinterface named t = CallInterface named t

row_by_method : (op : TableCall) (code : List ℕ) (pc : ℕ) (o : Operand) → row_of code (plain_instr (table_code op) code pc (form op)) o ≡ by_method (call_row op) code (plain_instr (table_code op) code pc (form op)) o
unfolding row_of
row_by_method Invokevirtual code pc o = refl
row_by_method Invokespecial code pc o = refl
row_by_method Invokeinterface code pc o = refl

method_named : (rows : ℕ → ℕ → Row) (o : Operand) (r : Row) → by_method rows [] (plain_instr 182 [] 0 (one UnsignedShort)) o ≡ Some r → (named : ℕ) × (t : ℕ) × (o ≡ AMethod named t) × (r ≡ rows named t)
method_named rows NoOperand r h = absurd (none-some r h)
method_named rows (AnInt n) r h = absurd (none-some r h)
method_named rows (ALong n) r h = absurd (none-some r h)
method_named rows (AString p) r h = absurd (none-some r h)
method_named rows (AStatic f) r h = absurd (none-some r h)
method_named rows (AField named owner k) r h = absurd (none-some r h)
method_named rows (AType k) r h = absurd (none-some r h)
method_named rows (AMethod named t) r h = (named, t, refl, sym (some_same (rows named t) r h))

same_named : (rows : ℕ → ℕ → Row) (op : TableCall) (code : List ℕ) (pc : ℕ) (o : Operand) → by_method rows code (plain_instr (table_code op) code pc (form op)) o ≡ by_method rows [] (plain_instr 182 [] 0 (one UnsignedShort)) o
same_named rows op code pc NoOperand = refl
same_named rows op code pc (AnInt n) = refl
same_named rows op code pc (ALong n) = refl
same_named rows op code pc (AString p) = refl
same_named rows op code pc (AStatic f) = refl
same_named rows op code pc (AField named owner k) = refl
same_named rows op code pc (AMethod named t) = refl
same_named rows op code pc (AType k) = refl

-- it names a method
pub names_method : (op : TableCall) (code : List ℕ) (pc : ℕ) (o : Operand) (r : Row) → row_of code (plain_instr (table_code op) code pc (form op)) o ≡ Some r
    → (named : ℕ) × (t : ℕ) × (o ≡ AMethod named t) × (r ≡ call_row op named t)
names_method op code pc o r h = method_named (call_row op) o r (sym (same_named (call_row op) op code pc o) ∙ sym (row_by_method op code pc o) ∙ h)

pub a_method_is_named : (named t : ℕ) (o : Operand) → o ≡ AMethod named t → o ≡ NoOperand → ⊥
a_method_is_named named t o e h = let clash : NoOperand ≡ AMethod named t = sym h ∙ e in cc

-- ---- its effect

-- how the call of method k, named through a class, goes on with the receiver o
abbrev pub choose : Program → TableCall → (named t : ℕ) → Method → Object → (arguments rest : List Value) → Effect
choose P Invokevirtual named t k o args rest = only_if (has_class P (kind_of P o) named) (on (selected P (kind_of P o) t) (λ u. Call u args rest))
choose P Invokespecial named t k o args rest = Call t args rest
choose P Invokeinterface named t k o args rest =
    if has_class P (kind_of P o) k.owner then on (selected P (kind_of P o) t) (λ u. Call u args rest) else fault IncompatibleClassChangeError

pub effect_is : (P : Program) (limits : Limits) (s : State) (f : Frame) (next : ℕ) (op : TableCall) (named t : ℕ) → effect P limits s f next (call_row op named t) ≡ on_receiver P s f t (choose P op named t)
effect_is P limits s f next Invokevirtual named t = refl
effect_is P limits s f next Invokespecial named t = refl
effect_is P limits s f next Invokeinterface named t = refl

-- ---- what it takes

suits_words : (d : Declared) (v : Value) → suits d v ≡ true → value_words v ≡ declared_words d
suits_words (Numeric IntType) (Int n) h = refl
suits_words (Numeric IntType) (Long n) h = absurd (cc)
suits_words (Numeric IntType) (Ref p) h = absurd (cc)
suits_words (Numeric IntType) Null h = absurd (cc)
suits_words (Numeric IntType) Unset h = absurd (cc)
suits_words (Numeric LongType) (Int n) h = absurd (cc)
suits_words (Numeric LongType) (Long n) h = refl
suits_words (Numeric LongType) (Ref p) h = absurd (cc)
suits_words (Numeric LongType) Null h = absurd (cc)
suits_words (Numeric LongType) Unset h = absurd (cc)
suits_words (Reference k) (Int n) h = absurd (cc)
suits_words (Reference k) (Long n) h = absurd (cc)
suits_words (Reference k) (Ref p) h = refl
suits_words (Reference k) Null h = refl
suits_words (Reference k) Unset h = absurd (cc)

-- the topmost operands are taken, of the words of their types, and come out in the opposite order
record Taken (P : Program) (limits : Limits) (answer : Option ℕ) (s : State) (f : Frame) (callers : List Frame) (s' : State) (ds : List Declared) (ops done : List Value) (go : List Value → List Value → Effect) : Type 0 where
  upper : List Value
  rest : List Value
  split : ops ≡ upper ++ rest
  words : sum_by value_words upper ≡ sum_by declared_words ds
  goes : applied P limits answer s f callers (go (reverse_aux upper done) rest) ≡ Some s'

values_taken : (P : Program) (limits : Limits) (answer : Option ℕ) (s : State) (f : Frame) (callers : List Frame) (s' : State) (ds : List Declared) (ops done : List Value) (go : List Value → List Value → Effect)
    → applied P limits answer s f callers (on_values ds ops done go) ≡ Some s' → Taken P limits answer s f callers s' ds ops done go
values_taken P limits answer s f callers s' [] ops done go h = record { upper = []; rest = ops; split = refl; words = refl; goes = h }
values_taken P limits answer s f callers s' (d ∷ ds) [] done go h = absurd (none-some s' h)
values_taken P limits answer s f callers s' (d ∷ ds) (v ∷ ops) done go h =
    let one = only_if_defined P limits answer s f callers s' (suits d v) (on_values ds ops (v ∷ done) go) h in
    let r = values_taken P limits answer s f callers s' ds ops (v ∷ done) go one.1 in
    record {
      upper = v ∷ r.upper;
      rest = r.rest;
      split = ap (λ (vs : List Value). v ∷ vs) r.split;
      words = omega (arith, suits_words d v one.0, r.words, sum_by-cons value_words v r.upper, sum_by-cons declared_words d ds);
      goes = r.goes;
    }

reversed_words : (ds : List Declared) → sum_by declared_words (reverse ds) ≡ sum_by declared_words ds
reversed_words [] = refl
reversed_words (d ∷ ds) =
    omega (arith, ap (sum_by declared_words) (reversed_cons d ds), sum_by-append declared_words (reverse ds) (d ∷ []), sum_by-cons declared_words d [], reversed_words ds, sum_by-cons declared_words d ds)
  where
    reversed_cons : (d : Declared) (ds : List Declared) → reverse (d ∷ ds) ≡ reverse ds ++ d ∷ []
    reversed_cons d ds = reverse_aux-eq ds (d ∷ [])

-- the method, the arguments, and what is in the receiver's place
pub record Received (P : Program) (limits : Limits) (answer : Option ℕ) (s : State) (f : Frame) (callers : List Frame) (s' : State) (op : TableCall) (named t : ℕ) : Type 0 where
  pub method : Method
  pub is_method : slice_get P.methods t ≡ Some method
  pub has_this : method.has_this ≡ true
  pub upper : List Value
  pub rest : List Value
  pub operands : f.operands ≡ upper ++ rest
  pub words : sum_by value_words upper ≡ sum_by declared_words method.parameters
  pub goes : applied P limits answer s f callers (on_object s.objects rest (λ p o rest2. choose P op named t method o (Ref p ∷ reverse upper) rest2)) ≡ Some s'

pub received : (P : Program) (limits : Limits) (answer : Option ℕ) (s : State) (f : Frame) (callers : List Frame) (s' : State) (op : TableCall) (named t next : ℕ)
    → applied P limits answer s f callers (effect P limits s f next (call_row op named t)) ≡ Some s' → Received P limits answer s f callers s' op named t
received P limits answer s f callers s' op named t next h =
    let go = choose P op named t in
    let g = sym (ap (applied P limits answer s f callers) (effect_is P limits s f next op named t)) ∙ h in
    let of : Method → List Value → List Value → Effect = λ k args rest. on_object s.objects rest (λ p o rest2. go k o (Ref p ∷ args) rest2) in
    let k = on_defined P limits answer s f callers s' (slice_get P.methods t) (λ k. only_if k.has_this (on_values (reverse k.parameters) f.operands [] (of k))) g in
    let this = only_if_defined P limits answer s f callers s' k.0.has_this (on_values (reverse k.0.parameters) f.operands [] (of k.0)) k.2 in
    let taken = values_taken P limits answer s f callers s' (reverse k.0.parameters) f.operands [] (of k.0) this.1 in
    let turned : reverse_aux taken.upper [] ≡ reverse taken.upper = reverse_aux-eq taken.upper [] ∙ append-nil (reverse taken.upper) in
    record {
      method = k.0;
      is_method = k.1;
      has_this = this.0;
      upper = taken.upper;
      rest = taken.rest;
      operands = taken.split;
      words = taken.words ∙ reversed_words k.0.parameters;
      goes = ap (λ (vs : List Value). applied P limits answer s f callers (of k.0 vs taken.rest)) (sym turned) ∙ taken.goes;
    }

-- its arguments are these and the receiver
pub arguments_are : (k : Method) → k.has_this ≡ true → argument_words_of k ≡ 1 + sum_by declared_words k.parameters
arguments_are k h = ap (λ (b : Bool). sum_by declared_words (if b then Reference (OfClass k.owner) ∷ k.parameters else k.parameters)) h ∙ sum_by-cons declared_words (Reference (OfClass k.owner)) k.parameters

-- ---- the method that is chosen

-- u is the method named, or what is selected for the receiver
abbrev pub IsChosen : Program → TableCall → (named t : ℕ) → Method → Object → (u : ℕ) → Type 0
IsChosen P Invokevirtual named t k o u = (has_class P (kind_of P o) named ≡ true) × (selected P (kind_of P o) t ≡ Some u)
IsChosen P Invokespecial named t k o u = u ≡ t
IsChosen P Invokeinterface named t k o u = (has_class P (kind_of P o) k.owner ≡ true) × (selected P (kind_of P o) t ≡ Some u)

pub record Chosen (P : Program) (limits : Limits) (answer : Option ℕ) (s : State) (f : Frame) (callers : List Frame) (s' : State) (op : TableCall) (named t : ℕ) (k : Method) (o : Object) (args rest : List Value) : Type 0 where
  pub u : ℕ
  pub is : IsChosen P op named t k o u
  pub goes : applied P limits answer s f callers (Call u args rest) ≡ Some s'

-- an interface that the receiver's class doesn't implement
pub record Changed (P : Program) (limits : Limits) (answer : Option ℕ) (s : State) (f : Frame) (callers : List Frame) (s' : State) (op : TableCall) (k : Method) (o : Object) : Type 0 where
  pub interface : op ≡ Invokeinterface
  pub none : has_class P (kind_of P o) k.owner ≡ false
  pub goes : applied P limits answer s f callers (fault IncompatibleClassChangeError) ≡ Some s'

pub chosen : (P : Program) (limits : Limits) (answer : Option ℕ) (s : State) (f : Frame) (callers : List Frame) (s' : State) (op : TableCall) (named t : ℕ) (k : Method) (o : Object) (args rest : List Value)
    → applied P limits answer s f callers (choose P op named t k o args rest) ≡ Some s' → Chosen P limits answer s f callers s' op named t k o args rest ⊎ Changed P limits answer s f callers s' op k o
chosen P limits answer s f callers s' Invokespecial named t k o args rest h = inl (record { u = t; is = refl; goes = h })
chosen P limits answer s f callers s' Invokevirtual named t k o args rest h =
    let class = only_if_defined P limits answer s f callers s' (has_class P (kind_of P o) named) (on (selected P (kind_of P o) t) (λ u. Call u args rest)) h in
    let u = on_defined P limits answer s f callers s' (selected P (kind_of P o) t) (λ u. Call u args rest) class.1 in
    inl (record { u = u.0; is = (class.0, u.1); goes = u.2 })
chosen P limits answer s f callers s' Invokeinterface named t k o args rest h = by (has_class P (kind_of P o) k.owner) refl h
  where
    by : (b : Bool) → has_class P (kind_of P o) k.owner ≡ b
        → applied P limits answer s f callers (if b then on (selected P (kind_of P o) t) (λ u. Call u args rest) else fault IncompatibleClassChangeError) ≡ Some s'
        → Chosen P limits answer s f callers s' Invokeinterface named t k o args rest ⊎ Changed P limits answer s f callers s' Invokeinterface k o
    by true e g = let u = on_defined P limits answer s f callers s' (selected P (kind_of P o) t) (λ u. Call u args rest) g in inl (record { u = u.0; is = (e, u.1); goes = u.2 })
    by false e g = inr (record { interface = refl; none = e; goes = g })
