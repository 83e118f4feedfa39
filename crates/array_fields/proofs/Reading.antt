-- What instructions read and write, by their opcodes.
use Rattle.std.proofs.Common.{◌≡◌, ◌≢◌, ℕ, ◌+◌, Bool, List, Option, Some, None, refl, sym, ap, ◌∙◌, subst, inl, inr}
use Rattle.std.specs.Prelude.{if◌then◌else◌}
use Rattle.std.specs.Option.{IsSomeAnd}
use Rattle.std.proofs.lemmas.Bool.{cases_eq, ne_eqb}
use Rattle.lists.specs.Lists.{onto}
use Rattle.lists.proofs.Lemmas.{holds_at, onto_some}
use Rattle.opcodes.specs.declared.instruction.Instr.{Instr}
use Rattle.opcodes.specs.Bytes.{u1}
use Rattle.opcodes.specs.Instruction.{decoded}
use Rattle.bytecode_model.specs.Steps.{row_in}
use Rattle.bytecode_model.specs.Program.{Program, Body, body_of, as_instr, instr_at, Operand, NoOperand, AnInt, ALong, AString, AStatic, AField, AMethod, AType}
use Rattle.bytecode_model.specs.Rows as rows
use Rattle.bytecode_model.specs.Rows.{Row}
use Rattle.bytecode_model.specs.Table.{row_of}
use Rattle.array_fields.specs.declared.rows.Field.TheVariants.{Static, Instance}
use Rattle.array_fields.specs.Rows.{read_by, put_by, read_as, put_as, read_at, put_at}
use Rattle.array_fields.proofs.Opcodes.{not_get_static, not_put_static, not_get_field, not_put_field}
use Rattle.array_fields.proofs.Telling.{ComesOf, comes_of}

-- ---- by opcode

abbrev IsRead : List ℕ → Instr → Operand → ℕ → Type 0
IsRead code i o op = onto (row_of code (record i { op = op }) o) read_by ≡ read_as op o

abbrev IsWritten : List ℕ → Instr → Operand → ℕ → Type 0
IsWritten code i o op = onto (row_of code (record i { op = op }) o) put_by ≡ put_as op o

get_static : (code : List ℕ) (i : Instr) (o : Operand) → IsRead code i o 178
unfolding row_of
get_static code i NoOperand = refl
get_static code i (AnInt n) = refl
get_static code i (ALong n) = refl
get_static code i (AString p) = refl
get_static code i (AStatic f) = refl
get_static code i (AField c d k) = refl
get_static code i (AMethod c m) = refl
get_static code i (AType k) = refl

get_field : (code : List ℕ) (i : Instr) (o : Operand) → IsRead code i o 180
unfolding row_of
get_field code i NoOperand = refl
get_field code i (AnInt n) = refl
get_field code i (ALong n) = refl
get_field code i (AString p) = refl
get_field code i (AStatic f) = refl
get_field code i (AField c d k) = refl
get_field code i (AMethod c m) = refl
get_field code i (AType k) = refl

put_static : (code : List ℕ) (i : Instr) (o : Operand) → IsWritten code i o 179
unfolding row_of
put_static code i NoOperand = refl
put_static code i (AnInt n) = refl
put_static code i (ALong n) = refl
put_static code i (AString p) = refl
put_static code i (AStatic f) = refl
put_static code i (AField c d k) = refl
put_static code i (AMethod c m) = refl
put_static code i (AType k) = refl

put_field : (code : List ℕ) (i : Instr) (o : Operand) → IsWritten code i o 181
unfolding row_of
put_field code i NoOperand = refl
put_field code i (AnInt n) = refl
put_field code i (ALong n) = refl
put_field code i (AString p) = refl
put_field code i (AStatic f) = refl
put_field code i (AField c d k) = refl
put_field code i (AMethod c m) = refl
put_field code i (AType k) = refl

-- ---- other opcodes

no_read : (op : ℕ) (r : Row) → ComesOf op r → op ≢ 178 → op ≢ 180 → read_by r ≡ None
no_read op (rows.GetStatic f) is a b = absurd (a is)
no_read op (rows.GetField c d k) is a b = absurd (b is)
no_read op r is a b = refl

no_put : (op : ℕ) (r : Row) → ComesOf op r → op ≢ 179 → op ≢ 181 → put_by r ≡ None
no_put op (rows.PutStatic f) is a b = absurd (a is)
no_put op (rows.PutField c d k) is a b = absurd (b is)
no_put op r is a b = refl

none_read_as : (op : ℕ) (o : Operand) → op ≢ 178 → op ≢ 180 → read_as op o ≡ None
none_read_as op (AStatic f) a b = ap (λ (t : Bool). if t then Some (Static f) else None) (ne_eqb op 178 a)
none_read_as op (AField c d k) a b = ap (λ (t : Bool). if t then Some (Instance d k) else None) (ne_eqb op 180 b)
none_read_as op o a b = refl

none_put_as : (op : ℕ) (o : Operand) → op ≢ 179 → op ≢ 181 → put_as op o ≡ None
none_put_as op (AStatic f) a b = ap (λ (t : Bool). if t then Some (Static f) else None) (ne_eqb op 179 a)
none_put_as op (AField c d k) a b = ap (λ (t : Bool). if t then Some (Instance d k) else None) (ne_eqb op 181 b)
none_put_as op o a b = refl

-- where no row does, none is
none_by : {A : Type 0} (o : Option Row) (f : Row → Option A) → ((r : Row) → o ≡ Some r → f r ≡ None) → onto o f ≡ None
none_by None f h = refl
none_by (Some r) f h = h r refl

read_is : (code : List ℕ) (i : Instr) (o : Operand) → onto (row_of code i o) read_by ≡ read_as i.op o
read_is code i o =
    elim (cases_eq i.op 178) [
      | inl is ↦ subst (IsRead code i o) (sym is) (get_static code i o)
      | inr a ↦
          elim (cases_eq i.op 180) [
            | inl is ↦ subst (IsRead code i o) (sym is) (get_field code i o)
            | inr b ↦ none_by (row_of code i o) read_by (λ r is. no_read i.op r (comes_of code i o r is) a b) ∙ sym (none_read_as i.op o a b)
          ]
    ]

put_is : (code : List ℕ) (i : Instr) (o : Operand) → onto (row_of code i o) put_by ≡ put_as i.op o
put_is code i o =
    elim (cases_eq i.op 179) [
      | inl is ↦ subst (IsWritten code i o) (sym is) (put_static code i o)
      | inr a ↦
          elim (cases_eq i.op 181) [
            | inl is ↦ subst (IsWritten code i o) (sym is) (put_field code i o)
            | inr b ↦ none_by (row_of code i o) put_by (λ r is. no_put i.op r (comes_of code i o r is) a b) ∙ sym (none_put_as i.op o a b)
          ]
    ]

-- ---- the instruction at a place

abbrev placed : ℕ → Row → Option (ℕ × Row)
placed n r = Some (n, r)

abbrev no_instr : Option Instr
no_instr = None

through : {A : Type 0} (f : Row → Option A) (o : Option Row) (n : ℕ) → onto (onto o (placed n)) (λ x. f x.1) ≡ onto o f
through f None n = refl
through f (Some r) n = refl

module _ (P : Program) (m p : ℕ) where
  none_at : {A : Type 0} (f : Row → Option A) → instr_at P m p ≡ None → onto (row_in P m p) (λ x. f x.1) ≡ None
  none_at f none =
      ap (λ (o : Option Instr). onto (onto (body_of P m) (λ b. onto o (λ i. onto (row_of b.code i (P.operand m p)) (placed (p + i.length))))) (λ x. f x.1)) none
      ∙ past (body_of P m)
    where
      past : (o : Option Body) → onto (onto o (λ b. onto no_instr (λ i. onto (row_of b.code i (P.operand m p)) (placed (p + i.length))))) (λ x. f x.1) ≡ None
      past None = refl
      past (Some b) = refl

  one_at : {A : Type 0} (f : Row → Option A) (i : Instr) (y : Option A) → Some i ≡ instr_at P m p → ((code : List ℕ) → onto (row_of code i (P.operand m p)) f ≡ y) → onto (row_in P m p) (λ x. f x.1) ≡ y
  one_at f i y is tells =
      let b = onto_some (body_of P m) (λ (x : Body). as_instr (decoded x.code p)) i (sym is) in
      ap (λ (o : Option Instr). onto (onto (body_of P m) (λ b. onto o (λ i. onto (row_of b.code i (P.operand m p)) (placed (p + i.length))))) (λ x. f x.1)) (sym is)
      ∙ ap (λ (o : Option Body). onto (onto o (λ b. onto (row_of b.code i (P.operand m p)) (placed (p + i.length)))) (λ x. f x.1)) b.1
      ∙ through f (row_of b.0.code i (P.operand m p)) (p + i.length)
      ∙ tells b.0.code

  -- where the byte at the place says so, no instruction is one that reads or writes a field
  none_unless : {A : Type 0} (f : Row → Option A) → ((i : Instr) → instr_at P m p ≡ Some i → (code : List ℕ) → onto (row_of code i (P.operand m p)) f ≡ None) → onto (row_in P m p) (λ x. f x.1) ≡ None
  none_unless {A} f none = by_instr (instr_at P m p) refl
    where
      by_instr : (o : Option Instr) → instr_at P m p ≡ o → onto (row_in P m p) (λ x. f x.1) ≡ None
      by_instr None e = none_at f e
      by_instr (Some i) e = one_at f i None (sym e) (none i e)

  module _ (code : List ℕ) (body : IsSomeAnd (body_of P m) (λ b. b.code ≡ code)) where
    of_code : (i : Instr) → instr_at P m p ≡ Some i → as_instr (decoded code p) ≡ Some i
    of_code i is =
        let b = onto_some (body_of P m) (λ (x : Body). as_instr (decoded x.code p)) i is in
        subst (λ (k : List ℕ). as_instr (decoded k p) ≡ Some i) (holds_at (body_of P m) b.0 (λ (x : Body). x.code ≡ code) b.1 body) b.2

    pub none_read : u1 code p ≢ 178 → u1 code p ≢ 180 → None ≡ read_at P m p
    none_read a b =
        sym (none_unless read_by (λ i is k. read_is k i (P.operand m p) ∙ none_read_as i.op (P.operand m p) (not_get_static code p i (of_code i is) a) (not_get_field code p i (of_code i is) b)))

    pub none_put : u1 code p ≢ 179 → u1 code p ≢ 181 → None ≡ put_at P m p
    none_put a b =
        sym (none_unless put_by (λ i is k. put_is k i (P.operand m p) ∙ none_put_as i.op (P.operand m p) (not_put_static code p i (of_code i is) a) (not_put_field code p i (of_code i is) b)))

  pub reads_at : (i : Instr) (o : Operand) → Some i ≡ instr_at P m p → o ≡ P.operand m p → read_as i.op o ≡ read_at P m p
  reads_at i o is operand = sym (one_at read_by i (read_as i.op o) is (λ code. read_is code i (P.operand m p) ∙ ap (read_as i.op) (sym operand)))

  pub puts_at : (i : Instr) (o : Operand) → Some i ≡ instr_at P m p → o ≡ P.operand m p → put_as i.op o ≡ put_at P m p
  puts_at i o is operand = sym (one_at put_by i (put_as i.op o) is (λ code. put_is code i (P.operand m p) ∙ ap (put_as i.op) (sym operand)))
