-- What an instruction invokes, by its opcode and what its pool entry means.
use Rattle.std.proofs.Common.{◌≤◌, ◌≡◌, ℕ, ◌+◌, Bool, true, false, ◌||◌, eqb, List, Option, Some, None, refl, sym, ap, ◌∙◌, subst, inl, inr, arith}
use Rattle.std.specs.Prelude.{if◌then◌else◌}
use Rattle.std.proofs.lemmas.Bool.{cases_eq, ne_eqb, false≢true}
use Rattle.opcodes.specs.declared.instruction.Instr.{Instr}
use Rattle.opcodes.specs.Instruction.{decoded}
use Rattle.opcodes.specs.Bytes.{u1}
use Rattle.lists.specs.Lists.{onto}
use Rattle.lists.proofs.Lemmas.{none≢some, onto_some}
use Rattle.bytecode_model.specs.Program.{Program, Body, Operand, NoOperand, AnInt, ALong, AString, AStatic, AField, AMethod, AType, as_instr, body_of, instr_at}
use Rattle.bytecode_model.specs.Rows as rows
use Rattle.bytecode_model.specs.Rows.{Row}
use Rattle.bytecode_model.specs.Table.{row_of}
use Rattle.bytecode_model.specs.Steps.{row_in}
use Rattle.bytecode_model.specs.WellFormed.{is_call}
use Rattle.method_flow.specs.Kinds.{CallsAreInvokes}
use Rattle.flow_table.specs.declared.invokes.Invoked.{Invoked}
use Rattle.flow_table.specs.declared.invokes.Invoked.TheVariants.{Fixed, Resolved}
use Rattle.flow_table.specs.Invokes.{invoked_by, invoked_at, invoked_as}

-- ---- by the opcode

abbrev IsInvokedAs : (code : List ℕ) → Instr → Operand → ℕ → Type 0
IsInvokedAs code i o n = onto (row_of code (record i { op = n }) o) invoked_by ≡ invoked_as n o

virtual : (code : List ℕ) (i : Instr) (o : Operand) → IsInvokedAs code i o 182
unfolding row_of
virtual code i NoOperand = refl
virtual code i (AnInt n) = refl
virtual code i (ALong n) = refl
virtual code i (AString n) = refl
virtual code i (AStatic n) = refl
virtual code i (AField n a b) = refl
virtual code i (AMethod n m) = refl
virtual code i (AType k) = refl

special : (code : List ℕ) (i : Instr) (o : Operand) → IsInvokedAs code i o 183
unfolding row_of
special code i NoOperand = refl
special code i (AnInt n) = refl
special code i (ALong n) = refl
special code i (AString n) = refl
special code i (AStatic n) = refl
special code i (AField n a b) = refl
special code i (AMethod n m) = refl
special code i (AType k) = refl

static : (code : List ℕ) (i : Instr) (o : Operand) → IsInvokedAs code i o 184
unfolding row_of
static code i NoOperand = refl
static code i (AnInt n) = refl
static code i (ALong n) = refl
static code i (AString n) = refl
static code i (AStatic n) = refl
static code i (AField n a b) = refl
static code i (AMethod n m) = refl
static code i (AType k) = refl

interface : (code : List ℕ) (i : Instr) (o : Operand) → IsInvokedAs code i o 185
unfolding row_of
interface code i NoOperand = refl
interface code i (AnInt n) = refl
interface code i (ALong n) = refl
interface code i (AString n) = refl
interface code i (AStatic n) = refl
interface code i (AField n a b) = refl
interface code i (AMethod n m) = refl
interface code i (AType k) = refl

-- the opcode is none of the four
record IsOther (op : ℕ) : Type 0 where
  virtual : op ≡ 182 → ⊥
  special : op ≡ 183 → ⊥
  static : op ≡ 184 → ⊥
  interface : op ≡ 185 → ⊥

other_as : (op : ℕ) (o : Operand) → IsOther op → invoked_as op o ≡ None
other_as op NoOperand h = refl
other_as op (AnInt n) h = refl
other_as op (ALong n) h = refl
other_as op (AString n) h = refl
other_as op (AStatic n) h = refl
other_as op (AField n a b) h = refl
other_as op (AType k) h = refl
other_as op (AMethod n m) h =
    ap (λ (t : Bool). if t || eqb op 185 then Some (Resolved m) else if eqb op 183 || eqb op 184 then Some (Fixed m) else None) (ne_eqb op 182 h.virtual)
    ∙ (ap (λ (t : Bool). if t then Some (Resolved m) else if eqb op 183 || eqb op 184 then Some (Fixed m) else None) (ne_eqb op 185 h.interface)
    ∙ (ap (λ (t : Bool). if t || eqb op 184 then Some (Fixed m) else None) (ne_eqb op 183 h.special) ∙ ap (λ (t : Bool). if t then Some (Fixed m) else None) (ne_eqb op 184 h.static)))

not_call : (r : Row) → is_call r ≡ false → invoked_by r ≡ None
not_call (rows.CallStatic m) h = absurd (false≢true (sym h))
not_call (rows.CallSpecial named m) h = absurd (false≢true (sym h))
not_call (rows.CallVirtual named m) h = absurd (false≢true (sym h))
not_call (rows.CallInterface named m) h = absurd (false≢true (sym h))
not_call r h = refl

invoked_call : (r : Row) (i : Invoked) → invoked_by r ≡ Some i → is_call r ≡ true
invoked_call (rows.CallStatic m) i h = refl
invoked_call (rows.CallSpecial named m) i h = refl
invoked_call (rows.CallVirtual named m) i h = refl
invoked_call (rows.CallInterface named m) i h = refl
invoked_call r i h = absurd (none≢some i h)

-- ---- at a place of a method

abbrev with_place : ℕ → Row → Option (ℕ × Row)
with_place n r = Some (n, r)

abbrev of_pair : ℕ × Row → Option Invoked
of_pair x = invoked_by x.1

module _ (law : CallsAreInvokes) (P : Program) (m p : ℕ) where
  abbrev operand : Operand
  operand = P.operand m p

  row_here : (b : Body) (i : Instr) (r : Row) → body_of P m ≡ Some b → instr_at P m p ≡ Some i → row_of b.code i operand ≡ Some r → row_in P m p ≡ Some (p + i.length, r)
  row_here b i r eb ei er =
      ap (λ o. onto o (λ b. onto (instr_at P m p) (λ i. onto (row_of b.code i operand) (with_place (p + i.length))))) eb
      ∙ (ap (λ o. onto o (λ i. onto (row_of b.code i operand) (with_place (p + i.length)))) ei ∙ ap (λ o. onto o (with_place (p + i.length))) er)

  others : (b : Body) (i : Instr) → body_of P m ≡ Some b → instr_at P m p ≡ Some i → IsOther i.op → (s : Option Row) → row_of b.code i operand ≡ s → onto s invoked_by ≡ None
  others b i eb ei other None er = refl
  others b i eb ei other (Some r) er = by (is_call r) refl
    where
      by : (t : Bool) → is_call r ≡ t → invoked_by r ≡ None
      by false e = not_call r e
      by true e =
          let is = law P m p (p + i.length) b i r eb ei (row_here b i r eb ei er) e in
          let from = is.from in
          let to = is.to in
          absurd (
          elim (cases_eq i.op 182) [
            | inl h ↦ other.virtual h
            | inr n2 ↦ elim (cases_eq i.op 183) [
              | inl h ↦ other.special h
              | inr n3 ↦ elim (cases_eq i.op 184) [
                | inl h ↦ other.static h
                | inr n4 ↦ other.interface (omega arith)
              ]
            ]
          ]
          )

  by_opcode : (b : Body) (i : Instr) → body_of P m ≡ Some b → instr_at P m p ≡ Some i → onto (row_of b.code i operand) invoked_by ≡ invoked_as i.op operand
  by_opcode b i eb ei =
      let K : ℕ → Type 0 = λ n. IsInvokedAs b.code i operand n in
      elim (cases_eq i.op 182) [
        | inl h ↦ subst K (sym h) (virtual b.code i operand)
        | inr n2 ↦ elim (cases_eq i.op 183) [
          | inl h ↦ subst K (sym h) (special b.code i operand)
          | inr n3 ↦ elim (cases_eq i.op 184) [
            | inl h ↦ subst K (sym h) (static b.code i operand)
            | inr n4 ↦ elim (cases_eq i.op 185) [
              | inl h ↦ subst K (sym h) (interface b.code i operand)
              | inr n5 ↦
                  let other : IsOther i.op = record { virtual = n2; special = n3; static = n4; interface = n5 } in
                  others b i eb ei other (row_of b.code i operand) refl ∙ sym (other_as i.op operand other)
            ]
          ]
        ]
      ]

  rows_onto : (n : ℕ) (s : Option Row) → onto (onto s (with_place n)) of_pair ≡ onto s invoked_by
  rows_onto n None = refl
  rows_onto n (Some r) = refl

  by_instr : (b : Body) → body_of P m ≡ Some b → (o : Option Instr) → instr_at P m p ≡ o → onto o (λ i. invoked_as i.op operand) ≡ invoked_at P m p
  by_instr b eb None ei =
      sym (ap (λ o. onto (onto o (λ b. onto (instr_at P m p) (λ i. onto (row_of b.code i operand) (with_place (p + i.length))))) of_pair) eb
      ∙ ap (λ o. onto (onto o (λ i. onto (row_of b.code i operand) (with_place (p + i.length)))) of_pair) ei)
  by_instr b eb (Some i) ei =
      sym (ap (λ o. onto (onto o (λ b. onto (instr_at P m p) (λ i. onto (row_of b.code i operand) (with_place (p + i.length))))) of_pair) eb
      ∙ (ap (λ o. onto (onto o (λ i. onto (row_of b.code i operand) (with_place (p + i.length)))) of_pair) ei
      ∙ (rows_onto (p + i.length) (row_of b.code i operand) ∙ by_opcode b i eb ei)))

  by_body : (o : Option Body) → body_of P m ≡ o → onto (instr_at P m p) (λ i. invoked_as i.op operand) ≡ invoked_at P m p
  by_body None eb =
      ap (λ o. onto (onto o (λ b. as_instr (decoded b.code p))) (λ i. invoked_as i.op operand)) eb
      ∙ sym (ap (λ o. onto (onto o (λ b. onto (instr_at P m p) (λ i. onto (row_of b.code i operand) (with_place (p + i.length))))) of_pair) eb)
  by_body (Some b) eb = by_instr b eb (instr_at P m p) refl

  pub invoked_same : onto (instr_at P m p) (λ i. invoked_as i.op operand) ≡ invoked_at P m p
  invoked_same = by_body (body_of P m) refl

  -- where the byte is none of the four opcodes
  pub no_invoke : (b : Body) → body_of P m ≡ Some b → (182 ≤ u1 b.code p → u1 b.code p ≤ 185 → ⊥) → invoked_at P m p ≡ None
  no_invoke b eb outside = by (invoked_at P m p) refl
    where
      by : (o : Option Invoked) → invoked_at P m p ≡ o → o ≡ None
      by None e = refl
      by (Some i) e =
          let x = onto_some (row_in P m p) of_pair i e in
          let body = onto_some (body_of P m) (λ b. onto (instr_at P m p) (λ i. onto (row_of b.code i operand) (with_place (p + i.length)))) x.0 x.1 in
          let instr = onto_some (instr_at P m p) (λ i. onto (row_of body.0.code i operand) (with_place (p + i.length))) x.0 body.2 in
          let is = law P m p x.0.0 b instr.0 x.0.1 eb instr.1 x.1 (invoked_call x.0.1 i x.2) in
          let op = is.opcode in
          let from = is.from in
          let to = is.to in
          absurd (outside (omega arith) (omega arith))
