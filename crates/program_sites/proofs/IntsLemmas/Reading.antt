-- What instructions push, read and write, by their opcodes.
use Rattle.std.proofs.Common.{◌≡◌, ◌≢◌, ℕ, ◌+◌, ◌<◌, ◌≤◌, Bool, List, Option, Some, None, refl, sym, ap, ◌∙◌, subst, inl, inr, arith}
use Rattle.std.specs.Prelude.{ℤ, if◌then◌else◌}
use Rattle.std.specs.Option.{IsSomeAnd}
use Rattle.std.proofs.lemmas.Bool.{cases_eq, cases_lt, ne_eqb}
use Rattle.std.proofs.lemmas.Bool.Decides.{nat_tests}
use Rattle.lists.specs.Lists.{onto}
use Rattle.opcodes.specs.declared.instruction.Instr.{Instr}
use Rattle.bytecode_model.specs.declared.Value.TheVariants.{Int}
use Rattle.lists.proofs.Lemmas.{holds_at, onto_some}
use Rattle.opcodes.specs.Bytes.{u1}
use Rattle.opcodes.specs.Instruction.{decoded}
use Rattle.bytecode_model.specs.Steps.{row_in}
use Rattle.bytecode_model.specs.Program.{Program, Body, body_of, as_instr, instr_at, Operand, NoOperand, AnInt, ALong, AString, AStatic, AField, AMethod, AType}
use Rattle.bytecode_model.specs.Rows as rows
use Rattle.bytecode_model.specs.Rows.{Row}
use Rattle.bytecode_model.specs.Table.{row_of}
use Rattle.program_sites.specs.Ints.Rows.{pushed_by, read_by, put_by, int_named, pushed_as, static_named, read_as, put_as, pushed_at, read_at, put_at}
use Rattle.program_sites.proofs.IntsLemmas.Counting.{AllFrom, each_from, ◌&◌}
use Rattle.program_sites.proofs.IntsLemmas.Opcodes.{not_get, not_put, past_loads}
use Rattle.program_sites.proofs.IntsLemmas.Telling.{ComesOf, comes_of}

-- ---- pushes

abbrev IsPushed : List ℕ → Instr → Operand → ℕ → Type 0
IsPushed code i o op = onto (row_of code (record i { op = op }) o) pushed_by ≡ pushed_as op i.first (int_named o)

low : (code : List ℕ) (i : Instr) (o : Operand) → AllFrom (IsPushed code i o) 0 18
unfolding row_of
low code i o = refl & refl & refl & refl & refl & refl & refl & refl & refl & refl & refl & refl & refl & refl & refl & refl & refl & refl & tt

-- ldc and ldc_w
load : (code : List ℕ) (i : Instr) (o : Operand) → IsPushed code i o 18
unfolding row_of
load code i NoOperand = refl
load code i (AnInt n) = refl
load code i (ALong n) = refl
load code i (AString p) = refl
load code i (AStatic f) = refl
load code i (AField c d k) = refl
load code i (AMethod c m) = refl
load code i (AType k) = refl

load_wide : (code : List ℕ) (i : Instr) (o : Operand) → IsPushed code i o 19
unfolding row_of
load_wide code i NoOperand = refl
load_wide code i (AnInt n) = refl
load_wide code i (ALong n) = refl
load_wide code i (AString p) = refl
load_wide code i (AStatic f) = refl
load_wide code i (AField c d k) = refl
load_wide code i (AMethod c m) = refl
load_wide code i (AType k) = refl

no_push : (op : ℕ) (r : Row) → ComesOf op r → 20 ≤ op → pushed_by r ≡ None
no_push op (rows.Push (Int c)) h le = let bad : op < 20 = grind (arith, nat_tests) in absurd (omega arith)
no_push op r h le = refl

none_as : (op : ℕ) (n : ℤ) (named : Option ℤ) → 20 ≤ op → pushed_as op n named ≡ None
none_as op n named le = grind (arith, nat_tests)

-- where no row does, none is
none_by : {A : Type 0} (o : Option Row) (f : Row → Option A) → ((r : Row) → o ≡ Some r → f r ≡ None) → onto o f ≡ None
none_by None f h = refl
none_by (Some r) f h = h r refl

pushed_is : (code : List ℕ) (i : Instr) (o : Operand) → onto (row_of code i o) pushed_by ≡ pushed_as i.op i.first (int_named o)
pushed_is code i o =
    elim (cases_lt i.op 18) [
      | inl lt ↦ each_from (IsPushed code i o) 0 18 (low code i o) i.op (omega arith) (omega arith)
      | inr ge ↦
          elim (cases_eq i.op 18) [
            | inl is ↦ subst (IsPushed code i o) (sym is) (load code i o)
            | inr other ↦
                elim (cases_eq i.op 19) [
                  | inl is ↦ subst (IsPushed code i o) (sym is) (load_wide code i o)
                  | inr neither ↦
                      let le : 20 ≤ i.op = omega arith in
                      none_by (row_of code i o) pushed_by (λ r is. no_push i.op r (comes_of code i o r is) le) ∙ sym (none_as i.op i.first (int_named o) le)
                ]
          ]
    ]

-- ---- reads and writes

get_static : (code : List ℕ) (i : Instr) (o : Operand) → onto (row_of code (record i { op = 178 }) o) read_by ≡ static_named o
unfolding row_of
get_static code i NoOperand = refl
get_static code i (AnInt n) = refl
get_static code i (ALong n) = refl
get_static code i (AString p) = refl
get_static code i (AStatic f) = refl
get_static code i (AField c d k) = refl
get_static code i (AMethod c m) = refl
get_static code i (AType k) = refl

put_static : (code : List ℕ) (i : Instr) (o : Operand) → onto (row_of code (record i { op = 179 }) o) put_by ≡ static_named o
unfolding row_of
put_static code i NoOperand = refl
put_static code i (AnInt n) = refl
put_static code i (ALong n) = refl
put_static code i (AString p) = refl
put_static code i (AStatic f) = refl
put_static code i (AField c d k) = refl
put_static code i (AMethod c m) = refl
put_static code i (AType k) = refl

no_read : (op : ℕ) (r : Row) → ComesOf op r → op ≢ 178 → read_by r ≡ None
no_read op (rows.GetStatic f) is other = absurd (other is)
no_read op r is other = refl

no_put : (op : ℕ) (r : Row) → ComesOf op r → op ≢ 179 → put_by r ≡ None
no_put op (rows.PutStatic f) is other = absurd (other is)
no_put op r is other = refl

read_is : (code : List ℕ) (i : Instr) (o : Operand) → onto (row_of code i o) read_by ≡ read_as i.op (static_named o)
read_is code i o =
    elim (cases_eq i.op 178) [
      | inl is ↦
          let K : ℕ → Type 0 = λ op. onto (row_of code (record i { op = op }) o) read_by ≡ read_as op (static_named o) in
          subst K (sym is) (get_static code i o)
      | inr other ↦
          none_by (row_of code i o) read_by (λ r is. no_read i.op r (comes_of code i o r is) other) ∙ sym (ap (λ (b : Bool). if b then static_named o else None) (ne_eqb i.op 178 other))
    ]

put_is : (code : List ℕ) (i : Instr) (o : Operand) → onto (row_of code i o) put_by ≡ put_as i.op (static_named o)
put_is code i o =
    elim (cases_eq i.op 179) [
      | inl is ↦
          let K : ℕ → Type 0 = λ op. onto (row_of code (record i { op = op }) o) put_by ≡ put_as op (static_named o) in
          subst K (sym is) (put_static code i o)
      | inr other ↦
          none_by (row_of code i o) put_by (λ r is. no_put i.op r (comes_of code i o r is) other) ∙ sym (ap (λ (b : Bool). if b then static_named o else None) (ne_eqb i.op 179 other))
    ]

-- ---- the instruction at a place

abbrev placed : ℕ → Row → Option (ℕ × Row)
placed n r = Some (n, r)

abbrev no_instr : Option Instr
no_instr = None

through : {A : Type 0} (f : Row → Option A) (o : Option Row) (n : ℕ) → onto (onto o (placed n)) (λ x. f x.1) ≡ onto o f
through f None n = refl
through f (Some r) n = refl

module _ (P : Program) (m p : ℕ) where
  none_at : {A : Type 0} (f : Row → Option A) → instr_at P m p ≡ None → onto (row_in P m p) (λ x. f x.1) ≡ None
  none_at f none =
      ap (λ (o : Option Instr). onto (onto (body_of P m) (λ b. onto o (λ i. onto (row_of b.code i (P.operand m p)) (placed (p + i.length))))) (λ x. f x.1)) none
      ∙ past (body_of P m)
    where
      past : (o : Option Body) → onto (onto o (λ b. onto no_instr (λ i. onto (row_of b.code i (P.operand m p)) (placed (p + i.length))))) (λ x. f x.1) ≡ None
      past None = refl
      past (Some b) = refl

  one_at : {A : Type 0} (f : Row → Option A) (i : Instr) (y : Option A) → Some i ≡ instr_at P m p → ((code : List ℕ) → onto (row_of code i (P.operand m p)) f ≡ y) → onto (row_in P m p) (λ x. f x.1) ≡ y
  one_at f i y is tells =
      let b = onto_some (body_of P m) (λ (x : Body). as_instr (decoded x.code p)) i (sym is) in
      ap (λ (o : Option Instr). onto (onto (body_of P m) (λ b. onto o (λ i. onto (row_of b.code i (P.operand m p)) (placed (p + i.length))))) (λ x. f x.1)) (sym is)
      ∙ ap (λ (o : Option Body). onto (onto o (λ b. onto (row_of b.code i (P.operand m p)) (placed (p + i.length)))) (λ x. f x.1)) b.1
      ∙ through f (row_of b.0.code i (P.operand m p)) (p + i.length)
      ∙ tells b.0.code

  pub no_push_at : instr_at P m p ≡ None → None ≡ pushed_at P m p
  no_push_at none = sym (none_at pushed_by none)

  pub no_read_at : instr_at P m p ≡ None → None ≡ read_at P m p
  no_read_at none = sym (none_at read_by none)

  pub no_put_at : instr_at P m p ≡ None → None ≡ put_at P m p
  no_put_at none = sym (none_at put_by none)

  -- where the byte at the place says so, no instruction is one that pushes, reads or writes
  none_unless : {A : Type 0} (f : Row → Option A) → ((i : Instr) → instr_at P m p ≡ Some i → (code : List ℕ) → onto (row_of code i (P.operand m p)) f ≡ None) → onto (row_in P m p) (λ x. f x.1) ≡ None
  none_unless {A} f none = by_instr (instr_at P m p) refl
    where
      by_instr : (o : Option Instr) → instr_at P m p ≡ o → onto (row_in P m p) (λ x. f x.1) ≡ None
      by_instr None e = none_at f e
      by_instr (Some i) e = one_at f i None (sym e) (none i e)

  module _ (code : List ℕ) (body : IsSomeAnd (body_of P m) (λ b. b.code ≡ code)) where
    of_code : (i : Instr) → instr_at P m p ≡ Some i → as_instr (decoded code p) ≡ Some i
    of_code i is =
        let b = onto_some (body_of P m) (λ (x : Body). as_instr (decoded x.code p)) i is in
        subst (λ (k : List ℕ). as_instr (decoded k p) ≡ Some i) (holds_at (body_of P m) b.0 (λ (x : Body). x.code ≡ code) b.1 body) b.2

    pub none_pushed : 19 < u1 code p → None ≡ pushed_at P m p
    none_pushed past =
        sym (none_unless pushed_by (λ i is k. pushed_is k i (P.operand m p) ∙ none_as i.op i.first (int_named (P.operand m p)) (past_loads code p i (of_code i is) past)))

    pub none_read : u1 code p ≢ 178 → None ≡ read_at P m p
    none_read other =
        sym (none_unless read_by (λ i is k. read_is k i (P.operand m p) ∙ ap (λ (b : Bool). if b then static_named (P.operand m p) else None) (ne_eqb i.op 178 (not_get code p i (of_code i is) other))))

    pub none_put : u1 code p ≢ 179 → None ≡ put_at P m p
    none_put other =
        sym (none_unless put_by (λ i is k. put_is k i (P.operand m p) ∙ ap (λ (b : Bool). if b then static_named (P.operand m p) else None) (ne_eqb i.op 179 (not_put code p i (of_code i is) other))))

  module _ (i : Instr) (o : Operand) (is : Some i ≡ instr_at P m p) (names : o ≡ P.operand m p) where
    pub push_at : pushed_as i.op i.first (int_named o) ≡ pushed_at P m p
    push_at = sym (one_at pushed_by i (pushed_as i.op i.first (int_named o)) is (λ code. pushed_is code i (P.operand m p) ∙ ap (λ (x : Operand). pushed_as i.op i.first (int_named x)) (sym names)))

    pub reads_at : read_as i.op (static_named o) ≡ read_at P m p
    reads_at = sym (one_at read_by i (read_as i.op (static_named o)) is (λ code. read_is code i (P.operand m p) ∙ ap (λ (x : Operand). read_as i.op (static_named x)) (sym names)))

    pub puts_at : put_as i.op (static_named o) ≡ put_at P m p
    puts_at = sym (one_at put_by i (put_as i.op (static_named o)) is (λ code. put_is code i (P.operand m p) ∙ ap (λ (x : Operand). put_as i.op (static_named x)) (sym names)))
