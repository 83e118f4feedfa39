-- What is asked of an instruction beside its row, by its family.
use Rattle.std.proofs.Common.{◌≡◌, ℕ, ◌+◌, Bool, true, false, ◌||◌, List, Option, Some, None, refl, sym, ap, ◌∙◌}
use Rattle.std.specs.Prelude.{IfSome}
use Rattle.std.specs.Option.{option_map}
use Rattle.opcodes.specs.declared.instruction.Instr.{Instr}
use Rattle.lists.specs.Lists.{onto}
use Rattle.lists.proofs.Lemmas.{none≢some, some_same, onto_some}
use Rattle.bytecode_model.specs.Program.{Program, Operand, body_of, as_instr, instr_at}
use Rattle.opcodes.specs.Instruction.{decoded}
use Rattle.bytecode_model.specs.Rows as rows
use Rattle.bytecode_model.specs.Rows.{Row}
use Rattle.bytecode_model.specs.Table.{row_of, by_class}
use Rattle.bytecode_typing.specs.Checks.{class_made_by, made_at}
use Rattle.bytecode_typing.specs.Walk.{falls_through, is_formed}
use Rattle.bytecode_verifier.specs.declared.family.Family.{Family}
use Rattle.bytecode_verifier.specs.Family.{family_row, IsFamilyOf}
use Rattle.bytecode_verifier.specs.Plain.{plain}
use Rattle.bytecode_verifier.proofs.PlainLemmas.{plain_falls, plain_made, plain_formed}
use Rattle.bytecode_verifier.proofs.OrdinaryLemmas.{IsOrdinary, keeps_all}

-- ---- whether control goes on

pub falls_as : (code : List ℕ) (i : Instr) (o : Operand) (f : Family) → IsFamilyOf i.op f → falls_through (row_of code i o) ≡ falls_through (family_row f code i o)
unfolding IsFamilyOf
falls_as code i o f h = sym (plain_falls (row_of code i o)) ∙ (ap falls_through (h code i o refl) ∙ plain_falls (family_row f code i o))

pub first_of_three : (a b c : Bool) → a ≡ true → true ≡ (a || b || c)
first_of_three a b c e = ap (λ x. x || b || c) (sym e)

pub second_of_three : (a b c : Bool) → b ≡ true → true ≡ (a || b || c)
second_of_three true b c e = refl
second_of_three false b c e = ap (λ x. x || c) (sym e)

pub third_of_three : (a b c : Bool) → a ≡ false → b ≡ false → c ≡ (a || b || c)
third_of_three a b c e h = ap (λ x. x || c) (sym h) ∙ ap (λ x. x || b || c) (sym e)

-- ---- what a row doesn't keep

formed_same : (P : Program) (code : List ℕ) (pc : ℕ) (i : Instr) (p q : Option Row) (x : Bool) → option_map plain p ≡ option_map plain q → IfSome q (λ r. x ≡ is_formed P code pc i r) → IfSome p (λ r. x ≡ is_formed P code pc i r)
formed_same P code pc i None q x e h = tt
formed_same P code pc i (Some r) None x e h = absurd (none≢some (plain r) (sym e))
formed_same P code pc i (Some r) (Some q) x e h =
    h ∙ (sym (plain_formed P code pc i q) ∙ (ap (is_formed P code pc i) (some_same (plain q) (plain r) (sym e)) ∙ plain_formed P code pc i r))

pub formed_by : (P : Program) (code : List ℕ) (pc : ℕ) (i : Instr) (o : Operand) (found f : Family) (x : Bool) → IsFamilyOf i.op found → found ≡ f → IfSome (family_row f code i o) (λ r. x ≡ is_formed P code pc i r)
    → IfSome (row_of code i o) (λ r. x ≡ is_formed P code pc i r)
unfolding IsFamilyOf
formed_by P code pc i o found f x h e k =
    formed_same P code pc i (row_of code i o) (family_row f code i o) x (h code i o refl ∙ ap (λ g. option_map plain (family_row g code i o)) e) k

pub formed_ordinary : (P : Program) (code : List ℕ) (pc : ℕ) (i : Instr) (o : Option Row) → IsOrdinary o → IfSome o (λ r. true ≡ is_formed P code pc i r)
formed_ordinary P code pc i None h = tt
formed_ordinary P code pc i (Some r) h = sym (keeps_all P code pc i r h)

pub formed_lookup : (P : Program) (code : List ℕ) (pc : ℕ) (i : Instr) (n : Option ℕ) (r : Row) (x : Bool) → x ≡ is_formed P code pc i r → IfSome (onto n (λ k. Some r)) (λ r. x ≡ is_formed P code pc i r)
formed_lookup P code pc i None r x h = tt
formed_lookup P code pc i (Some k) r x h = h

-- ---- which class it makes an object of

pairs : (k : ℕ) (o : Option Row) → onto {A = ℕ × Row} (onto o (λ r. Some (k, r))) (λ x. class_made_by x.1) ≡ onto o class_made_by
pairs k None = refl
pairs k (Some r) = refl

-- the instruction at a place with the row that it has in its code
pub record HasRow (P : Program) (n pc : ℕ) (i : Instr) (o : Operand) : Type 0 where
  pub code : List ℕ
  pub made : made_at P n pc ≡ onto (row_of code i o) class_made_by

pub has_row : (P : Program) (n pc : ℕ) (i : Instr) (o : Operand) → Some i ≡ instr_at P n pc → o ≡ P.operand n pc → HasRow P n pc i o
has_row P n pc i o e h =
    let b = onto_some (body_of P n) (λ b. as_instr (decoded b.code pc)) i (sym e) in
    record {
      code = b.0.code;
      made =
          ap (λ y. onto {A = ℕ × Row} (onto y (λ b. onto (instr_at P n pc) (λ i. onto (row_of b.code i (P.operand n pc)) (λ r. Some (pc + i.length, r))))) (λ x. class_made_by x.1)) b.1
          ∙ (ap (λ y. onto {A = ℕ × Row} (onto y (λ i. onto (row_of b.0.code i (P.operand n pc)) (λ r. Some (pc + i.length, r)))) (λ x. class_made_by x.1)) (sym e)
          ∙ (ap (λ y. onto {A = ℕ × Row} (onto (row_of b.0.code i y) (λ r. Some (pc + i.length, r))) (λ x. class_made_by x.1)) (sym h)
          ∙ pairs (pc + i.length) (row_of b.0.code i o)));
    }

pub made_as : (code : List ℕ) (i : Instr) (o : Operand) (found f : Family) → IsFamilyOf i.op found → found ≡ f → onto (row_of code i o) class_made_by ≡ onto (family_row f code i o) class_made_by
unfolding IsFamilyOf
made_as code i o found f h e =
    sym (plain_made (row_of code i o)) ∙ (ap (λ p. onto p class_made_by) (h code i o refl ∙ ap (λ g. option_map plain (family_row g code i o)) e) ∙ plain_made (family_row f code i o))

pub made_new : (code : List ℕ) (i : Instr) (o : Operand) (class : Option ℕ) → option_map rows.New class ≡ by_class rows.New code i o → class ≡ onto (by_class rows.New code i o) class_made_by
made_new code i o class h = back class ∙ ap (λ p. onto p class_made_by) h
  where
    back : (c : Option ℕ) → c ≡ onto (option_map rows.New c) class_made_by
    back None = refl
    back (Some c) = refl
