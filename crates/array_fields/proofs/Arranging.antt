-- The lengths that methods read, method by method.
use Rattle.std.proofs.Common.{◌≡◌, ℕ, ◌+◌, ◌<◌, ℤ, List, [], ◌∷◌, ◌++◌, length, Option, Some, None, refl, sym, ap, ◌∙◌, subst, inl, inr, arith}
use Rattle.std.specs.Prelude.{IsSome}
use Rattle.std.proofs.lemmas.Bool.{cases_lt}
use Rattle.std.proofs.lemmas.Option.{slice_get_within, get_or_from_slice_get, slice_get-get_or}
use Rattle.std.proofs.lemmas.List.{length_push, get_or_append_left, get_or_push}
use Rattle.lists.proofs.Lemmas.{none≢some}
use Rattle.opcodes.specs.Start.{starts_of}
use Rattle.class_pool.specs.declared.class.ClassFile.{ClassFile}
use Rattle.bytecode_model.specs.Program.{Program, Body, body_of}
use Rattle.program_tables.specs.Laws.{MethodsStandByNumber}
use Rattle.program_tables.specs.Resolved.{resolved}
use Rattle.loop_rules.specs.Further.Known.{Known}
use Rattle.loop_rules.specs.Further.Arrays.{AreArraysRead, AreMethodArrays}
use Rattle.array_fields.specs.Lengths.{FieldLengths, known_by, array_read, AreIntsOf, AreArraysBelow}
use Rattle.array_fields.proofs.Coding.{code_at, code_of_body, coded_first}
use Rattle.array_fields.proofs.Lining.{reads_are}

pub is_there : {A : Type 0} (o : Option A) (x : A) → o ≡ Some x → IsSome o
is_there {A} o x is = subst (λ (z : Option A). IsSome z) (sym is) refl

there_is : {A : Type 0} (o : Option A) → IsSome o → (x : A) × (o ≡ Some x)
there_is None h = absurd (let bad : ⊥ = cc in bad)
there_is (Some x) h = (x, refl)

pub arrays_of_method : (P : Program) (m : ℕ) (b : Body) → body_of P m ≡ Some b → (a : FieldLengths) (xs : List (Option ℤ)) → AreIntsOf (array_read P a m) (starts_of b.code) xs → (constants : ℕ → Option ℤ)
    → AreArraysRead P (known_by constants a) m xs
arrays_of_method P m b eb a xs are constants p c =
    let reads = reads_are P m b eb constants a p c in
    (λ h. reads.0 ((are p c).0 h), λ h. (are p c).1 (reads.1 h))

module _ (P : Program) (known : Known) where
  pub no_arrays : AreArraysBelow P known 0 []
  no_arrays = record { long = refl; coded = λ m lt. absurd (omega arith); each = λ m x is. absurd (none≢some x is) }

  pub more_arrays : (n : ℕ) (xss : List (List (Option ℤ))) (xs : List (Option ℤ)) → AreArraysBelow P known n xss → IsSome (body_of P n) → AreArraysRead P known n xs → AreArraysBelow P known (n + 1) (xss ++ xs ∷ [])
  more_arrays n xss xs h has here = record {
    long = length_push xss xs ∙ ap (λ (k : ℕ). k + 1) h.long;
    coded = λ m lt.
        elim (cases_lt m n) [
          | inl less ↦ h.coded m less
          | inr ge ↦ let at : n ≡ m = omega arith in subst (λ (k : ℕ). IsSome (body_of P k)) at has
        ];
    each = λ i ys is.
        let within = slice_get_within (xss ++ xs ∷ []) i ys is in
        let longer = length_push xss xs in
        let read = get_or_from_slice_get (xss ++ xs ∷ []) i ys ys is in
        elim (cases_lt i (length xss)) [
          | inl lt ↦ h.each i ys (slice_get-get_or xss i ys lt ∙ ap (λ (z : List (Option ℤ)). Some z) (sym (get_or_append_left xss (xs ∷ []) ys i lt) ∙ read))
          | inr ge ↦
              let at : i ≡ length xss = omega arith in
              let value : xs ≡ ys = sym (get_or_push xss xs ys i (sym at)) ∙ read in
              let number : n ≡ i = sym h.long ∙ sym at in
              subst (λ (z : List (Option ℤ)). AreArraysRead P known i z) value (subst (λ (k : ℕ). AreArraysRead P known k xs) number here)
        ];
  }

-- where no method is left that has code
pub all_arrays : MethodsStandByNumber → (cs : List ClassFile) (known : Known) (n : ℕ) (xss : List (List (Option ℤ))) → code_at cs n ≡ None → AreArraysBelow (resolved cs) known n xss → AreMethodArrays (resolved cs) known xss
all_arrays stand cs known n xss none h = record {
  coded = λ m. (
    λ has.
        elim (cases_lt m n) [
          | inl less ↦ subst (λ (k : ℕ). m < k) (sym h.long) less
          | inr ge ↦
              let b = there_is (body_of (resolved cs) m) has in
              let k = code_of_body stand cs m b.0 b.1 in
              absurd (coded_first cs n m none ge k.0 k.1)
        ],
    λ lt. h.coded m (subst (λ (k : ℕ). m < k) h.long lt),
  );
  each = h.each;
}
