-- The places of lines, and tables of methods.
use Rattle.std.proofs.Common.{◌≡◌, ℕ, List, [], ◌∷◌, ◌++◌, length, map, Option, Some, None, Result, Ok, Err, IfOk, refl, sym, ap, ◌∙◌, subst, inl, inr, arith}
use Rattle.std.specs.Prelude.{slice_get, IsSome}
use Rattle.std.proofs.lemmas.Option.{slice_get_within, get_or_from_slice_get, slice_get-get_or}
use Rattle.std.proofs.lemmas.Bool.{cases_lt}
use Rattle.std.proofs.lemmas.List.{length_push, get_or_append_left, get_or_push}
use Rattle.lists.proofs.Lemmas.{some_is, some_in, holds_at}
use Rattle.opcodes.specs.Start.{IsStart, AreStarts, starts_of}
use Rattle.bytecode_model.specs.Program.{Program, Body, body_of}
use Rattle.bytecode_model.specs.Steps.{row_in}
use Rattle.method_flow.specs.Flow.{Coded, range_of}
use Rattle.memory_rules.specs.Sites.{MethodNeeds, AreNeedsOf}
use Rattle.program_sites.specs.Made.Lines.{AreLinesOf}

pub if_ok_as : {A E : Type 0} (r : Result A E) (P Q : A → Type 0) → IfOk r P → ((x : A) → P x → Q x) → IfOk r Q
if_ok_as (Ok x) P Q h as' = as' x h
if_ok_as (Err e) P Q h as' = h

is_there : {A : Type 0} (o : Option A) → IsSome o → (x : A) × (o ≡ Some x)
is_there None h = absurd (let bad : ⊥ = cc in bad)
is_there (Some x) h = (x, refl)

pub lines_are : ((code : List ℕ) → AreStarts code) → (k : Coded) → AreLinesOf k (starts_of k.code)
lines_are starts k P m of = record {
  rising = (starts k.code).rising;
  lines = λ p has.
      let row = is_there (row_in P m p) (of.rows p has) in
      let b = some_is (body_of P m) (λ (z : Body). (z.code ≡ k.code) × (map range_of z.handlers ≡ k.ranges)) of.body in
      let start : IsStart b.0.code p = subst (λ (code : List ℕ). IsStart code p) (sym b.2.0) has in
      (row.0.0, row.0.1, record { start = some_in (body_of P m) b.0 (λ z. IsStart z.code p) b.1 start; is = row.1 });
  only = λ p next r line.
      let b = some_is (body_of P m) (λ (z : Body). (z.code ≡ k.code) × (map range_of z.handlers ≡ k.ranges)) of.body in
      let start : IsStart b.0.code p = holds_at (body_of P m) b.0 (λ z. IsStart z.code p) b.1 line.start in
      subst (λ (code : List ℕ). IsStart code p) b.2.0 start;
}

-- one method more
pub needs_more : (P : Program) (ks : List MethodNeeds) (m : ℕ) (x : MethodNeeds) → length ks ≡ m → ((i : ℕ) (k : MethodNeeds) → slice_get ks i ≡ Some k → AreNeedsOf P i k) → AreNeedsOf P m x
    → (i : ℕ) (k : MethodNeeds) → slice_get (ks ++ x ∷ []) i ≡ Some k → AreNeedsOf P i k
needs_more P ks m x long all here i k is =
    let within = slice_get_within (ks ++ x ∷ []) i k is in
    let longer = length_push ks x in
    let read = get_or_from_slice_get (ks ++ x ∷ []) i k k is in
    elim (cases_lt i (length ks)) [
      | inl lt ↦
          let same = get_or_append_left ks (x ∷ []) k i lt in
          all i k (slice_get-get_or ks i k lt ∙ ap Some (sym same ∙ read))
      | inr ge ↦
          let at : i ≡ length ks = omega arith in
          let same = get_or_push ks x k i (sym at) in
          let value : x ≡ k = sym same ∙ read in
          let number : m ≡ i = sym long ∙ sym at in
          subst (λ (y : MethodNeeds). AreNeedsOf P i y) value (subst (λ (n : ℕ). AreNeedsOf P n x) number here)
    ]
