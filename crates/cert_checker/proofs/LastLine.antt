-- What is said of the root, and whether the last line is right.
use Rattle.std.proofs.Common.{◌≡◌, ℕ, ◌<◌, ◌^◌, true, false, List, length, Option, Some, IsSome, sym, ap, ◌∙◌, subst, arith}
use Rattle.std.specs.Prelude.{IsTrue, nat_eq}
use Rattle.std.proofs.lemmas.Bool.{eqb-true, eq-eqb}
use Rattle.lists.proofs.Lemmas.{some_same}
use Rattle.bytecode_model.specs.Program.{Program, body_of}
use Rattle.method_flow.specs.Costs.{IsPrintedOf}
use Rattle.method_flow.specs.Flow.{Flow, IsFlowOf}
use Rattle.method_flow.specs.declared.timing.Timing.{Timing}
use Rattle.bound_rules.specs.Conditions.{IsRight}
use Rattle.bound_rules.specs.Laws.{PrintedIsTold}
use Rattle.bound_rules.specs.Told.{Valued, SaysFull}
use Rattle.cert_checker.specs.Setting.{CheckSetting, IsCheckSetting, full_of}
use Rattle.cert_checker.proofs.Fulls.{full_is_said}

-- what is said of a root in the table
pub root_said : (set : CheckSetting) (valued : List Valued) (root other count : ℕ) (flow : Flow) (full said : Option (Option ℕ)) → IsCheckSetting set → root ≡ other → flow ≡ set.flow → count ≡ length flow.methods → root < count
    → full ≡ full_of set valued root → full ≡ said → (P : Program) → IsFlowOf P set.flow → IsSome (body_of P other) × SaysFull P set.timing valued other said
root_said set valued root other count flow full said form same_root same_flow counted below is_full is P of =
    let R : ℕ → Type 0 = λ m. IsSome (body_of P m) × SaysFull P set.timing valued m said in
    let long = ap (λ (f : Flow). length f.methods) same_flow in
    let inside : root < length set.flow.methods = omega arith in
    let S : Option (Option ℕ) → Type 0 = λ o. SaysFull P set.timing valued root o in
    subst R same_root ((of.coded root).1 inside, subst S (sym is_full ∙ is) (full_is_said set P valued root form of inside))

module _ (told : PrintedIsTold) (P : Program) (t : Timing) (full : Option ℕ) where
  -- a line with a number
  pub some_right : (n b : ℕ) → b < 2 ^ 64 → IsPrintedOf P t full (Some n) → (IsTrue (nat_eq n b) → IsRight P t full (Some b)) × (IsRight P t full (Some b) → IsTrue (nat_eq n b))
  some_right n b small printed = (
    λ same. let R : ℕ → Type 0 = λ x. IsPrintedOf P t full (Some x) in record { printed = subst R (eqb-true n b same) printed; small = omega arith },
    λ right. eq-eqb n b (some_same n b (told P t full (Some n) (Some b) printed right.printed)),
  )

  -- a line that says what isn't printed
  pub not_right : (printed bound : Option ℕ) → IsPrintedOf P t full printed → (printed ≡ bound → ⊥) → (IsTrue false → IsRight P t full bound) × (IsRight P t full bound → IsTrue false)
  not_right printed bound is other = (λ never. absurd (let f : false ≡ true = never in cc), λ right. absurd (other (told P t full printed bound is right.printed)))
