-- What is linked with an executive has it.
use Rattle.std.proofs.Common.{◌≡◌, ℕ, zero, suc, ◌<◌, ◌&&◌, Bool, true, false, List, ◌++◌, Option, Some, None, refl, sym, ap, ◌∙◌, arith, inl, inr, ◌⊎◌}
use Rattle.std.specs.Prelude.{codes, is_some, IsSome}
use Rattle.std.specs.Cmp.Lexicographic as texts
use Rattle.std.proofs.lemmas.Bool.{and_parts, both_ways, cases_lt}
use Rattle.class_pool.specs.declared.class.ClassFile.{ClassFile}
use Rattle.class_lookup.specs.Parts.{same_text}
use Rattle.bytecode_model.specs.Program.{Body, body_of}
use Rattle.program_tables.specs.Resolved.{resolved}
use Rattle.name_laws.specs.Written.{written, written_name}
use Rattle.program_resolution.proofs.NameLemmas.{same_self}
use Rattle.jopizer.specs.Laws.{MainIsThere}
use Rattle.analysis_commands.specs.Analysis.{named_or_number, number_text}
use Rattle.analysis_commands.specs.Executive.{executive_name, IsCyclicMain, IsExecutive}
use Rattle.jop_cli.specs.promises.Plan.{ExecutivesAreThere}

-- ---- the first number that passes a test

abbrev NoneBelow : (ℕ → Bool) → ℕ → Type 0
NoneBelow test n = (u : ℕ) → u < n → test u ≡ true → ⊥

abbrev First : (ℕ → Bool) → Type 0
First test = (n : ℕ) × (test n ≡ true) × NoneBelow test n

first_case : (test : ℕ → Bool) (n : ℕ) → NoneBelow test n → (b : Bool) → test n ≡ b → NoneBelow test (suc n) ⊎ First test
first_case test n none true is = inr (n, is, none)
first_case test n none false is =
    inl (λ u lt passes. elim (cases_lt u n) [
      | inl below ↦ none u below passes
      | inr above ↦ let same : u ≡ n = omega arith in both_ways (test n) is (ap test (sym same) ∙ passes)
    ])

search : (test : ℕ → Bool) (n : ℕ) → NoneBelow test n ⊎ First test
search test zero = inl (λ u lt passes. absurd (omega arith))
search test (suc n) = elim (search test n) [ inl none ↦ first_case test n none (test n) refl | inr first ↦ inr first ]

first : (test : ℕ → Bool) (n : ℕ) → test n ≡ true → First test
first test n is = elim (search test (suc n)) [ inl none ↦ absurd (none n (omega arith) is) | inr found ↦ found ]

-- ---- the first main of the name

module _ (cs : List ClassFile) where
  is_main : ℕ → Bool
  is_main m = is_some (body_of (resolved cs) m) && same_text (named_or_number cs m) executive_name

  passes : (m : ℕ) → IsCyclicMain (resolved cs) (named_or_number cs) m → is_main m ≡ true
  unfolding is_main
  passes m is = ap (λ (b : Bool). b && same_text (named_or_number cs m) executive_name) is.coded ∙ (ap (λ (t : List ℕ). same_text t executive_name) is.is_named ∙ same_self executive_name)

  passed : (m : ℕ) → is_main m ≡ true → IsCyclicMain (resolved cs) (named_or_number cs) m
  unfolding is_main
  passed m h =
      let parts = and_parts (is_some (body_of (resolved cs) m)) (same_text (named_or_number cs m) executive_name) h in
      record { coded = parts.0; is_named = texts.same_text (named_or_number cs m) executive_name (sym parts.1) }

  named : (m : ℕ) (o : Option Body) → is_some o ≡ true → elim o [ None ↦ number_text m | Some b ↦ written_name cs m ] ≡ written_name cs m
  named m None h = absurd (both_ways false refl h)
  named m (Some b) h = refl

  executive : (m : ℕ) → IsSome (body_of (resolved cs) m) → written_name cs m ≡ executive_name → (e : ℕ) × IsExecutive (resolved cs) (named_or_number cs) e
  executive m coded name =
      let is : IsCyclicMain (resolved cs) (named_or_number cs) m = record { coded = coded; is_named = named m (body_of (resolved cs) m) coded ∙ name } in
      let least = first is_main m (passes m is) in
      (least.0, (passed least.0 least.1, λ u lt other. least.2 u lt (passes u other)))

pub executives_are_there : MainIsThere → ExecutivesAreThere
executives_are_there main slots rounds files l with_it =
    let m = main l.files l.main l.classes with_it.is_linked.linked in
    executive l.classes m.0 m.1 (ap written (m.2 ∙ ap (λ (class : List ℕ). class ++ codes ".main([Ljava/lang/String;)V") with_it.its_main))
