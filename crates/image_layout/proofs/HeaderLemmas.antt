-- The words of the header.
use Rattle.std.proofs.Common.{◌≡◌, ℕ, ◌≤◌, List, [], ◌∷◌, Option, Some, None, length, replicate, sym, ap, ap₂, ◌∙◌}
use Rattle.std.specs.Prelude.{slice_get}
use Rattle.std.proofs.lemmas.Option.{slice_get_past}
use Rattle.class_pool.specs.declared.class.ClassFile.{ClassFile}
use Rattle.bytecode_model.specs.Program.{Method}
use Rattle.lists.specs.Lists.{onto}
use Rattle.class_lookup.specs.Lookup.{Place}
use Rattle.image_facts.specs.Places.{image_words, pool_of}
use Rattle.program_tables.specs.Laws.{MethodsStandByNumber, MembersAreThere}
use Rattle.program_tables.specs.Numbers.{methods_by_number, types_of}
use Rattle.program_tables.specs.Resolved.{resolved_method, boot_of, resolved}
use Rattle.image_words.specs.Layout.{pool_place, method_place, outline_of}
use Rattle.image_words.specs.Regions.{header_region}
use Rattle.image_layout.proofs.SizeLemmas.{stands}

-- ---- the header

pub pool_there : MethodsStandByNumber → MembersAreThere → (cs : List ClassFile) (m : ℕ) (p : Place) → slice_get (methods_by_number cs) m ≡ Some p → pool_of (resolved cs) (outline_of cs) m ≡ pool_place cs p.0
pool_there law there cs m p h =
    let s = stands law there cs m p h in
    ap (λ (o : Option Method). elim o [ None ↦ 0 | Some k ↦ pool_place cs k.owner ]) s.method

pub pool_none : MethodsStandByNumber → (cs : List ClassFile) (m : ℕ) → length (methods_by_number cs) ≤ m → 0 ≡ pool_of (resolved cs) (outline_of cs) m
pool_none law cs m past =
    let none = law cs m ∙ ap (λ o. onto o (resolved_method cs)) (slice_get_past (methods_by_number cs) m past) in
    sym (ap (λ (o : Option Method). elim o [ None ↦ 0 | Some k ↦ pool_place cs k.owner ]) none)

pub header_same : (cs : List ClassFile) (m p t a : ℕ) → m ≡ method_place cs (boot_of cs) → p ≡ pool_of (resolved cs) (outline_of cs) (boot_of cs) → t ≡ length (types_of cs) → a ≡ image_words (resolved cs) (outline_of cs)
    → 0 ∷ m ∷ p ∷ t ∷ 24 ∷ 16 ∷ a ∷ 0 ∷ 0 ∷ 0 ∷ 0 ∷ 0 ∷ 0 ∷ 0 ∷ 0 ∷ 0 ∷ [] ≡ header_region cs (outline_of cs)
header_same cs m p t a hm hp ht ha =
    let words : ℕ → ℕ → ℕ → ℕ → List ℕ = λ m p t a. 0 ∷ m ∷ p ∷ t ∷ 24 ∷ 16 ∷ a ∷ replicate 9 0 in
    ap (λ n. words n p t a) hm
    ∙ (ap (λ n. words (method_place cs (boot_of cs)) n t a) hp
    ∙ ap₂ (λ (n : ℕ) (k : ℕ). words (method_place cs (boot_of cs)) (pool_of (resolved cs) (outline_of cs) (boot_of cs)) n k) ht ha)
