-- Nodes that are instructions that have nothing to do with local variables.
use Rattle.std.proofs.Common.{◌≡◌, ℕ, ◌+◌, ◌*◌, Bool, true, false, List, [], ◌∷◌, ◌++◌, sym, ◌∙◌, subst, inl, inr, arith}
use Rattle.std.proofs.lemmas.Bool.{both_ways, cases_eq, cases_lt}
use Rattle.std.proofs.lemmas.List.{get_or_append_left, get_or_past, get_or_push, length-append}
use Rattle.loop_rules.specs.Further.Search.{flag_at}
use Rattle.known_ints.specs.declared.parts.Part.{Part}
use Rattle.known_ints.specs.Code.{AreIdle, IsIdle}
use Rattle.known_ints.specs.Parts.{part_at}

pub idle_more : (parts : List Part) (n : ℕ) (flags new : List Bool) (b : Bool) → AreIdle parts n flags → (b ≡ true → (p : ℕ) × (n ≡ 2 * p) × IsIdle (part_at parts p)) → new ≡ flags ++ b ∷ []
    → AreIdle parts (n + 1) new
idle_more parts n flags new b are here is = subst (AreIdle parts (n + 1)) (sym is) (record { long = length-append flags (b ∷ []) ∙ (let long = are.long in omega arith); each = each })
  where
    each : (x : ℕ) → flag_at (flags ++ b ∷ []) x ≡ true → (p : ℕ) × (x ≡ 2 * p) × IsIdle (part_at parts p)
    each x at = elim (cases_lt x n) [
      | inl lt ↦ are.each x (sym (get_or_append_left flags (b ∷ []) false x (let long = are.long in omega arith)) ∙ at)
      | inr past ↦ elim (cases_eq x n) [
        | inl same ↦
            let last : flag_at (flags ++ b ∷ []) n ≡ true = subst (λ (y : ℕ). flag_at (flags ++ b ∷ []) y ≡ true) same at in
            subst (λ (y : ℕ). (p : ℕ) × (y ≡ 2 * p) × IsIdle (part_at parts p)) (sym same) (here (sym (get_or_push flags b false n are.long) ∙ last))
        | inr other ↦
            let long = are.long in
            let size = length-append flags (b ∷ []) in
            absurd (both_ways (flag_at (flags ++ b ∷ []) x) (get_or_past (flags ++ b ∷ []) x false (omega arith)) at)
      ]
    ]
