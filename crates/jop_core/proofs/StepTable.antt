-- The decoded microinstructions are those of the words.
use Rattle.std.proofs.Common.{◌≡◌, ℕ, zero, suc, List, [], ◌∷◌, ◌++◌, map, replicate, get_or, Bool, true, ◌&&◌, nat_lt, Some, None, refl, sym, ap, subst, ◌∙◌, ltb-true}
use Rattle.std.specs.Prelude.{slice_get, slice_index}
use Rattle.std.proofs.lemmas.Option.{get_or_from_slice_get}
use Rattle.std.proofs.Math.ListN.{get_or-map}
use Rattle.std.proofs.lemmas.Bool.{and_parts}
use Rattle.std.specs.declared.option.Option.{Option}
use Rattle.microcode.specs.declared.isa.Micro.{Micro}
use Rattle.microcode.specs.Isa.Words.{micro_of}
use Rattle.microcode.specs.declared.TheConstants.{WORDS}
use Rattle.jop_core.specs.declared.steps.TheConstants.{STEPS}
use Rattle.jop_core.specs.declared.steps.Action.{Action}
use Rattle.jop_core.specs.declared.steps.Action.TheVariants.{Nop, Bz, Bnz, Jmp}
use Rattle.jop_core.specs.declared.steps.Step.{Step}
use Rattle.jop_core.specs.Steps.{meaning, HasTarget}

nop : Step
nop = record { action = Nop; flags = None }

decoded : Step → Option Micro
decoded step = Some (meaning step)

-- the further words are 0
same : map micro_of (WORDS ++ replicate 309 0) ≡ map decoded STEPS
unfolding decoded
same = refl

copies : (n x i : ℕ) → get_or (replicate n x) i x ≡ x
copies zero x i = refl
copies (suc n) x zero = refl
copies (suc n) x (suc i) = copies n x i

filled : (words : List ℕ) (n i : ℕ) → get_or (words ++ replicate n 0) i 0 ≡ get_or words i 0
filled [] n i = copies n 0 i
filled (word ∷ words) n zero = refl
filled (word ∷ words) n (suc i) = filled words n i

means : (address : ℕ) → micro_of (get_or WORDS address 0) ≡ Some (meaning (get_or STEPS address nop))
unfolding nop decoded
means address =
    ap micro_of (sym (filled WORDS 309 address))
    ∙ sym (get_or-map micro_of (WORDS ++ replicate 309 0) address 0)
    ∙ ap (λ (ms : List (Option Micro)). get_or ms address (decoded nop)) same
    ∙ get_or-map decoded STEPS address nop

pub step_means : (address : ℕ) (step : Step) → slice_get STEPS address ≡ Some step → micro_of (slice_index WORDS address) ≡ Some (meaning step)
step_means address step is = means address ∙ ap (λ (s : Step). Some (meaning s)) (get_or_from_slice_get STEPS address step nop is)

abbrev is_target : Action → Bool
is_target (Bz to) = nat_lt to 2048
is_target (Bnz to) = nat_lt to 2048
is_target (Jmp to) = nat_lt to 2048
is_target _ = true

abbrev are_targets : List Step → Bool
are_targets [] = true
are_targets (step ∷ steps) = is_target step.action && are_targets steps

target : (action : Action) → is_target action ≡ true → HasTarget action
target (Bz to) below = ltb-true to 2048 below
target (Bnz to) below = ltb-true to 2048 below
target (Jmp to) below = ltb-true to 2048 below
target _ below = tt

target_at : (steps : List Step) (i : ℕ) → are_targets steps ≡ true → HasTarget (get_or steps i nop).action
unfolding nop
target_at [] i all = tt
target_at (step ∷ steps) zero all = target step.action (and_parts (is_target step.action) (are_targets steps) all).0
target_at (step ∷ steps) (suc i) all = target_at steps i (and_parts (is_target step.action) (are_targets steps) all).1

-- every branch goes to an address of the ROM
pub step_has_target : (address : ℕ) (step : Step) → slice_get STEPS address ≡ Some step → HasTarget step.action
step_has_target address step is =
    let P : Step → Type 0 = λ s. HasTarget s.action in
    subst P (get_or_from_slice_get STEPS address step nop is) (target_at STEPS address refl)
