-- When no microinstruction runs.
use Rattle.std.proofs.Common.{◌≡◌, ◌≢◌, ℕ, ◌<◌, true, false, nat_lt, refl, sym}
use Rattle.std.proofs.lemmas.Bool.{lt-ltb}
use Rattle.jop_core.specs.declared.halt.Halt.{Halt}
use Rattle.jop_core.specs.declared.halt.Halt.TheVariants.{Running, Ended, Uncaught}
use Rattle.jop_core.specs.Meaning.{is_paused}

pub paused_at : (stall : ℕ) (halt : Halt) → 0 < stall → true ≡ is_paused stall halt
paused_at stall Running some = sym (lt-ltb 0 stall some)
paused_at stall Ended some = refl
paused_at stall Uncaught some = refl

pub paused_halted : (stall : ℕ) (halt : Halt) → halt ≢ Running → true ≡ is_paused stall halt
paused_halted stall Running halted = absurd (halted refl)
paused_halted stall Ended halted = refl
paused_halted stall Uncaught halted = refl

-- where it isn't paused, it runs and isn't stalled
pub goes_on : (stall : ℕ) (halt : Halt) → is_paused stall halt ≡ false → (halt ≡ Running) × (nat_lt 0 stall ≡ false)
goes_on stall Running quiet = (refl, quiet)
goes_on stall Ended quiet = absurd (cc)
goes_on stall Uncaught quiet = absurd (cc)
