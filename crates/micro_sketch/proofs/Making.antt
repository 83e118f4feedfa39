-- A sketch at an opcode's entry, with so many words of its lists shown.
use Rattle.std.proofs.Common.{◌≡◌, ℕ, zero, suc, ◌≤◌, Bool, true, false, List, [], ◌∷◌, length, refl, sym, ap, ◌∙◌, arith}
use Rattle.jop_core.specs.declared.halt.Halt.{Halt}
use Rattle.jop_core.specs.declared.halt.Halt.TheVariants.{Running}
use Rattle.jop_core.specs.Cycle.{entry_of}
use Rattle.micro_sketch.specs.Rows.{shown, entered}
use Rattle.micro_sketch.specs.RowLaws.{StandsEntered}

pub shown_same : (k : ℕ) (xs : List ℕ) → k ≤ length xs → xs ≡ shown k xs
shown_same zero xs h = refl
shown_same (suc k) [] h = absurd (omega arith)
shown_same (suc k) (x ∷ xs) h = ap (λ ys. x ∷ ys) (shown_same k xs (omega arith))

pub enters : StandsEntered
enters n p op x e s h =
    let at = h.entry in
    ap (λ (z : List ℕ). record x { under = z }) (shown_same 3 x.under h.under)
    ∙ ap (λ (z : List ℕ). record x { under = shown 3 x.under; above = z }) (shown_same 16 x.above h.above)
    ∙ ap (λ (z : List ℕ). record x { under = shown 3 x.under; above = shown 16 x.above; low = z }) (shown_same 32 x.low (omega (arith, h.shape.low)))
    ∙ ap (λ (z : ℕ). record x { under = shown 3 x.under; above = shown 16 x.above; low = shown 32 x.low; mpc = z }) (sym at.at)
    ∙ ap (λ (z : ℕ). record x { under = shown 3 x.under; above = shown 16 x.above; low = shown 32 x.low; mpc = entry_of op; opcode = z }) h.opcode
    ∙ ap (λ (z : ℕ). record x { under = shown 3 x.under; above = shown 16 x.above; low = shown 32 x.low; mpc = entry_of op; opcode = op; operand = z }) h.operand
    ∙ ap (λ (z : Bool). record x { under = shown 3 x.under; above = shown 16 x.above; low = shown 32 x.low; mpc = entry_of op; opcode = op; operand = 0; busy = z }) h.idle
    ∙ ap (λ (z : Halt). record x { under = shown 3 x.under; above = shown 16 x.above; low = shown 32 x.low; mpc = entry_of op; opcode = op; operand = 0; busy = false; halt = z }) h.running
    ∙ ap (λ (z : Bool). record x { under = shown 3 x.under; above = shown 16 x.above; low = shown 32 x.low; mpc = entry_of op; opcode = op; operand = 0; busy = false; halt = Running; fine = z }) h.fine
    ∙ ap (λ (z : ℕ). record x { under = shown 3 x.under; above = shown 16 x.above; low = shown 32 x.low; mpc = entry_of op; opcode = op; operand = 0; busy = false; halt = Running; fine = true; loads = z }) h.loads
    ∙ ap (λ (z : ℕ). record x { under = shown 3 x.under; above = shown 16 x.above; low = shown 32 x.low; mpc = entry_of op; opcode = op; operand = 0; busy = false; halt = Running; fine = true; loads = 0; words = z }) h.loaded
    ∙ ap (λ (z : List ℕ). record x { under = shown 3 x.under; above = shown 16 x.above; low = shown 32 x.low; mpc = entry_of op; opcode = op; operand = 0; busy = false; halt = Running; fine = true; loads = 0; words = 0; output = z }) h.silent
    ∙ ap (λ (z : Bool). record (entered op x) { done = z }) at.going
