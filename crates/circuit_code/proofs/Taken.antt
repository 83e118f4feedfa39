-- Whether a branch of the microcode is taken.
use Rattle.std.proofs.Common.{◌≡◌, ℕ, Bool, true, false, ◌∙◌, refl, ap, nat_lt}
use Rattle.std.specs.Prelude.{◌==◌, ◌&&◌, ◌||◌, not, bit_and, bit_or}
use Rattle.netlist.specs.Meaning.{bit_of}
use Rattle.circuit_cycles.specs.Words.{is_bnz, is_bz, is_jmp}
use Rattle.circuit_core.proofs.Acting.{some}
use Rattle.circuit_core.proofs.Choosing.{both, either}

three : (a b c : Bool) → (a || (b || c)) ≡ (a || b || c)
three true b c = refl
three false b c = refl

pub taking : {r running go jmp e z o : ℕ} (word a : ℕ) (g : Bool) → r ≡ bit_and running go → running ≡ bit_of g → go ≡ bit_or jmp e
    → jmp ≡ bit_of (is_jmp word) → e ≡ bit_or z o → z ≡ bit_of (is_bz word && a == 0) → o ≡ bit_of (is_bnz word && not (a == 0))
    → r ≡ bit_of (g && (is_jmp word || is_bz word && a == 0 || is_bnz word && nat_lt 0 a))
taking word a g er hg eg hj ee hz ho =
    let other = ho ∙ ap (λ t. bit_of (is_bnz word && t)) (some a) in
    let any = either (is_bz word && a == 0) (is_bnz word && nat_lt 0 a) ee hz other in
    let all = either (is_jmp word) (is_bz word && a == 0 || is_bnz word && nat_lt 0 a) eg hj any
    ∙ ap bit_of (three (is_jmp word) (is_bz word && a == 0) (is_bnz word && nat_lt 0 a)) in
    both g (is_jmp word || is_bz word && a == 0 || is_bnz word && nat_lt 0 a) er hg all
