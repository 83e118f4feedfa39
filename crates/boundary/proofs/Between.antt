-- Where instructions begin and end.
use Rattle.std.proofs.Common.{◌≡◌, ℕ, ◌+◌, List, length, inl, inr, Result, Ok, Err, None, refl, sym, ◌∙◌, arith, ⊎_elim}
use Rattle.std.proofs.lemmas.Bool.{cases_lt}
use Rattle.lists.proofs.Lemmas.{none≢some}
use Rattle.opcodes.specs.declared.instruction.Instr.{Instr}
use Rattle.opcodes.specs.declared.instruction.DecodeFault.{DecodeFault}
use Rattle.opcodes.specs.Instruction.{decoded}
use Rattle.opcodes.specs.Start.{IsStart, AreStarts, IsFirstBad, IsPartition, first_bad}
use Rattle.opcodes.specs.Target.{WholeIsWithin}
use Rattle.image_facts.specs.Says.{IsBetween}

-- the laws of codes on which this stands
pub record CodeLaws : Type 0 where
  pub starts : (code : List ℕ) → AreStarts code
  pub bad : (code : List ℕ) → IsFirstBad code
  pub partition : (code : List ℕ) → IsPartition code
  pub within : (code : List ℕ) (pc : ℕ) → WholeIsWithin code pc

whole_case : (r : Result Instr DecodeFault) → ((e : DecodeFault) → r ≡ Err e → ⊥) → (i : Instr) × (r ≡ Ok i)
whole_case (Ok i) h = (i, refl)
whole_case (Err e) h = absurd (h e refl)

-- where no place is bad, an instruction that is whole begins at each start
pub whole_there : CodeLaws → (code : List ℕ) → first_bad code ≡ None → (pc : ℕ) → IsStart code pc → (i : Instr) × (decoded code pc ≡ Ok i)
whole_there laws code good pc start = whole_case (decoded code pc) (λ e h. none≢some pc (sym good ∙ ((laws.bad code pc).1 (start, λ w. let z : Err e ≡ decoded code pc = sym h in cc))))

pub start_between : CodeLaws → (code : List ℕ) → first_bad code ≡ None → (place : ℕ) → IsStart code place → IsBetween code place
start_between laws code good place start pc i s d =
    ⊎_elim (λ below.
    ⊎_elim (λ inside.
    let w = whole_there laws code good place start in
    let positive = laws.within code place w.0 w.1 in
    let p = laws.partition code good place ((laws.starts code).within_code place start) in
    let here = p.2 pc (record { instr = i; start = s; whole = d; from = omega (arith, below); to = inside }) in
    let there = p.2 place (record { instr = w.0; start = start; whole = w.1; from = omega arith; to = omega (arith, positive.not_empty) }) in
    absurd (omega (arith, below, here, there)))
    (λ past. inr past) (cases_lt place (pc + i.length)))
    (λ ge. inl ge) (cases_lt pc place)

pub end_between : CodeLaws → (code : List ℕ) → (place : ℕ) → place ≡ length code → IsBetween code place
end_between laws code place e pc i s d = let w = laws.within code pc i d in inr (omega (arith, e, w.ends))
