-- Well placed programs: their code is whole instructions, and control stays among these.
use Rattle.std.proofs.Common.{◌≡◌, ℕ, ◌+◌, List, [], ◌∷◌, ◌⊎◌, Option, Some, None, refl, sym, ap, ◌∙◌, subst, inl, inr, Contains, Result, Ok, Err}
use Rattle.std.specs.Prelude.{IsOk, pos}
use Rattle.std.specs.List.{AllByRecursion}
use Rattle.opcodes.specs.declared.instruction.Instr.{Instr}
use Rattle.opcodes.specs.declared.instruction.DecodeFault.{DecodeFault}
use Rattle.opcodes.specs.Instruction.{decoded}
use Rattle.opcodes.specs.Start.{first_bad, IsStart, IsFirstBad}
use Rattle.lists.specs.Lists.{onto}
use Rattle.lists.proofs.Lemmas.{none≢some, some_in}
use Rattle.lists.specs.Members.{cons_cases, nil_contains}
use Rattle.bytecode_model.specs.Program.{as_instr}
use Rattle.bytecode_model.specs.Steps.{row_in}
use Rattle.bytecode_typing.specs.WellPlaced.{offsets_of, LeadsToInstruction, IsWellPlacedAt}
use Rattle.bytecode_typing.specs.PlacedLaws.{CodeIsWhole, MayGoTo, ControlStays}

-- ---- whole instructions

whole_there : (r : Result Instr DecodeFault) (i : Instr) → as_instr r ≡ Some i → IsOk r
whole_there (Ok j) i h = refl
whole_there (Err e) i h = absurd (none≢some i h)

pub code_whole : ((code : List ℕ) → IsFirstBad code) → CodeIsWhole
code_whole law P w n b eb = by (first_bad b.code) refl
  where
    by : (o : Option ℕ) → first_bad b.code ≡ o → o ≡ None
    by None e = refl
    by (Some pc) e =
        let bad = (law b.code pc).0 e in
        let at = (w n b eb).instructions pc bad.0 in
        absurd (bad.1 (whole_there (decoded b.code pc) at.instr (sym (ap (λ o. onto o (λ b. as_instr (decoded b.code pc))) eb) ∙ at.has_instr)))

-- ---- where control goes

all_at : {A : Type 0} (P : A → Type 0) (xs : List A) (x : A) → AllByRecursion P xs → Contains xs x → P x
all_at P [] x h c = absurd (nil_contains x c)
all_at P (y ∷ ys) x h c = by (cons_cases y x ys c) (λ d. all_at P ys x h.1 d)
  where
    by : (y ≡ x) ⊎ Contains ys x → (Contains ys x → P x) → P x
    by (inl e) later = subst P e h.0
    by (inr d) later = later d

place_is : (p q : ℕ) → pos p ≡ pos q → p ≡ q
place_is p q e = cc

pub control_stays : ControlStays
control_stays P w n b eb pc start =
    let at = (w n b eb).instructions pc start in
    some_in (row_in P n pc) (pc + at.instr.length, at.row) _ at.has_row (λ q go. let st = arrives at q go in let there = (w n b eb).instructions q st in (st, some_in (row_in P n q) (q + there.instr.length, there.row) _ there.has_row tt))
  where
    arrives : (at : IsWellPlacedAt P n b pc) (q : ℕ) → MayGoTo pc (pc + at.instr.length) at.row q → IsStart b.code q
    arrives at q (inl h) = subst (IsStart b.code) (sym h.1) (at.behind h.0)
    arrives at q (inr h) =
        let to = all_at (LeadsToInstruction b.code pc) (offsets_of at.row) h.0 at.targets h.1 in
        subst (IsStart b.code) (place_is to.0 q (sym to.1 ∙ h.2)) to.2
