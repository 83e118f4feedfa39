-- Where a branch leads, the method that is called, and the row of an instruction by its family.
use Rattle.std.proofs.Common.{◌≡◌, ℕ, List, Option, Some, None, refl, sym, ap, ◌∙◌, ℤ, pos}
use Rattle.std.specs.Prelude.{slice_get, ◌+ℤ◌}
use Rattle.std.specs.Option.{IsSomeAnd}
use Rattle.opcodes.specs.declared.instruction.Instr.{Instr}
use Rattle.bytecode_model.specs.Lists.{natural}
use Rattle.bytecode_model.specs.Program.{Program, Method, Operand}
use Rattle.bytecode_model.specs.Table.{row_of}
use Rattle.program_tables.specs.declared.operand.Instruction.{Instruction}
use Rattle.program_tables.specs.Resolved.{resolved}
use Rattle.bytecode_typing.specs.Types.{VarType, TypeFrame}
use Rattle.verifier_types.specs.Locals.{LocalTable}
use Rattle.verifier_types.specs.Site.{Site, target_at}
use Rattle.bytecode_verifier.specs.declared.family.Family.{Family}
use Rattle.bytecode_verifier.specs.declared.maps.MapFrames.{MapFrames}
use Rattle.bytecode_verifier.specs.declared.rows.Checking.{Checking}
use Rattle.bytecode_verifier.specs.Checking.{IsAt}
use Rattle.bytecode_verifier.specs.Family.{family_row, IsFamilyOf}
use Rattle.bytecode_verifier.specs.Maps.{AreMapsOf, frame_over}
use Rattle.bytecode_verifier.specs.Plain.{check_found}
use Rattle.bytecode_verifier.proofs.PlainLemmas.{plain_found}
use Rattle.bytecode_verifier.proofs.SwitchLemmas.{leads_to}

-- the classes are those of the lists
pub same_classes : (t : LocalTable) (c : Checking) (place : ℕ) (x : Instruction) (s : Site) → IsAt t c place x s → s.program ≡ resolved t.classes
same_classes t c place x s h = h.program ∙ ap resolved (sym h.classes)

pub target_is : (s : Site) (ls : List (List VarType)) (maps : MapFrames) (place : ℕ) (f : TypeFrame) (offset : ℤ) (t : Option TypeFrame) → s.place ≡ place → AreMapsOf ls maps s → t ≡ frame_over ls maps (natural (pos place +ℤ offset)) → target_at s f offset ≡ t
target_is s ls maps place f offset t e h at = leads_to s ls maps f (natural (pos s.place +ℤ offset)) h ∙ (ap (λ n. frame_over ls maps (natural (pos n +ℤ offset))) e ∙ sym at)

-- one that is there, with what holds of it
pub some_there : {A : Type 0} (o : Option A) (P : A → Type 0) → IsSomeAnd o P → (x : A) × (o ≡ Some x) × P x
some_there None P h = absurd h
some_there (Some x) P h = (x, refl, h)

pub method_there : (s : Site) (P : Program) (number : ℕ) (k : Method) → s.program ≡ P → slice_get P.methods number ≡ Some k → slice_get s.program.methods number ≡ Some k
method_there s P number k p e = ap (λ (Q : Program). slice_get Q.methods number) p ∙ e

pub by_family : (s : Site) (f : TypeFrame) (code : List ℕ) (i : Instr) (o : Operand) (found g : Family) → IsFamilyOf i.op found → found ≡ g → check_found s f (family_row g code i o) ≡ check_found s f (row_of code i o)
unfolding IsFamilyOf
by_family s f code i o found g h e =
    sym (sym (plain_found s f (row_of code i o))
    ∙ (ap (check_found s f) (h code i o refl)
    ∙ (plain_found s f (family_row found code i o) ∙ ap (λ x. check_found s f (family_row x code i o)) e)))
