-- The rules don't look at what `plain` takes away.
use Rattle.std.proofs.Common.{◌≡◌, ℕ, List, Option, Some, None, refl}
use Rattle.std.specs.Option.{option_map}
use Rattle.opcodes.specs.declared.instruction.Instr.{Instr}
use Rattle.bytecode_model.specs.declared.Value.TheVariants.{Int, Long, Ref, Null, Unset}
use Rattle.bytecode_model.specs.Program.{Program}
use Rattle.bytecode_model.specs.Rows as rows
use Rattle.bytecode_model.specs.Rows.{Row}
use Rattle.bytecode_model.specs.Lists.{onto}
use Rattle.bytecode_typing.specs.Types.{TypeFrame}
use Rattle.bytecode_typing.specs.Checks.{class_made_by}
use Rattle.bytecode_typing.specs.Walk.{falls_through, is_formed}
use Rattle.verifier_types.specs.Site.{Site, check_at}
use Rattle.bytecode_verifier.specs.Plain.{plain, check_found}

pub plain_checks : (s : Site) (f : TypeFrame) (r : Row) → check_at s f (plain r) ≡ check_at s f r
plain_checks s f (rows.Push (Int n)) = refl
plain_checks s f (rows.Push (Long n)) = refl
plain_checks s f (rows.Push (Ref p)) = refl
plain_checks s f (rows.Push Null) = refl
plain_checks s f (rows.Push Unset) = refl
plain_checks s f (rows.Compute taken given compute) = refl
plain_checks s f (rows.Branch taken test offset) = refl
plain_checks s f (rows.BranchSame wanted offset) = refl
plain_checks s f (rows.BranchNull wanted offset) = refl
plain_checks s f (rows.StoreNumber number codes kept) = refl
plain_checks s f rows.Read = refl
plain_checks s f r = refl

pub plain_found : (s : Site) (f : TypeFrame) (o : Option Row) → check_found s f (option_map plain o) ≡ check_found s f o
plain_found s f None = refl
plain_found s f (Some r) = plain_checks s f r

falls : (r : Row) → falls_through (Some (plain r)) ≡ falls_through (Some r)
falls (rows.Push v) = refl
falls (rows.Compute taken given compute) = refl
falls (rows.Branch taken test offset) = refl
falls (rows.BranchSame wanted offset) = refl
falls (rows.BranchNull wanted offset) = refl
falls (rows.StoreNumber number codes kept) = refl
falls rows.Read = refl
falls r = refl

pub plain_falls : (o : Option Row) → falls_through (option_map plain o) ≡ falls_through o
plain_falls None = refl
plain_falls (Some r) = falls r

made : (r : Row) → class_made_by (plain r) ≡ class_made_by r
made (rows.Push v) = refl
made (rows.Compute taken given compute) = refl
made (rows.Branch taken test offset) = refl
made (rows.BranchSame wanted offset) = refl
made (rows.BranchNull wanted offset) = refl
made (rows.StoreNumber number codes kept) = refl
made rows.Read = refl
made r = refl

pub plain_made : (o : Option Row) → onto (option_map plain o) class_made_by ≡ onto o class_made_by
plain_made None = refl
plain_made (Some r) = made r

pub plain_formed : (P : Program) (code : List ℕ) (pc : ℕ) (i : Instr) (r : Row) → is_formed P code pc i (plain r) ≡ is_formed P code pc i r
plain_formed P code pc i (rows.Push v) = refl
plain_formed P code pc i (rows.Compute taken given compute) = refl
plain_formed P code pc i (rows.Branch taken test offset) = refl
plain_formed P code pc i (rows.BranchSame wanted offset) = refl
plain_formed P code pc i (rows.BranchNull wanted offset) = refl
plain_formed P code pc i (rows.StoreNumber number codes kept) = refl
plain_formed P code pc i rows.Read = refl
plain_formed P code pc i r = refl
