-- A row without what the verifier doesn't look at: which function of numbers it computes, what it tests, what an array keeps of a number, and which
-- number a constant is or the input gives.
-- For contracts within this crate alone: no public contract's meaning rests on this file.
use Rattle.std.specs.Prelude.{pos, true, List, [], ◌∷◌, Option, Some, None}
use Rattle.bytecode_model.specs.declared.Value.{Value}
use Rattle.bytecode_model.specs.declared.Value.TheVariants.{Int, Long, Ref, Null, Unset}
use Rattle.bytecode_model.specs.Types.{NumberType}
use Rattle.bytecode_model.specs.Rows as rows
use Rattle.bytecode_model.specs.Rows.{Row, FunctionOf}
use Rattle.bytecode_typing.specs.Rules as rule
use Rattle.bytecode_typing.specs.Rules.{Checked, Fails}
use Rattle.bytecode_typing.specs.Types.{TypeFrame}
use Rattle.verifier_types.specs.Site.{Site, check_at}

-- whatever is taken, this
abbrev pub any_of : {R : Type 0} → (taken : List NumberType) → R → FunctionOf taken R
any_of [] r = r
any_of (t ∷ ts) r = λ n. any_of ts r

abbrev pub plain_value : Value → Value
plain_value (Int n) = Int (pos 0)
plain_value (Long n) = Long (pos 0)
plain_value (Ref p) = Ref p
plain_value Null = Null
plain_value Unset = Unset

abbrev pub plain : Row → Row
plain (rows.Push v) = rows.Push (plain_value v)
plain (rows.Compute taken given compute) = rows.Compute taken given (any_of taken None)
plain (rows.Branch taken test offset) = rows.Branch taken (any_of taken true) offset
plain (rows.BranchSame wanted offset) = rows.BranchSame true offset
plain (rows.BranchNull wanted offset) = rows.BranchNull true offset
plain (rows.StoreNumber number codes kept) = rows.StoreNumber number codes (λ n. n)
plain rows.Read = rows.Push (Int (pos 0))
plain r = r

-- ---- what the rules say of an instruction's row, which has none where its operand is out of form

abbrev pub check_found : Site → TypeFrame → Option Row → Checked
check_found s f None = Fails rule.Operand
check_found s f (Some r) = check_at s f r
