-- What the rules say where what they ask for is there, and where it isn't.
use Rattle.std.proofs.Common.{◌≡◌, Bool, true, false, List, [], ◌∷◌, Option, Some, None, sym, ap}
use Rattle.std.specs.Prelude.{if◌then◌else◌}
use Rattle.bytecode_model.specs.Types.{IntType}
use Rattle.bytecode_typing.specs.Types.{VarType, TypeFrame, is_initialized}
use Rattle.bytecode_typing.specs.Rules as rule
use Rattle.bytecode_typing.specs.Rules.{Rule, Checked, Fails, Leaves, need, found, on_number_types, is_number_type}
use Rattle.verifier_types.specs.declared.types.VarType as codes
use Rattle.verifier_types.specs.declared.checked.Checked as codes_checked
use Rattle.verifier_types.specs.Seen.{type_seen}
use Rattle.verifier_types.specs.Site.{checked_seen}
use Rattle.verifier_types.specs.Taken.{numbers_taken}
use Rattle.verifier_types.specs.Uses.{uses_initialized}

pub found_is : {A : Type 0} (o : Option A) (x : A) (r : Rule) (go : A → Checked) → o ≡ Some x → found o r go ≡ go x
found_is o x r go h = ap (λ p. found p r go) h

pub need_holds : (b : Bool) (r : Rule) (c : Checked) → b ≡ true → need b r c ≡ c
need_holds b r c h = ap (λ x. need x r c) h

pub need_fails : (b : Bool) (r : Rule) (c : Checked) → b ≡ false → need b r c ≡ Fails r
need_fails b r c h = ap (λ x. need x r c) h

pub used : (k : codes_checked.Checked) (item : codes.VarType) (g : TypeFrame) → k ≡ uses_initialized item → checked_seen k g ≡ Leaves (Some g) true (is_initialized (type_seen item)) true
used k item g h = ap (λ x. checked_seen x g) h

pub left_with : (f : TypeFrame) (st st2 : List VarType) (a a2 i i2 : Bool) → st ≡ st2 → a ≡ a2 → i ≡ i2 → Leaves (Some (record f { stack = st })) a i true ≡ Leaves (Some (record f { stack = st2 })) a2 i2 true
left_with f st st2 a a2 i i2 h k l = cc

-- an int on top
int_by : (b : Bool) (stack rest : List VarType) (go : List VarType → Checked) → Some rest ≡ (if b then Some stack else None) → need b rule.Stack (go stack) ≡ go rest
int_by true stack rest go h = ap (λ o. found o rule.Stack go) (sym h)
int_by false stack rest go h = cc

pub int_found : (stack rest : List VarType) (go : List VarType → Checked) → Some rest ≡ numbers_taken (IntType ∷ []) stack → on_number_types (IntType ∷ []) stack go ≡ go rest
int_found [] rest go h = cc
int_found (t ∷ stack) rest go h = int_by (is_number_type IntType t) stack rest go h
