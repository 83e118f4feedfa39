-- What is taken off the stack, as the rules take it.
use Rattle.std.proofs.Common.{◌≡◌, Bool, true, false, List, [], ◌∷◌, Option, Some, None, refl, ◌∙◌}
use Rattle.std.specs.Prelude.{if◌then◌else◌, map}
use Rattle.bytecode_model.specs.Types.{NumberType, Declared}
use Rattle.bytecode_model.specs.Program.{Program}
use Rattle.bytecode_typing.specs.Types.{VarType, is_reference_type, type_of}
use Rattle.bytecode_typing.specs.Assignable.{is_assignable_item}
use Rattle.bytecode_typing.specs.Rules as rule
use Rattle.bytecode_typing.specs.Rules.{Checked, need, found, on_type, on_reference, on_number_types, on_argument_types, is_number_type}
use Rattle.verifier_types.specs.Laws.{TakingLaw}
use Rattle.verifier_types.specs.Taken.{item_taken, reference_taken, numbers_taken, arguments_taken, with_item}

-- a thing is found where a test holds
needed : {A : Type 0} (b : Bool) (o : Option A) (c : Checked) (go : A → Checked) → c ≡ found o rule.Stack go → need b rule.Stack c ≡ found (if b then o else None) rule.Stack go
needed true o c go h = h
needed false o c go h = refl

item : (stack : List VarType) (go : VarType → List VarType → Checked) → on_type stack go ≡ found (item_taken stack) rule.Stack (λ x. go x.0 x.1)
item [] go = refl
item (t ∷ rest) go = refl

reference : (stack : List VarType) (go : VarType → List VarType → Checked) → on_reference stack go ≡ found (reference_taken stack) rule.Stack (λ x. go x.0 x.1)
reference [] go = refl
reference (t ∷ rest) go = needed (is_reference_type t) (Some (t, rest)) (go t rest) (λ x. go x.0 x.1) refl

numbers : (ns : List NumberType) (stack : List VarType) (go : List VarType → Checked) → on_number_types ns stack go ≡ found (numbers_taken ns stack) rule.Stack go
numbers [] stack go = refl
numbers (n ∷ ns) [] go = refl
numbers (n ∷ ns) (t ∷ rest) go = needed (is_number_type n t) (numbers_taken ns rest) (on_number_types ns rest go) go (numbers ns rest go)

-- one more is taken
with_next : (t : VarType) (o : Option (List VarType × List VarType)) (go : List VarType → List VarType → Checked)
    → found o rule.Stack (λ x. go (t ∷ x.0) x.1) ≡ found (with_item t o) rule.Stack (λ x. go x.0 x.1)
with_next t None go = refl
with_next t (Some x) go = refl

arguments : (P : Program) (seen : VarType → VarType) (ds : List Declared) (stack : List VarType) (go : List VarType → List VarType → Checked)
    → on_argument_types P seen ds stack go ≡ found (arguments_taken P seen (map type_of ds) stack) rule.Stack (λ x. go x.0 x.1)
arguments P seen [] stack go = refl
arguments P seen (d ∷ ds) [] go = refl
arguments P seen (d ∷ ds) (t ∷ rest) go =
    needed (is_assignable_item P (seen t) (type_of d)) (with_item t (arguments_taken P seen (map type_of ds) rest)) (on_argument_types P seen ds rest (λ taken rest2. go (t ∷ taken) rest2)) (λ x. go x.0 x.1)
    (arguments P seen ds rest (λ taken rest2. go (t ∷ taken) rest2) ∙ with_next t (arguments_taken P seen (map type_of ds) rest) go)

pub taking : TakingLaw
taking = record { item = item; reference = reference; numbers = numbers; arguments = arguments }
