-- What the rules say where what they take is there, and where it isn't.
use Rattle.std.proofs.Common.{◌≡◌, true, ℤ, List, Option, Some, None, sym, ap, ◌∙◌}
use Rattle.bytecode_model.specs.Types.{NumberType}
use Rattle.bytecode_model.specs.Program.{Program}
use Rattle.bytecode_typing.specs.Types.{VarType, TypeFrame}
use Rattle.bytecode_typing.specs.Assignable.{flows_to}
use Rattle.bytecode_typing.specs.Checks as checks
use Rattle.bytecode_typing.specs.Rules as rule
use Rattle.bytecode_typing.specs.Rules.{Checked, Fails, Leaves, found, on_type, on_reference, on_number_types}
use Rattle.verifier_types.specs.Site.{Site, target_at}
use Rattle.verifier_types.specs.Taken.{item_taken, reference_taken, numbers_taken}
use Rattle.verifier_types.proofs.TakingLemmas.{taking}

pub item_found : (stack : List VarType) (t : VarType) (rest : List VarType) (go : VarType → List VarType → Checked) → Some (t, rest) ≡ item_taken stack → on_type stack go ≡ go t rest
item_found stack t rest go h = taking.item stack go ∙ ap (λ o. found o rule.Stack (λ x. go x.0 x.1)) (sym h)

pub item_lost : (stack : List VarType) (go : VarType → List VarType → Checked) → None ≡ item_taken stack → on_type stack go ≡ Fails rule.Stack
item_lost stack go h = taking.item stack go ∙ ap (λ o. found o rule.Stack (λ x. go x.0 x.1)) (sym h)

pub reference_found : (stack : List VarType) (t : VarType) (rest : List VarType) (go : VarType → List VarType → Checked) → Some (t, rest) ≡ reference_taken stack → on_reference stack go ≡ go t rest
reference_found stack t rest go h = taking.reference stack go ∙ ap (λ o. found o rule.Stack (λ x. go x.0 x.1)) (sym h)

pub reference_lost : (stack : List VarType) (go : VarType → List VarType → Checked) → None ≡ reference_taken stack → on_reference stack go ≡ Fails rule.Stack
reference_lost stack go h = taking.reference stack go ∙ ap (λ o. found o rule.Stack (λ x. go x.0 x.1)) (sym h)

pub numbers_found : (ns : List NumberType) (stack rest : List VarType) (go : List VarType → Checked) → Some rest ≡ numbers_taken ns stack → on_number_types ns stack go ≡ go rest
numbers_found ns stack rest go h = taking.numbers ns stack go ∙ ap (λ o. found o rule.Stack go) (sym h)

pub numbers_lost : (ns : List NumberType) (stack : List VarType) (go : List VarType → Checked) → None ≡ numbers_taken ns stack → on_number_types ns stack go ≡ Fails rule.Stack
numbers_lost ns stack go h = taking.numbers ns stack go ∙ ap (λ o. found o rule.Stack go) (sym h)

-- control goes on with this operand stack, and all rules hold
abbrev pub behind : TypeFrame → List VarType → Checked
behind f st = Leaves (Some (record f { stack = st })) true true true

-- a branch with this operand stack
pub reached : (s : Site) (P : Program) (f : TypeFrame) (st : List VarType) (offset : ℤ) (target : Option TypeFrame) → s.program ≡ P → target_at s f offset ≡ target
    → flows_to P (record f { stack = st }) target ≡ checks.reaches s.program s.number s.method s.body s.maps s.place f st offset
reached s P f st offset target p t = ap (λ Q. flows_to Q (record f { stack = st }) target) (sym p) ∙ ap (flows_to s.program (record f { stack = st })) (sym t)
