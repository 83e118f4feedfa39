-- Each type may stand for itself, where there is a class at all.
use Rattle.std.proofs.Common.{◌≡◌, ℕ, ◌<◌, Bool, true, false, ◌||◌, ◌==◌, List, [], ◌∷◌, length, Option, Some, None, refl, sym, ap, ◌∙◌, arith}
use Rattle.std.specs.List.{flat_map, list_any}
use Rattle.std.proofs.lemmas.Bool.{eq-eqb}
use Rattle.lists.specs.Numbers.{reached}
use Rattle.class_pool.specs.declared.class.ClassFile.{ClassFile}
use Rattle.class_lookup.specs.Hierarchy.{direct_supertypes, supertypes, extends, is_interface}
use Rattle.bytecode_model.specs.Types.{Kind, OfClass, OfNumbers, OfReferences}
use Rattle.bytecode_model.specs.Program.{object_class}
use Rattle.program_tables.specs.Resolved.{resolved}
use Rattle.bytecode_typing.specs.Types.{VarType, Top, Integer, LongInteger, NullReference, UninitializedThis, Uninitialized, ReferenceTo}
use Rattle.bytecode_typing.specs.Assignable.{is_assignable, is_assignable_kind}
use Rattle.verifier_types.specs.Compared.{stands}

extends_self : (cs : List ClassFile) (c : ℕ) → 0 < length cs → extends cs c c ≡ true
unfolding supertypes
extends_self [] c h = absurd (omega (arith, h))
extends_self (x ∷ xs) c h = ap (λ b. b || list_any (λ k. k == c) (flat_map (reached (direct_supertypes (x ∷ xs)) (length xs)) (direct_supertypes (x ∷ xs) c))) (eq-eqb c c refl)

or_true : (b : Bool) → (b || true) ≡ true
or_true true = refl
or_true false = refl

kind_self : (cs : List ClassFile) → 0 < length cs → (k : Kind) → is_assignable_kind (resolved cs) k k ≡ true
kind_self cs h (OfClass c) =
    ap (λ b. is_interface cs c || (c == object_class || b)) (extends_self cs c h)
    ∙ (ap (λ b. is_interface cs c || b) (or_true (c == object_class)) ∙ or_true (is_interface cs c))
kind_self cs h (OfNumbers code) = eq-eqb code code refl
kind_self cs h (OfReferences k) = kind_self cs h k

type_self : (cs : List ClassFile) → 0 < length cs → (t : VarType) → is_assignable (resolved cs) t t ≡ true
type_self cs h Top = refl
type_self cs h Integer = refl
type_self cs h LongInteger = refl
type_self cs h NullReference = refl
type_self cs h UninitializedThis = refl
type_self cs h (Uninitialized p) = eq-eqb p p refl
type_self cs h (ReferenceTo k) = kind_self cs h k

pub stand_self : (cs : List ClassFile) → 0 < length cs → (o : Option VarType) → true ≡ stands (resolved cs) o o
stand_self cs h None = refl
stand_self cs h (Some t) = sym (type_self cs h t)
