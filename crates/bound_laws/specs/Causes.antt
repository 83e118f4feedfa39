-- One cause at most forbids a bound of a method.
use Rattle.std.specs.Prelude.{◌≡◌, ℕ, List, Option, IsSome}
use Rattle.bytecode_model.specs.Program.{Program, body_of}
use Rattle.bytecode_typing.specs.Typed.{Typing, Typed}
use Rattle.bytecode_typing.specs.Lawful.{Lawful}
use Rattle.method_flow.specs.Keeping.{BoundOf}
use Rattle.method_flow.specs.declared.timing.Timing.{Timing}
use Rattle.bound_rules.specs.declared.faults.BoundRefusal.{BoundRefusal}
use Rattle.bound_rules.specs.declared.faults.BoundRefusal.TheVariants.{NoMethod, Recursion, Irreducible, MissingBound, TooLarge, NoMemory}
use Rattle.bound_rules.specs.Bounding.{IsAsked, HasNoCause, IsCause}
use Rattle.bound_rules.specs.Numbers.{IsPrinted}
use Rattle.bound_laws.specs.Existing.{HaveOwnCosts}

-- this forbids a bound; want of memory doesn't
abbrev pub IsForbidding : Program → Timing → BoundOf → (named : ℕ → Type 0) → BoundRefusal → Type 0
IsForbidding P t bound_of named NoMemory = ⊥
IsForbidding P t bound_of named refusal = IsCause P t bound_of named refusal

-- they are the same, but that one cycle of calls may be told or another
abbrev pub IsSameRefusal : BoundRefusal → BoundRefusal → Type 0
IsSameRefusal NoMethod NoMethod = Unit {0}
IsSameRefusal (Recursion cycle) (Recursion other) = Unit {0}
IsSameRefusal (Irreducible m nodes) (Irreducible x others) = (m ≡ x) × (nodes.items ≡ others.items)
IsSameRefusal (MissingBound m p) (MissingBound x q) = (m ≡ x) × (p ≡ q)
IsSameRefusal (TooLarge m) (TooLarge x) = m ≡ x
IsSameRefusal a b = ⊥

-- the method has the name
abbrev pub Bears : (name_of : ℕ → List ℕ) → (name : List ℕ) → (method : ℕ) → Type 0
Bears name_of name m = name_of m ≡ name

-- two methods with code of one name are one
abbrev pub NamesAreApart : Program → (name_of : ℕ → List ℕ) → Type 0
NamesAreApart P name_of = (m n : ℕ) → IsSome (body_of P m) → IsSome (body_of P n) → name_of m ≡ name_of n → m ≡ n

-- So what forbids a bound of the method of a name is the same refusal, whatever forbids it.
abbrev pub RefusalsAreOne : Type 0
RefusalsAreOne =
    (P : Program) (types : Typing) (t : Timing) (bound_of : BoundOf) (name_of : ℕ → List ℕ) (name : List ℕ) (a b : BoundRefusal) → Typed P types → Lawful P
    → HaveOwnCosts P t → NamesAreApart P name_of → IsForbidding P t bound_of (Bears name_of name) a → IsForbidding P t bound_of (Bears name_of name) b
    → IsSameRefusal a b

-- And where there is no cause to refuse a bound of it, and something is printed of it, nothing forbids one.
abbrev pub PrintedIsNotForbidden : Type 0
PrintedIsNotForbidden =
    (P : Program) (t : Timing) (bound_of : BoundOf) (name_of : ℕ → List ℕ) (name : List ℕ) (root : ℕ) (printed : Option ℕ) (refusal : BoundRefusal)
    → NamesAreApart P name_of → IsAsked P (Bears name_of name) root → HasNoCause P t bound_of root → IsPrinted P t bound_of root printed
    → ¬ IsForbidding P t bound_of (Bears name_of name) refusal
