-- Parts of a line, and what a reader finds in one.
use Rattle.std.specs.Prelude.{◌≡◌, ◌≢◌, ℕ, List, [], ◌∷◌, ◌++◌, Option, Some, None}
use Rattle.std.specs.List.{AllByRecursion}

abbrev pub HasNoSpace : List ℕ → Type 0
HasNoSpace = AllByRecursion (λ byte. byte ≢ 32)

-- nothing, or a space and what stands behind it
abbrev pub IsBehindPart : List ℕ → Type 0
IsBehindPart [] = Unit {0}
IsBehindPart (byte ∷ bytes) = byte ≡ 32

-- the text up to its first space, and the rest
pub record IsFirstPart (text part rest : List ℕ) : Type 0 where
  pub whole : text ≡ part ++ rest
  pub no_space : HasNoSpace part
  pub behind : IsBehindPart rest

-- A value is found exactly where the text is that of a value in range.
abbrev pub Finds : {X : Type 0} → (text_of : X → List ℕ) → (IsIn : X → Type 0) → (text : List ℕ) → Option X → Type 0
Finds text_of IsIn text (Some x) = (text ≡ text_of x) × IsIn x
Finds {X} text_of IsIn text None = (x : X) → IsIn x → text ≢ text_of x

-- the same of a value with a view
abbrev pub FindsAs : {Y X : Type 0} → (view : Y → X) → (text_of : X → List ℕ) → (IsIn : X → Type 0) → (text : List ℕ) → Option Y → Type 0
FindsAs view text_of IsIn text (Some y) = (text ≡ text_of (view y)) × IsIn (view y)
FindsAs {Y} {X} view text_of IsIn text None = (x : X) → IsIn x → text ≢ text_of x
