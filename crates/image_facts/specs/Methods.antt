-- The methods of a program that have code, as a run of its image looks them up.
use Rattle.std.specs.Prelude.{◌≡◌, ℕ, ◌<◌, ◌^◌, List, length, map, slice_get, IfSome, IsSomeAnd}
use Rattle.std.specs.List.Sorted.{IsStrictlyIncreasing}
use Rattle.bytecode_model.specs.Program.{Program, Body, body_of}
use Rattle.image_facts.specs.Places.{Places}
use Rattle.image_facts.specs.declared.method.CodedMethod.{CodedMethod}

-- the record of a method with this body lies at the place
pub record IsMethodRecord (place : ℕ) (b : Body) (e : CodedMethod) : Type 0 where
  pub place_is : e.place ≡ place
  pub max_locals : e.max_locals ≡ b.max_locals
  pub code : e.code.now ≡ b.code

-- the places of their records
abbrev pub places : List CodedMethod → List ℕ
places methods = map (λ (e : CodedMethod). e.place) methods

-- These are the methods of the program that have code, by their numbers, which are words. Their records lie behind one another.
pub record AreMethods (P : Program) (pl : Places) (methods : List CodedMethod) : Type 0 where
  pub known : (m : ℕ) → IfSome (body_of P m) (λ b. IsSomeAnd (slice_get methods m) (IsMethodRecord (pl.method m) b))
  pub rising : IsStrictlyIncreasing (places methods)
  pub few : length methods < 2 ^ 32
