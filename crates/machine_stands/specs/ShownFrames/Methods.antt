-- Methods by the place of their record.
use Rattle.std.specs.Prelude.{◌≡◌, ℕ, ◌<◌, ◌^◌, List, length, slice_get, IsSomeAnd, Some}
use Rattle.std.specs.List.Sorted.{IsStrictlyIncreasing}
use Rattle.image_facts.specs.declared.method.CodedMethod.{CodedMethod}
use Rattle.image_facts.specs.Methods.{places}

-- the record of one of them lies at the place
pub record IsThere (methods : List CodedMethod) (place : ℕ) : Type 0 where
  pub rising : IsStrictlyIncreasing (places methods)
  pub few : length methods < 2 ^ 32
  pub number : ℕ
  pub lies : IsSomeAnd (slice_get methods number) (λ e. e.place ≡ place)

-- it is that of the method of this number
pub record IsNumberAt (methods : List CodedMethod) (place number : ℕ) : Type 0 where
  pub lies : IsSomeAnd (slice_get methods number) (λ e. e.place ≡ place)
  pub alone : (m : ℕ) → IsSomeAnd (slice_get methods m) (λ e. e.place ≡ place) → m ≡ number

-- it is that of this method
abbrev pub IsMethodAt : List CodedMethod → (place : ℕ) → CodedMethod → Type 0
IsMethodAt methods place method = (m : ℕ) (e : CodedMethod) → slice_get methods m ≡ Some e → e.place ≡ place → method ≡ e
