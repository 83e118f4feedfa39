-- Kinds of objects as numbers, by which a proof tells them apart.
use Rattle.std.specs.Prelude.{◌≡◌, ℕ, zero, suc, Bool, true, false, refl}
use Rattle.std.specs.Coded.{Coded, code_by, coded×, coded_ℕ, coded_bool}
use Rattle.std.proofs.Common.{ap}
use Rattle.bytecode_model.specs.Types.{Kind, OfClass, OfNumbers, OfReferences}

-- how many dimensions it has beside those of its base, whether that is a class, and the number of the class or the code of the numbers
abbrev pub kind_parts : Kind → ℕ × (Bool × ℕ)
kind_parts (OfClass class) = (0, (true, class))
kind_parts (OfNumbers code) = (0, (false, code))
kind_parts (OfReferences kind) = (suc (kind_parts kind).0, (kind_parts kind).1)

abbrev pub base_of_parts : Bool → ℕ → Kind
base_of_parts true n = OfClass n
base_of_parts false n = OfNumbers n

abbrev pub kind_of_parts : ℕ → Bool × ℕ → Kind
kind_of_parts zero b = base_of_parts b.0 b.1
kind_of_parts (suc n) b = OfReferences (kind_of_parts n b)

pub kind_again : (k : Kind) → kind_of_parts (kind_parts k).0 (kind_parts k).1 ≡ k
kind_again (OfClass class) = refl
kind_again (OfNumbers code) = refl
kind_again (OfReferences kind) = ap OfReferences (kind_again kind)

abbrev pub kind_code : Coded Kind
kind_code = code_by (ℕ × (Bool × ℕ)) (coded× coded_ℕ (coded× coded_bool coded_ℕ)) kind_parts (λ p. kind_of_parts p.0 p.1) kind_again
