-- The methods of a program in its image.
use Rattle.std.specs.Prelude.{◌≡◌, ℕ, List, length, map, slice_get, IfSome, IsSomeAnd}
use Rattle.std.specs.List.{range_with_len}
use Rattle.bytecode_model.specs.Program.{body_of}
use Rattle.class_pool.specs.declared.class.ClassFile.{ClassFile}
use Rattle.image_facts.specs.declared.method.CodedMethod.{CodedMethod}
use Rattle.image_facts.specs.Methods.{IsMethodRecord}
use Rattle.program_tables.specs.Resolved.{resolved}
use Rattle.image_words.specs.Regions.{places_of}

-- these are their places, by number
abbrev pub ArePlaced : List ClassFile → List ℕ → Type 0
ArePlaced cs places = places ≡ map (places_of cs).method (range_with_len 0 (length (resolved cs).methods))

-- each of these has code, and its number is its place among them
abbrev pub AreOnly : List ClassFile → List CodedMethod → Type 0
AreOnly cs methods = (m : ℕ) → IfSome (slice_get methods m) (λ e. IsSomeAnd (body_of (resolved cs) m) (λ b. IsMethodRecord ((places_of cs).method m) b e))
