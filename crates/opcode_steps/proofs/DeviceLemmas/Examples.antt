-- What the definitions say of some words.
use Rattle.std.proofs.Common.{◌≡◌, ℕ, List, [], ◌∷◌, Some, None, refl}
use Rattle.std.specs.declared.option.Option.{Option}
use Rattle.micro_sketch.specs.Sketch.{Sketch}
use Rattle.opcode_steps.specs.Devices.Opcodes.{Impdep1, Impdep2, effect}

-- the words 0x1ff, 3 and 5 on the stack, where these answers are to come
abbrev sample : List (Option ℕ) → Sketch → Sketch
sample answers x = record x { top = 0x1ff; next = 3; under = 5 ∷ []; answers = answers }

-- impdep1 takes the byte 65, and at the end of the input -1

takes_byte : (x : Sketch) → (effect Impdep1 (sample (Some 65 ∷ None ∷ []) x)).words ≡ 65 ∷ 0x1ff ∷ 3 ∷ 5 ∷ []
takes_byte x = refl

leaves_rest : (x : Sketch) → (effect Impdep1 (sample (Some 65 ∷ None ∷ []) x)).answers ≡ None ∷ []
leaves_rest x = refl

takes_end : (x : Sketch) → (effect Impdep1 (sample (None ∷ []) x)).words ≡ 0xffffffff ∷ 0x1ff ∷ 3 ∷ 5 ∷ []
takes_end x = refl

puts_none : (x : Sketch) → (effect Impdep1 (sample [] x)).output ≡ []
puts_none x = refl

-- impdep2 puts the low byte of the word on top out

puts_byte : (x : Sketch) → (effect Impdep2 (sample [] x)).output ≡ 0xff ∷ []
puts_byte x = refl

pops_word : (x : Sketch) → (effect Impdep2 (sample [] x)).words ≡ 3 ∷ 5 ∷ []
pops_word x = refl

takes_none : (x : Sketch) → (effect Impdep2 (sample (Some 65 ∷ []) x)).answers ≡ Some 65 ∷ []
takes_none x = refl
