-- What the definitions say of some words.
use Rattle.std.proofs.Common.{◌≡◌, ℕ, true, false, List, [], ◌∷◌, refl}
use Rattle.std.specs.Prelude.{replicate, ◌++◌}
use Rattle.method_cache.specs.Contents.{Cache}
use Rattle.micro_sketch.specs.Sketch.{Sketch}
use Rattle.micro_sketch.specs.Rows.{Switch}
use Rattle.call_steps.specs.Method.{max_locals, max_stack, argument_words, pool, frame_words}
use Rattle.call_steps.specs.Calls.{Invokestatic, called, fits, call}
use Rattle.call_steps.specs.Entry.{sum_with}
use Rattle.call_steps.specs.Returns.{Return, Ireturn, Lreturn, result}

-- A method at place 12, of two local variables, three operands and one argument, whose class has its pool at 100; it has one word of code. The pool
-- of the caller's class lies at 4, and its entry 1 is that method.
abbrev memory : List ℕ
memory = 0 ∷ 0 ∷ 0 ∷ 0 ∷ 0 ∷ 0 ∷ 12 ∷ 0 ∷ 0 ∷ 0 ∷ 0 ∷ 0 ∷ 0x00020003 ∷ 0x00010001 ∷ 100 ∷ 0 ∷ 0xb1000000 ∷ []

-- The caller, at place 20, whose code begins with an invokestatic of entry 1, is cached.
abbrev cache : Cache
cache = record { blocks = 4; block_words = 8; contents = record { method = 20; words = 0xb8000100 ∷ [] } ∷ []; next = 1 }

-- Its frame is boot's: one local variable, five saved words and the operands 7 and 8; the frames have 9 words, and may have so many.
abbrev about_to_call : (most : ℕ) → Sketch → Sketch
about_to_call most x = record x {
  top = 8;
  next = 7;
  under = 5 ∷ 4 ∷ 3 ∷ 2 ∷ 1 ∷ [];
  deep = 6 ∷ [];
  vp = 64;
  jpc = 1;
  method = 20;
  cache = cache;
  memory = memory;
  low = replicate 24 0 ++ (4 ∷ 20 ∷ 0 ∷ 17 ∷ 9 ∷ most ∷ 7 ∷ 0 ∷ []);
}

-- its record

locals_read : max_locals memory 12 ≡ 2
locals_read = refl

operands_read : max_stack memory 12 ≡ 3
operands_read = refl

arguments_read : argument_words memory 12 ≡ 1
arguments_read = refl

pool_read : pool memory 12 ≡ 100
pool_read = refl

frame_read : frame_words memory 12 ≡ 10
frame_read = refl

-- the call

method_named : (x : Sketch) → called Invokestatic (about_to_call 176 x) ≡ 12
method_named x = refl

sum_taken : (x : Sketch) → sum_with (about_to_call 176 x) 12 ≡ 19
sum_taken x = refl

just_fits : (x : Sketch) → fits Invokestatic (about_to_call 19 x) ≡ true
just_fits x = refl

does_not_fit : (x : Sketch) → fits Invokestatic (about_to_call 18 x) ≡ false
does_not_fit x = refl

-- with the argument 8, and one further local variable of some word
abbrev made : Sketch → Switch
made x = call Invokestatic (about_to_call 176 x) (8 ∷ []) (7 ∷ 5 ∷ 4 ∷ 3 ∷ 2 ∷ 1 ∷ []) (99 ∷ [])

-- the method, the pool, the VP, the place behind the instruction, and the SP of the caller
saves : (x : Sketch) → (made x).words ≡ 20 ∷ 4 ∷ 64 ∷ 3 ∷ 68 ∷ []
saves x = refl

lies_above : (x : Sketch) → (made x).deep ≡ 6 ∷ 1 ∷ 2 ∷ 3 ∷ 4 ∷ 5 ∷ 7 ∷ 8 ∷ 99 ∷ []
lies_above x = refl

begins_at : (x : Sketch) → (made x).vp ≡ 71
begins_at x = refl

registers_set : (x : Sketch) → (made x).low ≡ 100 ∷ 12 ∷ 0 ∷ 17 ∷ 19 ∷ 176 ∷ 7 ∷ 0 ∷ []
registers_set x = refl

loads_it : (x : Sketch) → (made x).loaded ≡ 1
loads_it x = refl

-- results

none_returned : (x : Sketch) → result Return (about_to_call 176 x) ≡ []
none_returned x = refl

int_returned : (x : Sketch) → result Ireturn (about_to_call 176 x) ≡ 8 ∷ []
int_returned x = refl

long_returned : (x : Sketch) → result Lreturn (about_to_call 176 x) ≡ 8 ∷ 7 ∷ []
long_returned x = refl
