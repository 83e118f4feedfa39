-- Where the moving part of the stack begins and ends among the on-chip words.
use Rattle.std.specs.Prelude.{ℕ, ◌≡◌, Bool, List, ◌++◌, Some, slice_index}
use mathlib.Core.List.{reverse_aux}
use Rattle.microcode.specs.declared.isa.Body.TheVariants.{Plain}
use Rattle.microcode.specs.declared.isa.Micro.{Micro}
use Rattle.microcode.specs.declared.isa.operation.Operation.{Operation}
use Rattle.microcode.specs.Isa.Operations.{operation_of}
use Rattle.microcode.specs.Isa.Words.{micro_of}
use Rattle.microcode.specs.declared.TheConstants.{WORDS}
use Rattle.micro_sketch.specs.Sketch.{Sketch, apop}

-- the on-chip words from place 64 on
abbrev pub whole : Sketch → List ℕ
whole x = x.deep ++ reverse_aux x.under x.above

-- x with these words below the moving part of the stack, in it and past it
abbrev pub split : Sketch → (deep under above : List ℕ) → Sketch
split x deep under above = record x { deep = deep; under = under; above = above }

-- x with its last deep words taken as part of the moving part; words has them, the last one first
abbrev pub reframed : Sketch → (deep words : List ℕ) → Sketch
reframed x deep words = record x { deep = deep; under = x.under ++ words }

-- x after SP came down to a place among its deep words: under has the words from there down to the last of deep, and gone those past it
abbrev pub cut : Sketch → (deep under gone : List ℕ) → Sketch
cut x deep under gone = let y = apop x in record y { deep = deep; under = under; above = gone ++ reverse_aux y.under y.above }

-- the word at mpc is this operation, with these flags
pub record RunsNext (op : Operation) (opd nxt : Bool) (x : Sketch) : Type 0 where
  pub code : ℕ
  pub word : let m : Micro = record { body = Plain code; opd = opd; nxt = nxt } in micro_of (slice_index WORDS x.mpc) ≡ Some m
  pub is : operation_of code ≡ op
