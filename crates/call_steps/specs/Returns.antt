-- What the opcodes that return make of the words of the stack (JVM Specification SE 8, 2.6.4 and 6.5).
use Rattle.std.specs.Prelude.{ℕ, ◌≡◌, ◌+◌, ◌-◌, ◌^◌, ◌<◌, ◌≤◌, true, List, [], ◌∷◌, ◌++◌, length, reverse, drop, slice_index}
use Rattle.jop_core.specs.declared.places.TheConstants.{METHOD, FRAME_SUM, STACK}
use Rattle.micro_flow.specs.declared.CostParams.{CostParams}
use Rattle.micro_flow.specs.Walk.{IsCost}
use Rattle.jop_core.specs.declared.halt.Halt.TheVariants.{Ended}
use Rattle.micro_sketch.specs.Sketch.{Sketch, can_find}
use Rattle.micro_sketch.specs.Stands.{Env, Reaches, IsDone}
use Rattle.micro_sketch.specs.Row.{words_of}
use Rattle.micro_sketch.specs.Rows.{Switch, Halts}
use Rattle.call_steps.specs.Method.{max_locals, frame_words, with_method, looked_up, as_it_stands}

pub data ReturnOp : Type 0 where
  Return : ReturnOp
  Ireturn : ReturnOp
  Areturn : ReturnOp
  Lreturn : ReturnOp

abbrev pub return_code : ReturnOp → ℕ
return_code Return = 177
return_code Ireturn = 172
return_code Areturn = 176
return_code Lreturn = 173

-- the words of the result, the top one first
abbrev pub result : ReturnOp → Sketch → List ℕ
result Return x = []
result Ireturn x = x.top ∷ []
result Areturn x = x.top ∷ []
result Lreturn x = x.top ∷ x.next ∷ []

-- what a frame saves of its caller: the SP, the place behind the invoke instruction, the VP, the pool and the method
pub record Saved : Type 0 where
  pub sp : ℕ
  pub jpc : ℕ
  pub vp : ℕ
  pub pool : ℕ
  pub method : ℕ

-- from the top down
abbrev pub saved_words : Saved → List ℕ
saved_words s = s.method ∷ s.pool ∷ s.vp ∷ s.jpc ∷ s.sp ∷ []

-- What a return needs: the frame is above that of a caller, which has these words on its stack, the top one first, and these below them.
pub record CanReturn (op : ReturnOp) (x : Sketch) : Type 0 where
  pub below : List ℕ
  pub words : List ℕ
  pub locals : List ℕ
  pub saved : Saved
  pub rest : List ℕ
  -- the words of the frame: local variables, saved words, operands
  pub deep : x.deep ≡ (below ++ reverse words) ++ locals
  pub stack : words_of x ≡ (result op x ++ rest) ++ saved_words saved
  pub vp : x.vp ≡ STACK + length (below ++ reverse words)
  pub locals_count : length locals ≡ max_locals x.memory (slice_index x.low METHOD)
  -- its last saved word has a place that is a word
  pub place : x.vp + length locals + 4 < 2 ^ 32
  -- the caller's place is among its words, of which some are on its stack
  pub saved_sp : saved.sp + 3 ≡ x.vp
  pub saved_jpc : saved.jpc < 2 ^ 16
  pub some : 5 ≤ length words
  pub from : STACK ≤ saved.vp
  pub to : saved.vp ≤ STACK + length below
  -- its method can become the current one
  pub caller : can_find x saved.method ≡ true
  pub sum : frame_words x.memory (slice_index x.low METHOD) ≤ slice_index x.low FRAME_SUM
  pub sums : slice_index x.low FRAME_SUM < 2 ^ 32

-- the caller goes on behind its invoke instruction, with the result on top of its words
abbrev pub return : (op : ReturnOp) (x : Sketch) → CanReturn op x → Switch
return op x c =
    looked_up x c.saved.method (record (as_it_stands x) {
      words = result op x ++ c.words;
      deep = c.below;
      low = with_method c.saved.pool c.saved.method (slice_index x.low FRAME_SUM - frame_words x.memory (slice_index x.low METHOD)) (drop 24 x.low);
      vp = c.saved.vp;
      jpc = c.saved.jpc;
    })

-- boot's frame, whose local variables begin the stack, is the last one
abbrev pub IsLast : Sketch → Type 0
IsLast x = x.vp ≡ STACK

-- The machine halts as ended, in at most the opcode's cost.
pub record RunsToEnd (n : ℕ) (p : CostParams) (x : Sketch) (e : Env) : Type 0 where
  pub after : Sketch
  pub reaches : Reaches n x after e
  pub done : IsDone after
  pub halts : Halts Ended x after
  pub cost : (c : ℕ) → IsCost (return_code Return) p c → reaches.cycles ≤ c
