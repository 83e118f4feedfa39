-- What the table of a program says of calls.
use Rattle.std.specs.Prelude.{◌≡◌, ℕ, ◌*◌, List, length, Contains, slice_get, Option, Some, None}
use Rattle.base.specs.Packed.{words_for}
use Rattle.method_cache.specs.Contents.{blocks_for}
use Rattle.method_flow.specs.Flow.{Flow, Coded, IsCoded, targets_of_call}
use Rattle.method_flow.specs.declared.flow.Call.{Call}

-- the method is in the table
pub record IsOfTable (f : Flow) (m : ℕ) : Type 0 where
  pub method : Coded
  pub is : slice_get f.methods m ≡ Some method
  pub coded : IsCoded method

-- these are the method's calls
pub record HasCalls (f : Flow) (m : ℕ) (calls : List Call) : Type 0 where
  pub code : IsOfTable f m
  pub are : calls ≡ code.method.calls

-- one of these calls may run the target
pub record IsTargetOf (f : Flow) (calls : List Call) (target : ℕ) : Type 0 where
  pub call : Call
  pub among : Contains calls call
  pub lists : Contains (targets_of_call f call) target

-- one of these calls, which stands at a node of the list, may run the target
pub record IsTargetAt (f : Flow) (calls : List Call) (nodes : List ℕ) (target : ℕ) : Type 0 where
  pub call : Call
  pub among : Contains calls call
  pub node : Contains nodes (2 * call.place)
  pub lists : Contains (targets_of_call f call) target

-- the method's call at the place may run the target
pub record RunsFrom (f : Flow) (m place target : ℕ) : Type 0 where
  pub code : IsOfTable f m
  pub call : Call
  pub among : Contains code.method.calls call
  pub at : call.place ≡ place
  pub lists : Contains (targets_of_call f call) target

-- some call of the method may run the target
pub record Runs (f : Flow) (m target : ℕ) : Type 0 where
  pub place : ℕ
  pub from : RunsFrom f m place target

-- some call of the method that stands at a node of the list may run the target
pub record RunsAt (f : Flow) (m : ℕ) (nodes : List ℕ) (target : ℕ) : Type 0 where
  pub place : ℕ
  pub node : Contains nodes (2 * place)
  pub from : RunsFrom f m place target

-- some methods, and what may run while these do
pub data IsReached (f : Flow) (K : ℕ → Type 0) : ℕ → Type 0 where
  given : {x : ℕ} → K x → IsReached f K x
  later : {x t : ℕ} → IsReached f K x → Runs f x t → IsReached f K t

-- ---- sizes

abbrev pub words_of : Option Coded → ℕ
words_of None = 0
words_of (Some k) = words_for (length k.code)

-- how many blocks of so many words the method's code takes
abbrev pub blocks_in : Flow → (block_words : ℕ) → (m : ℕ) → ℕ
blocks_in f block_words m = blocks_for block_words (words_of (slice_get f.methods m))
