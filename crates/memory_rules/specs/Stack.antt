-- The words that the frames of a run may take together (JVM Specification SE 8, 2.6).
use Rattle.std.specs.Prelude.{◌≡◌, ℕ, ◌≤◌, List, [], ◌∷◌, sum_by, Some, None}
use Rattle.bytecode_model.specs.Program.{Program, body_of}
use Rattle.bytecode_model.specs.Sizes.{body_words}
use Rattle.method_flow.specs.Recursion.{MayCall}

-- methods from one on, each of which the one before may call
pub data Chain (P : Program) : ℕ → List ℕ → Type 0 where
  alone : {m : ℕ} → Chain P m (m ∷ [])
  calling : {m t : ℕ} {ms : List ℕ} → MayCall P m t → Chain P t ms → Chain P m (m ∷ ms)

-- the words of a frame of the method
abbrev pub method_words : Program → (method : ℕ) → ℕ
method_words P m = elim (body_of P m) [ None ↦ 0 | Some b ↦ body_words b ]

abbrev pub chain_words : Program → List ℕ → ℕ
chain_words P ms = sum_by (method_words P) ms

-- no chain of methods from this one on has frames of more words, and one has just these
pub record IsStackNeedOf (P : Program) (m words : ℕ) : Type 0 where
  pub deepest : List ℕ
  pub chain : Chain P m deepest
  pub attained : chain_words P deepest ≡ words
  pub greatest : (ms : List ℕ) → Chain P m ms → chain_words P ms ≤ words

-- the words of frames that a run needs: those of the method that is run first
abbrev pub IsStackNeed : Program → (words : ℕ) → Type 0
IsStackNeed P words = IsStackNeedOf P P.boot words
