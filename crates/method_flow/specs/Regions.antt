-- Which methods may run while a method does, or while control stays among some of its nodes, and what it takes to load them into the method cache
-- (JOP Reference Handbook, "Method Cache").
use Rattle.std.specs.Prelude.{◌≡◌, ◌↔◌, ℕ, ◌*◌, ◌≤◌, List, length, sum_by, Contains, IsSome, Some, None}
use Rattle.base.specs.Packed.{words_for}
use Rattle.method_cache.specs.Contents.{blocks_for}
use Rattle.method_cache.specs.Regions.Region.{AreDistinct, load_stall}
use Rattle.bytecode_model.specs.Program.{Program, body_of}
use Rattle.method_flow.specs.Calls.{IsCall, IsStartOf, IsTarget}

-- The method itself, and what the invokes of its code may run, whether control comes to them or not, with all that runs while these do.
pub data IsWithin (P : Program) : (method within : ℕ) → Type 0 where
  itself : {m : ℕ} → IsWithin P m m
  calls : {m t x : ℕ} (p : ℕ) → IsStartOf P m p → IsCall P m p → IsTarget P m p t → IsWithin P t x → IsWithin P m x

-- The method, and what the invokes at these of its nodes may run, with all that runs while these do.
pub data IsWithinNodes (P : Program) (m : ℕ) (nodes : List ℕ) (x : ℕ) : Type 0 where
  itself : x ≡ m → IsWithinNodes P m nodes x
  calls : (p t : ℕ) → Contains nodes (2 * p) → IsStartOf P m p → IsCall P m p → IsTarget P m p t → IsWithin P t x → IsWithinNodes P m nodes x

-- these are exactly the methods of a set, each once
pub record AreMethodsOf (K : ℕ → Type 0) (xs : List ℕ) : Type 0 where
  pub distinct : AreDistinct xs
  pub each : (x : ℕ) → Contains xs x ↔ K x

-- the region of a method
abbrev pub IsRegion : Program → (method : ℕ) → List ℕ → Type 0
IsRegion P m xs = AreMethodsOf (IsWithin P m) xs

-- the words of a method's code
abbrev pub code_words : Program → (method : ℕ) → ℕ
code_words P m = elim (body_of P m) [ None ↦ 0 | Some b ↦ words_for (length b.code) ]

-- these methods fit a cache of so many blocks together
abbrev pub Fit : Program → (blocks block_words : ℕ) → List ℕ → Type 0
Fit P blocks block_words xs = sum_by (λ x. blocks_for block_words (code_words P x)) xs ≤ blocks

-- the cycles that the load of a method stalls, where a read waits r cycles
abbrev pub load : Program → (r : ℕ) → (method : ℕ) → ℕ
load P r m = load_stall r (code_words P m)

-- and the loads of all of these
abbrev pub loads : Program → (r : ℕ) → List ℕ → ℕ
loads P r xs = sum_by (load P r) xs

-- the greatest load of a method with code takes so many cycles
pub record IsGreatestLoad (P : Program) (r cycles : ℕ) : Type 0 where
  pub method : ℕ
  pub coded : IsSome (body_of P method)
  pub attained : load P r method ≡ cycles
  pub greatest : (m : ℕ) → IsSome (body_of P m) → load P r m ≤ cycles
