-- A step loads just where the machine counts a miss.
use Rattle.std.proofs.Common.{◌≡◌, ℕ, ◌+◌, ◌%◌, ◌^◌, Bool, true, false, not, List, [], ◌∷◌, length, filter, Option, Some, None, refl, arith}
use Rattle.std.specs.Option.{IsSomeAnd}
use Rattle.base.specs.Packed.{words_of_bytes}
use Rattle.method_cache.specs.Contents.{is_cached}
use Rattle.bytecode_model.specs.Program.{Body, body_of}
use Rattle.machine_stands.specs.Comes.{found_by, Found, LooksUp}
use Rattle.activations.specs.Setting.{Setting}
use Rattle.activations.specs.Activations.{Stage, Follows}
use Rattle.activations.specs.Steps.{place_of}
use Rattle.bound_laws.specs.Soundness.Loads.{LoadsAreMisses}

module _ (g : Setting) (a b : Stage) (follows : Follows g a b) where
  -- of these look-ups, those that the cache doesn't hold
  abbrev missed : List ℕ → List ℕ
  missed ls = filter (λ place. not (is_cached place a.machine.cache)) ls

  abbrev Counts : List ℕ → Type 0
  Counts ls = b.machine.misses % 2 ^ 64 ≡ (a.machine.misses + length (missed ls)) % 2 ^ 64

  same_misses : follows.comes.new.misses ≡ b.machine.misses
  same_misses = rw follows.new_is refl

  by_hit : (k : ℕ) (ws : List ℕ) (hit : Bool) → is_cached k a.machine.cache ≡ hit → Found hit k ws a.machine follows.comes.new follows.comes.stall → Counts (k ∷ [])
  by_hit k ws true is found =
      let none : length (missed (k ∷ [])) ≡ 0 = rw is refl in
      let same = found.3 in
      let its = same_misses in
      omega arith
  by_hit k ws false is found =
      let one : length (missed (k ∷ [])) ≡ 1 = rw is refl in
      let more = found.3 in
      let its = same_misses in
      omega arith

  counts : (o : Option ℕ) → LooksUp g.program g.places o a.machine follows.comes.new follows.comes.stall → Counts (place_of g.places o)
  counts None h =
      let same = h.3 in
      let its = same_misses in
      omega arith
  counts (Some k) h = by (body_of g.program k) h
    where
      by : (o : Option Body) → IsSomeAnd o (λ x. Found (is_cached (g.places.method k) a.machine.cache) (g.places.method k) (words_of_bytes x.code) a.machine follows.comes.new follows.comes.stall)
          → Counts (g.places.method k ∷ [])
      by None h' = absurd h'
      by (Some x) h' = by_hit (g.places.method k) (words_of_bytes x.code) (is_cached (g.places.method k) a.machine.cache) refl h'

pub loads_are_misses : LoadsAreMisses
loads_are_misses g a b follows = counts g a b follows (found_by a.state b.state) follows.comes.look_up
