-- The words of the machine's stack.
use Rattle.std.proofs.Common.{◌≡◌, ℕ, ◌+◌, ◌-◌, ◌<◌, ◌≤◌, List, [], ◌∷◌, ◌++◌, length, take, drop, min, get_or, ◌∙◌, ap, arith, length-append, length-take, length-drop}
use Rattle.std.proofs.lemmas.List.{get_or_append_left, get_or-append-add, get_or-append_right, get_or-take, get_or-drop}
use Rattle.jop_core.specs.declared.places.TheConstants.{STACK}
use Rattle.jop_core.specs.State as machine
use Rattle.machine_stands.specs.StandsFor.{stack_words}
use Rattle.machine_stands.specs.ShownFrames.Frames.{HasStack}

-- ---- a word of some that lie between others

pub read_between : (front left middle right behind : List ℕ) (i k : ℕ) → i ≡ length front + length left + k → k < length middle
    → get_or ((front ++ (left ++ (middle ++ right))) ++ behind) i 0 ≡ get_or middle k 0
read_between front left middle right behind i k is within =
    let more : length front + (length left + k) < length (front ++ (left ++ (middle ++ right))) =
    omega (arith, length-append front (left ++ (middle ++ right)), length-append left (middle ++ right), length-append middle right) in
    ap (λ j. get_or ((front ++ (left ++ (middle ++ right))) ++ behind) j 0) (let e : i ≡ length front + (length left + k) = omega arith in e)
    ∙ get_or_append_left (front ++ (left ++ (middle ++ right))) behind 0 (length front + (length left + k)) more
    ∙ get_or-append-add front (left ++ (middle ++ right)) (length left + k) 0
    ∙ get_or-append-add left (middle ++ right) k 0
    ∙ get_or_append_left middle right 0 k within

-- ---- the words of the stack

module _ (n : ℕ) (m : machine.MachineState) (has : HasStack n m) where
  chip_count : length (take (m.sp + 1 - STACK) (drop STACK m.stack)) ≡ m.sp + 1 - STACK
  chip_count = length-take (m.sp + 1 - STACK) (drop STACK m.stack) ∙ ap (λ k. min (m.sp + 1 - STACK) k) (length-drop STACK m.stack ∙ ap (λ k. k - STACK) has.count) ∙ omega (arith, has.low, has.high)

  pub stack_count : length (stack_words m) ≡ m.sp + 3 - STACK
  stack_count = length-append (take (m.sp + 1 - STACK) (drop STACK m.stack)) (m.b ∷ m.a ∷ []) ∙ omega (arith, chip_count, has.low)

  pub word_on_chip : (place : ℕ) → STACK ≤ place → place ≤ m.sp → get_or (stack_words m) (place - STACK) 0 ≡ get_or m.stack place 0
  word_on_chip place low high =
      get_or_append_left (take (m.sp + 1 - STACK) (drop STACK m.stack)) (m.b ∷ m.a ∷ []) 0 (place - STACK) (omega (arith, chip_count, low, high))
      ∙ get_or-take (m.sp + 1 - STACK) (drop STACK m.stack) (place - STACK) 0 (omega (arith, low, high))
      ∙ get_or-drop STACK m.stack (place - STACK) 0
      ∙ ap (λ k. get_or m.stack k 0) (let e : STACK + (place - STACK) ≡ place = omega (arith, low) in e)

  pub word_in_b : (place : ℕ) → place ≡ m.sp + 1 → get_or (stack_words m) (place - STACK) 0 ≡ m.b
  word_in_b place is =
      get_or-append_right (take (m.sp + 1 - STACK) (drop STACK m.stack)) (m.b ∷ m.a ∷ []) (m.sp + 1 - STACK) (place - STACK) 0 chip_count (omega (arith, is, has.low))
      ∙ ap (λ k. get_or (m.b ∷ m.a ∷ []) k 0) (let e : place - STACK - (m.sp + 1 - STACK) ≡ 0 = omega (arith, is, has.low) in e)

  pub word_in_a : (place : ℕ) → place ≡ m.sp + 2 → get_or (stack_words m) (place - STACK) 0 ≡ m.a
  word_in_a place is =
      get_or-append_right (take (m.sp + 1 - STACK) (drop STACK m.stack)) (m.b ∷ m.a ∷ []) (m.sp + 1 - STACK) (place - STACK) 0 chip_count (omega (arith, is, has.low))
      ∙ ap (λ k. get_or (m.b ∷ m.a ∷ []) k 0) (let e : place - STACK - (m.sp + 1 - STACK) ≡ 1 = omega (arith, is, has.low) in e)
