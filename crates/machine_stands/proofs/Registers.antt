-- The on-chip words between the scratch words and the stack, as a list and by name.
use Rattle.std.proofs.Common.{◌≡◌, ℕ, ◌+◌, ◌-◌, ◌<◌, ◌≤◌, List, [], ◌∷◌, ◌++◌, length, take, drop, refl, sym, ◌∙◌, ap, arith, length-take, length-drop}
use Rattle.std.specs.Prelude.{slice_index}
use Rattle.std.proofs.lemmas.List.{get_or-take, get_or-drop, get_or_append_left}
use Rattle.jop_core.specs.declared.places.TheConstants.{RAISED}
use Rattle.jop_core.specs.State as machine
use Rattle.bytecode_model.specs.State.{Frame, State}
use Rattle.bytecode_model.specs.Program.{Program}
use Rattle.image_facts.specs.Places.{Places}
use Rattle.machine_stands.specs.StandsFor.{HasRegisters}
use Rattle.machine_stands.specs.Again.{registers_of}

-- eight words, one by one
pub listed : (xs : List ℕ) → length xs ≡ 8
    → xs ≡ slice_index xs 0 ∷ slice_index xs 1 ∷ slice_index xs 2 ∷ slice_index xs 3 ∷ slice_index xs 4 ∷ slice_index xs 5 ∷ slice_index xs 6 ∷ slice_index xs 7 ∷ []
listed [] h = absurd (omega (arith, h))
listed (a ∷ []) h = absurd (omega (arith, h))
listed (a ∷ b ∷ []) h = absurd (omega (arith, h))
listed (a ∷ b ∷ c ∷ []) h = absurd (omega (arith, h))
listed (a ∷ b ∷ c ∷ d ∷ []) h = absurd (omega (arith, h))
listed (a ∷ b ∷ c ∷ d ∷ e ∷ []) h = absurd (omega (arith, h))
listed (a ∷ b ∷ c ∷ d ∷ e ∷ f ∷ []) h = absurd (omega (arith, h))
listed (a ∷ b ∷ c ∷ d ∷ e ∷ f ∷ g ∷ []) h = absurd (omega (arith, h))
listed (a ∷ b ∷ c ∷ d ∷ e ∷ f ∷ g ∷ i ∷ []) h = refl
listed (a ∷ b ∷ c ∷ d ∷ e ∷ f ∷ g ∷ i ∷ j ∷ xs) h = absurd (omega (arith, h))

low_word : (stack : List ℕ) (k : ℕ) → k < 8 → slice_index (drop 24 (take 32 stack)) k ≡ slice_index stack (24 + k)
low_word stack k h = get_or-drop 24 (take 32 stack) k 0 ∙ get_or-take 32 stack (24 + k) 0 (omega (arith, h))

pub registers_listed : (P : Program) (pl : Places) (n size : ℕ) (m : machine.MachineState) (s : State) (f : Frame) → 64 ≤ length m.stack → HasRegisters P pl n size m s f
    → drop 24 (take 32 m.stack) ≡ registers_of P pl n size s f (slice_index m.stack RAISED)
registers_listed P pl n size m s f long h =
    let xs = drop 24 (take 32 m.stack) in
    let count : length xs ≡ 8 = length-drop 24 (take 32 m.stack) ∙ ap (λ (k : ℕ). k - 24) (length-take 32 m.stack) ∙ omega (arith, long) in
    let a = low_word m.stack 0 (omega arith) ∙ h.pool in
    let b = low_word m.stack 1 (omega arith) ∙ h.method in
    let c = low_word m.stack 2 (omega arith) ∙ h.next_free in
    let d = low_word m.stack 3 (omega arith) ∙ h.memory_end in
    let e = low_word m.stack 4 (omega arith) ∙ h.frame_sum in
    let g = low_word m.stack 5 (omega arith) ∙ h.frame_limit in
    let i = low_word m.stack 6 (omega arith) ∙ h.raise_list in
    let j = low_word m.stack 7 (omega arith) in
    listed xs count ∙ cc

-- a word of a list whose first words are these
pub low_at : (low rest : List ℕ) (k : ℕ) → length low ≡ 32 → k < 8 → slice_index (low ++ rest) (24 + k) ≡ slice_index (drop 24 low) k
low_at low rest k h l = get_or_append_left low rest 0 (24 + k) (omega (arith, h, l)) ∙ sym (get_or-drop 24 low k 0)
