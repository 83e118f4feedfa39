-- What holds of the tables of the microcode.
use Rattle.std.specs.Prelude.{ℕ, ◌+◌, List, [], ◌∷◌, Bool, true, false, ◌&&◌, ◌==◌, nat_le, if◌then◌else◌, is_some, option_and_then, option_map, Some, None}
use Rattle.std.specs.Prelude.{IsTrue}
use Rattle.std.specs.List.{find}
use Rattle.std.specs.Option.{option_map_or}
use Rattle.std.specs.declared.option.Option.{Option}
use Rattle.microcode.specs.declared.isa.Body.{Body}
use Rattle.microcode.specs.declared.isa.Body.TheVariants.{Plain, Stm, Ldm, Ldi, Bz, Bnz, Jmp}
use Rattle.microcode.specs.declared.isa.Micro.{Micro}
use Rattle.microcode.specs.declared.isa.Turns.{Turns}
use Rattle.microcode.specs.Isa.Words.{micro_of}

abbrev pub all_micros : List ℕ → Bool
all_micros [] = true
all_micros (word ∷ words) = is_some (micro_of word) && all_micros words

-- each word spells a microinstruction
abbrev pub AreMicros : List ℕ → Type 0
AreMicros words = IsTrue (all_micros words)

abbrev pub rows_follow : ℕ → List (ℕ × ℕ) → Bool
rows_follow place [] = true
rows_follow place ((address, words) ∷ rows) = address == place && rows_follow (place + words) rows

-- each row begins where the one before it ends, the first at a place
abbrev pub RowsFollow : ℕ → List (ℕ × ℕ) → Type 0
RowsFollow place rows = IsTrue (rows_follow place rows)

-- the turns of the branch at an address, if it has any
abbrev pub turns_in : ℕ → List (ℕ × Turns) → Option Turns
turns_in address branches = option_map (λ branch. branch.1) (find (λ branch. branch.0 == address) branches)

-- where a microinstruction branches to, if it does
abbrev pub target_of : Body → Option ℕ
target_of (Plain code) = None
target_of (Stm place) = None
target_of (Ldm place) = None
target_of (Ldi number) = None
target_of (Bz to) = Some to
target_of (Bnz to) = Some to
target_of (Jmp to) = Some to

abbrev pub has_turns : (address : ℕ) → Option Micro → List (ℕ × Turns) → Bool
has_turns address m branches =
    let target = option_and_then (λ (micro : Micro). target_of micro.body) m in
    let back = option_map_or (λ to. nat_le to address) target false in
    if back then is_some (turns_in address branches) else true

abbrev pub have_turns : (address : ℕ) → List ℕ → List (ℕ × Turns) → Bool
have_turns address [] branches = true
have_turns address (word ∷ words) branches = has_turns address (micro_of word) branches && have_turns (address + 1) words branches

-- each branch to its own or an earlier address has turns
abbrev pub BranchesHaveTurns : List ℕ → List (ℕ × Turns) → Type 0
BranchesHaveTurns words branches = IsTrue (have_turns 0 words branches)
