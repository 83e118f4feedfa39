-- What was put of a line where the sink failed.
use Rattle.std.proofs.Common.{◌≡◌, ℕ, zero, suc, ◌<◌, ◌≤◌, Bool, true, List, [], ◌∷◌, ◌++◌, length, take, drop, None, refl, ap, arith}
use Rattle.std.specs.declared.option.Option.{Option}
use Rattle.outside.specs.Outside.{Grew, Rose}
use Rattle.outside.specs.Growing.{Grew-refl}
use Rattle.device_traits.specs.declared.seen.Seen.{Seen}
use Rattle.device_traits.specs.Told.{Wrote, Saw, GrewInPart, PassedInPart, OnlyWrites, OnlySees}
use Rattle.run_devices.specs.Lines.{cycle_line, write_line}
use Rattle.run_devices.specs.Traced.{traced, Rests}

parts : (n : ℕ) (line : List ℕ) → line ≡ take n line ++ drop n line
parts zero line = refl
parts (suc n) [] = refl
parts (suc n) (x ∷ line) = ap (λ t. x ∷ t) (parts n line)

some_left : (n : ℕ) (line : List ℕ) → n < length line → drop n line ≡ [] → take n line ≡ []
some_left zero line part e = refl
some_left (suc n) [] part e = absurd (omega (arith, part))
some_left (suc n) (x ∷ line) part e = absurd (never n line (omega (arith, part)) e)
  where
    never : (n : ℕ) (line : List ℕ) → n < length line → drop n line ≡ [] → ⊥
    never n [] part e = omega (arith, part)
    never zero (x ∷ line) part e = cc
    never (suc n) (x ∷ line) part e = never n line (omega (arith, part)) e

pub front_in_part : (old new : Option (List ℕ)) (line : List ℕ) (n : ℕ) → n < length line → Grew old new (take n line) → GrewInPart old new [] line
front_in_part old new line n part put = record {
  grown = λ ys e. let before = put.grown ys e in (before.0, before.1, take n line, drop n line, parts n line, some_left n line part, before.2);
}

-- A count that was no more than the sink's has risen where it is the sink's after a failure.
pub rose_to : (count before now result : ℕ) → count ≤ before → Rose before now → result ≡ now → Rose count result
rose_to count before now result few rose is = omega (arith, few, rose, is)

pub later : (count before now result : ℕ) → count ≤ before → before ≤ now → result ≡ now → count ≤ result
later count before now result few rise is = omega (arith, few, rise, is)

-- the line of a boundary failed
pub rests : (cycles : Bool) (left : Option (List ℕ)) (reads : ℕ) (held held' : Option (List ℕ)) (writes writes' sees : ℕ) → writes ≤ writes' → Rests (traced cycles left reads held writes sees) (traced cycles left reads held' writes' sees)
rests cycles left reads held held' writes writes' sees rise = record { left = refl; held = Grew-refl None; line = refl; handed = Grew-refl None; counts = record { reads = refl; writes = rise; sees = refl } }

-- the line of a byte failed
pub write_failed : (cycles : Bool) (left : Option (List ℕ)) (reads : ℕ) (held held' : Option (List ℕ)) (writes writes' sees byte n : ℕ) → n < length (write_line byte) → Grew held held' (take n (write_line byte)) → writes ≤ writes'
    → PassedInPart (traced cycles left reads held writes sees) (traced cycles left reads held' writes' sees) [] [] (Wrote byte) × OnlyWrites (traced cycles left reads held writes sees) (traced cycles left reads held' writes' sees)
write_failed cycles left reads held held' writes writes' sees byte n part put rise = (
  record { left = refl; held = Grew-refl None; noted = record { line = refl; written = front_in_part held held' (write_line byte) n part put }; handed = Grew-refl None },
  record { reads = refl; writes = rise; sees = refl },
)

-- the line of a cycle failed
pub cycle_failed : (left : Option (List ℕ)) (reads : ℕ) (held held' : Option (List ℕ)) (writes sees sees' n : ℕ) (at : Seen) → n < length (cycle_line at) → Grew held held' (take n (cycle_line at)) → sees ≤ sees'
    → PassedInPart (traced true left reads held writes sees) (traced true left reads held' writes sees') [] [] (Saw at) × OnlySees (traced true left reads held writes sees) (traced true left reads held' writes sees')
cycle_failed left reads held held' writes sees sees' n at part put rise = (
  record { left = refl; held = Grew-refl None; noted = record { line = refl; written = front_in_part held held' (cycle_line at) n part put }; handed = Grew-refl None },
  record { reads = refl; writes = refl; sees = rise },
)
