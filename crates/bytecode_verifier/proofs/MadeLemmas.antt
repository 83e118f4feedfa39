-- Frames whose places are within a code.
use Rattle.std.proofs.Common.{ℕ, ◌+◌, ◌<◌, List, [], ◌∷◌, length, subst}
use Rattle.std.specs.List.{AllByRecursion}
use Rattle.opcodes.specs.Start.{AreStarts, starts_of}
use Rattle.class_pool.specs.declared.class.Code.{Code}
use Rattle.frame_types.specs.declared.types.TypeFrame.{TypeFrame}
use Rattle.class_pool.specs.declared.entry.Entry.{Entry}
use Rattle.frame_types.specs.declared.types.VarType.{VarType}
use Rattle.frame_types.specs.declared.steps.MapStep.{MapStep}
use Rattle.frame_types.specs.Laws.{StandFrom}
use Rattle.frame_types.specs.Steps.{AreSteps}
use Rattle.frame_types.proofs.SearchLemmas.{among_contains}

within : (k : Code) → AreStarts k.code → (least : ℕ) (at : List (ℕ × TypeFrame)) → StandFrom k least at → AllByRecursion (λ (x : ℕ × TypeFrame). x.0 < length k.code) at
within k starts least [] h = tt
within k starts least (x ∷ xs) h = (starts.within_code x.0 (among_contains (starts_of k.code) x.0 h.1), within k starts (x.0 + 1) xs h.3)

pub all_within : (k : Code) → AreStarts k.code → (at : List (ℕ × TypeFrame)) → StandFrom k 0 at → AllByRecursion (λ (x : ℕ × TypeFrame). x.0 < length k.code) at
all_within k starts at h = within k starts 0 at h

-- so are the steps that give them
pub steps_within : (pool : List Entry) (k : Code) (n : ℕ) (locals : List VarType) (ss : List MapStep) (xs : List (ℕ × TypeFrame)) → AreSteps pool k locals ss xs → AllByRecursion (λ (x : ℕ × TypeFrame). x.0 < n) xs → AllByRecursion (λ (s : MapStep). s.place < n) ss
steps_within pool k n locals [] xs a h = tt
steps_within pool k n locals (s ∷ ss) [] a h = absurd a
steps_within pool k n locals (s ∷ ss) (x ∷ xs) a h = (subst (λ (m : ℕ). m < n) a.4 h.0, steps_within pool k n a.0 ss xs a.6 h.1)
