use Rattle.std.proofs.Common.{◌≡◌, ℕ, ◌<◌, length, map}
use Rattle.section_index.specs.Family.{set_at}
use Rattle.section_check.specs.Section.{CertifiedLoop}
use Rattle.section_check.specs.Placing.{IsEntryAt}
use Rattle.section_index.specs.Numbering.{ArePlaces}
use Rattle.section_index.proofs.numbering.placed.Given as goal

abbrev pub invariant-loop-i : goal.invariant-loop-i
invariant-loop-i l = record {
  long : length l.sets.items ≡ l.i;
  each : (j : ℕ) (m : CertifiedLoop) → j < l.i → IsEntryAt l.loops j m → ArePlaces l.numbers m.members (set_at (map (λ s. s.items) l.sets.items) j);
}
