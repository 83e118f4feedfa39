use Rattle.std.proofs.Common.{◌≡◌, ◌<◌, ℕ, List, Some, map, take}
use Rattle.std.specs.Prelude.{slice_get}
use Rattle.bytecode_model.specs.Lists.{index_of}
use Rattle.class_lookup.specs.Parts.{same_text}
use Rattle.class_lookup.specs.Symbols.{texts}
use Rattle.program_tables.proofs.strings.StringNumbers.new.Given as goal

abbrev pub invariant-loop-number : goal.invariant-loop-number
invariant-loop-number l = record {
  are : l.numbers.items ≡ map (λ (text : List ℕ). index_of (same_text text) l.strings) (take l.number (texts l.classes));
  small : (n k : ℕ) → slice_get l.numbers.items n ≡ Some (Some k) → k < 1073741824;
}
