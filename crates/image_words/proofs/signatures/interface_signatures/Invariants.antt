use Rattle.std.proofs.Common.{◌≡◌, ◌<◌, ℕ, true, Some}
use Rattle.class_lookup.specs.Hierarchy.{is_interface}
use Rattle.class_lookup.specs.Lookup.{Place}
use Rattle.image_words.specs.Signatures.{symbols_at, IsNumbered}
use Rattle.image_words.proofs.signatures.interface_signatures.Given as goal

abbrev pub invariant-loop-class : goal.invariant-loop-class
invariant-loop-class l = (m : Place) (k : ℕ × ℕ) → m.0 < l.class → is_interface l.classes m.0 ≡ true → symbols_at l.classes m ≡ Some k → IsNumbered l.signatures k
