use Rattle.std.proofs.Common.{◌≡◌, ℕ, length, Some}
use Rattle.std.specs.Prelude.{slice_get}
use Rattle.std.specs.Option.{IsSomeAnd}
use Rattle.program_tables.specs.declared.text_type.TextType.{TextType}
use Rattle.class_lookup.specs.Symbols.{texts}
use Rattle.program_tables.specs.Texts.{IsTextType}
use Rattle.program_tables.proofs.texts.all_text_types.Given as goal

abbrev pub invariant-loop-number : goal.invariant-loop-number
invariant-loop-number l =
    (length l.made.items ≡ l.number) × ((n : ℕ) (t : TextType) → slice_get l.made.items n ≡ Some t → IsSomeAnd (slice_get (texts l.classes) n) (λ text. IsTextType l.classes text t))
