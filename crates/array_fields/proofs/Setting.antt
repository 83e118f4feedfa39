-- What holds of fields that are known by what instructions put to them.
use Rattle.std.proofs.Common.{◌≡◌, ℤ, Option, Some, None, refl, sym, ◌∙◌}
use Rattle.code_lines.specs.Lines.{IsNeverPut}
use Rattle.array_fields.specs.Laws.{KnownFieldsAreApart}

pub are_apart : KnownFieldsAreApart
are_apart P constants known is never f n held = none_but (known.constants f) (λ c has. never f c (sym (is.constants_are f) ∙ has))
  where
    none_but : (o : Option ℤ) → ((c : ℤ) → o ≡ Some c → IsNeverPut P f) → o ≡ None
    none_but None never = refl
    none_but (Some c) never =
        let all = ((is.statics_are f n).0 held).puts in
        absurd (never c refl all.method all.place all.writes.0 all.writes.1)
