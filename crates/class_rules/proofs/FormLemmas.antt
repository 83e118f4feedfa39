-- The form of an index.
use Rattle.std.proofs.Common.{◌≡◌, ℕ, zero, suc, ◌-◌, ◌<◌, nat_lt, List, length, get_or, Option, Some, None, refl, sym, ap, ◌∙◌, arith, Bor}
use Rattle.std.specs.Prelude.{slice_get, is_some, IfSome}
use Rattle.std.specs.Option.{option_copied}
use Rattle.std.proofs.lemmas.Option.{slice_get_past, slice_get_read}
use Rattle.std.proofs.lemmas.Bool.{ltb-true, ltb-false}
use Rattle.class_rules.specs.declared.forms.Form.{Form}
use Rattle.class_rules.specs.Forms.{form_in}

pub form_behind : (forms : List Form) (index : ℕ) → 0 < index → form_in forms index ≡ slice_get forms (index - 1)
form_behind forms zero lt = absurd (omega (arith, lt))
form_behind forms (suc place) lt = let same : suc place - 1 ≡ place = omega arith in ap (slice_get forms) (sym same)

form_got : (forms : List Form) (i : ℕ) (found : Option (Bor Form)) → is_some found ≡ nat_lt i (length forms) → IfSome found (λ x. x.now ≡ get_or forms i x.now) → option_copied found ≡ slice_get forms i
form_got forms i None test is = sym (slice_get_past forms i (ltb-false i (length forms) (sym test)))
form_got forms i (Some x) test is = sym (slice_get_read forms (length forms) i x.now refl (ltb-true i (length forms) (sym test)) is)

pub form_found : (forms : List Form) (index i : ℕ) (found : Option (Bor Form)) → 0 < index → i ≡ index - 1 → is_some found ≡ nat_lt i (length forms) → IfSome found (λ x. x.now ≡ get_or forms i x.now) → option_copied found ≡ form_in forms index
form_found forms index i found lt same test is = form_got forms i found test is ∙ (ap (slice_get forms) same ∙ sym (form_behind forms index lt))
