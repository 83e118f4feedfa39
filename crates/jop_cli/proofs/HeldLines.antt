-- The line of a certificate that holds tells its method and its bound.
use Rattle.std.proofs.Common.{◌≡◌, ◌≢◌, ℕ, ◌<◌, ◌^◌, List, [], ◌∷◌, ◌++◌, Option, Some, None, refl, sym, ◌∙◌, ap, subst, arith}
use Rattle.std.specs.Prelude.{codes, decimal}
use Rattle.std.specs.List.{AllByRecursion}
use Rattle.std.proofs.lemmas.List.{append_cancel_left, append_cancel_right}
use Rattle.std.proofs.lemmas.List.Elements.{All-from_recursion}
use Rattle.class_pool.specs.declared.class.ClassFile.{ClassFile}
use Rattle.program_tables.specs.Resolved.{method_name}
use Rattle.name_laws.specs.Written.{written_name}
use Rattle.name_laws.proofs.Escapes.{written_high}
use Rattle.certificates.specs.CertLines.{bound_text, IsBoundValue}
use Rattle.certificates.proofs.NumberLemmas.{IsDigit, digits_are}
use Rattle.std.proofs.lemmas.Fmt.{decimal_injective}
use Rattle.slot_table.specs.Parts.{IsCut}
use Rattle.slot_table.proofs.Cuts.{one_cut}
use Rattle.jop_cli.specs.promises.Bound.{NamesTellMethods}
use Rattle.jop_cli.specs.promises.Check.{HeldLinesAreOne}

no_space : (text : List ℕ) → AllByRecursion (λ x. 32 < x) text → AllByRecursion (λ x. x ≢ 32) text
no_space [] h = tt
no_space (x ∷ text) h = ((λ e. let high : 32 < x = h.0 in omega (arith, e)), no_space text h.1)

word_cut : (cs : List ClassFile) (m : ℕ) (behind : List ℕ) → IsCut 32 (written_name cs m ++ 32 ∷ behind) (written_name cs m) behind
word_cut cs m behind = record {
  text_is = refl;
  first = All-from_recursion (λ x. x ≢ 32) (written_name cs m) (no_space (written_name cs m) (written_high (method_name cs m)));
}

never_number : (n : ℕ) → n < 2 ^ 64 → codes "never" ≡ decimal n → ⊥
never_number n h e =
    let each : AllByRecursion IsDigit (codes "never") = subst (AllByRecursion IsDigit) (sym e) (digits_are n h) in
    let high = each.0.1 in
    omega arith

one_bound : (a b : Option ℕ) → IsBoundValue a → IsBoundValue b → bound_text a ≡ bound_text b → a ≡ b
one_bound None None h k e = refl
one_bound None (Some n) h k e = absurd (never_number n k e)
one_bound (Some n) None h k e = absurd (never_number n h (sym e))
one_bound (Some m) (Some n) h k e = ap Some (decimal_injective m n h k e)

-- what stands behind `holds `
abbrev rest_of : (name : List ℕ) → (bound : Option ℕ) → List ℕ
rest_of name bound = name ++ 32 ∷ (bound_text bound ++ codes "\n")

rests_are_one : NamesTellMethods → (cs : List ClassFile) (m n : ℕ) (a b : Option ℕ) → rest_of (written_name cs m) a ≡ rest_of (written_name cs n) b
    → (written_name cs m ≡ written_name cs n) × (bound_text a ≡ bound_text b)
rests_are_one names cs m n a b same =
    let first = word_cut cs m (bound_text a ++ codes "\n") in
    let other = word_cut cs n (bound_text b ++ codes "\n") in
    let cut = one_cut 32 (rest_of (written_name cs m) a) (written_name cs m) (bound_text a ++ codes "\n") (written_name cs n) (bound_text b ++ codes "\n") first
    (record { text_is = same ∙ other.text_is; first = other.first }) in
    (cut.0, append_cancel_right (bound_text a) (bound_text b) (codes "\n") cut.1)

pub held_lines_are_one : NamesTellMethods → HeldLinesAreOne
held_lines_are_one names cs r m n coded other a b small little same =
    let rests = rests_are_one names cs m n a b (append_cancel_left (codes "holds ") (rest_of (written_name cs m) a) (rest_of (written_name cs n) b) same) in
    (names cs r m n coded other rests.0, one_bound a b small little rests.1)
