use Rattle.std.proofs.Common.{◌≡◌, ℕ, List, false, sym, ◌∙◌, ap, rules}
use Rattle.descriptors.specs.Names.{is_class_name}
use Rattle.std.proofs.lemmas.Result.{err_from_is_err_and}
use Rattle.slot_table.specs.Parts.{IsTextOf, IsClassText}
use Rattle.slot_table.proofs.NameLemmas.{on_bad, no_class}
use Rattle.slot_table.proofs.name.read_class.Goals as goal

pub returns-in_err-name-clause-bad : goal.returns-in_err-name-clause-bad
returns-in_err-name-clause-bad c =
    let p = err_from_is_err_and c.from_residual.result c.from_residual.ensures.1 in
    rw (p.1, p.2)
    (on_bad c.in_err-name.field-0.0 ((text : List ℕ) → ¬ IsTextOf c.args.bytes.now text) ((name : List ℕ) → ¬ IsClassText c.args.bytes.now name) (λ none name is. none name is.text) c.in_err-name.ensures.bad)

pub returns-then-not-is_class_name-clause-bad : goal.returns-then-not-is_class_name-clause-bad
returns-then-not-is_class_name-clause-bad c =
    let same : c.as_slice.result.now ≡ c.in_ok-name.name = search rules in
    let other : is_class_name c.in_ok-name.name ≡ false = ap is_class_name (sym same) ∙ sym c.is_class_name.ensures ∙ c.if-not-is_class_name.true in
    no_class c.args.bytes.now c.in_ok-name.name c.in_ok-name.ensures.text other
