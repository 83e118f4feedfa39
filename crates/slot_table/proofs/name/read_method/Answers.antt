use Rattle.std.proofs.Common.{◌≡◌, ℕ, List, false, sym, ◌∙◌, ap, rules}
use Rattle.descriptors.specs.Names.{is_method_name}
use Rattle.std.proofs.lemmas.Result.{err_from_is_err_and}
use Rattle.slot_table.specs.Parts.{IsTextOf, IsMethodText}
use Rattle.slot_table.proofs.NameLemmas.{on_bad, no_method}
use Rattle.slot_table.proofs.name.read_method.Goals as goal

pub returns-in_err-name-clause-bad : goal.returns-in_err-name-clause-bad
returns-in_err-name-clause-bad c =
    let p = err_from_is_err_and c.from_residual.result c.from_residual.ensures.1 in
    rw (p.1, p.2)
    (on_bad c.in_err-name.field-0.0 ((text : List ℕ) → ¬ IsTextOf c.args.bytes.now text) ((name : List ℕ) → ¬ IsMethodText c.args.bytes.now name) (λ none name is. none name is.text) c.in_err-name.ensures.bad)

pub returns-then-not-is_method_name-clause-bad : goal.returns-then-not-is_method_name-clause-bad
returns-then-not-is_method_name-clause-bad c =
    let same : c.as_slice.result.now ≡ c.in_ok-name.name = search rules in
    let other : is_method_name c.in_ok-name.name ≡ false = ap is_method_name (sym same) ∙ sym c.is_method_name.ensures ∙ c.if-not-is_method_name.true in
    no_method c.args.bytes.now c.in_ok-name.name c.in_ok-name.ensures.text other
