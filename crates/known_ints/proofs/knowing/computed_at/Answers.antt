use Rattle.std.proofs.Common.{w32, FitsSigned, sym, ◌∙◌, subst, rules}
use Rattle.std.proofs.lemmas.Int.{to_z-of_z}
use Rattle.known_ints.specs.Knowing.{IsComputedBy, IsGiven}
use Rattle.known_ints.proofs.Combining.{exact_at, none_computed, some_computed}
use Rattle.known_ints.proofs.knowing.computed_at.Goals as goal

pub returns-in_err-value : goal.returns-in_err-value
returns-in_err-value c =
    let upper = sym c.known_at.ensures ∙ c.in_ok-upper.was in
    let lower = sym c.known_at-2.ensures ∙ c.in_ok-lower.was in
    let u : FitsSigned w32 c.in_ok-upper.upper.value = search rules in
    let l : FitsSigned w32 c.in_ok-lower.lower.value = search rules in
    let exact =
    exact_at c.args.arithmetic c.computed.result _ _ c.in_ok-upper.upper.value c.in_ok-lower.lower.value (to_z-of_z w32 c.in_ok-upper.upper.value u)
    (to_z-of_z w32 c.in_ok-lower.lower.value l) c.computed.ensures
    in
    let none =
    none_computed c.args.ints.now c.args.arithmetic c.args.place c.in_ok-upper.upper c.in_ok-lower.lower upper lower c.computed.result exact c.in_err-value.was
    in
    subst (IsGiven (IsComputedBy c.args.ints.now c.args.arithmetic c.args.place)) (sym c.from_residual-in_err-value.ensures) none

pub returns : goal.returns
returns c =
    let upper = sym c.known_at.ensures ∙ c.in_ok-upper.was in
    let lower = sym c.known_at-2.ensures ∙ c.in_ok-lower.was in
    let u : FitsSigned w32 c.in_ok-upper.upper.value = search rules in
    let l : FitsSigned w32 c.in_ok-lower.lower.value = search rules in
    let exact =
    exact_at c.args.arithmetic c.computed.result _ _ c.in_ok-upper.upper.value c.in_ok-lower.lower.value (to_z-of_z w32 c.in_ok-upper.upper.value u)
    (to_z-of_z w32 c.in_ok-lower.lower.value l) c.computed.ensures
    in
    let v = c.in_ok-value.value in
    let fits : FitsSigned w32 v = search rules in
    some_computed c.args.ints.now c.args.arithmetic c.args.place c.in_ok-upper.upper c.in_ok-lower.lower upper lower c.computed.result exact v _ c.in_ok-value.was
    (to_z-of_z w32 v fits)
