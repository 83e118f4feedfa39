use Rattle.std.proofs.Common.{◌≡◌, ◌<◌, ℤ, w32, to_z, of_z, length, All, Option, sym, subst, arith}
use Rattle.std.proofs.lemmas.Int.{ints}
use Rattle.std.proofs.lemmas.Bool.{both_ways}
use Rattle.loop_acts.specs.Writing.{IsStoredByAll, StoresAt}
use Rattle.loop_acts.proofs.StoredBy.{first_unknown, none_stored_by, others_stored}
use Rattle.loop_acts.proofs.writing.stored_by_all.Goals as goal

pub returns-then-places-eq0 : goal.returns-then-places-eq0
returns-then-places-eq0 c = none_stored_by c.args.acts.now c.args.places.now c.if-places-eq0.true

pub returns-in_err-value : goal.returns-in_err-value
returns-in_err-value c =
    let some = c.if-places-eq0.false in
    let lt : 0 < length c.args.places.now = omega arith in
    subst (λ (o : Option ℤ). IsStoredByAll c.args.acts.now c.args.places.now o) (sym c.from_residual.ensures) (first_unknown c.args.acts.now c.args.places.now lt c.in_err-value.ensures)

pub returns-else-all_store : goal.returns-else-all_store
returns-else-all_store c =
    let some = c.if-places-eq0.false in
    let lt : 0 < length c.args.places.now = omega arith in
    let value = c.in_ok-value.value in
    let same : to_z w32 (of_z w32 value) ≡ value = omega (arith, ints) in
    others_stored c.args.acts.now c.args.places.now lt value c.in_ok-value.ensures
    (λ all. both_ways c.all_store.result c.if-all_store.false (c.all_store.ensures.1 (subst (λ (z : ℤ). All (StoresAt c.args.acts.now z) c.args.places.now) (sym same) all)))
