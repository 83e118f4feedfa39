use Rattle.std.proofs.Common.{◌≡◌, ℤ, w32, to_z, of_z, Option, refl, subst, arith}
use Rattle.std.proofs.lemmas.Int.{ints}
use Rattle.loop_rules.specs.Further.Beginning.{BeginsAt}
use Rattle.loop_acts.specs.Writing.{IsOnly}
use Rattle.loop_finder.proofs.Adding.{none_added, one_added}
use Rattle.loop_finder.proofs.beginning.add_beginning.Goals as goal

pub returns-in_ok-push : goal.returns-in_ok-push
returns-in_ok-push c P known m of are =
    let g = c.args.body.now.graph in
    let h = c.args.marks.now.header in
    let k = c.args.local in
    let value = c.in-Some.value in
    let one = subst (λ (o : Option ℤ). IsOnly (BeginsAt P known m g h k) o) c.in-Some.is (c.in_ok-value.ensures P known m of are) in
    let same : to_z w32 (of_z w32 value) ≡ value = omega (arith, ints) in
    one_added P known m g h k are.header c.args.found.now.items value one (record { header = c.header.result; local = k; value = to_z w32 (of_z w32 value) }) c.header.ensures refl same _ c.in_ok-push.ensures.items

pub returns-in_default : goal.returns-in_default
returns-in_default c P known m of are =
    let g = c.args.body.now.graph in
    let h = c.args.marks.now.header in
    let k = c.args.local in
    none_added P known m g h k are.header c.args.found.now.items (subst (λ (o : Option ℤ). IsOnly (BeginsAt P known m g h k) o) c.in_default.is (c.in_ok-value.ensures P known m of are))
