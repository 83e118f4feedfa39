use Rattle.std.proofs.Common.{◌≡◌, ℕ, ◌*◌, ℤ, w32, to_z, of_z, sym, ap, ◌∙◌, subst, arith}
use Rattle.std.proofs.lemmas.Int.{ints}
use Rattle.method_flow.specs.Nodes.{IsAtOffset}
use Rattle.loop_marks.specs.Reach.{flag_at}
use Rattle.loop_finder.proofs.Leaving.{ways_alike, on_stays, branch_stays, same_flags, other_false, other_true}
use Rattle.loop_finder.proofs.counting.leaving.Goals as goal

pub returns-then-taken_stays-next_stays : goal.returns-then-taken_stays-next_stays
returns-then-taken_stays-next_stays c g marks =
    let k = c.args.marks.now in
    let offset : to_z w32 (of_z w32 c.args.test.offset) ≡ c.args.test.offset = omega (arith, ints) in
    let at = subst (λ (z : ℤ). IsAtOffset c.args.place z c.in_ok-target.target) offset c.in_ok-target.ensures.target in
    let next : c.has-next_stays.result ≡ flag_at k.members (2 * c.args.test.next) = c.has-next_stays.ensures ∙ ap (λ (n : ℕ). flag_at k.members (2 * n)) c.from.ensures in
    ways_alike g k marks c.args.place c.in_ok-target.target c.args.test at (sym c.has-taken_stays.ensures ∙ (same_flags c.has-taken_stays.result c.has-next_stays.result c.if-taken_stays-next_stays.true ∙ next))

pub returns-then-next_stays : goal.returns-then-next_stays
returns-then-next_stays c g marks =
    let k = c.args.marks.now in
    let offset : to_z w32 (of_z w32 c.args.test.offset) ≡ c.args.test.offset = omega (arith, ints) in
    let at = subst (λ (z : ℤ). IsAtOffset c.args.place z c.in_ok-target.target) offset c.in_ok-target.ensures.target in
    let next : c.has-next_stays.result ≡ flag_at k.members (2 * c.args.test.next) = c.has-next_stays.ensures ∙ ap (λ (n : ℕ). flag_at k.members (2 * n)) c.from.ensures in
    on_stays g k marks c.args.place c.in_ok-target.target c.args.test at
    (sym c.has-taken_stays.ensures ∙ other_false c.has-taken_stays.result c.has-next_stays.result c.if-taken_stays-next_stays.false c.if-next_stays.true) (sym next ∙ c.if-next_stays.true)

pub returns-else-next_stays : goal.returns-else-next_stays
returns-else-next_stays c g marks =
    let k = c.args.marks.now in
    let offset : to_z w32 (of_z w32 c.args.test.offset) ≡ c.args.test.offset = omega (arith, ints) in
    let at = subst (λ (z : ℤ). IsAtOffset c.args.place z c.in_ok-target.target) offset c.in_ok-target.ensures.target in
    let next : c.has-next_stays.result ≡ flag_at k.members (2 * c.args.test.next) = c.has-next_stays.ensures ∙ ap (λ (n : ℕ). flag_at k.members (2 * n)) c.from.ensures in
    branch_stays g k marks c.args.place c.in_ok-target.target c.args.test at
    (sym c.has-taken_stays.ensures ∙ other_true c.has-taken_stays.result c.has-next_stays.result c.if-taken_stays-next_stays.false c.if-next_stays.false) (sym next ∙ c.if-next_stays.false) c.opposite.result c.opposite.ensures
