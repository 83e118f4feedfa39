use Rattle.std.proofs.Common.{ℕ, sym, ap, ◌∙◌, arith}
use Rattle.image_words.specs.Layout.{pool_place}
use Rattle.image_layout.proofs.HeaderLemmas.{pool_there, pool_none}
use Rattle.image_layout.proofs.front.pool_of.Goals as goal

pub returns-then-method-method_count : goal.returns-then-method-method_count
returns-then-method-method_count c =
    let cs = c.args.program.now in
    let p = c.method-place.result in
    c.pool_place.ensures cs c.requires
    ∙ (ap (λ (q : ℕ × ℕ). pool_place cs q.0) c.place.view_is
    ∙ sym (pool_there c.methods_stand_by_number.ensures c.members_are_there.ensures cs c.args.method p c.method-place.ensures))

pub returns-else-method-method_count : goal.returns-else-method-method_count
returns-else-method-method_count c =
    let count = c.method_count.ensures in
    let test = c.if-method-method_count.false in
    pool_none c.methods_stand_by_number.ensures c.args.program.now c.args.method (omega (arith, count, test))
