use Rattle.std.proofs.Common.{◌≡◌, ℕ, List, sym, ap, ◌∙◌, subst, arith}
use Rattle.std.specs.Option.{option_copied}
use Rattle.method_flow.specs.Flow.{Coded}
use Rattle.flow_table.specs.Made.{AreMade}
use Rattle.flow_table.proofs.Making.{none_made, made_more, has_code, coded_within}
use Rattle.flow_table.proofs.methods.methods_of.Goals as goal

pub loop-number-init : goal.loop-number-init
loop-number-init c =
    subst (λ (ks : List Coded). AreMade c.args.program.now c.args.coded 0 ks) (sym c.new-methods.ensures.items) (none_made c.args.program.now c.args.coded)

pub code-requires : goal.code-requires
code-requires c = coded_within c.methods_stand_by_number.ensures c.args.program.now c.args.coded c.loop-number.number c.requires.coded c.loop-number-test.true

pub method_of-requires-clause-code : goal.method_of-requires-clause-code
method_of-requires-clause-code c = sym c.code.ensures.code ∙ ap option_copied c.in-Some.is

pub returns-in_default : goal.returns-in_default
returns-in_default c =
    absurd (has_code c.methods_stand_by_number.ensures c.args.program.now c.args.coded c.loop-number.number c.requires.coded c.loop-number-test.true (sym c.code.ensures.code ∙ ap option_copied c.in_default.is))

pub loop-number-preserved : goal.loop-number-preserved
loop-number-preserved c = made_more c.args.program.now c.args.coded c.loop-number.number _ _ _ c.loop-number.invariant c.in_ok-method_of.ensures c.in_ok-push.ensures.items

pub returns : goal.returns
returns c =
    let end = c.loop-number-test.false in
    let top = c.loop-number.auto.number-end in
    let last : c.loop-number.number ≡ c.args.coded = omega arith in
    subst (λ (n : ℕ). AreMade c.args.program.now c.args.coded n c.loop-number.methods.items) last c.loop-number.invariant
