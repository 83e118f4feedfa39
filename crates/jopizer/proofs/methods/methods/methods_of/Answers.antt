use Rattle.std.proofs.Common.{ap, arith, refl, subst, sym, ◌+◌, ◌∙◌, List}
use Rattle.std.specs.Option.{option_copied}
use Rattle.image_facts.specs.declared.method.CodedMethod.{CodedMethod}
use Rattle.jopizer.proofs.MethodsLemmas.Filled.{AreFilled, only_filled}
use Rattle.jopizer.proofs.MethodsLemmas.Ended.{within, next, none_past, whole}
use Rattle.jopizer.proofs.methods.methods.methods_of.Goals as goal

pub returns-in_default-clause-no_others : goal.returns-in_default-clause-no_others
returns-in_default-clause-no_others c = only_filled c.args.program.now c.loop-number.methods.items c.loop-number.number c.loop-number.invariant

pub returns-in_default-clause-methods : goal.returns-in_default-clause-methods
returns-in_default-clause-methods c =
    whole c.methods_stand_by_number.ensures c.args.program.now c.loop-number.methods.items c.loop-number.number c.loop-number.invariant (omega arith) (sym c.code.ensures.code ∙ ap option_copied c.in_default.is)

pub method_place-requires : goal.method_place-requires
method_place-requires c =
    within c.methods_stand_by_number.ensures c.args.program.now c.args.layout.now.methods c.loop-number.number c.in-Some.code.now c.requires (sym c.code.ensures.code ∙ ap option_copied c.in-Some.is)

pub loop-number-preserved : goal.loop-number-preserved
loop-number-preserved c =
    subst (λ (items : List CodedMethod). AreFilled c.args.program.now items (c.loop-number.number + 1)) (sym c.in_ok-push.ensures.items)
    (next c.methods_stand_by_number.ensures c.args.program.now c.args.layout.now.methods c.loop-number.methods.items c.loop-number.number c.in-Some.code.now _ c.requires c.loop-number.invariant
    (sym c.code.ensures.code ∙ ap option_copied c.in-Some.is) c.method_place.ensures refl c.as_slice.ensures)

pub returns-clause-no_others : goal.returns-clause-no_others
returns-clause-no_others c = only_filled c.args.program.now c.loop-number.methods.items c.loop-number.number c.loop-number.invariant

pub returns-clause-methods : goal.returns-clause-methods
returns-clause-methods c =
    whole c.methods_stand_by_number.ensures c.args.program.now c.loop-number.methods.items c.loop-number.number c.loop-number.invariant (omega arith)
    (none_past c.args.program.now c.loop-number.number (omega (arith, c.loop-number-test.false, c.method_count-number-end.ensures)))
