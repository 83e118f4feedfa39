use Rattle.std.proofs.Common.{ℕ, List, sym, subst}
use Rattle.std.specs.Option.{IsSomeAnd}
use Rattle.program_tables.specs.declared.text_type.TextType.{TextType}
use Rattle.class_lookup.specs.Symbols.{texts}
use Rattle.program_tables.specs.Texts.{IsTextType}
use Rattle.program_tables.proofs.ShapeLemmas.{each_more}
use Rattle.program_tables.proofs.texts.all_text_types.Goals as goal

pub loop-number-preserved : goal.loop-number-preserved
loop-number-preserved c =
    let cs = c.args.classes.now in
    let x = c.in_ok-text_type.field-0 in
    let Is = λ (t : TextType) (text : List ℕ). IsTextType cs text t in
    each_more Is (texts cs) c.loop-number.number c.loop-number.made.items c.push.new.self.items x c.loop-number.invariant c.in_ok-push.ensures.items
    (subst (λ o. IsSomeAnd o (Is x)) (sym c.text.ensures.text) c.in_ok-text_type.ensures)
