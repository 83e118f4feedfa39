use Rattle.std.proofs.Common.{List, subst}
use Rattle.class_pool.specs.declared.class.ClassFile.{ClassFile}
use Rattle.analysis_commands.specs.PricedBounds.{IsCertTextWith}
use Rattle.ask_commands.proofs.ShownWith.{written_with}
use Rattle.ask_commands.proofs.pricing.bound_linked_with.Goals as goal

pub returns-in-Ok : goal.returns-in-Ok
returns-in-Ok c =
    let s = c.args.settings.now in
    let t = c.in-Ok.text.items in
    let B : List ClassFile → Type 0 = λ cs. IsCertTextWith cs s c.args.bounds.now c.args.facts.now c.args.name.now t in
    written_with c.args.linked.now.classes s c.args.bounds.now c.args.facts.now c.args.name.now t c.prices_are_sound.ensures c.requires.settings.read_most c.requires.settings.write_most
    (subst B c.program.ensures.program c.in-Ok.ensures.bound)
