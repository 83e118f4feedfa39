use Rattle.std.proofs.Common.{List, subst}
use Rattle.class_pool.specs.declared.class.ClassFile.{ClassFile}
use Rattle.analysis_commands.specs.Bounding.{IsCertText}
use Rattle.ask_commands.proofs.Shown.{written}
use Rattle.ask_commands.proofs.bounding.bound_linked.Goals as goal

pub returns-in-Ok : goal.returns-in-Ok
returns-in-Ok c =
    let s = c.args.settings.now in
    let t = c.in-Ok.text.items in
    let B : List ClassFile → Type 0 = λ cs. IsCertText cs s c.args.bounds.now c.args.name.now t in
    written c.args.linked.now.classes s c.args.bounds.now c.args.name.now t c.certificates_are_sound.ensures c.requires.settings.read_most c.requires.settings.write_most (subst B c.program.ensures.program c.in-Ok.ensures.bound)
