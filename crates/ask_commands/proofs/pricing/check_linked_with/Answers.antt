use Rattle.std.proofs.Common.{List, refl, subst, inl, inr}
use Rattle.class_pool.specs.declared.class.ClassFile.{ClassFile}
use Rattle.analysis_commands.specs.PricedChecks.{IsHeldByFacts, IsNotHeldWith}
use Rattle.ask_commands.proofs.ShownWith.{shown_with}
use Rattle.ask_commands.proofs.pricing.check_linked_with.Goals as goal

pub returns-in-Ok : goal.returns-in-Ok
returns-in-Ok c =
    let s = c.args.settings.now in
    let h = c.in-Ok.held in
    let H : List ClassFile → Type 0 = λ cs. IsHeldByFacts cs s c.args.bounds.now c.args.facts.now c.args.certificate.now h in
    let held = subst H c.program.ensures.program c.in-Ok.ensures.held in
    inl (record {
      held = h;
      shows = shown_with c.args.linked.now.classes s c.args.bounds.now c.args.facts.now c.args.certificate.now h c.requires.settings.read_most c.requires.settings.write_most c.prices_are_sound.ensures c.certificates_are_sound.ensures held;
      says = refl;
    })

pub returns-in-Err : goal.returns-in-Err
returns-in-Err c =
    let R : List ClassFile → Type 0 = λ cs. IsNotHeldWith cs c.args.settings.now c.args.bounds.now c.args.facts.now c.args.certificate.now c.in-Err.refusal in
    inr (record { refusal = c.in-Err.refusal; cause = subst R c.program.ensures.program c.in-Err.ensures.refused; says = c.unheld_ending.ensures })
