use Rattle.std.proofs.Common.{subst}
use Rattle.work_gen.specs.Bounds.{main_text}
use Rattle.analysis_commands.specs.declared.bound.NotBounded.{NotBounded}
use Rattle.analysis_commands.specs.declared.bound.NotBounded.TheVariants.{NoAnalysis, Forbidden}
use Rattle.analysis_commands.specs.Bounding.{IsBoundNumber, IsNotBounded}
use Rattle.run_commands.proofs.Worked.{as_usual, main_bounded, main_forbidden, only_memory}
use Rattle.run_commands.proofs.working.main_bound.Goals as goal

pub returns-in-Ok-clause-bound : goal.returns-in-Ok-clause-bound
returns-in-Ok-clause-bound c =
    let n = c.args.n in
    let cs = c.args.linked.now.classes in
    main_bounded n c.requires.few c.bounds_are_read.ensures.only cs c.certificates_are_sound.ensures c.in-Ok.bound
    (as_usual (λ had s text. IsBoundNumber had s text main_text c.in-Ok.bound) n c.program.result.now cs c.usual_settings-settings.result c.args.bounds.now c.program.ensures.program c.usual_settings-settings.ensures.is c.requires.bounds c.in-Ok.ensures.bound)

pub returns-in-Err-Forbidden-clause-forbids : goal.returns-in-Err-Forbidden-clause-forbids
returns-in-Err-Forbidden-clause-forbids c =
    let n = c.args.n in
    let cs = c.args.linked.now.classes in
    let N : NotBounded → Type 0 = λ cause. IsNotBounded c.program.result.now c.usual_settings-settings.result c.args.bounds.now main_text cause in
    main_forbidden n c.requires.few c.bounds_are_read.ensures.only cs c.in-Err-Forbidden.cause c.in-Err-Forbidden.subject.items
    (as_usual (λ had s text. IsNotBounded had s text main_text (Forbidden c.in-Err-Forbidden.cause c.in-Err-Forbidden.subject)) n c.program.result.now cs c.usual_settings-settings.result c.args.bounds.now c.program.ensures.program c.usual_settings-settings.ensures.is c.requires.bounds (subst N c.in-Err-Forbidden.field-0-is c.in-Err-Forbidden.ensures.refused))

pub unreachable-requires : goal.unreachable-requires
unreachable-requires c =
    let n = c.args.n in
    let cs = c.args.linked.now.classes in
    let N : NotBounded → Type 0 = λ cause. IsNotBounded c.program.result.now c.usual_settings-settings.result c.args.bounds.now main_text cause in
    c.in_default.not-NoMemory
    (only_memory n c.requires.few c.bounds_are_read.ensures.only cs c.requires.codes c.in-Err-NoAnalysis.fault
    (as_usual (λ had s text. IsNotBounded had s text main_text (NoAnalysis c.in-Err-NoAnalysis.fault)) n c.program.result.now cs c.usual_settings-settings.result c.args.bounds.now c.program.ensures.program c.usual_settings-settings.ensures.is c.requires.bounds (subst N c.in-Err-NoAnalysis.field-0-is c.in-Err-NoAnalysis.ensures.refused)))
