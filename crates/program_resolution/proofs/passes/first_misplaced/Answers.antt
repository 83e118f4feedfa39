use Rattle.std.proofs.Common.{◌+◌, ℕ, length, sym, ◌∙◌, arith}
use Rattle.class_lookup.specs.Hierarchy.{is_on_a_cycle}
use Rattle.program_tables.specs.Placed.{lacks_superclass, has_bad_superclass, has_bad_superinterface, is_bad_interface, has_overridden_final, is_badly_placed}
use Rattle.program_resolution.specs.declared.refusal.ProgramRefusal.TheVariants as answers
use Rattle.program_resolution.proofs.AnyLemmas.{no_cause, second_of, beyond}
use Rattle.class_pool.specs.declared.class.ClassFile.{ClassFile}
use Rattle.program_resolution.specs.Linked.{files_in}
use Rattle.program_resolution.specs.Refusals.{Places, causes}
use Rattle.program_resolution.proofs.FileLemmas.{found_file, none_file, no_file}
use Rattle.program_resolution.proofs.passes.first_misplaced.Goals as goal

pub returns-in-Some : goal.returns-in-Some
returns-in-Some c =
    let cs = c.args.classes.now in
    found_file (λ (e : ℕ × ClassFile). causes cs Places e.0 e.1) (files_in cs c.args.files) c.loop-file.file c.class_of_file-class.result.now c.in-Some.refusal c.class_of_file-class.ensures.file c.loop-file.invariant.0 (sym c.in_ok-refusal.ensures ∙ c.in-Some.is)

pub loop-file-preserved : goal.loop-file-preserved
loop-file-preserved c =
    let cs = c.args.classes.now in
    let i = c.loop-file.file in
    let none = sym c.in_ok-refusal.ensures ∙ c.in_default.is in
    let well = second_of (lacks_superclass cs (23 + i)) (is_on_a_cycle cs (23 + i)) (has_bad_superclass cs (23 + i)) (has_bad_superinterface cs (23 + i)) (is_bad_interface cs (23 + i)) (has_overridden_final cs (23 + i))
    (no_cause (is_badly_placed cs (23 + i)) (answers.BadHierarchy i) none) in (
      none_file (λ (e : ℕ × ClassFile). causes cs Places e.0 e.1) (files_in cs c.args.files) i c.class_of_file-class.result.now c.class_of_file-class.ensures.file c.loop-file.invariant.0 none,
      beyond (is_on_a_cycle cs) (length cs) c.args.first (23 + i) (23 + (i + 1)) c.requires.first c.loop-file.invariant.1 well (omega arith),
    )

pub returns : goal.returns
returns c = no_file (λ (e : ℕ × ClassFile). causes c.args.classes.now Places e.0 e.1) c.args.classes.now c.args.files c.loop-file.file c.loop-file-test.false c.loop-file.invariant.0
