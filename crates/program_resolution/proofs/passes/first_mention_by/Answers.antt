use Rattle.std.proofs.Common.{◌≡◌, ℕ, List, Some, sym, ◌∙◌, subst}
use Rattle.std.specs.Prelude.{slice_get}
use Rattle.class_pool.specs.declared.class.ClassFile.{ClassFile}
use Rattle.program_resolution.specs.Linked.{files_in}
use Rattle.program_resolution.specs.Refusals.{Mentions, causes}
use Rattle.program_resolution.proofs.FileLemmas.{found_file, none_file, no_file}
use Rattle.program_resolution.proofs.passes.first_mention_by.Goals as goal

pub returns-in-Some : goal.returns-in-Some
returns-in-Some c =
    let cs = c.args.classes.now in
    found_file (λ (e : ℕ × ClassFile). causes cs Mentions e.0 e.1) (files_in cs c.args.files) c.loop-file.file c.class_of_file-class.result.now c.in-Some.refusal (subst (λ (ks : List ClassFile). slice_get (files_in ks c.args.files) c.loop-file.file ≡ Some c.class_of_file-class.result.now) c.classes.ensures c.class_of_file-class.ensures.file) c.loop-file.invariant (sym c.in_ok-refusal.ensures ∙ c.in-Some.is)

pub loop-file-preserved : goal.loop-file-preserved
loop-file-preserved c =
    let cs = c.args.classes.now in
    none_file (λ (e : ℕ × ClassFile). causes cs Mentions e.0 e.1) (files_in cs c.args.files) c.loop-file.file c.class_of_file-class.result.now (subst (λ (ks : List ClassFile). slice_get (files_in ks c.args.files) c.loop-file.file ≡ Some c.class_of_file-class.result.now) c.classes.ensures c.class_of_file-class.ensures.file) c.loop-file.invariant (sym c.in_ok-refusal.ensures ∙ c.in_default.is)

pub returns : goal.returns
returns c = no_file (λ (e : ℕ × ClassFile). causes c.args.classes.now Mentions e.0 e.1) c.args.classes.now c.args.files c.loop-file.file c.loop-file-test.false c.loop-file.invariant
