use Rattle.std.proofs.Common.{ℕ, List, ◌∙◌, sym, ap, ap₂}
use Rattle.std.specs.List.{flat_map}
use Rattle.class_pool.specs.declared.class.ClassFile.{ClassFile}
use Rattle.lists.specs.Lists.{first}
use Rattle.program_tables.specs.Instructions.{instructions_in}
use Rattle.unresolved_names.specs.Causes.{refused_instruction, refused_catch, refused_frame_class}
use Rattle.unresolved_names.proofs.MentionLemmas.{at_instructions, at_handlers, at_frames}
use Rattle.unresolved_names.proofs.mentions.first_in_code.Goals as goal

pub returns-in-Some : goal.returns-in-Some
returns-in-Some c =
    let caller = c.args.caller.now in
    let F = refused_instruction caller.classes.now caller.namer.number caller.namer.class.now c.args.method.now in
    at_instructions caller.classes.now caller.namer.number caller.namer.class.now c.args.method.now c.args.code.now c.in-Some.found c.requires.of_method
    (ap (λ (xs : List ℕ). first (flat_map F (instructions_in xs))) (sym c.as_slice-bytes.ensures) ∙ (sym c.in_ok-found.ensures ∙ c.in-Some.is))

pub returns-in-Some-first_at_handlers : goal.returns-in-Some-first_at_handlers
returns-in-Some-first_at_handlers c =
    let caller = c.args.caller.now in
    let F = refused_instruction caller.classes.now caller.namer.number caller.namer.class.now c.args.method.now in
    at_handlers caller.classes.now caller.namer.number caller.namer.class.now c.args.method.now c.args.code.now c.in-Some-first_at_handlers.caught c.requires.of_method
    (ap (λ (xs : List ℕ). first (flat_map F (instructions_in xs))) (sym c.as_slice-bytes.ensures) ∙ (sym c.in_ok-found.ensures ∙ c.in_default.is))
    (ap₂ (λ (ks : List ClassFile) (hs : List (ℕ × ℕ × ℕ × ℕ)). first (flat_map (λ (h : ℕ × ℕ × ℕ × ℕ). refused_catch ks caller.namer.number caller.namer.class.now h.3) hs)) (sym caller.same) (sym c.as_slice-handlers.ensures)
    ∙ sym c.in-Some-first_at_handlers.ensures)

pub returns : goal.returns
returns c =
    let caller = c.args.caller.now in
    let F = refused_instruction caller.classes.now caller.namer.number caller.namer.class.now c.args.method.now in
    c.first_in_frames.ensures
    ∙ (ap₂ (λ (ks : List ClassFile) (is : List ℕ). first (flat_map (refused_frame_class ks caller.namer.class.now) is)) caller.same (c.deref.ensures.value ∙ c.in_ok-indexes.ensures)
    ∙ at_frames caller.classes.now caller.namer.number caller.namer.class.now c.args.method.now c.args.code.now c.requires.of_method
    (ap (λ (xs : List ℕ). first (flat_map F (instructions_in xs))) (sym c.as_slice-bytes.ensures) ∙ (sym c.in_ok-found.ensures ∙ c.in_default.is))
    (ap₂ (λ (ks : List ClassFile) (hs : List (ℕ × ℕ × ℕ × ℕ)). first (flat_map (λ (h : ℕ × ℕ × ℕ × ℕ). refused_catch ks caller.namer.number caller.namer.class.now h.3) hs)) (sym caller.same) (sym c.as_slice-handlers.ensures)
    ∙ sym c.in_default-first_at_handlers.ensures))
