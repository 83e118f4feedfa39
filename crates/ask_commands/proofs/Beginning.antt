-- A machine with settings that holds an image begins with it.
use Rattle.std.proofs.Common.{◌≡◌, ℕ, ◌-◌, ◌<◌, ◌≤◌, true, List, ◌∷◌, [], length, Option, Some, None, refl, sym, ◌∙◌, ap, subst, arith, inl, ⊎_elim}
use Rattle.std.proofs.Common.{lt-ltb, le-leb, length-append}
use Rattle.std.specs.Prelude.{IfSome, IsSomeAnd}
use Rattle.machine_memory.specs.Stack.Size.{IsSize}
use Rattle.base.specs.Packed.{words_for}
use Rattle.method_cache.specs.Contents.{empty, can_load}
use Rattle.machine_memory.specs.declared.timing.Config.{Config}
use Rattle.image_file.specs.Bare.{BareContent, IsBareContent, spelled, return_code}
use Rattle.jop_core.specs.Reset.{CanStart, CanStartBare}
use Rattle.class_pool.specs.declared.class.ClassFile.{ClassFile}
use Rattle.bytecode_model.specs.Program.{Body, body_of}
use Rattle.bytecode_model.specs.Sizes.{body_words}
use Rattle.program_tables.specs.Resolving.{IsResolved}
use Rattle.program_tables.specs.Resolved.{resolved}
use Rattle.image_facts.specs.Says.{IsCode}
use Rattle.boundary.specs.Linked.{IsHeld, LinkedRunsBegin}
use Rattle.boundary.specs.Start.{IsTold, VerifiedProgramsAreTold, BootTakesSixWords}
use Rattle.jopizer.specs.Linked.{Parts, IsLinked}
use Rattle.jopizer.specs.Methods.Fitting.{code_blocks, MethodFits}
use Rattle.command_line.specs.declared.command.Settings.{Settings}
use Rattle.endings.specs.Fitting.{blocks_of_code}
use Rattle.endings.specs.Phase.{HasSettings}
use Rattle.endings.specs.Settings.{linked_setting}
use Rattle.ask_commands.specs.Circuits.{IsHeldBy}

-- ---- what is linked

loads : (b : Body) (blocks block_words : ℕ) → IsCode b.code → code_blocks block_words b ≤ blocks → can_load (words_for (length b.code)) (empty blocks block_words) ≡ true
loads b blocks block_words code fits =
    let some : 0 < words_for (length b.code) = omega (arith, code.some) in
    rw (lt-ltb 0 (words_for (length b.code)) some, le-leb (code_blocks block_words b) blocks fits) refl

load_case : (o : Option Body) (blocks block_words : ℕ) → IfSome o (λ b. IsCode b.code) → IfSome o (λ b. code_blocks block_words b ≤ blocks)
    → IfSome o (λ b. can_load (words_for (length b.code)) (empty blocks block_words) ≡ true)
load_case None blocks block_words codes fit = tt
load_case (Some b) blocks block_words codes fit = loads b blocks block_words codes fit

boot_room : (n : ℕ) → IsSize n → 6 ≤ n - 80
boot_room n size = ⊎_elim (λ e. omega (arith, e)) (λ rest. ⊎_elim (λ e. omega (arith, e)) (λ e. omega (arith, e)) rest) size

boot_case : (o : Option Body) (n : ℕ) → IsSize n → IsSomeAnd o (λ b. body_words b ≡ 6) → IfSome o (λ b. body_words b ≤ n - 80)
boot_case None n size h = tt
boot_case (Some b) n size h = omega (arith, h, boot_room n size)

module _ (told : VerifiedProgramsAreTold) (boots : BootTakesSixWords) (l : Parts) (linked : IsLinked l) (r : IsResolved l.classes) (s : Settings) (size : IsSize s.stack) (holds : IsHeldBy s l) (config : Config) (has : HasSettings s config) where
  is_told : IsTold l.classes l.laid
  is_told = told l.classes l.laid r linked.linked.verified linked.linked.within linked.laid

  codes : (m : ℕ) → MethodFits (resolved l.classes) config.blocks config.block_words m
  codes m =
      let blocks = subst (λ (b : ℕ). MethodFits (resolved l.classes) b s.block_words m) (sym has.blocks) (holds.codes m) in
      subst (λ (w : ℕ). MethodFits (resolved l.classes) config.blocks w m) (sym has.block_words) blocks

  held : IsHeld (linked_setting l.classes s.stack config.memory) config
  held =
      let t = is_told in
      let memory = has.memory in
      let count = t.count in
      let few = holds.memory in
      let program = linked.linked.program in
      record {
        is_setting = record { says = t.says; lawful = t.lawful; typed = t.typed; origin = inl t.linked };
        linked = t.linked;
        size = size;
        memory = refl;
        image = omega (arith, count, few, memory);
        methods = λ m. load_case (body_of (resolved l.classes) m) config.blocks config.block_words (t.says.codes m) (codes m);
        boot = boot_case (body_of (resolved l.classes) (resolved l.classes).boot) s.stack size
            (subst (λ (xs : List ClassFile). IsSomeAnd (body_of (resolved xs) (resolved xs).boot) (λ b. body_words b ≡ 6)) (sym program.program) (boots program.classes l.main));
      }

  -- a machine begins with the words of the image
  pub begins : LinkedRunsBegin → CanStart l.laid.words config
  begins law = subst (λ (ws : List ℕ). CanStart ws config) (sym is_told.words) (law (linked_setting l.classes s.stack config.memory) config held).0

-- ---- a bare image

pub begins_bare : (s : Settings) (image : BareContent) (config : Config) → HasSettings s config → IsBareContent image → blocks_of_code s image ≤ s.blocks → CanStartBare image config
begins_bare s image config has grammar few =
    let some : 1 ≤ length image.code = omega (arith, ap length grammar.code ∙ length-append (spelled grammar.instructions) (return_code ∷ [])) in
    let words : 0 < words_for (length image.code) = omega (arith, some) in
    ap (λ b. can_load (words_for (length image.code)) (empty b config.block_words)) has.blocks
    ∙ ap (λ w. can_load (words_for (length image.code)) (empty s.blocks w)) has.block_words
    ∙ rw (lt-ltb 0 (words_for (length image.code)) words, le-leb (blocks_of_code s image) s.blocks few) refl
