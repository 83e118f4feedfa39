-- A linked program that a machine holds.
use Rattle.std.proofs.Common.{◌≡◌, ℕ, ◌-◌, ◌<◌, ◌≤◌, true, List, length, Option, Some, None, refl, sym, ◌∙◌, ap, subst, arith, inl, ⊎_elim, lt-ltb, le-leb}
use Rattle.std.specs.Prelude.{IfSome, IsSomeAnd, IfOk, Result, Ok, Err}
use Rattle.machine_memory.specs.Stack.Size.{IsSize}
use Rattle.base.specs.Packed.{words_for}
use Rattle.method_cache.specs.Contents.{empty, can_load}
use Rattle.machine_memory.specs.declared.timing.Config.{Config}
use Rattle.jop_core.specs.Reset.{linked_reset}
use Rattle.class_pool.specs.declared.class.ClassFile.{ClassFile}
use Rattle.image_facts.specs.declared.method.CodedMethod.{CodedMethod}
use Rattle.image_facts.specs.Methods.{AreMethods}
use Rattle.bytecode_model.specs.Program.{Body, body_of}
use Rattle.bytecode_model.specs.Sizes.{body_words}
use Rattle.program_tables.specs.Resolving.{IsResolved}
use Rattle.program_tables.specs.Resolved.{resolved}
use Rattle.image_facts.specs.Says.{IsCode}
use Rattle.image_words.specs.Regions.{places_of}
use Rattle.image_builder.specs.Laid.{Laid}
use Rattle.bytecode_verifier.specs.Failure.{IsVerified}
use Rattle.boundary.specs.declared.answer.Boundary.TheVariants.{Bytecode}
use Rattle.boundary.specs.Linked.{IsHeld, IsHeldImage, BeginsEach}
use Rattle.boundary.specs.Session.{Session, Begins}
use Rattle.jopizer.specs.Methods.Fitting.{code_blocks}
use Rattle.boundary.specs.Start.{IsTold, VerifiedProgramsAreTold, BootTakesSixWords}
use Rattle.run_commands.specs.Run.{Started}
use Rattle.run_commands.specs.LinkedRun.{CanRun}
use Rattle.endings.specs.Settings.{linked_setting}

-- ---- what fits

loads : (b : Body) (blocks block_words : ℕ) → IsCode b.code → code_blocks block_words b ≤ blocks → can_load (words_for (length b.code)) (empty blocks block_words) ≡ true
loads b blocks block_words code fits =
    let some : 0 < words_for (length b.code) = omega (arith, code.some) in
    rw (lt-ltb 0 (words_for (length b.code)) some, le-leb (code_blocks block_words b) blocks fits) refl

load_case : (o : Option Body) (blocks block_words : ℕ) → IfSome o (λ b. IsCode b.code) → IfSome o (λ b. code_blocks block_words b ≤ blocks) → IfSome o (λ b. can_load (words_for (length b.code)) (empty blocks block_words) ≡ true)
load_case None blocks block_words codes fit = tt
load_case (Some b) blocks block_words codes fit = loads b blocks block_words codes fit

boot_room : (n : ℕ) → IsSize n → 6 ≤ n - 80
boot_room n size = ⊎_elim (λ e. omega (arith, e)) (λ rest. ⊎_elim (λ e. omega (arith, e)) (λ e. omega (arith, e)) rest) size

boot_case : (o : Option Body) (n : ℕ) → IsSize n → IsSomeAnd o (λ b. body_words b ≡ 6) → IfSome o (λ b. body_words b ≤ n - 80)
boot_case None n size h = tt
boot_case (Some b) n size h = omega (arith, h, boot_room n size)

-- ---- the machine holds it

module _ (told : VerifiedProgramsAreTold) (boots : BootTakesSixWords) (cs : List ClassFile) (r : IsResolved cs) (v : IsVerified cs) (laid : Laid) (config : Config) (n : ℕ) (size : IsSize n) (can : CanRun cs laid config) where
  abbrev is_told : IsTold cs laid
  is_told = told cs laid r v can.within can.laid_out

  pub held : IsHeld (linked_setting cs n config.memory) config
  held = record {
    is_setting = record { says = is_told.says; lawful = is_told.lawful; typed = is_told.typed; origin = inl is_told.linked };
    linked = is_told.linked;
    size = size;
    memory = refl;
    image = omega (arith, is_told.count, can.memory);
    methods = λ m. load_case (body_of (resolved cs) m) config.blocks config.block_words (is_told.says.codes m) (can.codes m);
    boot = boot_case (body_of (resolved cs) (resolved cs).boot) n size
        (subst (λ (xs : List ClassFile). IsSomeAnd (body_of (resolved xs) (resolved xs).boot) (λ b. body_words b ≡ 6)) (sym can.linked.classes) (boots can.linked.files can.linked.main));
  }

  pub linked : (words : List ℕ) (methods : List CodedMethod) → words ≡ laid.words → AreMethods (resolved cs) (places_of cs) methods → IsHeldImage n words methods config
  linked words methods same are = record { setting = linked_setting cs n config.memory; held = held; chip = refl; words_are = same ∙ is_told.words; methods_are = are }

  started : (s : Session) (words : List ℕ) (methods : List CodedMethod) → words ≡ laid.words → AreMethods (resolved cs) (places_of cs) methods → s ≡ record { machine = linked_reset n words config; methods = methods; mode = Ok Bytecode } → BeginsEach n words config s.machine
      → Started (linked_setting cs n config.memory) (linked_reset n laid.words config) s
  started s words methods same are is begins =
      let machine_is : s.machine ≡ linked_reset n laid.words config = ap (λ (x : Session). x.machine) is ∙ ap (λ (ws : List ℕ). linked_reset n ws config) same in
      record {
        is_setting = held.is_setting;
        methods = subst (AreMethods (resolved cs) (places_of cs)) (sym (ap (λ (x : Session). x.methods) is)) are;
        machine_is = machine_is;
        mode = ap (λ (x : Session). x.mode) is;
        begins = subst (Begins (linked_setting cs n config.memory)) machine_is (begins (linked_setting cs n config.memory) held refl (same ∙ is_told.words));
      }

  pub start_case : {E : Type 0} (s : Result Session E) (words : List ℕ) (methods : List CodedMethod) → words ≡ laid.words → AreMethods (resolved cs) (places_of cs) methods
      → IfOk s (λ r. r ≡ record { machine = linked_reset n words config; methods = methods; mode = Ok Bytecode }) → IfOk s (λ r. BeginsEach n words config r.machine)
      → IfOk s (Started (linked_setting cs n config.memory) (linked_reset n laid.words config))
  start_case (Ok r) words methods same are is begins = started r words methods same are is begins
  start_case (Err e) words methods same are is begins = tt

  pub same_methods : {E : Type 0} (s : Result Session E) (words : List ℕ) (methods : List CodedMethod) → IfOk s (λ r. r ≡ record { machine = linked_reset n words config; methods = methods; mode = Ok Bytecode }) → IfOk s (λ r. r.methods ≡ methods)
  same_methods (Ok r) words methods is = ap (λ (x : Session). x.methods) is
  same_methods (Err e) words methods is = tt
