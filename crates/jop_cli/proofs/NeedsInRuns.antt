-- What a call of `memory` shows that answers that its line is written; and that this suffices in the runs of what is linked.
use Rattle.std.proofs.Common.{◌≡◌, ℕ, suc, ◌+◌, ◌-◌, ◌≤◌, ◌<◌, List, length, Option, ◌∙◌, ap, subst, refl, arith, inl, inr, ⊎_elim}
use Rattle.class_pool.specs.declared.class.ClassFile.{ClassFile}
use Rattle.jop_core.specs.Reset.{linked_reset}
use Rattle.bytecode_model.specs.declared.Ending.TheVariants.{Raising}
use Rattle.bytecode_model.specs.State.{State}
use Rattle.bytecode_model.specs.Program.{Program}
use Rattle.bytecode_model.specs.Effects.{fault_object, OutOfMemoryError, StackOverflowError}
use Rattle.bytecode_model.specs.Steps.{run_from}
use Rattle.program_tables.specs.Resolved.{resolved}
use Rattle.image_facts.specs.Places.{image_words}
use Rattle.image_words.specs.Regions.{places_of}
use Rattle.memory_laws.specs.Promises.{RunsFromBoot, StandsAtCall, StandsAtMaking}
use Rattle.activations.specs.Setting.{Setting, IsSetting, limits}
use Rattle.activations.specs.Activations.{Stage}
use Rattle.boundary.specs.Runs.{Goes, input_of}
use Rattle.boundary.specs.Start.{VerifiedProgramsAreTold}
use Rattle.boundary.proofs.Answered.{reached}
use Rattle.command_line.specs.declared.command.Command.TheVariants as commands
use Rattle.endings.specs.declared.outcome.Answer.TheVariants.{Text}
use Rattle.endings.specs.Show.{linked_shown}
use Rattle.endings.specs.Settings.{linked_setting}
use Rattle.jop_cli.specs.Tasks.{needing}
use Rattle.jop_cli.specs.Answer.{lent_of}
use Rattle.jop_cli.specs.promises.Memory.{NeedsSuffice, NeedsAreShown, NeedInRun, HasKept, NeedsSufficeInRuns}
use Rattle.jop_cli.proofs.Coming.{boot_is_fresh}
use Rattle.jop_cli.proofs.CountedLaw.{gives_bytes}
use Rattle.jop_cli.proofs.HoldingLaw.{setting_of}
use Rattle.jop_cli.proofs.OneRun.{front_of}
use Rattle.jop_cli.proofs.Written.{opened, text_put}
use Rattle.jop_cli.proofs.Wholly.{executed}

-- ---- from the outcome alone

pub needs_are_shown : NeedsAreShown
needs_are_shown c image bounds sizes command is =
    let p = text_put c (needing image) is (executed c (commands.Memory image bounds sizes) command) in
    record {
      files = p.operands;
      are = p.are;
      shows = ⊎_elim
          (λ a. inl (record { linked = a.linked; opened = opened c (needing image) p.operands (Text p.text) a; text = p.text.items; says = a.answers; put = p.put }))
          (λ b. inr (record { image = b.image; bare = b.bare; text = p.text.items; says = b.answers; put = p.put }))
          p.answers;
    }

-- ---- in the runs

module _ (told : VerifiedProgramsAreTold) (suffice : NeedsSuffice) (x : NeedInRun) where
  abbrev cs : List ClassFile
  cs = x.linked.classes

  abbrev program : Program
  program = resolved x.linked.classes

  abbrev setting : Setting
  setting = linked_setting x.linked.classes x.settings.stack x.ran.config.memory

  abbrev boot : State
  boot = x.goes_on.from.boot

  abbrev steps : ℕ
  steps = x.goes_on.from.steps

  abbrev first : Stage
  first = record { machine = linked_reset x.settings.stack x.linked.laid.words x.ran.config; state = x.goes_on.from.boot }

  abbrev input : ℕ → Option ℕ
  input = input_of x.after.state.answers

  is_setting : IsSetting setting
  is_setting = setting_of (linked_shown x.linked.classes x.show) x.call x.linked.classes setting first.machine x.settings.cycles (lent_of x.call.old) (lent_of x.call.new) x.ran.ran

  goes : Goes setting x.settings.cycles first (suc steps) x.after
  goes = (x.before, x.goes_on.from.goes, x.goes_on.going, x.goes_on.below, x.goes_on.follows)

  runs : RunsFromBoot program setting.types input boot
  runs =
      let fresh = boot_is_fresh program boot x.goes_on.from.is_boot in
      record {
        lawful = is_setting.lawful;
        typed = is_setting.typed;
        gives = gives_bytes setting x.settings.cycles first fresh.answers (suc steps) x.after goes;
        begins = x.goes_on.from.is_boot;
      }

  -- the answers before the step are the first ones
  front : (k : ℕ) → k < length x.before.state.answers → input k ≡ input_of x.before.state.answers k
  front k within =
      let comes = x.goes_on.follows.comes in
      ap (λ (xs : List (Option ℕ)). input_of xs k) comes.took ∙ front_of x.before.state.answers comes.answers k within

  before_is : x.before.state ≡ run_from program (limits setting) input boot steps
  before_is = reached setting x.settings.cycles first steps x.before x.goes_on.from.goes input front

  after_is : x.after.state ≡ run_from program (limits setting) input boot (suc steps)
  after_is = reached setting x.settings.cycles first (suc steps) x.after goes input (λ k within. refl)

  has_room : x.need.heap + length x.linked.laid.words ≤ x.settings.memory → x.need.heap ≤ x.ran.config.memory - image_words program (places_of cs)
  has_room room =
      let linked = x.is_linked.linked in
      let count = (told cs x.linked.laid x.are_resolved linked.verified linked.within x.is_linked.laid).count in
      let memory = x.ran.has.memory in
      omega (arith, room, count, memory)

  none_overflows : x.need.stack + 80 ≤ x.settings.stack → StandsAtCall program x.before.state → ¬ (x.after.state.mode ≡ Raising (fault_object StackOverflowError))
  none_overflows room stands raises =
      let both = suffice cs x.bounds_text x.sizes_text x.need x.is setting.types (limits setting) input boot steps runs in
      both.0 (omega (arith, room)) (subst (λ (s : State). StandsAtCall program s) before_is stands) (subst (λ (s : State). s.mode ≡ Raising (fault_object StackOverflowError)) after_is raises)

  none_lacks : x.need.heap + length x.linked.laid.words ≤ x.settings.memory → HasKept x → StandsAtMaking program x.before.state → ¬ (x.after.state.mode ≡ Raising (fault_object OutOfMemoryError))
  none_lacks room kept stands raises =
      let both = suffice cs x.bounds_text x.sizes_text x.need x.is setting.types (limits setting) input boot steps runs in
      both.1 (has_room room) kept (subst (λ (s : State). StandsAtMaking program s) before_is stands) (subst (λ (s : State). s.mode ≡ Raising (fault_object OutOfMemoryError)) after_is raises)

pub needs_suffice_in_runs : VerifiedProgramsAreTold → NeedsSuffice → NeedsSufficeInRuns
needs_suffice_in_runs told suffice x = (none_overflows told suffice x, none_lacks told suffice x)
