-- The run of a machine of the size that the settings give.
use Rattle.std.proofs.Common.{◌≡◌, ℕ, ◌≤◌, List, length, sym, subst}
use Rattle.std.specs.Prelude.{IfOk, Result, Ok, Err}
use Rattle.endings.specs.declared.settings.Plan.{Plan}
use Rattle.jop_core.specs.Reset.{linked_reset}
use Rattle.command_line.specs.declared.command.Settings.{Settings}
use Rattle.class_pool.specs.declared.class.ClassFile.{ClassFile}
use Rattle.image_builder.specs.Laid.{Laid}
use Rattle.jopizer.specs.Linked.{Parts}
use Rattle.run_commands.specs.declared.program_end.ProgramEnd.{ProgramEnd}
use Rattle.endings.specs.Fitting.{CodesFit}
use Rattle.run_commands.specs.LinkedSettings.{RanLinkedWith}
use Rattle.endings.specs.declared.show.Show.{Show}
use Rattle.endings.specs.Show.{linked_shown}
use Rattle.endings.specs.Phase.{HasSettings}
use Rattle.run_devices.specs.Lent.{Lent}
use Rattle.run_commands.specs.Run.{Ran}
use Rattle.run_commands.specs.LinkedRun.{HasClass}
use Rattle.endings.specs.Settings.{linked_setting}

with_settings : (settings : Settings) (show : Show) (l : Parts) (cs : List ClassFile) (laid : Laid) (n : ℕ) (plan : Plan) (old new : Lent) (end : ProgramEnd) → CodesFit settings l → length l.laid.words ≤ settings.memory → cs ≡ l.classes → laid ≡ l.laid
    → settings.stack ≡ n → HasSettings settings plan.config → plan.limit ≡ settings.cycles → plan.show ≡ show
    → Ran (linked_shown cs plan.show) (linked_setting cs n plan.config.memory) (linked_reset n laid.words plan.config) plan.limit old new end → HasClass cs end.end → RanLinkedWith settings show l old new end
with_settings settings show l cs laid n plan old new end codes memory classes laid_is stack has limit shows ran class =
    let config = plan.config in
    let a = subst (λ (xs : List ClassFile). Ran (linked_shown xs plan.show) (linked_setting xs n config.memory) (linked_reset n laid.words config) plan.limit old new end) classes ran in
    let b = subst (λ (x : Laid). Ran (linked_shown l.classes plan.show) (linked_setting l.classes n config.memory) (linked_reset n x.words config) plan.limit old new end) laid_is a in
    let c = subst (λ (x : Show). Ran (linked_shown l.classes x) (linked_setting l.classes n config.memory) (linked_reset n l.laid.words config) plan.limit old new end) shows b in
    let d = subst (λ (k : ℕ). Ran (linked_shown l.classes show) (linked_setting l.classes n config.memory) (linked_reset n l.laid.words config) k old new end) limit c in
    record {
      codes = codes;
      memory = memory;
      config = config;
      has = has;
      ran = subst (λ (k : ℕ). Ran (linked_shown l.classes show) (linked_setting l.classes k config.memory) (linked_reset k l.laid.words config) settings.cycles old new end) (sym stack) d;
      class = subst (λ (xs : List ClassFile). HasClass xs end.end) classes class;
    }

-- or there was no memory for it
pub held_with : {E : Type 0} (settings : Settings) (show : Show) (l : Parts) (cs : List ClassFile) (laid : Laid) (n : ℕ) (plan : Plan) (old new : Lent) (r : Result ProgramEnd E) → CodesFit settings l → length l.laid.words ≤ settings.memory → cs ≡ l.classes
    → laid ≡ l.laid → settings.stack ≡ n → HasSettings settings plan.config → plan.limit ≡ settings.cycles → plan.show ≡ show
    → IfOk r (Ran (linked_shown cs plan.show) (linked_setting cs n plan.config.memory) (linked_reset n laid.words plan.config) plan.limit old new) → IfOk r (λ p. HasClass cs p.end) → IfOk r (RanLinkedWith settings show l old new)
held_with settings show l cs laid n plan old new (Ok p) codes memory classes laid_is stack has limit shows ran class = with_settings settings show l cs laid n plan old new p codes memory classes laid_is stack has limit shows ran class
held_with settings show l cs laid n plan old new (Err e) codes memory classes laid_is stack has limit shows ran class = tt
