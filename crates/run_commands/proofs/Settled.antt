-- A run of an image without classes, as one by the settings of the command.
use Rattle.std.proofs.Common.{◌≡◌, ℕ, ◌≤◌, sym, subst}
use Rattle.image_file.specs.Bare.{BareContent}
use Rattle.endings.specs.declared.settings.Plan.{Plan}
use Rattle.endings.specs.declared.show.Show.{Show}
use Rattle.endings.specs.Show.{bare_shown}
use Rattle.command_line.specs.declared.command.Settings.{Settings}
use Rattle.endings.specs.declared.outcome.Ending.{Ending}
use Rattle.jop_core.specs.Reset.{bare_reset}
use Rattle.boundary.specs.Setting.{bare_setting}
use Rattle.run_devices.specs.Lent.{Lent}
use Rattle.endings.specs.Phase.{HasSettings}
use Rattle.endings.specs.Fitting.{blocks_of_code}
use Rattle.run_commands.specs.BareFile.{RanImage, RanImageWith}

pub with_settings : (settings : Settings) (show : Show) (n : ℕ) (image : BareContent) (plan : Plan) (old new : Lent) (ending : Ending) → settings.stack ≡ n → blocks_of_code settings image ≤ settings.blocks → HasSettings settings plan.config
    → plan.limit ≡ settings.cycles → plan.show ≡ show → RanImage (bare_shown plan.show) (bare_setting image n plan.config.memory) (bare_reset n image plan.config) plan.limit old new ending → RanImageWith settings show image old new ending
with_settings settings show n image plan old new ending is few has limit shows ran =
    let config = plan.config in
    let a = subst (λ (x : Show). RanImage (bare_shown x) (bare_setting image n config.memory) (bare_reset n image config) plan.limit old new ending) shows ran in
    let b = subst (λ (k : ℕ). RanImage (bare_shown show) (bare_setting image n config.memory) (bare_reset n image config) k old new ending) limit a in
    record { blocks = few; config = config; has = has; ran = subst (λ (k : ℕ). RanImage (bare_shown show) (bare_setting image k config.memory) (bare_reset k image config) settings.cycles old new ending) (sym is) b }
