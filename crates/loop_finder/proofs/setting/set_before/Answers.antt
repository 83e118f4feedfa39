use Rattle.std.proofs.Common.{ℤ, Option, sym, ap, ◌∙◌, subst}
use Rattle.std.specs.Prelude.{None}
use Rattle.loop_acts.specs.Writing.{IsOnly, stored_by}
use Rattle.loop_finder.specs.Setting.{IsSetTo}
use Rattle.loop_finder.proofs.SetBefore.{first_is_last, no_store, no_write, set_of}
use Rattle.loop_finder.proofs.setting.set_before.Goals as goal

pub returns-in_err-place : goal.returns-in_err-place
returns-in_err-place c g h entry only before =
    subst (λ (o : Option ℤ). IsOnly (IsSetTo c.args.acts.now g h c.args.local) o) (sym c.from_residual.ensures) (no_write c.args.acts.now g h c.args.local entry c.args.before.now only before c.in_err-place.ensures)

pub returns-in-Set : goal.returns-in-Set
returns-in-Set c g h entry only before =
    let acts = c.args.acts.now in
    let place = c.in_ok-place.place in
    set_of acts g h c.args.local entry place only (first_is_last acts g h c.args.local entry c.args.before.now only before place c.in_ok-place.ensures) c.in-Set.constant (ap stored_by c.in-Set.ensures)

pub returns-in_default : goal.returns-in_default
returns-in_default c g h entry only before =
    let acts = c.args.acts.now in
    let place = c.in_ok-place.place in
    set_of acts g h c.args.local entry place only (first_is_last acts g h c.args.local entry c.args.before.now only before place c.in_ok-place.ensures) None (no_store c.act_at.result c.in_default.not-Set ∙ ap stored_by c.act_at.ensures)
