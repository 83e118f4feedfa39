use Rattle.std.proofs.Common.{sym, ◌∙◌, ap, subst}
use Rattle.jop_core.specs.State as machine
use Rattle.boundary.specs.Setting.{Stands}
use Rattle.boundary.proofs.Tops.{other_top}
use Rattle.boundary.proofs.top.other_top_frame.Goals as goal

pub returns : goal.returns
returns g c = λ h a b is known b_is follows stands top.
    other_top c.frames_have_room.ensures.saved h a b follows stands c.args.before top (record { locals = c.vp-locals.result; method = c.method.result; frames = c.frames_now.result })
    (λ e. c.requires.moved (sym (ap (λ (m : machine.MachineState). m.vp) b_is) ∙ e))
    (c.vp-locals.ensures ∙ ap (λ (m : machine.MachineState). m.vp) c.machine.ensures ∙ sym (ap (λ (m : machine.MachineState). m.vp) b_is))
    c.frames_now.ensures.made c.frames_now.ensures.left
    (c.method.ensures.method h b.state (record { is_setting = is; methods_are = known; stands = subst (λ m. Stands h m b.state) b_is stands }))
