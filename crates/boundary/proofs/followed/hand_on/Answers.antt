use Rattle.std.proofs.Common.{◌≡◌, sym, ◌∙◌, ap, subst, arith}
use Rattle.jop_core.specs.State as machine
use Rattle.boundary.specs.Setting.{Stands}
use Rattle.boundary.specs.Followed.{here_of}
use Rattle.boundary.proofs.Tops.{same_top, small_seen, later_here}
use Rattle.boundary.proofs.followed.hand_on.Goals as goal

pub returns-then-vp-before : goal.returns-then-vp-before
returns-then-vp-before g c =
    record {
      top = λ h a b is known b_is follows stands top.
          same_top c.frames_have_room.ensures.saved h a b follows stands c.args.before top
          (omega (arith, ap (λ (m : machine.MachineState). m.vp) b_is, ap (λ (m : machine.MachineState). m.vp) c.machine-machine.ensures, c.vp.ensures, c.if-vp-before.true));
      hands = λ h a b is known b_is follows stands top handed.
          let now =
          same_top c.frames_have_room.ensures.saved h a b follows stands c.args.before top
          (omega (arith, ap (λ (m : machine.MachineState). m.vp) b_is, ap (λ (m : machine.MachineState). m.vp) c.machine-machine.ensures, c.vp.ensures, c.if-vp-before.true)) in
          let same : c.machine-machine.result.now ≡ b.machine = c.machine-machine.ensures ∙ sym b_is in
          c.at_same_frame.ensures (here_of a) handed
          ∙ ap (g.F.Follower.after c.args.follower.now)
          (later_here a b c.args.before c.clock-clock.result c.misses-misses.result c.pc.result
          (c.clock-clock.ensures ∙ ap (λ (m : machine.MachineState). m.clock) same) (c.misses-misses.ensures ∙ ap (λ (m : machine.MachineState). m.misses) same)
          top now (c.pc.ensures h b.state (record { is_setting = is; methods_are = known; stands = subst (λ m. Stands h m b.state) b_is stands })));
      small = small_seen c.args.running.now c.machine-machine.result.now c.machine-machine.ensures c.clock-clock.result c.misses-misses.result c.clock-clock.ensures c.misses-misses.ensures c.clock-clock.type_inv c.misses-misses.type_inv;
    }

pub returns : goal.returns
returns g c =
    record {
      top = c.hand_other.ensures.top;
      hands = c.hand_other.ensures.hands;
      small = small_seen c.args.running.now c.machine-machine.result.now c.machine-machine.ensures c.clock-clock.result c.misses-misses.result c.clock-clock.ensures c.misses-misses.ensures c.clock-clock.type_inv c.misses-misses.type_inv;
    }
