use Rattle.std.proofs.Common.{◌∙◌, ap, subst}
use Rattle.boundary.specs.Setting.{Stands}
use Rattle.boundary.proofs.Tops.{here_is, top_is_of}
use Rattle.boundary.proofs.followed.hand_other.Goals as goal

pub returns : goal.returns
returns g c =
    record {
      top = c.other_top_frame-top.ensures;
      hands = λ h a b is known b_is follows stands top handed.
          c.at.ensures
          ∙ ap (g.F.Follower.after c.args.follower.now)
          (c.here.ensures.state h b.state (record { is_setting = is; methods_are = known; stands = subst (λ m. Stands h m b.state) b_is stands })
          (top_is_of b c.args.running.now.machine c.other_top_frame-top.result b_is (c.other_top_frame-top.ensures h a b is known b_is follows stands top))
          ∙ here_is b c.args.running.now.machine b_is);
    }
