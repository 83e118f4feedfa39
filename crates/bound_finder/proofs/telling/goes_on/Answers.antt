use Rattle.std.proofs.Common.{false}
use Rattle.bound_finder.specs.declared.telling.Told.{Told}
use Rattle.bound_finder.proofs.Pushed.{images_more, images_all}
use Rattle.bound_finder.proofs.telling.goes_on.Goals as goal

pub loop-told-preserved : goal.loop-told-preserved
loop-told-preserved c =
    images_more (λ (s : Told). s.goes_on) c.args.told.now c.loop-told.told-index (record { goes_on = false; inside = 0; full = 0 }) c.loop-told.goes.items c.push.new.self.items c.loop-told-test.true c.loop-told.invariant c.in_ok-push.ensures.items

pub returns : goal.returns
returns c = images_all (λ (s : Told). s.goes_on) c.args.told.now c.loop-told.told-index c.loop-told.goes.items c.loop-told-test.false c.loop-told.invariant
