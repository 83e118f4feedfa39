use Rattle.std.proofs.Common.{◌↔◌, ℕ, Bool, IsTrue, sym, subst}
use Rattle.loop_acts.specs.Writing.{IsWriterAt}
use Rattle.loop_finder.proofs.Stopping.{writer_there}
use Rattle.loop_finder.proofs.beginning.WritersStops.is_stop.Goals as goal

pub returns : goal.returns
returns c =
    let acts = c.args.self.now.acts.now in
    let local = c.args.self.now.local in
    subst (λ (b : Bool). IsTrue b ↔ ((p : ℕ) × IsWriterAt acts c.args.node local p)) (sym c.is_some.ensures)
    (writer_there acts c.args.node local c.writer_at.result c.writer_at.ensures)
