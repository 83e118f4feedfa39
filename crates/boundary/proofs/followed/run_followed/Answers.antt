use Rattle.std.proofs.Common.{lit<, sym, ◌∙◌, Ok}
use Rattle.image_facts.specs.Methods.{AreMethods}
use Rattle.boundary.specs.Followed.{FollowsAll}
use Rattle.boundary.specs.declared.runs.RunEnd.TheVariants as ends
use Rattle.boundary.proofs.Whole.{goes_from}
use Rattle.boundary.proofs.Following.{ended_so, uncaught_so, to_end, all_run}
use Rattle.boundary.proofs.followed.run_followed.Goals as goal

pub follow_to_end-requires : goal.follow_to_end-requires
follow_to_end-requires g c = (lit< tt, (goes_from c.args.running.now.mode c.in_ok-mode.field-0 (sym c.mode.ensures.is ∙ c.in_ok-mode.was) c.in-Bytecode.is, c.requires.few))

pub returns-in-Halted-clause-follows : goal.returns-in-Halted-clause-follows
unfolding FollowsAll
returns-in-Halted-clause-follows g c = λ h s is st.
    to_end g.F.Follower.after h c.args.limit c.args.running.now s c.args.running.now.machine (g.D.Devices.told c.args.device.now) (g.D.Devices.told c.args.device.now) c.args.follower.now c.args.follower.now ends.Ended
    (ended_so g.F.Follower.after c.runs_add_up.ensures c.cycles_keep.ensures h c.args.limit (record { machine = c.args.running.now.machine; state = s }) (AreMethods h.program h.places c.args.running.now.methods) c.args.follower.now (g.D.Devices.told c.args.device.now) st (c.in_ok-mode.ensures.all h s is st ∙ c.in-Halted.is))

pub returns-in-Halted-clause-runs : goal.returns-in-Halted-clause-runs
returns-in-Halted-clause-runs g c =
    all_run g.F.Follower.after c.args.limit c.args.running.now c.args.running.now.machine (g.D.Devices.told c.args.device.now) (g.D.Devices.told c.args.device.now) c.args.follower.now c.args.follower.now (Ok ends.Ended) (returns-in-Halted-clause-follows g c)

pub returns-in-Uncaught-clause-follows : goal.returns-in-Uncaught-clause-follows
unfolding FollowsAll
returns-in-Uncaught-clause-follows g c = λ h s is st.
    to_end g.F.Follower.after h c.args.limit c.args.running.now s c.args.running.now.machine (g.D.Devices.told c.args.device.now) (g.D.Devices.told c.args.device.now) c.args.follower.now c.args.follower.now (ends.Uncaught c.in-Uncaught.class)
    (uncaught_so g.F.Follower.after c.runs_add_up.ensures c.cycles_keep.ensures h c.args.limit (record { machine = c.args.running.now.machine; state = s }) (AreMethods h.program h.places c.args.running.now.methods) c.args.follower.now (g.D.Devices.told c.args.device.now) c.in-Uncaught.class st (c.in_ok-mode.ensures.all h s is st ∙ c.in-Uncaught.is))

pub returns-in-Uncaught-clause-runs : goal.returns-in-Uncaught-clause-runs
returns-in-Uncaught-clause-runs g c =
    all_run g.F.Follower.after c.args.limit c.args.running.now c.args.running.now.machine (g.D.Devices.told c.args.device.now) (g.D.Devices.told c.args.device.now) c.args.follower.now c.args.follower.now (Ok (ends.Uncaught c.in-Uncaught.class)) (returns-in-Uncaught-clause-follows g c)
