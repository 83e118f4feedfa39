use Rattle.std.proofs.Common.{◌≡◌, [], Some, Ok, ap, ◌∙◌, refl, rules, arith}
use Rattle.std.specs.declared.result.Result.{Result}
use Rattle.device_traits.specs.declared.fault.DeviceFault.{DeviceFault}
use Rattle.jop_core.specs.Reset.{bare_reset}
use Rattle.boundary.specs.declared.runs.RunEnd.{RunEnd}
use Rattle.boundary.specs.declared.runs.RunEnd.TheVariants as ends
use Rattle.boundary.specs.Setting.{bare_setting}
use Rattle.run_devices.specs.Lent.{lent}
use Rattle.endings.specs.Show.{shown_by}
use Rattle.run_commands.proofs.Ended.{ran_from, has_restarted}
use Rattle.run_commands.proofs.Reset.{none_uncaught, to_fault, to_end, fault_leaves}
use Rattle.run_commands.proofs.bare_file.run_started.Goals as goal

abbrev ok : RunEnd → Result RunEnd DeviceFault
ok end = Ok end

pub run_to_end-ran-requires : goal.run_to_end-ran-requires
run_to_end-ran-requires g c = (omega arith, (has_restarted (bare_setting c.args.bare.now g.row.N c.args.plan.config.memory) (bare_reset g.row.N c.args.bare.now c.args.plan.config) c.args.running.now c.requires.started, (c.requires.few, c.requires.named)))

pub returns-in-Ok-Ended-clause-ran : goal.returns-in-Ok-Ended-clause-ran
returns-in-Ok-Ended-clause-ran g c =
    to_end (shown_by c.args.shown.now) (bare_setting c.args.bare.now g.row.N c.args.plan.config.memory) (bare_reset g.row.N c.args.bare.now c.args.plan.config) c.args.plan.limit (lent (Some []) 0 (g.O.Sink.held c.args.out.now) (g.O.Sink.faults c.args.out.now) (g.V.Watch.held c.args.watch.now))
    (lent (Some []) 0 (g.O.Sink.held c.run_to_end-ran.new.out) (g.O.Sink.faults c.run_to_end-ran.new.out) (g.V.Watch.held c.run_to_end-ran.new.watch))
    c.run_to_end-ran.result ends.Ended (let e : c.in-Ok-Ended.field-0 ≡ ends.Ended = search rules in c.in-Ok-Ended.is ∙ ap ok e) (ran_from (shown_by c.args.shown.now) (bare_setting c.args.bare.now g.row.N c.args.plan.config.memory) (bare_reset g.row.N c.args.bare.now c.args.plan.config) c.args.running.now c.args.plan.limit _ _ c.run_to_end-ran.result c.requires.started c.run_to_end-ran.ensures.ran)

pub returns-in-Ok-Spent-clause-ran : goal.returns-in-Ok-Spent-clause-ran
returns-in-Ok-Spent-clause-ran g c =
    to_end (shown_by c.args.shown.now) (bare_setting c.args.bare.now g.row.N c.args.plan.config.memory) (bare_reset g.row.N c.args.bare.now c.args.plan.config) c.args.plan.limit (lent (Some []) 0 (g.O.Sink.held c.args.out.now) (g.O.Sink.faults c.args.out.now) (g.V.Watch.held c.args.watch.now))
    (lent (Some []) 0 (g.O.Sink.held c.run_to_end-ran.new.out) (g.O.Sink.faults c.run_to_end-ran.new.out) (g.V.Watch.held c.run_to_end-ran.new.watch))
    c.run_to_end-ran.result ends.Spent (let e : c.in-Ok-Spent.field-0 ≡ ends.Spent = search rules in c.in-Ok-Spent.is ∙ ap ok e) (ran_from (shown_by c.args.shown.now) (bare_setting c.args.bare.now g.row.N c.args.plan.config.memory) (bare_reset g.row.N c.args.bare.now c.args.plan.config) c.args.running.now c.args.plan.limit _ _ c.run_to_end-ran.result c.requires.started c.run_to_end-ran.ensures.ran)

pub unreachable-requires : goal.unreachable-requires
unreachable-requires g c =
    none_uncaught c.bare_images_step.ensures c.args.bare.now c.requires.grammar (shown_by c.args.shown.now) g.row.N c.args.plan.config.memory (bare_reset g.row.N c.args.bare.now c.args.plan.config) c.args.plan.limit (lent (Some []) 0 (g.O.Sink.held c.args.out.now) (g.O.Sink.faults c.args.out.now) (g.V.Watch.held c.args.watch.now))
    (lent (Some []) 0 (g.O.Sink.held c.run_to_end-ran.new.out) (g.O.Sink.faults c.run_to_end-ran.new.out) (g.V.Watch.held c.run_to_end-ran.new.watch))
    c.run_to_end-ran.result c.in-Ok-Uncaught.field-0-0 (let e : c.in-Ok-Uncaught.field-0 ≡ ends.Uncaught c.in-Ok-Uncaught.field-0-0 = search rules in c.in-Ok-Uncaught.is ∙ ap ok e) (ran_from (shown_by c.args.shown.now) (bare_setting c.args.bare.now g.row.N c.args.plan.config.memory) (bare_reset g.row.N c.args.bare.now c.args.plan.config) c.args.running.now c.args.plan.limit _ _ c.run_to_end-ran.result c.requires.started c.run_to_end-ran.ensures.ran)

pub returns-in-Err-clause-ran : goal.returns-in-Err-clause-ran
returns-in-Err-clause-ran g c =
    to_fault (shown_by c.args.shown.now) (bare_setting c.args.bare.now g.row.N c.args.plan.config.memory) (bare_reset g.row.N c.args.bare.now c.args.plan.config) c.args.plan.limit (lent (Some []) 0 (g.O.Sink.held c.args.out.now) (g.O.Sink.faults c.args.out.now) (g.V.Watch.held c.args.watch.now))
    (lent (Some []) 0 (g.O.Sink.held c.run_to_end-ran.new.out) (g.O.Sink.faults c.run_to_end-ran.new.out) (g.V.Watch.held c.run_to_end-ran.new.watch))
    c.run_to_end-ran.result c.in-Err.fault c.fault_ending.result c.in-Err.is refl c.fault_ending.ensures (ran_from (shown_by c.args.shown.now) (bare_setting c.args.bare.now g.row.N c.args.plan.config.memory) (bare_reset g.row.N c.args.bare.now c.args.plan.config) c.args.running.now c.args.plan.limit _ _ c.run_to_end-ran.result c.requires.started c.run_to_end-ran.ensures.ran)

pub returns-in-Err-clause-done : goal.returns-in-Err-clause-done
returns-in-Err-clause-done g c = λ leaves. fault_leaves c.in-Err.fault c.fault_ending.result c.fault_ending.ensures leaves
