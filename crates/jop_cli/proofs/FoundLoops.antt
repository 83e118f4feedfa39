-- The loops whose lines `loops` puts keep their numbers in each frame of the runs of what is linked.
use Rattle.std.proofs.Common.{◌≡◌, ℕ, List, [], ◌∷◌, Some, None, refl, sym, ◌∙◌, subst}
use Rattle.lists.proofs.Lemmas.{some_same, none≢some}
use Rattle.class_pool.specs.declared.class.ClassFile.{ClassFile}
use Rattle.device_traits.specs.Told.{Told}
use Rattle.jop_core.specs.State as machine
use Rattle.jop_core.specs.Reset.{linked_reset}
use Rattle.bytecode_model.specs.State.{Frame, State}
use Rattle.bytecode_model.specs.Program.{Program}
use Rattle.bytecode_model.specs.Steps.{boot_state}
use Rattle.bytecode_typing.specs.Fits.{Fits}
use Rattle.loop_nest.specs.Digraph.{Digraph}
use Rattle.loop_nest.specs.Walks.{KeepsBound}
use Rattle.method_flow.specs.Nodes.{At, number_of}
use Rattle.method_flow.specs.Graphs.{IsGraphOf}
use Rattle.method_runs.specs.Runs.{Walks, boot_walks}
use Rattle.bound_rules.specs.Laws.{GraphsAreOne}
use Rattle.program_tables.specs.Resolved.{resolved}
use Rattle.loop_rules.specs.declared.found.FoundLoop.{FoundLoop}
use Rattle.loop_rules.specs.Sites.{int_at}
use Rattle.loop_rules.specs.Tests.{Constants}
use Rattle.loop_rules.specs.Further.Known.{Known}
use Rattle.loop_rules.specs.Further.Fields.{PutOnlyArrays}
use Rattle.loop_rules.specs.Further.Found.{only_constants}
use Rattle.loop_rules.specs.Further.Arrays.{IsKnownBy, PutsKeepArrays}
use Rattle.counted_laws.specs.Counting.{CountsFurther, CountedLoopsAreFurther, FramesCountFurther, FurtherLoopsKeep}
use Rattle.counted_laws.specs.Paths.{AreNullAtFirst, BootHoldsKnown, HoldConstants, HoldKnown}
use Rattle.activation_laws.specs.Counted.Others.{CountsIn, CountsFurtherIn}
use Rattle.activation_laws.specs.Counted.Runs.{BootHoldsConstants}
use Rattle.activations.specs.Setting.{Setting, IsSetting, limits}
use Rattle.activations.specs.Activations.{Stage}
use Rattle.boundary.specs.Runs.{IsRun, input_of}
use Rattle.boundary.specs.Traces.{unnoted}
use Rattle.boundary.proofs.Answered.{reached}
use Rattle.run_devices.specs.Lent.{Lent, wired}
use Rattle.run_devices.specs.Traced.{traced}
use Rattle.jopizer.specs.Linked.{Parts}
use Rattle.endings.specs.Show.{Shown, Output, Trace, linked_shown}
use Rattle.endings.specs.Settings.{linked_setting}
use Rattle.jop_cli.specs.Answer.{lent_of}
use Rattle.jop_cli.specs.Calls.{Call}
use Rattle.jop_cli.specs.Courses.{RanShown}
use Rattle.jop_cli.specs.promises.Runs.{RunAt, walks_at}
use Rattle.jop_cli.specs.promises.Loops.{FramesKeepLoop, FoundLoopsAreKept, FurtherFoundLoopsAreKept}
use Rattle.jop_cli.proofs.Coming.{boot_is_fresh}
use Rattle.jop_cli.proofs.CountedLaw.{first_stands, gives_bytes}
use Rattle.jop_cli.proofs.HoldingLaw.{setting_of}

-- ---- in frames

module _ (one : GraphsAreOne) (P : Program) (known : Known) (x : FoundLoop) (counts : CountsFurtherIn P known x.method x.place x.bound) where
  abbrev Keeps : Digraph → List ℕ → Type 0
  Keeps g us = KeepsBound g (number_of (At x.place)) x.bound us

  frames_keep : (fs : List Frame) (ws : Walks) → FramesCountFurther P known fs ws → FramesKeepLoop P x fs ws
  frames_keep [] ws h = tt
  frames_keep (f ∷ fs) [] h = tt
  frames_keep (f ∷ fs) (None ∷ ws) h = frames_keep fs ws h
  frames_keep (f ∷ fs) (Some us ∷ ws) h = (
    λ same g is.
        let further = subst (λ (m : ℕ). CountsFurther P known m counts.graph x.place x.bound) (sym same) counts.counts in
        let graph = subst (λ (m : ℕ). IsGraphOf P m counts.graph) (sym same) counts.is_graph in
        let kept : Keeps counts.graph us = h.0 counts.graph x.place x.bound graph counts.cycles further in
        subst (λ (d : Digraph). Keeps d us) (one P x.method counts.graph g counts.is_graph is) kept,
    frames_keep fs ws h.1,
  )

-- ---- where a run begins

record Began (g : Setting) (reset : machine.MachineState) (limit : ℕ) : Type 0 where
  boot : State
  is_boot : boot_state g.program ≡ Some boot
  last : Stage
  before : Told
  after : Told
  run : IsRun g limit (record { machine = reset; state = boot }) last before after

began : (shown : Shown) (c : Call) (cs : List ClassFile) (g : Setting) (reset : machine.MachineState) (limit : ℕ) (old new : Lent) → RanShown shown c cs g reset limit old new → Began g reset limit
began Output c cs g reset limit old new r = record { boot = r.boot; is_boot = r.is_boot; last = r.last; before = wired old; after = wired new; run = r.run }
began (Trace cycles names) c cs g reset limit old new r = record {
  boot = r.boot;
  is_boot = r.is_boot;
  last = r.last;
  before = unnoted (traced cycles old.left old.read_faults old.held old.write_faults old.write_faults);
  after = unnoted r.after;
  run = r.run;
}

-- ---- at a boundary of a run

module _ (keep : FurtherLoopsKeep) (l : Parts) (r : RunAt l) where
  abbrev setting : Setting
  setting = linked_setting l.classes r.settings.stack r.ran.config.memory

  abbrev first : Stage
  first = record { machine = linked_reset r.settings.stack l.laid.words r.ran.config; state = r.is.boot }

  is_setting : IsSetting setting
  is_setting = setting_of (linked_shown l.classes r.show) r.call l.classes setting first.machine r.settings.cycles (lent_of r.call.old) (lent_of r.call.new) r.ran.ran

  boot_fits : Fits (resolved l.classes) setting.types (limits setting) r.is.boot
  boot_fits =
      let b = began (linked_shown l.classes r.show) r.call l.classes setting first.machine r.settings.cycles (lent_of r.call.old) (lent_of r.call.new) r.ran.ran in
      let start : Stage = record { machine = first.machine; state = b.boot } in
      let stands = first_stands setting r.settings.cycles start b.run.steps b.last b.run.stages b.run.stands in
      subst (λ (s : State). Fits (resolved l.classes) setting.types (limits setting) s) (some_same b.boot r.is.boot (sym b.is_boot ∙ r.is.is_boot)) stands.fits

  counts : (known : Known) → PutOnlyArrays (resolved l.classes) known → HoldKnown (resolved l.classes) known r.is.boot → FramesCountFurther (resolved l.classes) known r.stage.state.frames (walks_at l r boot_walks)
  counts known arrays hold =
      let P = resolved l.classes in
      let input = input_of r.stage.state.answers in
      let fresh = boot_is_fresh P r.is.boot r.is.is_boot in
      let gives = gives_bytes setting r.settings.cycles first fresh.answers r.is.steps r.stage r.is.goes in
      let came = reached setting r.settings.cycles first r.is.steps r.stage r.is.goes input (λ k within. refl) in
      let kept = keep P setting.types (limits setting) known input r.is.boot r.is.steps is_setting.lawful is_setting.typed gives boot_fits r.is.is_boot arrays hold in
      subst (λ (s : State). FramesCountFurther P known s.frames (walks_at l r boot_walks)) (sym came) kept

-- ---- what is known of fields

constants_hold : (P : Program) (constants : Constants) (known : Known) (s : State) → ((f : ℕ) → known.constants f ≡ constants f) → HoldConstants P constants s → HoldConstants P known.constants s
constants_hold P constants known s are hold f c is never = hold f c (sym (are f) ∙ is) never

null_at_first : (P : Program) (constants : Constants) (known : Known) → IsKnownBy P constants known → AreNullAtFirst P known
null_at_first P constants known is = record {
  statics = λ f n known_is. ((is.statics_are f n).0 known_is).first;
  fields = λ owner index n p o known_is at has. absurd (((is.fields_are owner index n).0 known_is).first p o at has);
}

-- no array is
only_puts : (P : Program) (constants : Constants) → PutOnlyArrays P (only_constants constants)
only_puts P constants = record {
  statics = λ f n m p next is line. absurd (none≢some n is);
  references = λ owner index n is. absurd (none≢some n is);
  fields = λ named owner other index class n m p next is line of_owner of_other. absurd (none≢some n is);
}

only_holds : (P : Program) (constants : Constants) (s : State) → HoldConstants P constants s → HoldKnown P (only_constants constants) s
only_holds P constants s hold = record {
  constants = hold;
  arrays = record {
    statics = λ f n is. absurd (none≢some n is);
    fields = λ owner index n p o is at has. absurd (none≢some n is);
  };
}

counts_further : CountedLoopsAreFurther → (P : Program) (constants : Constants) (x : FoundLoop) → CountsIn P constants x.method x.place x.bound → CountsFurtherIn P (only_constants constants) x.method x.place x.bound
counts_further further P constants x c = record {
  graph = c.graph;
  is_graph = c.is_graph;
  cycles = c.cycles;
  counts = further P (only_constants constants) x.method c.graph x.place x.bound c.is_graph c.counts;
}

-- ---- the loops of lines

pub found_loops_are_kept : GraphsAreOne → FurtherLoopsKeep → CountedLoopsAreFurther → BootHoldsConstants → FoundLoopsAreKept
found_loops_are_kept one keep further boot c bytes loops r x there =
    let cs = loops.linked.classes in
    let P = resolved cs in
    let constants = int_at loops.lines.constants in
    let hold = boot cs loops.lines.constants r.is.boot loops.are_resolved loops.lines.are r.is.is_boot in
    frames_keep one P (only_constants constants) x (counts_further further P constants x (loops.counts x there)) r.stage.state.frames (walks_at loops.linked r boot_walks)
    (counts keep loops.linked r (only_constants constants) (only_puts P constants) (only_holds P constants r.is.boot hold))

pub further_found_loops_are_kept : GraphsAreOne → FurtherLoopsKeep → BootHoldsConstants → BootHoldsKnown → PutsKeepArrays → FurtherFoundLoopsAreKept
further_found_loops_are_kept one keep boot boot_holds puts c bytes loops r x there =
    let cs = loops.linked.classes in
    let P = resolved cs in
    let constants = int_at loops.lines.constants in
    let known = loops.lines.known in
    let is_known = loops.lines.is_known in
    let hold = boot cs loops.lines.constants r.is.boot loops.are_resolved loops.lines.are r.is.is_boot in
    let holds = boot_holds P known r.is.boot r.is.is_boot (null_at_first P constants known is_known) (constants_hold P constants known r.is.boot is_known.constants_are hold) in
    frames_keep one P known x (loops.counts x there) r.stage.state.frames (walks_at loops.linked r boot_walks) (counts keep loops.linked r known (puts P constants known is_known) holds)
