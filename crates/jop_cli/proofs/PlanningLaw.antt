-- What `plan` and `cycle` answer of class files that are linked with the executive of a table, where nothing fails; and that slots keep their lengths.
use Rattle.std.proofs.Common.{◌≡◌, ℕ, ◌+◌, ◌*◌, ◌==◌, ◌&&◌, Bool, true, false, List, [], ◌∷◌, get_or, Some, refl, sym, ◌∙◌, ap, subst, arith, ⊎_elim}
use Rattle.std.specs.Prelude.{Vec}
use Rattle.std.specs.declared.alloc.Global.{Global}
use Rattle.std.proofs.lemmas.Bool.{eqb-true}
use Rattle.std.proofs.lemmas.Option.{slice_get_within, slice_get-get_or}
use Rattle.outside.specs.Outside.{Grew}
use Rattle.program_tables.specs.Resolved.{resolved}
use Rattle.jop_core.specs.Reset.{linked_reset}
use Rattle.slot_table.specs.declared.slot.Slot.{Slot}
use Rattle.slot_table.specs.Laws.{GivesOne, ReadIsNotRefused}
use Rattle.slot_table.specs.Executive.{call_place}
use Rattle.run_follower.specs.declared.watch.slots.Slots.{Slots}
use Rattle.activations.specs.Setting.{Setting}
use Rattle.activations.specs.Activations.{Stage}
use Rattle.activations.specs.Warrant.{BoundsActivations}
use Rattle.activation_laws.specs.Profiled.{FirstHasTiming}
use Rattle.activation_laws.specs.Called.{CalledKeepBounds}
use Rattle.method_flow.specs.declared.timing.Timing.{Timing}
use Rattle.method_flow.specs.Calls.{IsTarget}
use Rattle.bound_laws.specs.Soundness.Laws.{CertificatesAreSound}
use Rattle.boundary.specs.Followed.{RunsAreInARow}
use Rattle.run_devices.specs.Lent.{wired}
use Rattle.command_line.specs.declared.command.Settings.{Settings}
use Rattle.command_line.specs.declared.command.Command.TheVariants as commands
use Rattle.analysis_commands.specs.Analysis.{timing_of, bounds_of, named_or_number}
use Rattle.analysis_commands.specs.Executive.{IsCyclicMain}
use Rattle.jopizer.specs.Linked.{Parts}
use Rattle.endings.specs.declared.outcome.Answer.{Answer}
use Rattle.endings.specs.declared.outcome.Answer.TheVariants.{Text, Ends}
use Rattle.endings.specs.declared.outcome.Ending.{Ending}
use Rattle.endings.specs.declared.outcome.Ending.TheVariants as endings
use Rattle.endings.specs.Line.{line_of}
use Rattle.endings.specs.World.{IsQuiet}
use Rattle.endings.specs.Settings.{linked_setting}
use Rattle.endings.specs.Linking.{LinkFault}
use Rattle.endings.specs.Putting.{PutsAnswer}
use Rattle.jop_cli.specs.Answer.{outcome_of}
use Rattle.run_commands.specs.Following.{heres_of, run_stages}
use Rattle.run_commands.specs.Profiling.{EndsRun, unwatched}
use Rattle.endings.specs.Executive.{table_ending, executive_class, with_executive, IsLinkedWith, EndsUnready}
use Rattle.slot_plans.specs.Planning.{AnswersPlan, PlansLinked, Plans, PlansRead}
use Rattle.run_commands.specs.Cycling.{with_slots, EndsCycle, RanCycle, CyclesLinked, CyclesReadied, CyclesOperands, CyclesRead}
use Rattle.jop_cli.specs.Calls.{Call, NothingFailed}
use Rattle.jop_cli.specs.promises.Plan.{AreReadied, IsPlanned, puts, says, lacks, PlansAreAnswered}
use Rattle.jop_cli.specs.promises.Cycle.{IsCycled, lacks, ran, unheld, CyclesAreRuns, SlotsAreKept}
use Rattle.run_commands.proofs.Least.{one_least}
use Rattle.jop_cli.proofs.Wholly.{IsWholly, wholly, executed, same_files, files_read}
use Rattle.jop_cli.proofs.Wholly as whole
use Rattle.jop_cli.proofs.HoldingLaw.{reset_timing}
use Rattle.run_commands.proofs.Followed.{rose, unrisen}
use Rattle.jop_cli.proofs.ProfilingLaw.{quiet_of, ends_run, certified_of}
use Rattle.run_commands.proofs.InRuns.{rows_are_seen}

-- ---- what is linked

module _ (gives : GivesOne) (not_refused : ReadIsNotRefused) (c : Call) (n : NothingFailed c) (table rounds : ℕ) (slots : List Slot) (texts files : List (List ℕ)) (h : AreReadied c table rounds slots texts files) where
  linked_fault : (ending : Ending) → LinkFault (with_executive slots rounds files) executive_class ending → ending ≡ endings.NoMemory
  linked_fault (endings.NotLinked refusal name) fault = absurd (h.none refusal fault.0)
  linked_fault endings.NoMemory fault = refl
  linked_fault ending fault = absurd fault

  -- nothing is linked only where there is no memory
  unready : (ending : Ending) → EndsUnready h.table_text rounds files ending → ending ≡ endings.NoMemory
  unready ending ends =
      ⊎_elim
      (λ u. u.says ∙ ap table_ending (not_refused h.table_text slots u.fault h.read u.is))
      (λ u.
      let same : u.slots ≡ slots = gives h.table_text u.slots slots u.read h.read in
      linked_fault ending (subst (λ (ss : List Slot). LinkFault (with_executive ss rounds files) executive_class ending) same u.fault))
      ends

-- ---- `plan`

module _ (gives : GivesOne) (not_refused : ReadIsNotRefused) (c : Call) (n : NothingFailed c) (s : Settings) (table rounds : ℕ) (slots : List Slot) (bounds_text : List ℕ) (files : List (List ℕ)) (h : AreReadied c table rounds slots (bounds_text ∷ []) files) where
  abbrev operands : List (List ℕ)
  operands = h.table_text ∷ bounds_text ∷ files

  abbrev Planned : Type 0
  Planned = IsPlanned c s rounds slots bounds_text files

  text_planned : (ending : Ending) (text : Vec ℕ Global) → IsWholly c ending → ending ≡ endings.Written → Grew c.old.out c.new.out text.items → PlansLinked s rounds operands (Text text) → Planned
  text_planned ending text w written put l =
      let same : l.slots ≡ slots = gives h.table_text l.slots slots l.readied.read h.read in
      puts l.linked text
      (subst (λ (ss : List Slot). IsLinkedWith ss rounds files l.linked) same l.readied.linked)
      (subst (λ (ss : List Slot). AnswersPlan l.linked.classes s ss bounds_text (Text text)) same l.answers)
      (w.outcome ∙ ap outcome_of written)
      (record { out = put; err = subst (λ (x : List ℕ). Grew c.err_old c.err_new x) (ap (line_of c.words) written) w.line })

  line_planned : (ending : Ending) → IsWholly c ending → IsQuiet c.old c.new → Plans s rounds operands (Ends ending) → Planned
  line_planned ending w quiet plan =
      ⊎_elim
      (λ u. lacks (whole.lacks c ending w (unready gives not_refused c n table rounds slots (bounds_text ∷ []) files h ending u) quiet))
      (λ l.
      let same : l.slots ≡ slots = gives h.table_text l.slots slots l.readied.read h.read in
      says l.linked ending
      (subst (λ (ss : List Slot). IsLinkedWith ss rounds files l.linked) same l.readied.linked)
      (subst (λ (ss : List Slot). AnswersPlan l.linked.classes s ss bounds_text (Ends ending)) same l.answers)
      w.outcome w.line quiet)
      plan

  answer_planned : (ending : Ending) (answer : Answer) → IsWholly c ending → PlansRead s rounds table c.old c.new ending → Plans s rounds operands answer
      → PutsAnswer answer c.old.out c.new.out c.old.out_faults c.new.out_faults ending → Planned
  answer_planned ending (Text text) w r plan put =
      ⊎_elim (λ put. ⊎_elim (λ u. absurd u) (text_planned ending text w put.0 put.1) plan) (λ part. absurd (n.out part.1.rose)) put
  answer_planned ending (Ends other) w r plan put =
      line_planned ending w (record { input = r.input; out = put.1; out_faults = put.2; watch = r.watch }) (subst (λ (e : Ending). Plans s rounds operands (Ends e)) (sym put.0) plan)

  read_planned : (ending : Ending) → IsWholly c ending → PlansRead s rounds table c.old c.new ending → Planned
  read_planned ending w r =
      let same : r.operands ≡ operands = same_files c table operands r.operands h.told r.are in
      answer_planned ending r.answer w r (subst (λ (x : List (List ℕ)). Plans s rounds x r.answer) same r.plans) r.puts

pub plans_are_answered : GivesOne → ReadIsNotRefused → PlansAreAnswered
plans_are_answered gives not_refused c s rounds table bounds first slots bounds_text files command h n =
    let w = wholly c n in
    ⊎_elim
    (λ fault. lacks (whole.lacks c c.answered.ending w (files_read c table (h.table_text ∷ bounds_text ∷ files) h.told n c.answered.ending fault.0) fault.1))
    (read_planned gives not_refused c n s table rounds slots bounds_text files h c.answered.ending w)
    (executed c (commands.Plan s rounds table bounds first) command)

-- ---- `cycle`

ends_with : (n : Slots) (e : Ending) → EndsRun e → EndsCycle (with_slots n e)
ends_with n (endings.Ended counts) is = tt
ends_with n (endings.Uncaught class name counts) is = tt
ends_with n (endings.Spent counts) is = tt
ends_with n e is = absurd is

module _ (gives : GivesOne) (not_refused : ReadIsNotRefused) (c : Call) (n : NothingFailed c) (s : Settings) (table rounds : ℕ) (slots : List Slot) (files : List (List ℕ)) (h : AreReadied c table rounds slots [] files) where
  abbrev cycled_operands : List (List ℕ)
  cycled_operands = h.table_text ∷ files

  abbrev Cycled : Type 0
  Cycled = IsCycled c s rounds slots files

  ends_so : (l : Parts) (ending : Ending) (r : RanCycle s l slots (unwatched c.old) (unwatched c.new) ending) → EndsCycle ending
  ends_so l ending r =
      let g : Setting = linked_setting l.classes s.stack r.ran.config.memory in
      let reset = linked_reset s.stack l.laid.words r.ran.config in
      let x = r.ran.cycles.ran in
      let none = unrisen r.followed.end (unwatched c.old) (unwatched c.new) n.input n.out (rose g reset s.cycles (unwatched c.old) (unwatched c.new) r.followed x) in
      subst EndsCycle (sym r.ending_is) (ends_with r.numbers r.end (ends_run l.classes r.followed.end r.followed.counts r.end none r.says))

  linked_cycled : (l : Parts) (ending : Ending) → IsWholly c ending → c.new.watch ≡ c.old.watch → IsLinkedWith slots rounds files l → CyclesLinked s l slots (unwatched c.old) (unwatched c.new) ending → Cycled
  linked_cycled l ending w watch is cycles =
      ⊎_elim
      (λ none. unheld l ending is none.0 w.outcome w.line (quiet_of c.old c.new none.1 watch))
      (λ held. ⊎_elim
      (λ none. lacks (whole.lacks c ending w none.0 (quiet_of c.old c.new none.1 watch)))
      (λ r. ran l ending is r (ends_so l ending r) w.outcome w.line)
      held)
      cycles

  readied_cycled : (ending : Ending) → IsWholly c ending → c.new.watch ≡ c.old.watch → CyclesReadied s rounds cycled_operands (unwatched c.old) (unwatched c.new) ending → Cycled
  readied_cycled ending w watch l =
      let same : l.slots ≡ slots = gives h.table_text l.slots slots l.readied.read h.read in
      linked_cycled l.linked ending w watch (subst (λ (ss : List Slot). IsLinkedWith ss rounds files l.linked) same l.readied.linked)
      (subst (λ (ss : List Slot). CyclesLinked s l.linked ss (unwatched c.old) (unwatched c.new) ending) same l.cycles)

  operands_cycled : (ending : Ending) → IsWholly c ending → c.new.watch ≡ c.old.watch → CyclesOperands s rounds cycled_operands (unwatched c.old) (unwatched c.new) ending → Cycled
  operands_cycled ending w watch cycles =
      ⊎_elim
      (λ none. lacks (whole.lacks c ending w (unready gives not_refused c n table rounds slots [] files h ending none.0) (quiet_of c.old c.new none.1 watch)))
      (readied_cycled ending w watch)
      cycles

  read_cycled : (ending : Ending) → IsWholly c ending → CyclesRead s rounds table c.old c.new ending → Cycled
  read_cycled ending w r =
      let same : r.operands ≡ cycled_operands = same_files c table cycled_operands r.operands h.told r.are in
      operands_cycled ending w r.watch (subst (λ (x : List (List ℕ)). CyclesOperands s rounds x (unwatched c.old) (unwatched c.new) ending) same r.cycles)

pub cycles_are_runs : GivesOne → ReadIsNotRefused → CyclesAreRuns
cycles_are_runs gives not_refused c s rounds table first slots files command h n =
    let w = wholly c n in
    ⊎_elim
    (λ fault. lacks (whole.lacks c c.answered.ending w (files_read c table (h.table_text ∷ files) h.told n c.answered.ending fault.0) fault.1))
    (read_cycled gives not_refused c n s table rounds slots files h c.answered.ending w)
    (executed c (commands.Cycle s rounds table first) command)

-- ---- the slots

both : (a b : Bool) → (a && b) ≡ true → (a ≡ true) × (b ≡ true)
both true b e = (refl, e)
both false b e = absurd (cc)

pub slots_are_kept : CertificatesAreSound → RunsAreInARow → CalledKeepBounds → SlotsAreKept
slots_are_kept sound rows called w executive number slot x is_executive slot_is at i keeps =
    let s = w.settings in
    let l = w.linked in
    let slots = w.slots in
    let plan = w.plan in
    let r = w.ran in
    let old = w.old in
    let new = w.new in
    let p = plan.is in
    let below = slice_get_within slots number slot slot_is in
    let long = p.long in
    let bound = get_or p.bounds number 0 in
    let kept = p.each number slot bound slot_is (slice_get-get_or p.bounds number 0 (omega (arith, below, long))) in
    let b = kept.is in
    let c = b.of_slot in
    let same : c.executive ≡ executive = one_least (IsCyclicMain (resolved l.classes) (named_or_number l.classes)) c.executive executive c.is_executive is_executive in
    let parts = both (x.begun.method == executive) (x.begun.pc == 9 + 3 * number) at in
    let method : x.begun.method ≡ c.executive = eqb-true x.begun.method executive parts.0 ∙ sym same in
    let place : x.begun.pc ≡ call_place number = eqb-true x.begun.pc (9 + 3 * number) parts.1 in
    let T : ℕ → ℕ → ℕ → Type 0 = λ m k q. IsTarget (resolved l.classes) k q m in
    let one : (m : ℕ) → IsTarget (resolved l.classes) x.begun.method x.begun.pc m → m ≡ b.method = λ m target.
    (c.calls.runs m).0 (subst (λ (q : ℕ). T m c.executive q) place (subst (λ (k : ℕ). T m k x.begun.pc) method target)) in
    let y = r.ran.cycles.ran in
    let g : Setting = linked_setting l.classes s.stack r.ran.config.memory in
    let reset = linked_reset s.stack l.laid.words r.ran.config in
    let told = wired old in
    let then = wired new in
    let a : Stage = record { machine = reset; state = y.boot } in
    let heres = heres_of g reset s.cycles told then r.followed y in
    let stages = run_stages g reset s.cycles told then r.followed y in
    let in_row = rows g s.cycles a y.now told then r.followed.end y.runs in
    let seen = rows_are_seen g stages in_row.row in
    let timing : FirstHasTiming (timing_of s) stages = subst (FirstHasTiming (timing_of s)) (sym in_row.begins) (reset_timing s r.ran.config s.stack l.laid.words r.ran.has) in
    let by_plan = certified_of sound l.classes w.planned plan.bounds b.method (Some bound) w.are b.certified in
    let bounds = subst (λ (t : Timing). BoundsActivations (resolved l.classes) t (bounds_of l.classes plan.bounds) b.method (Some bound)) (sym w.timing) by_plan in
    let most = called g stages heres (timing_of s) (bounds_of l.classes plan.bounds) b.method bound x y.is_setting seen timing bounds one i keeps in
    let keeps_length = kept.keeps in
    omega (arith, most, keeps_length)
