-- What a call shows that answers that the lines of a plan are written: the bound in each is kept; and no slot of a planned cycle is late.
use Rattle.std.proofs.Common.{◌≡◌, ℕ, suc, ◌+◌, ◌≤◌, Bool, true, false, cond, List, [], ◌∷◌, length, map, Some, refl, sym, ◌∙◌, ap, subst, arith, ⊎_elim}
use Rattle.std.specs.Prelude.{Contains, Vec, slice_get}
use Rattle.std.specs.List.{filter}
use Rattle.std.specs.declared.alloc.Global.{Global}
use Rattle.std.proofs.lemmas.Bool.{le-ltb}
use Rattle.outside.specs.Outside.{Grew}
use Rattle.jop_core.specs.Reset.{linked_reset}
use Rattle.slot_table.specs.declared.slot.Slot.{Slot}
use Rattle.slot_table.specs.Slots.{length_of}
use Rattle.run_follower.specs.declared.watch.activation.Activation.{Activation}
use Rattle.run_follower.specs.declared.watch.slots.Slots.{Slots}
use Rattle.run_follower.specs.Watch.Watched.{activations, is_slot, is_of_slot, is_late, slots_from, cycles_of}
use Rattle.activation_laws.specs.Seen.{ActivationsAreSeen}
use Rattle.activations.specs.Setting.{Setting}
use Rattle.activations.specs.Activations.{Stage}
use Rattle.bound_laws.specs.Soundness.Laws.{CertificatesAreSound}
use Rattle.boundary.specs.Followed.{RunsAreInARow}
use Rattle.run_devices.specs.Lent.{wired}
use Rattle.command_line.specs.declared.command.Settings.{Settings}
use Rattle.command_line.specs.declared.command.Command.TheVariants as commands
use Rattle.command_line.specs.Range.{AreSettings}
use Rattle.endings.specs.declared.outcome.Answer.{Answer}
use Rattle.endings.specs.declared.outcome.Answer.TheVariants.{Text, Ends}
use Rattle.endings.specs.declared.outcome.Ending.{Ending}
use Rattle.endings.specs.declared.outcome.Ending.TheVariants as endings
use Rattle.endings.specs.declared.outcome.Outcome.TheVariants as outcomes
use Rattle.endings.specs.Line.{text_of_word}
use Rattle.endings.specs.Fitting.{IsUnheld}
use Rattle.endings.specs.Settings.{linked_setting}
use Rattle.endings.specs.Linking.{files_of}
use Rattle.run_commands.specs.Following.{heres_of, run_stages}
use Rattle.endings.specs.Putting.{PutsAnswer}
use Rattle.jop_cli.specs.Answer.{outcome_of}
use Rattle.run_commands.specs.Profiling.{unwatched}
use Rattle.run_commands.specs.Cycling.{cycled_files, RanCycle, CyclesReadied, CyclesRead, CyclesFiles}
use Rattle.slot_plans.specs.Planning.{Plans, PlansLinked, PlansRead, PlansFiles}
use Rattle.jopizer.specs.Linked.{Parts}
use Rattle.jop_cli.specs.Calls.{Call}
use Rattle.jop_cli.specs.promises.Cycle.{SlotsAreKept, ShowsCycle, CyclesAreShown, NoSlotIsLate}
use Rattle.jop_cli.specs.promises.Plan.{ShowsPlan, PlansAreKept}
use Rattle.jop_cli.specs.promises.Runs.{IsOver}
use Rattle.jop_cli.proofs.Refusing.{IsRefusing, not_written, operands_refuse}
use Rattle.jop_cli.proofs.Planned.{plans_refuse, unready_refuses}
use Rattle.jop_cli.proofs.ShownRuns.{refused_over, wholly_over}
use Rattle.jop_cli.proofs.ProfilingLaw.{certified_of}
use Rattle.jop_cli.proofs.Written.{in_range}
use Rattle.jop_cli.proofs.Wholly.{IsWholly, wholly_written, executed}
use Rattle.run_commands.proofs.InRuns.{rows_are_seen}

-- ---- the plan

module _ (sound : CertificatesAreSound) (c : Call) (s : Settings) (rounds table : ℕ) (are : AreSettings s) where
  shows_plan : (r : PlansRead s rounds table c.old c.new c.answered.ending) (text : Vec ℕ Global) → Grew c.old.out c.new.out text.items → PlansLinked s rounds r.operands (Text text) → ShowsPlan c s rounds table
  shows_plan r text put l = record {
    files = r.operands;
    are = r.are;
    slots = l.slots;
    linked = l.linked;
    readied = l.readied;
    text = text.items;
    plan = l.answers;
    put = put;
    kept = λ number slot bound there at.
        let b = (l.answers.is.each number slot bound there at).is in
        certified_of sound l.linked.classes s l.answers.bounds b.method (Some bound) are b.certified;
  }

  module _ (is : c.outcome ≡ outcomes.Written) where
    w : IsWholly c c.answered.ending
    w = wholly_written c is

    not_refused : (e : Ending) → c.answered.ending ≡ e → IsRefusing e → ⊥
    not_refused e same refuses = not_written e refuses (ap outcome_of (sym same) ∙ (sym w.outcome ∙ is))

    of_answer : (r : PlansRead s rounds table c.old c.new c.answered.ending) (answer : Answer) → Plans s rounds r.operands answer → PutsAnswer answer c.old.out c.new.out c.old.out_faults c.new.out_faults c.answered.ending
        → ShowsPlan c s rounds table
    of_answer r (Text text) plans puts =
        ⊎_elim
        (λ whole. ⊎_elim (λ unready. absurd unready) (λ l. shows_plan r text whole.1 l) plans)
        (λ part. let clash : outcomes.WriteFault ≡ outcomes.Written = ap outcome_of (sym part.0) ∙ (sym w.outcome ∙ is) in absurd (cc))
        puts
    of_answer r (Ends e) plans puts = absurd (not_refused e puts.0 (plans_refuse s rounds r.operands e plans))

    of_files : PlansFiles s rounds table c.old c.new c.answered.ending → ShowsPlan c s rounds table
    of_files did =
        ⊎_elim
        (λ fault. absurd (not_refused c.answered.ending refl (operands_refuse table c.old.words (files_of c.old) (files_of c.new) c.answered.ending fault.0)))
        (λ r. of_answer r r.answer r.plans r.puts)
        did

pub plans_are_kept : CertificatesAreSound → PlansAreKept
plans_are_kept sound c s rounds table bounds first command is =
    let word = commands.Plan s rounds table bounds first in
    of_files sound c s rounds table (in_range c.words word command).0 is (executed c word command)

-- ---- the cycle, from the outcome alone

pub unheld_refuses : (s : Settings) (l : Parts) (e : Ending) → IsUnheld s l e → IsRefusing e
unheld_refuses s l (endings.TooLong method name blocks limit) h = tt
unheld_refuses s l (endings.Refused refusal) h = tt
unheld_refuses s l endings.NoMemory h = tt
unheld_refuses s l e h = absurd h

module _ (c : Call) (s : Settings) (rounds table : ℕ) (over : IsOver c.outcome) where
  whole : IsWholly c c.answered.ending
  whole = wholly_over c over

  never_refuses : IsRefusing c.answered.ending → ⊥
  never_refuses refuses = refused_over c.answered.ending refuses (subst IsOver whole.outcome over)

  shows_cycle : (r : CyclesRead s rounds table c.old c.new c.answered.ending) (k : CyclesReadied s rounds r.operands (unwatched c.old) (unwatched c.new) c.answered.ending)
      → RanCycle s k.linked k.slots (unwatched c.old) (unwatched c.new) c.answered.ending → ShowsCycle c s rounds table
  shows_cycle r k ran = record {
    files = r.operands;
    are = r.are;
    slots = k.slots;
    linked = k.linked;
    readied = k.readied;
    ending = c.answered.ending;
    ran = ran;
    outcome = whole.outcome;
    line = whole.line;
  }

  of_readied : (r : CyclesRead s rounds table c.old c.new c.answered.ending) (k : CyclesReadied s rounds r.operands (unwatched c.old) (unwatched c.new) c.answered.ending) → ShowsCycle c s rounds table
  of_readied r k =
      ⊎_elim
      (λ unheld. absurd (never_refuses (unheld_refuses s k.linked c.answered.ending unheld.0)))
      (λ held. ⊎_elim (λ lacks. absurd (never_refuses (subst IsRefusing (sym lacks.0) tt))) (λ ran. shows_cycle r k ran) held)
      k.cycles

  of_cycle : CyclesFiles s rounds table c.old c.new c.answered.ending → ShowsCycle c s rounds table
  of_cycle did =
      ⊎_elim
      (λ fault. absurd (never_refuses (operands_refuse table c.old.words (files_of c.old) (files_of c.new) c.answered.ending fault.0)))
      (λ r. ⊎_elim
      (λ unready. absurd (never_refuses (unready_refuses (text_of_word r.operands 0) rounds (cycled_files r.operands) c.answered.ending unready.0)))
      (λ k. of_readied r k)
      r.cycles)
      did

pub cycles_are_shown : CyclesAreShown
cycles_are_shown c s rounds table first command over = of_cycle c s rounds table over (executed c (commands.Cycle s rounds table first) command)

-- ---- the cycle that is planned

-- an element behind the first
behind : {X : Type 0} (x : X) (xs : List X) (y : X) → Contains xs y → Contains (x ∷ xs) y
behind x xs y there = let below = there.1 in (suc there.0, omega (arith, below), there.2)

-- none passes both tests
none_pass : {X : Type 0} (p q : X → Bool) (xs : List X) → ((x : X) → Contains xs x → p x ≡ true → q x ≡ false) → filter q (filter p xs) ≡ []
none_pass p q [] h = refl
none_pass {X} p q (x ∷ xs) h = by (none_pass p q xs (λ y there is. h y (behind x xs y there) is)) (p x) refl
  where
    by : filter q (filter p xs) ≡ [] → (b : Bool) → p x ≡ b → filter q (filter p (x ∷ xs)) ≡ []
    by rest true e =
        let first : q x ≡ false = h x (0, omega arith, refl) e in
        ap (λ (b : Bool). filter q (cond b (x ∷ filter p xs) (filter p xs))) e ∙ (ap (λ (b : Bool). cond b (x ∷ filter q (filter p xs)) (filter q (filter p xs))) first ∙ rest)
    by rest false e = ap (λ (b : Bool). filter q (cond b (x ∷ filter p xs) (filter p xs))) e ∙ rest

-- the slots from one on
module _ (executive : ℕ) (xs : List Activation) where
  abbrev AreWithin : (first : ℕ) → List Slot → Type 0
  AreWithin first slots = (i : ℕ) (slot : Slot) (x : Activation) → slice_get slots i ≡ Some slot → Contains xs x → is_slot executive (first + i) x.begun ≡ true → cycles_of x ≤ slot.length

  none_late : (first : ℕ) (slots : List Slot) → AreWithin first slots → (slots_from executive first (map length_of slots) xs).late ≡ 0
  none_late first [] within = refl
  none_late first (slot ∷ slots) within =
      let here : filter (is_late slot.length) (filter (is_of_slot executive first) xs) ≡ [] =
      none_pass (is_of_slot executive first) (is_late slot.length) xs (λ x there is.
      le-ltb slot.length (cycles_of x) (within 0 slot x refl there (ap (λ (k : ℕ). is_slot executive k x.begun) (omega arith) ∙ is))) in
      let none : length (filter (is_late slot.length) (filter (is_of_slot executive first) xs)) ≡ 0 = ap (λ (ys : List Activation). length ys) here in
      let later = none_late (first + 1) slots (λ i other x at there is. within (suc i) other x at there (ap (λ (k : ℕ). is_slot executive k x.begun) (omega arith) ∙ is)) in
      omega (arith, none, later)

pub no_slot_is_late : SlotsAreKept → RunsAreInARow → ActivationsAreSeen → NoSlotIsLate
no_slot_is_late kept rows seen_all c executive is_executive keeps =
    let s = c.settings in
    let l = c.linked in
    let r = c.ran in
    let y = r.ran.cycles.ran in
    let g : Setting = linked_setting l.classes s.stack r.ran.config.memory in
    let reset = linked_reset s.stack l.laid.words r.ran.config in
    let told = wired c.old in
    let then = wired c.new in
    let a : Stage = record { machine = reset; state = y.boot } in
    let heres = heres_of g reset s.cycles told then r.followed y in
    let stages = run_stages g reset s.cycles told then r.followed y in
    let in_row = rows g s.cycles a y.now told then r.followed.end y.runs in
    let seen = rows_are_seen g stages in_row.row in
    let xs = activations heres in
    let within : AreWithin executive xs 0 c.slots = λ number slot x at there is.
    let in_run = (seen_all g stages heres y.is_setting seen x).0 there in
    let of_slot : is_slot executive number x.begun ≡ true = ap (λ (k : ℕ). is_slot executive k x.begun) (omega arith) ∙ is in
    kept c executive number slot x is_executive at of_slot in_run (keeps number slot x at of_slot in_run) in
    ap (λ (n : Slots). n.late) (r.ran.cycles.numbers_are executive is_executive) ∙ none_late executive xs 0 c.slots within
