-- The run of an executive: what its slots come to, and its ending.
use Rattle.std.proofs.Common.{◌≡◌, ℕ, zero, suc, ◌<◌, ◌^◌, List, [], ◌∷◌, map, All, Option, Some, None, unwrap_or, sym, ◌∙◌, ap, subst, arith}
use Rattle.std.specs.Prelude.{IfOk, Result, Ok, Err}
use Rattle.class_pool.specs.declared.class.ClassFile.{ClassFile}
use Rattle.jop_core.specs.Reset.{linked_reset}
use Rattle.slot_table.specs.declared.slot.Slot.{Slot}
use Rattle.slot_table.specs.Slots.{length_of, IsTable, AreRightSlots}
use Rattle.section_check.specs.Least.{IsLeast}
use Rattle.program_tables.specs.Resolved.{resolved}
use Rattle.run_follower.specs.Following.{followed}
use Rattle.run_follower.specs.declared.watch.slots.Slots.{Slots}
use Rattle.run_follower.specs.Watch.Watched.{slots_of}
use Rattle.run_follower.specs.Watch.Counting.{SlotCount, slots_after, no_slots}
use Rattle.run_follower.specs.Watch.Promises.{counted, SlotsAreExact}
use Rattle.activation_laws.specs.Profiled.{SeenAreWithin}
use Rattle.boundary.specs.Setting.{Setting}
use Rattle.boundary.specs.Activations.{Stage}
use Rattle.boundary.specs.Followed.{stages_of, RunsAreInARow}
use Rattle.run_devices.specs.Lent.{Lent, wired}
use Rattle.command_line.specs.declared.command.Settings.{Settings}
use Rattle.jopizer.specs.Linked.{Parts}
use Rattle.analysis_commands.specs.Analysis.{named_or_number}
use Rattle.analysis_commands.specs.Executive.{IsCyclicMain}
use Rattle.run_commands.specs.declared.program_end.ProgramEnd.{ProgramEnd}
use Rattle.endings.specs.declared.outcome.Ending.{Ending}
use Rattle.endings.specs.declared.outcome.Ending.TheVariants as endings
use Rattle.endings.specs.Leaving.{Leaves, FailsRisen}
use Rattle.endings.specs.Settings.{linked_setting}
use Rattle.run_commands.specs.Following.{heres_of, FollowsWith}
use Rattle.run_commands.specs.Cycling.{IsCounter, CyclesWith, with_slots}
use Rattle.run_commands.proofs.Least.{one_least}
use Rattle.run_commands.proofs.InRuns.{rows_are_seen, last_stands}

-- ---- the counter

lengths_fit : (slots : List Slot) → AreRightSlots slots → All (λ n. n < 2 ^ 64) (map length_of slots)
lengths_fit [] right k d below = absurd (omega arith)
lengths_fit (s ∷ slots) right zero d below = right.0.fits
lengths_fit (s ∷ slots) right (suc k) d below = lengths_fit slots right.1 k d (omega arith)

-- the executive's number, or another where there is no executive
executive_is : (K : ℕ → Type 0) (o : Option ℕ) (other m : ℕ) → IsLeast K o → IsLeast K (Some m) → m ≡ unwrap_or o other
executive_is K None other m none least = absurd (none m least.0)
executive_is K (Some a) other m some least = one_least K m a least some

module _ (cs : List ClassFile) (slots : List Slot) (frames : ℕ) (table : IsTable slots) (o : Option ℕ) (first : IsLeast (IsCyclicMain (resolved cs) (named_or_number cs)) o) where
  pub counter_ok : {E : Type 0} (other : ℕ) (lengths : List ℕ) (r : Result SlotCount E) → lengths ≡ map length_of slots → IfOk r (λ s. s ≡ no_slots (unwrap_or o other) lengths frames) → IfOk r (IsCounter cs slots frames)
  counter_ok other lengths (Ok s) are is = record {
    number = unwrap_or o other;
    is = is ∙ ap (λ (ns : List ℕ). no_slots (unwrap_or o other) ns frames) are;
    fits = lengths_fit slots table.right;
    executive = λ m least. executive_is (IsCyclicMain (resolved cs) (named_or_number cs)) o other m first least;
  }
  counter_ok other lengths (Err e) are is = tt

-- ---- what the counter comes to

module _ (rows : RunsAreInARow) (within : SeenAreWithin) (exact : SlotsAreExact) (s : Settings) (l : Parts) (slots : List Slot) (old new : Lent) (first last : SlotCount) (counter : IsCounter l.classes slots s.stack first) where
  pub cycles_so : (f : ProgramEnd) → FollowsWith slots_after s l (wired old) (wired new) first last f → CyclesWith s l slots old new last.slots f
  cycles_so f h =
      let k = h.follows in
      let r = k.ran in
      let g : Setting = linked_setting l.classes s.stack h.config.memory in
      let reset = linked_reset s.stack l.laid.words h.config in
      let a : Stage = record { machine = reset; state = r.boot } in
      let heres = heres_of g reset s.cycles (wired old) (wired new) f r in
      let stages = stages_of g s.cycles a r.now (wired old) (wired new) f.end r.runs in
      let row = rows g s.cycles a r.now (wired old) (wired new) f.end r.runs in
      let seen = rows_are_seen g stages row.row in
      let few = within g stages heres r.is_setting seen (last_stands g stages row.row) k.small in
      let lengths = map length_of slots in
      let is : last.slots ≡ counted counter.number lengths s.stack heres = ap (λ (t : SlotCount). t.slots) (k.follower ∙ ap (λ (t : SlotCount). followed slots_after t heres) counter.is) in
      record {
        config = h.config;
        has = h.has;
        cycles = record {
          ran = r;
          numbers_are = λ e executive. subst (λ (m : ℕ). last.slots ≡ slots_of m lengths heres) (sym (counter.executive e executive)) (is ∙ exact counter.number s.stack lengths heres few counter.fits);
        };
      }

-- ---- the ending

pub leaves_with : (n : Slots) (e : Ending) → Leaves (with_slots n e) → Leaves e
leaves_with n (endings.Ended counts) leaves = leaves
leaves_with n (endings.Uncaught class name counts) leaves = leaves
leaves_with n (endings.Spent counts) leaves = leaves
leaves_with n e leaves = leaves

pub risen_with : (n : Slots) (e : Ending) (before now : ℕ) → FailsRisen e before now → FailsRisen (with_slots n e) before now
risen_with n (endings.Ended counts) before now risen = tt
risen_with n (endings.Uncaught class name counts) before now risen = tt
risen_with n (endings.Spent counts) before now risen = tt
risen_with n e before now risen = risen
