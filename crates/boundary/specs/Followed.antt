-- What is seen of a run at its boundaries, and what a follower comes to over that.
use Rattle.std.specs.Prelude.{◌≡◌, ℕ, zero, suc, ◌^◌, ◌<◌, if◌then◌else◌, List, [], ◌∷◌, ◌++◌, length, All, Some, None, Ok, Err}
use Rattle.std.specs.List.{flat_map}
use Rattle.std.specs.declared.result.Result.{Result}
use Rattle.device_traits.specs.declared.fault.DeviceFault.{DeviceFault}
use Rattle.jop_core.specs.State as machine
use Rattle.device_traits.specs.Told.{Told}
use Rattle.bytecode_model.specs.State.{State}
use Rattle.bytecode_typing.specs.Fits.{IsGoing}
use Rattle.image_facts.specs.Methods.{AreMethods}
use Rattle.machine_stands.specs.ShownFrames.Shows.{top_frame}
use Rattle.run_follower.specs.declared.here.Here.{Here}
use Rattle.run_follower.specs.Following.{followed}
use Rattle.boundary.specs.declared.runs.RunEnd.{RunEnd}
use Rattle.boundary.specs.Answers.{answer_of, is_going}
use Rattle.boundary.specs.Setting.{Setting, IsSetting, Stands}
use Rattle.boundary.specs.Session.{Session}
use Rattle.boundary.specs.Activations.{Stage, Follows}
use Rattle.boundary.specs.Runs.{Goes, RunsTo}

-- what is seen at a boundary: the machine's counts, how many frames there are, and the method and the place of the top one
abbrev pub here_of : Stage → Here
here_of a =
    elim (top_frame a.state.frames) [
      | None ↦ record { clock = a.machine.clock; misses = a.machine.misses; frames = length a.state.frames; method = 0; pc = 0 }
      | Some f ↦ record { clock = a.machine.clock; misses = a.machine.misses; frames = length a.state.frames; method = f.method; pc = f.pc }
    ]

-- it is seen where the program goes on
abbrev pub seen_at : Stage → List Here
seen_at a = if is_going (answer_of a.state.mode) then here_of a ∷ [] else []

-- the counts of cycles and of misses have 64 bits
abbrev pub HasSmallCounts : Here → Type 0
HasSmallCounts h = (h.clock < 2 ^ 64) × (h.misses < 2 ^ 64)

-- the boundaries of these steps, from a to b
abbrev pub stages_between : (g : Setting) → (limit : ℕ) → (a : Stage) → (steps : ℕ) → (b : Stage) → Goes g limit a steps b → List Stage
stages_between g limit a zero b goes = b ∷ []
stages_between g limit a (suc n) b (mid, goes, going, below, follows) = stages_between g limit a n mid goes ++ b ∷ []

-- those of a run, up to its last one, however it ends
abbrev pub stages_of : (g : Setting) → (limit : ℕ) → (a : Stage) → (now : machine.MachineState) → (told told' : Told) → (end : Result RunEnd DeviceFault)
    → RunsTo g limit a now told told' end → List Stage
stages_of g limit a now told told' (Ok end) r = stages_between g limit a r.run.steps r.last r.run.stages
stages_of g limit a now told told' (Err fault) r = stages_between g limit a r.run.steps r.last r.run.stages

-- all that is seen of a run
abbrev pub seen_of : (g : Setting) → (limit : ℕ) → (a : Stage) → (now : machine.MachineState) → (told told' : Told) → (end : Result RunEnd DeviceFault)
    → RunsTo g limit a now told told' end → List Here
seen_of g limit a now told told' end runs = flat_map seen_at (stages_of g limit a now told told' end runs)

-- The run ends so, and where the program's methods are those of the machine, the follower has come over all that was seen from one to the other, whose
-- counts have 64 bits.
pub record FollowsTo {F : Type 0} (after : F → Here → F) (g : Setting) (limit : ℕ) (old : Session) (s : State) (now : machine.MachineState) (told told' : Told)
    (follower follower' : F) (end : Result RunEnd DeviceFault) : Type 0 where
  pub runs : RunsTo g limit (record { machine = old.machine; state = s }) now told told' end
  pub follower_is : AreMethods g.program g.places old.methods
      → follower' ≡ followed after follower (seen_of g limit (record { machine = old.machine; state = s }) now told told' end runs)
  pub small : AreMethods g.program g.places old.methods
      → All HasSmallCounts (seen_of g limit (record { machine = old.machine; state = s }) now told told' end runs)

-- so it is from each state of a program for which the machine stood
unfoldable pub FollowsAll : {F : Type 0} → (after : F → Here → F) → (limit : ℕ) → (old : Session) → (now : machine.MachineState) → (told told' : Told)
    → (follower follower' : F) → Result RunEnd DeviceFault → Type 0
FollowsAll after limit old now told told' follower follower' end = (g : Setting) (s : State) → IsSetting g → Stands g old.machine s
    → FollowsTo after g limit old s now told told' follower follower' end

-- ---- the boundaries of a run

-- at each of these but the last the program goes on, and the next one follows it; at the last the machine stands for the state
abbrev pub AreInARow : Setting → List Stage → Type 0
AreInARow g [] = ⊥
AreInARow g (a ∷ []) = Stands g a.machine a.state
AreInARow g (a ∷ b ∷ stages) = IsGoing a.state.mode × Follows g a b × AreInARow g (b ∷ stages)

-- these are in a row, from a on
pub record IsRow (g : Setting) (a : Stage) (stages : List Stage) : Type 0 where
  pub row : AreInARow g stages
  pub later : List Stage
  pub begins : stages ≡ a ∷ later

-- the boundaries of which what is seen of a run is seen are in a row, from the first one on
abbrev pub RunsAreInARow : Type 0
RunsAreInARow =
    (g : Setting) (limit : ℕ) (a : Stage) (now : machine.MachineState) (told told' : Told) (end : Result RunEnd DeviceFault)
    (runs : RunsTo g limit a now told told' end)
    → IsRow g a (stages_of g limit a now told told' end runs)
