-- A followed run, boundary by boundary.
use Rattle.std.proofs.Common.{◌≡◌, ℕ, ◌<◌, ◌≤◌, List, [], ◌∷◌, ◌++◌, All, refl, sym, ◌∙◌, ap, subst, arith, append-nil, ◌⊎◌, Ok, Err}
use Rattle.std.specs.declared.result.Result.{Result}
use Rattle.device_traits.specs.declared.fault.DeviceFault.{DeviceFault}
use Rattle.std.specs.Prelude.{if◌then◌else◌}
use Rattle.std.specs.List.{flat_map}
use Rattle.std.proofs.lemmas.List.Elements.{All-nil, All-cons, All-append}
use Rattle.lists.proofs.FirstLemmas.{flat_map-more}
use Rattle.jop_core.specs.State as machine
use Rattle.jop_core.specs.Keeps.{CyclesKeep}
use Rattle.device_traits.specs.Told.{Told}
use Rattle.micro_sketch.specs.StepLaws.{AreRunLaws}
use Rattle.bytecode_model.specs.declared.Ending.{Ending}
use Rattle.bytecode_model.specs.declared.Ending.TheVariants as modes
use Rattle.bytecode_model.specs.State.{State}
use Rattle.bytecode_typing.specs.Fits.{IsGoing}
use Rattle.image_facts.specs.Methods.{AreMethods}
use Rattle.run_follower.specs.declared.here.Here.{Here}
use Rattle.run_follower.specs.Following.{followed, followed-append}
use Rattle.run_follower.specs.Handed.{WasHanded}
use Rattle.boundary.specs.declared.answer.Boundary.{Boundary}
use Rattle.boundary.specs.declared.answer.Boundary.TheVariants as answers
use Rattle.boundary.specs.declared.runs.RunEnd.{RunEnd}
use Rattle.boundary.specs.declared.runs.RunEnd.TheVariants as ends
use Rattle.boundary.specs.Answers.{answer_of, is_going}
use Rattle.boundary.specs.Setting.{Setting, Stands}
use Rattle.boundary.specs.Session.{Session}
use Rattle.boundary.specs.Activations.{Stage, Follows}
use Rattle.boundary.specs.Advances.{Advances, StepsTo, FailsOnDevice}
use Rattle.boundary.specs.Runs.{RunsOn, IsEnd, RunsAll}
use Rattle.boundary.specs.declared.top.TopFrame.{TopFrame}
use Rattle.boundary.specs.Tops.{IsTopOf}
use Rattle.boundary.specs.Followed.{here_of, seen_at, HasSmallCounts, stages_between, FollowsTo, FollowsAll}
use Rattle.boundary.proofs.Keeping.{going_mode}
use Rattle.boundary.proofs.Whole.{goes_so, ended_mode, uncaught_mode, run_none, run_more}

-- ---- what is seen at a boundary

going_here : (mode : Ending) (h : Here) → IsGoing mode → (if is_going (answer_of mode) then h ∷ [] else []) ≡ h ∷ []
going_here modes.Running h going = refl
going_here (modes.Raising p) h going = refl
going_here modes.Ended h going = absurd going
going_here (modes.Uncaught c) h going = absurd going

over_here : (mode : Ending) (h : Here) → (IsGoing mode → ⊥) → (if is_going (answer_of mode) then h ∷ [] else []) ≡ []
over_here modes.Running h over = absurd (over tt)
over_here (modes.Raising p) h over = absurd (over tt)
over_here modes.Ended h over = refl
over_here (modes.Uncaught c) h over = refl

pub seen_going : (b : Stage) → IsGoing b.state.mode → seen_at b ≡ here_of b ∷ []
seen_going b going = going_here b.state.mode (here_of b) going

pub seen_over : (b : Stage) → (IsGoing b.state.mode → ⊥) → seen_at b ≡ []
seen_over b over = over_here b.state.mode (here_of b) over

seen_ended : (b : Stage) → b.state.mode ≡ modes.Ended → seen_at b ≡ []
seen_ended b is = seen_over b (λ going. subst IsGoing is going)

seen_uncaught : (b : Stage) (class : ℕ) → b.state.mode ≡ modes.Uncaught class → seen_at b ≡ []
seen_uncaught b class is = seen_over b (λ going. subst IsGoing is going)

-- it is the only one
seen_once : (b : Stage) → flat_map seen_at (b ∷ []) ≡ seen_at b
seen_once b = append-nil (seen_at b)

module _ (g : Setting) (limit : ℕ) (a : Stage) where
  -- all that was seen where the run came to a machine
  abbrev pub seen_to : {now : machine.MachineState} {t0 t1 : Told} {K : State → Type 0} → RunsOn g limit a now t0 t1 K → List Here
  seen_to r = flat_map seen_at (stages_between g limit a r.run.steps r.last r.run.stages)

-- ---- the run goes on, and the follower has come over all that was seen

-- where these methods are the program's, of a run that came to a machine that stands for a state of which this holds
pub record IsFollowed {F : Type 0} (after : F → Here → F) (g : Setting) (limit : ℕ) (a : Stage) (now : machine.MachineState) (told told' : Told) (K : State → Type 0) (Known : Type 0) (first f : F) : Type 0 where
  pub run : RunsOn g limit a now told told' K
  pub seen : Known → f ≡ followed after first (seen_to g limit a run)
  pub small : Known → All HasSmallCounts (seen_to g limit a run)

-- so it is of a run that goes on
abbrev pub IsFar : {F : Type 0} → (after : F → Here → F) → (g : Setting) → (limit : ℕ) → (a : Stage) → (Known : Type 0) → (first : F) → (now : machine.MachineState) → (told told' : Told) → F → Type 0
IsFar after g limit a Known first now told told' f = IsFollowed after g limit a now told told' (λ s. IsGoing s.mode) Known first f

-- and this tells the top frame at the boundary to which it came, which the follower was handed last
pub record IsFarTop {F : Type 0} (after : F → Here → F) (g : Setting) (limit : ℕ) (a : Stage) (Known : Type 0) (first : F) (now : machine.MachineState) (told told' : Told) (f : F) (top : TopFrame) : Type 0 where
  pub far : IsFar after g limit a Known first now told told' f
  pub top_is : Known → IsTopOf far.run.last top
  pub handed : Known → WasHanded after f (here_of far.run.last)

module _ {F : Type 0} (after : F → Here → F) (laws : AreRunLaws) (keep : CyclesKeep) (g : Setting) (limit : ℕ) (a : Stage) (Known : Type 0) (first : F) where
  pub none_followed : (told : Told) (h : Here) (f : F) (top : TopFrame) → f ≡ after first h → Stands g a.machine a.state → IsGoing a.state.mode → (Known → IsTopOf a top)
      → (Known → IsTopOf a top → h ≡ here_of a) → HasSmallCounts h
      → IsFarTop after g limit a Known first a.machine told told f top
  unfolding run_none
  none_followed told h f top is stage going top_is same small = record {
    far = record {
      run = record { last = a; now_is = refl; run = run_none laws keep g limit a told stage; holds = going };
      seen = λ known.
          let S : List Here → Type 0 = λ hs. f ≡ followed after first hs in
          subst S (sym (seen_once a ∙ seen_going a going)) (is ∙ ap (after first) (same known (top_is known)));
      small = λ known. subst (λ hs. All HasSmallCounts hs) (sym (seen_once a ∙ seen_going a going)) (All-cons HasSmallCounts (here_of a) [] (subst HasSmallCounts (same known (top_is known)) small) (All-nil HasSmallCounts));
    };
    top_is = top_is;
    handed = λ known. (first, is ∙ ap (after first) (same known (top_is known)));
  }

  module _ (now new : machine.MachineState) (t0 t1 t2 : Told) (f : F) (far : IsFar after g limit a Known first now t0 t1 f) (below : now.clock < limit) where
    abbrev last : Stage
    last = far.run.last

    here : Stands g now last.state
    here = subst (λ m. Stands g m last.state) far.run.now_is far.run.run.stands

    under : last.machine.clock < limit
    under = omega (arith, below, ap (λ (m : machine.MachineState). m.clock) far.run.now_is)

    abbrev AllSteps : Result Boundary DeviceFault → Type 0
    AllSteps answer = (s : State) → Stands g now s → StepsTo g s now new t1 t2 answer

    -- one step more, with what is seen behind it
    record IsMore (K : State → Type 0) : Type 0 where
      pub run : RunsOn g limit a new t0 t2 K
      pub follows : Follows g last run.last
      pub heres : seen_to g limit a run ≡ seen_to g limit a far.run ++ seen_at run.last

    reach : (K : State → Type 0) (v : Advances g last.state now new t1 t2) → K v.next → IsMore K
    unfolding run_more
    reach K v holds =
        let V : machine.MachineState → Type 0 = λ m. (w : Advances g last.state m new t1 t2) → K w.next → IsMore K in
        subst V far.run.now_is (λ w k.
        let c : Stage = record { machine = new; state = w.next } in
        let follows : Follows g last c = record { stands = far.run.run.stands; answer = w.answer; byte = w.byte; is_next = w.is_next; comes = w.comes; new_is = w.new_is } in
        record {
          run = record { last = c; now_is = refl; run = run_more laws keep g limit a last new t0 t1 t2 far.run.run far.run.holds under w; holds = k };
          follows = follows;
          heres = flat_map-more seen_at (stages_between g limit a far.run.run.steps last far.run.run.stages) c;
        }) v holds

    -- the follower comes over what is seen there
    come_over : (K : State → Type 0) (more : IsMore K) (later : List Here) → (Known → seen_at more.run.last ≡ later) → Known → followed after f later ≡ followed after first (seen_to g limit a more.run)
    come_over K more later seen known =
        let before = seen_to g limit a far.run in
        ap (λ (hs : List Here). followed after f hs) (sym (seen known))
        ∙ ap (λ (x : F). followed after x (seen_at more.run.last)) (far.seen known)
        ∙ sym (followed-append after first before (seen_at more.run.last))
        ∙ ap (λ (hs : List Here). followed after first hs) (sym more.heres)

    -- the counts of all that was seen are small
    small_over : (K : State → Type 0) (more : IsMore K) (later : List Here) → (Known → seen_at more.run.last ≡ later) → All HasSmallCounts later → Known
        → All HasSmallCounts (seen_to g limit a more.run)
    small_over K more later seen small known =
        subst (λ hs. All HasSmallCounts hs) (sym more.heres) (All-append HasSmallCounts (seen_to g limit a far.run) (seen_at more.run.last) (far.small known) (subst (λ hs. All HasSmallCounts hs) (sym (seen known)) small))

    pub followed_on : (answer : Boundary) (next : F) (top : TopFrame) → (answer ≡ answers.Bytecode) ⊎ (answer ≡ answers.Raise) → AllSteps (Ok answer)
        → ((b : Stage) → Known → b.machine ≡ new → Follows g last b → Stands g b.machine b.state → IsTopOf b top)
        → ((b : Stage) → Known → b.machine ≡ new → Follows g last b → Stands g b.machine b.state → next ≡ after f (here_of b))
        → ((b : Stage) → b.machine ≡ new → HasSmallCounts (here_of b))
        → IsFarTop after g limit a Known first new t0 t2 next top
    followed_on answer next top on steps tops hands small =
        let r = steps last.state here in
        let more = reach (λ s. IsGoing s.mode) r.0 (going_mode r.0.next.mode answer r.1 (goes_so answer on)) in
        let b = more.run.last in
        let handed : Known → next ≡ after f (here_of b) = λ known. hands b known more.run.now_is more.follows more.run.run.stands in
        let seen : Known → seen_at b ≡ here_of b ∷ [] = λ known. seen_going b more.run.holds in
        record {
          far = record {
            run = more.run;
            seen = λ known. handed known ∙ come_over (λ s. IsGoing s.mode) more (here_of b ∷ []) seen known;
            small = small_over (λ s. IsGoing s.mode) more (here_of b ∷ []) seen (All-cons HasSmallCounts (here_of b) [] (small b more.run.now_is) (All-nil HasSmallCounts));
          };
          top_is = λ known. tops b known more.run.now_is more.follows more.run.run.stands;
          handed = λ known. (f, handed known);
        }

    pub followed_ended : (answer : Boundary) → answer ≡ answers.Halted → AllSteps (Ok answer) → IsFollowed after g limit a new t0 t2 (IsEnd limit new ends.Ended) Known first f
    followed_ended answer is steps =
        let r = steps last.state here in
        let more = reach (IsEnd limit new ends.Ended) r.0 (ended_mode r.0.next.mode (r.1 ∙ is)) in
        let none : Known → seen_at more.run.last ≡ [] = λ known. seen_ended more.run.last more.run.holds in
        record { run = more.run; seen = come_over (IsEnd limit new ends.Ended) more [] none; small = small_over (IsEnd limit new ends.Ended) more [] none (All-nil HasSmallCounts) }

    pub followed_uncaught : (answer : Boundary) (class : ℕ) → answer ≡ answers.Uncaught class → AllSteps (Ok answer) → IsFollowed after g limit a new t0 t2 (IsEnd limit new (ends.Uncaught class)) Known first f
    followed_uncaught answer class is steps =
        let r = steps last.state here in
        let more = reach (IsEnd limit new (ends.Uncaught class)) r.0 (uncaught_mode r.0.next.mode class (r.1 ∙ is)) in
        let none : Known → seen_at more.run.last ≡ [] = λ known. seen_uncaught more.run.last class more.run.holds in
        record { run = more.run; seen = come_over (IsEnd limit new (ends.Uncaught class)) more [] none; small = small_over (IsEnd limit new (ends.Uncaught class)) more [] none (All-nil HasSmallCounts) }

  -- the limit is come to
  pub followed_spent : (now : machine.MachineState) (t0 t1 : Told) (f : F) → IsFar after g limit a Known first now t0 t1 f → limit ≤ now.clock → IsFollowed after g limit a now t0 t1 (IsEnd limit now ends.Spent) Known first f
  followed_spent now t0 t1 f far past = record { run = record { last = far.run.last; now_is = far.run.now_is; run = far.run.run; holds = (far.run.holds, past) }; seen = far.seen; small = far.small }

  -- ---- a machine that has halted

  pub ended_so : (told : Told) → Stands g a.machine a.state → answer_of a.state.mode ≡ answers.Halted → IsFollowed after g limit a a.machine told told (IsEnd limit a.machine ends.Ended) Known first first
  unfolding run_none
  ended_so told stage is =
      let mode = ended_mode a.state.mode is in
      let S : List Here → Type 0 = λ hs. first ≡ followed after first hs in
      record {
        run = record { last = a; now_is = refl; run = run_none laws keep g limit a told stage; holds = mode };
        seen = λ known. subst S (sym (seen_once a ∙ seen_ended a mode)) refl;
        small = λ known. subst (λ hs. All HasSmallCounts hs) (sym (seen_once a ∙ seen_ended a mode)) (All-nil HasSmallCounts);
      }

  pub uncaught_so : (told : Told) (class : ℕ) → Stands g a.machine a.state → answer_of a.state.mode ≡ answers.Uncaught class
      → IsFollowed after g limit a a.machine told told (IsEnd limit a.machine (ends.Uncaught class)) Known first first
  unfolding run_none
  uncaught_so told class stage is =
      let mode = uncaught_mode a.state.mode class is in
      let S : List Here → Type 0 = λ hs. first ≡ followed after first hs in
      record {
        run = record { last = a; now_is = refl; run = run_none laws keep g limit a told stage; holds = mode };
        seen = λ known. subst S (sym (seen_once a ∙ seen_uncaught a class mode)) refl;
        small = λ known. subst (λ hs. All HasSmallCounts hs) (sym (seen_once a ∙ seen_uncaught a class mode)) (All-nil HasSmallCounts);
      }

-- ---- how the run ends

pub all_run : {F : Type 0} (after : F → Here → F) (limit : ℕ) (old : Session) (now : machine.MachineState) (told told' : Told) (first f : F) (end : Result RunEnd DeviceFault) → FollowsAll after limit old now told told' first f end → RunsAll limit old.machine now told told' end
unfolding FollowsAll RunsAll
all_run after limit old now told told' first f end follows = λ g s is stands. (follows g s is stands).runs

module _ {F : Type 0} (after : F → Here → F) (g : Setting) (limit : ℕ) (old : Session) (s : State) (now : machine.MachineState) (t0 t1 : Told) (first f : F) where
  abbrev start : Stage
  start = record { machine = old.machine; state = s }

  abbrev IsAt : (State → Type 0) → Type 0
  IsAt K = IsFollowed after g limit start now t0 t1 K (AreMethods g.program g.places old.methods) first f

  pub to_end : (end : RunEnd) → IsAt (IsEnd limit now end) → FollowsTo after g limit old s now t0 t1 first f (Ok end)
  to_end end h = record { runs = h.run; follower_is = h.seen; small = h.small }

  -- a call on the device failed in the next step
  pub to_fault : (new : machine.MachineState) (t2 : Told) → IsAt (λ t. IsGoing t.mode) → now.clock < limit → (fault : DeviceFault) → ((t : State) → Stands g now t → FailsOnDevice g fault t now new t1 t2)
      → FollowsTo after g limit old s new t0 t2 first f (Err fault)
  to_fault new t2 far below fault all =
      let last = far.run.last in
      let stands : Stands g now last.state = subst (λ m. Stands g m last.state) far.run.now_is far.run.run.stands in
      record {
        runs = record {
          last = last;
          before = t1;
          run = far.run.run;
          going = far.run.holds;
          below = omega (arith, below, ap (λ (m : machine.MachineState). m.clock) far.run.now_is);
          fails = subst (λ m. FailsOnDevice g fault last.state m new t1 t2) (sym far.run.now_is) (all last.state stands);
        };
        follower_is = far.seen;
        small = far.small;
      }
