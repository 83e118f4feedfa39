-- A run is one: from one beginning, with one input, it comes to one end.
use Rattle.std.proofs.Common.{◌≡◌, ℕ, zero, suc, pred, ◌+◌, ◌<◌, Bool, true, false, List, [], ◌∷◌}
use Rattle.std.proofs.Common.{◌++◌, length, Option, Some, refl, sym, ◌∙◌, ap, ap₂, subst, arith, length-append, append-nil, ⊎_elim}
use Rattle.std.specs.Prelude.{slice_get}
use Rattle.std.proofs.lemmas.Bool.{cases_lt}
use Rattle.std.proofs.lemmas.List.{append_cancel_left}
use Rattle.lists.proofs.Lemmas.{some_same}
use Rattle.device_traits.specs.Told.{Told, GivesEach}
use Rattle.jop_core.specs.State as machine
use Rattle.jop_core.specs.Cycle.{at_boundary}
use Rattle.jop_core.specs.Scene.{begun, run}
use Rattle.bytecode_model.specs.State.{State}
use Rattle.bytecode_model.specs.Steps.{boot_state}
use Rattle.program_tables.specs.Resolved.{resolved}
use Rattle.bytecode_typing.specs.Fits.{IsGoing}
use Rattle.boundary.specs.Setting.{Setting}
use Rattle.boundary.specs.Activations.{Stage, Follows}
use Rattle.boundary.specs.Runs.{input_of, Goes, IsRun}
use Rattle.boundary.specs.Traces.{unnoted}
use Rattle.boundary.proofs.Answered.{reached}
use Rattle.bytecode_model.specs.declared.Ending.{Ending as Mode}
use Rattle.bytecode_model.specs.declared.Ending.TheVariants as modes
use Rattle.class_pool.specs.declared.class.ClassFile.{ClassFile}
use Rattle.machine_memory.specs.declared.timing.Config.{Config}
use Rattle.machine_memory.specs.Timing.Port.{idle, padded}
use Rattle.method_cache.specs.Contents.{empty, loaded}
use Rattle.jop_core.specs.Reset.{reset_words, linked_start, linked_reset}
use Rattle.run_devices.specs.Lent.{wired}
use Rattle.run_devices.specs.Traced.{traced}
use Rattle.command_line.specs.declared.command.Settings.{Settings}
use Rattle.jopizer.specs.Linked.{Parts}
use Rattle.endings.specs.declared.show.Show.{Show}
use Rattle.endings.specs.declared.show.Show.TheVariants as shows
use Rattle.endings.specs.Phase.{HasSettings}
use Rattle.endings.specs.Settings.{linked_setting}
use Rattle.jop_cli.specs.Answer.{lent_of}
use Rattle.jop_cli.specs.Calls.{Call}
use Rattle.jop_cli.specs.Courses.{AnswersMode, RanLinked}
use Rattle.jop_cli.specs.promises.Run.{last_boundary, RunsAreOne}
use Rattle.jop_cli.proofs.Coming.{boot_is_fresh}

-- ---- the answers

-- these are the first answers of the input
abbrev pub AreAnswers : (input : ℕ → Option ℕ) → List (Option ℕ) → Type 0
AreAnswers input answers = (k : ℕ) → k < length answers → input k ≡ input_of answers k

-- a device that tells what is left gives just that
pub given : (bytes : List ℕ) (new : Option (List ℕ)) (answers : List (Option ℕ)) → GivesEach (Some bytes) new answers → AreAnswers (slice_get bytes) answers
given bytes new [] gives k below = absurd (omega (arith, below))
given [] new (x ∷ xs) (mid, first, rest) zero below = sym first.1.0
given [] new (x ∷ xs) (mid, first, rest) (suc k) below = given [] new xs (subst (λ (o : Option (List ℕ)). GivesEach o new xs) first.1.1 rest) k (omega (arith, below))
given (b ∷ bytes) new (x ∷ xs) (mid, first, rest) zero below = sym first.1.0
given (b ∷ bytes) new (x ∷ xs) (mid, first, rest) (suc k) below = given bytes new xs (subst (λ (o : Option (List ℕ)). GivesEach o new xs) first.1.1 rest) k (omega (arith, below))

pub front_of : (xs ys : List (Option ℕ)) (k : ℕ) → k < length xs → input_of (xs ++ ys) k ≡ input_of xs k
front_of [] ys k h = absurd (omega (arith, h))
front_of (x ∷ xs) ys zero h = refl
front_of (x ∷ xs) ys (suc k) h = front_of xs ys k (omega (arith, h))

front_answers : (input : ℕ → Option ℕ) (all xs ys : List (Option ℕ)) → all ≡ xs ++ ys → AreAnswers input all → AreAnswers input xs
front_answers input all xs ys is are k below =
    let long : length all ≡ length xs + length ys = ap (λ (zs : List (Option ℕ)). length zs) is ∙ length-append xs ys in
    are k (omega (arith, below, long)) ∙ (ap (λ (zs : List (Option ℕ)). input_of zs k) is ∙ front_of xs ys k below)

-- ---- one step

-- a place after the first at which a test holds, and at none between
record FirstAt (test : ℕ → Bool) (place : ℕ) : Type 0 where
  positive : 0 < place
  holds : test place ≡ true
  before : (i : ℕ) → suc i < place → test (suc i) ≡ false

not_before : (test : ℕ → Bool) (c d : ℕ) → FirstAt test c → FirstAt test d → c < d → ⊥
not_before test c d first second below =
    let positive = first.positive in
    let place : suc (pred c) ≡ c = omega (arith, positive) in
    let none : test c ≡ false = sym (ap test place) ∙ second.before (pred c) (omega (arith, place, below)) in
    let clash : true ≡ false = sym first.holds ∙ none in
    absurd (cc)

same_place : (test : ℕ → Bool) (c d : ℕ) → FirstAt test c → FirstAt test d → c ≡ d
same_place test c d first second =
    ⊎_elim
    (λ below. absurd (not_before test c d first second below))
    (λ from. ⊎_elim (λ past. absurd (not_before test d c second first past)) (λ to. omega (arith, from, to)) (cases_lt d c))
    (cases_lt c d)

same_stage : (a b : Stage) → a.machine ≡ b.machine → a.state ≡ b.state → a ≡ b
same_stage a b m s = ap₂ (λ (x : machine.MachineState) (y : State). let z : Stage = record { machine = x; state = y } in z) m s

module _ (g : Setting) (m : Stage) where
  abbrev after : List (Option ℕ) → ℕ → machine.MachineState
  after answers k = (run k (begun m.machine answers)).state

  lands : (b : Stage) (f : Follows g m b) → after f.comes.answers f.comes.cycles ≡ b.machine
  lands b f = ap (λ (xs : List (Option ℕ)). after xs f.comes.cycles) (sym (append-nil f.comes.answers)) ∙ (f.comes.ran [] ∙ f.new_is)

  first_at : (b : Stage) (f : Follows g m b) → FirstAt (λ k. at_boundary (after f.comes.answers k)) f.comes.cycles
  first_at b f = record {
    positive = f.comes.positive;
    holds = ap at_boundary (ap (λ (xs : List (Option ℕ)). after xs f.comes.cycles) (sym (append-nil f.comes.answers)) ∙ f.comes.ran []) ∙ f.comes.boundary;
    before = f.comes.quiet;
  }

  -- where the states of the next boundaries are one, so are the boundaries
  one_next : (x y : Stage) → Follows g m x → Follows g m y → x.state ≡ y.state → x ≡ y
  one_next x y f h same =
      let answers : f.comes.answers ≡ h.comes.answers = append_cancel_left m.state.answers f.comes.answers h.comes.answers (sym f.comes.took ∙ (ap (λ (s : State). s.answers) same ∙ h.comes.took)) in
      let first = subst (λ (xs : List (Option ℕ)). FirstAt (λ k. at_boundary (after xs k)) f.comes.cycles) answers (first_at x f) in
      let cycles : f.comes.cycles ≡ h.comes.cycles = same_place (λ k. at_boundary (after h.comes.answers k)) f.comes.cycles h.comes.cycles first (first_at y h) in
      let there : after f.comes.answers f.comes.cycles ≡ after h.comes.answers h.comes.cycles = ap₂ (λ (xs : List (Option ℕ)) (k : ℕ). after xs k) answers cycles in
      same_stage x y (sym (lands x f) ∙ (there ∙ lands y h)) same

-- ---- the steps from a beginning

module _ (g : Setting) (limit : ℕ) (a : Stage) (input : ℕ → Option ℕ) where
  -- so many steps come to one boundary
  one_boundary : (n : ℕ) (x y : Stage) → Goes g limit a n x → Goes g limit a n y → AreAnswers input x.state.answers → AreAnswers input y.state.answers → x ≡ y
  one_boundary zero x y gx gy ax ay = gx ∙ sym gy
  one_boundary (suc n) x y gx gy ax ay =
      let fx = gx.4 in
      let fy = gy.4 in
      let before : gx.0 ≡ gy.0 = one_boundary n gx.0 gy.0 gx.1 gy.1 (front_answers input x.state.answers gx.0.state.answers fx.comes.answers fx.comes.took ax) (front_answers input y.state.answers gy.0.state.answers fy.comes.answers fy.comes.took ay) in
      let state : x.state ≡ y.state = reached g limit a (suc n) x gx input ax ∙ sym (reached g limit a (suc n) y gy input ay) in
      one_next g gx.0 x y fx (subst (λ (m : Stage). Follows g m y) (sym before) fy) state

  -- a boundary before another one: from it the program goes on, below the limit
  record Before (n : ℕ) (b : Stage) : Type 0 where
    stage : Stage
    goes : Goes g limit a n stage
    going : IsGoing stage.state.mode
    below : stage.machine.clock < limit
    answers : AreAnswers input b.state.answers → AreAnswers input stage.state.answers

  earlier : (n k : ℕ) (b : Stage) → Goes g limit a k b → n < k → Before n b
  earlier n zero b goes less = absurd (omega (arith, less))
  earlier n (suc k) b goes less =
      let f = goes.4 in
      let front : AreAnswers input b.state.answers → AreAnswers input goes.0.state.answers = front_answers input b.state.answers goes.0.state.answers f.comes.answers f.comes.took in
      let last : Before k b = record { stage = goes.0; goes = goes.1; going = goes.2; below = goes.3; answers = front } in
      ⊎_elim
      (λ n_less.
      let r : Before n goes.0 = earlier n k goes.0 goes.1 n_less in
      let of_b : Before n b = record { stage = r.stage; goes = r.goes; going = r.going; below = r.below; answers = λ are. r.answers (front are) } in
      of_b)
      (λ n_most.
      let same : k ≡ n = omega (arith, less, n_most) in
      subst (λ (i : ℕ). Before i b) same last)
      (cases_lt n k)

  -- the run is over there
  abbrev Over : Stage → Type 0
  Over b = IsGoing b.state.mode → b.machine.clock < limit → ⊥

  not_earlier : (n k : ℕ) (x y : Stage) → Goes g limit a n x → Goes g limit a k y → AreAnswers input x.state.answers → AreAnswers input y.state.answers → Over x → n < k → ⊥
  not_earlier n k x y gx gy ax ay over less =
      let r = earlier n k y gy less in
      let same : x ≡ r.stage = one_boundary n x r.stage gx r.goes ax (r.answers ay) in
      over (subst (λ (b : Stage). IsGoing b.state.mode) (sym same) r.going) (subst (λ (b : Stage). b.machine.clock < limit) (sym same) r.below)

  one_end : (n k : ℕ) (x y : Stage) → Goes g limit a n x → Goes g limit a k y → AreAnswers input x.state.answers → AreAnswers input y.state.answers → Over x → Over y → x ≡ y
  one_end n k x y gx gy ax ay over_x over_y =
      ⊎_elim
      (λ less. absurd (not_earlier n k x y gx gy ax ay over_x less))
      (λ from. ⊎_elim
      (λ past. absurd (not_earlier k n y x gy gx ay ax over_y past))
      (λ to.
      let same : k ≡ n = omega (arith, from, to) in
      one_boundary n x y gx (subst (λ (i : ℕ). Goes g limit a i y) same gy) ax ay)
      (cases_lt k n))
      (cases_lt n k)

  -- of two runs that are over, whose devices tell one input
  pub one_run : (bytes : List ℕ) → input ≡ slice_get bytes → a.state.answers ≡ [] → (told told' then then' : Told) (x y : Stage) → (r : IsRun g limit a x told told') → (q : IsRun g limit a y then then') → told.left ≡ Some bytes
      → then.left ≡ Some bytes → Over x → Over y → x ≡ y
  one_run bytes is fresh told told' then then' x y r q left_r left_q over_x over_y =
      let of_run : (t t' : Told) (b : Stage) → (p : IsRun g limit a b t t') → t.left ≡ Some bytes → AreAnswers input b.state.answers = λ t t' b p left.
      let gives : GivesEach (Some bytes) t'.left p.answers = subst (λ (o : Option (List ℕ)). GivesEach o t'.left p.answers) left p.ran.device.left in
      let are : AreAnswers (slice_get bytes) p.answers = given bytes t'.left p.answers gives in
      let all : b.state.answers ≡ p.answers = p.took ∙ ap (λ (xs : List (Option ℕ)). xs ++ p.answers) fresh in
      subst (λ (i : ℕ → Option ℕ). AreAnswers i b.state.answers) (sym is) (subst (λ (xs : List (Option ℕ)). AreAnswers (slice_get bytes) xs) (sym all) are) in
      one_end r.steps q.steps x y r.stages q.stages (of_run told told' x r left_r) (of_run then then' y q left_q) over_x over_y

-- ---- from reset

module _ (n : ℕ) (words : List ℕ) (config : Config) where
  -- the machine with other settings
  abbrev at : (memory read write blocks block_words : ℕ) → machine.MachineState
  at memory read write blocks block_words =
      let start = linked_start words in
      record (linked_reset n words config) {
        cache = loaded start.boot start.code (empty blocks block_words);
        stack = reset_words n memory (length start.image) start.pool start.boot start.frame start.raise_list;
        port = idle (padded start.image memory) read write;
      }

  -- settings tell it
  reset_is : (s : Settings) → HasSettings s config → linked_reset n words config ≡ at s.memory s.read s.write s.blocks s.block_words
  reset_is s has =
      ap (λ (x : ℕ). at x config.read config.write config.blocks config.block_words) has.memory
      ∙ (ap (λ (x : ℕ). at s.memory x config.write config.blocks config.block_words) has.read
      ∙ (ap (λ (x : ℕ). at s.memory s.read x config.blocks config.block_words) has.write
      ∙ (ap (λ (x : ℕ). at s.memory s.read s.write x config.block_words) has.blocks
      ∙ ap (λ (x : ℕ). at s.memory s.read s.write s.blocks x) has.block_words)))

-- ---- of what is linked

over_by : (c : Call) (cs : List ClassFile) (limit : ℕ) (now : machine.MachineState) (mode : Mode) → AnswersMode c cs limit now mode → IsGoing mode → now.clock < limit → ⊥
over_by c cs limit now modes.Running says going below = let late = says.late in omega (arith, late, below)
over_by c cs limit now (modes.Raising p) says going below = let late = says.late in omega (arith, late, below)
over_by c cs limit now modes.Ended says going below = going
over_by c cs limit now (modes.Uncaught class) says going below = going

one_outcome : (c d : Call) (cs : List ClassFile) (limit : ℕ) (m n : machine.MachineState) (mode : Mode) → AnswersMode c cs limit m mode → AnswersMode d cs limit n mode → c.outcome ≡ d.outcome
one_outcome c d cs limit m n modes.Running a b = a.outcome ∙ sym b.outcome
one_outcome c d cs limit m n (modes.Raising p) a b = a.outcome ∙ sym b.outcome
one_outcome c d cs limit m n modes.Ended a b = a.outcome ∙ sym b.outcome
one_outcome c d cs limit m n (modes.Uncaught class) a b = a.outcome ∙ sym b.outcome

-- what a run of what is linked came to, whatever it showed
record ComesTo (c : Call) (settings : Settings) (l : Parts) (input : List ℕ) (last : Stage) : Type 0 where
  config : Config
  has : HasSettings settings config
  boot : State
  is_boot : boot_state (resolved l.classes) ≡ Some boot
  before : Told
  after : Told
  run : IsRun (linked_setting l.classes settings.stack config.memory) settings.cycles (record { machine = linked_reset settings.stack l.laid.words config; state = boot }) last before after
  left : before.left ≡ Some input
  answers : AnswersMode c l.classes settings.cycles last.machine last.state.mode

comes_to : (c : Call) (settings : Settings) (l : Parts) (input : List ℕ) (show : Show) (r : RanLinked c settings show l) → c.old.left ≡ Some input → ComesTo c settings l input (last_boundary show r)
comes_to c settings l input shows.Output r left =
    let came : ComesTo c settings l input r.ran.last = record {
      config = r.config;
      has = r.has;
      boot = r.ran.boot;
      is_boot = r.ran.is_boot;
      before = wired (lent_of c.old);
      after = wired (lent_of c.new);
      run = r.ran.run;
      left = left;
      answers = r.ran.answers;
    } in
    came
comes_to c settings l input (shows.Trace cycles) r left =
    let came : ComesTo c settings l input r.ran.last = record {
      config = r.config;
      has = r.has;
      boot = r.ran.boot;
      is_boot = r.ran.is_boot;
      before = unnoted (traced cycles c.old.left c.old.read_faults c.old.out c.old.out_faults c.old.out_faults);
      after = unnoted r.ran.after;
      run = r.ran.run;
      left = left;
      answers = r.ran.answers;
    } in
    came

module _ (settings : Settings) (l : Parts) (input : List ℕ) where
  -- a machine with the settings at reset, and the first state
  abbrev first : Config → State → Stage
  first config boot = record { machine = linked_reset settings.stack l.laid.words config; state = boot }

  one_first : (a b : Config) → HasSettings settings a → HasSettings settings b → (s t : State) → boot_state (resolved l.classes) ≡ Some s → boot_state (resolved l.classes) ≡ Some t → first a s ≡ first b t
  one_first a b of_a of_b s t is_s is_t =
      same_stage (first a s) (first b t) (reset_is settings.stack l.laid.words a settings of_a ∙ sym (reset_is settings.stack l.laid.words b settings of_b)) (some_same s t (sym is_s ∙ is_t))

  one_setting : (a b : Config) → HasSettings settings a → HasSettings settings b → linked_setting l.classes settings.stack a.memory ≡ linked_setting l.classes settings.stack b.memory
  one_setting a b of_a of_b = ap (λ (size : ℕ). linked_setting l.classes settings.stack size) (of_a.memory ∙ sym of_b.memory)

  one_last : (c d : Call) (x y : Stage) → ComesTo c settings l input x → ComesTo d settings l input y → x ≡ y
  one_last c d x y p q =
      let g = linked_setting l.classes settings.stack q.config.memory in
      let in_setting : IsRun g settings.cycles (first p.config p.boot) x p.before p.after =
      subst (λ (s : Setting). IsRun s settings.cycles (first p.config p.boot) x p.before p.after) (one_setting p.config q.config p.has q.has) p.run in
      let from_first : IsRun g settings.cycles (first q.config q.boot) x p.before p.after =
      subst (λ (a : Stage). IsRun g settings.cycles a x p.before p.after) (one_first p.config q.config p.has q.has p.boot q.boot p.is_boot q.is_boot) in_setting in
      let fresh = boot_is_fresh (resolved l.classes) q.boot q.is_boot in
      one_run g settings.cycles (first q.config q.boot) (slice_get input) input refl fresh.answers p.before p.after q.before q.after x y from_first q.run p.left q.left
      (over_by c l.classes settings.cycles x.machine x.state.mode p.answers)
      (over_by d l.classes settings.cycles y.machine y.state.mode q.answers)

  alike : (c d : Call) (x y : Stage) → ComesTo c settings l input x → ComesTo d settings l input y → (x ≡ y) × (c.outcome ≡ d.outcome)
  alike c d x y p q =
      let same : x ≡ y = one_last c d x y p q in
      let answers = subst (λ (b : Stage). AnswersMode c l.classes settings.cycles b.machine b.state.mode) same p.answers in
      (same, one_outcome c d l.classes settings.cycles y.machine y.machine y.state.mode answers q.answers)

pub runs_are_one : RunsAreOne
runs_are_one c d settings l input show other r q left_c left_d =
    alike settings l input c d (last_boundary show r) (last_boundary other q) (comes_to c settings l input show r left_c) (comes_to d settings l input other q left_d)
