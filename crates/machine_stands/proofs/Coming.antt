-- A row on the sketch as the run of the machine to the next boundary.
use Rattle.std.proofs.Common.{◌≡◌, ◌≢◌, ℕ, zero, suc, ◌+◌, ◌-◌, ◌*◌, ◌<◌, ◌≤◌, Bool, true, false, ◌==◌, if◌then◌else◌, List, [], ◌∷◌, ◌++◌, Some, None, length, reverse, refl, sym, ◌∙◌, ap, subst, arith, add-zero}
use Rattle.std.specs.declared.option.Option.{Option}
use Rattle.std.proofs.lemmas.List.{append-nil, reverse-reverse}
use Rattle.std.proofs.lemmas.Bool.Decides.{nat_tests}
use Rattle.lists.proofs.Lemmas.{holds_at}
use Rattle.micro_flow.specs.declared.CostParams.{CostParams}
use Rattle.micro_flow.specs.Walk.{IsCost}
use Rattle.opcodes.specs.declared.instruction.Instr.{Instr}
use Rattle.opcodes.specs.Bytes.{u1}
use Rattle.jop_core.specs.State as machine
use Rattle.jop_core.specs.Cycle.{cycle_of, asks_input, at_boundary}
use Rattle.jop_core.specs.Scene.{Scene, begun, next_scene, run, output_during, given, left_over}
use Rattle.micro_sketch.specs.Sketch.{Sketch}
use Rattle.micro_sketch.specs.Stands.{Env, Reaches, IsDone, PortFits, conc, scene, stalls}
use Rattle.micro_sketch.specs.Laws.{CostsHold}
use Rattle.micro_sketch.specs.View.{env_of}
use Rattle.micro_sketch.specs.Row.{StandsAt, Effect, DidRow}
use Rattle.micro_sketch.specs.Rows.{Makes, finishes, end_of, RunsRow}
use Rattle.micro_sketch.specs.RowLaws.{FinishRuns}
use Rattle.micro_sketch.specs.StepLaws.{AreRunLaws, followed_by, UsesUp}
use Rattle.bytecode_model.specs.declared.Ending.{Ending}
use Rattle.bytecode_model.specs.declared.Ending.TheVariants.{Running}
use Rattle.bytecode_model.specs.State.{Frame, State}
use Rattle.bytecode_model.specs.Program.{Program, Body, body_of, instr_at}
use Rattle.image_facts.specs.Places.{Places}
use Rattle.machine_stands.specs.StandsFor.{StandsFor}
use Rattle.machine_stands.specs.Comes.{params, IsFrameCost, IsTopCost, IsStepCost, found_between, found_by, LooksUp, ComesTo}
use Rattle.machine_stands.specs.Simulates.{IsStep}
use Rattle.machine_stands.specs.Seen.{seen, MachinesAreSeen}
use Rattle.machine_stands.specs.Again.{GoesOn, MachinesStandAgain}
use Rattle.machine_stands.proofs.Seeing.{at_instruction}

-- what holds of machines that stand for a running state, and of runs
pub record ComingLaws : Type 0 where
  pub seen : MachinesAreSeen
  pub runs : AreRunLaws

-- ---- the answers that a run takes

no_more : (answers : List (Option ℕ)) → answers ++ None ∷ [] ≡ None ∷ [] → answers ≡ []
no_more [] h = refl
no_more (a ∷ []) h = absurd (omega (arith, ap (λ (xs : List (Option ℕ)). length xs) h))
no_more (a ∷ b ∷ xs) h = absurd (omega (arith, ap (λ (xs : List (Option ℕ)). length xs) h))

given_first : (asks : Bool) (answers more : List (Option ℕ)) → (asks ≡ true → answers ≢ []) → given asks (answers ++ more) ≡ given asks answers
given_first false answers more found = refl
given_first true [] more found = absurd (found refl refl)
given_first true (answer ∷ answers) more found = refl

left_behind : (asks : Bool) (answers more : List (Option ℕ)) → (asks ≡ true → answers ≢ []) → left_over asks (answers ++ more) ≡ left_over asks answers ++ more
left_behind false answers more found = refl
left_behind true [] more found = absurd (found refl refl)
left_behind true (answer ∷ answers) more found = refl

next_followed : (more : List (Option ℕ)) (c : Scene) → (asks_input c.state ≡ true → c.answers ≢ []) → next_scene (followed_by more c) ≡ followed_by more (next_scene c)
next_followed more c found =
    let of : machine.MachineState → List (Option ℕ) → Scene = λ state answers. record { state = state; answers = answers; output = (next_scene c).output } in
    ap (λ answer. of (cycle_of answer c.state) (left_over (asks_input c.state) (c.answers ++ more))) (given_first (asks_input c.state) c.answers more found)
    ∙ ap (of (next_scene c).state) (left_behind (asks_input c.state) c.answers more found)

-- a run that leaves the one answer behind those of a scene takes these and none behind them
pub uses_up : AreRunLaws → (k : ℕ) (c : Scene) → (run k (followed_by (None ∷ []) c)).answers ≡ None ∷ [] → UsesUp k c
uses_up laws zero c h more = ap (λ (xs : List (Option ℕ)). xs ++ more) (no_more c.answers h)
uses_up laws (suc k) c h more =
    let found : asks_input c.state ≡ true → c.answers ≢ [] = λ asking none.
    let start : (next_scene (followed_by (None ∷ []) c)).answers ≡ [] =
    ap (λ asks. left_over asks (c.answers ++ None ∷ [])) asking ∙ ap (λ (xs : List (Option ℕ)). left_over true (xs ++ None ∷ [])) none in
    let fewer = laws.answers_shrink k (next_scene (followed_by (None ∷ []) c)) in
    omega (arith, fewer, ap (λ (xs : List (Option ℕ)). length xs) start, ap (λ (xs : List (Option ℕ)). length xs) h) in
    let onward = ap (λ (z : Scene). (run k z).answers) (sym (next_followed (None ∷ []) c found)) ∙ h in
    ap (λ (z : Scene). (run k z).answers) (next_followed more c found) ∙ uses_up laws k (next_scene c) onward more

-- ---- what a row costs

pub made_row_runs : FinishRuns → CostsHold → (n : ℕ) (p : CostParams) (op : ℕ) (f : Effect) (x : Sketch) (e : Env) (m : machine.MachineState) → StandsAt n p op x e m → Makes f x → RunsRow n p op f x e
made_row_runs runs costs n p op f x e m h g =
    let y = end_of x (finishes f x g) in
    let r = runs n p op x e m h (finishes f x g) in
    let none : stalls y p.r ≡ 0 = ap (λ (k : ℕ). k * 4 + y.words * (2 + p.r)) g.follows.kept.loads ∙ ap (λ (k : ℕ). 0 * 4 + k * (2 + p.r)) g.follows.kept.loaded ∙ omega arith in
    record { after = y; reaches = r; done = g.done; follows = g.follows; cost = λ c is. omega (arith, costs p op c n x y e h.entry r g.done is, none) }

-- ---- the step

pub port_idle : (b : Bool) (e : Env) → b ≡ false → PortFits b e → e.port ≡ 0
port_idle b e h fits = subst (λ x. PortFits x e) h fits

-- the cost of the step is that of the opcode
frame_cost : (P : Program) (m : machine.MachineState) (s : State) (f : Frame) (callers : List Frame) (b : Body) (i : Instr) (c : ℕ) → s.mode ≡ Running → s.frames ≡ f ∷ callers → body_of P f.method ≡ Some b
    → instr_at P f.method f.pc ≡ Some i → IsStepCost P m s c → IsCost (u1 b.code f.pc) (params m i.count 0) c
frame_cost P m s f callers b i c mode frames body instr h =
    let top = subst (λ (fs : List Frame). IsTopCost P m Running fs c) frames (subst (λ (md : Ending). IsTopCost P m md s.frames c) mode h) in
    holds_at (instr_at P f.method f.pc) i (λ j. IsCost (u1 b.code f.pc) (params m j.count 0) c) instr (holds_at (body_of P f.method) b (λ u. IsFrameCost P m Running f u c) body top)

-- no other frame is on top
same_found : (s s' : State) (f g : Frame) (callers : List Frame) → s.mode ≡ Running → s'.mode ≡ Running → s.frames ≡ f ∷ callers → s'.frames ≡ g ∷ callers → found_by s s' ≡ None
same_found s s' f g callers mode mode' frames frames' =
    ap (λ (md : Ending). found_between s.frames s'.frames md s'.mode) mode ∙ ap (λ (md : Ending). found_between s.frames s'.frames Running md) mode'
    ∙ ap (λ (fs : List Frame). found_between fs s'.frames Running Running) frames ∙ ap (λ (fs : List Frame). found_between (f ∷ callers) fs Running Running) frames'
    ∙ ap (λ (b : Bool). if b then None else Some g.method) (same_count (length callers))
  where
    same_count : (k : ℕ) → suc k == suc k ≡ true
    same_count k = grind (arith, nat_tests)

-- a run of the sketch to its end, where it stands for s', is the step
pub comes_by : ComingLaws → (P : Program) (pl : Places) (n size : ℕ) (m : machine.MachineState) (answer : Option ℕ) (s s' : State) (h : IsStep P pl n size m answer s s') (i : Instr) (taken : List (Option ℕ))
    (after : Sketch) (r : Reaches n (seen (params m i.count 0) (taken ++ None ∷ []) m h.stands.words h.stands.below) after (env_of m)) (micro stall : ℕ)
    → s.mode ≡ Running → instr_at P h.stands.top.method h.stands.top.pc ≡ Some i → s'.answers ≡ s.answers ++ taken → after.answers ≡ None ∷ [] → s'.output ≡ s.output ++ reverse after.output → IsDone after
    → StandsFor P pl n size (conc n after r.env) s' → r.cycles ≡ micro + stall → ((c : ℕ) → IsCost m.opcode (params m i.count 0) c → micro ≤ c) → LooksUp P pl (found_by s s') m (conc n after r.env) stall
    → ComesTo P pl n size m s s'
comes_by coming P pl n size m answer s s' h i taken after r micro stall mode instr took left put done stands sum cost look_up =
    let st = h.stands in
    let p = params m i.count 0 in
    let answers : List (Option ℕ) = taken ++ None ∷ [] in
    let x = seen p answers m st.words st.below in
    let e = env_of m in
    let k = r.cycles in
    let new = conc n after r.env in
    let here = at_instruction P pl m s st.top st.body s.mode mode st.at in
    let sees = (coming.seen P pl n size m s p answers st h.well_formed mode refl refl).stands in
    -- the run
    let followed : (i j : ℕ) → UsesUp (i + j) (begun m taken) → (more : List (Option ℕ)) → (run i (begun m (taken ++ more))).state ≡ (run i (begun m taken)).state =
    λ i j uses more. ap (λ (z : Scene). z.state) (coming.runs.run_followed i j (begun m taken) uses more) in
    let begins : begun m answers ≡ scene n x e = ap (λ (y : machine.MachineState). begun y answers) sees.same in
    let runs : run k (begun m answers) ≡ scene n after r.env = ap (λ (z : Scene). run k z) begins ∙ r.same in
    let all : UsesUp k (begun m taken) = uses_up coming.runs k (begun m taken) (ap (λ (z : Scene). z.answers) runs ∙ left) in
    let all_of : UsesUp (k + 0) (begun m taken) = let U : ℕ → Type 0 = λ j. UsesUp j (begun m taken) in subst U (sym (add-zero k)) all in
    let ends : (run k (begun m taken)).state ≡ new = sym (followed k 0 all_of (None ∷ [])) ∙ ap (λ (z : Scene). z.state) runs in
    let part : (j : ℕ) → suc j < k → (run (suc j) (begun m taken)).state ≡ (run (suc j) (begun m answers)).state = λ j l.
    let U : ℕ → Type 0 = λ q. UsesUp q (begun m taken) in
    let apart : k ≡ suc j + (k - suc j) = omega (arith, l) in
    sym (followed (suc j) (k - suc j) (subst U apart all) (None ∷ [])) in
    -- what it puts out
    let out : output_during k (begun m taken) ≡ reverse after.output =
    sym (coming.runs.output_followed k 0 (begun m taken) all_of (None ∷ [])) ∙ sym (reverse-reverse (output_during k (begun m answers)))
    ∙ ap reverse (sym (append-nil (reverse (output_during k (begun m answers)))) ∙ sym (coming.runs.output_turned k (begun m answers)) ∙ ap (λ (z : Scene). z.output) runs) in
    record {
      new = new;
      answers = taken;
      took = took;
      cycles = k;
      positive = r.positive;
      ran = λ more. followed k 0 all_of more ∙ ends;
      left = λ more. all more;
      boundary = r.ending ∙ done.done;
      quiet = λ j l. ap at_boundary (part j l ∙ ap (λ (z : Scene). (run (suc j) z).state) begins) ∙ r.quiet j l;
      stands = stands;
      put = put ∙ ap (λ (ws : List ℕ). s.output ++ ws) (sym out);
      micro = micro;
      stall = stall;
      sum = sum;
      cost = λ c is. cost c (subst (λ (op : ℕ). IsCost op p c) (sym here.opcode) (frame_cost P m s st.top st.callers st.body i c mode st.frames st.is_body instr is));
      look_up = look_up;
    }

pub row_comes : ComingLaws → MachinesStandAgain → (P : Program) (pl : Places) (n size : ℕ) (m : machine.MachineState) (answer : Option ℕ) (s s' : State) (h : IsStep P pl n size m answer s s') (i : Instr) (taken : List (Option ℕ)) (f : Effect)
    → s.mode ≡ Running → instr_at P h.stands.top.method h.stands.top.pc ≡ Some i → s'.answers ≡ s.answers ++ taken → f.answers ≡ None ∷ [] → s'.output ≡ s.output ++ reverse f.output
    → GoesOn P pl n size m s s' h.stands f
    → RunsRow n (params m i.count 0) m.opcode f (seen (params m i.count 0) (taken ++ None ∷ []) m h.stands.words h.stands.below) (env_of m)
    → ComesTo P pl n size m s s'
row_comes coming again P pl n size m answer s s' h i taken f mode instr took left put goes r =
    let st = h.stands in
    let p = params m i.count 0 in
    let answers : List (Option ℕ) = taken ++ None ∷ [] in
    let x = seen p answers m st.words st.below in
    let k = r.reaches.cycles in
    let new = conc n r.after r.reaches.env in
    let did : DidRow n p m.opcode f x (env_of m) k new = record {
      after = r.after;
      env = r.reaches.env;
      same = refl;
      shape = r.reaches.shape;
      done = r.done;
      follows = r.follows;
      idle = port_idle r.after.busy r.reaches.env r.done.idle r.reaches.port;
      read = r.reaches.read;
      write = r.reaches.write;
      clock = r.reaches.clock;
      cost = r.cost;
    } in
    comes_by coming P pl n size m answer s s' h i taken r.after r.reaches k 0 mode instr took (r.follows.answers ∙ left) (put ∙ ap (λ (ws : List ℕ). s.output ++ reverse ws) (sym r.follows.output)) r.done
    (again P pl n size m new s s' st p answers f k h.says h.next_well_formed mode goes did) (sym (add-zero k)) r.cost
    (subst (λ o. LooksUp P pl o m new 0) (sym (same_found s s' st.top goes.top st.callers mode goes.mode st.frames goes.frames))
    (refl, r.follows.kept.cache, r.follows.kept.hits, r.follows.kept.misses))
