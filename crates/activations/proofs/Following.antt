-- What is known of a step from one boundary to the next.
use Rattle.std.proofs.Common.{◌≡◌, ℕ, zero, suc, ◌+◌, ◌*◌, ◌≤◌, Bool, true, false, List, [], ◌∷◌, ◌++◌, length, Option, Some, None, slice_get, refl, sym, ap, ◌∙◌, subst, IsSomeAnd, IfSome, arith}
use Rattle.base.specs.Packed.{words_of_bytes}
use Rattle.method_cache.specs.Contents.{is_cached, loaded}
use Rattle.method_cache.specs.Regions.LookUps.{after, stall_of_loads}
use Rattle.jop_core.specs.State as machine
use Rattle.jop_core.specs.Cycle.{asks_input}
use Rattle.jop_core.specs.Keeps.{KeepsSizes, CyclesKeep}
use Rattle.jop_core.specs.Scene.{Scene, next_scene, given, begun, run}
use Rattle.bytecode_model.specs.declared.Ending.{Ending}
use Rattle.bytecode_model.specs.declared.Ending.TheVariants.{Running, Raising, Ended, Uncaught}
use Rattle.bytecode_model.specs.Types.{Kind, OfClass, OfNumbers, OfReferences}
use Rattle.bytecode_model.specs.State.{Object, Frame, State}
use Rattle.bytecode_model.specs.Program.{Program, Limits, Method, Body, body_of, instr_at, kind_of}
use Rattle.bytecode_model.specs.Rows.{Row, CallVirtual}
use Rattle.bytecode_model.specs.Steps.{class_of, row_at, step_in}
use Rattle.bytecode_model.specs.WellFormed.{AreFrames}
use Rattle.bytecode_typing.specs.Tests.{Holds}
use Rattle.bytecode_typing.specs.Lawful.{Lawful, IsVirtualCall, IsResolvedRow}
use Rattle.bytecode_typing.specs.Fits.{ObjectFits, PartsFit, numbers_of, IsGoing}
use Rattle.micro_flow.specs.declared.CostParams.{CostParams}
use Rattle.micro_flow.specs.Walk.{IsCost, IsRaiseCost}
use Rattle.opcodes.specs.Bytes.{u1}
use Rattle.opcodes.specs.Start.{IsStart}
use Rattle.bytecode_model.specs.declared.Value.{Value}
use Rattle.bytecode_model.specs.Lists.{onto}
use Rattle.bytecode_typing.specs.Laws.{FittingStatesAreWellFormed}
use Rattle.machine_stands.specs.StandsFor.{IsAt}
use Rattle.machine_stands.specs.Comes.{params as of_machine, IsFrameCost, IsTopCost, found_by, Found, LooksUp}
use Rattle.method_flow.specs.Shapes.{node_of, AreConcrete, NamesAbove, FramesStep, StepsHaveShapes}
use Rattle.method_flow.specs.declared.timing.Timing.{Timing}
use Rattle.method_flow.specs.Costs.{params, IsOwnCost}
use Rattle.activations.specs.Setting.{Setting, limits, IsSetting}
use Rattle.activations.specs.Activations.{Stage, Follows}
use Rattle.activations.specs.Steps.{AreWords, place_of, StepsAreTold}
use Rattle.activations.specs.Timing.{HasTiming}

-- ---- the machine

same_sizes : (s : machine.MachineState) → KeepsSizes s s
same_sizes s = record { stack = refl; memory = refl; read = refl; write = refl; blocks = refl; block_words = refl }

module _ (keep : CyclesKeep) where
  clock_after : (n : ℕ) (c : Scene) → (run n c).state.clock ≡ c.state.clock + n
  clock_after zero c = omega arith
  clock_after (suc n) c = omega (arith, clock_after n (next_scene c), (keep (given (asks_input c.state) c.answers) c.state).clock)

  sizes_after : (n : ℕ) (c : Scene) → KeepsSizes c.state (run n c).state
  sizes_after zero c = same_sizes c.state
  sizes_after (suc n) c =
      let x = (keep (given (asks_input c.state) c.answers) c.state).sizes in
      let y = sizes_after n (next_scene c) in
      record { stack = y.stack ∙ x.stack; memory = y.memory ∙ x.memory; read = y.read ∙ x.read; write = y.write ∙ x.write; blocks = y.blocks ∙ x.blocks; block_words = y.block_words ∙ x.block_words }

  sizes_of : (g : Setting) (a b : Stage) → Follows g a b → KeepsSizes a.machine b.machine
  sizes_of g a b f = subst (λ (m : machine.MachineState). KeepsSizes a.machine m) (f.comes.ran [] ∙ f.new_is) (sizes_after f.comes.cycles (begun a.machine (f.comes.answers ++ [])))

  clock_of : (g : Setting) (a b : Stage) (f : Follows g a b) → b.machine.clock ≡ a.machine.clock + (f.comes.micro + f.comes.stall)
  clock_of g a b f =
      let ends = ap (λ (m : machine.MachineState). m.clock) (f.comes.ran []) in
      let is = ap (λ (m : machine.MachineState). m.clock) f.new_is in
      let sum = f.comes.sum in
      omega (arith, clock_after f.comes.cycles (begun a.machine (f.comes.answers ++ [])))

-- ---- the look-up

module _ (g : Setting) (t : Timing) (words : ℕ → List ℕ) (are : AreWords g.program g.places words) (old new : machine.MachineState) (timing : HasTiming t old) (stall : ℕ) where
  -- what the look-ups of these do
  record LookedUp (ls : List ℕ) : Type 0 where
    stalls : stall ≡ stall_of_loads words t.read ls old.cache
    cache : new.cache ≡ after words ls old.cache

  by_hit : (k : ℕ) (b : Body) → words (g.places.method k) ≡ words_of_bytes b.code → (hit : Bool) → is_cached (g.places.method k) old.cache ≡ hit → Found hit (g.places.method k) (words_of_bytes b.code) old new stall → LookedUp (g.places.method k ∷ [])
  by_hit k b w true is found = record {
    stalls = let e : stall_of_loads words t.read (g.places.method k ∷ []) old.cache ≡ 0 = rw is refl in found.0 ∙ sym e;
    cache = let e : after words (g.places.method k ∷ []) old.cache ≡ old.cache = rw is refl in found.1 ∙ sym e;
  }
  by_hit k b w false is found = record {
    stalls =
        let e : stall_of_loads words t.read (g.places.method k ∷ []) old.cache ≡ 0 + (4 + length (words (g.places.method k)) * (2 + t.read)) = rw is refl in
        let l = ap (λ (x : List ℕ). length x) w in
        let r = timing.read in
        let p : length (words_of_bytes b.code) * (2 + old.port.read) ≡ length (words (g.places.method k)) * (2 + t.read) = ap (λ (x : ℕ). length (words_of_bytes b.code) * (2 + x)) r ∙ ap (λ (x : ℕ). x * (2 + t.read)) (sym l) in
        let s = found.0 in
        omega arith;
    cache = let e : after words (g.places.method k ∷ []) old.cache ≡ loaded (g.places.method k) (words (g.places.method k)) old.cache = rw is refl in found.1 ∙ (ap (λ (x : List ℕ). loaded (g.places.method k) x old.cache) (sym w) ∙ sym e);
  }

  looks : (o : Option ℕ) → LooksUp g.program g.places o old new stall → LookedUp (place_of g.places o)
  looks None h = record { stalls = h.0; cache = h.1 }
  looks (Some k) h = by_body (body_of g.program k) refl h
    where
      by_body : (o : Option Body) → body_of g.program k ≡ o → IsSomeAnd o (λ b. Found (is_cached (g.places.method k) old.cache) (g.places.method k) (words_of_bytes b.code) old new stall) → LookedUp (g.places.method k ∷ [])
      by_body None is h' = absurd h'
      by_body (Some b) is h' = by_hit k b (are k b is) (is_cached (g.places.method k) old.cache) refl h'

-- ---- the costs

same_params : (t : Timing) (m : machine.MachineState) → HasTiming t m → (pairs entries : ℕ) → params t pairs entries ≡ of_machine m pairs entries
same_params t m h pairs entries = ap (λ (x : ℕ). record { r = x; w = t.write; pairs = pairs; entries = entries }) (sym h.read) ∙ ap (λ (x : ℕ). record { r = m.port.read; w = x; pairs = pairs; entries = entries }) (sym h.write)

on_some : {A : Type 0} (K L : A → Type 0) (o : Option A) → ((x : A) → K x → L x) → IsSomeAnd o K → IsSomeAnd o L
on_some K L None h k = absurd k
on_some K L (Some x) h k = h x k

frame_cost : (P : Program) (t : Timing) (m : machine.MachineState) → HasTiming t m → (mode : Ending) → IsGoing mode → (f : Frame) (c : ℕ) → IsOwnCost P t f.method (node_of mode f) c → IsSomeAnd (body_of P f.method) (λ b. IsFrameCost P m mode f b c)
frame_cost P t m h Running going f c own =
    on_some _ _ (body_of P f.method) (λ b k. on_some _ _ (instr_at P f.method f.pc) (λ i cost. subst (λ (x : CostParams). IsCost (u1 b.code f.pc) x c) (same_params t m h i.count 0) cost) k) own
frame_cost P t m h (Raising p) going f c own = on_some _ _ (body_of P f.method) (λ b cost. subst (λ (x : CostParams). IsRaiseCost x c) (same_params t m h 0 (length b.handlers)) cost) own
frame_cost P t m h Ended going f c own = absurd going
frame_cost P t m h (Uncaught k) going f c own = absurd going

-- a state with a next one goes on
pub goes_on : (P : Program) (limit : Limits) (answer : Option ℕ) (s t : State) (fs : List Frame) (mode : Ending) → step_in P limit answer s fs mode ≡ Some t → IsGoing mode
goes_on P limit answer s t fs Running e = tt
goes_on P limit answer s t fs (Raising p) e = tt
goes_on P limit answer s t [] Ended e = absurd (cc)
goes_on P limit answer s t (f ∷ fs) Ended e = absurd (cc)
goes_on P limit answer s t [] (Uncaught c) e = absurd (cc)
goes_on P limit answer s t (f ∷ fs) (Uncaught c) e = absurd (cc)

costs_of : (g : Setting) (t : Timing) (a b : Stage) (h : HasTiming t a.machine) (fo : Follows g a b) (f : Frame) (callers : List Frame) (c : ℕ) → a.state.frames ≡ f ∷ callers → IsOwnCost g.program t f.method (node_of a.state.mode f) c → fo.comes.micro ≤ c
costs_of g t a b h fo f callers c frames own =
    let going = goes_on g.program (limits g) fo.answer a.state b.state a.state.frames a.state.mode fo.is_next in
    let top = frame_cost g.program t a.machine h a.state.mode going f c own in
    fo.comes.cost c (subst (λ (fs : List Frame). IsTopCost g.program a.machine a.state.mode fs c) (sym frames) top)

-- ---- the method of a running frame is in the cache

cached_of : (g : Setting) (a b : Stage) → Follows g a b → (f : Frame) (callers : List Frame) → a.state.frames ≡ f ∷ callers → a.state.mode ≡ Running → is_cached (g.places.method f.method) a.machine.cache ≡ true
cached_of g a b fo f callers frames running =
    let st = fo.stands.stands in
    let at : IsAt g.program g.places a.machine a.state st.top st.body Running = subst (λ (x : Ending). IsAt g.program g.places a.machine a.state st.top st.body x) running st.at in
    let same : st.top ≡ f = let e : st.top ∷ st.callers ≡ f ∷ callers = sym st.frames ∙ frames in cc in
    subst (λ (x : Frame). is_cached (g.places.method x.method) a.machine.cache ≡ true) same (subst (λ (x : ℕ). is_cached x a.machine.cache ≡ true) at.method at.cached)

-- ---- the shape

holds_true : (b : Bool) → b ≡ true → Holds b
holds_true true e = tt
holds_true false e = absurd (cc)

true_holds : (b : Bool) → Holds b → b ≡ true
true_holds true h = refl
true_holds false h = absurd h

concrete_in : (P : Program) (ks : List ℕ) (k : Kind) (vs : List Value) → PartsFit P ks k vs → IfSome (class_of k) (λ c. P.is_concrete c ≡ true)
concrete_in P ks (OfClass c) vs h = h.0
concrete_in P ks (OfNumbers code) vs h = tt
concrete_in P ks (OfReferences k) vs h = tt

concrete_of : (P : Program) (ks : List ℕ) (o : Object) → ObjectFits P ks o → IfSome (kind_of P o) (λ k. IfSome (class_of k) (λ c. P.is_concrete c ≡ true))
concrete_of P ks o h = by (kind_of P o) h
  where
    by : (z : Option Kind) → IsSomeAnd z (λ k. PartsFit P ks k o.parts) → IfSome z (λ k. IfSome (class_of k) (λ c. P.is_concrete c ≡ true))
    by None h' = tt
    by (Some k) h' = concrete_in P ks k o.parts h'

all_concrete : (P : Program) (s : State) → ((p : ℕ) → IfSome (slice_get s.objects p) (ObjectFits P (numbers_of s.objects))) → AreConcrete P s.objects
all_concrete P s h p = by (slice_get s.objects p) (h p)
  where
    by : (z : Option Object) → IfSome z (ObjectFits P (numbers_of s.objects)) → IfSome z (λ o. IfSome (kind_of P o) (λ k. IfSome (class_of k) (λ c. P.is_concrete c ≡ true)))
    by None h' = tt
    by (Some o) h' = concrete_of P (numbers_of s.objects) o h'

-- the top frame stands at an instruction
start_of : (P : Program) (objects : ℕ) (f : Frame) (fs : List Frame) → AreFrames P objects (f ∷ fs) → IsSomeAnd (body_of P f.method) (λ b. IsStart b.code f.pc)
start_of P objects f fs h = on_some _ _ (body_of P f.method) (λ b k. k.start) h.0

names_above : (P : Program) → Lawful P → (f : Frame) → IsSomeAnd (body_of P f.method) (λ b. IsStart b.code f.pc) → NamesAbove P f
names_above P lawful f start next named m k row has c below =
    by_method (slice_get P.methods f.method) refl
  where
    resolved : (n : Method) (b : Body) → slice_get P.methods f.method ≡ Some n → n.body ≡ Some b → IsStart b.code f.pc → P.extends c k.owner ≡ true
    resolved n b is is_b at =
        let r : IfSome (row_at P f) (λ x. IsResolvedRow P n x.1) = lawful.rows f.method n b is is_b f.pc at in
        let r2 : IsResolvedRow P n (CallVirtual named m) = subst (λ (z : Option (ℕ × Row)). IfSome z (λ x. IsResolvedRow P n x.1)) row r in
        let r3 : IsVirtualCall P named k = subst (λ (z : Option Method). IsSomeAnd z (IsVirtualCall P named)) has r2 in
        true_holds (P.extends c k.owner) (lawful.through c named k.owner (holds_true (P.extends c named) below) r3.inherited)

    by_body : (n : Method) → slice_get P.methods f.method ≡ Some n → (o : Option Body) → n.body ≡ o → IsSomeAnd o (λ b. IsStart b.code f.pc) → P.extends c k.owner ≡ true
    by_body n is None is_b at = absurd at
    by_body n is (Some b) is_b at = resolved n b is is_b at

    by_method : (o : Option Method) → slice_get P.methods f.method ≡ o → P.extends c k.owner ≡ true
    by_method None is = let bad : IsSomeAnd (onto {A = Method} {B = Body} None (λ x. x.body)) (λ b. IsStart b.code f.pc) = subst (λ (z : Option Method). IsSomeAnd (onto z (λ x. x.body)) (λ b. IsStart b.code f.pc)) is start in absurd bad
    by_method (Some n) is = by_body n is n.body refl (subst (λ (z : Option Method). IsSomeAnd (onto z (λ x. x.body)) (λ b. IsStart b.code f.pc)) is start)

starts : FittingStatesAreWellFormed → (g : Setting) (a b : Stage) → IsSetting g → Follows g a b → (f : Frame) (callers : List Frame) → a.state.frames ≡ f ∷ callers → IsSomeAnd (body_of g.program f.method) (λ b. IsStart b.code f.pc)
starts fitting g a b is fo f callers frames =
    let wf = fitting g.program g.types (limits g) is.typed a.state fo.stands.fits in
    start_of g.program (length a.state.objects) f callers (subst (λ (fs : List Frame). AreFrames g.program (length a.state.objects) fs) frames wf.frames)

pub shape_of : StepsHaveShapes → FittingStatesAreWellFormed → (g : Setting) (a b : Stage) → IsSetting g → Follows g a b → (f : Frame) (callers : List Frame) → a.state.frames ≡ f ∷ callers → FramesStep g.program a.state.mode f callers b.state
shape_of shapes fitting g a b is fo f callers frames =
    let fits = fo.stands.fits in
    let wf = fitting g.program g.types (limits g) is.typed a.state fits in
    let fr : AreFrames g.program (length a.state.objects) (f ∷ callers) = subst (λ (fs : List Frame). AreFrames g.program (length a.state.objects) fs) frames wf.frames in
    shapes g.program (limits g) fo.answer a.state b.state f callers frames (all_concrete g.program a.state fits.objects) (names_above g.program is.lawful f (start_of g.program (length a.state.objects) f callers fr)) fo.is_next

pub steps_are_told : CyclesKeep → StepsHaveShapes → FittingStatesAreWellFormed → StepsAreTold
steps_are_told keep shapes fitting g t words a b is are timing fo =
    let sizes = sizes_of keep g a b fo in
    let found = looks g t words are a.machine b.machine timing fo.comes.stall (found_by a.state b.state) (subst (λ (m : machine.MachineState). LooksUp g.program g.places (found_by a.state b.state) a.machine m fo.comes.stall) fo.new_is fo.comes.look_up) in
    record {
      micro = fo.comes.micro;
      clock = clock_of keep g a b fo ∙ ap (λ (x : ℕ). a.machine.clock + (fo.comes.micro + x)) found.stalls;
      cache = found.cache;
      timing = record { read = sizes.read ∙ timing.read; write = sizes.write ∙ timing.write; blocks = sizes.blocks ∙ timing.blocks; block_words = sizes.block_words ∙ timing.block_words };
      costs = λ f callers c frames own. costs_of g t a b timing fo f callers c frames own;
      cached = λ f callers frames running. cached_of g a b fo f callers frames running;
      going = goes_on g.program (limits g) fo.answer a.state b.state a.state.frames a.state.mode fo.is_next;
      start = λ f callers frames. starts fitting g a b is fo f callers frames;
      shape = λ f callers frames. shape_of shapes fitting g a b is fo f callers frames;
    }
