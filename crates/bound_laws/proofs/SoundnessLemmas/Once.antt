-- An activation whose region fits the cache, and a stay in a loop whose region does, load each method at most once.
use Rattle.std.proofs.Common.{◌≡◌, ℕ, suc, List, [], ◌∷◌, ◌++◌, length, All, Option, IsSome, refl, sym, ap, ◌∙◌, subst}
use Rattle.std.proofs.lemmas.List.Elements.{All-nil, All-cons}
use Rattle.lists.proofs.Lemmas.{some_is}
use Rattle.base.specs.Packed.{PackedHasWords}
use Rattle.method_cache.specs.Regions.LookUps.{EachIsLoadedOnce, LoadsFollow}
use Rattle.opcodes.specs.Start.{IsStart}
use Rattle.bytecode_model.specs.State.{Frame}
use Rattle.bytecode_model.specs.Program.{Program, Body, body_of}
use Rattle.method_flow.specs.Regions.{IsWithin, IsWithinNodes}
use Rattle.method_flow.specs.Regions.IsWithin.{itself, calls as runs}
use Rattle.method_flow.specs.declared.timing.Timing.{Timing}
use Rattle.bound_rules.specs.Laws.{MethodsHaveCode}
use Rattle.activations.specs.Setting.{Setting, IsSetting}
use Rattle.activations.specs.Activations.{Stage, depth, IsActivation}
use Rattle.activations.specs.Steps.{PlacesTellWords, looked_up, StepsAreTold}
use Rattle.activations.specs.Keeping.{stages_of}
use Rattle.activations.specs.Trees.{Tree, ActivationsAreTrees}
use Rattle.bound_laws.specs.Soundness.Loads.{ActivationsLoadOnce, LoadsAreOfLookUps, StaysLoadOnce}
use Rattle.bound_laws.proofs.SoundnessLemmas.Looking.{enters_looks}
use Rattle.bound_laws.proofs.SoundnessLemmas.OwnSteps.{AreTold, IsOwnPlace, OwnSteps, own_steps, top_at}
use Rattle.bound_laws.proofs.SoundnessLemmas.OwnSteps.OwnSteps.{back}
use Rattle.bound_laws.proofs.SoundnessLemmas.Among.{nodes_within, all_within, OwnFrom, later_on, stay_in_loop}
use Rattle.bound_laws.proofs.SoundnessLemmas.Loaded.{steps_of, first_steps, same_loads, TimedFrom, timed_later, loaded_once}

pub loads_are : StepsAreTold → LoadsFollow → LoadsAreOfLookUps
loads_are told follow g t words m a b h setting are timing = same_loads g t words setting are told follow a (stages_of h) timing (steps_of h)

module _ (tell : PlacesTellWords) (told : StepsAreTold) (trees : ActivationsAreTrees) (have_code : MethodsHaveCode) (once : EachIsLoadedOnce) (follow : LoadsFollow) (packed : PackedHasWords) where
  -- what the steps tell whatever the timing is
  are_told : (g : Setting) → IsSetting g → AreTold g
  are_told g setting a b follows =
      let words = tell g setting in
      let m = a.machine in
      let t : Timing = record { read = m.port.read; write = m.port.write; blocks = m.cache.blocks; block_words = m.cache.block_words } in
      let facts = told g t words.0 a b setting words.1 (record { read = refl; write = refl; blocks = refl; block_words = refl }) follows in
      record { going = facts.going; start = facts.start }

  module _ (g : Setting) (m : ℕ) (a b : Stage) (h : IsActivation g m a b) (setting : IsSetting g) where
    abbrev P : Program
    P = g.program

    abbrev tree : Tree g m a b h
    tree = trees g m a b h setting

    -- the method has code, and so has what may run while it does
    coded : IsSome (body_of P m)
    coded =
        let start = (are_told g setting a h.first h.begins).start tree.frame tree.callers tree.frames in
        let body = some_is (body_of P tree.frame.method) (λ (x : Body). IsStart x.code tree.frame.pc) start in
        let caller : IsSome (body_of P tree.frame.method) = subst (λ (o : Option Body). IsSome o) (sym body.1) refl in
        let within = runs tree.frame.pc start tree.enters.call tree.enters.target itself in
        subst (λ (z : ℕ). IsSome (body_of P z)) tree.method (have_code P setting.lawful tree.frame.method tree.enters.top.method caller within)

    within_coded : (x : ℕ) → IsWithin P m x → IsSome (body_of P x)
    within_coded x within = have_code P setting.lawful m x coded within

    -- the frames of the callers, with the one that waits
    deep : depth a ≡ length (tree.enters.waiting ∷ tree.callers)
    deep = ap (λ (fs : List Frame). length fs) tree.frames

    -- the steps from the invoke on
    all_steps : OwnSteps g m (suc (depth a)) 0 a (stages_of h)
    all_steps =
        let x = own_steps g (are_told g setting) tree.stay in
        let first : looked_up g a h.first ≡ g.places.method m ∷ [] =
        enters_looks g a h.first tree.frame tree.callers tree.frames tree.enters ∙ ap (λ (z : ℕ). g.places.method z ∷ []) tree.method
        in
        let K : ℕ → Type 0 = IsOwnPlace g m in
        let looks : All K (looked_up g a h.first) = subst (λ (ls : List ℕ). All K ls) (sym first) (All-cons K (g.places.method m) [] refl (All-nil K)) in
        let n = suc (length (tree.enters.waiting ∷ tree.callers)) in
        let Q : ℕ → Type 0 = λ k. OwnSteps g m (suc k) 0 a (stages_of h) in
        subst Q (sym deep) (back (top_at x.top) looks x.steps)

  pub activations_load_once : ActivationsLoadOnce
  activations_load_once g t m a b h setting timing fits =
      let words = tell g setting in
      loaded_once g t words.0 setting words.1 told follow once packed fits (within_coded g m a b h setting) a (stages_of h) timing (steps_of h)
      (all_within g m (suc (depth a)) (all_steps g m a b h setting))

  pub stays_load_once : StaysLoadOnce
  stays_load_once g t m a b h members stay setting timing fits =
      let words = tell g setting in
      let n = suc (depth a) in
      let part : List Stage = stay.entry ∷ (stay.further ++ stay.after) in
      let F : List Stage → Type 0 = OwnFrom g m n in
      let own : F (stay.from ∷ part) = later_on g m n stay.before (stay.from ∷ part) (subst F stay.split (0, all_steps g m a b h setting)) in
      let T : List Stage → Type 0 = TimedFrom g t words.0 setting words.1 told follow in
      let timed : T (stay.from ∷ part) = timed_later g t words.0 setting words.1 told follow stay.before (stay.from ∷ part) (subst T stay.split (timing, steps_of h)) in
      let coded_at : (x : ℕ) → IsWithinNodes g.program m members x → IsSome (body_of g.program x) = λ x within. within_coded g m a b h setting x (nodes_within g.program m members x within) in
      loaded_once g t words.0 setting words.1 told follow once packed fits coded_at stay.from (stay.entry ∷ stay.further) timed.0
      (first_steps g stay.from (stay.entry ∷ stay.further) stay.after timed.1)
      (stay_in_loop g m n members (depth a) refl stay.from stay.entry stay.further stay.after stay.own own stay.among)
