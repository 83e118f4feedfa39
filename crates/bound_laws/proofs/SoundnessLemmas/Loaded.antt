-- What steps load are the loads of their look-ups; where these are of methods that fit the cache together, each is loaded at most once.
use Rattle.std.proofs.Common.{◌≡◌, ℕ, ◌≤◌, Bool, true, false, not, List, [], ◌∷◌, ◌++◌, map, filter, All, Contains, Option, Some, None, IsSome, refl, sym, ap, ◌∙◌, subst, arith}
use Rattle.std.proofs.lemmas.List.Elements.{All-weaker}
use Rattle.lists.specs.Members.{map_contains}
use Rattle.base.specs.Packed.{PackedHasWords}
use Rattle.method_cache.specs.Contents.{Cache, is_cached}
use Rattle.method_cache.specs.Regions.Region.{AreDistinct}
use Rattle.method_cache.specs.Regions.LookUps.{loads, blocks_taken, EachIsLoadedOnce, LoadsFollow}
use Rattle.bytecode_model.specs.Program.{body_of}
use Rattle.method_flow.specs.declared.timing.Timing.{Timing}
use Rattle.bound_rules.specs.Fitting.{FitTogether}
use Rattle.activations.specs.Setting.{Setting, IsSetting}
use Rattle.activations.specs.Activations.{Stage, Follows, StaysAbove, IsActivation}
use Rattle.activations.specs.Steps.{AreWords, place_of, looked_up, StepsAreTold}
use Rattle.activations.specs.Timing.{HasTiming}
use Rattle.activations.specs.Keeping.{stages_of}
use Rattle.machine_stands.specs.Comes.{found_by}
use Rattle.bound_laws.specs.Soundness.Loads.{look_ups_over, loads_over}
use Rattle.bound_laws.proofs.SoundnessLemmas.Known.{words_by_place}
use Rattle.bound_laws.proofs.SoundnessLemmas.Charged.{same_blocks}
use Rattle.bound_laws.proofs.SoundnessLemmas.OwnSteps.{IsPlaceOf}

-- ---- steps one behind another

abbrev pub AreSteps : Setting → Stage → List Stage → Type 0
AreSteps g a [] = Unit {0}
AreSteps g a (b ∷ bs) = Follows g a b × AreSteps g b bs

steps_above : (g : Setting) (n : ℕ) (a : Stage) (cs : List Stage) (b : Stage) → StaysAbove g n a cs b → AreSteps g a cs
steps_above g n a [] b path = tt
steps_above g n a (c ∷ cs) b path = (path.1, steps_above g n c cs b path.2)

pub steps_of : {g : Setting} {m : ℕ} {a b : Stage} (h : IsActivation g m a b) → AreSteps g a (stages_of h)
steps_of {g} {m} {a} {b} h = (h.begins, steps_above g _ h.first h.between b h.stays)

pub first_steps : (g : Setting) (a : Stage) (bs after : List Stage) → AreSteps g a (bs ++ after) → AreSteps g a bs
first_steps g a [] after steps = tt
first_steps g a (b ∷ bs) after steps = (steps.0, first_steps g b bs after steps.1)

-- ---- what a step loads

one_loads : (words : ℕ → List ℕ) (c : Cache) (k : ℕ) → filter (λ place. not (is_cached place c)) (k ∷ []) ≡ loads words (k ∷ []) c
one_loads words c k = by (is_cached k c) refl
  where
    by : (b : Bool) → is_cached k c ≡ b → filter (λ place. not (is_cached place c)) (k ∷ []) ≡ loads words (k ∷ []) c
    by true is = rw is refl
    by false is = rw is refl

place_loads : (g : Setting) (words : ℕ → List ℕ) (c : Cache) (o : Option ℕ) → filter (λ place. not (is_cached place c)) (place_of g.places o) ≡ loads words (place_of g.places o) c
place_loads g words c None = refl
place_loads g words c (Some m) = one_loads words c (g.places.method m)

module _ (g : Setting) (t : Timing) (words : ℕ → List ℕ) (setting : IsSetting g) (are : AreWords g.program g.places words) (told : StepsAreTold) (follow : LoadsFollow) where
  pub same_loads : (a : Stage) (bs : List Stage) → HasTiming t a.machine → AreSteps g a bs → loads_over g a bs ≡ loads words (look_ups_over g a bs) a.machine.cache
  same_loads a [] timing steps = refl
  same_loads a (b ∷ bs) timing steps =
      let facts = told g t words a b setting are timing steps.0 in
      let c = a.machine.cache in
      let ls = looked_up g a b in
      let first = ap (λ (ks : List ℕ). ks ++ loads_over g b bs) (place_loads g words c (found_by a.state b.state)) in
      let rest = same_loads b bs facts.timing steps.1 ∙ ap (λ (d : Cache). loads words (look_ups_over g b bs) d) facts.cache in
      first ∙ (ap (λ (ks : List ℕ). loads words ls c ++ ks) rest ∙ sym (follow words ls (look_ups_over g b bs) c))

  -- ---- steps behind others

  abbrev pub TimedFrom : List Stage → Type 0
  TimedFrom [] = Unit {0}
  TimedFrom (a ∷ bs) = HasTiming t a.machine × AreSteps g a bs

  timed_second : (a : Stage) (bs : List Stage) → TimedFrom (a ∷ bs) → TimedFrom bs
  timed_second a [] h = tt
  timed_second a (b ∷ bs) h = let facts = told g t words a b setting are h.0 h.1.0 in (facts.timing, h.1.1)

  pub timed_later : (before rest : List Stage) → TimedFrom (before ++ rest) → TimedFrom rest
  timed_later [] rest h = h
  timed_later (a ∷ before) rest h = timed_later before rest (timed_second a (before ++ rest) h)

  -- ---- methods that fit the cache together

  module _ (once : EachIsLoadedOnce) (packed : PackedHasWords) {K : ℕ → Type 0} (together : FitTogether g.program t K) (coded : (x : ℕ) → K x → IsSome (body_of g.program x)) where
    abbrev key : ℕ → ℕ
    key m = g.places.method m

    abbrev places : List ℕ
    places = map key together.methods

    they_fit : (a : Stage) → HasTiming t a.machine → blocks_taken words a.machine.cache.block_words places ≤ a.machine.cache.blocks
    they_fit a timing =
        let blocks = same_blocks g.program t words key (words_by_place g words are packed) together.methods (λ x has. coded x ((together.are.each x).0 has)) in
        let small : blocks_taken words t.block_words places ≤ t.blocks = let fit = together.fit in omega arith in
        subst (λ (n : ℕ). blocks_taken words n places ≤ a.machine.cache.blocks) (sym timing.block_words) (subst (λ (n : ℕ). blocks_taken words t.block_words places ≤ n) (sym timing.blocks) small)

    pub loaded_once : (a : Stage) (bs : List Stage) → HasTiming t a.machine → AreSteps g a bs → All (IsPlaceOf g K) (look_ups_over g a bs) → AreDistinct (loads_over g a bs)
    loaded_once a bs timing steps within =
        let Q : ℕ → Type 0 = Contains places in
        let each : (k : ℕ) → IsPlaceOf g K k → Q k = λ k h. subst Q (sym h.2) (map_contains key together.methods h.0 ((together.are.each h.0).1 h.1)) in
        let asked : All Q (look_ups_over g a bs) = All-weaker (IsPlaceOf g K) Q each (look_ups_over g a bs) within in
        let r = once words places (look_ups_over g a bs) a.machine.cache (they_fit a timing) asked in
        let D : List ℕ → Type 0 = AreDistinct in
        subst D (sym (same_loads a bs timing steps)) r.0
