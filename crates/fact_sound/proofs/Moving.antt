-- The account of a step within the method, and of the last step of a stay: the visits of such steps are charged nothing beside their nodes.
use Rattle.std.proofs.Common.{append_assoc, ◌≡◌, ℕ, ◌+◌, ◌≤◌, Bool, true, false, List, [], ◌∷◌, ◌++◌, All, Option, slice_index, refl, sym, ap, ◌∙◌, subst, inl, inr, ◌⊎◌, arith}
use Rattle.std.proofs.lemmas.List.Elements.{All-append, All-cons, All-nil}
use Rattle.std.proofs.lemmas.List.Sums.{sum_by-cons}
use Rattle.method_cache.specs.Contents.{Cache, is_cached}
use Rattle.method_cache.specs.Regions.LookUps.{after}
use Rattle.bytecode_model.specs.State.{Frame}
use Rattle.bytecode_model.specs.Program.{Program}
use Rattle.method_flow.specs.Live.{IsLiveEdge, LiveWalk}
use Rattle.method_flow.specs.Shapes.{node_of, Moves, Returns, Drops}
use Rattle.method_flow.specs.Keeping.{BoundOf}
use Rattle.method_flow.specs.Regions.IsWithin.{itself}
use Rattle.method_flow.specs.declared.timing.Timing.{Timing}
use Rattle.activations.specs.Setting.{Setting}
use Rattle.activations.specs.Activations.{Stage}
use Rattle.activations.specs.Steps.{looked_up, StepFacts}
use Rattle.activations.specs.Stays.{IsTop}
use Rattle.bound_laws.proofs.SoundnessLemmas.Known.{Known}
use Rattle.bound_laws.proofs.SoundnessLemmas.Walking.{second_edge}
use Rattle.bound_laws.proofs.SoundnessLemmas.Looking.{returns_looks, drops_looks, MoveKind, move_kind}
use Rattle.bound_laws.proofs.SoundnessLemmas.Looking.MoveKind.{plain, raising, handling}
use Rattle.bound_laws.proofs.SoundnessLemmas.Sections.{NodeIn, later_node, charges_of, enters_none_at}
use Rattle.bound_laws.proofs.SoundnessLemmas.Accounts.{stall, then_ran, relisted, step_ran, IsPlaceWithin}
use Rattle.bound_laws.proofs.SoundnessLemmas.Accounts.Left.{returned, dropped}
use Rattle.bound_laws.proofs.SoundnessLemmas.Steps.{even_at, odd_at, is_raise_step, nodes_cost, step_covers}
use Rattle.fact_sound.specs.Visits.{Visit, visited, Visits}
use Rattle.fact_sound.specs.Visits.Visits.{last, goes, raises, handles}
use Rattle.fact_sound.proofs.Backed.{Never, Asked, BackedSection}
use Rattle.fact_sound.proofs.Accounts.{Account, given}

-- a visit that is charged nothing beside its node
abbrev pub plain_visit : (node : ℕ) → Visit
plain_visit u = record { node = u; more = 0 }

module _ (g : Setting) (k : Known g) (t : Timing) (bound_of : BoundOf) (ask : Asked) where
  abbrev P : Program
  P = g.program

  abbrev key : ℕ → ℕ
  key m = g.places.method m

  -- ---- the last step

  -- what is looked up where the frame is left is left out of its account
  abbrev left_account : (callers : List Frame) (m : ℕ) (a b : Stage) (u : ℕ) (top : IsTop callers m a u) → StepFacts g t k.words a b → Returns P a.state.mode top.frame callers b.state ⊎ Drops P a.state.mode top.frame callers b.state
      → Account g k t bound_of ask callers m a b (u ∷ [])
  left_account callers m a b u top facts h = record {
    visit = plain_visit u;
    further = [];
    nodes_are = refl;
    top = top;
    taken = facts.micro;
    looks = [];
    back = looked_up g a b;
    ran = step_ran g k t a b facts (looked_up g a b) refl;
    timing = facts.timing;
    within = All-nil (IsPlaceWithin g m);
    left = elim h [
      | inl ret ↦ returned ret.caller ret.others ret.callers_are ret.still (returns_looks g a b top.frame callers top.frames ret)
      | inr drop ↦ dropped drop.object drop.still (drops_looks g a b top.frame callers top.frames drop)
    ];
    inside = λ value s reached. let few = step_covers g k t bound_of Never top facts s.plain reached in let e = nodes_cost s.plain.meets.view.costs u [] in omega arith;
    outside = λ value s reached.
        let few = step_covers g k t bound_of Never top facts s.plain reached in
        let Q : ℕ → Type 0 = λ n. Visits (charges_of g k t bound_of Never s.plain) a.machine.cache (plain_visit u) [] n in
        let few' : facts.micro ≤ slice_index s.plain.meets.view.costs u + 0 = omega arith in
        subst Q (omega arith) (last facts.micro few');
  }

  -- it gives back what its one visit does
  pub leaving : (callers : List Frame) (m : ℕ) (a b : Stage) (u : ℕ) (top : IsTop callers m a u) → StepFacts g t k.words a b → Returns P a.state.mode top.frame callers b.state ⊎ Drops P a.state.mode top.frame callers b.state
      → (z : Account g k t bound_of ask callers m a b (u ∷ [])) × (given g k t bound_of ask z ≤ ask.credit m u)
  leaving callers m a b u top facts h =
      let own = sum_by-cons (ask.credit m) u [] in
      let more = sum_by-cons (λ (v : Visit). v.more) (plain_visit u) [] in
      (left_account callers m a b u top facts h, omega arith)

  -- ---- a step within the method

  module _ {callers : List Frame} {m : ℕ} {a b c : Stage} {u : ℕ} {us : List ℕ} (top : IsTop callers m a u) (facts : StepFacts g t k.words a b) (x : Account g k t bound_of ask callers m b c us)
      (walk : LiveWalk P m (node_of a.state.mode top.frame) (u ∷ us)) (kind : MoveKind g a b top.frame callers top.frames) where
    edge : IsLiveEdge P m (node_of a.state.mode top.frame) (node_of b.state.mode x.top.frame)
    edge =
        let Q : List ℕ → Type 0 = λ ns. LiveWalk P m (node_of a.state.mode top.frame) (u ∷ ns) in
        second_edge (node_of a.state.mode top.frame) (node_of b.state.mode x.top.frame) u x.visit.node (visited x.further) (subst Q x.nodes_are walk) x.top.node

    next_in : {inside : Bool} {value : Option ℕ} (s : BackedSection g k t bound_of ask inside m value) → NodeIn g k t bound_of Never s.plain (node_of a.state.mode top.frame) → NodeIn g k t bound_of Never s.plain (node_of b.state.mode x.top.frame)
    next_in s reached = later_node g k t bound_of Never s.plain (node_of a.state.mode top.frame) (node_of b.state.mode x.top.frame) reached edge

    module _ {value : Option ℕ} (s : BackedSection g k t bound_of ask false m value) (reached : NodeIn g k t bound_of Never s.plain (node_of a.state.mode top.frame)) where
      -- the rest of the stay, from the cache that the step's look-up leaves
      rest_from : (ls : List ℕ) → looked_up g a b ≡ ls
          → Visits (charges_of g k t bound_of Never s.plain) (after k.words ls a.machine.cache) x.visit x.further (x.taken + stall g k t x.looks (after k.words ls a.machine.cache))
      rest_from ls e =
          let same : b.machine.cache ≡ after k.words ls a.machine.cache = facts.cache ∙ ap (λ (z : List ℕ). after k.words z a.machine.cache) e in
          let R : Cache → Type 0 = λ d. Visits (charges_of g k t bound_of Never s.plain) d x.visit x.further (x.taken + stall g k t x.looks d) in
          subst R same (x.outside value s (next_in s reached))

      -- with the step before it
      with_step : (ls : List ℕ) → looked_up g a b ≡ ls
          → Visits (charges_of g k t bound_of Never s.plain) a.machine.cache (plain_visit u) (x.visit ∷ x.further) (facts.micro + stall g k t ls a.machine.cache + (x.taken + stall g k t x.looks (after k.words ls a.machine.cache)))
          → Visits (charges_of g k t bound_of Never s.plain) a.machine.cache (plain_visit u) (x.visit ∷ x.further) (facts.micro + x.taken + stall g k t (looked_up g a b ++ x.looks) a.machine.cache)
      with_step ls e stays =
          let split = k.stalls k.words t.read ls x.looks a.machine.cache in
          let listed : stall g k t (looked_up g a b ++ x.looks) a.machine.cache ≡ stall g k t (ls ++ x.looks) a.machine.cache = ap (λ (z : List ℕ). stall g k t (z ++ x.looks) a.machine.cache) e in
          let Q : ℕ → Type 0 = λ n. Visits (charges_of g k t bound_of Never s.plain) a.machine.cache (plain_visit u) (x.visit ∷ x.further) n in
          subst Q (omega arith) stays

      few : facts.micro ≤ slice_index s.plain.meets.view.costs u + 0
      few = let covers = step_covers g k t bound_of Never top facts s.plain reached in omega arith

      without_look : (n : ℕ) → n + (x.taken + stall g k t x.looks a.machine.cache) ≡ n + stall g k t [] a.machine.cache + (x.taken + stall g k t x.looks a.machine.cache)
      without_look n = omega arith

      -- An instruction that goes on; one that raises by itself while its method is in the cache, as an invoke may that is told that none of its targets ends;
      -- or a raise step that comes to a handler, which may be the header of a region, also
      -- of the region that the raise step has just left: the edge to it pays the fee anew.
      stays_on : MoveKind g a b top.frame callers top.frames → Visits (charges_of g k t bound_of Never s.plain) a.machine.cache (plain_visit u) (x.visit ∷ x.further) (facts.micro + x.taken + stall g k t (looked_up g a b ++ x.looks) a.machine.cache)
      stays_on (plain was is e) =
          let Q : ℕ → Type 0 = λ n. Visits (charges_of g k t bound_of Never s.plain) a.machine.cache (plain_visit u) (x.visit ∷ x.further) n in
          with_step [] e (subst Q (without_look facts.micro) (goes facts.micro (even_at top was) (even_at x.top is) few (rest_from [] e)))
      stays_on (raising p was is e) =
          let cached : is_cached (key m) a.machine.cache ≡ true = subst (λ (z : ℕ). is_cached (key z) a.machine.cache ≡ true) top.method (facts.cached top.frame callers top.frames was) in
          let none = enters_none_at g k t bound_of Never s.plain (node_of a.state.mode top.frame) (node_of b.state.mode x.top.frame) u x.visit.node x.top.frame.pc top.node x.top.node (is_raise_step x.top p is) reached edge in
          let Q : ℕ → Type 0 = λ n. Visits (charges_of g k t bound_of Never s.plain) a.machine.cache (plain_visit u) (x.visit ∷ x.further) n in
          with_step [] e (subst Q (without_look facts.micro) (raises facts.micro (even_at top was) (odd_at x.top p is) none few cached (rest_from [] e)))
      stays_on (handling p was is e) =
          let own : looked_up g a b ≡ key m ∷ [] = e ∙ ap (λ (z : ℕ). key z ∷ []) top.method in
          with_step (key m ∷ []) own (handles facts.micro (odd_at top p was) (even_at x.top is) few (rest_from (key m ∷ []) own))

    -- a handler is entered in the method itself
    look_within : MoveKind g a b top.frame callers top.frames → All (IsPlaceWithin g m) (looked_up g a b)
    look_within (plain was is e) = subst (λ (ls : List ℕ). All (IsPlaceWithin g m) ls) (sym e) (All-nil (IsPlaceWithin g m))
    look_within (raising p was is e) = subst (λ (ls : List ℕ). All (IsPlaceWithin g m) ls) (sym e) (All-nil (IsPlaceWithin g m))
    look_within (handling p was is e) =
        subst (λ (ls : List ℕ). All (IsPlaceWithin g m) ls) (sym e) (All-cons (IsPlaceWithin g m) (key top.frame.method) [] (m, itself, ap key top.method) (All-nil (IsPlaceWithin g m)))

    abbrev moved : Account g k t bound_of ask callers m a c (u ∷ us)
    moved =
        let ls = looked_up g a b in
        record {
          visit = plain_visit u;
          further = x.visit ∷ x.further;
          nodes_are = ap (λ (vs : List ℕ). u ∷ vs) x.nodes_are;
          top = top;
          taken = facts.micro + x.taken;
          looks = ls ++ x.looks;
          back = x.back;
          ran =
              relisted g k t a c (facts.micro + x.taken) (ls ++ (x.looks ++ x.back)) ((ls ++ x.looks) ++ x.back) (sym (append_assoc ls x.looks x.back))
              (then_ran g k t a b c facts.micro x.taken ls (x.looks ++ x.back) (step_ran g k t a b facts ls refl) x.ran);
          timing = x.timing;
          within = All-append (IsPlaceWithin g m) ls x.looks (look_within kind) x.within;
          left = x.left;
          inside = λ value s reached.
              let few = step_covers g k t bound_of Never top facts s.plain reached in
              let rest = x.inside value s (next_in s reached) in
              let e = nodes_cost s.plain.meets.view.costs u us in
              let more = sum_by-cons (λ (v : Visit). v.more) (plain_visit u) (x.visit ∷ x.further) in
              omega arith;
          outside = λ value s reached. stays_on s reached kind;
        }

    moved_given : given g k t bound_of ask moved ≤ ask.credit m u + given g k t bound_of ask x
    moved_given =
        let own = sum_by-cons (ask.credit m) u us in
        let more = sum_by-cons (λ (v : Visit). v.more) (plain_visit u) (x.visit ∷ x.further) in
        omega arith

  -- it gives back what its visit does, beside the rest of the stay
  pub moving : {callers : List Frame} {m : ℕ} {a b c : Stage} {u : ℕ} {us : List ℕ} (top : IsTop callers m a u) (facts : StepFacts g t k.words a b) → Moves P a.state.mode top.frame callers b.state
      → LiveWalk P m (node_of a.state.mode top.frame) (u ∷ us) → (x : Account g k t bound_of ask callers m b c us)
      → (z : Account g k t bound_of ask callers m a c (u ∷ us)) × (given g k t bound_of ask z ≤ ask.credit m u + given g k t bound_of ask x)
  moving {callers} {m} {a} {b} {c} {u} {us} top facts h walk x =
      let kind = move_kind g a b top.frame callers top.frames h facts.going in
      (moved top facts x walk kind, moved_given top facts x walk kind)
