-- The account of a call, whose visit is charged what the call gives back beside its node.
use Rattle.std.proofs.Common.{append_assoc, append-nil, ◌≡◌, ℕ, ◌+◌, ◌*◌, ◌≤◌, Bool, true, false, List, [], ◌∷◌, ◌++◌, All, Option, slice_index, refl, sym, ap, ◌∙◌, subst, arith}
use Rattle.std.specs.Prelude.{◌||◌}
use Rattle.std.proofs.lemmas.List.Elements.{All-append, All-cons, All-nil}
use Rattle.std.proofs.lemmas.List.Sums.{sum_by-cons}
use Rattle.lists.specs.Members.{heads}
use Rattle.method_cache.specs.Contents.{Cache}
use Rattle.method_cache.specs.Regions.LookUps.{after}
use Rattle.section_check.specs.Bounded.{cost_of_nodes}
use Rattle.bound_laws.specs.Soundness.Stays.{IsCovered}
use Rattle.bytecode_model.specs.declared.Ending.TheVariants.{Running, Raising}
use Rattle.bytecode_model.specs.State.{Frame}
use Rattle.bytecode_model.specs.Program.{Program}
use Rattle.method_flow.specs.Nodes.{Node, At}
use Rattle.method_flow.specs.Calls.{IsCall, IsStartOf, IsTarget}
use Rattle.method_flow.specs.Live.{IsLiveEdge, LiveWalk}
use Rattle.method_flow.specs.Shapes.{node_of, Enters}
use Rattle.method_flow.specs.Keeping.{BoundOf}
use Rattle.method_flow.specs.Regions.IsWithin.{itself, calls}
use Rattle.method_flow.specs.declared.timing.Timing.{Timing}
use Rattle.bound_rules.specs.Told.{is_in_region, is_without_loads}
use Rattle.activations.specs.Setting.{Setting}
use Rattle.activations.specs.Activations.{Stage}
use Rattle.activations.specs.Steps.{StepFacts}
use Rattle.activations.specs.Stays.{IsTop}
use Rattle.bound_laws.proofs.SoundnessLemmas.Known.{Known}
use Rattle.bound_laws.proofs.SoundnessLemmas.Walking.{second_edge}
use Rattle.bound_laws.proofs.SoundnessLemmas.Looking.{enters_looks}
use Rattle.bound_laws.proofs.SoundnessLemmas.Inside.{TargetCost, target_cost}
use Rattle.bound_laws.proofs.SoundnessLemmas.Sections.{as_section, NodeIn, later_node, told_some, charges_of, enters_none_at}
use Rattle.bound_laws.proofs.SoundnessLemmas.Accounts.{stall, RanStalled, then_ran, relisted, step_ran, IsPlaceWithin, all_of, Left}
use Rattle.bound_laws.proofs.SoundnessLemmas.Accounts.Left.{returned, dropped}
use Rattle.bound_laws.proofs.SoundnessLemmas.Steps.{at_running, is_instruction, even_at, odd_at, is_raise_step, nodes_cost, below_own}
use Rattle.bound_laws.proofs.SoundnessLemmas.Called.{Invoked}
use Rattle.fact_sound.specs.Visits.{Visit, more_charged, visited, more_of, Visits}
use Rattle.fact_sound.specs.Visits.Visits.{returns, drops}
use Rattle.fact_sound.proofs.Backed.{Never, Asked, BackedSection, told_inside}
use Rattle.fact_sound.proofs.Accounts.{Account, given}
use Rattle.fact_sound.proofs.Called.{Called, gives, closes, covers_call}

module _ (g : Setting) (k : Known g) (t : Timing) (bound_of : BoundOf) (ask : Asked) where
  abbrev P : Program
  P = g.program

  abbrev key : ℕ → ℕ
  key m = g.places.method m

  -- how the called frame was left, as its caller, of method m, sees it
  data CameBack (m : ℕ) (c : Stage) (back : List ℕ) : Type 0 where
    by_return : c.state.mode ≡ Running → back ≡ key m ∷ [] → CameBack m c back
    by_drop : (p : ℕ) → c.state.mode ≡ Raising p → back ≡ [] → CameBack m c back

  came_back : (waiting : Frame) (callers : List Frame) (m : ℕ) (c : Stage) (back : List ℕ) → waiting.method ≡ m → Left g (waiting ∷ callers) c back → CameBack m c back
  came_back waiting callers m c back method (returned f others are run e) =
      by_return run (e ∙ ap (λ (x : ℕ). key x ∷ []) (ap (λ (x : Frame). x.method) (sym (heads waiting f callers others are)) ∙ method))
  came_back waiting callers m c back method (dropped p raise e) = by_drop p raise e

  back_within : (m : ℕ) (c : Stage) (back : List ℕ) → CameBack m c back → All (IsPlaceWithin g m) back
  back_within m c back (by_return run e) = subst (λ (ls : List ℕ). All (IsPlaceWithin g m) ls) (sym e) (All-cons (IsPlaceWithin g m) (key m) [] (m, itself, refl) (All-nil (IsPlaceWithin g m)))
  back_within m c back (by_drop p raise e) = subst (λ (ls : List ℕ). All (IsPlaceWithin g m) ls) (sym e) (All-nil (IsPlaceWithin g m))

  module _ {callers : List Frame} {m : ℕ} {a b c d : Stage} {u : ℕ} {us vs : List ℕ} (top : IsTop callers m a u) (facts : StepFacts g t k.words a b) (h : Enters P a.state.mode top.frame callers b.state)
      (child : Called g k t bound_of ask (h.waiting ∷ callers) h.top.method a b c vs) (x : Account g k t bound_of ask callers m c d us) (walk : LiveWalk P m (node_of a.state.mode top.frame) (u ∷ us)) where
    abbrev p : ℕ
    p = top.frame.pc

    abbrev y : Account g k t bound_of ask (h.waiting ∷ callers) h.top.method b c vs
    y = child.account

    at_invoke : node_of a.state.mode top.frame ≡ At p
    at_invoke = at_running a top.frame h.running

    invoked : Invoked g k t bound_of Never m p h.top.method
    invoked = record {
      start = subst (λ (z : ℕ). IsStartOf P z p) top.method (facts.start top.frame callers top.frames);
      call = subst (λ (z : ℕ). IsCall P z p) top.method h.call;
      target = subst (λ (z : ℕ). IsTarget P z p h.top.method) top.method h.target;
      ended = (k.ending P h.top.method).1 (vs, child.walk);
    }

    -- from the invoke to where control came back: behind it, or to the raise step at it
    edge : IsLiveEdge P m (At p) (node_of c.state.mode x.top.frame)
    edge =
        let Q : List ℕ → Type 0 = λ ns. LiveWalk P m (node_of a.state.mode top.frame) (u ∷ ns) in
        let W : Node → Type 0 = λ n. LiveWalk P m n (u ∷ x.visit.node ∷ visited x.further) in
        second_edge (At p) (node_of c.state.mode x.top.frame) u x.visit.node (visited x.further) (subst W at_invoke (subst Q x.nodes_are walk)) x.top.node

    back : CameBack m c y.back
    back = came_back h.waiting callers m c y.back (h.same ∙ top.method) y.left

    -- ---- look-ups

    abbrev its_looks : List ℕ
    its_looks = key h.top.method ∷ y.looks

    first_ran : RanStalled g k t a b facts.micro (key h.top.method ∷ [])
    first_ran = step_ran g k t a b facts (key h.top.method ∷ []) (enters_looks g a b top.frame callers top.frames h)

    call_ran : RanStalled g k t a c (facts.micro + y.taken) (its_looks ++ y.back)
    call_ran = then_ran g k t a b c facts.micro y.taken (key h.top.method ∷ []) (y.looks ++ y.back) first_ran y.ran

    all_ran : RanStalled g k t a d (facts.micro + y.taken + x.taken) (((its_looks ++ y.back) ++ x.looks) ++ x.back)
    all_ran =
        relisted g k t a d (facts.micro + y.taken + x.taken) ((its_looks ++ y.back) ++ (x.looks ++ x.back)) (((its_looks ++ y.back) ++ x.looks) ++ x.back) (sym (append_assoc (its_looks ++ y.back) x.looks x.back))
        (then_ran g k t a c d (facts.micro + y.taken) x.taken (its_looks ++ y.back) (x.looks ++ x.back) call_ran x.ran)

    looks_within : All (IsPlaceWithin g m) ((its_looks ++ y.back) ++ x.looks)
    looks_within =
        let K : ℕ → Type 0 = IsPlaceWithin g m in
        let of_caller : (n : ℕ) → IsPlaceWithin g h.top.method n → K n = λ n w. (w.0, calls p invoked.start invoked.call invoked.target w.1, w.2) in
        let its = All-cons K (key h.top.method) y.looks (of_caller (key h.top.method) (h.top.method, itself, refl)) (all_of of_caller y.looks y.within) in
        All-append K (its_looks ++ y.back) x.looks (All-append K its_looks y.back its (back_within m c y.back back)) x.within

    -- what the call gives back is charged to its visit
    abbrev visit : Visit
    visit = record { node = u; more = gives g k t bound_of ask child }

    -- ---- a section

    module _ {inside : Bool} {value : Option ℕ} (s : BackedSection g k t bound_of ask inside m value) (reached : NodeIn g k t bound_of Never s.plain (node_of a.state.mode top.frame)) where
      here : NodeIn g k t bound_of Never s.plain (At p)
      here = subst (λ (n : Node). NodeIn g k t bound_of Never s.plain n) at_invoke reached

      next_in : NodeIn g k t bound_of Never s.plain (node_of c.state.mode x.top.frame)
      next_in = later_node g k t bound_of Never s.plain (At p) (node_of c.state.mode x.top.frame) here edge

      -- the method that was called ended, so the invoke is told a number of it
      cost : TargetCost P t bound_of Never s.plain.earlier (as_section g k t bound_of Never s.plain) value s.plain.meets p h.top.method
      cost =
          target_cost P t bound_of Never s.plain.earlier (as_section g k t bound_of Never s.plain) value s.plain.meets p h.top.method here invoked.call invoked.target
          (told_some g k t bound_of Never s.plain p h.top.method here invoked.call invoked.target invoked.ended)

      cost_covers : facts.micro + cost.number ≤ slice_index s.plain.meets.view.costs u
      cost_covers =
          let Q : ℕ → Type 0 = λ n. facts.micro + cost.number ≤ slice_index s.plain.meets.view.costs n in
          subst Q (sym (is_instruction top h.running)) (cost.covers facts.micro (below_own g k t bound_of Never top facts (At p) at_invoke))

    -- without look-ups, by a section inside
    inside_covers : (value : Option ℕ) (s : BackedSection g k t bound_of ask true m value) → NodeIn g k t bound_of Never s.plain (node_of a.state.mode top.frame) → facts.micro + y.taken + x.taken ≤ cost_of_nodes s.plain.meets.view.costs (u ∷ us) + more_of (visit ∷ x.visit ∷ x.further)
    inside_covers value s reached =
        let without : is_without_loads (as_section g k t bound_of Never s.plain) p ≡ true = ap (λ (z : Bool). z || is_in_region s.plain.certified.loops (2 * p)) s.plain.is_kind in
        let number = (cost s reached).number in
        let its = told_inside g k t bound_of ask s p h.top.method number (here s reached) invoked.call invoked.target without (cost s reached).told in
        let few = closes g k t bound_of ask child number its in
        let covered = cost_covers s reached in
        let rest = x.inside value s (next_in s reached) in
        let e = nodes_cost s.plain.meets.view.costs u us in
        let more = sum_by-cons (λ (v : Visit). v.more) visit (x.visit ∷ x.further) in
        omega arith

    -- ---- with look-ups, by a section of another kind

    module _ {value : Option ℕ} (s : BackedSection g k t bound_of ask false m value) (reached : NodeIn g k t bound_of Never s.plain (node_of a.state.mode top.frame)) where
      covered : IsCovered (more_charged (charges_of g k t bound_of Never s.plain) visit.more) u (facts.micro + y.taken) its_looks a.machine.cache
      covered =
          covers_call g k t bound_of ask child s p u (cost s reached).number facts.micro invoked (here s reached) (cost s reached).told (is_instruction top h.running) (cost_covers s reached)
          ((charges_of g k t bound_of Never s.plain).region_of u) refl

      rest_from : (ls : List ℕ) → its_looks ++ y.back ≡ ls
          → Visits (charges_of g k t bound_of Never s.plain) (after k.words ls a.machine.cache) x.visit x.further (x.taken + stall g k t x.looks (after k.words ls a.machine.cache))
      rest_from ls e =
          let same : c.machine.cache ≡ after k.words ls a.machine.cache = call_ran.cache ∙ ap (λ (z : List ℕ). after k.words z a.machine.cache) e in
          let R : Cache → Type 0 = λ z. Visits (charges_of g k t bound_of Never s.plain) z x.visit x.further (x.taken + stall g k t x.looks z) in
          subst R same (x.outside value s (next_in s reached))

      with_call : (ls : List ℕ) → its_looks ++ y.back ≡ ls
          → Visits (charges_of g k t bound_of Never s.plain) a.machine.cache visit (x.visit ∷ x.further) (facts.micro + y.taken + stall g k t ls a.machine.cache + (x.taken + stall g k t x.looks (after k.words ls a.machine.cache)))
          → Visits (charges_of g k t bound_of Never s.plain) a.machine.cache visit (x.visit ∷ x.further) (facts.micro + y.taken + x.taken + stall g k t ((its_looks ++ y.back) ++ x.looks) a.machine.cache)
      with_call ls e stays =
          let split = k.stalls k.words t.read ls x.looks a.machine.cache in
          let listed : stall g k t ((its_looks ++ y.back) ++ x.looks) a.machine.cache ≡ stall g k t (ls ++ x.looks) a.machine.cache = ap (λ (z : List ℕ). stall g k t (z ++ x.looks) a.machine.cache) e in
          let Q : ℕ → Type 0 = λ n. Visits (charges_of g k t bound_of Never s.plain) a.machine.cache visit (x.visit ∷ x.further) n in
          subst Q (omega arith) stays

      -- Where the called frame was dropped, its caller isn't looked up: the load that the invoke's cost has for it is left for the raise step, at which the caller's handler is entered.
      outside_covers : CameBack m c y.back → Visits (charges_of g k t bound_of Never s.plain) a.machine.cache visit (x.visit ∷ x.further) (facts.micro + y.taken + x.taken + stall g k t ((its_looks ++ y.back) ++ x.looks) a.machine.cache)
      outside_covers (by_return run e) =
          let ls : its_looks ++ y.back ≡ its_looks ++ key m ∷ [] = ap (λ (z : List ℕ). its_looks ++ z) e in
          with_call (its_looks ++ key m ∷ []) ls (returns (facts.micro + y.taken) its_looks (even_at top h.running) (even_at x.top run) covered (rest_from (its_looks ++ key m ∷ []) ls))
      outside_covers (by_drop q raise e) =
          let ls : its_looks ++ y.back ≡ its_looks = ap (λ (z : List ℕ). its_looks ++ z) e ∙ append-nil its_looks in
          let none =
          enters_none_at g k t bound_of Never s.plain (At p) (node_of c.state.mode x.top.frame) u x.visit.node x.top.frame.pc (is_instruction top h.running) x.top.node (is_raise_step x.top q raise) (here s reached) edge
          in
          with_call its_looks ls (drops (facts.micro + y.taken) its_looks (even_at top h.running) (odd_at x.top q raise) none covered (rest_from its_looks ls))

    abbrev called_account : Account g k t bound_of ask callers m a d (u ∷ us)
    called_account = record {
      visit = visit;
      further = x.visit ∷ x.further;
      nodes_are = ap (λ (vs : List ℕ). u ∷ vs) x.nodes_are;
      top = top;
      taken = facts.micro + y.taken + x.taken;
      looks = (its_looks ++ y.back) ++ x.looks;
      back = x.back;
      ran = all_ran;
      timing = x.timing;
      within = looks_within;
      left = x.left;
      inside = inside_covers;
      outside = λ value s reached. outside_covers s reached back;
    }

    -- it gives back what its visit does, beside the call and the rest of the stay
    pub calling : (z : Account g k t bound_of ask callers m a d (u ∷ us)) × (given g k t bound_of ask z ≤ ask.credit m u + gives g k t bound_of ask child + given g k t bound_of ask x)
    calling =
        let own = sum_by-cons (ask.credit m) u us in
        let more = sum_by-cons (λ (v : Visit). v.more) visit (x.visit ∷ x.further) in
        (called_account, omega arith)
