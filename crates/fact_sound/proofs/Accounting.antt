-- The account of a whole stay, and of an activation with the invoke before it, where visits give something back.
use Rattle.std.proofs.Common.{◌≡◌, ℕ, ◌+◌, ◌≤◌, List, [], ◌∷◌, ◌++◌, Option, Some, IsSome, sum_by, refl, sym, ap, ◌∙◌, subst, arith}
use Rattle.std.proofs.lemmas.List.Sums.{sum_by-cons, sum_by-append}
use Rattle.lists.proofs.Lemmas.{some_is}
use Rattle.lists.specs.Members.{heads}
use Rattle.method_cache.specs.Contents.{Cache}
use Rattle.method_cache.specs.Regions.LookUps.{after}
use Rattle.opcodes.specs.Start.{IsStart}
use Rattle.bytecode_model.specs.State.{Frame}
use Rattle.bytecode_model.specs.Program.{Program, Body, body_of}
use Rattle.method_flow.specs.Nodes.{Node, At}
use Rattle.method_flow.specs.Live.{LiveWalk}
use Rattle.method_flow.specs.Shapes.{node_of, Enters}
use Rattle.method_flow.specs.Keeping.{BoundOf}
use Rattle.method_flow.specs.Recursion.{MayCall}
use Rattle.method_flow.specs.Regions.{load}
use Rattle.method_flow.specs.Regions.IsWithin.{itself, calls as runs}
use Rattle.method_flow.specs.declared.timing.Timing.{Timing}
use Rattle.method_flow.specs.Costs.{IsOwnCost}
use Rattle.bound_rules.specs.Told.{Valued, SaysFull}
use Rattle.activations.specs.Setting.{Setting}
use Rattle.activations.specs.Activations.{Stage, Follows}
use Rattle.activations.specs.Steps.{looked_up, StepFacts}
use Rattle.activations.specs.Timing.{HasTiming}
use Rattle.activations.specs.Stays.{IsTop, Stay}
use Rattle.activations.specs.Stays.Stay.{leaves, goes, calls}
use Rattle.bound_laws.proofs.SoundnessLemmas.Supported.{ChildrenKeepBy}
use Rattle.bound_laws.proofs.SoundnessLemmas.Known.{Known, within_coded}
use Rattle.bound_laws.proofs.SoundnessLemmas.Looking.{enters_looks}
use Rattle.bound_laws.proofs.SoundnessLemmas.Accounts.{stall, then_ran, step_ran, Left}
use Rattle.bound_laws.proofs.SoundnessLemmas.Accounts.Left.{returned, dropped}
use Rattle.bound_laws.proofs.SoundnessLemmas.Steps.{at_running}
use Rattle.bound_laws.proofs.SoundnessLemmas.Called.{one_load}
use Rattle.fact_sound.proofs.Backed.{Never, Asked, AreBacked}
use Rattle.fact_sound.proofs.Accounts.{Account, given}
use Rattle.fact_sound.proofs.Called.{Called, takes_full}
use Rattle.fact_sound.proofs.Moving.{leaving, moving}
use Rattle.fact_sound.proofs.Calling.{calling}

-- what a visit gives back is counted at the boundary at which the frame stands at the node
abbrev pub IsCounted : Asked → (counted : Stage → ℕ) → Type 0
IsCounted ask counted = (callers : List Frame) (m : ℕ) (a : Stage) (u : ℕ) → IsTop callers m a u → ask.credit m u ≤ counted a

module _ (g : Setting) (k : Known g) (t : Timing) (bound_of : BoundOf) (ask : Asked) (counted : Stage → ℕ) (counts : IsCounted ask counted) where
  abbrev P : Program
  P = g.program

  abbrev key : ℕ → ℕ
  key m = g.places.method m

  facts_of : (a b : Stage) → HasTiming t a.machine → Follows g a b → StepFacts g t k.words a b
  facts_of a b timing follows = k.steps g t k.words a b k.setting k.are_words timing follows

  -- a method that runs has code
  top_coded : (a b : Stage) (f : Frame) (callers : List Frame) → StepFacts g t k.words a b → a.state.frames ≡ f ∷ callers → IsSome (body_of P f.method)
  top_coded a b f callers facts frames =
      let body = some_is (body_of P f.method) (λ (x : Body). IsStart x.code f.pc) (facts.start f callers frames) in
      subst (λ (o : Option Body). IsSome o) (sym body.1) refl

  -- ---- a call

  module _ {a b c : Stage} {f : Frame} {callers : List Frame} {m : ℕ} {bs : List Stage} {nodes : List ℕ} (frames : a.state.frames ≡ f ∷ callers) (facts : StepFacts g t k.words a b) (h : Enters P a.state.mode f callers b.state)
      (method : h.top.method ≡ m) (stay : Stay g (h.waiting ∷ callers) m b c bs nodes) (timing : HasTiming t a.machine) (keeps : ask.keep m nodes) (account : Account g k t bound_of ask (h.waiting ∷ callers) m b c nodes) where
    starts : node_of b.state.mode account.top.frame ≡ At 0
    starts =
        let same : account.top.frame ≡ h.top = heads account.top.frame h.top (h.waiting ∷ callers) (h.waiting ∷ callers) (sym account.top.frames ∙ h.frames) in
        at_running b account.top.frame h.still ∙ ap (λ (z : ℕ). At z) (ap (λ (z : Frame). z.pc) same ∙ h.first)

    pub looks_up : looked_up g a b ≡ key m ∷ []
    looks_up = enters_looks g a b f callers frames h ∙ ap (λ (z : ℕ). key z ∷ []) method

    abbrev called : Called g k t bound_of ask (h.waiting ∷ callers) m a b c nodes
    called = record {
      coded =
          let within = runs f.pc (facts.start f callers frames) h.call h.target itself in
          subst (λ (z : ℕ). IsSome (body_of P z)) method (within_coded g k f.method h.top.method (top_coded a b f callers facts frames) within);
      before = timing;
      start = facts.timing;
      cache = facts.cache ∙ ap (λ (ls : List ℕ). after k.words ls a.machine.cache) looks_up;
      account = account;
      first = starts;
      walk = subst (λ (n : Node). LiveWalk P m n nodes) starts (k.walks g (h.waiting ∷ callers) m b c bs nodes stay account.top.frame account.top.frames);
      keeps = keeps;
    }

  -- ---- a stay

  -- with what it gives back, which is counted at its boundaries
  abbrev Counted : (callers : List Frame) (m : ℕ) (a b : Stage) (between : List Stage) (nodes : List ℕ) → Type 0
  Counted callers m a b between nodes = (x : Account g k t bound_of ask callers m a b nodes) × (given g k t bound_of ask x ≤ sum_by counted (a ∷ between))

  pub account : {callers : List Frame} {m : ℕ} {a b : Stage} {between : List Stage} {nodes : List ℕ} → (stay : Stay g callers m a b between nodes) → HasTiming t a.machine → ChildrenKeepBy ask.keep stay
      → Counted callers m a b between nodes
  account (leaves {callers} {m} {a} {b} {u} top follows h) timing keep =
      let its = leaving g k t bound_of ask callers m a b u top (facts_of a b timing follows) h in
      let few = its.1 in
      let here = counts callers m a u top in
      let sum = sum_by-cons counted a [] in
      (its.0, omega arith)
  account (goes {callers} {m} {a} {b} {c} {u} {cs} {us} top follows h more) timing keep =
      let facts = facts_of a b timing follows in
      let walk = k.walks g callers m a c (b ∷ cs) (u ∷ us) (goes top follows h more) top.frame top.frames in
      let rest = account more facts.timing keep in
      let its = moving g k t bound_of ask top facts h walk rest.0 in
      let few = its.1 in
      let few' = rest.1 in
      let here = counts callers m a u top in
      let sum = sum_by-cons counted a (b ∷ cs) in
      (its.0, omega arith)
  account (calls {callers} {m} {a} {b} {c} {d} {u} {bs} {cs} {us} {vs} top follows h child more) timing keep =
      let facts = facts_of a b timing follows in
      let call = account child facts.timing keep.1 in
      let walk = k.walks g callers m a d (b ∷ (bs ++ c ∷ cs)) (u ∷ us) (calls top follows h child more) top.frame top.frames in
      let rest = account more call.0.timing keep.2 in
      let its = calling g k t bound_of ask top facts h (called top.frames facts h refl child timing keep.0 call.0) rest.0 walk in
      let few = its.1 in
      let few' = call.1 in
      let few'' = rest.1 in
      let here = counts callers m a u top in
      let sum = sum_by-cons counted a (b ∷ (bs ++ c ∷ cs)) in
      let parts : sum_by counted (b ∷ (bs ++ c ∷ cs)) ≡ sum_by counted (b ∷ bs) + sum_by counted (c ∷ cs) = sum_by-append counted (b ∷ bs) (c ∷ cs) in
      (its.0, omega arith)

  -- ---- an activation

  -- where control comes back to the caller, at most one load more
  back_load : {callers : List Frame} {b : Stage} {back : List ℕ} → Left g callers b back → (most : ℕ) → ((f : Frame) (others : List Frame) → callers ≡ f ∷ others → IsSome (body_of P f.method) × (load P t.read f.method ≤ most))
      → (c : Cache) → stall g k t back c ≤ most
  back_load (returned f others are run e) most covers c =
      let same = ap (λ (ls : List ℕ). stall g k t ls c) e in
      let caller = covers f others are in
      let one = one_load g k t bound_of Never f.method caller.0 c in
      let few = caller.1 in
      omega arith
  back_load (dropped p raise e) most covers c = let same = ap (λ (ls : List ℕ). stall g k t ls c) e in omega arith

  -- the invoke that begins it, the call with all its loads, and the load of the method that control comes back to
  last_line : {callers : List Frame} {m : ℕ} {a b c : Stage} {nodes : List ℕ} (y : Called g k t bound_of ask callers m a b c nodes) (facts : StepFacts g t k.words a b) → looked_up g a b ≡ key m ∷ []
      → (most : ℕ) → ((f : Frame) (others : List Frame) → callers ≡ f ∷ others → IsSome (body_of P f.method) × (load P t.read f.method ≤ most)) → (earlier : List Valued) → AreBacked P t bound_of ask earlier → (full : ℕ) → SaysFull P t earlier m (Some (Some full))
      → (invoke : ℕ) → facts.micro ≤ invoke → c.machine.clock ≤ a.machine.clock + (invoke + (full + given g k t bound_of ask y.account) + most)
  last_line {callers} {m} {a} {b} {c} {nodes} y facts looks most covers earlier met full says invoke few =
      let x = y.account in
      let ran = then_ran g k t a b c facts.micro x.taken (key m ∷ []) (x.looks ++ x.back) (step_ran g k t a b facts (key m ∷ []) looks) x.ran in
      let clock = ran.clock in
      let took = takes_full g k t bound_of ask y earlier met full says in
      let split = k.stalls k.words t.read (key m ∷ x.looks) x.back a.machine.cache in
      let last = back_load x.left most covers (after k.words (key m ∷ x.looks) a.machine.cache) in
      omega arith

  pub bounded_clock : {a b c : Stage} {f : Frame} {callers : List Frame} {m : ℕ} {bs : List Stage} {nodes : List ℕ} (frames : a.state.frames ≡ f ∷ callers) (follows : Follows g a b) (h : Enters P a.state.mode f callers b.state)
      → h.top.method ≡ m → (stay : Stay g (h.waiting ∷ callers) m b c bs nodes) → HasTiming t a.machine → ask.keep m nodes → ChildrenKeepBy ask.keep stay
      → (earlier : List Valued) → AreBacked P t bound_of ask earlier → (full : ℕ) → SaysFull P t earlier m (Some (Some full))
      → (invoke : ℕ) → ((micro : ℕ) → ((own : ℕ) → IsOwnCost P t f.method (At f.pc) own → micro ≤ own) → micro ≤ invoke) → (most : ℕ) → ((x : ℕ) → MayCall P x m → IsSome (body_of P x) → load P t.read x ≤ most)
      → c.machine.clock ≤ a.machine.clock + (invoke + (full + sum_by counted (b ∷ bs)) + most)
  bounded_clock {a} {b} {c} {f} {callers} {m} {bs} {nodes} frames follows h method stay timing keeps children earlier met full says invoke covers most loads =
      let facts = facts_of a b timing follows in
      let x = account stay facts.timing children in
      let coded = top_coded a b f callers facts frames in
      let calls_it : MayCall P f.method m = subst (λ (n : ℕ). MayCall P f.method n) method (record { place = f.pc; start = facts.start f callers frames; call = h.call; is_target = h.target }) in
      let K : ℕ → Type 0 = λ n. IsSome (body_of P n) × (load P t.read n ≤ most) in
      let caller : (z : Frame) (others : List Frame) → h.waiting ∷ callers ≡ z ∷ others → K z.method = λ z others are.
      subst (λ (w : Frame). K w.method) (heads h.waiting z callers others are) (subst K (sym h.same) (coded, loads f.method calls_it coded))
      in
      let own : (z : ℕ) → IsOwnCost P t f.method (At f.pc) z → facts.micro ≤ z = λ z is. facts.costs f callers z frames (subst (λ (n : Node). IsOwnCost P t f.method n z) (sym (at_running a f h.running)) is) in
      let line =
      last_line (called frames facts h method stay timing keeps x.0) facts (looks_up frames facts h method stay timing keeps x.0) most caller earlier met full says invoke (covers facts.micro own)
      in
      let few = x.1 in
      omega arith
