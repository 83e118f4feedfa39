-- What some of the steps of an activation look up.
use Rattle.std.proofs.Common.{◌≡◌, ℕ, suc, ◌*◌, Bool, List, [], ◌∷◌, ◌++◌, length, All, Contains, refl, sym, ap, ◌∙◌, subst, inl, inr, arith}
use Rattle.std.specs.Prelude.{if◌then◌else◌}
use Rattle.std.proofs.lemmas.Bool.{eq-eqb}
use Rattle.std.proofs.lemmas.List.Elements.{All-nil, All-head, All-append, All-weaker}
use Rattle.lists.specs.Members.{cons_cases, nil_contains}
use Rattle.bytecode_model.specs.State.{Frame}
use Rattle.bytecode_model.specs.Program.{Program}
use Rattle.method_flow.specs.Regions.{IsWithin, IsWithinNodes}
use Rattle.method_flow.specs.Regions.IsWithin.{itself, calls as runs}
use Rattle.method_flow.specs.Regions.IsWithinNodes.{itself as is_itself, calls as is_called}
use Rattle.activations.specs.Setting.{Setting}
use Rattle.activations.specs.Activations.{Stage, depth}
use Rattle.activations.specs.Steps.{looked_up}
use Rattle.activations.specs.Keeping.{node_of_top, node_at}
use Rattle.bound_laws.specs.Soundness.Loads.{look_ups_over, IsMemberOrRaise, BeginAmong}
use Rattle.bound_laws.proofs.SoundnessLemmas.OwnSteps.{IsPlaceOf, IsOwnPlace, OwnSteps}
use Rattle.bound_laws.proofs.SoundnessLemmas.OwnSteps.OwnSteps.{none, back, above}

-- ---- what may run

module _ (P : Program) (m : ℕ) where
  -- while control is at some nodes, no more than while the method runs
  pub nodes_within : (nodes : List ℕ) (x : ℕ) → IsWithinNodes P m nodes x → IsWithin P m x
  nodes_within nodes x (is_itself same) = subst (λ (y : ℕ). IsWithin P m y) (sym same) itself
  nodes_within nodes x (is_called p t among start call target within) = runs p start call target within

  -- while it is at a member of a loop, no more than while it is in the loop; at a raise step no more than the method itself
  member_within : (members : List ℕ) (u x : ℕ) → IsMemberOrRaise members u → IsWithinNodes P m (u ∷ []) x → IsWithinNodes P m members x
  member_within members u x here (is_itself same) = is_itself same
  member_within members u x here (is_called p t among start call target within) =
      elim (cons_cases u (2 * p) [] among) [
        | inl is ↦
            elim here [
              | inl member ↦ let Q : ℕ → Type 0 = λ z. Contains members z in is_called p t (subst Q is member) start call target within
              | inr raise ↦ let e = raise.1 in absurd (omega arith)
            ]
        | inr never ↦ absurd (nil_contains (2 * p) never)
      ]

-- ---- some of the steps

module _ (g : Setting) (m n : ℕ) where
  abbrev P : Program
  P = g.program

  next_of : {u : ℕ} {a b : Stage} {bs : List Stage} → OwnSteps g m n u a (b ∷ bs) → (v : ℕ) × OwnSteps g m n v b bs
  next_of (back {v = v} at looks more) = (v, more)
  next_of (above {u = u} at looks more) = (u, more)

  abbrev pub OwnFrom : List Stage → Type 0
  OwnFrom [] = Unit {0}
  OwnFrom (a ∷ bs) = (u : ℕ) × OwnSteps g m n u a bs

  second_on : (a : Stage) (bs : List Stage) → OwnFrom (a ∷ bs) → OwnFrom bs
  second_on a [] h = tt
  second_on a (b ∷ bs) h = next_of h.1

  pub later_on : (before rest : List Stage) → OwnFrom (before ++ rest) → OwnFrom rest
  later_on [] rest h = h
  later_on (a ∷ before) rest h = later_on before rest (second_on a (before ++ rest) h)

  -- ---- what they look up

  -- what may run while the method does
  pub all_within : {u : ℕ} {a : Stage} {bs : List Stage} → OwnSteps g m n u a bs → All (IsPlaceOf g (IsWithin P m)) (look_ups_over g a bs)
  all_within none = All-nil (IsPlaceOf g (IsWithin P m))
  all_within (back {u} {v} {a} {b} {bs} at looks more) =
      let K : ℕ → Type 0 = IsPlaceOf g (IsWithin P m) in
      All-append K (looked_up g a b) (look_ups_over g b bs) (All-weaker (IsOwnPlace g m) K (λ k own. (m, itself, own)) (looked_up g a b) looks) (all_within more)
  all_within (above {u} {a} {b} {bs} at looks more) =
      let K : ℕ → Type 0 = IsPlaceOf g (IsWithin P m) in
      let L : ℕ → Type 0 = IsPlaceOf g (IsWithinNodes P m (u ∷ [])) in
      All-append K (looked_up g a b) (look_ups_over g b bs) (All-weaker L K (λ k x. (x.0, nodes_within P m (u ∷ []) x.0 x.1, x.2)) (looked_up g a b) looks) (all_within more)

  -- where there are so many frames, one is on top
  some_node : (a : Stage) (k : ℕ) → depth a ≡ suc k → n ≡ suc k → node_at n a ≡ [] → ⊥
  some_node a k deep is none_there = by a.state.frames refl
    where
      same : node_of_top a.state.mode a.state.frames ≡ []
      same = sym (ap (λ (x : Bool). if x then node_of_top a.state.mode a.state.frames else []) (eq-eqb (depth a) n (deep ∙ sym is))) ∙ none_there

      by : (fs : List Frame) → a.state.frames ≡ fs → ⊥
      by [] are = let e = ap (λ (x : List Frame). length x) are in omega arith
      by (f ∷ fs) are = let e : node_of_top a.state.mode (f ∷ fs) ≡ [] = sym (ap (node_of_top a.state.mode) are) ∙ same in let bad : ⊥ = cc in bad

  -- the step by which control comes to the frame
  record Entered (a b : Stage) (bs : List Stage) : Type 0 where
    node : ℕ
    at : node_at n b ≡ node ∷ []
    looks : All (IsOwnPlace g m) (looked_up g a b)
    more : OwnSteps g m n node b bs

  entered : (k : ℕ) → n ≡ suc k → {u : ℕ} {a b : Stage} {bs : List Stage} → depth b ≡ suc k → OwnSteps g m n u a (b ∷ bs) → Entered a b bs
  entered k is deep (back {v = v} at looks more) = record { node = v; at = at; looks = looks; more = more }
  entered k is {u} {a} {b} {bs} deep (above at looks more) = absurd (some_node b k deep is at)

  module _ (members : List ℕ) where
    abbrev InLoop : ℕ → Type 0
    InLoop = IsPlaceOf g (IsWithinNodes P m members)

    own_in_loop : (ls : List ℕ) → All (IsOwnPlace g m) ls → All InLoop ls
    own_in_loop ls looks = All-weaker (IsOwnPlace g m) InLoop (λ k own. (m, is_itself refl, own)) ls looks

    -- the node at which the frame is on top
    node_among : (u : ℕ) (a : Stage) → node_at n a ≡ u ∷ [] → All (IsMemberOrRaise members) (node_at n a) → IsMemberOrRaise members u
    node_among u a at all = All-head (IsMemberOrRaise members) u [] (subst (λ (us : List ℕ). All (IsMemberOrRaise members) us) at all)

    -- Where each of them that is the frame's own begins at a member of a loop or at a raise step, they look up what may run in the loop.
    all_in_loop : {u : ℕ} {a : Stage} (bs after : List Stage) → OwnSteps g m n u a (bs ++ after) → (All (IsMemberOrRaise members) (node_at n a) → IsMemberOrRaise members u) → BeginAmong n members a bs
        → All InLoop (look_ups_over g a bs)
    all_in_loop [] after steps here among = All-nil InLoop
    all_in_loop {u} {a} (b ∷ bs) after (back {v = v} at looks more) here among =
        All-append InLoop (looked_up g a b) (look_ups_over g b bs) (own_in_loop (looked_up g a b) looks) (all_in_loop bs after more (node_among v b at) among.1)
    all_in_loop {u} {a} (b ∷ bs) after (above at looks more) here among =
        let L : ℕ → Type 0 = IsPlaceOf g (IsWithinNodes P m (u ∷ [])) in
        let is = here among.0 in
        All-append InLoop (looked_up g a b) (look_ups_over g b bs) (All-weaker L InLoop (λ k x. (x.0, member_within P m members u x.0 is x.1, x.2)) (looked_up g a b) looks)
        (all_in_loop bs after more (λ all. is) among.1)

    -- and so where control comes to the loop by the first of them
    pub stay_in_loop : (k : ℕ) → n ≡ suc k → (from entry : Stage) (further after : List Stage) → depth entry ≡ suc k → OwnFrom (from ∷ (entry ∷ (further ++ after))) → BeginAmong n members entry further
        → All InLoop (look_ups_over g from (entry ∷ further))
    stay_in_loop k is from entry further after deep steps among =
        let first = entered k is deep steps.1 in
        All-append InLoop (looked_up g from entry) (look_ups_over g entry further) (own_in_loop (looked_up g from entry) first.looks)
        (all_in_loop further after first.more (node_among first.node entry first.at) among)
