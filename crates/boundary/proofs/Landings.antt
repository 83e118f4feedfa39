-- Runs of a machine to its next boundary, compared.
use Rattle.std.proofs.Common.{◌≡◌, ℕ, suc, ◌+◌, ◌-◌, ◌<◌, ◌≤◌, Bool, true, false, List, [], ◌∷◌, ◌++◌, length, Option, None, refl, sym, ◌∙◌, ap, subst, arith, append-nil, append_assoc, length-append, add-zero, ◌⊎◌, inl, inr, ⊎_elim}
use Rattle.std.proofs.lemmas.List.{append_cancel_right}
use Rattle.micro_sketch.proofs.Stepping.{below_or_from}
use Rattle.jop_core.specs.State as machine
use Rattle.jop_core.specs.Cycle.{at_boundary, asks_input, output_of}
use Rattle.jop_core.specs.Scene.{Scene, begun, run, next_scene, left_over, first_of, output_during}
use Rattle.device_traits.specs.declared.fault.DeviceFault.{DeviceFault}
use Rattle.device_traits.specs.Told.{Told}
use Rattle.micro_sketch.specs.Step.{HasNoBoundary, Arrived, Broke}
use Rattle.micro_sketch.specs.StepLaws.{AreRunLaws, UsesUp}
use Rattle.bytecode_model.specs.State.{State}
use Rattle.bytecode_model.specs.Program.{Program}
use Rattle.image_facts.specs.Places.{Places}
use Rattle.machine_stands.specs.Comes.{ComesTo}

-- after so many cycles, which take these answers, the machine is at its next boundary
pub record Lands (old : machine.MachineState) (answers : List (Option ℕ)) (cycles : ℕ) (new : machine.MachineState) : Type 0 where
  pub positive : 0 < cycles
  pub ran : (more : List (Option ℕ)) → (run cycles (begun old (answers ++ more))).state ≡ new
  pub left : (more : List (Option ℕ)) → (run cycles (begun old (answers ++ more))).answers ≡ more
  pub boundary : at_boundary new ≡ true
  pub quiet : HasNoBoundary cycles old answers

pub comes_lands : (P : Program) (pl : Places) (n size : ℕ) (m : machine.MachineState) (s s' : State) (c : ComesTo P pl n size m s s') → Lands m c.answers c.cycles c.new
comes_lands P pl n size m s s' c = record { positive = c.positive; ran = c.ran; left = c.left; boundary = c.boundary; quiet = c.quiet }

pub arrived_lands : (old new : machine.MachineState) (t0 t1 : Told) (a : Arrived old new t0 t1) → Lands old a.answers a.cycles new
arrived_lands old new t0 t1 a = record { positive = a.positive; ran = a.ran.state; left = a.ran.left; boundary = a.boundary; quiet = a.quiet }

-- answers of the two that begin alike, as far as both take any
pub record Meet (xs ys : List (Option ℕ)) : Type 0 where
  pub behind : List (Option ℕ)
  pub behind' : List (Option ℕ)
  pub same : xs ++ behind ≡ ys ++ behind'

-- where the one takes none, or the first of the other
pub meets : (xs ys : List (Option ℕ)) → (xs ≡ []) ⊎ (xs ≡ first_of ys ∷ []) → Meet xs ys
meets xs ys (inl none) = record { behind = ys; behind' = []; same = ap (λ (zs : List (Option ℕ)). zs ++ ys) none ∙ sym (append-nil ys) }
meets xs [] (inr one) = record { behind = []; behind' = None ∷ []; same = ap (λ (zs : List (Option ℕ)). zs ++ []) one }
meets xs (y ∷ ys) (inr one) = record { behind = ys; behind' = []; same = ap (λ (zs : List (Option ℕ)). zs ++ ys) one ∙ ap (λ (zs : List (Option ℕ)). y ∷ zs) (sym (append-nil ys)) }

output_during-one : (c : Scene) → output_during 1 c ≡ output_of c.state
unfolding output_during
output_during-one c = refl

left_over-length : (asks : Bool) (answers : List (Option ℕ)) → asks ≡ true → length (left_over asks answers) ≡ length answers - 1
left_over-length true [] h = refl
left_over-length true (answer ∷ answers) h = omega arith
left_over-length false answers h = absurd (cc)

-- what was given and put out before a call on the device failed, of what the whole way to the boundary takes and puts out
pub record Within (taken given : List (Option ℕ)) (whole part : List ℕ) (cycles broken : ℕ) (new : machine.MachineState) : Type 0 where
  pub below : broken < cycles
  pub fewer : length given ≤ length taken
  pub rest : List ℕ
  pub output : whole ≡ part ++ (output_of new ++ rest)
  pub asks : asks_input new ≡ true → length given + 1 ≤ length taken

module _ (laws : AreRunLaws) where
  -- a run that leaves what stands behind its answers is at no boundary before its last, whatever stands there
  quiet_more : (old : machine.MachineState) (answers : List (Option ℕ)) (cycles bound : ℕ) → UsesUp cycles (begun old answers) → bound ≤ suc cycles → HasNoBoundary bound old answers
      → (more : List (Option ℕ)) → HasNoBoundary bound old (answers ++ more)
  quiet_more old answers cycles bound uses most quiet more i below =
      let apart : cycles ≡ suc i + (cycles - suc i) = omega (arith, below, most) in
      let U : ℕ → Type 0 = λ k. UsesUp k (begun old answers) in
      ap (λ (c : Scene). at_boundary c.state) (laws.run_followed (suc i) (cycles - suc i) (begun old answers) (subst U apart uses) more) ∙ quiet i below

  module _ (old new new' : machine.MachineState) (taken given : List (Option ℕ)) (cycles cycles' : ℕ) (first : Lands old taken cycles new) (meet : Meet taken given) where
    -- no boundary comes earlier on another run with the same answers, as far as it was quiet
    not_before : (bound : ℕ) → UsesUp cycles' (begun old given) → bound ≤ suc cycles' → HasNoBoundary bound old given → cycles < bound → ⊥
    not_before bound uses most quiet below =
        let p = first.positive in
        let place : suc (cycles - 1) ≡ cycles = omega arith in
        let none : at_boundary (run cycles (begun old (given ++ meet.behind'))).state ≡ false =
        ap (λ k. at_boundary (run k (begun old (given ++ meet.behind'))).state) (sym place) ∙ quiet_more old given cycles' bound uses most quiet meet.behind' (cycles - 1) (omega (arith, below, place)) in
        let here : at_boundary (run cycles (begun old (given ++ meet.behind'))).state ≡ true =
        ap (λ (xs : List (Option ℕ)). at_boundary (run cycles (begun old xs)).state) (sym meet.same) ∙ ap at_boundary (first.ran meet.behind) ∙ first.boundary in
        let clash : true ≡ false = sym here ∙ none in
        cc

  -- two runs that take the same answers come to the same boundary
  pub record SameLanding (new new' : machine.MachineState) (taken given : List (Option ℕ)) (cycles cycles' : ℕ) : Type 0 where
    pub cycles_are : cycles ≡ cycles'
    pub new_is : new ≡ new'
    pub answers_are : taken ≡ given

  pub same_landing : (old new new' : machine.MachineState) (taken given : List (Option ℕ)) (cycles cycles' : ℕ) → Lands old taken cycles new → Lands old given cycles' new' → Meet taken given → SameLanding new new' taken given cycles cycles'
  same_landing old new new' taken given cycles cycles' first second meet =
      let back : Meet given taken = record { behind = meet.behind'; behind' = meet.behind; same = sym meet.same } in
      let here : cycles ≡ cycles' =
      ⊎_elim
      (λ below. absurd (not_before old new new' taken given cycles cycles' first meet cycles' second.left (omega arith) second.quiet below))
      (λ from. ⊎_elim
      (λ past. absurd (not_before old new' new given taken cycles' cycles second back cycles first.left (omega arith) first.quiet past))
      (λ to. omega (arith, from, to))
      (below_or_from cycles' cycles))
      (below_or_from cycles cycles') in
      let left : meet.behind ≡ meet.behind' =
      sym (first.left meet.behind) ∙ ap (λ k. (run k (begun old (taken ++ meet.behind))).answers) here
      ∙ ap (λ (xs : List (Option ℕ)). (run cycles' (begun old xs)).answers) meet.same ∙ second.left meet.behind' in
      record {
        cycles_are = here;
        new_is = sym (first.ran meet.behind) ∙ ap (λ k. (run k (begun old (taken ++ meet.behind))).state) here
            ∙ ap (λ (xs : List (Option ℕ)). (run cycles' (begun old xs)).state) meet.same ∙ second.ran meet.behind';
        answers_are = append_cancel_right taken given meet.behind (meet.same ∙ ap (λ (xs : List (Option ℕ)). given ++ xs) (sym left));
      }

  -- the way that broke off is a part of the whole
  pub broke_within : (old whole new : machine.MachineState) (t0 t1 : Told) (fault : DeviceFault) (taken : List (Option ℕ)) (cycles : ℕ) (b : Broke old new t0 t1 fault) → Lands old taken cycles whole → Meet taken b.answers
      → Within taken b.answers (output_during cycles (begun old taken)) (output_during b.cycles (begun old b.answers)) cycles b.cycles new
  broke_within old whole new t0 t1 fault taken cycles b first meet =
      let j = b.cycles in
      let given = b.answers in
      let below : j < cycles =
      ⊎_elim
      (λ below. below)
      (λ from. absurd (not_before old whole new taken given cycles j first meet (suc j) b.ran.left (omega arith) b.quiet (omega (arith, from))))
      (below_or_from j cycles) in
      let x : List (Option ℕ) = meet.behind ++ None ∷ [] in
      let y : List (Option ℕ) = meet.behind' ++ None ∷ [] in
      let same : taken ++ x ≡ given ++ y =
      sym (append_assoc taken meet.behind (None ∷ [])) ∙ ap (λ (xs : List (Option ℕ)). xs ++ None ∷ []) meet.same ∙ append_assoc given meet.behind' (None ∷ []) in
      let c = begun old (taken ++ x) in
      let begins : c ≡ begun old (given ++ y) = ap (λ (xs : List (Option ℕ)). begun old xs) same in
      let mid = run j c in
      let state : mid.state ≡ new = ap (λ (z : Scene). (run j z).state) begins ∙ b.ran.state y in
      let answers : mid.answers ≡ y = ap (λ (z : Scene). (run j z).answers) begins ∙ b.ran.left y in
      let apart : cycles ≡ j + suc (cycles - suc j) = omega (arith, below) in
      let ends : run cycles c ≡ run (cycles - suc j) (next_scene mid) = ap (λ k. run k c) apart ∙ laws.run_adds j (suc (cycles - suc j)) c in
      let last : length (run (cycles - suc j) (next_scene mid)).answers ≡ length x = ap (λ (z : Scene). length z.answers) (sym ends) ∙ ap (λ (xs : List (Option ℕ)). length xs) (first.left x) in
      let counts : length taken + length x ≡ length given + length y = sym (length-append taken x) ∙ ap (λ (xs : List (Option ℕ)). length xs) same ∙ length-append given y in
      let shrinks = laws.answers_shrink (cycles - suc j) (next_scene mid) in
      let one = laws.answers_shrink 1 mid in
      let at_mid : length mid.answers ≡ length y = ap (λ (xs : List (Option ℕ)). length xs) answers in
      let nonempty : length y ≡ length meet.behind' + 1 = length-append meet.behind' (None ∷ []) in
      let uses_first : UsesUp (cycles + 0) (begun old taken) = let U : ℕ → Type 0 = λ k. UsesUp k (begun old taken) in subst U (sym (add-zero cycles)) first.left in
      let uses_broke : UsesUp (j + 0) (begun old given) = let U : ℕ → Type 0 = λ k. UsesUp k (begun old given) in subst U (sym (add-zero j)) b.ran.left in
      record {
        below = below;
        fewer = omega (arith, counts, last, shrinks, one, at_mid);
        rest = output_during (cycles - suc j) (next_scene mid);
        output = sym (laws.output_followed cycles 0 (begun old taken) uses_first x)
            ∙ ap (λ k. output_during k c) apart ∙ laws.output_adds j (suc (cycles - suc j)) c
            ∙ ap (λ (out : List ℕ). out ++ output_during (suc (cycles - suc j)) mid) (ap (λ (z : Scene). output_during j z) begins ∙ laws.output_followed j 0 (begun old given) uses_broke y)
            ∙ ap (λ (out : List ℕ). output_during j (begun old given) ++ out) (ap (λ k. output_during k mid) (let k : suc (cycles - suc j) ≡ 1 + (cycles - suc j) = omega arith in k) ∙ laws.output_adds 1 (cycles - suc j) mid
            ∙ ap (λ (out : List ℕ). out ++ output_during (cycles - suc j) (next_scene mid)) (output_during-one mid ∙ ap output_of state));
        asks = λ asking.
            let taken_one : length (next_scene mid).answers ≡ length mid.answers - 1 = left_over-length (asks_input mid.state) mid.answers (ap asks_input state ∙ asking) in
            omega (arith, counts, last, shrinks, taken_one, at_mid, nonempty);
      }
