-- A run with the answers of its input is the run with any input that gives these answers.
use Rattle.std.proofs.Common.{◌≡◌, ℕ, zero, suc, ◌+◌, ◌<◌, List, [], ◌∷◌, ◌++◌, length, Option, Some, None, refl, sym, ◌∙◌, ap, subst, arith, length-append}
use Rattle.bytecode_model.specs.declared.Ending.{Ending}
use Rattle.bytecode_model.specs.declared.Ending.TheVariants.{Running, Raising, Ended, Uncaught}
use Rattle.bytecode_model.specs.Lists.{onto}
use Rattle.bytecode_model.specs.State.{Frame, State}
use Rattle.bytecode_model.specs.Program.{Program, Limits}
use Rattle.bytecode_model.specs.Rows.{Row}
use Rattle.bytecode_model.specs.Effects.{Effect, Stuck, Go, Make, WritePart, WriteStatic, Take, Give, Call, Leave, Raise, effect}
use Rattle.bytecode_model.specs.Steps.{step, step_in, applied, row_at, run_from}
use Rattle.boundary.specs.Setting.{Setting, limits}
use Rattle.boundary.specs.Activations.{Stage}
use Rattle.boundary.specs.Runs.{input_of, Goes}
use Rattle.boundary.proofs.Obeys.{applied_obeys}

-- ---- a step that takes no answer is the same for each

-- where the step took the answer, the other one is the same
abbrev AgreesOn : (s t : State) → (answer other : Option ℕ) → Type 0
AgreesOn s t answer other = t.answers ≡ s.answers ++ answer ∷ [] → other ≡ answer

applied_given : (P : Program) (limits : Limits) (answer other : Option ℕ) (s : State) (f : Frame) (callers : List Frame) (e : Effect) (t : State) → applied P limits answer s f callers e ≡ Some t → AgreesOn s t answer other → applied P limits other s f callers e ≡ Some t
applied_given P limits answer other s f callers Stuck t is h = is
applied_given P limits answer other s f callers (Go pc ls ops) t is h = is
applied_given P limits answer other s f callers (Make o pc ls ops) t is h = is
applied_given P limits answer other s f callers (WritePart p k v pc ls ops) t is h = is
applied_given P limits answer other s f callers (WriteStatic k v pc ls ops) t is h = is
applied_given P limits answer other s f callers (Take pc ls ops) t is h =
    subst (λ (x : Option ℕ). applied P limits x s f callers (Take pc ls ops) ≡ Some t) (sym (h (applied_obeys P limits answer s f callers (Take pc ls ops) t is).0.0)) is
applied_given P limits answer other s f callers (Give byte pc ls ops) t is h = is
applied_given P limits answer other s f callers (Call m args ops) t is h = is
applied_given P limits answer other s f callers (Leave result) t is h = is
applied_given P limits answer other s f callers (Raise p) t is h = is

row_given : (P : Program) (limits : Limits) (answer other : Option ℕ) (s t : State) (f : Frame) (fs : List Frame) (o : Option (ℕ × Row)) → onto o (λ x. applied P limits answer s f fs (effect P limits s f x.0 x.1)) ≡ Some t → AgreesOn s t answer other
    → onto o (λ x. applied P limits other s f fs (effect P limits s f x.0 x.1)) ≡ Some t
row_given P limits answer other s t f fs None is h = is
row_given P limits answer other s t f fs (Some x) is h = applied_given P limits answer other s f fs (effect P limits s f x.0 x.1) t is h

in_given : (P : Program) (limits : Limits) (answer other : Option ℕ) (s t : State) (fs : List Frame) (mode : Ending) → step_in P limits answer s fs mode ≡ Some t → AgreesOn s t answer other → step_in P limits other s fs mode ≡ Some t
in_given P limits answer other s t [] Running is h = is
in_given P limits answer other s t [] (Raising p) is h = is
in_given P limits answer other s t [] Ended is h = is
in_given P limits answer other s t [] (Uncaught c) is h = is
in_given P limits answer other s t (f ∷ fs) Running is h = row_given P limits answer other s t f fs (row_at P f) is h
in_given P limits answer other s t (f ∷ fs) (Raising p) is h = is
in_given P limits answer other s t (f ∷ fs) Ended is h = is
in_given P limits answer other s t (f ∷ fs) (Uncaught c) is h = is

-- ---- answers

input_front : (xs ys : List (Option ℕ)) (k : ℕ) → k < length xs → input_of (xs ++ ys) k ≡ input_of xs k
input_front [] ys k h = absurd (omega (arith, h))
input_front (x ∷ xs) ys zero h = refl
input_front (x ∷ xs) ys (suc k) h = input_front xs ys k (omega (arith, h))

input_behind : (xs : List (Option ℕ)) (x : Option ℕ) → input_of (xs ++ x ∷ []) (length xs) ≡ x
input_behind [] x = refl
input_behind (y ∷ xs) x = input_behind xs x

-- ---- the run

pub reached : (g : Setting) (limit : ℕ) (a : Stage) (n : ℕ) (b : Stage) → Goes g limit a n b → (input : ℕ → Option ℕ) → ((k : ℕ) → k < length b.state.answers → input k ≡ input_of b.state.answers k)
    → b.state ≡ run_from g.program (limits g) input a.state n
unfolding run_from
reached g limit a zero b goes input same = ap (λ (x : Stage). x.state) goes
reached g limit a (suc n) b (mid, goes, going, below, follows) input same =
    let P = g.program in
    let L = limits g in
    let took : b.state.answers ≡ mid.state.answers ++ follows.comes.answers = follows.comes.took in
    let longer : length b.state.answers ≡ length mid.state.answers + length follows.comes.answers = ap (λ (xs : List (Option ℕ)). length xs) took ∙ length-append mid.state.answers follows.comes.answers in
    let before : mid.state ≡ run_from P L input a.state n =
    reached g limit a n mid goes input (λ k h. same k (omega (arith, h, longer)) ∙ ap (λ (xs : List (Option ℕ)). input_of xs k) took ∙ input_front mid.state.answers follows.comes.answers k h) in
    let other = input (length mid.state.answers) in
    let agrees : AgreesOn mid.state b.state follows.answer other = λ is.
    same (length mid.state.answers) (omega (arith, ap (λ (xs : List (Option ℕ)). length xs) is, length-append mid.state.answers (follows.answer ∷ []))) ∙ ap (λ (xs : List (Option ℕ)). input_of xs (length mid.state.answers)) is
    ∙ input_behind mid.state.answers follows.answer in
    let here : step P L other mid.state ≡ Some b.state = in_given P L follows.answer other mid.state b.state mid.state.frames mid.state.mode follows.is_next agrees in
    sym (ap (λ (t : State). elim (step P L (input (length t.answers)) t) [ None ↦ t | Some u ↦ u ]) (sym before) ∙ ap (λ (o : Option State). elim o [ None ↦ mid.state | Some u ↦ u ]) here)
