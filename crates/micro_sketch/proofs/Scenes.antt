-- Runs by their last cycle, in parts, after other output, and with further answers behind those they take.
use Rattle.std.proofs.Common.{◌≡◌, ◌≢◌, ℕ, zero, suc, ◌+◌, ◌≤◌, Bool, true, false, List, [], ◌∷◌, ◌++◌, length, None, refl, sym, ap, ◌∙◌, subst, arith, append_assoc, zero-add, suc-add}
use Rattle.std.specs.declared.option.Option.{Option}
use Rattle.jop_core.specs.State.{MachineState}
use Rattle.jop_core.specs.Cycle.{cycle_of, asks_input, output_of}
use Rattle.jop_core.specs.Scene.{Scene, begun, rest_of, given, left_over, next_scene, run}
pub use Rattle.micro_sketch.specs.StepLaws.{after_output, followed_by, UsesUp}

pub run-suc : (k : ℕ) (c : Scene) → run (suc k) c ≡ next_scene (run k c)
run-suc zero c = refl
run-suc (suc k) c = run-suc k (next_scene c)

pub run-add : (m n : ℕ) (c : Scene) → run (m + n) c ≡ run n (run m c)
run-add zero n c = rw zero-add refl
run-add (suc m) n c = rw suc-add (run-add m n (next_scene c))

-- a scene by its parts
pub scene_is : (c : Scene) (s : MachineState) (answers : List (Option ℕ)) (output : List ℕ) → c.state ≡ s → c.answers ≡ answers → c.output ≡ output
    → c ≡ record { state = s; answers = answers; output = output }
scene_is c s answers output states answered put =
    let P : MachineState → Type 0 = λ z. c ≡ record { state = z; answers = c.answers; output = c.output } in
    let Q : List (Option ℕ) → Type 0 = λ z. c ≡ record { state = s; answers = z; output = c.output } in
    let R : List ℕ → Type 0 = λ z. c ≡ record { state = s; answers = answers; output = z } in
    subst R put (subst Q answered (subst P states refl))

-- What was put out before a run doesn't matter to it.

pub run-after_output : (k : ℕ) (before : List ℕ) (c : Scene) → run k (after_output before c) ≡ after_output before (run k c)
run-after_output zero before c = refl
run-after_output (suc k) before c =
    let further : List ℕ → Scene = λ output. run k (record { state = (next_scene c).state; answers = (next_scene c).answers; output = output }) in
    ap further (sym (append_assoc (output_of c.state) c.output before)) ∙ run-after_output k before (next_scene c)

-- a scene that has put something out goes on as one that has put nothing out
pub run-begun : (k : ℕ) (c : Scene) → run k c ≡ after_output c.output (run k (begun c.state c.answers))
run-begun k c = run-after_output k c.output (begun c.state c.answers)

-- The answers only grow fewer.

left_over-length : (asks : Bool) (answers : List (Option ℕ)) → length (left_over asks answers) ≤ length answers
left_over-length false answers = omega arith
left_over-length true [] = omega arith
left_over-length true (answer ∷ answers) = omega arith

pub run-length : (k : ℕ) (c : Scene) → length (run k c).answers ≤ length c.answers
run-length zero c = omega arith
run-length (suc k) c = omega (arith, run-length k (next_scene c), left_over-length (asks_input c.state) c.answers)

-- Answers behind those that a run takes don't matter to it.

given-followed : (asks : Bool) (answers more : List (Option ℕ)) → (asks ≡ true → answers ≢ []) → given asks (answers ++ more) ≡ given asks answers
given-followed false answers more found = refl
given-followed true [] more found = absurd (found refl refl)
given-followed true (answer ∷ answers) more found = refl

left_over-followed : (asks : Bool) (answers more : List (Option ℕ)) → (asks ≡ true → answers ≢ []) → left_over asks (answers ++ more) ≡ left_over asks answers ++ more
left_over-followed false answers more found = refl
left_over-followed true [] more found = absurd (found refl refl)
left_over-followed true (answer ∷ answers) more found = refl

next_scene-followed : (more : List (Option ℕ)) (c : Scene) → (asks_input c.state ≡ true → c.answers ≢ []) → next_scene (followed_by more c) ≡ followed_by more (next_scene c)
next_scene-followed more c found =
    scene_is (next_scene (followed_by more c)) (next_scene c).state ((next_scene c).answers ++ more) (next_scene c).output
    (ap (λ answer. cycle_of answer c.state) (given-followed (asks_input c.state) c.answers more found))
    (left_over-followed (asks_input c.state) c.answers more found) refl

-- a scene with no answer left whose cycle asks for one takes one from behind
uses_one : (k : ℕ) (c : Scene) → UsesUp (suc k) c → asks_input c.state ≡ true → c.answers ≡ [] → ⊥
uses_one k c uses asking none =
    let start : (next_scene (followed_by (None ∷ []) c)).answers ≡ [] =
    ap (λ asks. left_over asks (c.answers ++ None ∷ [])) asking ∙ ap (λ (answers : List (Option ℕ)). rest_of (answers ++ None ∷ [])) none in
    let fewer = run-length k (next_scene (followed_by (None ∷ []) c)) in
    let ended = uses (None ∷ []) in
    omega (arith, ap (λ (answers : List (Option ℕ)). length answers) start, ap (λ (answers : List (Option ℕ)). length answers) ended)

pub run-followed : (i k : ℕ) (c : Scene) → UsesUp (i + k) c → (more : List (Option ℕ)) → run i (followed_by more c) ≡ followed_by more (run i c)
run-followed zero k c uses more = refl
run-followed (suc i) k c uses more =
    let U : ℕ → Type 0 = λ n. UsesUp n c in
    let uses_suc : UsesUp (suc (i + k)) c = subst U (suc-add i k) uses in
    let found : asks_input c.state ≡ true → c.answers ≢ [] = λ asking none. uses_one (i + k) c uses_suc asking none in
    let onward : UsesUp (i + k) (next_scene c) = λ others. ap (λ (z : Scene). (run (i + k) z).answers) (sym (next_scene-followed others c found)) ∙ uses_suc others in
    ap (λ (z : Scene). run i z) (next_scene-followed more c found) ∙ run-followed i k (next_scene c) onward more
