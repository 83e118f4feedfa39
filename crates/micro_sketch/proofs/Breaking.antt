-- Where a call on the device failed: what came before, where the run is silent or comes to a boundary at once.
use Rattle.std.proofs.Common.{◌≡◌, ℕ, ◌+◌, ◌-◌, ◌<◌, ◌≤◌, true, List, [], ◌∷◌, ◌++◌, length, reverse, refl, sym, ◌∙◌, ap, subst, arith, append-nil, length-append}
use Rattle.std.specs.declared.option.Option.{Option}
use Rattle.std.proofs.lemmas.List.{length-reverse}
use Rattle.jop_core.specs.State.{MachineState}
use Rattle.jop_core.specs.Cycle.{at_boundary, asks_input, cycle_of}
use Rattle.jop_core.specs.Scene.{Scene, begun, given, run, output_during}
use Rattle.micro_sketch.specs.Sketch.{Sketch}
use Rattle.micro_sketch.specs.Stands.{Env, conc, scene}
use Rattle.micro_sketch.specs.Rows.{Silent, expecting}
use Rattle.micro_sketch.specs.RowLaws.{SilentBreak, BreaksAtOnce}
use Rattle.micro_sketch.proofs.Scenes.{run-add, run-length}
use Rattle.micro_sketch.proofs.During.{output-reversed, output_during-add}
use Rattle.micro_sketch.proofs.FirstBoundaries.{ComesAfter, Leads-comes}
use Rattle.micro_sketch.proofs.Rowing.{leads, broke_before}

pub empty : {A : Type 0} (xs : List A) → length xs ≤ 0 → xs ≡ []
empty [] none = refl
empty (x ∷ xs) none = absurd (omega (arith, none))

-- the whole run would take none of these answers and put nothing out
record Whole (cycles : ℕ) (s : MachineState) (answers : List (Option ℕ)) : Type 0 where
  comes : ComesAfter cycles s answers
  kept : (run cycles (begun s answers)).answers ≡ answers
  silent : (run cycles (begun s answers)).output ≡ []

whole : (n : ℕ) (x : Sketch) (e : Env) (s : MachineState) → s ≡ conc n x e → x.output ≡ [] → (answers : List (Option ℕ)) → (r : Silent n (expecting answers x) e) → Whole r.reaches.cycles s answers
whole n x e s same none answers r =
    let k : ℕ = r.reaches.cycles in
    let P : MachineState → Type 0 = λ z. Whole k z answers in
    let Q : List ℕ → Type 0 = λ z. ((run k (record { state = conc n x e; answers = answers; output = z })).answers ≡ answers) × ((run k (record { state = conc n x e; answers = answers; output = z })).output ≡ z) in
    let there = subst Q none (ap (λ (z : Scene). z.answers) r.reaches.same ∙ r.answers, ap (λ (z : Scene). z.output) r.reaches.same ∙ r.output) in
    subst P (sym same) (record {
      comes = Leads-comes k (scene n (expecting answers x) e) (scene n r.after r.reaches.env) (leads n (expecting answers x) r.after e r.reaches r.done);
      kept = there.0;
      silent = there.1;
    })

-- none of its first cycles takes an answer or puts out a byte
no_answer : (m k : ℕ) (c : Scene) → m ≤ k → (run m c).answers ≡ [] → (run k c).answers ≡ c.answers → c.answers ≡ []
no_answer m k c early left kept =
    let split : k ≡ m + (k - m) = omega (arith, early) in
    let rest : run k c ≡ run (k - m) (run m c) = ap (λ j. run j c) split ∙ run-add m (k - m) c in
    empty c.answers (omega (arith, run-length (k - m) (run m c), ap (λ (z : Scene). length z.answers) rest, ap (λ (z : List (Option ℕ)). length z) left, ap (λ (z : List (Option ℕ)). length z) kept))

no_byte : (m k : ℕ) (c : Scene) → m ≤ k → (run k c).output ≡ [] → output_during m c ≡ []
no_byte m k c early silent =
    let split : k ≡ m + (k - m) = omega (arith, early) in
    let all : reverse (output_during k c) ++ c.output ≡ [] = sym (output-reversed k c) ∙ silent in
    let parts : output_during k c ≡ output_during m c ++ output_during (k - m) (run m c) = ap (λ j. output_during j c) split ∙ output_during-add m (k - m) c in
    empty (output_during m c) (omega (
      arith,
      ap (λ (z : List ℕ). length z) all,
      length-append (reverse (output_during k c)) c.output,
      length-reverse (output_during k c),
      ap (λ (z : List ℕ). length z) parts,
      length-append (output_during m c) (output_during (k - m) (run m c)),
    ))

pub breaks_silently : SilentBreak
breaks_silently n x e old new t0 t1 fault same none silent b =
    let all : List (Option ℕ) = b.answers ++ [] in
    let r = silent all in
    let w = whole n x e old same none all r in
    let early : b.cycles < r.reaches.cycles = broke_before r.reaches.cycles b.cycles old new t0 b.before b.answers [] b.ran b.quiet w.comes in
    record {
      taken = sym (append-nil b.answers) ∙ no_answer b.cycles r.reaches.cycles (begun old all) (omega (arith, early)) (b.ran.left []) w.kept;
      put = ap (λ (z : List (Option ℕ)). output_during b.cycles (begun old z)) (sym (append-nil b.answers)) ∙ no_byte b.cycles r.reaches.cycles (begun old all) (omega (arith, early)) w.silent;
    }

comes_at_once : (s : MachineState) (answers : List (Option ℕ)) → ((input : Option ℕ) → at_boundary (cycle_of input s) ≡ true) → ComesAfter 1 s answers
comes_at_once s answers once = record { positive = omega arith; holds = once (given (asks_input s) answers); before = λ i below. absurd (omega (arith, below)) }

no_output : (c : Scene) → output_during 0 c ≡ []
unfolding output_during
no_output c = refl

pub breaks_at_once : BreaksAtOnce
breaks_at_once old new t0 t1 fault once broke =
    let all : List (Option ℕ) = broke.answers ++ [] in
    let before = broke_before 1 broke.cycles old new t0 broke.before broke.answers [] broke.ran broke.quiet (comes_at_once old all once) in
    let none : broke.cycles ≡ 0 = omega (arith, before) in (
      sym (broke.ran.state []) ∙ ap (λ (k : ℕ). (run k (begun old all)).state) none,
      record {
        taken = sym (append-nil broke.answers) ∙ ap (λ (k : ℕ). (run k (begun old all)).answers) (sym none) ∙ broke.ran.left [];
        put = ap (λ (k : ℕ). output_during k (begun old broke.answers)) none ∙ no_output (begun old broke.answers);
      },
    )
