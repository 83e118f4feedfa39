-- Runs put together.
use Rattle.std.proofs.Common.{◌≡◌, ℕ, suc, zero, ◌+◌, ◌<◌, Bool, true, false, List, [], ◌∷◌, ◌++◌, get_or, if◌then◌else◌, refl, sym, ap, ◌∙◌, subst, arith, zero-add}
use Rattle.std.proofs.lemmas.Bool.{and_parts}
use Rattle.microcode.specs.Isa.Words.{micro_of}
use Rattle.jop_core.specs.Cycle.{at_boundary, is_running}
use Rattle.jop_core.specs.declared.halt.Halt.{Halt}
use Rattle.jop_core.specs.declared.halt.Halt.TheVariants.{Running, Ended, Uncaught}
use Rattle.jop_core.specs.Scene.{Scene, next_scene, run}
use Rattle.micro_flow.specs.declared.CostParams.{CostParams}
use Rattle.micro_flow.specs.Walk.{Walker, walk}
use Rattle.micro_sketch.specs.Sketch.{Sketch, astep, exec, is_guessed, first_or, rest_if, goes, going}
use Rattle.micro_sketch.specs.Laws.{RunsFor}
use Rattle.micro_sketch.specs.Stands.{Env, Shaped, Goes, Reaches, Tells, Walked, PortFits, scene}
use Rattle.microcode.specs.declared.TheConstants.{WORDS}
use Rattle.micro_sketch.proofs.Counts.{was_exec, was_step}
use Rattle.micro_sketch.proofs.Boundaries.{off_is}
use Rattle.micro_sketch.proofs.Words.{step_sim}

-- runs put together
pub run-add : (j k : ℕ) (s : Scene) → run (j + k) s ≡ run k (run j s)
run-add zero k s = ap (λ i. run i s) (zero-add k)
run-add (suc j) k s = ap (λ i. run i s) (let q : suc j + k ≡ suc (j + k) = omega arith in q) ∙ run-add j k (next_scene s)

pub join : (j k : ℕ) (s t : Scene) → run j s ≡ t → ((i : ℕ) → suc i < j → at_boundary (run (suc i) s).state ≡ false) → (0 < k → at_boundary t.state ≡ false) → ((i : ℕ) → suc i < k → at_boundary (run (suc i) t).state ≡ false) →
    (i : ℕ) → suc i < j + k → at_boundary (run (suc i) s).state ≡ false
join zero k s t r q b p i h = ap (λ (z : Scene). at_boundary (run (suc i) z).state) r ∙ p i (omega arith)
join (suc zero) k s t r q b p zero h = ap (λ (z : Scene). at_boundary z.state) r ∙ b (omega arith)
join (suc zero) k s t r q b p (suc i) h = ap (λ (z : Scene). at_boundary (run (suc i) z).state) r ∙ p i (omega arith)
join (suc (suc j)) k s t r q b p zero h = q zero (omega arith)
join (suc (suc j)) k s t r q b p (suc i) h = join (suc j) k (next_scene s) t r (λ l m. q (suc l) (omega arith)) b p i (omega arith)

pub walk-append : (p : CostParams) (gs hs : List Bool) (s : Walker) → walk p (gs ++ hs) s ≡ walk p hs (walk p gs s)
walk-append p [] hs s = refl
walk-append p (g ∷ gs) hs s = walk-append p gs hs _

pub walked_trans : (p : CostParams) (x y z : Sketch) (e e' : Env) (j k : ℕ) (s : Walker) → (a : Walked p x y e j s) → Walked p y z e' k (walk p a.choices s) → Walked p x z e' (j + k) s
walked_trans p x y z e e' j k s a b =
    let path = walk-append p a.choices b.choices s in
    let ac = a.clock in let bc = b.clock in
    let ck = ap (λ (w : Walker). w.clock) path in
    record { choices = a.choices ++ b.choices; tells = subst (λ w. Tells z e' w) (sym path) b.tells; clock = omega arith }

pub runs_on : (n : ℕ) (x y z : Sketch) (e : Env) (a : Reaches n x y e) (b : Reaches n y z a.env) → y.done ≡ false → RunsFor n x z e (a.cycles + b.cycles) b.env
runs_on n x y z e a b g =
    let ak = a.clock in let bk = b.clock in
    let all : Reaches n x z e = record {
      cycles = a.cycles + b.cycles;
      positive = let ap' = a.positive in omega arith;
      env = b.env;
      same = run-add a.cycles b.cycles (scene n x e) ∙ ap (λ (s : Scene). run b.cycles s) a.same ∙ b.same;
      clock = omega arith;
      read = b.read ∙ a.read;
      write = b.write ∙ a.write;
      port = b.port;
      shape = b.shape;
      was = a.was;
      quiet = join a.cycles b.cycles (scene n x e) (scene n y a.env) a.same a.quiet (λ l. a.ending ∙ g) b.quiet;
      ending = b.ending;
      way = λ p r w s t. let f = a.way p r w s t in walked_trans p x y z a.env b.env a.cycles b.cycles s f (b.way p (r ∙ sym a.read) (w ∙ sym a.write) (walk p f.choices s) f.tells);
    } in
    record { reaches = all; takes = refl; leaves = refl }

pub reaches_trans : (n : ℕ) (x y z : Sketch) (e : Env) (a : Reaches n x y e) (b : Reaches n y z a.env) → y.done ≡ false → Reaches n x z e
reaches_trans n x y z e a b g = (runs_on n x y z e a b g).reaches

pub going_same : (n : ℕ) (x z : Sketch) (e : Env) → Reaches n (going x) z e → Reaches n x z e
going_same n x z e r = record {
  cycles = r.cycles;
  positive = r.positive;
  env = r.env;
  same = r.same;
  clock = r.clock;
  read = r.read;
  write = r.write;
  port = r.port;
  shape = r.shape;
  was = (and_parts (goes x) x.fine r.was).1;
  quiet = r.quiet;
  ending = r.ending;
  way = λ p q w s t. let f = r.way p q w s (record { at = t.at; port = t.port; left = t.left; over = t.over; fine = t.fine }) in record { choices = f.choices; tells = f.tells; clock = f.clock };
}

pub going_fine : (k : ℕ) (gs : List Bool) (x : Sketch) → (exec (suc k) gs x).fine ≡ true → (astep (micro_of (get_or WORDS x.mpc 0)) (first_or gs) (going x)).fine ≡ true
going_fine k gs x f =
    let o = micro_of (get_or WORDS x.mpc 0) in
    was_exec k (rest_if (is_guessed o) gs) (astep o (first_or gs) (going x)) f

pub running_is : (halt : Halt) → is_running halt ≡ true → halt ≡ Running
running_is Running f = refl
running_is Ended f = cc
running_is Uncaught f = cc

pub is_going : (k : ℕ) (gs : List Bool) (x : Sketch) → (exec (suc k) gs x).fine ≡ true → Goes x
is_going k gs x f =
    let o = micro_of (get_or WORDS x.mpc 0) in
    let ahead = if x.done then false else true in
    let g = (and_parts (goes x) x.fine (was_step o (first_or gs) (going x) (going_fine k gs x f))).0 in
    record { not_done = off_is x.done ((and_parts ahead (is_running x.halt) g).0); running = running_is x.halt ((and_parts ahead (is_running x.halt) g).1) }

pub first_sim : (k : ℕ) (gs : List Bool) (n : ℕ) (x : Sketch) (e : Env) → Shaped n x → PortFits x.busy e → (exec (suc k) gs x).fine ≡ true →
    Reaches n x (astep (micro_of (get_or WORDS x.mpc 0)) (first_or gs) (going x)) e
first_sim k gs n x e h p f =
    let o = micro_of (get_or WORDS x.mpc 0) in
    let g = is_going k gs x f in
    going_same n x (astep o (first_or gs) (going x)) e
    (step_sim o (first_or gs) n (going x) e (record { not_done = g.not_done; running = g.running }) (record { low = h.low; total = h.total }) p refl (going_fine k gs x f))

-- What the sketch comes to in some steps, the machine comes to.
pub exec_sim : (k : ℕ) (gs : List Bool) (n : ℕ) (x : Sketch) (e : Env) → Shaped n x → PortFits x.busy e → (exec (suc k) gs x).fine ≡ true → Reaches n x (exec (suc k) gs x) e
exec_sim zero gs n x e h p f = first_sim zero gs n x e h p f
exec_sim (suc k) gs n x e h p f =
    let o = micro_of (get_or WORDS x.mpc 0) in
    let y = astep o (first_or gs) (going x) in
    let hs = rest_if (is_guessed o) gs in
    let a = first_sim (suc k) gs n x e h p f in
    reaches_trans n x y (exec (suc k) hs y) e a (exec_sim k hs n y a.env a.shape a.port f) (is_going k hs y f).not_done
