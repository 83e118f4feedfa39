-- A microinstruction of one cycle, as the machine and a walk see it.
use Rattle.std.proofs.Common.{◌≡◌, ℕ, ◌+◌, ◌%◌, ◌&&◌, ◌||◌, ◌==◌, Bool, true, false, List, [], ◌∷◌, ◌++◌, get_or, if◌then◌else◌, refl, sym, ap, ◌∙◌, subst, arith, Option, Some}
use Rattle.microcode.specs.declared.isa.Micro.{Micro}
use Rattle.microcode.specs.Isa.Words.{micro_of}
use Rattle.jop_core.specs.State.{MachineState}
use Rattle.jop_core.specs.Cycle.{cycle_of, performed, with_nxt, with_opd, waits, ran, is_running, output_of, asks_input, asks, body_asks, puts}
use Rattle.jop_core.specs.declared.halt.Halt.{Halt}
use Rattle.jop_core.specs.declared.halt.Halt.TheVariants.{Running, Ended, Uncaught}
use Rattle.jop_core.specs.Scene.{Scene, next_scene, given, left_over}
use Rattle.micro_flow.specs.declared.CostParams.{CostParams}
use Rattle.micro_flow.specs.Walk.{Walker, onward, step, walk}
use Rattle.micro_flow.specs.Walk as f
use Rattle.micro_sketch.specs.Sketch.{Sketch, lead, opd_byte}
use Rattle.micro_sketch.specs.Stands.{Env, Does, Goes, Reaches, Tells, PortFits, conc, scene, tick, stalls, stalls_for}
use Rattle.microcode.specs.declared.TheConstants.{WORDS, RAISE}
use Rattle.micro_sketch.proofs.Boundaries.{around, flags_end, flags_keep, flags_same, flags_shape}

pub ticked_port : (b : Bool) (e : Env) → PortFits b e → PortFits b (tick e)
ticked_port true e h = tt
ticked_port false e h = omega arith

-- one cycle of a machine that hasn't halted
pub cycle_runs : (n : ℕ) (x : Sketch) (e : Env) (m : Micro) (input : Option ℕ) → micro_of (get_or WORDS x.mpc 0) ≡ Some m → cycle_of input (conc n x e) ≡ ran input (Some m) (conc n x (tick e))
unfolding cycle_of
cycle_runs n x e m input d = ap (λ (o : Option Micro). ran input o (conc n x (tick e))) d

-- the scene after a cycle that runs its word
abbrev pub ran_scene : ℕ → Sketch → Env → Micro → Scene
ran_scene n x e m = record {
  state = performed (given (body_asks m.body) x.answers) m (conc n x (tick e));
  answers = left_over (body_asks m.body) x.answers;
  output = puts (Some m) x.top ++ x.output;
}

asked_is : (n : ℕ) (x : Sketch) (e : Env) (m : Micro) → micro_of (get_or WORDS x.mpc 0) ≡ Some m → asks_input (conc n x e) ≡ body_asks m.body
unfolding asks_input
asked_is n x e m d = ap (λ (o : Option Micro). asks o) d

put_is : (n : ℕ) (x : Sketch) (e : Env) (m : Micro) → micro_of (get_or WORDS x.mpc 0) ≡ Some m → output_of (conc n x e) ≡ puts (Some m) x.top
unfolding output_of
put_is n x e m d = ap (λ (o : Option Micro). puts o x.top) d

pub next_is : (n : ℕ) (x : Sketch) (e : Env) (m : Micro) → micro_of (get_or WORDS x.mpc 0) ≡ Some m →
    next_scene (scene n x e) ≡ record {
      state = ran (given (body_asks m.body) x.answers) (Some m) (conc n x (tick e));
      answers = left_over (body_asks m.body) x.answers;
      output = puts (Some m) x.top ++ x.output;
    }
next_is n x e m d =
    let asked = asked_is n x e m d in
    let put = put_is n x e m d in
    ap (λ b. record { state = cycle_of (given b x.answers) (conc n x e); answers = left_over b x.answers; output = output_of (conc n x e) ++ x.output }) asked
    ∙ ap (λ (s : MachineState). record { state = s; answers = left_over (body_asks m.body) x.answers; output = output_of (conc n x e) ++ x.output }) (cycle_runs n x e m (given (body_asks m.body) x.answers) d)
    ∙ ap (λ (o : List ℕ). record { state = ran (given (body_asks m.body) x.answers) (Some m) (conc n x (tick e)); answers = left_over (body_asks m.body) x.answers; output = o ++ x.output }) put

pub scene_runs : (n : ℕ) (x : Sketch) (e : Env) (m : Micro) → micro_of (get_or WORDS x.mpc 0) ≡ Some m → waits m (conc n x (tick e)) ≡ false → next_scene (scene n x e) ≡ ran_scene n x e m
scene_runs n x e m d w =
    next_is n x e m d
    ∙ ap (λ b. record { state = if b then conc n x (tick e) else performed (given (body_asks m.body) x.answers) m (conc n x (tick e)); answers = left_over (body_asks m.body) x.answers; output = puts (Some m) x.top ++ x.output }) w

pub stalls_same : (x y : Sketch) (r : ℕ) → y.loads ≡ x.loads → y.words ≡ x.words → stalls y r ≡ stalls x r
stalls_same x y r l w = ap (λ k. stalls_for k y.words r) l ∙ ap (λ k. stalls_for x.loads k r) w

-- a walk that has come to x runs the word there
pub step_at : (p : CostParams) (g : Bool) (x : Sketch) (e : Env) (s : Walker) (m : Micro) → Tells x e s → x.done ≡ false → micro_of (get_or WORDS x.mpc 0) ≡ Some m → walk p (g ∷ []) s ≡ step (Some m) g p s
step_at p g x e s m t d q =
    ap (λ k. step (micro_of (get_or WORDS k 0)) g p (f.going s)) (t.at d) ∙ ap (λ o. step o g p (f.going s)) q
    ∙ ap (λ z. step (Some m) g p z) (ap (λ b. record s { fine = b }) (ap (λ b. (if b then false else true) && s.fine) (t.over ∙ d)))

-- a word of one cycle, as the walk sees it
pub record Timed (p : CostParams) (m : Micro) (choice over : Bool) (s : Walker) (e : Env) : Type 0 where
  pub next : Walker
  pub is : step (Some m) choice p s ≡ onward (over || m.nxt) next
  pub at : next.at ≡ s.at
  pub left : next.left ≡ s.left
  pub clock : next.clock ≡ s.clock + 1
  pub port : next.port ≡ e.port
  pub fine : next.fine ≡ s.fine

-- whether a machine has halted
abbrev pub ended : Halt → Bool
ended halt = if is_running halt then false else true

pub lead_tells_on : (halt : Halt) (nxt : Bool) (y : Sketch) (e : Env) (u : Walker) → u.at ≡ y.mpc → u.left ≡ y.left → u.port ≡ e.port → u.fine ≡ true → Tells (lead nxt (record y { halt = halt })) e (onward (ended halt || nxt) u)
lead_tells_on Running true y e u a l p f = record { at = λ d. cc; port = p; left = l; over = refl; fine = f }
lead_tells_on Running false y e u a l p f = record { at = λ d. ap (λ k. (k + 1) % 2048) a; port = p; left = l; over = ap (λ k. (k + 1) % 2048 == RAISE) a; fine = f }
lead_tells_on Ended true y e u a l p f = record { at = λ d. cc; port = p; left = l; over = refl; fine = f }
lead_tells_on Ended false y e u a l p f = record { at = λ d. cc; port = p; left = l; over = refl; fine = f }
lead_tells_on Uncaught true y e u a l p f = record { at = λ d. cc; port = p; left = l; over = refl; fine = f }
lead_tells_on Uncaught false y e u a l p f = record { at = λ d. cc; port = p; left = l; over = refl; fine = f }

pub lead_tells : (nxt : Bool) (y : Sketch) (e : Env) (u : Walker) → u.at ≡ y.mpc → u.left ≡ y.left → u.port ≡ e.port → u.fine ≡ true → Tells (lead nxt y) e (onward (ended y.halt || nxt) u)
lead_tells nxt y e u a l p f = lead_tells_on y.halt nxt y e u a l p f

-- where it hasn't halted
pub lead_runs : (nxt : Bool) (y : Sketch) (e : Env) (u : Walker) → y.halt ≡ Running → u.at ≡ y.mpc → u.left ≡ y.left → u.port ≡ e.port → u.fine ≡ true → Tells (lead nxt y) e (onward nxt u)
lead_runs nxt y e u r a l p f = subst (λ h. Tells (lead nxt y) e (onward (ended h || nxt) u)) r (lead_tells nxt y e u a l p f)

pub opd_mpc : (opd : Bool) (y : Sketch) → (opd_byte opd y).mpc ≡ y.mpc
opd_mpc true y = refl
opd_mpc false y = refl

pub opd_left : (opd : Bool) (y : Sketch) → (opd_byte opd y).left ≡ y.left
opd_left true y = refl
opd_left false y = refl

pub opd_halt : (opd : Bool) (y : Sketch) → (opd_byte opd y).halt ≡ y.halt
opd_halt true y = refl
opd_halt false y = refl

pub onward_clock : (b : Bool) (u : Walker) → (onward b u).clock ≡ u.clock
onward_clock true u = refl
onward_clock false u = refl

-- what the effect of a microinstruction leaves, and what it takes in and puts out
pub record Moves (m : Micro) (x y : Sketch) : Type 0 where
  pub left : y.left ≡ x.left
  pub loads : y.loads ≡ x.loads
  pub words : y.words ≡ x.words
  pub mpc : y.mpc ≡ x.mpc
  pub answers : y.answers ≡ left_over (body_asks m.body) x.answers
  pub output : y.output ≡ puts (Some m) x.top ++ x.output

-- how an effect and the flags make a step of one cycle
pub one_cycle : (n : ℕ) (x y : Sketch) (e e' : Env) (m : Micro) (choice : Bool) (s : MachineState) → Goes x → micro_of (get_or WORDS x.mpc 0) ≡ Some m → waits m (conc n x (tick e)) ≡ false →
    performed (given (body_asks m.body) x.answers) m (conc n x (tick e)) ≡ with_nxt m.nxt (with_opd m.opd s) → Does n x y e' s → e'.clock ≡ e.clock + 1 → e'.read ≡ e.read → e'.write ≡ e.write → PortFits y.busy e' →
    Moves m x y → ((p : CostParams) → p.r ≡ e.read → p.w ≡ e.write → (s : Walker) → s.port ≡ e.port → Timed p m choice (ended y.halt) s e') →
    (lead m.nxt (opd_byte m.opd y)).fine ≡ true → Reaches n x (lead m.nxt (opd_byte m.opd y)) e
one_cycle n x y e e' m choice s nd d w p g c r wr f mv t fine =
    let k = flags_keep m.opd m.nxt y in
    let z = lead m.nxt (opd_byte m.opd y) in
    record {
      cycles = 1;
      positive = omega arith;
      env = e';
      same = scene_runs n x e m d w
          ∙ ap (λ (t : MachineState). around t (left_over (body_asks m.body) x.answers) (puts (Some m) x.top ++ x.output)) (p ∙ ap (λ (z : MachineState). with_nxt m.nxt (with_opd m.opd z)) g.same)
          ∙ ap (λ (i : List (Option ℕ)). around (with_nxt m.nxt (with_opd m.opd (conc n y e'))) i (puts (Some m) x.top ++ x.output)) (sym mv.answers)
          ∙ ap (λ (o : List ℕ). around (with_nxt m.nxt (with_opd m.opd (conc n y e'))) y.answers o) (sym mv.output)
          ∙ flags_same m.opd m.nxt n y e';
      clock = c;
      read = r;
      write = wr;
      port = subst (λ b. PortFits b e') (sym k.busy) f;
      shape = flags_shape m.opd m.nxt n y g.shape;
      was = g.was;
      quiet = λ i h. absurd (omega arith);
      ending = flags_end m.opd m.nxt n y e' fine;
      way = λ q qr qw v tells.
          let u = t q qr qw v tells.port in
          let path = step_at q choice x e v m tells nd.not_done d ∙ u.is ∙ ap (λ h. onward (ended h || m.nxt) u.next) (sym (opd_halt m.opd y)) in
          let told = lead_tells m.nxt (opd_byte m.opd y) e' u.next (u.at ∙ tells.at nd.not_done ∙ sym mv.mpc ∙ sym (opd_mpc m.opd y)) (u.left ∙ tells.left ∙ sym mv.left ∙ sym (opd_left m.opd y)) u.port (u.fine ∙ tells.fine) in
          let st = stalls_same x z q.r (k.loads ∙ mv.loads) (k.words ∙ mv.words) in
          let ck = ap (λ (a : Walker). a.clock) path ∙ onward_clock (ended (opd_byte m.opd y).halt || m.nxt) u.next ∙ u.clock in
          record { choices = choice ∷ []; tells = subst (λ a. Tells z e' a) (sym path) told; clock = omega arith };
    }
