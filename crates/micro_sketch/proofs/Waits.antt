-- Waits for the memory.
use Rattle.std.proofs.Common.{◌^◌, ◌≡◌, ℕ, suc, zero, pred, ◌+◌, ◌-◌, ◌%◌, ◌<◌, ◌≤◌, ◌&&◌, Bool, true, false, [], ◌∷◌, ◌++◌, get_or, nat_lt, if◌then◌else◌, refl, sym, ap, ◌∙◌, subst, arith, Some, lt-ltb}
use Rattle.std.proofs.lemmas.Bool.{and_parts}
use Rattle.microcode.specs.declared.isa.Body.TheVariants.{Plain}
use Rattle.microcode.specs.declared.isa.Micro.{Micro}
use Rattle.microcode.specs.Isa.Operations.{operation_of}
use Rattle.microcode.specs.Isa.Words.{micro_of}
use Rattle.microcode.specs.declared.isa.operation.Operation.TheVariants.{Wait}
use Rattle.jop_core.specs.Operations.{operated}
use Rattle.jop_core.specs.Cycle.{performed, with_nxt, with_opd, waits, is_wait, at_boundary, body_asks, is_ldin, puts, is_stout}
use Rattle.jop_core.specs.Scene.{Scene, next_scene, run, given, left_over}
use Rattle.micro_flow.specs.Walk.{Waits, kind_of, Walker, onward, timed, stops}
use Rattle.micro_sketch.specs.Sketch.{Sketch, aplain, lead, opd_byte, off_entry, off_raise}
use Rattle.micro_sketch.specs.Stands.{Env, Shaped, Goes, Reaches, Tells, PortFits, conc, scene, tick}
use Rattle.microcode.specs.declared.TheConstants.{WORDS}
use Rattle.micro_sketch.proofs.Boundaries.{around, flags_end, flags_fine, flags_keep, flags_same, flags_shape, quiet_here}
use Rattle.micro_sketch.proofs.Cycles.{lead_runs, next_is, onward_clock, opd_halt, opd_left, opd_mpc, scene_runs, stalls_same, step_at}

-- a wait at a port that isn't ready
pub scene_waits : (n : ℕ) (x : Sketch) (e : Env) (code : ℕ) (opd nxt : Bool) → let m : Micro = record { body = Plain code; opd = opd; nxt = nxt } in
    micro_of (get_or WORDS x.mpc 0) ≡ Some m → operation_of code ≡ Wait → waits m (conc n x (tick e)) ≡ true → next_scene (scene n x e) ≡ scene n x (tick e)
scene_waits n x e code opd nxt d is w =
    let m : Micro = record { body = Plain code; opd = opd; nxt = nxt } in
    next_is n x e m d
    ∙ ap (λ b. record { state = if b then conc n x (tick e) else performed (given (body_asks m.body) x.answers) m (conc n x (tick e)); answers = left_over (body_asks m.body) x.answers; output = puts (Some m) x.top ++ x.output }) w
    ∙ ap (λ o. record { state = conc n x (tick e); answers = left_over (is_ldin o) x.answers; output = (if is_stout o then x.top % 2 ^ 8 ∷ [] else []) ++ x.output }) is

-- a wait for the port
pub record Waited (n : ℕ) (x : Sketch) (e : Env) (c : Env → Scene) : Type 0 where
  pub cycles : ℕ
  pub env : Env
  pub same : run cycles (scene n x e) ≡ c env
  pub clock : env.clock ≡ e.clock + cycles
  pub read : env.read ≡ e.read
  pub write : env.write ≡ e.write
  pub port : env.port ≡ 0
  pub exactly : cycles ≡ suc (pred e.port)
  pub positive : 0 < cycles
  pub quiet : at_boundary (conc n x e) ≡ false → (i : ℕ) → suc i < cycles → at_boundary (run (suc i) (scene n x e)).state ≡ false

pub wait_here : (n : ℕ) (x : Sketch) (e : Env) (c : Env → Scene) → e.port ≤ 1 → next_scene (scene n x e) ≡ c (tick e) → Waited n x e c
wait_here n x e c p q = record { cycles = 1; positive = omega arith; env = tick e; same = q; clock = refl; read = refl; port = omega arith; exactly = omega arith; write = refl; quiet = λ b i h. absurd (omega arith) }

-- quiet from the next scene on, and the next is no boundary
pub still : (k : ℕ) (c t : Scene) → next_scene c ≡ t → at_boundary t.state ≡ false → ((i : ℕ) → suc i < k → at_boundary (run (suc i) t).state ≡ false) → (i : ℕ) → suc i < suc k → at_boundary (run (suc i) c).state ≡ false
still k c t q b r zero h = ap (λ (z : Scene). at_boundary z.state) q ∙ b
still k c t q b r (suc i) h = ap (λ (z : Scene). at_boundary (run (suc i) z).state) q ∙ r i (omega arith)

-- the scene after the wait
abbrev pub waited_scene : ℕ → Sketch → (opd nxt : Bool) → Env → Scene
waited_scene n x opd nxt e = around (with_nxt nxt (with_opd opd (conc n x e))) x.answers x.output

pub wait_ends : (n : ℕ) (x : Sketch) (e : Env) (code : ℕ) (opd nxt : Bool) → let m : Micro = record { body = Plain code; opd = opd; nxt = nxt } in
    micro_of (get_or WORDS x.mpc 0) ≡ Some m → operation_of code ≡ Wait → e.port - 1 ≡ 0 → next_scene (scene n x e) ≡ waited_scene n x opd nxt (tick e)
wait_ends n x e code opd nxt d w z =
    let m : Micro = record { body = Plain code; opd = opd; nxt = nxt } in
    scene_runs n x e m d (ap (λ o. is_wait o && nat_lt 0 (e.port - 1)) w ∙ ap (λ k. nat_lt 0 k) z)
    ∙ ap (λ o. around (with_nxt nxt (with_opd opd (operated (given (is_ldin o) x.answers) o (conc n x (tick e))))) (left_over (is_ldin o) x.answers) ((if is_stout o then x.top % 2 ^ 8 ∷ [] else []) ++ x.output)) w

pub wait_loop : (p : ℕ) (n : ℕ) (x : Sketch) (e : Env) (code : ℕ) (opd nxt : Bool) → e.port ≡ p → micro_of (get_or WORDS x.mpc 0) ≡ Some (record { body = Plain code; opd = opd; nxt = nxt }) → operation_of code ≡ Wait →
    Waited n x e (waited_scene n x opd nxt)
wait_loop zero n x e code opd nxt q d w = wait_here n x e (waited_scene n x opd nxt) (omega arith) (wait_ends n x e code opd nxt d w (omega arith))
wait_loop (suc zero) n x e code opd nxt q d w = wait_here n x e (waited_scene n x opd nxt) (omega arith) (wait_ends n x e code opd nxt d w (omega arith))
wait_loop (suc (suc p)) n x e code opd nxt q d w =
    let z : e.port - 1 ≡ suc p = omega arith in
    let r = wait_loop (suc p) n x (tick e) code opd nxt z d w in
    let positive : 0 < suc p = omega arith in
    let rc = r.clock in
    let rf : r.cycles ≡ suc p = omega (arith, r.exactly, ap (λ k. pred k) z) in
    let one = scene_waits n x e code opd nxt d w (ap (λ o. is_wait o && nat_lt 0 (e.port - 1)) w ∙ ap (λ k. nat_lt 0 k) z ∙ lt-ltb 0 (suc p) positive) in
    record {
      cycles = suc r.cycles;
      positive = omega arith;
      env = r.env;
      same = ap (λ (c : Scene). run r.cycles c) one ∙ r.same;
      clock = omega arith;
      read = r.read;
      port = r.port;
      exactly = let g : suc r.cycles ≡ suc (suc p) = omega arith in subst (λ k. suc r.cycles ≡ suc (pred k)) (sym q) g;
      write = r.write;
      quiet = λ b. still r.cycles (scene n x e) (scene n x (tick e)) one b (r.quiet b);
    }

pub wait_step : (n : ℕ) (x : Sketch) (e : Env) (code : ℕ) (opd nxt : Bool) → Goes x → Shaped n x → PortFits x.busy e →
    micro_of (get_or WORDS x.mpc 0) ≡ Some (record { body = Plain code; opd = opd; nxt = nxt }) → operation_of code ≡ Wait →
    (lead nxt (opd_byte opd (aplain Wait false x))).fine ≡ true → Reaches n x (lead nxt (opd_byte opd (aplain Wait false x))) e
wait_step n x e code opd nxt nd h p d w f =
    let m : Micro = record { body = Plain code; opd = opd; nxt = nxt } in
    let y = aplain Wait false x in
    let z = lead nxt (opd_byte opd y) in
    let k = flags_keep opd nxt y in
    let r = wait_loop e.port n x e code opd nxt refl d w in
    record {
      cycles = r.cycles;
      positive = r.positive;
      env = r.env;
      same = r.same ∙ flags_same opd nxt n y r.env;
      clock = r.clock;
      read = r.read;
      write = r.write;
      port = subst (λ b. PortFits b r.env) (sym k.busy) r.port;
      shape = flags_shape opd nxt n y (record { low = h.low; total = h.total });
      was = (and_parts (off_entry x && off_raise x) x.fine (flags_fine opd nxt y f)).1;
      quiet = r.quiet (quiet_here n x e nd.running ((and_parts (off_entry x && off_raise x) x.fine (flags_fine opd nxt y f)).0));
      ending = flags_end opd nxt n y r.env f;
      way = λ q qr qw v tells.
          let u = timed Waits q v in
          let path = step_at q false x e v m tells nd.not_done d ∙ ap (λ o. onward (stops (kind_of o) false nxt) (timed (kind_of o) q v)) w in
          let told = lead_runs nxt (opd_byte opd y) r.env u (opd_halt opd y ∙ nd.running) (tells.at nd.not_done ∙ sym (opd_mpc opd y)) (tells.left ∙ sym (opd_left opd y)) (sym r.port) tells.fine in
          let st = stalls_same x z q.r k.loads k.words in
          let ck = ap (λ (a : Walker). a.clock) path ∙ onward_clock nxt u in
          let ex = r.exactly ∙ ap (λ i. suc (pred i)) (sym tells.port) in
          record { choices = false ∷ []; tells = subst (λ a. Tells z r.env a) (sym path) told; clock = omega arith };
    }
