-- Cycles in which a machine stalls.
use Rattle.std.proofs.Common.{◌≡◌, ℕ, suc, zero, ◌+◌, ◌-◌, ◌<◌, ◌&&◌, ◌||◌, ◌==◌, Bool, true, false, List, [], ◌++◌, nat_lt, if◌then◌else◌, refl, ap, ◌∙◌, arith, None, lt-ltb, eqb-true}
use Rattle.jop_core.specs.State.{MachineState}
use Rattle.jop_core.specs.Cycle.{cycle_of, counted, at_boundary, is_running, entry_of, asks_input, output_of}
use Rattle.jop_core.specs.declared.halt.Halt.TheVariants.{Running}
use Rattle.jop_core.specs.Scene.{Scene, next_scene, run, given, left_over}
use Rattle.micro_sketch.specs.Sketch.{Sketch}
use Rattle.micro_sketch.specs.Stands.{Env, conc, scene, tick}
use Rattle.microcode.specs.declared.TheConstants.{RAISE}
use Rattle.micro_sketch.proofs.Boundaries.{around}

-- a load
pub record Stalled (k : ℕ) (n : ℕ) (z : Sketch) (e : Env) (c : Scene) : Type 0 where
  pub env : Env
  pub same : run k c ≡ scene n z env
  pub clock : env.clock ≡ e.clock + k
  pub read : env.read ≡ e.read
  pub write : env.write ≡ e.write
  pub port : env.port ≡ e.port - k
  pub quiet : (i : ℕ) → i < k → at_boundary (run i c).state ≡ false

-- z with a stall
abbrev pub stalled_scene : ℕ → ℕ → Sketch → Env → Scene
stalled_scene k n z e = around (record (conc n z e) { stall = k }) z.answers z.output

pub cycle_stalls : (s : MachineState) (k : ℕ) → s.stall ≡ suc k → (cycle_of None s ≡ record (counted s) { stall = k }) × (asks_input s ≡ false) × (output_of s ≡ [])
unfolding cycle_of asks_input output_of
cycle_stalls s k e =
    let some : nat_lt 0 s.stall ≡ true = ap (λ j. nat_lt 0 j) e ∙ lt-ltb 0 (suc k) (omega arith) in
    let less : s.stall - 1 ≡ k = omega arith in
    (rw (some, less) refl, rw some refl, rw some refl)

pub stall_next : (k n : ℕ) (z : Sketch) (e : Env) → next_scene (stalled_scene (suc k) n z e) ≡ stalled_scene k n z (tick e)
stall_next k n z e =
    let s : MachineState = record (conc n z e) { stall = suc k } in
    let c = cycle_stalls s k refl in
    ap (λ b. around (cycle_of (given b z.answers) s) (left_over b z.answers) (output_of s ++ z.output)) c.1
    ∙ ap (λ (t : MachineState). around t z.answers (output_of s ++ z.output)) c.0
    ∙ ap (λ (o : List ℕ). around (record (counted s) { stall = k }) z.answers (o ++ z.output)) c.2

pub off_stall : (k n : ℕ) (z : Sketch) (e : Env) → z.halt ≡ Running → at_boundary (stalled_scene (suc k) n z e).state ≡ false
off_stall k n z e running =
    ap (λ h. if is_running h then (suc k == 0 && (z.mpc == entry_of z.opcode || z.mpc == RAISE)) else true) running ∙ ap (λ b. b && (z.mpc == entry_of z.opcode || z.mpc == RAISE)) (not_none k)
  where
    not_none : (k : ℕ) → (suc k == 0) ≡ false
    not_none k = on (suc k == 0) refl
      where
        on : (b : Bool) → (suc k == 0) ≡ b → (suc k == 0) ≡ false
        on true e = absurd (let q = eqb-true (suc k) 0 e in omega arith)
        on false e = e

pub stall_run : (k : ℕ) (n : ℕ) (z : Sketch) (e : Env) → z.halt ≡ Running → Stalled k n z e (stalled_scene k n z e)
stall_run zero n z e running = record { env = e; same = refl; clock = omega arith; read = refl; write = refl; port = omega arith; quiet = λ i h. absurd (omega arith) }
stall_run (suc k) n z e running =
    let one = stall_next k n z e in
    let r = stall_run k n z (tick e) running in
    let rc = r.clock in let rp = r.port in
    record {
      env = r.env;
      same = ap (λ (t : Scene). run k t) one ∙ r.same;
      clock = omega arith;
      read = r.read;
      write = r.write;
      port = omega arith;
      quiet = by (stalled_scene (suc k) n z e) (off_stall k n z e running) (λ i h. ap (λ (t : Scene). at_boundary (run i t).state) one ∙ r.quiet i h);
    }
  where
    by : (c : Scene) → at_boundary c.state ≡ false → ((i : ℕ) → i < k → at_boundary (run i (next_scene c)).state ≡ false) → (i : ℕ) → i < suc k → at_boundary (run i c).state ≡ false
    by c a b zero h = a
    by c a b (suc i) h = b i (omega arith)
