-- Branches of the microcode.
use Rattle.std.proofs.Common.{◌≡◌, ℕ, suc, zero, ◌+◌, ◌-◌, ◌%◌, ◌<◌, ◌&&◌, ◌||◌, ◌==◌, Bool, true, false, [], ◌∷◌, get_or, nat_lt, if◌then◌else◌, refl, sym, ap, ◌∙◌, subst, arith, Some}
use Rattle.std.proofs.lemmas.Bool.{and_parts}
use Rattle.microcode.specs.declared.isa.Micro.{Micro}
use Rattle.microcode.specs.Isa.Words.{micro_of}
use Rattle.jop_core.specs.Cycle.{branched, waits, at_boundary, is_running}
use Rattle.jop_core.specs.declared.halt.Halt.TheVariants.{Running}
use Rattle.jop_core.specs.Scene.{Scene, next_scene, run}
use Rattle.micro_flow.specs.declared.CostParams.{CostParams}
use Rattle.micro_flow.specs.Walk.{Walker, passed, arrived, used, turned, step, walk}
use Rattle.micro_flow.specs.Walk as f
use Rattle.micro_sketch.specs.Sketch.{Sketch, jumped, aturned, settled, off_entry, stopped}
use Rattle.micro_sketch.specs.Stands.{Env, Shaped, Goes, Reaches, Tells, PortFits, conc, scene, tick}
use Rattle.microcode.specs.declared.TheConstants.{WORDS, RAISE}
use Rattle.micro_sketch.proofs.Counts.{Keeps}
use Rattle.micro_sketch.proofs.Boundaries.{Same, around, settled_end}
use Rattle.micro_sketch.proofs.Cycles.{lead_runs, ran_scene, scene_runs, stalls_same, step_at, ticked_port}
use Rattle.micro_sketch.proofs.Stalls.{off_stall, stall_next, stalled_scene}

-- the two cycles behind a branch that is taken
pub stalled_twice : (n : ℕ) (y : Sketch) (e : Env) → run 2 (stalled_scene 2 n y e) ≡ scene n y (tick (tick e))
stalled_twice n y e = ap next_scene (stall_next 1 n y e) ∙ stall_next 0 n y (tick e)

pub stalled : (n : ℕ) (c : Scene) (y : Sketch) (e : Env) → y.halt ≡ Running → next_scene c ≡ stalled_scene 2 n y e → (i : ℕ) → suc i < 3 → at_boundary (run (suc i) c).state ≡ false
stalled n c y e r q zero l = ap (λ (z : Scene). at_boundary z.state) q ∙ off_stall 1 n y e r
stalled n c y e r q (suc zero) l = ap (λ (z : Scene). at_boundary (next_scene z).state) q ∙ ap (λ (z : Scene). at_boundary z.state) (stall_next 1 n y e) ∙ off_stall 0 n y e r
stalled n c y e r q (suc (suc i)) l = absurd (omega arith)

-- the machine's part of a turn
pub turned_conc : (b : Bool) (n to : ℕ) (y : Sketch) (e : Env) → scene n (settled (record (aturned b y) { mpc = to })) e ≡ scene n (record y { mpc = to }) e
turned_conc true n to y e = refl
turned_conc false n to y e = refl

pub turned_shape : (b : Bool) (n to : ℕ) (y : Sketch) → Shaped n y → Shaped n (settled (record (aturned b y) { mpc = to }))
turned_shape true n to y h = record { low = h.low; total = h.total }
turned_shape false n to y h = record { low = h.low; total = h.total }

pub turned_same : (b : Bool) (y : Sketch) → Same y (record (aturned b y) { left = y.left })
turned_same true y = record { left = refl; loads = refl; words = refl; busy = refl; halt = refl; answers = refl; output = refl }
turned_same false y = record { left = refl; loads = refl; words = refl; busy = refl; halt = refl; answers = refl; output = refl }

pub turned_left : (b : Bool) (s : Walker) (y : Sketch) → s.at ≡ y.mpc → s.left ≡ y.left → (turned b s).left ≡ (aturned b y).left
turned_left true s y a l = l
turned_left false s y a l = ap (λ k. used k s.left) a ∙ ap (λ g. used y.mpc g) l

pub turned_fine : (b : Bool) (s : Walker) (y : Sketch) → s.at ≡ y.mpc → s.left ≡ y.left → s.fine ≡ true → (aturned b y).fine ≡ true → (turned b s).fine ≡ true
turned_fine true s y a l f g = f
turned_fine false s y a l f g =
    ap (λ k. nat_lt 0 (s.left k) && s.fine) a ∙ ap (λ (h : ℕ → ℕ). nat_lt 0 (h y.mpc) && s.fine) l ∙ ap (λ b. b && s.fine) ((and_parts (nat_lt 0 (y.left y.mpc)) y.fine g).0) ∙ f

pub turned_rest : (b : Bool) (s : Walker) → ((turned b s).clock ≡ s.clock) × ((turned b s).port ≡ s.port)
turned_rest true s = (refl, refl)
turned_rest false s = (refl, refl)

pub branch_step : (n : ℕ) (x y : Sketch) (e : Env) (m : Micro) (taken : Bool) (to : ℕ) → Goes x → PortFits x.busy e →
    micro_of (get_or WORDS x.mpc 0) ≡ Some m → waits m (conc n x (tick e)) ≡ false →
    ran_scene n x e m ≡ around (branched taken to (conc n y (tick e))) y.answers y.output → Shaped n y → x.fine ≡ true → Keeps x y →
    ((p : CostParams) (s : Walker) → step (Some m) taken p s ≡ f.branched taken to s) →
    (jumped taken to y).fine ≡ true → Reaches n x (jumped taken to y) e
branch_step n x y e m true to nd p d w q h g k sp f =
    let b = nat_lt y.mpc to in
    let z = jumped true to y in
    let e' = tick (tick (tick e)) in
    let t = turned_same b y in
    let running : y.halt ≡ Running = k.halt ∙ nd.running in
    record {
      cycles = 3;
      positive = omega arith;
      env = e';
      same = ap (λ (c : Scene). run 2 c) (scene_runs n x e m d w ∙ q) ∙ stalled_twice n (record y { mpc = to }) (tick e) ∙ sym (turned_conc b n to y e');
      clock = omega arith;
      read = refl;
      write = refl;
      port = subst (λ c. PortFits c e') (sym (t.busy ∙ k.busy)) (ticked_port x.busy (tick (tick e)) (ticked_port x.busy (tick e) (ticked_port x.busy e p)));
      shape = turned_shape b n to y h;
      was = g;
      quiet = λ i l. stalled n (scene n x e) (record y { mpc = to }) (tick e) running (scene_runs n x e m d w ∙ q) i l;
      ending = settled_end n (record (aturned b y) { mpc = to }) e' f;
      way = λ c cr cw v tells.
          let at : v.at ≡ y.mpc = tells.at nd.not_done ∙ sym k.mpc in
          let lf : v.left ≡ y.left = tells.left ∙ sym k.left in
          let u = turned b v in
          let rest = turned_rest b v in
          let path : walk c (true ∷ []) v ≡ arrived to (passed 3 u) = step_at c true x e v m tells nd.not_done d ∙ sp c v ∙ ap (λ i. arrived to (passed 3 (turned (nat_lt i to) v))) at in
          let vp = tells.port in let rp = rest.1 in
          let told : Tells z e' (arrived to (passed 3 u)) = record { at = λ i. refl; port = omega arith; left = turned_left b v y at lf; over = sym (ap (λ h. if is_running h then to == RAISE else true) (t.halt ∙ running)); fine = turned_fine b v y at lf tells.fine (was_jumped_turned b to y f) } in
          let st = stalls_same x z c.r (t.loads ∙ k.loads) (t.words ∙ k.words) in
          let ck = ap (λ (a : Walker). a.clock) path in let rc = rest.0 in
          record { choices = true ∷ []; tells = subst (λ a. Tells z e' a) (sym path) told; clock = omega arith };
    }
  where
    was_jumped_turned : (b : Bool) (to : ℕ) (y : Sketch) → (settled (record (aturned b y) { mpc = to })).fine ≡ true → (aturned b y).fine ≡ true
    was_jumped_turned b to y f = (and_parts (stopped (record (aturned b y) { mpc = to }) || off_entry (record (aturned b y) { mpc = to })) (aturned b y).fine f).1
branch_step n x y e m false to nd p d w q h g k sp f =
    let z = jumped false to y in
    record {
      cycles = 1;
      positive = omega arith;
      env = tick e;
      same = scene_runs n x e m d w ∙ q;
      clock = refl;
      read = refl;
      write = refl;
      port = subst (λ b. PortFits b (tick e)) (sym k.busy) (ticked_port x.busy e p);
      shape = record { low = h.low; total = h.total };
      was = g;
      quiet = λ i l. absurd (omega arith);
      ending = settled_end n (record y { mpc = (y.mpc + 1) % 2048 }) (tick e) f;
      way = λ c cr cw v tells.
          let path = step_at c false x e v m tells nd.not_done d ∙ sp c v in
          let told = lead_runs false y (tick e) (passed 1 v) (k.halt ∙ nd.running) (tells.at nd.not_done ∙ sym k.mpc) (tells.left ∙ sym k.left) (ap (λ i. i - 1) tells.port) tells.fine in
          let st = stalls_same x z c.r k.loads k.words in
          let ck = ap (λ (a : Walker). a.clock) path in
          record { choices = false ∷ []; tells = subst (λ a. Tells z (tick e) a) (sym path) told; clock = omega arith };
    }
