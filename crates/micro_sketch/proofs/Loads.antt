-- Look-ups of the method cache, and the stalls of its loads.
use Rattle.std.proofs.Common.{◌^◌, ◌≡◌, ℕ, suc, ◌+◌, ◌-◌, ◌*◌, ◌%◌, ◌&&◌, Bool, true, false, List, [], ◌∷◌, ◌++◌, get_or, nat_lt, if◌then◌else◌, refl, sym, ap, ◌∙◌, subst, arith, Option, Some, None}
use Rattle.std.proofs.lemmas.Bool.{and_parts}
use Rattle.microcode.specs.declared.isa.Body.TheVariants.{Plain}
use Rattle.microcode.specs.declared.isa.Micro.{Micro}
use Rattle.microcode.specs.Isa.Operations.{operation_of}
use Rattle.microcode.specs.Isa.Words.{micro_of}
use Rattle.microcode.specs.declared.isa.operation.Operation.TheVariants.{Stbc}
use Rattle.jop_core.specs.State.{MachineState}
use Rattle.jop_core.specs.Operations.{popped, operated, looked_up, load_stall, code_words, code_of}
use Rattle.jop_core.specs.Cycle.{with_nxt, with_opd, is_wait, at_boundary, is_ldin, is_stout}
use Rattle.method_cache.specs.Contents.{is_cached, loaded}
use Rattle.jop_core.specs.Scene.{Scene, next_scene, run, given, left_over}
use Rattle.micro_flow.specs.Walk.{Other, kind_of, Walker, onward, timed, stops, walk}
use Rattle.micro_sketch.specs.Sketch.{Sketch, apop, aplain, lead, opd_byte, missed, can_find}
use Rattle.micro_sketch.specs.Stands.{Env, Shaped, Goes, Reaches, Tells, PortFits, conc, scene, tick, stalls, stalls_for}
use Rattle.microcode.specs.declared.TheConstants.{WORDS}
use Rattle.micro_sketch.proofs.OnChip.{pop_sim}
use Rattle.micro_sketch.proofs.Boundaries.{around, flags_end, flags_fine, flags_keep, flags_shape, off_is}
use Rattle.micro_sketch.proofs.Cycles.{lead_runs, onward_clock, opd_halt, opd_left, opd_mpc, scene_runs, stalls_same, step_at}
use Rattle.micro_sketch.proofs.Stalls.{stall_run, stalled_scene}

pub flags_stalled : (opd nxt : Bool) (n : ℕ) (y : Sketch) (e : Env) (k : ℕ) →
    around (with_nxt nxt (with_opd opd (record (conc n y e) { stall = k }))) y.answers y.output ≡ stalled_scene k n (lead nxt (opd_byte opd y)) e
flags_stalled false false n y e k = refl
flags_stalled false true n y e k = refl
flags_stalled true false n y e k = refl
flags_stalled true true n y e k = refl

abbrev pub stall_of : Sketch → ℕ → ℕ
stall_of x r = stalls_for (missed x.top x.cache) (missed x.top x.cache * code_words x.memory x.top) r

pub record Loaded (n : ℕ) (x : Sketch) (e : Env) : Type 0 where
  pub same : operated None Stbc (conc n x e) ≡ record (conc n (aplain Stbc false x) e) { stall = stall_of x e.read }
  pub shape : Shaped n (aplain Stbc false x)
  pub was : x.fine ≡ true
  pub idle : x.busy ≡ false
  pub loads : (aplain Stbc false x).loads ≡ x.loads + missed x.top x.cache
  pub words : (aplain Stbc false x).words ≡ x.words + missed x.top x.cache * code_words x.memory x.top
  pub left : (aplain Stbc false x).left ≡ x.left
  pub mpc : (aplain Stbc false x).mpc ≡ x.mpc
  pub busy : (aplain Stbc false x).busy ≡ x.busy
  pub halt : (aplain Stbc false x).halt ≡ x.halt
  pub answers : (aplain Stbc false x).answers ≡ x.answers
  pub output : (aplain Stbc false x).output ≡ x.output

-- a hit and a miss, as the sketch counts them
pub found_same : (b : Bool) (m : ℕ) (s : MachineState) → s.stall ≡ 0 → let k : ℕ = if b then 0 else 1 in let w = code_words s.port.words m in
    looked_up b m s ≡ record s { method = m; hits = if b then (s.hits + 1) % 2 ^ 64 else s.hits; misses = if b then s.misses else (s.misses + 1) % 2 ^ 64; stall = stalls_for k (k * w) s.port.read; cache = if b then s.cache else loaded m (code_of s m) s.cache }
found_same true m s z =
    let w = code_words s.port.words m in
    let c : s.stall ≡ stalls_for 0 (0 * w) s.port.read = z ∙ omega arith in
    ap (λ (i : ℕ). record s { method = m; hits = (s.hits + 1) % 2 ^ 64; stall = i }) c
found_same false m s z =
    let w = code_words s.port.words m in
    let c : load_stall s.port w ≡ stalls_for 1 (1 * w) s.port.read = ap (λ i. 4 + i * (2 + s.port.read)) (let q : w ≡ 1 * w = omega arith in q) in
    ap (λ (i : ℕ). record s { method = m; misses = (s.misses + 1) % 2 ^ 64; stall = i; cache = loaded m (code_of s m) s.cache }) c

pub stbc_on : (us : List ℕ) (n : ℕ) (x : Sketch) (e : Env) → let y = record x { under = us } in Shaped n y → (aplain Stbc false y).fine ≡ true → Loaded n y e
stbc_on [] n x e h f = absurd (no (can_find x x.top && (if x.busy then false else true)) f)
  where
    no : (b : Bool) → (b && false) ≡ true → ⊥
    no true k = cc
    no false k = cc
stbc_on (c ∷ cs) n x e h f =
    let y = record x { under = c ∷ cs } in
    let l = can_find x x.top in
    let free = if x.busy then false else true in
    let g = (and_parts (l && free) x.fine f).0 in
    let d = pop_sim n y e h ((and_parts (l && free) x.fine f).1) in
    record {
      same = ap (λ b. if b then looked_up (is_cached x.top x.cache) x.top (popped (conc n y e)) else popped (conc n y e)) ((and_parts l free g).0)
          ∙ ap (λ (s : MachineState). looked_up (is_cached x.top x.cache) x.top s) d.same ∙ found_same (is_cached x.top x.cache) x.top (conc n (apop y) e) refl;
      shape = record { low = d.shape.low; total = d.shape.total };
      was = (and_parts (l && free) x.fine f).1;
      idle = off_is x.busy ((and_parts l free g).1);
      loads = refl;
      words = refl;
      left = refl;
      mpc = refl;
      busy = refl;
      halt = refl;
      answers = refl;
      output = refl;
    }

pub more_stalls : (a b i j r : ℕ) → stalls_for (a + i) (b + j) r ≡ stalls_for a b r + stalls_for i j r
more_stalls a b i j r = omega arith

pub stbc_step : (n : ℕ) (x : Sketch) (e : Env) (code : ℕ) (opd nxt : Bool) → Goes x → Shaped n x → PortFits x.busy e →
    micro_of (get_or WORDS x.mpc 0) ≡ Some (record { body = Plain code; opd = opd; nxt = nxt }) → operation_of code ≡ Stbc →
    (lead nxt (opd_byte opd (aplain Stbc false x))).fine ≡ true → Reaches n x (lead nxt (opd_byte opd (aplain Stbc false x))) e
stbc_step n x e code opd nxt nd h p d w f =
    let m : Micro = record { body = Plain code; opd = opd; nxt = nxt } in
    let y = aplain Stbc false x in
    let z = lead nxt (opd_byte opd y) in
    let k = flags_keep opd nxt y in
    let g = stbc_on x.under n x (tick e) h (flags_fine opd nxt y f) in
    let idle : e.port ≡ 0 = subst (λ b. PortFits b e) g.idle p in
    let big = stall_of x e.read in
    let one : next_scene (scene n x e) ≡ stalled_scene big n z (tick e) =
    scene_runs n x e m d (ap (λ o. is_wait o && nat_lt 0 (e.port - 1)) w)
    ∙ ap (λ o. around (with_nxt nxt (with_opd opd (operated (given (is_ldin o) x.answers) o (conc n x (tick e))))) (left_over (is_ldin o) x.answers) ((if is_stout o then x.top % 2 ^ 8 ∷ [] else []) ++ x.output)) w
    ∙ ap (λ (s : MachineState). around (with_nxt nxt (with_opd opd s)) x.answers x.output) g.same
    ∙ ap (λ (i : List (Option ℕ)). around (with_nxt nxt (with_opd opd (record (conc n y (tick e)) { stall = big }))) i x.output) (sym g.answers)
    ∙ ap (λ (o : List ℕ). around (with_nxt nxt (with_opd opd (record (conc n y (tick e)) { stall = big }))) y.answers o) (sym g.output)
    ∙ flags_stalled opd nxt n y (tick e) big in
    let r = stall_run big n z (tick e) (k.halt ∙ g.halt ∙ nd.running) in
    let rc = r.clock in let rp = r.port in
    let zero_port : r.env.port ≡ 0 = omega arith in
    record {
      cycles = suc big;
      positive = omega arith;
      env = r.env;
      same = ap (λ (c : Scene). run big c) one ∙ r.same;
      clock = omega arith;
      read = r.read;
      write = r.write;
      port = subst (λ b. PortFits b r.env) (sym (k.busy ∙ g.busy ∙ g.idle)) zero_port;
      shape = flags_shape opd nxt n y g.shape;
      was = g.was;
      quiet = λ i l. ap (λ (c : Scene). at_boundary (run i c).state) one ∙ r.quiet i (omega arith);
      ending = flags_end opd nxt n y r.env f;
      way = λ q qr qw v tells.
          let u = timed Other q v in
          let path = step_at q false x e v m tells nd.not_done d ∙ ap (λ o. onward (stops (kind_of o) false nxt) (timed (kind_of o) q v)) w in
          let vp = tells.port in
          let up : u.port ≡ r.env.port = omega arith in
          let told = lead_runs nxt (opd_byte opd y) r.env u (opd_halt opd y ∙ g.halt ∙ nd.running) (tells.at nd.not_done ∙ sym g.mpc ∙ sym (opd_mpc opd y)) (tells.left ∙ sym g.left ∙ sym (opd_left opd y)) up tells.fine in
          let st = stalls_same y z q.r k.loads k.words ∙ ap (λ i. stalls_for i y.words q.r) g.loads ∙ ap (λ i. stalls_for (x.loads + missed x.top x.cache) i q.r) g.words
          ∙ more_stalls x.loads x.words (missed x.top x.cache) (missed x.top x.cache * code_words x.memory x.top) q.r in
          let sb : stall_of x q.r ≡ big = ap (λ i. stall_of x i) qr in
          let ck = ap (λ (a : Walker). a.clock) path ∙ onward_clock nxt u in
          record { choices = false ∷ []; tells = subst (λ a. Tells z r.env a) (sym path) told; clock = total (walk q (false ∷ []) v).clock (stalls z q.r) v.clock big (stalls x q.r) ck (st ∙ ap (λ i. stalls x q.r + i) sb) };
    }
  where
    total : (a b c d e : ℕ) → a ≡ c + 1 → b ≡ e + d → a + b ≡ c + suc d + e
    total a b c d e f g = omega arith
