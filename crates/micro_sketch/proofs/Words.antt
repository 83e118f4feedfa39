-- Any microinstruction.
use Rattle.std.proofs.Common.{◌≡◌, ℕ, ◌+◌, ◌-◌, ◌||◌, ◌==◌, Bool, true, List, get_or, nat_lt, refl, sym, ap, ◌∙◌, subst, Option, Some, None}
use Rattle.std.proofs.lemmas.Bool.{and_parts}
use Rattle.microcode.specs.declared.isa.Body.{Body}
use Rattle.microcode.specs.declared.isa.Body.TheVariants.{Plain, Stm, Ldm, Ldi, Bz, Bnz, Jmp}
use Rattle.microcode.specs.declared.isa.Micro.{Micro}
use Rattle.microcode.specs.Isa.Operations.{operation_of}
use Rattle.microcode.specs.Isa.Words.{micro_of}
use Rattle.jop_core.specs.State.{MachineState}
use Rattle.jop_core.specs.Operations.{popped, stored}
use Rattle.jop_core.specs.Cycle.{branched}
use Rattle.micro_flow.specs.Walk.{passed, onward}
use Rattle.micro_sketch.specs.Sketch.{Sketch, apush, apop, need, astm, aplain, astep, lead, opd_byte, same_bool}
use Rattle.micro_sketch.specs.Stands.{Env, Shaped, Goes, Reaches, PortFits, conc, tick}
use Rattle.microcode.specs.declared.TheConstants.{WORDS, CONSTANTS}
use Rattle.micro_sketch.proofs.OnChip.{fetched, pop_sim}
use Rattle.micro_sketch.proofs.PlainSim.{same_is}
use Rattle.micro_sketch.proofs.Counts.{keeps_push, keeps_pop, was_jumped}
use Rattle.micro_sketch.proofs.Boundaries.{around, flags_fine}
use Rattle.micro_sketch.proofs.Branches.{branch_step}
use Rattle.micro_sketch.proofs.Cycles.{ended, one_cycle, ticked_port}
use Rattle.micro_sketch.proofs.Loads.{stbc_step}
use Rattle.micro_sketch.proofs.OneCycle.{IsWait, IsStbc, IsOther, ldi_sim, ldm_sim, plain_step, sort, stm_sim}
use Rattle.micro_sketch.proofs.Waits.{wait_step}

pub some_step : (b : Body) (opd nxt guess : Bool) (n : ℕ) (x : Sketch) (e : Env) → let m : Micro = record { body = b; opd = opd; nxt = nxt } in
    Goes x → Shaped n x → PortFits x.busy e → micro_of (get_or WORDS x.mpc 0) ≡ Some m → (astep (Some m) guess x).fine ≡ true → Reaches n x (astep (Some m) guess x) e
some_step (Plain code) opd nxt guess n x e nd h p d f =
    elim (sort (operation_of code)) [
      | IsWait w ↦ subst (λ o. Reaches n x (lead nxt (opd_byte opd (aplain o guess x))) e) (sym w) (wait_step n x e code opd nxt nd h p d w (ap (λ o. (lead nxt (opd_byte opd (aplain o guess x))).fine) (sym w) ∙ f))
      | IsStbc w ↦ subst (λ o. Reaches n x (lead nxt (opd_byte opd (aplain o guess x))) e) (sym w) (stbc_step n x e code opd nxt nd h p d w (ap (λ o. (lead nxt (opd_byte opd (aplain o guess x))).fine) (sym w) ∙ f))
      | IsOther w k b ↦ plain_step n x e code opd nxt guess nd h p d w k b f
    ]
some_step (Stm k) opd nxt guess n x e nd h p d f =
    let m : Micro = record { body = Stm k; opd = opd; nxt = nxt } in
    let y = need (nat_lt k 32) (astm k x) in
    let c = keeps_pop x in
    one_cycle n x y e (tick e) m guess (stored k (conc n x (tick e))) nd d refl refl (stm_sim n x (tick e) k h (flags_fine opd nxt y f)) refl refl refl
    (subst (λ b. PortFits b (tick e)) (sym c.busy) (ticked_port x.busy e p)) (record { left = c.left; loads = c.loads; words = c.words; mpc = c.mpc; answers = c.answers; output = c.output })
    (λ q r w s z. record { next = passed 1 s; is = ap (λ h. onward (ended h || nxt) (passed 1 s)) (sym (c.halt ∙ nd.running)); at = refl; left = refl; clock = refl; port = ap (λ i. i - 1) z; fine = refl }) f
some_step (Ldm k) opd nxt guess n x e nd h p d f =
    let m : Micro = record { body = Ldm k; opd = opd; nxt = nxt } in
    let y = need (nat_lt k 32) (apush (get_or x.low k 0) x) in
    let c = keeps_push x (get_or x.low k 0) in
    one_cycle n x y e (tick e) m guess (fetched k (conc n x (tick e))) nd d refl refl (ldm_sim n x (tick e) k h (flags_fine opd nxt y f)) refl refl refl
    (subst (λ b. PortFits b (tick e)) (sym c.busy) (ticked_port x.busy e p)) (record { left = c.left; loads = c.loads; words = c.words; mpc = c.mpc; answers = c.answers; output = c.output })
    (λ q r w s z. record { next = passed 1 s; is = ap (λ h. onward (ended h || nxt) (passed 1 s)) (sym (c.halt ∙ nd.running)); at = refl; left = refl; clock = refl; port = ap (λ i. i - 1) z; fine = refl }) f
some_step (Ldi k) opd nxt guess n x e nd h p d f =
    let m : Micro = record { body = Ldi k; opd = opd; nxt = nxt } in
    let y = need (nat_lt k 32) (apush (get_or CONSTANTS k 0) x) in
    let c = keeps_push x (get_or CONSTANTS k 0) in
    one_cycle n x y e (tick e) m guess (fetched (32 + k) (conc n x (tick e))) nd d refl refl (ldi_sim n x (tick e) k h (flags_fine opd nxt y f)) refl refl refl
    (subst (λ b. PortFits b (tick e)) (sym c.busy) (ticked_port x.busy e p)) (record { left = c.left; loads = c.loads; words = c.words; mpc = c.mpc; answers = c.answers; output = c.output })
    (λ q r w s z. record { next = passed 1 s; is = ap (λ h. onward (ended h || nxt) (passed 1 s)) (sym (c.halt ∙ nd.running)); at = refl; left = refl; clock = refl; port = ap (λ i. i - 1) z; fine = refl }) f
some_step (Bz to) opd nxt guess n x e nd h p d f =
    let m : Micro = record { body = Bz to; opd = opd; nxt = nxt } in
    let t = x.top == 0 in
    let y = need (same_bool guess t) (apop x) in
    let g : y.fine ≡ true = was_jumped guess to y f in
    let way : t ≡ guess = same_is guess t ((and_parts (same_bool guess t) (apop x).fine g).0) in
    let s = pop_sim n x (tick e) h ((and_parts (same_bool guess t) (apop x).fine g).1) in
    let k = keeps_pop x in
    branch_step n x y e m guess to nd p d refl (ap (λ b. around (branched b to (popped (conc n x (tick e)))) x.answers x.output) way ∙ ap (λ (z : MachineState). around (branched guess to z) x.answers x.output) s.same
    ∙ ap (λ (i : List (Option ℕ)). around (branched guess to (conc n (apop x) (tick e))) i x.output) (sym k.answers) ∙ ap (λ (o : List ℕ). around (branched guess to (conc n (apop x) (tick e))) (apop x).answers o) (sym k.output))
    (record { low = s.shape.low; total = s.shape.total }) s.was (record { left = k.left; loads = k.loads; words = k.words; mpc = k.mpc; busy = k.busy; halt = k.halt; answers = k.answers; output = k.output }) (λ p s. refl) f
some_step (Bnz to) opd nxt guess n x e nd h p d f =
    let m : Micro = record { body = Bnz to; opd = opd; nxt = nxt } in
    let t = nat_lt 0 x.top in
    let y = need (same_bool guess t) (apop x) in
    let g : y.fine ≡ true = was_jumped guess to y f in
    let way : t ≡ guess = same_is guess t ((and_parts (same_bool guess t) (apop x).fine g).0) in
    let s = pop_sim n x (tick e) h ((and_parts (same_bool guess t) (apop x).fine g).1) in
    let k = keeps_pop x in
    branch_step n x y e m guess to nd p d refl (ap (λ b. around (branched b to (popped (conc n x (tick e)))) x.answers x.output) way ∙ ap (λ (z : MachineState). around (branched guess to z) x.answers x.output) s.same
    ∙ ap (λ (i : List (Option ℕ)). around (branched guess to (conc n (apop x) (tick e))) i x.output) (sym k.answers) ∙ ap (λ (o : List ℕ). around (branched guess to (conc n (apop x) (tick e))) (apop x).answers o) (sym k.output))
    (record { low = s.shape.low; total = s.shape.total }) s.was (record { left = k.left; loads = k.loads; words = k.words; mpc = k.mpc; busy = k.busy; halt = k.halt; answers = k.answers; output = k.output }) (λ p s. refl) f
some_step (Jmp to) opd nxt guess n x e nd h p d f =
    branch_step n x x e (record { body = Jmp to; opd = opd; nxt = nxt }) true to nd p d refl refl h (was_jumped true to x f) (record { left = refl; loads = refl; words = refl; mpc = refl; busy = refl; halt = refl; answers = refl; output = refl }) (λ p s. refl) f

pub step_sim : (o : Option Micro) (guess : Bool) (n : ℕ) (x : Sketch) (e : Env) → Goes x → Shaped n x → PortFits x.busy e → micro_of (get_or WORDS x.mpc 0) ≡ o → (astep o guess x).fine ≡ true → Reaches n x (astep o guess x) e
step_sim None guess n x e nd h p d f = cc
step_sim (Some m) guess n x e nd h p d f = some_step m.body m.opd m.nxt guess n x e nd h p d f
