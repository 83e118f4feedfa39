-- A word stvp, which may move the frame's place past the words below the stack.
use Rattle.std.proofs.Common.{◌≡◌, ℕ, ◌-◌, ◌%◌, ◌^◌, ◌<◌, ◌&&◌, ◌||◌, true, false, [], ◌∷◌, ◌++◌, nat_lt, length, if◌then◌else◌, refl, sym, ap, ◌∙◌, subst, None, Option}
use Rattle.std.proofs.Math.Nat.{mod-eq_of_lt}
use Rattle.microcode.specs.declared.isa.Body.TheVariants.{Plain}
use Rattle.microcode.specs.declared.isa.Micro.{Micro}
use Rattle.microcode.specs.declared.isa.operation.Operation.TheVariants.{Stvp}
use Rattle.microcode.specs.Isa.Operations.{operation_of}
use Rattle.micro_flow.specs.Walk.{passed, onward, stops, timed, kind_of}
use Rattle.jop_core.specs.State.{MachineState}
use Rattle.jop_core.specs.Scene.{given, left_over}
use Rattle.jop_core.specs.Operations.{operated}
use Rattle.jop_core.specs.Cycle.{is_wait, is_ldin, is_stout}
use Rattle.micro_sketch.specs.Sketch.{Sketch, apop}
use Rattle.micro_sketch.specs.Stands.{Env, Shaped, Does, PortFits, conc, stack_of, tick}
use Rattle.micro_sketch.specs.FrameLaws.{framed, FramePlaceMoves, SwitchRunsOn}
use Rattle.micro_sketch.proofs.OnChip.{pop_sim, length_stack}
use Rattle.micro_sketch.proofs.Counts.{keeps_pop, was_flags}
use Rattle.micro_sketch.proofs.Rowing.{no_entry_raises}
use Rattle.micro_sketch.proofs.Cycles.{one_cycle, ticked_port, ended}

stvp_does : (n : ℕ) (x : Sketch) (e : Env) (input : Option ℕ) → Shaped n x → (apop x).fine ≡ true → x.top < n → Does n x (framed x) e (operated input Stvp (conc n x e))
stvp_does n x e input h f small =
    let p = pop_sim n x e h f in
    let y = apop x in
    let place : x.top % length (stack_of x) ≡ x.top = ap (λ (k : ℕ). x.top % k) (length_stack n x h) ∙ mod-eq_of_lt small in
    record {
      same = ap (λ (s : MachineState). record s { vp = x.top % length (stack_of x) }) p.same ∙ ap (λ (k : ℕ). record (conc n y e) { vp = k }) place;
      shape = record { low = p.shape.low; total = p.shape.total };
      was = p.was;
    }

pub frame_place_moves : FramePlaceMoves
frame_place_moves n x e opd nxt nd h p w small f =
    let code = w.code in
    let op = operation_of code in
    let m : Micro = record { body = Plain code; opd = opd; nxt = nxt } in
    let y = framed x in
    let k = keeps_pop x in
    let does : Does n x y (tick e) (operated (given (is_ldin op) x.answers) op (conc n x (tick e))) =
    subst (λ o. Does n x y (tick e) (operated (given (is_ldin o) x.answers) o (conc n x (tick e)))) (sym w.is) (stvp_does n x (tick e) None h (was_flags nxt opd y f) small) in
    one_cycle n x y e (tick e) m false (operated (given (is_ldin op) x.answers) op (conc n x (tick e))) nd w.word (ap (λ o. is_wait o && nat_lt 0 (e.port - 1)) w.is) refl does refl refl refl
    (subst (λ b. PortFits b (tick e)) (sym k.busy) (ticked_port x.busy e p))
    (record {
      left = k.left;
      loads = k.loads;
      words = k.words;
      mpc = k.mpc;
      answers = k.answers ∙ ap (λ o. left_over (is_ldin o) x.answers) (sym w.is);
      output = k.output ∙ ap (λ o. (if is_stout o then x.top % 2 ^ 8 ∷ [] else []) ++ x.output) (sym w.is);
    })
    (λ q r v s z. record {
      next = passed 1 s;
      is = ap (λ o. onward (stops (kind_of o) false nxt) (timed (kind_of o) q s)) w.is ∙ ap (λ i. onward (ended i || nxt) (passed 1 s)) (sym (k.halt ∙ nd.running));
      at = refl;
      left = refl;
      clock = refl;
      port = ap (λ i. i - 1) z;
      fine = refl;
    }) f

pub switch_runs_on : SwitchRunsOn
switch_runs_on n p op cycles f x e new d = (
  ap (λ (s : MachineState). s.halt) d.same ∙ d.switches.running,
  λ raises. no_entry_raises d.after.opcode (sym (ap (λ (s : MachineState). s.mpc) d.same ∙ d.switches.mpc) ∙ raises),
)
