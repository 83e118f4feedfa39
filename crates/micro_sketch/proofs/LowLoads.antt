-- The load of a word below place 32.
use Rattle.std.proofs.Common.{◌≡◌, ◌-◌, ◌%◌, ◌^◌, ℕ, ◌<◌, ◌&&◌, ◌||◌, ◌++◌, ◌∷◌, [], Bool, true, false, nat_lt, if◌then◌else◌, get_or, refl, sym, ap, ◌∙◌, subst, arith, None, Option}
use Rattle.std.proofs.Math.Nat.{mod-eq_of_lt}
use Rattle.microcode.specs.declared.isa.Body.TheVariants.{Plain}
use Rattle.microcode.specs.declared.isa.Micro.{Micro}
use Rattle.microcode.specs.declared.isa.operation.Operation.TheVariants.{Ldmi}
use Rattle.microcode.specs.Isa.Operations.{operation_of}
use Rattle.micro_flow.specs.Walk.{kind_of, passed, onward, timed, stops}
use Rattle.jop_core.specs.Operations.{pushed, operated}
use Rattle.jop_core.specs.Cycle.{is_wait, is_ldin, is_stout}
use Rattle.jop_core.specs.Scene.{given, left_over}
use Rattle.micro_sketch.specs.Sketch.{Sketch, lead, opd_byte}
use Rattle.micro_sketch.specs.Stands.{Env, Shaped, Does, PortFits, Goes, Reaches, conc, tick}
use Rattle.micro_sketch.specs.Frames.{RunsNext}
use Rattle.micro_sketch.specs.Laws.{with_low}
use Rattle.micro_sketch.proofs.OnChip.{word_in, read_low, push_sim}
use Rattle.micro_sketch.proofs.Counts.{keeps_push, was_flags}
use Rattle.micro_sketch.proofs.Cycles.{ended, one_cycle, ticked_port}

low_does : (n : ℕ) (x : Sketch) (e : Env) (input : Option ℕ) → Shaped n x → x.ar < 32 → (with_low x.ar x).fine ≡ true → Does n x (with_low x.ar x) e (operated input Ldmi (conc n x e))
low_does n x e input h lt f =
    let total = h.total in
    let in_chip : x.ar < n = omega arith in
    let d = push_sim n x e (get_or x.low x.ar 0) h f in
    record {
      same = ap (λ k. pushed (word_in k (conc n x e)) (conc n x e)) (mod-eq_of_lt in_chip) ∙ ap (λ v. pushed v (conc n x e)) (read_low n x e x.ar h lt) ∙ d.same;
      shape = d.shape;
      was = d.was;
    }

pub low_loads : (n : ℕ) (x : Sketch) (e : Env) (opd nxt : Bool) → Goes x → Shaped n x → PortFits x.busy e → RunsNext Ldmi opd nxt x → x.ar < 32 →
    (lead nxt (opd_byte opd (with_low x.ar x))).fine ≡ true → Reaches n x (lead nxt (opd_byte opd (with_low x.ar x))) e
low_loads n x e opd nxt nd h p w lt f =
    let code = w.code in
    let op = operation_of code in
    let m : Micro = record { body = Plain code; opd = opd; nxt = nxt } in
    let y = with_low x.ar x in
    let k = keeps_push x (get_or x.low x.ar 0) in
    let does : Does n x y (tick e) (operated (given (is_ldin op) x.answers) op (conc n x (tick e))) =
    subst (λ o. Does n x y (tick e) (operated (given (is_ldin o) x.answers) o (conc n x (tick e)))) (sym w.is) (low_does n x (tick e) None h lt (was_flags nxt opd y f)) in
    one_cycle n x y e (tick e) m false (operated (given (is_ldin op) x.answers) op (conc n x (tick e))) nd w.word (ap (λ o. is_wait o && nat_lt 0 (e.port - 1)) w.is) refl does refl refl refl
    (subst (λ b. PortFits b (tick e)) (sym k.busy) (ticked_port x.busy e p))
    (record {
      left = k.left;
      loads = k.loads;
      words = k.words;
      mpc = k.mpc;
      answers = k.answers ∙ ap (λ o. left_over (is_ldin o) x.answers) (sym w.is);
      output = k.output ∙ ap (λ o. (if is_stout o then x.top % 2 ^ 8 ∷ [] else []) ++ x.output) (sym w.is);
    })
    (λ q r v s z. record {
      next = passed 1 s;
      is = ap (λ o. onward (stops (kind_of o) false nxt) (timed (kind_of o) q s)) w.is ∙ ap (λ i. onward (ended i || nxt) (passed 1 s)) (sym (k.halt ∙ nd.running));
      at = refl;
      left = refl;
      clock = refl;
      port = ap (λ i. i - 1) z;
      fine = refl;
    }) f
