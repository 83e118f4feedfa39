-- The load of a word from place 64 on, also past SP.
use Rattle.std.proofs.Common.{◌≡◌, ◌-◌, ◌%◌, ◌^◌, ℕ, ◌<◌, ◌≤◌, ◌&&◌, ◌||◌, ◌++◌, ◌∷◌, [], List, Bool, true, false, nat_lt, if◌then◌else◌, get_or, length, refl, sym, ap, ◌∙◌, subst, arith, append_assoc, None, Option}
use Rattle.std.proofs.Math.Nat.{mod-eq_of_lt}
use Rattle.std.proofs.Math.Seq.{get_or-append_right}
use mathlib.Core.List.{reverse_aux}
use Rattle.microcode.specs.declared.isa.Body.TheVariants.{Plain}
use Rattle.microcode.specs.declared.isa.Micro.{Micro}
use Rattle.microcode.specs.declared.isa.operation.Operation.TheVariants.{Ldmi}
use Rattle.microcode.specs.Isa.Operations.{operation_of}
use Rattle.micro_flow.specs.Walk.{kind_of, passed, onward, timed, stops}
use Rattle.jop_core.specs.Operations.{pushed, operated}
use Rattle.jop_core.specs.Cycle.{is_wait, is_ldin, is_stout}
use Rattle.jop_core.specs.Scene.{given, left_over}
use Rattle.micro_sketch.specs.Sketch.{Sketch, lead, opd_byte}
use Rattle.micro_sketch.specs.Stands.{Env, Shaped, Does, PortFits, Goes, Reaches, conc, tick, stack_of, constants}
use Rattle.micro_sketch.specs.Frames.{whole, RunsNext}
use Rattle.micro_sketch.specs.StackLaws.{with_stack_word}
use Rattle.micro_sketch.proofs.OnChip.{word_in, length_stack, length_constants, push_sim}
use Rattle.micro_sketch.proofs.Counts.{keeps_push, was_flags}
use Rattle.micro_sketch.proofs.Cycles.{ended, one_cycle, ticked_port}

read_whole : (n : ℕ) (x : Sketch) (e : Env) (k : ℕ) → Shaped n x → 64 ≤ k → k < n → word_in k (conc n x e) ≡ get_or (whole x) (k - 64) 0
read_whole n x e k h from lt =
    let rest = reverse_aux x.under x.above in
    let l3 : length x.low ≤ k = omega (arith, h.low) in
    let l4 : k - length x.low ≡ k - 32 = omega (arith, h.low) in
    let l5 : length constants ≤ k - 32 = omega (arith, length_constants) in
    let l6 : k - 32 - length constants ≡ k - 64 = omega (arith, length_constants) in
    ap (λ j. get_or (stack_of x) (k % j) 0) (length_stack n x h)
    ∙ ap (λ j. get_or (stack_of x) j 0) (mod-eq_of_lt lt)
    ∙ ap (λ (ws : List ℕ). get_or ws k 0) (append_assoc x.low (constants ++ x.deep) rest ∙ ap (λ (ws : List ℕ). x.low ++ ws) (append_assoc constants x.deep rest))
    ∙ get_or-append_right x.low (constants ++ (x.deep ++ rest)) k 0 l3
    ∙ ap (λ j. get_or (constants ++ (x.deep ++ rest)) j 0) l4
    ∙ get_or-append_right constants (x.deep ++ rest) (k - 32) 0 l5
    ∙ ap (λ j. get_or (x.deep ++ rest) j 0) l6

stack_does : (n : ℕ) (x : Sketch) (e : Env) (input : Option ℕ) → Shaped n x → 64 ≤ x.ar → x.ar < n → (with_stack_word x.ar x).fine ≡ true
    → Does n x (with_stack_word x.ar x) e (operated input Ldmi (conc n x e))
stack_does n x e input h from in_chip f =
    let d = push_sim n x e (get_or (whole x) (x.ar - 64) 0) h f in
    record {
      same = ap (λ k. pushed (word_in k (conc n x e)) (conc n x e)) (mod-eq_of_lt in_chip) ∙ ap (λ v. pushed v (conc n x e)) (read_whole n x e x.ar h from in_chip) ∙ d.same;
      shape = d.shape;
      was = d.was;
    }

pub stack_loads : (n : ℕ) (x : Sketch) (e : Env) (opd nxt : Bool) → Goes x → Shaped n x → PortFits x.busy e → RunsNext Ldmi opd nxt x → 64 ≤ x.ar → x.ar < n →
    (lead nxt (opd_byte opd (with_stack_word x.ar x))).fine ≡ true → Reaches n x (lead nxt (opd_byte opd (with_stack_word x.ar x))) e
stack_loads n x e opd nxt nd h p w from lt f =
    let code = w.code in
    let op = operation_of code in
    let m : Micro = record { body = Plain code; opd = opd; nxt = nxt } in
    let y = with_stack_word x.ar x in
    let k = keeps_push x (get_or (whole x) (x.ar - 64) 0) in
    let does : Does n x y (tick e) (operated (given (is_ldin op) x.answers) op (conc n x (tick e))) =
    subst (λ o. Does n x y (tick e) (operated (given (is_ldin o) x.answers) o (conc n x (tick e)))) (sym w.is) (stack_does n x (tick e) None h from lt (was_flags nxt opd y f)) in
    one_cycle n x y e (tick e) m false (operated (given (is_ldin op) x.answers) op (conc n x (tick e))) nd w.word (ap (λ o. is_wait o && nat_lt 0 (e.port - 1)) w.is) refl does refl refl refl
    (subst (λ b. PortFits b (tick e)) (sym k.busy) (ticked_port x.busy e p))
    (record {
      left = k.left;
      loads = k.loads;
      words = k.words;
      mpc = k.mpc;
      answers = k.answers ∙ ap (λ o. left_over (is_ldin o) x.answers) (sym w.is);
      output = k.output ∙ ap (λ o. (if is_stout o then x.top % 2 ^ 8 ∷ [] else []) ++ x.output) (sym w.is);
    })
    (λ q r v s z. record {
      next = passed 1 s;
      is = ap (λ o. onward (stops (kind_of o) false nxt) (timed (kind_of o) q s)) w.is ∙ ap (λ i. onward (ended i || nxt) (passed 1 s)) (sym (k.halt ∙ nd.running));
      at = refl;
      left = refl;
      clock = refl;
      port = ap (λ i. i - 1) z;
      fine = refl;
    }) f
