-- The words of the stack split elsewhere, and a new SP.
use Rattle.std.proofs.Common.{◌≡◌, ℕ, ◌+◌, ◌-◌, ◌%◌, ◌^◌, ◌<◌, ◌&&◌, ◌||◌, Bool, true, false, List, [], ◌∷◌, ◌++◌, length, nat_lt, if◌then◌else◌, refl, sym, ap, ◌∙◌, subst, arith, append_assoc, length-append, None, Option}
use mathlib.Core.List.{reverse_aux}
use Rattle.std.proofs.Math.ListN.{length-reverse_aux}
use Rattle.std.proofs.Math.Nat.{mod-eq_of_lt}
use Rattle.microcode.specs.declared.isa.Body.TheVariants.{Plain}
use Rattle.microcode.specs.declared.isa.Micro.{Micro}
use Rattle.microcode.specs.declared.isa.operation.Operation.TheVariants.{Stsp}
use Rattle.microcode.specs.Isa.Operations.{operation_of}
use Rattle.micro_flow.specs.Walk.{passed, onward, stops, timed, kind_of}
use Rattle.jop_core.specs.State.{MachineState}
use Rattle.jop_core.specs.Scene.{given, left_over}
use Rattle.jop_core.specs.Operations.{operated}
use Rattle.jop_core.specs.Cycle.{is_wait, is_ldin, is_stout}
use Rattle.micro_sketch.specs.Sketch.{Sketch, apop, lead, opd_byte}
use Rattle.micro_sketch.specs.Stands.{Env, Shaped, Does, Goes, Reaches, PortFits, conc, scene, stack_of, constants, sp_of, tick}
use Rattle.micro_sketch.specs.Frames.{whole, split, reframed, cut, RunsNext}
use Rattle.micro_sketch.proofs.OnChip.{moved, pop_sim, length_stack}
use Rattle.micro_sketch.proofs.Counts.{keeps_pop, was_flags}
use Rattle.micro_sketch.proofs.Boundaries.{around}
use Rattle.micro_sketch.proofs.Cycles.{one_cycle, ticked_port, ended}

pub reverse_aux-append : (us vs ws : List ℕ) → reverse_aux us (vs ++ ws) ≡ reverse_aux us vs ++ ws
reverse_aux-append [] vs ws = refl
reverse_aux-append (u ∷ us) vs ws = reverse_aux-append us (u ∷ vs) ws

pub reverse_aux-both : (ws us vs : List ℕ) → reverse_aux (ws ++ us) vs ≡ reverse_aux us (reverse_aux ws vs)
reverse_aux-both [] us vs = refl
reverse_aux-both (w ∷ ws) us vs = reverse_aux-both ws us (w ∷ vs)

pub regroup : (a b c z : List ℕ) → (a ++ (b ++ c)) ++ z ≡ a ++ (b ++ (c ++ z))
regroup a b c z = simp append_assoc

pub stack_split : (x : Sketch) (d us js : List ℕ) → whole x ≡ d ++ reverse_aux us js → stack_of x ≡ stack_of (split x d us js)
stack_split x d us js h = regroup x.low constants x.deep (reverse_aux x.under x.above) ∙ ap (λ v. x.low ++ (constants ++ v)) h ∙ sym (regroup x.low constants d (reverse_aux us js))

pub whole_length : (x : Sketch) (d us js : List ℕ) → whole x ≡ d ++ reverse_aux us js → length x.deep + (length x.under + length x.above) ≡ length d + (length us + length js)
whole_length x d us js h =
    omega (arith, ap length h, length-append x.deep (reverse_aux x.under x.above), length-reverse_aux x.under x.above, length-append d (reverse_aux us js), length-reverse_aux us js)

pub split_shape : (n : ℕ) (x : Sketch) (d us js : List ℕ) → whole x ≡ d ++ reverse_aux us js → Shaped n x → Shaped n (split x d us js)
split_shape n x d us js h s = let t = s.total in record { low = s.low; total = omega (arith, whole_length x d us js h) }

pub split_anywhere : (n : ℕ) (x : Sketch) (e : Env) (d us js : List ℕ) → Shaped n x → whole x ≡ d ++ reverse_aux us js → length x.deep + length x.under ≡ length d + length us →
    (scene n x e ≡ scene n (split x d us js) e) × Shaped n (split x d us js)
split_anywhere n x e d us js s h l = (
  ap (λ (t : MachineState). around t x.answers x.output) (moved (conc n x e) (stack_of x) (stack_of (split x d us js)) (sp_of x) (sp_of (split x d us js)) (stack_split x d us js h) (omega arith)),
  split_shape n x d us js h s,
)

pub reframed_whole : (x : Sketch) (d us : List ℕ) → x.deep ≡ d ++ reverse_aux us [] → (whole x ≡ d ++ reverse_aux (x.under ++ us) x.above) × (length x.deep + length x.under ≡ length d + length (x.under ++ us))
reframed_whole x d us h =
    let z = reverse_aux x.under x.above in (
      ap (λ v. v ++ z) h ∙ append_assoc d (reverse_aux us []) z ∙ ap (λ v. d ++ v) (sym (reverse_aux-append us [] z) ∙ sym (reverse_aux-both x.under us x.above)),
      omega (arith, ap length h, length-append d (reverse_aux us []), length-reverse_aux us [], length-append x.under us),
    )

pub reframe : (n : ℕ) (x : Sketch) (e : Env) (d us : List ℕ) → Shaped n x → x.deep ≡ d ++ reverse_aux us [] → (scene n x e ≡ scene n (reframed x d us) e) × Shaped n (reframed x d us)
reframe n x e d us s h = let w = reframed_whole x d us h in split_anywhere n x e d (x.under ++ us) x.above s w.0 w.1

pub stsp_does : (n : ℕ) (x : Sketch) (e : Env) (d us js : List ℕ) (input : Option ℕ) → Shaped n x → (apop x).fine ≡ true → whole (apop x) ≡ d ++ reverse_aux us js → x.top ≡ length d + 63 + length us →
    Does n x (split (apop x) d us js) e (operated input Stsp (conc n x e))
stsp_does n x e d us js input h f g t =
    let p = pop_sim n x e h f in
    let y = apop x in
    let z = split y d us js in
    let total = p.shape.total in
    let small : x.top < n = omega (arith, whole_length y d us js g) in
    let sp : x.top % length (stack_of x) ≡ sp_of z = ap (λ k. x.top % k) (length_stack n x h) ∙ mod-eq_of_lt small ∙ t in
    record {
      same = ap (λ (s : MachineState). record s { sp = x.top % length (stack_of x) }) p.same ∙ moved (conc n y e) (stack_of y) (stack_of z) (x.top % length (stack_of x)) (sp_of z) (stack_split y d us js g) sp;
      shape = split_shape n y d us js g p.shape;
      was = p.was;
    }

pub stsp_moves : (n : ℕ) (x : Sketch) (e : Env) (opd nxt : Bool) (d us js : List ℕ) → Goes x → Shaped n x → PortFits x.busy e → RunsNext Stsp opd nxt x → whole (apop x) ≡ d ++ reverse_aux us js →
    x.top ≡ length d + 63 + length us → (lead nxt (opd_byte opd (split (apop x) d us js))).fine ≡ true → Reaches n x (lead nxt (opd_byte opd (split (apop x) d us js))) e
stsp_moves n x e opd nxt d us js nd h p w g t f =
    let code = w.code in
    let op = operation_of code in
    let m : Micro = record { body = Plain code; opd = opd; nxt = nxt } in
    let y = split (apop x) d us js in
    let k = keeps_pop x in
    let does : Does n x y (tick e) (operated (given (is_ldin op) x.answers) op (conc n x (tick e))) =
    subst (λ o. Does n x y (tick e) (operated (given (is_ldin o) x.answers) o (conc n x (tick e)))) (sym w.is) (stsp_does n x (tick e) d us js None h (was_flags nxt opd y f) g t) in
    one_cycle n x y e (tick e) m false (operated (given (is_ldin op) x.answers) op (conc n x (tick e))) nd w.word (ap (λ o. is_wait o && nat_lt 0 (e.port - 1)) w.is) refl does refl refl refl
    (subst (λ b. PortFits b (tick e)) (sym k.busy) (ticked_port x.busy e p))
    (record {
      left = k.left;
      loads = k.loads;
      words = k.words;
      mpc = k.mpc;
      answers = k.answers ∙ ap (λ o. left_over (is_ldin o) x.answers) (sym w.is);
      output = k.output ∙ ap (λ o. (if is_stout o then x.top % 2 ^ 8 ∷ [] else []) ++ x.output) (sym w.is);
    })
    (λ q r v s z. record {
      next = passed 1 s;
      is = ap (λ o. onward (stops (kind_of o) false nxt) (timed (kind_of o) q s)) w.is ∙ ap (λ i. onward (ended i || nxt) (passed 1 s)) (sym (k.halt ∙ nd.running));
      at = refl;
      left = refl;
      clock = refl;
      port = ap (λ i. i - 1) z;
      fine = refl;
    }) f

pub stsp_cuts : (n : ℕ) (x : Sketch) (e : Env) (opd nxt : Bool) (d us gone : List ℕ) → Goes x → Shaped n x → PortFits x.busy e → RunsNext Stsp opd nxt x → (apop x).deep ≡ d ++ reverse_aux us gone →
    x.top ≡ length d + 63 + length us → (lead nxt (opd_byte opd (cut x d us gone))).fine ≡ true → Reaches n x (lead nxt (opd_byte opd (cut x d us gone))) e
stsp_cuts n x e opd nxt d us gone nd h p w g t f =
    let y = apop x in
    let r = reverse_aux y.under y.above in
    stsp_moves n x e opd nxt d us (gone ++ r) nd h p w (ap (λ v. v ++ r) g ∙ append_assoc d (reverse_aux us gone) r ∙ ap (λ v. d ++ v) (sym (reverse_aux-append us gone r))) t f
