-- Each plain microinstruction does to the machine what it does to the sketch.
use Rattle.std.proofs.Common.{◌^◌, None, ◌≡◌, ℕ, ◌+◌, ◌-◌, ◌%◌, ◌<◌, ◌&&◌, ◌==◌, Bool, true, false, List, [], ◌∷◌, length, get_or, slice_set, nat_lt, if◌then◌else◌, refl, ap, ◌∙◌, arith, ltb-true}
use Rattle.std.proofs.lemmas.Bool.{and_parts}
use Rattle.std.proofs.Math.ListN.{length-set}
use Rattle.std.proofs.Math.Nat.{mod-eq_of_lt}
use Rattle.microcode.specs.declared.isa.operation.Operation.{Operation}
use Rattle.microcode.specs.declared.isa.operation.Operation.TheVariants.{Nop, Pop, Dup, Add, Sub, And, Or, Xor, Shl, Shr, Ushr, Mul, Slt, Sltu, Ldo, Ldo8, Ldo16, Ldl, Stl, Ld0, Ld1, Ld2, Ld3, St0, St1, St2, St3, Ldvp, Stvp, Ldsp, Stsp, Ldjpc, Stjpc, Star, Ldmi, Stmi, Stmra, Stmwa, Stmwd, Wait, Ldmrd, Stbc, Jbr, Jbg, Ldin, Stout, Hltb, Hltu}
use Rattle.jop_core.specs.State.{MachineState}
use Rattle.jop_core.specs.Operations.{pushed, popped, stored, operated, combined, holds, branch_target, sign_extended8, sign_extended16, input_word}
use Rattle.jop_core.specs.Cycle.{is_ldin}
use Rattle.jop_core.specs.declared.halt.Halt.{Halt}
use Rattle.jop_core.specs.declared.halt.Halt.TheVariants.{Ended, Uncaught}
use Rattle.machine_memory.specs.Timing.Port.{read_started, write_started}
use Rattle.std.specs.declared.option.Option.{Option}
use Rattle.jop_core.specs.Scene.{given, first_of}
use Rattle.micro_sketch.specs.Sketch.{Sketch, apush, apop, inside, aload, astore, abinary, aplain, atarget, off_entry, off_raise, same_bool, ahalt}
use Rattle.micro_sketch.specs.Stands.{Env, Shaped, Does, conc, port_of, env_after}
use Rattle.micro_sketch.proofs.OnChip.{fetched, put_in, push_sim, pop_sim, read_deep, write_deep, length_stack}

-- what a pop is followed by, where it leaves the stack as it is
pub then_set : (n : ℕ) (x : Sketch) (e e' : Env) (t : MachineState → MachineState) (u : Sketch → Sketch) → ((y : Sketch) → t (conc n y e) ≡ conc n (u y) e') → Shaped n (u (apop x)) →
    Does n x (apop x) e (popped (conc n x e)) → Does n x (u (apop x)) e' (t (popped (conc n x e)))
then_set n x e e' t u h s d = record { same = ap t d.same ∙ h (apop x); shape = s; was = d.was }

pub load_sim : (n : ℕ) (x : Sketch) (e : Env) (k : ℕ) → Shaped n x → (aload k x).fine ≡ true → Does n x (aload k x) e (fetched k (conc n x e))
load_sim n x e k h f =
    let i : inside k x ≡ true = (and_parts (inside k x) (apush (get_or x.deep (k - 64) 0) x).fine f).0 in
    let d = push_sim n x e (get_or x.deep (k - 64) 0) h ((and_parts (inside k x) (apush (get_or x.deep (k - 64) 0) x).fine f).1) in
    record { same = ap (λ v. pushed v (conc n x e)) (read_deep n x e k h i) ∙ d.same; shape = record { low = d.shape.low; total = d.shape.total }; was = d.was }

pub shape_deep : (n : ℕ) (x : Sketch) (k v : ℕ) → Shaped n x → Shaped n (record x { deep = slice_set x.deep k v })
shape_deep n x k v h = record { low = h.low; total = ap (λ (m : ℕ). 64 + m + length x.under + length x.above) (length-set x.deep k v) ∙ h.total }

-- the same place is inside after a pop
pub inside_pop : (k : ℕ) (us : List ℕ) (x : Sketch) → (apop (record x { under = us })).fine ≡ true → inside k x ≡ true → inside k (apop (record x { under = us })) ≡ true
inside_pop k [] x f i = i
inside_pop k (c ∷ cs) x f i = i

pub deep_pop : (us : List ℕ) (x : Sketch) → (apop (record x { under = us })).deep ≡ x.deep
deep_pop [] x = refl
deep_pop (c ∷ cs) x = refl

pub no_both : (a b : Bool) → b ≡ false → (a && b) ≡ true → ⊥
no_both true b e f = cc
no_both false b e f = cc

pub either : (b : Bool) (s : MachineState) (j : ℕ) → (if b then record (popped s) { jpc = j } else popped s) ≡ record (popped s) { jpc = if b then j else s.jpc }
either true s j = refl
either false s j = refl

pub store_on : (n : ℕ) (us : List ℕ) (x : Sketch) (e : Env) (k : ℕ) → let y = record x { under = us } in Shaped n y → (astore k y).fine ≡ true → Does n y (astore k y) e (stored k (conc n y e))
store_on n [] x e k h f = absurd (no_both (inside k x) false (cc) f)
store_on n (c ∷ cs) x e k h f =
    let y = record x { under = c ∷ cs } in
    let i : inside k x ≡ true = (and_parts (inside k x) x.fine f).0 in
    let g : x.fine ≡ true = (and_parts (inside k x) x.fine f).1 in
    let d = pop_sim n y e h g in
    let here : inside k (apop y) ≡ true = i in
    record { same = ap (λ (s : MachineState). put_in k x.top s) d.same ∙ write_deep n (apop y) e k x.top d.shape here; shape = record { low = d.shape.low; total = (shape_deep n (apop y) (k - 64) x.top d.shape).total }; was = g }

pub store_sim : (n : ℕ) (x : Sketch) (e : Env) (k : ℕ) → Shaped n x → (astore k x).fine ≡ true → Does n x (astore k x) e (stored k (conc n x e))
store_sim n x e k h f = store_on n x.under x e k h f

pub binary_sim : (op : Operation) (n : ℕ) (x : Sketch) (e : Env) → Shaped n x → (abinary op x).fine ≡ true → Does n x (abinary op x) e (record (popped (conc n x e)) { a = combined op x.next x.top })
binary_sim op n x e h f =
    let d = pop_sim n x e h f in
    record { same = ap (λ (s : MachineState). record s { a = combined op x.next x.top }) d.same; shape = record { low = d.shape.low; total = d.shape.total }; was = d.was }

pub ar_sim : (n : ℕ) (x : Sketch) → Shaped n x → inside x.ar x ≡ true → x.ar % n ≡ x.ar
ar_sim n x h i =
    let hi : x.ar < 64 + length x.deep = ltb-true x.ar (64 + length x.deep) ((and_parts (if nat_lt x.ar 64 then false else true) (nat_lt x.ar (64 + length x.deep)) i).1) in
    let total = h.total in
    let lt : x.ar < n = omega arith in
    mod-eq_of_lt lt

pub jbr_on : (i : Option ℕ) (us : List ℕ) (n : ℕ) (x : Sketch) (e : Env) → let y = record x { under = us } in Shaped n y → (aplain Jbr false y).fine ≡ true → Does n y (aplain Jbr false y) e (operated i Jbr (conc n y e))
jbr_on i [] n x e h f = cc
jbr_on i (c ∷ cs) n x e h f =
    let y = record x { under = c ∷ cs } in
    let d = pop_sim n y e h f in
    record {
      same = either (holds x.opcode x.next x.top) (conc n y e) (branch_target (conc n y e)) ∙ ap (λ (s : MachineState). record s { jpc = if holds x.opcode x.next x.top then atarget x else x.jpc }) d.same;
      shape = record { low = d.shape.low; total = d.shape.total };
      was = d.was;
    }

pub jbr_sim : (i : Option ℕ) (n : ℕ) (x : Sketch) (e : Env) → Shaped n x → (aplain Jbr false x).fine ≡ true → Does n x (aplain Jbr false x) e (operated i Jbr (conc n x e))
jbr_sim i n x e h f = jbr_on i x.under n x e h f

pub vp_sim : (input : Option ℕ) (n : ℕ) (x : Sketch) (e : Env) → Shaped n x → (aplain Stvp false x).fine ≡ true → Does n x (aplain Stvp false x) e (operated input Stvp (conc n x e))
vp_sim input n x e h f =
    let i = (and_parts (inside x.top x) (apop x).fine f).0 in
    let d = pop_sim n x e h ((and_parts (inside x.top x) (apop x).fine f).1) in
    let hi : x.top < 64 + length x.deep = ltb-true x.top (64 + length x.deep) ((and_parts (if nat_lt x.top 64 then false else true) (nat_lt x.top (64 + length x.deep)) i).1) in
    let total = h.total in
    let lt : x.top < n = omega arith in
    record {
      same = ap (λ k. record (popped (conc n x e)) { vp = x.top % k }) (length_stack n x h) ∙ ap (λ k. record (popped (conc n x e)) { vp = k }) (mod-eq_of_lt lt) ∙ ap (λ (s : MachineState). record s { vp = x.top }) d.same;
      shape = record { low = d.shape.low; total = d.shape.total };
      was = d.was;
    }

pub same_is : (b c : Bool) → same_bool b c ≡ true → c ≡ b
same_is true c e = e
same_is false true e = cc
same_is false false e = refl

pub halt_sim : (outcome : Halt) (guess : Bool) (n : ℕ) (x : Sketch) (e : Env) → Shaped n x → (ahalt outcome guess x).fine ≡ true →
    Does n x (ahalt outcome guess x) e (if x.vp == 64 then record (conc n x e) { halt = outcome } else conc n x e)
halt_sim outcome guess n x e h f = record {
  same = ap (λ b. if b then record (conc n x e) { halt = outcome } else conc n x e) (same_is guess (x.vp == 64) ((and_parts (same_bool guess (x.vp == 64)) x.fine f).0)) ∙ by guess;
  shape = record { low = h.low; total = h.total };
  was = (and_parts (same_bool guess (x.vp == 64)) x.fine f).1;
}
  where
    by : (b : Bool) → (if b then record (conc n x e) { halt = outcome } else conc n x e) ≡ record (conc n x e) { halt = if b then outcome else x.halt }
    by true = refl
    by false = refl

pub plain_sim : (op : Operation) (guess : Bool) (n : ℕ) (x : Sketch) (e : Env) → (op ≡ Stbc → ⊥) → Shaped n x → (aplain op guess x).fine ≡ true → Does n x (aplain op guess x) (env_after op e) (operated (given (is_ldin op) x.answers) op (conc n x e))
plain_sim Nop guess n x e b h f = record { same = refl; shape = h; was = f }
plain_sim Pop guess n x e b h f = pop_sim n x e h f
plain_sim Dup guess n x e b h f = push_sim n x e x.top h f
plain_sim Add guess n x e b h f = binary_sim Add n x e h f
plain_sim Sub guess n x e b h f = binary_sim Sub n x e h f
plain_sim And guess n x e b h f = binary_sim And n x e h f
plain_sim Or guess n x e b h f = binary_sim Or n x e h f
plain_sim Xor guess n x e b h f = binary_sim Xor n x e h f
plain_sim Shl guess n x e b h f = binary_sim Shl n x e h f
plain_sim Shr guess n x e b h f = binary_sim Shr n x e h f
plain_sim Ushr guess n x e b h f = binary_sim Ushr n x e h f
plain_sim Mul guess n x e b h f = binary_sim Mul n x e h f
plain_sim Slt guess n x e b h f = binary_sim Slt n x e h f
plain_sim Sltu guess n x e b h f = binary_sim Sltu n x e h f
plain_sim Ldo guess n x e b h f = push_sim n x e x.operand h f
plain_sim Ldo8 guess n x e b h f = push_sim n x e (sign_extended8 x.operand) h f
plain_sim Ldo16 guess n x e b h f = push_sim n x e (sign_extended16 x.operand) h f
plain_sim Ldl guess n x e b h f = load_sim n x e (x.vp + x.operand) h f
plain_sim Stl guess n x e b h f = store_sim n x e (x.vp + x.operand) h f
plain_sim Ld0 guess n x e b h f = load_sim n x e x.vp h f
plain_sim Ld1 guess n x e b h f = load_sim n x e (x.vp + 1) h f
plain_sim Ld2 guess n x e b h f = load_sim n x e (x.vp + 2) h f
plain_sim Ld3 guess n x e b h f = load_sim n x e (x.vp + 3) h f
plain_sim St0 guess n x e b h f = store_sim n x e x.vp h f
plain_sim St1 guess n x e b h f = store_sim n x e (x.vp + 1) h f
plain_sim St2 guess n x e b h f = store_sim n x e (x.vp + 2) h f
plain_sim St3 guess n x e b h f = store_sim n x e (x.vp + 3) h f
plain_sim Ldvp guess n x e b h f = push_sim n x e x.vp h f
plain_sim Stvp guess n x e b h f = vp_sim None n x e h f
plain_sim Ldsp guess n x e b h f = push_sim n x e (length x.deep + 63 + length x.under) h f
plain_sim Stsp guess n x e b h f = cc
plain_sim Ldjpc guess n x e b h f = push_sim n x e x.jpc h f
plain_sim Stjpc guess n x e b h f = let d = pop_sim n x e h f in record { same = ap (λ (s : MachineState). record s { jpc = x.top % 2 ^ 16 }) d.same; shape = record { low = d.shape.low; total = d.shape.total }; was = d.was }
plain_sim Star guess n x e b h f = let d = pop_sim n x e h f in record { same = ap (λ (k : ℕ). record (popped (conc n x e)) { ar = x.top % k }) (length_stack n x h) ∙ ap (λ (s : MachineState). record s { ar = x.top % n }) d.same; shape = record { low = d.shape.low; total = d.shape.total }; was = d.was }
plain_sim Ldmi guess n x e b h f =
    let d = load_sim n x e x.ar h f in
    record { same = ap (λ k. fetched k (conc n x e)) (ar_sim n x h ((and_parts (inside x.ar x) (apush (get_or x.deep (x.ar - 64) 0) x).fine f).0)) ∙ d.same; shape = d.shape; was = d.was }
plain_sim Stmi guess n x e b h f =
    let d = store_sim n x e x.ar h f in
    record { same = ap (λ k. stored k (conc n x e)) (ar_sim n x h ((and_parts (inside x.ar x) (apop x).fine f).0)) ∙ d.same; shape = d.shape; was = d.was }
plain_sim Stmra guess n x e b h f =
    let d = pop_sim n x e h f in
    record { same = ap (λ (s : MachineState). record s { port = read_started x.top (port_of x e) }) d.same; shape = record { low = d.shape.low; total = d.shape.total }; was = d.was }
plain_sim Stmwa guess n x e b h f = let d = pop_sim n x e h f in record { same = ap (λ (s : MachineState). record s { write_address = x.top }) d.same; shape = record { low = d.shape.low; total = d.shape.total }; was = d.was }
plain_sim Stmwd guess n x e b h f = let d = pop_sim n x e h f in record { same = ap (λ (s : MachineState). record s { port = write_started x.write_address x.top (port_of x e) }) d.same; shape = record { low = d.shape.low; total = d.shape.total }; was = d.was }
plain_sim Wait guess n x e b h f = record { same = refl; shape = record { low = h.low; total = h.total }; was = (and_parts (off_entry x && off_raise x) x.fine f).1 }
plain_sim Ldmrd guess n x e b h f = push_sim n x e x.value h f
plain_sim Stbc guess n x e b h f = absurd (b refl)
plain_sim Jbr guess n x e b h f = jbr_sim None n x e h f
plain_sim Jbg guess n x e b h f = record { same = refl; shape = record { low = h.low; total = h.total }; was = f }
plain_sim Ldin guess n x e b h f = let d = push_sim n x e (input_word (first_of x.answers)) h f in record { same = d.same; shape = record { low = d.shape.low; total = d.shape.total }; was = d.was }
plain_sim Stout guess n x e b h f = let d = pop_sim n x e h f in record { same = d.same; shape = record { low = d.shape.low; total = d.shape.total }; was = d.was }
plain_sim Hltb guess n x e b h f = halt_sim Ended guess n x e h f
plain_sim Hltu guess n x e b h f = halt_sim Uncaught guess n x e h f
