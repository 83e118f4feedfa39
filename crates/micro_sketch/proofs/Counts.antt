-- What a step of the sketch counts, and that one that ends well began well.
use Rattle.std.proofs.Common.{◌^◌, ◌≡◌, ℕ, suc, zero, ◌+◌, ◌-◌, ◌&&◌, ◌||◌, ◌==◌, length, ◌%◌, Bool, true, false, List, [], ◌∷◌, ◌++◌, get_or, nat_lt, if◌then◌else◌, refl, ap, Option, Some, None}
use Rattle.std.proofs.lemmas.Bool.{and_parts}
use Rattle.microcode.specs.declared.isa.Body.{Body}
use Rattle.microcode.specs.declared.isa.Body.TheVariants.{Plain, Stm, Ldm, Ldi, Bz, Bnz, Jmp}
use Rattle.microcode.specs.declared.isa.Micro.{Micro}
use Rattle.microcode.specs.Isa.Operations.{operation_of}
use Rattle.microcode.specs.Isa.Words.{micro_of}
use Rattle.microcode.specs.declared.isa.operation.Operation.{Operation}
use Rattle.microcode.specs.declared.isa.operation.Operation.TheVariants.{Nop, Pop, Dup, Add, Sub, And, Or, Xor, Shl, Shr, Ushr, Mul, Slt, Sltu, Ldo, Ldo8, Ldo16, Ldl, Stl, Ld0, Ld1, Ld2, Ld3, St0, St1, St2, St3, Ldvp, Stvp, Ldsp, Stsp, Ldjpc, Stjpc, Star, Ldmi, Stmi, Stmra, Stmwa, Stmwd, Wait, Ldmrd, Stbc, Jbr, Jbg, Ldin, Stout, Hltb, Hltu}
use Rattle.jop_core.specs.Operations.{sign_extended8, sign_extended16, input_word}
use Rattle.jop_core.specs.Cycle.{is_ldin, is_stout}
use Rattle.jop_core.specs.declared.halt.Halt.{Halt}
use Rattle.jop_core.specs.declared.halt.Halt.TheVariants.{Ended, Uncaught}
use Rattle.jop_core.specs.Scene.{left_over, first_of, rest_of}
use Rattle.micro_sketch.specs.Sketch.{Sketch, apush, apop, need, inside, astm, aplain, astep, exec, lead, opd_byte, jumped, same_bool, is_guessed, first_or, rest_if, settled, off_entry, off_raise, aturned, can_find, stopped, goes, going}
use Rattle.microcode.specs.declared.TheConstants.{WORDS, CONSTANTS}

-- what a microinstruction mostly keeps
pub record Part : Type 0 where
  pub left : ℕ → ℕ
  pub loads : ℕ
  pub words : ℕ
  pub mpc : ℕ
  pub busy : Bool
  pub halt : Halt
  pub answers : List (Option ℕ)
  pub output : List ℕ

abbrev pub part_of : Sketch → Part
part_of x = record { left = x.left; loads = x.loads; words = x.words; mpc = x.mpc; busy = x.busy; halt = x.halt; answers = x.answers; output = x.output }

pub push_part_on : (js : List ℕ) (x : Sketch) (v : ℕ) → part_of (apush v (record x { above = js })) ≡ part_of x
push_part_on [] x v = refl
push_part_on (j ∷ js) x v = refl

pub push_part : (x : Sketch) (v : ℕ) → part_of (apush v x) ≡ part_of x
push_part x v = push_part_on x.above x v

pub pop_part_on : (us : List ℕ) (x : Sketch) → part_of (apop (record x { under = us })) ≡ part_of x
pop_part_on [] x = refl
pop_part_on (u ∷ us) x = refl

pub pop_part : (x : Sketch) → part_of (apop x) ≡ part_of x
pop_part x = pop_part_on x.under x

pub record Keeps (x y : Sketch) : Type 0 where
  pub left : y.left ≡ x.left
  pub loads : y.loads ≡ x.loads
  pub words : y.words ≡ x.words
  pub mpc : y.mpc ≡ x.mpc
  pub busy : y.busy ≡ x.busy
  pub halt : y.halt ≡ x.halt
  pub answers : y.answers ≡ x.answers
  pub output : y.output ≡ x.output

pub keeps_part : (x y : Sketch) → part_of y ≡ part_of x → Keeps x y
keeps_part x y e = record {
  left = ap (λ (p : Part). p.left) e;
  loads = ap (λ (p : Part). p.loads) e;
  words = ap (λ (p : Part). p.words) e;
  mpc = ap (λ (p : Part). p.mpc) e;
  busy = ap (λ (p : Part). p.busy) e;
  halt = ap (λ (p : Part). p.halt) e;
  answers = ap (λ (p : Part). p.answers) e;
  output = ap (λ (p : Part). p.output) e;
}

pub keeps_push : (x : Sketch) (v : ℕ) → Keeps x (apush v x)
keeps_push x v = keeps_part x (apush v x) (push_part x v)

pub keeps_pop : (x : Sketch) → Keeps x (apop x)
keeps_pop x = keeps_part x (apop x) (pop_part x)

-- the byte that an operation puts out
abbrev pub put_by : Operation → ℕ → List ℕ
put_by op a = if is_stout op then a % 2 ^ 8 ∷ [] else []

abbrev pub busy_after : Operation → Bool → Bool
busy_after Wait b = false
busy_after Stmra b = true
busy_after Stmwd b = true
busy_after _ b = b

-- how a machine has halted after an operation
abbrev pub halt_after : Operation → (guess : Bool) → Halt → Halt
halt_after Hltb guess halt = if guess then Ended else halt
halt_after Hltu guess halt = if guess then Uncaught else halt
halt_after _ guess halt = halt

pub record Counts (op : Operation) (guess : Bool) (x y : Sketch) : Type 0 where
  pub left : y.left ≡ x.left
  pub loads : y.loads ≡ x.loads
  pub words : y.words ≡ x.words
  pub mpc : y.mpc ≡ x.mpc
  pub busy : y.busy ≡ busy_after op x.busy
  pub halt : y.halt ≡ halt_after op guess x.halt
  pub answers : y.answers ≡ left_over (is_ldin op) x.answers
  pub output : y.output ≡ put_by op x.top ++ x.output

pub part_after : (op : Operation) (guess : Bool) (x : Sketch) → (op ≡ Stbc → ⊥) →
    part_of (aplain op guess x) ≡ record (part_of x) { busy = busy_after op x.busy; halt = halt_after op guess x.halt; answers = left_over (is_ldin op) x.answers; output = put_by op x.top ++ x.output }
part_after Nop guess x d = refl
part_after Pop guess x d = pop_part x
part_after Dup guess x d = push_part x x.top
part_after Add guess x d = pop_part x
part_after Sub guess x d = pop_part x
part_after And guess x d = pop_part x
part_after Or guess x d = pop_part x
part_after Xor guess x d = pop_part x
part_after Shl guess x d = pop_part x
part_after Shr guess x d = pop_part x
part_after Ushr guess x d = pop_part x
part_after Mul guess x d = pop_part x
part_after Slt guess x d = pop_part x
part_after Sltu guess x d = pop_part x
part_after Ldo guess x d = push_part x x.operand
part_after Ldo8 guess x d = push_part x (sign_extended8 x.operand)
part_after Ldo16 guess x d = push_part x (sign_extended16 x.operand)
part_after Ldl guess x d = push_part x (get_or x.deep ((x.vp + x.operand) - 64) 0)
part_after Stl guess x d = pop_part x
part_after Ld0 guess x d = push_part x (get_or x.deep (x.vp - 64) 0)
part_after Ld1 guess x d = push_part x (get_or x.deep ((x.vp + 1) - 64) 0)
part_after Ld2 guess x d = push_part x (get_or x.deep ((x.vp + 2) - 64) 0)
part_after Ld3 guess x d = push_part x (get_or x.deep ((x.vp + 3) - 64) 0)
part_after St0 guess x d = pop_part x
part_after St1 guess x d = pop_part x
part_after St2 guess x d = pop_part x
part_after St3 guess x d = pop_part x
part_after Ldvp guess x d = push_part x x.vp
part_after Stvp guess x d = pop_part x
part_after Ldsp guess x d = push_part x (length x.deep + 63 + length x.under)
part_after Stsp guess x d = refl
part_after Ldjpc guess x d = push_part x x.jpc
part_after Stjpc guess x d = pop_part x
part_after Star guess x d = pop_part x
part_after Ldmi guess x d = push_part x (get_or x.deep (x.ar - 64) 0)
part_after Stmi guess x d = pop_part x
part_after Stmra guess x d = ap (λ (p : Part). record p { busy = true }) (pop_part x)
part_after Stmwa guess x d = pop_part x
part_after Stmwd guess x d = ap (λ (p : Part). record p { busy = true }) (pop_part x)
part_after Wait guess x d = refl
part_after Ldmrd guess x d = push_part x x.value
part_after Stbc guess x d = absurd (d refl)
part_after Jbr guess x d = pop_part x
part_after Jbg guess x d = refl
part_after Ldin guess x d = ap (λ (p : Part). record p { answers = rest_of x.answers }) (push_part x (input_word (first_of x.answers)))
part_after Stout guess x d = ap (λ (p : Part). record p { output = x.top % 2 ^ 8 ∷ x.output }) (pop_part x)
part_after Hltb guess x d = refl
part_after Hltu guess x d = refl

pub counts_plain : (op : Operation) (guess : Bool) (x : Sketch) → (op ≡ Stbc → ⊥) → Counts op guess x (aplain op guess x)
counts_plain op guess x d =
    let e = part_after op guess x d in
    record {
      left = ap (λ (p : Part). p.left) e;
      loads = ap (λ (p : Part). p.loads) e;
      words = ap (λ (p : Part). p.words) e;
      mpc = ap (λ (p : Part). p.mpc) e;
      busy = ap (λ (p : Part). p.busy) e;
      halt = ap (λ (p : Part). p.halt) e;
      answers = ap (λ (p : Part). p.answers) e;
      output = ap (λ (p : Part). p.output) e;
    }

pub was_push_on : (js : List ℕ) (x : Sketch) (v : ℕ) → (apush v (record x { above = js })).fine ≡ true → x.fine ≡ true
was_push_on [] x v f = cc
was_push_on (j ∷ js) x v f = f

pub was_push : (x : Sketch) (v : ℕ) → (apush v x).fine ≡ true → x.fine ≡ true
was_push x v f = was_push_on x.above x v f

pub was_pop_on : (js : List ℕ) (x : Sketch) → (apop (record x { under = js })).fine ≡ true → x.fine ≡ true
was_pop_on [] x f = cc
was_pop_on (j ∷ js) x f = f

pub was_pop : (x : Sketch) → (apop x).fine ≡ true → x.fine ≡ true
was_pop x f = was_pop_on x.under x f

pub was_settled : (x : Sketch) → (settled x).fine ≡ true → x.fine ≡ true
was_settled x f = (and_parts (stopped x || off_entry x) x.fine f).1

pub was_plain : (op : Operation) (guess : Bool) (x : Sketch) → (aplain op guess x).fine ≡ true → x.fine ≡ true
was_plain Nop guess x f = f
was_plain Pop guess x f = was_pop x f
was_plain Dup guess x f = was_push x x.top f
was_plain Add guess x f = was_pop x f
was_plain Sub guess x f = was_pop x f
was_plain And guess x f = was_pop x f
was_plain Or guess x f = was_pop x f
was_plain Xor guess x f = was_pop x f
was_plain Shl guess x f = was_pop x f
was_plain Shr guess x f = was_pop x f
was_plain Ushr guess x f = was_pop x f
was_plain Mul guess x f = was_pop x f
was_plain Slt guess x f = was_pop x f
was_plain Sltu guess x f = was_pop x f
was_plain Ldo guess x f = was_push x x.operand f
was_plain Ldo8 guess x f = was_push x (sign_extended8 x.operand) f
was_plain Ldo16 guess x f = was_push x (sign_extended16 x.operand) f
was_plain Ldl guess x f = was_push x (get_or x.deep ((x.vp + x.operand) - 64) 0) ((and_parts (inside (x.vp + x.operand) x) (apush (get_or x.deep ((x.vp + x.operand) - 64) 0) x).fine f).1)
was_plain Stl guess x f = was_pop x ((and_parts (inside (x.vp + x.operand) x) (apop x).fine f).1)
was_plain Ld0 guess x f = was_push x (get_or x.deep (x.vp - 64) 0) ((and_parts (inside x.vp x) (apush (get_or x.deep (x.vp - 64) 0) x).fine f).1)
was_plain Ld1 guess x f = was_push x (get_or x.deep ((x.vp + 1) - 64) 0) ((and_parts (inside (x.vp + 1) x) (apush (get_or x.deep ((x.vp + 1) - 64) 0) x).fine f).1)
was_plain Ld2 guess x f = was_push x (get_or x.deep ((x.vp + 2) - 64) 0) ((and_parts (inside (x.vp + 2) x) (apush (get_or x.deep ((x.vp + 2) - 64) 0) x).fine f).1)
was_plain Ld3 guess x f = was_push x (get_or x.deep ((x.vp + 3) - 64) 0) ((and_parts (inside (x.vp + 3) x) (apush (get_or x.deep ((x.vp + 3) - 64) 0) x).fine f).1)
was_plain St0 guess x f = was_pop x ((and_parts (inside x.vp x) (apop x).fine f).1)
was_plain St1 guess x f = was_pop x ((and_parts (inside (x.vp + 1) x) (apop x).fine f).1)
was_plain St2 guess x f = was_pop x ((and_parts (inside (x.vp + 2) x) (apop x).fine f).1)
was_plain St3 guess x f = was_pop x ((and_parts (inside (x.vp + 3) x) (apop x).fine f).1)
was_plain Ldvp guess x f = was_push x x.vp f
was_plain Stvp guess x f = was_pop x ((and_parts (inside x.top x) (apop x).fine f).1)
was_plain Ldsp guess x f = was_push x (length x.deep + 63 + length x.under) f
was_plain Stsp guess x f = cc
was_plain Ldjpc guess x f = was_push x x.jpc f
was_plain Stjpc guess x f = was_pop x f
was_plain Star guess x f = was_pop x f
was_plain Ldmi guess x f = was_push x (get_or x.deep (x.ar - 64) 0) ((and_parts (inside x.ar x) (apush (get_or x.deep (x.ar - 64) 0) x).fine f).1)
was_plain Stmi guess x f = was_pop x ((and_parts (inside x.ar x) (apop x).fine f).1)
was_plain Stmra guess x f = was_pop x f
was_plain Stmwa guess x f = was_pop x f
was_plain Stmwd guess x f = was_pop x f
was_plain Wait guess x f = (and_parts (off_entry x && off_raise x) x.fine f).1
was_plain Ldmrd guess x f = was_push x x.value f
was_plain Stbc guess x f = was_pop x ((and_parts (can_find x x.top && (if x.busy then false else true)) (apop x).fine f).1)
was_plain Jbr guess x f = was_pop x f
was_plain Jbg guess x f = f
was_plain Ldin guess x f = was_push x (input_word (first_of x.answers)) f
was_plain Stout guess x f = was_pop x f
was_plain Hltb guess x f = (and_parts (same_bool guess (x.vp == 64)) x.fine f).1
was_plain Hltu guess x f = (and_parts (same_bool guess (x.vp == 64)) x.fine f).1

pub was_opd : (b : Bool) (x : Sketch) → (opd_byte b x).fine ≡ true → x.fine ≡ true
was_opd false x f = f
was_opd true x f = f

pub was_lead : (b : Bool) (x : Sketch) → (lead b x).fine ≡ true → x.fine ≡ true
was_lead false x f = was_settled (record x { mpc = (x.mpc + 1) % 2048 }) f
was_lead true x f = f

pub was_turned : (b : Bool) (x : Sketch) → (aturned b x).fine ≡ true → x.fine ≡ true
was_turned true x f = f
was_turned false x f = (and_parts (nat_lt 0 (x.left x.mpc)) x.fine f).1

pub was_jumped : (b : Bool) (to : ℕ) (x : Sketch) → (jumped b to x).fine ≡ true → x.fine ≡ true
was_jumped false to x f = was_settled (record x { mpc = (x.mpc + 1) % 2048 }) f
was_jumped true to x f = was_turned (nat_lt x.mpc to) x (was_settled (record (aturned (nat_lt x.mpc to) x) { mpc = to }) f)

pub was_flags : (a b : Bool) (x : Sketch) → (lead a (opd_byte b x)).fine ≡ true → x.fine ≡ true
was_flags a b x f = was_opd b x (was_lead a (opd_byte b x) f)

pub was_body : (b : Body) (opd nxt guess : Bool) (x : Sketch) → (astep (Some (record { body = b; opd = opd; nxt = nxt })) guess x).fine ≡ true → x.fine ≡ true
was_body (Plain code) opd nxt guess x f = was_plain (operation_of code) guess x (was_flags nxt opd (aplain (operation_of code) guess x) f)
was_body (Stm k) opd nxt guess x f = was_pop x ((and_parts (nat_lt k 32) (astm k x).fine (was_flags nxt opd (need (nat_lt k 32) (astm k x)) f)).1)
was_body (Ldm k) opd nxt guess x f = was_push x (get_or x.low k 0) ((and_parts (nat_lt k 32) (apush (get_or x.low k 0) x).fine (was_flags nxt opd (need (nat_lt k 32) (apush (get_or x.low k 0) x)) f)).1)
was_body (Ldi k) opd nxt guess x f = was_push x (get_or CONSTANTS k 0) ((and_parts (nat_lt k 32) (apush (get_or CONSTANTS k 0) x).fine (was_flags nxt opd (need (nat_lt k 32) (apush (get_or CONSTANTS k 0) x)) f)).1)
was_body (Bz to) opd nxt guess x f = was_pop x ((and_parts (same_bool guess (x.top == 0)) (apop x).fine (was_jumped guess to (need (same_bool guess (x.top == 0)) (apop x)) f)).1)
was_body (Bnz to) opd nxt guess x f = was_pop x ((and_parts (same_bool guess (nat_lt 0 x.top)) (apop x).fine (was_jumped guess to (need (same_bool guess (nat_lt 0 x.top)) (apop x)) f)).1)
was_body (Jmp to) opd nxt guess x f = was_jumped true to x f

pub was_step : (m : Option Micro) (guess : Bool) (x : Sketch) → (astep m guess x).fine ≡ true → x.fine ≡ true
was_step None guess x f = cc
was_step (Some m) guess x f = was_body m.body m.opd m.nxt guess x f

pub was_exec : (k : ℕ) (gs : List Bool) (x : Sketch) → (exec k gs x).fine ≡ true → x.fine ≡ true
was_exec zero gs x f = f
was_exec (suc k) gs x f =
    let m = micro_of (get_or WORDS x.mpc 0) in
    (and_parts (goes x) x.fine (was_step m (first_or gs) (going x) (was_exec k (rest_if (is_guessed m) gs) (astep m (first_or gs) (going x)) f))).1
