-- A walk that is followed on prices is a walk, for every delay.
use Rattle.std.proofs.Common.{◌≡◌, ℕ, suc, pred, ◌+◌, ◌-◌, ◌%◌, ◌<◌, ◌&&◌, ◌==◌, Bool, true, false, nat_lt, if◌then◌else◌, List, [], ◌∷◌, Option, Some, None, get_or, refl, sym, ap, ◌∙◌, subst, arith, ltb-true, lt-ltb, eqb-true, eq-eqb}
use Rattle.microcode.specs.declared.isa.Body.{Body}
use Rattle.microcode.specs.declared.isa.Body.TheVariants.{Plain, Stm, Ldm, Ldi, Bz, Bnz, Jmp}
use Rattle.microcode.specs.declared.isa.Micro.{Micro}
use Rattle.microcode.specs.declared.isa.Turns.{Turns}
use Rattle.microcode.specs.declared.isa.Turns.TheVariants.{Count, PerPair, PerEntry}
use Rattle.microcode.specs.Isa.Operations.{operation_of}
use Rattle.microcode.specs.Isa.Words.{micro_of}
use Rattle.microcode.specs.declared.TheConstants.{WORDS, TURNS, RAISE}
use Rattle.microcode.specs.Tables.{turns_in}
use Rattle.micro_flow.specs.declared.CostParams.{CostParams}
use Rattle.micro_flow.specs.declared.price.Price.{Price}
use Rattle.micro_flow.specs.Costs.{worth}
use Rattle.micro_flow.specs.Walk.{Walker, TimeKind, Waits, Reads, Writes, Halts, Other, kind_of, times_if, turns_at, passed, arrived, onward, used, turned, branched, timed, stops, step, going, walk}
use Rattle.micro_flow.proofs.Prices.{plus, first, second, plus_value}
use Rattle.micro_flow.proofs.Upper.{cycles, used_same}

pub data Busy : Type 0 where
  Free : Busy
  Reading : Busy
  Writing : Busy

abbrev pub port_of : CostParams → Busy → ℕ
port_of p Free = 0
port_of p Reading = p.r + 1
port_of p Writing = p.w + 1

abbrev pub wait_price : Busy → Price
wait_price Free = cycles 1
wait_price Reading = record { fixed = 1; reads = 1; writes = 0 }
wait_price Writing = record { fixed = 1; reads = 0; writes = 1 }

abbrev pub is_free : Busy → Bool
is_free Free = true
is_free _ = false

-- A walk on prices, which may go back so often by the branch of the loop, and once by another one that ends it.
pub record Trace : Type 0 where
  pub at : ℕ
  pub port : Busy
  pub clock : Price
  pub may : ℕ
  pub spent : Bool
  pub over : Bool
  pub fine : Bool

abbrev pub tpassed : ℕ → Trace → Trace
tpassed c x = record x { clock = plus x.clock (cycles c); fine = is_free x.port && x.fine }

abbrev pub tarrived : ℕ → Trace → Trace
tarrived to x = record x { at = to; over = to == RAISE }

abbrev pub tonward : Bool → Trace → Trace
tonward true x = record x { over = true }
tonward false x = tarrived ((x.at + 1) % 2048) x

-- whether a branch has turns, whatever the instruction and the method are
abbrev pub has_turn : Option Turns → Bool
has_turn None = false
has_turn (Some (Count n)) = nat_lt 0 n
has_turn (Some _) = false

abbrev pub tturned : ℕ → (ahead last : Bool) → Trace → Trace
tturned br true last x = x
tturned br false true x = record x { spent = true; fine = (if x.at == br then false else true) && (has_turn (turns_in x.at TURNS) && ((if x.spent then false else true) && x.fine)) }
tturned br false false x = record x { may = x.may - 1; fine = x.at == br && (nat_lt 0 x.may && x.fine) }

abbrev pub tbranched : ℕ → Bool → ℕ → Trace → Trace
tbranched br true to x = tarrived to (tpassed 3 (tturned br (nat_lt x.at to) (to == RAISE) x))
tbranched br false to x = tonward false (tpassed 1 x)

abbrev pub ttimed : TimeKind → Trace → Trace
ttimed Waits x = record x { clock = plus x.clock (wait_price x.port); port = Free }
ttimed Reads x = record (tpassed 1 x) { port = Reading }
ttimed Writes x = record (tpassed 1 x) { port = Writing }
ttimed _ x = tpassed 1 x

abbrev pub tstep : ℕ → Option Micro → Bool → Trace → Trace
tstep br None guess x = record x { fine = false }
tstep br (Some m) guess x =
    elim m.body [
      | Plain code ↦ tonward (stops (kind_of (operation_of code)) guess m.nxt) (ttimed (kind_of (operation_of code)) x)
      | Stm k ↦ tonward m.nxt (tpassed 1 x)
      | Ldm k ↦ tonward m.nxt (tpassed 1 x)
      | Ldi k ↦ tonward m.nxt (tpassed 1 x)
      | Bz to ↦ tbranched br guess to x
      | Bnz to ↦ tbranched br guess to x
      | Jmp to ↦ tbranched br true to x
    ]

abbrev pub tgoing : Trace → Trace
tgoing x = record x { fine = (if x.over then false else true) && x.fine }

abbrev pub trace : ℕ → List Bool → Trace → Trace
trace br [] x = x
trace br (g ∷ gs) x = trace br gs (tstep br (micro_of (get_or WORDS x.at 0)) g (tgoing x))

-- s is the walk of which x is told, begun at the clock base, with rest turns that x doesn't speak of
pub record Follows (p : CostParams) (br rest base : ℕ) (x : Trace) (s : Walker) : Type 0 where
  pub at : s.at ≡ x.at
  pub port : s.port ≡ port_of p x.port
  pub clock : s.clock ≡ base + worth p x.clock
  pub left : s.left br ≡ x.may + rest
  pub others : x.spent ≡ false → (k : ℕ) → (k == br) ≡ false → s.left k ≡ turns_at p k
  pub over : s.over ≡ x.over
  pub fine : s.fine ≡ x.fine

pub free_is : (b : Busy) → is_free b ≡ true → b ≡ Free
free_is Free e = refl
free_is Reading e = cc
free_is Writing e = cc

pub true_and : (a b c : Bool) → a ≡ true → b ≡ c → b ≡ (a && c)
true_and true b c e f = f
true_and false b c e f = cc

pub pass_follows : (p : CostParams) (br rest base k : ℕ) (x : Trace) (s : Walker) → Follows p br rest base x s → (tpassed k x).fine ≡ true → Follows p br rest base (tpassed k x) (passed k s)
pass_follows p br rest base k x s h f =
    let free = first (is_free x.port) x.fine f in
    let none = free_is x.port free in
    let z : port_of p x.port ≡ 0 = ap (λ b. port_of p b) none in
    let hp = h.port in let hc = h.clock in
    record { at = h.at; port = (let q : s.port - k ≡ 0 = omega arith in q) ∙ sym z; clock = omega arith; left = h.left; others = h.others; over = h.over; fine = true_and (is_free x.port) s.fine x.fine free h.fine }

pub on_follows : (p : CostParams) (br rest base : ℕ) (b : Bool) (x : Trace) (s : Walker) → Follows p br rest base x s → Follows p br rest base (tonward b x) (onward b s)
on_follows p br rest base true x s h = record { at = h.at; port = h.port; clock = h.clock; left = h.left; others = h.others; over = refl; fine = h.fine }
on_follows p br rest base false x s h = record { at = ap (λ k. (k + 1) % 2048) h.at; port = h.port; clock = h.clock; left = h.left; others = h.others; over = ap (λ k. (k + 1) % 2048 == RAISE) h.at; fine = h.fine }

pub arrive_follows : (p : CostParams) (br rest base to : ℕ) (x : Trace) (s : Walker) → Follows p br rest base x s → Follows p br rest base (tarrived to x) (arrived to s)
arrive_follows p br rest base to x s h = record { at = refl; port = h.port; clock = h.clock; left = h.left; others = h.others; over = refl; fine = h.fine }

used_other : (at : ℕ) (left : ℕ → ℕ) (k : ℕ) → (k == at) ≡ false → used at left k ≡ left k
used_other at left k e = ap (λ (b : Bool). if b then left k - 1 else left k) e

turned_round : (a b : ℕ) → (a == b) ≡ false → (b == a) ≡ false
turned_round a b e = by (b == a) refl
  where
    by : (t : Bool) → (b == a) ≡ t → t ≡ false
    by true q = let same : a ≡ b = sym (eqb-true b a q) in let r : (a == b) ≡ true = eq-eqb a b same in cc
    by false q = refl

has_some : (p : CostParams) (o : Option Turns) → has_turn o ≡ true → 0 < times_if p o
has_some p None e = cc
has_some p (Some (Count n)) e = ltb-true 0 n e
has_some p (Some PerPair) e = cc
has_some p (Some PerEntry) e = cc

is_unspent : (b : Bool) → (if b then false else true) ≡ true → b ≡ false
is_unspent true e = cc
is_unspent false e = refl

pub turn_follows : (p : CostParams) (br rest base : ℕ) (b last : Bool) (x : Trace) (s : Walker) → Follows p br rest base x s → (tturned br b last x).fine ≡ true → Follows p br rest base (tturned br b last x) (turned b s)
turn_follows p br rest base true last x s h f = h
turn_follows p br rest base false false x s h f =
    let here : x.at ≡ br = eqb-true x.at br (first (x.at == br) (nat_lt 0 x.may && x.fine) f) in
    let g = second (x.at == br) (nat_lt 0 x.may && x.fine) f in
    let more : 0 < x.may = ltb-true 0 x.may (first (nat_lt 0 x.may) x.fine g) in
    let at : s.at ≡ br = h.at ∙ here in
    let hl = h.left in
    let less : used s.at s.left br ≡ s.left br - 1 = subst (λ k. used s.at s.left k ≡ s.left k - 1) at (used_same s.at s.left (s.at == s.at) refl) in
    let some : 0 < s.left s.at = subst (λ k. 0 < s.left k) (sym at) (omega arith) in
    record {
      at = h.at;
      port = h.port;
      clock = h.clock;
      left = omega arith;
      others = λ e k n. used_other s.at s.left k (ap (λ i. k == i) at ∙ n) ∙ h.others e k n;
      over = h.over;
      fine = ap (λ b. b && s.fine) (lt-ltb 0 (s.left s.at) some) ∙ h.fine ∙ second (nat_lt 0 x.may) x.fine g ∙ sym f;
    }
turn_follows p br rest base false true x s h f =
    let not_here = if x.at == br then false else true in
    let fresh = if x.spent then false else true in
    let g = second not_here (has_turn (turns_in x.at TURNS) && (fresh && x.fine)) f in
    let i = second (has_turn (turns_in x.at TURNS)) (fresh && x.fine) g in
    let apart : (x.at == br) ≡ false = is_unspent (x.at == br) (first not_here (has_turn (turns_in x.at TURNS) && (fresh && x.fine)) f) in
    let full = h.others (is_unspent x.spent (first fresh x.fine i)) x.at apart in
    let all = has_some p (turns_in x.at TURNS) (first (has_turn (turns_in x.at TURNS)) (fresh && x.fine) g) in
    let some : 0 < s.left s.at = subst (λ k. 0 < s.left k) (sym h.at) (omega arith) in
    record {
      at = h.at;
      port = h.port;
      clock = h.clock;
      left = used_other s.at s.left br (ap (λ i. br == i) h.at ∙ turned_round x.at br apart) ∙ h.left;
      others = λ e k n. absurd (let clash : true ≡ false = e in cc);
      over = h.over;
      fine = ap (λ b. b && s.fine) (lt-ltb 0 (s.left s.at) some) ∙ h.fine ∙ second fresh x.fine i ∙ sym f;
    }

pub was_tpassed : (k : ℕ) (x : Trace) → (tpassed k x).fine ≡ true → x.fine ≡ true
was_tpassed k x f = second (is_free x.port) x.fine f

pub branch_follows : (p : CostParams) (br rest base : ℕ) (g : Bool) (to : ℕ) (x : Trace) (s : Walker) → Follows p br rest base x s → (tbranched br g to x).fine ≡ true → Follows p br rest base (tbranched br g to x) (branched g to s)
branch_follows p br rest base true to x s h f =
    let t = tturned br (nat_lt x.at to) (to == RAISE) x in
    let a = turn_follows p br rest base (nat_lt x.at to) (to == RAISE) x s h (was_tpassed 3 t f) in
    let b = arrive_follows p br rest base to (tpassed 3 t) (passed 3 (turned (nat_lt x.at to) s)) (pass_follows p br rest base 3 t (turned (nat_lt x.at to) s) a f) in
    subst (λ i. Follows p br rest base (tbranched br true to x) (arrived to (passed 3 (turned (nat_lt i to) s)))) (sym h.at) b
branch_follows p br rest base false to x s h f = on_follows p br rest base false (tpassed 1 x) (passed 1 s) (pass_follows p br rest base 1 x s h f)

pub wait_takes : (p : CostParams) (b : Busy) → suc (pred (port_of p b)) ≡ worth p (wait_price b)
wait_takes p Free = omega arith
wait_takes p Reading = omega arith
wait_takes p Writing = omega arith

pub time_follows : (p : CostParams) (br rest base : ℕ) (k : TimeKind) (x : Trace) (s : Walker) → Follows p br rest base x s → (ttimed k x).fine ≡ true → Follows p br rest base (ttimed k x) (timed k p s)
time_follows p br rest base Waits x s h f =
    let hc = h.clock in
    record { at = h.at; port = refl; clock = ap (λ i. s.clock + suc (pred i)) h.port ∙ ap (λ i. s.clock + i) (wait_takes p x.port) ∙ omega (arith, plus_value p x.clock (wait_price x.port)); left = h.left; others = h.others; over = h.over; fine = h.fine }
time_follows p br rest base Reads x s h f = let a = pass_follows p br rest base 1 x s h f in record { at = a.at; port = refl; clock = a.clock; left = a.left; others = a.others; over = a.over; fine = a.fine }
time_follows p br rest base Writes x s h f = let a = pass_follows p br rest base 1 x s h f in record { at = a.at; port = refl; clock = a.clock; left = a.left; others = a.others; over = a.over; fine = a.fine }
time_follows p br rest base Halts x s h f = pass_follows p br rest base 1 x s h f
time_follows p br rest base Other x s h f = pass_follows p br rest base 1 x s h f

pub tonward_fine : (b : Bool) (x : Trace) → (tonward b x).fine ≡ x.fine
tonward_fine true x = refl
tonward_fine false x = refl

pub body_follows : (p : CostParams) (br rest base : ℕ) (b : Body) (opd nxt g : Bool) (x : Trace) (s : Walker) → let m : Micro = record { body = b; opd = opd; nxt = nxt } in Follows p br rest base x s → (tstep br (Some m) g x).fine ≡ true → Follows p br rest base (tstep br (Some m) g x) (step (Some m) g p s)
body_follows p br rest base (Plain code) opd nxt g x s h f =
    let k = kind_of (operation_of code) in
    on_follows p br rest base (stops k g nxt) (ttimed k x) (timed k p s) (time_follows p br rest base k x s h (sym (tonward_fine (stops k g nxt) (ttimed k x)) ∙ f))
body_follows p br rest base (Stm k) opd nxt g x s h f = on_follows p br rest base nxt (tpassed 1 x) (passed 1 s) (pass_follows p br rest base 1 x s h (sym (tonward_fine nxt (tpassed 1 x)) ∙ f))
body_follows p br rest base (Ldm k) opd nxt g x s h f = on_follows p br rest base nxt (tpassed 1 x) (passed 1 s) (pass_follows p br rest base 1 x s h (sym (tonward_fine nxt (tpassed 1 x)) ∙ f))
body_follows p br rest base (Ldi k) opd nxt g x s h f = on_follows p br rest base nxt (tpassed 1 x) (passed 1 s) (pass_follows p br rest base 1 x s h (sym (tonward_fine nxt (tpassed 1 x)) ∙ f))
body_follows p br rest base (Bz to) opd nxt g x s h f = branch_follows p br rest base g to x s h f
body_follows p br rest base (Bnz to) opd nxt g x s h f = branch_follows p br rest base g to x s h f
body_follows p br rest base (Jmp to) opd nxt g x s h f = branch_follows p br rest base true to x s h f

pub step_follows : (p : CostParams) (br rest base : ℕ) (m : Option Micro) (g : Bool) (x : Trace) (s : Walker) → Follows p br rest base x s → (tstep br m g x).fine ≡ true → Follows p br rest base (tstep br m g x) (step m g p s)
step_follows p br rest base None g x s h f = cc
step_follows p br rest base (Some m) g x s h f = body_follows p br rest base m.body m.opd m.nxt g x s h f

pub was_tbranched : (br : ℕ) (g : Bool) (to : ℕ) (x : Trace) → (tbranched br g to x).fine ≡ true → x.fine ≡ true
was_tbranched br true to x f = by (nat_lt x.at to) (to == RAISE) (was_tpassed 3 (tturned br (nat_lt x.at to) (to == RAISE) x) f)
  where
    by : (b last : Bool) → (tturned br b last x).fine ≡ true → x.fine ≡ true
    by true last k = k
    by false true k =
        let fresh = if x.spent then false else true in
        second fresh x.fine (second (has_turn (turns_in x.at TURNS)) (fresh && x.fine) (second (if x.at == br then false else true) (has_turn (turns_in x.at TURNS) && (fresh && x.fine)) k))
    by false false k = second (nat_lt 0 x.may) x.fine (second (x.at == br) (nat_lt 0 x.may && x.fine) k)
was_tbranched br false to x f = was_tpassed 1 x f

pub was_ttimed : (k : TimeKind) (x : Trace) → (ttimed k x).fine ≡ true → x.fine ≡ true
was_ttimed Waits x f = f
was_ttimed Reads x f = was_tpassed 1 x f
was_ttimed Writes x f = was_tpassed 1 x f
was_ttimed Halts x f = was_tpassed 1 x f
was_ttimed Other x f = was_tpassed 1 x f

pub was_tbody : (br : ℕ) (b : Body) (opd nxt g : Bool) (x : Trace) → (tstep br (Some (record { body = b; opd = opd; nxt = nxt })) g x).fine ≡ true → x.fine ≡ true
was_tbody br (Plain code) opd nxt g x f = let k = kind_of (operation_of code) in was_ttimed k x (sym (tonward_fine (stops k g nxt) (ttimed k x)) ∙ f)
was_tbody br (Stm k) opd nxt g x f = was_tpassed 1 x (sym (tonward_fine nxt (tpassed 1 x)) ∙ f)
was_tbody br (Ldm k) opd nxt g x f = was_tpassed 1 x (sym (tonward_fine nxt (tpassed 1 x)) ∙ f)
was_tbody br (Ldi k) opd nxt g x f = was_tpassed 1 x (sym (tonward_fine nxt (tpassed 1 x)) ∙ f)
was_tbody br (Bz to) opd nxt g x f = was_tbranched br g to x f
was_tbody br (Bnz to) opd nxt g x f = was_tbranched br g to x f
was_tbody br (Jmp to) opd nxt g x f = was_tbranched br true to x f

pub was_tstep : (br : ℕ) (m : Option Micro) (g : Bool) (x : Trace) → (tstep br m g x).fine ≡ true → x.fine ≡ true
was_tstep br None g x f = cc
was_tstep br (Some m) g x f = was_tbody br m.body m.opd m.nxt g x f

pub was_trace : (br : ℕ) (gs : List Bool) (x : Trace) → (trace br gs x).fine ≡ true → x.fine ≡ true
was_trace br [] x f = f
was_trace br (g ∷ gs) x f = second (if x.over then false else true) x.fine (was_tstep br (micro_of (get_or WORDS x.at 0)) g (tgoing x) (was_trace br gs (tstep br (micro_of (get_or WORDS x.at 0)) g (tgoing x)) f))

-- What is followed on prices is a walk.
pub trace_follows : (p : CostParams) (br rest base : ℕ) (gs : List Bool) (x : Trace) (s : Walker) → Follows p br rest base x s → (trace br gs x).fine ≡ true → Follows p br rest base (trace br gs x) (walk p gs s)
trace_follows p br rest base [] x s h f = h
trace_follows p br rest base (g ∷ gs) x s h f =
    let o = micro_of (get_or WORDS x.at 0) in
    let going_follows : Follows p br rest base (tgoing x) (going s) = record { at = h.at; port = h.port; clock = h.clock; left = h.left; others = h.others; over = h.over; fine = ap (λ b. (if b then false else true) && s.fine) h.over ∙ ap (λ b. (if x.over then false else true) && b) h.fine } in
    let one = step_follows p br rest base o g (tgoing x) (going s) going_follows (was_trace br gs (tstep br o g (tgoing x)) f) in
    trace_follows p br rest base gs (tstep br o g (tgoing x)) (step (micro_of (get_or WORDS s.at 0)) g p (going s))
    (subst (λ i. Follows p br rest base (tstep br o g (tgoing x)) (step (micro_of (get_or WORDS i 0)) g p (going s))) (sym h.at) one) f
