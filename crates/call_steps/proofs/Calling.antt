-- A static call, from its opcode's entry to the common part of the calls.
use Rattle.std.proofs.Common.{◌≡◌, ℕ, ◌+◌, ◌-◌, ◌*◌, ◌/◌, ◌%◌, ◌^◌, ◌<◌, ◌≤◌, List, [], ◌∷◌, length, sym, ap, ◌∙◌, refl, arith, length-append}
use Rattle.std.specs.Prelude.{slice_index}
use Rattle.std.proofs.Math.Nat.{mod-eq_of_lt}
use Rattle.microcode.specs.declared.addresses.TheConstants.{INVOKESTATIC}
use Rattle.micro_sketch.specs.Sketch.{Sketch, abyte}
use Rattle.micro_sketch.specs.Stands.{Env, Shaped, Reaches}
use Rattle.micro_sketch.specs.Operand.{past, two_byte_operand}
use Rattle.call_steps.specs.Method.{argument_words}
use Rattle.call_steps.specs.Calls.{Invokestatic, called, CanCall}
use Rattle.call_steps.specs.Entry.{CanEnter}
use Rattle.call_steps.proofs.Parts.{PartLaws, Low, at, computed}
use Rattle.call_steps.proofs.InvokeRows.{invoking}
use Rattle.call_steps.proofs.Invoking.{less_mod}
use Rattle.call_steps.proofs.CallRows.{begun, raw_index, raw_method, raw_arguments, raw_sp, with_method, at_invoke, begins}

-- ---- numbers

byte_small : (x : Sketch) → abyte x < 2 ^ 8
byte_small x = omega arith

two_bytes : (a b : ℕ) → a < 2 ^ 8 → b < 2 ^ 8 → ((0 * 2 ^ 8 + a) % 2 ^ 32 * 2 ^ 8 + b) % 2 ^ 32 ≡ a * 2 ^ 8 + b
two_bytes a b h k = omega arith

pub index_is : (f : Sketch) → raw_index f ≡ two_byte_operand f
index_is f = two_bytes (abyte f) (abyte (past 1 f)) (byte_small f) (byte_small (past 1 f))

index_small : (f : Sketch) → two_byte_operand f < 2 ^ 16
index_small f = omega (arith, byte_small f, byte_small (past 1 f))

twice : (i p : ℕ) → i < 2 ^ 16 → ((i + i) % 2 ^ 32 + p) % 2 ^ 32 ≡ (p + 2 * i) % 2 ^ 32
twice i p h =
    let small : (i + i) % 2 ^ 32 ≡ i + i = mod-eq_of_lt (omega arith) in
    let same : i + i + p ≡ p + 2 * i = omega arith in
    ap (λ (k : ℕ). (k + p) % 2 ^ 32) small ∙ ap (λ (k : ℕ). k % 2 ^ 32) same

pub entry_is : (f : Sketch) (p : ℕ) → ((raw_index f + raw_index f) % 2 ^ 32 + p) % 2 ^ 32 ≡ (p + 2 * two_byte_operand f) % 2 ^ 32
entry_is f p = ap (λ (i : ℕ). ((i + i) % 2 ^ 32 + p) % 2 ^ 32) (index_is f) ∙ twice (two_byte_operand f) p (index_small f)

-- the SP to be saved is that below the arguments
pub sp_is : (deep under taken others : ℕ) → under + 2 ≡ taken + others → deep + 63 + under < 2 ^ 32 → taken ≤ deep + 63 + under → (deep + 63 + under + (2 ^ 32 - taken)) % 2 ^ 32 ≡ 64 + (deep + others) - 3
sp_is deep under taken others h small most = less_mod (deep + 63 + under) taken most small ∙ omega arith

-- ---- to the common part

-- a call that can be done, about to begin
abbrev pub beginning : Sketch → Low → (t u j1 j2 j3 : ℕ) → (us js : List ℕ) → Sketch
beginning f v t u j1 j2 j3 us js = at INVOKESTATIC (begun f) v t u us (j1 ∷ j2 ∷ j3 ∷ js)

-- the sketch at the common part
abbrev pub f_at : Sketch → (method : ℕ) → Sketch
f_at f m = with_method f (two_byte_operand f) (slice_index f.memory ((m + 1) % 2 ^ 32))

abbrev pub v_at : Sketch → Low → (method : ℕ) → Low
v_at f v m = record v { s1 = argument_words f.memory m }

abbrev pub invoked : Sketch → Low → (m t u j3 : ℕ) → (us js others : List ℕ) → Sketch
invoked f v m t u j3 us js others = invoking (f_at f m) (v_at f v m) m (length f.deep + length others) t u u t j3 us js

pub to_invoke : PartLaws → (n : ℕ) (f : Sketch) (v : Low) (t u j1 j2 j3 : ℕ) (us js : List ℕ) (e : Env) → let x = beginning f v t u j1 j2 j3 us js in (c : CanCall n Invokestatic x) → Shaped n x → e.port ≡ 0
    → Reaches n x (invoked f v (called Invokestatic x) t u j3 us js c.others) e
to_invoke laws n f v t u j1 j2 j3 us js e c h port =
    let x = beginning f v t u j1 j2 j3 us js in
    let m = called Invokestatic x in
    let place = c.method.place in
    let count = c.count in
    let size = c.size in
    let total = h.total in
    let words : length us + 2 ≡ length c.arguments + length c.others = omega (arith, ap (λ (ws : List ℕ). length ws) c.split, length-append c.arguments c.others) in
    let em : raw_method f v ≡ m = ap (λ (k : ℕ). slice_index f.memory k) (entry_is f v.pool) in
    let ea : raw_arguments f (raw_method f v) ≡ argument_words f.memory m =
    ap (λ (k : ℕ). raw_arguments f k) em ∙ ap (λ (k : ℕ). slice_index f.memory k / 2 ^ 16) (mod-eq_of_lt {n = m + 1} {m = 2 ^ 32} (omega arith)) in
    let es : raw_sp f us (raw_arguments f (raw_method f v)) ≡ 64 + (length f.deep + length c.others) - 3 =
    ap (λ (k : ℕ). raw_sp f us k) (ea ∙ sym count) ∙ sp_is (length f.deep) (length us) (length c.arguments) (length c.others) words (omega arith) (omega arith) in
    computed laws n 23 [] x (invoked f v m t u j3 us js c.others) e h port (begins f v t u j1 j2 j3 us js ∙ (λ i. at_invoke f v t u j3 us js (index_is f i) (em i) (ea i) (es i))) refl

-- what the method's frame needs there
pub can_enter : (n : ℕ) (f : Sketch) (v : Low) (t u j1 j2 j3 : ℕ) (us js : List ℕ) → let x = beginning f v t u j1 j2 j3 us js in (c : CanCall n Invokestatic x)
    → CanEnter n (invoked f v (called Invokestatic x) t u j3 us js c.others) (called Invokestatic x) c.arguments c.others
can_enter n f v t u j1 j2 j3 us js c = record {
  method = record { limits = c.method.limits; place = c.method.place; found = c.method.found };
  split = c.split;
  most = c.most;
  room = c.room;
  size = c.size;
  sum = c.sum;
  raise_list = c.raise_list;
}
