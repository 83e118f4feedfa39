-- A call whose frame doesn't fit.
use Rattle.std.proofs.Common.{◌≡◌, ℕ, ◌+◌, ◌/◌, ◌%◌, ◌^◌, ◌<◌, ◌&&◌, Bool, true, false, nat_lt, nat_le, List, [], ◌∷◌, length, refl, ap, ◌∙◌, arith}
use Rattle.std.specs.Prelude.{slice_index}
use Rattle.std.proofs.Math.Nat.{mod-eq_of_lt}
use Rattle.std.proofs.lemmas.Bool.Decides.{nat_tests}
use Rattle.microcode.specs.declared.TheConstants.{RAISE}
use Rattle.jop_core.specs.Operations.{number_of}
use Rattle.micro_sketch.specs.Sketch.{Sketch, exec, same_bool}
use Rattle.micro_sketch.specs.Stands.{Env, Shaped, Reaches, IsDone}
use Rattle.micro_sketch.specs.Rows.{Raises}
use Rattle.call_steps.specs.Method.{frame_words}
use Rattle.call_steps.specs.Entry.{CanEnter, fits_at, raises_at}
use Rattle.call_steps.proofs.Parts.{PartLaws, Low, at, computed}
use Rattle.call_steps.proofs.InvokeRows.{unloaded, low_invoking, invoking, limits, raw_sum}
use Rattle.call_steps.proofs.Invoking.{sum_is}

-- the object of a place of the raise list, as it computes
abbrev pub raw_object : Sketch → Low → (number : ℕ) → ℕ
raw_object f v k = slice_index f.memory ((k + v.raise_list) % 2 ^ 32)

pub object_is : (f : Sketch) (v : Low) (k : ℕ) → v.raise_list + k < 2 ^ 32 → raw_object f v k ≡ slice_index f.memory (v.raise_list + k)
object_is f v k h =
    let order : k + v.raise_list ≡ v.raise_list + k = omega arith in
    ap (λ (j : ℕ). slice_index f.memory (j % 2 ^ 32)) order ∙ ap (λ (j : ℕ). slice_index f.memory j) (mod-eq_of_lt {n = v.raise_list + k} {m = 2 ^ 32} h)

-- at the raise routine with the object; what was read on the way stays in scratch words
abbrev at_raise : Sketch → Low → (m below t u : ℕ) → (us above : List ℕ) → (sum object : ℕ) → (ok : Bool) → Sketch
at_raise f v m below t u us above sum object ok =
    record (at RAISE (record (unloaded f) { value = object }) (record (low_invoking f v m below) { s4 = limits f m / 2 ^ 16; s5 = sum; raised = object }) t u us above) { fine = ok; done = true }

overflows : (f : Sketch) (v : Low) (m below t u j1 j2 j3 : ℕ) (us js : List ℕ) → let x = invoking f v m below t u j1 j2 j3 us js in exec 30 (true ∷ []) x
    ≡ at_raise f v m below t u us (exec 30 (true ∷ []) x).above (raw_sum f m v.frames) (raw_object f v 8) (same_bool true (nat_lt 0 (number_of (nat_lt v.most (raw_sum f m v.frames)))) && true)
overflows f v m below t u j1 j2 j3 us js = refl

fails : (most sum : ℕ) → nat_le sum most ≡ false → (same_bool true (nat_lt 0 (number_of (nat_lt most sum))) && true) ≡ true
fails most sum h =
    let yes : nat_lt most sum ≡ true = grind (arith, nat_tests, h) in
    ap (λ (b : Bool). same_bool true (nat_lt 0 (number_of b)) && true) yes

-- what a row comes to that raises
pub record RaiseMade (n : ℕ) (x : Sketch) (e : Env) (behind number : ℕ) : Type 0 where
  pub after : Sketch
  pub reaches : Reaches n x after e
  pub done : IsDone after
  pub raises : Raises (raises_at x behind number) x after

pub entry_raises : PartLaws → (n : ℕ) (f : Sketch) (v : Low) (m t u j1 j2 j3 : ℕ) (us js arguments others : List ℕ) (e : Env) → let x = invoking f v m (length f.deep + length others) t u j1 j2 j3 us js in CanEnter n x m arguments others
    → fits_at x m ≡ false → Shaped n x → e.port ≡ 0 → RaiseMade n x e f.jpc 8
entry_raises laws n f v m t u j1 j2 j3 us js arguments others e c fit h port =
    let below = length f.deep + length others in
    let x = invoking f v m below t u j1 j2 j3 us js in
    let above = (exec 30 (true ∷ []) x).above in
    let object = slice_index f.memory (v.raise_list + 8) in
    let sum = sum_is (limits f m) v.frames c.method.limits c.sum in
    let ok = ap (λ (k : ℕ). same_bool true (nat_lt 0 (number_of (nat_lt v.most k))) && true) sum ∙ fails v.most (v.frames + frame_words f.memory m) fit in
    let is = object_is f v 8 c.raise_list in
    let y = at_raise f v m below t u us above (v.frames + frame_words f.memory m) object true in
    let reached = computed laws n 29 (true ∷ []) x y e h port (overflows f v m below t u j1 j2 j3 us js ∙ (λ i. at_raise f v m below t u us above (sum i) (is i) (ok i))) refl in
    record {
      after = y;
      reaches = reached;
      done = record { fine = refl {a = true}; done = refl {a = true}; idle = refl {a = false} };
      raises = record {
        mpc = refl;
        running = refl;
        words = refl;
        deep = refl;
        low = refl;
        memory = refl;
        jpc = refl;
        opcode = refl;
        answers = refl;
        output = refl;
        kept = record { vp = refl; method = refl; cache = refl; hits = refl; misses = refl; loads = refl; loaded = refl };
      };
    }
