-- Rows that load a local variable, store into one or add to one.
use Rattle.std.proofs.Common.{◌≡◌, ℕ, zero, suc, ◌+◌, ◌-◌, ◌%◌, ◌^◌, ◌<◌, ◌≤◌, true, false, cond, nat_lt, ◌&&◌, ℤ, List, [], ◌∷◌, ◌++◌, Option, Some, length, set, reverse, refl, sym, ◌∙◌, ap, subst, arith, lt-ltb, length-append}
use Rattle.std.specs.Prelude.{slice_get, slice_index, ◌+ℤ◌}
use Rattle.std.proofs.lemmas.Bool.{le-ltb}
use Rattle.std.proofs.lemmas.List.{get_or-append-add, set-append_right}
use Rattle.std.proofs.Math.ListN.{length-set}
use Rattle.std.specs.Int.{w32, int_wrap}
use Rattle.std.specs.Int.RustNames.{FitsSigned}
use Rattle.std.proofs.lemmas.Option.{none-some}
use Rattle.lists.proofs.Lemmas.{holds_at, some_same}
use Rattle.opcodes.specs.declared.instruction.Instr.{Instr}
use Rattle.jop_core.specs.State as machine
use Rattle.micro_sketch.specs.Sketch.{Sketch, inside}
use Rattle.micro_sketch.specs.Row.{words_of}
use Rattle.micro_sketch.specs.Opcodes as plain
use Rattle.micro_sketch.specs.Opcodes.{PlainOp, IsReady}
use Rattle.bytecode_model.specs.declared.Value.{Value}
use Rattle.bytecode_model.specs.declared.Value.TheVariants.{Int, Long, Ref, Null, Unset}
use Rattle.bytecode_model.specs.Lists.{replaced}
use Rattle.bytecode_model.specs.Types.{LongType, Moved, Numbers, is_moved}
use Rattle.bytecode_model.specs.State.{Frame, State}
use Rattle.bytecode_model.specs.Program.{Program, body_of}
use Rattle.bytecode_model.specs.Rows as rows
use Rattle.bytecode_model.specs.Rows.{Row}
use Rattle.bytecode_model.specs.Effects.{Effect, Go, on, only_if, stored, incremented}
use Rattle.bytecode_model.specs.WellFormed as formed
use Rattle.image_facts.specs.Words.{int_word, high_word, low_word}
use Rattle.image_facts.specs.Places.{Places, object_place}
use Rattle.machine_stands.specs.Frames.{IsWordOf, AreOperands, stacked}
use Rattle.machine_stands.specs.StandsFor.{StandsFor, limits_of}
use Rattle.machine_stands.specs.Comes.{ComesTo}
use Rattle.opcode_steps.proofs.ValueLemmas.Defined.{on_defined, only_if_defined, on_top_defined}
use Rattle.opcode_steps.proofs.ValueLemmas.Locals.{is_word, word_is_short, word_at, long_at, one_stored, two_stored, int_replaced}
use Rattle.opcode_steps.proofs.ValueLemmas.Ints.{added}
use Rattle.opcode_steps.proofs.ValueLemmas.Scenes.{Laws, Scene, moved, comes}
use Rattle.opcode_steps.proofs.ValueLemmas.Pushing.{pushes_one, pushes_long}

-- ---- the local variables among the words below the stack

-- what the sketch has at a local variable
pub record HasAt (k : ℕ) (x : Sketch) (below locals : List ℕ) : Type 0 where
  pub inside : inside (x.vp + k) x ≡ true
  pub read : slice_index x.deep (x.vp + k - 64) ≡ slice_index locals k
  pub written : (word : ℕ) → set x.deep (x.vp + k - 64) word ≡ below ++ set locals k word

is_inside : (k vp : ℕ) (deep : List ℕ) → 64 ≤ vp → vp + k < 64 + length deep → (cond (nat_lt (vp + k) 64) false true && nat_lt (vp + k) (64 + length deep)) ≡ true
is_inside k vp deep low high =
    let a : nat_lt (vp + k) 64 ≡ false = le-ltb (vp + k) 64 (omega (arith, low)) in
    let b : nat_lt (vp + k) (64 + length deep) ≡ true = lt-ltb (vp + k) (64 + length deep) high in
    rw (a, b) refl

pub has_at : (k : ℕ) (x : Sketch) (below locals : List ℕ) → x.vp ≡ 64 + length below → x.deep ≡ below ++ locals → k < length locals → HasAt k x below locals
has_at k x below locals vp deep less =
    let place : x.vp + k - 64 ≡ length below + k = omega (arith, vp) in
    let count : length x.deep ≡ length below + length locals = ap (λ (ws : List ℕ). length ws) deep ∙ length-append below locals in
    record {
      inside = is_inside k x.vp x.deep (omega (arith, vp)) (omega (arith, vp, count, less));
      read = ap (slice_index x.deep) place ∙ ap (λ (ws : List ℕ). slice_index ws (length below + k)) deep ∙ get_or-append-add below locals k 0;
      written = λ word. ap (λ (i : ℕ). set x.deep i word) place ∙ ap (λ (ws : List ℕ). set ws (length below + k) word) deep
          ∙ set-append_right below locals (length below) (length below + k) word refl (omega arith)
          ∙ ap (λ (i : ℕ). below ++ set locals i word) (let same : length below + k - length below ≡ k = omega arith in same);
    }

heads : (x y : ℕ) (xs ys : List ℕ) → x ∷ xs ≡ y ∷ ys → x ≡ y
heads x y xs ys e = cc

tails : (x y : ℕ) (xs ys : List ℕ) → x ∷ xs ≡ y ∷ ys → xs ≡ ys
tails x y xs ys e = cc

long_moved : (v : Value) → is_moved (Numbers LongType) v ≡ true → (n : ℤ) × (v ≡ Long n)
long_moved (Long n) h = (n, refl)
long_moved (Int n) h = absurd (cc)
long_moved (Ref p) h = absurd (cc)
long_moved Null h = absurd (cc)
long_moved Unset h = absurd (cc)

int_incremented : (v : Value) (by : ℤ) (u : Value) → incremented v by ≡ Some u → (n : ℤ) × (v ≡ Int n) × (u ≡ Int (int_wrap w32 (n +ℤ by)))
int_incremented (Int n) by u h = (n, refl, sym (some_same (Int (int_wrap w32 (n +ℤ by))) u h))
int_incremented (Long n) by u h = absurd (none-some u h)
int_incremented (Ref p) by u h = absurd (none-some u h)
int_incremented Null by u h = absurd (none-some u h)
int_incremented Unset by u h = absurd (none-some u h)

value_at : (objects : ℕ) (vs : List Value) (k : ℕ) (v : Value) → formed.AreValues objects vs → slice_get vs k ≡ Some v → formed.IsValue objects v
value_at objects [] k v h e = absurd (none-some v e)
value_at objects (u ∷ vs) zero v h e = subst (λ (t : Value). formed.IsValue objects t) (some_same u v e) h.0
value_at objects (u ∷ vs) (suc k) v h e = value_at objects vs k v h.1 e

module _ (laws : Laws) (P : Program) (pl : Places) (n size : ℕ) (m : machine.MachineState) (answer : Option ℕ) (s s' : State) (st : StandsFor P pl n size m s) (i : Instr) (op : PlainOp) (j : ℕ) (x : Sketch) where
  at_local : (r : Row) (k : ℕ) → Scene P pl n size m answer s s' st i r op j x → k < length st.words.locals → HasAt k x (stacked st.below) st.words.locals
  at_local r k at less = has_at k x (stacked st.below) st.words.locals at.shows.vp at.shows.deep less

  -- ---- loads

  pub loads_one : (sort : Moved) (k : ℕ) → Scene P pl n size m answer s s' st i (rows.Load sort k) op j x → (inside (x.vp + k) x ≡ true → x.vp + k < 2 ^ 32 → IsReady op x)
      → plain.effect op x ≡ moved (slice_index x.deep (x.vp + k - 64) ∷ words_of x) x.deep j x → ((v : Value) → is_moved sort v ≡ true → is_word v ≡ true) → ComesTo P pl n size m s s'
  loads_one sort k at ready makes word =
      let next = st.top.pc + i.length in
      let place = object_place P pl s.objects in
      let limits = limits_of P pl n size in
      let go : Value → Effect = λ v. Go next st.top.locals (v ∷ st.top.operands) in
      let d = on_defined P limits answer s st.top st.callers s' (slice_get st.top.locals k) (λ v. only_if (is_moved sort v) (go v)) at.instruction.step in
      let o = only_if_defined P limits answer s st.top st.callers s' (is_moved sort d.0) (go d.0) d.3 in
      let set = word d.0 o.0 in
      let w = word_at place st.top.locals st.words.locals st.are_frames.0.locals k d.0 d.1 set in
      let l = at_local (rows.Load sort k) k at w.0 in
      pushes_one laws P pl n size m answer s s' st i (rows.Load sort k) op j x d.0 (slice_index x.deep (x.vp + k - 64)) at (ready l.inside (omega (arith, at.shows.small, w.0))) makes (d.2 ∙ o.1)
      (word_is_short d.0 set) (subst (λ (u : ℕ). IsWordOf place d.0 u) (sym l.read) w.1)

  pub loads_long : (k : ℕ) → Scene P pl n size m answer s s' st i (rows.Load (Numbers LongType) k) op j x
      → (inside (x.vp + k) x ≡ true → inside (x.vp + (k + 1)) x ≡ true → x.vp + k + 1 < 2 ^ 32 → IsReady op x)
      → plain.effect op x ≡ moved (slice_index x.deep (x.vp + (k + 1) - 64) ∷ slice_index x.deep (x.vp + k - 64) ∷ words_of x) x.deep j x → ComesTo P pl n size m s s'
  loads_long k at ready makes =
      let r = rows.Load (Numbers LongType) k in
      let next = st.top.pc + i.length in
      let limits = limits_of P pl n size in
      let go : Value → Effect = λ v. Go next st.top.locals (v ∷ st.top.operands) in
      let d = on_defined P limits answer s st.top st.callers s' (slice_get st.top.locals k) (λ v. only_if (is_moved (Numbers LongType) v) (go v)) at.instruction.step in
      let o = only_if_defined P limits answer s st.top st.callers s' (is_moved (Numbers LongType) d.0) (go d.0) d.3 in
      let v = long_moved d.0 o.0 in
      let w = long_at (object_place P pl s.objects) st.top.locals st.words.locals st.are_frames.0.locals k v.0 (d.1 ∙ ap (λ u. Some u) v.1) in
      let high = at_local r k at (omega (arith, w.0)) in
      let low = at_local r (k + 1) at w.0 in
      pushes_long laws P pl n size m answer s s' st i r op j x v.0 (slice_index x.deep (x.vp + (k + 1) - 64)) (slice_index x.deep (x.vp + k - 64)) at
      (ready high.inside low.inside (omega (arith, at.shows.small, w.0))) makes (d.2 ∙ o.1 ∙ ap go v.1) (low.read ∙ w.2) (high.read ∙ w.1)

  -- ---- stores

  pub stores_one : (sort : Moved) (k : ℕ) → Scene P pl n size m answer s s' st i (rows.Store sort k) op j x → (inside (x.vp + k) x ≡ true → x.vp + k < 2 ^ 32 → IsReady op x)
      → plain.effect op x ≡ moved (x.next ∷ x.under) (set x.deep (x.vp + k - 64) x.top) j x → ((v : Value) → is_moved sort v ≡ true → is_word v ≡ true) → ComesTo P pl n size m s s'
  stores_one sort k at ready makes word =
      let r = rows.Store sort k in
      let next = st.top.pc + i.length in
      let place = object_place P pl s.objects in
      let limits = limits_of P pl n size in
      let t = on_top_defined P limits answer s st.top st.callers s' st.top.operands (λ v rest. only_if (is_moved sort v) (on (stored st.top.locals k v) (λ ls. Go next ls rest))) at.instruction.step in
      let v = t.0 in
      let rest = t.1 in
      let o = only_if_defined P limits answer s st.top st.callers s' (is_moved sort v) (on (stored st.top.locals k v) (λ ls. Go next ls rest)) t.4 in
      let d = on_defined P limits answer s st.top st.callers s' (stored st.top.locals k v) (λ ls. Go next ls rest) o.2 in
      let short = word_is_short v (word v o.0) in
      let one = laws.one place v rest st.words.operands short (subst (λ (vs : List Value). AreOperands place vs st.words.operands) t.2 st.are_frames.0.operands) in
      let words : x.top ∷ x.next ∷ x.under ≡ one.word ∷ (one.others ++ reverse st.words.saved) = at.shows.words ∙ ap (λ (ws : List ℕ). ws ++ reverse st.words.saved) one.split in
      let first : x.top ≡ one.word = heads x.top one.word (x.next ∷ x.under) (one.others ++ reverse st.words.saved) words in
      let stack = tails x.top one.word (x.next ∷ x.under) (one.others ++ reverse st.words.saved) words in
      let w = one_stored place st.top.locals st.words.locals st.are_frames.0.locals k v one.word d.0 short one.is d.1 in
      let l = at_local r k at w.0 in
      comes laws P pl n size m answer s s' st i r op j x d.0 rest (x.next ∷ x.under) (set x.deep (x.vp + k - 64) x.top) (set st.words.locals k one.word) one.others at
      (ready l.inside (omega (arith, at.shows.small, w.0))) makes (t.3 ∙ o.1 ∙ d.2) w.1 one.stay stack (ap (λ (u : ℕ). set x.deep (x.vp + k - 64) u) first ∙ l.written one.word)

  pub stores_long : (k : ℕ) → Scene P pl n size m answer s s' st i (rows.Store (Numbers LongType) k) op j x
      → (inside (x.vp + k) x ≡ true → inside (x.vp + (k + 1)) x ≡ true → x.vp + k + 1 < 2 ^ 32 → IsReady op x)
      → plain.effect op x ≡ moved x.under (set (set x.deep (x.vp + (k + 1) - 64) x.top) (x.vp + k - 64) x.next) j x → ComesTo P pl n size m s s'
  stores_long k at ready makes =
      let sort = Numbers LongType in
      let r = rows.Store sort k in
      let next = st.top.pc + i.length in
      let place = object_place P pl s.objects in
      let limits = limits_of P pl n size in
      let t = on_top_defined P limits answer s st.top st.callers s' st.top.operands (λ v rest. only_if (is_moved sort v) (on (stored st.top.locals k v) (λ ls. Go next ls rest))) at.instruction.step in
      let rest = t.1 in
      let o = only_if_defined P limits answer s st.top st.callers s' (is_moved sort t.0) (on (stored st.top.locals k t.0) (λ ls. Go next ls rest)) t.4 in
      let d = on_defined P limits answer s st.top st.callers s' (stored st.top.locals k t.0) (λ ls. Go next ls rest) o.2 in
      let v = long_moved t.0 o.0 in
      let ops : st.top.operands ≡ Long v.0 ∷ rest = t.2 ∙ ap (λ (u : Value). u ∷ rest) v.1 in
      let two = laws.two place v.0 rest st.words.operands (subst (λ (vs : List Value). AreOperands place vs st.words.operands) ops st.are_frames.0.operands) in
      let back = two.others ++ reverse st.words.saved in
      let words : x.top ∷ x.next ∷ x.under ≡ low_word v.0 ∷ high_word v.0 ∷ back = at.shows.words ∙ ap (λ (ws : List ℕ). ws ++ reverse st.words.saved) two.split in
      let first = heads x.top (low_word v.0) (x.next ∷ x.under) (high_word v.0 ∷ back) words in
      let others = tails x.top (low_word v.0) (x.next ∷ x.under) (high_word v.0 ∷ back) words in
      let second = heads x.next (high_word v.0) x.under back others in
      let w = two_stored place st.top.locals st.words.locals st.are_frames.0.locals k v.0 d.0 (ap (λ (u : Value). stored st.top.locals k u) (sym v.1) ∙ d.1) in
      let high = at_local r k at (omega (arith, w.0)) in
      let low = at_local r (k + 1) at w.0 in
      let both : set (set x.deep (x.vp + (k + 1) - 64) x.top) (x.vp + k - 64) x.next ≡ stacked st.below ++ set (set st.words.locals (k + 1) (low_word v.0)) k (high_word v.0) =
      ap (λ (u : ℕ). set (set x.deep (x.vp + (k + 1) - 64) u) (x.vp + k - 64) x.next) first ∙ ap (λ (u : ℕ). set (set x.deep (x.vp + (k + 1) - 64) (low_word v.0)) (x.vp + k - 64) u) second
      ∙ ap (λ (ws : List ℕ). set ws (x.vp + k - 64) (high_word v.0)) (low.written (low_word v.0))
      ∙ (has_at k (record x { deep = stacked st.below ++ set st.words.locals (k + 1) (low_word v.0) }) (stacked st.below) (set st.words.locals (k + 1) (low_word v.0)) at.shows.vp refl
      (omega (arith, w.0, length-set st.words.locals (k + 1) (low_word v.0)))).written (high_word v.0) in
      comes laws P pl n size m answer s s' st i r op j x d.0 rest x.under (set (set x.deep (x.vp + (k + 1) - 64) x.top) (x.vp + k - 64) x.next)
      (set (set st.words.locals (k + 1) (low_word v.0)) k (high_word v.0)) two.others at
      (ready high.inside low.inside (omega (arith, at.shows.small, w.0))) makes (t.3 ∙ o.1 ∙ d.2) w.1 two.stay (tails x.next (high_word v.0) x.under back others) both

  -- ---- the increment

  pub increments : (k : ℕ) (by : ℤ) (word : ℕ) → Scene P pl n size m answer s s' st i (rows.Increment k by) op j x → (inside (x.vp + k) x ≡ true → x.vp + k < 2 ^ 32 → IsReady op x)
      → plain.effect op x ≡ moved (words_of x) (set x.deep (x.vp + k - 64) ((slice_index x.deep (x.vp + k - 64) + word) % 2 ^ 32)) j x → word ≡ int_word by → FitsSigned w32 by → ComesTo P pl n size m s s'
  increments k by word at ready makes is fits =
      let r = rows.Increment k by in
      let next = st.top.pc + i.length in
      let place = object_place P pl s.objects in
      let limits = limits_of P pl n size in
      let d = on_defined P limits answer s st.top st.callers s' (slice_get st.top.locals k) (λ v. on (incremented v by) (λ u. on (replaced st.top.locals k u) (λ ls. Go next ls st.top.operands))) at.instruction.step in
      let c = on_defined P limits answer s st.top st.callers s' (incremented d.0 by) (λ u. on (replaced st.top.locals k u) (λ ls. Go next ls st.top.operands)) d.3 in
      let e = on_defined P limits answer s st.top st.callers s' (replaced st.top.locals k c.0) (λ ls. Go next ls st.top.operands) c.3 in
      let v = int_incremented d.0 by c.0 c.1 in
      let had : slice_get st.top.locals k ≡ Some (Int v.0) = d.1 ∙ ap (λ u. Some u) v.1 in
      let sum = int_wrap w32 (v.0 +ℤ by) in
      let w = word_at place st.top.locals st.words.locals st.are_frames.0.locals k (Int v.0) had refl in
      let l = at_local r k at w.0 in
      let frames = subst (λ (fs : List Frame). formed.AreFrames P (length s.objects) fs) st.frames at.well.frames in
      let frame = holds_at (body_of P st.top.method) st.body (formed.IsFrame P (length s.objects) st.top) st.is_body frames.0 in
      let small = value_at (length s.objects) st.top.locals k (Int v.0) frame.local_values had in
      let number : (slice_index x.deep (x.vp + k - 64) + word) % 2 ^ 32 ≡ int_word sum =
      ap (λ (u : ℕ). (u + word) % 2 ^ 32) (l.read ∙ w.1) ∙ ap (λ (u : ℕ). (int_word v.0 + u) % 2 ^ 32) is ∙ added v.0 by small fits in
      comes laws P pl n size m answer s s' st i r op j x e.0 st.top.operands (words_of x) (set x.deep (x.vp + k - 64) ((slice_index x.deep (x.vp + k - 64) + word) % 2 ^ 32))
      (set st.words.locals k (int_word sum)) st.words.operands at (ready l.inside (omega (arith, at.shows.small, w.0))) makes (d.2 ∙ c.2 ∙ e.2)
      (int_replaced place st.top.locals st.words.locals st.are_frames.0.locals k v.0 sum e.0 had (ap (λ (u : Value). replaced st.top.locals k u) (sym v.2) ∙ e.1))
      st.are_frames.0.operands at.shows.words (ap (λ (u : ℕ). set x.deep (x.vp + k - 64) u) number ∙ l.written (int_word sum))
