-- A step of the raise routine, put together of its parts.
use Rattle.std.proofs.Common.{◌≡◌, ℕ, zero, suc, ◌+◌, ◌-◌, ◌/◌, ◌%◌, ◌^◌, ◌<◌, ◌≤◌, ◌==◌, ◌&&◌, Bool, true, false, nat_lt, if◌then◌else◌, List, [], ◌∷◌, ◌++◌, Option, Some, None, length, reverse, bit_and, refl, sym, ap, ◌∙◌, subst, arith, append_assoc, length-append, zero-add, lt-ltb, le-ltb}
use Rattle.std.specs.Prelude.{slice_index}
use Rattle.std.proofs.Math.Nat.{mod-eq_of_lt}
use Rattle.std.proofs.lemmas.Nat.{and_mask}
use Rattle.std.proofs.lemmas.Bool.Decides.{nat_tests}
use Rattle.std.proofs.lemmas.List.{length-reverse}
use Rattle.micro_sketch.proofs.Frames.{reverse_aux-both}
use mathlib.Core.List.{reverse_aux, reverse_aux-eq}
use Rattle.microcode.specs.declared.TheConstants.{RAISE}
use Rattle.microcode.specs.declared.addresses.TheConstants.{HANDLER_FOUND, DROP_FRAME, END}
use Rattle.jop_core.specs.declared.halt.Halt.TheVariants.{Running}
use Rattle.micro_sketch.specs.Sketch.{Sketch, exec, same_bool, inside}
use Rattle.micro_sketch.specs.Stands.{Env, Shaped, Reaches}
use Rattle.micro_sketch.specs.Rows.{head_of, tail_of, shown}
use Rattle.call_steps.specs.Method.{max_locals, frame_words}
use Rattle.call_steps.specs.Returns.{Saved, saved_words}
use Rattle.call_steps.specs.Parts.{PartLaws, Low, low_of, at, computed, followed_by}
use Rattle.call_steps.specs.Raise.{IsRaising, HasTable, handler_of, target_for, HasFrame, Handled, HandlersRun, HasCaller, Dropped, FramesDrop, Stopped, LastStops}
use Rattle.call_steps.proofs.RaiseRows.{unloaded, entries_read, turning, opens, limits_of, raw_top, raw_target, at_cut, cuts, at_saved, handling, handles, left_over, low_left, at_drop, leaves, at_dropped, low_taken, at_second, takes_over, at_caller, again, goes_again, stopped, stops}
use Rattle.call_steps.proofs.RaiseSearch.{Looked, Ends, go_through}

-- ---- the sketch with its words shown

shown_is : (k : ℕ) (xs : List ℕ) → k ≤ length xs → shown k xs ≡ xs
shown_is zero xs h = refl
shown_is (suc k) [] h = absurd (omega (arith, h))
shown_is (suc k) (x ∷ xs) h = ap (λ (ys : List ℕ). x ∷ ys) (shown_is k xs (omega (arith, h)))

-- x with the words of its places and some past its stack shown
abbrev opened : Sketch → Sketch
opened x = record (unloaded x) { mpc = RAISE; busy = false; halt = Running; fine = true; done = false; low = shown 32 x.low; above = shown 3 x.above }

opened_is : (n : ℕ) (x : Sketch) (e : Env) → IsRaising n x e → opened x ≡ x
opened_is n x e h =
    let low : shown 32 x.low ≡ x.low = shown_is 32 x.low (omega (arith, h.shape.low)) in
    let above : shown 3 x.above ≡ x.above = shown_is 3 x.above h.above in
    λ i. record x {
      loads = sym h.loads i;
      words = sym h.loaded i;
      output = sym h.silent i;
      mpc = sym h.mpc i;
      busy = sym h.free i;
      halt = sym h.running i;
      fine = sym h.fine i;
      done = sym h.going i;
      low = low i;
      above = above i;
    }

-- ---- to an entry's handler, or to where the frame goes

abbrev raising : Sketch → Low → (t u a b c : ℕ) → (us js : List ℕ) → Sketch
raising f v t u a b c us js = at RAISE (unloaded f) v t u us (a ∷ b ∷ c ∷ js)

abbrev table_type : Sketch → Low → ℕ
table_type f v = slice_index f.memory v.raised

-- the run to the first entry comes before
looked_first : PartLaws → (n : ℕ) (x y : Sketch) (e : Env) (mpc : ℕ) (f : Sketch) (v : Low) (value t u : ℕ) (us : List ℕ) (type : ℕ) → (r : Reaches n x y e) → y.done ≡ false
    → Looked n y r.env mpc (record f { value = value }) v t u us type → Looked n x e mpc f v t u us type
looked_first laws n x y e mpc f v value t u us type r going l = record {
  count = l.count;
  place = l.place;
  range = l.range;
  number = l.number;
  value = l.value;
  left = l.left;
  a = l.a;
  b = l.b;
  c = l.c;
  js = l.js;
  reaches = followed_by laws n x y _ e r l.reaches going;
  kept = l.kept;
}

ends_first : PartLaws → (n : ℕ) (x y : Sketch) (e : Env) (f : Sketch) (v : Low) (value t u : ℕ) (us : List ℕ) (type : ℕ) (o : Option ℕ) → (r : Reaches n x y e) → y.done ≡ false
    → Ends n y r.env (record f { value = value }) v t u us type o → Ends n x e f v t u us type o
unfolding looked_first
ends_first laws n x y e f v value t u us type None r going l = looked_first laws n x y e DROP_FRAME f v value t u us type r going l
ends_first laws n x y e f v value t u us type (Some target) r going l =
    record { looked = looked_first laws n x y e HANDLER_FOUND f v value t u us type r going l.looked; target_is = l.target_is; small = l.small }

looks : PartLaws → (n : ℕ) (f : Sketch) (v : Low) (t u a b c : ℕ) (us js : List ℕ) (e : Env) → let x = raising f v t u a b c us js in (table : HasTable x) → Shaped n x → e.port ≡ 0
    → Ends n x e (unloaded f) v t u us (table_type f v) (target_for f.memory (table_type f v) f.jpc table.entries)
looks laws n f v t u a b c us js e table h port =
    let x = raising f v t u a b c us js in
    let g = unloaded f in
    let type = table_type f v in
    let es = table.entries in
    let small = table.small in
    let place = v.method + 4 in
    let value = entries_read f v in
    let count : value ≡ length es = ap (λ (k : ℕ). slice_index f.memory k) (mod-eq_of_lt {n = v.method + 3} {m = 2 ^ 32} (omega arith)) ∙ table.count in
    let to : ℕ → ℕ → Sketch = λ i j. turning (record g { value = value }) v t u u t c us js type i j in
    let same : to value ((v.method + 4) % 2 ^ 32) ≡ to (length es) place = λ i. to (count i) (mod-eq_of_lt {n = v.method + 4} {m = 2 ^ 32} (omega arith) i) in
    let y = to (length es) place in
    let r = computed laws n 15 [] x y e h port (opens f v t u a b c us js ∙ same) refl in
    ends_first laws n x y e g v value t u us type (target_for f.memory type f.jpc es) r refl
    (go_through laws n es (record g { value = value }) v t u u t c us js type place r.env table.are (omega arith) table.jpc table.turns r.shape r.port)

-- ---- lists

-- the words of the stack, of which the saved ones are apart from those that are left
saved_apart : (deep us js left : List ℕ) (t u k : ℕ) (d : Saved) → t ∷ u ∷ us ≡ left ++ saved_words d
    → deep ++ reverse_aux us (u ∷ t ∷ k ∷ js) ≡ deep ++ (d.sp ∷ d.jpc ∷ d.vp ∷ d.pool ∷ d.method ∷ reverse_aux left (k ∷ js))
saved_apart deep us js left t u k d h = ap (λ (ws : List ℕ). deep ++ reverse_aux ws (k ∷ js)) h ∙ ap (λ (ws : List ℕ). deep ++ ws) (reverse_aux-both left (saved_words d) (k ∷ js))

-- ---- a handler is entered

top_is : (locals vp : ℕ) → vp + locals + 4 < 2 ^ 32 → ((locals + vp) % 2 ^ 32 + 4) % 2 ^ 32 ≡ vp + locals + 4
top_is locals vp h =
    let order : locals + vp ≡ vp + locals = omega arith in
    ap (λ (k : ℕ). (k + 4) % 2 ^ 32) (ap (λ (k : ℕ). k % 2 ^ 32) order ∙ mod-eq_of_lt {n = vp + locals} {m = 2 ^ 32} (omega arith)) ∙ mod-eq_of_lt {n = vp + locals + 4} {m = 2 ^ 32} h

handled : PartLaws → (n : ℕ) (f : Sketch) (v : Low) (t u a b c : ℕ) (us js : List ℕ) (e : Env) (target : ℕ) → let x = raising f v t u a b c us js in (table : HasTable x) → (frame : HasFrame n x) → handler_of x table ≡ Some target
    → target < 2 ^ 16 → Shaped n x → e.port ≡ 0 → Handled n x e target frame
handled laws n f v t u a b c us js e target table frame is few h port =
    let x = raising f v t u a b c us js in
    let type = table_type f v in
    let at_target = subst (λ o. Ends n x e (unloaded f) v t u us type o) is (looks laws n f v t u a b c us js e table h port) in
    let l = at_target.looked in
    let f1 = record (unloaded f) { value = l.value; left = l.left } in
    let v1 : Low = record v { s10 = type; s11 = l.count; s12 = l.place; s13 = l.range; s14 = l.number } in
    let y1 = at HANDLER_FOUND f1 v1 t u us (l.a ∷ l.b ∷ l.c ∷ l.js) in
    let top = f.vp + max_locals f.memory v.method + 4 in
    let locals = frame.locals_count in
    let place = frame.place in
    let vp = frame.vp in
    let target_is : raw_target f1 v1 ≡ target = ap (λ (k : ℕ). slice_index f.memory k) (mod-eq_of_lt {n = l.place + 1} {m = 2 ^ 32} at_target.small) ∙ at_target.target_is in
    let sp_is : raw_top f1 v1 ≡ top = top_is (max_locals f.memory v.method) f.vp (omega arith) in
    let y2 = at_cut f1 v1 t u l.c us l.js target top in
    let r1 = l.reaches in
    let r2 = computed laws n 22 [] y1 y2 r1.env r1.shape r1.port (cuts f1 v1 t u l.a l.b l.c us l.js ∙ (λ i. at_cut f1 v1 t u l.c us l.js (target_is i) (sp_is i))) refl in
    let d = frame.saved in
    let past = reverse_aux frame.left (l.c ∷ l.js) in
    let f2 = record f1 { value = limits_of f1 v1 } in
    let v2 : Low = record v1 { s13 = target; s15 = top } in
    let y3 = at_saved f2 v2 t u d past in
    let deep_long = ap (λ (ws : List ℕ). length ws) frame.deep ∙ length-append frame.below frame.locals in
    let r3 = laws.moves n y2 r2.env false false f.deep (d.method ∷ d.pool ∷ d.vp ∷ d.jpc ∷ d.sp ∷ []) past (record { not_done = refl; running = refl }) r2.shape r2.port (record { code = 30; word = refl; is = refl })
    (saved_apart f.deep us l.js frame.left t u l.c d frame.stack) (omega (arith, deep_long, vp, locals)) refl in
    let above = (exec 7 [] y3).above in
    let y4 = handling f2 v2 d above target true in
    let r4 = computed laws n 6 [] y3 y4 r3.env r3.shape r3.port
    (handles f2 v2 t u d past ∙ (λ i. handling f2 v2 d above (mod-eq_of_lt {n = target} {m = 2 ^ 16} few i) ((frame.found i && true) && true))) refl in
    record {
      after = y4;
      reaches = followed_by laws n x y1 y4 e r1 (followed_by laws n y1 y2 y4 r1.env r2 (followed_by laws n y2 y3 y4 r2.env r3 r4 refl) refl) refl;
      done = record { fine = refl {a = true}; done = refl {a = true}; idle = refl {a = false} };
      switches = record {
        words = refl;
        deep = refl;
        low = refl;
        memory = refl;
        vp = refl;
        method = refl;
        cache = refl;
        hits = refl;
        misses = refl;
        loads = zero-add _;
        loaded = zero-add _;
        answers = refl;
        output = refl;
        opcode = refl;
        jpc = refl;
        mpc = refl;
        operand = refl;
        running = refl;
      };
    }

-- ---- the frame goes

less_mod : (a b : ℕ) → b ≤ a → a < 2 ^ 32 → (a + (2 ^ 32 - b)) % 2 ^ 32 ≡ a - b
less_mod a b h l = omega arith

frames_are : (w frames : ℕ) → w / 2 ^ 16 + 5 + w % 2 ^ 16 ≤ frames → frames < 2 ^ 32
    → (((frames + (2 ^ 32 - bit_and w 65535)) % 2 ^ 32 + (2 ^ 32 - w / 2 ^ 16)) % 2 ^ 32 + (2 ^ 32 - 5)) % 2 ^ 32 ≡ frames - (w / 2 ^ 16 + 5 + w % 2 ^ 16)
frames_are w frames h s =
    let a : ℕ = w / 2 ^ 16 in
    let b : ℕ = w % 2 ^ 16 in
    ap (λ (k : ℕ). (((frames + (2 ^ 32 - k)) % 2 ^ 32 + (2 ^ 32 - a)) % 2 ^ 32 + (2 ^ 32 - 5)) % 2 ^ 32) (and_mask w 16)
    ∙ ap (λ (k : ℕ). ((k + (2 ^ 32 - a)) % 2 ^ 32 + (2 ^ 32 - 5)) % 2 ^ 32) (less_mod frames b (omega arith) s)
    ∙ ap (λ (k : ℕ). (k + (2 ^ 32 - 5)) % 2 ^ 32) (less_mod (frames - b) a (omega arith) (omega arith))
    ∙ less_mod (frames - b - a) 5 (omega arith) (omega arith) ∙ omega arith

last_is : (vp locals : ℕ) → vp + locals + 4 < 2 ^ 32 → ((vp + locals) % 2 ^ 32 + 4) % 2 ^ 32 ≡ vp + locals + 4
last_is vp locals h = ap (λ (k : ℕ). (k + 4) % 2 ^ 32) (mod-eq_of_lt {n = vp + locals} {m = 2 ^ 32} (omega arith)) ∙ mod-eq_of_lt {n = vp + locals + 4} {m = 2 ^ 32} h

not_boot : (k : ℕ) → 64 < k → (same_bool false (k == 64) && true) ≡ true
not_boot k h = let no : (k == 64) ≡ false = grind (arith, nat_tests, h) in ap (λ (b : Bool). same_bool false b && true) no

is_inside : (k : ℕ) (f : Sketch) → 64 ≤ k → k < 64 + length f.deep → (inside k f && true) ≡ true
is_inside k f h l = ap (λ (b : Bool). ((if b then false else true) && nat_lt k (64 + length f.deep)) && true) (le-ltb k 64 h) ∙ ap (λ (b : Bool). b && true) (lt-ltb k (64 + length f.deep) l)

-- the two last words of a list
record Last (xs : List ℕ) : Type 0 where
  first : List ℕ
  a : ℕ
  b : ℕ
  same : xs ≡ first ++ (a ∷ b ∷ [])

last_two : (xs : List ℕ) → 2 ≤ length xs → Last xs
last_two [] h = absurd (omega arith)
last_two (a ∷ []) h = absurd (omega arith)
last_two (a ∷ b ∷ []) h = record { first = []; a = a; b = b; same = refl }
last_two (x ∷ a ∷ b ∷ xs) h =
    let l = last_two (a ∷ b ∷ xs) (omega arith) in
    record { first = x ∷ l.first; a = l.a; b = l.b; same = ap (λ (ys : List ℕ). x ∷ ys) l.same }

-- the two first words of a list
record First (xs : List ℕ) : Type 0 where
  a : ℕ
  b : ℕ
  rest : List ℕ
  same : a ∷ b ∷ rest ≡ xs

first_two : (xs : List ℕ) → 2 ≤ length xs → First xs
first_two [] h = absurd (omega arith)
first_two (a ∷ []) h = absurd (omega arith)
first_two (a ∷ b ∷ rest) h = record { a = a; b = b; rest = rest; same = refl }

-- the words of the caller, and what is past them
caller_words : (first lower words locals past : List ℕ) (a b : ℕ) → (lower ++ reverse words) ++ locals ≡ first ++ (a ∷ b ∷ []) → first ++ (a ∷ b ∷ past) ≡ lower ++ reverse_aux words (locals ++ past)
caller_words first lower words locals past a b h =
    sym (append_assoc first (a ∷ b ∷ []) past) ∙ ap (λ (ws : List ℕ). ws ++ past) (sym h) ∙ regrouped lower (reverse words) locals past
    ∙ ap (λ (ws : List ℕ). lower ++ ws) (sym (reverse_aux-eq words (locals ++ past)))
  where
    regrouped : (a b c d : List ℕ) → ((a ++ b) ++ c) ++ d ≡ a ++ (b ++ (c ++ d))
    regrouped a b c d = simp append_assoc

dropped : PartLaws → (n : ℕ) (f : Sketch) (v : Low) (t u a b c : ℕ) (us js : List ℕ) (e : Env) → let x = raising f v t u a b c us js in (table : HasTable x) → (frame : HasFrame n x) → (caller : HasCaller n x frame) → handler_of x table ≡ None
    → Shaped n x → e.port ≡ 0 → Dropped n x e frame caller
dropped laws n f v t u a b c us js e table frame caller is h port =
    let x = raising f v t u a b c us js in
    let type = table_type f v in
    let l = subst (λ o. Ends n x e (unloaded f) v t u us type o) is (looks laws n f v t u a b c us js e table h port) in
    let f0 = record (unloaded f) { value = l.value; left = l.left } in
    let v0 : Low = record v { s10 = type; s11 = l.count; s12 = l.place; s13 = l.range; s14 = l.number } in
    let y0 = at DROP_FRAME f0 v0 t u us (l.a ∷ l.b ∷ l.c ∷ l.js) in
    let d = frame.saved in
    let k = left_over f0 v0 in
    let locals = frame.locals_count in
    let place = frame.place in
    let vp = frame.vp in
    let some = caller.some in
    let from = caller.from in
    let to = caller.to in
    let saved_sp = caller.saved_sp in
    let long : length frame.below ≡ length caller.lower + length caller.words = omega (arith, ap (λ (ws : List ℕ). length ws) caller.is, length-append caller.lower (reverse caller.words), length-reverse caller.words) in
    let deep_long = ap (λ (ws : List ℕ). length ws) frame.deep ∙ length-append frame.below frame.locals in
    let whole : f.deep ≡ (caller.lower ++ reverse caller.words) ++ frame.locals = frame.deep ∙ ap (λ (ws : List ℕ). ws ++ frame.locals) caller.is in
    let z = last_two f.deep (omega (arith, deep_long, long)) in
    let count : length z.first + 2 ≡ length f.deep = omega (arith, ap (λ (ws : List ℕ). length ws) z.same, length-append z.first (z.a ∷ z.b ∷ [])) in
    let w = first_two caller.words (omega arith) in
    let w_count = ap (λ (ws : List ℕ). length ws) w.same in
    let past = reverse_aux frame.left (k ∷ l.js) in
    let saved = d.sp ∷ d.jpc ∷ d.vp ∷ d.pool ∷ d.method ∷ past in
    let frames = v.frames - frame_words f.memory v.method in
    let top = f.vp + max_locals f.memory v.method + 4 in
    let sp = d.sp + 2 in
    let f1 = record f0 { value = limits_of f0 v0; deep = z.first } in
    let v1 : Low = low_left f0 v0 frames top in
    let past2 = frame.locals ++ saved in
    let f2 = record f1 { vp = d.vp; jpc = d.jpc; deep = caller.lower } in
    let v2 = low_taken v1 d sp in
    let y1 = at_drop f0 v0 t u k us l.js frames top true in
    let y2 = at_dropped f1 v1 t u z.a z.b d past in
    let y3 = at_second f1 v1 z.a z.b d past d.jpc sp true in
    let y4 = at_caller f2 v2 z.b z.a w.a w.b w.rest past2 in
    let y5 = again f2 v2 z.b z.a w.a w.b w.rest past2 true in
    let sum = frames_are (limits_of f0 v0) v.frames caller.sum caller.sums in
    let last = last_is f.vp (max_locals f.memory v.method) (omega arith) in
    let boot = not_boot f.vp (omega arith) in
    let r0 = l.reaches in
    let r1 = computed laws n 30 (false ∷ []) y0 y1 r0.env r0.shape r0.port (leaves f0 v0 t u l.a l.b l.c us l.js ∙ (λ i. at_drop f0 v0 t u k us l.js (sum i) (last i) (boot i))) refl in
    let r2 = laws.moves n y1 r1.env false false z.first (d.method ∷ d.pool ∷ d.vp ∷ d.jpc ∷ d.sp ∷ z.b ∷ z.a ∷ []) past (record { not_done = refl; running = refl }) r1.shape r1.port (record { code = 30; word = refl; is = refl })
    (saved_apart f.deep us l.js frame.left t u k d frame.stack ∙ ap (λ (ws : List ℕ). ws ++ saved) z.same ∙ append_assoc z.first (z.a ∷ z.b ∷ []) saved) (omega (arith, deep_long, vp, locals, count)) refl in
    let r3 = computed laws n 13 [] y2 y3 r2.env r2.shape r2.port
    (takes_over f1 v1 t u z.a z.b d past ∙ (λ i. at_second f1 v1 z.a z.b d past (mod-eq_of_lt {n = d.jpc} {m = 2 ^ 16} caller.saved_jpc i) (mod-eq_of_lt {n = d.sp + 2} {m = 2 ^ 32} (omega arith) i) (is_inside d.vp f1 from (omega (arith, count, deep_long, long)) i))) refl in
    let r4 = laws.moves n y3 r3.env false false caller.lower (w.a ∷ w.b ∷ w.rest) past2 (record { not_done = refl; running = refl }) r3.shape r3.port (record { code = 30; word = refl; is = refl })
    (caller_words z.first caller.lower caller.words frame.locals saved z.a z.b (sym whole ∙ z.same) ∙ ap (λ (ws : List ℕ). caller.lower ++ reverse_aux ws past2) (sym w.same)) (omega (arith, w_count, long, vp, saved_sp)) refl in
    let turn : (nat_lt 0 (l.left (END - 1)) && true) ≡ true = ap (λ (i : ℕ). nat_lt 0 i && true) l.kept ∙ ap (λ (i : Bool). i && true) (lt-ltb 0 (f.left (END - 1)) caller.turn) in
    let r5 = computed laws n 2 [] y4 y5 r4.env r4.shape r4.port (goes_again f2 v2 z.b z.a w.a w.b w.rest past2 ∙ ap (λ (i : Bool). again f2 v2 z.b z.a w.a w.b w.rest past2 i) turn) refl in
    record {
      after = y5;
      reaches = followed_by laws n x y0 y5 e r0 (followed_by laws n y0 y1 y5 r0.env r1 (followed_by laws n y1 y2 y5 r1.env r2 (followed_by laws n y2 y3 y5 r2.env r3 (followed_by laws n y3 y4 y5 r3.env r4 r5 refl) refl) refl) refl) refl;
      done = record { fine = refl {a = true}; done = refl {a = true}; idle = refl {a = false} };
      drops = record {
        mpc = refl;
        running = refl;
        words = w.same;
        deep = refl;
        low = refl;
        memory = refl;
        vp = refl;
        jpc = refl;
        cache = refl;
        hits = refl;
        misses = refl;
        loads = refl;
        loaded = refl;
        answers = refl;
        output = refl;
      };
    }

-- ---- boot's frame

last_stops : PartLaws → (n : ℕ) (f : Sketch) (v : Low) (t u a b c : ℕ) (us js : List ℕ) (e : Env) → let x = raising f v t u a b c us js in (table : HasTable x) → x.vp ≡ 64 → handler_of x table ≡ None → Shaped n x → e.port ≡ 0 → Stopped n x e
last_stops laws n f v t u a b c us js e table boot is h port =
    let x = raising f v t u a b c us js in
    let type = table_type f v in
    let l = subst (λ o. Ends n x e (unloaded f) v t u us type o) is (looks laws n f v t u a b c us js e table h port) in
    let f0 = record (unloaded f) { value = l.value; left = l.left } in
    let v0 : Low = record v { s10 = type; s11 = l.count; s12 = l.place; s13 = l.range; s14 = l.number } in
    let past = l.a ∷ l.b ∷ l.c ∷ l.js in
    let y0 = at DROP_FRAME f0 v0 t u us past in
    let y1 = stopped f0 v0 t u us past true in
    let r0 = l.reaches in
    let ok = ap (λ (k : ℕ). same_bool true (k == 64) && true) boot in
    let r1 = computed laws n 0 (true ∷ []) y0 y1 r0.env r0.shape r0.port (stops f0 v0 t u us past ∙ ap (λ (i : Bool). stopped f0 v0 t u us past i) ok) refl in
    record {
      after = y1;
      reaches = followed_by laws n x y0 y1 e r0 r1 refl;
      done = record { fine = refl {a = true}; done = refl {a = true}; idle = refl {a = false} };
      halts = record {
        halt = refl;
        words = refl;
        deep = refl;
        low = refl;
        memory = refl;
        answers = refl;
        output = refl;
        kept = record { vp = refl; method = refl; cache = refl; hits = refl; misses = refl; loads = refl; loaded = refl };
      };
    }

-- ---- of any sketch at the raise routine

-- what holds of it with its words shown holds of it
on_opened : (n : ℕ) (x : Sketch) (e : Env) → IsRaising n x e → (Q : Sketch → Type 0)
    → (let js = x.above in Q (raising x (low_of (shown 32 x.low)) x.top x.next (head_of js) (head_of (tail_of js)) (head_of (tail_of (tail_of js))) x.under (tail_of (tail_of (tail_of js))))) → Q x
on_opened n x e h Q q = subst Q (opened_is n x e h) q

pub handlers_run : PartLaws → HandlersRun
handlers_run laws n x e target h table frame is few =
    let js = x.above in
    let P : Sketch → Type 0 = λ y. IsRaising n y e → (t : HasTable y) → (c : HasFrame n y) → handler_of y t ≡ Some target → Handled n y e target c in
    on_opened n x e h P
    (λ g t c found. handled laws n x (low_of (shown 32 x.low)) x.top x.next (head_of js) (head_of (tail_of js)) (head_of (tail_of (tail_of js))) x.under (tail_of (tail_of (tail_of js))) e target t c found few g.shape g.idle) h table frame is

pub frames_drop : PartLaws → FramesDrop
frames_drop laws n x e h table frame caller is =
    let js = x.above in
    let P : Sketch → Type 0 = λ y. IsRaising n y e → (t : HasTable y) → (c : HasFrame n y) → (d : HasCaller n y c) → handler_of y t ≡ None → Dropped n y e c d in
    on_opened n x e h P
    (λ g t c d none. dropped laws n x (low_of (shown 32 x.low)) x.top x.next (head_of js) (head_of (tail_of js)) (head_of (tail_of (tail_of js))) x.under (tail_of (tail_of (tail_of js))) e t c d none g.shape g.idle) h table frame caller is

pub last_one_stops : PartLaws → LastStops
last_one_stops laws n x e h table boot is =
    let js = x.above in
    let P : Sketch → Type 0 = λ y. IsRaising n y e → (t : HasTable y) → y.vp ≡ 64 → handler_of y t ≡ None → Stopped n y e in
    on_opened n x e h P
    (λ g t b none. last_stops laws n x (low_of (shown 32 x.low)) x.top x.next (head_of js) (head_of (tail_of js)) (head_of (tail_of (tail_of js))) x.under (tail_of (tail_of (tail_of js))) e t b none g.shape g.idle) h table boot is
