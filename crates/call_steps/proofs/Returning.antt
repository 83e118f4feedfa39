-- A return, put together of its parts.
use Rattle.std.proofs.Common.{◌≡◌, ℕ, suc, ◌+◌, ◌-◌, ◌/◌, ◌%◌, ◌^◌, ◌<◌, ◌≤◌, ◌==◌, ◌&&◌, Bool, true, false, nat_lt, if◌then◌else◌, List, [], ◌∷◌, ◌++◌, length, reverse, bit_and, refl, sym, ap, ◌∙◌, arith, append_assoc, length-append, zero-add, lt-ltb, le-ltb}
use Rattle.std.proofs.Math.Nat.{mod-eq_of_lt}
use Rattle.std.proofs.lemmas.Nat.{and_mask}
use Rattle.std.proofs.lemmas.Bool.Decides.{nat_tests}
use Rattle.std.proofs.lemmas.List.{length-reverse}
use Rattle.micro_sketch.proofs.Frames.{reverse_aux-both}
use mathlib.Core.List.{reverse_aux, reverse_aux-eq}
use Rattle.micro_sketch.specs.Sketch.{Sketch, exec, same_bool, inside, can_find}
use Rattle.micro_sketch.specs.Stands.{Env, Shaped, Reaches, IsDone}
use Rattle.micro_sketch.specs.Rows.{Switches}
use Rattle.micro_sketch.specs.Row.{words_of}
use Rattle.call_steps.specs.Method.{max_locals, frame_words}
use Rattle.call_steps.specs.Returns as returns
use Rattle.call_steps.specs.Returns.{ReturnOp, Return, Ireturn, Areturn, Lreturn, Saved, saved_words, CanReturn}
use Rattle.call_steps.proofs.Parts.{PartLaws, Low, computed, followed_by, Last, last_two}
use Rattle.call_steps.proofs.Invoking.{less_mod}
use Rattle.call_steps.proofs.CallRows.{begun}
use Rattle.call_steps.proofs.ReturnRows.{first_word, second_word, further_words, first_scratch, second_scratch, returning, limits_of, raw_frames, raw_top, left_over, low_left, at_cut, above_boot, first_words, first_guesses, leaves, at_saved, low_taken, at_second_cut, takes_over, at_caller, last_words, resuming, resumes}

-- ---- numbers

frames_are : (w frames : ℕ) → w / 2 ^ 16 + 5 + w % 2 ^ 16 ≤ frames → frames < 2 ^ 32
    → (((frames + (2 ^ 32 - bit_and w 65535)) % 2 ^ 32 + (2 ^ 32 - w / 2 ^ 16)) % 2 ^ 32 + (2 ^ 32 - 5)) % 2 ^ 32 ≡ frames - (w / 2 ^ 16 + 5 + w % 2 ^ 16)
frames_are w frames h s =
    let a : ℕ = w / 2 ^ 16 in
    let b : ℕ = w % 2 ^ 16 in
    ap (λ (k : ℕ). (((frames + (2 ^ 32 - k)) % 2 ^ 32 + (2 ^ 32 - a)) % 2 ^ 32 + (2 ^ 32 - 5)) % 2 ^ 32) (and_mask w 16)
    ∙ ap (λ (k : ℕ). ((k + (2 ^ 32 - a)) % 2 ^ 32 + (2 ^ 32 - 5)) % 2 ^ 32) (less_mod frames b (omega arith) s)
    ∙ ap (λ (k : ℕ). (k + (2 ^ 32 - 5)) % 2 ^ 32) (less_mod (frames - b) a (omega arith) (omega arith))
    ∙ less_mod (frames - b - a) 5 (omega arith) (omega arith) ∙ omega arith

place_is : (vp locals : ℕ) → vp + locals + 4 < 2 ^ 32 → ((vp + locals) % 2 ^ 32 + 4) % 2 ^ 32 ≡ vp + locals + 4
place_is vp locals h = ap (λ (k : ℕ). (k + 4) % 2 ^ 32) (mod-eq_of_lt {n = vp + locals} {m = 2 ^ 32} (omega arith)) ∙ mod-eq_of_lt {n = vp + locals + 4} {m = 2 ^ 32} h

not_boot : (op : ReturnOp) (f : Sketch) → 64 < f.vp → above_boot op f ≡ true
not_boot Return f h = let no : (f.vp == 64) ≡ false = grind (arith, nat_tests, h) in ap (λ (b : Bool). same_bool false b && true) no
not_boot Ireturn f h = refl
not_boot Areturn f h = refl
not_boot Lreturn f h = refl

is_inside : (k : ℕ) (f : Sketch) → 64 ≤ k → k < 64 + length f.deep → (inside k f && true) ≡ true
is_inside k f h l = ap (λ (b : Bool). ((if b then false else true) && nat_lt k (64 + length f.deep)) && true) (le-ltb k 64 h) ∙ ap (λ (b : Bool). b && true) (lt-ltb k (64 + length f.deep) l)

-- ---- the parts

-- f as it is left
abbrev left : Sketch → Low → Sketch
left f v = record (begun f) { value = limits_of f v }

to_cut : PartLaws → (n : ℕ) (op : ReturnOp) (f : Sketch) (v : Low) (r s t u j1 j2 j3 : ℕ) (us js : List ℕ) (frames top : ℕ) (e : Env) → Shaped n (returning op f v r s t u j1 j2 j3 us js) → e.port ≡ 0
    → raw_frames f v ≡ frames → raw_top f v ≡ top → above_boot op f ≡ true
    → Reaches n (returning op f v r s t u j1 j2 j3 us js) (at_cut op f v r s t u (left_over f v) us js frames top true) e
to_cut laws n op f v r s t u j1 j2 j3 us js frames top e h port frames_is top_is ok =
    computed laws n (first_words op) (first_guesses op) (returning op f v r s t u j1 j2 j3 us js) (at_cut op f v r s t u (left_over f v) us js frames top true) e h port
    (leaves op f v r s t u j1 j2 j3 us js ∙ (λ i. at_cut op f v r s t u (left_over f v) us js (frames_is i) (top_is i) (ok i))) refl

to_saved : PartLaws → (n : ℕ) (op : ReturnOp) (f : Sketch) (v : Low) (r s t u k : ℕ) (us js : List ℕ) (frames top a b : ℕ) (deep : List ℕ) (d : Saved) (past : List ℕ) (e : Env)
    → Shaped n (at_cut op f v r s t u k us js frames top true) → e.port ≡ 0 → f.deep ++ reverse_aux us (u ∷ t ∷ k ∷ js) ≡ deep ++ (a ∷ b ∷ d.sp ∷ d.jpc ∷ d.vp ∷ d.pool ∷ d.method ∷ past) → top ≡ length deep + 63 + 7
    → Reaches n (at_cut op f v r s t u k us js frames top true) (at_saved op (record (left f v) { deep = deep }) (low_left op f v r s frames top) t u a b d past) e
to_saved laws n Return f v r s t u k us js frames top a b deep d past e h port same place =
    laws.moves n (at_cut Return f v r s t u k us js frames top true) e false false deep (d.method ∷ d.pool ∷ d.vp ∷ d.jpc ∷ d.sp ∷ b ∷ a ∷ []) past (record { not_done = refl; running = refl }) h port (record { code = 30; word = refl; is = refl }) same place refl
to_saved laws n Ireturn f v r s t u k us js frames top a b deep d past e h port same place =
    laws.moves n (at_cut Ireturn f v r s t u k us js frames top true) e false false deep (d.method ∷ d.pool ∷ d.vp ∷ d.jpc ∷ d.sp ∷ b ∷ a ∷ []) past (record { not_done = refl; running = refl }) h port (record { code = 30; word = refl; is = refl }) same place refl
to_saved laws n Areturn f v r s t u k us js frames top a b deep d past e h port same place =
    laws.moves n (at_cut Areturn f v r s t u k us js frames top true) e false false deep (d.method ∷ d.pool ∷ d.vp ∷ d.jpc ∷ d.sp ∷ b ∷ a ∷ []) past (record { not_done = refl; running = refl }) h port (record { code = 30; word = refl; is = refl }) same place refl
to_saved laws n Lreturn f v r s t u k us js frames top a b deep d past e h port same place =
    laws.moves n (at_cut Lreturn f v r s t u k us js frames top true) e false false deep (d.method ∷ d.pool ∷ d.vp ∷ d.jpc ∷ d.sp ∷ b ∷ a ∷ []) past (record { not_done = refl; running = refl }) h port (record { code = 30; word = refl; is = refl }) same place refl

to_second_cut : PartLaws → (n : ℕ) (op : ReturnOp) (f : Sketch) (v : Low) (t u a b : ℕ) (d : Saved) (js : List ℕ) (sp : ℕ) (e : Env) → Shaped n (at_saved op f v t u a b d js) → e.port ≡ 0
    → d.jpc < 2 ^ 16 → (d.sp + 2) % 2 ^ 32 ≡ sp → (inside d.vp f && true) ≡ true → Reaches n (at_saved op f v t u a b d js) (at_second_cut op f v a b d js d.jpc sp true) e
to_second_cut laws n op f v t u a b d js sp e h port jpc sp_is ok =
    computed laws n 13 [] (at_saved op f v t u a b d js) (at_second_cut op f v a b d js d.jpc sp true) e h port
    (takes_over op f v t u a b d js ∙ (λ i. at_second_cut op f v a b d js (mod-eq_of_lt {n = d.jpc} {m = 2 ^ 16} jpc i) (sp_is i) (ok i))) refl

-- f with the caller's place
abbrev with_caller : Sketch → Saved → (deep : List ℕ) → Sketch
with_caller f d deep = record f { vp = d.vp; jpc = d.jpc; deep = deep }

to_caller : PartLaws → (n : ℕ) (op : ReturnOp) (f : Sketch) (v : Low) (a b : ℕ) (d : Saved) (js : List ℕ) (sp w1 w2 : ℕ) (deep ws past : List ℕ) (e : Env) → Shaped n (at_second_cut op f v a b d js d.jpc sp true) → e.port ≡ 0
    → f.deep ++ (a ∷ b ∷ d.sp ∷ d.jpc ∷ d.vp ∷ d.pool ∷ d.method ∷ js) ≡ deep ++ reverse_aux (w1 ∷ w2 ∷ ws) past → sp ≡ length deep + 63 + length (w1 ∷ w2 ∷ ws)
    → Reaches n (at_second_cut op f v a b d js d.jpc sp true) (at_caller op (with_caller f d deep) (low_taken v d sp) b a w1 w2 ws past) e
to_caller laws n Return f v a b d js sp w1 w2 deep ws past e h port same place =
    laws.moves n (at_second_cut Return f v a b d js d.jpc sp true) e false false deep (w1 ∷ w2 ∷ ws) past (record { not_done = refl; running = refl }) h port (record { code = 30; word = refl; is = refl }) same place refl
to_caller laws n Ireturn f v a b d js sp w1 w2 deep ws past e h port same place =
    laws.moves n (at_second_cut Ireturn f v a b d js d.jpc sp true) e false false deep (w1 ∷ w2 ∷ ws) past (record { not_done = refl; running = refl }) h port (record { code = 30; word = refl; is = refl }) same place refl
to_caller laws n Areturn f v a b d js sp w1 w2 deep ws past e h port same place =
    laws.moves n (at_second_cut Areturn f v a b d js d.jpc sp true) e false false deep (w1 ∷ w2 ∷ ws) past (record { not_done = refl; running = refl }) h port (record { code = 30; word = refl; is = refl }) same place refl
to_caller laws n Lreturn f v a b d js sp w1 w2 deep ws past e h port same place =
    laws.moves n (at_second_cut Lreturn f v a b d js d.jpc sp true) e false false deep (w1 ∷ w2 ∷ ws) past (record { not_done = refl; running = refl }) h port (record { code = 30; word = refl; is = refl }) same place refl

to_method : PartLaws → (n : ℕ) (op : ReturnOp) (f : Sketch) (v : Low) (t u a b : ℕ) (ws js : List ℕ) (e : Env) → Shaped n (at_caller op f v t u a b ws js) → e.port ≡ 0 → can_find f v.method ≡ true
    → Reaches n (at_caller op f v t u a b ws js) (resuming op f v a b ws (exec (suc (last_words op)) [] (at_caller op f v t u a b ws js)).above true) e
to_method laws n op f v t u a b ws js e h port can =
    let x = at_caller op f v t u a b ws js in
    let above = (exec (suc (last_words op)) [] x).above in
    computed laws n (last_words op) [] x (resuming op f v a b ws above true) e h port
    (resumes op f v t u a b ws js ∙ ap (λ (ok : Bool). resuming op f v a b ws above ok) (ap (λ (ok : Bool). (ok && true) && true) can)) refl

-- ---- lists

tails : (x : ℕ) (xs ys : List ℕ) → x ∷ xs ≡ x ∷ ys → xs ≡ ys
tails x xs ys e = cc

-- the words below the result
below_result : (op : ReturnOp) (f : Sketch) (v : Low) (r s t u j1 j2 j3 : ℕ) (us js rest saved : List ℕ) → let x = returning op f v r s t u j1 j2 j3 us js in
    words_of x ≡ (returns.result op x ++ rest) ++ saved → t ∷ u ∷ us ≡ rest ++ saved
below_result Return f v r s t u j1 j2 j3 us js rest saved h = h
below_result Ireturn f v r s t u j1 j2 j3 us js rest saved h = tails r (t ∷ u ∷ us) (rest ++ saved) h
below_result Areturn f v r s t u j1 j2 j3 us js rest saved h = tails r (t ∷ u ∷ us) (rest ++ saved) h
below_result Lreturn f v r s t u j1 j2 j3 us js rest saved h = tails s (t ∷ u ∷ us) (rest ++ saved) (tails r (s ∷ t ∷ u ∷ us) (s ∷ (rest ++ saved)) h)

-- the words on top of the caller's
on_top : (op : ReturnOp) (f : Sketch) (v : Low) (r s t u j1 j2 j3 : ℕ) (us js : List ℕ) (w1 w2 : ℕ) (ws words : List ℕ) → w1 ∷ w2 ∷ ws ≡ words
    → first_word op (first_scratch op r v.s0) w1 ∷ second_word op (second_scratch op s v.s1) w1 w2 ∷ further_words op w1 w2 ws ≡ returns.result op (returning op f v r s t u j1 j2 j3 us js) ++ words
on_top Return f v r s t u j1 j2 j3 us js w1 w2 ws words h = h
on_top Ireturn f v r s t u j1 j2 j3 us js w1 w2 ws words h = ap (λ (xs : List ℕ). r ∷ xs) h
on_top Areturn f v r s t u j1 j2 j3 us js w1 w2 ws words h = ap (λ (xs : List ℕ). r ∷ xs) h
on_top Lreturn f v r s t u j1 j2 j3 us js w1 w2 ws words h = ap (λ (xs : List ℕ). r ∷ s ∷ xs) h

-- the words of the stack up to the two last local variables, the saved ones, and those past them
record Parted (deep us js : List ℕ) (t u k : ℕ) (callers locals rest : List ℕ) (d : Saved) : Type 0 where
  last : Last (callers ++ locals)
  past : List ℕ
  same : deep ++ reverse_aux us (u ∷ t ∷ k ∷ js) ≡ last.first ++ (last.a ∷ last.b ∷ d.sp ∷ d.jpc ∷ d.vp ∷ d.pool ∷ d.method ∷ past)
  count : length last.first + 2 ≡ length callers + length locals

parted : (deep us js : List ℕ) (t u k : ℕ) (callers locals rest : List ℕ) (d : Saved) → deep ≡ callers ++ locals → t ∷ u ∷ us ≡ rest ++ saved_words d → 2 ≤ length callers → Parted deep us js t u k callers locals rest d
parted deep us js t u k callers locals rest d h g some =
    let l = last_two (callers ++ locals) (omega (arith, length-append callers locals)) in
    let past = reverse_aux rest (k ∷ js) in
    let saved = d.sp ∷ d.jpc ∷ d.vp ∷ d.pool ∷ d.method ∷ past in
    record {
      last = l;
      past = past;
      same = ap (λ (ws : List ℕ). deep ++ reverse_aux ws (k ∷ js)) g ∙ ap (λ (ws : List ℕ). deep ++ ws) (reverse_aux-both rest (saved_words d) (k ∷ js))
          ∙ ap (λ (ws : List ℕ). ws ++ saved) (h ∙ l.same) ∙ append_assoc l.first (l.a ∷ l.b ∷ []) saved;
      count = omega (arith, ap (λ (ws : List ℕ). length ws) l.same, length-append l.first (l.a ∷ l.b ∷ []), length-append callers locals);
    }

-- they are those of the caller, and what is past them
caller_words : (first below words locals past : List ℕ) (a b : ℕ) → (below ++ reverse words) ++ locals ≡ first ++ (a ∷ b ∷ []) → first ++ (a ∷ b ∷ past) ≡ below ++ reverse_aux words (locals ++ past)
caller_words first below words locals past a b h =
    sym (append_assoc first (a ∷ b ∷ []) past) ∙ ap (λ (ws : List ℕ). ws ++ past) (sym h) ∙ regrouped below (reverse words) locals past
    ∙ ap (λ (ws : List ℕ). below ++ ws) (sym (reverse_aux-eq words (locals ++ past)))
  where
    regrouped : (a b c d : List ℕ) → ((a ++ b) ++ c) ++ d ≡ a ++ (b ++ (c ++ d))
    regrouped a b c d = simp append_assoc

-- the two first words of a list
record First (xs : List ℕ) : Type 0 where
  a : ℕ
  b : ℕ
  rest : List ℕ
  same : a ∷ b ∷ rest ≡ xs

first_two : (xs : List ℕ) → 2 ≤ length xs → First xs
first_two [] h = absurd (omega arith)
first_two (a ∷ []) h = absurd (omega arith)
first_two (a ∷ b ∷ rest) h = record { a = a; b = b; rest = rest; same = refl }

-- ---- all of it

-- what a return comes to
pub record ReturnMade (n : ℕ) (op : ReturnOp) (x : Sketch) (e : Env) (c : CanReturn op x) : Type 0 where
  pub after : Sketch
  pub reaches : Reaches n x after e
  pub done : IsDone after
  pub switches : Switches (returns.return op x c) x after

pub return_made : PartLaws → (n : ℕ) (op : ReturnOp) (f : Sketch) (v : Low) (r s t u j1 j2 j3 : ℕ) (us js : List ℕ) (e : Env) → (c : CanReturn op (returning op f v r s t u j1 j2 j3 us js))
    → Shaped n (returning op f v r s t u j1 j2 j3 us js) → e.port ≡ 0 → ReturnMade n op (returning op f v r s t u j1 j2 j3 us js) e c
return_made laws n op f v r s t u j1 j2 j3 us js e c h port =
    let x = returning op f v r s t u j1 j2 j3 us js in
    let d = c.saved in
    let k = left_over f v in
    let callers = c.below ++ reverse c.words in
    let vp = c.vp in
    let count = c.locals_count in
    let saved_sp = c.saved_sp in
    let some = c.some in
    let from = c.from in
    let to = c.to in
    let place = c.place in
    let long : length callers ≡ length c.below + length c.words = omega (arith, length-append c.below (reverse c.words), length-reverse c.words) in
    let q = parted f.deep us js t u k callers c.locals c.rest d c.deep (below_result op f v r s t u j1 j2 j3 us js c.rest (saved_words d) c.stack) (omega arith) in
    let l = q.last in
    let first_count = q.count in
    let w = first_two c.words (omega arith) in
    let frames = v.frames - frame_words f.memory v.method in
    let top = f.vp + max_locals f.memory v.method + 4 in
    let sp = d.sp + 2 in
    let past = c.locals ++ (d.sp ∷ d.jpc ∷ d.vp ∷ d.pool ∷ d.method ∷ q.past) in
    let f1 = record (left f v) { deep = l.first } in
    let v1 = low_left op f v r s frames top in
    let f2 = with_caller f1 d c.below in
    let v2 = low_taken v1 d sp in
    let above = (exec (suc (last_words op)) [] (at_caller op f2 v2 l.b l.a w.a w.b w.rest past)).above in
    let y1 = at_cut op f v r s t u k us js frames top true in
    let y2 = at_saved op f1 v1 t u l.a l.b d q.past in
    let y3 = at_second_cut op f1 v1 l.a l.b d q.past d.jpc sp true in
    let y4 = at_caller op f2 v2 l.b l.a w.a w.b w.rest past in
    let y5 = resuming op f2 v2 w.a w.b w.rest above true in
    let r1 = to_cut laws n op f v r s t u j1 j2 j3 us js frames top e h port (frames_are (limits_of f v) v.frames c.sum c.sums) (place_is f.vp (max_locals f.memory v.method) (omega arith)) (not_boot op f (omega arith)) in
    let r2 = to_saved laws n op f v r s t u k us js frames top l.a l.b l.first d q.past r1.env r1.shape r1.port q.same (omega arith) in
    let r3 = to_second_cut laws n op f1 v1 t u l.a l.b d q.past sp r2.env r2.shape r2.port c.saved_jpc (mod-eq_of_lt {n = d.sp + 2} {m = 2 ^ 32} (omega arith)) (is_inside d.vp f1 from (omega arith)) in
    let r4 = to_caller laws n op f1 v1 l.a l.b d q.past sp w.a w.b c.below w.rest past r3.env r3.shape r3.port
    (caller_words l.first c.below c.words c.locals (d.sp ∷ d.jpc ∷ d.vp ∷ d.pool ∷ d.method ∷ q.past) l.a l.b l.same ∙ ap (λ (ws : List ℕ). c.below ++ reverse_aux ws past) (sym w.same))
    (omega (arith, ap (λ (ws : List ℕ). length ws) w.same)) in
    let r5 = to_method laws n op f2 v2 l.b l.a w.a w.b w.rest past r4.env r4.shape r4.port c.caller in
    let run = followed_by laws n x y1 y5 e r1 (followed_by laws n y1 y2 y5 r1.env r2 (followed_by laws n y2 y3 y5 r2.env r3 (followed_by laws n y3 y4 y5 r3.env r4 r5 refl) refl) refl) refl in
    record {
      after = y5;
      reaches = run;
      done = record { fine = refl {a = true}; done = refl {a = true}; idle = refl {a = false} };
      switches = record {
        words = on_top op f v r s t u j1 j2 j3 us js w.a w.b w.rest c.words w.same;
        deep = refl;
        low = refl;
        memory = refl;
        vp = refl;
        method = refl;
        cache = refl;
        hits = refl;
        misses = refl;
        loads = zero-add _;
        loaded = zero-add _;
        answers = refl;
        output = refl;
        opcode = refl;
        jpc = refl;
        mpc = refl;
        operand = refl;
        running = refl;
      };
    }
