-- The parts of the microcode of the returns, by computing on the sketch.
use Rattle.std.proofs.Common.{◌≡◌, ℕ, suc, ◌+◌, ◌-◌, ◌*◌, ◌/◌, ◌%◌, ◌^◌, ◌==◌, ◌&&◌, Bool, true, false, List, [], ◌∷◌, bit_and, if◌then◌else◌, refl}
use Rattle.std.specs.Prelude.{slice_index}
use Rattle.microcode.specs.declared.addresses.TheConstants.{RETURN, IRETURN, LRETURN}
use Rattle.jop_core.specs.Operations.{code_words}
use Rattle.method_cache.specs.Contents.{is_cached}
use Rattle.micro_sketch.specs.Sketch.{Sketch, exec, same_bool, inside, can_find, found_words, cached, missed, go_on}
use Rattle.call_steps.specs.Returns.{ReturnOp, Return, Ireturn, Areturn, Lreturn, Saved}
use Rattle.call_steps.proofs.Parts.{Low, at}
use Rattle.call_steps.proofs.CallRows.{begun}

-- ---- to the new SP, which is that of the last saved word

-- the address of the first word stsp
abbrev pub cut : ReturnOp → ℕ
cut Return = RETURN + 31
cut Ireturn = IRETURN + 31
cut Areturn = IRETURN + 31
cut Lreturn = LRETURN + 32

-- f about to return: t, u and us are the words of its stack below the result, and r and s the result or its words

abbrev pub entry : ReturnOp → ℕ
entry Return = RETURN
entry Ireturn = IRETURN
entry Areturn = IRETURN
entry Lreturn = LRETURN

abbrev pub first_word : ReturnOp → (r t : ℕ) → ℕ
first_word Return r t = t
first_word Ireturn r t = r
first_word Areturn r t = r
first_word Lreturn r t = r

abbrev pub second_word : ReturnOp → (s t u : ℕ) → ℕ
second_word Return s t u = u
second_word Ireturn s t u = t
second_word Areturn s t u = t
second_word Lreturn s t u = s

abbrev pub further_words : ReturnOp → (t u : ℕ) → List ℕ → List ℕ
further_words Return t u us = us
further_words Ireturn t u us = u ∷ us
further_words Areturn t u us = u ∷ us
further_words Lreturn t u us = t ∷ u ∷ us

abbrev pub past_words : ReturnOp → (j1 j2 j3 : ℕ) → List ℕ → List ℕ
past_words Return j1 j2 j3 js = j1 ∷ j2 ∷ j3 ∷ js
past_words Ireturn j1 j2 j3 js = j1 ∷ j2 ∷ js
past_words Areturn j1 j2 j3 js = j1 ∷ j2 ∷ js
past_words Lreturn j1 j2 j3 js = j1 ∷ js

abbrev pub returning : ReturnOp → Sketch → Low → (r s t u j1 j2 j3 : ℕ) → (us js : List ℕ) → Sketch
returning op f v r s t u j1 j2 j3 us js = at (entry op) (begun f) v (first_word op r t) (second_word op s t u) (further_words op t u us) (past_words op j1 j2 j3 js)

-- the result in the scratch words

abbrev pub first_scratch : ReturnOp → (r k : ℕ) → ℕ
first_scratch Return r k = k
first_scratch Ireturn r k = r
first_scratch Areturn r k = r
first_scratch Lreturn r k = r

abbrev pub second_scratch : ReturnOp → (s k : ℕ) → ℕ
second_scratch Return s k = k
second_scratch Ireturn s k = k
second_scratch Areturn s k = k
second_scratch Lreturn s k = s

abbrev pub with_result : ReturnOp → Low → (r s : ℕ) → Low
with_result op v r s = record v { s0 = first_scratch op r v.s0; s1 = second_scratch op s v.s1 }

abbrev pub limits_of : Sketch → Low → ℕ
limits_of f v = slice_index f.memory v.method

abbrev pub raw_frames : Sketch → Low → ℕ
raw_frames f v =
    let w = limits_of f v in (((v.frames + (2 ^ 32 - bit_and w 65535)) % 2 ^ 32 + (2 ^ 32 - w / 2 ^ 16)) % 2 ^ 32 + (2 ^ 32 - 5)) % 2 ^ 32

abbrev pub raw_top : Sketch → Low → ℕ
raw_top f v = ((f.vp + limits_of f v / 2 ^ 16) % 2 ^ 32 + 4) % 2 ^ 32

-- a word past those of the stack
abbrev pub left_over : Sketch → Low → ℕ
left_over f v = (v.frames + (2 ^ 32 - bit_and (limits_of f v) 65535)) % 2 ^ 32

abbrev pub low_left : ReturnOp → Sketch → Low → (r s frames top : ℕ) → Low
low_left op f v r s frames top = record (with_result op v r s) { s4 = limits_of f v / 2 ^ 16; s15 = top; frames = frames }

abbrev pub at_cut : ReturnOp → Sketch → Low → (r s t u k : ℕ) → (us js : List ℕ) → (frames top : ℕ) → (ok : Bool) → Sketch
at_cut op f v r s t u k us js frames top ok =
    record (at (cut op) (record (begun f) { value = limits_of f v }) (low_left op f v r s frames top) top t (u ∷ us) (t ∷ k ∷ js)) { fine = ok }

-- only the row of return asks whether the frame is boot's
abbrev pub above_boot : ReturnOp → Sketch → Bool
above_boot Return f = same_bool false (f.vp == 64) && true
above_boot Ireturn f = true
above_boot Areturn f = true
above_boot Lreturn f = true

abbrev pub first_words : ReturnOp → ℕ
first_words Return = 30
first_words Ireturn = 30
first_words Areturn = 30
first_words Lreturn = 31

abbrev pub first_guesses : ReturnOp → List Bool
first_guesses Return = false ∷ []
first_guesses Ireturn = []
first_guesses Areturn = []
first_guesses Lreturn = []

pub leaves : (op : ReturnOp) (f : Sketch) (v : Low) (r s t u j1 j2 j3 : ℕ) (us js : List ℕ) → exec (suc (first_words op)) (first_guesses op) (returning op f v r s t u j1 j2 j3 us js)
    ≡ at_cut op f v r s t u (left_over f v) us js (raw_frames f v) (raw_top f v) (above_boot op f)
leaves Return f v r s t u j1 j2 j3 us js = refl
leaves Ireturn f v r s t u j1 j2 j3 us js = refl
leaves Areturn f v r s t u j1 j2 j3 us js = refl
leaves Lreturn f v r s t u j1 j2 j3 us js = refl

-- ---- to the caller's SP

abbrev pub at_saved : ReturnOp → Sketch → Low → (t u a b : ℕ) → Saved → List ℕ → Sketch
at_saved op f v t u a b d js = at (cut op + 1) f v t u (d.method ∷ d.pool ∷ d.vp ∷ d.jpc ∷ d.sp ∷ b ∷ a ∷ []) js

abbrev pub low_taken : Low → Saved → (sp : ℕ) → Low
low_taken v d sp = record v { method = d.method; pool = d.pool; s15 = sp }

abbrev pub at_second_cut : ReturnOp → Sketch → Low → (a b : ℕ) → Saved → List ℕ → (jpc sp : ℕ) → (ok : Bool) → Sketch
at_second_cut op f v a b d js jpc sp ok =
    record (at (cut op + 15) (record f { vp = d.vp; jpc = jpc }) (low_taken v d sp) sp b (a ∷ []) (b ∷ d.sp ∷ d.jpc ∷ d.vp ∷ d.pool ∷ d.method ∷ js)) { fine = ok }

pub takes_over : (op : ReturnOp) (f : Sketch) (v : Low) (t u a b : ℕ) (d : Saved) (js : List ℕ) → exec 14 [] (at_saved op f v t u a b d js)
    ≡ at_second_cut op f v a b d js (d.jpc % 2 ^ 16) ((d.sp + 2) % 2 ^ 32) (inside d.vp f && true)
takes_over Return f v t u a b d js = refl
takes_over Ireturn f v t u a b d js = refl
takes_over Areturn f v t u a b d js = refl
takes_over Lreturn f v t u a b d js = refl

-- ---- the method, and the result

abbrev pub at_caller : ReturnOp → Sketch → Low → (t u a b : ℕ) → (ws js : List ℕ) → Sketch
at_caller op f v t u a b ws js = at (cut op + 16) f v t u (a ∷ b ∷ ws) js

abbrev pub last_words : ReturnOp → ℕ
last_words Return = 4
last_words Ireturn = 4
last_words Areturn = 4
last_words Lreturn = 5

-- with the result on top of the caller's words
abbrev pub given : ReturnOp → Sketch → Low → (a b : ℕ) → (ws above : List ℕ) → Sketch
given op f v a b ws above = at (entry op) f v (first_word op v.s0 a) (second_word op v.s1 a b) (further_words op a b ws) above

abbrev pub resuming : ReturnOp → Sketch → Low → (a b : ℕ) → (ws above : List ℕ) → (ok : Bool) → Sketch
resuming op f v a b ws above ok = go_on (record (given op f v a b ws above) {
  method = v.method;
  cache = cached v.method (found_words f v.method) f.cache;
  hits = if is_cached v.method f.cache then (f.hits + 1) % 2 ^ 64 else f.hits;
  misses = if is_cached v.method f.cache then f.misses else (f.misses + 1) % 2 ^ 64;
  loads = f.loads + missed v.method f.cache;
  words = f.words + missed v.method f.cache * code_words f.memory v.method;
  fine = ok;
})

pub resumes : (op : ReturnOp) (f : Sketch) (v : Low) (t u a b : ℕ) (ws js : List ℕ) → let x = at_caller op f v t u a b ws js in
    exec (suc (last_words op)) [] x ≡ resuming op f v a b ws (exec (suc (last_words op)) [] x).above ((can_find f v.method && true) && true)
resumes Return f v t u a b ws js = refl
resumes Ireturn f v t u a b ws js = refl
resumes Areturn f v t u a b ws js = refl
resumes Lreturn f v t u a b ws js = refl
