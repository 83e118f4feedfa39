-- A call by a receiver, put together of its parts.
use Rattle.std.proofs.Common.{◌≡◌, ℕ, ◌+◌, ◌-◌, ◌/◌, ◌%◌, ◌^◌, ◌<◌, ◌≤◌, ◌==◌, ◌&&◌, Bool, true, false, List, [], ◌∷◌, ◌++◌, length, reverse, refl, sym, ap, ◌∙◌, subst, arith, append_assoc, length-append, get_or}
use Rattle.std.specs.Prelude.{slice_index}
use Rattle.std.proofs.Math.Nat.{mod-eq_of_lt}
use Rattle.std.proofs.Math.Seq.{get_or-append_seam}
use Rattle.std.proofs.lemmas.Nat.{and_mask}
use Rattle.std.proofs.lemmas.Grind.{reverse_onto}
use Rattle.std.proofs.lemmas.Bool.Decides.{nat_tests}
use Rattle.std.proofs.lemmas.List.{length-reverse}
use Rattle.micro_sketch.proofs.Frames.{reverse_aux-both}
use mathlib.Core.List.{reverse_aux}
use Rattle.micro_sketch.specs.Sketch.{Sketch, exec, same_bool}
use Rattle.micro_sketch.specs.Stands.{Env, Shaped, Reaches}
use Rattle.micro_sketch.specs.Frames.{whole}
use Rattle.micro_sketch.specs.StackLaws.{StackWordIsLoaded}
use Rattle.micro_sketch.specs.Operand.{past, two_byte_operand}
use Rattle.call_steps.specs.Entry.{CanEnter, fits_at}
use Rattle.call_steps.specs.Tables.{TableCall, Invokevirtual, Invokespecial, Invokeinterface, first_word, second_word, taken_words, table_word, method_for, behind, HasReceiver, has_none}
use Rattle.call_steps.proofs.Parts.{PartLaws, Low, computed, followed_by}
use Rattle.call_steps.proofs.InvokeRows.{invoking}
use Rattle.call_steps.proofs.InvokeMade.{EntryMade, entry_made}
use Rattle.call_steps.proofs.InvokeRaises.{raw_object, object_is, RaiseMade, entry_raises}
use Rattle.call_steps.proofs.CallRows.{raw_method, raw_sp}
use Rattle.call_steps.proofs.Calling.{index_is, entry_is, sp_is}
use Rattle.call_steps.proofs.TableRows.{starting, Read, low_read, f_read, at_load, raw_second, raw_taken, read_of, raw_read, words_before, loads, with_receiver, at_raise, nulls, raw_table, raw_word, raw_called, f_called, past_word, found_test, at_call, words_between, guesses_between, finds, changes}

pub record TableLaws : Type 0 where
  pub parts : PartLaws
  pub loads : StackWordIsLoaded

-- ---- what is read

-- a call about to begin, whatever its words
abbrev pub any : TableCall → Sketch → Low → Sketch
any op f v = starting op f v 0 0 0 0 0 [] []

-- what it reads doesn't depend on the words of its stack

taken_same : (op : TableCall) (f : Sketch) (v : Low) (t u j1 j2 j3 : ℕ) (us js : List ℕ) → taken_words op (starting op f v t u j1 j2 j3 us js) ≡ taken_words op (any op f v)
taken_same Invokevirtual f v t u j1 j2 j3 us js = refl
taken_same Invokespecial f v t u j1 j2 j3 us js = refl
taken_same Invokeinterface f v t u j1 j2 j3 us js = refl

none_same : (op : TableCall) (f : Sketch) (v : Low) (t u j1 j2 j3 : ℕ) (us js : List ℕ) (w : ℕ) → has_none op (starting op f v t u j1 j2 j3 us js) w ≡ has_none op (any op f v) w
none_same Invokevirtual f v t u j1 j2 j3 us js w = refl
none_same Invokespecial f v t u j1 j2 j3 us js w = refl
none_same Invokeinterface f v t u j1 j2 j3 us js w = refl

method_same : (op : TableCall) (f : Sketch) (v : Low) (t u j1 j2 j3 : ℕ) (us js : List ℕ) (w : ℕ) → method_for op (any op f v) w ≡ method_for op (starting op f v t u j1 j2 j3 us js) w
method_same Invokevirtual f v t u j1 j2 j3 us js w = refl
method_same Invokespecial f v t u j1 j2 j3 us js w = refl
method_same Invokeinterface f v t u j1 j2 j3 us js w = refl

behind_same : (op : TableCall) (f : Sketch) (v : Low) (t u j1 j2 j3 : ℕ) (us js : List ℕ) → behind op (any op f v) ≡ behind op (starting op f v t u j1 j2 j3 us js)
behind_same Invokevirtual f v t u j1 j2 j3 us js = refl
behind_same Invokespecial f v t u j1 j2 j3 us js = refl
behind_same Invokeinterface f v t u j1 j2 j3 us js = refl

abbrev pub clean_read : TableCall → Sketch → Low → (below : ℕ) → Read
clean_read op f v below = read_of op f v (two_byte_operand f) (first_word (any op f v)) (second_word (any op f v)) (taken_words op (any op f v)) (64 + below - 3) (64 + below)

taken_is : (op : TableCall) (f : Sketch) (v : Low) → raw_taken op f v ≡ taken_words op (any op f v)
taken_is Invokevirtual f v = ap (λ (k : ℕ). slice_index f.memory ((k + 1) % 2 ^ 32) / 2 ^ 24) (entry_is f v.pool)
taken_is Invokespecial f v = ap (λ (k : ℕ). slice_index f.memory ((slice_index f.memory k + 1) % 2 ^ 32) / 2 ^ 16) (entry_is f v.pool)
taken_is Invokeinterface f v = ap (λ (k : ℕ). slice_index f.memory ((k + 1) % 2 ^ 32) / 2 ^ 24) (entry_is f v.pool)

place_is : (below : ℕ) → 64 + below < 2 ^ 32 → (64 + below - 3 + 3) % 2 ^ 32 ≡ 64 + below
place_is below h = mod-eq_of_lt {n = 64 + below - 3 + 3} {m = 2 ^ 32} (omega arith) ∙ omega arith

-- how many words there are
pub record Sizes (n : ℕ) (f : Sketch) (us : List ℕ) (upper others : List ℕ) : Type 0 where
  pub words : length us + 2 ≡ length upper + 1 + length others
  pub small : length f.deep + 63 + length us + 3 < n
  pub chip : n < 2 ^ 32

pub sizes : (n : ℕ) (op : TableCall) (f : Sketch) (v : Low) (t u j1 j2 j3 : ℕ) (us js : List ℕ) → let x = starting op f v t u j1 j2 j3 us js in (c : HasReceiver n op x) → Shaped n x → Sizes n f us c.upper c.others
sizes n op f v t u j1 j2 j3 us js c h =
    let total = h.total in
    let size = c.size in
    let split = ap (λ (ws : List ℕ). length ws) c.split in
    record { words = omega (arith, split, length-append c.upper (c.receiver ∷ c.others)); small = omega (arith, total); chip = size }

read_is : (n : ℕ) (op : TableCall) (f : Sketch) (v : Low) (us upper others : List ℕ) → Sizes n f us upper others → length upper + 1 ≡ taken_words op (any op f v)
    → raw_read op f v us ≡ clean_read op f v (length f.deep + length others)
read_is n op f v us upper others s count =
    let x = any op f v in
    let below = length f.deep + length others in
    let words = s.words in
    let small = s.small in
    let chip = s.chip in
    let entry = entry_is f v.pool in
    let first : raw_method f v ≡ first_word x = ap (λ (k : ℕ). slice_index f.memory k) entry in
    let second : raw_second f v ≡ second_word x = ap (λ (k : ℕ). slice_index f.memory ((k + 1) % 2 ^ 32)) entry in
    let taken = taken_is op f v in
    let sp : raw_sp f us (raw_taken op f v) ≡ 64 + below - 3 =
    ap (λ (k : ℕ). raw_sp f us k) (taken ∙ sym count) ∙ sp_is (length f.deep) (length us) (length upper + 1) (length others) words (omega arith) (omega arith) in
    let place : (raw_sp f us (raw_taken op f v) + 3) % 2 ^ 32 ≡ 64 + below = ap (λ (k : ℕ). (k + 3) % 2 ^ 32) sp ∙ place_is below (omega arith) in
    λ i. read_of op f v (index_is f i) (first i) (second i) (taken i) (sp i) (place i)

-- ---- the receiver

-- a word that so many are below
word_over : (deep others : List ℕ) (w : ℕ) (rest : List ℕ) → get_or (deep ++ reverse_aux others (w ∷ rest)) (length deep + length others) 0 ≡ w
word_over deep others w rest =
    let front = deep ++ reverse others in
    let split : deep ++ reverse_aux others (w ∷ rest) ≡ front ++ w ∷ rest = ap (λ (ws : List ℕ). deep ++ ws) (reverse_onto others w rest) ∙ sym (append_assoc deep (reverse others) (w ∷ rest)) in
    let count : length deep + length others ≡ length front = sym (length-append deep (reverse others) ∙ ap (λ (k : ℕ). length deep + k) (length-reverse others)) in
    ap (λ (ws : List ℕ). get_or ws (length deep + length others) 0) split ∙ ap (λ (k : ℕ). get_or (front ++ w ∷ rest) k 0) count ∙ get_or-append_seam front w rest 0

receiver_is : (f : Sketch) (t u k w : ℕ) (us js upper others : List ℕ) → t ∷ u ∷ us ≡ upper ++ w ∷ others → get_or (f.deep ++ reverse_aux us (u ∷ t ∷ k ∷ js)) (64 + (length f.deep + length others) - 64) 0 ≡ w
receiver_is f t u k w us js upper others split =
    let same : 64 + (length f.deep + length others) - 64 ≡ length f.deep + length others = omega arith in
    ap (λ (i : ℕ). get_or (f.deep ++ reverse_aux us (u ∷ t ∷ k ∷ js)) i 0) same
    ∙ ap (λ (ws : List ℕ). get_or (f.deep ++ reverse_aux ws (k ∷ js)) (length f.deep + length others) 0) split
    ∙ ap (λ (ws : List ℕ). get_or (f.deep ++ ws) (length f.deep + length others) 0) (reverse_aux-both upper (w ∷ others) (k ∷ js))
    ∙ word_over f.deep others w (reverse_aux upper (k ∷ js))

to_loaded : TableLaws → (n : ℕ) (op : TableCall) (f : Sketch) (v : Low) (t u k w : ℕ) (us js : List ℕ) (r : Read) (e : Env) → let x = at_load op f v t u k us js r in Shaped n x → e.port ≡ 0 → 64 ≤ r.place → r.place < n
    → slice_index (whole x) (r.place - 64) ≡ w → Reaches n x (with_receiver op (f_read f r) (low_read v r) w t u k us js) e
to_loaded laws n Invokevirtual f v t u k w us js r e h port from small is =
    let x = at_load Invokevirtual f v t u k us js r in
    let P : ℕ → Type 0 = λ i. Reaches n x (with_receiver Invokevirtual (f_read f r) (low_read v r) i t u k us js) e in
    subst P is (laws.loads n x e false false (record { not_done = refl; running = refl }) h port (record { code = 34; word = refl; is = refl }) from small refl)
to_loaded laws n Invokespecial f v t u k w us js r e h port from small is =
    let x = at_load Invokespecial f v t u k us js r in
    let P : ℕ → Type 0 = λ i. Reaches n x (with_receiver Invokespecial (f_read f r) (low_read v r) i t u k us js) e in
    subst P is (laws.loads n x e false false (record { not_done = refl; running = refl }) h port (record { code = 34; word = refl; is = refl }) from small refl)
to_loaded laws n Invokeinterface f v t u k w us js r e h port from small is =
    let x = at_load Invokeinterface f v t u k us js r in
    let P : ℕ → Type 0 = λ i. Reaches n x (with_receiver Invokeinterface (f_read f r) (low_read v r) i t u k us js) e in
    subst P is (laws.loads n x e false false (record { not_done = refl; running = refl }) h port (record { code = 34; word = refl; is = refl }) from small refl)

-- the sketch with the receiver
abbrev pub f_here : TableCall → Sketch → Low → (others : List ℕ) → Sketch
f_here op f v others = f_read f (clean_read op f v (length f.deep + length others))

abbrev pub v_here : TableCall → Sketch → Low → (others : List ℕ) → Low
v_here op f v others = low_read v (clean_read op f v (length f.deep + length others))

abbrev pub received : TableCall → Sketch → Low → (w t u k : ℕ) → (us js others : List ℕ) → Sketch
received op f v w t u k us js others = with_receiver op (f_here op f v others) (v_here op f v others) w t u k us js

to_receiver : TableLaws → (n : ℕ) (op : TableCall) (f : Sketch) (v : Low) (t u j1 j2 j3 : ℕ) (us js : List ℕ) (e : Env) → let x = starting op f v t u j1 j2 j3 us js in (c : HasReceiver n op x) → Shaped n x → e.port ≡ 0
    → Reaches n x (received op f v c.receiver t u j3 us js c.others) e
to_receiver laws n op f v t u j1 j2 j3 us js e c h port =
    let x = starting op f v t u j1 j2 j3 us js in
    let s = sizes n op f v t u j1 j2 j3 us js c h in
    let r = clean_read op f v (length f.deep + length c.others) in
    let y = at_load op f v t u j3 us js r in
    let words = s.words in
    let small = s.small in
    let one = computed laws.parts n (words_before op) [] x y e h port (loads op f v t u j1 j2 j3 us js ∙ ap (λ (q : Read). at_load op f v t u j3 us js q) (read_is n op f v us c.upper c.others s (c.count ∙ taken_same op f v t u j1 j2 j3 us js))) refl in
    let two = to_loaded laws n op f v t u j3 c.receiver us js r one.env one.shape one.port (omega arith) (omega arith) (receiver_is f t u j3 c.receiver us js c.upper c.others c.split) in
    followed_by laws.parts n x y (received op f v c.receiver t u j3 us js c.others) e one two refl

-- ---- a receiver that is null

is_zero : (w : ℕ) → w ≡ 0 → (same_bool true (w == 0) && true) ≡ true
is_zero w h = ap (λ (k : ℕ). same_bool true (k == 0) && true) h

not_zero : (w : ℕ) → 0 < w → (same_bool false (w == 0) && true) ≡ true
not_zero w h = let no : (w == 0) ≡ false = grind (arith, nat_tests, h) in ap (λ (b : Bool). same_bool false b && true) no

pub null_raises : TableLaws → (n : ℕ) (op : TableCall) (f : Sketch) (v : Low) (t u j1 j2 j3 : ℕ) (us js : List ℕ) (e : Env) → let x = starting op f v t u j1 j2 j3 us js in (c : HasReceiver n op x) → c.receiver ≡ 0 → Shaped n x → e.port ≡ 0
    → RaiseMade n x e (past 2 x).jpc 6
null_raises laws n op f v t u j1 j2 j3 us js e c null h port =
    let x = starting op f v t u j1 j2 j3 us js in
    let w = c.receiver in
    let g = f_here op f v c.others in
    let l : Low = record (v_here op f v c.others) { s3 = w } in
    let y = received op f v w t u j3 us js c.others in
    let above = (exec 11 (true ∷ []) y).above in
    let object = slice_index f.memory (v.raise_list + 6) in
    let list = c.raise_list in
    let is : raw_object g l 6 ≡ object = object_is g l 6 (omega arith) in
    let ok = is_zero w null in
    let z = at_raise g l object t u us above true in
    let r1 = to_receiver laws n op f v t u j1 j2 j3 us js e c h port in
    let r2 = computed laws.parts n 10 (true ∷ []) y z r1.env r1.shape r1.port (nulls op g (v_here op f v c.others) w t u j3 us js ∙ (λ i. at_raise g l (is i) t u us above (ok i))) refl in
    record {
      after = z;
      reaches = followed_by laws.parts n x y z e r1 r2 refl;
      done = record { fine = refl {a = true}; done = refl {a = true}; idle = refl {a = false} };
      raises = record {
        mpc = refl;
        running = refl;
        words = refl;
        deep = refl;
        low = refl;
        memory = refl;
        jpc = refl;
        opcode = refl;
        answers = refl;
        output = refl;
        kept = record { vp = refl; method = refl; cache = refl; hits = refl; misses = refl; loads = refl; loaded = refl };
      };
    }

-- ---- the method that is called

mask_is : (f : Sketch) (second k w : ℕ) → raw_word f second k w ≡ slice_index f.memory ((raw_table f k w + second % 2 ^ 24) % 2 ^ 32)
mask_is f second k w = ap (λ (i : ℕ). slice_index f.memory ((raw_table f k w + i) % 2 ^ 32)) (and_mask second 24)

called_is : (op : TableCall) (f : Sketch) (v : Low) (w : ℕ) (others : List ℕ) → raw_called op (f_here op f v others) (v_here op f v others) w ≡ method_for op (any op f v) w
called_is Invokevirtual f v w others = mask_is f (second_word (any Invokevirtual f v)) 3 w
called_is Invokespecial f v w others = refl
called_is Invokeinterface f v w others = mask_is f (second_word (any Invokeinterface f v)) 4 w

is_found : (op : TableCall) (f : Sketch) (v : Low) (w : ℕ) → 0 < w → has_none op (any op f v) w ≡ false → found_test op (method_for op (any op f v) w) w ≡ true
is_found Invokevirtual f v w some there = not_zero w some
is_found Invokespecial f v w some there = not_zero w some
is_found Invokeinterface f v w some there = ap (λ (b : Bool). same_bool false b && (same_bool false (w == 0) && true)) there ∙ not_zero w some

-- one that isn't there raises
pub change_raises : TableLaws → (n : ℕ) (op : TableCall) (f : Sketch) (v : Low) (t u j1 j2 j3 : ℕ) (us js : List ℕ) (e : Env) → let x = starting op f v t u j1 j2 j3 us js in (c : HasReceiver n op x) → 0 < c.receiver
    → has_none op x c.receiver ≡ true → Shaped n x → e.port ≡ 0 → RaiseMade n x e (past 2 x).jpc 4
change_raises laws n Invokevirtual f v t u j1 j2 j3 us js e c some none h port = absurd (cc)
change_raises laws n Invokespecial f v t u j1 j2 j3 us js e c some none h port = absurd (cc)
change_raises laws n Invokeinterface f v t u j1 j2 j3 us js e c some none h port =
    let op = Invokeinterface in
    let x = starting op f v t u j1 j2 j3 us js in
    let w = c.receiver in
    let g = f_here op f v c.others in
    let m = table_word (any op f v) 4 w in
    let l : Low = record (v_here op f v c.others) { s3 = w; s0 = m } in
    let y = received op f v w t u j3 us js c.others in
    let above = (exec 30 (false ∷ true ∷ []) y).above in
    let object = slice_index f.memory (v.raise_list + 4) in
    let list = c.raise_list in
    let is : raw_object g l 4 ≡ object = object_is g l 4 (omega arith) in
    let called = called_is op f v w c.others in
    let ok : (same_bool true (m == 0) && (same_bool false (w == 0) && true)) ≡ true = ap (λ (b : Bool). same_bool true b && (same_bool false (w == 0) && true)) none ∙ not_zero w some in
    let z = at_raise g l object t u us above true in
    let r1 = to_receiver laws n op f v t u j1 j2 j3 us js e c h port in
    let at_word : ℕ → Sketch = λ i. at_raise g (record (v_here op f v c.others) { s3 = w; s0 = i }) (raw_object g l 4) t u us above (same_bool true (i == 0) && (same_bool false (w == 0) && true)) in
    let r2 = computed laws.parts n 29 (false ∷ true ∷ []) y z r1.env r1.shape r1.port
    (changes g (v_here op f v c.others) w t u j3 us js ∙ ap at_word called ∙ (λ i. at_raise g l (is i) t u us above (ok i))) refl in
    record {
      after = z;
      reaches = followed_by laws.parts n x y z e r1 r2 refl;
      done = record { fine = refl {a = true}; done = refl {a = true}; idle = refl {a = false} };
      raises = record {
        mpc = refl;
        running = refl;
        words = refl;
        deep = refl;
        low = refl;
        memory = refl;
        jpc = refl;
        opcode = refl;
        answers = refl;
        output = refl;
        kept = record { vp = refl; method = refl; cache = refl; hits = refl; misses = refl; loads = refl; loaded = refl };
      };
    }

-- ---- the call

-- the sketch at the common part of the calls
abbrev pub f_there : TableCall → Sketch → Low → (m : ℕ) → (others : List ℕ) → Sketch
f_there op f v m others = f_called op (f_here op f v others) m

abbrev pub v_there : TableCall → Sketch → Low → (w m : ℕ) → (others : List ℕ) → Low
v_there op f v w m others = record (v_here op f v others) { s3 = w; s0 = m }

abbrev pub invoked : TableCall → Sketch → Low → (w m t u k : ℕ) → (us js others : List ℕ) → Sketch
invoked op f v w m t u k us js others = invoking (f_there op f v m others) (v_there op f v w m others) m (length f.deep + length others) t u u t (past_word op (f_here op f v others) k w) us js

to_invoke : TableLaws → (n : ℕ) (op : TableCall) (f : Sketch) (v : Low) (t u j1 j2 j3 : ℕ) (us js : List ℕ) (e : Env) → let x = starting op f v t u j1 j2 j3 us js in (c : HasReceiver n op x) → 0 < c.receiver
    → has_none op x c.receiver ≡ false → Shaped n x → e.port ≡ 0 → Reaches n x (invoked op f v c.receiver (method_for op x c.receiver) t u j3 us js c.others) e
to_invoke laws n op f v t u j1 j2 j3 us js e c some there h port =
    let x = starting op f v t u j1 j2 j3 us js in
    let w = c.receiver in
    let m = method_for op x w in
    let g = f_here op f v c.others in
    let l = v_here op f v c.others in
    let y = received op f v w t u j3 us js c.others in
    let z = invoked op f v w m t u j3 us js c.others in
    let called = called_is op f v w c.others ∙ method_same op f v t u j1 j2 j3 us js w in
    let found : found_test op m w ≡ true =
    ap (λ (i : ℕ). found_test op i w) (sym (method_same op f v t u j1 j2 j3 us js w)) ∙ is_found op f v w some (sym (none_same op f v t u j1 j2 j3 us js w) ∙ there) in
    let r1 = to_receiver laws n op f v t u j1 j2 j3 us js e c h port in
    let r2 = computed laws.parts n (words_between op) (guesses_between op) y z r1.env r1.shape r1.port
    (finds op g l w t u j3 us js ∙ ap (λ (i : ℕ). at_call op g l w t u j3 us js i (found_test op i w)) called ∙ ap (λ (ok : Bool). at_call op g l w t u j3 us js m ok) found) refl in
    followed_by laws.parts n x y z e r1 r2 refl

behind_is : (op : TableCall) (f : Sketch) (v : Low) (m : ℕ) (others : List ℕ) → (f_there op f v m others).jpc ≡ behind op (any op f v)
behind_is Invokevirtual f v m others = refl
behind_is Invokespecial f v m others = refl
behind_is Invokeinterface f v m others = refl

enters_there : (n : ℕ) (op : TableCall) (f : Sketch) (v : Low) (w m t u j1 j2 j3 : ℕ) (us js arguments others : List ℕ) → CanEnter n (starting op f v t u j1 j2 j3 us js) m arguments others
    → CanEnter n (invoked op f v w m t u j3 us js others) m arguments others
enters_there n op f v w m t u j1 j2 j3 us js arguments others c = record {
  method = record { limits = c.method.limits; place = c.method.place; found = c.method.found };
  split = c.split;
  most = c.most;
  room = c.room;
  size = c.size;
  sum = c.sum;
  raise_list = c.raise_list;
}

pub table_call_made : TableLaws → (n : ℕ) (op : TableCall) (f : Sketch) (v : Low) (t u j1 j2 j3 : ℕ) (us js : List ℕ) (e : Env) → let x = starting op f v t u j1 j2 j3 us js in (c : HasReceiver n op x) → 0 < c.receiver
    → has_none op x c.receiver ≡ false → CanEnter n x (method_for op x c.receiver) (c.upper ++ c.receiver ∷ []) c.others → fits_at x (method_for op x c.receiver) ≡ true → Shaped n x → e.port ≡ 0
    → EntryMade n x e (method_for op x c.receiver) (behind op x) (c.upper ++ c.receiver ∷ []) c.others
table_call_made laws n op f v t u j1 j2 j3 us js e c some there d fit h port =
    let x = starting op f v t u j1 j2 j3 us js in
    let w = c.receiver in
    let m = method_for op x w in
    let arguments = c.upper ++ w ∷ [] in
    let z = invoked op f v w m t u j3 us js c.others in
    let r = to_invoke laws n op f v t u j1 j2 j3 us js e c some there h port in
    let made = entry_made laws.parts n (f_there op f v m c.others) (v_there op f v w m c.others) m t u u t (past_word op (f_here op f v c.others) j3 w) us js arguments c.others r.env
    (enters_there n op f v w m t u j1 j2 j3 us js arguments c.others d) fit r.shape r.port in
    let s = made.switches in
    let at_jpc : ℕ → List ℕ = λ i. v.method ∷ v.pool ∷ f.vp ∷ i ∷ (64 + (length f.deep + length c.others) - 3) ∷ [] in
    record {
      more = made.more;
      count = made.count;
      after = made.after;
      reaches = followed_by laws.parts n x z made.after e r made.reaches refl;
      done = made.done;
      switches = record {
        words = s.words ∙ ap at_jpc (behind_is op f v m c.others ∙ behind_same op f v t u j1 j2 j3 us js);
        deep = s.deep;
        low = s.low;
        memory = s.memory;
        vp = s.vp;
        method = s.method;
        cache = s.cache;
        hits = s.hits;
        misses = s.misses;
        loads = s.loads;
        loaded = s.loaded;
        answers = s.answers;
        output = s.output;
        opcode = s.opcode;
        jpc = s.jpc;
        mpc = s.mpc;
        operand = s.operand;
        running = s.running;
      };
    }

pub table_call_raises : TableLaws → (n : ℕ) (op : TableCall) (f : Sketch) (v : Low) (t u j1 j2 j3 : ℕ) (us js : List ℕ) (e : Env) → let x = starting op f v t u j1 j2 j3 us js in (c : HasReceiver n op x) → 0 < c.receiver
    → has_none op x c.receiver ≡ false → CanEnter n x (method_for op x c.receiver) (c.upper ++ c.receiver ∷ []) c.others → fits_at x (method_for op x c.receiver) ≡ false → Shaped n x → e.port ≡ 0
    → RaiseMade n x e (behind op x) 8
table_call_raises laws n op f v t u j1 j2 j3 us js e c some there d fit h port =
    let x = starting op f v t u j1 j2 j3 us js in
    let w = c.receiver in
    let m = method_for op x w in
    let arguments = c.upper ++ w ∷ [] in
    let z = invoked op f v w m t u j3 us js c.others in
    let r = to_invoke laws n op f v t u j1 j2 j3 us js e c some there h port in
    let made = entry_raises laws.parts n (f_there op f v m c.others) (v_there op f v w m c.others) m t u u t (past_word op (f_here op f v c.others) j3 w) us js arguments c.others r.env
    (enters_there n op f v w m t u j1 j2 j3 us js arguments c.others d) fit r.shape r.port in
    let s = made.raises in
    record {
      after = made.after;
      reaches = followed_by laws.parts n x z made.after e r made.reaches refl;
      done = made.done;
      raises = record {
        mpc = s.mpc;
        running = s.running;
        words = s.words;
        deep = s.deep;
        low = s.low;
        memory = s.memory;
        jpc = s.jpc ∙ behind_is op f v m c.others ∙ behind_same op f v t u j1 j2 j3 us js;
        opcode = s.opcode;
        answers = s.answers;
        output = s.output;
        kept = record { vp = s.kept.vp; method = s.kept.method; cache = s.kept.cache; hits = s.kept.hits; misses = s.kept.misses; loads = s.kept.loads; loaded = s.kept.loaded };
      };
    }
