-- The parts of the raise routine, by computing on the sketch.
use Rattle.std.proofs.Common.{◌≡◌, ℕ, suc, ◌+◌, ◌-◌, ◌*◌, ◌/◌, ◌%◌, ◌^◌, ◌==◌, ◌&&◌, Bool, true, false, nat_lt, if◌then◌else◌, List, [], ◌∷◌, bit_and, refl}
use Rattle.std.specs.Prelude.{slice_index}
use Rattle.microcode.specs.declared.TheConstants.{RAISE}
use Rattle.microcode.specs.declared.addresses.TheConstants.{HANDLER_TURN, HANDLER_FOUND, DROP_FRAME, END}
use Rattle.method_cache.specs.Contents.{is_cached}
use Rattle.micro_flow.specs.Walk.{used}
use Rattle.jop_core.specs.declared.halt.Halt.TheVariants.{Uncaught}
use Rattle.jop_core.specs.Operations.{code_words, number_of, signed_lt}
use Rattle.micro_sketch.specs.Sketch.{Sketch, exec, same_bool, inside, can_find, found_words, cached, missed, go_on}
use Rattle.call_steps.specs.Parts.{Low, at}
use Rattle.call_steps.specs.Returns.{Saved}

-- f before anything was loaded or put out
abbrev pub unloaded : Sketch → Sketch
unloaded f = record f { loads = 0; words = 0; output = [] }

-- ---- to the first entry

abbrev pub entries_read : Sketch → Low → ℕ
entries_read f v = slice_index f.memory ((v.method + 3) % 2 ^ 32)

-- f at an entry: the type's place, how many entries are left, and the place of the next one
abbrev pub low_turn : Low → (type count place : ℕ) → Low
low_turn v type count place = record v { s10 = type; s11 = count; s12 = place }

abbrev pub turning : Sketch → Low → (t u a b c : ℕ) → (us js : List ℕ) → (type count place : ℕ) → Sketch
turning f v t u a b c us js type count place = at HANDLER_TURN f (low_turn v type count place) t u us (a ∷ b ∷ c ∷ js)

pub opens : (f : Sketch) (v : Low) (t u a b c : ℕ) (us js : List ℕ) → exec 16 [] (at RAISE (unloaded f) v t u us (a ∷ b ∷ c ∷ js))
    ≡ turning (record (unloaded f) { value = entries_read f v }) v t u u t c us js (slice_index f.memory v.raised) (entries_read f v) ((v.method + 4) % 2 ^ 32)
opens f v t u a b c us js = refl

-- ---- one entry

-- the tests, as they compute

abbrev pub range_at : Sketch → (place : ℕ) → ℕ
range_at f place = slice_index f.memory place

abbrev pub type_at : Sketch → (place : ℕ) → ℕ
type_at f place = slice_index f.memory ((place + 2) % 2 ^ 32)

abbrev pub starts : Sketch → (place : ℕ) → ℕ
starts f place = number_of (signed_lt (range_at f place / 2 ^ 16) f.jpc)

abbrev pub ended : Sketch → (place : ℕ) → ℕ
ended f place = number_of (signed_lt (bit_and (range_at f place) 65535) f.jpc)

abbrev pub number_at : Sketch → (place : ℕ) → ℕ
number_at f place = (type_at f place + (2 ^ 32 - 1)) % 2 ^ 32

abbrev pub word_at : Sketch → (type number : ℕ) → ℕ
word_at f type number = slice_index f.memory (((type + 5) % 2 ^ 32 + number / 32) % 2 ^ 32)

abbrev pub bit_at : Sketch → (type place : ℕ) → ℕ
bit_at f type place = bit_and (word_at f type (number_at f place) / 2 ^ (number_at f place % 32)) 1

abbrev pub some_left : (count : ℕ) → Bool
some_left count = same_bool false (count == 0) && true

-- the next entry, with a turn less
abbrev pub onward : Sketch → (value : ℕ) → Sketch
onward f value = record f { value = value; left = used (HANDLER_FOUND - 1) f.left }

abbrev pub turned : Sketch → Bool
turned f = nat_lt 0 (f.left (HANDLER_FOUND - 1))

abbrev pub next : Sketch → Low → (t u c : ℕ) → (us js : List ℕ) → (type count place value : ℕ) → (ok : Bool) → Sketch
next f v t u c us js type count place value ok =
    record (turning (onward f value) v t u u t c us js type ((count + (2 ^ 32 - 1)) % 2 ^ 32) ((place + 3) % 2 ^ 32)) { fine = ok }

-- none is left
pub none_left : (f : Sketch) (v : Low) (t u a b c : ℕ) (us js : List ℕ) (type count place : ℕ) → exec 2 (true ∷ []) (turning f v t u a b c us js type count place)
    ≡ record (at DROP_FRAME f (low_turn v type count place) t u us (u ∷ b ∷ c ∷ js)) { fine = same_bool true (count == 0) && true }
none_left f v t u a b c us js type count place = refl

-- the range begins later
pub begins_later : (f : Sketch) (v : Low) (t u a b c : ℕ) (us js : List ℕ) (type count place : ℕ) → exec 22 (false ∷ true ∷ []) (turning f v t u a b c us js type count place)
    ≡ next f (record v { s13 = range_at f place }) t u c us js type count place (range_at f place) (turned f && (same_bool true (starts f place == 0) && some_left count))
begins_later f v t u a b c us js type count place = refl

-- it ends before
pub ends_before : (f : Sketch) (v : Low) (t u a b c : ℕ) (us js : List ℕ) (type count place : ℕ) → exec 28 (false ∷ false ∷ true ∷ []) (turning f v t u a b c us js type count place)
    ≡ next f (record v { s13 = range_at f place }) t u c us js type count place (range_at f place) (turned f && (same_bool true (nat_lt 0 (ended f place)) && (same_bool false (starts f place == 0) && some_left count)))
ends_before f v t u a b c us js type count place = refl

-- it covers the place
abbrev pub covered : Sketch → (count place : ℕ) → Bool
covered f count place = same_bool false (nat_lt 0 (ended f place)) && (same_bool false (starts f place == 0) && some_left count)

-- the entry's handler is entered
abbrev pub found : Sketch → Low → (t u c : ℕ) → (us js : List ℕ) → (type count place range number value : ℕ) → (ok : Bool) → Sketch
found f v t u c us js type count place range number value ok =
    record (at HANDLER_FOUND (record f { value = value }) (record (low_turn v type count place) { s13 = range; s14 = number }) t u us (u ∷ t ∷ c ∷ js)) { fine = ok }

-- it catches any object
pub catches_any : (f : Sketch) (v : Low) (t u a b c : ℕ) (us js : List ℕ) (type count place : ℕ) → exec 28 (false ∷ false ∷ false ∷ true ∷ []) (turning f v t u a b c us js type count place)
    ≡ found f v t u c us js type count place (range_at f place) (type_at f place) (type_at f place) (same_bool true (type_at f place == 0) && covered f count place)
catches_any f v t u a b c us js type count place = refl

-- it catches objects of the type
pub catches_it : (f : Sketch) (v : Low) (t u a b c : ℕ) (us js : List ℕ) (type count place : ℕ) → exec 47 (false ∷ false ∷ false ∷ false ∷ true ∷ []) (turning f v t u a b c us js type count place)
    ≡ found f v t u ((type + 5) % 2 ^ 32) us js type count place (range_at f place) (number_at f place) (word_at f type (number_at f place))
    (same_bool true (nat_lt 0 (bit_at f type place)) && (same_bool false (type_at f place == 0) && covered f count place))
catches_it f v t u a b c us js type count place = refl

-- it doesn't
pub catches_other : (f : Sketch) (v : Low) (t u a b c : ℕ) (us js : List ℕ) (type count place : ℕ) → exec 56 (false ∷ false ∷ false ∷ false ∷ false ∷ []) (turning f v t u a b c us js type count place)
    ≡ next f (record v { s13 = range_at f place; s14 = number_at f place }) t u ((type + 5) % 2 ^ 32) us js type count place (word_at f type (number_at f place))
    (turned f && (same_bool false (nat_lt 0 (bit_at f type place)) && (same_bool false (type_at f place == 0) && covered f count place)))
catches_other f v t u a b c us js type count place = refl

-- ---- the handler

abbrev pub limits_of : Sketch → Low → ℕ
limits_of f v = slice_index f.memory v.method

abbrev pub raw_top : Sketch → Low → ℕ
raw_top f v = ((limits_of f v / 2 ^ 16 + f.vp) % 2 ^ 32 + 4) % 2 ^ 32

abbrev pub raw_target : Sketch → Low → ℕ
raw_target f v = slice_index f.memory ((v.s12 + 1) % 2 ^ 32)

-- to the new SP, which is that of the last saved word
abbrev pub at_cut : Sketch → Low → (t u c : ℕ) → (us js : List ℕ) → (target top : ℕ) → Sketch
at_cut f v t u c us js target top = at (HANDLER_FOUND + 23) (record f { value = limits_of f v }) (record v { s13 = target; s15 = top }) top t (u ∷ us) (t ∷ c ∷ js)

pub cuts : (f : Sketch) (v : Low) (t u a b c : ℕ) (us js : List ℕ) → exec 23 [] (at HANDLER_FOUND f v t u us (a ∷ b ∷ c ∷ js)) ≡ at_cut f v t u c us js (raw_target f v) (raw_top f v)
cuts f v t u a b c us js = refl

-- to the method
abbrev pub at_saved : Sketch → Low → (t u : ℕ) → Saved → (js : List ℕ) → Sketch
at_saved f v t u d js = at (HANDLER_FOUND + 24) f v t u (d.method ∷ d.pool ∷ d.vp ∷ d.jpc ∷ d.sp ∷ []) js

abbrev pub handling : Sketch → Low → Saved → (above : List ℕ) → (jpc : ℕ) → Bool → Sketch
handling f v d above jpc ok = go_on (record (at (HANDLER_FOUND + 30) f v v.raised d.method (d.pool ∷ d.vp ∷ d.jpc ∷ d.sp ∷ []) above) {
  jpc = jpc;
  method = v.method;
  cache = cached v.method (found_words f v.method) f.cache;
  hits = if is_cached v.method f.cache then (f.hits + 1) % 2 ^ 64 else f.hits;
  misses = if is_cached v.method f.cache then f.misses else (f.misses + 1) % 2 ^ 64;
  loads = f.loads + missed v.method f.cache;
  words = f.words + missed v.method f.cache * code_words f.memory v.method;
  fine = ok;
})

pub handles : (f : Sketch) (v : Low) (t u : ℕ) (d : Saved) (js : List ℕ) → let x = at_saved f v t u d js in exec 7 [] x ≡ handling f v d (exec 7 [] x).above (v.s13 % 2 ^ 16) ((can_find f v.method && true) && true)
handles f v t u d js = refl

-- ---- the frame goes

abbrev pub raw_frames : Sketch → Low → ℕ
raw_frames f v =
    let w = limits_of f v in (((v.frames + (2 ^ 32 - bit_and w 65535)) % 2 ^ 32 + (2 ^ 32 - w / 2 ^ 16)) % 2 ^ 32 + (2 ^ 32 - 5)) % 2 ^ 32

abbrev pub raw_last : Sketch → Low → ℕ
raw_last f v = ((f.vp + limits_of f v / 2 ^ 16) % 2 ^ 32 + 4) % 2 ^ 32

-- a word past those of the stack
abbrev pub left_over : Sketch → Low → ℕ
left_over f v = (v.frames + (2 ^ 32 - bit_and (limits_of f v) 65535)) % 2 ^ 32

abbrev pub low_left : Sketch → Low → (frames top : ℕ) → Low
low_left f v frames top = record v { s4 = limits_of f v / 2 ^ 16; s15 = top; frames = frames }

abbrev pub at_drop : Sketch → Low → (t u k : ℕ) → (us js : List ℕ) → (frames top : ℕ) → (ok : Bool) → Sketch
at_drop f v t u k us js frames top ok = record (at (DROP_FRAME + 31) (record f { value = limits_of f v }) (low_left f v frames top) top t (u ∷ us) (t ∷ k ∷ js)) { fine = ok }

pub leaves : (f : Sketch) (v : Low) (t u a b c : ℕ) (us js : List ℕ) → exec 31 (false ∷ []) (at DROP_FRAME f v t u us (a ∷ b ∷ c ∷ js))
    ≡ at_drop f v t u (left_over f v) us js (raw_frames f v) (raw_last f v) (same_bool false (f.vp == 64) && true)
leaves f v t u a b c us js = refl

abbrev pub at_dropped : Sketch → Low → (t u a b : ℕ) → Saved → List ℕ → Sketch
at_dropped f v t u a b d js = at (DROP_FRAME + 32) f v t u (d.method ∷ d.pool ∷ d.vp ∷ d.jpc ∷ d.sp ∷ b ∷ a ∷ []) js

abbrev pub low_taken : Low → Saved → (sp : ℕ) → Low
low_taken v d sp = record v { method = d.method; pool = d.pool; s15 = sp }

abbrev pub at_second : Sketch → Low → (a b : ℕ) → Saved → List ℕ → (jpc sp : ℕ) → (ok : Bool) → Sketch
at_second f v a b d js jpc sp ok =
    record (at (DROP_FRAME + 46) (record f { vp = d.vp; jpc = jpc }) (low_taken v d sp) sp b (a ∷ []) (b ∷ d.sp ∷ d.jpc ∷ d.vp ∷ d.pool ∷ d.method ∷ js)) { fine = ok }

pub takes_over : (f : Sketch) (v : Low) (t u a b : ℕ) (d : Saved) (js : List ℕ) → exec 14 [] (at_dropped f v t u a b d js)
    ≡ at_second f v a b d js (d.jpc % 2 ^ 16) ((d.sp + 2) % 2 ^ 32) (inside d.vp f && true)
takes_over f v t u a b d js = refl

-- at the raise routine again
abbrev pub at_caller : Sketch → Low → (t u a b : ℕ) → (ws js : List ℕ) → Sketch
at_caller f v t u a b ws js = at (DROP_FRAME + 47) f v t u (a ∷ b ∷ ws) js

abbrev pub again : Sketch → Low → (t u a b : ℕ) → (ws js : List ℕ) → (ok : Bool) → Sketch
again f v t u a b ws js ok = record (at RAISE (record f { left = used (END - 1) f.left }) v a b ws (b ∷ a ∷ js)) { fine = ok; done = true }

pub goes_again : (f : Sketch) (v : Low) (t u a b : ℕ) (ws js : List ℕ) → exec 3 [] (at_caller f v t u a b ws js) ≡ again f v t u a b ws js (nat_lt 0 (f.left (END - 1)) && true)
goes_again f v t u a b ws js = refl

-- boot's frame stays
abbrev pub stopped : Sketch → Low → (t u : ℕ) → (us js : List ℕ) → (ok : Bool) → Sketch
stopped f v t u us js ok = record (at (DROP_FRAME + 1) f v t u us js) { halt = Uncaught; fine = ok; done = true }

pub stops : (f : Sketch) (v : Low) (t u : ℕ) (us js : List ℕ) → exec 1 (true ∷ []) (at DROP_FRAME f v t u us js) ≡ stopped f v t u us js (same_bool true (f.vp == 64) && true)
stops f v t u us js = refl
