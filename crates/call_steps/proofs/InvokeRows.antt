-- The common part of the calls, by computing on the sketch. The method's place and the SP to be saved are in the scratch words.
use Rattle.std.proofs.Common.{◌≡◌, ℕ, ◌+◌, ◌-◌, ◌*◌, ◌/◌, ◌%◌, ◌^◌, ◌&&◌, Bool, true, false, List, [], ◌∷◌, nat_lt, bit_and, if◌then◌else◌, refl}
use Rattle.std.specs.Prelude.{slice_index}
use Rattle.jop_core.specs.Operations.{number_of}
use Rattle.microcode.specs.declared.addresses.TheConstants.{INVOKE}
use Rattle.jop_core.specs.Operations.{code_words}
use Rattle.method_cache.specs.Contents.{is_cached}
use Rattle.micro_sketch.specs.Sketch.{Sketch, exec, same_bool, can_find, found_words, cached, missed, go_on}
use Rattle.call_steps.proofs.Parts.{Low, at}

-- f before anything was loaded or put out
abbrev pub unloaded : Sketch → Sketch
unloaded f = record f { loads = 0; words = 0; output = [] }

-- about to call the method at the place, where so many words are below its arguments
abbrev pub low_invoking : Sketch → Low → (method below : ℕ) → Low
low_invoking f v m below = record v { s0 = m; s6 = 64 + below - 3 }

abbrev pub invoking : Sketch → Low → (method below : ℕ) → (t u j1 j2 j3 : ℕ) → (us js : List ℕ) → Sketch
invoking f v m below t u j1 j2 j3 us js = at INVOKE (unloaded f) (low_invoking f v m below) t u us (j1 ∷ j2 ∷ j3 ∷ js)

-- ---- what is read, as it computes

abbrev pub limits : Sketch → (method : ℕ) → ℕ
limits f m = slice_index f.memory m

abbrev pub raw_sum : Sketch → (method frames : ℕ) → ℕ
raw_sum f m frames = (((bit_and (limits f m) 65535 + limits f m / 2 ^ 16) % 2 ^ 32 + 5) % 2 ^ 32 + frames) % 2 ^ 32

-- ---- to the frame's place

-- what was read: the local variables, the sum of the frames, the pool and the frame's place
pub record Reads : Type 0 where
  pub locals : ℕ
  pub sum : ℕ
  pub pool : ℕ
  pub place : ℕ
  pub fits : Bool

abbrev pub raw_reads : Sketch → Low → (method below : ℕ) → Reads
raw_reads f v m below = record {
  locals = limits f m / 2 ^ 16;
  sum = raw_sum f m v.frames;
  pool = slice_index f.memory ((m + 2) % 2 ^ 32);
  place = (64 + below - 3 + 3) % 2 ^ 32;
  fits = same_bool false (nat_lt 0 (number_of (nat_lt v.most (raw_sum f m v.frames)))) && true;
}

abbrev pub low_with : Sketch → Low → Reads → Low
low_with f v r = record v { s4 = r.locals; s5 = r.sum; s7 = r.pool; s8 = f.vp; frames = r.sum }

abbrev pub read_by : Sketch → Reads → Sketch
read_by f r = record (unloaded f) { value = r.pool }

abbrev pub at_place : Sketch → Low → (t u k : ℕ) → (us js : List ℕ) → Reads → Sketch
at_place f v t u k us js r = record (at (INVOKE + 37) (read_by f r) (low_with f v r) r.place t (u ∷ us) (t ∷ k ∷ js)) { fine = r.fits }

pub reads : (f : Sketch) (v : Low) (m below t u j1 j2 j3 : ℕ) (us js : List ℕ) → exec 37 (false ∷ []) (invoking f v m below t u j1 j2 j3 us js)
    ≡ at_place f (low_invoking f v m below) t u (bit_and (limits f m) 65535) us js (raw_reads f v m below)
reads f v m below t u j1 j2 j3 us js = refl

-- ---- to the new SP, which is that of the last local variable

abbrev pub raw_last : Sketch → Low → ℕ
raw_last f v = ((f.vp + v.s4) % 2 ^ 32 + (2 ^ 32 - 1)) % 2 ^ 32

abbrev pub at_cut : Sketch → Low → (t u : ℕ) → (us js : List ℕ) → (last : ℕ) → Sketch
at_cut f v t u us js last = at (INVOKE + 49) f (record v { s15 = last }) last t (u ∷ us) (t ∷ js)

pub cuts : (f : Sketch) (v : Low) (t u j1 j2 : ℕ) (us js : List ℕ) → exec 11 [] (at (INVOKE + 38) f v t u us (j1 ∷ j2 ∷ js)) ≡ at_cut f v t u us js (raw_last f v)
cuts f v t u j1 j2 us js = refl

-- ---- the saved words, and the method

abbrev pub at_saving : Sketch → Low → (t u a b q1 q2 q3 q4 : ℕ) → List ℕ → Sketch
at_saving f v t u a b q1 q2 q3 q4 js = at (INVOKE + 50) f v t u (b ∷ a ∷ []) (q1 ∷ q2 ∷ q3 ∷ q4 ∷ js)

abbrev pub entering : Sketch → Low → (a b : ℕ) → (above : List ℕ) → Bool → Sketch
entering f v a b above ok = go_on (record (at (INVOKE + 64) f (record v { pool = v.s7; method = v.s0 }) v.method v.pool (v.s8 ∷ f.jpc ∷ v.s6 ∷ b ∷ a ∷ []) above) {
  jpc = 0;
  method = v.s0;
  cache = cached v.s0 (found_words f v.s0) f.cache;
  hits = if is_cached v.s0 f.cache then (f.hits + 1) % 2 ^ 64 else f.hits;
  misses = if is_cached v.s0 f.cache then f.misses else (f.misses + 1) % 2 ^ 64;
  loads = f.loads + missed v.s0 f.cache;
  words = f.words + missed v.s0 f.cache * code_words f.memory v.s0;
  fine = ok;
})

pub enters : (f : Sketch) (v : Low) (t u a b q1 q2 q3 q4 : ℕ) (js : List ℕ) → let x = at_saving f v t u a b q1 q2 q3 q4 js in
    exec 15 [] x ≡ entering f v a b (exec 15 [] x).above ((can_find f v.s0 && true) && true)
enters f v t u a b q1 q2 q3 q4 js = refl
