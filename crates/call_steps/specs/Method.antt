-- The record of a method in memory, as the microcode reads it: its limits, the words of its arguments and of its code, and the pool of its class.
use Rattle.std.specs.Prelude.{ℕ, ◌≡◌, ◌+◌, ◌*◌, ◌/◌, ◌%◌, ◌^◌, ◌<◌, true, List, [], drop, if◌then◌else◌, slice_index, slice_set}
use Rattle.method_cache.specs.Contents.{is_cached}
use Rattle.jop_core.specs.Operations.{code_words}
use Rattle.micro_sketch.specs.Sketch.{Sketch, can_find, cached, missed, found_words}
use Rattle.micro_sketch.specs.Row.{words_of}
use Rattle.micro_sketch.specs.Rows.{Switch}

abbrev pub max_locals : List ℕ → (method : ℕ) → ℕ
max_locals memory m = slice_index memory m / 2 ^ 16

abbrev pub max_stack : List ℕ → (method : ℕ) → ℕ
max_stack memory m = slice_index memory m % 2 ^ 16

abbrev pub argument_words : List ℕ → (method : ℕ) → ℕ
argument_words memory m = slice_index memory (m + 1) / 2 ^ 16

abbrev pub pool : List ℕ → (method : ℕ) → ℕ
pool memory m = slice_index memory (m + 2)

-- the words of its frame: local variables, the five that are saved, and operands
abbrev pub frame_words : List ℕ → (method : ℕ) → ℕ
frame_words memory m = max_locals memory m + 5 + max_stack memory m

-- the record's words are words, and the method can become the current one
pub record IsMethod (x : Sketch) (m : ℕ) : Type 0 where
  pub limits : slice_index x.memory m < 2 ^ 32
  pub place : m + 2 < 2 ^ 32
  pub found : can_find x m ≡ true

-- the on-chip places from 24 to 31, where another method is the current one, its class has the pool, and the frames take so many words
abbrev pub with_method : (pool method frames : ℕ) → List ℕ → List ℕ
with_method pool method frames low = slice_set (slice_set (slice_set low 0 pool) 1 method) 4 frames

-- a look-up of the method, which is then the current one
abbrev pub looked_up : Sketch → (method : ℕ) → Switch → Switch
looked_up x m f = record f {
  method = m;
  cache = cached m (found_words x m) x.cache;
  hits = if is_cached m x.cache then (x.hits + 1) % 2 ^ 64 else x.hits;
  misses = if is_cached m x.cache then x.misses else (x.misses + 1) % 2 ^ 64;
  loads = missed m x.cache;
  loaded = missed m x.cache * code_words x.memory m;
}

-- x as it stands, as a row may change it
abbrev pub as_it_stands : Sketch → Switch
as_it_stands x = record {
  words = words_of x;
  deep = x.deep;
  low = drop 24 x.low;
  memory = x.memory;
  vp = x.vp;
  method = x.method;
  cache = x.cache;
  hits = x.hits;
  misses = x.misses;
  loads = 0;
  loaded = 0;
  jpc = x.jpc;
  answers = x.answers;
  output = [];
}
