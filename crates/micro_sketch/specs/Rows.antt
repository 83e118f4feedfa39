-- Rows of the microcode: what some words make of an opcode's entry, and the runs of the machine that follow.
-- Of these `makes`, `makes_raw` and what else builds a record from an outcome are for proofs alone; the laws of rows (RowLaws, FrameLaws) rest on the records.
use Rattle.std.specs.Prelude.{ℕ, zero, suc, ◌≡◌, ◌+◌, ◌%◌, ◌^◌, ◌≤◌, Bool, true, false, List, [], ◌∷◌, drop, slice_set}
use Rattle.std.specs.declared.option.Option.{Option}
use Rattle.std.proofs.Common.{sym, ap, ◌∙◌, subst}
use Rattle.microcode.specs.declared.TheConstants.{RAISE}
use Rattle.method_cache.specs.Contents.{Cache}
use Rattle.micro_flow.specs.declared.CostParams.{CostParams}
use Rattle.micro_flow.specs.Walk.{IsCost}
use Rattle.jop_core.specs.declared.halt.Halt.{Halt}
use Rattle.jop_core.specs.declared.halt.Halt.TheVariants.{Running}
use Rattle.jop_core.specs.State.{MachineState}
use Rattle.jop_core.specs.Cycle.{entry_of}
use Rattle.micro_sketch.specs.Sketch.{Sketch, exec, start, abyte}
use Rattle.micro_sketch.specs.Stands.{Env, Shaped, Reaches, IsDone, conc, stalls}
use Rattle.micro_sketch.specs.Row.{Effect, Follows, IsKept, words_of}

-- What some words make of a sketch, by computing.

-- some words from x on have the effect, and lead to the next opcode
pub record Makes (f : Effect) (x : Sketch) : Type 0 where
  pub words : ℕ
  pub guesses : List Bool
  pub done : IsDone (exec (suc words) guesses x)
  pub follows : Follows f x (exec (suc words) guesses x)

-- some words from x on come to a boundary, and load no method
pub record Finishes (x : Sketch) : Type 0 where
  pub words : ℕ
  pub guesses : List Bool
  pub done : IsDone (exec (suc words) guesses x)
  pub loads : (exec (suc words) guesses x).loads ≡ 0
  pub loaded : (exec (suc words) guesses x).words ≡ 0

abbrev pub end_of : (x : Sketch) → Finishes x → Sketch
end_of x g = exec (suc g.words) g.guesses x

abbrev pub finishes : (f : Effect) (x : Sketch) → Makes f x → Finishes x
finishes f x m = record { words = m.words; guesses = m.guesses; done = m.done; loads = m.follows.kept.loads; loaded = m.follows.kept.loaded }

-- What of a sketch a row speaks of. Where a row is followed by computing, this is what computes.
pub record Outcome : Type 0 where
  pub words : List ℕ
  pub deep : List ℕ
  pub answers : List (Option ℕ)
  pub output : List ℕ
  pub opcode : ℕ
  pub jpc : ℕ
  pub mpc : ℕ
  pub operand : ℕ
  pub halt : Halt
  pub vp : ℕ
  pub method : ℕ
  pub cache : Cache
  pub memory : List ℕ
  pub hits : ℕ
  pub misses : ℕ
  pub low : List ℕ
  pub loads : ℕ
  pub loaded : ℕ
  pub fine : Bool
  pub done : Bool
  pub busy : Bool

abbrev pub outcome_of : Sketch → Outcome
outcome_of y = record {
  words = words_of y;
  deep = y.deep;
  answers = y.answers;
  output = y.output;
  opcode = y.opcode;
  jpc = y.jpc;
  mpc = y.mpc;
  operand = y.operand;
  halt = y.halt;
  vp = y.vp;
  method = y.method;
  cache = y.cache;
  memory = y.memory;
  hits = y.hits;
  misses = y.misses;
  low = drop 24 y.low;
  loads = y.loads;
  loaded = y.words;
  fine = y.fine;
  done = y.done;
  busy = y.busy;
}

-- the outcome of an effect on x, where the row was allowed or not
abbrev pub outcome : (allowed : Bool) → Effect → Sketch → Outcome
outcome allowed f x = record {
  words = f.words;
  deep = f.deep;
  answers = f.answers;
  output = f.output;
  opcode = abyte (record x { jpc = f.jpc });
  jpc = (f.jpc + 1) % 2 ^ 16;
  mpc = entry_of (abyte (record x { jpc = f.jpc }));
  operand = 0;
  halt = Running;
  vp = x.vp;
  method = x.method;
  cache = x.cache;
  memory = f.memory;
  hits = x.hits;
  misses = x.misses;
  low = f.low;
  loads = 0;
  loaded = 0;
  fine = allowed;
  done = true;
  busy = false;
}

pub makes : (k : ℕ) (guesses : List Bool) (f : Effect) (x : Sketch) (allowed : Bool) → outcome_of (exec (suc k) guesses x) ≡ outcome allowed f x
    → allowed ≡ true → Makes f x
makes k guesses f x allowed h fine = record {
  words = k;
  guesses = guesses;
  done = record { fine = ap (λ (o : Outcome). o.fine) h ∙ fine; done = ap (λ (o : Outcome). o.done) h; idle = ap (λ (o : Outcome). o.busy) h };
  follows = record {
    words = ap (λ (o : Outcome). o.words) h;
    deep = ap (λ (o : Outcome). o.deep) h;
    low = ap (λ (o : Outcome). o.low) h;
    memory = ap (λ (o : Outcome). o.memory) h;
    answers = ap (λ (o : Outcome). o.answers) h;
    output = ap (λ (o : Outcome). o.output) h;
    opcode = ap (λ (o : Outcome). o.opcode) h;
    jpc = ap (λ (o : Outcome). o.jpc) h;
    mpc = ap (λ (o : Outcome). o.mpc) h ∙ sym (ap (λ (o : Outcome). entry_of o.opcode) h);
    operand = ap (λ (o : Outcome). o.operand) h;
    running = ap (λ (o : Outcome). o.halt) h;
    kept = record {
      vp = ap (λ (o : Outcome). o.vp) h;
      method = ap (λ (o : Outcome). o.method) h;
      cache = ap (λ (o : Outcome). o.cache) h;
      hits = ap (λ (o : Outcome). o.hits) h;
      misses = ap (λ (o : Outcome). o.misses) h;
      loads = ap (λ (o : Outcome). o.loads) h;
      loaded = ap (λ (o : Outcome). o.loaded) h;
    };
  };
}

-- so where the row computes to a raw form of its effect
pub makes_raw : (k : ℕ) (guesses : List Bool) (raw f : Effect) (x : Sketch) (allowed : Bool) → outcome_of (exec (suc k) guesses x) ≡ outcome allowed raw x
    → allowed ≡ true → raw ≡ f → Makes f x
makes_raw k guesses raw f x allowed h fine same = let P : Effect → Type 0 = λ g. Makes g x in subst P same (makes k guesses raw x allowed h fine)

-- The lists of a sketch with so many words shown, so that a row computes on them.

abbrev pub head_of : List ℕ → ℕ
head_of [] = 0
head_of (x ∷ xs) = x

abbrev pub tail_of : List ℕ → List ℕ
tail_of [] = []
tail_of (x ∷ xs) = xs

abbrev pub shown : ℕ → List ℕ → List ℕ
shown zero xs = xs
shown (suc k) xs = head_of xs ∷ shown k (tail_of xs)

-- x as it stands at the opcode's entry
abbrev pub entered : (op : ℕ) → Sketch → Sketch
entered op x = record (start (entry_of op) op x x.top x.next (shown 3 x.under) (shown 16 x.above)) { low = shown 32 x.low; output = [] }

-- a sketch that expects other answers stands for the same machine
abbrev pub expecting : List (Option ℕ) → Sketch → Sketch
expecting answers x = record x { answers = answers }

-- Runs of the machine from an opcode's entry.

-- from x the machine comes to its next boundary
pub record Run (n : ℕ) (x : Sketch) (e : Env) : Type 0 where
  pub after : Sketch
  pub reaches : Reaches n x after e
  pub done : IsDone after

-- a run that takes no answer of the input
pub record TakesNone (n : ℕ) (x : Sketch) (e : Env) : Type 0 where
  pub run : Run n x e
  pub answers : run.after.answers ≡ x.answers

-- a run that puts nothing out
pub record PutsNone (n : ℕ) (x : Sketch) (e : Env) : Type 0 where
  pub run : Run n x e
  pub output : run.after.output ≡ x.output

-- a run that does neither
pub record Silent (n : ℕ) (x : Sketch) (e : Env) : Type 0 where
  pub after : Sketch
  pub reaches : Reaches n x after e
  pub done : IsDone after
  pub answers : after.answers ≡ x.answers
  pub output : after.output ≡ x.output

-- The machine comes from the opcode's entry to the next opcode as the effect says, in at most the opcode's cost.
pub record RunsRow (n : ℕ) (p : CostParams) (op : ℕ) (f : Effect) (x : Sketch) (e : Env) : Type 0 where
  pub after : Sketch
  pub reaches : Reaches n x after e
  pub done : IsDone after
  pub follows : Follows f x after
  pub cost : (c : ℕ) → IsCost op p c → reaches.cycles ≤ c

-- What a row that raises leaves: the words of the stack, the place of the next byte, and the place of the object that is raised.
pub record Raising : Type 0 where
  pub words : List ℕ
  pub jpc : ℕ
  pub object : ℕ

-- y is x at the raise routine: the place of the object is at the on-chip place 31, and the rest is as it was, but for scratch and what the
-- row took off the stack
pub record Raises (f : Raising) (x y : Sketch) : Type 0 where
  pub mpc : y.mpc ≡ RAISE
  pub running : y.halt ≡ Running
  pub words : words_of y ≡ f.words
  pub deep : y.deep ≡ x.deep
  pub low : drop 24 y.low ≡ slice_set (drop 24 x.low) 7 f.object
  pub memory : y.memory ≡ x.memory
  pub jpc : y.jpc ≡ f.jpc
  pub opcode : y.opcode ≡ x.opcode
  pub answers : y.answers ≡ x.answers
  pub output : y.output ≡ []
  pub kept : IsKept x y

-- The machine comes from the opcode's entry to the raise routine, in at most the opcode's cost.
pub record RunsToRaise (n : ℕ) (p : CostParams) (op : ℕ) (f : Raising) (x : Sketch) (e : Env) : Type 0 where
  pub after : Sketch
  pub reaches : Reaches n x after e
  pub done : IsDone after
  pub raises : Raises f x after
  pub cost : (c : ℕ) → IsCost op p c → reaches.cycles ≤ c

-- y is x halted, with all its words as they were
pub record Halts (how : Halt) (x y : Sketch) : Type 0 where
  pub halt : y.halt ≡ how
  pub words : words_of y ≡ words_of x
  pub deep : y.deep ≡ x.deep
  pub low : drop 24 y.low ≡ drop 24 x.low
  pub memory : y.memory ≡ x.memory
  pub answers : y.answers ≡ x.answers
  pub output : y.output ≡ []
  pub kept : IsKept x y

-- What a row may change that leaves its frame or its method: all that an effect has, the frame's place, the method and the cache with its
-- counts. loads and loaded count the methods that it loads and their words.
pub record Switch : Type 0 where
  pub words : List ℕ
  pub deep : List ℕ
  pub low : List ℕ
  pub memory : List ℕ
  pub vp : ℕ
  pub method : ℕ
  pub cache : Cache
  pub hits : ℕ
  pub misses : ℕ
  pub loads : ℕ
  pub loaded : ℕ
  pub jpc : ℕ
  pub answers : List (Option ℕ)
  pub output : List ℕ

-- y is x after that, about to run the opcode at the new place of the method
pub record Switches (f : Switch) (x y : Sketch) : Type 0 where
  pub words : words_of y ≡ f.words
  pub deep : y.deep ≡ f.deep
  pub low : drop 24 y.low ≡ f.low
  pub memory : y.memory ≡ f.memory
  pub vp : y.vp ≡ f.vp
  pub method : y.method ≡ f.method
  pub cache : y.cache ≡ f.cache
  pub hits : y.hits ≡ f.hits
  pub misses : y.misses ≡ f.misses
  pub loads : y.loads ≡ f.loads
  pub loaded : y.words ≡ f.loaded
  pub answers : y.answers ≡ f.answers
  pub output : y.output ≡ f.output
  pub opcode : y.opcode ≡ abyte (record x { method = f.method; cache = f.cache; jpc = f.jpc })
  pub jpc : y.jpc ≡ (f.jpc + 1) % 2 ^ 16
  pub mpc : y.mpc ≡ entry_of y.opcode
  pub operand : y.operand ≡ 0
  pub running : y.halt ≡ Running

-- The machine comes from the opcode's entry to the next opcode so, in at most the opcode's cost and the stalls of its loads.
pub record RunsSwitch (n : ℕ) (p : CostParams) (op : ℕ) (f : Switch) (x : Sketch) (e : Env) : Type 0 where
  pub after : Sketch
  pub reaches : Reaches n x after e
  pub done : IsDone after
  pub switches : Switches f x after
  pub cost : (c : ℕ) → IsCost op p c → reaches.cycles ≤ c + stalls after p.r

-- The machine came to the next boundary so, and its port is idle.
pub record DidSwitch (n : ℕ) (p : CostParams) (op : ℕ) (f : Switch) (x : Sketch) (e : Env) (cycles : ℕ) (new : MachineState) : Type 0 where
  pub after : Sketch
  pub env : Env
  pub same : new ≡ conc n after env
  pub shape : Shaped n after
  pub done : IsDone after
  pub switches : Switches f x after
  pub idle : env.port ≡ 0
  pub read : env.read ≡ e.read
  pub write : env.write ≡ e.write
  pub clock : env.clock ≡ e.clock + cycles
  pub cost : (c : ℕ) → IsCost op p c → cycles ≤ c + stalls after p.r

-- where a machine stands that came to the next boundary as y
pub record LandsAt (n : ℕ) (p : CostParams) (op : ℕ) (y : Sketch) (e : Env) (cycles : ℕ) (new : MachineState) : Type 0 where
  pub env : Env
  pub same : new ≡ conc n y env
  pub shape : Shaped n y
  pub idle : env.port ≡ 0
  pub read : env.read ≡ e.read
  pub write : env.write ≡ e.write
  pub clock : env.clock ≡ e.clock + cycles
  pub cost : (c : ℕ) → IsCost op p c → cycles ≤ c + stalls y p.r
