-- A row that raises, by computing on the sketch, as a run of the machine.
use Rattle.std.proofs.Common.{◌≡◌, ℕ, suc, Bool, true, false, List, [], drop, ap, ◌∙◌, subst, arith}
use Rattle.std.specs.Prelude.{slice_set}
use Rattle.std.specs.declared.option.Option.{Option}
use Rattle.micro_sketch.proofs.RowSteps.{no_stalls}
use Rattle.microcode.specs.declared.TheConstants.{RAISE}
use Rattle.method_cache.specs.Contents.{Cache}
use Rattle.micro_flow.specs.declared.CostParams.{CostParams}
use Rattle.jop_core.specs.declared.halt.Halt.{Halt}
use Rattle.jop_core.specs.declared.halt.Halt.TheVariants.{Running}
use Rattle.jop_core.specs.State.{MachineState}
use Rattle.micro_sketch.specs.Sketch.{Sketch, exec}
use Rattle.micro_sketch.specs.Stands.{Env, IsDone}
use Rattle.micro_sketch.specs.Laws.{CostsHold}
use Rattle.micro_sketch.specs.Row.{StandsAt, words_of}
use Rattle.micro_sketch.specs.Rows.{Finishes, Raising, Raises, RunsToRaise, end_of}
use Rattle.micro_sketch.specs.RowLaws.{AreRowLaws}

-- what of a sketch a row that raises speaks of
pub record Stopped : Type 0 where
  pub words : List ℕ
  pub deep : List ℕ
  pub answers : List (Option ℕ)
  pub output : List ℕ
  pub opcode : ℕ
  pub jpc : ℕ
  pub mpc : ℕ
  pub halt : Halt
  pub vp : ℕ
  pub method : ℕ
  pub cache : Cache
  pub memory : List ℕ
  pub hits : ℕ
  pub misses : ℕ
  pub low : List ℕ
  pub loads : ℕ
  pub loaded : ℕ
  pub fine : Bool
  pub done : Bool
  pub busy : Bool

abbrev pub stopped_of : Sketch → Stopped
stopped_of y = record {
  words = words_of y;
  deep = y.deep;
  answers = y.answers;
  output = y.output;
  opcode = y.opcode;
  jpc = y.jpc;
  mpc = y.mpc;
  halt = y.halt;
  vp = y.vp;
  method = y.method;
  cache = y.cache;
  memory = y.memory;
  hits = y.hits;
  misses = y.misses;
  low = drop 24 y.low;
  loads = y.loads;
  loaded = y.words;
  fine = y.fine;
  done = y.done;
  busy = y.busy;
}

-- x at the raise routine, where the row was allowed or not
abbrev pub stopped : (allowed : Bool) → Raising → Sketch → Stopped
stopped allowed f x = record {
  words = f.words;
  deep = x.deep;
  answers = x.answers;
  output = [];
  opcode = x.opcode;
  jpc = f.jpc;
  mpc = RAISE;
  halt = Running;
  vp = x.vp;
  method = x.method;
  cache = x.cache;
  memory = x.memory;
  hits = x.hits;
  misses = x.misses;
  low = slice_set (drop 24 x.low) 7 f.object;
  loads = 0;
  loaded = 0;
  fine = allowed;
  done = true;
  busy = false;
}

-- some words from x on come to the raise routine so
pub record MakesRaise (f : Raising) (x : Sketch) : Type 0 where
  pub words : ℕ
  pub guesses : List Bool
  pub done : IsDone (exec (suc words) guesses x)
  pub raises : Raises f x (exec (suc words) guesses x)

raised : (k : ℕ) (guesses : List Bool) (f : Raising) (x : Sketch) (allowed : Bool) → stopped_of (exec (suc k) guesses x) ≡ stopped allowed f x → allowed ≡ true → MakesRaise f x
raised k guesses f x allowed h fine = record {
  words = k;
  guesses = guesses;
  done = record { fine = ap (λ (o : Stopped). o.fine) h ∙ fine; done = ap (λ (o : Stopped). o.done) h; idle = ap (λ (o : Stopped). o.busy) h };
  raises = record {
    mpc = ap (λ (o : Stopped). o.mpc) h;
    running = ap (λ (o : Stopped). o.halt) h;
    words = ap (λ (o : Stopped). o.words) h;
    deep = ap (λ (o : Stopped). o.deep) h;
    low = ap (λ (o : Stopped). o.low) h;
    memory = ap (λ (o : Stopped). o.memory) h;
    jpc = ap (λ (o : Stopped). o.jpc) h;
    opcode = ap (λ (o : Stopped). o.opcode) h;
    answers = ap (λ (o : Stopped). o.answers) h;
    output = ap (λ (o : Stopped). o.output) h;
    kept = record {
      vp = ap (λ (o : Stopped). o.vp) h;
      method = ap (λ (o : Stopped). o.method) h;
      cache = ap (λ (o : Stopped). o.cache) h;
      hits = ap (λ (o : Stopped). o.hits) h;
      misses = ap (λ (o : Stopped). o.misses) h;
      loads = ap (λ (o : Stopped). o.loads) h;
      loaded = ap (λ (o : Stopped). o.loaded) h;
    };
  };
}

-- where the row computes to a raw form of what it leaves
pub raises_raw : (k : ℕ) (guesses : List Bool) (raw f : Raising) (x : Sketch) (allowed : Bool) → stopped_of (exec (suc k) guesses x) ≡ stopped allowed raw x → allowed ≡ true → raw ≡ f → MakesRaise f x
raises_raw k guesses raw f x allowed h fine same = let P : Raising → Type 0 = λ g. MakesRaise g x in subst P same (raised k guesses raw x allowed h fine)

-- such a row is a run of the machine, in at most its opcode's cost
pub raise_runs : AreRowLaws → CostsHold → (n : ℕ) (p : CostParams) (op : ℕ) (f : Raising) (x : Sketch) (e : Env) (s : MachineState) → StandsAt n p op x e s → MakesRaise f x → RunsToRaise n p op f x e
raise_runs laws costs n p op f x e s h m =
    let g : Finishes x = record { words = m.words; guesses = m.guesses; done = m.done; loads = m.raises.kept.loads; loaded = m.raises.kept.loaded } in
    let reached = laws.finish_runs n p op x e s h g in
    record {
      after = end_of x g;
      reaches = reached;
      done = m.done;
      raises = m.raises;
      cost = λ c is. omega (arith, costs p op c n x (end_of x g) e h.entry reached m.done is, no_stalls (end_of x g) p.r m.raises.kept.loads m.raises.kept.loaded);
    }
