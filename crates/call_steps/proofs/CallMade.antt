-- A static call, whether its frame fits or not.
use Rattle.std.proofs.Common.{◌≡◌, ℕ, ◌+◌, true, false, List, length, refl}
use Rattle.micro_sketch.specs.Sketch.{Sketch}
use Rattle.micro_sketch.specs.Stands.{Env, Shaped, Reaches, IsDone}
use Rattle.micro_sketch.specs.Rows.{Raises, Switches}
use Rattle.call_steps.specs.Method.{max_locals}
use Rattle.call_steps.specs.Calls.{Invokestatic, called, CanCall, fits, call, overflow}
use Rattle.call_steps.proofs.Parts.{PartLaws, Low, followed_by}
use Rattle.call_steps.proofs.InvokeMade.{entry_made}
use Rattle.call_steps.proofs.InvokeRaises.{entry_raises}
use Rattle.call_steps.proofs.Calling.{beginning, f_at, v_at, invoked, to_invoke, can_enter}

-- what a call comes to
pub record CallMade (n : ℕ) (x : Sketch) (e : Env) (c : CanCall n Invokestatic x) : Type 0 where
  pub more : List ℕ
  pub count : length c.arguments + length more ≡ max_locals x.memory (called Invokestatic x)
  pub after : Sketch
  pub reaches : Reaches n x after e
  pub done : IsDone after
  pub switches : Switches (call Invokestatic x c.arguments c.others more) x after

pub call_made : PartLaws → (n : ℕ) (f : Sketch) (v : Low) (t u j1 j2 j3 : ℕ) (us js : List ℕ) (e : Env) → (c : CanCall n Invokestatic (beginning f v t u j1 j2 j3 us js)) → fits Invokestatic (beginning f v t u j1 j2 j3 us js) ≡ true
    → Shaped n (beginning f v t u j1 j2 j3 us js) → e.port ≡ 0 → CallMade n (beginning f v t u j1 j2 j3 us js) e c
call_made laws n f v t u j1 j2 j3 us js e c fit h port =
    let x = beginning f v t u j1 j2 j3 us js in
    let m = called Invokestatic x in
    let y = invoked f v m t u j3 us js c.others in
    let r = to_invoke laws n f v t u j1 j2 j3 us js e c h port in
    let d = entry_made laws n (f_at f m) (v_at f v m) m t u u t j3 us js c.arguments c.others r.env (can_enter n f v t u j1 j2 j3 us js c) fit r.shape r.port in
    let s = d.switches in
    record {
      more = d.more;
      count = d.count;
      after = d.after;
      reaches = followed_by laws n x y d.after e r d.reaches refl;
      done = d.done;
      switches = record {
        words = s.words;
        deep = s.deep;
        low = s.low;
        memory = s.memory;
        vp = s.vp;
        method = s.method;
        cache = s.cache;
        hits = s.hits;
        misses = s.misses;
        loads = s.loads;
        loaded = s.loaded;
        answers = s.answers;
        output = s.output;
        opcode = s.opcode;
        jpc = s.jpc;
        mpc = s.mpc;
        operand = s.operand;
        running = s.running;
      };
    }

-- what it comes to where its frame doesn't fit
pub record CallRaised (n : ℕ) (x : Sketch) (e : Env) : Type 0 where
  pub after : Sketch
  pub reaches : Reaches n x after e
  pub done : IsDone after
  pub raises : Raises (overflow x) x after

pub call_raises : PartLaws → (n : ℕ) (f : Sketch) (v : Low) (t u j1 j2 j3 : ℕ) (us js : List ℕ) (e : Env) → (c : CanCall n Invokestatic (beginning f v t u j1 j2 j3 us js)) → fits Invokestatic (beginning f v t u j1 j2 j3 us js) ≡ false
    → Shaped n (beginning f v t u j1 j2 j3 us js) → e.port ≡ 0 → CallRaised n (beginning f v t u j1 j2 j3 us js) e
call_raises laws n f v t u j1 j2 j3 us js e c fit h port =
    let x = beginning f v t u j1 j2 j3 us js in
    let m = called Invokestatic x in
    let y = invoked f v m t u j3 us js c.others in
    let r = to_invoke laws n f v t u j1 j2 j3 us js e c h port in
    let d = entry_raises laws n (f_at f m) (v_at f v m) m t u u t j3 us js c.arguments c.others r.env (can_enter n f v t u j1 j2 j3 us js c) fit r.shape r.port in
    let s = d.raises in
    record {
      after = d.after;
      reaches = followed_by laws n x y d.after e r d.reaches refl;
      done = d.done;
      raises = record {
        mpc = s.mpc;
        running = s.running;
        words = s.words;
        deep = s.deep;
        low = s.low;
        memory = s.memory;
        jpc = s.jpc;
        opcode = s.opcode;
        answers = s.answers;
        output = s.output;
        kept = record { vp = s.kept.vp; method = s.kept.method; cache = s.kept.cache; hits = s.kept.hits; misses = s.kept.misses; loads = s.kept.loads; loaded = s.kept.loaded };
      };
    }
