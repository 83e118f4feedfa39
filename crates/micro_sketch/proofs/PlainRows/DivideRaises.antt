-- A zero divisor leads idiv and irem to the raise routine.
use Rattle.std.proofs.Common.{◌≡◌, ℕ, ◌+◌, ◌%◌, ◌^◌, ◌<◌, [], ◌∷◌, true, false, ◌&&◌, ◌==◌, get_or, slice_set, drop, refl, sym, ap, ◌∙◌, subst, zero-add, eq-eqb}
use Rattle.std.proofs.Math.Nat.{mod-eq_of_lt}
use Rattle.std.proofs.lemmas.List.{drop-set-add}
use Rattle.micro_flow.specs.declared.CostParams.{CostParams}
use Rattle.jop_core.specs.State.{MachineState}
use Rattle.microcode.specs.declared.addresses.TheConstants.{IDIV, IREM}
use Rattle.micro_sketch.specs.Sketch.{Sketch, same_bool}
use Rattle.micro_sketch.specs.Stands.{Env, Reaches, IsDone}
use Rattle.micro_sketch.specs.Row.{StandsAt}
use Rattle.micro_sketch.specs.DivisionOps.{arithmetic_exception}
use Rattle.micro_sketch.proofs.PlainRows.DivideRaising.{raising, idiv_raises, irem_raises}
use Rattle.micro_sketch.proofs.PlainRows.DivideOpened.{opened, Entered, entered}
use Rattle.micro_sketch.proofs.PlainRows.RowRuns.{RaiseRun}
use Rattle.micro_sketch.proofs.PlainRows.DivideRunning.{DivisionLaws, went}

-- what the rows do, from what the sketch comes to
pub comes_to_raise : (n op ar : ℕ) (p : CostParams) (x : Sketch) (e : Env) (s : MachineState) (mpc : ℕ) → StandsAt n p op x e s → (o : Entered n mpc x e) → get_or x.low 30 0 < 2 ^ 32 →
    Reaches n (opened mpc x o.u o.a o.l) (raising ar x.left x x.next x.top o.u.a o.u.b o.u.rest (x.next ∷ o.a.b ∷ o.a.rest) o.l.c o.l.d o.l.e o.l.f o.l.g o.l.h o.l.rest true) e →
    RaiseRun n x e
comes_to_raise n op ar p x e s mpc t o small run =
    let object = get_or x.memory ((0 + get_or o.l.rest 22 0) % 2 ^ 32) 0 in
    let y = raising ar x.left x x.next x.top o.u.a o.u.b o.u.rest (x.next ∷ o.a.b ∷ o.a.rest) o.l.c o.l.d o.l.e o.l.f o.l.g o.l.h o.l.rest true in
    let whole : Reaches n x y e = subst (λ z. Reaches n z y e) o.is run in
    let place : get_or o.l.rest 22 0 ≡ get_or x.low 30 0 = λ i. get_or (sym o.l.is i) 30 0 in
    let is : object ≡ arithmetic_exception x =
    ap (λ i. get_or x.memory (i % 2 ^ 32) 0) (zero-add (get_or o.l.rest 22 0) ∙ place) ∙ ap (λ i. get_or x.memory i 0) (mod-eq_of_lt small) in
    let done : IsDone y = record { fine = refl {a = true}; done = refl {a = true}; idle = refl {a = false} } in
    record {
      after = y;
      reaches = whole;
      done = done;
      raises = record {
        mpc = refl;
        running = refl;
        words = sym o.u.is;
        deep = refl;
        low = drop-set-add 16 o.l.rest 7 object ∙ (λ i. slice_set (drop 24 (sym o.l.is i)) 7 (is i));
        memory = refl;
        jpc = refl;
        opcode = refl;
        answers = refl;
        output = t.silent;
        kept = record { vp = refl; method = refl; cache = refl; hits = refl; misses = refl; loads = refl; loaded = refl };
      };
    }

pub zero_taken : (d : ℕ) → d ≡ 0 → (same_bool true (d == 0) && true) ≡ true
zero_taken d z = ap (λ b. b && true) (eq-eqb d 0 z)

module _ (laws : DivisionLaws) where
  pub idiv_to_raise : (n : ℕ) (p : CostParams) (x : Sketch) (e : Env) (s : MachineState) → StandsAt n p 108 x e s → get_or x.low 30 0 < 2 ^ 32 → x.top ≡ 0 → RaiseRun n x e
  idiv_to_raise n p x e s t small z =
      let o = entered n 108 p x e s IDIV t t.entry.at in
      let l = o.l in
      comes_to_raise n 108 4 p x e s IDIV t o small
      (went laws 14 (true ∷ []) n (opened IDIV x o.u o.a o.l) _ e o.shape o.port (idiv_raises x x.ar x.left x.top x.next o.u.a o.u.b o.a.a l.a l.b l.c l.d l.e l.f l.g l.h o.u.rest (o.a.b ∷ o.a.rest) l.rest) (zero_taken x.top z))

  pub irem_to_raise : (n : ℕ) (p : CostParams) (x : Sketch) (e : Env) (s : MachineState) → StandsAt n p 112 x e s → get_or x.low 30 0 < 2 ^ 32 → x.top ≡ 0 → RaiseRun n x e
  irem_to_raise n p x e s t small z =
      let o = entered n 112 p x e s IREM t t.entry.at in
      let l = o.l in
      comes_to_raise n 112 2 p x e s IREM t o small
      (went laws 13 (true ∷ []) n (opened IREM x o.u o.a o.l) _ e o.shape o.port (irem_raises x x.ar x.left x.top x.next o.u.a o.u.b o.a.a l.a l.b l.c l.d l.e l.f l.g l.h o.u.rest (o.a.b ∷ o.a.rest) l.rest) (zero_taken x.top z))
