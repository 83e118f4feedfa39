-- Runs of the machine by what its sketch computes to, and the load from a place below 32.
use Rattle.std.proofs.Common.{◌≡◌, ◌-◌, ℕ, suc, ◌<◌, Bool, true, false, List, refl, ap, ◌∙◌, subst}
use Rattle.microcode.specs.declared.addresses.TheConstants.{LADD}
use Rattle.micro_sketch.specs.Sketch.{Sketch, exec, lead}
use Rattle.micro_sketch.specs.Stands.{Env, Shaped, PortFits, Goes, Reaches}
use Rattle.micro_sketch.specs.Laws.{MachineFollows, RunsGoOn, LowWordIsLoaded, with_low}

-- the laws of the sketch that a division rests on
pub record DivisionLaws : Type 0 where
  pub follows : MachineFollows
  pub goes_on : RunsGoOn
  pub loads : LowWordIsLoaded

module _ (laws : DivisionLaws) where
  -- a run to what the sketch computes to
  pub went : (k : ℕ) (gs : List Bool) (n : ℕ) (x y : Sketch) (e : Env) → Shaped n x → PortFits x.busy e → exec (suc k) gs x ≡ y → y.fine ≡ true → Reaches n x (record y { fine = true }) e
  went k gs n x y e h p q f =
      let allowed : y ≡ record y { fine = true } = λ i. record y { fine = f i } in
      subst (λ z. Reaches n x z e) (q ∙ allowed) (laws.follows k gs n x e h p (ap (λ (z : Sketch). z.fine) q ∙ f))

  -- two runs, the first to no boundary
  pub followed_by : (n : ℕ) (x y z : Sketch) (e : Env) (a : Reaches n x y e) → Reaches n y z a.env → y.done ≡ false → Reaches n x z e
  followed_by n x y z e a b going = (laws.goes_on n x y z e a b going).reaches

  -- the word at address of the last word of the division puts the word on the stack that is at AR's place, where that is below 32, and goes on to the next opcode
  pub low_load : (n : ℕ) (f : Sketch) (e : Env) → let x = record f { mpc = LADD - 1 } in
      Goes x → Shaped n x → PortFits x.busy e → x.ar < 32 → (lead true (with_low x.ar x)).fine ≡ true → Reaches n x (lead true (with_low x.ar x)) e
  low_load n f e goes h p small ok = laws.loads n (record f { mpc = LADD - 1 }) e false true goes h p (record { code = 34; word = refl; is = refl }) small ok
