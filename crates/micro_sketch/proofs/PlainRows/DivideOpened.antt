-- A sketch at an opcode's entry, with its lists opened.
use Rattle.std.proofs.Common.{◌≡◌, ℕ, ◌≤◌, List, [], ◌∷◌, true, length, refl, sym, subst, arith}
use Rattle.micro_flow.specs.declared.CostParams.{CostParams}
use Rattle.jop_core.specs.State.{MachineState}
use Rattle.micro_sketch.specs.Sketch.{Sketch}
use Rattle.micro_sketch.specs.Stands.{Env, Shaped}
use Rattle.micro_sketch.specs.Row.{StandsAt}
use Rattle.micro_sketch.proofs.PlainRows.DivideTurn.{at}

-- the first words of a list
pub record Two (xs : List ℕ) : Type 0 where
  pub a : ℕ
  pub b : ℕ
  pub rest : List ℕ
  pub is : xs ≡ a ∷ b ∷ rest

pub two_of : (xs : List ℕ) → 2 ≤ length xs → Two xs
two_of [] h = absurd (omega arith)
two_of (a ∷ []) h = absurd (omega arith)
two_of (a ∷ b ∷ rest) h = record { a = a; b = b; rest = rest; is = refl }

pub record Eight (xs : List ℕ) : Type 0 where
  pub a : ℕ
  pub b : ℕ
  pub c : ℕ
  pub d : ℕ
  pub e : ℕ
  pub f : ℕ
  pub g : ℕ
  pub h : ℕ
  pub rest : List ℕ
  pub is : xs ≡ a ∷ b ∷ c ∷ d ∷ e ∷ f ∷ g ∷ h ∷ rest

pub eight_of : (xs : List ℕ) → 8 ≤ length xs → Eight xs
eight_of (a ∷ b ∷ c ∷ d ∷ e ∷ f ∷ g ∷ h ∷ rest) l = record { a = a; b = b; c = c; d = d; e = e; f = f; g = g; h = h; rest = rest; is = refl }
eight_of _ l = absurd (omega arith)

-- x about to run the row at an address
abbrev pub opened : (mpc : ℕ) → (x : Sketch) → Two x.under → Two x.above → Eight x.low → Sketch
opened mpc x u a l = at mpc x.ar x.left x x.top x.next (u.a ∷ u.b ∷ u.rest) (a.a ∷ a.b ∷ a.rest) (l.a ∷ l.b ∷ l.c ∷ l.d ∷ l.e ∷ l.f ∷ l.g ∷ l.h ∷ l.rest) true

pub opened_is : (n op : ℕ) (p : CostParams) (x : Sketch) (e : Env) (s : MachineState) (mpc : ℕ) → StandsAt n p op x e s → mpc ≡ x.mpc → (u : Two x.under) (a : Two x.above) (l : Eight x.low) → opened mpc x u a l ≡ x
opened_is n op p x e s mpc t m u a l = λ i. record x {
  mpc = m i;
  under = sym u.is i;
  above = sym a.is i;
  low = sym l.is i;
  fine = sym t.fine i;
  operand = sym t.operand i;
  busy = sym t.idle i;
  halt = sym t.running i;
  loads = sym t.loads i;
  words = sym t.loaded i;
  done = sym t.entry.going i;
}

-- what a sketch at an opcode's entry is, with its lists opened
pub record Entered (n mpc : ℕ) (x : Sketch) (e : Env) : Type 0 where
  pub u : Two x.under
  pub a : Two x.above
  pub l : Eight x.low
  pub is : opened mpc x u a l ≡ x
  pub shape : Shaped n (opened mpc x u a l)
  pub port : e.port ≡ 0

pub entered : (n op : ℕ) (p : CostParams) (x : Sketch) (e : Env) (s : MachineState) (mpc : ℕ) → StandsAt n p op x e s → mpc ≡ x.mpc → Entered n mpc x e
entered n op p x e s mpc t m =
    let under = t.under in let above = t.above in let low = t.shape.low in
    let u = two_of x.under (omega arith) in
    let a = two_of x.above (omega arith) in
    let l = eight_of x.low (omega arith) in
    let is = opened_is n op p x e s mpc t m u a l in
    record { u = u; a = a; l = l; is = is; shape = subst (λ z. Shaped n z) (sym is) t.shape; port = t.entry.idle }
