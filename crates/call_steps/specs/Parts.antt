-- Rows in parts: the machine between them, and how they make one.
use Rattle.std.specs.Prelude.{◌≡◌, ℕ, suc, ◌+◌, Bool, true, false, List, ◌∷◌, ◌++◌, length, drop, slice_index}
use Rattle.std.proofs.Common.{refl, ap, ◌∙◌, subst}
use mathlib.Core.List.{reverse_aux}
use Rattle.jop_core.specs.declared.halt.Halt.TheVariants.{Running}
use Rattle.micro_sketch.specs.Sketch.{Sketch, exec}
use Rattle.micro_sketch.specs.Stands.{Env, Shaped, PortFits, Reaches}
use Rattle.micro_sketch.specs.Frames.{whole, split}
use Rattle.micro_sketch.specs.Laws.{MachineFollows, SplitsAnywhere, StackPointerMoves, RunsGoOn, RunsBetweenAlike, CostsHold, Alike}
use Rattle.micro_sketch.specs.FrameLaws.{FramePlaceMoves}
use Rattle.micro_sketch.specs.RowLaws.{AreRowLaws}

-- the laws of the sketch that such rows rest on
pub record PartLaws : Type 0 where
  pub follows : MachineFollows
  pub goes_on : RunsGoOn
  pub between : RunsBetweenAlike
  pub splits : SplitsAnywhere
  pub moves : StackPointerMoves
  pub frames : FramePlaceMoves
  pub costs : CostsHold
  pub rows : AreRowLaws

-- the on-chip places from 0 to 31 by name
pub record Low : Type 0 where
  pub s0 : ℕ
  pub s1 : ℕ
  pub s2 : ℕ
  pub s3 : ℕ
  pub s4 : ℕ
  pub s5 : ℕ
  pub s6 : ℕ
  pub s7 : ℕ
  pub s8 : ℕ
  pub s9 : ℕ
  pub s10 : ℕ
  pub s11 : ℕ
  pub s12 : ℕ
  pub s13 : ℕ
  pub s14 : ℕ
  pub s15 : ℕ
  pub s16 : ℕ
  pub s17 : ℕ
  pub s18 : ℕ
  pub s19 : ℕ
  pub s20 : ℕ
  pub s21 : ℕ
  pub s22 : ℕ
  pub s23 : ℕ
  pub pool : ℕ
  pub method : ℕ
  pub next_free : ℕ
  pub memory_end : ℕ
  pub frames : ℕ
  pub most : ℕ
  pub raise_list : ℕ
  pub raised : ℕ
  -- what follows: nothing, as a sketch is shaped
  pub beyond : List ℕ

abbrev pub registers : Low → List ℕ
registers v = v.pool ∷ v.method ∷ v.next_free ∷ v.memory_end ∷ v.frames ∷ v.most ∷ v.raise_list ∷ v.raised ∷ v.beyond

abbrev pub low_words : Low → List ℕ
low_words v =
    v.s0 ∷ v.s1 ∷ v.s2 ∷ v.s3 ∷ v.s4 ∷ v.s5 ∷ v.s6 ∷ v.s7 ∷ v.s8 ∷ v.s9 ∷ v.s10 ∷ v.s11 ∷ v.s12 ∷ v.s13 ∷ v.s14 ∷ v.s15
    ∷ v.s16 ∷ v.s17 ∷ v.s18 ∷ v.s19 ∷ v.s20 ∷ v.s21 ∷ v.s22 ∷ v.s23 ∷ registers v

abbrev pub low_of : List ℕ → Low
low_of xs = record {
  s0 = slice_index xs 0;
  s1 = slice_index xs 1;
  s2 = slice_index xs 2;
  s3 = slice_index xs 3;
  s4 = slice_index xs 4;
  s5 = slice_index xs 5;
  s6 = slice_index xs 6;
  s7 = slice_index xs 7;
  s8 = slice_index xs 8;
  s9 = slice_index xs 9;
  s10 = slice_index xs 10;
  s11 = slice_index xs 11;
  s12 = slice_index xs 12;
  s13 = slice_index xs 13;
  s14 = slice_index xs 14;
  s15 = slice_index xs 15;
  s16 = slice_index xs 16;
  s17 = slice_index xs 17;
  s18 = slice_index xs 18;
  s19 = slice_index xs 19;
  s20 = slice_index xs 20;
  s21 = slice_index xs 21;
  s22 = slice_index xs 22;
  s23 = slice_index xs 23;
  pool = slice_index xs 24;
  method = slice_index xs 25;
  next_free = slice_index xs 26;
  memory_end = slice_index xs 27;
  frames = slice_index xs 28;
  most = slice_index xs 29;
  raise_list = slice_index xs 30;
  raised = slice_index xs 31;
  beyond = drop 32 xs;
}

-- f about to run the word at an address, with these words at the places from 0 to 31, on its stack and past it
abbrev pub at : (mpc : ℕ) → Sketch → Low → (top next : ℕ) → (under above : List ℕ) → Sketch
at mpc f v t u us js = record f {
  mpc = mpc;
  low = low_words v;
  top = t;
  next = u;
  under = us;
  above = js;
  busy = false;
  halt = Running;
  fine = true;
  done
      = false;
}

-- some words that compute to a sketch
pub computed : PartLaws → (n k : ℕ) (gs : List Bool) (x y : Sketch) (e : Env) → Shaped n x → PortFits x.busy e → exec (suc k) gs x ≡ y → y.fine ≡ true
    → Reaches n x y e
computed laws n k gs x y e h q same fine = subst (λ z. Reaches n x z e) same (laws.follows k gs n x e h q (ap (λ (z : Sketch). z.fine) same ∙ fine))

pub followed_by : PartLaws → (n : ℕ) (x y z : Sketch) (e : Env) (a : Reaches n x y e) → Reaches n y z a.env → y.done ≡ false → Reaches n x z e
followed_by laws n x y z e a b going = (laws.goes_on n x y z e a b going).reaches

-- a run to words that are split elsewhere
pub to_split : PartLaws → (n : ℕ) (x y : Sketch) (e : Env) (deep under above : List ℕ) → Reaches n x y e → whole y ≡ deep ++ reverse_aux under above
    → length y.deep + length y.under ≡ length deep + length under → Reaches n x (split y deep under above) e
to_split laws n x y e deep under above r w l =
    let itself : Alike n x x = record { same = λ g. refl; mpc = refl; left = refl; busy = refl; done = refl; shape = λ h. h } in
    let apart : Alike n y (split y deep under above) = record {
      same = λ g. (laws.splits n y g deep under above r.shape w l).0;
      mpc = refl;
      left = refl;
      busy = refl;
      done = refl;
      shape = λ h. (laws.splits n y e deep under above h w l).1;
    } in
    (laws.between n x x y (split y deep under above) e r itself apart r.was (λ k. refl)).reaches
