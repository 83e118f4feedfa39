-- Where a boundary is, and what the flags of a microinstruction do.
use Rattle.std.proofs.Common.{◌≡◌, ℕ, suc, zero, ◌+◌, ◌%◌, ◌&&◌, ◌||◌, ◌==◌, Bool, true, false, List, [], ◌∷◌, ◌⊎◌, inl, inr, get_or, if◌then◌else◌, refl, ap, ◌∙◌, Option, eq-eqb, eqb-true}
use Rattle.std.proofs.lemmas.Bool.{and_parts}
use Rattle.jop_core.specs.State.{MachineState}
use Rattle.jop_core.specs.Cycle.{with_nxt, with_opd, at_boundary, is_running, entry_of}
use Rattle.jop_core.specs.declared.halt.Halt.TheVariants.{Running}
use Rattle.jop_core.specs.Scene.{Scene}
use Rattle.micro_sketch.specs.Sketch.{Sketch, lead, opd_byte, settled, off_entry, off_raise, among, stopped}
use Rattle.micro_sketch.specs.Stands.{Env, Shaped, conc, scene}
use Rattle.microcode.specs.declared.TheConstants.{ENTRIES, RAISE}
use Rattle.micro_sketch.proofs.Counts.{was_flags}

-- a scene of a state
abbrev pub around : MachineState → (answers : List (Option ℕ)) → (output : List ℕ) → Scene
around s answers output = record { state = s; answers = answers; output = output }

-- the flags
pub flags_same : (opd nxt : Bool) (n : ℕ) (y : Sketch) (e : Env) → around (with_nxt nxt (with_opd opd (conc n y e))) y.answers y.output ≡ scene n (lead nxt (opd_byte opd y)) e
flags_same false false n y e = refl
flags_same false true n y e = refl
flags_same true false n y e = refl
flags_same true true n y e = refl

pub flags_shape : (opd nxt : Bool) (n : ℕ) (y : Sketch) → Shaped n y → Shaped n (lead nxt (opd_byte opd y))
flags_shape false false n y h = record { low = h.low; total = h.total }
flags_shape false true n y h = record { low = h.low; total = h.total }
flags_shape true false n y h = record { low = h.low; total = h.total }
flags_shape true true n y h = record { low = h.low; total = h.total }

pub flags_fine : (opd nxt : Bool) (y : Sketch) → (lead nxt (opd_byte opd y)).fine ≡ true → y.fine ≡ true
flags_fine opd nxt y f = was_flags nxt opd y f

pub among_head : (k : ℕ) (xs : List ℕ) → among k (k ∷ xs) ≡ true
among_head k xs = ap (λ b. if b then true else among k xs) (eq-eqb k k refl)

pub among_later : (k x : ℕ) (xs : List ℕ) → among k xs ≡ true → among k (x ∷ xs) ≡ true
among_later k x xs h = on (x == k)
  where
    on : (b : Bool) → (if b then true else among k xs) ≡ true
    on true = refl
    on false = h

pub among_in : (xs : List ℕ) (i : ℕ) → (among (get_or xs i 0) xs ≡ true) ⊎ (get_or xs i 0 ≡ 0)
among_in [] i = inr refl
among_in (x ∷ xs) zero = inl (among_head x xs)
among_in (x ∷ xs) (suc i) = elim (among_in xs i) [ inl h ↦ inl (among_later (get_or xs i 0) x xs h) | inr h ↦ inr h ]

pub entry_among : (c : ℕ) → among (entry_of c) ENTRIES ≡ true
entry_among c = elim (among_in ENTRIES c) [ inl h ↦ h | inr h ↦ ap (λ k. among k ENTRIES) h ]

pub off_cur : (x : Sketch) → off_entry x ≡ true → (x.mpc == entry_of x.opcode) ≡ false
off_cur x h = by (x.mpc == entry_of x.opcode) refl
  where
    not : (b : Bool) → b ≡ true → (if b then false else true) ≡ true → ⊥
    not true e f = cc
    not false e f = cc

    by : (b : Bool) → (x.mpc == entry_of x.opcode) ≡ b → b ≡ false
    by true e = absurd (not (among x.mpc ENTRIES) (ap (λ k. among k ENTRIES) (eqb-true x.mpc (entry_of x.opcode) e) ∙ entry_among x.opcode) h)
    by false e = refl

pub settled_on : (b r o c : Bool) → ((if b then r else true) || o) ≡ true → (o ≡ true → c ≡ false) → (if b then (c || r) else true) ≡ (if b then r else true)
settled_on true true o true f g = refl
settled_on true true o false f g = refl
settled_on true false o c f g = ap (λ d. d || false) (g f)
settled_on false r o c f g = refl

pub settled_end : (n : ℕ) (y : Sketch) (e : Env) → (settled y).fine ≡ true → at_boundary (conc n y e) ≡ stopped y
settled_end n y e f = settled_on (is_running y.halt) (y.mpc == RAISE) (off_entry y) (y.mpc == entry_of y.opcode) ((and_parts (stopped y || off_entry y) y.fine f).0) (off_cur y)

pub either_way : (b c : Bool) → c ≡ true → (if b then c else true) ≡ true
either_way true c h = h
either_way false c h = refl

pub lead_end : (nxt : Bool) (n : ℕ) (y : Sketch) (e : Env) → (lead nxt y).fine ≡ true → at_boundary (conc n (lead nxt y) e) ≡ (lead nxt y).done
lead_end true n y e f = let z = lead true y in either_way (is_running y.halt) (z.mpc == z.mpc || z.mpc == RAISE) (ap (λ b. b || z.mpc == RAISE) (eq-eqb z.mpc z.mpc refl))
lead_end false n y e f = settled_end n (record y { mpc = (y.mpc + 1) % 2048 }) e f

pub flags_end : (opd nxt : Bool) (n : ℕ) (y : Sketch) (e : Env) → (lead nxt (opd_byte opd y)).fine ≡ true → at_boundary (conc n (lead nxt (opd_byte opd y)) e) ≡ (lead nxt (opd_byte opd y)).done
flags_end opd nxt n y e f = lead_end nxt n (opd_byte opd y) e f

-- what the flags keep
pub record Same (x y : Sketch) : Type 0 where
  pub left : y.left ≡ x.left
  pub loads : y.loads ≡ x.loads
  pub words : y.words ≡ x.words
  pub busy : y.busy ≡ x.busy
  pub halt : y.halt ≡ x.halt
  pub answers : y.answers ≡ x.answers
  pub output : y.output ≡ x.output

pub flags_keep : (opd nxt : Bool) (y : Sketch) → Same y (lead nxt (opd_byte opd y))
flags_keep false false y = record { left = refl; loads = refl; words = refl; busy = refl; halt = refl; answers = refl; output = refl }
flags_keep false true y = record { left = refl; loads = refl; words = refl; busy = refl; halt = refl; answers = refl; output = refl }
flags_keep true false y = record { left = refl; loads = refl; words = refl; busy = refl; halt = refl; answers = refl; output = refl }
flags_keep true true y = record { left = refl; loads = refl; words = refl; busy = refl; halt = refl; answers = refl; output = refl }

pub off_is : (b : Bool) → (if b then false else true) ≡ true → b ≡ false
off_is true f = cc
off_is false f = refl

pub quiet_here : (n : ℕ) (x : Sketch) (e : Env) → x.halt ≡ Running → (off_entry x && off_raise x) ≡ true → at_boundary (conc n x e) ≡ false
quiet_here n x e r f =
    ap (λ h. if is_running h then (x.mpc == entry_of x.opcode || x.mpc == RAISE) else true) r
    ∙ ap (λ b. b || x.mpc == RAISE) (off_cur x ((and_parts (off_entry x) (off_raise x) f).0)) ∙ off_is (x.mpc == RAISE) ((and_parts (off_entry x) (off_raise x) f).1)
