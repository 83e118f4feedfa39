-- Only opcodes that are marked so raise.
use Rattle.std.proofs.Common.{◌≡◌, ℕ, Bool, true, false, ◌==◌, ◌+◌, List, [], ◌∷◌, ◌++◌, Option, Some, None, ℤ, pos, negsuc, refl, sym, ◌∙◌, ap, subst, eqb-true, ◌⊎◌, inl, inr, IsSomeAnd}
use Rattle.std.specs.Prelude.{if◌then◌else◌}
use Rattle.opcodes.specs.declared.instruction.Instr.{Instr}
use Rattle.opcodes.specs.Row as opcodes
use Rattle.bytecode_model.specs.declared.Value.{Value}
use Rattle.bytecode_model.specs.declared.Ending.TheVariants.{Running, Raising, Ended}
use Rattle.bytecode_model.specs.Lists.{onto, replaced, natural}
use Rattle.bytecode_model.specs.Types.{IntType, LongType, Kind, Numbers, References}
use Rattle.bytecode_model.specs.State.{Frame, State}
use Rattle.bytecode_model.specs.Program.{Program, Limits, Operand, NoOperand, AnInt, ALong, AString, AStatic, AField, AMethod, AType, body_of, instr_at}
use Rattle.bytecode_model.specs.Rows as rows
use Rattle.bytecode_model.specs.Rows.{Row}
use Rattle.opcodes.specs.Target.{cases_of}
use Rattle.bytecode_model.specs.Table.{Meaning, constant, long_constant, by_local, increment, by_static, by_type, constants, loads, stores, stack, math, conversions, comparisons, control, references, extended, reserved, instructions, row_among, row_of}
use Rattle.bytecode_model.specs.Effects.{Effect, Stuck, Go, Make, WritePart, WriteStatic, Take, Give, Call, Leave, Raise, effect}
use Rattle.bytecode_model.specs.Steps.{written, with_top, resumed, left, applied, row_at, step_in}
use Rattle.bytecode_model.specs.Raises.{OnlyMarkedOnesRaise}
use Rattle.bytecode_model.proofs.Quiet.{IsQuiet, IsQuietRow, effect_quiet}

-- ---- the table

abbrev IsQuietOption : Option Row → Type 0
IsQuietOption None = Unit {0}
IsQuietOption (Some r) = IsQuietRow r

abbrev IsQuietUnless : (marked : Bool) → Meaning → Type 0
IsQuietUnless true m = Unit {0}
IsQuietUnless false m = (code : List ℕ) (i : Instr) (o : Operand) → IsQuietOption (m.row code i o)

abbrev is_marked : ℕ → Bool
is_marked op = (opcodes.row_of op).raises

abbrev AreQuiet : List Meaning → Type 0
AreQuiet [] = Unit {0}
AreQuiet (m ∷ ms) = IsQuietUnless (is_marked m.opcode) m × AreQuiet ms

both_quiet : (ms ns : List Meaning) → AreQuiet ms → AreQuiet ns → AreQuiet (ms ++ ns)
both_quiet [] ns g h = h
both_quiet (m ∷ ms) ns (first, rest) h = (first, both_quiet ms ns rest h)

constant_quiet : (code : List ℕ) (i : Instr) (o : Operand) → IsQuietOption (constant code i o)
constant_quiet code i NoOperand = tt
constant_quiet code i (AnInt n) = tt
constant_quiet code i (ALong n) = tt
constant_quiet code i (AString p) = tt
constant_quiet code i (AStatic f) = tt
constant_quiet code i (AField c d k) = tt
constant_quiet code i (AMethod c m) = tt
constant_quiet code i (AType k) = tt

long_quiet : (code : List ℕ) (i : Instr) (o : Operand) → IsQuietOption (long_constant code i o)
long_quiet code i NoOperand = tt
long_quiet code i (AnInt n) = tt
long_quiet code i (ALong n) = tt
long_quiet code i (AString p) = tt
long_quiet code i (AStatic f) = tt
long_quiet code i (AField c d k) = tt
long_quiet code i (AMethod c m) = tt
long_quiet code i (AType k) = tt

natural_quiet : (z : ℤ) (r : ℕ → Row) → ((k : ℕ) → IsQuietRow (r k)) → IsQuietOption (onto (natural z) (λ k. Some (r k)))
natural_quiet (pos n) r h = h n
natural_quiet (negsuc n) r h = tt

local_quiet : (r : ℕ → Row) → ((k : ℕ) → IsQuietRow (r k)) → (code : List ℕ) (i : Instr) (o : Operand) → IsQuietOption (by_local r code i o)
local_quiet r h code i o = natural_quiet i.first r h

increment_quiet : (code : List ℕ) (i : Instr) (o : Operand) → IsQuietOption (increment code i o)
increment_quiet code i o = natural_quiet i.first (λ k. rows.Increment k i.second) (λ k. tt)

static_quiet : (r : ℕ → Row) → ((k : ℕ) → IsQuietRow (r k)) → (code : List ℕ) (i : Instr) (o : Operand) → IsQuietOption (by_static r code i o)
static_quiet r h code i NoOperand = tt
static_quiet r h code i (AnInt n) = tt
static_quiet r h code i (ALong n) = tt
static_quiet r h code i (AString p) = tt
static_quiet r h code i (AStatic f) = h f
static_quiet r h code i (AField c d k) = tt
static_quiet r h code i (AMethod c m) = tt
static_quiet r h code i (AType k) = tt

type_quiet : (r : Kind → Row) → ((k : Kind) → IsQuietRow (r k)) → (code : List ℕ) (i : Instr) (o : Operand) → IsQuietOption (by_type r code i o)
type_quiet r h code i NoOperand = tt
type_quiet r h code i (AnInt n) = tt
type_quiet r h code i (ALong n) = tt
type_quiet r h code i (AString p) = tt
type_quiet r h code i (AStatic f) = tt
type_quiet r h code i (AField c d k) = tt
type_quiet r h code i (AMethod c m) = tt
type_quiet r h code i (AType k) = h k

constants_quiet : AreQuiet constants
unfolding opcodes.row_of
constants_quiet = (
  λ code i o. tt,
  (
    λ code i o. tt,
    (
      λ code i o. tt,
      (
        λ code i o. tt,
        (
          λ code i o. tt,
          (
            λ code i o. tt,
            (
              λ code i o. tt,
              (
                λ code i o. tt,
                (
                  λ code i o. tt,
                  (
                    λ code i o. tt,
                    (
                      λ code i o. tt,
                      (
                        λ code i o. tt,
                        (
                          λ code i o. tt,
                          (
                            constant_quiet,
                            (
                              constant_quiet,
                              (
                                long_quiet,
                                tt,
                              ),
                            ),
                          ),
                        ),
                      ),
                    ),
                  ),
                ),
              ),
            ),
          ),
        ),
      ),
    ),
  ),
)

loads_quiet : AreQuiet loads
unfolding opcodes.row_of
loads_quiet = (
  local_quiet (rows.Load (Numbers IntType)) (λ k. tt),
  (
    local_quiet (rows.Load (Numbers LongType)) (λ k. tt),
    (
      local_quiet (rows.Load References) (λ k. tt),
      (
        λ code i o. tt,
        (
          λ code i o. tt,
          (
            λ code i o. tt,
            (
              λ code i o. tt,
              (
                λ code i o. tt,
                (
                  λ code i o. tt,
                  (
                    λ code i o. tt,
                    (
                      λ code i o. tt,
                      (
                        λ code i o. tt,
                        (
                          λ code i o. tt,
                          (
                            λ code i o. tt,
                            (
                              λ code i o. tt,
                              (
                                tt,
                                (
                                  tt,
                                  (
                                    tt,
                                    (
                                      tt,
                                      (
                                        tt,
                                        (
                                          tt,
                                          tt,
                                        ),
                                      ),
                                    ),
                                  ),
                                ),
                              ),
                            ),
                          ),
                        ),
                      ),
                    ),
                  ),
                ),
              ),
            ),
          ),
        ),
      ),
    ),
  ),
)

stores_quiet : AreQuiet stores
unfolding opcodes.row_of
stores_quiet = (
  local_quiet (rows.Store (Numbers IntType)) (λ k. tt),
  (
    local_quiet (rows.Store (Numbers LongType)) (λ k. tt),
    (
      local_quiet (rows.Store References) (λ k. tt),
      (
        λ code i o. tt,
        (
          λ code i o. tt,
          (
            λ code i o. tt,
            (
              λ code i o. tt,
              (
                λ code i o. tt,
                (
                  λ code i o. tt,
                  (
                    λ code i o. tt,
                    (
                      λ code i o. tt,
                      (
                        λ code i o. tt,
                        (
                          λ code i o. tt,
                          (
                            λ code i o. tt,
                            (
                              λ code i o. tt,
                              (
                                tt,
                                (
                                  tt,
                                  (
                                    tt,
                                    (
                                      tt,
                                      (
                                        tt,
                                        (
                                          tt,
                                          tt,
                                        ),
                                      ),
                                    ),
                                  ),
                                ),
                              ),
                            ),
                          ),
                        ),
                      ),
                    ),
                  ),
                ),
              ),
            ),
          ),
        ),
      ),
    ),
  ),
)

stack_quiet : AreQuiet stack
unfolding opcodes.row_of
stack_quiet = (
  λ code i o. tt,
  (
    λ code i o. tt,
    (
      λ code i o. tt,
      (
        λ code i o. tt,
        (
          λ code i o. tt,
          (
            λ code i o. tt,
            (
              λ code i o. tt,
              (
                λ code i o. tt,
                (
                  λ code i o. tt,
                  tt,
                ),
              ),
            ),
          ),
        ),
      ),
    ),
  ),
)

math_quiet : AreQuiet math
unfolding opcodes.row_of
math_quiet = (
  λ code i o. λ y x. tt,
  (
    λ code i o. λ y x. tt,
    (
      λ code i o. λ y x. tt,
      (
        λ code i o. λ y x. tt,
        (
          λ code i o. λ y x. tt,
          (
            tt,
            (
              tt,
              (
                λ code i o. λ x. tt,
                (
                  λ code i o. λ x. tt,
                  (
                    λ code i o. λ y x. tt,
                    (
                      λ code i o. λ y x. tt,
                      (
                        λ code i o. λ y x. tt,
                        (
                          λ code i o. λ y x. tt,
                          (
                            λ code i o. λ y x. tt,
                            (
                              λ code i o. λ y x. tt,
                              (
                                λ code i o. λ y x. tt,
                                (
                                  λ code i o. λ y x. tt,
                                  (
                                    λ code i o. λ y x. tt,
                                    (
                                      λ code i o. λ y x. tt,
                                      (
                                        λ code i o. λ y x. tt,
                                        (
                                          λ code i o. λ y x. tt,
                                          (
                                            increment_quiet,
                                            tt,
                                          ),
                                        ),
                                      ),
                                    ),
                                  ),
                                ),
                              ),
                            ),
                          ),
                        ),
                      ),
                    ),
                  ),
                ),
              ),
            ),
          ),
        ),
      ),
    ),
  ),
)

conversions_quiet : AreQuiet conversions
unfolding opcodes.row_of
conversions_quiet = (
  λ code i o. λ x. tt,
  (
    λ code i o. λ x. tt,
    (
      λ code i o. λ x. tt,
      (
        λ code i o. λ x. tt,
        (
          λ code i o. λ x. tt,
          tt,
        ),
      ),
    ),
  ),
)

comparisons_quiet : AreQuiet comparisons
unfolding opcodes.row_of
comparisons_quiet = (
  λ code i o. λ y x. tt,
  (
    λ code i o. tt,
    (
      λ code i o. tt,
      (
        λ code i o. tt,
        (
          λ code i o. tt,
          (
            λ code i o. tt,
            (
              λ code i o. tt,
              (
                λ code i o. tt,
                (
                  λ code i o. tt,
                  (
                    λ code i o. tt,
                    (
                      λ code i o. tt,
                      (
                        λ code i o. tt,
                        (
                          λ code i o. tt,
                          (
                            λ code i o. tt,
                            (
                              λ code i o. tt,
                              tt,
                            ),
                          ),
                        ),
                      ),
                    ),
                  ),
                ),
              ),
            ),
          ),
        ),
      ),
    ),
  ),
)

control_quiet : AreQuiet control
unfolding opcodes.row_of
control_quiet = (
  λ code i o. tt,
  (
    λ code i o. tt,
    (
      λ code i o. natural_quiet i.second (λ pairs. rows.Switch i.first (cases_of code i)) (λ pairs. tt),
      (
        λ code i o. tt,
        (
          λ code i o. tt,
          (
            λ code i o. tt,
            (
              λ code i o. tt,
              tt,
            ),
          ),
        ),
      ),
    ),
  ),
)

references_quiet : AreQuiet references
unfolding opcodes.row_of
references_quiet = (
  static_quiet rows.GetStatic (λ k. tt),
  (
    static_quiet rows.PutStatic (λ k. tt),
    (
      tt,
      (
        tt,
        (
          tt,
          (
            tt,
            (
              tt,
              (
                tt,
                (
                  tt,
                  (
                    tt,
                    (
                      tt,
                      (
                        tt,
                        (
                          tt,
                          (
                            tt,
                            (
                              type_quiet rows.Test (λ k. tt),
                              (
                                tt,
                                (
                                  tt,
                                  tt,
                                ),
                              ),
                            ),
                          ),
                        ),
                      ),
                    ),
                  ),
                ),
              ),
            ),
          ),
        ),
      ),
    ),
  ),
)

extended_quiet : AreQuiet extended
unfolding opcodes.row_of
extended_quiet = (
  λ code i o. tt,
  (
    λ code i o. tt,
    (
      λ code i o. tt,
      tt,
    ),
  ),
)

reserved_quiet : AreQuiet reserved
unfolding opcodes.row_of
reserved_quiet = (
  λ code i o. tt,
  (
    λ code i o. tt,
    tt,
  ),
)

all_quiet : AreQuiet instructions
all_quiet =
    both_quiet constants (loads ++ stores ++ stack ++ math ++ conversions ++ comparisons ++ control ++ references ++ extended ++ reserved) constants_quiet
    (both_quiet loads (stores ++ stack ++ math ++ conversions ++ comparisons ++ control ++ references ++ extended ++ reserved) loads_quiet
    (both_quiet stores (stack ++ math ++ conversions ++ comparisons ++ control ++ references ++ extended ++ reserved) stores_quiet
    (both_quiet stack (math ++ conversions ++ comparisons ++ control ++ references ++ extended ++ reserved) stack_quiet
    (both_quiet math (conversions ++ comparisons ++ control ++ references ++ extended ++ reserved) math_quiet
    (both_quiet conversions (comparisons ++ control ++ references ++ extended ++ reserved) conversions_quiet
    (both_quiet comparisons (control ++ references ++ extended ++ reserved) comparisons_quiet
    (both_quiet control (references ++ extended ++ reserved) control_quiet
    (both_quiet references (extended ++ reserved) references_quiet
    (both_quiet extended reserved extended_quiet
    (reserved_quiet))))))))))

-- a row of a list whose rows are quiet unless marked
among : (ms : List Meaning) → AreQuiet ms → (code : List ℕ) (i : Instr) (o : Operand) (r : Row) → row_among ms code i o ≡ Some r → (is_marked i.op ≡ true) ⊎ IsQuietRow r
among [] h code i o r e = absurd (cc)
among (m ∷ ms) (first, rest) code i o r e = at (among ms rest code i o r) (m.opcode == i.op) refl e
  where
    quiet : (marked : Bool) → is_marked m.opcode ≡ marked → IsQuietUnless marked m → m.opcode ≡ i.op → m.row code i o ≡ Some r → (is_marked i.op ≡ true) ⊎ IsQuietRow r
    quiet true is h same has = inl (ap is_marked (sym same) ∙ is)
    quiet false is h same has = inr (subst IsQuietOption has (h code i o))

    at : (row_among ms code i o ≡ Some r → (is_marked i.op ≡ true) ⊎ IsQuietRow r)
        → (b : Bool) → (m.opcode == i.op) ≡ b → (if b then m.row code i o else row_among ms code i o) ≡ Some r → (is_marked i.op ≡ true) ⊎ IsQuietRow r
    at later true same has = quiet (is_marked m.opcode) refl first (eqb-true m.opcode i.op same) has
    at later false same has = later has

marked_or_quiet : (code : List ℕ) (i : Instr) (o : Operand) (r : Row) → row_of code i o ≡ Some r → (is_marked i.op ≡ true) ⊎ IsQuietRow r
unfolding row_of
marked_or_quiet code i o r e = among instructions all_quiet code i o r e

-- ---- the step

onto_some : {A B : Type 0} (o : Option A) (g : A → Option B) (y : B) → onto o g ≡ Some y → (x : A) × (o ≡ Some x) × (g x ≡ Some y)
onto_some None g y e = absurd (cc)
onto_some (Some x) g y e = (x, refl, e)

mode_of : (u t : State) → ◌≡◌ {A = Option State} (Some u) (Some t) → u.mode ≡ t.mode
mode_of u t e = let same : u ≡ t = cc in ap (λ (s : State). s.mode) same

module _ (P : Program) (limits : Limits) (answer : Option ℕ) (s : State) (f : Frame) (t : State) (p : ℕ) (raises : t.mode ≡ Raising p) where
  not_running : (u : State) → u.mode ≡ Running → ◌≡◌ {A = Option State} (Some u) (Some t) → ⊥
  not_running u is e = let same : Running ≡ Raising p = sym is ∙ mode_of u t e ∙ raises in cc

  not_ended : (u : State) → u.mode ≡ Ended → ◌≡◌ {A = Option State} (Some u) (Some t) → ⊥
  not_ended u is e = let same : Ended ≡ Raising p = sym is ∙ mode_of u t e ∙ raises in cc

  left_quiet : (result : Option Value) (callers : List Frame) → left P s f result callers ≡ Some t → ⊥
  left_quiet None [] e = not_ended (record s { frames = f ∷ []; mode = Ended }) refl e
  left_quiet (Some v) [] e = cc
  left_quiet None (c ∷ callers) e =
      let found = onto_some (resumed P c None) (λ d. Some (with_top s callers d)) t e in
      not_running (with_top s callers found.0) refl found.2
  left_quiet (Some v) (c ∷ callers) e =
      let found = onto_some (resumed P c (Some v)) (λ d. Some (with_top s callers d)) t e in
      not_running (with_top s callers found.0) refl found.2

  applied_quiet : (callers : List Frame) (e : Effect) → IsQuiet e → applied P limits answer s f callers e ≡ Some t → ⊥
  applied_quiet callers Stuck h is = cc
  applied_quiet callers (Go pc ls ops) h is = not_running _ refl is
  applied_quiet callers (Make o pc ls ops) h is = not_running _ refl is
  applied_quiet callers (WritePart q k v pc ls ops) h is =
      let found = onto_some (written s.objects q k v) (λ os. Some (with_top (record s { objects = os }) callers (record f { pc = pc; locals = ls; operands = ops }))) t is in
      not_running _ refl found.2
  applied_quiet callers (WriteStatic k v pc ls ops) h is =
      let found = onto_some (replaced s.statics k v) (λ vs. Some (with_top (record s { statics = vs }) callers (record f { pc = pc; locals = ls; operands = ops }))) t is in
      not_running _ refl found.2
  applied_quiet callers (Take pc ls ops) h is = not_running _ refl is
  applied_quiet callers (Give byte pc ls ops) h is = not_running _ refl is
  applied_quiet callers (Call m args ops) h is = h
  applied_quiet callers (Leave result) h is = left_quiet result callers is
  applied_quiet callers (Raise q) h is = h

  in_step : (callers : List Frame) → step_in P limits answer s (f ∷ callers) Running ≡ Some t → IsSomeAnd (instr_at P f.method f.pc) (λ i. is_marked i.op ≡ true)
  in_step callers e =
      let outer = onto_some (row_at P f) (λ x. applied P limits answer s f callers (effect P limits s f x.0 x.1)) t e in
      let x = outer.0 in
      let body = onto_some (body_of P f.method) _ x outer.1 in
      let instr = onto_some (instr_at P f.method f.pc) _ x body.2 in
      let row = onto_some (row_of body.0.code instr.0 (P.operand f.method f.pc)) _ x instr.2 in
      let r = row.0 in
      let i = instr.0 in
      let same : x ≡ (f.pc + i.length, r) = cc in
      let is : applied P limits answer s f callers (effect P limits s f (f.pc + i.length) r) ≡ Some t = subst (λ (y : ℕ × Row). applied P limits answer s f callers (effect P limits s f y.0 y.1) ≡ Some t) same outer.2 in
      let result : is_marked i.op ≡ true = elim (marked_or_quiet body.0.code i (P.operand f.method f.pc) r row.1) [
        | inl marked ↦ marked
        | inr quiet ↦ absurd (applied_quiet callers (effect P limits s f (f.pc + i.length) r) (effect_quiet P limits s f (f.pc + i.length) r quiet) is)
      ] in
      subst (λ (o : Option Instr). IsSomeAnd o (λ j. is_marked j.op ≡ true)) (sym instr.1) result

pub only_marked_ones_raise : OnlyMarkedOnesRaise
only_marked_ones_raise P limits answer s t f callers p frames mode e raises =
    in_step P limits answer s f t p raises callers
    (ap (λ (fs : List Frame). step_in P limits answer s fs Running) (sym frames) ∙ ap (step_in P limits answer s s.frames) (sym mode) ∙ e)
