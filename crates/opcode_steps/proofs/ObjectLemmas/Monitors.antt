-- monitorenter and monitorexit, from the step to where the machine stands for the next state.
use Rattle.std.proofs.Common.{◌≡◌, ℕ, ◌==◌, false, List, [], ◌∷◌, Option, Some, None, refl, sym, ap, ◌∙◌, subst, arith}
use Rattle.std.specs.Prelude.{slice_get}
use Rattle.std.proofs.lemmas.Option.{none-some}
use Rattle.lists.proofs.Lemmas.{some_same}
use Rattle.opcodes.specs.Form.{one, Absent}
use Rattle.opcodes.specs.Row as opcodes
use Rattle.opcodes.specs.Reading.{plain_instr}
use Rattle.micro_sketch.specs.Sketch.{Sketch}
use Rattle.micro_sketch.specs.Rows.{Makes, entered}
use Rattle.bytecode_model.specs.declared.Value.{Value}
use Rattle.bytecode_model.specs.declared.Value.TheVariants.{Int, Long, Ref, Null, Unset}
use Rattle.bytecode_model.specs.State.{Object, Frame, State}
use Rattle.bytecode_model.specs.Program.{Program, Limits, Operand}
use Rattle.bytecode_model.specs.Rows.{Row, Monitor}
use Rattle.bytecode_model.specs.Table.{row_of}
use Rattle.bytecode_model.specs.Effects.{Effect, Go, on, on_object, fault, NullPointerException}
use Rattle.bytecode_model.specs.Steps.{applied}
use Rattle.machine_stands.specs.StandsFor.{limits_of}
use Rattle.machine_stands.specs.Reading.{operands_of}
use Rattle.opcode_steps.proofs.ObjectLemmas.Raising.{MakesRaise}
use Rattle.opcode_steps.proofs.ObjectLemmas.TypeRows.{raising, drops, monitor_is_entered, enter_raises, monitor_is_left, exit_raises}
use Rattle.opcode_steps.proofs.ObjectLemmas.Objects.{objects_behind, not_zero}
use Rattle.opcode_steps.proofs.ObjectLemmas.Scenes.{StateLaws, Here, Line, Comes, line_of, code, x, next, effect_of, says_linked, at_entry, comes_on, comes_to_raise, topped}

enter_form : operands_of (opcodes.row_of 194).form ≡ Some (one Absent)
unfolding opcodes.row_of
enter_form = refl

exit_form : operands_of (opcodes.row_of 195).form ≡ Some (one Absent)
unfolding opcodes.row_of
exit_form = refl

enter_row : (bytes : List ℕ) (pc : ℕ) (o : Operand) (r : Row) → row_of bytes (plain_instr 194 bytes pc (one Absent)) o ≡ Some r → r ≡ Monitor
unfolding row_of
enter_row bytes pc o r h = sym (some_same Monitor r h)

exit_row : (bytes : List ℕ) (pc : ℕ) (o : Operand) (r : Row) → row_of bytes (plain_instr 195 bytes pc (one Absent)) o ≡ Some r → r ≡ Monitor
unfolding row_of
exit_row bytes pc o r h = sym (some_same Monitor r h)

-- the topmost operand is null, or refers to an object
data Referring (objects : List Object) (ops : List Value) (go : ℕ → Object → List Value → Effect) : Type 0 where
  ToNone : (rest : List Value) → ops ≡ Null ∷ rest → on_object objects ops go ≡ fault NullPointerException → Referring objects ops go
  ToObject : (p : ℕ) (o : Object) (rest : List Value) → ops ≡ Ref p ∷ rest → on_object objects ops go ≡ go p o rest → Referring objects ops go

module _ (P : Program) (limits : Limits) (answer : Option ℕ) (s : State) (f : Frame) (callers : List Frame) (t : State) (go : ℕ → Object → List Value → Effect) where
  to_object : (p : ℕ) (rest : List Value) (o : Option Object) → slice_get s.objects p ≡ o → applied P limits answer s f callers (on_object s.objects (Ref p ∷ rest) go) ≡ Some t → Referring s.objects (Ref p ∷ rest) go
  to_object p rest None is h =
      absurd (none-some t (ap (λ (q : Option Object). applied P limits answer s f callers (on q (λ o. go p o rest))) (sym is) ∙ h))
  to_object p rest (Some o) is h = ToObject p o rest refl (ap (λ (q : Option Object). on q (λ o. go p o rest)) is)

  reference_cases : (ops : List Value) → applied P limits answer s f callers (on_object s.objects ops go) ≡ Some t → Referring s.objects ops go
  reference_cases [] h = absurd (none-some t h)
  reference_cases (Int n ∷ rest) h = absurd (none-some t h)
  reference_cases (Long n ∷ rest) h = absurd (none-some t h)
  reference_cases (Unset ∷ rest) h = absurd (none-some t h)
  reference_cases (Null ∷ rest) h = ToNone rest refl refl
  reference_cases (Ref p ∷ rest) h = to_object p rest (slice_get s.objects p) refl h

module _ (laws : StateLaws) {op : ℕ} (c : Here op (one Absent) 0) (passes : (x : Sketch) → let z = entered op x in (z.top == 0) ≡ false → Makes (drops z) z)
    (raises : (x : Sketch) → let z = entered op x in z.top ≡ 0 → MakesRaise (raising (z.next ∷ z.under) 0 6 z) z) (row : c.row ≡ Monitor) where
  abbrev monitor_go : ℕ → Object → List Value → Effect
  monitor_go p o rest = Go (next laws c) c.h.stands.top.locals rest

  monitor_cases : effect_of laws c c.row ≡ on_object c.s.objects c.h.stands.top.operands monitor_go → Referring c.s.objects c.h.stands.top.operands monitor_go → Comes c
  monitor_cases does (ToNone rest ops is) =
      let top = topped laws c Null rest refl ops in
      comes_to_raise laws c NullPointerException 0 top.others ((x laws c).next ∷ (x laws c).under) (does ∙ is)
      (at_entry laws c (λ (y : Sketch). y.top ≡ 0 → MakesRaise (raising (y.next ∷ y.under) 0 6 y) y) (raises (x laws c)) top.is) (omega arith) top.below top.count
  monitor_cases does (ToObject p o rest ops is) =
      let top = topped laws c (Ref p) rest refl ops in
      let behind = objects_behind c.P c.pl (says_linked laws c) in
      let some : ((x laws c).top == 0) ≡ false = not_zero (x laws c).top (omega (arith, top.is, behind)) in
      comes_on laws c rest top.others ((x laws c).next ∷ (x laws c).under) (does ∙ is) (at_entry laws c (λ (y : Sketch). (y.top == 0) ≡ false → Makes (drops y) y) (passes (x laws c)) some) top.below top.stay

  pub monitor_comes : Comes c
  monitor_comes =
      let st = c.h.stands in
      let limits = limits_of c.P c.pl c.n c.size in
      let step = subst (λ (r : Row). applied c.P limits c.answer c.s st.top st.callers (effect_of laws c r) ≡ Some c.t) row c.at.step in
      monitor_cases (ap (effect_of laws c) row) (reference_cases c.P limits c.answer c.s st.top st.callers c.t monitor_go st.top.operands step)

pub monitorenter : StateLaws → Line 194
monitorenter laws =
    line_of laws 194 (one Absent) 0 enter_form refl (λ c. monitor_comes laws c monitor_is_entered enter_raises (enter_row (code laws c) c.h.stands.top.pc (c.P.operand c.h.stands.top.method c.h.stands.top.pc) c.row c.at.is_row))

pub monitorexit : StateLaws → Line 195
monitorexit laws =
    line_of laws 195 (one Absent) 0 exit_form refl (λ c. monitor_comes laws c monitor_is_left exit_raises (exit_row (code laws c) c.h.stands.top.pc (c.P.operand c.h.stands.top.method c.h.stands.top.pc) c.row c.at.is_row))
