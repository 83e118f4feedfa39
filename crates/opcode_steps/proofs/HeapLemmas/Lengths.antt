-- arraylength, from the step to where the machine stands for the next state.
use Rattle.std.proofs.Common.{◌≡◌, ℕ, ◌+◌, true, pos, List, ◌∷◌, ◌++◌, Some, length, refl, ◌∙◌, ap, arith}
use Rattle.std.specs.Prelude.{slice_get, slice_index}
use Rattle.lists.specs.Members.{heads, tails}
use Rattle.opcodes.specs.Row as opcodes
use Rattle.bytecode_model.specs.declared.Value.{Value}
use Rattle.bytecode_model.specs.declared.Value.TheVariants.{Int, Ref, Null}
use Rattle.bytecode_model.specs.State.{Object}
use Rattle.bytecode_model.specs.Program.{kind_of}
use Rattle.bytecode_model.specs.Rows.{Length}
use Rattle.bytecode_model.specs.Table.{row_of}
use Rattle.bytecode_model.specs.Effects.{Effect, Go, NullPointerException, fault, only_if, is_array}
use Rattle.opcode_steps.proofs.HeapLemmas.ArrayRows.{length_at, has_length, no_length, arraylength, arraylength_null}
use Rattle.opcode_steps.proofs.HeapLemmas.ArrayDefined.{only_if_defined, on_object_defined}
use Rattle.opcode_steps.proofs.HeapLemmas.ArrayScenes.{Laws, Scene, Comes, limits, top, x, place, saved, operands, At, effect_of, goes_by, raises_by, one_on_top, words_are, null_test}
use Rattle.opcode_steps.proofs.HeapLemmas.Elements.{next_is, array_there}
use Rattle.opcode_steps.proofs.HeapLemmas.Loads.{at_row}

module _ (laws : Laws) (g : Scene 190) (at : At 190 g Length) where
  abbrev pushes : Object → List Value → Effect
  pushes o rest = Go ((top 190 g).pc + 1) (top 190 g).locals (Int (pos (length o.parts)) ∷ rest)

  abbrev of_array : ℕ → Object → List Value → Effect
  of_array p o rest = only_if (is_array (kind_of g.P o)) (pushes o rest)

  null_comes : (rest : List Value) → (top 190 g).operands ≡ Null ∷ rest → effect_of 190 g Length ≡ fault NullPointerException → Comes 190 g
  null_comes rest ops raises =
      let y = x 190 g in
      let w = one_on_top laws 190 g Null rest (top 190 g).operands (operands 190 g) g.h.stands.are_frames.0.operands ops refl in
      let stack = words_are laws 190 g (w.word ∷ w.others) w.split in
      let zero : y.top ≡ 0 = heads y.top w.word (y.next ∷ y.under) (w.others ++ saved 190 g) stack ∙ w.is in
      let fewer = ap (λ (ws : List ℕ). length ws) w.split in
      raises_by laws 190 g Length NullPointerException (λ z. z.next ∷ z.under) no_length w.others arraylength_null (null_test y.top true zero refl) at raises
      (tails y.top w.word (y.next ∷ y.under) (w.others ++ saved 190 g) stack) (omega (arith, fewer))

  length_comes : (p : ℕ) (o : Object) (rest : List Value) → (top 190 g).operands ≡ Ref p ∷ rest → slice_get g.s.objects p ≡ Some o → is_array (kind_of g.P o) ≡ true → effect_of 190 g Length ≡ pushes o rest → Comes 190 g
  length_comes p o rest ops object array goes =
      let y = x 190 g in
      let w = one_on_top laws 190 g (Ref p) rest (top 190 g).operands (operands 190 g) g.h.stands.are_frames.0.operands ops refl in
      let stack = words_are laws 190 g (w.word ∷ w.others) w.split in
      let array_is : y.top ≡ place 190 g p = heads y.top w.word (y.next ∷ y.under) (w.others ++ saved 190 g) stack ∙ w.is in
      let r = (laws.objects g.P g.pl g.n g.size g.m g.s p o g.h.stands g.h.well_formed object).array array in
      let is : length_at y y.top ≡ length o.parts = ap (slice_index g.m.port.words) (next_is y.top (place 190 g p) g.size array_is r.within g.h.stands.sizes.small) ∙ r.word_is in
      goes_by laws 190 g Length (λ z. length_at z z.top ∷ z.next ∷ z.under) has_length (Int (pos (length o.parts)) ∷ rest) (length_at y y.top ∷ w.others) arraylength
      (array_there laws 190 g p o object y.top array_is) at goes (laws.pushed (place 190 g) (Int (pos (length o.parts))) rest (length_at y y.top) w.others refl is w.stay)
      (ap (λ (ws : List ℕ). length_at y y.top ∷ ws) (tails y.top w.word (y.next ∷ y.under) (w.others ++ saved 190 g) stack))

  comes : Comes 190 g
  comes =
      let f = top 190 g in
      let callers = g.h.stands.callers in
      let limit = limits 190 g in
      on_object_defined g.P limit g.answer g.s f callers g.s' g.s.objects f.operands of_array (Comes 190 g) at.step
      (λ rest ops raises. null_comes rest ops raises)
      (λ p o rest ops object same leads.
      let b = only_if_defined g.P limit g.answer g.s f callers g.s' (is_array (kind_of g.P o)) (pushes o rest) leads in
      length_comes p o rest ops object b.0 (same ∙ b.1))

pub arraylength_comes : Laws → (g : Scene 190) → Comes 190 g
unfolding opcodes.row_of row_of
arraylength_comes laws g = comes laws g (at_row laws 190 g Length refl (λ code pc o. refl))
