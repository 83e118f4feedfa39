-- The first word of an object, read in the memory of a machine that stands for a state.
use Rattle.std.proofs.Common.{◌≡◌, ℕ, ◌+◌, ◌-◌, ◌<◌, ◌==◌, Bool, true, false, List, length, Some, ⊎_elim, refl, sym, ◌∙◌, ap, arith, eqb-true}
use Rattle.std.specs.Prelude.{slice_get, slice_index}
use Rattle.machine_stands.proofs.Fixed.{within_lie}
use Rattle.machine_stands.proofs.Memory.{lie_padded}
use Rattle.jop_core.specs.State as machine
use Rattle.bytecode_model.specs.State.{Object, State}
use Rattle.bytecode_model.specs.Program.{Program}
use Rattle.bytecode_model.specs.WellFormed.{IsWellFormed}
use Rattle.image_facts.specs.Words.{object_image}
use Rattle.image_facts.specs.Places.{Places, object_place, objects_place, words_with}
use Rattle.image_facts.specs.Says.{SaysLinked, header_words}
use Rattle.image_facts.specs.Laws.{WordsAreRead, ListsGoOn, ObjectsLie}
use Rattle.machine_stands.specs.StandsFor.{StandsFor, limits_of, memory_of}

pub record ObjectLaws : Type 0 where
  pub read : WordsAreRead
  pub ahead : ListsGoOn
  pub lie : ObjectsLie

-- the place of its type
pub type_read : ObjectLaws → (P : Program) (pl : Places) (n size : ℕ) (m : machine.MachineState) (s : State) (p : ℕ) (o : Object) → StandsFor P pl n size m s → IsWellFormed P (limits_of P pl n size) s → slice_get s.objects p ≡ Some o
    → (object_place P pl s.objects p < size) × (slice_index m.port.words (object_place P pl s.objects p) ≡ pl.type o.kind)
type_read laws P pl n size m s p o st well h =
    let place = object_place P pl s.objects p in
    let words = object_image P pl.type (object_place P pl s.objects) o in
    let lie = lie_padded size (words_with P pl s.statics s.objects) place words laws.ahead (laws.lie P pl s.statics s.objects p o well.statics h) in
    let at : place + 0 ≡ place = omega arith in
    let some : 0 < length words = omega arith in (
      omega (arith, within_lie (memory_of P pl size s) place words 0 lie some, ap (λ (ws : List ℕ). length ws) st.memory, st.sizes.memory),
      ap (λ (ws : List ℕ). slice_index ws place) st.memory ∙ ap (slice_index (memory_of P pl size s)) (sym at) ∙ laws.read (memory_of P pl size s) place words 0 lie some,
    )

-- no object lies at 0, where the words of the image begin
pub objects_behind : (P : Program) (pl : Places) → SaysLinked P pl → 0 < objects_place P pl
objects_behind P pl says = ⊎_elim (λ front. omega (arith, within_lie pl.front 0 (header_words P pl) 0 front (omega arith))) (λ middle. omega (arith, within_lie pl.middle middle.0 (header_words P pl) 0 middle.2 (omega arith))) says.header

pub not_zero : (k : ℕ) → 0 < k → (k == 0) ≡ false
not_zero k some = by (k == 0) refl
  where
    by : (b : Bool) → (k == 0) ≡ b → b ≡ false
    by true e = absurd (omega (arith, eqb-true k 0 e, some))
    by false e = refl
