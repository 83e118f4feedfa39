-- The words of an object and of its type, in the memory of a machine that stands for a state.
use Rattle.std.proofs.Common.{◌≡◌, ℕ, ◌+◌, ◌%◌, ◌^◌, ◌<◌, ◌≤◌, List, [], ◌∷◌, ◌++◌, Option, Some, length, refl, sym, ap, ◌∙◌, subst, arith, ⊎_elim, add-zero, length-append}
use Rattle.std.specs.Prelude.{slice_get, slice_index, IfSome}
use Rattle.std.proofs.Math.Nat.{mod-eq_of_lt}
use Rattle.jop_core.specs.State as machine
use Rattle.machine_memory.specs.Timing.Port.{padded}
use Rattle.micro_sketch.specs.Sketch.{Sketch}
use Rattle.bytecode_model.specs.Types.{Kind}
use Rattle.bytecode_model.specs.State.{Object, State}
use Rattle.bytecode_model.specs.Program.{Program}
use Rattle.bytecode_model.specs.WellFormed.{IsWellFormed}
use Rattle.image_facts.specs.Within.{LieAt}
use Rattle.image_facts.specs.Words.{object_image}
use Rattle.image_facts.specs.Places.{Places, AreFixed, object_place, objects_place, middle_place, words_with}
use Rattle.image_facts.specs.Says.{SaysLinked, SaysType, header_words}
use Rattle.image_facts.specs.Laws.{WordsAreRead, ListsGoOn, ObjectsLie}
use Rattle.machine_stands.specs.StandsFor.{StandsFor, limits_of}
use Rattle.machine_stands.specs.Fixed.{FixedWordsAreRead}
use Rattle.call_steps.specs.Tables.{second_word, table_word}

pub record ObjectLaws : Type 0 where
  pub fixed : FixedWordsAreRead
  pub objects : ObjectsLie
  pub ahead : ListsGoOn
  pub read : WordsAreRead

-- ---- no object lies at 0

lies_within : (whole : List ℕ) (place : ℕ) (words : List ℕ) → LieAt whole place words → place + length words ≤ length whole
lies_within whole place words l = omega (arith, ap length l.split, length-append l.before (words ++ l.after), length-append words l.after, l.place_is)

fixed_below : (P : Program) (pl : Places) (place : ℕ) (words : List ℕ) → AreFixed P pl place words → place + length words ≤ objects_place P pl
fixed_below P pl place words h =
    ⊎_elim (λ (l : LieAt pl.front place words). omega (arith, lies_within pl.front place words l))
    (λ (m : (k : ℕ) × (place ≡ middle_place P pl + k) × LieAt pl.middle k words). omega (arith, m.1, lies_within pl.middle m.0 words m.2)) h

pub object_above : (P : Program) (pl : Places) (objects : List Object) (p : ℕ) → SaysLinked P pl → 0 < object_place P pl objects p
object_above P pl objects p says = let header = fixed_below P pl 0 (header_words P pl) says.header in omega (arith, header, counted (header_words P pl) refl)
  where
    counted : (ws : List ℕ) → ws ≡ header_words P pl → 16 ≤ length ws
    counted ws e = omega (arith, ap length e)

-- ---- its type

lie_padded : ListsGoOn → (size : ℕ) (whole : List ℕ) (place : ℕ) (words : List ℕ) → LieAt whole place words → LieAt (padded whole size) place words
lie_padded ahead size whole place words l =
    let d = ahead whole whole _ place words words (record { before = l.before; after = l.after; split = l.split; changed = l.split; place_is = l.place_is }) in
    record { before = d.before; after = d.after; split = d.split; place_is = d.place_is }

-- the first word of an object is the place of its type
pub type_read : ObjectLaws → (P : Program) (pl : Places) (n size : ℕ) (m : machine.MachineState) (s : State) (p : ℕ) (o : Object) → StandsFor P pl n size m s → IsWellFormed P (limits_of P pl n size) s
    → slice_get s.objects p ≡ Some o → slice_index m.port.words (object_place P pl s.objects p) ≡ pl.type o.kind
type_read laws P pl n size m s p o st well is =
    let place = object_place P pl s.objects in
    let words = object_image P pl.type place o in
    let lies = lie_padded laws.ahead size (words_with P pl s.statics s.objects) (place p) words (laws.objects P pl s.statics s.objects p o well.statics is) in
    let some : 0 < length words = omega arith in
    ap (λ (ws : List ℕ). slice_index ws (place p)) st.memory ∙ ap (λ (k : ℕ). slice_index (padded (words_with P pl s.statics s.objects) size) k) (sym (add-zero (place p)))
    ∙ laws.read (padded (words_with P pl s.statics s.objects) size) (place p) words 0 lies some

-- ---- its tables

-- a word of the record of a type
pub record TypeWord (P : Program) (pl : Places) (size : ℕ) (m : machine.MachineState) (t k word : ℕ) : Type 0 where
  pub within : pl.type t + k < size
  pub is : slice_index m.port.words (pl.type t + k) ≡ word

pub record Tables (P : Program) (pl : Places) (size : ℕ) (m : machine.MachineState) (t : ℕ) : Type 0 where
  pub methods : TypeWord P pl size m t 3 (pl.method_table t)
  pub interfaces : TypeWord P pl size m t 4 (pl.interface_table t)

says_type : (P : Program) (pl : Places) (t : ℕ) (k : Kind) → SaysLinked P pl → slice_get P.types t ≡ Some k → SaysType P pl t k
says_type P pl t k says is = subst (λ (o : Option Kind). IfSome o (SaysType P pl t)) is (says.types t)

pub tables_read : ObjectLaws → (P : Program) (pl : Places) (n size : ℕ) (m : machine.MachineState) (s : State) (t : ℕ) (k : Kind) → StandsFor P pl n size m s → IsWellFormed P (limits_of P pl n size) s → SaysLinked P pl
    → slice_get P.types t ≡ Some k → Tables P pl size m t
tables_read laws P pl n size m s t k st well says is =
    let said = says_type P pl t k says is in
    let three = laws.fixed P pl n size m s (pl.type t) _ 3 st well said.words (omega arith) in
    let four = laws.fixed P pl n size m s (pl.type t) _ 4 st well said.words (omega arith) in
    record { methods = record { within = three.0; is = three.1 }; interfaces = record { within = four.0; is = four.1 } }

-- a word of a table of the object, at the place of the pool's entry
pub table_read : ObjectLaws → (P : Program) (pl : Places) (n size : ℕ) (m : machine.MachineState) (s : State) (x : Sketch) (receiver t k table word : ℕ) → StandsFor P pl n size m s → IsWellFormed P (limits_of P pl n size) s
    → x.memory ≡ m.port.words → slice_index m.port.words receiver ≡ pl.type t → TypeWord P pl size m t k table → AreFixed P pl (table + second_word x % 2 ^ 24) (word ∷ []) → table_word x k receiver ≡ word
table_read laws P pl n size m s x receiver t k table word st well memory type at fixed =
    let slot = second_word x % 2 ^ 24 in
    let read = laws.fixed P pl n size m s (table + slot) (word ∷ []) 0 st well fixed (omega arith) in
    let small = st.sizes.small in
    let here : table + slot + 0 ≡ table + slot = omega arith in
    let reads : List ℕ → ℕ = λ ws. slice_index ws ((slice_index ws ((slice_index ws receiver + k) % 2 ^ 32) + slot) % 2 ^ 32) in
    ap reads memory
    ∙ ap (λ (i : ℕ). slice_index m.port.words ((slice_index m.port.words ((i + k) % 2 ^ 32) + slot) % 2 ^ 32)) type
    ∙ ap (λ (i : ℕ). slice_index m.port.words ((slice_index m.port.words i + slot) % 2 ^ 32)) (mod-eq_of_lt {n = pl.type t + k} {m = 2 ^ 32} (omega (arith, at.within, small)))
    ∙ ap (λ (i : ℕ). slice_index m.port.words ((i + slot) % 2 ^ 32)) at.is
    ∙ ap (λ (i : ℕ). slice_index m.port.words i) (mod-eq_of_lt {n = table + slot} {m = 2 ^ 32} (omega (arith, read.0, small)))
    ∙ ap (λ (i : ℕ). slice_index m.port.words i) (sym here) ∙ read.1
