-- How wide values are, and where they lie.
use Rattle.std.proofs.Common.{◌≡◌, ℕ, zero, suc, ◌+◌, ◌*◌, Bool, true, false, List, [], ◌∷◌, Some, length, map, replicate, take, refl, sym, ◌∙◌, ap, arith, if◌then◌else◌}
use Rattle.std.specs.Prelude.{slice_get, sum_by}
use Rattle.std.proofs.lemmas.Option.{none-some}
use Rattle.std.proofs.lemmas.List.Sums.{sum_by-cons}
use Rattle.machine_stands.proofs.Defined.{object_at}
use Rattle.lists.proofs.Lemmas.{holds_at, some_same}
use Rattle.bytecode_model.specs.declared.Value.{Value}
use Rattle.bytecode_model.specs.declared.Value.TheVariants.{Null}
use Rattle.bytecode_model.specs.Types.{Kind, OfClass, OfNumbers, OfReferences, Declared, is_long, zero_of, default, element_type}
use Rattle.bytecode_model.specs.State.{Object, State}
use Rattle.bytecode_model.specs.Program.{Program, Limits, kind_of}
use Rattle.bytecode_model.specs.Sizes.{value_words, header_words}
use Rattle.bytecode_model.specs.WellFormed.{AreAlike, IsLength, IsWellFormed, first_parts}
use Rattle.image_facts.specs.Places.{object_place}
use Rattle.image_facts.specs.Laws.{FieldsAreWide}
use Rattle.opcode_steps.specs.Heap.Widths.{element_words, IsAsWide, ArraysAreShort, FieldsHaveWidths, FieldsHavePlaces, ElementsHaveWidths, ElementsHavePlaces, StaticsHaveWidths}

-- what is well formed of an object
record HasShape (P : Program) (o : Object) (k : Kind) : Type 0 where
  alike : AreAlike o.parts (first_parts P k (length o.parts))
  short : IsLength k (length o.parts)

shape_of : (P : Program) (limits : Limits) (s : State) (p : ℕ) (o : Object) (k : Kind) → IsWellFormed P limits s → slice_get s.objects p ≡ Some o → kind_of P o ≡ Some k → HasShape P o k
shape_of P limits s p o k well at kind =
    let h = holds_at (kind_of P o) k (λ l. AreAlike o.parts (first_parts P l (length o.parts)) × IsLength l (length o.parts)) kind (object_at P (length s.objects) s.objects p o well.objects at).shape in
    record { alike = h.0; short = h.1 }

pub arrays_short : ArraysAreShort
arrays_short P limits s p o (OfClass c) well at kind array = absurd (array c refl)
arrays_short P limits s p o (OfNumbers code) well at kind array = (shape_of P limits s p o (OfNumbers code) well at kind).short
arrays_short P limits s p o (OfReferences k) well at kind array = (shape_of P limits s p o (OfReferences k) well at kind).short

-- ---- widths

declared_wide : (vs : List Value) (ds : List Declared) (k : ℕ) (d : Declared) (v : Value) → AreAlike vs (map default ds) → slice_get ds k ≡ Some d → slice_get vs k ≡ Some v → IsAsWide v (is_long (default d))
declared_wide [] ds k d v h e g = absurd (none-some v g)
declared_wide (u ∷ vs) [] k d v h e g = absurd h
declared_wide (u ∷ vs) (t ∷ ds) zero d v h e g =
    let same = some_same u v g in
    record { width = ap is_long (sym same) ∙ h.0 ∙ ap (λ x. is_long (default x)) (some_same t d e); set = λ unset. h.1 (same ∙ unset) }
declared_wide (u ∷ vs) (t ∷ ds) (suc k) d v h e g = declared_wide vs ds k d v h.2 e g

equal_wide : (vs : List Value) (n : ℕ) (z : Value) (k : ℕ) (v : Value) → AreAlike vs (replicate n z) → slice_get vs k ≡ Some v → IsAsWide v (is_long z)
equal_wide [] n z k v h g = absurd (none-some v g)
equal_wide (u ∷ vs) zero z k v h g = absurd h
equal_wide (u ∷ vs) (suc n) z zero v h g = let same = some_same u v g in record { width = ap is_long (sym same) ∙ h.0; set = λ unset. h.1 (same ∙ unset) }
equal_wide (u ∷ vs) (suc n) z (suc k) v h g = equal_wide vs n z k v h.2 g

pub fields_wide : FieldsHaveWidths
fields_wide P limits s p o c k d v well at kind declared part = declared_wide o.parts (P.fields c) k d v (shape_of P limits s p o (OfClass c) well at kind).alike declared part

pub statics_wide : StaticsHaveWidths
statics_wide P limits s k d v well declared at = declared_wide s.statics P.statics k d v well.statics declared at

pub elements_wide : ElementsHaveWidths
elements_wide P limits s p o (OfClass c) k v well at kind array part = absurd (array c refl)
elements_wide P limits s p o (OfNumbers code) k v well at kind array part = equal_wide o.parts (length o.parts) (zero_of (element_type code)) k v (shape_of P limits s p o (OfNumbers code) well at kind).alike part
elements_wide P limits s p o (OfReferences l) k v well at kind array part = equal_wide o.parts (length o.parts) Null k v (shape_of P limits s p o (OfReferences l) well at kind).alike part

-- ---- places

pub fields_lie : FieldsAreWide → FieldsHavePlaces
fields_lie wide P pl limits s p o c k well at kind =
    let head : header_words (kind_of P o) ≡ 1 = ap header_words kind in
    let before = wide o.parts (P.fields c) k (shape_of P limits s p o (OfClass c) well at kind).alike in
    ap (λ (h : ℕ). object_place P pl s.objects p + (h + sum_by value_words (take k o.parts))) head ∙ ap (λ (w : ℕ). object_place P pl s.objects p + (1 + w)) before

words_by : (b : Bool) → (if b then 2 else 1) ≡ element_words b
words_by true = refl
words_by false = refl

elements_before : (vs : List Value) (n : ℕ) (z : Value) (k : ℕ) (v : Value) → AreAlike vs (replicate n z) → slice_get vs k ≡ Some v → sum_by value_words (take k vs) ≡ k * element_words (is_long z)
elements_before [] n z k v h g = absurd (none-some v g)
elements_before (u ∷ vs) zero z k v h g = absurd h
elements_before (u ∷ vs) (suc n) z zero v h g = omega arith
elements_before (u ∷ vs) (suc n) z (suc k) v h g =
    let one : value_words u ≡ element_words (is_long z) = ap (λ (b : Bool). if b then 2 else 1) h.0 ∙ words_by (is_long z) in
    sum_by-cons value_words u (take k vs) ∙ adds (value_words u) (element_words (is_long z)) (sum_by value_words (take k vs)) k one (elements_before vs n z k v h.2 g)
  where
    adds : (a e rest k : ℕ) → a ≡ e → rest ≡ k * e → a + rest ≡ suc k * e
    adds a e rest k h g = omega arith

array_lies : (P : Program) (place : ℕ) (o : Object) (n : ℕ) (z : Value) (k : ℕ) (v : Value) → header_words (kind_of P o) ≡ 2 → AreAlike o.parts (replicate n z) → slice_get o.parts k ≡ Some v
    → place + (header_words (kind_of P o) + sum_by value_words (take k o.parts)) ≡ place + (2 + k * element_words (is_long z))
array_lies P place o n z k v head alike part =
    ap (λ (h : ℕ). place + (h + sum_by value_words (take k o.parts))) head ∙ ap (λ (w : ℕ). place + (2 + w)) (elements_before o.parts n z k v alike part)

pub elements_lie : ElementsHavePlaces
elements_lie P pl limits s p o (OfClass c) k v well at kind array part = absurd (array c refl)
elements_lie P pl limits s p o (OfNumbers code) k v well at kind array part =
    array_lies P (object_place P pl s.objects p) o (length o.parts) (zero_of (element_type code)) k v (ap header_words kind) (shape_of P limits s p o (OfNumbers code) well at kind).alike part
elements_lie P pl limits s p o (OfReferences l) k v well at kind array part =
    array_lies P (object_place P pl s.objects p) o (length o.parts) Null k v (ap header_words kind) (shape_of P limits s p o (OfReferences l) well at kind).alike part
