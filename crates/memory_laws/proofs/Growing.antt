-- How many words of objects a step makes.
use Rattle.std.proofs.Common.{◌≡◌, ℕ, ◌+◌, ◌*◌, ◌≤◌, Bool, true, false, List, [], ◌∷◌, ◌++◌, length, map, drop, replicate, Option, Some, None, refl, sym, ap, ◌∙◌, subst, arith, sum_by, slice_get, pos, negsuc, mul_comm}
use Rattle.std.specs.Prelude.{if◌then◌else◌, nat_le}
use Rattle.std.proofs.lemmas.List.Sums.{sum_by-cons}
use Rattle.std.proofs.lemmas.List.Folds.{sum_by-replicate}
use Rattle.lists.proofs.Lemmas.{onto_some, some_same, none≢some, holds_at}
use Rattle.bytecode_model.specs.declared.Value.{Value}
use Rattle.bytecode_model.specs.declared.Value.TheVariants.{Int, Long, Ref, Null, Unset}
use Rattle.bytecode_model.specs.declared.Ending.{Ending}
use Rattle.bytecode_model.specs.declared.Ending.TheVariants.{Running, Raising, Ended, Uncaught}
use Rattle.bytecode_model.specs.Lists.{onto}
use Rattle.bytecode_model.specs.Types.{Kind, OfClass, OfNumbers, OfReferences, Declared, default, zero_of, element_type}
use Rattle.bytecode_model.specs.State.{Object, Frame, State}
use Rattle.bytecode_model.specs.Program.{Program, Limits, type_number}
use Rattle.bytecode_model.specs.Sizes.{value_words, header_words, object_words, made_words}
use Rattle.bytecode_model.specs.Rows as rows
use Rattle.bytecode_model.specs.Rows.{Row}
use Rattle.bytecode_model.specs.Effects.{Effect, Stuck, Go, Make, WritePart, WriteStatic, Take, Give, Call, Leave, Raise, fault, on, only_if, on_size, allocate, effect, OutOfMemoryError, fault_object}
use Rattle.bytecode_model.specs.Steps.{step, step_in, row_at, applied, with_top, raising}
use Rattle.bytecode_model.specs.WellFormed.{IsInput}
use Rattle.bytecode_typing.specs.Typed.{Typing, Typed}
use Rattle.bytecode_typing.specs.Lawful.{Lawful}
use Rattle.bytecode_typing.specs.Fits.{IsGoing, Fits}
use Rattle.bytecode_typing.specs.Laws.{TypedProgramsKeep}
use Rattle.bytecode_typing.proofs.Hierarchy.{type_number_is}
use Rattle.bytecode_typing.proofs.Parts.{append_made}
use Rattle.memory_rules.specs.Heap.{Made, AnObject, AnArray, made_by}

-- ---- what an instruction that makes objects does

-- so many words are asked for, where these are the operands
abbrev pub IsAsked : Made → (operands : List Value) → (words : ℕ) → Type 0
IsAsked (AnObject w) ops words = words ≡ w
IsAsked (AnArray element) ops words = (size : ℕ) × (rest : List Value) × (ops ≡ Int (pos size) ∷ rest) × (words ≡ 2 + element * size)

-- no object is made, and it isn't for want of words
abbrev pub MakesNone : Effect → Type 0
MakesNone Stuck = Unit {0}
MakesNone (Raise p) = p ≡ 7 → ⊥
MakesNone e = ⊥

-- it makes none, or an object for which there is room
pub data Makes (P : Program) (limits : Limits) (s : State) (f : Frame) (next : ℕ) (made : Made) (e : Effect) : Type 0 where
  none : MakesNone e → Makes P limits s f next made e
  asks : (o : Object) (rest : List Value) → e ≡ (if nat_le (made_words P s + object_words P o) limits.heap then Make o next f.locals rest else fault OutOfMemoryError)
      → IsAsked made f.operands (object_words P o) → Makes P limits s f next made e

header_is : (P : Program) (k : Kind) (t : ℕ) (parts : List Value) → slice_get P.types t ≡ Some k → object_words P (record { kind = t; parts = parts }) ≡ header_words (Some k) + sum_by value_words parts
header_is P k t parts e = ap (λ (o : Option Kind). header_words o + sum_by value_words parts) e

fields_words : (ds : List Declared) → sum_by value_words (map default ds) ≡ sum_by (λ d. value_words (default d)) ds
fields_words [] = refl
fields_words (d ∷ ds) =
    let a = sum_by-cons value_words (default d) (map default ds) in
    let b = sum_by-cons (λ (x : Declared). value_words (default x)) d ds in
    let c = fields_words ds in
    a ∙ (ap (λ (n : ℕ). value_words (default d) + n) c ∙ sym b)

elements_words : (size : ℕ) (v : Value) → 2 + sum_by value_words (replicate size v) ≡ 2 + value_words v * size
elements_words size v = ap (λ (n : ℕ). 2 + n) (sum_by-replicate value_words size v ∙ mul_comm size (value_words v))

module _ (P : Program) (limits : Limits) (s : State) (f : Frame) (next : ℕ) where
  abbrev MakesOf : Made → Effect → Type 0
  MakesOf made e = Makes P limits s f next made e

  allocates_at : (made : Made) (k : Kind) (parts rest : List Value) → ((t : ℕ) → slice_get P.types t ≡ Some k → IsAsked made f.operands (object_words P (record { kind = t; parts = parts })))
      → (o : Option ℕ) → type_number P k ≡ o
      → MakesOf made (on o (λ t. if nat_le (made_words P s + object_words P (record { kind = t; parts = parts })) limits.heap then Make (record { kind = t; parts = parts }) next f.locals rest else fault OutOfMemoryError))
  allocates_at made k parts rest asked None e = none tt
  allocates_at made k parts rest asked (Some t) e = asks (record { kind = t; parts = parts }) rest refl (asked t (type_number_is P k t e))

  allocates : (made : Made) (k : Kind) (parts rest : List Value) → ((t : ℕ) → slice_get P.types t ≡ Some k → IsAsked made f.operands (object_words P (record { kind = t; parts = parts })))
      → MakesOf made (allocate P limits s k parts next f.locals rest)
  allocates made k parts rest asked = allocates_at made k parts rest asked (type_number P k) refl

  sized : (element : ℕ) (k : Kind) (parts : ℕ → List Value) → ((size t : ℕ) → slice_get P.types t ≡ Some k → object_words P (record { kind = t; parts = parts size }) ≡ 2 + element * size)
      → (ops : List Value) → f.operands ≡ ops → MakesOf (AnArray element) (on_size ops (λ size rest. allocate P limits s k (parts size) next f.locals rest))
  sized element k parts words [] e = none tt
  sized element k parts words (Int (pos size) ∷ rest) e = allocates (AnArray element) k (parts size) rest (λ t is. (size, rest, e, words size t is))
  sized element k parts words (Int (negsuc n) ∷ rest) e = none (λ (x : 5 ≡ 7). omega (arith, x))
  sized element k parts words (Long n ∷ rest) e = none tt
  sized element k parts words (Ref p ∷ rest) e = none tt
  sized element k parts words (Null ∷ rest) e = none tt
  sized element k parts words (Unset ∷ rest) e = none tt

  concrete : (b : Bool) (made : Made) (e : Effect) → MakesOf made e → MakesOf made (only_if b e)
  concrete true made e h = h
  concrete false made e h = none tt

  pub makes_is : (r : Row) (made : Made) → made_by P r ≡ Some made → MakesOf made (effect P limits s f next r)
  makes_is (rows.New c) made e =
      let w = 1 + sum_by (λ d. value_words (default d)) (P.fields c) in
      let asked : (t : ℕ) → slice_get P.types t ≡ Some (OfClass c) → IsAsked (AnObject w) f.operands (object_words P (record { kind = t; parts = map default (P.fields c) })) =
      λ t is. header_is P (OfClass c) t (map default (P.fields c)) is ∙ ap (λ (n : ℕ). 1 + n) (fields_words (P.fields c)) in
      subst (λ (x : Made). MakesOf x (effect P limits s f next (rows.New c))) (some_same (AnObject w) made e)
      (concrete (P.is_concrete c) (AnObject w) (allocate P limits s (OfClass c) (map default (P.fields c)) next f.locals f.operands) (allocates (AnObject w) (OfClass c) (map default (P.fields c)) f.operands asked))
  makes_is (rows.NewNumbers code) made e =
      let v = zero_of (element_type code) in
      subst (λ (x : Made). MakesOf x (effect P limits s f next (rows.NewNumbers code))) (some_same (AnArray (value_words v)) made e)
      (sized (value_words v) (OfNumbers code) (λ size. replicate size v) (λ size t is. header_is P (OfNumbers code) t (replicate size v) is ∙ elements_words size v) f.operands refl)
  makes_is (rows.NewReferences k) made e =
      subst (λ (x : Made). MakesOf x (effect P limits s f next (rows.NewReferences k))) (some_same (AnArray 1) made e)
      (sized 1 (OfReferences k) (λ size. replicate size Null) (λ size t is. header_is P (OfReferences k) t (replicate size Null) is ∙ elements_words size Null) f.operands refl)
  makes_is r made e = absurd (none≢some made e)

-- ---- a step

-- another instruction does the same, whatever words there are
same_effect : (P : Program) (frames heap room : ℕ) (s : State) (f : Frame) (next : ℕ) (r : Row) → made_by P r ≡ None
    → effect P (record { frames = frames; heap = heap }) s f next r ≡ effect P (record { frames = frames; heap = room }) s f next r
same_effect P frames heap room s f next (rows.New c) e = absurd (none≢some (AnObject (1 + sum_by (λ d. value_words (default d)) (P.fields c))) (sym e))
same_effect P frames heap room s f next (rows.NewNumbers code) e = absurd (none≢some (AnArray (value_words (zero_of (element_type code)))) (sym e))
same_effect P frames heap room s f next (rows.NewReferences k) e = absurd (none≢some (AnArray 1) (sym e))
same_effect P frames heap room s f next (rows.Return None) e = refl
same_effect P frames heap room s f next (rows.Return (Some sort)) e = refl
same_effect P frames heap room s f next r e = refl

same_applied : (P : Program) (frames heap room : ℕ) (answer : Option ℕ) (s : State) (f : Frame) (callers : List Frame) (e : Effect)
    → applied P (record { frames = frames; heap = heap }) answer s f callers e ≡ applied P (record { frames = frames; heap = room }) answer s f callers e
same_applied P frames heap room answer s f callers Stuck = refl
same_applied P frames heap room answer s f callers e = refl

-- a step makes nothing, or so many words as its instruction asks for
pub data Grows (P : Program) (s t : State) (f : Frame) : Type 0 where
  same : made_words P t ≤ made_words P s → Grows P s t f
  more : (next words : ℕ) (r : Row) (made : Made) → s.mode ≡ Running → row_at P f ≡ Some (next, r) → made_by P r ≡ Some made → IsAsked made f.operands words → made_words P t ≤ made_words P s + words
      → Grows P s t f

module _ (keep : TypedProgramsKeep) (P : Program) (types : Typing) (frames heap : ℕ) (lawful : Lawful P) (typed : Typed P types) (answer : Option ℕ) (is_answer : IsInput answer) (s t : State)
    (fits : Fits P types (record { frames = frames; heap = heap }) s) (f : Frame) (callers : List Frame) (frames_are : s.frames ≡ f ∷ callers) where
  abbrev limits : Limits
  limits = record { frames = frames; heap = heap }

  -- no words but those that are made
  abbrev none_more : Limits
  none_more = record { frames = frames; heap = made_words P s }

  full : Fits P types none_more s
  full = record {
    frames = fits.frames;
    boot = fits.boot;
    objects = fits.objects;
    first = fits.first;
    statics = fits.statics;
    frame_sum = fits.frame_sum;
    heap_sum = omega arith;
  }

  not_more : IsGoing s.mode → step P none_more answer s ≡ Some t → made_words P t ≤ made_words P s
  not_more going is = (holds_at (step P none_more answer s) t (Fits P types none_more) is (keep P types none_more lawful typed s going full answer is_answer)).heap_sum

  same_words : (u : State) → ◌≡◌ {A = Option State} (Some u) (Some t) → u.objects ≡ s.objects → made_words P t ≤ made_words P s
  same_words u e objects =
      let at : made_words P t ≡ made_words P u = ap (made_words P) (sym (some_same u t e)) in
      let kept : made_words P u ≡ made_words P s = ap (λ (os : List Object). sum_by (object_words P) (drop (length P.first_objects) os)) objects in
      omega (arith, at, kept)

  -- a step, by the mode
  step_is : (l : Limits) (m : Ending) → s.mode ≡ m → step P l answer s ≡ step_in P l answer s (f ∷ callers) m
  step_is l m e = ap (λ (fs : List Frame). step_in P l answer s fs s.mode) frames_are ∙ ap (λ (x : Ending). step_in P l answer s (f ∷ callers) x) e

  quiet : (e : Effect) → MakesNone e → applied P limits answer s f callers e ≡ Some t → made_words P t ≤ made_words P s
  quiet Stuck k h = absurd (none≢some t h)
  quiet (Go pc ls ops) k h = absurd k
  quiet (Make o pc ls ops) k h = absurd k
  quiet (WritePart p i v pc ls ops) k h = absurd k
  quiet (WriteStatic i v pc ls ops) k h = absurd k
  quiet (Take pc ls ops) k h = absurd k
  quiet (Give byte pc ls ops) k h = absurd k
  quiet (Call m args ops) k h = absurd k
  quiet (Leave result) k h = absurd k
  quiet (Raise p) k h = same_words (raising s f callers p) h refl

  module _ (next : ℕ) (r : Row) (row : row_at P f ≡ Some (next, r)) (running : s.mode ≡ Running) where
    applied_is : (l : Limits) → step P l answer s ≡ applied P l answer s f callers (effect P l s f next r)
    applied_is l = step_is l Running running ∙ ap (λ (o : Option (ℕ × Row)). onto o (λ x. applied P l answer s f callers (effect P l s f x.0 x.1))) row

    made_one : (made : Made) → made_by P r ≡ Some made → (o : Object) (rest : List Value) → IsAsked made f.operands (object_words P o) → (b : Bool)
        → applied P limits answer s f callers (if b then Make o next f.locals rest else fault OutOfMemoryError) ≡ Some t → Grows P s t f
    made_one made is o rest asked true h =
        let u : State = with_top (record s { objects = s.objects ++ o ∷ [] }) callers (record f { pc = next; locals = f.locals; operands = Ref (length s.objects) ∷ rest }) in
        let at : made_words P t ≡ made_words P u = ap (made_words P) (sym (some_same u t h)) in
        let words : made_words P u ≡ made_words P s + object_words P o = append_made P P.first_objects s.objects o fits.first in
        more next (object_words P o) r made running row is asked (omega (arith, at, words))
    made_one made is o rest asked false h = same (same_words (raising s f callers (fault_object OutOfMemoryError)) h refl)

    by_made : (o : Option Made) → made_by P r ≡ o → applied P limits answer s f callers (effect P limits s f next r) ≡ Some t → Grows P s t f
    by_made None is h =
        same (not_more (subst IsGoing (sym running) tt)
        (applied_is none_more ∙ (ap (λ (e : Effect). applied P none_more answer s f callers e) (sym (same_effect P frames heap (made_words P s) s f next r is))
        ∙ (sym (same_applied P frames heap (made_words P s) answer s f callers (effect P limits s f next r)) ∙ h))))
    by_made (Some made) is h = by (makes_is P limits s f next r made is)
      where
        by : Makes P limits s f next made (effect P limits s f next r) → Grows P s t f
        by (none k) = same (quiet (effect P limits s f next r) k h)
        by (asks o rest e asked) =
            made_one made is o rest asked (nat_le (made_words P s + object_words P o) limits.heap) (ap (λ (x : Effect). applied P limits answer s f callers x) (sym e) ∙ h)

  by_mode : (m : Ending) → s.mode ≡ m → step_in P limits answer s (f ∷ callers) m ≡ Some t → Grows P s t f
  by_mode Running e h =
      let x = onto_some (row_at P f) (λ x. applied P limits answer s f callers (effect P limits s f x.0 x.1)) t h in
      by_made x.0.0 x.0.1 x.1 e (made_by P x.0.1) refl x.2
  by_mode (Raising p) e h = same (not_more (subst IsGoing (sym e) tt) (step_is none_more (Raising p) e ∙ h))
  by_mode Ended e h = absurd (none≢some t h)
  by_mode (Uncaught c) e h = absurd (none≢some t h)

  pub grows : step P limits answer s ≡ Some t → Grows P s t f
  grows h = by_mode s.mode refl (sym (step_is limits s.mode refl) ∙ h)
