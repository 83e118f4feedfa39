-- What is read of objects, of their values and of static fields.
use Rattle.std.proofs.Common.{◌≡◌, ℕ, ◌+◌, ◌<◌, Bool, true, false, List, [], ◌∷◌, ◌++◌, Option, Some, None, length, refl, sym, ap, subst, arith, ⊎_elim, length-append}
use Rattle.std.specs.Prelude.{slice_index}
use Rattle.std.specs.List.{flat_map}
use Rattle.jop_core.specs.State as machine
use Rattle.bytecode_model.specs.declared.Value.{Value}
use Rattle.bytecode_model.specs.declared.Value.TheVariants.{Int, Long, Ref, Null, Unset}
use Rattle.bytecode_model.specs.Types.{Kind, OfClass, OfNumbers, OfReferences, is_long}
use Rattle.bytecode_model.specs.State.{State}
use Rattle.bytecode_model.specs.Program.{Program, kind_of}
use Rattle.bytecode_model.specs.Effects.{is_array}
use Rattle.image_facts.specs.Within.{LieAt}
use Rattle.image_facts.specs.Words.{words_of, int_word, high_word, low_word, length_words}
use Rattle.image_facts.specs.Places.{Places, static_place, object_place, middle_place, words_with}
use Rattle.image_facts.specs.Says.{SaysAll, SaysLinked, header_words}
use Rattle.image_facts.specs.Laws.{WordsAreRead, ListsGoOn, ObjectsLie, PartsLie, StaticsLie, part_place}
use Rattle.machine_stands.specs.Frames.{IsWordOf}
use Rattle.machine_stands.specs.StandsFor.{StandsFor}
use Rattle.opcode_steps.specs.Heap.Reading.{Reads, ReadsWord, ObjectsAreRead, ObjectsAreNotNull, PartsAreRead, LongPartsAreRead, StaticsAreRead, LongStaticsAreRead}
use Rattle.opcode_steps.proofs.HeapLemmas.Kit.{word_at, first_at}

pub record ReadLaws : Type 0 where
  pub read : WordsAreRead
  pub ahead : ListsGoOn
  pub objects : ObjectsLie
  pub parts : PartsLie
  pub statics : StaticsLie

-- ---- objects

-- behind the type of an array stands its length
record SecondWord (words : List ℕ) (n : ℕ) : Type 0 where
  some : 1 < length words
  word_is : slice_index words 1 ≡ n

second_word : (q : Option Kind) (t n : ℕ) (rest : List ℕ) → is_array q ≡ true → SecondWord (t ∷ (length_words q n ++ rest)) n
second_word (Some (OfNumbers a)) t n rest h = record { some = omega arith; word_is = refl }
second_word (Some (OfReferences k)) t n rest h = record { some = omega arith; word_is = refl }
second_word (Some (OfClass c)) t n rest h = absurd (cc)
second_word None t n rest h = absurd (cc)

pub objects_read : ReadLaws → ObjectsAreRead
objects_read laws P pl n size m s p o st well at =
    let place = object_place P pl s.objects in
    let l = laws.objects P pl s.statics s.objects p o well.statics at in
    record {
      type = first_at laws.read laws.ahead P pl n size m s (place p) (pl.type o.kind) _ st l;
      array = λ is.
          let w = second_word (kind_of P o) (pl.type o.kind) (length o.parts) (flat_map (words_of place) o.parts) is in
          subst (λ (k : ℕ). Reads size m (place p + 1) k) w.word_is (word_at laws.read laws.ahead P pl n size m s (place p) _ 1 st l w.some);
    }

-- the header of a linked image lies before all objects
pub not_null : ObjectsAreNotNull
not_null P pl s p says linked =
    let all : SaysLinked P pl = subst (λ (b : Bool). SaysAll b P pl) linked says.all in
    ⊎_elim (λ (l : LieAt pl.front 0 (header_words P pl)). in_front l)
    (λ (l : (k : ℕ) × (0 ≡ middle_place P pl + k) × LieAt pl.middle k (header_words P pl)). in_middle l.0 l.2) all.header
  where
    some : 0 < length (header_words P pl)
    some = omega arith

    in_front : LieAt pl.front 0 (header_words P pl) → 0 < object_place P pl s.objects p
    in_front l = omega (arith, some, ap length l.split, length-append l.before (header_words P pl ++ l.after), length-append (header_words P pl) l.after)

    in_middle : (k : ℕ) → LieAt pl.middle k (header_words P pl) → 0 < object_place P pl s.objects p
    in_middle k l = omega (arith, some, ap length l.split, length-append l.before (header_words P pl ++ l.after), length-append (header_words P pl) l.after)

-- ---- values

-- the word of a value that isn't a long
record OneWord (place : ℕ → ℕ) (v : Value) : Type 0 where
  word : ℕ
  words_are : words_of place v ≡ word ∷ []
  is : IsWordOf place v word

one_word : (place : ℕ → ℕ) (v : Value) → is_long v ≡ false → OneWord place v
one_word place (Int i) h = record { word = int_word i; words_are = refl; is = refl }
one_word place (Long i) h = absurd (cc)
one_word place (Ref q) h = record { word = place q; words_are = refl; is = refl }
one_word place Null h = record { word = 0; words_are = refl; is = refl }
one_word place Unset h = record { word = 0; words_are = refl; is = tt }

value_read : ReadLaws → (P : Program) (pl : Places) (n size : ℕ) (m : machine.MachineState) (s : State) (place : ℕ) (v : Value) → StandsFor P pl n size m s → is_long v ≡ false
    → LieAt (words_with P pl s.statics s.objects) place (words_of (object_place P pl s.objects) v) → ReadsWord size m (object_place P pl s.objects) place v
value_read laws P pl n size m s place v st short l =
    let w = one_word (object_place P pl s.objects) v short in
    let r = first_at laws.read laws.ahead P pl n size m s place w.word [] st (subst (λ (ws : List ℕ). LieAt (words_with P pl s.statics s.objects) place ws) w.words_are l) in
    record { within = r.within; word_is = subst (λ (k : ℕ). IsWordOf (object_place P pl s.objects) v k) (sym r.word_is) w.is }

pub parts_read : ReadLaws → PartsAreRead
parts_read laws P pl n size m s p o k v st well at part short =
    value_read laws P pl n size m s (part_place P pl s.objects p o k) v st short (laws.parts P pl s.statics s.objects p o k v well.statics at part)

pub long_parts_read : ReadLaws → LongPartsAreRead
long_parts_read laws P pl n size m s p o k v st well at part =
    let l = laws.parts P pl s.statics s.objects p o k (Long v) well.statics at part in
    let place = part_place P pl s.objects p o k in
    record { high = first_at laws.read laws.ahead P pl n size m s place (high_word v) (low_word v ∷ []) st l; low = word_at laws.read laws.ahead P pl n size m s place (high_word v ∷ low_word v ∷ []) 1 st l (omega arith) }

pub statics_read : ReadLaws → StaticsAreRead
statics_read laws P pl n size m s k v st well at short = value_read laws P pl n size m s (static_place P pl k) v st short (laws.statics P pl s.statics s.objects k v well.statics at)

pub long_statics_read : ReadLaws → LongStaticsAreRead
long_statics_read laws P pl n size m s k v st well at =
    let l = laws.statics P pl s.statics s.objects k (Long v) well.statics at in
    let place = static_place P pl k in
    record { high = first_at laws.read laws.ahead P pl n size m s place (high_word v) (low_word v ∷ []) st l; low = word_at laws.read laws.ahead P pl n size m s place (high_word v ∷ low_word v ∷ []) 1 st l (omega arith) }
