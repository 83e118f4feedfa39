-- What the microcode reads of an array, and where an element lies.
use Rattle.std.proofs.Common.{◌≡◌, ℕ, ◌+◌, ◌*◌, ◌%◌, ◌^◌, ◌<◌, ◌≤◌, ◌==◌, ◌&&◌, Bool, true, false, nat_lt, ℤ, pos, negsuc, Some, length, refl, ◌∙◌, ap, arith, lt-ltb}
use Rattle.std.specs.Prelude.{slice_get, slice_index}
use Rattle.std.specs.Int.{w32}
use Rattle.std.specs.Int.RustNames.{FitsSigned}
use Rattle.std.proofs.Math.Nat.{mod-eq_of_lt}
use Rattle.std.proofs.lemmas.Bool.{le-ltb}
use Rattle.jop_core.specs.Operations.{number_of}
use Rattle.micro_sketch.specs.Sketch.{same_bool}
use Rattle.bytecode_model.specs.declared.Value.{Value}
use Rattle.bytecode_model.specs.State.{Object}
use Rattle.image_facts.specs.Words.{int_word}
use Rattle.image_facts.specs.Laws.{part_place}
use Rattle.opcode_steps.specs.Heap.Widths.{element_words}
use Rattle.opcode_steps.proofs.HeapLemmas.ArrayRows.{length_at, element_at, long_at, is_there, is_outside, is_inside}
use Rattle.opcode_steps.proofs.HeapLemmas.ArrayDefined.{IsOutside, some_before, IsArray}
use Rattle.opcode_steps.proofs.HeapLemmas.Kept.{negative_index}
use Rattle.opcode_steps.proofs.HeapLemmas.ArrayScenes.{Laws, Scene, limits, x, place, there_test}

-- ---- places

pub next_is : (a c size : ℕ) → a ≡ c → c + 1 < size → size < 2 ^ 32 → (a + 1) % 2 ^ 32 ≡ c + 1
next_is a c size e h l = ap (λ (k : ℕ). (k + 1) % 2 ^ 32) e ∙ mod-eq_of_lt {n = c + 1} {m = 2 ^ 32} (omega (arith, h, l))

word_place : (a k c size : ℕ) → c ≡ a + (2 + k * 1) → c < size → size < 2 ^ 32 → ((a + k) % 2 ^ 32 + 2) % 2 ^ 32 ≡ c
word_place a k c size e h l = omega arith

double_place : (a k c size : ℕ) → c ≡ a + (2 + k * 2) → c < size → size < 2 ^ 32 → ((a + 2) % 2 ^ 32 + (k + k) % 2 ^ 32) % 2 ^ 32 ≡ c
double_place a k c size e h l = omega arith

-- ---- tests

outside_test : (index count : ℕ) (b : Bool) → count ≤ index → b ≡ true → (same_bool true (number_of (nat_lt index count) == 0) && b) ≡ true
outside_test index count b h before = ap (λ (t : Bool). same_bool true (number_of t == 0) && b) (le-ltb index count h) ∙ before

inside_test : (index count : ℕ) (b : Bool) → index < count → b ≡ true → (same_bool false (number_of (nat_lt index count) == 0) && b) ≡ true
inside_test index count b h before = ap (λ (t : Bool). same_bool false (number_of t == 0) && b) (lt-ltb index count h) ∙ before

outside_word : (i : ℤ) (count : ℕ) → FitsSigned w32 i → IsOutside i count → count < 2 ^ 31 → count ≤ int_word i
outside_word (pos k) count fits out short = out
outside_word (negsuc k) count fits out short = omega (arith, negative_index k fits, short)

module _ (laws : Laws) (op : ℕ) (g : Scene op) (p : ℕ) (o : Object) (object : slice_get g.s.objects p ≡ Some o) (array : ℕ) (array_is : array ≡ place op g p) where
  -- the array is there
  pub array_there : is_there array ≡ true
  array_there = let some = laws.not_null g.P g.pl g.s p g.h.says g.linked in there_test array true (omega (arith, some, array_is)) refl

  module _ (wide : Bool) (kind : IsArray g.P o wide) where
    -- its length stands behind its type
    pub length_read : length_at (x op g) array ≡ length o.parts
    length_read =
        let r = (laws.objects g.P g.pl g.n g.size g.m g.s p o g.h.stands g.h.well_formed object).array kind.length_stands in
        ap (slice_index g.m.port.words) (next_is array (place op g p) g.size array_is r.within g.h.stands.sizes.small) ∙ r.word_is

    short : length o.parts < 2 ^ 31
    short = laws.short g.P (limits op g) g.s p o kind.kind g.h.well_formed object kind.kind_is kind.array

    pub outside : (i : ℤ) (index : ℕ) → index ≡ int_word i → FitsSigned w32 i → IsOutside i (length o.parts) → is_outside (x op g) array index ≡ true
    outside i index is fits out =
        let read = length_read in
        let far = outside_word i (length o.parts) fits out short in
        outside_test index (length_at (x op g) array) (is_there array) (omega (arith, read, far, is)) array_there

    module _ (k : ℕ) (v : Value) (part : slice_get o.parts k ≡ Some v) (index : ℕ) (index_is : index ≡ k) where
      pub inside : is_inside (x op g) array index ≡ true
      inside =
          let read = length_read in
          let near = some_before o.parts k v part in
          inside_test index (length_at (x op g) array) (is_there array) (omega (arith, read, near, index_is)) array_there

      at : part_place g.P g.pl g.s.objects p o k ≡ place op g p + (2 + k * element_words wide)
      at =
          laws.element_places g.P g.pl (limits op g) g.s p o kind.kind k v g.h.well_formed object kind.kind_is kind.array part
          ∙ ap (λ (b : Bool). place op g p + (2 + k * element_words b)) kind.longs

      -- the element lies where the row says, by its width
      pub word_at : wide ≡ false → part_place g.P g.pl g.s.objects p o k < g.size → element_at array index ≡ part_place g.P g.pl g.s.objects p o k
      word_at narrow within =
          ap (λ (a : ℕ). ((a + index) % 2 ^ 32 + 2) % 2 ^ 32) array_is ∙ ap (λ (i : ℕ). ((place op g p + i) % 2 ^ 32 + 2) % 2 ^ 32) index_is
          ∙ word_place (place op g p) k (part_place g.P g.pl g.s.objects p o k) g.size (at ∙ ap (λ (b : Bool). place op g p + (2 + k * element_words b)) narrow) within g.h.stands.sizes.small

      pub double_at : wide ≡ true → part_place g.P g.pl g.s.objects p o k < g.size → long_at array index ≡ part_place g.P g.pl g.s.objects p o k
      double_at broad within =
          ap (λ (a : ℕ). ((a + 2) % 2 ^ 32 + (index + index) % 2 ^ 32) % 2 ^ 32) array_is ∙ ap (λ (i : ℕ). ((place op g p + 2) % 2 ^ 32 + (i + i) % 2 ^ 32) % 2 ^ 32) index_is
          ∙ double_place (place op g p) k (part_place g.P g.pl g.s.objects p o k) g.size (at ∙ ap (λ (b : Bool). place op g p + (2 + k * element_words b)) broad) within g.h.stands.sizes.small
