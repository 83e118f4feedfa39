-- What the words of constants and classes mean.
use Rattle.std.proofs.Common.{◌≡◌, ℕ, zero, suc, ◌+◌, ◌*◌, ◌/◌, ◌%◌, ◌^◌, Bool, true, false, eqb, List, [], ◌∷◌, Option, Some, None, map, length, length-append, refl, sym, ap, ◌∙◌, arith}
use Rattle.std.specs.Prelude.{slice_get, is_some, IfSome, if◌then◌else◌}
use Rattle.std.specs.Int.{w32, w64}
use Rattle.std.specs.Option.{option_map_or, IsSomeAnd}
use Rattle.std.specs.List.{filter, flat_map, enumerate_from}
use Rattle.std.proofs.lemmas.Int.{of_z-to_z}
use Rattle.std.proofs.lemmas.Bool.{and_from, eq-eqb, eqb-true, cond-false, false_from_ne_true, false≢true}
use Rattle.std.proofs.lemmas.Option.{slice_get_within}
use Rattle.class_pool.specs.Grammar.{entry_at}
use Rattle.class_pool.specs.declared.class.ClassFile.{ClassFile}
use Rattle.base.specs.Packed.{PackedHasWords}
use Rattle.bytecode_model.specs.Types.{OfReferences}
use Rattle.bytecode_model.specs.Program.{type_number}
use Rattle.lists.proofs.Lemmas.{none≢some, some_same, index_found}
use Rattle.class_lookup.specs.Parts.{same_text}
use Rattle.program_tables.specs.Instructions.{Placed, index_of_entry, named_in}
use Rattle.program_tables.specs.Core.{raised_classes}
use Rattle.program_tables.specs.Numbers.{strings_of}
use Rattle.program_tables.specs.Operands.{string_object}
use Rattle.program_tables.specs.Resolved.{raised_object, string_objects, resolved}
use Rattle.image_words.specs.Layout.{type_place}
use Rattle.image_words.specs.Pools.{no_words, instructions_in, names_entry, naming, words_of_entry}
use Rattle.image_words.specs.Regions.{places_of}
use Rattle.image_laws.specs.Laws.{EntriesAreNamed, StringsAreSaid, IntsAreSaid, ClassesAreSaid}
use Rattle.image_words.proofs.Image.{object_same}

-- ---- entries that are named

not_zero : (n : ℕ) → eqb (suc n) 0 ≡ false
not_zero n = false_from_ne_true (eqb (suc n) 0) (λ e. let s = eqb-true (suc n) 0 e in absurd (omega (arith, s)))

kept_case : (test : Placed → Bool) (x : Placed) (xs : List Placed) (b : Bool) → eqb (length (filter test xs)) 0 ≡ false → eqb (length (if b then x ∷ filter test xs else filter test xs)) 0 ≡ false
kept_case test x xs true h = not_zero (length (filter test xs))
kept_case test x xs false h = h

kept_first : (test : Placed → Bool) (x : Placed) (xs : List Placed) (b : Bool) → b ≡ true → eqb (length (if b then x ∷ filter test xs else filter test xs)) 0 ≡ false
kept_first test x xs true h = not_zero (length (filter test xs))
kept_first test x xs false h = absurd (false≢true h)

kept : (test : Placed → Bool) (xs : List Placed) (i : ℕ) (p : Placed) → slice_get xs i ≡ Some p → test p ≡ true → eqb (length (filter test xs)) 0 ≡ false
kept test [] i p h t = absurd (none≢some p h)
kept test (x ∷ xs) zero p h t = kept_first test x xs (test x) (ap test (some_same x p h) ∙ t)
kept test (x ∷ xs) (suc i) p h t = kept_case test x xs (test x) (kept test xs i p h t)

pub entries_named : EntriesAreNamed
unfolding naming
entries_named cs pl c k i p h n =
    let index = index_of_entry p.instr in
    let t = and_from (eqb index index) (is_some (named_in k p.instr)) (eq-eqb index index refl) n in
    cond-false (eqb (length (naming k index)) 0) no_words (words_of_entry cs pl c k index (entry_at k.pool index)) (kept (names_entry k index) (instructions_in k) i p h t)

-- ---- constants

pub ints_said : IntsAreSaid
ints_said = record {
  int = λ n lt. sym (of_z-to_z w32 n lt);
  high = λ n lt. ap (λ m. m / 2 ^ 32) (sym (of_z-to_z w64 n lt));
  low = λ n lt. ap (λ m. m % 2 ^ 32) (sym (of_z-to_z w64 n lt));
}

two_each : (xs : List (ℕ × List ℕ)) → length (flat_map string_objects xs) ≡ 2 * length xs
two_each [] = refl
two_each (x ∷ xs) = let rest = two_each xs in omega (arith, rest)

counted : (n : ℕ) (xs : List (List ℕ)) → length (enumerate_from n xs) ≡ length xs
counted n [] = refl
counted n (x ∷ xs) = ap suc (counted (n + 1) xs)

pub strings_said : PackedHasWords → StringsAreSaid
strings_said law cs units n h =
    let strings = strings_of cs in
    let f = index_found (same_text units) strings n h in
    let lt = slice_get_within strings n f.0 f.1 in
    let all = length-append (map (raised_object cs) raised_classes) (flat_map string_objects (enumerate_from 0 strings)) in
    let two = two_each (enumerate_from 0 strings) in
    let count = counted 0 strings in
    (object_same law cs (string_object n), omega (arith, all, two, count, lt))

-- ---- classes

number_case : (cs : List ClassFile) (o : Option ℕ) → IfSome o (λ t. option_map_or (type_place cs) o 0 ≡ type_place cs t)
number_case cs None = tt
number_case cs (Some t) = refl

number_there : (cs : List ClassFile) (o : Option ℕ) → is_some o ≡ true → IsSomeAnd o (λ t. option_map_or (type_place cs) o 0 ≡ type_place cs t)
number_there cs None h = false≢true h
number_there cs (Some t) h = refl

pub classes_said : ClassesAreSaid
unfolding places_of
classes_said cs k h = (number_there cs (type_number (resolved cs) k) h, number_case cs (type_number (resolved cs) (OfReferences k)))
