-- The objects that are there at the start.
use Rattle.std.proofs.Common.{◌≡◌, ℕ, zero, suc, ◌+◌, ◌-◌, ◌*◌, ◌^◌, ◌<◌, ◌≤◌, Bool, true, false, not, ◌&&◌, List, [], ◌∷◌, ◌++◌, Option, Some, None, map, length, length-append, pos, refl, sym, ap, ◌∙◌, subst, arith}
use Rattle.std.specs.Prelude.{slice_get, nat_lt, IfSome, unwrap_or, if◌then◌else◌}
use Rattle.std.specs.Int.{w32, w64}
use Rattle.std.specs.Option.{option_map, IsSomeAnd}
use Rattle.std.specs.List.{filter, flat_map, list_all, enumerate_from, range_with_len, AllByRecursion}
use Rattle.std.proofs.lemmas.Int.{fits_signed_from_abs}
use Rattle.std.proofs.lemmas.Bool.{and_parts}
use Rattle.std.proofs.lemmas.Option.{slice_get-map, slice_get_within}
use Rattle.class_pool.specs.declared.entry.Entry.{Entry}
use Rattle.class_pool.specs.declared.entry.Entry.TheVariants as entries
use Rattle.class_pool.specs.Grammar.{IsPool, entry_at, utf8_of, text_at}
use Rattle.class_pool.specs.Spelling.{IsEntryInRange}
use Rattle.class_pool.specs.Utf8.{utf8_bytes, unit_bytes, is_single, two_bytes, three_bytes, AreUnits}
use Rattle.class_pool.specs.declared.class.ClassFile.{ClassFile}
use Rattle.class_rules.specs.Grammar.{IsClass}
use Rattle.bytecode_model.specs.declared.Value.{Value}
use Rattle.bytecode_model.specs.declared.Value.TheVariants.{Int, Ref}
use Rattle.bytecode_model.specs.Lists.{onto}
use Rattle.bytecode_model.specs.Types.{Kind, OfClass, OfNumbers, Declared, Numeric, IntType, LongType, Reference, default}
use Rattle.bytecode_model.specs.Program.{Program, kind_of, is_of, string_class, throwable_class}
use Rattle.bytecode_model.specs.Effects.{Fault, fault_object}
use Rattle.bytecode_model.specs.Effects as effects
use Rattle.bytecode_typing.specs.Tests.{Holds, AllTwo}
use Rattle.bytecode_typing.specs.Fits.{kind_in, HasDeclared, HasEach, PartsFit, ObjectFits, numbers_of}
use Rattle.lists.proofs.Lemmas.{none≢some}
use Rattle.class_lookup.specs.Parts.{same_text}
use Rattle.class_lookup.specs.Hierarchy.{is_concrete, extends}
use Rattle.program_tables.specs.Lists.{distinct}
use Rattle.program_tables.specs.Core.{raised_classes}
use Rattle.program_tables.specs.Instructions.{instructions_of, named_in}
use Rattle.program_tables.specs.Numbers.{instance_fields, types_of, class_type_number, constant_entry, string_in, constant_named, strings_in, strings_of}
use Rattle.program_tables.specs.Operands.{string_object}
use Rattle.program_tables.specs.Resolved.{declared_fields, raised_object, string_objects, objects_at_start, resolved}
use Rattle.program_tables.specs.Resolving.{IsResolved}
use Rattle.program_laws.proofs.Facts.{map_or_some}
use Rattle.program_laws.proofs.Programs.{holds, some_and, list_at}

-- ---- types by number

range_get : (a n c : ℕ) → c < n → slice_get (range_with_len a n) c ≡ Some (a + c)
range_get a zero c lt = absurd (omega (arith, lt))
range_get a (suc n) zero lt = let same : a ≡ a + 0 = omega arith in ap Some same
range_get a (suc n) (suc c) lt = let same : a + 1 + c ≡ a + suc c = omega arith in range_get (a + 1) n c (omega (arith, lt)) ∙ ap Some same

pub left_get : {A : Type 0} (xs ys : List A) (k : ℕ) (x : A) → slice_get xs k ≡ Some x → slice_get (xs ++ ys) k ≡ Some x
left_get [] ys k x h = absurd (none≢some x h)
left_get (y ∷ xs) ys zero x h = h
left_get (y ∷ xs) ys (suc k) x h = left_get xs ys k x h

pub class_type : (cs : List ClassFile) (c : ℕ) → c < length cs → slice_get (types_of cs) (8 + c) ≡ Some (OfClass c)
unfolding types_of
class_type cs c lt =
    let classes = map OfClass (range_with_len 0 (length cs)) in
    let same : 8 + c ≡ suc (suc (suc (suc (suc (suc (suc (suc c))))))) = omega arith in
    let at = slice_get-map OfClass (range_with_len 0 (length cs)) c ∙ (ap (option_map OfClass) (range_get 0 (length cs) c lt) ∙ (let none : 0 + c ≡ c = omega arith in ap (λ k. Some (OfClass k)) none)) in
    ap (slice_get (types_of cs)) same ∙ left_get classes _ c (OfClass c) at

-- ---- the errors' objects

raised : (cs : List ClassFile) → IsResolved cs → (i c : ℕ) → slice_get raised_classes i ≡ Some c → (is_concrete cs c ≡ true) × (extends cs c throwable_class ≡ true)
raised cs r i c h =
    let e = list_at (λ c. is_concrete cs c && extends cs c throwable_class) raised_classes i c r.core.raised h in
    and_parts (is_concrete cs c) (extends cs c throwable_class) e

pub concrete_within : (cs : List ClassFile) (c : ℕ) → is_concrete cs c ≡ true → c < length cs
concrete_within cs c h = let f = map_or_some _ (slice_get cs c) h in slice_get_within cs c f.0 f.1

abbrev IsThrown : List ClassFile → ℕ → Type 0
IsThrown cs k = IsSomeAnd (slice_get (objects_at_start cs) k) (λ o. IsSomeAnd (kind_of (resolved cs) o) (λ k. Holds (is_of (resolved cs) k (OfClass throwable_class))))

thrown : (cs : List ClassFile) (r : IsResolved cs) (i c k : ℕ) → slice_get raised_classes i ≡ Some c → slice_get (objects_at_start cs) k ≡ Some (raised_object cs c) → IsThrown cs k
thrown cs r i c k h at =
    let f = raised cs r i c h in
    let P : Kind → Type 0 = λ k. Holds (is_of (resolved cs) k (OfClass throwable_class)) in
    some_and (slice_get (objects_at_start cs) k) (λ o. IsSomeAnd (kind_of (resolved cs) o) P) (raised_object cs c) at
    (some_and (kind_of (resolved cs) (raised_object cs c)) P (OfClass c) (class_type cs c (concrete_within cs c f.0)) (holds (extends cs c throwable_class) f.1))

pub faults : (cs : List ClassFile) → IsResolved cs → (f : Fault) → IsThrown cs (fault_object f)
faults cs r effects.ArithmeticException = thrown cs r 0 8 0 refl refl
faults cs r effects.ArrayIndexOutOfBoundsException = thrown cs r 1 14 1 refl refl
faults cs r effects.ArrayStoreException = thrown cs r 2 9 2 refl refl
faults cs r effects.ClassCastException = thrown cs r 3 10 3 refl refl
faults cs r effects.IncompatibleClassChangeError = thrown cs r 4 18 4 refl refl
faults cs r effects.NegativeArraySizeException = thrown cs r 5 15 5 refl refl
faults cs r effects.NullPointerException = thrown cs r 6 16 6 refl refl
faults cs r effects.OutOfMemoryError = thrown cs r 7 20 7 refl refl
faults cs r effects.StackOverflowError = thrown cs r 8 21 8 refl refl

-- ---- texts of a pool

-- a string is short, and its units have 16 bits
pub record IsShort (text : List ℕ) : Type 0 where
  pub few : length text < 2 ^ 16
  pub units : AreUnits text

unit_long : (b c : Bool) (x y z : List ℕ) → 1 ≤ length x → 1 ≤ length y → 1 ≤ length z → 1 ≤ length (if b then x else if c then y else z)
unit_long true c x y z p q r = p
unit_long false true x y z p q r = q
unit_long false false x y z p q r = r

bytes_long : (units : List ℕ) → length units ≤ length (utf8_bytes units)
bytes_long [] = omega arith
bytes_long (u ∷ units) =
    let more = bytes_long units in
    let one : 1 ≤ length (unit_bytes u) = unit_long (is_single u) (nat_lt u 2048) (u ∷ []) (two_bytes u) (three_bytes u) (omega arith) (omega arith) (omega arith) in
    let sum = length-append (unit_bytes u) (utf8_bytes units) in
    omega (arith, more, one, sum)

empty : IsShort []
empty = record { few = omega arith; units = tt }

short_entry : (o : Option Entry) → IfSome o IsEntryInRange → IsShort (unwrap_or (utf8_of o) [])
short_entry None h = empty
short_entry (Some (entries.Utf8 units)) h = let long = bytes_long units in let few = h.1 in record { few = omega (arith, long, few); units = h.0 }
short_entry (Some (entries.Integer n)) h = empty
short_entry (Some (entries.Float n)) h = empty
short_entry (Some (entries.Long n)) h = empty
short_entry (Some (entries.Double n)) h = empty
short_entry (Some (entries.Class n)) h = empty
short_entry (Some (entries.Text n)) h = empty
short_entry (Some (entries.Field n m)) h = empty
short_entry (Some (entries.Method n m)) h = empty
short_entry (Some (entries.InterfaceMethod n m)) h = empty
short_entry (Some (entries.NameAndType n m)) h = empty
short_entry (Some (entries.Handle n m)) h = empty
short_entry (Some (entries.MethodType n)) h = empty
short_entry (Some (entries.Dynamic n m)) h = empty
short_entry (Some entries.Second) h = empty

range_at : (pool : List Entry) (i : ℕ) → AllByRecursion IsEntryInRange pool → IfSome (slice_get pool i) IsEntryInRange
range_at [] i h = tt
range_at (e ∷ pool) zero h = h.0
range_at (e ∷ pool) (suc i) h = range_at pool i h.1

pub in_range : (pool : List Entry) (index : ℕ) → AllByRecursion IsEntryInRange pool → IfSome (entry_at pool index) IsEntryInRange
in_range pool zero h = tt
in_range pool (suc place) h = range_at pool place h

short_text : (pool : List Entry) (index : ℕ) → IsPool pool → IsShort (text_at pool index)
short_text pool index p = short_entry (entry_at pool index) (in_range pool index p.in_range)

-- ---- all of a list

all_append : {A : Type 0} (P : A → Type 0) (xs ys : List A) → AllByRecursion P xs → AllByRecursion P ys → AllByRecursion P (xs ++ ys)
all_append P [] ys a b = b
all_append P (x ∷ xs) ys a b = (a.0, all_append P xs ys a.1 b)

all_flat : {A B : Type 0} (P : B → Type 0) (f : A → List B) (xs : List A) → ((x : A) → AllByRecursion P (f x)) → AllByRecursion P (flat_map f xs)
all_flat P f [] h = tt
all_flat P f (x ∷ xs) h = all_append P (f x) (flat_map f xs) (h x) (all_flat P f xs h)

all_flat_of : {A B : Type 0} (Q : A → Type 0) (P : B → Type 0) (f : A → List B) (xs : List A) → AllByRecursion Q xs → ((x : A) → Q x → AllByRecursion P (f x)) → AllByRecursion P (flat_map f xs)
all_flat_of Q P f [] q h = tt
all_flat_of Q P f (x ∷ xs) q h = all_append P (f x) (flat_map f xs) (h x q.0) (all_flat_of Q P f xs q.1 h)

filter_all : {A : Type 0} (P : A → Type 0) (test : A → Bool) (x : A) (xs : List A) (b : Bool) → P x → AllByRecursion P (filter test xs) → AllByRecursion P (if b then x ∷ filter test xs else filter test xs)
filter_all P test x xs true p later = (p, later)
filter_all P test x xs false p later = later

all_filter : {A : Type 0} (P : A → Type 0) (test : A → Bool) (xs : List A) → AllByRecursion P xs → AllByRecursion P (filter test xs)
all_filter P test [] a = tt
all_filter P test (x ∷ xs) a = filter_all P test x xs (test x) a.0 (all_filter P test xs a.1)

all_distinct : {A : Type 0} (P : A → Type 0) (same : A → A → Bool) (xs : List A) → AllByRecursion P xs → AllByRecursion P (distinct same xs)
all_distinct P same [] a = tt
all_distinct P same (x ∷ xs) a = (a.0, all_filter P (λ y. not (same x y)) (distinct same xs) (all_distinct P same xs a.1))

string_short : (pool : List Entry) (o : Option Entry) → IsPool pool → AllByRecursion IsShort (string_in pool o)
string_short pool None p = tt
string_short pool (Some (entries.Text units)) p = (short_text pool units p, tt)
string_short pool (Some (entries.Utf8 units)) p = tt
string_short pool (Some (entries.Integer n)) p = tt
string_short pool (Some (entries.Float n)) p = tt
string_short pool (Some (entries.Long n)) p = tt
string_short pool (Some (entries.Double n)) p = tt
string_short pool (Some (entries.Class n)) p = tt
string_short pool (Some (entries.Field n m)) p = tt
string_short pool (Some (entries.Method n m)) p = tt
string_short pool (Some (entries.InterfaceMethod n m)) p = tt
string_short pool (Some (entries.NameAndType n m)) p = tt
string_short pool (Some (entries.Handle n m)) p = tt
string_short pool (Some (entries.MethodType n)) p = tt
string_short pool (Some (entries.Dynamic n m)) p = tt
string_short pool (Some entries.Second) p = tt

class_short : (c : ClassFile) → IsClass c → AllByRecursion IsShort (strings_in c)
class_short c k =
    all_append IsShort (flat_map (λ f. string_in c.pool (constant_entry c f)) c.fields) (flat_map (λ m. flat_map (λ p. string_in c.pool (constant_named (named_in c p.instr))) (instructions_of m)) c.methods)
    (all_flat IsShort (λ f. string_in c.pool (constant_entry c f)) c.fields (λ f. string_short c.pool (constant_entry c f) k.pool))
    (all_flat IsShort (λ m. flat_map (λ p. string_in c.pool (constant_named (named_in c p.instr))) (instructions_of m)) c.methods
    (λ m. all_flat IsShort (λ p. string_in c.pool (constant_named (named_in c p.instr))) (instructions_of m) (λ p. string_short c.pool (constant_named (named_in c p.instr)) k.pool)))

pub strings_short : (cs : List ClassFile) → IsResolved cs → AllByRecursion IsShort (strings_of cs)
unfolding strings_of
strings_short cs r = all_distinct IsShort same_text (flat_map strings_in cs) (all_flat_of IsClass IsShort strings_in cs r.grammar class_short)

-- ---- the objects fit their types

pub default_fits : (P : Program) (ks : List ℕ) (d : Declared) → HasDeclared P ks d (default d)
default_fits P ks (Numeric IntType) = fits_signed_from_abs w32 (pos 0) (omega arith)
default_fits P ks (Numeric LongType) = fits_signed_from_abs w64 (pos 0) (omega arith)
default_fits P ks (Reference k) = tt

defaults_fit : (P : Program) (ks : List ℕ) (ds : List Declared) → AllTwo (HasDeclared P ks) ds (map default ds)
defaults_fit P ks [] = tt
defaults_fit P ks (d ∷ ds) = (default_fits P ks d, defaults_fit P ks ds)

abbrev pub ks_of : List ClassFile → List ℕ
ks_of cs = numbers_of (objects_at_start cs)

raised_fits : (cs : List ClassFile) (c : ℕ) → is_concrete cs c ≡ true → ObjectFits (resolved cs) (ks_of cs) (raised_object cs c)
raised_fits cs c k =
    some_and (kind_of (resolved cs) (raised_object cs c)) (λ k. PartsFit (resolved cs) (ks_of cs) k (raised_object cs c).parts) (OfClass c) (class_type cs c (concrete_within cs c k))
    (k, defaults_fit (resolved cs) (ks_of cs) (declared_fields cs (instance_fields cs c)))

all_raised : (cs : List ClassFile) (xs : List ℕ) → list_all (λ c. is_concrete cs c && extends cs c throwable_class) xs ≡ true → AllByRecursion (ObjectFits (resolved cs) (ks_of cs)) (map (raised_object cs) xs)
all_raised cs [] h = tt
all_raised cs (c ∷ xs) h =
    let p = and_parts (is_concrete cs c && extends cs c throwable_class) (list_all (λ c. is_concrete cs c && extends cs c throwable_class) xs) h in
    (raised_fits cs c (and_parts (is_concrete cs c) (extends cs c throwable_class) p.0).0, all_raised cs xs p.1)

-- the array of a string
array_at : (ss : List (List ℕ)) (a n : ℕ) (units : List ℕ) → slice_get ss n ≡ Some units → slice_get (numbers_of (flat_map string_objects (enumerate_from a ss))) (2 * n) ≡ Some 1
array_at [] a n units h = absurd (none≢some units h)
array_at (s ∷ ss) a zero units h = refl
array_at (s ∷ ss) a (suc n) units h =
    let same : 2 * suc n ≡ suc (suc (2 * n)) = omega arith in
    ap (slice_get (numbers_of (flat_map string_objects (enumerate_from a (s ∷ ss))))) same ∙ array_at ss (a + 1) n units h

pub string_array : (cs : List ClassFile) (n : ℕ) (units : List ℕ) → slice_get (strings_of cs) n ≡ Some units → slice_get (ks_of cs) (9 + 2 * n) ≡ Some 1
string_array cs n units h =
    let same : 9 + 2 * n ≡ suc (suc (suc (suc (suc (suc (suc (suc (suc (2 * n))))))))) = omega arith in
    ap (slice_get (ks_of cs)) same ∙ array_at (strings_of cs) 0 n units h

each_unit : (P : Program) (ks units : List ℕ) → AreUnits units → HasEach P ks (Numeric IntType) (map (λ unit. Int (pos unit)) units)
each_unit P ks [] a = tt
each_unit P ks (u ∷ units) a = let lt = a.0 in (fits_signed_from_abs w32 (pos u) (omega (arith, lt)), each_unit P ks units a.1)

map_long : (units : List ℕ) → length (map (λ unit. Int (pos unit)) units) ≡ length units
map_long [] = refl
map_long (u ∷ units) = ap suc (map_long units)

array_fits : (cs : List ClassFile) (n : ℕ) (units : List ℕ) → IsShort units → ObjectFits (resolved cs) (ks_of cs) (record { kind = 1; parts = map (λ unit. Int (pos unit)) units })
unfolding types_of
array_fits cs n units s =
    let few = s.few in
    let same = map_long units in
    (omega (arith, few, same), each_unit (resolved cs) (ks_of cs) units s.units)

char_type : (cs : List ClassFile) → slice_get (types_of cs) 1 ≡ Some (OfNumbers 5)
unfolding types_of
char_type cs = refl

string_fits : (cs : List ClassFile) → IsResolved cs → (n : ℕ) (units : List ℕ) → slice_get (strings_of cs) n ≡ Some units → ObjectFits (resolved cs) (ks_of cs) (record { kind = class_type_number string_class; parts = Ref (string_object n - 1) ∷ [] })
string_fits cs r n units h =
    let parts : List Value = Ref (string_object n - 1) ∷ [] in
    let place : string_object n - 1 ≡ 9 + 2 * n = omega arith in
    let at : slice_get (ks_of cs) (string_object n - 1) ≡ Some 1 = ap (slice_get (ks_of cs)) place ∙ string_array cs n units h in
    let kind : kind_in (resolved cs) (ks_of cs) (string_object n - 1) ≡ Some (OfNumbers 5) = ap (λ o. onto o (λ t. slice_get (types_of cs) t)) at ∙ char_type cs in
    let one : HasDeclared (resolved cs) (ks_of cs) (Reference (OfNumbers 5)) (Ref (string_object n - 1)) =
    some_and (kind_in (resolved cs) (ks_of cs) (string_object n - 1)) _ (OfNumbers 5) kind tt in
    let all : AllTwo (HasDeclared (resolved cs) (ks_of cs)) (declared_fields cs (instance_fields cs string_class)) parts =
    subst (λ ds. AllTwo (HasDeclared (resolved cs) (ks_of cs)) ds parts) (sym r.core.chars) (one, tt) in
    some_and (slice_get (types_of cs) (class_type_number string_class)) (λ k. PartsFit (resolved cs) (ks_of cs) k parts) (OfClass string_class) (class_type cs string_class (concrete_within cs string_class r.core.string))
    (r.core.string, all)

all_strings : (cs : List ClassFile) → IsResolved cs → (a : ℕ) (ss : List (List ℕ)) → AllByRecursion IsShort ss → ((j : ℕ) (units : List ℕ) → slice_get ss j ≡ Some units → slice_get (strings_of cs) (a + j) ≡ Some units)
    → AllByRecursion (ObjectFits (resolved cs) (ks_of cs)) (flat_map string_objects (enumerate_from a ss))
all_strings cs r a [] s at = tt
all_strings cs r a (units ∷ ss) s at =
    let same : a + 0 ≡ a = omega arith in
    let here = subst (λ n. slice_get (strings_of cs) n ≡ Some units) same (at 0 units refl) in (
      array_fits cs a units s.0,
      (
        string_fits cs r a units here,
        all_strings cs r (a + 1) ss s.1 (λ j u e. let next : a + suc j ≡ a + 1 + j = omega arith in ap (slice_get (strings_of cs)) (sym next) ∙ at (suc j) u e),
      ),
    )

if_some : {A : Type 0} (P : A → Type 0) (xs : List A) (i : ℕ) → AllByRecursion P xs → IfSome (slice_get xs i) P
if_some P [] i a = tt
if_some P (x ∷ xs) zero a = a.0
if_some P (x ∷ xs) (suc i) a = if_some P xs i a.1

pub first_objects : (cs : List ClassFile) → IsResolved cs → (p : ℕ) → IfSome (slice_get (objects_at_start cs) p) (ObjectFits (resolved cs) (ks_of cs))
first_objects cs r p =
    if_some (ObjectFits (resolved cs) (ks_of cs)) (objects_at_start cs) p
    (all_append (ObjectFits (resolved cs) (ks_of cs)) (map (raised_object cs) raised_classes) (flat_map string_objects (enumerate_from 0 (strings_of cs)))
    (all_raised cs raised_classes r.core.raised)
    (all_strings cs r 0 (strings_of cs) (strings_short cs r) (λ j units e. let same : 0 + j ≡ j = omega arith in ap (slice_get (strings_of cs)) same ∙ e)))
