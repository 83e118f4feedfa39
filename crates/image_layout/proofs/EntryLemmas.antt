-- The words of pool entries.
use Rattle.std.proofs.Common.{◌≡◌, ℕ, suc, ◌+◌, ◌*◌, ◌^◌, ◌<◌, Bool, true, false, not, eqb, List, [], ◌∷◌, ◌++◌, Option, Some, None, map, take, length, get_or, append_assoc, append-nil, refl, sym, ap, ap₂, ◌∙◌, arith}
use Rattle.std.specs.Prelude.{IsTrue, is_some, slice_get, unwrap_or, if◌then◌else◌}
use Rattle.std.specs.Option.{option_map, option_map_or}
use Rattle.std.specs.List.{filter, filter_map, cons_option, find, flat_map, range_with_len}
use Rattle.std.proofs.lemmas.List.{length-map, map-append}
use Rattle.std.proofs.lemmas.List.FromFn.{length-map-range_with_len, get_or-map-range_with_len}
use Rattle.std.proofs.lemmas.List.Elements.{filter_map-append}
use Rattle.class_pool.specs.declared.entry.Entry.{Entry}
use Rattle.class_pool.specs.declared.entry.Entry.TheVariants.{Text}
use Rattle.std.proofs.lemmas.Grind.{flat_map-append}
use Rattle.std.proofs.lemmas.Bool.{false≢true, cond-true, cond-false, and_parts, eqb-true}
use Rattle.std.proofs.lemmas.Option.{slice_get_within}
use Rattle.lists.specs.Lists.{onto}
use Rattle.lists.proofs.Lemmas.{some_same, onto_some, index_found}
use Rattle.class_lookup.specs.Parts.{Signature, same_text, name_of, class_text}
use Rattle.class_lookup.specs.Lookup.{Place, method_at, same_place, find_field, find_method}
use Rattle.bytecode_model.specs.Program.{Method}
use Rattle.bytecode_model.specs.Types.{OfReferences}
use Rattle.image_facts.specs.Says.{argument_words_of}
use Rattle.program_tables.specs.declared.kinds.Base.{Base}
use Rattle.program_tables.specs.Kinds.{arrays_of}
use Rattle.program_tables.specs.Laws.{MethodsStandByNumber, MembersAreThere}
use Rattle.program_tables.specs.Numbers.{methods_by_number, method_number, string_number}
use Rattle.program_tables.specs.Resolved.{method_in, resolved_method, resolved_methods}
use Rattle.program_tables.specs.Tables.{base_kind}
use Rattle.class_pool.specs.Grammar.{entry_at, text_at}
use Rattle.class_pool.specs.declared.class.Member.{Member}
use Rattle.class_pool.specs.declared.class.ClassFile.{ClassFile}
use Rattle.opcodes.specs.declared.instruction.Instr.{Instr}
use Rattle.program_tables.specs.Instructions.{Placed, placed_at, instructions_of, signature_in}
use Rattle.program_tables.specs.Entries.{found_from, field_found, method_found}
use Rattle.program_tables.specs.Operands.{string_object, operand_in, class_named, field_named, method_named}
use Rattle.image_words.specs.Layout.{outline_of}
use Rattle.image_words.specs.Pools.{instructions_in, naming, is_fixed_call, numbered_place, operand_place, taken_place, method_word, interface_word, no_words, string_words, words_of_entry, entry_words}
use Rattle.image_words.specs.Regions.{first_place}
use Rattle.image_words.specs.Slots.{interface_number, slot_of}
use Rattle.image_layout.specs.declared.uses.Use.{Use}
use Rattle.image_layout.specs.Uses.{instr_of, is_fixed, names_index, use_of}
use Rattle.image_builder.proofs.ListLemmas.{take_some}
use Rattle.program_laws.proofs.Numbering.{number_of}
use Rattle.resolved_program.specs.Strings.{object_of_entry}
use Rattle.image_layout.proofs.SizeLemmas.{stands}

-- ---- mapped lists

filter_case : {A B : Type 0} (t : B → Bool) (g : A → B) (x : A) (xs : List A) (b : Bool) → filter t (map g xs) ≡ map g (filter (λ x. t (g x)) xs)
    → (if b then g x ∷ filter t (map g xs) else filter t (map g xs)) ≡ map g (if b then x ∷ filter (λ x. t (g x)) xs else filter (λ x. t (g x)) xs)
filter_case t g x xs true h = ap (λ ys. g x ∷ ys) h
filter_case t g x xs false h = h

filter_mapped : {A B : Type 0} (t : B → Bool) (g : A → B) (xs : List A) → filter t (map g xs) ≡ map g (filter (λ x. t (g x)) xs)
filter_mapped t g [] = refl
filter_mapped t g (x ∷ xs) = filter_case t g x xs (t (g x)) (filter_mapped t g xs)

find_case : {A B : Type 0} (t : B → Bool) (g : A → B) (x : A) (xs : List A) (b : Bool) → find t (map g xs) ≡ option_map g (find (λ x. t (g x)) xs)
    → (if b then Some (g x) else find t (map g xs)) ≡ option_map g (if b then Some x else find (λ x. t (g x)) xs)
find_case t g x xs true h = refl
find_case t g x xs false h = h

find_mapped : {A B : Type 0} (t : B → Bool) (g : A → B) (xs : List A) → find t (map g xs) ≡ option_map g (find (λ x. t (g x)) xs)
find_mapped t g [] = refl
find_mapped t g (x ∷ xs) = find_case t g x xs (t (g x)) (find_mapped t g xs)

-- ---- how an entry is used

uses_are : (k : ClassFile) (index : ℕ) → filter (names_index k index) (map instr_of (instructions_in k)) ≡ map instr_of (naming k index)
unfolding naming
uses_are k index = filter_mapped (names_index k index) instr_of (instructions_in k)

pub use_named : (cs : List ClassFile) (c : ℕ) (k : ClassFile) (index : ℕ) (used : Use) → used ≡ use_of cs c k (map instr_of (instructions_in k)) index → used.named ≡ not (eqb (length (naming k index)) 0)
use_named cs c k index used h =
    ap (λ (u : Use). u.named) h ∙ ap (λ (n : ℕ). not (eqb n 0)) (ap length (uses_are k index) ∙ length-map (naming k index) instr_of)

taken_case : (place : Instr → ℕ) (o : Option Placed) → unwrap_or (option_map place (option_map instr_of o)) 0 ≡ option_map_or (λ p. place p.instr) o 0
taken_case place None = refl
taken_case place (Some p) = refl

pub use_taken : (cs : List ClassFile) (c : ℕ) (k : ClassFile) (index : ℕ) (used : Use) → used ≡ use_of cs c k (map instr_of (instructions_in k)) index → unwrap_or used.taken 0 ≡ taken_place cs (outline_of cs) c k index
use_taken cs c k index used h =
    let place : Instr → ℕ = λ x. operand_place (outline_of cs) (operand_in cs c k x) in
    ap (λ (u : Use). unwrap_or u.taken 0) h
    ∙ (ap (λ xs. unwrap_or (option_map place (find is_fixed xs)) 0) (uses_are k index)
    ∙ (ap (λ o. unwrap_or (option_map place o) 0) (find_mapped is_fixed instr_of (naming k index)) ∙ taken_case place (find is_fixed_call (naming k index))))

is_false : (b t : Bool) → b ≡ not t → b ≡ true → t ≡ false
is_false b true h e = absurd (false≢true (sym h ∙ e))
is_false b false h e = refl

is_true : (b t : Bool) → b ≡ not t → b ≡ false → t ≡ true
is_true b true h e = refl
is_true b false h e = absurd (false≢true (sym e ∙ h))

pub entry_used : (cs : List ClassFile) (c : ℕ) (k : ClassFile) (index : ℕ) (b : Bool) (words : List ℕ) → b ≡ not (eqb (length (naming k index)) 0) → b ≡ true
    → words ≡ words_of_entry cs (outline_of cs) c k index (entry_at k.pool index) → words ≡ entry_words cs (outline_of cs) c k index
entry_used cs c k index b words h t e =
    let none = eqb (length (naming k index)) 0 in
    e ∙ sym (cond-false none no_words (words_of_entry cs (outline_of cs) c k index (entry_at k.pool index)) (is_false b none h t))

pub entry_unused : (cs : List ClassFile) (c : ℕ) (k : ClassFile) (index : ℕ) (b : Bool) → b ≡ not (eqb (length (naming k index)) 0) → b ≡ false → no_words ≡ entry_words cs (outline_of cs) c k index
entry_unused cs c k index b h t =
    let none = eqb (length (naming k index)) 0 in
    sym (cond-true none no_words (words_of_entry cs (outline_of cs) c k index (entry_at k.pool index)) (is_true b none h t))

-- no instruction names the index 0
pub first_words : (cs : List ClassFile) (c : ℕ) (k : ClassFile) → no_words ≡ entry_words cs (outline_of cs) c k 0
first_words cs c k = sym (same_case (eqb (length (naming k 0)) 0))
  where
    same_case : (b : Bool) → (if b then no_words else no_words) ≡ no_words
    same_case true = refl
    same_case false = refl

-- ---- instructions

pub instructions_more : (code : List ℕ) (pcs : List ℕ) (i pc : ℕ) (o : Option Placed) (before old new : List Instr) → slice_get pcs i ≡ Some pc → placed_at code pc ≡ o → old ≡ before ++ map instr_of (filter_map (placed_at code) (take i pcs))
    → new ≡ old ++ map instr_of (cons_option o []) → new ≡ before ++ map instr_of (filter_map (placed_at code) (take (i + 1) pcs))
instructions_more code pcs i pc o before old new at is h e =
    let done = filter_map (placed_at code) (take i pcs) in
    e
    ∙ (ap₂ (λ (xs : List Instr) (o : Option Placed). xs ++ map instr_of (cons_option o [])) h (sym is)
    ∙ (append_assoc before (map instr_of done) (map instr_of (cons_option (placed_at code pc) []))
    ∙ ap (λ (xs : List Instr). before ++ xs) (sym (map-append instr_of done (cons_option (placed_at code pc) []))
    ∙ ap (map instr_of) (sym (ap (filter_map (placed_at code)) (take_some pcs i pc at) ∙ filter_map-append (placed_at code) (take i pcs) (pc ∷ []))))))

pub methods_more : (ms : List Member) (i : ℕ) (m : Member) (old new : List Instr) → slice_get ms i ≡ Some m → old ≡ map instr_of (flat_map instructions_of (take i ms)) → new ≡ old ++ map instr_of (instructions_of m)
    → new ≡ map instr_of (flat_map instructions_of (take (i + 1) ms))
methods_more ms i m old new at h e =
    let done = flat_map instructions_of (take i ms) in
    e
    ∙ (ap (λ (xs : List Instr). xs ++ map instr_of (instructions_of m)) h
    ∙ (sym (map-append instr_of done (instructions_of m))
    ∙ ap (map instr_of) (sym (ap (flat_map instructions_of) (take_some ms i m at) ∙ (flat_map-append instructions_of (take i ms) (m ∷ []) ∙ ap (λ ys. done ++ ys) (append-nil (instructions_of m)))))))

-- ---- classes and methods

pub array_of : (cs : List ClassFile) (n d : ℕ) (b : Base) → n ≡ d + 1 → numbered_place cs (outline_of cs) (Some (arrays_of n (base_kind b))) ≡ numbered_place cs (outline_of cs) (Some (OfReferences (arrays_of d (base_kind b))))
array_of cs n d b h = let next : n ≡ suc d = omega (arith, h) in ap (λ k. numbered_place cs (outline_of cs) (Some (arrays_of k (base_kind b)))) next

pub record HasNumber (cs : List ClassFile) (m : Place) (n : ℕ) : Type 0 where
  pub method : Method
  pub below : n < length (methods_by_number cs)
  pub numbered : slice_get (resolved_methods cs) n ≡ Some method
  pub resolved : resolved_method cs m ≡ Some method

pub has_number : MethodsStandByNumber → MembersAreThere → (cs : List ClassFile) (m : Place) (n : ℕ) → method_number cs m ≡ Some n → HasNumber cs m n
has_number law there cs m n h =
    let f = index_found (same_place m) (methods_by_number cs) n h in
    let s = stands law there cs n f.0 f.1 in
    let parts = and_parts (eqb m.0 f.0.0) (eqb m.1 f.0.1) f.2 in
    let place : ℕ → ℕ → Place = λ c i. (c, i) in
    let same : m ≡ f.0 = ap₂ place (eqb-true m.0 f.0.0 parts.0) (eqb-true m.1 f.0.1 parts.1) in
    record {
      method = method_in cs f.0.0 s.class s.member;
      below = slice_get_within (methods_by_number cs) n f.0 f.1;
      numbered = s.method;
      resolved = ap (resolved_method cs) same ∙ (sym (law cs n ∙ ap (λ o. onto o (resolved_method cs)) f.1) ∙ s.method);
    }

stands_at : (cs : List ClassFile) (m : Place) (o : Option ClassFile) → slice_get cs m.0 ≡ o → IsTrue (is_some (onto o (λ k. slice_get k.methods m.1))) → (n : ℕ) × (method_number cs m ≡ Some n)
stands_at cs m None e h = absurd (false≢true h)
stands_at cs m (Some k) e h = member_at (slice_get k.methods m.1) refl h
  where
    member_at : (o : Option Member) → slice_get k.methods m.1 ≡ o → IsTrue (is_some o) → (n : ℕ) × (method_number cs m ≡ Some n)
    member_at None e2 h = absurd (false≢true h)
    member_at (Some member) e2 h = let n = number_of cs m k member e e2 in (n.0, n.1)

-- a method that is there has a number
pub there_numbered : (cs : List ClassFile) (m : Place) → IsTrue (is_some (method_at cs m)) → (n : ℕ) × (method_number cs m ≡ Some n)
there_numbered cs m h = stands_at cs m (slice_get cs m.0) refl h

pub called : (cs : List ClassFile) (m : Place) (n words word number : ℕ) → HasNumber cs m n → ((k : Method) → slice_get (resolved_methods cs) n ≡ Some k → words ≡ argument_words_of k) → word ≡ words * 2 ^ 24 + number
    → word ≡ option_map_or argument_words_of (resolved_method cs m) 0 * 2 ^ 24 + number
called cs m n words word number h a e =
    e ∙ ap (λ (w : ℕ). w * 2 ^ 24 + number) (a h.method h.numbered ∙ sym (ap (λ o. option_map_or argument_words_of o 0) h.resolved))

pub interface_called : (cs : List ClassFile) (m : Option Place) (p : Place) (word number : ℕ) → m ≡ Some p → word ≡ option_map_or argument_words_of (resolved_method cs p) 0 * 2 ^ 24 + number → number ≡ unwrap_or (interface_number cs p) 0 → word ≡ interface_word cs m
interface_called cs m p word number hm e hn = e ∙ (ap (λ (x : ℕ). option_map_or argument_words_of (resolved_method cs p) 0 * 2 ^ 24 + x) hn ∙ sym (ap (interface_word cs) hm))

-- ---- entries one after another

pub use_read : (cs : List ClassFile) (c : ℕ) (k : ClassFile) (xs : List Instr) (uses : List Use) (many i : ℕ) (d : Use) → uses ≡ map (use_of cs c k xs) (range_with_len 0 many) → i < many → get_or uses i d ≡ use_of cs c k xs i
use_read cs c k xs uses many i d h lt = ap (λ us. get_or us i d) h ∙ get_or-map-range_with_len (use_of cs c k xs) 0 many i i d lt (omega arith)

pub uses_long : (cs : List ClassFile) (c : ℕ) (k : ClassFile) (xs : List Instr) (uses : List Use) (many : ℕ) → uses ≡ map (use_of cs c k xs) (range_with_len 0 many) → length uses ≡ many
uses_long cs c k xs uses many h = ap length h ∙ length-map-range_with_len (use_of cs c k xs) 0 many

-- ---- members that entries name

abbrev pair : ℕ → Place → ℕ × Place
pair n p = (n, p)

abbrev pub place_of : Option (ℕ × Place) → Option Place
place_of found = option_map (λ q. q.1) found

place_case : (n : ℕ) (o : Option Place) → place_of (onto o (λ p. Some (pair n p))) ≡ o
place_case n None = refl
place_case n (Some p) = refl

class_case : (find : ℕ → Option Place) (o : Option ℕ) → place_of (onto o (λ n. onto (find n) (λ p. Some (pair n p)))) ≡ onto o find
class_case find None = refl
class_case find (Some n) = place_case n (find n)

signature_case : (find : ℕ → Signature → Option Place) (cs : List ClassFile) (k : ClassFile) (owner : ℕ) (o : Option Signature)
    → place_of (onto o (λ s. found_from (λ n. find n s) cs k owner)) ≡ onto o (λ s. onto (class_named cs k owner) (λ n. find n s))
signature_case find cs k owner None = refl
signature_case find cs k owner (Some s) = class_case (λ n. find n s) (class_named cs k owner)

-- what is found is what the entry names
pub field_there : (cs : List ClassFile) (k : ClassFile) (owner member : ℕ) (o r : Option (ℕ × Place)) → o ≡ field_found cs k owner member → o ≡ r → onto (signature_in k.pool member) (field_named cs k owner) ≡ place_of r
field_there cs k owner member o r h e = sym (signature_case (find_field cs) cs k owner (signature_in k.pool member)) ∙ ap place_of (sym h ∙ e)

pub method_there : (cs : List ClassFile) (k : ClassFile) (owner member : ℕ) (o r : Option (ℕ × Place)) → o ≡ method_found cs k owner member → o ≡ r → onto (signature_in k.pool member) (method_named cs k owner) ≡ place_of r
method_there cs k owner member o r h e = sym (signature_case (find_method cs) cs k owner (signature_in k.pool member)) ∙ ap place_of (sym h ∙ e)

-- and the class is the one through which it does
pub method_class : (cs : List ClassFile) (k : ClassFile) (owner member : ℕ) (o : Option (ℕ × Place)) (found : ℕ × Place) → o ≡ method_found cs k owner member → o ≡ Some found → class_named cs k owner ≡ Some found.0
method_class cs k owner member o found h e =
    let s = onto_some (signature_in k.pool member) (λ s. found_from (λ n. find_method cs n s) cs k owner) found (sym h ∙ e) in
    let c = onto_some (class_named cs k owner) (λ n. onto (find_method cs n s.0) (λ p. Some (pair n p))) found s.2 in
    let m = onto_some (find_method cs c.0 s.0) (λ p. Some (pair c.0 p)) found c.2 in
    c.1 ∙ ap (λ (q : ℕ × Place). Some q.0) (some_same (pair c.0 m.0) found m.2)

pub class_below : (cs : List ClassFile) (k : ClassFile) (owner n : ℕ) → class_named cs k owner ≡ Some n → n < length cs
class_below cs k owner n h =
    let f = index_found (λ c. same_text (name_of c) (class_text k.pool owner)) cs n h in
    slice_get_within cs n f.0 f.1

-- ---- strings

string_case : (place : ℕ → ℕ) (o : Option ℕ) → option_map_or place (option_map string_object o) 0 ≡ option_map_or (λ n. place (string_object n)) o 0
string_case place None = refl
string_case place (Some n) = refl

pub string_there : (cs : List ClassFile) (k : ClassFile) (units : ℕ) (e : Option Entry) (o r : Option ℕ) → e ≡ Some (Text units) → o ≡ object_of_entry cs k.pool e → o ≡ r
    → option_map_or (first_place cs (outline_of cs)) r 0 ∷ 0 ∷ [] ≡ string_words cs (outline_of cs) (text_at k.pool units)
string_there cs k units e o r there h is =
    let place = first_place cs (outline_of cs) in
    let words : ℕ → List ℕ = λ w. w ∷ 0 ∷ [] in
    let same : r ≡ option_map string_object (string_number cs (text_at k.pool units)) = sym is ∙ (h ∙ ap (object_of_entry cs k.pool) there) in
    ap words (ap (λ (q : Option ℕ). option_map_or place q 0) same ∙ string_case place (string_number cs (text_at k.pool units)))

-- ---- words of methods

pub method_called : (cs : List ClassFile) (named : Option ℕ) (m : Option Place) (n : ℕ) (p : Place) (word slot : ℕ) → named ≡ Some n → m ≡ Some p → word ≡ option_map_or argument_words_of (resolved_method cs p) 0 * 2 ^ 24 + slot → slot ≡ unwrap_or (slot_of cs n p) 0
    → word ≡ method_word cs named m
method_called cs named m n p word slot hn hm e hs =
    e ∙ (ap (λ (x : ℕ). option_map_or argument_words_of (resolved_method cs p) 0 * 2 ^ 24 + x) hs ∙ sym (ap₂ (λ (a : Option ℕ) (b : Option Place). method_word cs a b) hn hm))
