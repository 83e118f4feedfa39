-- The words of a pool's entry mean what the instructions of the class name by it.
use Rattle.std.proofs.Common.{◌≡◌, ◌⊎◌, inl, inr, ℕ, ◌/◌, ◌%◌, ◌^◌, Bool, true, false, not, ◌||◌, eqb, List, [], ◌∷◌, Option, Some, None, map, length, refl, sym, ap, ◌∙◌, subst}
use Rattle.std.specs.Prelude.{slice_get, reverse, is_some, IsSome, if◌then◌else◌}
use Rattle.std.specs.Option.{option_map, option_map_or}
use Rattle.std.specs.List.{flat_map, range_with_len, AllByRecursion}
use Rattle.std.proofs.lemmas.Bool.{false≢true, both_ways, and_parts, and_from, or_cases, eqb-true, eq-eqb, cond-false, not-true, cases_Bool}
use Rattle.class_lookup.proofs.Overriding.{place_same}
use Rattle.class_pool.specs.declared.class.Member.{Member}
use Rattle.class_pool.specs.declared.class.ClassFile.{ClassFile}
use Rattle.class_pool.specs.Found.{code_of}
use Rattle.class_rules.specs.Found.{MethodsHaveCode}
use Rattle.bytecode_model.specs.Types.{Kind, Declared, OfReferences}
use Rattle.bytecode_model.specs.Program.{Program, Method, Operand, NoOperand, AnInt, ALong, AString, AStatic, AField, AMethod, AType, type_number}
use Rattle.lists.specs.Lists.{onto, index_of}
use Rattle.lists.proofs.Lemmas.{some_same, onto_some, index_found}
use Rattle.image_facts.specs.Words.{is_long_type}
use Rattle.image_facts.specs.Places.{Places, AreFixed, object_place}
use Rattle.image_facts.specs.Says.{bit_of, argument_words_of, invokevirtual, invokespecial, invokestatic, invokeinterface, IsSlot, IsInterfaceNumber, MeansMethod, Means, SaysOperand}
use Rattle.class_lookup.specs.Parts.{Signature, signature_of, has_code, is_static, is_abstract}
use Rattle.class_lookup.specs.Hierarchy.{superclasses}
use Rattle.class_lookup.specs.Lookup.{Place, same_place, field_at, method_at, find_field, find_method}
use Rattle.class_lookup.specs.Selection.{is_method_with, special}
use Rattle.program_tables.specs.Instructions.{Placed, Named, Method as MethodNamed, named_in, index_of_entry}
use Rattle.program_tables.specs.Numbers.{fields_by_number, own_instance_fields, is_static_field, is_instance_field, static_fields, instance_fields, string_number, method_number}
use Rattle.program_tables.specs.Operands.{method_named, method_taken, string_object, static_operand, instance_operand, field_operand, method_operand, operand_by, operand_in}
use Rattle.program_tables.specs.Resolved.{declared_at, declared_fields, body_in, method_in, resolved}
use Rattle.program_tables.specs.Unresolved.{why_method, why_named}
use Rattle.bytecode_model.specs.Effects.{same_bool}
use Rattle.program_tables.specs.Resolving.{IsResolved}
use Rattle.program_laws.proofs.ClassLaws.{ClassLaws}
use Rattle.program_laws.proofs.Facts.{all_at, map_or_some, map_or_at}
use Rattle.program_laws.proofs.Selections.{code_or_abstract}
use Rattle.program_laws.proofs.Numbering.{at_place, number_of}
use Rattle.program_laws.proofs.Statics.{ReadFields}
use Rattle.program_laws.proofs.Calls.{IsNamed, method_is_named, run_by}
use Rattle.program_laws.proofs.Programs.{some_and}
use Rattle.image_words.specs.Layout.{outline_of}
use Rattle.image_words.specs.Pools.{no_words, numbered_place, class_words, static_word, instance_word, field_words, is_fixed_call, operand_place, taken_place, instructions_in, names_entry, naming}
use Rattle.image_words.specs.Regions.{places_of}
use Rattle.image_laws.specs.Laws.{StringsAreSaid, ClassesAreSaid, InstanceFieldsAreSaid, StaticFieldsAreSaid}
use Rattle.image_laws.proofs.Declared.{IsField, filter_fields, declared_index, field_has_type}
use Rattle.image_laws.proofs.Instructions.{join_all, IsLinked, all_linked, kept_all, kept_get, find_get}

-- ---- two words that mean an operand

abbrev pub Both : List ClassFile → (op : ℕ) → Operand → List ℕ → Type 0
Both cs op o words = (first : ℕ) × (second : ℕ) × (words ≡ first ∷ second ∷ []) × Means (resolved cs) (places_of cs) op o first second

pub says_by : (P : Program) (pl : Places) (op place : ℕ) (o : Operand) (first second : ℕ) → AreFixed P pl place (first ∷ second ∷ []) → Means P pl op o first second → SaysOperand P pl op place o
says_by P pl op place NoOperand first second w m = tt
says_by P pl op place (AnInt n) first second w m = record { first = first; second = second; words = w; means = m }
says_by P pl op place (ALong n) first second w m = record { first = first; second = second; words = w; means = m }
says_by P pl op place (AString p) first second w m = record { first = first; second = second; words = w; means = m }
says_by P pl op place (AStatic f) first second w m = record { first = first; second = second; words = w; means = m }
says_by P pl op place (AField named owner i) first second w m = record { first = first; second = second; words = w; means = m }
says_by P pl op place (AMethod named n) first second w m = record { first = first; second = second; words = w; means = m }
says_by P pl op place (AType k) first second w m = record { first = first; second = second; words = w; means = m }

-- ---- constants

pub text_case : StringsAreSaid → (cs : List ClassFile) (op : ℕ) (units : List ℕ) (o : Option ℕ) → string_number cs units ≡ o
    → Both cs op (option_map_or (λ n. AString (string_object n)) o NoOperand) (option_map_or (λ n. object_place (resolved cs) (outline_of cs) (resolved cs).first_objects (string_object n)) o 0 ∷ 0 ∷ [])
text_case law cs op units None h = (0, 0, refl, tt)
text_case law cs op units (Some n) h = (object_place (resolved cs) (outline_of cs) (resolved cs).first_objects (string_object n), 0, refl, law cs units n h)

-- ---- classes

pub class_case : ClassesAreSaid → (cs : List ClassFile) (op : ℕ) (o : Option Kind) → ((k : Kind) → o ≡ Some k → IsSome (type_number (resolved cs) k)) → Both cs op (option_map_or AType o NoOperand) (class_words cs (outline_of cs) o)
class_case law cs op None there = (0, 0, refl, tt)
class_case law cs op (Some k) there = (numbered_place cs (outline_of cs) (Some k), numbered_place cs (outline_of cs) (Some (OfReferences k)), refl, law cs k (there k refl))

-- ---- fields

static_is_field : (cs : List ClassFile) (y : Place) → is_static_field cs y ≡ true → IsField cs y
static_is_field cs y h = let m = map_or_some is_static (field_at cs y) h in (m.0, m.1)

instance_is_field : (cs : List ClassFile) (y : Place) → is_instance_field cs y ≡ true → IsField cs y
instance_is_field cs y h = let m = map_or_some (λ (k : Member). not (is_static k)) (field_at cs y) h in (m.0, m.1)

static_all : (cs : List ClassFile) → AllByRecursion (IsField cs) (static_fields cs)
static_all cs = filter_fields cs (is_static_field cs) (static_is_field cs) (fields_by_number cs)

own_all : (cs : List ClassFile) (xs : List ℕ) → AllByRecursion (IsField cs) (flat_map (own_instance_fields cs) xs)
own_all cs [] = tt
own_all cs (c ∷ xs) =
    join_all (IsField cs) (own_instance_fields cs c) (flat_map (own_instance_fields cs) xs)
    (filter_fields cs (is_instance_field cs) (instance_is_field cs) (option_map_or (λ (k : ClassFile). map (λ (i : ℕ). (c, i)) (range_with_len 0 (length k.fields))) (slice_get cs c) []))
    (own_all cs xs)

instance_all : (cs : List ClassFile) (c : ℕ) → AllByRecursion (IsField cs) (instance_fields cs c)
instance_all cs c = own_all cs (reverse (superclasses cs c))

-- the declared type of a field at its index among fields, and the word that says whether it is long
record HasType (cs : List ClassFile) (xs : List Place) (f : Place) (n : ℕ) : Type 0 where
  declared : Declared
  at : slice_get (declared_fields cs xs) n ≡ Some declared
  word : option_map_or (λ d. bit_of (is_long_type d)) (declared_at cs f) 0 ≡ bit_of (is_long_type declared)

has_type : ReadFields → (cs : List ClassFile) → IsResolved cs → (xs : List Place) → AllByRecursion (IsField cs) xs → (f : Place) (n : ℕ) → index_of (same_place f) xs ≡ Some n → HasType cs xs f n
has_type read cs r xs a f n h =
    let i = index_found (same_place f) xs n h in
    let at : slice_get xs n ≡ Some f = i.1 ∙ ap Some (sym (place_same f i.0 i.2)) in
    let m = all_at (IsField cs) xs n f a at in
    let d = field_has_type read cs r f m.0 m.1 in
    record {
      declared = d.0;
      at = declared_index read cs r xs a n ∙ (ap (λ o. onto o (declared_at cs)) at ∙ d.1);
      word = ap (λ o. option_map_or (λ d. bit_of (is_long_type d)) o 0) d.1;
    }

long_word : List ClassFile → Place → ℕ
long_word cs f = option_map_or (λ d. bit_of (is_long_type d)) (declared_at cs f) 0

static_case : ReadFields → StaticFieldsAreSaid → (cs : List ClassFile) → IsResolved cs → (op : ℕ) (f : Place) (o : Option ℕ) → index_of (same_place f) (static_fields cs) ≡ o
    → Means (resolved cs) (places_of cs) op (option_map_or AStatic o NoOperand) (static_word cs (outline_of cs) f) (long_word cs f)
unfolding long_word
static_case read said cs r op f None h = tt
static_case read said cs r op f (Some n) h =
    let t = has_type read cs r (static_fields cs) (static_all cs) f n h in
    (said cs f n h, some_and (slice_get (resolved cs).statics n) (λ d. long_word cs f ≡ bit_of (is_long_type d)) t.declared t.at t.word)

instance_case : ReadFields → InstanceFieldsAreSaid → (cs : List ClassFile) → IsResolved cs → (op named : ℕ) (f : Place) (o : Option ℕ) → index_of (same_place f) (instance_fields cs f.0) ≡ o
    → Means (resolved cs) (places_of cs) op (option_map_or (AField named f.0) o NoOperand) (instance_word cs f) (long_word cs f)
unfolding long_word
instance_case read said cs r op named f None h = tt
instance_case read said cs r op named f (Some n) h =
    let t = has_type read cs r (instance_fields cs f.0) (instance_all cs f.0) f n h in
    (said cs r f n t.declared h t.at, some_and (slice_get ((resolved cs).fields f.0) n) (λ d. long_word cs f ≡ bit_of (is_long_type d)) t.declared t.at t.word)

field_case : ReadFields → StaticFieldsAreSaid → InstanceFieldsAreSaid → (cs : List ClassFile) → IsResolved cs → (op named : ℕ) (f : Place) (b : Bool)
    → Means (resolved cs) (places_of cs) op (if b then static_operand cs f else instance_operand cs named f) (if b then static_word cs (outline_of cs) f else instance_word cs f) (long_word cs f)
field_case read statics instances cs r op named f true = static_case read statics cs r op f (index_of (same_place f) (static_fields cs)) refl
field_case read statics instances cs r op named f false = instance_case read instances cs r op named f (index_of (same_place f) (instance_fields cs f.0)) refl

field_found : ReadFields → StaticFieldsAreSaid → InstanceFieldsAreSaid → (cs : List ClassFile) → IsResolved cs → (op n : ℕ) (o : Option Place) → Both cs op (option_map_or (field_operand cs n) o NoOperand) (option_map_or (field_words cs (outline_of cs)) o no_words)
unfolding long_word
field_found read statics instances cs r op n None = (0, 0, refl, tt)
field_found read statics instances cs r op n (Some f) =
    (if is_static_field cs f then static_word cs (outline_of cs) f else instance_word cs f, long_word cs f, refl, field_case read statics instances cs r op n f (is_static_field cs f))

pub field_named_case : ReadFields → StaticFieldsAreSaid → InstanceFieldsAreSaid → (cs : List ClassFile) → IsResolved cs → (op : ℕ) (s : Signature) (o : Option ℕ)
    → Both cs op (option_map_or (λ n. option_map_or (field_operand cs n) (find_field cs n s) NoOperand) o NoOperand) (option_map_or (field_words cs (outline_of cs)) (onto o (λ n. find_field cs n s)) no_words)
field_named_case read statics instances cs r op s None = (0, 0, refl, tt)
field_named_case read statics instances cs r op s (Some n) = field_found read statics instances cs r op n (find_field cs n s)

-- ---- methods

-- what an instruction takes without a selection has a class and a place there
abbrev IsTakenFrom : List ClassFile → Place → Type 0
IsTakenFrom cs t = (c : ClassFile) × (m : Member) × (slice_get cs t.0 ≡ Some c) × (slice_get c.methods t.1 ≡ Some m)

place_of_method : (cs : List ClassFile) (t : Place) (m : Member) → method_at cs t ≡ Some m → IsTakenFrom cs t
place_of_method cs t m h = let c = onto_some (slice_get cs t.0) (λ (c : ClassFile). slice_get c.methods t.1) m h in (c.0, m, c.1, c.2)

taken_special : (cs : List ClassFile) (cur : ℕ) (c : ClassFile) (ofi : Bool) (index : ℕ) (s : Signature) (n : IsNamed cs cur c ofi 183 index s) (t : Place) → special cs cur n.named n.place ≡ Some t → IsTakenFrom cs t
taken_special cs cur c ofi index s n t h =
    let run = run_by cs cur c ofi index s n in
    let same = some_same run.taken t (sym run.special_is ∙ h) in
    let m = map_or_some (λ (k : Member). not (is_abstract k)) (method_at cs run.taken) run.not_abstract in
    place_of_method cs t m.0 (ap (method_at cs) (sym same) ∙ m.1)

taken_case : (cs : List ClassFile) (cur : ℕ) (c : ClassFile) (ofi : Bool) (op index : ℕ) (s : Signature) (n : IsNamed cs cur c ofi op index s) (t : Place) (b : Bool) → eqb op 183 ≡ b → (if b then special cs cur n.named n.place else Some n.place) ≡ Some t → IsTakenFrom cs t
taken_case cs cur c ofi op index s n t true e h =
    subst (λ op. (n : IsNamed cs cur c ofi op index s) → special cs cur n.named n.place ≡ Some t → IsTakenFrom cs t) (sym (eqb-true op 183 e))
    (λ n h. taken_special cs cur c ofi index s n t h) n h
taken_case cs cur c ofi op index s n t false e h =
    subst (IsTakenFrom cs) (some_same n.place t h) (n.found.owner, n.found.member, n.found.class, n.found.there)

map_there : {A B : Type 0} (f : A → B) (o : Option A) → is_some o ≡ true → is_some (option_map f o) ≡ true
map_there f None h = h
map_there f (Some x) h = refl

-- what invokespecial runs has code
special_code : MethodsHaveCode → (cs : List ClassFile) → IsResolved cs → (cur : ℕ) (c : ClassFile) (ofi : Bool) (index : ℕ) (s : Signature) (n : IsNamed cs cur c ofi 183 index s) (t : Place) → special cs cur n.named n.place ≡ Some t → is_method_with has_code cs t ≡ true
special_code law cs r cur c ofi index s n t h =
    let run = run_by cs cur c ofi index s n in
    let same = some_same run.taken t (sym run.special_is ∙ h) in
    let m = map_or_some (λ (k : Member). not (is_abstract k)) (method_at cs run.taken) run.not_abstract in
    let d = place_of_method cs t m.0 (ap (method_at cs) (sym same) ∙ m.1) in
    let at = at_place cs t d.0 d.1 d.2 d.3 in
    let member = some_same m.0 d.1 (sym m.1 ∙ (ap (method_at cs) same ∙ at)) in
    elim (code_or_abstract law cs r t (signature_of d.0 d.1) (record { owner = d.0; class = d.2; member = d.1; there = d.3; signature = refl })) [
      | inl e ↦ e
      | inr e ↦ absurd (both_ways (is_abstract d.1) (not-true (is_abstract d.1) (ap (λ (k : Member). not (is_abstract k)) (sym member) ∙ m.2)) (sym (map_or_at is_abstract (method_at cs t) d.1 at) ∙ e))
    ]

code_case : MethodsHaveCode → (cs : List ClassFile) → IsResolved cs → (cur : ℕ) (c : ClassFile) (ofi : Bool) (op index : ℕ) (s : Signature) (n : IsNamed cs cur c ofi op index s) (t : Place) → op ≡ invokespecial → method_taken cs op cur n.named n.place ≡ Some t → is_method_with has_code cs t ≡ true
code_case law cs r cur c ofi op index s n t e h =
    subst (λ op. (n : IsNamed cs cur c ofi op index s) → method_taken cs op cur n.named n.place ≡ Some t → is_method_with has_code cs t ≡ true) (sym e)
    (λ n h. special_code law cs r cur c ofi index s n t h) n h

-- a method has its number among those of the program
numbered_method : (cs : List ClassFile) (t : Place) (j : ℕ) → IsTakenFrom cs t → method_number cs t ≡ Some j → (k : Method) × (slice_get (resolved cs).methods j ≡ Some k) × (is_method_with has_code cs t ≡ true → is_some k.body ≡ true)
numbered_method cs t j d h =
    let n = number_of cs t d.0 d.1 d.2 d.3 in
    let at = at_place cs t d.0 d.1 d.2 d.3 in (
      method_in cs t.0 d.0 d.1,
      ap (slice_get (resolved cs).methods) (sym (some_same n.0 j (sym n.1 ∙ h))) ∙ n.2,
      λ e. map_there (body_in cs d.0) (code_of d.1) (sym (map_or_at has_code (method_at cs t) d.1 at) ∙ e),
    )

-- the words of the two entries that name methods, at a call by each opcode
pub record SaysCall (cs : List ClassFile) (op named : ℕ) (place : Place) (operand : Operand) (first second : ℕ) : Type 0 where
  pub itself : (j : ℕ) → (op ≡ invokespecial) ⊎ (op ≡ invokestatic) → operand ≡ AMethod named j → first ≡ (places_of cs).method j
  pub virtual : (j : ℕ) (k : Method) → op ≡ invokevirtual → method_number cs place ≡ Some j → slice_get (resolved cs).methods j ≡ Some k → (second / 2 ^ 24 ≡ argument_words_of k) × IsSlot (resolved cs) (places_of cs) named j (second % 2 ^ 24)
  pub interface : (j : ℕ) (k : Method) → op ≡ invokeinterface → method_number cs place ≡ Some j → slice_get (resolved cs).methods j ≡ Some k
      → (second / 2 ^ 24 ≡ argument_words_of k) × IsInterfaceNumber (resolved cs) (places_of cs) j k.owner (second % 2 ^ 24)

number_case : (cs : List ClassFile) (cur op named : ℕ) (place : Place) (operand : Operand) (first second : ℕ) → SaysCall cs op named place operand first second → (t : Option Place) → ((eqb op 183 ≡ false) → t ≡ Some place)
    → ((x : Place) → t ≡ Some x → IsTakenFrom cs x) → ((x : Place) → op ≡ invokespecial → t ≡ Some x → is_method_with has_code cs x ≡ true) → operand ≡ method_operand cs named t → (o : Option ℕ) → onto t (method_number cs) ≡ o → Means (resolved cs) (places_of cs) op (option_map_or (AMethod named) o NoOperand) first second
number_case cs cur op named place meaning first second says t plain there coded is None h = tt
number_case cs cur op named place meaning first second says t plain there coded is (Some j) h =
    let x = onto_some t (method_number cs) j h in
    let k = numbered_method cs x.0 j (there x.0 x.1) x.2 in
    let operand_is : meaning ≡ AMethod named j = is ∙ ap (λ o. option_map_or (AMethod named) o NoOperand) h in
    let number : (a : ℕ) → op ≡ a → eqb a 183 ≡ false → method_number cs place ≡ Some j = λ a e f. ap (λ o. onto o (method_number cs)) (sym (plain (ap (λ z. eqb z 183) e ∙ f))) ∙ h in
    some_and (slice_get (resolved cs).methods j) (λ k. MeansMethod (resolved cs) (places_of cs) op named j k first second) k.0 k.1
    (record {
      itself = λ c b. says.itself j c operand_is;
      code = λ e. k.2 (coded x.0 e x.1);
      virtual = λ e. says.virtual j k.0 e (number invokevirtual e refl) k.1;
      interface = λ e. says.interface j k.0 e (number invokeinterface e refl) k.1;
    })

pub method_means : MethodsHaveCode → (cs : List ClassFile) → IsResolved cs → (cur : ℕ) (c : ClassFile) (ofi : Bool) (op index : ℕ) (s : Signature) (n : IsNamed cs cur c ofi op index s) (first second : ℕ) → SaysCall cs op n.named n.place (operand_by cs cur c op (MethodNamed ofi index s)) first second
    → Means (resolved cs) (places_of cs) op (operand_by cs cur c op (MethodNamed ofi index s)) first second
method_means law cs r cur c ofi op index s n first second says =
    let t = method_taken cs op cur n.named n.place in
    let at : operand_by cs cur c op (MethodNamed ofi index s) ≡ method_operand cs n.named t =
    ap (λ o. option_map_or (λ n. method_operand cs n (onto (find_method cs n s) (method_taken cs op cur n))) o NoOperand) n.class_is
    ∙ ap (λ o. method_operand cs n.named (onto o (method_taken cs op cur n.named))) n.found_as in
    subst (λ o. Means (resolved cs) (places_of cs) op o first second) (sym at)
    (number_case cs cur op n.named n.place (operand_by cs cur c op (MethodNamed ofi index s)) first second says t
    (λ e. cond-false (eqb op 183) (special cs cur n.named n.place) (Some n.place) e)
    (λ x h. taken_case cs cur c ofi op index s n x (eqb op 183) refl h) (λ x e h. code_case law cs r cur c ofi op index s n x e h) at (onto t (method_number cs)) refl)

-- ---- calls that run without a selection

-- whether the method that is named is static
abbrev names_static : List ClassFile → ClassFile → (index : ℕ) → Signature → Bool
names_static cs c index s = option_map_or is_static (onto (method_named cs c index s) (method_at cs)) false

same_is_bool : (a b : Bool) → same_bool a b ≡ true → b ≡ a
same_is_bool true b h = h
same_is_bool false true h = absurd (false≢true h)
same_is_bool false false h = refl

static_is : (cs : List ClassFile) (cur : ℕ) (c : ClassFile) (ofi : Bool) (op index : ℕ) (s : Signature) → IsNamed cs cur c ofi op index s → names_static cs c index s ≡ eqb op 184
static_is cs cur c ofi op index s n =
    let named : method_named cs c index s ≡ Some n.place = ap (λ o. onto o (λ x. find_method cs x s)) n.class_is ∙ n.found_as in
    let at = at_place cs n.place n.found.owner n.found.member n.found.class n.found.there in
    ap (λ o. option_map_or is_static (onto o (method_at cs)) false) named
    ∙ (ap (λ o. option_map_or is_static o false) at ∙ same_is_bool (eqb op 184) (is_static n.found.member) n.static)

-- of two such opcodes that are both that of static calls or both not
one_opcode : (a b : ℕ) → (eqb a 183 || eqb a 184) ≡ true → (eqb b 183 || eqb b 184) ≡ true → eqb a 184 ≡ eqb b 184 → a ≡ b
one_opcode a b h k e =
    elim (cases_Bool (eqb a 184)) [
      | inl x ↦ eqb-true a 184 x ∙ sym (eqb-true b 184 (sym e ∙ x))
      | inr x ↦
          let y = sym e ∙ x in
          let first : (n : ℕ) → (eqb n 183 || eqb n 184) ≡ true → eqb n 184 ≡ false → n ≡ 183 = λ n h f. elim (or_cases (eqb n 183) (eqb n 184) h) [ inl z ↦ eqb-true n 183 z | inr z ↦ absurd (both_ways (eqb n 184) f z) ] in
          first a h x ∙ sym (first b k y)
    ]

-- the entry is named by its index alike by every instruction that names it
abbrev pub NamesAlike : ClassFile → (index : ℕ) → Named → Type 0
NamesAlike c index named = (i : Placed) → index_of_entry i.instr ≡ index → is_some (named_in c i.instr) ≡ true → named_in c i.instr ≡ Some named

pub taken_is : ClassLaws → (cs : List ClassFile) → IsResolved cs → (cn : ℕ) (c : ClassFile) → slice_get cs cn ≡ Some c → (n : ℕ) (q : Placed) → slice_get (instructions_in c) n ≡ Some q → (ofi : Bool) (owner : ℕ) (s : Signature) → NamesAlike c (index_of_entry q.instr) (MethodNamed ofi owner s)
    → named_in c q.instr ≡ Some (MethodNamed ofi owner s) → is_fixed_call q ≡ true → IsNamed cs cn c ofi q.instr.op owner s → (named j : ℕ) → operand_by cs cn c q.instr.op (MethodNamed ofi owner s) ≡ AMethod named j
    → taken_place cs (outline_of cs) cn c (index_of_entry q.instr) ≡ (places_of cs).method j
unfolding naming places_of
taken_is laws cs r cn c hc n q hn ofi owner s alike names fixed is named j operand =
    let index = index_of_entry q.instr in
    let test = names_entry c index in
    let passes = and_from (eqb index index) (is_some (named_in c q.instr)) (eq-eqb index index refl) (ap is_some names) in
    let there = kept_get test (instructions_in c) n q hn passes in
    let all = kept_all test (IsLinked cs cn c) (instructions_in c) (all_linked cs r cn c hc) in
    let w = find_get is_fixed_call (λ y. (test y ≡ true) × IsLinked cs cn c y) (naming c index) there.0 q there.1 fixed all in
    let other = w.0 in
    let parts = and_parts (eqb (index_of_entry other.instr) index) (is_some (named_in c other.instr)) w.3.0 in
    let also = alike other (eqb-true (index_of_entry other.instr) index parts.0) parts.1 in
    let link = w.3.1 in
    let why : why_method cs cn c ofi other.instr.op owner s ≡ None = ap (why_named cs cn c link.method other.instr.op) (sym also) ∙ link.resolved in
    let static = static_is cs cn c ofi other.instr.op owner s (method_is_named laws cs r cn c ofi other.instr.op owner s why) in
    let same : other.instr.op ≡ q.instr.op = one_opcode other.instr.op q.instr.op w.2 fixed (sym static ∙ static_is cs cn c ofi q.instr.op owner s is) in
    let operand_there : operand_in cs cn c other.instr ≡ AMethod named j =
    ap (λ o. option_map_or (operand_by cs cn c other.instr.op) o NoOperand) also ∙ (ap (λ op. operand_by cs cn c op (MethodNamed ofi owner s)) same ∙ operand) in
    ap (λ o. option_map_or (λ p. operand_place (outline_of cs) (operand_in cs cn c p.instr)) o 0) w.1 ∙ ap (operand_place (outline_of cs)) operand_there
