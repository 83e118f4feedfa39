-- What the instructions of resolved programs name, and that resolved programs are lawful.
use Rattle.std.proofs.Common.{◌≡◌, ℕ, zero, suc, ◌+◌, ◌^◌, ◌<◌, Bool, true, false, not, eqb, List, [], ◌∷◌, ◌++◌, inl, inr, Option, Some, None, map, length, refl, sym, ap, ◌∙◌, subst}
use Rattle.std.specs.Prelude.{slice_get, IfSome, Result, Ok, Err, Contains, if◌then◌else◌}
use Rattle.std.specs.Option.{option_map, option_map_or}
use Rattle.std.specs.List.{filter, filter_map, cons_option, flat_map, list_any, range_with_len, AllByRecursion}
use Rattle.std.proofs.lemmas.Bool.{false≢true, both_ways, cases_Bool, or_cases, or_left, or_right, eqb-true, eq-eqb, false_from_ne_true}
use Rattle.std.proofs.lemmas.Option.{slice_get-get_or}
use Rattle.bytecode_typing.proofs.Relations.{is_true}
use Rattle.class_pool.specs.declared.entry.Entry.{Entry}
use Rattle.class_pool.specs.Grammar.{entry_at}
use Rattle.class_pool.specs.Found.{code_of}
use Rattle.class_pool.specs.declared.class.Code.{Code}
use Rattle.class_pool.specs.declared.class.Member.{Member}
use Rattle.class_pool.specs.declared.class.ClassFile.{ClassFile}
use Rattle.class_pool.specs.Spelling.{IsEntryInRange}
use Rattle.class_rules.specs.Grammar.{IsClass}
use Rattle.class_rules.specs.Found.{MethodsHaveCode, FieldsHaveConstants}
use Rattle.opcodes.specs.declared.instruction.Instr.{Instr}
use Rattle.opcodes.specs.Instruction.{decoded}
use Rattle.opcodes.specs.Start.{starts_of, IsStart}
use Rattle.bytecode_model.specs.Lists.{onto, index_of}
use Rattle.bytecode_model.specs.Types.{Kind, OfClass, OfNumbers, OfReferences, same_kind, t_boolean, t_char, t_byte, t_short, t_int, t_long}
use Rattle.bytecode_model.specs.Program.{Method, Body, NoOperand, body_of, as_instr, instr_at, type_number, object_class, serializable_class, cloneable_class}
use Rattle.bytecode_model.specs.Table.{row_of}
use Rattle.bytecode_model.specs.Steps.{row_in}
use Rattle.bytecode_typing.specs.Lawful.{IsThere, IsResolvedRow}
use Rattle.lists.proofs.Lemmas.{none≢some, some_same, map_some}
use Rattle.class_lookup.specs.Parts.{signature_of}
use Rattle.class_lookup.specs.Lookup.{Place, method_at}
use Rattle.program_tables.specs.Lists.{distinct}
use Rattle.program_tables.specs.Instructions.{Placed, placed_at, instructions_in, instructions_of, index_of_entry, Class, named_by, named_in}
use Rattle.program_tables.specs.Kinds.{kind_of_entry}
use Rattle.program_tables.specs.Numbers.{methods_by_number, reference_arrays, used_by, class_kind, arrays_mentioned_by, arrays_mentioned_in, types_of}
use Rattle.program_tables.specs.Operands.{operand_in, at_instruction}
use Rattle.program_tables.specs.Resolved.{body_in, resolved_methods, resolved}
use Rattle.program_tables.specs.Unresolved.{Mention, FieldDescriptor, AtInstruction, mentions_in_code, mentions_in_method, why, why_named}
use Rattle.program_tables.specs.Resolving.{HasBytes, IsResolved}
use Rattle.program_laws.specs.Laws.{ProgramLaw}
use Rattle.program_laws.proofs.ClassLaws.{ClassLaws}
use Rattle.program_laws.proofs.Facts.{all_at}
use Rattle.program_laws.proofs.Hierarchies.{hierarchy}
use Rattle.program_laws.proofs.Fields.{fields}
use Rattle.program_laws.proofs.Numbering.{at_place, numbered}
use Rattle.program_laws.proofs.Programs.{holds, selects, object_methods, boot}
use Rattle.program_laws.proofs.Objects.{faults, first_objects, in_range}
use Rattle.program_laws.proofs.Statics.{ReadFields, first_statics}
use Rattle.program_laws.proofs.Calls.{ReadMethods}
use Rattle.program_laws.proofs.Decoded.{first_fits}
use Rattle.program_laws.proofs.Table.{OperandFits, HasNumbers, row_fits}
use Rattle.program_laws.proofs.Entries.{Ranged, named_ranged, named_fits}

-- ---- lists

if_onto : {A B : Type 0} (o : Option A) (f : A → Option B) (P : B → Type 0) → ((x : A) → o ≡ Some x → IfSome (f x) P) → IfSome (onto o f) P
if_onto None f P h = tt
if_onto (Some x) f P h = h x refl

if_map : {A B : Type 0} (o : Option A) (f : A → B) (P : B → Type 0) (Q : A → Type 0) → IfSome o Q → ((x : A) → Q x → P (f x)) → IfSome (onto o (λ x. Some (f x))) P
if_map None f P Q h g = tt
if_map (Some x) f P Q h g = g x h

pub right_all : {A : Type 0} (P : A → Type 0) (xs ys : List A) → AllByRecursion P (xs ++ ys) → AllByRecursion P ys
right_all P [] ys a = a
right_all P (x ∷ xs) ys a = right_all P xs ys a.1

pub left_all : {A : Type 0} (P : A → Type 0) (xs ys : List A) → AllByRecursion P (xs ++ ys) → AllByRecursion P xs
left_all P [] ys a = tt
left_all P (x ∷ xs) ys a = (a.0, left_all P xs ys a.1)

part_all : {A B : Type 0} (P : B → Type 0) (f : A → List B) (xs : List A) (i : ℕ) (x : A) → AllByRecursion P (flat_map f xs) → slice_get xs i ≡ Some x → AllByRecursion P (f x)
part_all P f [] i x a h = absurd (none≢some x h)
part_all P f (y ∷ xs) zero x a h = subst (λ z. AllByRecursion P (f z)) (some_same y x h) (left_all P (f y) (flat_map f xs) a)
part_all P f (y ∷ xs) (suc i) x a h = part_all P f xs i x (right_all P (f y) (flat_map f xs) a) h

map_all : {A B : Type 0} (P : B → Type 0) (f : A → B) (xs : List A) (i : ℕ) (x : A) → AllByRecursion P (map f xs) → slice_get xs i ≡ Some x → P (f x)
map_all P f [] i x a h = absurd (none≢some x h)
map_all P f (y ∷ xs) zero x a h = subst (λ z. P (f z)) (some_same y x h) a.0
map_all P f (y ∷ xs) (suc i) x a h = map_all P f xs i x a.1 h

-- ---- the instructions of a method

pub mapped_case : {B : Type 0} (o : Option B) (ys : List B) (y : B) → o ≡ Some y → (j : ℕ) × (slice_get (cons_option o ys) j ≡ Some y)
mapped_case None ys y h = absurd (none≢some y h)
mapped_case (Some z) ys y h = (0, h)

later_case : {A : Type 0} (o : Option A) (ys : List A) (j : ℕ) (y : A) → slice_get ys j ≡ Some y → (k : ℕ) × (slice_get (cons_option o ys) k ≡ Some y)
later_case None ys j y h = (j, h)
later_case (Some z) ys j y h = (suc j, h)

pub mapped : {A B : Type 0} (f : A → Option B) (xs : List A) (i : ℕ) (x : A) (y : B) → slice_get xs i ≡ Some x → f x ≡ Some y → (j : ℕ) × (slice_get (filter_map f xs) j ≡ Some y)
mapped f [] i x y h e = absurd (none≢some x h)
mapped f (z ∷ xs) zero x y h e = mapped_case (f z) (filter_map f xs) y (ap f (some_same z x h) ∙ e)
mapped f (z ∷ xs) (suc i) x y h e = let r = mapped f xs i x y h e in later_case (f z) (filter_map f xs) r.0 y r.1

contained : (xs : List ℕ) (x : ℕ) → Contains xs x → (i : ℕ) × (slice_get xs i ≡ Some x)
contained xs x c = (c.0, slice_get-get_or xs c.0 x c.1 ∙ ap Some c.2)

pub instr_ok : {E : Type 0} (x : Result Instr E) (i : Instr) → as_instr x ≡ Some i → x ≡ Ok i
instr_ok (Ok j) i h = ap Ok (some_same j i h)
instr_ok (Err e) i h = absurd (none≢some i h)

abbrev placed : ℕ → Instr → Placed
placed pc i = record { pc = pc; instr = i }

among_instructions : (m : Member) (k : Code) (pc : ℕ) (i : Instr) → code_of m ≡ Some k → IsStart k.code pc → decoded k.code pc ≡ Ok i → (j : ℕ) × (slice_get (instructions_of m) j ≡ Some (placed pc i))
unfolding instructions_in
among_instructions m k pc i h s d =
    let at = contained (starts_of k.code) pc s in
    let one : placed_at k.code pc ≡ Some (placed pc i) = ap (λ x. option_map (λ i. placed pc i) (as_instr x)) d in
    let r = mapped (placed_at k.code) (starts_of k.code) at.0 pc (placed pc i) at.1 one in
    (r.0, ap (λ o. slice_get (option_map_or (λ k. filter_map (placed_at k.code) (starts_of k.code)) o []) r.0) h ∙ r.1)

-- what is named there is resolved
named_resolved : (cs : List ClassFile) (r : IsResolved cs) (p : Place) (c : ClassFile) (m : Member) (k : Code) (pc : ℕ) (i : Instr) → slice_get cs p.0 ≡ Some c → slice_get c.methods p.1 ≡ Some m → code_of m ≡ Some k → IsStart k.code pc → decoded k.code pc ≡ Ok i
    → why_named cs p.0 c (signature_of c m) i.op (named_in c i) ≡ None
named_resolved cs r p c m k pc i h e hk s d =
    let P : Mention → Type 0 = λ x. why cs p.0 c x ≡ None in
    let all = (r.linkable p.0 c h).mentions.1 in
    let method = part_all P (mentions_in_method c) c.methods p.1 m (right_all P (map FieldDescriptor c.fields) (flat_map (mentions_in_method c) c.methods) all) e in
    let code : AllByRecursion P (mentions_in_code c m k) = subst (λ o. AllByRecursion P (option_map_or (mentions_in_code c m) o [])) hk method.1 in
    let j = among_instructions m k pc i hk s d in
    map_all P (AtInstruction m) (instructions_of m) j.0 (placed pc i) (left_all P (map (AtInstruction m) (instructions_of m)) _ code) j.1

-- ---- types of arrays

kind_same : (k l : Kind) → same_kind k l ≡ true → k ≡ l
kind_same (OfClass c) (OfClass d) h = ap OfClass (eqb-true c d h)
kind_same (OfNumbers a) (OfNumbers b) h = ap OfNumbers (eqb-true a b h)
kind_same (OfReferences k) (OfReferences l) h = ap OfReferences (kind_same k l h)
kind_same (OfClass c) (OfNumbers b) h = absurd (false≢true h)
kind_same (OfClass c) (OfReferences l) h = absurd (false≢true h)
kind_same (OfNumbers a) (OfClass d) h = absurd (false≢true h)
kind_same (OfNumbers a) (OfReferences l) h = absurd (false≢true h)
kind_same (OfReferences k) (OfClass d) h = absurd (false≢true h)
kind_same (OfReferences k) (OfNumbers b) h = absurd (false≢true h)

pub same_self : (k : Kind) → same_kind k k ≡ true
same_self (OfClass c) = eq-eqb c c refl
same_self (OfNumbers a) = eq-eqb a a refl
same_self (OfReferences k) = same_self k

abbrev hasKind : List Kind → Kind → Bool
hasKind ks k = list_any (same_kind k) ks

kinds_left : (xs ys : List Kind) (k : Kind) → hasKind xs k ≡ true → hasKind (xs ++ ys) k ≡ true
kinds_left [] ys k h = absurd (false≢true h)
kinds_left (x ∷ xs) ys k h = elim (or_cases (same_kind k x) (hasKind xs k) h) [ inl e ↦ or_left (same_kind k x) (hasKind (xs ++ ys) k) e | inr e ↦ or_right (same_kind k x) (hasKind (xs ++ ys) k) (kinds_left xs ys k e) ]

kinds_right : (xs ys : List Kind) (k : Kind) → hasKind ys k ≡ true → hasKind (xs ++ ys) k ≡ true
kinds_right [] ys k h = h
kinds_right (x ∷ xs) ys k h = or_right (same_kind k x) (hasKind (xs ++ ys) k) (kinds_right xs ys k h)

kinds_flat : {A : Type 0} (f : A → List Kind) (xs : List A) (i : ℕ) (x : A) (k : Kind) → slice_get xs i ≡ Some x → hasKind (f x) k ≡ true → hasKind (flat_map f xs) k ≡ true
kinds_flat f [] i x k h e = absurd (none≢some x h)
kinds_flat f (y ∷ xs) zero x k h e = kinds_left (f y) (flat_map f xs) k (ap (λ z. hasKind (f z) k) (some_same y x h) ∙ e)
kinds_flat f (y ∷ xs) (suc i) x k h e = kinds_right (f y) (flat_map f xs) k (kinds_flat f xs i x k h e)

filter_one : (x y k : Kind) (xs : List Kind) (b : Bool) → same_kind x y ≡ b → same_kind x k ≡ false → (hasKind xs k ≡ true → hasKind (filter (λ z. not (same_kind x z)) xs) k ≡ true) → hasKind (y ∷ xs) k ≡ true
    → hasKind (if not b then y ∷ filter (λ z. not (same_kind x z)) xs else filter (λ z. not (same_kind x z)) xs) k ≡ true
filter_one x y k xs true e n later h =
    elim (or_cases (same_kind k y) (hasKind xs k) h) [
      | inl s ↦ absurd (both_ways (same_kind x k) n (ap (same_kind x) (kind_same k y s) ∙ e))
      | inr s ↦ later s
    ]
filter_one x y k xs false e n later h =
    elim (or_cases (same_kind k y) (hasKind xs k) h) [
      | inl s ↦ or_left (same_kind k y) (hasKind (filter (λ z. not (same_kind x z)) xs) k) s
      | inr s ↦ or_right (same_kind k y) (hasKind (filter (λ z. not (same_kind x z)) xs) k) (later s)
    ]

kinds_filter : (x k : Kind) (xs : List Kind) → same_kind x k ≡ false → hasKind xs k ≡ true → hasKind (filter (λ z. not (same_kind x z)) xs) k ≡ true
kinds_filter x k [] n h = h
kinds_filter x k (y ∷ xs) n h = filter_one x y k xs (same_kind x y) refl n (kinds_filter x k xs n) h

kinds_distinct : (xs : List Kind) (k : Kind) → hasKind xs k ≡ true → hasKind (distinct same_kind xs) k ≡ true
kinds_distinct [] k h = h
kinds_distinct (x ∷ xs) k h =
    elim (cases_Bool (same_kind k x)) [
      | inl e ↦ or_left (same_kind k x) (hasKind (filter (λ y. not (same_kind x y)) (distinct same_kind xs)) k) e
      | inr e ↦
          let back : same_kind x k ≡ false = false_from_ne_true (same_kind x k) (λ s. both_ways (same_kind k x) e (ap (λ z. same_kind z x) (sym (kind_same x k s)) ∙ same_self x)) in
          let rest : hasKind xs k ≡ true = elim (or_cases (same_kind k x) (hasKind xs k) h) [ inl s ↦ absurd (both_ways (same_kind k x) e s) | inr s ↦ s ] in
          or_right (same_kind k x) (hasKind (filter (λ y. not (same_kind x y)) (distinct same_kind xs)) k) (kinds_filter x k (distinct same_kind xs) back (kinds_distinct xs k rest))
    ]

later : (o : Option ℕ) → IsThere o → IsThere (onto o (λ k. Some (suc k)))
later None h = h
later (Some k) h = tt

kind_index : (xs : List Kind) (k : Kind) → hasKind xs k ≡ true → IsThere (index_of (same_kind k) xs)
kind_index [] k h = absurd (false≢true h)
kind_index (x ∷ xs) k h =
    elim (cases_Bool (same_kind k x)) [
      | inl e ↦ subst (λ b. IsThere (if b then Some 0 else onto (index_of (same_kind k) xs) (λ k. Some (suc k)))) (sym e) tt
      | inr e ↦
          let rest : hasKind xs k ≡ true = elim (or_cases (same_kind k x) (hasKind xs k) h) [ inl s ↦ absurd (both_ways (same_kind k x) e s) | inr s ↦ s ] in
          subst (λ b. IsThere (if b then Some 0 else onto (index_of (same_kind k) xs) (λ k. Some (suc k)))) (sym e) (later (index_of (same_kind k) xs) (kind_index xs k rest))
    ]

last_array : (k : Kind) → hasKind (reference_arrays (OfReferences k)) (OfReferences k) ≡ true
last_array k = kinds_right (reference_arrays k) (OfReferences k ∷ []) (OfReferences k) (or_left (same_kind k k) false (same_self k))

array_there : (cs : List ClassFile) (p : Place) (c : ClassFile) (m : Member) (k : Code) (pc : ℕ) (i : Instr) → slice_get cs p.0 ≡ Some c → slice_get c.methods p.1 ≡ Some m → code_of m ≡ Some k → IsStart k.code pc → decoded k.code pc ≡ Ok i
    → (index : ℕ) (l : Kind) → i.op ≡ 189 → named_in c i ≡ Some (Class index) → kind_of_entry cs c.pool index ≡ Some l → IsThere (type_number (resolved cs) (OfReferences l))
unfolding types_of
array_there cs p c m k pc i h e hk s d index l op n t =
    let j = among_instructions m k pc i hk s d in
    let here : arrays_mentioned_by cs c (placed pc i) ≡ reference_arrays (OfReferences l) =
    ap (λ x. used_by x (class_kind cs c (named_in c i))) op ∙ ap (used_by 189) (ap (class_kind cs c) n ∙ t) in
    let one = kinds_flat (arrays_mentioned_by cs c) (instructions_of m) j.0 (placed pc i) (OfReferences l) j.1 (ap (λ ks. hasKind ks (OfReferences l)) here ∙ last_array l) in
    let two = kinds_flat (λ m. flat_map (arrays_mentioned_by cs c) (instructions_of m)) c.methods p.1 m (OfReferences l) e one in
    let three = kinds_distinct (flat_map (arrays_mentioned_in cs) cs) (OfReferences l) (kinds_flat (arrays_mentioned_in cs) cs p.0 c (OfReferences l) h two) in
    kind_index (types_of cs) (OfReferences l) (kinds_right (map OfNumbers (range_with_len 4 8)) (map OfClass (range_with_len 0 (length cs)) ++ distinct same_kind (flat_map (arrays_mentioned_in cs) cs)) (OfReferences l)
    (kinds_right (map OfClass (range_with_len 0 (length cs))) (distinct same_kind (flat_map (arrays_mentioned_in cs) cs)) (OfReferences l) three))

number : (cs : List ClassFile) (a code : ℕ) → a ≡ code → hasKind (map OfNumbers (range_with_len 4 8)) (OfNumbers a) ≡ true → IsThere (type_number (resolved cs) (OfNumbers code))
unfolding types_of
number cs a code e h = subst (λ x. IsThere (type_number (resolved cs) (OfNumbers x))) e (kind_index (types_of cs) (OfNumbers a) (kinds_left (map OfNumbers (range_with_len 4 8)) (map OfClass (range_with_len 0 (length cs)) ++ distinct same_kind (flat_map (arrays_mentioned_in cs) cs)) (OfNumbers a) h))

numbers : (cs : List ClassFile) → HasNumbers (resolved cs)
unfolding types_of
numbers cs code h =
    elim (or_cases (eqb t_boolean code) (list_any (λ c. eqb c code) (t_char ∷ t_byte ∷ t_short ∷ t_int ∷ t_long ∷ [])) h) [
      | inl e ↦ number cs t_boolean code (eqb-true t_boolean code e) refl
      | inr a ↦ elim (or_cases (eqb t_char code) (list_any (λ c. eqb c code) (t_byte ∷ t_short ∷ t_int ∷ t_long ∷ [])) a) [
        | inl e ↦ number cs t_char code (eqb-true t_char code e) refl
        | inr b ↦ elim (or_cases (eqb t_byte code) (list_any (λ c. eqb c code) (t_short ∷ t_int ∷ t_long ∷ [])) b) [
          | inl e ↦ number cs t_byte code (eqb-true t_byte code e) refl
          | inr c ↦ elim (or_cases (eqb t_short code) (list_any (λ c. eqb c code) (t_int ∷ t_long ∷ [])) c) [
            | inl e ↦ number cs t_short code (eqb-true t_short code e) refl
            | inr d ↦ elim (or_cases (eqb t_int code) (list_any (λ c. eqb c code) (t_long ∷ [])) d) [
              | inl e ↦ number cs t_int code (eqb-true t_int code e) refl
              | inr f ↦ elim (or_cases (eqb t_long code) false f) [
                | inl e ↦ number cs t_long code (eqb-true t_long code e) refl
                | inr g ↦ absurd (false≢true g)
              ]
            ]
          ]
        ]
      ]
    ]

-- ---- the rows

pub operand_is : (cs : List ClassFile) (n : ℕ) (p : Place) (c : ClassFile) (m : Member) (k : Code) (pc : ℕ) (i : Instr) → slice_get (methods_by_number cs) n ≡ Some p → slice_get cs p.0 ≡ Some c → slice_get c.methods p.1 ≡ Some m → code_of m ≡ Some k
    → decoded k.code pc ≡ Ok i → (resolved cs).operand n pc ≡ operand_in cs p.0 c i
operand_is cs n p c m k pc i hn h e hk d =
    let code : onto (method_at cs p) code_of ≡ Some k = ap (λ o. onto o code_of) (at_place cs p c m h e) ∙ hk in
    let instr : onto (onto (method_at cs p) code_of) (λ k. placed_at k.code pc) ≡ Some (placed pc i) = ap (λ o. onto o (λ k. placed_at k.code pc)) code ∙ ap (λ x. option_map (λ i. placed pc i) (as_instr x)) d in
    ap (λ o. option_map_or (λ p. at_instruction cs p pc NoOperand (operand_in cs)) o NoOperand) hn
    ∙ (ap (λ o. option_map_or (λ c. option_map_or (λ q. operand_in cs p.0 c q.instr) (onto (onto (method_at cs p) code_of) (λ k. placed_at k.code pc)) NoOperand) o NoOperand) h
    ∙ ap (λ o. option_map_or (λ q. operand_in cs p.0 c q.instr) o NoOperand) instr)

entry_ranged : (c : ClassFile) (i : Instr) (o : Option Entry) → IfSome o IsEntryInRange → Ranged i.op (onto o (named_by c.pool c.major i.op (index_of_entry i)))
entry_ranged c i None h = tt
entry_ranged c i (Some e) h = named_ranged c.pool c.major i.op (index_of_entry i) e h

operand_fits : ClassLaws → MethodsHaveCode → ReadMethods → (cs : List ClassFile) (r : IsResolved cs) (p : Place) (c : ClassFile) (x : Member) (k : Code) (m : Method) (pc : ℕ) (i : Instr) → slice_get cs p.0 ≡ Some c → slice_get c.methods p.1 ≡ Some x → code_of x ≡ Some k → m.owner ≡ p.0 → IsStart k.code pc
    → decoded k.code pc ≡ Ok i → OperandFits (resolved cs) m i.op (operand_in cs p.0 c i)
operand_fits laws law read cs r p c x k m pc i h e hk own s d =
    named_fits laws law read cs r m p.0 own c (signature_of c x) i.op (named_in c i)
    (entry_ranged c i (entry_at c.pool (index_of_entry i)) (in_range c.pool (index_of_entry i) (all_at IsClass cs p.0 c r.grammar h).pool.in_range))
    (array_there cs p c x k pc i h e hk s d)
    (named_resolved cs r p c x k pc i h e hk s d)

bytes_of : (cs : List ClassFile) (r : IsResolved cs) (p : Place) (c : ClassFile) (m : Member) (k : Code) → slice_get cs p.0 ≡ Some c → slice_get c.methods p.1 ≡ Some m → code_of m ≡ Some k → AllByRecursion (λ byte. byte < 2 ^ 8) k.code
bytes_of cs r p c m k h e hk = subst (λ o. IfSome o (λ k. AllByRecursion (λ byte. byte < 2 ^ 8) k.code)) hk (all_at HasBytes c.methods p.1 m (all_at (λ k. AllByRecursion HasBytes k.methods) cs p.0 c r.bytes h) e)

rows : ClassLaws → MethodsHaveCode → ReadMethods → (cs : List ClassFile) (r : IsResolved cs) (n : ℕ) (m : Method) (b : Body) → slice_get (resolved_methods cs) n ≡ Some m → m.body ≡ Some b → (pc : ℕ) → IsStart b.code pc → IfSome (row_in (resolved cs) n pc) (λ x. IsResolvedRow (resolved cs) m x.1)
rows laws law read cs r n m b h hb pc s =
    let P = resolved cs in
    let p = numbered cs n m h in
    let c = p.method.owner in
    let x = p.method.member in
    let k = map_some (body_in cs c) (code_of x) b (ap (λ (z : Method). z.body) (sym p.method.is) ∙ hb) in
    let same : (body_in cs c k.0).code ≡ b.code = ap (λ (z : Body). z.code) k.2 in
    let body : body_of P n ≡ Some b = ap (λ o. onto o (λ k. k.body)) h ∙ hb in
    if_onto (body_of P n) (λ b. onto (instr_at P n pc) (λ i. onto (row_of b.code i (P.operand n pc)) (λ r. Some (pc + i.length, r)))) (λ x. IsResolvedRow P m x.1) (λ b2 e.
    if_onto (instr_at P n pc) (λ i. onto (row_of b2.code i (P.operand n pc)) (λ r. Some (pc + i.length, r))) (λ x. IsResolvedRow P m x.1) (λ i g.
    let d = instr_ok (decoded b.code pc) i (sym (ap (λ o. onto o (λ b. as_instr (decoded b.code pc))) body) ∙ g) in
    let dk : decoded k.0.code pc ≡ Ok i = ap (λ z. decoded z pc) same ∙ d in
    let sk : IsStart k.0.code pc = subst (λ z. IsStart z pc) (sym same) s in
    let own : m.owner ≡ p.place.0 = ap (λ (z : Method). z.owner) p.method.is in
    let fits : OperandFits P m i.op (P.operand n pc) = subst (OperandFits P m i.op) (sym (operand_is cs n p.place c x k.0 pc i p.number p.method.class p.method.there k.1 dk))
    (operand_fits laws law read cs r p.place c x k.0 m pc i p.method.class p.method.there k.1 own sk dk) in
    if_map (row_of b2.code i (P.operand n pc)) (λ r. (pc + i.length, r)) (λ x. IsResolvedRow P m x.1) (IsResolvedRow P m)
    (row_fits P m (numbers cs) b2.code i (P.operand n pc) (first_fits k.0.code pc i (bytes_of cs r p.place c x k.0 p.method.class p.method.there k.1) dk) fits)
    (λ y z. z)))

pub lawful : ClassLaws → MethodsHaveCode → FieldsHaveConstants → ReadFields → ReadMethods → ProgramLaw
lawful laws code constants read_fields read_methods cs r =
    let H = hierarchy laws.methods.order cs r in
    let P = resolved cs in
    record {
      self = λ c. holds (P.extends c c) (H.self c);
      through = λ a b c h e. holds (P.extends a c) (H.through a b c (is_true (P.extends a b) h) (is_true (P.extends b c) e));
      object = λ c. holds (P.extends c object_class) (H.object c);
      root = λ c h. H.root c (is_true (P.extends object_class c) h);
      superclass = λ c d h. holds (P.extends c d) (H.superclass c d h);
      superinterfaces = λ b c i h. elim (H.superinterfaces b c (is_true (P.is_interface b) i) (is_true (P.extends b c) h)) [ inl e ↦ inl (holds (P.is_interface c) e) | inr e ↦ inr e ];
      serializable = holds (P.is_interface serializable_class) H.serializable;
      cloneable = holds (P.is_interface cloneable_class) H.cloneable;
      throwable = H.throwable;
      object_fields = (fields laws.methods.order).object cs r;
      object_methods = object_methods cs r;
      fields = λ c d h. (fields laws.methods.order).prefix cs r c d (is_true (P.extends c d) h);
      selects = selects laws.methods code cs r;
      rows = rows laws code read_methods cs r;
      boot = boot laws.methods cs r;
      faults = λ l. faults cs r;
      first_objects = first_objects cs r;
      first_statics = first_statics laws.methods.order constants read_fields cs r;
    }
