-- A method of resolved classes: its class is found by name, and its parameters have types that are there.
use Rattle.std.proofs.Common.{◌≡◌, ◌↔◌, ℕ, zero, suc, ◌+◌, ◌-◌, ◌≤◌, Bool, true, false, not, ◌&&◌, ◌||◌, List, [], ◌∷◌, ◌++◌, map, length, drop, Option, Some, None, refl, sym, ap, ◌∙◌, subst, arith}
use Rattle.std.specs.Prelude.{if◌then◌else◌, ◌==◌, nat_lt, codes, unwrap_or, slice_get, Result, Ok, Err}
use Rattle.std.specs.Option.{option_map, option_map_or}
use Rattle.std.specs.List.{list_any, flat_map, AllByRecursion}
use Rattle.std.proofs.lemmas.Bool.{false≢true, eqb-true, eq-eqb, cond-true, and_parts, ltb-false}
use Rattle.std.proofs.lemmas.List.{take-append-drop}
use Rattle.std.proofs.lemmas.List.Folds.{list_all-append, list_any-append}
use Rattle.lists.specs.Lists.{onto, index_of}
use Rattle.lists.proofs.Lemmas.{none≢some, some_same, onto_some, index_found, index_there}
use Rattle.class_pool.specs.declared.class.Code.{Code}
use Rattle.class_pool.specs.declared.class.Member.{Member}
use Rattle.class_pool.specs.declared.class.ClassFile.{ClassFile}
use Rattle.class_pool.specs.Grammar.{class_name_of, text_at}
use Rattle.descriptors.specs.declared.descriptor.FieldType.{FieldType}
use Rattle.descriptors.specs.declared.descriptor.MethodType.{MethodType}
use Rattle.descriptors.specs.Descriptors.{IsType, IsMethodDescriptor}
use Rattle.descriptors.specs.Names.{is_class_name}
use Rattle.descriptors.specs.Parsing as descriptors
use Rattle.class_rules.specs.Rules.{IsRightMethod}
use Rattle.class_rules.specs.Grammar.{IsClass}
use Rattle.class_lookup.specs.Parts.{same_text, name_of}
use Rattle.class_lookup.specs.Hierarchy.{find_class}
use Rattle.class_lookup.specs.Laws.{Comparisons}
use Rattle.program_tables.specs.declared.refusal.Item.{Item}
use Rattle.program_tables.specs.declared.refusal.Item.TheVariants.{DescriptorFloat, DescriptorDouble}
use Rattle.program_tables.specs.declared.refusal.Why.TheVariants.{NoClass}
use Rattle.program_tables.specs.Core.{core_names, is_boot}
use Rattle.program_tables.specs.Kinds.{class_in_type, classes_in_method_type, classes_in_method_descriptor}
use Rattle.program_tables.specs.Placed.{duplicate_by}
use Rattle.program_tables.specs.Unresolved.{Mention, FieldDescriptor, MethodDescriptor, is_there, are_there, mentions_in_method, why}
use Rattle.program_tables.specs.Unsupported.{is_float, is_double, items_where, items_of_types, types_of_method, types_in_method, unsupported_in}
use Rattle.program_tables.specs.Resolving.{IsResolved}
use Rattle.program_laws.proofs.Facts.{all_at}
use Rattle.program_laws.proofs.Selections.{left_nil, right_nil, method_supported, unless_none}
use Rattle.program_laws.proofs.Rows.{left_all, right_all}
use Rattle.frame_types.specs.declared.types.VarType.{VarType}
use Rattle.frame_types.specs.declared.types.TypeFrame.{TypeFrame as NamedFrame}
use Rattle.frame_types.specs.declared.types.Frames.{Frames}
use Rattle.frame_types.specs.declared.read.MapEntry.{MapEntry}
use Rattle.frame_types.specs.Table.{entries_of}
use Rattle.frame_types.specs.Locals.{first_locals}
use Rattle.frame_types.specs.Frames.{frame_of, frames_from, frames_of, or_fails_at, with_first}
use Rattle.bytecode_typing.specs.Types.{TypeFrame}
use Rattle.bytecode_typing.specs.Walk.{first_types}
use Rattle.bytecode_verifier.specs.Named.{frame_by}
use Rattle.bytecode_verifier.specs.Methods.{method_of, body_of}
use Rattle.bytecode_verifier.specs.Beginnings.{FirstFramesAgree}
use Rattle.bytecode_verifier.proofs.BeginLemmas.{ReadFields, TypeFits, IsPlaced, has_first}

-- ---- the first item that passes a test

least_case : {A : Type 0} (test : A → Bool) (xs : List A) (i j : ℕ) (b : Bool) → (if b then Some 0 else onto (index_of test xs) (λ k. Some (suc k))) ≡ Some i → ((k : ℕ) → index_of test xs ≡ Some k → k ≤ j) → i ≤ suc j
least_case test xs i j true e later = let same = some_same 0 i e in omega (arith, same)
least_case test xs i j false e later =
    let r = onto_some (index_of test xs) (λ k. Some (suc k)) i e in
    let less = later r.0 r.1 in
    let same = some_same (suc r.0) i r.2 in
    omega (arith, less, same)

index_least : {A : Type 0} (test : A → Bool) (xs : List A) (i j : ℕ) (y : A) → index_of test xs ≡ Some i → slice_get xs j ≡ Some y → test y ≡ true → i ≤ j
index_least test [] i j y e h t = absurd (none≢some i e)
index_least test (x ∷ xs) i zero y e h t =
    let first = cond-true (test x) (Some 0) (onto (index_of test xs) (λ k. Some (suc k))) (ap test (some_same x y h) ∙ t) in
    let same = some_same 0 i (sym first ∙ e) in
    omega (arith, same)
index_least test (x ∷ xs) i (suc j) y e h t = least_case test xs i j (test x) e (λ k f. index_least test xs k j y f h t)

index_mapped : {A B : Type 0} (test : B → Bool) (f : A → B) (xs : List A) → index_of (λ x. test (f x)) xs ≡ index_of test (map f xs)
index_mapped test f [] = refl
index_mapped test f (x ∷ xs) = ap (λ (o : Option ℕ). let p : Option ℕ = if test (f x) then Some 0 else onto o (λ k. Some (suc k)) in p) (index_mapped test f xs)

-- ---- the class of a name

not_before : (cs : List ClassFile) (owner i : ℕ) (c : ClassFile) (b : Bool) → nat_lt i owner ≡ b → (if b then Some i else if is_boot c && not (owner + 1 == length cs) then Some (length cs - 1) else None) ≡ None → owner ≤ i
not_before cs owner i c true e h = absurd (none≢some i (sym h))
not_before cs owner i c false e h = ltb-false i owner e

-- no class bears the name of one before it
own_number : Comparisons → (cs : List ClassFile) → IsResolved cs → (owner : ℕ) (c : ClassFile) → slice_get cs owner ≡ Some c → find_class cs (name_of c) ≡ Some owner
own_number laws cs r owner c at =
    let test : ClassFile → Bool = λ x. same_text (name_of x) (name_of c) in
    let self : test c ≡ true = (laws.texts (name_of c) (name_of c)).1 refl in
    let f = index_there test cs owner c at self in
    let most = index_least test cs f.0 owner c f.1 at self in
    let free : duplicate_by cs owner c (Some f.0) ≡ None =
    sym (ap (λ (o : Option ClassFile). onto o (λ x. duplicate_by cs owner x (find_class cs (name_of x)))) at ∙ ap (duplicate_by cs owner c) f.1) ∙ (r.linkable owner c at).name in
    let least = not_before cs owner f.0 c (nat_lt f.0 owner) refl free in
    let same : f.0 ≡ owner = omega (arith, most, least) in
    f.1 ∙ ap Some same

object_found : (cs : List ClassFile) → IsResolved cs → find_class cs (codes "java/lang/Object") ≡ Some 0
object_found cs r =
    let test : List ℕ → Bool = λ x. same_text x (codes "java/lang/Object") in
    let names = map name_of cs in
    let split : names ≡ core_names ++ drop (length core_names) names = sym (take-append-drop (length core_names) names) ∙ ap (λ xs. xs ++ drop (length core_names) names) r.core.names in
    index_mapped test name_of cs ∙ ap (index_of test) split

same_tests : (a b : Bool) → (a ≡ true → b ≡ true) → (b ≡ true → a ≡ true) → a ≡ b
same_tests true b f g = sym (f refl)
same_tests false true f g = g refl
same_tests false false f g = refl

object_first : Comparisons → (cs : List ClassFile) → IsResolved cs → (owner : ℕ) (c : ClassFile) → slice_get cs owner ≡ Some c → same_text (name_of c) (codes "java/lang/Object") ≡ (owner == 0)
object_first laws cs r owner c at =
    let name = codes "java/lang/Object" in
    same_tests (same_text (name_of c) name) (owner == 0)
    (λ h. let is = (laws.texts (name_of c) name).0 h in
    eq-eqb owner 0 (some_same owner 0 (sym (own_number laws cs r owner c at) ∙ (ap (find_class cs) is ∙ object_found cs r))))
    (λ h.
    let f = index_found (λ (x : ClassFile). same_text (name_of x) name) cs 0 (object_found cs r) in
    let same : c ≡ f.0 = some_same c f.0 (sym at ∙ (ap (slice_get cs) (eqb-true owner 0 h) ∙ f.1)) in
    ap (λ (x : ClassFile). same_text (name_of x) name) same ∙ f.2)

-- a class that is named is no array
name_is : (c : ClassFile) → IsClass c → is_class_name (name_of c) ≡ true
name_is c k =
    let t = k.rules.this_class in
    let h = t.2 in
    ap (λ o. is_class_name (option_map_or (text_at c.pool) (class_name_of o) [])) t.1 ∙ (ap (λ o. is_class_name (unwrap_or o [])) h.1 ∙ h.2)

-- ---- parameters

or_parts : (a b : Bool) → (a || b) ≡ false → (a ≡ false) × (b ≡ false)
or_parts true b h = absurd (false≢true (sym h))
or_parts false b h = (refl, h)

all_fit : (cs : List ClassFile) (ts : List FieldType) → AllByRecursion IsType ts → list_any (λ t. is_float t.element) ts ≡ false → list_any (λ t. is_double t.element) ts ≡ false → are_there cs (flat_map class_in_type ts) ≡ true → AllByRecursion (TypeFits cs) ts
all_fit cs [] a f d h = tt
all_fit cs (t ∷ ts) a f d h =
    let fs = or_parts (is_float t.element) (list_any (λ (t : FieldType). is_float t.element) ts) f in
    let ds = or_parts (is_double t.element) (list_any (λ (t : FieldType). is_double t.element) ts) d in
    let hs = and_parts (are_there cs (class_in_type t)) (are_there cs (flat_map class_in_type ts)) (sym (list_all-append (is_there cs) (class_in_type t) (flat_map class_in_type ts)) ∙ h) in
    (record { type = a.0; no_float = fs.0; no_double = ds.0; there = hs.0 }, all_fit cs ts a.1 fs.1 ds.1 hs.1)

where_not : (b : Bool) (item : Item) → items_where b item ≡ [] → b ≡ false
where_not true item h = absurd (none≢some item (sym (ap (λ zs. slice_get zs 0) h)))
where_not false item h = refl

part_all : {A B : Type 0} (P : B → Type 0) (f : A → List B) (xs : List A) (i : ℕ) (x : A) → AllByRecursion P (flat_map f xs) → slice_get xs i ≡ Some x → AllByRecursion P (f x)
part_all P f [] i x a e = absurd (none≢some x e)
part_all P f (y ∷ xs) zero x a e = subst (λ z. AllByRecursion P (f z)) (some_same y x e) (left_all P (f y) (flat_map f xs) a)
part_all P f (y ∷ xs) (suc i) x a e = part_all P f xs i x (right_all P (f y) (flat_map f xs) a) e

method_mentioned : (cs : List ClassFile) → IsResolved cs → (owner : ℕ) (c : ClassFile) (i : ℕ) (m : Member) → slice_get cs owner ≡ Some c → slice_get c.methods i ≡ Some m → why cs owner c (MethodDescriptor m) ≡ None
method_mentioned cs r owner c i m h e =
    let P : Mention → Type 0 = λ x. why cs owner c x ≡ None in
    let all = right_all P (map FieldDescriptor c.fields) (flat_map (mentions_in_method c) c.methods) (r.linkable owner c h).mentions.1 in
    (part_all P (mentions_in_method c) c.methods i m all e).0

abbrev ReadMethods : Type 0
ReadMethods = (units : List ℕ) (t : MethodType) → (descriptors.method_in units ≡ Some t) ↔ IsMethodDescriptor units t

is_placed : Comparisons → ReadMethods → (cs : List ClassFile) → IsResolved cs → (owner : ℕ) (c : ClassFile) (i : ℕ) (m : Member) → slice_get cs owner ≡ Some c → slice_get c.methods i ≡ Some m → IsPlaced cs owner c m
is_placed laws read cs r owner c i m at there =
    let class = all_at IsClass cs owner c r.grammar at in
    let right = all_at (IsRightMethod c) c.methods i m class.rules.methods there in
    let text = right.descriptor in
    let t = text.2.0 in
    let typed : descriptors.method_in (text_at c.pool m.descriptor) ≡ Some t = ap (λ o. descriptors.method_in (unwrap_or o [])) text.1 ∙ (read text.0 t).1 text.2.1 in
    let none = method_supported c i m (all_at (λ k. unsupported_in k ≡ []) cs owner c r.supported at) there in
    let types : List FieldType = t.parameters ++ option_map_or (λ x. x ∷ []) t.result [] in
    let items : items_of_types types ≡ [] =
    ap (λ o. items_of_types (option_map_or types_of_method o [])) (sym typed) ∙ left_nil (items_of_types (types_in_method (text_at c.pool m.descriptor))) _ none in
    let float : FieldType → Bool = λ x. is_float x.element in
    let double : FieldType → Bool = λ x. is_double x.element in
    let fs = where_not (list_any float types) DescriptorFloat (left_nil (items_where (list_any float types) DescriptorFloat) (items_where (list_any double types) DescriptorDouble) items) in
    let ds = where_not (list_any double types) DescriptorDouble (right_nil (items_where (list_any float types) DescriptorFloat) (items_where (list_any double types) DescriptorDouble) items) in
    let f = or_parts (list_any float t.parameters) (list_any float (option_map_or (λ x. x ∷ []) t.result [])) (sym (list_any-append float t.parameters (option_map_or (λ x. x ∷ []) t.result [])) ∙ fs) in
    let d = or_parts (list_any double t.parameters) (list_any double (option_map_or (λ x. x ∷ []) t.result [])) (sym (list_any-append double t.parameters (option_map_or (λ x. x ∷ []) t.result [])) ∙ ds) in
    let all : are_there cs (classes_in_method_type t) ≡ true =
    ap (λ o. are_there cs (option_map_or classes_in_method_type o [])) (sym typed) ∙ unless_none (are_there cs (classes_in_method_descriptor (text_at c.pool m.descriptor))) NoClass (method_mentioned cs r owner c i m at there) in
    let parameters = and_parts (are_there cs (flat_map class_in_type t.parameters)) (are_there cs (option_map_or class_in_type t.result [])) (sym (list_all-append (is_there cs) (flat_map class_in_type t.parameters) (option_map_or class_in_type t.result [])) ∙ all) in
    record {
      found = own_number laws cs r owner c at;
      named = name_is c class;
      object = object_first laws cs r owner c at;
      type = t;
      read = typed;
      parameters = all_fit cs t.parameters text.2.1.0.parameters f.0 d.0 parameters.0;
    }

-- ---- the frames of the method

first_case : (cs : List ClassFile) (k : Code) (locals : List VarType) (entries : List MapEntry) (typed : Option TypeFrame) (o : Option NamedFrame) (f : Frames) → option_map (frame_by cs) o ≡ typed
    → or_fails_at 0 o (λ first. with_first first (frames_from k 0 locals entries)) ≡ Ok f → typed ≡ Some (frame_by cs f.first)
first_case cs k locals entries typed None f e h = let no : ◌≡◌ {A = Result Frames ℕ} (Err 0) (Ok f) = h in absurd (cc)
first_case cs k locals entries typed (Some first) f e h = sym e ∙ ap (λ (x : NamedFrame). Some (frame_by cs x)) (first_is first (frames_from k 0 locals entries) h)
  where
    first_is : (first : NamedFrame) (found : Result (List (ℕ × NamedFrame)) ℕ) → with_first first found ≡ Ok f → first ≡ f.first
    first_is first (Ok fs) g = let made : Frames = record { first = first; at = fs } in let same : ◌≡◌ {A = Result Frames ℕ} (Ok made) (Ok f) = g in let is : made ≡ f = cc in ap (λ (x : Frames). x.first) is
    first_is first (Err place) g = let no : ◌≡◌ {A = Result Frames ℕ} (Err place) (Ok f) = g in absurd (cc)

none_case : (cs : List ClassFile) (k : Code) (locals : List VarType) (entries : List MapEntry) (o : Option NamedFrame) → option_map (frame_by cs) o ≡ None → or_fails_at 0 o (λ first. with_first first (frames_from k 0 locals entries)) ≡ Err 0
none_case cs k locals entries None e = refl
none_case cs k locals entries (Some first) e = absurd (none≢some (frame_by cs first) (sym e))

module _ (cs : List ClassFile) (c : ClassFile) (m : Member) (k : Code) (locals : List VarType) where
  abbrev behind_entries : Option (List MapEntry) → Option (List VarType) → Result Frames ℕ
  behind_entries o p = or_fails_at 0 o (λ entries. or_fails_at 0 p (λ ls. or_fails_at 0 (frame_of k ls []) (λ first. with_first first (frames_from k 0 ls entries))))

  first_by : (o : Option (List MapEntry)) (typed : Option TypeFrame) (f : Frames) → option_map (frame_by cs) (frame_of k locals []) ≡ typed → behind_entries o (Some locals) ≡ Ok f → typed ≡ Some (frame_by cs f.first)
  first_by None typed f e h = let no : ◌≡◌ {A = Result Frames ℕ} (Err 0) (Ok f) = h in absurd (cc)
  first_by (Some entries) typed f e h = first_case cs k locals entries typed (frame_of k locals []) f e h

  none_by : (o : Option (List MapEntry)) → option_map (frame_by cs) (frame_of k locals []) ≡ None → behind_entries o (Some locals) ≡ Err 0
  none_by None e = refl
  none_by (Some entries) e = none_case cs k locals entries (frame_of k locals []) e

  frames_are : first_locals c m ≡ Some locals → frames_of c m k ≡ behind_entries (entries_of c.pool k) (Some locals)
  unfolding frames_of
  frames_are e = ap (behind_entries (entries_of c.pool k)) e

pub begin_alike : Comparisons → ReadFields → ReadMethods → FirstFramesAgree
begin_alike laws read methods cs r n k h =
    let placed = is_placed laws methods cs r h.place.0 h.class h.place.1 h.member h.in_classes h.in_methods in
    let first = has_first read cs h.place.0 h.class h.member k placed in
    let typed = first_types (method_of cs n k h) (body_of cs n k h) in
    let frames = frames_are cs h.class h.member k first.locals first.locals_are in
    record {
      locals = first.locals;
      locals_are = first.locals_are;
      types = first.types;
      same = first.same;
      first = λ f e. first_by cs h.class h.member k first.locals (entries_of h.class.pool k) typed f first.same (sym frames ∙ e);
      none = λ e. frames ∙ none_by cs h.class h.member k first.locals (entries_of h.class.pool k) (first.same ∙ e);
    }
