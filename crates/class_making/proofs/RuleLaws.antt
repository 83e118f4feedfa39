-- A made class follows the rules.
use Rattle.std.proofs.Common.{◌≡◌, ℕ, ◌≤◌, ◌⊎◌, inl, inr, List, [], ◌∷◌, length, Option, Some, None, map, refl, sym, ap, ◌∙◌, arith}
use Rattle.std.specs.Prelude.{codes, count_by, unwrap_or}
use Rattle.std.specs.Option.{option_to_list}
use Rattle.std.specs.List.{flat_map, AllByRecursion}
use Rattle.std.proofs.lemmas.List.Sums.{count_by-le-length}
use Rattle.class_pool.specs.declared.class.Member.{Member}
use Rattle.class_rules.specs.Flags.{acc_abstract, acc_native, IsSet}
use Rattle.class_rules.specs.Tests.{is_code, is_frame_table}
use Rattle.class_rules.specs.Rules as rules
use Rattle.class_rules.specs.Rules.{HasText, IsAnyText, IsField, IsMethod, IsClassName, IsUnqualified, IsDescribed, IsRightEntry, IsClassAt, AreNamed, IsRightBody, AreSame, FollowsRules}
use Rattle.class_pool.specs.Grammar.{text_at}
use Rattle.class_making.specs.declared.item.Item.{Item}
use Rattle.class_making.specs.declared.item.Item.TheVariants.{Text, Integer, Class, Str, NameAndType, Field, Method, InterfaceMethod}
use Rattle.class_making.specs.declared.plan.CodePlan.{CodePlan}
use Rattle.class_making.specs.declared.plan.FieldPlan.{FieldPlan}
use Rattle.class_making.specs.declared.plan.MethodPlan.{MethodPlan}
use Rattle.class_making.specs.declared.plan.ClassPlan.{ClassPlan}
use Rattle.class_making.specs.Making.{index_of, entry_of, pool_of}
use Rattle.class_making.specs.Plans.{code_name, stack_map_name, with_stack_map, stack_map_in, code_attributes, field_in, method_in, class_index, superclass_index, class_in, piece_mentions, field_mentions, method_mentions, code_mentions}
use Rattle.class_making.specs.Right.{IsRightItem, HasRightCode, IsRightFieldPlan, IsRightMethodPlan, PlanSignature, field_signature, method_signature, HaveOwnSignatures, IsRightPlan}
use Rattle.class_making.proofs.ListLemmas.{all_right, all_map, all_then, all_both}
use Rattle.class_making.proofs.PoolLemmas.{Has, entry_found}
use Rattle.class_making.proofs.PoolLaws.{Names, IsWhole, text_found}
use Rattle.class_making.proofs.InsideLaws.{pieces_length}

-- ---- texts

pub has_text : (items : List Item) (t : List ℕ) (P : List ℕ → Type 0) → length items ≤ 65534 → Has items (Text t) → P t → HasText (pool_of items) (index_of items (Text t)) P
has_text items t P room h holds = (t, text_found items t room h, holds)

described : (items : List Item) (n d : List ℕ) (P : List ℕ → Type 0) → length items ≤ 65534 → Names items (NameAndType n d) → P d → IsDescribed (pool_of items) (index_of items (NameAndType n d)) P
described items n d P room h holds =
    (index_of items (Text n), index_of items (Text d), entry_found items (NameAndType n d) room h.0, has_text items d P room h.1.1.0 holds)

pub class_at : (items : List Item) (n : List ℕ) → length items ≤ 65534 → Names items (Class n) → IsClassName n → IsClassAt (pool_of items) (class_index items n)
class_at items n room h name = (index_of items (Text n), entry_found items (Class n) room h.0, has_text items n IsClassName room h.1.0 name)

-- ---- entries

right_entry : (items : List Item) → length items ≤ 65534 → (x : Item) → Names items x × IsRightItem x → IsRightEntry (pool_of items) (entry_of items x)
right_entry items room (Text t) h = tt
right_entry items room (Integer n) h = tt
right_entry items room (Class n) h = has_text items n (λ units. IsClassName units ⊎ rules.IsArray units) room h.0.1.0 h.1
right_entry items room (Str t) h = tt
right_entry items room (NameAndType n d) h = either h.1
  where
    either : (IsField d × IsUnqualified n) ⊎ (IsMethod d × rules.IsMethodName n) → IsRightEntry (pool_of items) (entry_of items (NameAndType n d))
    either (inl f) = inl (has_text items d IsField room h.0.1.1.0 f.0, has_text items n IsUnqualified room h.0.1.0 f.1)
    either (inr m) = inr (has_text items d IsMethod room h.0.1.1.0 m.0, has_text items n rules.IsMethodName room h.0.1.0 m.1)
right_entry items room (Field o n d) h = described items n d IsField room h.0.1.1.1 h.1
right_entry items room (Method o n d) h = described items n d IsMethod room h.0.1.1.1 h.1
right_entry items room (InterfaceMethod o n d) h = described items n d IsMethod room h.0.1.1.1 h.1

right_entries : (items : List Item) → IsWhole items → AllByRecursion (IsRightEntry (pool_of items)) (pool_of items)
right_entries items w =
    all_map (IsRightEntry (pool_of items)) (entry_of items) items
    (all_then (λ x. Names items x × IsRightItem x) (λ x. IsRightEntry (pool_of items) (entry_of items x)) (right_entry items w.room) items (all_both (Names items) IsRightItem items w.names w.right))

-- ---- fields

right_field : (items : List Item) (p : ClassPlan) → length items ≤ 65534 → (f : FieldPlan) → AllByRecursion (Names items) (field_mentions f) × IsRightFieldPlan p.flags f → rules.IsRightField (class_in items p) (field_in items f)
right_field items p room f h = record {
  name = has_text items f.name IsUnqualified room h.0.0.0 h.1.name;
  descriptor = has_text items f.descriptor IsField room h.0.1.0.0 h.1.descriptor;
  access = h.1.access;
  of_interface = h.1.of_interface;
  named = tt;
  one_constant = omega arith;
  constants = tt;
}

-- ---- methods

named : (items : List Item) (code : Option CodePlan) → length items ≤ 65534 → AllByRecursion (Names items) (code_mentions code) → AreNamed (pool_of items) (code_attributes items code)
named items None room h = tt
named items (Some k) room h = (has_text items code_name IsAnyText room h.0.0 tt, tt)

no_code : (items : List Item) (flags : ℕ) (code : Option CodePlan) → HasRightCode flags code → IsSet flags acc_abstract ⊎ IsSet flags acc_native → count_by is_code (code_attributes items code) ≡ 0
no_code items flags None r h = refl
no_code items flags (Some k) r (inl h) = absurd (r.0 h)
no_code items flags (Some k) r (inr h) = absurd (r.1 h)

one_code : (items : List Item) (flags : ℕ) (code : Option CodePlan) → HasRightCode flags code → ¬ IsSet flags acc_abstract → ¬ IsSet flags acc_native → count_by is_code (code_attributes items code) ≡ 1
one_code items flags None (inl h) a n = absurd (a h)
one_code items flags None (inr h) a n = absurd (n h)
one_code items flags (Some k) r a n = refl

-- the name of the table of frames
stack_map_named : (items xs : List Item) (o : Option (List ℕ)) → length items ≤ 65534 → AllByRecursion (Names items) (with_stack_map xs o) → AllByRecursion (λ a. HasText (pool_of items) a.0 IsAnyText) (stack_map_in items o)
stack_map_named items xs None room h = tt
stack_map_named items xs (Some bytes) room h =
    let last = all_right (Names items) xs (Text stack_map_name ∷ []) h in
    (has_text items stack_map_name IsAnyText room last.0.0 tt, tt)

one_stack_map : (items : List Item) (o : Option (List ℕ)) → count_by (is_frame_table (pool_of items)) (stack_map_in items o) ≤ 1
one_stack_map items None = omega arith
one_stack_map items (Some bytes) = count_by-le-length (is_frame_table (pool_of items)) ((index_of items (Text stack_map_name), bytes) ∷ [])

right_bodies : (items : List Item) (flags : ℕ) (code : Option CodePlan) → length items ≤ 65534 → AllByRecursion (Names items) (code_mentions code) → HasRightCode flags code
    → AllByRecursion (λ a. IsRightBody (pool_of items) a.body) (code_attributes items code)
right_bodies items flags None room h r = tt
right_bodies items flags (Some k) room h r = (
  record {
    not_empty = omega (arith, pieces_length items k.pieces, r.2.not_empty);
    not_long = omega (arith, pieces_length items k.pieces, r.2.not_long);
    caught = tt;
    named = stack_map_named items (flat_map piece_mentions k.pieces) k.stack_map room h.1;
    frames = one_stack_map items k.stack_map;
  },
  tt,
)

same_text : (o : Option (List ℕ)) (t u : List ℕ) → o ≡ Some t → o ≡ Some u → t ≡ u
same_text o t u p q = cc

right_method : (items : List Item) (p : ClassPlan) → length items ≤ 65534 → (m : MethodPlan) → AllByRecursion (Names items) (method_mentions m) × IsRightMethodPlan p.flags m → rules.IsRightMethod (class_in items p) (method_in items m)
right_method items p room m h =
    let name_there : Has items (Text m.name) = h.0.0.0 in
    let descriptor_there : Has items (Text m.descriptor) = h.0.1.0.0 in
    record {
      name = has_text items m.name rules.IsDeclaredName room name_there h.1.name;
      descriptor = has_text items m.descriptor (rules.TakesFewWords m.flags) room descriptor_there h.1.descriptor;
      access = h.1.access;
      plain = h.1.plain;
      initializer = λ is.
          let r = h.1.initializer (same_text _ m.name (codes "<init>") (text_found items m.name room name_there) is) in
          record { of_class = r.of_class; not_static = r.not_static; nothing = has_text items m.descriptor rules.ReturnsNothing room descriptor_there r.nothing };
      named = named items m.code room h.0.1.1;
      no_code = no_code items m.flags m.code h.1.code;
      one_code = one_code items m.flags m.code h.1.code;
      code = right_bodies items m.flags m.code room h.0.1.1 h.1.code;
    }

-- ---- no two alike

pub said : (items : List Item) (t : List ℕ) → length items ≤ 65534 → Has items (Text t) → text_at (pool_of items) (index_of items (Text t)) ≡ t
said items t room h = ap (λ (o : Option (List ℕ)). unwrap_or o []) (text_found items t room h)

-- the member says that signature
abbrev pub Says : (items : List Item) → Member → PlanSignature → Type 0
Says items m s = (text_at (pool_of items) m.name ≡ s.0) × (text_at (pool_of items) m.descriptor ≡ s.1)

pub pair_same : (s t : PlanSignature) → s.0 ≡ t.0 → s.1 ≡ t.1 → s ≡ t
pair_same s t p q = ap (λ (a : List ℕ). (a, s.1)) p ∙ ap (λ (b : List ℕ). (t.0, b)) q

others_differ : {X : Type 0} (items : List Item) (f : X → Member) (signature : X → PlanSignature) (x : X) → Says items (f x) (signature x) → (ys : List X) → AllByRecursion (λ y. ¬ (signature x ≡ signature y)) ys
    → AllByRecursion (λ y. Says items (f y) (signature y)) ys → AllByRecursion (λ n. ¬ AreSame (pool_of items) (f x) n) (map f ys)
others_differ items f signature x says [] d h = tt
others_differ items f signature x says (y ∷ ys) d h =
    (λ same. d.0 (pair_same (signature x) (signature y) (sym says.0 ∙ same.0 ∙ h.0.0) (sym says.1 ∙ same.1 ∙ h.0.1)), others_differ items f signature x says ys d.1 h.1)

are_distinct : {X : Type 0} (items : List Item) (f : X → Member) (signature : X → PlanSignature) (xs : List X) → HaveOwnSignatures signature xs → AllByRecursion (λ x. Says items (f x) (signature x)) xs → rules.AreNamedOnce (pool_of items) (map f xs)
are_distinct items f signature [] d h = tt
are_distinct items f signature (x ∷ xs) d h = (others_differ items f signature x h.0 xs d.0 h.1, are_distinct items f signature xs d.1 h.1)

pub field_says : (items : List Item) → length items ≤ 65534 → (f : FieldPlan) → AllByRecursion (Names items) (field_mentions f) → Says items (field_in items f) (field_signature f)
field_says items room f h = (said items f.name room h.0.0, said items f.descriptor room h.1.0.0)

pub method_says : (items : List Item) → length items ≤ 65534 → (m : MethodPlan) → AllByRecursion (Names items) (method_mentions m) → Says items (method_in items m) (method_signature m)
method_says items room m h = (said items m.name room h.0.0, said items m.descriptor room h.1.0.0)

-- ---- all of them

-- what the parts of a plan mention is there
pub record IsNamed (items : List Item) (p : ClassPlan) : Type 0 where
  pub name : Names items (Class p.name)
  pub superclass : AllByRecursion (λ n. Names items (Class n)) (option_to_list p.superclass)
  pub interfaces : AllByRecursion (λ n. Names items (Class n)) p.interfaces
  pub fields : AllByRecursion (λ f. AllByRecursion (Names items) (field_mentions f)) p.fields
  pub methods : AllByRecursion (λ m. AllByRecursion (Names items) (method_mentions m)) p.methods

super_at : (items : List Item) → length items ≤ 65534 → (superclass : Option (List ℕ)) → AllByRecursion (λ n. Names items (Class n)) (option_to_list superclass) → AllByRecursion IsClassName (option_to_list superclass)
    → (superclass_index items superclass ≡ 0) ⊎ IsClassAt (pool_of items) (superclass_index items superclass)
super_at items room None h r = inl refl
super_at items room (Some n) h r = inr (class_at items n room h.0 r.0)

pub follows_rules : (items : List Item) (p : ClassPlan) → IsWhole items → IsNamed items p → IsRightPlan p → FollowsRules (class_in items p)
follows_rules items p w h r =
    let NamesField : FieldPlan → Type 0 = λ f. AllByRecursion (Names items) (field_mentions f) in
    let NamesMethod : MethodPlan → Type 0 = λ m. AllByRecursion (Names items) (method_mentions m) in
    record {
      pool = right_entries items w;
      this_class = class_at items p.name w.room h.name r.name;
      super_class = super_at items w.room p.superclass h.superclass r.superclass;
      interfaces =
          all_map (IsClassAt (pool_of items)) (class_index items) p.interfaces
          (all_then (λ n. Names items (Class n) × IsClassName n) (λ n. IsClassAt (pool_of items) (class_index items n)) (λ n g. class_at items n w.room g.0 g.1) p.interfaces
          (all_both (λ n. Names items (Class n)) IsClassName p.interfaces h.interfaces r.interfaces));
      of_interface = r.of_interface;
      fields =
          all_map (rules.IsRightField (class_in items p)) (field_in items) p.fields
          (all_then (λ f. NamesField f × IsRightFieldPlan p.flags f) (λ f. rules.IsRightField (class_in items p) (field_in items f)) (right_field items p w.room) p.fields (all_both NamesField (IsRightFieldPlan p.flags) p.fields h.fields r.fields));
      methods =
          all_map (rules.IsRightMethod (class_in items p)) (method_in items) p.methods
          (all_then (λ m. NamesMethod m × IsRightMethodPlan p.flags m) (λ m. rules.IsRightMethod (class_in items p) (method_in items m)) (right_method items p w.room) p.methods
          (all_both NamesMethod (IsRightMethodPlan p.flags) p.methods h.methods r.methods));
      named = tt;
      distinct_fields = are_distinct items (field_in items) field_signature p.fields r.distinct_fields (all_then NamesField (λ f. Says items (field_in items f) (field_signature f)) (field_says items w.room) p.fields h.fields);
      distinct_methods = are_distinct items (method_in items) method_signature p.methods r.distinct_methods (all_then NamesMethod (λ m. Says items (method_in items m) (method_signature m)) (method_says items w.room) p.methods h.methods);
    }
