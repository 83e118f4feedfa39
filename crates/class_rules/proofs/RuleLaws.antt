-- The tests of the rules are true exactly where the rules hold: texts, entries, flags and attributes.
use Rattle.std.proofs.Common.{◌≡◌, ℕ, zero, suc, ◌<◌, ◌==◌, ◌&&◌, ◌||◌, not, ◌⊎◌, Bool, true, false, List, [], ◌∷◌, Option, Some, None, refl, sym, ap, subst, ◌∙◌, arith}
use Rattle.std.specs.Prelude.{◌↔◌, IsTrue, map, option_map, is_some, slice_get, bit_and}
use Rattle.std.specs.Bool.{Decides}
use Rattle.std.specs.List.{list_all, list_any, AllByRecursion}
use Rattle.std.proofs.lemmas.Bool.Decides.{Decides-eqb, Decides-not, Decides-and, Decides-or, Decides-like}
use Rattle.std.proofs.lemmas.Option.{same_Some}
use Rattle.class_pool.specs.declared.entry.Entry.{Entry}
use Rattle.class_pool.specs.declared.entry.Entry.TheVariants as entries
use Rattle.class_pool.specs.Grammar.{entry_at, utf8_of, is_utf8, is_class, has}
use Rattle.descriptors.specs.declared.descriptor.FieldType.{FieldType}
use Rattle.descriptors.specs.declared.descriptor.MethodType.{MethodType}
use Rattle.descriptors.specs.Names.{is_class_name}
use Rattle.descriptors.specs.Descriptors.{IsFieldDescriptor, IsMethodDescriptor}
use Rattle.descriptors.specs.Parsing.{field_in, method_in}
use Rattle.class_rules.specs.declared.forms.Form.{Form}
use Rattle.class_rules.specs.declared.forms.Call.{Call}
use Rattle.class_rules.specs.Forms.{call_of, is_array, form_of, no_form, entry_form, forms_of, found_form, form_at}
use Rattle.class_rules.specs.Flags.{IsSet}
use Rattle.class_rules.specs.Tests.{described, names_rightly, names_class}
use Rattle.class_rules.specs.Rules.{HasText, IsAnyText, IsField, IsArray, IsMethod, IsClassName, IsUnqualified, IsMethodName, IsDescribed, IsRightEntry, IsClassAt}

-- what is said of descriptors: those that are read are those that are spelled
abbrev pub FieldLaw : Type 0
FieldLaw = (units : List ℕ) (t : FieldType) → (field_in units ≡ Some t) ↔ IsFieldDescriptor units t

abbrev pub MethodLaw : Type 0
MethodLaw = (units : List ℕ) (m : MethodType) → (method_in units ≡ Some m) ↔ IsMethodDescriptor units m

-- ---- tests

never : {P : Type 0} (b : Bool) → b ≡ false → (P → ⊥) → Decides b P
never b e lacks = (λ t. absurd (let f : true ≡ false = sym t ∙ e in cc), λ p. absurd (lacks p))

pub itself : (b : Bool) → Decides b (IsTrue b)
itself b = (λ t. t, λ t. t)

pub implies : {P Q : Type 0} (x y : Bool) → Decides x P → Decides y Q → Decides (not x || y) (P → Q)
implies true y p q = (λ t. λ h. q.0 t, λ f. q.1 (f (p.0 refl)))
implies false y p q = (λ t. λ h. absurd (let f : false ≡ true = p.1 h in cc), λ f. refl)

pub all_decide : {X : Type 0} (p : X → Bool) (P : X → Type 0) → ((x : X) → Decides (p x) (P x)) → (xs : List X) → Decides (list_all p xs) (AllByRecursion P xs)
all_decide p P each [] = (λ t. tt, λ h. refl)
all_decide p P each (x ∷ xs) = Decides-and (p x) (list_all p xs) (each x) (all_decide p P each xs)

pub none_decide : {X : Type 0} (p : X → Bool) (P : X → Type 0) → ((x : X) → Decides (p x) (P x)) → (xs : List X) → Decides (not (list_any p xs)) (AllByRecursion (λ x. ¬ P x) xs)
none_decide p P each [] = (λ t. tt, λ h. refl)
none_decide {X} p P each (x ∷ xs) = chosen (p x) (each x) (none_decide p P each xs)
  where
    chosen : (b : Bool) → Decides b (P x) → Decides (not (list_any p xs)) (AllByRecursion (λ y. ¬ P y) xs) → Decides (not (b || list_any p xs)) ((¬ P x) × AllByRecursion (λ y. ¬ P y) xs)
    chosen true d rest = (λ t. absurd (let f : false ≡ true = t in cc), λ h. absurd (h.0 (d.0 refl)))
    chosen false d rest = (λ t. (λ h. absurd (let f : false ≡ true = d.1 h in cc), rest.0 t), λ h. rest.1 h.1)

-- a test of what may be there
pub option_decides : {A : Type 0} (g : Option A → Bool) (Q : A → Type 0) → g None ≡ false → ((x : A) → Decides (g (Some x)) (Q x)) → (o : Option A) → Decides (g o) ((x : A) × (o ≡ Some x) × Q x)
option_decides g Q lacks holds None = never (g None) lacks (λ h. let f : None ≡ Some h.0 = h.1 in cc)
option_decides g Q lacks holds (Some x) = (
  (λ t. (x, refl, (holds x).0 t)),
  (λ h. (holds x).1 (subst Q (sym (same_Some x h.0 h.1)) h.2)),
)

-- ---- flags

pub flag_decides : (flags flag : ℕ) → Decides (has flags flag) (IsSet flags flag)
flag_decides flags flag = Decides-not (bit_and flags flag == 0) (Decides-eqb (bit_and flags flag) 0)

-- ---- the form of an index

text_form : Option (List ℕ) → Form
text_form None = no_form
text_form (Some units) = form_of units

entry_is : (e : Entry) → entry_form e ≡ text_form (utf8_of (Some e))
unfolding text_form
entry_is (entries.Utf8 units) = refl
entry_is e = refl

place_is : (pool : List Entry) (place : ℕ) → found_form (slice_get (map entry_form pool) place) ≡ text_form (utf8_of (slice_get pool place))
unfolding text_form
place_is [] place = refl
place_is (e ∷ pool) zero = entry_is e
place_is (e ∷ pool) (suc place) = place_is pool place

form_is : (pool : List Entry) (index : ℕ) → form_at (forms_of pool) index ≡ text_form (utf8_of (entry_at pool index))
unfolding text_form
form_is pool zero = refl
form_is pool (suc place) = place_is pool place

-- a test of a form is one of the text
pub text_decides : (f : Form → Bool) (P : List ℕ → Type 0) → f no_form ≡ false → ((units : List ℕ) → Decides (f (form_of units)) (P units)) → (pool : List Entry) (index : ℕ)
    → Decides (f (form_at (forms_of pool) index)) (HasText pool index P)
unfolding text_form
text_decides f P lacks holds pool index =
    subst (λ (x : Form). Decides (f x) (HasText pool index P)) (sym (form_is pool index)) (at (utf8_of (entry_at pool index)) refl)
  where
    at : (o : Option (List ℕ)) → utf8_of (entry_at pool index) ≡ o → Decides (f (text_form o)) (HasText pool index P)
    at None e = never (f no_form) lacks (λ h. let g : None ≡ Some h.0 = sym e ∙ h.1 in cc)
    at (Some units) e = (
      (λ t. (units, e, (holds units).0 t)),
      (λ h. let same : units ≡ h.0 = same_Some units h.0 (sym e ∙ h.1) in (holds units).1 (subst P (sym same) h.2)),
    )

-- a test of the field's or the method's type that a text may spell
pub field_decides : FieldLaw → (g : Option FieldType → Bool) (Q : FieldType → Type 0) → g None ≡ false → ((t : FieldType) → Decides (g (Some t)) (Q t)) → (units : List ℕ)
    → Decides (g (field_in units)) ((t : FieldType) × IsFieldDescriptor units t × Q t)
field_decides law g Q lacks holds units =
    Decides-like (g (field_in units)) (λ h. (h.0, (law units h.0).0 h.1, h.2)) (λ h. (h.0, (law units h.0).1 h.1, h.2)) (option_decides g Q lacks holds (field_in units))

pub method_decides : MethodLaw → (g : Option Call → Bool) (Q : MethodType → Type 0) → g None ≡ false → ((m : MethodType) → Decides (g (Some (call_of m))) (Q m)) → (units : List ℕ)
    → Decides (g (option_map call_of (method_in units))) ((m : MethodType) × IsMethodDescriptor units m × Q m)
method_decides law g Q lacks holds units =
    Decides-like (g (option_map call_of (method_in units))) (λ h. (h.0, (law units h.0).0 h.1, h.2)) (λ h. (h.0, (law units h.0).1 h.1, h.2))
    (option_decides (λ o. g (option_map call_of o)) Q lacks holds (method_in units))

always : Decides true (Unit {0})
always = (λ t. tt, λ h. refl)

pub is_field_decides : FieldLaw → (units : List ℕ) → Decides (form_of units).is_field (IsField units)
is_field_decides law units = Decides-like (is_some (field_in units)) (λ h. (h.0, h.1)) (λ h. (h.0, h.1, tt)) (field_decides law (λ o. is_some o) (λ t. Unit {0}) refl (λ t. always) units)

is_array_decides : FieldLaw → (units : List ℕ) → Decides (form_of units).is_array (IsArray units)
is_array_decides law units =
    field_decides law (λ o. is_array o) (λ t. 0 < t.dimensions) refl
    (λ t. Decides-like (not (t.dimensions == 0)) (λ lacks. positive t.dimensions lacks) (λ lt. λ e. absurd (omega (arith, lt, e))) (Decides-not (t.dimensions == 0) (Decides-eqb t.dimensions 0))) units
  where
    positive : (n : ℕ) → ¬ (n ≡ 0) → 0 < n
    positive zero lacks = absurd (lacks refl)
    positive (suc n) lacks = omega arith

is_method_decides : MethodLaw → (units : List ℕ) → Decides (is_some (form_of units).method) (IsMethod units)
is_method_decides law units =
    Decides-like (is_some (form_of units).method) (λ h. (h.0, h.1)) (λ h. (h.0, h.1, tt)) (method_decides law (λ o. is_some o) (λ m. Unit {0}) refl (λ m. always) units)

-- ---- entries

described_decides : (f : Form → Bool) (P : List ℕ → Type 0) → f no_form ≡ false → ((units : List ℕ) → Decides (f (form_of units)) (P units)) → (pool : List Entry) (index : ℕ)
    → Decides (f (described (forms_of pool) (entry_at pool index))) (IsDescribed pool index P)
described_decides f P lacks holds pool index = at (entry_at pool index) refl
  where
    at : (o : Option Entry) → entry_at pool index ≡ o → Decides (f (described (forms_of pool) o)) (IsDescribed pool index P)
    at (Some (entries.NameAndType name descriptor)) e =
        let d = text_decides f P lacks holds pool descriptor in (
          (λ t. (name, descriptor, e, d.0 t)),
          (λ h. let same : Some (entries.NameAndType name descriptor) ≡ Some (entries.NameAndType h.0 h.1) = sym e ∙ h.2 in
              let there : descriptor ≡ h.1 = cc in d.1 (subst (λ (i : ℕ). HasText pool i P) (sym there) h.3)),
        )
    at o e = never (f no_form) lacks (λ h. let g : o ≡ Some (entries.NameAndType h.0 h.1) = sym e ∙ h.2 in cc)

pub entry_decides : FieldLaw → MethodLaw → (pool : List Entry) (e : Entry) → Decides (names_rightly pool (forms_of pool) e) (IsRightEntry pool e)
entry_decides fields methods pool (entries.Class name) =
    Decides-like ((form_at (forms_of pool) name).is_class || (form_at (forms_of pool) name).is_array) (λ h. h) (λ h. h)
    (text_decides (λ x. x.is_class || x.is_array) (λ units. IsClassName units ⊎ IsArray units) refl (λ units. Decides-or (is_class_name units) (form_of units).is_array (itself (is_class_name units)) (is_array_decides fields units)) pool name)
entry_decides fields methods pool (entries.Field owner member) = described_decides (λ x. x.is_field) IsField refl (is_field_decides fields) pool member
entry_decides fields methods pool (entries.Method owner member) = described_decides (λ x. is_some x.method) IsMethod refl (is_method_decides methods) pool member
entry_decides fields methods pool (entries.InterfaceMethod owner member) = described_decides (λ x. is_some x.method) IsMethod refl (is_method_decides methods) pool member
entry_decides fields methods pool (entries.NameAndType name descriptor) =
    let forms : List Form = forms_of pool in
    Decides-or ((form_at forms descriptor).is_field && (form_at forms name).is_unqualified) (is_some (form_at forms descriptor).method && (form_at forms name).is_method)
    (Decides-and (form_at forms descriptor).is_field (form_at forms name).is_unqualified (text_decides (λ x. x.is_field) IsField refl (is_field_decides fields) pool descriptor) (text_decides (λ x. x.is_unqualified) IsUnqualified refl (λ units. itself (form_of units).is_unqualified) pool name))
    (Decides-and (is_some (form_at forms descriptor).method) (form_at forms name).is_method (text_decides (λ x. is_some x.method) IsMethod refl (is_method_decides methods) pool descriptor) (text_decides (λ x. x.is_method) IsMethodName refl (λ units. itself (form_of units).is_method) pool name))
entry_decides fields methods pool (entries.MethodType descriptor) = text_decides (λ x. is_some x.method) IsMethod refl (is_method_decides methods) pool descriptor
entry_decides fields methods pool (entries.Dynamic bootstrap member) = described_decides (λ x. is_some x.method) IsMethod refl (is_method_decides methods) pool member
entry_decides fields methods pool e = always

pub class_decides : (pool : List Entry) (index : ℕ) → Decides (names_class (forms_of pool) (entry_at pool index)) (IsClassAt pool index)
class_decides pool index = at (entry_at pool index) refl
  where
    at : (o : Option Entry) → entry_at pool index ≡ o → Decides (names_class (forms_of pool) o) (IsClassAt pool index)
    at (Some (entries.Class name)) e =
        let d = text_decides (λ x. x.is_class) IsClassName refl (λ units. itself (is_class_name units)) pool name in (
          (λ t. (name, e, d.0 t)),
          (λ h. let same : Some (entries.Class name) ≡ Some (entries.Class h.0) = sym e ∙ h.1 in
              let there : name ≡ h.0 = cc in d.1 (subst (λ (i : ℕ). HasText pool i IsClassName) (sym there) h.2)),
        )
    at o e = never false refl (λ h. let g : o ≡ Some (entries.Class h.0) = sym e ∙ h.1 in cc)

-- the entry of an index is a text, or a class
pub is_text_decides : (pool : List Entry) (index : ℕ) → Decides (is_utf8 (entry_at pool index)) (HasText pool index IsAnyText)
is_text_decides pool index = at (entry_at pool index) refl
  where
    at : (o : Option Entry) → entry_at pool index ≡ o → Decides (is_utf8 o) (HasText pool index IsAnyText)
    at (Some (entries.Utf8 units)) e = (λ t. (units, ap utf8_of e, tt), λ h. refl)
    at o e = never (is_utf8 o) refl (λ h. let g : utf8_of o ≡ Some h.0 = ap utf8_of (sym e) ∙ h.1 in cc)

pub is_class_decides : (o : Option Entry) → Decides (is_class o) ((name : ℕ) × (o ≡ Some (entries.Class name)))
is_class_decides (Some (entries.Class name)) = (λ t. (name, refl), λ h. refl)
is_class_decides o = never (is_class o) refl (λ h. let g : o ≡ Some (entries.Class h.0) = h.1 in cc)
