-- The tests of the rules are true exactly where the rules hold: members, and all of a class file.
use Rattle.std.proofs.Common.{◌≡◌, ℕ, ◌+◌, ◌≤◌, ◌==◌, ◌&&◌, ◌||◌, not, ◌⊎◌, inl, inr, Bool, true, false, cond, nat_le, List, [], ◌∷◌, length, Option, Some, None, refl, subst, leb-true, le-leb, arith}
use Rattle.std.specs.Prelude.{is_none, codes, count_by}
use Rattle.std.specs.Bool.{Decides}
use Rattle.std.specs.List.{list_all, list_any, AllByRecursion}
use Rattle.std.specs.Str.{bytes_eq}
use Rattle.std.proofs.lemmas.Bool.Decides.{Decides-eqb, Decides-not, Decides-and, Decides-or, Decides-like}
use Rattle.std.proofs.lemmas.Slice.Eq.{bytes_eq-Decides}
use Rattle.class_pool.specs.declared.entry.Entry.{Entry}
use Rattle.class_pool.specs.declared.entry.Entry.TheVariants as entries
use Rattle.class_pool.specs.declared.class.Attribute.{Attribute}
use Rattle.class_pool.specs.declared.class.Body.{Body}
use Rattle.class_pool.specs.declared.class.Body.TheVariants.{Code, ConstantValue, Bytes}
use Rattle.class_pool.specs.declared.class.Code.{Code as CodeParts}
use Rattle.class_pool.specs.declared.class.Member.{Member}
use Rattle.class_pool.specs.declared.class.ClassFile.{ClassFile}
use Rattle.class_pool.specs.Grammar.{entry_at, is_utf8, is_class, text_at, has}
use Rattle.descriptors.specs.declared.descriptor.Element.{Element}
use Rattle.descriptors.specs.declared.descriptor.Element.TheVariants as elements
use Rattle.descriptors.specs.declared.descriptor.FieldType.{FieldType}
use Rattle.descriptors.specs.declared.descriptor.MethodType.{MethodType}
use Rattle.descriptors.specs.Descriptors.{argument_words}
use Rattle.class_rules.specs.declared.forms.Constant.TheVariants as constants
use Rattle.class_rules.specs.declared.forms.Form.{Form}
use Rattle.class_rules.specs.Forms.{is_string, element_constant, constant_of, field_constant, call_of, form_of, forms_of, form_at}
use Rattle.class_rules.specs.Flags.{acc_public, acc_private, acc_protected, acc_static, acc_final, acc_synchronized, acc_native, acc_interface, acc_abstract, acc_strict, IsSet}
use Rattle.class_rules.specs.Tests as tests
use Rattle.class_rules.specs.Tests.{fits_constant, fits_field, is_constant, is_constant_value, is_code, is_frame_table, takes_words, is_void, same_member, are_distinct}
use Rattle.class_rules.specs.Rules.{IsText, HasText, IsAnyText, IsField, IsClassAt, IsUnqualified, IsDeclaredName, AreNamed, IsCatchType, IsRightCode, IsRightBody, HasOneAccess, IsInteger, IsFloat, IsLong, IsDouble, IsString, IsConstantOfElement, IsConstantOf, IsFieldConstant, IsRightConstant, IsRightField, TakesFewWords, IsPlain, ReturnsNothing, IsRightInitializer, IsRightMethod, AreSame, AreNamedOnce, IsRightEntry, FollowsRules}
use Rattle.class_rules.proofs.RuleLaws.{FieldLaw, MethodLaw, itself, implies, all_decide, none_decide, flag_decides, text_decides, field_decides, method_decides, is_field_decides, entry_decides, class_decides, is_text_decides, is_class_decides}

le_decides : (a b : ℕ) → Decides (nat_le a b) (a ≤ b)
le_decides a b = (leb-true a b, le-leb a b)

-- ---- attributes and code

named_decide : (pool : List Entry) (attributes : List Attribute) → Decides (tests.are_named pool attributes) (AreNamed pool attributes)
named_decide pool attributes = all_decide (λ a. is_utf8 (entry_at pool a.name)) (λ a. HasText pool a.name IsAnyText) (λ a. is_text_decides pool a.name) attributes

caught_decides : (pool : List Entry) (caught : ℕ) → Decides (tests.catches_class pool caught) (IsCatchType pool caught)
caught_decides pool caught = Decides-or (caught == 0) (is_class (entry_at pool caught)) (Decides-eqb caught 0) (is_class_decides (entry_at pool caught))

code_decides : (pool : List Entry) (c : CodeParts) → Decides (tests.is_right_code pool c) (IsRightCode pool c)
code_decides pool c =
    let a : Bool = nat_le 1 (length c.code) in
    let b : Bool = nat_le (length c.code) 65535 in
    let d : Bool = list_all (λ h. tests.catches_class pool h.3) c.handlers in
    let e : Bool = list_all (λ x. is_utf8 (entry_at pool x.0)) c.attributes in
    let f : Bool = nat_le (count_by (is_frame_table pool) c.attributes) 1 in
    Decides-like (a && b && d && e && f)
    (λ h. record { not_empty = h.0.0.0.0; not_long = h.0.0.0.1; caught = h.0.0.1; named = h.0.1; frames = h.1 })
    (λ r. ((((r.not_empty, r.not_long), r.caught), r.named), r.frames))
    (Decides-and (a && b && d && e) f
    (Decides-and (a && b && d) e
    (Decides-and (a && b) d (Decides-and a b (le_decides 1 (length c.code)) (le_decides (length c.code) 65535)) (all_decide (λ h. tests.catches_class pool h.3) (λ h. IsCatchType pool h.3) (λ h. caught_decides pool h.3) c.handlers))
    (all_decide (λ x. is_utf8 (entry_at pool x.0)) (λ x. HasText pool x.0 IsAnyText) (λ x. is_text_decides pool x.0) c.attributes))
    (le_decides (count_by (is_frame_table pool) c.attributes) 1))

body_decides : (pool : List Entry) (body : Body) → Decides (tests.is_right_body pool body) (IsRightBody pool body)
body_decides pool (Code c) = code_decides pool c
body_decides pool (ConstantValue constant) = (λ t. tt, λ h. refl)
body_decides pool (Bytes bytes) = (λ t. tt, λ h. refl)

-- ---- flags

access_decides : (flags : ℕ) → Decides (tests.has_one_access flags) (HasOneAccess flags)
access_decides flags =
    let a : Bool = has flags acc_public in
    let b : Bool = has flags acc_private in
    let c : Bool = has flags acc_protected in
    let pub_ = flag_decides flags acc_public in
    let pri = flag_decides flags acc_private in
    let pro = flag_decides flags acc_protected in
    Decides-like (not (a && b) && not (a && c) && not (b && c))
    (λ h. record { public_private = h.0.0; public_protected = h.0.1; private_protected = h.1 })
    (λ r. ((r.public_private, r.public_protected), r.private_protected))
    (Decides-and (not (a && b) && not (a && c)) (not (b && c))
    (Decides-and (not (a && b)) (not (a && c)) (Decides-not (a && b) (Decides-and a b pub_ pri)) (Decides-not (a && c) (Decides-and a c pub_ pro)))
    (Decides-not (b && c) (Decides-and b c pri pro)))

plain_decides : (flags : ℕ) → Decides (tests.is_plainly_abstract flags) (IsSet flags acc_abstract → IsPlain flags)
plain_decides flags =
    let p : Bool = has flags acc_private in
    let s : Bool = has flags acc_static in
    let f : Bool = has flags acc_final in
    let y : Bool = has flags acc_synchronized in
    let n : Bool = has flags acc_native in
    let t : Bool = has flags acc_strict in
    implies (has flags acc_abstract) (not (p || s || f || y || n || t)) (flag_decides flags acc_abstract)
    (Decides-like (not (p || s || f || y || n || t))
    (λ none. record {
      not_private = λ x. none (inl (inl (inl (inl (inl x)))));
      not_static = λ x. none (inl (inl (inl (inl (inr x)))));
      not_final = λ x. none (inl (inl (inl (inr x))));
      not_synchronized = λ x. none (inl (inl (inr x)));
      not_native = λ x. none (inl (inr x));
      not_strict = λ x. none (inr x);
    })
    (λ r. any_of r)
    (Decides-not (p || s || f || y || n || t)
    (Decides-or (p || s || f || y || n) t
    (Decides-or (p || s || f || y) n
    (Decides-or (p || s || f) y
    (Decides-or (p || s) f (Decides-or p s (flag_decides flags acc_private) (flag_decides flags acc_static)) (flag_decides flags acc_final))
    (flag_decides flags acc_synchronized))
    (flag_decides flags acc_native))
    (flag_decides flags acc_strict))))
  where
    any_of : IsPlain flags → ((((IsSet flags acc_private ⊎ IsSet flags acc_static) ⊎ IsSet flags acc_final) ⊎ IsSet flags acc_synchronized) ⊎ IsSet flags acc_native) ⊎ IsSet flags acc_strict → ⊥
    any_of r (inl (inl (inl (inl (inl x))))) = r.not_private x
    any_of r (inl (inl (inl (inl (inr x))))) = r.not_static x
    any_of r (inl (inl (inl (inr x)))) = r.not_final x
    any_of r (inl (inl (inr x))) = r.not_synchronized x
    any_of r (inl (inr x)) = r.not_native x
    any_of r (inr x) = r.not_strict x

-- ---- fields

interface_field_decides : (class_flags flags : ℕ) → Decides (tests.is_interface_field class_flags flags) (IsSet class_flags acc_interface → IsSet flags acc_public × IsSet flags acc_static × IsSet flags acc_final)
interface_field_decides class_flags flags =
    let a : Bool = has flags acc_public in
    let b : Bool = has flags acc_static in
    let c : Bool = has flags acc_final in
    implies (has class_flags acc_interface) (a && b && c) (flag_decides class_flags acc_interface)
    (Decides-like (a && b && c) (λ h. (h.0.0, h.0.1, h.1)) (λ h. ((h.0, h.1), h.2)) (Decides-and (a && b) c (Decides-and a b (flag_decides flags acc_public) (flag_decides flags acc_static)) (flag_decides flags acc_final)))

nothing : {P : Type 0} → (P → ⊥) → Decides false P
nothing lacks = (λ t. absurd (let f : false ≡ true = t in cc), λ p. absurd (lacks p))

integer_decides : (e : Option Entry) → Decides (fits_constant constants.Integer e) (IsInteger e)
integer_decides (Some (entries.Integer n)) = (λ t. (n, refl), λ h. refl)
integer_decides e = nothing (λ h. let g : e ≡ Some (entries.Integer h.0) = h.1 in cc)

float_decides : (e : Option Entry) → Decides (fits_constant constants.Float e) (IsFloat e)
float_decides (Some (entries.Float n)) = (λ t. (n, refl), λ h. refl)
float_decides e = nothing (λ h. let g : e ≡ Some (entries.Float h.0) = h.1 in cc)

long_decides : (e : Option Entry) → Decides (fits_constant constants.Long e) (IsLong e)
long_decides (Some (entries.Long n)) = (λ t. (n, refl), λ h. refl)
long_decides e = nothing (λ h. let g : e ≡ Some (entries.Long h.0) = h.1 in cc)

double_decides : (e : Option Entry) → Decides (fits_constant constants.Double e) (IsDouble e)
double_decides (Some (entries.Double n)) = (λ t. (n, refl), λ h. refl)
double_decides e = nothing (λ h. let g : e ≡ Some (entries.Double h.0) = h.1 in cc)

string_decides : (e : Option Entry) → Decides (fits_constant constants.Text e) (IsString e)
string_decides (Some (entries.Text n)) = (λ t. (n, refl), λ h. refl)
string_decides e = nothing (λ h. let g : e ≡ Some (entries.Text h.0) = h.1 in cc)

constant_decides : (e : Option Entry) → Decides (is_constant e) (IsFieldConstant e)
constant_decides e =
    let a : Bool = fits_constant constants.Integer e in
    let b : Bool = fits_constant constants.Float e in
    let c : Bool = fits_constant constants.Long e in
    let d : Bool = fits_constant constants.Double e in
    Decides-like (a || b || c || d || fits_constant constants.Text e) to from
    (Decides-or (a || b || c || d) (fits_constant constants.Text e)
    (Decides-or (a || b || c) d (Decides-or (a || b) c (Decides-or a b (integer_decides e) (float_decides e)) (long_decides e)) (double_decides e))
    (string_decides e))
  where
    to : (((IsInteger e ⊎ IsFloat e) ⊎ IsLong e) ⊎ IsDouble e) ⊎ IsString e → IsFieldConstant e
    to (inl (inl (inl (inl x)))) = inl x
    to (inl (inl (inl (inr x)))) = inr (inl x)
    to (inl (inl (inr x))) = inr (inr (inl x))
    to (inl (inr x)) = inr (inr (inr (inl x)))
    to (inr x) = inr (inr (inr (inr x)))

    from : IsFieldConstant e → (((IsInteger e ⊎ IsFloat e) ⊎ IsLong e) ⊎ IsDouble e) ⊎ IsString e
    from (inl x) = inl (inl (inl (inl x)))
    from (inr (inl x)) = inl (inl (inl (inr x)))
    from (inr (inr (inl x))) = inl (inl (inr x))
    from (inr (inr (inr (inl x)))) = inl (inr x)
    from (inr (inr (inr (inr x)))) = inr x

element_decides : (x : Element) (e : Option Entry) → Decides (fits_field (element_constant x) e) (IsConstantOfElement x e)
element_decides elements.Byte e = integer_decides e
element_decides elements.Char e = integer_decides e
element_decides elements.Double e = double_decides e
element_decides elements.Float e = float_decides e
element_decides elements.Int e = integer_decides e
element_decides elements.Long e = long_decides e
element_decides (elements.Class name) e = chosen (is_string name) (bytes_eq-Decides name (codes "java/lang/String"))
  where
    chosen : (b : Bool) → Decides b (name ≡ codes "java/lang/String") → Decides (fits_field (cond b (Some constants.Text) None) e) ((name ≡ codes "java/lang/String") × IsString e)
    chosen true d = Decides-like (fits_constant constants.Text e) (λ h. (d.0 refl, h)) (λ h. h.1) (string_decides e)
    chosen false d = nothing (λ h. let f : false ≡ true = d.1 h.0 in cc)
element_decides elements.Short e = integer_decides e
element_decides elements.Boolean e = integer_decides e

type_decides : (t : FieldType) (e : Option Entry) → Decides (fits_field (constant_of t) e) ((t.dimensions ≡ 0) × IsConstantOfElement t.element e)
type_decides t e = chosen (t.dimensions == 0) (Decides-eqb t.dimensions 0)
  where
    chosen : (b : Bool) → Decides b (t.dimensions ≡ 0) → Decides (fits_field (cond b (element_constant t.element) None) e) ((t.dimensions ≡ 0) × IsConstantOfElement t.element e)
    chosen true d = let at = element_decides t.element e in Decides-like (fits_field (element_constant t.element) e) (λ h. (d.0 refl, h)) (λ h. h.1) at
    chosen false d = nothing (λ h. let f : false ≡ true = d.1 h.0 in cc)

of_descriptor_decides : FieldLaw → (pool : List Entry) (e : Option Entry) (index : ℕ) → Decides (fits_field (form_at (forms_of pool) index).constant e) (HasText pool index (IsConstantOf e))
of_descriptor_decides law pool e index =
    text_decides (λ x. fits_field x.constant e) (IsConstantOf e) refl (λ units. field_decides law (λ o. fits_field (field_constant o) e) (λ t. (t.dimensions ≡ 0) × IsConstantOfElement t.element e) refl (λ t. type_decides t e) units) pool index

constant_body_decides : FieldLaw → (pool : List Entry) (m : Member) (body : Body) → Decides (tests.is_right_constant pool m.flags (form_at (forms_of pool) m.descriptor).constant body) (IsRightConstant pool m body)
constant_body_decides law pool m (ConstantValue index) = chosen (has m.flags acc_static) (flag_decides m.flags acc_static)
  where
    e : Option Entry
    e = entry_at pool index

    typed : Bool
    typed = fits_field (form_at (forms_of pool) m.descriptor).constant (entry_at pool index)

    chosen : (b : Bool) → Decides b (IsSet m.flags acc_static)
        → Decides (cond b (fits_field (form_at (forms_of pool) m.descriptor).constant (entry_at pool index)) (is_constant (entry_at pool index)))
        ((IsSet m.flags acc_static → HasText pool m.descriptor (IsConstantOf (entry_at pool index))) × (¬ IsSet m.flags acc_static → IsFieldConstant (entry_at pool index)))
    chosen true d =
        let at = of_descriptor_decides law pool (entry_at pool index) m.descriptor in
        (λ t. (λ s. at.0 t, λ n. absurd (n (d.0 refl))), λ h. at.1 (h.0 (d.0 refl)))
    chosen false d =
        let at = constant_decides (entry_at pool index) in
        let unset : ¬ IsSet m.flags acc_static = λ s. let f : false ≡ true = d.1 s in cc in
        (λ t. (λ s. absurd (unset s), λ n. at.0 t), λ h. at.1 (h.1 unset))
constant_body_decides law pool m (Code c) = (λ t. tt, λ h. refl)
constant_body_decides law pool m (Bytes bytes) = (λ t. tt, λ h. refl)

field_member_decides : FieldLaw → (c : ClassFile) (m : Member) → Decides (tests.is_right_field c.pool (forms_of c.pool) c.flags m) (IsRightField c m)
field_member_decides law c m =
    let forms : List Form = forms_of c.pool in
    let n : Bool = (form_at forms m.name).is_unqualified in
    let d : Bool = (form_at forms m.descriptor).is_field in
    let a : Bool = tests.has_one_access m.flags in
    let i : Bool = tests.is_interface_field c.flags m.flags in
    let t : Bool = tests.are_named c.pool m.attributes in
    let o : Bool = nat_le (count_by is_constant_value m.attributes) 1 in
    let k : Bool = list_all (λ x. tests.is_right_constant c.pool m.flags (form_at forms m.descriptor).constant x.body) m.attributes in
    Decides-like (n && d && a && i && t && o && k)
    (λ h. record { name = h.0.0.0.0.0.0; descriptor = h.0.0.0.0.0.1; access = h.0.0.0.0.1; of_interface = h.0.0.0.1; named = h.0.0.1; one_constant = h.0.1; constants = h.1 })
    (λ r. ((((((r.name, r.descriptor), r.access), r.of_interface), r.named), r.one_constant), r.constants))
    (Decides-and (n && d && a && i && t && o) k
    (Decides-and (n && d && a && i && t) o
    (Decides-and (n && d && a && i) t
    (Decides-and (n && d && a) i
    (Decides-and (n && d) a
    (Decides-and n d (text_decides (λ x. x.is_unqualified) IsUnqualified refl (λ units. itself (form_of units).is_unqualified) c.pool m.name) (text_decides (λ x. x.is_field) IsField refl (is_field_decides law) c.pool m.descriptor))
    (access_decides m.flags))
    (interface_field_decides c.flags m.flags))
    (named_decide c.pool m.attributes))
    (le_decides (count_by is_constant_value m.attributes) 1))
    (all_decide (λ x. tests.is_right_constant c.pool m.flags (form_at forms m.descriptor).constant x.body) (λ x. IsRightConstant c.pool m x.body) (λ x. constant_body_decides law c.pool m x.body) m.attributes))

-- ---- methods

words_decide : (flags : ℕ) (m : MethodType) → Decides (takes_words flags (Some (call_of m))) ((IsSet flags acc_static → argument_words m.parameters ≤ 255) × (¬ IsSet flags acc_static → argument_words m.parameters + 1 ≤ 255))
words_decide flags m = chosen (has flags acc_static) (flag_decides flags acc_static)
  where
    chosen : (b : Bool) → Decides b (IsSet flags acc_static) → Decides (nat_le (argument_words m.parameters + cond b 0 1) 255) ((IsSet flags acc_static → argument_words m.parameters ≤ 255) × (¬ IsSet flags acc_static → argument_words m.parameters + 1 ≤ 255))
    chosen true d =
        let at = le_decides (argument_words m.parameters + 0) 255 in (
          (λ t. let le = at.0 t in (λ s. omega arith, λ n. absurd (n (d.0 refl)))),
          (λ h. let le = h.0 (d.0 refl) in at.1 (omega arith)),
        )
    chosen false d =
        let at = le_decides (argument_words m.parameters + 1) 255 in
        let unset : ¬ IsSet flags acc_static = λ s. let f : false ≡ true = d.1 s in cc in
        ((λ t. (λ s. absurd (unset s), λ n. at.0 t)), (λ h. at.1 (h.1 unset)))

few_words_decide : MethodLaw → (pool : List Entry) (flags index : ℕ) → Decides (takes_words flags (form_at (forms_of pool) index).method) (HasText pool index (TakesFewWords flags))
few_words_decide law pool flags index =
    text_decides (λ x. takes_words flags x.method) (TakesFewWords flags) refl
    (λ units. method_decides law (takes_words flags) (λ m. (IsSet flags acc_static → argument_words m.parameters ≤ 255) × (¬ IsSet flags acc_static → argument_words m.parameters + 1 ≤ 255)) refl (words_decide flags) units) pool index

none_decides : {A : Type 0} (o : Option A) → Decides (is_none o) (o ≡ None)
none_decides None = (λ t. refl, λ h. refl)
none_decides (Some x) = nothing (λ h. let g : Some x ≡ None = h in cc)

void_decides : MethodLaw → (pool : List Entry) (index : ℕ) → Decides (is_void (form_at (forms_of pool) index).method) (HasText pool index ReturnsNothing)
void_decides law pool index = text_decides (λ x. is_void x.method) ReturnsNothing refl (λ units. method_decides law is_void (λ m. m.result ≡ None) refl (λ m. none_decides m.result) units) pool index

initializer_decides : MethodLaw → (c : ClassFile) (m : Member)
    → Decides (not (form_at (forms_of c.pool) m.name).is_initializer || tests.is_right_initializer c.flags m.flags (form_at (forms_of c.pool) m.descriptor).method) (IsText c.pool m.name (codes "<init>") → IsRightInitializer c m)
initializer_decides law c m =
    let forms : List Form = forms_of c.pool in
    let f : Bool = has c.flags acc_interface in
    let s : Bool = has m.flags acc_static in
    let v : Bool = is_void (form_at forms m.descriptor).method in
    implies (form_at forms m.name).is_initializer (not f && not s && v)
    (Decides-like (form_at forms m.name).is_initializer (λ h. subst (IsText c.pool m.name) h.2 h.1) (λ h. (codes "<init>", h, refl))
    (text_decides (λ x. x.is_initializer) (λ units. units ≡ codes "<init>") refl (λ units. bytes_eq-Decides units (codes "<init>")) c.pool m.name))
    (Decides-like (not f && not s && v)
    (λ h. record { of_class = h.0.0; not_static = h.0.1; nothing = h.1 })
    (λ r. ((r.of_class, r.not_static), r.nothing))
    (Decides-and (not f && not s) v (Decides-and (not f) (not s) (Decides-not f (flag_decides c.flags acc_interface)) (Decides-not s (flag_decides m.flags acc_static))) (void_decides law c.pool m.descriptor)))

count_decides : (flags n : ℕ) → Decides (n == cond (has flags acc_abstract || has flags acc_native) 0 1) ((IsSet flags acc_abstract ⊎ IsSet flags acc_native → n ≡ 0) × (¬ IsSet flags acc_abstract → ¬ IsSet flags acc_native → n ≡ 1))
count_decides flags n = chosen (has flags acc_abstract || has flags acc_native) (Decides-or (has flags acc_abstract) (has flags acc_native) (flag_decides flags acc_abstract) (flag_decides flags acc_native))
  where
    lacks_both : IsSet flags acc_abstract ⊎ IsSet flags acc_native → ¬ IsSet flags acc_abstract → ¬ IsSet flags acc_native → ⊥
    lacks_both (inl x) a b = a x
    lacks_both (inr x) a b = b x

    chosen : (b : Bool) → Decides b (IsSet flags acc_abstract ⊎ IsSet flags acc_native) → Decides (n == cond b 0 1) ((IsSet flags acc_abstract ⊎ IsSet flags acc_native → n ≡ 0) × (¬ IsSet flags acc_abstract → ¬ IsSet flags acc_native → n ≡ 1))
    chosen true d =
        let at = Decides-eqb n 0 in
        ((λ t. (λ h. at.0 t, λ a b. absurd (lacks_both (d.0 refl) a b))), (λ h. at.1 (h.0 (d.0 refl))))
    chosen false d =
        let at = Decides-eqb n 1 in
        let neither : IsSet flags acc_abstract ⊎ IsSet flags acc_native → ⊥ = λ s. let f : false ≡ true = d.1 s in cc in
        ((λ t. (λ h. absurd (neither h), λ a b. at.0 t)), (λ h. at.1 (h.1 (λ x. neither (inl x)) (λ x. neither (inr x)))))

method_member_decides : MethodLaw → (c : ClassFile) (m : Member) → Decides (tests.is_right_method c.pool (forms_of c.pool) c.flags m) (IsRightMethod c m)
method_member_decides law c m =
    let forms : List Form = forms_of c.pool in
    let n : Bool = (form_at forms m.name).is_method in
    let q : Bool = (form_at forms m.name).has_no_parenthesis in
    let w : Bool = takes_words m.flags (form_at forms m.descriptor).method in
    let a : Bool = tests.has_one_access m.flags in
    let p : Bool = tests.is_plainly_abstract m.flags in
    let i : Bool = not (form_at forms m.name).is_initializer || tests.is_right_initializer c.flags m.flags (form_at forms m.descriptor).method in
    let t : Bool = tests.are_named c.pool m.attributes in
    let k : Bool = count_by is_code m.attributes == cond (has m.flags acc_abstract || has m.flags acc_native) 0 1 in
    let b : Bool = list_all (λ x. tests.is_right_body c.pool x.body) m.attributes in
    let name = text_decides (λ x. x.is_method && x.has_no_parenthesis) IsDeclaredName refl (λ units. Decides-and (form_of units).is_method (form_of units).has_no_parenthesis (itself (form_of units).is_method) (itself (form_of units).has_no_parenthesis)) c.pool m.name in
    Decides-like (n && q && w && a && p && i && t && (k && b))
    (λ h. record {
      name = h.0.0.0.0.0.0;
      descriptor = h.0.0.0.0.0.1;
      access = h.0.0.0.0.1;
      plain = h.0.0.0.1;
      initializer = h.0.0.1;
      named = h.0.1;
      no_code = h.1.0.0;
      one_code = h.1.0.1;
      code = h.1.1;
    })
    (λ r. ((((((r.name, r.descriptor), r.access), r.plain), r.initializer), r.named), ((r.no_code, r.one_code), r.code)))
    (Decides-and (n && q && w && a && p && i && t) (k && b)
    (Decides-and (n && q && w && a && p && i) t
    (Decides-and (n && q && w && a && p) i
    (Decides-and (n && q && w && a) p
    (Decides-and (n && q && w) a
    (Decides-and (n && q) w name (few_words_decide law c.pool m.flags m.descriptor))
    (access_decides m.flags))
    (plain_decides m.flags))
    (initializer_decides law c m))
    (named_decide c.pool m.attributes))
    (Decides-and k b (count_decides m.flags (count_by is_code m.attributes)) (all_decide (λ x. tests.is_right_body c.pool x.body) (λ x. IsRightBody c.pool x.body) (λ x. body_decides c.pool x.body) m.attributes)))

-- ---- all of them

distinct_decide : (pool : List Entry) (members : List Member) → Decides (are_distinct pool members) (AreNamedOnce pool members)
distinct_decide pool [] = (λ t. tt, λ h. refl)
distinct_decide pool (m ∷ members) =
    Decides-and (not (list_any (same_member pool m) members)) (are_distinct pool members)
    (none_decide (same_member pool m) (AreSame pool m) (λ n. Decides-and (bytes_eq (text_at pool m.name) (text_at pool n.name)) (bytes_eq (text_at pool m.descriptor) (text_at pool n.descriptor))
    (bytes_eq-Decides (text_at pool m.name) (text_at pool n.name)) (bytes_eq-Decides (text_at pool m.descriptor) (text_at pool n.descriptor))) members)
    (distinct_decide pool members)

classes_decide : (c : ClassFile) → Decides (tests.has_right_classes c.pool (forms_of c.pool) c) (IsClassAt c.pool c.this_class × ((c.super_class ≡ 0) ⊎ IsClassAt c.pool c.super_class) × AllByRecursion (IsClassAt c.pool) c.interfaces)
classes_decide c =
    let forms : List Form = forms_of c.pool in
    let a : Bool = tests.names_class forms (entry_at c.pool c.this_class) in
    let b : Bool = c.super_class == 0 || tests.names_class forms (entry_at c.pool c.super_class) in
    let d : Bool = list_all (λ i. tests.names_class forms (entry_at c.pool i)) c.interfaces in
    Decides-like (a && b && d) (λ h. (h.0.0, h.0.1, h.1)) (λ h. ((h.0, h.1), h.2))
    (Decides-and (a && b) d
    (Decides-and a b (class_decides c.pool c.this_class) (Decides-or (c.super_class == 0) (tests.names_class forms (entry_at c.pool c.super_class)) (Decides-eqb c.super_class 0) (class_decides c.pool c.super_class)))
    (all_decide (λ i. tests.names_class forms (entry_at c.pool i)) (IsClassAt c.pool) (class_decides c.pool) c.interfaces))

pub rules_decide : FieldLaw → MethodLaw → (c : ClassFile) → Decides (tests.passes (forms_of c.pool) c) (FollowsRules c)
rules_decide fields methods c =
    let forms : List Form = forms_of c.pool in
    let e : Bool = list_all (tests.names_rightly c.pool forms) c.pool in
    let s : Bool = tests.has_right_classes c.pool forms c in
    let f : Bool = tests.has_class_flags c.flags in
    let x : Bool = list_all (tests.is_right_field c.pool forms c.flags) c.fields in
    let y : Bool = list_all (tests.is_right_method c.pool forms c.flags) c.methods in
    let z : Bool = tests.are_named c.pool c.attributes in
    let v : Bool = are_distinct c.pool c.fields in
    let w : Bool = are_distinct c.pool c.methods in
    Decides-like ((e && s && f && (x && y && z)) && (v && w))
    (λ h. record {
      pool = h.0.0.0.0;
      this_class = h.0.0.0.1.0;
      super_class = h.0.0.0.1.1;
      interfaces = h.0.0.0.1.2;
      of_interface = h.0.0.1;
      fields = h.0.1.0.0;
      methods = h.0.1.0.1;
      named = h.0.1.1;
      distinct_fields = h.1.0;
      distinct_methods = h.1.1;
    })
    (λ r. ((((r.pool, (r.this_class, r.super_class, r.interfaces)), r.of_interface), ((r.fields, r.methods), r.named)), (r.distinct_fields, r.distinct_methods)))
    (Decides-and (e && s && f && (x && y && z)) (v && w)
    (Decides-and (e && s && f) (x && y && z)
    (Decides-and (e && s) f
    (Decides-and e s (all_decide (tests.names_rightly c.pool forms) (IsRightEntry c.pool) (entry_decides fields methods c.pool) c.pool) (classes_decide c))
    (implies (has c.flags acc_interface) (has c.flags acc_abstract) (flag_decides c.flags acc_interface) (flag_decides c.flags acc_abstract)))
    (Decides-and (x && y) z
    (Decides-and x y (all_decide (tests.is_right_field c.pool forms c.flags) (IsRightField c) (field_member_decides fields c) c.fields) (all_decide (tests.is_right_method c.pool forms c.flags) (IsRightMethod c) (method_member_decides methods c) c.methods))
    (named_decide c.pool c.attributes)))
    (Decides-and v w (distinct_decide c.pool c.fields) (distinct_decide c.pool c.methods)))
