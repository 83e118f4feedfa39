-- The text of a method tells its class's name, its own name and its descriptor.
use Rattle.std.proofs.Common.{◌≡◌, ℕ, zero, suc, ◌<◌, ◌^◌, Bool, true, false, not, ◌&&◌, List, [], ◌∷◌, ◌++◌, Option, Some, None, refl, sym, ap, ap₂, ◌∙◌, arith}
use Rattle.std.specs.Prelude.{◌==◌, unwrap_or, slice_get, if◌then◌else◌}
use Rattle.std.specs.Option.{option_map_or}
use Rattle.std.specs.List.{list_all, flat_map, AllByRecursion}
use Rattle.std.proofs.lemmas.Bool.{false≢true, eqb-true}
use Prim.Native.Char.{code}
use Rattle.lists.proofs.Lemmas.{some_same}
use Rattle.lists.proofs.FirstLemmas.{flat_map-append}
use Rattle.lists.specs.Members.{heads, tails}
use Rattle.lists.specs.Tests.{and_left, and_right}
use Rattle.class_pool.specs.declared.entry.Entry.{Entry}
use Rattle.class_pool.specs.declared.entry.Entry.TheVariants as entries
use Rattle.class_pool.specs.declared.class.Member.{Member}
use Rattle.class_pool.specs.declared.class.ClassFile.{ClassFile}
use Rattle.class_pool.specs.Grammar.{entry_at, utf8_of, class_name_of, text_at}
use Rattle.class_pool.specs.Spelling.{IsEntryInRange}
use Rattle.class_pool.specs.Utf8.{unit_bytes, utf8_bytes, AreUnits}
use Rattle.class_pool.specs.Reading.{units_in}
use Rattle.class_pool.proofs.TextLaws.{units_again}
use Rattle.descriptors.specs.declared.descriptor.MethodType.{MethodType}
use Rattle.descriptors.specs.Names.{is_plain, is_path, has_no_parenthesis}
use Rattle.descriptors.specs.Descriptors.{type_units, result_units}
use Rattle.class_rules.specs.Rules.{IsClassAt, IsRightMethod}
use Rattle.class_rules.specs.Grammar.{IsClass}
use Rattle.class_lookup.specs.Parts.{name_of, signature_of}
use Rattle.program_tables.specs.Numbers.{member_text}
use Rattle.program_laws.proofs.Facts.{all_at}

-- ---- bytes and units

-- a method's text, unit by unit
abbrev pub whole : ClassFile → Member → List ℕ
whole c m = name_of c ++ 46 ∷ (text_at c.pool m.name ++ text_at c.pool m.descriptor)

spelled : (c : ClassFile) (m : Member) → utf8_bytes (whole c m) ≡ member_text c m
spelled c m =
    let name = text_at c.pool m.name in
    let descriptor = text_at c.pool m.descriptor in
    flat_map-append unit_bytes (name_of c) (46 ∷ (name ++ descriptor))
    ∙ ap (λ (bytes : List ℕ). utf8_bytes (name_of c) ++ 46 ∷ bytes) (flat_map-append unit_bytes name descriptor)

-- bytes spell one text
one_text : (a b : List ℕ) → AreUnits a → AreUnits b → utf8_bytes a ≡ utf8_bytes b → a ≡ b
one_text a b x y same = some_same a b (sym (units_again a x) ∙ ap units_in same ∙ units_again b y)

-- ---- the units of a pool's texts

units_append : (a b : List ℕ) → AreUnits a → AreUnits b → AreUnits (a ++ b)
units_append [] b x y = y
units_append (unit ∷ a) b x y = (x.0, units_append a b x.1 y)

entry_units : (e : Entry) → IsEntryInRange e → AreUnits (unwrap_or (utf8_of (Some e)) [])
entry_units (entries.Utf8 units) h = h.0
entry_units e h = tt

found_units : (pool : List Entry) (place : ℕ) (o : Option Entry) → AllByRecursion IsEntryInRange pool → slice_get pool place ≡ o → AreUnits (unwrap_or (utf8_of o) [])
found_units pool place None all at = tt
found_units pool place (Some e) all at = entry_units e (all_at IsEntryInRange pool place e all at)

text_units : (pool : List Entry) (index : ℕ) → AllByRecursion IsEntryInRange pool → AreUnits (text_at pool index)
text_units pool zero all = tt
text_units pool (suc place) all = found_units pool place (slice_get pool place) all refl

class_units : (pool : List Entry) (o : Option ℕ) → AllByRecursion IsEntryInRange pool → AreUnits (option_map_or (text_at pool) o [])
class_units pool None all = tt
class_units pool (Some index) all = text_units pool index all

dot_unit : 46 < 2 ^ 16
dot_unit = omega arith

whole_units : (c : ClassFile) (m : Member) → AllByRecursion IsEntryInRange c.pool → AreUnits (whole c m)
whole_units c m all =
    let name = text_at c.pool m.name in
    let descriptor = text_at c.pool m.descriptor in
    units_append (name_of c) (46 ∷ (name ++ descriptor)) (class_units c.pool (class_name_of (entry_at c.pool c.this_class)) all)
    (dot_unit, units_append name descriptor (text_units c.pool m.name all) (text_units c.pool m.descriptor all))

-- ---- parts

-- what stands before the first unit of a value, and behind it
parted : (other : ℕ → Bool) (unit : ℕ) (xs ys : List ℕ) → other unit ≡ false → (a b : List ℕ) → list_all other a ≡ true → list_all other b ≡ true
    → a ++ unit ∷ xs ≡ b ++ unit ∷ ys → (a ≡ b) × (xs ≡ ys)
parted other unit xs ys is [] [] h g same = (refl, tails unit unit xs ys same)
parted other unit xs ys is [] (y ∷ b) h g same =
    absurd (false≢true (sym is ∙ ap other (heads unit y xs (b ++ unit ∷ ys) same) ∙ and_left (other y) (list_all other b) g))
parted other unit xs ys is (x ∷ a) [] h g same =
    absurd (false≢true (sym is ∙ ap other (sym (heads x unit (a ++ unit ∷ xs) ys same)) ∙ and_left (other x) (list_all other a) h))
parted other unit xs ys is (x ∷ a) (y ∷ b) h g same =
    let first = heads x y (a ++ unit ∷ xs) (b ++ unit ∷ ys) same in
    let rest = parted other unit xs ys is a b (and_right (other x) (list_all other a) h) (and_right (other y) (list_all other b) g)
    (tails x y (a ++ unit ∷ xs) (b ++ unit ∷ ys) same) in
    (ap₂ (λ (u : ℕ) (us : List ℕ). u ∷ us) first rest.0, rest.1)

-- ---- the name of a class holds no dot

abbrev pub is_no_dot : ℕ → Bool
is_no_dot unit = not (unit == 46)

plain_case : (unit : ℕ) (dot : Bool) → (unit == 46) ≡ dot → is_plain unit ≡ true → not dot ≡ true
plain_case unit true e h = absurd (false≢true (sym (ap is_plain (eqb-true unit 46 e)) ∙ h))
plain_case unit false e h = refl

path_case : (unit : ℕ) (fresh slash : Bool) (units : List ℕ) → (unit == code "/") ≡ slash
    → (if slash then not fresh && is_path true units else is_plain unit && is_path false units) ≡ true
    → (is_no_dot unit ≡ true) × ((next : Bool) × (is_path next units ≡ true))
path_case unit fresh true units e h = (ap is_no_dot (eqb-true unit 47 e), (true, and_right (not fresh) (is_path true units) h))
path_case unit fresh false units e h =
    (plain_case unit (unit == 46) refl (and_left (is_plain unit) (is_path false units) h), (false, and_right (is_plain unit) (is_path false units) h))

no_dots : (fresh : Bool) (units : List ℕ) → is_path fresh units ≡ true → list_all is_no_dot units ≡ true
no_dots fresh [] h = refl
no_dots fresh (unit ∷ units) h =
    let here = path_case unit fresh (unit == code "/") units refl h in
    ap₂ (λ (a b : Bool). a && b) here.0 (no_dots here.1.0 units here.1.1)

class_no_dots : (c : ClassFile) → IsClassAt c.pool c.this_class → list_all is_no_dot (name_of c) ≡ true
class_no_dots c t =
    let is : name_of c ≡ t.2.0 =
    ap (λ (e : Option Entry). option_map_or (text_at c.pool) (class_name_of e) []) t.1
    ∙ ap (λ (o : Option (List ℕ)). unwrap_or o []) t.2.1 in
    ap (list_all is_no_dot) is ∙ no_dots true t.2.0 t.2.2

-- ---- a method of a class file

-- the names have their forms
pub record IsNamed (c : ClassFile) (m : Member) : Type 0 where
  pub units : AreUnits (whole c m)
  pub class : list_all is_no_dot (name_of c) ≡ true
  pub method : has_no_parenthesis (text_at c.pool m.name) ≡ true
  -- behind the parenthesis with which each descriptor begins
  pub types : List ℕ
  pub descriptor : text_at c.pool m.descriptor ≡ 40 ∷ types

pub named : (c : ClassFile) (m : Member) → IsClass c → IsRightMethod c m → IsNamed c m
named c m is right =
    let name = right.name in
    let descriptor = right.descriptor in
    let type : MethodType = descriptor.2.0 in
    let text : Option (List ℕ) → List ℕ = λ o. unwrap_or o [] in
    record {
      units = whole_units c m is.pool.in_range;
      class = class_no_dots c is.rules.this_class;
      method = ap (λ (o : Option (List ℕ)). has_no_parenthesis (text o)) name.1 ∙ name.2.1;
      types = flat_map type_units type.parameters ++ 41 ∷ result_units type.result;
      descriptor = ap text descriptor.1 ∙ descriptor.2.1.1;
    }

pub one_signature : (c d : ClassFile) (m n : Member) → IsNamed c m → IsNamed d n → member_text c m ≡ member_text d n
    → (name_of c ≡ name_of d) × (signature_of c m ≡ signature_of d n)
one_signature c d m n x y same =
    let a = text_at c.pool m.name in
    let b = text_at d.pool n.name in
    let units = one_text (whole c m) (whole d n) x.units y.units (spelled c m ∙ same ∙ sym (spelled d n)) in
    let class = parted is_no_dot 46 (a ++ text_at c.pool m.descriptor) (b ++ text_at d.pool n.descriptor) refl (name_of c) (name_of d) x.class y.class units in
    let member = sym (ap (λ (text : List ℕ). a ++ text) x.descriptor) ∙ class.1 ∙ ap (λ (text : List ℕ). b ++ text) y.descriptor in
    let method = parted (λ unit. not (unit == 40)) 40 x.types y.types refl a b x.method y.method member in
    let descriptor = x.descriptor ∙ ap (λ (types : List ℕ). 40 ∷ types) method.1 ∙ sym y.descriptor in
    (class.0, ap₂ (λ (name text : List ℕ). record { name = name; descriptor = text }) method.0 descriptor)
