-- A type that is read is spelled so, and a type that is spelled so is read.
use Rattle.std.proofs.Common.{◌≡◌, ℕ, zero, suc, ◌+◌, ◌<◌, ◌≤◌, ◌==◌, ◌&&◌, not, ◌⊎◌, inl, inr, ⊎_elim, Bool, true, false, cond, nat_lt, nat_le, List, [], ◌∷◌, ◌++◌, length, Option, Some, None, refl, sym, ap, subst, ◌∙◌, append_assoc, arith, eqb-true, ne_eqb, leb-true, le-leb}
use Rattle.std.specs.Prelude.{replicate, IsTrue, ◌↔◌}
use Rattle.std.specs.List.{flat_map, AllByRecursion}
use Rattle.std.proofs.lemmas.Bool.{ltb-true, lt-ltb, and_parts}
use Rattle.std.proofs.lemmas.Option.{same_Some}
use Rattle.std.proofs.lemmas.List.{append-nil, length-append, nil_from_length}
use Rattle.std.proofs.lemmas.List.Concat.{flat_map-cons}
use Rattle.base.specs.Reading.{◌>>=◌}
use Rattle.descriptors.specs.declared.descriptor.Element.{Element}
use Rattle.descriptors.specs.declared.descriptor.Element.TheVariants.{Byte, Char, Double, Float, Int, Long, Class, Short, Boolean}
use Rattle.descriptors.specs.declared.descriptor.FieldType.{FieldType}
use Rattle.descriptors.specs.declared.descriptor.MethodType.{MethodType}
use Rattle.descriptors.specs.Names.{is_plain, is_path, is_class_name}
use Rattle.descriptors.specs.Descriptors.{letter_of, behind_letter, type_units, IsElement, IsType, argument_words, result_units, IsResult, IsFieldDescriptor, IsMethodDescriptor}
use Rattle.base.specs.Reading.{whole}
use Rattle.descriptors.specs.Parsing.{behind, primitives, first_with, primitive_in, split_in, class_in, element_in, with_dimensions, type_from, type_in, types_in, field_in, result_in, method_in}
use Rattle.descriptors.proofs.TypeLemmas.{types_more}

-- the value of a step that did not fail
bind_some : {A B : Type 0} (r : Option A) (f : A → Option B) (y : B) → (r >>= f) ≡ Some y → (x : A) × (r ≡ Some x) × (f x ≡ Some y)
bind_some (Some x) f y e = (x, refl, e)
bind_some None f y e = absurd cc

-- all of the units were read
whole_is : {X : Type 0} (found : X × List ℕ) (x : X) → whole found ≡ Some x → (found.0 ≡ x) × (found.1 ≡ [])
whole_is {X} found x e = chosen (length found.1 == 0) refl e
  where
    chosen : (b : Bool) → (length found.1 == 0) ≡ b → cond b (Some found.0) None ≡ Some x → (found.0 ≡ x) × (found.1 ≡ [])
    chosen true is f = (same_Some found.0 x f, nil_from_length found.1 (eqb-true _ _ is))
    chosen false is f = absurd (let n : None ≡ Some x = f in cc)

passed : {A : Type 0} (b : Bool) (x y : A) → cond b (Some x) None ≡ Some y → (b ≡ true) × (x ≡ y)
passed true x y e = (refl, same_Some x y e)
passed false x y e = absurd (let f : None ≡ Some y = e in cc)

two : (b : Bool) → (b ≡ true) ⊎ (b ≡ false)
two true = inl refl
two false = inr refl

-- ---- elements

-- what a primitive type is
abbrev IsPrimitive : Element → Type 0
IsPrimitive e = (behind_letter e ≡ []) × IsElement e

primitives_are : AllByRecursion IsPrimitive primitives
primitives_are = ((refl, tt), ((refl, tt), ((refl, tt), ((refl, tt), ((refl, tt), ((refl, tt), ((refl, tt), ((refl, tt), tt))))))))

with_first : (letter : ℕ) (e found : Element) (others : Option Element) → IsPrimitive e → (others ≡ Some found → (letter ≡ letter_of found) × IsPrimitive found)
    → (b : Bool) → (letter == letter_of e) ≡ b → cond b (Some e) others ≡ Some found → (letter ≡ letter_of found) × IsPrimitive found
with_first letter e found others here rest true is f =
    let P : Element → Type 0 = λ x. (letter ≡ letter_of x) × IsPrimitive x in
    subst P (same_Some e found f) (eqb-true letter (letter_of e) is, here)
with_first letter e found others here rest false is f = rest f

found_with : (letter : ℕ) (es : List Element) (found : Element) → AllByRecursion IsPrimitive es → first_with letter es ≡ Some found → (letter ≡ letter_of found) × IsPrimitive found
found_with letter [] found all e = absurd (let f : None ≡ Some found = e in cc)
found_with letter (x ∷ xs) found all e = with_first letter x found (first_with letter xs) all.0 (found_with letter xs found all.1) (letter == letter_of x) refl e

abbrev split_end : List ℕ → Option (List ℕ × List ℕ)
split_end units = Some ([], units)

abbrev split_on : ℕ → List ℕ → Option (List ℕ × List ℕ)
split_on unit units = split_in units >>= λ x. Some (unit ∷ x.0, x.1)

split_step : (b : Bool) (unit : ℕ) (units name rest : List ℕ) → (unit == 59) ≡ b → ((n r : List ℕ) → split_in units ≡ Some (n, r) → units ≡ n ++ 59 ∷ r)
    → cond b (split_end units) (split_on unit units) ≡ Some (name, rest) → unit ∷ units ≡ name ++ 59 ∷ rest
split_step true unit units name rest is others e =
    let p = same_Some ([], units) (name, rest) e in
    let P : List ℕ × List ℕ → Type 0 = λ x. unit ∷ units ≡ x.0 ++ 59 ∷ x.1 in
    subst P p (ap (λ (u : ℕ). u ∷ units) (eqb-true unit 59 is))
split_step false unit units name rest is others e =
    let b = bind_some (split_in units) (λ x. Some (unit ∷ x.0, x.1)) (name, rest) e in
    let P : List ℕ × List ℕ → Type 0 = λ x. unit ∷ units ≡ x.0 ++ 59 ∷ x.1 in
    subst P (same_Some (unit ∷ b.0.0, b.0.1) (name, rest) b.2) (ap (λ (us : List ℕ). unit ∷ us) (others b.0.0 b.0.1 b.1))

split_takes : (units name rest : List ℕ) → split_in units ≡ Some (name, rest) → units ≡ name ++ 59 ∷ rest
unfolding split_in
split_takes [] name rest e = absurd (let x : List ℕ × List ℕ = (name, rest) in let f : None ≡ Some x = e in cc)
split_takes (unit ∷ units) name rest e = split_step (unit == 59) unit units name rest refl (split_takes units) e

-- no ; stands in the name of a class
no_end : (unit : ℕ) → is_plain unit ≡ true → (unit == 59) ≡ false
no_end unit plain = ne_eqb unit 59 (λ same. let no : is_plain 59 ≡ true = subst (λ (u : ℕ). is_plain u ≡ true) same plain in absurd (let f : false ≡ true = no in cc))

path_step : (fresh : Bool) (unit : ℕ) (units : List ℕ) (b : Bool) → (unit == 47) ≡ b → cond b (not fresh && is_path true units) (is_plain unit && is_path false units) ≡ true
    → ((unit == 59) ≡ false) × ((f : Bool) × (is_path f units ≡ true))
path_step fresh unit units true is e =
    let same : unit ≡ 47 = eqb-true unit 47 is in
    let p = and_parts (not fresh) (is_path true units) e in
    (subst (λ (u : ℕ). (u == 59) ≡ false) (sym same) refl, (true, p.1))
path_step fresh unit units false is e = let p = and_parts (is_plain unit) (is_path false units) e in (no_end unit p.0, (false, p.1))

split_again : (fresh : Bool) (name rest : List ℕ) → is_path fresh name ≡ true → split_in (name ++ 59 ∷ rest) ≡ Some (name, rest)
unfolding split_in
split_again fresh [] rest path = refl
split_again fresh (unit ∷ name) rest path =
    let s = path_step fresh unit name (unit == 47) refl path in
    let others : List ℕ = name ++ 59 ∷ rest in
    ap (λ (b : Bool). cond b (Some ([], others)) (split_in others >>= λ x. Some (unit ∷ x.0, x.1))) s.0
    ∙ ap (λ (read : Option (List ℕ × List ℕ)). read >>= λ x. Some (unit ∷ x.0, x.1)) (split_again s.1.0 name rest s.1.1)

-- what an element that was read is
abbrev IsFound : List ℕ → Element × List ℕ → Type 0
IsFound units found = (units ≡ letter_of found.0 ∷ (behind_letter found.0 ++ found.1)) × IsElement found.0

class_takes : (units : List ℕ) (found : Element × List ℕ) → class_in units ≡ Some found → IsFound (76 ∷ units) found
unfolding class_in
class_takes units found e =
    let a = bind_some (split_in units) (λ name. cond (is_class_name name.0) (Some (Class name.0, name.1)) None) found e in
    let p = passed (is_class_name a.0.0) (Class a.0.0, a.0.1) found a.2 in
    let parts : units ≡ (a.0.0 ++ 59 ∷ []) ++ a.0.1 = split_takes units a.0.0 a.0.1 a.1 ∙ sym (append_assoc a.0.0 (59 ∷ []) a.0.1) in
    subst (IsFound (76 ∷ units)) p.1 (ap (λ (us : List ℕ). 76 ∷ us) parts, p.0)

element_step : (b : Bool) (letter : ℕ) (units : List ℕ) (found : Element × List ℕ) → (letter == 76) ≡ b
    → cond b (class_in units) (primitive_in letter >>= λ element. Some (element, units)) ≡ Some found → IsFound (letter ∷ units) found
unfolding primitive_in
element_step true letter units found is e =
    let P : ℕ → Type 0 = λ l. IsFound (l ∷ units) found in
    subst P (sym (eqb-true letter 76 is)) (class_takes units found e)
element_step false letter units found is e =
    let a = bind_some (primitive_in letter) (λ element. Some (element, units)) found e in
    let p = found_with letter primitives a.0 primitives_are a.1 in
    let spelled : letter ∷ units ≡ letter_of a.0 ∷ (behind_letter a.0 ++ units) = ap (λ (l : ℕ). l ∷ units) p.0 ∙ ap (λ (b : List ℕ). letter_of a.0 ∷ (b ++ units)) (sym p.1.0) in
    subst (IsFound (letter ∷ units)) (same_Some (a.0, units) found a.2) (spelled, p.1.1)

element_takes : (units : List ℕ) (found : Element × List ℕ) → element_in units ≡ Some found → IsFound units found
unfolding element_in
element_takes [] found e = absurd (let f : None ≡ Some found = e in cc)
element_takes (letter ∷ units) found e = element_step (letter == 76) letter units found refl e

class_again : (name rest : List ℕ) → IsTrue (is_class_name name) → class_in ((name ++ 59 ∷ []) ++ rest) ≡ Some (Class name, rest)
unfolding class_in
class_again name rest is =
    ap (λ (us : List ℕ). split_in us >>= λ n. cond (is_class_name n.0) (Some (Class n.0, n.1)) None) (append_assoc name (59 ∷ []) rest)
    ∙ ap (λ (read : Option (List ℕ × List ℕ)). read >>= λ n. cond (is_class_name n.0) (Some (Class n.0, n.1)) None) (split_again true name rest is)
    ∙ ap (λ (b : Bool). cond b (Some (Class name, rest)) None) is

element_again : (e : Element) (rest : List ℕ) → IsElement e → element_in (letter_of e ∷ (behind_letter e ++ rest)) ≡ Some (e, rest)
unfolding element_in primitive_in
element_again Byte rest is = refl
element_again Char rest is = refl
element_again Double rest is = refl
element_again Float rest is = refl
element_again Int rest is = refl
element_again Long rest is = refl
element_again (Class name) rest is = class_again name rest is
element_again Short rest is = refl
element_again Boolean rest is = refl

-- ---- types

one_more : (n : ℕ) (units : List ℕ) → replicate (n + 1) 91 ++ units ≡ replicate n 91 ++ 91 ∷ units
one_more zero units = refl
one_more (suc n) units = let same : suc n + 1 ≡ suc (n + 1) = omega arith in ap (λ (k : ℕ). replicate k 91 ++ units) same ∙ ap (λ (us : List ℕ). 91 ∷ us) (one_more n units)

-- what a type that was read behind so many [ is
abbrev IsTypeAt : ℕ → List ℕ → FieldType × List ℕ → Type 0
IsTypeAt n units found = (replicate n 91 ++ units ≡ type_units found.0 ++ found.1) × IsType found.0

type_step : (b : Bool) (n unit : ℕ) (units : List ℕ) (found : FieldType × List ℕ) → (unit == 91) ≡ b → n ≤ 255
    → (n + 1 ≤ 255 → type_from (n + 1) units ≡ Some found → IsTypeAt (n + 1) units found)
    → cond b (cond (nat_lt n 255) (type_from (n + 1) units) None) (with_dimensions n (element_in (unit ∷ units))) ≡ Some found → IsTypeAt n (unit ∷ units) found
type_step true n unit units found is few others e =
    ⊎_elim
    (λ (below : nat_lt n 255 ≡ true).
    let read : type_from (n + 1) units ≡ Some found = ap (λ (b : Bool). cond b (type_from (n + 1) units) None) (sym below) ∙ e in
    let lt = ltb-true n 255 below in
    let o = others (omega (arith, lt)) read in
    let same : unit ≡ 91 = eqb-true unit 91 is in
    let P : ℕ → Type 0 = λ u. replicate n 91 ++ u ∷ units ≡ type_units found.0 ++ found.1 in
    (subst P (sym same) (sym (one_more n units) ∙ o.0), o.1))
    (λ (above : nat_lt n 255 ≡ false).
    absurd (let no : None ≡ Some found = ap (λ (b : Bool). cond b (type_from (n + 1) units) None) (sym above) ∙ e in cc))
    (two (nat_lt n 255))
type_step false n unit units found is few others e =
    let a = bind_some (element_in (unit ∷ units)) (λ x. let t : FieldType = record { dimensions = n; element = x.0 } in let p : FieldType × List ℕ = (t, x.1) in Some p) found e in
    let el = element_takes (unit ∷ units) a.0 a.1 in
    let t : FieldType = record { dimensions = n; element = a.0.0 } in
    let made : FieldType × List ℕ = (t, a.0.1) in
    let parts : replicate n 91 ++ unit ∷ units ≡ type_units t ++ a.0.1 = ap (λ (us : List ℕ). replicate n 91 ++ us) el.0 ∙ sym (append_assoc (replicate n 91) (letter_of a.0.0 ∷ behind_letter a.0.0) a.0.1) in
    subst (IsTypeAt n (unit ∷ units)) (same_Some made found a.2) (parts, (omega (arith, few), el.1))

type_takes : (n : ℕ) (units : List ℕ) (found : FieldType × List ℕ) → n ≤ 255 → type_from n units ≡ Some found → IsTypeAt n units found
unfolding type_from
type_takes n [] found few e = absurd (let f : None ≡ Some found = e in cc)
type_takes n (unit ∷ units) found few e = type_step (unit == 91) n unit units found refl few (λ less read. type_takes (n + 1) units found less read) e

letter_shut : (e : Element) → (letter_of e == 91) ≡ false
letter_shut Byte = refl
letter_shut Char = refl
letter_shut Double = refl
letter_shut Float = refl
letter_shut Int = refl
letter_shut Long = refl
letter_shut (Class name) = refl
letter_shut Short = refl
letter_shut Boolean = refl

letter_within : (e : Element) → (letter_of e == 41) ≡ false
letter_within Byte = refl
letter_within Char = refl
letter_within Double = refl
letter_within Float = refl
letter_within Int = refl
letter_within Long = refl
letter_within (Class name) = refl
letter_within Short = refl
letter_within Boolean = refl

abbrev typed : ℕ → Element → List ℕ → Option (FieldType × List ℕ)
typed n e rest = Some (record { dimensions = n; element = e }, rest)

type_again : (k n : ℕ) (e : Element) (rest : List ℕ) → n + k ≤ 255 → IsElement e → type_from n (replicate k 91 ++ (letter_of e ∷ (behind_letter e ++ rest))) ≡ typed (n + k) e rest
unfolding type_from
type_again zero n e rest few is =
    ap (λ (b : Bool). cond b (cond (nat_lt n 255) (type_from (n + 1) (behind_letter e ++ rest)) None) (with_dimensions n (element_in (letter_of e ∷ (behind_letter e ++ rest))))) (letter_shut e)
    ∙ ap (with_dimensions n) (element_again e rest is)
    ∙ ap (λ (m : ℕ). typed m e rest) (let same : n ≡ n + 0 = omega arith in same)
type_again (suc k) n e rest few is =
    let below : nat_lt n 255 ≡ true = lt-ltb n 255 (omega (arith, few)) in
    let more : List ℕ = replicate k 91 ++ (letter_of e ∷ (behind_letter e ++ rest)) in
    ap (λ (b : Bool). cond b (type_from (n + 1) more) None) below
    ∙ type_again k (n + 1) e rest (omega (arith, few)) is
    ∙ ap (λ (m : ℕ). typed m e rest) (let same : n + 1 + k ≡ n + suc k = omega arith in same)

type_in_again : (t : FieldType) (rest : List ℕ) → IsType t → type_in (type_units t ++ rest) ≡ Some (t, rest)
type_in_again t rest is =
    ap (type_from 0) (append_assoc (replicate t.dimensions 91) (letter_of t.element ∷ behind_letter t.element) rest)
    ∙ type_again t.dimensions 0 t.element rest (let lt = is.0 in omega (arith, lt)) is.1
    ∙ ap (λ (m : ℕ). typed m t.element rest) (let same : 0 + t.dimensions ≡ t.dimensions = omega arith in same)

pub field_takes : (units : List ℕ) (t : FieldType) → field_in units ≡ Some t → IsFieldDescriptor units t
unfolding field_in
field_takes units t e =
    let a = bind_some (type_in units) whole t e in
    let w = whole_is a.0 t a.2 in
    let h = type_takes 0 units a.0 (omega arith) a.1 in
    let spelled : units ≡ type_units a.0.0 = h.0 ∙ ap (λ (r : List ℕ). type_units a.0.0 ++ r) w.1 ∙ append-nil (type_units a.0.0) in
    let P : FieldType → Type 0 = λ x. IsFieldDescriptor units x in
    subst P w.0 (h.1, spelled)

pub field_again : (units : List ℕ) (t : FieldType) → IsFieldDescriptor units t → field_in units ≡ Some t
unfolding field_in
field_again units t is =
    ap (λ (us : List ℕ). type_in us >>= whole) (is.1 ∙ sym (append-nil (type_units t)))
    ∙ ap (λ (read : Option (FieldType × List ℕ)). read >>= whole) (type_in_again t [] is.0)

-- ---- the types of a method

type_begins : (t : FieldType) (rest : List ℕ) → behind 41 (type_units t ++ rest) ≡ None
type_begins t rest = begins t.dimensions t.element rest
  where
    begins : (k : ℕ) (e : Element) (r : List ℕ) → behind 41 ((replicate k 91 ++ (letter_of e ∷ behind_letter e)) ++ r) ≡ None
    begins zero e r = ap (λ (b : Bool). cond b (Some (behind_letter e ++ r)) None) (letter_within e)
    begins (suc k) e r = refl

abbrev ended : List ℕ → Option (List FieldType × List ℕ)
ended units = Some ([], units)

types_step : (b : Bool) (n unit : ℕ) (units : List ℕ) (found : List FieldType × List ℕ) → (unit == 41) ≡ b
    → ((us : List ℕ) (f : List FieldType × List ℕ) → types_in n us ≡ Some f → (us ≡ flat_map type_units f.0 ++ 41 ∷ f.1) × AllByRecursion IsType f.0)
    → cond b (ended units) (type_in (unit ∷ units) >>= λ first. types_in n first.1 >>= λ others. Some (first.0 ∷ others.0, others.1)) ≡ Some found
    → (unit ∷ units ≡ flat_map type_units found.0 ++ 41 ∷ found.1) × AllByRecursion IsType found.0
types_step true n unit units found is others e =
    let P : List FieldType × List ℕ → Type 0 = λ f. (unit ∷ units ≡ flat_map type_units f.0 ++ 41 ∷ f.1) × AllByRecursion IsType f.0 in
    subst P (same_Some ([], units) found e) (ap (λ (u : ℕ). u ∷ units) (eqb-true unit 41 is), tt)
types_step false n unit units found is others e =
    let a = bind_some (type_in (unit ∷ units)) (λ first. types_in n first.1 >>= λ o. Some (first.0 ∷ o.0, o.1)) found e in
    let b = bind_some (types_in n a.0.1) (λ o. Some (a.0.0 ∷ o.0, o.1)) found a.2 in
    let first = type_takes 0 (unit ∷ units) a.0 (omega arith) a.1 in
    let rest = others a.0.1 b.0 b.1 in
    let made : List FieldType × List ℕ = (a.0.0 ∷ b.0.0, b.0.1) in
    let parts : unit ∷ units ≡ flat_map type_units (a.0.0 ∷ b.0.0) ++ 41 ∷ b.0.1 =
    first.0 ∙ ap (λ (us : List ℕ). type_units a.0.0 ++ us) rest.0 ∙ sym (append_assoc (type_units a.0.0) (flat_map type_units b.0.0) (41 ∷ b.0.1))
    ∙ ap (λ (us : List ℕ). us ++ 41 ∷ b.0.1) (sym (flat_map-cons type_units a.0.0 b.0.0)) in
    let P : List FieldType × List ℕ → Type 0 = λ f. (unit ∷ units ≡ flat_map type_units f.0 ++ 41 ∷ f.1) × AllByRecursion IsType f.0 in
    subst P (same_Some made found b.2) (parts, (first.1, rest.1))

types_take : (n : ℕ) (units : List ℕ) (found : List FieldType × List ℕ) → types_in n units ≡ Some found → (units ≡ flat_map type_units found.0 ++ 41 ∷ found.1) × AllByRecursion IsType found.0
unfolding types_in
types_take zero units found e = absurd (let f : None ≡ Some found = e in cc)
types_take (suc n) [] found e = absurd (let f : None ≡ Some found = e in cc)
types_take (suc n) (unit ∷ units) found e = types_step (unit == 41) n unit units found refl (types_take n) e

types_again : (ts : List FieldType) (n : ℕ) (rest : List ℕ) → length ts < n → AllByRecursion IsType ts → types_in n (flat_map type_units ts ++ 41 ∷ rest) ≡ Some (ts, rest)
unfolding types_in
types_again [] zero rest lt all = absurd (omega (arith, lt))
types_again [] (suc n) rest lt all = refl
types_again (t ∷ ts) zero rest lt all = absurd (omega (arith, lt))
types_again (t ∷ ts) (suc n) rest lt all =
    let more : List ℕ = flat_map type_units ts ++ 41 ∷ rest in
    let text : flat_map type_units (t ∷ ts) ++ 41 ∷ rest ≡ type_units t ++ more = ap (λ (us : List ℕ). us ++ 41 ∷ rest) (flat_map-cons type_units t ts) ∙ append_assoc (type_units t) (flat_map type_units ts) (41 ∷ rest) in
    ap (types_in (suc n)) text
    ∙ types_more n (type_units t ++ more) (sym (type_begins t more))
    ∙ ap (λ (read : Option (FieldType × List ℕ)). read >>= λ first. types_in n first.1 >>= λ others. Some (first.0 ∷ others.0, others.1)) (type_in_again t more all.0)
    ∙ ap (λ (read : Option (List FieldType × List ℕ)). read >>= λ others. Some (t ∷ others.0, others.1)) (types_again ts n rest (omega (arith, lt)) all.1)

-- each type has a unit
types_short : (ts : List FieldType) (rest : List ℕ) → length ts < length (flat_map type_units ts ++ 41 ∷ rest)
types_short [] rest = omega arith
types_short (t ∷ ts) rest =
    let o = types_short ts rest in
    let text : flat_map type_units (t ∷ ts) ++ 41 ∷ rest ≡ type_units t ++ (flat_map type_units ts ++ 41 ∷ rest) = ap (λ (us : List ℕ). us ++ 41 ∷ rest) (flat_map-cons type_units t ts) ∙ append_assoc (type_units t) (flat_map type_units ts) (41 ∷ rest) in
    let one : 1 ≤ length (type_units t) = (let l = length-append (replicate t.dimensions 91) (letter_of t.element ∷ behind_letter t.element) in omega (arith, l)) in
    let whole_length = ap length text ∙ length-append (type_units t) (flat_map type_units ts ++ 41 ∷ rest) in
    omega (arith, o, one, whole_length)

result_step : (b : Bool) (unit : ℕ) (units : List ℕ) (r : Option FieldType) → (unit == 86 && length units == 0) ≡ b
    → cond b (Some None) (field_in (unit ∷ units) >>= λ t. Some (Some t)) ≡ Some r → (unit ∷ units ≡ result_units r) × IsResult r
result_step true unit units r is e =
    let p = and_parts (unit == 86) (length units == 0) is in
    let P : Option FieldType → Type 0 = λ x. (unit ∷ units ≡ result_units x) × IsResult x in
    let nil : units ≡ [] = nil_from_length units (eqb-true (length units) 0 p.1) in
    subst P (same_Some None r e) (ap (λ (u : ℕ). u ∷ units) (eqb-true unit 86 p.0) ∙ ap (λ (us : List ℕ). 86 ∷ us) nil, tt)
result_step false unit units r is e =
    let a = bind_some (field_in (unit ∷ units)) (λ t. Some (Some t)) r e in
    let f = field_takes (unit ∷ units) a.0 a.1 in
    let P : Option FieldType → Type 0 = λ x. (unit ∷ units ≡ result_units x) × IsResult x in
    subst P (same_Some (Some a.0) r a.2) (f.1, f.0)

result_takes : (units : List ℕ) (r : Option FieldType) → result_in units ≡ Some r → (units ≡ result_units r) × IsResult r
unfolding result_in
result_takes [] r e = absurd (let f : None ≡ Some r = e in cc)
result_takes (unit ∷ units) r e = result_step (unit == 86 && length units == 0) unit units r refl e

letter_no_void : (e : Element) → (letter_of e == 86) ≡ false
letter_no_void Byte = refl
letter_no_void Char = refl
letter_no_void Double = refl
letter_no_void Float = refl
letter_no_void Int = refl
letter_no_void Long = refl
letter_no_void (Class name) = refl
letter_no_void Short = refl
letter_no_void Boolean = refl

result_units_again : (k : ℕ) (e : Element) → result_in (replicate k 91 ++ (letter_of e ∷ behind_letter e)) ≡ (field_in (replicate k 91 ++ (letter_of e ∷ behind_letter e)) >>= λ t. Some (Some t))
unfolding result_in
result_units_again zero e = ap (λ (b : Bool). cond (b && length (behind_letter e) == 0) (Some None) (field_in (letter_of e ∷ behind_letter e) >>= λ t. Some (Some t))) (letter_no_void e)
result_units_again (suc k) e = refl

result_again : (r : Option FieldType) → IsResult r → result_in (result_units r) ≡ Some r
unfolding result_in
result_again None is = refl
result_again (Some t) is = result_units_again t.dimensions t.element ∙ ap (λ (read : Option FieldType). read >>= λ x. Some (Some x)) (field_again (type_units t) t (is, refl))

abbrev few : List FieldType → Option FieldType → Option MethodType
few parameters result = cond (nat_le (argument_words parameters) 255) (Some (record { parameters = parameters; result = result })) None

abbrev behind_open : List ℕ → Option MethodType
behind_open units = types_in (length units) units >>= λ p. result_in p.1 >>= λ r. few p.0 r

method_step : (b : Bool) (unit : ℕ) (units : List ℕ) (m : MethodType) → (unit == 40) ≡ b → cond b (behind_open units) None ≡ Some m → IsMethodDescriptor (unit ∷ units) m
method_step false unit units m is e = absurd (let f : None ≡ Some m = e in cc)
method_step true unit units m is e =
    let a = bind_some (types_in (length units) units) (λ p. result_in p.1 >>= λ r. few p.0 r) m e in
    let b = bind_some (result_in a.0.1) (λ r. few a.0.0 r) m a.2 in
    let p = passed (nat_le (argument_words a.0.0) 255) (record { parameters = a.0.0; result = b.0 }) m b.2 in
    let t = types_take (length units) units a.0 a.1 in
    let r = result_takes a.0.1 b.0 b.1 in
    let spelled : unit ∷ units ≡ 40 ∷ (flat_map type_units a.0.0 ++ 41 ∷ result_units b.0) =
    ap (λ (u : ℕ). u ∷ units) (eqb-true unit 40 is) ∙ ap (λ (us : List ℕ). 40 ∷ us) (t.0 ∙ ap (λ (us : List ℕ). flat_map type_units a.0.0 ++ 41 ∷ us) r.0) in
    subst (IsMethodDescriptor (unit ∷ units)) p.1 (record { parameters = t.1; result = r.1; words = leb-true (argument_words a.0.0) 255 p.0 }, spelled)

pub method_takes : (units : List ℕ) (m : MethodType) → method_in units ≡ Some m → IsMethodDescriptor units m
unfolding method_in
method_takes [] m e = absurd (let f : None ≡ Some m = e in cc)
method_takes (unit ∷ units) m e = method_step (unit == 40) unit units m refl e

pub method_again : (units : List ℕ) (m : MethodType) → IsMethodDescriptor units m → method_in units ≡ Some m
unfolding method_in
method_again units m is =
    let inner : List ℕ = flat_map type_units m.parameters ++ 41 ∷ result_units m.result in
    ap method_in is.1
    ∙ ap (λ (read : Option (List FieldType × List ℕ)). read >>= λ p. result_in p.1 >>= λ r. few p.0 r) (types_again m.parameters (length inner) (result_units m.result) (types_short m.parameters (result_units m.result)) is.0.parameters)
    ∙ ap (λ (read : Option (Option FieldType)). read >>= λ r. few m.parameters r) (result_again m.result is.0.result)
    ∙ ap (λ (b : Bool). cond b (Some m) None) (le-leb (argument_words m.parameters) 255 is.0.words)

pub fields : (units : List ℕ) (t : FieldType) → (field_in units ≡ Some t) ↔ IsFieldDescriptor units t
fields units t = (field_takes units t, field_again units t)

pub methods : (units : List ℕ) (m : MethodType) → (method_in units ≡ Some m) ↔ IsMethodDescriptor units m
methods units m = (method_takes units m, method_again units m)
