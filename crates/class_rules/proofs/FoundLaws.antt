-- What is found in the attributes of a right member is right.
use Rattle.std.proofs.Common.{◌≡◌, ℕ, ◌+◌, Bool, true, false, cond, List, [], ◌∷◌, Option, Some, None, refl, sym, ap, subst, ◌∙◌, arith}
use Rattle.std.specs.Prelude.{count_by}
use Rattle.std.specs.List.{AllByRecursion}
use Rattle.std.proofs.lemmas.Option.{same_Some}
use Rattle.std.proofs.lemmas.List.Sums.{sum_by-cons}
use Rattle.class_pool.specs.declared.class.Attribute.{Attribute}
use Rattle.class_pool.specs.declared.class.Body.{Body}
use Rattle.class_pool.specs.declared.class.Body.TheVariants.{Code, ConstantValue, Bytes}
use Rattle.class_pool.specs.declared.class.Code.{Code as CodeParts}
use Rattle.class_pool.specs.Found.{otherwise, first_of, code_part, constant_part}
use Rattle.class_rules.specs.Tests.{is_code, is_code_body}
use Rattle.class_rules.specs.Found.{MethodsHaveCode, FieldsHaveConstants}
use Rattle.class_pool.specs.declared.class.Member.{Member}
use Rattle.class_pool.specs.declared.class.ClassFile.{ClassFile}
use Rattle.class_pool.specs.Grammar.{entry_at}
use Rattle.class_rules.specs.Flags.{acc_static, IsSet}
use Rattle.class_rules.specs.Rules.{HasText, IsRightBody, IsRightConstant, IsRightCode, IsConstantOf, IsFieldConstant}

-- what is found meets what each part meets
found_in : {X Y : Type 0} (part : X → Option Y) (P : X → Type 0) (Q : Y → Type 0) → ((x : X) (y : Y) → part x ≡ Some y → P x → Q y) → (xs : List X) (y : Y) → AllByRecursion P xs → first_of part xs ≡ Some y → Q y
found_in part P Q each [] y all e = absurd (let f : None ≡ Some y = e in cc)
found_in {X} {Y} part P Q each (x ∷ xs) y all e = chosen (part x) refl (found_in part P Q each xs y all.1) e
  where
    chosen : (o : Option Y) → part x ≡ o → (first_of part xs ≡ Some y → Q y) → otherwise o (first_of part xs) ≡ Some y → Q y
    chosen (Some z) at rest f = subst Q (same_Some z y f) (each x z at all.0)
    chosen None at rest f = rest f

-- whether an attribute is code, and what its part then is
data Kinds (a : Attribute) : Type 0 where
  is_one : (c : CodeParts) → is_code a ≡ true → code_part a.body ≡ Some c → Kinds a
  is_none : is_code a ≡ false → code_part a.body ≡ None → Kinds a

kinds : (a : Attribute) (body : Body) → a.body ≡ body → Kinds a
kinds a (Code c) e = is_one c (ap is_code_body e) (ap code_part e)
kinds a (ConstantValue k) e = is_none (ap is_code_body e) (ap code_part e)
kinds a (Bytes b) e = is_none (ap is_code_body e) (ap code_part e)

abbrev codes : List Attribute → Option CodeParts
codes attributes = first_of (λ a. code_part a.body) attributes

counts : (a : Attribute) (attributes : List Attribute) → count_by is_code (a ∷ attributes) ≡ cond (is_code a) 1 0 + count_by is_code attributes
counts a attributes = sum_by-cons (λ x. cond (is_code x) 1 0) a attributes

none_found : (attributes : List Attribute) → count_by is_code attributes ≡ 0 → codes attributes ≡ None
none_found [] e = refl
none_found (a ∷ attributes) e = chosen (kinds a a.body refl) (none_found attributes)
  where
    chosen : Kinds a → (count_by is_code attributes ≡ 0 → codes attributes ≡ None) → codes (a ∷ attributes) ≡ None
    chosen (is_one c t part) rest = absurd (let n : 1 + count_by is_code attributes ≡ 0 = ap (λ (b : Bool). cond b 1 0 + count_by is_code attributes) (sym t) ∙ sym (counts a attributes) ∙ e in omega (arith, n))
    chosen (is_none f part) rest =
        let n : 0 + count_by is_code attributes ≡ 0 = ap (λ (b : Bool). cond b 1 0 + count_by is_code attributes) (sym f) ∙ sym (counts a attributes) ∙ e in
        ap (λ (o : Option CodeParts). otherwise o (first_of (λ x. code_part x.body) attributes)) part ∙ rest (omega (arith, n))

some_found : (attributes : List Attribute) → count_by is_code attributes ≡ 1 → (c : CodeParts) × (codes attributes ≡ Some c)
some_found [] e = absurd (omega (arith, e))
some_found (a ∷ attributes) e = chosen (kinds a a.body refl) (some_found attributes)
  where
    chosen : Kinds a → (count_by is_code attributes ≡ 1 → (c : CodeParts) × (codes attributes ≡ Some c)) → (c : CodeParts) × (codes (a ∷ attributes) ≡ Some c)
    chosen (is_one c t part) rest = (c, ap (λ (o : Option CodeParts). otherwise o (first_of (λ x. code_part x.body) attributes)) part)
    chosen (is_none f part) rest =
        let n : 0 + count_by is_code attributes ≡ 1 = ap (λ (b : Bool). cond b 1 0 + count_by is_code attributes) (sym f) ∙ sym (counts a attributes) ∙ e in
        let more = rest (omega (arith, n)) in
        (more.0, ap (λ (o : Option CodeParts). otherwise o (first_of (λ x. code_part x.body) attributes)) part ∙ more.1)

pub methods_have_code : MethodsHaveCode
methods_have_code c m is = (
  (λ code e. found_in (λ a. code_part a.body) (λ a. IsRightBody c.pool a.body) (IsRightCode c.pool) each m.attributes code is.code e),
  (λ h. none_found m.attributes (is.no_code h)),
  (λ a b. some_found m.attributes (is.one_code a b)),
)
  where
    right : (body : Body) (y : CodeParts) → code_part body ≡ Some y → IsRightBody c.pool body → IsRightCode c.pool y
    right (Code x) y e h = subst (IsRightCode c.pool) (same_Some x y e) h
    right (ConstantValue k) y e h = absurd (let f : None ≡ Some y = e in cc)
    right (Bytes b) y e h = absurd (let f : None ≡ Some y = e in cc)

    each : (a : Attribute) (y : CodeParts) → code_part a.body ≡ Some y → IsRightBody c.pool a.body → IsRightCode c.pool y
    each a y e h = right a.body y e h

abbrev Right : ClassFile → Member → ℕ → Type 0
Right c m index = (IsSet m.flags acc_static → HasText c.pool m.descriptor (IsConstantOf (entry_at c.pool index))) × (¬ IsSet m.flags acc_static → IsFieldConstant (entry_at c.pool index))

pub fields_have_constants : FieldsHaveConstants
fields_have_constants c m is index e = found_in (λ a. constant_part a.body) (λ a. IsRightConstant c.pool m a.body) (Right c m) (λ a y f h. right a.body y f h) m.attributes index is.constants e
  where
    right : (body : Body) (y : ℕ) → constant_part body ≡ Some y → IsRightConstant c.pool m body → Right c m y
    right (ConstantValue k) y f h = subst (Right c m) (same_Some k y f) h
    right (Code x) y f h = absurd (let g : None ≡ Some y = f in cc)
    right (Bytes b) y f h = absurd (let g : None ≡ Some y = f in cc)
