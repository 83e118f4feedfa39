-- A part that is read is spelled so, and a part that is spelled so is read: attributes, members and what stands behind the pool.
use Rattle.std.proofs.Common.{◌≡◌, ℕ, ◌^◌, ◌<◌, List, [], ◌++◌, length, Option, Some, refl, sym, ap, subst, ◌∙◌, append_assoc}
use Rattle.std.proofs.lemmas.List.{append-nil}
use Rattle.class_pool.specs.declared.entry.Entry.{Entry}
use Rattle.class_pool.specs.Spelling.{u2}
use Rattle.std.specs.Prelude.{None, Result, Ok, Err, IfOk, MatchResult}
use Rattle.base.specs.declared.fault.FormatFault.{FormatFault}
use Rattle.base.specs.declared.fault.FormatFault.TheVariants as faults
use Rattle.base.specs.Reading.{Gives}
use Rattle.base.specs.Reading.{◌>>=◌}
use Rattle.class_pool.specs.Reading.{number_in}
use Rattle.class_pool.specs.NumberLaws.{IsBytes, bind_some, same_some, Takes, Takes-then, wide_2, number_takes, number_again}
use Rattle.class_pool.specs.declared.class.Attribute.{Attribute}
use Rattle.class_pool.specs.declared.class.Body.{Body}
use Rattle.class_pool.specs.declared.class.Body.TheVariants.{Code, ConstantValue, Bytes}
use Rattle.class_pool.specs.declared.class.Member.{Member}
use Rattle.class_pool.specs.declared.class.ClassFile.{ClassFile}
use Rattle.class_file.specs.declared.structure.Identity.{Identity}
use Rattle.class_file.specs.declared.structure.Members.{Members}
use Rattle.class_pool.specs.declared.kind.Owner.{Owner}
use Rattle.class_pool.specs.declared.kind.Owner.TheVariants as owners
use Rattle.class_pool.specs.declared.kind.Kind.{Kind}
use Rattle.class_pool.specs.declared.kind.Kind.TheVariants as kinds
use Rattle.class_pool.specs.Kind.{kind_of}
use Rattle.class_pool.specs.ClassSpelling.{NamedParts, counted, framed, code_bytes, body_bytes, attribute_bytes, member_bytes, inside_bytes}
use Rattle.class_file.specs.Parts.{identity_bytes, members_bytes, identity_of, members_of, IsIdentity, AreReadMembers}
use Rattle.class_file.specs.InsideGrammar.{IsInsideOf, OneInside}
use Rattle.class_pool.specs.Structure.{IsHalf, HasCodeRange, HasKind, IsAttribute, HasMemberRange, HasPartsInRange}
use Rattle.base.specs.Reading.{whole}
use Rattle.class_file.specs.InsideReading.{counted_in, named_in, code_in, body_in, attribute_in, member_in, identity_in, members_in, class_of, inside_in}
use Rattle.class_file.proofs.PartLaws.{IsTaken, IsAgain, step, counted_takes, counted_again, named_frame, named_again, code_takes, code_again, whole_is}

-- ---- bodies

-- all of the bytes are a part
all_of : {X : Type 0} (spelled : X → List ℕ) (bytes : List ℕ) (x y : X) (rest : List ℕ) → Takes bytes (spelled x) rest → x ≡ y → rest ≡ [] → bytes ≡ spelled y
all_of spelled bytes x y rest t same nil = t.parts ∙ ap (λ (r : List ℕ). spelled x ++ r) nil ∙ append-nil (spelled x) ∙ ap spelled same

body_takes : (kind : Kind) (bytes : List ℕ) (body : Body) → IsBytes bytes → body_in kind bytes ≡ Some body → (bytes ≡ body_bytes body) × HasKind kind body
unfolding body_in
body_takes kinds.Code bytes body small e =
    let a = bind_some (code_in bytes) (λ found. whole found >>= λ code. Some (Code code)) body e in
    let b = bind_some (whole a.0) (λ code. Some (Code code)) body a.2 in
    let t = code_takes bytes a.0.0 a.0.1 small a.1 in
    let w = whole_is a.0 b.0 b.1 in
    let P : Body → Type 0 = λ y. (bytes ≡ body_bytes y) × HasKind kinds.Code y in
    subst P (same_some (Code b.0) body b.2) (all_of code_bytes bytes a.0.0 b.0 a.0.1 t.0 w.0 w.1, subst HasCodeRange w.0 t.1)
body_takes kinds.ConstantValue bytes body small e =
    let a = bind_some (number_in 2 bytes) (λ found. whole found >>= λ constant. Some (ConstantValue constant)) body e in
    let b = bind_some (whole a.0) (λ constant. Some (ConstantValue constant)) body a.2 in
    let t = number_takes 2 wide_2 bytes a.0.0 a.0.1 small a.1 in
    let w = whole_is a.0 b.0 b.1 in
    let P : Body → Type 0 = λ y. (bytes ≡ body_bytes y) × HasKind kinds.ConstantValue y in
    subst P (same_some (ConstantValue b.0) body b.2) (all_of u2 bytes a.0.0 b.0 a.0.1 t.0 w.0 w.1, subst IsHalf w.0 t.1)
body_takes kinds.Bytes bytes body small e =
    let P : Body → Type 0 = λ y. (bytes ≡ body_bytes y) × HasKind kinds.Bytes y in
    subst P (same_some (Bytes bytes) body e) (refl, tt)

body_again : (kind : Kind) (body : Body) → HasKind kind body → body_in kind (body_bytes body) ≡ Some body
unfolding body_in
body_again kinds.Code (Code c) fits =
    ap (λ (b : List ℕ). code_in b >>= λ found. whole found >>= λ code. Some (Code code)) (sym (append-nil (code_bytes c)))
    ∙ step code_in (λ found. whole found >>= λ code. Some (Code code)) (code_bytes c ++ []) (c, []) (code_again c [] fits)
body_again kinds.Code (ConstantValue n) fits = absurd fits
body_again kinds.Code (Bytes b) fits = absurd fits
body_again kinds.ConstantValue (ConstantValue n) fits =
    ap (λ (b : List ℕ). number_in 2 b >>= λ found. whole found >>= λ constant. Some (ConstantValue constant)) (sym (append-nil (u2 n)))
    ∙ step (number_in 2) (λ found. whole found >>= λ constant. Some (ConstantValue constant)) (u2 n ++ []) (n, []) (number_again 2 wide_2 n [] fits)
body_again kinds.ConstantValue (Code c) fits = absurd fits
body_again kinds.ConstantValue (Bytes b) fits = absurd fits
body_again kinds.Bytes (Bytes b) fits = refl
body_again kinds.Bytes (Code c) fits = absurd fits
body_again kinds.Bytes (ConstantValue n) fits = absurd fits

-- ---- attributes

attribute_takes : (owner : Owner) (pool : List Entry) → IsTaken attribute_bytes (IsAttribute owner pool) (attribute_in owner pool)
unfolding attribute_in
attribute_takes owner pool bytes attribute rest small e =
    let a = bind_some (named_in bytes) (λ found. body_in (kind_of owner pool found.0.0) found.0.1 >>= λ body. let x : Attribute = record { name = found.0.0; body = body } in let p : Attribute × List ℕ = (x, found.1) in Some p) (attribute, rest) e in
    let b = bind_some (body_in (kind_of owner pool a.0.0.0) a.0.0.1) (λ body. let x : Attribute = record { name = a.0.0.0; body = body } in let p : Attribute × List ℕ = (x, a.0.1) in Some p) (attribute, rest) a.2 in
    let t = named_frame bytes a.0.0 a.0.1 small a.1 in
    let y = body_takes (kind_of owner pool a.0.0.0) a.0.0.1 b.0 t.2 b.1 in
    let made : Attribute × List ℕ = (record { name = a.0.0.0; body = b.0 }, a.0.1) in
    let same : Takes bytes (attribute_bytes made.0) made.1 = subst (λ (c : List ℕ). Takes bytes (framed a.0.0.0 c) a.0.1) y.0 t.0 in
    let size : length (body_bytes b.0) < 2 ^ 32 = subst (λ (c : List ℕ). length c < 2 ^ 32) y.0 t.1.1 in
    let P : Attribute × List ℕ → Type 0 = λ p. Takes bytes (attribute_bytes p.0) p.1 × IsAttribute owner pool p.0 in
    subst P (same_some made (attribute, rest) b.2) (same, record { name = t.1.0; size = size; body = y.1 })

attribute_again : (owner : Owner) (pool : List Entry) → IsAgain attribute_bytes (IsAttribute owner pool) (attribute_in owner pool)
unfolding attribute_in
attribute_again owner pool a rest fits =
    let last = λ (found : NamedParts × List ℕ) (body : Body). let x : Attribute = record { name = found.0.0; body = body } in let p : Attribute × List ℕ = (x, found.1) in Some p in
    let named : NamedParts × List ℕ = ((a.name, body_bytes a.body), rest) in
    step named_in (λ found. body_in (kind_of owner pool found.0.0) found.0.1 >>= last found) (attribute_bytes a ++ rest) named (named_again (a.name, body_bytes a.body) rest (fits.name, fits.size))
    ∙ ap (λ (read : Option Body). read >>= last named) (body_again (kind_of owner pool a.name) a.body fits.body)

-- ---- members

member_takes : (owner : Owner) (pool : List Entry) → IsTaken member_bytes (HasMemberRange owner pool) (member_in owner pool)
unfolding member_in
member_takes owner pool bytes member rest small e =
    let last = λ (f n d : ℕ) (k : List Attribute × List ℕ). let x : Member = record { flags = f; name = n; descriptor = d; attributes = k.0 } in let p : Member × List ℕ = (x, k.1) in Some p in
    let a = bind_some (number_in 2 bytes) (λ f. number_in 2 f.1 >>= λ n. number_in 2 n.1 >>= λ d. counted_in (attribute_in owner pool) d.1 >>= last f.0 n.0 d.0) (member, rest) e in
    let b = bind_some (number_in 2 a.0.1) (λ n. number_in 2 n.1 >>= λ d. counted_in (attribute_in owner pool) d.1 >>= last a.0.0 n.0 d.0) (member, rest) a.2 in
    let d = bind_some (number_in 2 b.0.1) (λ d. counted_in (attribute_in owner pool) d.1 >>= last a.0.0 b.0.0 d.0) (member, rest) b.2 in
    let k = bind_some (counted_in (attribute_in owner pool) d.0.1) (last a.0.0 b.0.0 d.0.0) (member, rest) d.2 in
    let t0 = number_takes 2 wide_2 bytes a.0.0 a.0.1 small a.1 in
    let t1 = number_takes 2 wide_2 a.0.1 b.0.0 b.0.1 t0.0.rest_fits b.1 in
    let t2 = number_takes 2 wide_2 b.0.1 d.0.0 d.0.1 t1.0.rest_fits d.1 in
    let t3 = counted_takes attribute_bytes (IsAttribute owner pool) (attribute_in owner pool) (attribute_takes owner pool) d.0.1 k.0.0 k.0.1 t2.0.rest_fits k.1 in
    let e23 = Takes-then b.0.1 (u2 d.0.0) d.0.1 (counted attribute_bytes k.0.0) k.0.1 t2.0 t3.0 in
    let e13 = Takes-then a.0.1 (u2 b.0.0) b.0.1 (u2 d.0.0 ++ counted attribute_bytes k.0.0) k.0.1 t1.0 e23 in
    let e03 = Takes-then bytes (u2 a.0.0) a.0.1 (u2 b.0.0 ++ (u2 d.0.0 ++ counted attribute_bytes k.0.0)) k.0.1 t0.0 e13 in
    let made : Member × List ℕ = (record { flags = a.0.0; name = b.0.0; descriptor = d.0.0; attributes = k.0.0 }, k.0.1) in
    let P : Member × List ℕ → Type 0 = λ p. Takes bytes (member_bytes p.0) p.1 × HasMemberRange owner pool p.0 in
    subst P (same_some made (member, rest) k.2) (e03, record { flags = t0.1; name = t1.1; descriptor = t2.1; attributes = t3.1 })

member_again : (owner : Owner) (pool : List Entry) → IsAgain member_bytes (HasMemberRange owner pool) (member_in owner pool)
unfolding member_in
member_again owner pool m rest fits =
    let last = λ (f n d : ℕ) (k : List Attribute × List ℕ). let x : Member = record { flags = f; name = n; descriptor = d; attributes = k.0 } in let p : Member × List ℕ = (x, k.1) in Some p in
    let r3 : List ℕ = counted attribute_bytes m.attributes ++ rest in
    let r2 : List ℕ = u2 m.descriptor ++ r3 in
    let r1 : List ℕ = u2 m.name ++ r2 in
    step (number_in 2) (λ f. number_in 2 f.1 >>= λ n. number_in 2 n.1 >>= λ d. counted_in (attribute_in owner pool) d.1 >>= last f.0 n.0 d.0) (u2 m.flags ++ r1) (m.flags, r1) (number_again 2 wide_2 m.flags r1 fits.flags)
    ∙ step (number_in 2) (λ n. number_in 2 n.1 >>= λ d. counted_in (attribute_in owner pool) d.1 >>= last m.flags n.0 d.0) r1 (m.name, r2) (number_again 2 wide_2 m.name r2 fits.name)
    ∙ step (number_in 2) (λ d. counted_in (attribute_in owner pool) d.1 >>= last m.flags m.name d.0) r2 (m.descriptor, r3) (number_again 2 wide_2 m.descriptor r3 fits.descriptor)
    ∙ step (counted_in (attribute_in owner pool)) (last m.flags m.name m.descriptor) r3 (m.attributes, rest) (counted_again attribute_bytes (IsAttribute owner pool) (attribute_in owner pool) (attribute_again owner pool) m.attributes rest fits.attributes)

-- ---- what stands behind the pool

number_is : IsTaken u2 IsHalf (number_in 2)
number_is = number_takes 2 wide_2

number_more : IsAgain u2 IsHalf (number_in 2)
number_more = number_again 2 wide_2

identity_takes : IsTaken identity_bytes IsIdentity identity_in
unfolding identity_in
identity_takes bytes identity rest small e =
    let last = λ (f t s : ℕ) (k : List ℕ × List ℕ). let x : Identity = record { flags = f; this_class = t; super_class = s; interfaces = k.0 } in let p : Identity × List ℕ = (x, k.1) in Some p in
    let a = bind_some (number_in 2 bytes) (λ f. number_in 2 f.1 >>= λ t. number_in 2 t.1 >>= λ s. counted_in (number_in 2) s.1 >>= last f.0 t.0 s.0) (identity, rest) e in
    let b = bind_some (number_in 2 a.0.1) (λ t. number_in 2 t.1 >>= λ s. counted_in (number_in 2) s.1 >>= last a.0.0 t.0 s.0) (identity, rest) a.2 in
    let d = bind_some (number_in 2 b.0.1) (λ s. counted_in (number_in 2) s.1 >>= last a.0.0 b.0.0 s.0) (identity, rest) b.2 in
    let k = bind_some (counted_in (number_in 2) d.0.1) (last a.0.0 b.0.0 d.0.0) (identity, rest) d.2 in
    let t0 = number_is bytes a.0.0 a.0.1 small a.1 in
    let t1 = number_is a.0.1 b.0.0 b.0.1 t0.0.rest_fits b.1 in
    let t2 = number_is b.0.1 d.0.0 d.0.1 t1.0.rest_fits d.1 in
    let t3 = counted_takes u2 IsHalf (number_in 2) number_is d.0.1 k.0.0 k.0.1 t2.0.rest_fits k.1 in
    let e2 = Takes-then b.0.1 (u2 d.0.0) d.0.1 (counted u2 k.0.0) k.0.1 t2.0 t3.0 in
    let e1 = Takes-then a.0.1 (u2 b.0.0) b.0.1 (u2 d.0.0 ++ counted u2 k.0.0) k.0.1 t1.0 e2 in
    let e0 = Takes-then bytes (u2 a.0.0) a.0.1 (u2 b.0.0 ++ (u2 d.0.0 ++ counted u2 k.0.0)) k.0.1 t0.0 e1 in
    let made : Identity × List ℕ = (record { flags = a.0.0; this_class = b.0.0; super_class = d.0.0; interfaces = k.0.0 }, k.0.1) in
    let P : Identity × List ℕ → Type 0 = λ p. Takes bytes (identity_bytes p.0) p.1 × IsIdentity p.0 in
    subst P (same_some made (identity, rest) k.2) (e0, record { flags = t0.1; this_class = t1.1; super_class = t2.1; interfaces = t3.1 })

identity_again : IsAgain identity_bytes IsIdentity identity_in
unfolding identity_in
identity_again i rest fits =
    let last = λ (f t s : ℕ) (k : List ℕ × List ℕ). let x : Identity = record { flags = f; this_class = t; super_class = s; interfaces = k.0 } in let p : Identity × List ℕ = (x, k.1) in Some p in
    let r3 : List ℕ = counted u2 i.interfaces ++ rest in
    let r2 : List ℕ = u2 i.super_class ++ r3 in
    let r1 : List ℕ = u2 i.this_class ++ r2 in
    step (number_in 2) (λ f. number_in 2 f.1 >>= λ t. number_in 2 t.1 >>= λ s. counted_in (number_in 2) s.1 >>= last f.0 t.0 s.0) (u2 i.flags ++ r1) (i.flags, r1) (number_more i.flags r1 fits.flags)
    ∙ step (number_in 2) (λ t. number_in 2 t.1 >>= λ s. counted_in (number_in 2) s.1 >>= last i.flags t.0 s.0) r1 (i.this_class, r2) (number_more i.this_class r2 fits.this_class)
    ∙ step (number_in 2) (λ s. counted_in (number_in 2) s.1 >>= last i.flags i.this_class s.0) r2 (i.super_class, r3) (number_more i.super_class r3 fits.super_class)
    ∙ step (counted_in (number_in 2)) (last i.flags i.this_class i.super_class) r3 (i.interfaces, rest) (counted_again u2 IsHalf (number_in 2) number_more i.interfaces rest fits.interfaces)

members_take : (pool : List Entry) → IsTaken members_bytes (AreReadMembers pool) (members_in pool)
unfolding members_in
members_take pool bytes members rest small e =
    let ms = λ (b : List ℕ). counted_in (member_in owners.Method pool) b in
    let ains = λ (b : List ℕ). counted_in (attribute_in owners.Class pool) b in
    let last = λ (f m : List Member) (k : List Attribute × List ℕ). let x : Members = record { fields = f; methods = m; attributes = k.0 } in let p : Members × List ℕ = (x, k.1) in Some p in
    let a = bind_some (counted_in (member_in owners.Field pool) bytes) (λ f. ms f.1 >>= λ m. ains m.1 >>= last f.0 m.0) (members, rest) e in
    let b = bind_some (ms a.0.1) (λ m. ains m.1 >>= last a.0.0 m.0) (members, rest) a.2 in
    let k = bind_some (ains b.0.1) (last a.0.0 b.0.0) (members, rest) b.2 in
    let t0 = counted_takes member_bytes (HasMemberRange owners.Field pool) (member_in owners.Field pool) (member_takes owners.Field pool) bytes a.0.0 a.0.1 small a.1 in
    let t1 = counted_takes member_bytes (HasMemberRange owners.Method pool) (member_in owners.Method pool) (member_takes owners.Method pool) a.0.1 b.0.0 b.0.1 t0.0.rest_fits b.1 in
    let t2 = counted_takes attribute_bytes (IsAttribute owners.Class pool) (attribute_in owners.Class pool) (attribute_takes owners.Class pool) b.0.1 k.0.0 k.0.1 t1.0.rest_fits k.1 in
    let e1 = Takes-then a.0.1 (counted member_bytes b.0.0) b.0.1 (counted attribute_bytes k.0.0) k.0.1 t1.0 t2.0 in
    let e0 = Takes-then bytes (counted member_bytes a.0.0) a.0.1 (counted member_bytes b.0.0 ++ counted attribute_bytes k.0.0) k.0.1 t0.0 e1 in
    let made : Members × List ℕ = (record { fields = a.0.0; methods = b.0.0; attributes = k.0.0 }, k.0.1) in
    let P : Members × List ℕ → Type 0 = λ p. Takes bytes (members_bytes p.0) p.1 × AreReadMembers pool p.0 in
    subst P (same_some made (members, rest) k.2) (e0, record { fields = t0.1; methods = t1.1; attributes = t2.1 })

members_again : (pool : List Entry) → IsAgain members_bytes (AreReadMembers pool) (members_in pool)
unfolding members_in
members_again pool m rest fits =
    let ms = λ (b : List ℕ). counted_in (member_in owners.Method pool) b in
    let ains = λ (b : List ℕ). counted_in (attribute_in owners.Class pool) b in
    let last = λ (f m : List Member) (k : List Attribute × List ℕ). let x : Members = record { fields = f; methods = m; attributes = k.0 } in let p : Members × List ℕ = (x, k.1) in Some p in
    let r2 : List ℕ = counted attribute_bytes m.attributes ++ rest in
    let r1 : List ℕ = counted member_bytes m.methods ++ r2 in
    let inner : (counted member_bytes m.methods ++ counted attribute_bytes m.attributes) ++ rest ≡ r1 = append_assoc (counted member_bytes m.methods) (counted attribute_bytes m.attributes) rest in
    let text : members_bytes m ++ rest ≡ counted member_bytes m.fields ++ r1 = append_assoc (counted member_bytes m.fields) (counted member_bytes m.methods ++ counted attribute_bytes m.attributes) rest ∙ ap (λ (b : List ℕ). counted member_bytes m.fields ++ b) inner in
    ap (members_in pool) text
    ∙ step (counted_in (member_in owners.Field pool)) (λ f. ms f.1 >>= λ n. ains n.1 >>= last f.0 n.0) (counted member_bytes m.fields ++ r1) (m.fields, r1) (counted_again member_bytes (HasMemberRange owners.Field pool) (member_in owners.Field pool) (member_again owners.Field pool) m.fields r1 fits.fields)
    ∙ step ms (λ n. ains n.1 >>= last m.fields n.0) r1 (m.methods, r2) (counted_again member_bytes (HasMemberRange owners.Method pool) (member_in owners.Method pool) (member_again owners.Method pool) m.methods r2 fits.methods)
    ∙ step ains (last m.fields m.methods) r2 (m.attributes, rest) (counted_again attribute_bytes (IsAttribute owners.Class pool) (attribute_in owners.Class pool) (attribute_again owners.Class pool) m.attributes rest fits.attributes)

pub inside_takes : (minor major : ℕ) (pool : List Entry) (bytes : List ℕ) (c : ClassFile) → IsBytes bytes → inside_in minor major pool bytes ≡ Some c → IsInsideOf minor major pool bytes c
unfolding inside_in
inside_takes minor major pool bytes c small e =
    let a = bind_some (identity_in bytes) (λ i. members_in pool i.1 >>= λ f. whole f >>= λ m. Some (class_of minor major pool i.0 m)) c e in
    let b = bind_some (members_in pool a.0.1) (λ f. whole f >>= λ m. Some (class_of minor major pool a.0.0 m)) c a.2 in
    let d = bind_some (whole b.0) (λ m. Some (class_of minor major pool a.0.0 m)) c b.2 in
    let t0 = identity_takes bytes a.0.0 a.0.1 small a.1 in
    let t1 = members_take pool a.0.1 b.0.0 b.0.1 t0.0.rest_fits b.1 in
    let w = whole_is b.0 d.0 d.1 in
    let behind : a.0.1 ≡ members_bytes d.0 = all_of members_bytes a.0.1 b.0.0 d.0 b.0.1 t1.0 w.0 w.1 in
    let spelling : bytes ≡ identity_bytes a.0.0 ++ members_bytes d.0 = t0.0.parts ∙ ap (λ (r : List ℕ). identity_bytes a.0.0 ++ r) behind in
    subst (IsInsideOf minor major pool bytes) (same_some (class_of minor major pool a.0.0 d.0) c d.2)
    (record {
      spelling = spelling;
      structure = let has : AreReadMembers pool d.0 = subst (AreReadMembers pool) w.0 t1.1 in record {
        flags = t0.1.flags;
        this_class = t0.1.this_class;
        super_class = t0.1.super_class;
        interfaces = t0.1.interfaces;
        fields = has.fields;
        methods = has.methods;
        attributes = has.attributes;
      };
      same_minor = refl;
      same_major = refl;
      same_pool = refl;
    })

pub inside_again : (c : ClassFile) → HasPartsInRange c → inside_in c.minor c.major c.pool (inside_bytes c) ≡ Some c
unfolding inside_in
inside_again c fits =
    let i : Identity = identity_of c in
    let m : Members = members_of c in
    let is : IsIdentity i = record { flags = fits.flags; this_class = fits.this_class; super_class = fits.super_class; interfaces = fits.interfaces } in
    let has : AreReadMembers c.pool m = record { fields = fits.fields; methods = fits.methods; attributes = fits.attributes } in
    step identity_in (λ x. members_in c.pool x.1 >>= λ f. whole f >>= λ y. Some (class_of c.minor c.major c.pool x.0 y)) (identity_bytes i ++ members_bytes m) (i, members_bytes m) (identity_again i (members_bytes m) is)
    ∙ ap (λ (b : List ℕ). members_in c.pool b >>= λ f. whole f >>= λ y. Some (class_of c.minor c.major c.pool i y)) (sym (append-nil (members_bytes m)))
    ∙ step (members_in c.pool) (λ f. whole f >>= λ y. Some (class_of c.minor c.major c.pool i y)) (members_bytes m ++ []) (m, []) (members_again c.pool m [] has)

-- what stands there is read
pub inside_read : (minor major : ℕ) (pool : List Entry) (bytes : List ℕ) (c : ClassFile) → IsInsideOf minor major pool bytes c → inside_in minor major pool bytes ≡ Some c
inside_read minor major pool bytes c is =
    ap (λ (b : List ℕ). inside_in minor major pool b) is.spelling
    ∙ ap (λ (p : List Entry). inside_in minor major p (inside_bytes c)) (sym is.same_pool)
    ∙ ap (λ (m : ℕ). inside_in m major c.pool (inside_bytes c)) (sym is.same_minor)
    ∙ ap (λ (m : ℕ). inside_in c.minor m c.pool (inside_bytes c)) (sym is.same_major)
    ∙ inside_again c is.structure

pub one_inside : OneInside
one_inside minor major pool bytes c d is_c is_d = same_some c d (sym (inside_read minor major pool bytes c is_c) ∙ inside_read minor major pool bytes d is_d)

-- ---- what the clauses of `inside_of` say

pub inside_found : (r : Result ClassFile FormatFault) (minor major : ℕ) (pool : List Entry) (bytes : List ℕ) → IsBytes bytes → Gives (λ x. x) r (inside_in minor major pool bytes) → IfOk r (IsInsideOf minor major pool bytes)
inside_found (Ok c) minor major pool bytes small is = inside_takes minor major pool bytes c small is
inside_found (Err fault) minor major pool bytes small is = tt

pub inside_only : (r : Result ClassFile FormatFault) (minor major : ℕ) (pool : List Entry) (bytes : List ℕ) → Gives (λ x. x) r (inside_in minor major pool bytes)
    → (c : ClassFile) → IsInsideOf minor major pool bytes c → MatchResult r (λ d. d ≡ c) (λ fault. fault ≡ faults.NoMemory)
inside_only (Ok d) minor major pool bytes is c there = same_some d c (sym is ∙ inside_read minor major pool bytes c there)
inside_only (Err faults.NoMemory) minor major pool bytes is c there = refl
inside_only (Err faults.Bad) minor major pool bytes is c there = absurd (let f : None ≡ Some c = sym is ∙ inside_read minor major pool bytes c there in cc)
