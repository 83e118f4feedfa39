-- The code in a class file is bytes, as all of it is.
use Rattle.std.proofs.Common.{◌≡◌, ℕ, suc, ◌^◌, ◌<◌, List, [], ◌∷◌, ◌++◌, length, get_or, Option, sym, subst}
use Rattle.std.specs.Prelude.{IfSome}
use Rattle.std.specs.List.{flat_map, AllByRecursion}
use Rattle.class_pool.specs.declared.class.Attribute.{Attribute}
use Rattle.class_pool.specs.declared.class.Body.{Body}
use Rattle.class_pool.specs.declared.class.Body.TheVariants as bodies
use Rattle.class_pool.specs.declared.class.Code.{Code}
use Rattle.class_pool.specs.declared.class.Member.{Member}
use Rattle.class_pool.specs.declared.class.ClassFile.{ClassFile}
use Rattle.class_pool.specs.Found.{otherwise, first_of, code_part}
use Rattle.class_pool.specs.Spelling.{u2, u4, pool_bytes}
use Rattle.class_pool.specs.ClassSpelling.{counted, handler_bytes, named_bytes, body_bytes, attribute_bytes, member_bytes, identity_bytes, members_bytes, inside_bytes, header_bytes, class_bytes}
use Rattle.class_rules.specs.Grammar.{IsClassOf}
use Rattle.program_tables.specs.Resolving.{HasBytes}

abbrev pub AreBytes : List ℕ → Type 0
AreBytes bytes = AllByRecursion (λ byte. byte < 2 ^ 8) bytes

pub bytes_fit : (bytes : List ℕ) → ((k : ℕ) → get_or bytes k 0 < 2 ^ 8) → AreBytes bytes
bytes_fit [] h = tt
bytes_fit (b ∷ bytes) h = (h 0, bytes_fit bytes (λ k. h (suc k)))

left : (xs ys : List ℕ) → AreBytes (xs ++ ys) → AreBytes xs
left [] ys h = tt
left (x ∷ xs) ys h = (h.0, left xs ys h.1)

right : (xs ys : List ℕ) → AreBytes (xs ++ ys) → AreBytes ys
right [] ys h = h
right (x ∷ xs) ys h = right xs ys h.1

code_fits : (c : Code) → AreBytes (body_bytes (bodies.Code c)) → AreBytes c.code
code_fits c h =
    let tables : List ℕ = counted handler_bytes c.handlers ++ counted named_bytes c.attributes in
    let stack = right (u2 c.max_stack) (u2 c.max_locals ++ (u4 (length c.code) ++ (c.code ++ tables))) h in
    let locals = right (u2 c.max_locals) (u4 (length c.code) ++ (c.code ++ tables)) stack in
    left c.code tables (right (u4 (length c.code)) (c.code ++ tables) locals)

by_body : (b : Body) (o : Option Code) → AreBytes (body_bytes b) → IfSome o (λ k. AreBytes k.code) → IfSome (otherwise (code_part b) o) (λ k. AreBytes k.code)
by_body (bodies.Code c) o h rest = code_fits c h
by_body b o h rest = rest

attributes_fit : (xs : List Attribute) → AreBytes (flat_map attribute_bytes xs) → IfSome (first_of (λ (a : Attribute). code_part a.body) xs) (λ k. AreBytes k.code)
attributes_fit [] h = tt
attributes_fit (a ∷ xs) h =
    let bytes : List ℕ = body_bytes a.body in
    let own = left (attribute_bytes a) (flat_map attribute_bytes xs) h in
    let body = right (u4 (length bytes)) bytes (right (u2 a.name) (u4 (length bytes) ++ bytes) own) in
    by_body a.body (first_of (λ (x : Attribute). code_part x.body) xs) body (attributes_fit xs (right (attribute_bytes a) (flat_map attribute_bytes xs) h))

methods_fit : (ms : List Member) → AreBytes (flat_map member_bytes ms) → AllByRecursion HasBytes ms
methods_fit [] h = tt
methods_fit (m ∷ ms) h =
    let attributes : List ℕ = counted attribute_bytes m.attributes in
    let own = left (member_bytes m) (flat_map member_bytes ms) h in
    let counted_ones = right (u2 m.descriptor) attributes (right (u2 m.name) (u2 m.descriptor ++ attributes) (right (u2 m.flags) (u2 m.name ++ (u2 m.descriptor ++ attributes)) own)) in
    (attributes_fit m.attributes (right (u2 (length m.attributes)) (flat_map attribute_bytes m.attributes) counted_ones), methods_fit ms (right (member_bytes m) (flat_map member_bytes ms) h))

class_fits : (k : ClassFile) → AreBytes (class_bytes k) → AllByRecursion HasBytes k.methods
class_fits k h =
    let pool : List ℕ = pool_bytes k.pool in
    let behind = right pool (inside_bytes k) (right (header_bytes k.minor k.major) (pool ++ inside_bytes k) h) in
    let members = right (identity_bytes k) (members_bytes k) behind in
    let methods : List ℕ = counted member_bytes k.methods in
    let others : List ℕ = counted attribute_bytes k.attributes in
    let own = left methods others (right (counted member_bytes k.fields) (methods ++ others) members) in
    methods_fit k.methods (right (u2 (length k.methods)) (flat_map member_bytes k.methods) own)

-- bytes are read as a class whose code is bytes
pub code_is_bytes : (bytes : List ℕ) (k : ClassFile) → ((i : ℕ) → get_or bytes i 0 < 2 ^ 8) → IsClassOf bytes k → AllByRecursion HasBytes k.methods
code_is_bytes bytes k fit is = class_fits k (subst AreBytes is.spelling (bytes_fit bytes fit))

-- one class more
appended : (ks : List ClassFile) (k : ClassFile) → AllByRecursion (λ (x : ClassFile). AllByRecursion HasBytes x.methods) ks → AllByRecursion HasBytes k.methods → AllByRecursion (λ (x : ClassFile). AllByRecursion HasBytes x.methods) (ks ++ k ∷ [])
appended [] k h one = (one, tt)
appended (x ∷ ks) k h one = (h.0, appended ks k h.1 one)

pub more_bytes : (old new : List ClassFile) (k : ClassFile) → new ≡ old ++ k ∷ [] → AllByRecursion (λ (x : ClassFile). AllByRecursion HasBytes x.methods) old → AllByRecursion HasBytes k.methods
    → AllByRecursion (λ (x : ClassFile). AllByRecursion HasBytes x.methods) new
more_bytes old new k is h one = subst (AllByRecursion (λ (x : ClassFile). AllByRecursion HasBytes x.methods)) (sym is) (appended old k h one)
