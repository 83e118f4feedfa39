-- What the image says of methods: their codes, their limits, and their places.
use Rattle.std.proofs.Common.{◌≡◌, ℕ, zero, suc, ◌+◌, ◌^◌, ◌<◌, ◌≤◌, List, [], ◌∷◌, Option, Some, None, map, take, length, refl, sym, ap, ◌∙◌, subst, arith}
use Rattle.std.specs.Prelude.{slice_get, slice_index, slice_index_or, sum_by, IfSome}
use Rattle.std.specs.Option.{option_map_or}
use Rattle.std.specs.List.{AllByRecursion}
use Rattle.std.proofs.lemmas.List.Sums.{sum_by-cons}
use Rattle.class_pool.specs.declared.entry.Entry.{Entry}
use Rattle.class_pool.specs.declared.class.Attribute.{Attribute}
use Rattle.class_pool.specs.declared.class.Body.{Body as AttributeBody}
use Rattle.class_pool.specs.declared.class.Body.TheVariants as parts
use Rattle.class_pool.specs.declared.class.Code.{Code}
use Rattle.class_pool.specs.declared.class.Member.{Member}
use Rattle.class_pool.specs.declared.class.ClassFile.{ClassFile}
use Rattle.class_pool.specs.declared.kind.Owner.TheVariants as owners
use Rattle.class_pool.specs.declared.kind.Kind.{Kind as AttributeKind}
use Rattle.class_pool.specs.declared.kind.Kind.TheVariants as kinds
use Rattle.class_pool.specs.Kind.{kind_of}
use Rattle.class_pool.specs.Found.{otherwise, first_of, code_part, code_of}
use Rattle.class_pool.specs.Structure.{HasKind, IsAttribute, HasMemberRange, IsHandler}
use Rattle.class_pool.specs.Structure as structure
use Rattle.class_rules.specs.Rules.{IsRightMethod}
use Rattle.class_rules.specs.Found.{MethodsHaveCode}
use Rattle.class_rules.specs.Grammar.{IsClass}
use Rattle.bytecode_model.specs.Program.{Method, Body, Handler, body_of}
use Rattle.lists.proofs.Lemmas.{none≢some, some_same, onto_some, map_some}
use Rattle.image_facts.specs.Says.{IsCode}
use Rattle.program_tables.specs.Resolved.{handler_of, body_in, resolved_methods, resolved}
use Rattle.program_tables.specs.Resolving.{HasBytes, IsResolved}
use Rattle.program_laws.proofs.Facts.{all_at}
use Rattle.program_laws.proofs.Numbering.{numbered}
use Rattle.image_words.specs.Layout.{statics_size, body_size, method_size, types_size, tables_size, interfaces_size, pools_size, method_place}
use Rattle.image_words.specs.Regions.{places_of}
use Rattle.image_words.specs.Laws.{MethodsLie}
use Rattle.image_laws.specs.Laws.{CodesAreSaid, MethodsAreApart, MethodsAreSaid}

pub if_some : {A : Type 0} (o : Option A) (P : A → Type 0) → ((x : A) → o ≡ Some x → P x) → IfSome o P
if_some None P h = tt
if_some (Some x) P h = h x refl

if_at : {A : Type 0} (o : Option A) (P : A → Type 0) (x : A) → o ≡ Some x → IfSome o P → P x
if_at o P x e h = subst (λ z. IfSome z P) e h

-- ---- the code of a method of a class file

kind_case : (kind : AttributeKind) (body : AttributeBody) (code : Code) → HasKind kind body → code_part body ≡ Some code → structure.HasCodeRange code
kind_case kinds.Code (parts.Code c) code h e = subst structure.HasCodeRange (some_same c code e) h
kind_case kinds.ConstantValue (parts.Code c) code h e = absurd h
kind_case kinds.Bytes (parts.Code c) code h e = absurd h
kind_case kind (parts.ConstantValue n) code h e = absurd (none≢some code e)
kind_case kind (parts.Bytes bytes) code h e = absurd (none≢some code e)

chosen : (pool : List Entry) (o : Option Code) (a : Attribute) (rest : List Attribute) (code : Code) → code_part a.body ≡ o → structure.IsAttribute owners.Method pool a → (first_of (λ (a : Attribute). code_part a.body) rest ≡ Some code → structure.HasCodeRange code)
    → otherwise o (first_of (λ (a : Attribute). code_part a.body) rest) ≡ Some code → structure.HasCodeRange code
chosen pool None a rest code q h later e = later e
chosen pool (Some c) a rest code q h later e = kind_case (kind_of owners.Method pool a.name) a.body code h.body (q ∙ e)

found_code : (pool : List Entry) (rest : List Attribute) (code : Code) → AllByRecursion (IsAttribute owners.Method pool) rest → first_of (λ (a : Attribute). code_part a.body) rest ≡ Some code → structure.HasCodeRange code
found_code pool [] code h e = absurd (none≢some code e)
found_code pool (a ∷ rest) code h e = chosen pool (code_part a.body) a rest code refl h.0 (found_code pool rest code h.1) e

-- ---- the body of a method of the program

pub record HasCode (cs : List ClassFile) (m : ℕ) (k : Method) (b : Body) : Type 0 where
  pub owner : ClassFile
  pub class : ℕ
  pub at : slice_get cs class ≡ Some owner
  pub place : ℕ
  pub member : Member
  pub there : slice_get owner.methods place ≡ Some member
  pub code : Code
  pub has : code_of member ≡ Some code
  pub is : body_in cs owner code ≡ b

has_body : (cs : List ClassFile) (m : ℕ) (k : Method) (b : Body) → slice_get (resolved_methods cs) m ≡ Some k → k.body ≡ Some b → HasCode cs m k b
has_body cs m k b h hb =
    let p = numbered cs m k h in
    let owner = p.method.owner in
    let member = p.method.member in
    let c = map_some (body_in cs owner) (code_of member) b (ap (λ (x : Method). x.body) (sym p.method.is) ∙ hb) in
    record { owner = owner; class = p.place.0; at = p.method.class; place = p.place.1; member = member; there = p.method.there; code = c.0; has = c.1; is = c.2 }

byte_at : (bytes : List ℕ) (k : ℕ) → AllByRecursion (λ byte. byte < 2 ^ 8) bytes → slice_index bytes k < 2 ^ 8
byte_at [] k h = omega arith
byte_at (byte ∷ bytes) zero h = h.0
byte_at (byte ∷ bytes) (suc k) h = byte_at bytes k h.1

code_said : MethodsHaveCode → (cs : List ClassFile) → IsResolved cs → (m : ℕ) (k : Method) (b : Body) → slice_get (resolved_methods cs) m ≡ Some k → k.body ≡ Some b → IsCode b.code
code_said law cs r m k b h hb =
    let c = has_body cs m k b h hb in
    let right = all_at (IsRightMethod c.owner) c.owner.methods c.place c.member (all_at IsClass cs c.class c.owner r.grammar c.at).rules.methods c.there in
    let code = (law c.owner c.member right).0 c.code c.has in
    let bytes = if_at (code_of c.member) (λ x. AllByRecursion (λ byte. byte < 2 ^ 8) x.code) c.code c.has (all_at HasBytes c.owner.methods c.place c.member (all_at (λ x. AllByRecursion HasBytes x.methods) cs c.class c.owner r.bytes c.at) c.there) in
    let some = code.not_empty in
    let short = code.not_long in
    let all : IsCode c.code.code = record { some = omega (arith, some); short = omega (arith, short); bytes = λ i. byte_at c.code.code i bytes } in
    subst (λ (x : Body). IsCode x.code) c.is all

pub codes : MethodsHaveCode → CodesAreSaid
codes law cs r m =
    if_some (body_of (resolved cs) m) (λ b. IsCode b.code) (λ b e.
    let k = onto_some (slice_get (resolved_methods cs) m) (λ (k : Method). k.body) b e in
    code_said law cs r m k.0 b k.1 k.2)

-- ---- the record

handler_at : (cs : List ClassFile) (c : ClassFile) (hs : List (ℕ × ℕ × ℕ × ℕ)) (k : ℕ) (d : Handler) → AllByRecursion IsHandler hs → k < length (map (handler_of cs c) hs)
    → ((slice_index_or (map (handler_of cs c) hs) k d).start < 2 ^ 16) × ((slice_index_or (map (handler_of cs c) hs) k d).end < 2 ^ 16)
handler_at cs c [] k d h lt = absurd (omega (arith, lt))
handler_at cs c (x ∷ hs) zero d h lt = (h.0.0, h.0.1)
handler_at cs c (x ∷ hs) (suc k) d h lt = handler_at cs c hs k d h.1 (omega (arith, lt))

positive : (s a b c d e : ℕ) → 0 < 33 + s + a + b + c + d + e
positive s a b c d e = omega arith

pub methods_said : MethodsLie → MethodsAreSaid
unfolding places_of
methods_said lie cs r catches tables m k b h hb =
    let P = resolved cs in
    let c = has_body cs m k b h hb in
    let member = all_at (HasMemberRange owners.Method c.owner.pool) c.owner.methods c.place c.member (all_at IsClass cs c.class c.owner r.grammar c.at).inside.methods.1 c.there in
    let code = found_code c.owner.pool c.member.attributes c.code member.attributes.1 c.has in
    let caught = catches m k b h hb in
    let placed = tables m k b h hb in
    let limits : (b.max_locals < 2 ^ 16) × (b.max_stack < 2 ^ 16) = subst (λ (x : Body). (x.max_locals < 2 ^ 16) × (x.max_stack < 2 ^ 16)) c.is (code.max_locals, code.max_stack) in
    let ranges : (i : ℕ) (d : Handler) → i < length b.handlers → ((slice_index_or b.handlers i d).start < 2 ^ 16) × ((slice_index_or b.handlers i d).end < 2 ^ 16) =
    subst (λ (x : Body). (i : ℕ) (d : Handler) → i < length x.handlers → ((slice_index_or x.handlers i d).start < 2 ^ 16) × ((slice_index_or x.handlers i d).end < 2 ^ 16)) c.is
    (λ i d lt. handler_at cs c.owner c.code.handlers i d code.handlers.1 lt) in
    record {
      words = lie cs m k b h hb;
      nonzero = positive (statics_size cs) (types_size cs) (tables_size cs) (interfaces_size cs) (pools_size cs) (sum_by method_size (take m P.methods));
      max_locals = limits.0;
      max_stack = limits.1;
      entries = λ i d lt. record { start = (ranges i d lt).0; end = (ranges i d lt).1; begins = (placed i d lt).0; ends = (placed i d lt).1; caught = caught i d lt };
    }

-- ---- methods lie apart

sum_rises : (size : Method → ℕ) (xs : List Method) (m n : ℕ) (k : Method) → m < n → slice_get xs m ≡ Some k → 0 < size k → sum_by size (take m xs) < sum_by size (take n xs)
sum_rises size [] m n k lt h s = absurd (none≢some k h)
sum_rises size (x ∷ xs) m zero k lt h s = absurd (omega (arith, lt))
sum_rises size (x ∷ xs) zero (suc n) k lt h s =
    let first = sum_by-cons size x (take n xs) in
    let some : 0 < size x = subst (λ (y : Method). 0 < size y) (sym (some_same x k h)) s in
    omega (arith, first, some)
sum_rises size (x ∷ xs) (suc m) (suc n) k lt h s =
    let a = sum_by-cons size x (take m xs) in
    let b = sum_by-cons size x (take n xs) in
    let later = sum_rises size xs m n k (omega (arith, lt)) h s in
    omega (arith, a, b, later)

body_takes : (k : Method) (b : Body) → k.body ≡ Some b → 0 < method_size k
body_takes k b e =
    let some : 0 < body_size b = omega arith in
    subst (λ n. 0 < n) (sym (ap (λ (o : Option Body). option_map_or body_size o 0) e)) some

pub apart : MethodsAreApart
unfolding places_of
apart cs m n k l b c hk hb hl hc e =
    let xs = (resolved cs).methods in
    let below : (i j : ℕ) (x : Method) (y : Body) → slice_get xs i ≡ Some x → x.body ≡ Some y → method_place cs i ≡ method_place cs j → i < j → ⊥ = λ i j x y hx hy e lt.
    let rises = sum_rises method_size xs i j x lt hx (body_takes x y hy) in
    let front = sum_by method_size (take i xs) in
    absurd (omega (arith, rises, e)) in
    let a : n ≤ m = let f = below m n k b hk hb e in omega (arith, f) in
    let d : m ≤ n = let f = below n m l c hl hc (sym e) in omega (arith, f) in
    omega (arith, a, d)
