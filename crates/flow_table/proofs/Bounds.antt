-- A code has fewer than 65,536 bytes, and its exception table fewer than 65,536 entries.
use Rattle.std.proofs.Common.{◌≡◌, ◌<◌, ℕ, List, [], ◌∷◌, length, Option, Some, subst, arith}
use Rattle.std.specs.Prelude.{slice_get}
use Rattle.std.specs.List.{AllByRecursion}
use Rattle.lists.specs.Lists.{onto}
use Rattle.lists.proofs.Lemmas.{none≢some, some_same, onto_some}
use Rattle.class_pool.specs.declared.entry.Entry.{Entry}
use Rattle.class_pool.specs.declared.class.Attribute.{Attribute}
use Rattle.class_pool.specs.declared.class.Body.{Body}
use Rattle.class_pool.specs.declared.class.Body.TheVariants as bodies
use Rattle.class_pool.specs.declared.class.Code.{Code}
use Rattle.class_pool.specs.declared.class.ClassFile.{ClassFile}
use Rattle.class_pool.specs.declared.kind.Owner.{Owner}
use Rattle.class_pool.specs.declared.kind.Owner.TheVariants as owners
use Rattle.class_pool.specs.declared.kind.Kind.{Kind}
use Rattle.class_pool.specs.declared.kind.Kind.TheVariants as kinds
use Rattle.class_pool.specs.Kind.{kind_of}
use Rattle.class_pool.specs.Found.{otherwise, first_of, code_part, code_of}
use Rattle.class_pool.specs.Structure.{HasKind, IsAttribute, HasMemberRange}
use Rattle.class_rules.specs.Found.{MethodsHaveCode}
use Rattle.class_rules.specs.Grammar.{IsClass}
use Rattle.class_rules.specs.Rules.{IsRightMethod}
use Rattle.class_lookup.specs.Lookup.{method_at}
use Rattle.program_tables.specs.Numbers.{methods_by_number}
use Rattle.program_tables.proofs.TableLemmas.{all_at}
use Rattle.flow_table.specs.Made.{HasCode}

abbrev IsShort : Code → Type 0
IsShort k = length k.handlers < 65536

body_case : (kind : Kind) (b : Body) (rest : Option Code) (k : Code) → HasKind kind b → (rest ≡ Some k → IsShort k) → otherwise (code_part b) rest ≡ Some k → IsShort k
body_case kinds.Code (bodies.Code code) rest k is later h = let few = is.handlers.0 in subst IsShort (some_same code k h) (omega (arith, few))
body_case kinds.Code (bodies.ConstantValue constant) rest k is later h = absurd is
body_case kinds.Code (bodies.Bytes bytes) rest k is later h = absurd is
body_case kinds.ConstantValue (bodies.Code code) rest k is later h = absurd is
body_case kinds.ConstantValue (bodies.ConstantValue constant) rest k is later h = later h
body_case kinds.ConstantValue (bodies.Bytes bytes) rest k is later h = absurd is
body_case kinds.Bytes (bodies.Code code) rest k is later h = absurd is
body_case kinds.Bytes (bodies.ConstantValue constant) rest k is later h = absurd is
body_case kinds.Bytes (bodies.Bytes bytes) rest k is later h = later h

among : (owner : Owner) (pool : List Entry) (xs : List Attribute) (k : Code) → AllByRecursion (IsAttribute owner pool) xs → first_of (λ a. code_part a.body) xs ≡ Some k → IsShort k
among owner pool [] k are h = absurd (none≢some k h)
among owner pool (a ∷ xs) k are h = body_case (kind_of owner pool a.name) a.body (first_of (λ a. code_part a.body) xs) k are.0.body (among owner pool xs k are.1) h

pub record HasBounds (k : Code) : Type 0 where
  pub code : length k.code < 65536
  pub handlers : length k.handlers < 65536

pub code_bounds : MethodsHaveCode → (cs : List ClassFile) → AllByRecursion IsClass cs → (m : ℕ) (k : Code) → HasCode cs m k → HasBounds k
code_bounds law cs are m k h =
    let r = onto_some (onto (slice_get (methods_by_number cs) m) (method_at cs)) code_of k h in
    let p = onto_some (slice_get (methods_by_number cs) m) (method_at cs) r.0 r.1 in
    let c = onto_some (slice_get cs p.0.0) (λ c. slice_get c.methods p.0.1) r.0 p.2 in
    let is = all_at IsClass cs p.0.0 c.0 are c.1 in
    let right = all_at (IsRightMethod c.0) c.0.methods p.0.1 r.0 is.rules.methods c.2 in
    let member = all_at (HasMemberRange owners.Method c.0.pool) c.0.methods p.0.1 r.0 is.inside.methods.1 c.2 in
    let code = (law c.0 r.0 right).0 k r.2 in
    record {
      code = let most = code.not_long in omega arith;
      handlers = among owners.Method c.0.pool r.0.attributes k member.attributes.1 r.2;
    }
