-- Codes of resolved classes are of lengths that a class file can tell.
use Rattle.std.proofs.Common.{◌≡◌, List, [], ◌∷◌, Option, Some, None, refl, sym, ap, ◌∙◌, subst, arith}
use Rattle.std.specs.Prelude.{slice_get}
use Rattle.std.specs.List.{AllByRecursion}
use Rattle.std.proofs.lemmas.List.{length-map}
use Rattle.class_pool.specs.declared.entry.Entry.{Entry}
use Rattle.class_pool.specs.declared.class.Attribute.{Attribute}
use Rattle.class_pool.specs.declared.class.Body.{Body as AttributeBody}
use Rattle.class_pool.specs.declared.class.Body.TheVariants as parts
use Rattle.class_pool.specs.declared.class.Code.{Code}
use Rattle.class_pool.specs.declared.kind.Owner.TheVariants as owners
use Rattle.class_pool.specs.declared.kind.Kind.{Kind as AttributeKind}
use Rattle.class_pool.specs.declared.kind.Kind.TheVariants as kinds
use Rattle.class_pool.specs.Kind.{kind_of}
use Rattle.class_pool.specs.Found.{otherwise, first_of, code_part, code_of}
use Rattle.class_pool.specs.Structure.{HasKind, IsAttribute, HasMemberRange}
use Rattle.class_pool.specs.Structure as structure
use Rattle.class_rules.specs.Rules.{IsRightMethod}
use Rattle.class_rules.specs.Found.{MethodsHaveCode}
use Rattle.class_rules.specs.Grammar.{IsClass}
use Rattle.lists.proofs.Lemmas.{none≢some, some_same, onto_some, map_some}
use Rattle.bytecode_model.specs.Program.{Method}
use Rattle.program_tables.specs.Resolved.{handler_of, body_in, resolved_methods}
use Rattle.program_laws.proofs.Facts.{all_at}
use Rattle.program_laws.proofs.Numbering.{numbered}
use Rattle.bound_laws.specs.Existing.{IsShort, ResolvedCodesAreShort}

-- ---- the code among the attributes of a method

kind_case : (kind : AttributeKind) (body : AttributeBody) (code : Code) → HasKind kind body → code_part body ≡ Some code → structure.HasCodeRange code
kind_case kinds.Code (parts.Code c) code h e = subst structure.HasCodeRange (some_same c code e) h
kind_case kinds.ConstantValue (parts.Code c) code h e = absurd h
kind_case kinds.Bytes (parts.Code c) code h e = absurd h
kind_case kind (parts.ConstantValue n) code h e = absurd (none≢some code e)
kind_case kind (parts.Bytes bytes) code h e = absurd (none≢some code e)

chosen_code : (pool : List Entry) (o : Option Code) (a : Attribute) (rest : List Attribute) (code : Code) → code_part a.body ≡ o → IsAttribute owners.Method pool a → (first_of (λ (a : Attribute). code_part a.body) rest ≡ Some code → structure.HasCodeRange code)
    → otherwise o (first_of (λ (a : Attribute). code_part a.body) rest) ≡ Some code → structure.HasCodeRange code
chosen_code pool None a rest code q h later e = later e
chosen_code pool (Some c) a rest code q h later e = kind_case (kind_of owners.Method pool a.name) a.body code h.body (q ∙ e)

found_code : (pool : List Entry) (rest : List Attribute) (code : Code) → AllByRecursion (IsAttribute owners.Method pool) rest → first_of (λ (a : Attribute). code_part a.body) rest ≡ Some code → structure.HasCodeRange code
found_code pool [] code h e = absurd (none≢some code e)
found_code pool (a ∷ rest) code h e = chosen_code pool (code_part a.body) a rest code refl h.0 (found_code pool rest code h.1) e

-- ---- of a resolved method

pub resolved_codes_are_short : MethodsHaveCode → ResolvedCodesAreShort
resolved_codes_are_short have_code cs resolved_is m b is =
    let k = onto_some (slice_get (resolved_methods cs) m) (λ (k : Method). k.body) b is in
    let p = numbered cs m k.0 k.1 in
    let owner = p.method.owner in
    let member = p.method.member in
    let c = map_some (body_in cs owner) (code_of member) b (ap (λ (x : Method). x.body) (sym p.method.is) ∙ k.2) in
    let class = all_at IsClass cs p.place.0 owner resolved_is.grammar p.method.class in
    let right = all_at (IsRightMethod owner) owner.methods p.place.1 member class.rules.methods p.method.there in
    let inside = all_at (HasMemberRange owners.Method owner.pool) owner.methods p.place.1 member class.inside.methods.1 p.method.there in
    let long = ((have_code owner member right).0 c.0 c.1).not_long in
    let code = found_code owner.pool member.attributes c.0 inside.attributes.1 c.1 in
    let handlers = code.handlers.0 in
    let many = length-map c.0.handlers (handler_of cs owner) in
    let short : IsShort (body_in cs owner c.0) = record { code = omega arith; handlers = omega arith } in
    subst IsShort c.2 short
