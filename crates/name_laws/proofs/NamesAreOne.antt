-- In resolved classes two methods with code of one name are one.
use Rattle.std.proofs.Common.{◌≡◌, ◌≢◌, ℕ, true, List, [], ◌∷◌, ◌++◌, Option, Some, None, refl, sym, ap, ap₂, ◌∙◌, subst}
use Rattle.std.specs.Prelude.{is_some, IsSome, slice_get}
use Rattle.std.specs.Option.{option_map_or}
use Rattle.std.proofs.lemmas.Bool.{false≢true}
use Rattle.lists.proofs.Lemmas.{some_same}
use Rattle.class_pool.specs.declared.class.Member.{Member}
use Rattle.class_pool.specs.declared.class.ClassFile.{ClassFile}
use Rattle.class_rules.specs.Grammar.{IsClass}
use Rattle.class_rules.specs.Rules.{IsRightMethod}
use Rattle.bytecode_model.specs.Lists.{onto}
use Rattle.bytecode_model.specs.Program.{Method, body_of}
use Rattle.class_pool.specs.Utf8.{utf8_bytes}
use Rattle.class_pool.specs.Grammar.{text_at}
use Rattle.class_lookup.specs.Parts.{name_of, signature_of}
use Rattle.class_lookup.specs.Lookup.{Place, method_at}
use Rattle.program_tables.specs.Numbers.{member_text, method_text}
use Rattle.program_tables.specs.Resolved.{resolved, method_name}
use Rattle.program_tables.specs.Resolving.{IsResolved}
use Rattle.program_laws.proofs.Facts.{all_at, distinct}
use Rattle.program_laws.proofs.Numbering.{IsMethodOf, IsNumbered, at_place, numbered}
use Rattle.name_laws.specs.Names.{NamesAreOne}
use Rattle.name_laws.proofs.NamesTexts.{IsNamed, named, one_signature}
use Rattle.name_laws.proofs.NamesPlaces.{one_number}
use Rattle.name_laws.proofs.NamesClasses.{one_class}

-- ---- a method that has a number

method_case : (o : Option Method) → is_some (onto o (λ k. k.body)) ≡ true → (k : Method) × (o ≡ Some k)
method_case None h = absurd (false≢true h)
method_case (Some k) h = (k, refl)

abbrev Found : List ClassFile → ℕ → Type 0
Found cs m = (k : Method) × IsNumbered cs m k

found : (cs : List ClassFile) (m : ℕ) → is_some (body_of (resolved cs) m) ≡ true → Found cs m
found cs m h = let k = method_case (slice_get (resolved cs).methods m) h in (k.0, numbered cs m k.0 k.1)

name_at : (cs : List ClassFile) (m : ℕ) (k : Method) (p : IsNumbered cs m k) → method_name cs m ≡ member_text p.method.owner p.method.member
name_at cs m k p =
    let owner = p.method.owner in
    let there = at_place cs p.place owner p.method.member p.method.class p.method.there in
    ap (λ (o : Option Place). option_map_or (method_text cs) o []) p.number
    ∙ ap (λ (o : Option ClassFile). option_map_or (λ c. option_map_or (member_text c) (method_at cs p.place) []) o []) p.method.class
    ∙ ap (λ (o : Option Member). option_map_or (member_text owner) o []) there

named_at : (cs : List ClassFile) → IsResolved cs → (p : Place) (k : Method) (m : IsMethodOf cs p k) → IsNamed m.owner m.member
named_at cs r p k m =
    let is = all_at IsClass cs p.0 m.owner r.grammar m.class in
    named m.owner m.member is (all_at (IsRightMethod m.owner) m.owner.methods p.1 m.member is.rules.methods m.there)

-- ---- places

-- two methods of one class and one name are one
one_member : (cs : List ClassFile) → IsResolved cs → (p q : Place) (k j : Method) (m : IsMethodOf cs p k) (n : IsMethodOf cs q j) → p.0 ≡ q.0
    → signature_of m.owner m.member ≡ signature_of n.owner n.member → p.1 ≡ q.1
one_member cs r p q k j m n class same =
    let owner : n.owner ≡ m.owner = some_same n.owner m.owner (sym n.class ∙ ap (slice_get cs) (sym class) ∙ m.class) in
    distinct cs r p.0 p.1 q.1 m.owner m.member n.member m.class m.there (subst (λ (c : ClassFile). slice_get c.methods q.1 ≡ Some n.member) owner n.there)
    (same ∙ ap (λ (c : ClassFile). signature_of c n.member) owner)

one_place : (cs : List ClassFile) → IsResolved cs → (p q : Place) (k j : Method) (m : IsMethodOf cs p k) (n : IsMethodOf cs q j)
    → member_text m.owner m.member ≡ member_text n.owner n.member → p ≡ q
one_place cs r p q k j m n same =
    let parts = one_signature m.owner n.owner m.member n.member (named_at cs r p k m) (named_at cs r q j n) same in
    let class = one_class cs r p.0 q.0 m.owner n.owner m.class n.class parts.0 in
    ap₂ (λ (c i : ℕ). (c, i)) class (one_member cs r p q k j m n class parts.1)

pub names_are_one : NamesAreOne
names_are_one cs r m n h e same =
    let x = found cs m h in
    let y = found cs n e in
    let texts = sym (name_at cs m x.0 x.1) ∙ same ∙ name_at cs n y.0 y.1 in
    let place = one_place cs r x.1.place y.1.place x.0 y.0 x.1.method y.1.method texts in
    one_number cs m n y.1.place (x.1.number ∙ ap Some place) y.1.number

-- and it has one that isn't empty, since it holds a dot
dotted : (class rest : List ℕ) → class ++ 46 ∷ rest ≢ []
dotted [] rest h = absurd (let e : 46 ∷ rest ≡ [] = h in cc)
dotted (b ∷ class) rest h = absurd (let e : b ∷ (class ++ 46 ∷ rest) ≡ [] = h in cc)

pub has_name : (cs : List ClassFile) (m : ℕ) → IsSome (body_of (resolved cs) m) → method_name cs m ≢ []
has_name cs m h empty =
    let x = found cs m h in
    let method = x.1.method in
    dotted (utf8_bytes (name_of method.owner))
    (utf8_bytes (text_at method.owner.pool method.member.name) ++ utf8_bytes (text_at method.owner.pool method.member.descriptor))
    (sym (name_at cs m x.0 x.1) ∙ empty)
