-- Right plans make class files, which say what the plans say.
use Rattle.std.proofs.Common.{◌≡◌, ℕ, ◌≤◌, List, [], ◌∷◌, ◌++◌, length, Option, Some, None, map, refl, ap, ◌∙◌, lit<}
use Rattle.std.specs.Prelude.{unwrap_or}
use Rattle.std.specs.Option.{option_to_list, option_map_or}
use Rattle.std.specs.List.{flat_map, AllByRecursion}
use Rattle.class_pool.specs.declared.entry.Entry.{Entry}
use Rattle.class_pool.specs.declared.class.Member.{Member}
use Rattle.class_pool.specs.Grammar.{class_name_of, text_at}
use Rattle.class_rules.specs.Grammar.{IsClass}
use Rattle.class_making.specs.declared.item.Item.{Item}
use Rattle.class_making.specs.declared.item.Item.TheVariants.{Class}
use Rattle.class_making.specs.declared.plan.ClassPlan.{ClassPlan}
use Rattle.class_making.specs.Making.{expanded, pool_of}
use Rattle.class_making.specs.Plans.{field_mentions, method_mentions, plan_mentions, items_of, field_in, method_in, class_index, superclass_index, class_of}
use Rattle.class_making.specs.Right.{PlanSignature, field_signature, method_signature, IsRightPlan}
use Rattle.class_making.specs.Laws.{class_text, member_signature, SaysPlan, HasBytes, HasEntry, PlansHaveEntries}
use Rattle.class_making.proofs.ListLemmas.{all_left, all_right, all_flat, all_from_map, all_then}
use Rattle.class_making.proofs.PoolLemmas.{Has, entry_found}
use Rattle.class_making.proofs.PoolLaws.{Names, IsWhole, mentioned, whole, is_pool}
use Rattle.class_making.proofs.InsideLaws.{is_inside, have_bytes}
use Rattle.class_making.proofs.RuleLaws.{IsNamed, Says, pair_same, said, field_says, method_says, follows_rules}

is_named : (p : ClassPlan) (items : List Item) → AllByRecursion (Names items) (plan_mentions p) → IsNamed items p
is_named p items h =
    let supers : List Item = map Class (option_to_list p.superclass) in
    let interfaces : List Item = map Class p.interfaces in
    let fields : List Item = flat_map field_mentions p.fields in
    let methods : List Item = flat_map method_mentions p.methods in
    let of_supertypes = all_left (Names items) (supers ++ interfaces) (fields ++ methods) h.1 in
    let of_members = all_right (Names items) (supers ++ interfaces) (fields ++ methods) h.1 in
    record {
      name = h.0;
      superclass = all_from_map (Names items) Class (option_to_list p.superclass) (all_left (Names items) supers interfaces of_supertypes);
      interfaces = all_from_map (Names items) Class p.interfaces (all_right (Names items) supers interfaces of_supertypes);
      fields = all_flat (Names items) field_mentions p.fields (all_left (Names items) fields methods of_members);
      methods = all_flat (Names items) method_mentions p.methods (all_right (Names items) fields methods of_members);
    }

pub is_class : (p : ClassPlan) → IsRightPlan p → IsClass (class_of p)
unfolding class_of
is_class p r =
    let items : List Item = items_of p in
    let w : IsWhole items = whole p r.room r.mentions in
    let h : IsNamed items p = is_named p items (mentioned p) in
    record {
      minor = lit< tt;
      oldest = r.oldest;
      newest = r.newest;
      pool = is_pool items w;
      inside = is_inside items p w.room h.methods r;
      rules = follows_rules items p w h r;
    }

pub has_bytes : (p : ClassPlan) → IsRightPlan p → HasBytes (class_of p)
unfolding class_of
has_bytes p r = have_bytes (items_of p) p r

-- ---- what the class file says

class_said : (items : List Item) (n : List ℕ) → length items ≤ 65534 → Names items (Class n) → class_text (pool_of items) (class_index items n) ≡ n
class_said items n room h =
    ap (λ (e : Option Entry). option_map_or (text_at (pool_of items)) (class_name_of e) []) (entry_found items (Class n) room h.0)
    ∙ said items n room h.1.0

super_said : (items : List Item) → length items ≤ 65534 → (superclass : Option (List ℕ)) → AllByRecursion (λ n. Names items (Class n)) (option_to_list superclass) → class_text (pool_of items) (superclass_index items superclass) ≡ unwrap_or superclass []
super_said items room None h = refl
super_said items room (Some n) h = class_said items n room h.0

classes_said : (items : List Item) → length items ≤ 65534 → (names : List (List ℕ)) → AllByRecursion (λ n. Names items (Class n)) names → map (class_text (pool_of items)) (map (class_index items) names) ≡ names
classes_said items room [] h = refl
classes_said items room (n ∷ names) h =
    ap (λ (m : List ℕ). m ∷ map (class_text (pool_of items)) (map (class_index items) names)) (class_said items n room h.0)
    ∙ ap (λ (ns : List (List ℕ)). n ∷ ns) (classes_said items room names h.1)

members_said : {X : Type 0} (items : List Item) (f : X → Member) (signature : X → PlanSignature) (xs : List X) → AllByRecursion (λ x. Says items (f x) (signature x)) xs → map (member_signature (pool_of items)) (map f xs) ≡ map signature xs
members_said items f signature [] h = refl
members_said items f signature (x ∷ xs) h =
    ap (λ (s : PlanSignature). s ∷ map (member_signature (pool_of items)) (map f xs)) (pair_same (member_signature (pool_of items) (f x)) (signature x) h.0.0 h.0.1)
    ∙ ap (λ (ss : List PlanSignature). signature x ∷ ss) (members_said items f signature xs h.1)

pub says_plan : (p : ClassPlan) → length (items_of p) ≤ 65534 → SaysPlan p (class_of p)
unfolding class_of
says_plan p room =
    let items : List Item = items_of p in
    let h : IsNamed items p = is_named p items (mentioned p) in
    record {
      name = class_said items p.name room h.name;
      superclass = super_said items room p.superclass h.superclass;
      interfaces = classes_said items room p.interfaces h.interfaces;
      fields = members_said items (field_in items) field_signature p.fields (all_then (λ f. AllByRecursion (Names items) (field_mentions f)) (λ f. Says items (field_in items f) (field_signature f)) (field_says items room) p.fields h.fields);
      methods = members_said items (method_in items) method_signature p.methods (all_then (λ m. AllByRecursion (Names items) (method_mentions m)) (λ m. Says items (method_in items m) (method_signature m)) (method_says items room) p.methods h.methods);
    }

-- ---- its pool

pub have_entries : PlansHaveEntries
unfolding class_of
have_entries p room =
    all_then (Names (items_of p)) (λ m. AllByRecursion (HasEntry p) (expanded m))
    (λ m h. all_then (Has (items_of p)) (HasEntry p) (λ x has. entry_found (items_of p) x room has) (expanded m) h)
    (plan_mentions p) (mentioned p)
