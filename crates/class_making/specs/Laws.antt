-- What the laws of made classes say.
use Rattle.std.specs.Prelude.{◌≡◌, ℕ, ◌*◌, ◌<◌, ◌≤◌, ◌^◌, List, [], map, length, IfSome, Some, unwrap_or}
use Rattle.std.specs.Option.{option_map_or}
use Rattle.std.specs.List.{AllByRecursion}
use Rattle.class_pool.specs.declared.entry.Entry.{Entry}
use Rattle.class_pool.specs.declared.class.Code.{Code as CodeParts}
use Rattle.class_pool.specs.declared.class.Member.{Member}
use Rattle.class_pool.specs.declared.class.ClassFile.{ClassFile}
use Rattle.class_pool.specs.Grammar.{entry_at, class_name_of, text_at}
use Rattle.class_pool.specs.Found.{code_of}
use Rattle.class_rules.specs.Grammar.{IsClass}
use Rattle.class_making.specs.declared.item.Item.{Item}
use Rattle.class_making.specs.declared.plan.ClassPlan.{ClassPlan}
use Rattle.class_making.specs.Making.{expanded, index_of, entry_of}
use Rattle.class_making.specs.Plans.{plan_mentions, items_of, class_of}
use Rattle.class_making.specs.Right.{PlanSignature, field_signature, method_signature, IsRightPlan}

-- a right plan makes a class file
abbrev pub PlansAreClasses : Type 0
PlansAreClasses = (p : ClassPlan) → IsRightPlan p → IsClass (class_of p)

-- ---- what a class file says

-- the text of a Class entry (4.4.1); nothing where the index is that of none
abbrev pub class_text : List Entry → ℕ → List ℕ
class_text pool index = option_map_or (text_at pool) (class_name_of (entry_at pool index)) []

abbrev pub member_signature : List Entry → Member → PlanSignature
member_signature pool m = (text_at pool m.name, text_at pool m.descriptor)

-- the class file names what the plan names
pub record SaysPlan (p : ClassPlan) (c : ClassFile) : Type 0 where
  pub name : class_text c.pool c.this_class ≡ p.name
  pub superclass : class_text c.pool c.super_class ≡ unwrap_or p.superclass []
  pub interfaces : map (class_text c.pool) c.interfaces ≡ p.interfaces
  pub fields : map (member_signature c.pool) c.fields ≡ map field_signature p.fields
  pub methods : map (member_signature c.pool) c.methods ≡ map method_signature p.methods

abbrev pub ClassesSayPlans : Type 0
ClassesSayPlans = (p : ClassPlan) → length (items_of p) ≤ 65534 → SaysPlan p (class_of p)

-- ---- code

abbrev pub IsByteCode : CodeParts → Type 0
IsByteCode k = AllByRecursion (λ byte. byte < 2 ^ 8) k.code

-- the code of its methods is bytes
abbrev pub HasBytes : ClassFile → Type 0
HasBytes c = AllByRecursion (λ m. IfSome (code_of m) IsByteCode) c.methods

abbrev pub PlansHaveBytes : Type 0
PlansHaveBytes = (p : ClassPlan) → IsRightPlan p → HasBytes (class_of p)

-- an item names five others at most, so a plan of few mentions has room
abbrev pub ItemsAreFew : Type 0
ItemsAreFew = (p : ClassPlan) → length (items_of p) ≤ 6 * length (plan_mentions p)

-- ---- the pool

-- at the item's index stands its entry
abbrev pub HasEntry : ClassPlan → Item → Type 0
HasEntry p x = entry_at (class_of p).pool (index_of (items_of p) x) ≡ Some (entry_of (items_of p) x)

-- all that a plan mentions, and all that this names
abbrev pub PlansHaveEntries : Type 0
PlansHaveEntries = (p : ClassPlan) → length (items_of p) ≤ 65534 → AllByRecursion (λ m. AllByRecursion (HasEntry p) (expanded m)) (plan_mentions p)
