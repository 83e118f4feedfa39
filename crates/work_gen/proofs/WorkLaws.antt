-- The plan of the class is right.
use Rattle.std.proofs.Common.{◌≡◌, ℕ, zero, suc, ◌+◌, ◌*◌, ◌^◌, ◌<◌, ◌≤◌, true, false, List, [], ◌∷◌, ◌++◌, length, map, Some, refl, sym, ap, ◌∙◌, arith, lit<, eq-eqb}
use Rattle.std.specs.Prelude.{codes}
use Rattle.std.specs.List.{flat_map, AllByRecursion, range_with_len}
use Rattle.std.proofs.lemmas.List.{length-append, length-map}
use Rattle.std.proofs.lemmas.List.FromFn.{length-range_with_len}
use Rattle.descriptors.specs.Names.{is_instance_initializer}
use Rattle.class_making.specs.declared.item.Item.TheVariants.{Text}
use Rattle.class_making.specs.declared.plan.MethodPlan.{MethodPlan}
use Rattle.class_making.specs.Plans.{piece_mentions, method_mentions, plan_mentions, bare_class, items_of}
use Rattle.class_making.specs.Right.{IsRightMention, IsRightMethodPlan, method_signature, HaveOwnSignatures}
use Rattle.class_making.specs.Laws.{PlansAreClasses, ClassesSayPlans, PlansHaveBytes, ItemsAreFew}
use Rattle.core_classes.specs.Core.{object_name, open_class}
use Rattle.core_classes.proofs.RightLemmas.{pool_text, main_types, takes_few, text_right, public_access, plain_method}
use Rattle.core_classes.proofs.CoreLaws.{joined, bare_right}
use Rattle.work_gen.specs.Work.{class_name, adder_name, adder_descriptor, adder_pieces, adder_code, adder, main_pieces, main_method, methods, work_plan, work}
use Rattle.work_gen.specs.Laws.{WorkIsRight, WorkIsAClass}
use Rattle.work_gen.proofs.Names.{is_name, no_parenthesis, no_initializer, fits, same_number}
use Rattle.work_gen.proofs.Pieces.{adder_types, adder_mentions, adder_count, adder_code_right, range_all, main_mentions, main_count, main_code_right}

-- ---- an adder

adder_mentioned : (k : ℕ) → k ≤ 1000 → AllByRecursion IsRightMention (method_mentions (adder k))
unfolding adder adder_code
adder_mentioned k few = (
  text_right (adder_name k) (pool_text (adder_name k) (fits k few)),
  (
    text_right adder_descriptor (pool_text adder_descriptor refl),
    (
      text_right (codes "Code") (pool_text (codes "Code") refl),
      joined (flat_map piece_mentions (adder_pieces k)) _ (adder_mentions k few) (text_right (codes "StackMapTable") (pool_text (codes "StackMapTable") refl), tt),
    ),
  ),
)

adder_mention_count : (k : ℕ) → length (method_mentions (adder k)) ≤ 5
unfolding adder adder_code
adder_mention_count k = omega (arith, length-append (flat_map piece_mentions (adder_pieces k)) (Text (codes "StackMapTable") ∷ []), adder_count k)

adder_right : (k : ℕ) → k ≤ 1000 → IsRightMethodPlan open_class (adder k)
unfolding adder
adder_right k few = record {
  flags = lit< tt;
  name = (is_name k few, no_parenthesis k few);
  descriptor = takes_few 0x0009 adder_descriptor adder_types;
  access = public_access 0x0009 refl refl;
  plain = λ h. absurd (h refl);
  initializer = λ e. absurd (let f : false ≡ true = sym (no_initializer k few) ∙ ap is_instance_initializer e in cc);
  code = (λ h. h refl, λ h. h refl, adder_code_right k);
}

-- ---- main

main_mentioned : (n : ℕ) → n ≤ 1000 → AllByRecursion IsRightMention (method_mentions (main_method n))
unfolding main_method
main_mentioned n few = (
  text_right (codes "main") (pool_text (codes "main") refl),
  (
    text_right (codes "([Ljava/lang/String;)V") (pool_text (codes "([Ljava/lang/String;)V") refl),
    (text_right (codes "Code") (pool_text (codes "Code") refl), main_mentions n few),
  ),
)

main_mention_count : (n : ℕ) → length (method_mentions (main_method n)) ≤ n + 4
unfolding main_method
main_mention_count n = omega (arith, main_count n)

main_right : (n : ℕ) → n ≤ 1000 → IsRightMethodPlan open_class (main_method n)
unfolding main_method
main_right n few =
    plain_method open_class 0x0009 (codes "main") (codes "([Ljava/lang/String;)V") 1 1 (main_pieces n) (lit< tt) (refl, refl) refl main_types (public_access 0x0009 refl refl) refl refl (main_code_right n few)

-- ---- the adders, before other methods

abbrev IsFew : ℕ → Type 0
IsFew k = k ≤ 1000

adders_mention : (ks : List ℕ) (rest : List MethodPlan) → AllByRecursion IsFew ks → AllByRecursion IsRightMention (flat_map method_mentions rest) → AllByRecursion IsRightMention (flat_map method_mentions (map adder ks ++ rest))
adders_mention [] rest h r = r
adders_mention (k ∷ ks) rest h r = joined (method_mentions (adder k)) (flat_map method_mentions (map adder ks ++ rest)) (adder_mentioned k h.0) (adders_mention ks rest h.1 r)

adders_count : (ks : List ℕ) (rest : List MethodPlan) → length (flat_map method_mentions (map adder ks ++ rest)) ≤ 5 * length ks + length (flat_map method_mentions rest)
adders_count [] rest = omega arith
adders_count (k ∷ ks) rest =
    omega (arith, length-append (method_mentions (adder k)) (flat_map method_mentions (map adder ks ++ rest)), adder_mention_count k, adders_count ks rest)

adders_right : (ks : List ℕ) (rest : List MethodPlan) → AllByRecursion IsFew ks → AllByRecursion (IsRightMethodPlan open_class) rest → AllByRecursion (IsRightMethodPlan open_class) (map adder ks ++ rest)
adders_right [] rest h r = r
adders_right (k ∷ ks) rest h r = (adder_right k h.0, adders_right ks rest h.1 r)

-- ---- no two methods have the same name and descriptor

abbrev AreApart : MethodPlan → MethodPlan → Type 0
AreApart m o = ¬ (method_signature m ≡ method_signature o)

adders_apart : (j k : ℕ) → j ≤ 1000 → k ≤ 1000 → j < k → AreApart (adder j) (adder k)
unfolding adder
adders_apart j k less few lt e =
    let same : j ≡ k = same_number j k less few (ap (λ s. s.0) e) in absurd (omega arith)

main_apart : (j n : ℕ) → AreApart (adder j) (main_method n)
unfolding adder main_method
main_apart j n e =
    absurd (let f : false ≡ true = eq-eqb (length adder_descriptor) (length (codes "([Ljava/lang/String;)V")) (ap (λ s. length s.1) e) in cc)

apart_from_each : (m : MethodPlan) (ks : List ℕ) (rest : List MethodPlan) → AllByRecursion (λ k. AreApart m (adder k)) ks → AllByRecursion (AreApart m) rest → AllByRecursion (AreApart m) (map adder ks ++ rest)
apart_from_each m [] rest h r = r
apart_from_each m (k ∷ ks) rest h r = (h.0, apart_from_each m ks rest h.1 r)

distinct_from : (a n i : ℕ) → a + i ≤ 1001 → HaveOwnSignatures method_signature (map adder (range_with_len a i) ++ main_method n ∷ [])
distinct_from a n zero few = (tt, tt)
distinct_from a n (suc i) few =
    let here : a ≤ 1000 = omega arith in
    let later : a + 1 + i ≤ 1001 = omega arith in (
      apart_from_each (adder a) (range_with_len (a + 1) i) (main_method n ∷ [])
          (range_all (λ k. AreApart (adder a) (adder k)) (a + 1) i (λ k l u. let lt : a < k = omega arith in let less : k ≤ 1000 = omega arith in adders_apart a k here less lt)) (main_apart a n, tt),
      distinct_from (a + 1) n i later,
    )

-- ---- all of it

mentions_room : (n : ℕ) → n ≤ 1000 → 6 * length (plan_mentions (bare_class open_class class_name (Some object_name) (methods n))) ≤ 65534
unfolding methods
mentions_room n few =
    omega (arith, adders_count (range_with_len 1 n) (main_method n ∷ []), length-append (method_mentions (main_method n)) [], main_mention_count n, length-range_with_len 1 n, few)

method_count : (n : ℕ) → n ≤ 1000 → length (methods n) < 2 ^ 16
unfolding methods
method_count n few = omega (arith, length-append (map adder (range_with_len 1 n)) (main_method n ∷ []), length-map (range_with_len 1 n) adder, length-range_with_len 1 n, few)

pub work_right : (few : ItemsAreFew) → WorkIsRight
unfolding work_plan methods
work_right items n some few =
    let all : AllByRecursion IsFew (range_with_len 1 n) = range_all IsFew 1 n (λ k l u. omega arith) in
    let end : 1 + n ≤ 1001 = omega arith in
    bare_right items open_class class_name object_name (methods n) (lit< tt) refl (refl, pool_text class_name refl) (refl, pool_text object_name refl) (mentions_room n few) (method_count n few)
    (adders_mention (range_with_len 1 n) (main_method n ∷ []) all (joined (method_mentions (main_method n)) [] (main_mentioned n few) tt))
    (adders_right (range_with_len 1 n) (main_method n ∷ []) all (main_right n few, tt))
    (distinct_from 1 n n end)

pub work_room : (items : ItemsAreFew) (n : ℕ) → 1 ≤ n → n ≤ 1000 → length (items_of (work_plan n)) ≤ 65534
work_room items n some few = (work_right items n some few).room

pub work_is_class : (items : ItemsAreFew) → PlansAreClasses → PlansHaveBytes → ClassesSayPlans → WorkIsAClass
unfolding work
work_is_class items are have say n some few =
    let right = work_right items n some few in (are (work_plan n) right, have (work_plan n) right, say (work_plan n) right.room)
