-- The plan of the class that is run is right.
use Rattle.std.proofs.Common.{◌≡◌, ℕ, ◌+◌, ◌*◌, ◌≤◌, List, [], ◌∷◌, ◌++◌, length, refl, arith, lit<}
use Rattle.std.specs.Prelude.{codes, None}
use Rattle.std.specs.List.{flat_map, AllByRecursion}
use Rattle.std.proofs.lemmas.List.{length-append}
use Rattle.class_making.specs.declared.plan.Piece.{Piece}
use Rattle.class_making.specs.Plans.{piece_mentions, plan_mentions, items_of}
use Rattle.class_making.specs.Right.{IsRightMention, code_length, IsRightPiece, IsRightCodePlan, IsRightMethodPlan, IsRightPlan}
use Rattle.class_making.specs.Laws.{PlansAreClasses, PlansHaveBytes, ItemsAreFew}
use Rattle.core_classes.specs.Core.{object_name, string_name, call_pieces, main_pieces, boot_pieces, boot_method, boot_plan, boot}
use Rattle.core_classes.specs.Laws.{IsCalled, BootIsAClass}
use Rattle.core_classes.proofs.RightLemmas.{pool_text, nothing_types, main_types, is_method, text_right, class_right, method_right, private_access, plain_method}
use Rattle.core_classes.proofs.CoreLaws.{joined, bare_right}

-- ---- the calls, before other pieces

calls_mention : (calls : List (List ℕ)) (rest : List Piece) → AllByRecursion IsCalled calls → AllByRecursion IsRightMention (flat_map piece_mentions rest) → AllByRecursion IsRightMention (flat_map piece_mentions (flat_map call_pieces calls ++ rest))
unfolding call_pieces
calls_mention [] rest h r = r
calls_mention (name ∷ calls) rest h r =
    (method_right name (codes "<clinit>") (codes "()V") h.0.0 h.0.1 refl (pool_text (codes "<clinit>") refl) (is_method (codes "()V") nothing_types) (pool_text (codes "()V") refl), calls_mention calls rest h.1 r)

calls_count : (calls : List (List ℕ)) (rest : List Piece) → length (flat_map piece_mentions (flat_map call_pieces calls ++ rest)) ≡ length calls + length (flat_map piece_mentions rest)
unfolding call_pieces
calls_count [] rest = omega arith
calls_count (name ∷ calls) rest = omega (arith, calls_count calls rest)

calls_length : (calls : List (List ℕ)) (rest : List Piece) → code_length (flat_map call_pieces calls ++ rest) ≡ 3 * length calls + code_length rest
unfolding call_pieces
calls_length [] rest = omega arith
calls_length (name ∷ calls) rest = omega (arith, calls_length calls rest)

calls_are_pieces : (calls : List (List ℕ)) (rest : List Piece) → AllByRecursion IsRightPiece rest → AllByRecursion IsRightPiece (flat_map call_pieces calls ++ rest)
unfolding call_pieces
calls_are_pieces [] rest r = r
calls_are_pieces (name ∷ calls) rest r = (lit< tt, (tt, calls_are_pieces calls rest r))

-- ---- all of the code

main_mentions : (main : List ℕ) → IsCalled main → AllByRecursion IsRightMention (flat_map piece_mentions (main_pieces main))
unfolding main_pieces
main_mentions main h = (
  class_right string_name refl (pool_text string_name refl),
  (method_right main (codes "main") (codes "([Ljava/lang/String;)V") h.0 h.1 refl (pool_text (codes "main") refl) (is_method (codes "([Ljava/lang/String;)V") main_types) (pool_text (codes "([Ljava/lang/String;)V") refl), tt),
)

boot_code : (calls : List (List ℕ)) (main : List ℕ) → length calls ≤ 10000 → IsRightCodePlan (record { max_stack = 1; max_locals = 0; pieces = boot_pieces calls main; stack_map = None })
unfolding boot_pieces main_pieces
boot_code calls main few = record {
  max_stack = lit< tt;
  max_locals = lit< tt;
  not_empty = omega (arith, calls_length calls (main_pieces main));
  not_long = omega (arith, calls_length calls (main_pieces main), few);
  pieces = calls_are_pieces calls (main_pieces main) (lit< tt, (lit< tt, (tt, (lit< tt, (tt, (lit< tt, tt))))));
  stack_map = tt;
}

boot_right_method : (calls : List (List ℕ)) (main : List ℕ) → length calls ≤ 10000 → IsRightMethodPlan 0x0030 (boot_method calls main)
unfolding boot_method
boot_right_method calls main few =
    plain_method 0x0030 0x000A (codes "boot") (codes "()V") 1 0 (boot_pieces calls main) (lit< tt) (refl, refl) refl nothing_types (private_access 0x000A refl refl) refl refl (boot_code calls main few)

-- ---- the plan

mentions_room : (calls : List (List ℕ)) (main : List ℕ) → length calls ≤ 10000 → 6 * length (plan_mentions (boot_plan calls main)) ≤ 65534
unfolding boot_plan boot_method boot_pieces main_pieces
mentions_room calls main few =
    omega (arith, length-append (flat_map piece_mentions (flat_map call_pieces calls ++ main_pieces main)) [], calls_count calls (main_pieces main), few)

pub boot_room : (few : ItemsAreFew) (calls : List (List ℕ)) (main : List ℕ) → length calls ≤ 10000 → length (items_of (boot_plan calls main)) ≤ 65534
boot_room few calls main count = omega (arith, few (boot_plan calls main), mentions_room calls main count)

boot_right : (few : ItemsAreFew) (calls : List (List ℕ)) (main : List ℕ) → length calls ≤ 10000 → AllByRecursion IsCalled calls → IsCalled main → IsRightPlan (boot_plan calls main)
unfolding boot_plan boot_method boot_pieces
boot_right few calls main count called mained =
    bare_right few 0x0030 (codes "jop/Boot") object_name (boot_method calls main ∷ []) (lit< tt) refl (refl, pool_text (codes "jop/Boot") refl) (refl, pool_text object_name refl) (mentions_room calls main count) (lit< tt) (
      text_right (codes "boot") (pool_text (codes "boot") refl),
      (
        text_right (codes "()V") (pool_text (codes "()V") refl),
        (
          text_right (codes "Code") (pool_text (codes "Code") refl),
          joined (flat_map piece_mentions (flat_map call_pieces calls ++ main_pieces main)) [] (calls_mention calls (main_pieces main) called (main_mentions main mained)) tt,
        ),
      ),
    )
    (boot_right_method calls main count, tt)
    (tt, tt)

pub boot_is_a_class : (few : ItemsAreFew) → PlansAreClasses → PlansHaveBytes → BootIsAClass
unfolding boot
boot_is_a_class few are have calls main count called mained =
    let right = boot_right few calls main count called mained in
    (are (boot_plan calls main) right, have (boot_plan calls main) right)
