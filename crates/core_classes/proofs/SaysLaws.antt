-- What the core classes and the class that is run say.
use Rattle.std.proofs.Common.{◌≡◌, ℕ, zero, suc, List, [], ◌∷◌, map, Some, None, refl, ap, subst, ◌∙◌}
use Rattle.std.specs.Prelude.{slice_get}
use Rattle.std.specs.Option.{option_map}
use Rattle.std.specs.List.{AllByRecursion}
use Rattle.std.proofs.lemmas.Option.{slice_get-map}
use Rattle.class_making.specs.declared.plan.ClassPlan.{ClassPlan}
use Rattle.class_making.specs.Plans.{class_of}
use Rattle.class_making.specs.Right.{IsRightPlan}
use Rattle.class_making.specs.Laws.{ClassesSayPlans, ItemsAreFew}
use Rattle.core_classes.specs.Core.{object_plan, interface_plan, string_plan, throwable_plan, error_plan, error_plans, io_plan, first_plans, core_plans, core, boot_plan, boot}
use Rattle.core_classes.specs.Laws.{core_names, class_name, CoreIsNamed, CoreSaysPlans, BootSaysPlan}
use Rattle.core_classes.proofs.CoreLaws.{core_right}
use Rattle.core_classes.proofs.BootLaws.{boot_room}

names_said : (ps : List ClassPlan) → ClassesSayPlans → AllByRecursion IsRightPlan ps → map class_name (map class_of ps) ≡ map (λ p. p.name) ps
names_said [] say h = refl
names_said (p ∷ ps) say h =
    ap (λ (n : List ℕ). n ∷ map class_name (map class_of ps)) (say p h.0.room).name
    ∙ ap (λ (ns : List (List ℕ)). p.name ∷ ns) (names_said ps say h.1)

plans_named : map (λ (p : ClassPlan). p.name) core_plans ≡ core_names
unfolding core_plans first_plans object_plan interface_plan string_plan throwable_plan error_plans error_plan io_plan
plans_named = refl

pub core_named : (few : ItemsAreFew) → ClassesSayPlans → CoreIsNamed
unfolding core
core_named few say = names_said core_plans say (core_right few) ∙ plans_named

right_at : (ps : List ClassPlan) (i : ℕ) (p : ClassPlan) → AllByRecursion IsRightPlan ps → slice_get ps i ≡ Some p → IsRightPlan p
right_at [] i p h at = absurd (let f : None ≡ Some p = at in cc)
right_at (q ∷ ps) zero p h at = let same : q ≡ p = cc in subst (λ (r : ClassPlan). IsRightPlan r) same h.0
right_at (q ∷ ps) (suc i) p h at = right_at ps i p h.1 at

pub core_says : (few : ItemsAreFew) → ClassesSayPlans → CoreSaysPlans
unfolding core
core_says few say i p at =
    (slice_get-map class_of core_plans i ∙ ap (option_map class_of) at, say p (right_at core_plans i p (core_right few) at).room)

pub boot_says : (few : ItemsAreFew) → ClassesSayPlans → BootSaysPlan
unfolding boot
boot_says few say calls main count = say (boot_plan calls main) (boot_room few calls main count)
