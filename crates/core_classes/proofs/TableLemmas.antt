-- The plans are those of the definition.
use Rattle.std.proofs.Common.{◌≡◌, List, [], ◌∷◌, ◌++◌, ap, ◌∙◌, append_assoc}
use Rattle.std.specs.Prelude.{codes}
use Rattle.class_making.specs.declared.plan.ClassPlan.{ClassPlan}
use Rattle.core_classes.specs.Core.{object_plan, interface_plan, string_plan, throwable_plan, error_plans, first_plans, io_plan, core_plans}

pub first_are : (a b c d e : ClassPlan) → a ≡ object_plan → b ≡ interface_plan (codes "java/io/Serializable") → c ≡ interface_plan (codes "java/lang/Cloneable") → d ≡ string_plan → e ≡ throwable_plan
    → a ∷ b ∷ c ∷ d ∷ e ∷ [] ≡ first_plans
unfolding first_plans
first_are a b c d e p q r s t = cc

pub all_added : (old initial appended pushed errors : List ClassPlan) (io : ClassPlan) → pushed ≡ appended ++ io ∷ [] → appended ≡ initial ++ errors → initial ≡ old ++ first_plans → io ≡ io_plan → errors ≡ error_plans → pushed ≡ old ++ core_plans
unfolding core_plans
all_added old initial appended pushed errors io push append first last are =
    push
    ∙ ap (λ (x : ClassPlan). appended ++ x ∷ []) last
    ∙ ap (λ (xs : List ClassPlan). xs ++ io_plan ∷ []) append
    ∙ append_assoc initial errors (io_plan ∷ [])
    ∙ ap (λ (xs : List ClassPlan). xs ++ (errors ++ io_plan ∷ [])) first
    ∙ append_assoc old first_plans (errors ++ io_plan ∷ [])
    ∙ ap (λ (xs : List ClassPlan). old ++ (first_plans ++ (xs ++ io_plan ∷ []))) are

pub first_added : (old xs ys zs us vs : List ClassPlan) (a b c d e : ClassPlan) → xs ≡ old ++ a ∷ [] → ys ≡ xs ++ b ∷ [] → zs ≡ ys ++ c ∷ [] → us ≡ zs ++ d ∷ [] → vs ≡ us ++ e ∷ []
    → a ≡ object_plan → b ≡ interface_plan (codes "java/io/Serializable") → c ≡ interface_plan (codes "java/lang/Cloneable") → d ≡ string_plan → e ≡ throwable_plan
    → vs ≡ old ++ first_plans
unfolding first_plans
first_added old xs ys zs us vs a b c d e p q r s t i j k l m =
    t
    ∙ ap (λ (l : List ClassPlan). l ++ e ∷ []) (s ∙ ap (λ (l : List ClassPlan). l ++ d ∷ []) (r ∙ ap (λ (l : List ClassPlan). l ++ c ∷ []) (q ∙ ap (λ (l : List ClassPlan). l ++ b ∷ []) p)))
    ∙ ap (λ (l : List ClassPlan). l ++ e ∷ []) (ap (λ (l : List ClassPlan). l ++ d ∷ []) (ap (λ (l : List ClassPlan). l ++ c ∷ []) (append_assoc old (a ∷ []) (b ∷ []))))
    ∙ ap (λ (l : List ClassPlan). l ++ e ∷ []) (ap (λ (l : List ClassPlan). l ++ d ∷ []) (append_assoc old (a ∷ b ∷ []) (c ∷ [])))
    ∙ ap (λ (l : List ClassPlan). l ++ e ∷ []) (append_assoc old (a ∷ b ∷ c ∷ []) (d ∷ []))
    ∙ append_assoc old (a ∷ b ∷ c ∷ d ∷ []) (e ∷ [])
    ∙ ap (λ (l : List ClassPlan). old ++ l) (first_are a b c d e i j k l m)
