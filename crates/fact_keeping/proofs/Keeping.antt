-- The laws on activations that keep facts.
use Rattle.std.proofs.Common.{ℕ, arith}
use Rattle.std.specs.Prelude.{Contains, []}
use Rattle.activations.specs.Setting.{Setting}
use Rattle.activations.specs.Activations.{Stage, IsActivation}
use Rattle.flow_facts.specs.Facts.{no_facts}
use Rattle.fact_rules.specs.Keeping.{WalkKeepsFacts}
use Rattle.fact_keeping.specs.Keeping.{KeepsFacts}
use Rattle.fact_keeping.specs.Children.{WalkKeepsBoth}
use Rattle.fact_keeping.specs.Laws.{StaysKeepFacts, StaysKeepBoth, NoFactsAreAsked}
use Rattle.fact_keeping.proofs.Staying.{stays_keep_by}

pub stays_keep_facts : StaysKeepFacts
stays_keep_facts g m a b h facts keeps = stays_keep_by (WalkKeepsFacts g.program facts) g m a b h keeps.own keeps.inner

pub stays_keep_both : StaysKeepBoth
stays_keep_both g m a b h bound_of facts bounds keeps =
    stays_keep_by (WalkKeepsBoth g.program bound_of facts) g m a b h (bounds.own, keeps.own)
    (λ m' a' b' h' among. (bounds.inner m' a' b' h' among, keeps.inner m' a' b' h' among))

-- ---- no facts

nowhere : {X : Type 0} (x : X) → Contains [] x → ⊥
nowhere x (k, h, e) = omega arith

none_kept : {g : Setting} {m : ℕ} {a b : Stage} (h : IsActivation g m a b) → KeepsFacts no_facts h
none_kept h = record {
  own = λ g live f given of. absurd (nowhere f given);
  inner = λ m' a' b' h' among g live f given of. absurd (nowhere f given);
  calls = λ caller made makes f given of at. absurd (nowhere f given);
  within = λ f given of. absurd (nowhere f given);
}

pub no_facts_are_asked : NoFactsAreAsked
no_facts_are_asked P t bound_of m bound kept g a b setting is_P timing h keeps = kept g a b setting is_P timing h keeps (none_kept h)
