-- The only step of a local variable in a loop.
use Rattle.std.proofs.Common.{◌≡◌, ℕ, ◌*◌, ℤ, [], Contains, Some, None, sym, ap, ◌∙◌, subst}
use Rattle.lists.specs.Members.{at_head}
use Rattle.loop_acts.specs.declared.effects.Act.{Act}
use Rattle.loop_acts.specs.declared.effects.Act.TheVariants as does
use Rattle.loop_acts.specs.Acts.{act_at, written}
use Rattle.loop_marks.specs.Marking.{Marks, AreMarksOf}
use Rattle.loop_acts.specs.Writing.{IsAlone, IsOnlyOf, IsWriterAmong}
use Rattle.loop_finder.specs.Counting.{Body, IsOnlyStep, IsStepFound, IsAddedBy}

-- ---- the only step

abbrev step_by : ℤ → Act → ℤ
step_by d (does.Step k s) = s
step_by d a = d

module _ (b : Body) (k : Marks) (local : ℕ) (marks : AreMarksOf b.graph k) where
  writer : (step : ℕ) (s : ℤ) → IsOnlyStep b k.header local step s → IsAlone (IsWriterAmong b.acts k.nodes local) step
  writer step s is = (
    ((marks.nodes (2 * step)).1 is.member, subst (λ (a : Act). Contains (written a) local) (sym is.is) (at_head local [])),
    λ p w. is.alone p ((marks.nodes (2 * p)).0 w.0) w.1,
  )

  pub no_step : IsOnlyOf (IsWriterAmong b.acts k.nodes local) None → IsStepFound b k.header local None
  no_step none = λ step s is. none step (writer step s is)

  module _ (place : ℕ) (one : IsAlone (IsWriterAmong b.acts k.nodes local) place) where
    there : (step : ℕ) (s : ℤ) → IsOnlyStep b k.header local step s → step ≡ place
    there step s is = one.1 step (writer step s is).0

    act : (step : ℕ) (s : ℤ) → IsOnlyStep b k.header local step s → act_at b.acts place ≡ does.Step local s
    act step s is = sym (ap (act_at b.acts) (there step s is)) ∙ is.is

    pub other_act : IsAddedBy (act_at b.acts place) local None → IsStepFound b k.header local None
    other_act none = λ step s is. is.moves (none s (act step s is))

    pub one_step : (by : ℤ) → IsAddedBy (act_at b.acts place) local (Some by) → IsStepFound b k.header local (Some (place, by))
    one_step by added = (
      record { is = added.0; moves = added.1; member = (marks.nodes (2 * place)).0 one.0.0; alone = λ p member w. one.1 p ((marks.nodes (2 * p)).1 member, w) },
      λ step s is. (there step s is, ap (step_by s) (sym (act step s is) ∙ added.0)),
    )
