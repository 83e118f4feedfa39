-- A cause that forbids a bound is the one that is answered.
use Rattle.std.proofs.Common.{◌≡◌, ℕ, List, Some, refl, sym, ◌∙◌, ap, ap₂, ◌⊎◌, inl, inr}
use Rattle.lists.proofs.Lemmas.{some_same}
use Rattle.program_tables.specs.Resolved.{resolved}
use Rattle.name_laws.specs.Written.{written_name}
use Rattle.bound_texts.specs.Loops.Bounds.{LoopBound}
use Rattle.bound_texts.specs.Loops.Laws.{GivesOne, ReadIsNotRefused}
use Rattle.bound_rules.specs.declared.faults.BoundRefusal.{BoundRefusal}
use Rattle.bound_rules.specs.declared.faults.BoundRefusal.TheVariants as forbids
use Rattle.bound_laws.specs.Existing.{ResolvedCodesAreShort, HaveOwnCosts, OwnCostsExist}
use Rattle.bound_laws.specs.Causes.{IsForbidding, Bears, IsSameRefusal, RefusalsAreOne, PrintedIsNotForbidden}
use Rattle.answer_lines.specs.declared.bound.BoundCause.{BoundCause}
use Rattle.answer_lines.specs.declared.bound.BoundCause.TheVariants as causes
use Rattle.analysis_commands.specs.Analysis.{timing_of, bounds_of}
use Rattle.analysis_commands.specs.Bounding.{cause_of}
use Rattle.command_line.specs.declared.command.Settings.{Settings}
use Rattle.command_line.specs.Range.{AreSettings}
use Rattle.jopizer.specs.Linked.{Parts}
use Rattle.jopizer.specs.Laws.{OneLinked, LinkedImagesAreRead}
use Rattle.endings.specs.declared.outcome.Refusal.TheVariants.{Bound as Forbidden}
use Rattle.endings.specs.declared.outcome.Ending.{Ending}
use Rattle.endings.specs.declared.outcome.Outcome.TheVariants as outcomes
use Rattle.jop_cli.specs.Answer.{outcome_of}
use Rattle.jop_cli.specs.Calls.{Call, LacksMemory}
use Rattle.jop_cli.specs.promises.Bound.{Forbids, AnswersForbidden, CausesAreAnswered, NamesTellMethods}
use Rattle.jop_cli.proofs.Wholly.{IsWholly, wholly, lacks}
use Rattle.jop_cli.proofs.AskingLaw.{IsSound}
use Rattle.jop_cli.proofs.BoundingLaw.{Settled, bounded, forbidden, lacking, settled, forbids_so, caused}

-- ---- refusals

-- it forbids a bound in the sense of the law
in_law : (s : Settings) (l : Parts) (lines : List LoopBound) (name : List ℕ) (refusal : BoundRefusal) → Forbids s l lines name refusal
    → IsForbidding (resolved l.classes) (timing_of s) (bounds_of l.classes lines) (Bears (written_name l.classes) name) refusal
in_law s l lines name forbids.NoMemory h = h
in_law s l lines name forbids.NoMethod h = h
in_law s l lines name (forbids.Recursion cycle) h = h
in_law s l lines name (forbids.Irreducible m nodes) h = h
in_law s l lines name (forbids.MissingBound m p) h = h
in_law s l lines name (forbids.TooLarge m) h = h

same_cause : (a b : BoundRefusal) → IsSameRefusal a b → cause_of a ≡ cause_of b
same_cause forbids.NoMethod forbids.NoMethod h = refl
same_cause (forbids.Recursion cycle) (forbids.Recursion other) h = refl
same_cause (forbids.Irreducible m nodes) (forbids.Irreducible x others) h = ap (λ (n : ℕ). Some (causes.Irreducible n)) h.0
same_cause (forbids.MissingBound m p) (forbids.MissingBound x q) h = ap₂ (λ (n place : ℕ). Some (causes.MissingBound n place)) h.0 h.1
same_cause (forbids.TooLarge m) (forbids.TooLarge x) h = ap (λ (n : ℕ). Some (causes.TooLarge n)) h
same_cause a b h = absurd h

-- ---- what is answered

module _ (one : RefusalsAreOne) (none : PrintedIsNotForbidden) (costs : OwnCostsExist) (names : NamesTellMethods) (short : ResolvedCodesAreShort)
    (c : Call) (s : Settings) (settings : AreSettings s) (l : Parts) (lines : List LoopBound) (name : List ℕ) (refusal : BoundRefusal) (cause : BoundCause)
    (forbids_it : Forbids s l lines name refusal) (cause_is : cause_of refusal ≡ Some cause) where
  own_costs : IsSound l → HaveOwnCosts (resolved l.classes) (timing_of s)
  own_costs sound =
      costs (resolved l.classes) _ (timing_of s) (sound.setting 0 0).typed settings.read_most settings.write_most (short l.classes sound.resolved)

  one_cause : IsSound l → (other : BoundRefusal) → Forbids s l lines name other → cause_of other ≡ Some cause
  one_cause sound other h =
      let same =
      one (resolved l.classes) _ (timing_of s) (bounds_of l.classes lines) (written_name l.classes) name other refusal (sound.setting 0 0).typed (sound.setting 0 0).lawful (own_costs sound)
      (names l.classes sound.resolved) (in_law s l lines name other h) (in_law s l lines name refusal forbids_it) in
      same_cause other refusal same ∙ cause_is

  answers : (ending : Ending) → IsWholly c ending → Settled c s l lines name ending → AnswersForbidden c s l lines name cause ⊎ LacksMemory c
  answers ending w (bounded says d is grammar put holds sound) =
      absurd (none (resolved l.classes) (timing_of s) (bounds_of l.classes lines) (written_name l.classes) name d.root d.bound refusal (names l.classes sound.resolved) is.asked is.no_cause is.printed
      (in_law s l lines name refusal forbids_it))
  answers ending w (forbidden other subject says found is other_is subject_is quiet sound) =
      let same = some_same other cause (sym other_is ∙ one_cause sound found (forbids_so s l lines name found other other_is is)) in
      let answer : c.outcome ≡ outcomes.Refused (Forbidden cause) = w.outcome ∙ (ap outcome_of says ∙ ap (λ (x : BoundCause). outcomes.Refused (Forbidden x)) same) in
      inl (caused c s l lines name ending w cause answer (forbidden other subject says found is other_is subject_is quiet sound))
  answers ending w (lacking says quiet) = inr (lacks c ending w says quiet)

pub causes_are_answered : GivesOne → ReadIsNotRefused → OneLinked → LinkedImagesAreRead → RefusalsAreOne → PrintedIsNotForbidden → OwnCostsExist → NamesTellMethods → ResolvedCodesAreShort
    → CausesAreAnswered
causes_are_answered gives not_refused linked_one images one none costs names short c s image l lines name refusal cause settings h n forbids_it cause_is =
    answers one none costs names short c s settings l lines name refusal cause forbids_it cause_is c.answered.ending (wholly c n)
    (settled gives not_refused c s image l lines name h linked_one images n)
