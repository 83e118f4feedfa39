-- How `bound --facts` and `check --facts` end, and what that says of the machine.
use Rattle.std.specs.Prelude.{◌≡◌, ◌≤◌, ◌⊎◌, ℕ, List}
use Rattle.class_pool.specs.declared.class.ClassFile.{ClassFile}
use Rattle.program_tables.specs.Resolved.{resolved}
use Rattle.image_file.specs.Bare.{BareContent}
use Rattle.command_line.specs.declared.command.Settings.{Settings}
use Rattle.bound_texts.specs.Loops.Bounds.{LoopBound}
use Rattle.bound_texts.specs.Loops.Grammar.{IsRead}
use Rattle.flow_facts.specs.Facts.{Facts}
use Rattle.fact_keeping.specs.Keeping.{BoundsKept}
use Rattle.answer_lines.specs.declared.analysis.Held.{Held}
use Rattle.analysis_commands.specs.Analysis.{timing_of, bounds_of}
use Rattle.endings.specs.declared.outcome.Refusal.TheVariants as refusals
use Rattle.endings.specs.declared.outcome.Ending.{Ending}
use Rattle.endings.specs.declared.outcome.Ending.TheVariants.{Holds, Refused, NotPriced, NoMemory}
use Rattle.endings.specs.declared.outcome.Answer.{Answer}
use Rattle.endings.specs.declared.outcome.Answer.TheVariants.{Text, Ends}
use Rattle.analysis_commands.specs.declared.facts.FactsRefusal.{FactsRefusal}
use Rattle.analysis_commands.specs.declared.facts.FactsRefusal.TheVariants as facts
use Rattle.analysis_commands.specs.declared.priced_bound.NotPriced.{NotPriced as NotBounded}
use Rattle.analysis_commands.specs.declared.priced_bound.NotPriced.TheVariants as bounding
use Rattle.analysis_commands.specs.declared.priced_check.NotHeld.{NotHeld}
use Rattle.analysis_commands.specs.declared.priced_check.NotHeld.TheVariants as checking
use Rattle.analysis_commands.specs.Facts.{AreFactsOf}
use Rattle.analysis_commands.specs.PricedBounds.{IsCertTextWith, IsNotBoundedWith, IsBareNotBoundedWith}
use Rattle.analysis_commands.specs.PricedChecks.{IsHeldByFacts, IsNotHeldWith, IsBareNotHeldWith}
use Rattle.endings.specs.Fitting.{blocks_of_code, EndsTooLong}
use Rattle.ask_commands.specs.Bounding.{cause_ending}
use Rattle.ask_commands.specs.Checking.{refusal_ending}

-- ---- endings

-- the ending that says why a text gives no facts
abbrev pub facts_ending : FactsRefusal → Ending
facts_ending (facts.BadFacts line) = Refused (refusals.BadFacts line)
facts_ending (facts.TwiceFact line) = Refused (refusals.TwiceFact line)
facts_ending (facts.NoFact line) = Refused (refusals.NoFact line)
facts_ending facts.NoMemory = NoMemory

-- why no bound is given
abbrev pub unbounded_ending : Settings → NotBounded → Ending
unbounded_ending s (bounding.NoFacts refusal) = facts_ending refusal
unbounded_ending s (bounding.NotBound cause) = cause_ending s cause

-- why nothing is held
abbrev pub unheld_ending : Settings → NotHeld → Ending
unheld_ending s (checking.NoFacts refusal) = facts_ending refusal
unheld_ending s (checking.NoPrice method node name) = NotPriced method node name
unheld_ending s (checking.Refused refusal) = refusal_ending s refusal

-- ---- `bound`

-- What the text says holds of the program and of the machine: it is that of a certificate that meets its conditions by the facts, so each ended activation
-- of its method that keeps the bounds of loops and the facts takes at most as many cycles as it says, whatever the method cache held.
pub record BoundsWith (cs : List ClassFile) (s : Settings) (bounds_text facts_text name text : List ℕ) : Type 0 where
  pub is : IsCertTextWith cs s bounds_text facts_text name text
  pub holds : BoundsKept (resolved cs) (timing_of s) (bounds_of cs is.bounds) is.facts is.certificate.plain.root is.certificate.plain.bound

-- this refuses the method, the bounds or the facts, or forbids a bound, and the ending says it
pub record EndsUnbounded (cs : List ClassFile) (s : Settings) (bounds_text facts_text name : List ℕ) (ending : Ending) : Type 0 where
  pub cause : NotBounded
  pub is : IsNotBoundedWith cs s bounds_text facts_text name cause
  pub says : ending ≡ unbounded_ending s cause

-- such a text answers, or such an ending
abbrev pub AnswersBoundWith : List ClassFile → Settings → (bounds_text facts_text name : List ℕ) → Answer → Type 0
AnswersBoundWith cs s bounds_text facts_text name (Text text) = BoundsWith cs s bounds_text facts_text name text.items
AnswersBoundWith cs s bounds_text facts_text name (Ends ending) = EndsUnbounded cs s bounds_text facts_text name ending

-- of a bare image, whose code fits: this refuses the bounds or the facts, or else no method has the name
pub record EndsUnnamedWith (s : Settings) (image : BareContent) (bounds_text facts_text : List ℕ) (ending : Ending) : Type 0 where
  pub fits : blocks_of_code s image ≤ s.blocks
  pub cause : NotBounded
  pub is : IsBareNotBoundedWith bounds_text facts_text cause
  pub says : ending ≡ unbounded_ending s cause

abbrev pub BoundsBareWith : Settings → BareContent → (bounds_text facts_text : List ℕ) → Ending → Type 0
BoundsBareWith s image bounds_text facts_text ending = EndsTooLong s image ending ⊎ EndsUnnamedWith s image bounds_text facts_text ending

-- ---- `check`

-- What holds of the program and of the machine: the certificate meets its conditions, by the facts where it is of version 3, so each ended activation of
-- its method that keeps the bounds of loops and the facts takes at most as many cycles as it says, whatever the method cache held.
pub record ShowsBoundWith (cs : List ClassFile) (s : Settings) (bounds_text facts_text cert_text : List ℕ) (h : Held) : Type 0 where
  pub meets : IsHeldByFacts cs s bounds_text facts_text cert_text h
  pub bounds : List LoopBound
  pub bounds_read : IsRead bounds_text bounds
  pub facts : Facts
  pub facts_are : AreFactsOf cs facts_text facts
  pub holds : BoundsKept (resolved cs) (timing_of s) (bounds_of cs bounds) facts h.root h.bound

-- this holds, and the ending says it
pub record EndsHeldWith (cs : List ClassFile) (s : Settings) (bounds_text facts_text cert_text : List ℕ) (ending : Ending) : Type 0 where
  pub held : Held
  pub shows : ShowsBoundWith cs s bounds_text facts_text cert_text held
  pub says : ending ≡ Holds held

-- this refuses the method, the bounds, the facts or the certificate, and the ending says it
pub record EndsUnheld (cs : List ClassFile) (s : Settings) (bounds_text facts_text cert_text : List ℕ) (ending : Ending) : Type 0 where
  pub refusal : NotHeld
  pub cause : IsNotHeldWith cs s bounds_text facts_text cert_text refusal
  pub says : ending ≡ unheld_ending s refusal

-- how the check of a program ends
abbrev pub ChecksWith : List ClassFile → Settings → (bounds_text facts_text cert_text : List ℕ) → Ending → Type 0
ChecksWith cs s bounds_text facts_text cert_text ending =
    EndsHeldWith cs s bounds_text facts_text cert_text ending ⊎ EndsUnheld cs s bounds_text facts_text cert_text ending

-- of a bare image, whose code fits: this refuses the bounds, the facts or the certificate
pub record EndsMissingWith (s : Settings) (image : BareContent) (bounds_text facts_text cert_text : List ℕ) (ending : Ending) : Type 0 where
  pub fits : blocks_of_code s image ≤ s.blocks
  pub refusal : NotHeld
  pub cause : IsBareNotHeldWith bounds_text facts_text cert_text refusal
  pub says : ending ≡ unheld_ending s refusal

abbrev pub ChecksBareWith : Settings → BareContent → (bounds_text facts_text cert_text : List ℕ) → Ending → Type 0
ChecksBareWith s image bounds_text facts_text cert_text ending =
    EndsTooLong s image ending ⊎ EndsMissingWith s image bounds_text facts_text cert_text ending
