-- Endings that refuse: they neither answer, nor say that the input or out failed.
use Rattle.std.proofs.Common.{◌≡◌, ℕ, true, false, List, Option, sym, subst, ⊎_elim}
use Rattle.class_pool.specs.declared.class.ClassFile.{ClassFile}
use Rattle.image_file.specs.Bare.{BareContent}
use Rattle.outside.specs.Files.{FilesTold}
use Rattle.answer_lines.specs.declared.analysis.AnalysisFault.{AnalysisFault}
use Rattle.answer_lines.specs.declared.analysis.AnalysisFault.TheVariants as analysis
use Rattle.answer_lines.specs.declared.analysis.Held.{Held}
use Rattle.analysis_commands.specs.declared.check.CheckRefusal.{CheckRefusal}
use Rattle.analysis_commands.specs.declared.check.CheckRefusal.TheVariants as check
use Rattle.analysis_commands.specs.declared.bound.NotBounded.{NotBounded}
use Rattle.analysis_commands.specs.declared.bound.NotBounded.TheVariants as bound
use Rattle.analysis_commands.specs.declared.memory.MemoryRefusal.{MemoryRefusal}
use Rattle.analysis_commands.specs.declared.memory.MemoryRefusal.TheVariants as needs
use Rattle.source_headers.specs.declared.fault.HeaderFault.{HeaderFault}
use Rattle.source_headers.specs.declared.fault.HeaderFault.TheVariants as headers
use Rattle.jopizer.specs.Linked.{Parts}
use Rattle.command_line.specs.declared.command.Settings.{Settings}
use Rattle.ask_commands.specs.declared.asking.Question.{Question}
use Rattle.ask_commands.specs.declared.asking.Question.TheVariants as questions
use Rattle.endings.specs.declared.outcome.Ending.{Ending}
use Rattle.endings.specs.declared.outcome.Ending.TheVariants as endings
use Rattle.endings.specs.declared.outcome.Outcome.TheVariants as outcomes
use Rattle.endings.specs.declared.outcome.Answer.TheVariants.{Ends}
use Rattle.endings.specs.Opening.{ImageFault}
use Rattle.endings.specs.Opening.{BytesFault}
use Rattle.endings.specs.Linking.{OperandsFault}
use Rattle.endings.specs.AnalysisFaults.{fault_ending}
use Rattle.ask_commands.specs.Checking.{refusal_ending, Checks}
use Rattle.endings.specs.Fitting.{EndsTooLong, IsUnheld}
use Rattle.ask_commands.specs.Bounding.{cause_ending}
use Rattle.ask_commands.specs.Needs.{memory_ending}
use Rattle.ask_commands.specs.Headers.{header_ending}
use Rattle.ask_commands.specs.Circuits.{IsUnmade}
use Rattle.ask_commands.specs.Asking.{IsAnswer, IsBareAnswer}
use Rattle.analysis_commands.specs.declared.facts.FactsRefusal.{FactsRefusal}
use Rattle.analysis_commands.specs.declared.facts.FactsRefusal.TheVariants as facts_refusals
use Rattle.analysis_commands.specs.declared.priced_bound.NotPriced.{NotPriced}
use Rattle.analysis_commands.specs.declared.priced_bound.NotPriced.TheVariants as unbounded
use Rattle.analysis_commands.specs.declared.priced_check.NotHeld.{NotHeld}
use Rattle.analysis_commands.specs.declared.priced_check.NotHeld.TheVariants as unheld
use Rattle.ask_commands.specs.declared.priced_files.PricedQuestion.{PricedQuestion}
use Rattle.ask_commands.specs.declared.priced_files.PricedQuestion.TheVariants as priced_questions
use Rattle.ask_commands.specs.Pricing.{facts_ending, unbounded_ending, unheld_ending}
use Rattle.ask_commands.specs.PricedFiles.{IsPricedAnswer, IsBarePricedAnswer, IsFactsEnding}
use Rattle.jop_cli.specs.Answer.{outcome_of, outcome_unsaid}

abbrev pub IsRefusing : Ending → Type 0
IsRefusing (endings.Ended counts) = ⊥
IsRefusing endings.Written = ⊥
IsRefusing (endings.Linked sizes) = ⊥
IsRefusing (endings.Holds held) = ⊥
IsRefusing (endings.Uncaught class name counts) = ⊥
IsRefusing (endings.Refused refusal) = Unit {0}
IsRefusing (endings.TooLong method name blocks limit) = Unit {0}
IsRefusing (endings.NotLinked refusal name) = Unit {0}
IsRefusing (endings.NotHeld fault name) = Unit {0}
IsRefusing (endings.NotPriced method node name) = Unit {0}
IsRefusing (endings.NotAnswered cause subject) = Unit {0}
IsRefusing (endings.Spent counts) = ⊥
IsRefusing (endings.CycleEnded slots) = ⊥
IsRefusing (endings.CycleUncaught class name slots) = ⊥
IsRefusing (endings.CycleSpent slots) = ⊥
IsRefusing endings.ReadFault = Unit {0}
IsRefusing endings.InputFault = ⊥
IsRefusing endings.WriteFault = ⊥
IsRefusing endings.NoMemory = Unit {0}

pub refusing_by : (a b : Ending) → a ≡ b → IsRefusing b → IsRefusing a
refusing_by a b is h = subst IsRefusing (sym is) h

-- ---- what it isn't

pub not_written : (e : Ending) → IsRefusing e → outcome_of e ≡ outcomes.Written → ⊥
not_written endings.Written h is = h
not_written (endings.Linked sizes) h is = h
not_written e h is = absurd (cc)

pub not_holds : (e : Ending) → IsRefusing e → outcome_of e ≡ outcomes.Holds → ⊥
not_holds (endings.Holds held) h is = h
not_holds e h is = absurd (cc)

pub unsaid_written : (e : Ending) → outcome_unsaid e ≡ outcomes.Written → ⊥
unsaid_written (endings.Ended counts) is = absurd (cc)
unsaid_written e is = absurd (cc)

pub unsaid_holds : (e : Ending) → outcome_unsaid e ≡ outcomes.Holds → ⊥
unsaid_holds (endings.Ended counts) is = absurd (cc)
unsaid_holds e is = absurd (cc)

-- ---- which refuse

pub fault_refuses : (s : Settings) (fault : AnalysisFault) → IsRefusing (fault_ending s fault)
fault_refuses s (analysis.MethodTooLong m name blocks) = tt
fault_refuses s (analysis.BadBounds line) = tt
fault_refuses s (analysis.TwiceBound line) = tt
fault_refuses s analysis.NoMemory = tt

pub refusal_refuses : (s : Settings) (refusal : CheckRefusal) → IsRefusing (refusal_ending s refusal)
refusal_refuses s (check.NoAnalysis fault) = fault_refuses s fault
refusal_refuses s (check.BadCert line) = tt
refusal_refuses s (check.Fails fault name) = tt
refusal_refuses s check.NoMemory = tt

pub cause_refuses : (s : Settings) (cause : NotBounded) → IsRefusing (cause_ending s cause)
cause_refuses s (bound.NoAnalysis fault) = fault_refuses s fault
cause_refuses s (bound.Forbidden cause subject) = tt
cause_refuses s bound.NoMemory = tt

need_refuses : (refusal : MemoryRefusal) → IsRefusing (memory_ending refusal)
need_refuses (needs.BadBounds line) = tt
need_refuses (needs.TwiceBound line) = tt
need_refuses (needs.BadSizes line) = tt
need_refuses (needs.TwiceSize line) = tt
need_refuses (needs.NoNeed cause subject) = tt
need_refuses needs.NoMemory = tt

header_refuses : (fault : HeaderFault) → IsRefusing (header_ending fault)
header_refuses (headers.BadLine line) = tt
header_refuses (headers.TwiceLine line) = tt
header_refuses (headers.Stray subject) = tt
header_refuses headers.NoMemory = tt

pub bytes_refuse : (bytes : List ℕ) (e : Ending) → BytesFault bytes e → IsRefusing e
bytes_refuse bytes (endings.Refused refusal) h = tt
bytes_refuse bytes (endings.NotLinked refusal name) h = tt
bytes_refuse bytes endings.NoMemory h = tt
bytes_refuse bytes e h = absurd h

pub image_refuses : (bytes : List ℕ) (e : Ending) → ImageFault bytes e → IsRefusing e
image_refuses bytes (endings.Refused refusal) h = tt
image_refuses bytes endings.NoMemory h = tt
image_refuses bytes e h = absurd h

pub operands_refuse : (first end : ℕ) (old new : FilesTold) (e : Ending) → OperandsFault first end old new e → IsRefusing e
operands_refuse first end old new (endings.Refused refusal) h = tt
operands_refuse first end old new endings.ReadFault h = tt
operands_refuse first end old new endings.NoMemory h = tt
operands_refuse first end old new e h = absurd h

-- ---- a machine that doesn't hold what is linked, and a circuit that isn't made

unfit_refuses : (s : Settings) (l : Parts) (e : Ending) → IsUnheld s l e → IsRefusing e
unfit_refuses s l (endings.TooLong method name blocks limit) h = tt
unfit_refuses s l (endings.Refused refusal) h = tt
unfit_refuses s l endings.NoMemory h = tt
unfit_refuses s l e h = absurd h

unmade_refuses : (e : Ending) → IsUnmade e → IsRefusing e
unmade_refuses (endings.Refused refusal) h = tt
unmade_refuses endings.NoMemory h = tt
unmade_refuses e h = absurd h

-- ---- an answer without a text refuses, or says that a certificate holds

pub data Says (e : Ending) : Type 0 where
  refuses : IsRefusing e → Says e
  holds : (held : Held) → e ≡ endings.Holds held → Says e

checks_say : {cs : List ClassFile} {s : Settings} {bounds_text cert_text : List ℕ} (e : Ending) → Checks cs s bounds_text cert_text e → Says e
checks_say {s = s} e checks = ⊎_elim (λ h. holds h.held h.says) (λ r. refuses (refusing_by e (refusal_ending s r.refusal) r.says (refusal_refuses s r.refusal))) checks

pub linked_says : (words : List (List ℕ)) (question : Question) (l : Parts) (operands : List (List ℕ)) (e : Ending) → IsAnswer words question l operands (Ends e) → Says e
linked_says words (questions.Check s) l operands e checks = checks_say e checks
linked_says words (questions.Bound s method) l operands e ends = refuses (refusing_by e (cause_ending s ends.cause) ends.says (cause_refuses s ends.cause))
linked_says words (questions.Bounds s) l operands e ends = refuses (refusing_by e (fault_ending s ends.fault) ends.says (fault_refuses s ends.fault))
linked_says words (questions.Shapes s method) l operands e ends = refuses (refusing_by e (cause_ending s ends.cause) ends.says (cause_refuses s ends.cause))
linked_says words (questions.Report s method) l operands e ends = refuses (refusing_by e (cause_ending s ends.cause) ends.says (cause_refuses s ends.cause))
linked_says words (questions.Loops true) l operands e is = refuses (refusing_by e endings.NoMemory is tt)
linked_says words (questions.Loops false) l operands e is = refuses (refusing_by e endings.NoMemory is tt)
linked_says words questions.Headers l operands e ends = refuses (refusing_by e (header_ending ends.fault) ends.says (header_refuses ends.fault))
linked_says words questions.Memory l operands e ends = refuses (refusing_by e (memory_ending ends.refusal) ends.says (need_refuses ends.refusal))
linked_says words (questions.Rtl s) l operands e ends = refuses (⊎_elim (λ un. unfit_refuses s l e un) (λ m. unmade_refuses e m.1) ends)

pub too_long_refuses : (s : Settings) (image : BareContent) (e : Ending) → EndsTooLong s image e → IsRefusing e
too_long_refuses s image e long = refusing_by e _ long.says tt

pub bare_refuses : (question : Question) (image : BareContent) (operands : List (List ℕ)) (e : Ending) → IsBareAnswer question image operands (Ends e) → IsRefusing e
bare_refuses (questions.Check s) image operands e ends = ⊎_elim (too_long_refuses s image e) (λ r. refusing_by e (refusal_ending s r.refusal) r.says (refusal_refuses s r.refusal)) ends
bare_refuses (questions.Bound s method) image operands e ends = ⊎_elim (too_long_refuses s image e) (λ r. refusing_by e (cause_ending s r.cause) r.says (cause_refuses s r.cause)) ends
bare_refuses (questions.Bounds s) image operands e ends = ⊎_elim (too_long_refuses s image e) (λ r. refusing_by e (fault_ending s r.fault) r.says (fault_refuses s r.fault)) ends
bare_refuses (questions.Shapes s method) image operands e ends = refusing_by e (cause_ending s ends.cause) ends.says (cause_refuses s ends.cause)
bare_refuses (questions.Report s method) image operands e ends = ⊎_elim (too_long_refuses s image e) (λ r. refusing_by e (cause_ending s r.cause) r.says (cause_refuses s r.cause)) ends
bare_refuses (questions.Loops further) image operands e ends = absurd ends
bare_refuses questions.Headers image operands e ends = refusing_by e (header_ending ends.fault) ends.says (header_refuses ends.fault)
bare_refuses questions.Memory image operands e ends = refusing_by e (memory_ending ends.refusal) ends.says (need_refuses ends.refusal)
bare_refuses (questions.Rtl s) image operands e ends = ⊎_elim (too_long_refuses s image e) (λ m. unmade_refuses e m.1) ends

-- ---- by facts

facts_refuse : (refusal : FactsRefusal) → IsRefusing (facts_ending refusal)
facts_refuse (facts_refusals.BadFacts line) = tt
facts_refuse (facts_refusals.TwiceFact line) = tt
facts_refuse (facts_refusals.NoFact line) = tt
facts_refuse facts_refusals.NoMemory = tt

pub unbounded_refuses : (s : Settings) (cause : NotPriced) → IsRefusing (unbounded_ending s cause)
unbounded_refuses s (unbounded.NoFacts refusal) = facts_refuse refusal
unbounded_refuses s (unbounded.NotBound cause) = cause_refuses s cause

pub unheld_refuses : (s : Settings) (refusal : NotHeld) → IsRefusing (unheld_ending s refusal)
unheld_refuses s (unheld.NoFacts refusal) = facts_refuse refusal
unheld_refuses s (unheld.NoPrice method node name) = tt
unheld_refuses s (unheld.Refused refusal) = refusal_refuses s refusal

pub file_of_facts_refuses : (word bytes : ℕ) (told : Option (List ℕ)) (before now : ℕ) (e : Ending) → IsFactsEnding word bytes told before now e → IsRefusing e
file_of_facts_refuses word bytes told before now (endings.Refused refusal) h = tt
file_of_facts_refuses word bytes told before now endings.ReadFault h = tt
file_of_facts_refuses word bytes told before now endings.NoMemory h = tt
file_of_facts_refuses word bytes told before now e h = absurd h

pub linked_says_with : (words : List (List ℕ)) (question : PricedQuestion) (l : Parts) (operands : List (List ℕ)) (facts : List ℕ) (e : Ending) → IsPricedAnswer words question l operands facts (Ends e) → Says e
linked_says_with words (priced_questions.CheckWith s) l operands facts e checks =
    ⊎_elim (λ h. holds h.held h.says) (λ r. refuses (refusing_by e (unheld_ending s r.refusal) r.says (unheld_refuses s r.refusal))) checks
linked_says_with words (priced_questions.BoundWith s method) l operands facts e ends =
    refuses (refusing_by e (unbounded_ending s ends.cause) ends.says (unbounded_refuses s ends.cause))

pub bare_refuses_with : (question : PricedQuestion) (image : BareContent) (operands : List (List ℕ)) (facts : List ℕ) (e : Ending) → IsBarePricedAnswer question image operands facts (Ends e) → IsRefusing e
bare_refuses_with (priced_questions.CheckWith s) image operands facts e ends =
    ⊎_elim (too_long_refuses s image e) (λ r. refusing_by e (unheld_ending s r.refusal) r.says (unheld_refuses s r.refusal)) ends
bare_refuses_with (priced_questions.BoundWith s method) image operands facts e ends =
    ⊎_elim (too_long_refuses s image e) (λ r. refusing_by e (unbounded_ending s r.cause) r.says (unbounded_refuses s r.cause)) ends
