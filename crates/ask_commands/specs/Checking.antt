-- What `check` does: a certificate is checked against an image and the bounds of its loops, which are the operands before it.
use Rattle.std.specs.Prelude.{◌≡◌, ℕ, ◌≤◌, ◌⊎◌, List}
use Rattle.class_pool.specs.declared.class.ClassFile.{ClassFile}
use Rattle.image_file.specs.Bare.{BareContent}
use Rattle.program_tables.specs.Resolved.{resolved}
use Rattle.activations.specs.Warrant.{BoundsActivations}
use Rattle.command_line.specs.declared.command.Settings.{Settings}
use Rattle.answer_lines.specs.declared.analysis.Held.{Held}
use Rattle.analysis_commands.specs.declared.check.CheckRefusal.{CheckRefusal}
use Rattle.analysis_commands.specs.declared.check.CheckRefusal.TheVariants as check
use Rattle.analysis_commands.specs.Analysis.{timing_of, bounds_of}
use Rattle.analysis_commands.specs.Checking.{IsHeld, IsCheckRefusal, IsBareRefusal}
use Rattle.endings.specs.declared.outcome.Refusal.TheVariants.{BadCert}
use Rattle.endings.specs.declared.outcome.Ending.{Ending}
use Rattle.endings.specs.declared.outcome.Ending.TheVariants.{Holds, Refused, NotHeld, NoMemory}
use Rattle.endings.specs.Fitting.{blocks_of_code, EndsTooLong}
use Rattle.endings.specs.AnalysisFaults.{fault_ending}

-- ---- a program

-- the ending that says why nothing is held
abbrev pub refusal_ending : Settings → CheckRefusal → Ending
refusal_ending s (check.NoAnalysis fault) = fault_ending s fault
refusal_ending s (check.BadCert line) = Refused (BadCert line)
refusal_ending s (check.Fails fault name) = NotHeld fault name
refusal_ending s check.NoMemory = NoMemory

-- What holds of the program and of the machine: the certificate of the text meets its conditions, so each ended activation of its method that keeps
-- the bounds takes at most as many cycles as it says, whatever the method cache held.
pub record ShowsBound (cs : List ClassFile) (s : Settings) (bounds_text cert_text : List ℕ) (h : Held) : Type 0 where
  pub meets : IsHeld cs s bounds_text cert_text h
  pub holds : BoundsActivations (resolved cs) (timing_of s) (bounds_of cs meets.bounds) h.root h.bound

-- this holds, and the ending says it
pub record EndsHeld (cs : List ClassFile) (s : Settings) (bounds_text cert_text : List ℕ) (ending : Ending) : Type 0 where
  pub held : Held
  pub shows : ShowsBound cs s bounds_text cert_text held
  pub says : ending ≡ Holds held

-- this refuses the method, the bounds or the certificate, and the ending says it
pub record EndsRefused (cs : List ClassFile) (s : Settings) (bounds_text cert_text : List ℕ) (ending : Ending) : Type 0 where
  pub refusal : CheckRefusal
  pub cause : IsCheckRefusal cs s bounds_text cert_text refusal
  pub says : ending ≡ refusal_ending s refusal

-- how the check of a program ends
abbrev pub Checks : List ClassFile → Settings → (bounds_text cert_text : List ℕ) → Ending → Type 0
Checks cs s bounds_text cert_text ending = EndsHeld cs s bounds_text cert_text ending ⊎ EndsRefused cs s bounds_text cert_text ending

-- ---- a bare image

-- its code fits, and this refuses the bounds or the certificate: a bare image has no classes
pub record EndsMissing (s : Settings) (image : BareContent) (bounds_text cert_text : List ℕ) (ending : Ending) : Type 0 where
  pub fits : blocks_of_code s image ≤ s.blocks
  pub refusal : CheckRefusal
  pub cause : IsBareRefusal bounds_text cert_text refusal
  pub says : ending ≡ refusal_ending s refusal

-- how the check of a bare image ends
abbrev pub ChecksBare : Settings → BareContent → (bounds_text cert_text : List ℕ) → Ending → Type 0
ChecksBare s image bounds_text cert_text ending = EndsTooLong s image ending ⊎ EndsMissing s image bounds_text cert_text ending
