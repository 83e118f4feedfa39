-- A certificate that is checked, and a run of the same image, as two calls answer.
use Rattle.std.specs.Prelude.{◌≡◌, ℕ, List, [], ◌∷◌, Some, Option, slice_get, codes, MatchOption, ◌≤◌}
use Rattle.machine_memory.specs.declared.timing.Config.{Config}
use Rattle.image_file.specs.Linked as file
use Rattle.ascii_text.specs.Line.{lines_of as text_lines}
use Rattle.certificates.specs.Certificate.{Certificate}
use Rattle.certificates.specs.Texts.{AreLinesOf}
use Rattle.endings.specs.declared.outcome.Outcome.{Outcome}
use Rattle.endings.specs.declared.outcome.Outcome.TheVariants.{Holds}
use Rattle.endings.specs.declared.show.Show.TheVariants.{Output}
use Rattle.endings.specs.Settings.{usual_settings}
use Rattle.activations.specs.Activations.{IsActivation, cycles_of}
use Rattle.jop_cli.specs.promises.Words.{Call, Parts, IsLinked, image_of, LoopBound, IsRead, RanLinked, Stage, linked_setting, Keeps, bounds_of}
use Rattle.jop_cli.specs.promises.Runs.{IsOver, IsBoundary}

-- this came of a call of these words over files of these bytes
pub record Came (words files : List (List ℕ)) (outcome : Outcome) : Type 0 where
  pub call : Call
  pub words_are : call.words ≡ words
  pub told : (k : ℕ) → call.old.files k ≡ slice_get files k
  pub outcome_is : call.outcome ≡ outcome

-- the words of the two calls, and the bytes of their files, where the first word's is empty
abbrev pub check_words : List (List ℕ)
check_words = codes "check" ∷ codes "m" ∷ codes "b" ∷ codes "c" ∷ []

abbrev pub check_files : (image bounds certificate : List ℕ) → List (List ℕ)
check_files image bounds certificate = [] ∷ image ∷ bounds ∷ certificate ∷ []

abbrev pub run_words : List (List ℕ)
run_words = codes "run" ∷ codes "m" ∷ []

abbrev pub run_files : (image : List ℕ) → List (List ℕ)
run_files image = [] ∷ image ∷ []

-- The image is that of what is linked, which ran, as a call shows that came to this outcome. Each ended activation of the certificate's method that begins at
-- a boundary of the run takes at most as many cycles as the certificate says, where its loops keep the bounds; where it says never, there is none.
pub record IsKeptRun (image bounds certificate : List ℕ) (run : Outcome) : Type 0 where
  pub linked : Parts
  pub is_linked : IsLinked linked
  pub is_file : file.IsLinkedFile image (image_of linked)
  pub lines : List LoopBound
  pub read : IsRead bounds lines
  pub cert : Certificate
  pub text : AreLinesOf (text_lines certificate) cert
  pub call : Call
  pub outcome : call.outcome ≡ run
  pub ran : RanLinked call usual_settings Output linked
  pub kept : (first last : Stage) → IsBoundary usual_settings linked ran.config first
      → (ended : IsActivation (linked_setting linked.classes usual_settings.stack ran.config.memory) cert.root first last)
      → Keeps (bounds_of linked.classes lines) ended
      → MatchOption cert.bound ⊥ (λ most. cycles_of first last ≤ most)

-- so it is where the certificate holds and the run is over
abbrev pub AreKept : (image bounds certificate : List ℕ) → (check run : Outcome) → Type 0
AreKept image bounds certificate check run = check ≡ Holds → IsOver run → IsKeptRun image bounds certificate run

-- so it is whatever called
abbrev pub CheckedCallsAreKept : Type 0
CheckedCallsAreKept =
    (image bounds certificate : List ℕ) (check run : Outcome) → Came check_words (check_files image bounds certificate) check
    → Came run_words (run_files image) run
    → AreKept image bounds certificate check run
