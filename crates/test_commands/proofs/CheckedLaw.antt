-- The two calls of the client.
use Rattle.std.proofs.Common.{◌≡◌, ℕ, true, false, List, ◌∷◌, Some, Option, refl, sym, ◌∙◌, ap, subst, arith, ⊎_elim}
use Rattle.std.specs.Prelude.{Ok, slice_get}
use Rattle.outside.specs.Outside.{IsWhole}
use Rattle.image_file.specs.Linked as file
use Rattle.jopizer.specs.Linked.{image_of}
use Rattle.bound_texts.specs.Loops.Grammar.{IsRead}
use Rattle.ascii_text.specs.Line.{lines_of as text_lines}
use Rattle.certificates.specs.Texts.{AreLinesOf}
use Rattle.command_line.specs.declared.command.Command.TheVariants.{Check, Run}
use Rattle.command_line.specs.Command.{command_of}
use Rattle.endings.specs.declared.outcome.Outcome.{Outcome}
use Rattle.endings.specs.declared.outcome.Outcome.TheVariants.{Holds}
use Rattle.endings.specs.declared.show.Show.TheVariants.{Output}
use Rattle.endings.specs.Settings.{usual_settings}
use Rattle.endings.specs.Line.{text_of_word}
use Rattle.endings.specs.Phase.{is_linked}
use Rattle.jop_cli.specs.promises.Check.{CheckedBoundsAreKept, ShowsHeld}
use Rattle.jop_cli.specs.promises.Activations.{CheckedRunsAreKept, CheckedRun}
use Rattle.jop_cli.specs.promises.Runs.{IsOver, RunsAreShown, ShowsRun, RanLinkedFile, RanBareFile}
use Rattle.test_commands.specs.Checked.{Came, AreKept, IsKeptRun, CheckedCallsAreKept, check_words, check_files, run_words, run_files}

-- what a file is told to have are its bytes
same_bytes : (told : Option (List ℕ)) (bytes read : List ℕ) → told ≡ Some bytes → IsWhole told read → read ≡ bytes
same_bytes told bytes read e h = let moved : IsWhole (Some bytes) read = subst (λ (t : Option (List ℕ)). IsWhole t read) e h in moved

module _ (image bounds certificate : List ℕ) (check run : Outcome) (checked : Came check_words (check_files image bounds certificate) check)
    (ran : Came run_words (run_files image) run) where
  kept_run : CheckedRunsAreKept → (held : ShowsHeld checked.call usual_settings 1)
      → (bytes : List ℕ) → bytes ≡ image → RanLinkedFile ran.call usual_settings Output bytes → IsKeptRun image bounds certificate run
  kept_run keep held bytes is shown =
      let whole : text_of_word held.files 0 ≡ image = same_bytes (checked.call.old.files 1) image (text_of_word held.files 0) (checked.told 1) (held.are.whole 0 (let many = held.are.many in omega arith)) in
      let lines_are : text_of_word held.files 1 ≡ bounds = same_bytes (checked.call.old.files 2) bounds (text_of_word held.files 1) (checked.told 2) (held.are.whole 1 (let many = held.are.many in omega arith)) in
      let cert_is : text_of_word held.files 2 ≡ certificate = same_bytes (checked.call.old.files 3) certificate (text_of_word held.files 2) (checked.told 3) (held.are.whole 2 (let many = held.are.many in omega arith)) in
      let ran_file : RanLinkedFile ran.call usual_settings Output (text_of_word held.files 0) =
      subst (λ (b : List ℕ). RanLinkedFile ran.call usual_settings Output b) (is ∙ sym whole) shown in
      record {
        linked = ran_file.linked;
        is_linked = ran_file.is_linked;
        is_file = subst (λ (b : List ℕ). file.IsLinkedFile b (image_of ran_file.linked)) whole ran_file.is_file;
        lines = held.lines;
        read = subst (λ (b : List ℕ). IsRead b held.lines) lines_are held.read;
        cert = held.certificate;
        text = subst (λ (b : List ℕ). AreLinesOf (text_lines b) held.certificate) cert_is held.text;
        call = ran.call;
        outcome = ran.outcome_is;
        ran = ran_file.ran;
        kept = λ first last begins ended keeps.
            let x : CheckedRun = record {
              check = checked.call;
              checked = usual_settings;
              image = 1;
              held = held;
              call = ran.call;
              settings = usual_settings;
              show = Output;
              file = ran_file;
              timing = refl;
              first = first;
              last = last;
              begins = begins;
              ended = ended;
            } in
            keep x keeps;
      }

  bare_is_not : (held : ShowsHeld checked.call usual_settings 1) → (bytes : List ℕ) → bytes ≡ image → RanBareFile ran.call usual_settings Output bytes → ⊥
  bare_is_not held bytes is shown =
      let whole : text_of_word held.files 0 ≡ image = same_bytes (checked.call.old.files 1) image (text_of_word held.files 0) (checked.told 1) (held.are.whole 0 (let many = held.are.many in omega arith)) in
      let same : text_of_word held.files 0 ≡ bytes = whole ∙ sym is in
      let linked : is_linked (text_of_word held.files 0) ≡ true = ap is_linked held.is_file.spelling in
      let bare : is_linked bytes ≡ false = ap is_linked shown.bare.spelling in
      let clash : true ≡ false = sym linked ∙ (ap is_linked same ∙ bare) in
      absurd (cc)

pub checked_calls_are_kept : CheckedBoundsAreKept → CheckedRunsAreKept → RunsAreShown → CheckedCallsAreKept
checked_calls_are_kept held keep shown image bounds certificate check run checked ran holds over =
    let checks : command_of checked.call.words ≡ Ok (Check usual_settings 1 2 3) = ap command_of checked.words_are in
    let runs : command_of ran.call.words ≡ Ok (Run usual_settings 1) = ap command_of ran.words_are in
    let h : ShowsHeld checked.call usual_settings 1 = held checked.call usual_settings 1 2 3 checks (checked.outcome_is ∙ holds) in
    let s : ShowsRun ran.call usual_settings Output 1 = shown ran.call (Run usual_settings 1) usual_settings Output 1 runs refl (subst IsOver (sym ran.outcome_is) over) in
    let same : s.bytes ≡ image = same_bytes (ran.call.old.files 1) image s.bytes (ran.told 1) s.reads.whole in
    ⊎_elim
    (λ linked. kept_run image bounds certificate check run checked ran keep h s.bytes same linked)
    (λ bare. absurd (bare_is_not image bounds certificate check run checked ran h s.bytes same bare))
    s.shows
