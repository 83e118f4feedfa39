-- The files and streams of a process tell nothing.
use Rattle.std.proofs.Common.{◌≡◌, ℕ, List, [], ◌∷◌, map, None, refl, ap, ◌∙◌, subst, inr}
use Rattle.std.specs.Borrow.{Bor}
use Rattle.std.specs.declared.option.Option.{Option}
use Rattle.outside.specs.Host.{StreamState}
use Rattle.command_line.specs.Command.{texts}
use Rattle.jop_cli.specs.Process.{Sinks, sinks}
use Rattle.jop.specs.Answers.{IsAnswered, IsProcessStatus, silent}

-- nothing is told of a word
abbrev untold : {W : Type 0} → W → Option (List ℕ)
untold word = None

-- nor of its text
silent_texts : (words : List (Bor (List ℕ))) → map untold words ≡ map untold (texts words)
silent_texts [] = refl
silent_texts (word ∷ words) = ap (λ (rest : List (Option (List ℕ))). None ∷ rest) (silent_texts words)

abbrev text_of : Bor (List ℕ) → List ℕ
text_of word = word.now

texts_are : (words : List (Bor (List ℕ))) → texts words ≡ map text_of words
texts_are [] = refl
texts_are (word ∷ words) = ap (λ (rest : List (List ℕ)). word.now ∷ rest) (texts_are words)

pub process_status : (found : List (Bor (List ℕ))) (words : List (List ℕ)) (out err : StreamState) (new : Sinks) (status : ℕ) → map text_of found ≡ words
    → out ≡ record { bytes = None; faults = 0 } → err ≡ record { bytes = None; faults = 0 }
    → IsAnswered (texts found) (map untold found) None (sinks out.bytes out.faults err.bytes err.faults) new status → IsProcessStatus words status
process_status found words out err new status same out_is err_is h =
    let of_out = subst (λ (o : StreamState). IsAnswered (texts found) (map untold found) None (sinks o.bytes o.faults err.bytes err.faults) new status) out_is h in
    let of_err = subst (λ (e : StreamState). IsAnswered (texts found) (map untold found) None (sinks None 0 e.bytes e.faults) new status) err_is of_out in
    let of_files = subst (λ (files : List (Option (List ℕ))). IsAnswered (texts found) files None silent new status) (silent_texts found) of_err in
    inr (new, subst (λ (ws : List (List ℕ)). IsAnswered ws (map untold ws) None silent new status) (texts_are found ∙ same) of_files)
