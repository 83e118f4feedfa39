-- What a call of `profile` shows that answers how the run ended.
use Rattle.std.proofs.Common.{ℕ, ◌+◌, List, sym, subst, ◌⊎◌, inl, inr, ⊎_elim}
use Rattle.command_line.specs.declared.command.Settings.{Settings}
use Rattle.command_line.specs.declared.command.Command.TheVariants as commands
use Rattle.jopizer.specs.Linked.{Parts}
use Rattle.endings.specs.declared.outcome.Ending.{Ending}
use Rattle.endings.specs.Line.{text_of_word}
use Rattle.endings.specs.Linking.{files_of}
use Rattle.endings.specs.AnalysisFaults.{fault_ending}
use Rattle.jop_cli.specs.Calls.{Call}
use Rattle.run_commands.specs.Profiling.{EndsUnprofiled, ProfilesParts, ProfilesBareFile, ProfilesImage, ProfilesFiles, unwatched}
use Rattle.jop_cli.specs.promises.Runs.{IsOver}
use Rattle.jop_cli.specs.promises.Profile.{ProfileShown, BareProfileShown, ShowsProfile, ProfilesAreShown}
use Rattle.jop_cli.proofs.Refusing.{IsRefusing, refusing_by, fault_refuses, bytes_refuse, image_refuses, too_long_refuses, operands_refuse}
use Rattle.jop_cli.proofs.ShownRuns.{refused_over, wholly_over}
use Rattle.jop_cli.proofs.PlansKept.{unheld_refuses}
use Rattle.jop_cli.proofs.Wholly.{IsWholly, executed}

unprofiled_refuses : (s : Settings) (l : Parts) (bounds_text : List ℕ) (e : Ending) → EndsUnprofiled s l bounds_text e → IsRefusing e
unprofiled_refuses s l bounds_text e ends =
    ⊎_elim
    (unheld_refuses s l e)
    (λ other. ⊎_elim (λ u. refusing_by e (fault_ending s u.fault) u.says (fault_refuses s u.fault)) (λ lacks. subst IsRefusing (sym lacks) tt) other)
    ends

module _ (c : Call) (s : Settings) (image : ℕ) (over : IsOver c.outcome) where
  whole : IsWholly c c.answered.ending
  whole = wholly_over c over

  never_refuses : IsRefusing c.answered.ending → ⊥
  never_refuses refuses = refused_over c.answered.ending refuses (subst IsOver whole.outcome over)

  of_parts : (files : List (List ℕ)) → ProfilesParts s files (unwatched c.old) (unwatched c.new) c.answered.ending → ProfileShown c s files c.answered.ending
  of_parts files p =
      ⊎_elim
      (λ not. absurd (never_refuses (unprofiled_refuses s p.linked (text_of_word files 1) c.answered.ending not.0)))
      (λ ran. record { linked = p.linked; is_linked = p.is_linked; is_file = p.is_file; ran = ran })
      p.profiles

  of_bare : (files : List (List ℕ)) → ProfilesBareFile s files c.answered.ending → BareProfileShown s files c.answered.ending
  of_bare files b =
      ⊎_elim
      (λ long. absurd (never_refuses (too_long_refuses s b.image c.answered.ending long)))
      (λ other. ⊎_elim
      (λ u. absurd (never_refuses (refusing_by c.answered.ending (fault_ending s u.fault) u.says (fault_refuses s u.fault))))
      (λ ran. record { image = b.image; bare = b.is_bare; ran = ran })
      other)
      b.profiles

  of_image : (files : List (List ℕ)) → ProfilesImage s files (unwatched c.old) (unwatched c.new) c.answered.ending → ProfileShown c s files c.answered.ending ⊎ BareProfileShown s files c.answered.ending
  of_image files p =
      ⊎_elim
      (λ linked. ⊎_elim
      (λ fault. absurd (never_refuses (bytes_refuse (text_of_word files 0) c.answered.ending fault.0)))
      (λ parts. inl (of_parts files parts))
      linked.1)
      (λ bare. ⊎_elim
      (λ fault. absurd (never_refuses (image_refuses (text_of_word files 0) c.answered.ending fault)))
      (λ b. inr (of_bare files b))
      bare.2)
      p

  of_profile : ProfilesFiles s image c.old c.new c.answered.ending → ShowsProfile c s image
  of_profile did =
      ⊎_elim
      (λ fault. absurd (never_refuses (operands_refuse image (image + 2) (files_of c.old) (files_of c.new) c.answered.ending fault.0)))
      (λ r. record { files = r.operands; are = r.are; ending = c.answered.ending; shows = of_image r.operands r.profiles; outcome = whole.outcome; line = whole.line })
      did

pub profiles_are_shown : ProfilesAreShown
profiles_are_shown c s image bounds command over = of_profile c s image over (executed c (commands.Profile s image bounds) command)
