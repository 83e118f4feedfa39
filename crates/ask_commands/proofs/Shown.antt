-- What a certificate that holds, and one that is written, show of the machine.
use Rattle.std.proofs.Common.{ℕ, ◌≤◌, List, Option, sym, subst}
use Rattle.class_pool.specs.declared.class.ClassFile.{ClassFile}
use Rattle.program_tables.specs.Resolved.{resolved}
use Rattle.activations.specs.Warrant.{BoundsActivations}
use Rattle.bound_laws.specs.Soundness.Laws.{CertificatesAreSound}
use Rattle.command_line.specs.declared.command.Settings.{Settings}
use Rattle.answer_lines.specs.declared.analysis.Held.{Held}
use Rattle.analysis_commands.specs.Analysis.{timing_of, bounds_of}
use Rattle.analysis_commands.specs.Bounding.{IsCertText}
use Rattle.analysis_commands.specs.Checking.{IsHeld}
use Rattle.ask_commands.specs.Bounding.{Bounds}
use Rattle.ask_commands.specs.Checking.{ShowsBound}

pub shown : (cs : List ClassFile) (s : Settings) (bounds_text cert_text : List ℕ) (h : Held) → CertificatesAreSound → s.read ≤ 63 → s.write ≤ 63 → IsHeld cs s bounds_text cert_text h → ShowsBound cs s bounds_text cert_text h
shown cs s bounds_text cert_text h sound read write k =
    let kept = sound (resolved cs) (timing_of s) (bounds_of cs k.bounds) k.certificate read write k.meets in
    let of_root = subst (λ (m : ℕ). BoundsActivations (resolved cs) (timing_of s) (bounds_of cs k.bounds) m k.certificate.bound) (sym k.root) kept in
    record { meets = k; holds = subst (λ (o : Option ℕ). BoundsActivations (resolved cs) (timing_of s) (bounds_of cs k.bounds) h.root o) (sym k.bound) of_root }

pub written : (cs : List ClassFile) (s : Settings) (bounds_text name text : List ℕ) → CertificatesAreSound → s.read ≤ 63 → s.write ≤ 63 → IsCertText cs s bounds_text name text → Bounds cs s bounds_text name text
written cs s bounds_text name text sound read write k = record { is = k; holds = sound (resolved cs) (timing_of s) (bounds_of cs k.bounds) k.certificate read write k.is.meets }
