-- What a certificate that holds by facts, and one that is written by them, show of the machine.
use Rattle.std.proofs.Common.{ℕ, ◌≤◌, List, Option, sym, subst, ⊎_elim}
use Rattle.class_pool.specs.declared.class.ClassFile.{ClassFile}
use Rattle.program_tables.specs.Resolved.{resolved}
use Rattle.bound_laws.specs.Soundness.Laws.{CertificatesAreSound}
use Rattle.command_line.specs.declared.command.Settings.{Settings}
use Rattle.flow_facts.specs.Facts.{Facts}
use Rattle.fact_keeping.specs.Keeping.{BoundsKept}
use Rattle.fact_sound.specs.Laws.{PricesAreSound}
use Rattle.answer_lines.specs.declared.analysis.Held.{Held}
use Rattle.analysis_commands.specs.Analysis.{timing_of, bounds_of}
use Rattle.analysis_commands.specs.Checking.{IsHeld}
use Rattle.analysis_commands.specs.Facts.{AreFactsOf}
use Rattle.analysis_commands.specs.PricedBounds.{IsCertTextWith}
use Rattle.analysis_commands.specs.PricedChecks.{IsHeldWith, IsHeldByFacts}
use Rattle.ask_commands.specs.Pricing.{BoundsWith, ShowsBoundWith}
use Rattle.ask_commands.proofs.Shown.{shown}

pub written_with : (cs : List ClassFile) (s : Settings) (bounds_text facts_text name text : List ℕ) → PricesAreSound → s.read ≤ 63 → s.write ≤ 63
    → IsCertTextWith cs s bounds_text facts_text name text → BoundsWith cs s bounds_text facts_text name text
written_with cs s bounds_text facts_text name text sound read write k =
    record { is = k; holds = sound (resolved cs) (timing_of s) (bounds_of cs k.bounds) k.facts k.certificate read write k.is.meets }

-- by prices
module _ (cs : List ClassFile) (s : Settings) (bounds_text facts_text cert_text : List ℕ) (h : Held) (read : s.read ≤ 63) (write : s.write ≤ 63) where
  held_with : PricesAreSound → IsHeldWith cs s bounds_text facts_text cert_text h → IsHeldByFacts cs s bounds_text facts_text cert_text h
      → ShowsBoundWith cs s bounds_text facts_text cert_text h
  held_with sound k meets =
      let kept = sound (resolved cs) (timing_of s) (bounds_of cs k.bounds) k.facts k.certificate read write k.meets in
      let of_root = subst (λ (m : ℕ). BoundsKept (resolved cs) (timing_of s) (bounds_of cs k.bounds) k.facts m k.certificate.plain.bound) (sym k.root) kept in
      record {
        meets = meets;
        bounds = k.bounds;
        bounds_read = k.reads.bounds_read;
        facts = k.facts;
        facts_are = k.reads.facts_are;
        holds = subst (λ (o : Option ℕ). BoundsKept (resolved cs) (timing_of s) (bounds_of cs k.bounds) k.facts h.root o) (sym k.bound) of_root;
      }

  -- without them: what bounds all activations bounds those that keep facts
  held_plain : CertificatesAreSound → (facts : Facts) → AreFactsOf cs facts_text facts → IsHeld cs s bounds_text cert_text h
      → IsHeldByFacts cs s bounds_text facts_text cert_text h → ShowsBoundWith cs s bounds_text facts_text cert_text h
  held_plain sound facts facts_are k meets =
      let shows = shown cs s bounds_text cert_text h sound read write k in
      record {
        meets = meets;
        bounds = shows.meets.bounds;
        bounds_read = shows.meets.reads.bounds_read;
        facts = facts;
        facts_are = facts_are;
        holds = λ g a b setting same timing activation keeps keeps_facts. shows.holds g a b setting same timing activation keeps;
      }

  pub shown_with : PricesAreSound → CertificatesAreSound → IsHeldByFacts cs s bounds_text facts_text cert_text h
      → ShowsBoundWith cs s bounds_text facts_text cert_text h
  shown_with priced sound meets = ⊎_elim (λ k. held_plain sound k.0.0 k.0.1 k.1 meets) (λ k. held_with priced k meets) meets
