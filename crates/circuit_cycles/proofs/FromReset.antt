-- Runs of the circuit from a reset on, and its end.
use Rattle.std.proofs.Common.{◌≡◌, ℕ, ◌≤◌, Bool, true, false, List, [], length, refl, ap, ◌∙◌, arith}
use Rattle.std.specs.Prelude.{◌==◌, ◌&&◌, not, if◌then◌else◌, ◌∷◌, ◌%◌, ◌^◌, slice_index}
use Rattle.std.proofs.lemmas.Bool.{ne_eqb}
use Rattle.base.proofs.Packs.{length-words_of_bytes}
use Rattle.machine_memory.specs.declared.timing.Config.{Config}
use Rattle.method_cache.specs.Contents.{can_load, empty}
use Rattle.jop_core.specs.Operations.{code_place, code_words}
use Rattle.jop_core.specs.Reset.{Start, reset_of, linked_start, bare_start}
use Rattle.circuit_cycles.specs.Shape.{Shape}
use Rattle.circuit_cycles.specs.Words.{is, stout, ldin}
use Rattle.circuit_cycles.specs.Core.{Given, next, goes, runs, is_stalled, waits}
use Rattle.circuit_cycles.specs.Starting.{IsShapeOf, first_core, boot_entry}
use Rattle.circuit_cycles.specs.Runs.{RunsOn, RunsFrom, LinkedRunsAreRuns, BareRunsAreRuns, HaltsStay}
use Rattle.circuit_cycles.proofs.Idle as idly
use Rattle.circuit_cycles.proofs.Clocks.{runs_are_runs}
use Rattle.circuit_cycles.proofs.StartUp.{starts_stand}
use Rattle.circuit_cycles.proofs.Resets.{resets_start}
use Rattle.circuit_cycles.proofs.Switching.{range_length}

from_reset : (shape : Shape) (n : ℕ) (start : Start) (config : Config) (given : Given) (run : List Given) → IsShapeOf shape n config → length start.image ≤ config.memory
    → can_load (length start.code) (empty config.blocks config.block_words) ≡ true → RunsOn run (reset_of n start config)
    → RunsFrom shape (first_core shape (boot_entry start) (reset_of n start config)) given run (reset_of n start config)
from_reset shape n start config given run of image can on =
    let first = first_core shape (boot_entry start) (reset_of n start config) in
    let s = reset_of n start config in
    record {
      silent = refl;
      runs = runs_are_runs shape run (next shape given first) s (starts_stand shape given first s (resets_start shape n start config of image can)) on;
    }

pub linked_runs : LinkedRunsAreRuns
linked_runs shape n image config given run of can on =
    let boot = slice_index image 1 in
    let long = range_length image (code_place image boot) (code_words image boot) can.boot in
    from_reset shape n (linked_start image) config given run of can.memory (ap (λ k. can_load k (empty config.blocks config.block_words)) long ∙ can.blocks) on

pub bare_runs : BareRunsAreRuns
bare_runs shape n image config given run of can on =
    from_reset shape n (bare_start image) config given run of (omega arith) (ap (λ k. can_load k (empty config.blocks config.block_words)) (length-words_of_bytes image.code) ∙ can) on

pub halts_stay : HaltsStay
halts_stay shape given c begun ended =
    let rests : goes c ≡ false = ap (λ b. c.starting == 0 && b) (ne_eqb c.halt 0 ended) ∙ (and_false (c.starting == 0)) in
    let idle : runs c ≡ false = ap (λ b. b && not (is_stalled c) && not (waits c)) rests in
    record {
      halt = idly.halt shape given c idle;
      begun = idly.begun shape given c idle;
      on_chip = idly.on_chip shape given c idle;
      main = idly.main shape given c idle;
      silent = ap (λ b. if b && is stout c.word then c.a % 2 ^ 8 ∷ [] else []) idle;
      deaf = ap (λ b. b && is ldin c.word) idle;
    }
  where
    and_false : (b : Bool) → (b && false) ≡ false
    and_false true = refl
    and_false false = refl
