use Rattle.std.proofs.Common.{ℕ, List, sym, subst, ap, ◌∙◌}
use Rattle.image_builder.specs.Laid.{Laid}
use Rattle.jop_core.specs.Reset.{CanStart}
use Rattle.program_tables.specs.Resolving.{IsResolved}
use Rattle.ask_commands.proofs.Beginning.{begins}
use Rattle.ask_commands.proofs.CircuitAnswers.{circuit_answers}
use Rattle.ask_commands.proofs.circuits.held_circuit.Goals as goal

pub circuit_of-circuit-requires : goal.circuit_of-circuit-requires
circuit_of-circuit-requires c =
    let resolved = subst IsResolved c.program-program.ensures.program (subst IsResolved c.program.ensures.program c.is_resolved.ensures) in
    let words = c.words.ensures ∙ ap (λ (x : Laid). x.words) c.layout-layout.ensures.laid in
    let start = begins c.verified_programs_are_told.ensures c.boot_takes_six_words.ensures c.args.linked.now c.program-program.ensures.linked resolved c.args.settings.now c.requires.settings.stack c.requires.holds c.config_of-config.result c.config_of-config.ensures c.linked_runs_begin.ensures in
    record { size = c.requires.settings.stack; start = subst (λ (ws : List ℕ). CanStart ws c.config_of-config.result) (sym words) start }

pub returns : goal.returns
returns c =
    let words = c.words.ensures ∙ ap (λ (x : Laid). x.words) c.layout-layout.ensures.laid in
    circuit_answers c.args.settings.now c.args.linked.now c.words.result.now c.config_of-config.result c.circuit_of-circuit.result c.circuit_text.result c.requires.holds c.config_of-config.ensures words c.circuit_of-circuit.ensures c.circuit_text.ensures
