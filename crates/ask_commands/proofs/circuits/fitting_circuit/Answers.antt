use Rattle.ask_commands.proofs.Beginning.{begins_bare}
use Rattle.ask_commands.proofs.CircuitAnswers.{bare_circuit_answers}
use Rattle.ask_commands.proofs.circuits.fitting_circuit.Goals as goal

pub bare_circuit_of-circuit-requires : goal.bare_circuit_of-circuit-requires
bare_circuit_of-circuit-requires c =
    record { size = c.requires.settings.stack; blocks = begins_bare c.args.settings.now c.args.image.now c.config_of-config.result c.config_of-config.ensures c.code.ensures.image c.requires.fits }

pub returns : goal.returns
returns c =
    bare_circuit_answers c.args.settings.now c.args.image.now c.config_of-config.result c.bare_circuit_of-circuit.result c.circuit_text.result c.requires.fits c.config_of-config.ensures c.bare_circuit_of-circuit.ensures c.circuit_text.ensures
