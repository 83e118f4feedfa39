use Rattle.program_tables.specs.Resolved.{resolved}
use Rattle.bytecode_verifier.specs.Failure.{types_found}
use Rattle.jopizer.proofs.meaning.keeps.Goals as goal

pub returns-clause-keeps : goal.returns-clause-keeps
returns-clause-keeps c = λ limits s going fits answer is.
    c.typed_programs_keep.ensures (resolved c.args.v.now) (types_found c.args.v.now) limits c.is_typed.ensures.lawful c.is_typed.ensures.typed s going fits answer is

pub returns-clause-runs : goal.returns-clause-runs
returns-clause-runs c = λ limits input are s fits n.
    c.typed_runs_fit.ensures (resolved c.args.v.now) (types_found c.args.v.now) limits c.is_typed.ensures.lawful c.is_typed.ensures.typed input are s fits n

pub returns-clause-begins : goal.returns-clause-begins
returns-clause-begins c = λ limits room. c.the_boot_state_fits.ensures (resolved c.args.v.now) (types_found c.args.v.now) limits c.is_typed.ensures.lawful c.is_typed.ensures.typed room
