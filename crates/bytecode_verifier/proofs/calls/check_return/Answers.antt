use Rattle.std.proofs.Common.{sym, ap, ap₂, ◌∙◌, true, None, refl}
use Rattle.std.specs.Option.{option_map}
use Rattle.bytecode_typing.specs.Checks as checks
use Rattle.bytecode_typing.specs.Rules.{Leaves}
use Rattle.program_tables.specs.Meanings.{declared_seen}
use Rattle.verifier_types.specs.Frame.{frame_seen}
use Rattle.verifier_types.specs.Seen.{moved_seen}
use Rattle.bytecode_verifier.proofs.calls.check_return.Goals as goal

pub returns-in-None-None : goal.returns-in-None-None
returns-in-None-None c = λ s st same ls.
    let f = frame_seen ls c.args.frame.now in
    c.returns.ensures f
    ∙ (ap (λ b. Leaves None true b true) (c.may_return.ensures s f st refl)
    ∙ sym (ap₂ (λ d g. checks.return_check s.program s.number s.method s.body s.maps s.place f d g) (same ∙ ap (option_map declared_seen) c.in-None-None.is-0) (ap (option_map moved_seen) c.in-None-None.is-1)))
