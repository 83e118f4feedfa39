use Rattle.std.proofs.Common.{sym, ap, ◌∙◌, ◌&&◌}
use Rattle.bytecode_typing.specs.Checks as checks
use Rattle.verifier_types.specs.Seen.{type_seen}
use Rattle.bytecode_verifier.proofs.fields.may_put.Goals as goal

pub returns-then-is_initialized : goal.returns-then-is_initialized
returns-then-is_initialized c = λ s f st.
    c.may_be_written.ensures s f st
    ∙ sym (ap (λ b. b && checks.may_be_written s.program s.number s.method s.body s.maps s.place f c.args.owner (type_seen c.args.object)) (sym c.is_initialized.ensures ∙ c.if-is_initialized.true))
