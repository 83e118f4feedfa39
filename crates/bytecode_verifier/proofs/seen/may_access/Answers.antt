use Rattle.std.proofs.Common.{sym, ap, ◌∙◌, true}
use Rattle.std.specs.Prelude.{if◌then◌else◌}
use Rattle.bytecode_model.specs.Types.{OfClass}
use Rattle.bytecode_typing.specs.Checks as checks
use Rattle.verifier_types.specs.Seen.{type_seen}
use Rattle.bytecode_verifier.proofs.seen.may_access.Goals as goal

pub returns-then-guarded : goal.returns-then-guarded
returns-then-guarded c = λ s f st g.
    let t = type_seen c.args.item in
    c.is_seen_as.ensures s f st
    ∙ (ap (λ o. checks.is_seen_as s.program s.number s.method s.body s.maps s.place f (OfClass o) t) (sym st.owner)
    ∙ sym (ap (λ b. if b then checks.is_seen_as s.program s.number s.method s.body s.maps s.place f (OfClass s.method.owner) t else true) (g ∙ c.if-guarded.true)))
