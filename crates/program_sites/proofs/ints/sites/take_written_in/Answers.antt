use Rattle.std.proofs.Common.{ℕ, List, Contains, ◌∙◌, subst}
use Rattle.program_tables.specs.Resolved.{resolved}
use Rattle.program_sites.specs.Ints.Places.{AreLeft}
use Rattle.program_sites.specs.Ints.Rows.{put_at}
use Rattle.program_sites.proofs.ints.sites.take_written_in.Goals as goal

pub take_written-requires-clause-within : goal.take_written-requires-clause-within
take_written-requires-clause-within c p has =
    (c.starts_follow_one_another.ensures c.args.code.now).within_code p (subst (λ (ps : List ℕ). Contains ps p) (c.deref.ensures.value ∙ c.in_ok-starts.ensures) has)

pub returns : goal.returns
returns c =
    let f = put_at (resolved c.args.program.now) c.args.method in
    subst (λ (ps : List ℕ). AreLeft f ps c.args.constants.now.items c.take_written.new.constants.items) (c.deref.ensures.value ∙ c.in_ok-starts.ensures) c.take_written.ensures
