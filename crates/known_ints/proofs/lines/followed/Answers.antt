use Rattle.std.proofs.Common.{sym, ◌∙◌}
use Rattle.std.proofs.lemmas.Bool.{both_ways}
use Rattle.lists.proofs.Lemmas.{none≢some}
use Rattle.code_lines.specs.Lines.{IsNamed}
use Rattle.known_ints.proofs.lines.followed.Goals as goal

pub returns-then-is_named-clause-line : goal.returns-then-is_named-clause-line
returns-then-is_named-clause-line c P known m last of =
    ((λ e. absurd (none≢some last e)), (λ h. absurd (h.0.unnamed ((of.scan.named c.args.place).0 (sym c.is_named.ensures ∙ c.if-is_named.true)))))

pub returns-then-not-is_reached-clause-line : goal.returns-then-not-is_reached-clause-line
returns-then-not-is_reached-clause-line c P known m last of =
    ((λ e. absurd (none≢some last e)), (λ h. absurd (both_ways c.is_reached.result c.if-not-is_reached.true ((c.is_reached.ensures P m of.graph).1 h.0.reached))))

pub returns-clause-line : goal.returns-clause-line
returns-clause-line c P known m last of =
    let line = c.before_within.ensures.line P known m of in
    let reached = (c.is_reached.ensures P m of.graph).0 c.if-not-is_reached.false in
    let unnamed : ¬ IsNamed P m c.args.place = λ named. both_ways _ c.if-is_named.false (c.is_named.ensures ∙ (of.scan.named c.args.place).1 named) in
    ((λ e. (record { reached = reached; unnamed = unnamed }, sym line ∙ e)), (λ h. line ∙ h.1))
