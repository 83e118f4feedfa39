use Rattle.std.proofs.Common.{◌≡◌, Option, ap, ◌∙◌, refl, sym, subst}
use Rattle.std.specs.Prelude.{MatchOption}
use Rattle.known_ints.specs.declared.lines.Line.{Line}
use Rattle.known_ints.specs.Rounds.{GivesOnly, IsLineOf, gives_of}
use Rattle.known_ints.proofs.Lining.{line_of, none_followed, none_given, sort_only}
use Rattle.known_ints.proofs.lines.line_at.Goals as goal

pub returns-in_err-last : goal.returns-in_err-last
returns-in_err-last c =
    subst
    (λ (o : Option Line).
    MatchOption o (GivesOnly c.args.code.now c.args.place (λ h. ⊥))
    (λ line. (line.place ≡ c.args.place) × IsLineOf c.args.code.now line × GivesOnly c.args.code.now c.args.place (λ h. line.holds ≡ h)))
    (sym c.from_residual.ensures) (none_followed c.args.code.now c.args.place c.followed.result c.followed.ensures.line c.in_err-last.was)

pub returns-in_err-holds : goal.returns-in_err-holds
returns-in_err-holds c =
    subst
    (λ (o : Option Line).
    MatchOption o (GivesOnly c.args.code.now c.args.place (λ h. ⊥))
    (λ line. (line.place ≡ c.args.place) × IsLineOf c.args.code.now line × GivesOnly c.args.code.now c.args.place (λ h. line.holds ≡ h)))
    (sym c.from_residual-in_err-holds.ensures)
    (none_given c.args.code.now c.args.place c.followed.result c.followed.ensures.line c.in_ok-last.last c.in_ok-last.was c.gives_of.result (c.gives_of.ensures ∙ ap gives_of c.part.ensures)
    c.in_err-holds.was)

pub returns : goal.returns
returns c =
    let exact = c.followed.ensures.line in
    let last = c.in_ok-last.last in
    let h = c.in_ok-holds.holds in (
      refl,
      line_of c.args.code.now c.args.place c.followed.result exact last c.in_ok-last.was c.requires c.in_ok-last.ensures.within h,
      sort_only c.args.code.now c.args.place c.followed.result exact last c.in_ok-last.was c.gives_of.result (c.gives_of.ensures ∙ ap gives_of c.part.ensures) h c.in_ok-holds.was,
    )
