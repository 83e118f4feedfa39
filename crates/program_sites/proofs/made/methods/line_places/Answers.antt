use Rattle.std.proofs.Common.{ℕ, List, sym, ap, ◌∙◌, subst}
use Rattle.opcodes.specs.Start.{starts_of}
use Rattle.program_sites.specs.Made.Lines.{AreLinesOf}
use Rattle.program_sites.proofs.MadeLemmas.Places.{if_ok_as, lines_are}
use Rattle.program_sites.proofs.made.methods.line_places.Goals as goal

pub returns : goal.returns
returns c =
    let k = c.args.method.now in
    if_ok_as c.starts.result _ _ c.starts.ensures (λ v is. subst (λ (ps : List ℕ). AreLinesOf k ps) (sym (is ∙ ap starts_of c.code.ensures.code)) (lines_are c.starts_follow_one_another.ensures k))
