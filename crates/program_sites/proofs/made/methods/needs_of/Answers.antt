use Rattle.std.proofs.Common.{sym, subst}
use Rattle.program_tables.specs.Resolved.{resolved}
use Rattle.memory_rules.specs.Sites.{MethodNeeds, AreNeedsOf}
use Rattle.program_sites.proofs.MadeLemmas.Growing.{all_sites}
use Rattle.program_sites.proofs.made.methods.needs_of.Goals as goal

pub returns : goal.returns
returns c =
    let P = resolved c.args.program.now in
    let h = c.in_ok-sites.ensures in
    subst (λ (k : MethodNeeds). AreNeedsOf P c.args.m k) (sym c.new.ensures) (all_sites P c.args.m h.places h.lines c.frame_words.result c.frame_words.ensures c.in_ok-sites.sites.items h.are)
