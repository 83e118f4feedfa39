use Rattle.std.proofs.Common.{ℤ, List, Option, sym, subst}
use Rattle.program_tables.specs.Resolved.{resolved}
use Rattle.loop_rules.specs.Sites.{Sites, AreIntSites, int_at}
use Rattle.program_sites.specs.Ints.Constants.{AreConstants, AreMethodSites}
use Rattle.program_sites.proofs.IntsLemmas.Leaving.{are_int_sites}
use Rattle.program_sites.proofs.ints.sites.int_sites.Goals as goal

pub returns : goal.returns
returns c =
    let cs = c.args.program.now in
    let are = c.in_ok-constants.ensures in
    let xs = c.in_ok-constants.constants.items in
    let methods = subst (λ (ys : List (Option ℤ)). AreMethodSites (resolved cs) (int_at ys) c.in_ok-methods.methods.items) c.deref.ensures.value c.in_ok-methods.ensures in
    record {
      sites = subst (λ (s : Sites). AreIntSites (resolved cs) s) (sym c.new.ensures) (are_int_sites cs c.in_ok-methods.methods.items xs are methods);
      constants = subst (λ (s : Sites). AreConstants cs s.constants) (sym c.new.ensures) are;
    }
