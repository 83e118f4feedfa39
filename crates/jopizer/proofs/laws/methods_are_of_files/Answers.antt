use Rattle.program_resolution.proofs.ResolvedLemmas.{Laws}
use Rattle.lists.proofs.Lemmas.{none≢some}
use Rattle.std.proofs.Common.{sym, ◌∙◌}
use Rattle.jopizer.proofs.BootLemmas.{of_file}
use Rattle.jopizer.proofs.laws.methods_are_of_files.Goals as goal

pub returns : goal.returns
returns c files main file method pc rule h =
    let laws : Laws = record {
      core_linkable = c.core_is_linkable.ensures;
      core_first = c.core_stands_first.ensures;
      core_supported = c.core_is_supported.ensures;
      core_grammar = c.core_classes_are_classes.ensures;
      core_bytes = c.core_has_bytes.ensures;
      core_named = c.core_is_named.ensures;
      boot_linkable = c.boot_is_linkable.ensures;
      boot_supported = c.boot_is_supported.ensures;
      boot_grammar = c.boot_is_a_class.ensures;
      boot_says = c.boot_says_plan.ensures;
      boot_off_cycle = c.boot_is_on_no_cycle.ensures;
    } in
    of_file laws c.boot_is_verified.ensures c.members_are_there.ensures files main h.classes h.program file method h.number h.place (λ none. none≢some _ (sym none ∙ h.fails.fails))
