use Rattle.std.proofs.Common.{◌≡◌, ℕ, true, List, sym, ◌∙◌, subst}
use Rattle.std.proofs.lemmas.Bool.{false≢true}
use Rattle.program_tables.specs.Resolved.{resolved}
use Rattle.flow_table.specs.Targets.{IsSelectedList}
use Rattle.flow_table.proofs.Making.{if_ok}
use Rattle.flow_table.proofs.Selecting.{none_selected, wanted_by}
use Rattle.flow_table.proofs.targets.selected_list.Goals as goal

pub returns-then-wanted : goal.returns-then-wanted
returns-then-wanted c =
    let P = resolved c.args.program.now in
    let m = c.args.method in
    if_ok c.selected_for.result (λ (ts : List ℕ). IsSelectedList P m (Unit {0}) ts) (λ (ts : List ℕ). IsSelectedList P m (c.args.wanted ≡ true) ts)
    (λ ts h. wanted_by P m (Unit {0}) (c.args.wanted ≡ true) ts (λ e. tt) h) c.selected_for.ensures

pub returns-else-wanted : goal.returns-else-wanted
returns-else-wanted c =
    let P = resolved c.args.program.now in
    let m = c.args.method in
    subst (λ (ts : List ℕ). IsSelectedList P m (c.args.wanted ≡ true) ts) (sym (c.new-else-wanted.ensures ∙ c.new.ensures.items))
    (none_selected P m (c.args.wanted ≡ true) (λ e virtual. false≢true (sym c.if-wanted.false ∙ e)))
