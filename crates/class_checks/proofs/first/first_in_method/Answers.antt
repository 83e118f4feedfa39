use Rattle.std.proofs.Common.{◌≡◌, List, ℕ, Some, None, sym, ap, ◌∙◌}
use Rattle.std.specs.Option.{option_map, option_copied}
use Rattle.std.specs.List.{flat_map}
use Rattle.lists.specs.Lists.{first}
use Rattle.lists.proofs.FirstLemmas.{first-before, first-behind, ok_same}
use Rattle.program_tables.specs.declared.refusal.Item.{Item}
use Rattle.program_tables.specs.declared.refusal.Site.TheVariants as sites
use Rattle.program_tables.specs.Instructions.{Placed, instructions_in, instructions_of}
use Rattle.program_tables.specs.Unsupported.{sited}
use Rattle.program_tables.proofs.ListLemmas.{no_value}
use Rattle.class_checks.specs.Causes.{method_items, unsupported_at, unsupported_in_method}
use Rattle.class_checks.proofs.FirstLemmas.{of_sited, in_method, instructions_are, no_instructions}
use Rattle.class_checks.proofs.first.first_in_method.Goals as goal

pub returns-in-Some : goal.returns-in-Some
returns-in-Some c =
    let class = c.args.class.now in
    let m = c.args.method.now in
    let site = sites.Method c.args.number in
    let items = method_items class m in
    let head : first (sited site items) ≡ Some (site, c.in-Some.item) = of_sited site items ∙ ap (option_map (λ (item : Item). (site, item))) (sym c.item_at_method.ensures ∙ c.in-Some.is) in
    sym (ap first (in_method class c.args.number m) ∙ first-before (sited site items) (flat_map (unsupported_at class c.args.number) (instructions_of m)) (site, c.in-Some.item) head)

pub returns-in-Some-code : goal.returns-in-Some-code
returns-in-Some-code c =
    let class = c.args.class.now in
    let m = c.args.method.now in
    let n = c.args.number in
    let site = sites.Method n in
    let items = method_items class m in
    let f = unsupported_at class n in
    let none = no_value c.item_at_method.result c.in_default.not-Some in
    let head : first (sited site items) ≡ None = of_sited site items ∙ ap (option_map (λ (item : Item). (site, item))) (sym c.item_at_method.ensures ∙ none) in
    let code = sym c.code.ensures ∙ ap option_copied c.in-Some-code.is in
    let e = ap (λ (k : List ℕ). first (flat_map f (instructions_in k))) c.as_slice.ensures
    ∙ (ap (λ (xs : List Placed). first (flat_map f xs)) (sym (instructions_are m c.in-Some-code.code.now code))
    ∙ sym (ap first (in_method class n m) ∙ first-behind (sited site items) (flat_map f (instructions_of m)) head)) in
    ok_same c.first_in_code.result (first (flat_map f (instructions_in c.as_slice.result.now))) (first (unsupported_in_method class (n, m))) e c.first_in_code.ensures

pub returns-in-None : goal.returns-in-None
returns-in-None c =
    let class = c.args.class.now in
    let m = c.args.method.now in
    let n = c.args.number in
    let site = sites.Method n in
    let items = method_items class m in
    let f = unsupported_at class n in
    let none = no_value c.item_at_method.result c.in_default.not-Some in
    let head : first (sited site items) ≡ None = of_sited site items ∙ ap (option_map (λ (item : Item). (site, item))) (sym c.item_at_method.ensures ∙ none) in
    let code = sym c.code.ensures ∙ ap option_copied c.in-None.is in
    sym (ap first (in_method class n m) ∙ (first-behind (sited site items) (flat_map f (instructions_of m)) head ∙ ap (λ (xs : List Placed). first (flat_map f xs)) (no_instructions m code)))
