use Rattle.std.proofs.Common.{rules, ◌≡◌, ℕ, List, [], ◌∷◌, map, ap, subst, ◌∙◌}
use Rattle.outside.specs.Memory.{bytes_or_empty}
use Rattle.test_commands.specs.Checked.{Came, run_words, run_files}
use Rattle.test_commands.proofs.checked.ran.Goals as goal

pub returns : goal.returns
returns c =
    let copy : c.in_ok-to_vec.field-0.items ≡ c.args.image.now = c.in_ok-to_vec.ensures.items_if_clones_equal (λ x y h. search rules) in
    let files : map bytes_or_empty c.in_ok-files.files.items ≡ run_files c.args.image.now =
    ap (map bytes_or_empty) c.in_ok-files.ensures.items ∙ ap (λ (bytes : List ℕ). [] ∷ bytes ∷ []) copy in
    subst (λ (fs : List (List ℕ)). Came run_words fs c.come.result) files c.come.ensures
