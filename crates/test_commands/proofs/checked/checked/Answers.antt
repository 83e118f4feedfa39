use Rattle.std.proofs.Common.{rules, ◌≡◌, ℕ, List, [], ◌∷◌, map, ap, subst, ◌∙◌}
use Rattle.outside.specs.Memory.{bytes_or_empty}
use Rattle.test_commands.specs.Checked.{Came, check_words, check_files}
use Rattle.test_commands.proofs.checked.checked.Goals as goal

pub returns : goal.returns
returns c =
    let first : c.in_ok-to_vec.field-0.items ≡ c.args.image.now = c.in_ok-to_vec.ensures.items_if_clones_equal (λ x y h. search rules) in
    let second : c.in_ok-to_vec-2.field-0.items ≡ c.args.bounds.now = c.in_ok-to_vec-2.ensures.items_if_clones_equal (λ x y h. search rules) in
    let third : c.in_ok-to_vec-3.field-0.items ≡ c.args.certificate.now = c.in_ok-to_vec-3.ensures.items_if_clones_equal (λ x y h. search rules) in
    let files : map bytes_or_empty c.in_ok-files.files.items ≡ check_files c.args.image.now c.args.bounds.now c.args.certificate.now =
    ap (map bytes_or_empty) c.in_ok-files.ensures.items
    ∙ (ap (λ (bytes : List ℕ). check_files bytes c.in_ok-to_vec-2.field-0.items c.in_ok-to_vec-3.field-0.items) first
    ∙ (ap (λ (bytes : List ℕ). check_files c.args.image.now bytes c.in_ok-to_vec-3.field-0.items) second
    ∙ ap (λ (bytes : List ℕ). check_files c.args.image.now c.args.bounds.now bytes) third)) in
    subst (λ (fs : List (List ℕ)). Came check_words fs c.come.result) files c.come.ensures
