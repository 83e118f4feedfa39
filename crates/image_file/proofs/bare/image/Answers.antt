use Rattle.std.proofs.Common.{◌≡◌, ◌<◌, ◌^◌, ℕ, List, rules, true, subst, sym, arith}
use Rattle.std.specs.Prelude.{slice_index}
use Rattle.image_file.specs.Scan.{image_test}
use Rattle.image_file.proofs.BareFiles.{IsImage-tested}
use Rattle.image_file.proofs.bare.image.Goals as goal

pub invariant_of-result : goal.invariant_of-result
invariant_of-result c =
    let test : image_test c.args.max_locals c.args.max_stack c.args.length c.in_ok-code.code.items ≡ true = search rules in
    let same : c.in_ok-code.code.items ≡ c.args.code.now = search rules in
    let P : List ℕ → Type 0 = λ xs. (k : ℕ) → slice_index xs k < 2 ^ 8 in
    let small : P c.in_ok-code.code.items = subst P (sym same) (λ k. omega (arith, c.type_inv.code k)) in
    IsImage-tested c.args.max_locals c.args.max_stack c.args.length c.in_ok-code.code.items small test
