-- The names of adders, tested one by one.
use Rattle.std.proofs.Common.{◌≡◌, ℕ, zero, suc, ◌+◌, ◌^◌, ◌<◌, ◌≤◌, Bool, true, false, not, ◌&&◌, List, refl, ap, ◌∙◌, arith, add-zero, lit<}
use Rattle.std.specs.Prelude.{decimal}
use Rattle.std.specs.Fmt.{digits}
use Rattle.std.specs.List.{list_all, range_with_len}
use Rattle.std.proofs.lemmas.Fmt.{decimal_injective}
use Rattle.lists.specs.Tests.{and_left, and_right, not_true}
use Rattle.lists.specs.Members.{tails}
use Rattle.descriptors.specs.Names.{is_instance_initializer, is_method_name, has_no_parenthesis}
use Rattle.core_classes.proofs.RightLemmas.{fits_pool}
use Rattle.work_gen.specs.Work.{adder_name}

-- what a test finds of each number, it finds of one
true_in : (p : ℕ → Bool) (a n j : ℕ) → list_all p (range_with_len a n) ≡ true → j < n → p (a + j) ≡ true
true_in p a zero j h lt = absurd (omega arith)
true_in p a (suc n) zero h lt = ap p (add-zero a) ∙ and_left (p a) (list_all p (range_with_len (a + 1) n)) h
true_in p a (suc n) (suc j) h lt =
    let e : a + suc j ≡ a + 1 + j = omega arith in
    let less : j < n = omega arith in
    ap p e ∙ true_in p (a + 1) n j (and_right (p a) (list_all p (range_with_len (a + 1) n)) h) less

abbrev pub is_good_name : List ℕ → Bool
is_good_name name = is_method_name name && (has_no_parenthesis name && (not (is_instance_initializer name) && fits_pool name))

all_good : list_all (λ k. is_good_name (adder_name k)) (range_with_len 0 1001) ≡ true
unfolding digits
all_good = refl

good : (k : ℕ) → k ≤ 1000 → is_good_name (adder_name k) ≡ true
good k few =
    let less : k < 1001 = omega arith in
    let e : k ≡ 0 + k = omega arith in
    ap (λ (i : ℕ). is_good_name (adder_name i)) e ∙ true_in (λ i. is_good_name (adder_name i)) 0 1001 k all_good less

behind_name : (k : ℕ) → k ≤ 1000 → (has_no_parenthesis (adder_name k) && (not (is_instance_initializer (adder_name k)) && fits_pool (adder_name k))) ≡ true
behind_name k few = and_right (is_method_name (adder_name k)) (has_no_parenthesis (adder_name k) && (not (is_instance_initializer (adder_name k)) && fits_pool (adder_name k))) (good k few)

behind_parenthesis : (k : ℕ) → k ≤ 1000 → (not (is_instance_initializer (adder_name k)) && fits_pool (adder_name k)) ≡ true
behind_parenthesis k few = and_right (has_no_parenthesis (adder_name k)) (not (is_instance_initializer (adder_name k)) && fits_pool (adder_name k)) (behind_name k few)

pub is_name : (k : ℕ) → k ≤ 1000 → is_method_name (adder_name k) ≡ true
is_name k few = and_left (is_method_name (adder_name k)) (has_no_parenthesis (adder_name k) && (not (is_instance_initializer (adder_name k)) && fits_pool (adder_name k))) (good k few)

pub no_parenthesis : (k : ℕ) → k ≤ 1000 → has_no_parenthesis (adder_name k) ≡ true
no_parenthesis k few = and_left (has_no_parenthesis (adder_name k)) (not (is_instance_initializer (adder_name k)) && fits_pool (adder_name k)) (behind_name k few)

pub no_initializer : (k : ℕ) → k ≤ 1000 → is_instance_initializer (adder_name k) ≡ false
no_initializer k few = not_true (is_instance_initializer (adder_name k)) (and_left (not (is_instance_initializer (adder_name k))) (fits_pool (adder_name k)) (behind_parenthesis k few))

pub fits : (k : ℕ) → k ≤ 1000 → fits_pool (adder_name k) ≡ true
fits k few = and_right (not (is_instance_initializer (adder_name k))) (fits_pool (adder_name k)) (behind_parenthesis k few)

-- adders of different numbers have different names
pub same_number : (j k : ℕ) → j ≤ 1000 → k ≤ 1000 → adder_name j ≡ adder_name k → j ≡ k
same_number j k less few same =
    let large : 1000 < 2 ^ 64 = lit< tt in
    let first : j < 2 ^ 64 = omega arith in
    let second : k < 2 ^ 64 = omega arith in
    decimal_injective j k first second (tails 109 109 (decimal j) (decimal k) same)
