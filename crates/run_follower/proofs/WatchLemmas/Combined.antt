-- Numbers of activations that are put together in any order.
use Rattle.std.proofs.Common.{◌≡◌, ℕ, ◌+◌, ◌*◌, ◌≤◌, max, Bool, true, false, cond, List, [], ◌∷◌, ◌++◌, length, filter, Option, Some, None, All, refl, sym, ap, ◌∙◌, arith}
use Rattle.std.specs.Option.{option_to_list}
use Rattle.std.proofs.lemmas.List.Elements.{All-head, All-tail}
use Rattle.run_follower.specs.declared.watch.activation.Activation.{Activation}

-- the order of what is put together doesn't count
pub record IsCombining (op : ℕ → ℕ → ℕ) : Type 0 where
  pub comm : (a b : ℕ) → op a b ≡ op b a
  pub assoc : (a b c : ℕ) → op (op a b) c ≡ op a (op b c)
  pub unit : (a : ℕ) → op 0 a ≡ a

pub adding : IsCombining (λ a b. a + b)
adding = record { comm = λ a b. omega arith; assoc = λ a b c. omega arith; unit = λ a. omega arith }

pub greatest_of : IsCombining max
greatest_of = record { comm = λ a b. omega arith; assoc = λ a b c. omega arith; unit = λ a. omega arith }

-- the second and the first of three in the other order
pub swapped : {op : ℕ → ℕ → ℕ} → IsCombining op → (a b c : ℕ) → op a (op b c) ≡ op b (op a c)
swapped {op} h a b c = sym (h.assoc a b c) ∙ ap (λ (n : ℕ). op n c) (h.comm a b) ∙ h.assoc b a c

pub unit_right : {op : ℕ → ℕ → ℕ} → IsCombining op → (a : ℕ) → op a 0 ≡ a
unit_right {op} h a = h.comm a 0 ∙ h.unit a

abbrev pub combined : (ℕ → ℕ → ℕ) → (Activation → ℕ) → List Activation → ℕ
combined op f [] = 0
combined op f (x ∷ xs) = op (f x) (combined op f xs)

-- the number of an activation, where there is one
abbrev pub value : (Activation → ℕ) → Option Activation → ℕ
value f None = 0
value f (Some x) = f x

pub combined-option : {op : ℕ → ℕ → ℕ} → IsCombining op → (f : Activation → ℕ) (o : Option Activation) (xs : List Activation) → combined op f (option_to_list o ++ xs) ≡ op (value f o) (combined op f xs)
combined-option {op} h f None xs = sym (h.unit (combined op f xs))
combined-option h f (Some x) xs = refl

pub combined-append : {op : ℕ → ℕ → ℕ} → IsCombining op → (f : Activation → ℕ) (xs ys : List Activation) → combined op f (xs ++ ys) ≡ op (combined op f xs) (combined op f ys)
combined-append {op} h f [] ys = sym (h.unit (combined op f ys))
combined-append {op} h f (x ∷ xs) ys = ap (op (f x)) (combined-append h f xs ys) ∙ sym (h.assoc (f x) (combined op f xs) (combined op f ys))

-- only those that pass a test
abbrev pub only : (Activation → Bool) → (Activation → ℕ) → Activation → ℕ
only p f x = cond (p x) (f x) 0

filter_case : {op : ℕ → ℕ → ℕ} → IsCombining op → (f : Activation → ℕ) (x : Activation) (ys : List Activation) (n : ℕ) (b : Bool) → combined op f ys ≡ n → combined op f (cond b (x ∷ ys) ys) ≡ op (cond b (f x) 0) n
filter_case {op} h f x ys n true e = ap (op (f x)) e
filter_case {op} h f x ys n false e = e ∙ sym (h.unit n)

pub combined-filter : {op : ℕ → ℕ → ℕ} → IsCombining op → (p : Activation → Bool) (f : Activation → ℕ) (xs : List Activation) → combined op f (filter p xs) ≡ combined op (only p f) xs
combined-filter h p f [] = refl
combined-filter {op} h p f (x ∷ xs) = filter_case h f x (filter p xs) (combined op (only p f) xs) (p x) (combined-filter h p f xs)

-- a sum of numbers none of which is more than another
pub combined_within : (f : Activation → ℕ) (most : ℕ) (xs : List Activation) → All (λ x. f x ≤ most) xs → combined (λ a b. a + b) f xs ≤ length xs * most
combined_within f most [] h = omega arith
combined_within f most (x ∷ xs) h =
    let here : f x ≤ most = All-head (λ x. f x ≤ most) x xs h in
    let later = combined_within f most xs (All-tail (λ x. f x ≤ most) x xs h) in
    grind (arith, here, later)
