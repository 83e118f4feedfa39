-- Whether the keys of a switch rise, one after another.
use Rattle.std.proofs.Common.{◌≡◌, ℕ, ◌+◌, ◌≤◌, true, false, ◌&&◌, List, [], ◌∷◌, length, drop, drop-cons, add-one, Some, refl, sym, ap, ap₂, ◌∙◌, arith}
use Rattle.std.specs.Prelude.{slice_get, int_lt}
use Rattle.std.proofs.lemmas.List.{length-drop}
use Rattle.std.proofs.lemmas.Option.{slice_get_within, get_or_from_slice_get}
use Rattle.opcodes.specs.declared.instruction.Case.{Case}
use Rattle.bytecode_typing.specs.Walk.{keys_rise}

item : (xs : List Case) (i : ℕ) (x : Case) → slice_get xs i ≡ Some x → drop i xs ≡ x ∷ drop (i + 1) xs
item xs i x h = drop-cons xs i x (slice_get_within xs i x h) ∙ ap₂ (λ y n. y ∷ drop n xs) (get_or_from_slice_get xs i x x h) (sym (add-one i))

two : (xs : List Case) (i : ℕ) (a b : Case) → slice_get xs i ≡ Some a → slice_get xs (i + 1) ≡ Some b → keys_rise (drop i xs) ≡ (int_lt a.key b.key && keys_rise (drop (i + 1) xs))
two xs i a b h k =
    let rest = item xs (i + 1) b k in
    ap keys_rise (item xs i a h ∙ ap (λ l. a ∷ l) rest) ∙ ap (λ l. int_lt a.key b.key && keys_rise l) (sym rest)

pub key_above : (xs : List Case) (i : ℕ) (a b : Case) → slice_get xs i ≡ Some a → slice_get xs (i + 1) ≡ Some b → int_lt a.key b.key ≡ true → keys_rise (drop (i + 1) xs) ≡ keys_rise (drop i xs)
key_above xs i a b h k e = sym (two xs i a b h k ∙ ap (λ x. x && keys_rise (drop (i + 1) xs)) e)

pub key_not_above : (xs : List Case) (i : ℕ) (a b : Case) → slice_get xs i ≡ Some a → slice_get xs (i + 1) ≡ Some b → int_lt a.key b.key ≡ false → keys_rise (drop i xs) ≡ false
key_not_above xs i a b h k e = two xs i a b h k ∙ ap (λ x. x && keys_rise (drop (i + 1) xs)) e

one_rises : (xs : List Case) → length xs ≤ 1 → keys_rise xs ≡ true
one_rises [] h = refl
one_rises (x ∷ []) h = refl
one_rises (x ∷ y ∷ xs) h = absurd (omega (arith, h))

pub few_rise : (xs : List Case) (i : ℕ) → length xs ≤ i + 1 → keys_rise (drop i xs) ≡ true
few_rise xs i h = one_rises (drop i xs) (let short = length-drop i xs in omega (arith, h, short))
