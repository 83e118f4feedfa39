-- Pieces one after another.
use Rattle.std.proofs.Common.{◌≡◌, ℕ, zero, suc, ◌+◌, ◌<◌, ◌≤◌, List, [], ◌∷◌, ◌++◌, length, take, get_or, refl, sym, subst, ◌∙◌, ap, arith, add-one, append-nil, append_assoc, length-append}
use Rattle.std.specs.Prelude.{IsErr, Ok, Err}
use Rattle.std.specs.declared.option.Option.{Option}
use Rattle.std.specs.declared.result.Result.{Result}
use Rattle.std.specs.Borrow.{Bor}
use Rattle.outside.specs.Outside.{Grew}
use Rattle.run_devices.specs.Put.{joined, PutLine}

joined-suc : (ps : List (Bor (List ℕ))) (i : ℕ) (d : Bor (List ℕ)) → i < length ps → joined (take (suc i) ps) ≡ joined (take i ps) ++ (get_or ps i d).now
joined-suc [] i d h = absurd (omega (arith, h))
joined-suc (p ∷ ps) zero d h = append-nil p.now
joined-suc (p ∷ ps) (suc i) d h = ap (λ t. p.now ++ t) (joined-suc ps i d (omega (arith, h))) ∙ sym (append_assoc p.now (joined (take i ps)) (get_or ps i d).now)

pub joined-more : (ps : List (Bor (List ℕ))) (i : ℕ) (d : Bor (List ℕ)) → i < length ps → joined (take (i + 1) ps) ≡ joined (take i ps) ++ (get_or ps i d).now
joined-more ps i d h = let P : ℕ → Type 0 = λ k. joined (take k ps) ≡ joined (take i ps) ++ (get_or ps i d).now in subst P (sym (add-one i)) (joined-suc ps i d h)

take-front : (xs ys : List ℕ) (n : ℕ) → take (length xs + n) (xs ++ ys) ≡ xs ++ take n ys
take-front [] ys n = ap (λ k. take k ys) (let e : 0 + n ≡ n = omega arith in e)
take-front (x ∷ xs) ys n = ap (λ k. take k (x ∷ xs ++ ys)) (let e : suc (length xs) + n ≡ suc (length xs + n) = omega arith in e) ∙ ap (λ t. x ∷ t) (take-front xs ys n)

-- the pieces so far and a front of the next one are a front of all pieces
pub record Front (ps : List (Bor (List ℕ))) (i n : ℕ) (piece : List ℕ) : Type 0 where
  pub count : ℕ
  pub part : count < length (joined ps)
  pub is : take count (joined ps) ≡ joined (take i ps) ++ take n piece

pub joined-front : (ps : List (Bor (List ℕ))) (i n : ℕ) (d : Bor (List ℕ)) → i < length ps → n < length (get_or ps i d).now → Front ps i n (get_or ps i d).now
joined-front [] i n d within part = absurd (omega (arith, within))
joined-front (p ∷ ps) zero n d within part = record {
  count = n;
  part = omega (arith, part, length-append p.now (joined ps));
  is = front p.now (joined ps) n (omega (arith, part));
}
  where
    front : (xs ys : List ℕ) (n : ℕ) → n ≤ length xs → take n (xs ++ ys) ≡ [] ++ take n xs
    front xs ys zero few = refl
    front [] ys (suc n) few = absurd (omega (arith, few))
    front (x ∷ xs) ys (suc n) few = ap (λ t. x ∷ t) (front xs ys n (omega (arith, few)))
joined-front (p ∷ ps) (suc i) n d within part =
    let rest = joined-front ps i n d (omega (arith, within)) part in
    record {
      count = length p.now + rest.count;
      part = omega (arith, rest.part, length-append p.now (joined ps));
      is = take-front p.now (joined ps) rest.count ∙ ap (λ t. p.now ++ t) rest.is ∙ sym (append_assoc p.now (joined (take i ps)) (take n (get_or ps i d).now));
    }

pub PutLine-err : {T E : Type 0} (old new : Option (List ℕ)) (line : List ℕ) (result : Result T E) → IsErr result → (n : ℕ) → n < length line → Grew old new (take n line) → PutLine old new line result
PutLine-err old new line (Ok x) failed n part put = absurd (cc)
PutLine-err old new line (Err e) failed n part put = (n, part, put)
