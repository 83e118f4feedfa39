-- The on-chip words at reset, as they are filled.
use Rattle.std.proofs.Common.{◌≡◌, ℕ, zero, suc, ◌+◌, ◌-◌, ◌<◌, ◌≤◌, List, [], ◌∷◌, ◌++◌, length, take, replicate, refl, sym, ◌∙◌, ap, subst, arith, ⊎_elim, length-append, append_assoc}
use Rattle.std.specs.Prelude.{slice_index}
use Rattle.std.proofs.Math.ListN.{set}
use Rattle.std.proofs.Math.Seq.{set-append_seam}
use Rattle.std.proofs.lemmas.List.{take_more, length-take-le}
use Rattle.machine_memory.specs.Stack.Size.{IsSize}
use Rattle.microcode.specs.declared.TheConstants.{CONSTANTS}
use Rattle.jop_core.specs.declared.machine.reset.Boot.{Boot}
use Rattle.jop_core.specs.Reset.{places}
use Rattle.jop_core.specs.Starts.{first_words}

-- the words where so many constants stand already
abbrev pub filled : (n memory words : ℕ) → Boot → ℕ → List ℕ
filled n memory words boot k = replicate 24 0 ++ places n memory words boot.pool boot.place boot.frame boot.raise_list ++ take k CONSTANTS ++ replicate (n - 32 - k) 0

abbrev placed : (n memory words limit : ℕ) → Boot → List ℕ
placed n memory words limit boot =
    set (set (set (set (set (set (set (replicate n 0) 24 boot.pool) 25 boot.place) 26 words) 27 memory) 28 boot.frame) 29 limit) 30 boot.raise_list

pub filled-begin : (n memory words limit : ℕ) (boot : Boot) → IsSize n → limit ≡ n - 80 → placed n memory words limit boot ≡ filled n memory words boot 0
filled-begin n memory words limit boot size limit_is =
    let P : ℕ → Type 0 = λ m. placed m memory words (m - 80) boot ≡ filled m memory words boot 0 in
    let begins : P n = ⊎_elim (λ is. subst P (sym is) refl) (λ larger. ⊎_elim (λ is. subst P (sym is) refl) (λ is. subst P (sym is) refl) larger) size in
    ap (λ l. placed n memory words l boot) limit_is ∙ begins

seam : (xs : List ℕ) (m v : ℕ) (k : ℕ) → length xs ≡ k → 0 < m → set (xs ++ replicate m 0) k v ≡ (xs ++ v ∷ []) ++ replicate (m - 1) 0
seam xs zero v k at some = absurd (omega (arith, some))
seam xs (suc m) v k at some =
    let less : suc m - 1 ≡ m = omega arith in
    let S : ℕ → Type 0 = λ i. set (xs ++ replicate (suc m) 0) i v ≡ (xs ++ v ∷ []) ++ replicate m 0 in
    let here : set (xs ++ replicate (suc m) 0) (length xs) v ≡ (xs ++ v ∷ []) ++ replicate m 0 =
    set-append_seam xs 0 (replicate m 0) v ∙ sym (append_assoc xs (v ∷ []) (replicate m 0)) in
    rw less (subst S at here)

-- one constant more
pub filled-more : (n memory words : ℕ) (boot : Boot) (k v : ℕ) → 256 ≤ n → k < 32 → v ≡ slice_index CONSTANTS k
    → set (filled n memory words boot k) (32 + k) v ≡ filled n memory words boot (k + 1)
filled-more n memory words boot k v size small is =
    let front : List ℕ = replicate 24 0 ++ places n memory words boot.pool boot.place boot.frame boot.raise_list in
    let taken : length (take k CONSTANTS) ≡ k = length-take-le k CONSTANTS (omega (arith, small)) in
    let at : length (front ++ take k CONSTANTS) ≡ 32 + k = length-append front (take k CONSTANTS) ∙ ap (λ m. 32 + m) taken in
    let more : take (k + 1) CONSTANTS ≡ take k CONSTANTS ++ v ∷ [] = take_more CONSTANTS k 0 small ∙ ap (λ x. take k CONSTANTS ++ x ∷ []) (sym is) in
    let less : n - 32 - k - 1 ≡ n - 32 - (k + 1) = omega arith in
    seam (front ++ take k CONSTANTS) (n - 32 - k) v (32 + k) at (omega arith)
    ∙ ap (λ (xs : List ℕ). xs ++ replicate (n - 32 - k - 1) 0) (append_assoc front (take k CONSTANTS) (v ∷ []) ∙ ap (λ (xs : List ℕ). front ++ xs) (sym more))
    ∙ ap (λ m. (front ++ take (k + 1) CONSTANTS) ++ replicate m 0) less

pub filled-end : (n memory words : ℕ) (boot : Boot) → filled n memory words boot 32 ≡ first_words n memory boot words
filled-end n memory words boot = let same : n - 32 - 32 ≡ n - 64 = omega arith in ap (λ m. ((replicate 24 0 ++ places n memory words boot.pool boot.place boot.frame boot.raise_list) ++ CONSTANTS) ++ replicate m 0) same

-- there are at least 256 words
pub IsSize-least : (n : ℕ) → IsSize n → 256 ≤ n
IsSize-least n size = ⊎_elim (λ is. omega (arith, is)) (λ larger. ⊎_elim (λ is. omega (arith, is)) (λ is. omega (arith, is)) larger) size
