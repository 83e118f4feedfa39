-- Bytes packed word by word.
use Rattle.std.proofs.Common.{◌≡◌, ℕ, suc, ◌+◌, ◌-◌, ◌*◌, ◌<◌, List, [], ◌∷◌, ◌++◌, length, append-nil, append_assoc, sym, ap, ap₂, ◌∙◌, arith}
use Rattle.base.specs.Packed.{word_at_bytes, words_from, words_for, words_of_bytes}

abbrev pub Packing : (bytes before words : List ℕ) → (k : ℕ) → Type 0
Packing bytes before words k = words ++ words_from bytes (4 * k) (words_for (length bytes) - k) ≡ before ++ words_of_bytes bytes

pub pack_none : (bytes before : List ℕ) → Packing bytes before before 0
unfolding words_of_bytes
pack_none bytes before =
    let n = words_for (length bytes) in
    let same : n - 0 ≡ n = omega arith in
    ap (λ (m : ℕ). before ++ words_from bytes (4 * 0) m) same

pub pack_more : (bytes before words new : List ℕ) (k word : ℕ) → k < words_for (length bytes) → word ≡ word_at_bytes bytes (4 * k) → new ≡ words ++ word ∷ [] → Packing bytes before words k → Packing bytes before new (k + 1)
pack_more bytes before words new k word lt is e h =
    let n = words_for (length bytes) in
    let rest = n - (k + 1) in
    let more : n - k ≡ suc rest = omega (arith, lt) in
    let next : 4 * (k + 1) ≡ 4 * k + 4 = omega arith in
    ap₂ (λ (ws : List ℕ) (p : ℕ). ws ++ words_from bytes p rest) e next
    ∙ (append_assoc words (word ∷ []) (words_from bytes (4 * k + 4) rest)
    ∙ (ap (λ (w : ℕ). words ++ w ∷ words_from bytes (4 * k + 4) rest) is
    ∙ (ap (λ (m : ℕ). words ++ words_from bytes (4 * k) m) (sym more) ∙ h)))

pub pack_all : (bytes before words : List ℕ) (k : ℕ) → k ≡ words_for (length bytes) → Packing bytes before words k → words ≡ before ++ words_of_bytes bytes
pack_all bytes before words k all h =
    let none : words_for (length bytes) - k ≡ 0 = omega (arith, all) in
    sym (ap (λ (m : ℕ). words ++ words_from bytes (4 * k) m) none ∙ append-nil words) ∙ h
