-- How what is told goes on over several calls.
use Rattle.std.proofs.Common.{◌≡◌, ℕ, ◌+◌, ◌-◌, ◌≤◌, List, ◌++◌, length, take, drop, None, Some, refl, sym, ◌∙◌, ap, arith, length-append, length-drop}
use Rattle.std.proofs.lemmas.List.{take_all, length-take-le}
use Rattle.std.proofs.Math.Seq.{take-add}
use Rattle.std.specs.Prelude.{⊤}
use Rattle.std.specs.declared.option.Option.{Option}
use Rattle.outside.specs.Outside.{OnlyWord, IsWhole, ReadAt, HasFileLength}

pub OnlyWord-refl : (words : ℕ) (told : ℕ → Option (List ℕ)) (faults : ℕ → ℕ) (word : ℕ) → OnlyWord words words told told faults faults word
OnlyWord-refl words told faults word = record { same_words = refl; contents = λ k. refl; counts = λ k other. refl }

pub OnlyWord-trans : (w0 w1 w2 : ℕ) (t0 t1 t2 : ℕ → Option (List ℕ)) (f0 f1 f2 : ℕ → ℕ) (word : ℕ)
    → OnlyWord w0 w1 t0 t1 f0 f1 word → OnlyWord w1 w2 t1 t2 f1 f2 word → OnlyWord w0 w2 t0 t2 f0 f2 word
OnlyWord-trans w0 w1 w2 t0 t1 t2 f0 f1 f2 word first second = record {
  same_words = second.same_words ∙ first.same_words;
  contents = λ k. second.contents k ∙ first.contents k;
  counts = λ k other. second.counts k other ∙ first.counts k other;
}

-- these are a front of the bytes that are told
abbrev pub IsFront : Option (List ℕ) → List ℕ → Type 0
IsFront None bytes = ⊤
IsFront (Some whole) bytes = take (length bytes) whole ≡ bytes

-- a piece that is read right behind a front makes a longer front
pub IsFront-more : (told : Option (List ℕ)) (front piece : List ℕ) (n : ℕ) → IsFront told front → ReadAt told (length front) n piece → n ≤ length piece → IsFront told (front ++ take n piece)
IsFront-more None front piece n is read fits = tt
IsFront-more (Some whole) front piece n is read fits =
    let size : length (take n piece) ≡ n = length-take-le n piece fits in
    rw (length-append, size, take-add, is, read.same) refl

-- a front as long as what is told is all of it
pub IsWhole-front : (told : Option (List ℕ)) (front : List ℕ) (n : ℕ) → IsFront told front → HasFileLength told n → n ≤ length front → IsWhole told front
IsWhole-front None front n is has long = tt
IsWhole-front (Some whole) front n is has long = sym is ∙ take_all (length front) whole (omega (arith, has))

-- the front of a list up to at, and then a front of the rest
pub take_rest : (xs : List ℕ) (at n : ℕ) → take (at + n) xs ≡ take at xs ++ take n (take (length xs - at) (drop at xs))
take_rest xs at n = take-add at n xs ∙ ap (λ t. take at xs ++ take n t) (sym (take_all (length xs - at) (drop at xs) (omega (arith, length-drop at xs))))
