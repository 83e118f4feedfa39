-- The loops of the reader, line by line.
use Rattle.std.proofs.Common.{◌≡◌, ℕ, zero, suc, ◌+◌, ◌-◌, ◌<◌, ◌≤◌, Bool, true, false, List, [], ◌∷◌, ◌++◌, length, take, append_assoc, refl, sym, ◌∙◌, ap, subst, arith, inl, inr}
use Rattle.std.specs.Prelude.{if◌then◌else◌, ◌==◌}
use Rattle.std.specs.List.{slice_split}
use Rattle.std.proofs.lemmas.Bool.{eq-eqb}
use Rattle.std.proofs.lemmas.Bool.Decides.{eqb_tells}
use Rattle.std.proofs.lemmas.List.{length-append}
use Rattle.std.proofs.lemmas.List.Splits.{length-slice_split}
use Rattle.std.proofs.lemmas.List.Sums.{count_by-le-length}
use Rattle.ascii_text.specs.Line.{lines_of, without_empty_last}
use Rattle.priced_cert.specs.declared.parting.Parting.{Parting}
use Rattle.priced_cert.specs.Parting.{Parted, Blank, kind_of, TakeAll}
use Rattle.priced_cert.specs.Shown.{Shows, TakesNow}
use Rattle.priced_cert.specs.Fronts.{IsFront, is_price, nth_plain}
use Rattle.priced_cert.proofs.Taking.{take_one}

-- ---- how many lines a text has at most

shorter : (pieces : List (List ℕ)) → length (without_empty_last pieces) ≤ length pieces
shorter [] = omega arith
shorter ([] ∷ []) = omega arith
shorter ((x ∷ xs) ∷ []) = omega arith
shorter (piece ∷ next ∷ pieces) = omega (arith, shorter (next ∷ pieces))

pub few_lines : (text : List ℕ) → length (lines_of text) ≤ length text + 1
few_lines text = omega (arith, shorter (slice_split (λ byte. byte == 10) text), length-slice_split (λ byte. byte == 10) text, count_by-le-length (λ byte. byte == 10) text)

-- ---- parting

pub record IsPartedTo (lines : List (List ℕ)) (next : ℕ) (left : List (List ℕ)) (p : Parting) : Type 0 where
  pub taken : List (List ℕ)
  pub split : lines ≡ taken ++ left
  pub count : next ≡ length taken + 1
  pub parted : Parted
  pub takes : TakeAll Blank taken parted
  pub shows : Shows p parted

pub parted_none : (lines left : List (List ℕ)) (p : Parting) → left ≡ lines → Shows p Blank → IsPartedTo lines 1 left p
parted_none lines left p e s = record { taken = []; split = sym e; count = refl; parted = Blank; takes = refl; shows = s }

pub parted_more : (lines : List (List ℕ)) (next : ℕ) (left rest : List (List ℕ)) (line : List ℕ) (p q : Parting) (b : Bool) → IsPartedTo lines next left p → left ≡ line ∷ rest
    → TakesNow p line q b → b ≡ true → IsPartedTo lines (next + 1) rest q
parted_more lines next left rest line p q b r e takes is =
    let more = subst (TakesNow p line q) is takes r.parted r.shows in
    record {
      taken = r.taken ++ line ∷ [];
      split = r.split ∙ (ap (λ (ls : List (List ℕ)). r.taken ++ ls) e ∙ sym (append_assoc r.taken (line ∷ []) rest));
      count = omega (arith, r.count, length-append r.taken (line ∷ []));
      parted = more.next;
      takes = take_one Blank r.parted more.next r.taken line r.takes more.takes;
      shows = more.shows;
    }

pub parted_stop : (lines : List (List ℕ)) (next : ℕ) (left rest : List (List ℕ)) (line : List ℕ) (p q : Parting) (b : Bool) → IsPartedTo lines next left p → left ≡ line ∷ rest
    → TakesNow p line q b → b ≡ false → IsFront lines (record { parting = q; next = next; whole = false })
parted_stop lines next left rest line p q b r e takes is =
    let stays = subst (TakesNow p line q) is takes in
    record {
      taken = r.taken;
      left = line ∷ rest;
      split = r.split ∙ ap (λ (ls : List (List ℕ)). r.taken ++ ls) e;
      parted = r.parted;
      takes = r.takes;
      shows = subst (λ (z : Parting). Shows z r.parted) (sym stays.0) r.shows;
      next = r.count;
      stop = λ t. stays.1 r.parted t r.shows;
    }

pub parted_whole : (lines : List (List ℕ)) (next : ℕ) (left : List (List ℕ)) (p : Parting) → IsPartedTo lines next left p → left ≡ []
    → IsFront lines (record { parting = p; next = next; whole = true })
parted_whole lines next left p r e =
    record { taken = r.taken; left = []; split = r.split ∙ ap (λ (ls : List (List ℕ)). r.taken ++ ls) e; parted = r.parted; takes = r.takes; shows = r.shows; next = r.count; stop = refl }

pub parted_few : (text : List ℕ) (next : ℕ) (left rest : List (List ℕ)) (line : List ℕ) (p : Parting) → IsPartedTo (lines_of text) next left p → left ≡ line ∷ rest → next ≤ length text + 1
parted_few text next left rest line p r e = omega (arith, few_lines text, r.count, ap length r.split, length-append r.taken left, ap length e)

-- ---- the number of a line without a price

pub record IsCountedTo (lines : List (List ℕ)) (n next number left : ℕ) (rest : List (List ℕ)) : Type 0 where
  pub done : List (List ℕ)
  pub split : lines ≡ done ++ rest
  pub count : number ≡ length done + 1
  pub before : number ≤ next
  pub some : 1 ≤ left
  pub is : nth_plain n (take (next - 1) lines) ≡ length done + nth_plain left (take (next - number) rest)

pub counted_none : (lines left : List (List ℕ)) (n next : ℕ) → left ≡ lines → 1 ≤ n → 1 ≤ next → IsCountedTo lines n next 1 n left
counted_none lines left n next e some before =
    record { done = []; split = sym e; count = refl; before = before; some = some; is = ap (λ (ls : List (List ℕ)). nth_plain n (take (next - 1) ls)) (sym e) ∙ omega arith }

pub counted_next : (lines : List (List ℕ)) (n next number left : ℕ) (rest : List (List ℕ)) → IsCountedTo lines n next number left rest → number ≡ next → next ≡ nth_plain n (take (next - 1) lines)
counted_next lines n next number left rest r e =
    let none : next - number ≡ 0 = omega (arith, e) in
    let last : nth_plain n (take (next - 1) lines) ≡ length r.done + 1 = r.is ∙ ap (λ (k : ℕ). length r.done + nth_plain left (take k rest)) none in
    omega (arith, last, e, r.count)

pub counted_end : (lines : List (List ℕ)) (n next number left : ℕ) (rest : List (List ℕ)) → IsCountedTo lines n next number left rest → rest ≡ [] → number ≡ nth_plain n (take (next - 1) lines)
counted_end lines n next number left rest r e =
    let last : nth_plain n (take (next - 1) lines) ≡ length r.done + nth_plain left (take (next - number) []) = r.is ∙ ap (λ (ls : List (List ℕ)). length r.done + nth_plain left (take (next - number) ls)) e in
    let none : nth_plain left (take (next - number) []) ≡ 1 = nothing (next - number) in
    omega (arith, last, none, r.count)
  where
    nothing : (k : ℕ) → nth_plain left (take k []) ≡ 1
    nothing zero = refl
    nothing (suc k) = refl

-- the first of the lines that are left
split_first : (left next number : ℕ) (line : List ℕ) (rest : List (List ℕ)) → number < next → take (next - number) (line ∷ rest) ≡ line ∷ take (next - (number + 1)) rest
split_first left next number line rest lt = ap (λ (k : ℕ). take k (line ∷ rest)) step
  where
    step : next - number ≡ suc (next - (number + 1))
    step = omega (arith, lt)

at_line : (left : ℕ) (line : List ℕ) (ls : List (List ℕ)) (b c : Bool) → is_price (kind_of line) ≡ b → (left == 1) ≡ c
    → nth_plain left (line ∷ ls) ≡ (if b then 1 + nth_plain left ls else (if c then 1 else 1 + nth_plain (left - 1) ls))
at_line left line ls b c e f =
    ap (λ (t : Bool). if t then 1 + nth_plain left ls else (if left == 1 then 1 else 1 + nth_plain (left - 1) ls)) e
    ∙ ap (λ (u : Bool). if b then 1 + nth_plain left ls else (if u then 1 else 1 + nth_plain (left - 1) ls)) f

not_one : (n : ℕ) → 2 ≤ n → (n == 1) ≡ false
not_one n h = elim (eqb_tells n 1) [ inl same ↦ absurd (let one = same.1 in omega arith) | inr other ↦ other.0 ]

module _ (lines : List (List ℕ)) (n next number left : ℕ) (ls rest : List (List ℕ)) (line : List ℕ) (r : IsCountedTo lines n next number left ls) (e : ls ≡ line ∷ rest) (lt : number < next) where
  here : nth_plain n (take (next - 1) lines) ≡ length r.done + nth_plain left (line ∷ take (next - (number + 1)) rest)
  here =
      r.is ∙ (ap (λ (xs : List (List ℕ)). length r.done + nth_plain left (take (next - number) xs)) e
      ∙ ap (λ (xs : List (List ℕ)). length r.done + nth_plain left xs) (split_first left next number line rest lt))

  longer : length (r.done ++ line ∷ []) ≡ length r.done + 1
  longer = length-append r.done (line ∷ [])

  pub counted_price : is_price (kind_of line) ≡ true → IsCountedTo lines n next (number + 1) left rest
  counted_price price =
      let step : nth_plain left (line ∷ take (next - (number + 1)) rest) ≡ 1 + nth_plain left (take (next - (number + 1)) rest) =
      ap (λ (t : Bool). if t then 1 + nth_plain left (take (next - (number + 1)) rest) else (if left == 1 then 1 else 1 + nth_plain (left - 1) (take (next - (number + 1)) rest))) price in
      record {
        done = r.done ++ line ∷ [];
        split = r.split ∙ (ap (λ (xs : List (List ℕ)). r.done ++ xs) e ∙ sym (append_assoc r.done (line ∷ []) rest));
        count = omega (arith, r.count, longer);
        before = omega (arith, lt);
        some = r.some;
        is = omega (arith, here, step, longer);
      }

  pub counted_plain : is_price (kind_of line) ≡ false → 2 ≤ left → IsCountedTo lines n next (number + 1) (left - 1) rest
  counted_plain plain more =
      let other : (left == 1) ≡ false = not_one left more in
      let step : nth_plain left (line ∷ take (next - (number + 1)) rest) ≡ 1 + nth_plain (left - 1) (take (next - (number + 1)) rest) =
      at_line left line (take (next - (number + 1)) rest) false false plain other in
      record {
        done = r.done ++ line ∷ [];
        split = r.split ∙ (ap (λ (xs : List (List ℕ)). r.done ++ xs) e ∙ sym (append_assoc r.done (line ∷ []) rest));
        count = omega (arith, r.count, longer);
        before = omega (arith, lt);
        some = omega (arith, more);
        is = omega (arith, here, step, longer);
      }

  pub counted_found : is_price (kind_of line) ≡ false → left ≡ 1 → number ≡ nth_plain n (take (next - 1) lines)
  counted_found plain one =
      let same : (left == 1) ≡ true = eq-eqb left 1 one in
      let step : nth_plain left (line ∷ take (next - (number + 1)) rest) ≡ 1 = at_line left line (take (next - (number + 1)) rest) false true plain same in
      omega (arith, here, step, r.count)
