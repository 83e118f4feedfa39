-- The words of a clock, wire by wire.
use Rattle.std.proofs.Common.{◌≡◌, ℕ, zero, suc, ◌+◌, ◌*◌, ◌^◌, ◌<◌, ◌≤◌, List, [], ◌∷◌, ◌++◌, map, length, take, refl, sym, ap, ◌∙◌, subst, arith}
use Rattle.std.specs.Prelude.{slice_index_or}
use Rattle.std.proofs.lemmas.List.{take_more}
use Rattle.std.proofs.Math.Seq.{take-length}
use Rattle.std.proofs.Math.Nat.{pow-le-pow_right}
use Rattle.netlist.specs.declared.net.Expression.{Expression}
use Rattle.netlist.specs.declared.net.Expression.TheVariants.{Not, Binary, Part, Join, Choose, Table}
use Rattle.netlist.specs.declared.parts.Netlist.{Netlist}
use Rattle.netlist.specs.Meaning.{Words, Circuit, word_on, result_of, with_wires, words_of}
use Rattle.netlist.specs.Evaluation.{FitsWord, words_with}
use Rattle.netlist.specs.WellFormed.{Widths, widths_before, width_of, IsExpression, AreWires, IsNetlist, Fit, IsStateOf}
use Rattle.netlist.proofs.Ranges.{AreWithin, result_within, wires_within, begun_within}
use Rattle.netlist.proofs.Wires.{wires_at}

-- ---- what expressions are worked out of

joined_fits : (sum width : ℕ) → width ≤ 64 → sum < 2 ^ width → sum < 2 ^ 64
joined_fits sum width le lt =
    let some : 0 < 2 = omega arith in
    let up : 2 ^ width ≤ 2 ^ 64 = pow-le-pow_right some le in
    omega (arith, lt, up)

fits_word : (ws : Widths) (xs : Words) (e : Expression) → AreWithin ws xs → IsExpression ws e → FitsWord xs e
fits_word ws xs (Not x) a h = h.width.1
fits_word ws xs (Binary operator x y) a h = h.0.width.1
fits_word ws xs (Part x low width) a h = let most = h.0.width.1 in let within = h.3 in omega (arith, most, within)
fits_word ws xs (Join x y) a h =
    (h.1.width.1, joined_fits (word_on xs x * 2 ^ y.width + word_on xs y) (x.width + y.width) h.2 (result_within ws xs (Join x y) a h))
fits_word ws xs (Choose c x y) a h = tt
fits_word ws xs (Table x width rows) a h = tt

-- ---- wires so far

wires_take : (ws : Widths) (es : List Expression) (k : ℕ) → AreWires ws es → AreWires ws (take k es)
wires_take ws es zero a = tt
wires_take ws [] (suc k) a = tt
wires_take ws (e ∷ es) (suc k) a = (a.0, wires_take (record ws { wires = ws.wires ++ width_of e ∷ [] }) es k a.1)

words_push : (xs : Words) (es : List Expression) (e : Expression)
    → with_wires xs (es ++ e ∷ []) ≡ (let all = with_wires xs es in record all { wires = all.wires ++ result_of all e ∷ [] })
words_push xs [] e = refl
words_push xs (x ∷ es) e = words_push (record xs { wires = xs.wires ++ result_of xs x ∷ [] }) es e

within_so_far : (n : Netlist) (inputs : List ℕ) (c : Circuit) (k : ℕ) → IsNetlist n → Fit (map (λ port. port.width) n.inputs) inputs → IsStateOf n c
    → AreWithin (widths_before k n) (with_wires (words_with inputs c []) (take k n.wires))
within_so_far n inputs c k h f s =
    wires_within (widths_before 0 n) (words_with inputs c []) (take k n.wires) (begun_within n inputs c f s) (wires_take (widths_before 0 n) n.wires k h.wires)

-- the expression of the next wire is worked out of what fits
pub next_fits : (n : Netlist) (inputs : List ℕ) (c : Circuit) (es : List Expression) (k : ℕ) (e : Expression) (xs : Words) → IsNetlist n
    → Fit (map (λ port. port.width) n.inputs) inputs → IsStateOf n c → es ≡ n.wires → k < length es → e ≡ slice_index_or es k e
    → xs ≡ with_wires (words_with inputs c []) (take k es) → FitsWord xs e
next_fits n inputs c es k e xs h f s same lt is so_far =
    let wires : k < length n.wires = subst (λ l. k < length l) same lt in
    let it : e ≡ slice_index_or n.wires k e = is ∙ ap (λ l. slice_index_or l k e) same in
    let words : xs ≡ with_wires (words_with inputs c []) (take k n.wires) = so_far ∙ ap (λ l. with_wires (words_with inputs c []) (take k l)) same in
    let within : AreWithin (widths_before k n) xs = subst (AreWithin (widths_before k n)) (sym words) (within_so_far n inputs c k h f s) in
    let next : IsExpression (widths_before k n) e = subst (IsExpression (widths_before k n)) (sym it) (wires_at (widths_before 0 n) n.wires k e wires h.wires) in
    fits_word (widths_before k n) xs e within next

-- the words with that of the next wire
pub next_word : (inputs : List ℕ) (c : Circuit) (es : List Expression) (k : ℕ) (e : Expression) (wires more : List ℕ) (word : ℕ) → k < length es
    → e ≡ slice_index_or es k e → words_with inputs c wires ≡ with_wires (words_with inputs c []) (take k es)
    → word ≡ result_of (words_with inputs c wires) e → more ≡ wires ++ word ∷ []
    → words_with inputs c more ≡ with_wires (words_with inputs c []) (take (k + 1) es)
next_word inputs c es k e wires more word lt is so_far worked put =
    let Further : Words → Words = λ xs. record xs { wires = xs.wires ++ result_of xs e ∷ [] } in
    ap (words_with inputs c) (put ∙ ap (λ w. wires ++ w ∷ []) worked) ∙ ap Further so_far
    ∙ sym (words_push (words_with inputs c []) (take k es) e)
    ∙ ap (λ x. with_wires (words_with inputs c []) (take k es ++ x ∷ [])) is
    ∙ ap (with_wires (words_with inputs c [])) (sym (take_more es k e lt))

pub all_words : (n : Netlist) (inputs : List ℕ) (c : Circuit) (es : List Expression) (k : ℕ) (xs : Words) → es ≡ n.wires → k ≡ length es
    → xs ≡ with_wires (words_with inputs c []) (take k es) → xs ≡ words_of n inputs c
all_words n inputs c es k xs same whole so_far =
    so_far ∙ ap (λ m. with_wires (words_with inputs c []) (take m es)) whole ∙ ap (with_wires (words_with inputs c [])) (take-length es ∙ same)
