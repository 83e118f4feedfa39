-- Wires, one after another.
use Rattle.std.proofs.Common.{◌≡◌, ℕ, zero, suc, ◌+◌, ◌<◌, ◌≤◌, List, [], ◌∷◌, ◌++◌, map, length, take, refl, sym, ap, ◌∙◌, subst, arith}
use Rattle.std.specs.Prelude.{slice_index_or, IsTrue, ◌↔◌, true, false}
use Rattle.std.proofs.Math.Seq.{take-suc, take-length}
use Rattle.std.proofs.lemmas.List.{append-nil, append_assoc}
use Rattle.netlist.specs.declared.net.Expression.{Expression}
use Rattle.netlist.specs.declared.parts.Netlist.{Netlist}
use Rattle.netlist.specs.WellFormed.{Widths, width_of, widths_before, IsExpression, AreWires}

-- with the widths of further wires
abbrev pub with_more : Widths → List ℕ → Widths
with_more ws more = record ws { wires = ws.wires ++ more }

none_more : (ws : Widths) (e : Expression) → IsExpression ws e → IsExpression (with_more ws []) e
none_more ws e h = subst (λ l. IsExpression (record ws { wires = l }) e) (sym (append-nil ws.wires)) h

none_less : (ws : Widths) (e : Expression) → IsExpression (with_more ws []) e → IsExpression ws e
none_less ws e h = subst (λ l. IsExpression (record ws { wires = l }) e) (append-nil ws.wires) h

one_more : (ws : Widths) (x : Expression) (xs : List Expression) → (ws.wires ++ width_of x ∷ []) ++ map width_of xs ≡ ws.wires ++ map width_of (x ∷ xs)
one_more ws x xs = append_assoc ws.wires (width_of x ∷ []) (map width_of xs)

-- a wire stands on those before it
pub wires_at : (ws : Widths) (es : List Expression) (k : ℕ) (d : Expression) → k < length es → AreWires ws es
    → IsExpression (with_more ws (map width_of (take k es))) (slice_index_or es k d)
wires_at ws [] k d lt a = absurd (omega (arith, lt))
wires_at ws (e ∷ es) zero d lt a = none_more ws e a.0
wires_at ws (e ∷ es) (suc k) d lt a =
    subst (λ l. IsExpression (record ws { wires = l }) (slice_index_or es k d)) (one_more ws e (take k es))
    (wires_at (with_more ws (width_of e ∷ [])) es k d (omega (arith, lt)) a.1)

pub wires_push : (ws : Widths) (es : List Expression) (e : Expression) → AreWires ws es → IsExpression (with_more ws (map width_of es)) e
    → AreWires ws (es ++ e ∷ [])
wires_push ws [] e a h = (none_less ws e h, tt)
wires_push ws (x ∷ xs) e a h = (
  a.0,
  wires_push (with_more ws (width_of x ∷ [])) xs e a.1
      (subst (λ l. IsExpression (record ws { wires = l }) e) (sym (one_more ws x xs)) h),
)

-- ---- of a netlist

pub wire_in : (n : Netlist) (xs : List Expression) (k : ℕ) (e : Expression) → xs ≡ n.wires → e ≡ slice_index_or xs k e → k < length n.wires
    → AreWires (widths_before 0 n) n.wires → IsExpression (widths_before k n) e
wire_in n xs k e same is lt a =
    subst (IsExpression (widths_before k n)) (sym (is ∙ ap (λ l. slice_index_or l k e) same)) (wires_at (widths_before 0 n) n.wires k e lt a)

pub wires_so_far : (n : Netlist) (xs : List Expression) (k : ℕ) (e : Expression) → xs ≡ n.wires → e ≡ slice_index_or xs k e → k < length n.wires
    → AreWires (widths_before 0 n) (take k n.wires) → IsExpression (widths_before k n) e → AreWires (widths_before 0 n) (take (k + 1) n.wires)
wires_so_far n xs k e same is lt a h =
    let next : take (suc k) n.wires ≡ take k n.wires ++ (slice_index_or n.wires k e ∷ []) = take-suc n.wires k e lt in
    let it : slice_index_or n.wires k e ≡ e = sym (is ∙ ap (λ l. slice_index_or l k e) same) in
    let up : k + 1 ≡ suc k = omega arith in
    subst (λ l. AreWires (widths_before 0 n) l) (sym (ap (λ m. take m n.wires) up ∙ next ∙ ap (λ x. take k n.wires ++ (x ∷ [])) it))
    (wires_push (widths_before 0 n) (take k n.wires) e a h)

pub no_wires : (n : Netlist) → (AreWires (widths_before 0 n) n.wires → IsTrue false) → IsTrue false ↔ AreWires (widths_before 0 n) n.wires
no_wires n h = ((λ f. absurd (let e : false ≡ true = f in cc)), h)

pub all_wires : (n : Netlist) (xs : List Expression) (k : ℕ) → xs ≡ n.wires → length xs ≤ k → k ≤ length xs
    → AreWires (widths_before 0 n) (take k n.wires) → IsTrue true ↔ AreWires (widths_before 0 n) n.wires
all_wires n xs k same le ge a =
    let many : k ≡ length xs = omega (arith, le, ge) in
    let whole : take k n.wires ≡ n.wires = ap (λ m. take m n.wires) (many ∙ ap (λ l. length l) same) ∙ take-length n.wires in
    ((λ t. subst (AreWires (widths_before 0 n)) whole a), (λ h. refl))
