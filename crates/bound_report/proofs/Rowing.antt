-- Rows that are added one behind the other, and sums.
use Rattle.std.proofs.Common.{◌≡◌, ℕ, zero, suc, ◌+◌, ◌*◌, ◌^◌, ◌<◌, ◌≤◌, Bool, List, [], ◌∷◌, ◌++◌, length, map, filter, take, get_or, refl, sym, ap, ap₂, ◌∙◌, subst, inl, inr, arith}
use Rattle.std.specs.Prelude.{◌⊎◌, nat_lt}
use Rattle.std.specs.List.{flat_map}
use Rattle.std.proofs.lemmas.Bool.{cond_below, cond_above}
use Rattle.std.proofs.lemmas.Grind.{flat_map-append}
use Rattle.std.proofs.lemmas.List.{append_assoc, append-nil, take_more, map_push, length-take-le}
use Rattle.std.proofs.lemmas.List.Elements.{filter-append}
use Rattle.bound_report.specs.declared.counts.NodeCount.{NodeCount}
use Rattle.bound_report.specs.declared.counts.MethodCounts.{MethodCounts}
use Rattle.bound_report.specs.declared.contents.rows.ReportRow.{ReportRow}
use Rattle.bound_report.specs.Report.{row_of, rows_of, products}
use Rattle.bound_report.specs.Rows.{AddsRows}

abbrev is_visited : ReportRow → Bool
is_visited r = nat_lt 0 r.visits

pub row_kept : (r : ReportRow) (old new : List ReportRow) → 0 < r.visits → new ≡ old ++ r ∷ [] → AddsRows (r ∷ []) old new
row_kept r old new some is = is ∙ ap (λ (rs : List ReportRow). old ++ rs) (cond_below 0 r.visits (r ∷ []) [] some)

pub row_dropped : (r : ReportRow) (old : List ReportRow) → r.visits ≤ 0 → AddsRows (r ∷ []) old old
row_dropped r old none = sym (append-nil old) ∙ ap (λ (rs : List ReportRow). old ++ rs) (cond_above 0 r.visits (r ∷ []) [] [] none refl)

pub rows_none : (old : List ReportRow) → AddsRows [] old old
rows_none old = sym (append-nil old)

pub rows_join : (xs ys old mid new : List ReportRow) → AddsRows xs old mid → AddsRows ys mid new → AddsRows (xs ++ ys) old new
rows_join xs ys old mid new first later =
    later ∙ (ap (λ (rs : List ReportRow). rs ++ filter is_visited ys) first
    ∙ (append_assoc old (filter is_visited xs) (filter is_visited ys) ∙ ap (λ (rs : List ReportRow). old ++ rs) (sym (filter-append is_visited xs ys))))

-- one node more of a method
pub rows_more : (k : MethodCounts) (cs : List NodeCount) (i : ℕ) (c d : NodeCount) (r : ReportRow) (old mid new : List ReportRow) → i < length cs → c ≡ get_or cs i d → r ≡ row_of k c → AddsRows (map (row_of k) (take i cs)) old mid
    → AddsRows (r ∷ []) mid new → AddsRows (map (row_of k) (take (i + 1) cs)) old new
rows_more k cs i c d r old mid new lt is made before one =
    let here : map (row_of k) (take (i + 1) cs) ≡ map (row_of k) (take i cs) ++ r ∷ [] =
    ap (map (row_of k)) (take_more cs i d lt) ∙ (map_push (row_of k) (take i cs) (get_or cs i d) ∙ ap (λ (x : ReportRow). map (row_of k) (take i cs) ++ x ∷ []) (sym (made ∙ ap (row_of k) is)))
    in
    subst (λ (rs : List ReportRow). AddsRows rs old new) (sym here) (rows_join (map (row_of k) (take i cs)) (r ∷ []) old mid new before one)

-- one method more
abbrev rows_in : MethodCounts → List ReportRow
rows_in k = map (row_of k) k.nodes.items

pub methods_more : (ks : List MethodCounts) (i : ℕ) (k d : MethodCounts) (mid new : List ReportRow) → i < length ks → k ≡ get_or ks i d → mid ≡ rows_of (take i ks) → AddsRows (map (row_of k) k.nodes.items) mid new → new ≡ rows_of (take (i + 1) ks)
methods_more ks i k d mid new lt is before more =
    let here : flat_map rows_in (take (i + 1) ks) ≡ flat_map rows_in (take i ks) ++ rows_in k =
    ap (flat_map rows_in) (take_more ks i d lt ∙ ap (λ (x : MethodCounts). take i ks ++ x ∷ []) (sym is))
    ∙ (flat_map-append rows_in (take i ks) (k ∷ []) ∙ ap (λ (rs : List ReportRow). flat_map rows_in (take i ks) ++ rs) (append-nil (rows_in k)))
    in
    more ∙ (ap (λ (rs : List ReportRow). rs ++ filter is_visited (rows_in k)) before
    ∙ (sym (filter-append is_visited (flat_map rows_in (take i ks)) (rows_in k)) ∙ ap (filter is_visited) (sym here)))

-- ---- products

pub products_more : (xs ys : List ℕ) (i : ℕ) → i < length xs → i < length ys → products (take (i + 1) xs) (take (i + 1) ys) ≡ products (take i xs) (take i ys) + get_or xs i 0 * get_or ys i 0
products_more xs ys i lx ly = ap₂ (λ (a b : List ℕ). products a b) (take_more xs i 0 lx) (take_more ys i 0 ly) ∙ snoc (take i xs) (take i ys) (get_or xs i 0) (get_or ys i 0) (length-take-le i xs (omega arith) ∙ sym (length-take-le i ys (omega arith)))
  where
    snoc : (us vs : List ℕ) (a b : ℕ) → length us ≡ length vs → products (us ++ a ∷ []) (vs ++ b ∷ []) ≡ products us vs + a * b
    snoc [] [] a b long = omega arith
    snoc [] (y ∷ vs) a b long = absurd (omega arith)
    snoc (x ∷ us) [] a b long = absurd (omega arith)
    snoc (x ∷ us) (y ∷ vs) a b long = let rest = snoc us vs a b (omega arith) in omega arith

pub products_all : (xs ys : List ℕ) (i : ℕ) → length xs ≤ i ⊎ length ys ≤ i → products (take i xs) (take i ys) ≡ products xs ys
products_all [] ys i all = refl' i
  where
    refl' : (i : ℕ) → products (take i []) (take i ys) ≡ 0
    refl' zero = refl
    refl' (suc j) = refl
products_all (x ∷ xs) [] i all = stopped i
  where
    stopped : (i : ℕ) → products (take i (x ∷ xs)) (take i []) ≡ 0
    stopped zero = refl
    stopped (suc j) = refl
products_all (x ∷ xs) (y ∷ ys) zero all = absurd (elim all [ inl l ↦ (let e : ⊥ = omega arith in e) | inr l ↦ (let e : ⊥ = omega arith in e) ])
products_all (x ∷ xs) (y ∷ ys) (suc i) all =
    let rest : length xs ≤ i ⊎ length ys ≤ i = elim all [ inl l ↦ inl (omega arith) | inr l ↦ inr (omega arith) ] in
    ap (λ (n : ℕ). x * y + n) (products_all xs ys i rest)

-- ---- products that may be cut off

pub loads_are : (times p q a b s r : ℕ) → times * (p + q) < 2 ^ 128 → (p < 2 ^ 128 → a ≡ p) → (q < 2 ^ 128 → b ≡ q) → (a + b < 2 ^ 128 → s ≡ a + b) → (times * s < 2 ^ 128 → r ≡ times * s) → r ≡ times * (p + q)
loads_are zero p q a b s r small first second sum product = product (omega arith) ∙ omega arith
loads_are (suc t) p q a b s r small first second sum product =
    let left = first (omega arith) in
    let right = second (omega arith) in
    let total : s ≡ p + q = sum (omega arith) ∙ omega arith in
    let same : suc t * s ≡ suc t * (p + q) = ap (λ (n : ℕ). suc t * n) total in
    product (omega arith) ∙ same
