-- Ints that were worked out by hand.
use Rattle.std.proofs.Common.{◌≡◌, ◌⊎◌, ℕ, ℤ, pos, List, [], ◌∷◌, Contains, Option, Some, None, refl, sym, ap, ◌∙◌, subst, inl, inr, arith}
use Rattle.std.specs.Int.{int_wrap}
use Rattle.opcodes.specs.Instruction.{decoded}
use Rattle.opcodes.specs.Row as opcodes
use Rattle.opcodes.specs.Start.{starts_of}
use Rattle.lists.proofs.Lemmas.{none≢some, some_same, some_is}
use Rattle.lists.specs.Members.{cons_cases, nil_contains, at_head}
use Rattle.bytecode_model.specs.declared.Value.TheVariants.{Int}
use Rattle.bytecode_model.specs.Numbers.{difference, unchanged}
use Rattle.bytecode_model.specs.Types.{IntType, Numbers, t_int}
use Rattle.bytecode_model.specs.Rows as rows
use Rattle.bytecode_model.specs.Rows.{Row}
use Rattle.bytecode_model.specs.Table.{row_of}
use Rattle.bytecode_model.specs.Steps.{row_in}
use Rattle.method_flow.specs.Nodes.{Node, At, RaiseAt, LeadsTo, IsEdge, IsReached}
use Rattle.method_flow.specs.Nodes.IsReached.{first, later}
use Rattle.code_lines.specs.Lines.{IsLine, Names, IsNamed, Writes, written_by}
use Rattle.code_lines.specs.Laws.{OneStandsBefore}
use Rattle.loop_rules.specs.Further.Writing.{NodeWrites, MayBeLast}
use Rattle.loop_rules.specs.Further.Writing.MayBeLast.{here, unwritten, before}
use Rattle.loop_rules.specs.Further.Known.{Pushes, PushesArray, Stores}
use Rattle.loop_rules.specs.Further.Known.Pushes.{constant, local, length, computed}
use Rattle.loop_rules.specs.Further.Known.PushesArray.{numbers, element}
use Rattle.loop_rules.specs.Further.Known.Stores.{stores}
use Rattle.loop_rules.specs.Further.Examples.{WorkedFurtherExamples, sample, nothing}
use Rattle.loop_rules.proofs.FurtherLemmas.Reaching.{reached}

abbrev starts : List ℕ
starts = 0 ∷ 2 ∷ 4 ∷ 5 ∷ 6 ∷ 7 ∷ 8 ∷ 9 ∷ 10 ∷ 11 ∷ 12 ∷ 13 ∷ 14 ∷ []

abbrev IsOne : ℕ → ℕ → Row → Type 0
IsOne p next r = row_in sample 0 p ≡ Some (next, r)

at_0 : IsOne 0 2 (rows.Push (Int (pos 8)))
unfolding decoded opcodes.row_of row_of
at_0 = refl

at_2 : IsOne 2 4 (rows.NewNumbers t_int)
unfolding decoded opcodes.row_of row_of
at_2 = refl

at_4 : IsOne 4 5 (rows.Shuffle rows.Copy rows.One rows.Zero)
unfolding decoded opcodes.row_of row_of
at_4 = refl

at_5 : IsOne 5 6 (rows.Push (Int (pos 0)))
unfolding decoded opcodes.row_of row_of
at_5 = refl

at_6 : IsOne 6 7 (rows.Push (Int (pos 5)))
unfolding decoded opcodes.row_of row_of
at_6 = refl

at_7 : IsOne 7 8 (rows.StoreNumber IntType (t_int ∷ []) unchanged)
unfolding decoded opcodes.row_of row_of
at_7 = refl

at_8 : IsOne 8 9 rows.Length
unfolding decoded opcodes.row_of row_of
at_8 = refl

at_9 : IsOne 9 10 (rows.Push (Int (pos 1)))
unfolding decoded opcodes.row_of row_of
at_9 = refl

at_10 : IsOne 10 11 (rows.Compute (IntType ∷ IntType ∷ []) IntType (λ y x. Some (difference y x)))
unfolding decoded opcodes.row_of row_of
at_10 = refl

at_11 : IsOne 11 12 (rows.Store (Numbers IntType) 1)
unfolding decoded opcodes.row_of row_of
at_11 = refl

at_12 : IsOne 12 13 (rows.Load (Numbers IntType) 1)
unfolding decoded opcodes.row_of row_of
at_12 = refl

at_13 : IsOne 13 14 (rows.Shuffle rows.Drop rows.One rows.Zero)
unfolding decoded opcodes.row_of row_of
at_13 = refl

at_14 : IsOne 14 15 (rows.Return None)
unfolding decoded opcodes.row_of row_of
at_14 = refl

line_at : (p next : ℕ) (r : Row) → Contains starts p → IsOne p next r → IsLine sample 0 p next r
unfolding starts_of decoded opcodes.row_of
line_at p next r c is = record { start = c; is = is }

start_of : (p next : ℕ) (r : Row) → IsLine sample 0 p next r → Contains starts p
unfolding starts_of decoded opcodes.row_of
start_of p next r h = h.start

line_0 : IsLine sample 0 0 2 (rows.Push (Int (pos 8)))
line_0 = line_at 0 2 (rows.Push (Int (pos 8))) (0, omega arith, refl) at_0

line_2 : IsLine sample 0 2 4 (rows.NewNumbers t_int)
line_2 = line_at 2 4 (rows.NewNumbers t_int) (1, omega arith, refl) at_2

line_4 : IsLine sample 0 4 5 (rows.Shuffle rows.Copy rows.One rows.Zero)
line_4 = line_at 4 5 (rows.Shuffle rows.Copy rows.One rows.Zero) (2, omega arith, refl) at_4

line_5 : IsLine sample 0 5 6 (rows.Push (Int (pos 0)))
line_5 = line_at 5 6 (rows.Push (Int (pos 0))) (3, omega arith, refl) at_5

line_6 : IsLine sample 0 6 7 (rows.Push (Int (pos 5)))
line_6 = line_at 6 7 (rows.Push (Int (pos 5))) (4, omega arith, refl) at_6

line_7 : IsLine sample 0 7 8 (rows.StoreNumber IntType (t_int ∷ []) unchanged)
line_7 = line_at 7 8 (rows.StoreNumber IntType (t_int ∷ []) unchanged) (5, omega arith, refl) at_7

line_8 : IsLine sample 0 8 9 rows.Length
line_8 = line_at 8 9 rows.Length (6, omega arith, refl) at_8

line_9 : IsLine sample 0 9 10 (rows.Push (Int (pos 1)))
line_9 = line_at 9 10 (rows.Push (Int (pos 1))) (7, omega arith, refl) at_9

line_10 : IsLine sample 0 10 11 (rows.Compute (IntType ∷ IntType ∷ []) IntType (λ y x. Some (difference y x)))
line_10 = line_at 10 11 (rows.Compute (IntType ∷ IntType ∷ []) IntType (λ y x. Some (difference y x))) (8, omega arith, refl) at_10

line_11 : IsLine sample 0 11 12 (rows.Store (Numbers IntType) 1)
line_11 = line_at 11 12 (rows.Store (Numbers IntType) 1) (9, omega arith, refl) at_11

line_12 : IsLine sample 0 12 13 (rows.Load (Numbers IntType) 1)
line_12 = line_at 12 13 (rows.Load (Numbers IntType) 1) (10, omega arith, refl) at_12

line_13 : IsLine sample 0 13 14 (rows.Shuffle rows.Drop rows.One rows.Zero)
line_13 = line_at 13 14 (rows.Shuffle rows.Drop rows.One rows.Zero) (11, omega arith, refl) at_13

line_14 : IsLine sample 0 14 15 (rows.Return None)
line_14 = line_at 14 15 (rows.Return None) (12, omega arith, refl) at_14

-- what holds of each of them
module _ (K : ℕ → ℕ → Row → Type 0) (k0 : K 0 2 (rows.Push (Int (pos 8)))) (k2 : K 2 4 (rows.NewNumbers t_int)) (k4 : K 4 5 (rows.Shuffle rows.Copy rows.One rows.Zero)) (k5 : K 5 6 (rows.Push (Int (pos 0)))) (k6 : K 6 7 (rows.Push (Int (pos 5)))) (k7 : K 7 8 (rows.StoreNumber IntType (t_int ∷ []) unchanged)) (k8 : K 8 9 (rows.Length)) (k9 : K 9 10 (rows.Push (Int (pos 1)))) (k10 : K 10 11 (rows.Compute (IntType ∷ IntType ∷ []) IntType (λ y x. Some (difference y x)))) (k11 : K 11 12 (rows.Store (Numbers IntType) 1)) (k12 : K 12 13 (rows.Load (Numbers IntType) 1)) (k13 : K 13 14 (rows.Shuffle rows.Drop rows.One rows.Zero)) (k14 : K 14 15 (rows.Return None)) where
  by_row : (q p next there : ℕ) (r s : Row) → q ≡ p → IsLine sample 0 p next r → IsOne q there s → K q there s → K p next r
  by_row q p next there r s same h is k =
      let pair : (there, s) ≡ (next, r) = some_same (there, s) (next, r) (sym is ∙ (ap (row_in sample 0) same ∙ h.is)) in
      let at : K p there s = subst (λ (x : ℕ). K x there s) same k in
      subst (λ (x : ℕ × Row). K p x.0 x.1) pair at

  each : (p next : ℕ) (r : Row) → IsLine sample 0 p next r → K p next r
  each p next r h = by_0 (cons_cases 0 p (2 ∷ 4 ∷ 5 ∷ 6 ∷ 7 ∷ 8 ∷ 9 ∷ 10 ∷ 11 ∷ 12 ∷ 13 ∷ 14 ∷ []) (start_of p next r h))
    where
      by_14 : (14 ≡ p) ⊎ Contains [] p → K p next r
      by_14 (inl e) = by_row 14 p next 15 r (rows.Return None) e h at_14 k14
      by_14 (inr c) = absurd (nil_contains p c)

      by_13 : (13 ≡ p) ⊎ Contains (14 ∷ []) p → K p next r
      by_13 (inl e) = by_row 13 p next 14 r (rows.Shuffle rows.Drop rows.One rows.Zero) e h at_13 k13
      by_13 (inr c) = by_14 (cons_cases 14 p [] c)

      by_12 : (12 ≡ p) ⊎ Contains (13 ∷ 14 ∷ []) p → K p next r
      by_12 (inl e) = by_row 12 p next 13 r (rows.Load (Numbers IntType) 1) e h at_12 k12
      by_12 (inr c) = by_13 (cons_cases 13 p (14 ∷ []) c)

      by_11 : (11 ≡ p) ⊎ Contains (12 ∷ 13 ∷ 14 ∷ []) p → K p next r
      by_11 (inl e) = by_row 11 p next 12 r (rows.Store (Numbers IntType) 1) e h at_11 k11
      by_11 (inr c) = by_12 (cons_cases 12 p (13 ∷ 14 ∷ []) c)

      by_10 : (10 ≡ p) ⊎ Contains (11 ∷ 12 ∷ 13 ∷ 14 ∷ []) p → K p next r
      by_10 (inl e) = by_row 10 p next 11 r (rows.Compute (IntType ∷ IntType ∷ []) IntType (λ y x. Some (difference y x))) e h at_10 k10
      by_10 (inr c) = by_11 (cons_cases 11 p (12 ∷ 13 ∷ 14 ∷ []) c)

      by_9 : (9 ≡ p) ⊎ Contains (10 ∷ 11 ∷ 12 ∷ 13 ∷ 14 ∷ []) p → K p next r
      by_9 (inl e) = by_row 9 p next 10 r (rows.Push (Int (pos 1))) e h at_9 k9
      by_9 (inr c) = by_10 (cons_cases 10 p (11 ∷ 12 ∷ 13 ∷ 14 ∷ []) c)

      by_8 : (8 ≡ p) ⊎ Contains (9 ∷ 10 ∷ 11 ∷ 12 ∷ 13 ∷ 14 ∷ []) p → K p next r
      by_8 (inl e) = by_row 8 p next 9 r (rows.Length) e h at_8 k8
      by_8 (inr c) = by_9 (cons_cases 9 p (10 ∷ 11 ∷ 12 ∷ 13 ∷ 14 ∷ []) c)

      by_7 : (7 ≡ p) ⊎ Contains (8 ∷ 9 ∷ 10 ∷ 11 ∷ 12 ∷ 13 ∷ 14 ∷ []) p → K p next r
      by_7 (inl e) = by_row 7 p next 8 r (rows.StoreNumber IntType (t_int ∷ []) unchanged) e h at_7 k7
      by_7 (inr c) = by_8 (cons_cases 8 p (9 ∷ 10 ∷ 11 ∷ 12 ∷ 13 ∷ 14 ∷ []) c)

      by_6 : (6 ≡ p) ⊎ Contains (7 ∷ 8 ∷ 9 ∷ 10 ∷ 11 ∷ 12 ∷ 13 ∷ 14 ∷ []) p → K p next r
      by_6 (inl e) = by_row 6 p next 7 r (rows.Push (Int (pos 5))) e h at_6 k6
      by_6 (inr c) = by_7 (cons_cases 7 p (8 ∷ 9 ∷ 10 ∷ 11 ∷ 12 ∷ 13 ∷ 14 ∷ []) c)

      by_5 : (5 ≡ p) ⊎ Contains (6 ∷ 7 ∷ 8 ∷ 9 ∷ 10 ∷ 11 ∷ 12 ∷ 13 ∷ 14 ∷ []) p → K p next r
      by_5 (inl e) = by_row 5 p next 6 r (rows.Push (Int (pos 0))) e h at_5 k5
      by_5 (inr c) = by_6 (cons_cases 6 p (7 ∷ 8 ∷ 9 ∷ 10 ∷ 11 ∷ 12 ∷ 13 ∷ 14 ∷ []) c)

      by_4 : (4 ≡ p) ⊎ Contains (5 ∷ 6 ∷ 7 ∷ 8 ∷ 9 ∷ 10 ∷ 11 ∷ 12 ∷ 13 ∷ 14 ∷ []) p → K p next r
      by_4 (inl e) = by_row 4 p next 5 r (rows.Shuffle rows.Copy rows.One rows.Zero) e h at_4 k4
      by_4 (inr c) = by_5 (cons_cases 5 p (6 ∷ 7 ∷ 8 ∷ 9 ∷ 10 ∷ 11 ∷ 12 ∷ 13 ∷ 14 ∷ []) c)

      by_2 : (2 ≡ p) ⊎ Contains (4 ∷ 5 ∷ 6 ∷ 7 ∷ 8 ∷ 9 ∷ 10 ∷ 11 ∷ 12 ∷ 13 ∷ 14 ∷ []) p → K p next r
      by_2 (inl e) = by_row 2 p next 4 r (rows.NewNumbers t_int) e h at_2 k2
      by_2 (inr c) = by_4 (cons_cases 4 p (5 ∷ 6 ∷ 7 ∷ 8 ∷ 9 ∷ 10 ∷ 11 ∷ 12 ∷ 13 ∷ 14 ∷ []) c)

      by_0 : (0 ≡ p) ⊎ Contains (2 ∷ 4 ∷ 5 ∷ 6 ∷ 7 ∷ 8 ∷ 9 ∷ 10 ∷ 11 ∷ 12 ∷ 13 ∷ 14 ∷ []) p → K p next r
      by_0 (inl e) = by_row 0 p next 2 r (rows.Push (Int (pos 8))) e h at_0 k0
      by_0 (inr c) = by_2 (cons_cases 2 p (4 ∷ 5 ∷ 6 ∷ 7 ∷ 8 ∷ 9 ∷ 10 ∷ 11 ∷ 12 ∷ 13 ∷ 14 ∷ []) c)

none_named : (q : ℕ) → IsNamed sample 0 q → ⊥
none_named q (inl (p, next, r, line, names)) = each (λ x n s. Names x s q → ⊥) (λ n. absurd n) (λ n. absurd n) (λ n. absurd n) (λ n. absurd n) (λ n. absurd n) (λ n. absurd n) (λ n. absurd n) (λ n. absurd n) (λ n. absurd n) (λ n. absurd n) (λ n. absurd n) (λ n. absurd n) (λ n. absurd n) p next r line names
none_named q (inr (h, among, target)) = nil_contains h among

-- control stays at the lines
node_at : (p q : ℕ) → At p ≡ At q → p ≡ q
node_at p q e = cc

leads_on : (p next to : ℕ) (r : Row) → IsLine sample 0 p next r → LeadsTo p next r to → Contains starts to
leads_on p next to r line leads = each (λ x n s. (to : ℕ) → LeadsTo x n s to → Contains starts to)
    (λ to leads. subst (Contains starts) (sym leads) (1, omega arith, refl))
    (λ to leads. subst (Contains starts) (sym leads) (2, omega arith, refl))
    (λ to leads. subst (Contains starts) (sym leads) (3, omega arith, refl))
    (λ to leads. subst (Contains starts) (sym leads) (4, omega arith, refl))
    (λ to leads. subst (Contains starts) (sym leads) (5, omega arith, refl))
    (λ to leads. subst (Contains starts) (sym leads) (6, omega arith, refl))
    (λ to leads. subst (Contains starts) (sym leads) (7, omega arith, refl))
    (λ to leads. subst (Contains starts) (sym leads) (8, omega arith, refl))
    (λ to leads. subst (Contains starts) (sym leads) (9, omega arith, refl))
    (λ to leads. subst (Contains starts) (sym leads) (10, omega arith, refl))
    (λ to leads. subst (Contains starts) (sym leads) (11, omega arith, refl))
    (λ to leads. subst (Contains starts) (sym leads) (12, omega arith, refl))
    (λ to leads. absurd leads)
    p next r line to leads

started : {u : Node} → IsReached (IsEdge sample 0) u → (p : ℕ) → u ≡ At p → Contains starts p
started (first) p e = subst (Contains starts) (node_at 0 p e) (0, omega arith, refl)
started (later {u} {v} come edge) p e = by u (started come) (subst (λ (x : Node). IsEdge sample 0 u x) e edge)
  where
    by : (u : Node) → ((q : ℕ) → u ≡ At q → Contains starts q) → IsEdge sample 0 u (At p) → Contains starts p
    by (At q) there leads =
        let row = some_is (row_in sample 0 q) (λ (x : ℕ × Row). LeadsTo q x.0 x.1 p) leads in
        leads_on q row.0.0 p row.0.1 (line_at q row.0.0 row.0.1 (there q refl) row.1) row.2
    by (RaiseAt q) there leads = absurd (nil_contains leads.entry leads.among)

-- the last write of local variable 1
at_store : {u : Node} {w : Option ℕ} → MayBeLast sample 0 1 u w → u ≡ At 11 → w ≡ Some 11
at_store (here {p} come writes) e = ap Some (node_at p 11 e)
at_store (unwritten none) e = let same = node_at 0 11 e in absurd (omega arith)
at_store (before {u} {v} {w} last edge none) e =
    absurd (none (subst (λ (x : Node). NodeWrites sample 0 x 1) (sym e) (12, rows.Store (Numbers IntType) 1, line_11, at_head 1 [])))

quiet : Writes sample 0 12 1 → ⊥
quiet (next, r, line, has) = each (λ x n s. x ≡ 12 → Contains (written_by s) 1 → ⊥)
    (λ e has. nil_contains 1 has) (λ e has. nil_contains 1 has) (λ e has. nil_contains 1 has) (λ e has. nil_contains 1 has) (λ e has. nil_contains 1 has) (λ e has. nil_contains 1 has) (λ e has. nil_contains 1 has) (λ e has. nil_contains 1 has) (λ e has. nil_contains 1 has) (λ e has. absurd (omega arith)) (λ e has. nil_contains 1 has) (λ e has. nil_contains 1 has) (λ e has. nil_contains 1 has)
    12 next r line refl has

at_load : OneStandsBefore → {u : Node} {w : Option ℕ} → MayBeLast sample 0 1 u w → u ≡ At 12 → w ≡ Some 11
at_load stands (here {p} come writes) e = absurd (quiet (subst (λ (x : ℕ). Writes sample 0 x 1) (node_at p 12 e) writes))
at_load stands (unwritten none) e = let same = node_at 0 12 e in absurd (omega arith)
at_load stands (before {u} {v} {w} last edge none) e = by u last (subst (λ (x : Node). IsEdge sample 0 u x) e edge)
  where
    by : (u : Node) → MayBeLast sample 0 1 u w → IsEdge sample 0 u (At 12) → w ≡ Some 11
    by (At q) last leads =
        let row = some_is (row_in sample 0 q) (λ (x : ℕ × Row). LeadsTo q x.0 x.1 12) leads in
        let line : IsLine sample 0 q row.0.0 row.0.1 = line_at q row.0.0 row.0.1 (started (reached last) q refl) row.1 in
        let next : 12 ≡ row.0.0 = each (λ x n s. LeadsTo x n s 12 → 12 ≡ n) (λ leads. leads) (λ leads. leads) (λ leads. leads) (λ leads. leads) (λ leads. leads) (λ leads. leads) (λ leads. leads) (λ leads. leads) (λ leads. leads) (λ leads. leads) (λ leads. leads) (λ leads. leads) (λ leads. absurd leads) q row.0.0 row.0.1 line row.2 in
        let same : q ≡ 11 = stands sample 0 q 11 12 row.0.1 (rows.Store (Numbers IntType) 1) (subst (λ (n : ℕ). IsLine sample 0 q n row.0.1) (sym next) line) line_11 in
        at_store last (ap At same)
    by (RaiseAt q) last leads = absurd (nil_contains leads.entry leads.among)

-- ---- the rows

array : PushesArray sample nothing 0 0 4 8
array = numbers (constant line_0) line_2 (none_named 2)

filled : PushesArray sample nothing 0 0 8 8
filled = element array line_4 line_5 line_6 line_7 (none_named 4) (none_named 5) (none_named 6) (none_named 7)

elements : Pushes sample nothing 0 0 9 (pos 8)
elements = length filled line_8 (none_named 8)

less : Pushes sample nothing 0 0 11 (pos 7)
unfolding int_wrap
less = computed elements (constant line_9) line_10 (none_named 9) (none_named 10) refl

stored : Stores sample nothing 0 1 (Some 11) (pos 7)
stored = stores less line_11 (none_named 11)

loaded : OneStandsBefore → Pushes sample nothing 0 12 13 (pos 7)
loaded stands = local line_12 (λ w last. subst (λ (x : Option ℕ). Stores sample nothing 0 1 x (pos 7)) (sym (at_load stands last refl)) stored)

unset : (o : Option ℕ) (c : ℤ) → o ≡ None → Stores sample nothing 0 1 o c → ⊥
unset o c e (stores {w} push line unnamed) = none≢some w (sym e)

pub worked : OneStandsBefore → WorkedFurtherExamples
worked stands = record {
  pushed = constant line_0;
  array = array;
  filled = filled;
  length = elements;
  less = less;
  stored = stored;
  loaded = loaded stands;
  unset = λ c h. unset None c refl h;
}
