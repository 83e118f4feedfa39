-- Lines that end at a place push one int, or one length of arrays.
use Rattle.std.proofs.Common.{◌≡◌, ℕ, ℤ, pos, Option, Some, sym, ap, ◌∙◌, subst}
use Rattle.std.specs.Int.{w32, int_wrap}
use Rattle.lists.proofs.Lemmas.{some_same}
use Rattle.bytecode_model.specs.Program.{Program}
use Rattle.bytecode_model.specs.Rows as rows
use Rattle.bytecode_model.specs.Rows.{Row}
use Rattle.method_flow.specs.Nodes.{At, IsEdge, IsReached}
use Rattle.code_lines.specs.Lines.{IsLine, IsNamed}
use Rattle.code_lines.specs.Laws.{LinesAreOne, LinesAreApart, OneStandsBefore}
use Rattle.loop_rules.specs.Further.Writing.{MayBeLast}
use Rattle.loop_rules.specs.Further.Known.{Known, Pushes, PushesArray, Stores, StoresArray}
use Rattle.loop_rules.specs.Further.Known.Pushes.{constant, field, local, length, computed}
use Rattle.loop_rules.specs.Further.Known.PushesArray.{numbers, references, of_static, of_instance, of_local, element}
use Rattle.loop_rules.specs.Further.Known.Stores.{stores}
use Rattle.loop_rules.specs.Further.Known.StoresArray.{keeps}
use Rattle.loop_rules.specs.Further.Laws.{StaysAtStarts, PushedAreOne, ArraysAreOne, FirstLinesAreReached}
use Rattle.loop_rules.proofs.FurtherLemmas.Reaching.{last_writes_write}
use Rattle.loop_rules.proofs.FurtherLemmas.Coming.{came, last_of}
use Rattle.loop_rules.proofs.FurtherLemmas.Ending.{ends_at, ends_array_at, stored, kept}

pos_same : (n l : ℕ) → pos n ≡ pos l → n ≡ l
pos_same n l e = cc

module _ (one : LinesAreOne) (apart : LinesAreApart) (stands : OneStandsBefore) (P : Program) (known : Known) (m : ℕ) (stays : StaysAtStarts P m) where
  abbrev Reached : ℕ → Type 0
  Reached p = IsReached (IsEdge P m) (At p)

  comes : {p q : ℕ} {r : Row} → IsLine P m p q r → (¬ IsNamed P m q) → Reached q → Reached p
  comes {p} {q} {r} line unnamed come = came apart stands P m stays p q r line unnamed come

  mutual
    int_one : {from to : ℕ} {c : ℤ} → Pushes P known m from to c → Reached to → (¬ IsNamed P m to) → (other : ℕ) (d : ℤ) → Pushes P known m other to d
        → (from ≡ other) × (c ≡ d) × Reached from
    int_one (constant line) come alone other d pushes = let e = ends_at one stands line pushes in (sym e.0, sym e.1, comes line alone come)
    int_one (field {c} line is never) come alone other d pushes =
        let e = ends_at one stands line pushes in (sym e.0, some_same c d (sym is ∙ e.1), comes line alone come)
    int_one (local {k} line writes) come alone other d pushes =
        let e = ends_at one stands line pushes in
        let here = comes line alone come in
        let last = last_of k stays here in
        (sym e.0, store_one (writes last.0 last.1) last.1 d (e.1 last.0 last.1), here)
    int_one (length array line unnamed) come alone other d pushes =
        let e = ends_at one stands line pushes in
        let a = array_one array (comes line alone come) unnamed other e.0 e.2 in
        (a.0, ap pos a.1 ∙ sym e.1, a.2)
    int_one (computed {from} {second} {p} {next} {x} {y} {z} {compute} lower upper line second_unnamed unnamed is) come alone other d pushes =
        let e = ends_at one stands line pushes in
        let b = int_one upper (comes line alone come) unnamed e.second e.y e.upper in
        let a = int_one lower b.2 second_unnamed other e.x (subst (λ (s : ℕ). Pushes P known m other s e.x) (sym b.0) e.lower) in
        let same : Some z ≡ Some e.z = sym is ∙ (ap (λ (v : ℤ). compute v x) b.1 ∙ (ap (compute e.y) a.1 ∙ e.is)) in
        (a.0, ap (int_wrap w32) (some_same z e.z same) ∙ sym e.wraps, a.2)

    array_one : {from to n : ℕ} → PushesArray P known m from to n → Reached to → (¬ IsNamed P m to) → (other l : ℕ) → PushesArray P known m other to l
        → (from ≡ other) × (n ≡ l) × Reached from
    array_one (numbers {n} pushes line unnamed) come alone other l array =
        let e = ends_array_at one stands line array in
        let a = int_one pushes (comes line alone come) unnamed other (pos l) e in
        (a.0, pos_same n l a.1, a.2)
    array_one (references {n} pushes line unnamed) come alone other l array =
        let e = ends_array_at one stands line array in
        let a = int_one pushes (comes line alone come) unnamed other (pos l) e in
        (a.0, pos_same n l a.1, a.2)
    array_one (of_static {n} line is) come alone other l array =
        let e = ends_array_at one stands line array in (sym e.0, some_same n l (sym is ∙ e.1), comes line alone come)
    array_one (of_instance {from} {p} {k} {n} load line unnamed is) come alone other l array =
        let e = ends_array_at one stands line array in
        (stands P m from other p (rows.Load _ k) _ load e.1, some_same n l (sym is ∙ e.2), comes load unnamed (comes line alone come))
    array_one (of_local {k} line writes) come alone other l array =
        let e = ends_array_at one stands line array in
        let here = comes line alone come in
        let last = last_of k stays here in
        (sym e.0, keep_one (writes last.0 last.1) last.1 l (e.1 last.0 last.1), here)
    array_one (element {from} {copy} {index} {value} {store} array copies at of line copy_unnamed index_unnamed value_unnamed unnamed) come alone other l arrays =
        let e = ends_array_at one stands line arrays in
        let v : e.value ≡ value = stands P m e.value value store _ _ e.of of in
        let i : e.index ≡ index = stands P m e.index index value _ _ (subst (λ (q : ℕ). IsLine P m e.index q (rows.Push e.i)) v e.at) at in
        let c : e.copy ≡ copy = stands P m e.copy copy index _ _ (subst (λ (q : ℕ). IsLine P m e.copy q (rows.Shuffle rows.Copy rows.One rows.Zero)) i e.copies) copies in
        let come_copy = comes copies index_unnamed (comes at value_unnamed (comes of unnamed (comes line alone come))) in
        array_one array come_copy copy_unnamed other l (subst (λ (q : ℕ). PushesArray P known m other q l) c e.array)

    store_one : {k : ℕ} {w : Option ℕ} {c : ℤ} → Stores P known m k w c → {p : ℕ} → MayBeLast P m k (At p) w → (d : ℤ) → Stores P known m k w d → c ≡ d
    store_one (stores {k} {from} {w} pushes line unnamed) {p} last d other =
        let come = (last_writes_write P m k w (At p) last).0 in
        let o = stored other in
        (int_one pushes come unnamed o.0 d o.1).1

    keep_one : {k n : ℕ} {w : Option ℕ} → StoresArray P known m k w n → {p : ℕ} → MayBeLast P m k (At p) w → (l : ℕ) → StoresArray P known m k w l → n ≡ l
    keep_one (keeps {k} {from} {w} pushes line unnamed) {p} last l other =
        let come = (last_writes_write P m k w (At p) last).0 in
        let o = kept other in
        (array_one pushes come unnamed o.0 l o.1).1

pub pushed_are_one : LinesAreOne → LinesAreApart → OneStandsBefore → PushedAreOne
pushed_are_one one apart stands P known m from other to c d at first second =
    let h = int_one one apart stands P known m at.stays first at.reached at.unnamed other d second in (h.0, h.1)

pub arrays_are_one : LinesAreOne → LinesAreApart → OneStandsBefore → ArraysAreOne
arrays_are_one one apart stands P known m from other to n l at first second =
    let h = array_one one apart stands P known m at.stays first at.reached at.unnamed other l second in (h.0, h.1)

pub first_lines_are_reached : LinesAreOne → LinesAreApart → OneStandsBefore → FirstLinesAreReached
first_lines_are_reached one apart stands P known m from to c at pushes = (int_one one apart stands P known m at.stays pushes at.reached at.unnamed from c pushes).2
