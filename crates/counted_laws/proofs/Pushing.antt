-- What lines push, and what local variables hold, in a frame that was made since: as is known of it.
use Rattle.std.proofs.Common.{◌≡◌, ◌⊎◌, ℕ, false, ℤ, List, [], ◌∷◌, Contains, Option, Some, None, refl, sym, ap, ◌∙◌, subst, inl, inr}
use Rattle.lists.proofs.Lemmas.{none≢some, some_same}
use Rattle.lists.specs.Members.{heads, has_or_not}
use Rattle.bytecode_model.specs.declared.Value.{Value}
use Rattle.bytecode_model.specs.declared.Value.TheVariants.{Int, Long, Ref, Null, Unset}
use Rattle.bytecode_model.specs.Types.{IntType, Numbers, References, is_long}
use Rattle.bytecode_model.specs.Program.{Program}
use Rattle.bytecode_model.specs.Rows as rows
use Rattle.bytecode_model.specs.Rows.{Row}
use Rattle.bytecode_model.specs.Steps.{row_in}
use Rattle.loop_nest.specs.Digraph.{Digraph}
use Rattle.loop_nest.specs.Walks.{IsEntering}
use Rattle.method_flow.specs.Nodes.{Node, At, RaiseAt, number_of, IsEdge, IsReached}
use Rattle.code_lines.specs.Lines.{IsLine, IsNamed, Writes, written_by}
use Rattle.code_lines.specs.Laws.{LinesAreOne, LinesAreApart, OneStandsBefore}
use Rattle.loop_rules.specs.Further.Writing.{NodeWrites, MayBeLast}
use Rattle.loop_rules.specs.Further.Writing.MayBeLast.{here as last_here, unwritten, before as last_before}
use Rattle.loop_rules.specs.Further.Known.{Known, Pushes, PushesArray, Stores, StoresArray}
use Rattle.loop_rules.specs.Further.Known.Pushes.{constant, field, local, length, computed}
use Rattle.loop_rules.specs.Further.Known.PushesArray.{numbers, references, of_static, of_instance, of_local, element}
use Rattle.loop_rules.specs.Further.Known.Stores.{stores}
use Rattle.loop_rules.specs.Further.Known.StoresArray.{keeps}
use Rattle.loop_rules.specs.Further.Fields.{PutsArray}
use Rattle.loop_rules.specs.Further.Beginning.{BeginsAt}
use Rattle.counted_laws.specs.Visits.{Visit, HoldsValue, HoldsInt, IsArrayOf, Grows, Passes, Path}
use Rattle.counted_laws.specs.Visits.Path.{here, more}
use Rattle.counted_laws.proofs.Lengths.{then_grows, still_array}
use Rattle.counted_laws.proofs.Visiting.{no_writes, Before, came_from, LimitsLie, Came, came_by, came_before, came_through, reached}

array_short : (ls : List ℕ) (n : ℕ) (v : Value) → IsArrayOf ls n v → is_long v ≡ false
array_short ls n (Int x) h = absurd h
array_short ls n (Long x) h = absurd h
array_short ls n (Ref p) h = refl
array_short ls n Null h = refl
array_short ls n Unset h = absurd h

module _ (one : LinesAreOne) (apart : LinesAreApart) (before : OneStandsBefore) (P : Program) (known : Known) (m : ℕ) where
  -- ---- the last write

  -- whether the instruction that was visited writes the local variable
  writes_or_not : (a b : Visit) → Passes P known m a b → (k : ℕ) → ((q : ℕ) × (a.node ≡ At q) × Writes P m q k) ⊎ (NodeWrites P m a.node k → ⊥)
  writes_or_not a b passes k = by a.node refl
    where
      of_row : (q : ℕ) → a.node ≡ At q → (o : Option (ℕ × Row)) → row_in P m q ≡ o → ((q : ℕ) × (a.node ≡ At q) × Writes P m q k) ⊎ (Writes P m q k → ⊥)
      of_row q at None is = inr (λ w. none≢some (w.0, w.1) (sym is ∙ w.2.is))
      of_row q at (Some x) is =
          let line : IsLine P m q x.0 x.1 = record { start = passes.start q at; is = is } in
          elim (has_or_not (written_by x.1) k) [
            | inl has ↦ inl (q, at, (x.0, x.1, line, has))
            | inr none ↦ inr (λ w. none (subst (λ (r : Row). Contains (written_by r) k) (one P m q w.0 x.0 w.1 x.1 w.2 line).1 w.3))
          ]

      by : (u : Node) → a.node ≡ u → ((q : ℕ) × (a.node ≡ At q) × Writes P m q k) ⊎ (NodeWrites P m a.node k → ⊥)
      by (At q) at =
          elim (of_row q at (row_in P m q) refl) [
            | inl found ↦ inl found
            | inr none ↦ inr (λ w. none (subst (λ (u : Node). NodeWrites P m u k) at w))
          ]
      by (RaiseAt q) at = inr (λ w. subst (λ (u : Node). NodeWrites P m u k) at w)

  module _ (w : Visit) (begins : w.node ≡ At 0) where
    -- since the local variable was written at the place, it holds what it held
    pub record Since (z : Visit) (k q : ℕ) : Type 0 where
      pub writer : Visit
      pub behind : Visit
      pub nodes : List ℕ
      pub path : Path P known m w writer nodes
      pub at : writer.node ≡ At q
      pub passes : Passes P known m writer behind
      pub holds : (v : Value) → is_long v ≡ false → HoldsValue behind.locals k v → HoldsValue z.locals k v
      pub grows : Grows behind.lengths z.lengths

    abbrev SinceOf : Visit → ℕ → Option ℕ → Type 0
    SinceOf z k None = Unit {0}
    SinceOf z k (Some q) = Since z k q

    -- which write is the last one before the visit behind
    abbrev Last : (y z : Visit) → ℕ → Type 0
    Last y z k = (q : Option ℕ) × MayBeLast P m k y.node q × SinceOf z k q

    since_more : (y z : Visit) (k : ℕ) (q : Option ℕ) → SinceOf y k q → Passes P known m y z → (NodeWrites P m y.node k → ⊥) → SinceOf z k q
    since_more y z k None h passes none = tt
    since_more y z k (Some q) h passes none = record {
      writer = h.writer;
      behind = h.behind;
      nodes = h.nodes;
      path = h.path;
      at = h.at;
      passes = h.passes;
      holds = λ v short held. passes.keeps k v short (h.holds v short held) (λ p is writes. none (subst (λ (u : Node). NodeWrites P m u k) (sym is) writes));
      grows = then_grows h.behind.lengths y.lengths z.lengths h.grows passes.grows;
    }

    since_now : (y z : Visit) (ns : List ℕ) (k q : ℕ) → Path P known m w y ns → Passes P known m y z → y.node ≡ At q → Writes P m q k → Last y z k
    since_now y z ns k q path passes at writes = (
      Some q,
      subst (λ (u : Node). MayBeLast P m k u (Some q)) (sym at) (last_here (subst (λ (u : Node). IsReached (IsEdge P m) u) at (reached begins path)) writes),
      record { writer = y; behind = z; nodes = ns; path = path; at = at; passes = passes; holds = λ v short held. held; grows = λ p n is. is },
    )

    pub last_write : (y z : Visit) (ns : List ℕ) (k : ℕ) → Path P known m w y ns → Passes P known m y z → Last y z k
    last_write y z ns k (here) passes =
        elim (writes_or_not y z passes k) [
          | inl found ↦ since_now y z ns k found.0 here passes found.1 found.2
          | inr none ↦ (None, subst (λ (u : Node). MayBeLast P m k u None) (sym begins) (unwritten (subst (λ (u : Node). NodeWrites P m u k → ⊥) begins none)), tt)
        ]
    last_write y z ns k (more {b} {ns = ms} path passes') passes =
        elim (writes_or_not y z passes k) [
          | inl found ↦ since_now y z ns k found.0 (more path passes') passes found.1 found.2
          | inr none ↦ let l = last_write b y ms k path passes' in (l.0, last_before l.1 passes'.edge none, since_more y z k l.0 l.2 passes none)
        ]

    -- ---- what is known

    -- the lines push the int
    abbrev IntOnTop : (from to : ℕ) → ℤ → Type 0
    IntOnTop from to c = (z : Visit) (ns : List ℕ) → Path P known m w z ns → z.node ≡ At to → (IsNamed P m to → ⊥) → (y : Came one apart before P known m w z from) × (z.operands ≡ Int c ∷ y.visit.operands)

    -- they push null or such an array
    abbrev ArrayOnTop : (from to : ℕ) → ℕ → Type 0
    ArrayOnTop from to n = (z : Visit) (ns : List ℕ) → Path P known m w z ns → z.node ≡ At to → (IsNamed P m to → ⊥)
        → (y : Came one apart before P known m w z from) × (v : Value) × (z.operands ≡ v ∷ y.visit.operands) × IsArrayOf z.lengths n v

    -- behind the instruction at the place the local variable holds the int
    abbrev IntStored : (k : ℕ) → Option ℕ → ℤ → Type 0
    IntStored k o c = (q : ℕ) → o ≡ Some q → (y z : Visit) (ns : List ℕ) → Path P known m w y ns → y.node ≡ At q → Passes P known m y z → HoldsInt z.locals k c

    abbrev ArrayStored : (k : ℕ) → Option ℕ → ℕ → Type 0
    ArrayStored k o n = (q : ℕ) → o ≡ Some q → (y z : Visit) (ns : List ℕ) → Path P known m w y ns → y.node ≡ At q → Passes P known m y z → (v : Value) × HoldsValue z.locals k v × IsArrayOf z.lengths n v

    -- the local variable holds what each of the writes that may be the last stores, at a visit of an instruction that doesn't write it
    int_held : (y : Visit) (ns : List ℕ) (k p : ℕ) (c : ℤ) → Path P known m w y ns → y.node ≡ At p → (Writes P m p k → ⊥)
        → ((o : Option ℕ) → MayBeLast P m k (At p) o → Stores P known m k o c × IntStored k o c) → HoldsInt y.locals k c
    int_held y ns k p c (here) at quiet each =
        let none : NodeWrites P m (At 0) k → ⊥ = λ x. quiet (subst (λ (u : Node). NodeWrites P m u k) (sym begins ∙ at) x) in
        let h = each None (subst (λ (u : Node). MayBeLast P m k u None) (sym begins ∙ at) (unwritten none)) in
        no_store k c h.0
      where
        no_store : (k : ℕ) (c : ℤ) → Stores P known m k None c → HoldsInt y.locals k c
        no_store k c x = absurd (never None refl x)
          where
            never : (o : Option ℕ) → o ≡ None → Stores P known m k o c → ⊥
            never o e (stores {w = q} push line unnamed) = none≢some q (sym e)
    int_held y ns k p c (more {b} {ns = ms} path passes) at quiet each =
        let l = last_write b y ms k path passes in
        let last : MayBeLast P m k (At p) l.0 = last_before l.1 (subst (λ (u : Node). IsEdge P m b.node u) at passes.edge) quiet in
        by l.0 last l.2
      where
        by : (o : Option ℕ) → MayBeLast P m k (At p) o → SinceOf y k o → HoldsInt y.locals k c
        by None last since = absurd (never None refl (each None last).0)
          where
            never : (o : Option ℕ) → o ≡ None → Stores P known m k o c → ⊥
            never o e (stores {w = q} push line unnamed) = none≢some q (sym e)
        by (Some q) last since = since.holds (Int c) refl ((each (Some q) last).1 q refl since.writer since.behind since.nodes since.path since.at since.passes)

    array_held : (y : Visit) (ns : List ℕ) (k p n : ℕ) → Path P known m w y ns → y.node ≡ At p → (Writes P m p k → ⊥)
        → ((o : Option ℕ) → MayBeLast P m k (At p) o → StoresArray P known m k o n × ArrayStored k o n) → (v : Value) × HoldsValue y.locals k v × IsArrayOf y.lengths n v
    array_held y ns k p n (here) at quiet each =
        let none : NodeWrites P m (At 0) k → ⊥ = λ x. quiet (subst (λ (u : Node). NodeWrites P m u k) (sym begins ∙ at) x) in
        let h = each None (subst (λ (u : Node). MayBeLast P m k u None) (sym begins ∙ at) (unwritten none)) in
        absurd (never None refl h.0)
      where
        never : (o : Option ℕ) → o ≡ None → StoresArray P known m k o n → ⊥
        never o e (keeps {w = q} push line unnamed) = none≢some q (sym e)
    array_held y ns k p n (more {b} {ns = ms} path passes) at quiet each =
        let l = last_write b y ms k path passes in
        let last : MayBeLast P m k (At p) l.0 = last_before l.1 (subst (λ (u : Node). IsEdge P m b.node u) at passes.edge) quiet in
        by l.0 last l.2
      where
        by : (o : Option ℕ) → MayBeLast P m k (At p) o → SinceOf y k o → (v : Value) × HoldsValue y.locals k v × IsArrayOf y.lengths n v
        by None last since = absurd (never None refl (each None last).0)
          where
            never : (o : Option ℕ) → o ≡ None → StoresArray P known m k o n → ⊥
            never o e (keeps {w = q} push line unnamed) = none≢some q (sym e)
        by (Some q) last since =
            let x = (each (Some q) last).1 q refl since.writer since.behind since.nodes since.path since.at since.passes in
            (x.0, since.holds x.0 (array_short since.behind.lengths n x.0 x.2) x.1, still_array since.behind.lengths y.lengths since.grows n x.0 x.2)

    int_same : (x y : ℤ) → ◌≡◌ {A = Option Value} (Some (Int x)) (Some (Int y)) → x ≡ y
    int_same x y e = let same = some_same (Int x) (Int y) e in int_of same
      where
        int_of : Int x ≡ Int y → x ≡ y
        int_of e' = cc

    -- the visit of the line directly before
    abbrev line_before : (z : Visit) (ns : List ℕ) → Path P known m w z ns → (p q : ℕ) (r : Row) → IsLine P m p q r → (IsNamed P m q → ⊥) → z.node ≡ At q → Before one apart before P known m w z p
    line_before z ns path p q r line unnamed at = came_from one apart before P known m w z ns begins path p q r line unnamed at

    abbrev by_line : (z : Visit) (p next : ℕ) (r : Row) → Before one apart before P known m w z p → IsLine P m p next r → written_by r ≡ [] → Came one apart before P known m w z p
    by_line z p next r b line none = came_by one apart before P known m w b.visit z b.nodes p next r b.path b.passes b.at line none

    abbrev and_line : (z : Visit) (from p next : ℕ) (r : Row) (b : Before one apart before P known m w z p) → Came one apart before P known m w b.visit from → IsLine P m p next r → written_by r ≡ [] → Came one apart before P known m w z from
    and_line z from p next r b came line none = came_before one apart before P known m w b.visit z from p next r came b.passes b.at line none

    mutual
      push_lies : {from to : ℕ} {c : ℤ} → Pushes P known m from to c → IntOnTop from to c
      push_lies (constant {p} {next} {c} line) z ns path at unnamed =
          let b = line_before z ns path p next (rows.Push (Int c)) line unnamed at in
          let did = b.passes.does p next (rows.Push (Int c)) b.at line.is in
          (by_line z p next (rows.Push (Int c)) b line refl, did.1)
      push_lies (field {p} {next} {f} {c} line is never) z ns path at unnamed =
          let b = line_before z ns path p next (rows.GetStatic f) line unnamed at in
          let did = (b.passes.does p next (rows.GetStatic f) b.at line.is).0 c is never in
          (by_line z p next (rows.GetStatic f) b line refl, did.1)
      push_lies (local {p} {next} {k} {c} line each) z ns path at unnamed =
          let r = rows.Load (Numbers IntType) k in
          let b = line_before z ns path p next r line unnamed at in
          let did = b.passes.does p next r b.at line.is in
          let held : HoldsInt b.visit.locals k c = int_held b.visit b.nodes k p c b.path b.at (no_writes one apart before P known m p next r line refl k) (λ o last. (each o last, store_sets (each o last))) in
          let same : did.0 ≡ c = int_same did.0 c (sym did.1 ∙ held) in
          (by_line z p next r b line refl, did.2.1 ∙ ap (λ (x : ℤ). Int x ∷ b.visit.operands) same)
      push_lies (length {from} {p} {next} {n} hold line unnamed') z ns path at unnamed =
          let b = line_before z ns path p next rows.Length line unnamed at in
          let a = array_lies hold b.visit b.nodes b.path b.at unnamed' in
          (and_line z from p next rows.Length b a.0 line refl, b.passes.does p next rows.Length b.at line.is a.1 a.0.visit.operands n a.2 a.3 at)
      push_lies (computed {from} {second} {p} {next} {x} {y} {z = sum} {compute} first last line unnamed1 unnamed2 is) z ns path at unnamed =
          let r = rows.Compute (IntType ∷ IntType ∷ []) IntType compute in
          let b = line_before z ns path p next r line unnamed at in
          let s = push_lies last b.visit b.nodes b.path b.at unnamed2 in
          let f = push_lies first s.0.visit s.0.nodes s.0.path s.0.at unnamed1 in
          let top : b.visit.operands ≡ Int y ∷ Int x ∷ f.0.visit.operands = s.1 ∙ ap (λ (ops : List Value). Int y ∷ ops) f.1 in
          (and_line z from p next r b (came_through one apart before P known m w b.visit from second s.0 f.0) line refl, b.passes.does p next r b.at line.is y x sum f.0.visit.operands top is)

      array_lies : {from to n : ℕ} → PushesArray P known m from to n → ArrayOnTop from to n
      array_lies (numbers {from} {p} {next} {code} {n} push line unnamed') z ns path at unnamed =
          let b = line_before z ns path p next (rows.NewNumbers code) line unnamed at in
          let s = push_lies push b.visit b.nodes b.path b.at unnamed' in
          let did = b.passes.does p next (rows.NewNumbers code) b.at line.is n s.0.visit.operands s.1 at in
          (and_line z from p next (rows.NewNumbers code) b s.0 line refl, did.0, did.1, did.2)
      array_lies (references {from} {p} {next} {n} {k} push line unnamed') z ns path at unnamed =
          let b = line_before z ns path p next (rows.NewReferences k) line unnamed at in
          let s = push_lies push b.visit b.nodes b.path b.at unnamed' in
          let did = b.passes.does p next (rows.NewReferences k) b.at line.is n s.0.visit.operands s.1 at in
          (and_line z from p next (rows.NewReferences k) b s.0 line refl, did.0, did.1, did.2)
      array_lies (of_static {p} {next} {f} {n} line is) z ns path at unnamed =
          let b = line_before z ns path p next (rows.GetStatic f) line unnamed at in
          let did = (b.passes.does p next (rows.GetStatic f) b.at line.is).1 n is in
          (by_line z p next (rows.GetStatic f) b line refl, did.0, did.1, did.2)
      array_lies (of_instance {from} {p} {next} {k} {named} {owner} {index} {n} load line unnamed' is) z ns path at unnamed =
          let r = rows.GetField named owner index in
          let b = line_before z ns path p next r line unnamed at in
          let l = line_before b.visit b.nodes b.path from p (rows.Load References k) load unnamed' b.at in
          let held = l.passes.does from p (rows.Load References k) l.at load.is in
          let did = b.passes.does p next r b.at line.is held.0 l.visit.operands n held.3.1 is at in
          (and_line z from p next r b (by_line b.visit from p (rows.Load References k) l load refl) line refl, did.0, did.1, did.2)
      array_lies (of_local {p} {next} {k} {n} line each) z ns path at unnamed =
          let r = rows.Load References k in
          let b = line_before z ns path p next r line unnamed at in
          let did = b.passes.does p next r b.at line.is in
          let held = array_held b.visit b.nodes k p n b.path b.at (no_writes one apart before P known m p next r line refl k) (λ o last. (each o last, store_keeps (each o last))) in
          let same : held.0 ≡ did.0 = some_same held.0 did.0 (sym held.1 ∙ did.2) in
          let array : IsArrayOf b.visit.lengths n did.0 = subst (IsArrayOf b.visit.lengths n) same held.2 in
          (by_line z p next r b line refl, did.0, did.3.1, still_array b.visit.lengths z.lengths b.passes.grows n did.0 array)
      array_lies (element {from} {copy} {index} {value} {store} {next} {n} {i} {v} {t} {codes} {kept} hold dup push_index push_value write un1 un2 un3 un4) z ns path at unnamed =
          let dup_row = rows.Shuffle rows.Copy rows.One rows.Zero in
          let store_row = rows.StoreNumber t codes kept in
          let d = line_before z ns path store next store_row write unnamed at in
          let c = line_before d.visit d.nodes d.path value store (rows.Push v) push_value un4 d.at in
          let b = line_before c.visit c.nodes c.path index value (rows.Push i) push_index un3 c.at in
          let a = line_before b.visit b.nodes b.path copy index dup_row dup un2 b.at in
          let x = array_lies hold a.visit a.nodes a.path a.at un1 in
          let rest = x.0.visit.operands in
          let twice : b.visit.operands ≡ x.1 ∷ x.1 ∷ rest = a.passes.does copy index dup_row a.at dup.is x.1 rest x.2 in
          let with_index : c.visit.operands ≡ i ∷ x.1 ∷ x.1 ∷ rest = (b.passes.does index value (rows.Push i) b.at push_index.is).1 ∙ ap (λ (ops : List Value). i ∷ ops) twice in
          let with_value : d.visit.operands ≡ v ∷ i ∷ x.1 ∷ x.1 ∷ rest = (c.passes.does value store (rows.Push v) c.at push_value.is).1 ∙ ap (λ (ops : List Value). v ∷ ops) with_index in
          let left : z.operands ≡ x.1 ∷ rest = d.passes.does store next store_row d.at write.is v i x.1 (x.1 ∷ rest) with_value at in
          let came = and_line z from store next store_row d (and_line d.visit from value store (rows.Push v) c (and_line c.visit from index value (rows.Push i) b (and_line b.visit from copy index dup_row a x.0 dup refl) push_index refl) push_value refl) write refl in
          let grows : Grows a.visit.lengths z.lengths =
          then_grows a.visit.lengths b.visit.lengths z.lengths a.passes.grows (then_grows b.visit.lengths c.visit.lengths z.lengths b.passes.grows (then_grows c.visit.lengths d.visit.lengths z.lengths c.passes.grows d.passes.grows)) in
          (came, x.1, left, still_array a.visit.lengths z.lengths grows n x.1 x.3)

      store_sets : {k : ℕ} {o : Option ℕ} {c : ℤ} → Stores P known m k o c → IntStored k o c
      store_sets (stores {k} {from} {w = p} {next} {c} push line unnamed') q e y z ns path at passes =
          let here' : y.node ≡ At p = at ∙ ap At (sym (some_same p q e)) in
          let s = push_lies push y ns path here' unnamed' in
          passes.does p next (rows.Store (Numbers IntType) k) here' line.is c s.0.visit.operands s.1

      store_keeps : {k : ℕ} {o : Option ℕ} {n : ℕ} → StoresArray P known m k o n → ArrayStored k o n
      store_keeps (keeps {k} {from} {w = p} {next} {n} hold line unnamed') q e y z ns path at passes =
          let here' : y.node ≡ At p = at ∙ ap At (sym (some_same p q e)) in
          let a = array_lies hold y ns path here' unnamed' in
          (a.1, passes.does p next (rows.Store References k) here' line.is a.1 a.0.visit.operands a.2, still_array y.lengths z.lengths passes.grows n a.1 a.3)

    -- what is stored where a loop is entered
    pub begun : (g : Digraph) (h k : ℕ) (c : ℤ) → BeginsAt P known m g h k c → (y z : Visit) (ns : List ℕ) → Path P known m w y ns → Passes P known m y z → IsEntering g h (number_of y.node) h → HoldsInt z.locals k c
    begun g h k c begins_at y z ns path passes entering =
        let l = last_write y z ns k path passes in
        by l.0 (begins_at.stored y.node l.0 entering l.1) l.2
      where
        by : (o : Option ℕ) → Stores P known m k o c → SinceOf z k o → HoldsInt z.locals k c
        by None store since = absurd (never None refl store)
          where
            never : (o : Option ℕ) → o ≡ None → Stores P known m k o c → ⊥
            never o e (stores {w = q} push line unnamed) = none≢some q (sym e)
        by (Some q) store since = since.holds (Int c) refl (store_sets store q refl since.writer since.behind since.nodes since.path since.at since.passes)

    -- what is put
    pub put_array : (z : Visit) (ns : List ℕ) (p n : ℕ) (v : Value) (rest : List Value) → Path P known m w z ns → z.node ≡ At p → PutsArray P known m p n → z.operands ≡ v ∷ rest → IsArrayOf z.lengths n v
    put_array z ns p n v rest path at puts top =
        let a = array_lies puts.1 z ns path at puts.2 in
        subst (IsArrayOf z.lengths n) (sym (heads v a.1 rest a.0.visit.operands (sym top ∙ a.2))) a.3

  pub limits_lie : LimitsLie one apart before P known m
  limits_lie w z ns from to c begins path push unnamed at = push_lies w begins push z ns path at unnamed
