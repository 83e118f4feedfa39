-- Loops that count keep their numbers.
use Rattle.std.proofs.Common.{◌≡◌, ◌⊎◌, ℕ, zero, suc, ◌+◌, ◌≤◌, ◌==◌, Bool, cond, List, [], ◌∷◌, ◌++◌, length, Contains, All, Some, None, refl, sym, ap, ◌∙◌, subst, inl, inr, arith, append_assoc, length-append, eq-eqb}
use Rattle.std.specs.Prelude.{count_by}
use Rattle.std.proofs.lemmas.Bool.{cases_eq, cases_lt, ne_eqb}
use Rattle.std.proofs.lemmas.List.{append-nil}
use Rattle.std.proofs.lemmas.List.Sums.{sum_by-append, sum_by-cons}
use Rattle.std.proofs.lemmas.List.Elements.{Contains-append_left}
use Rattle.lists.specs.Members.{heads, tails, at_head, cons_cases}
use Rattle.bytecode_model.specs.declared.Ending.{Ending}
use Rattle.bytecode_model.specs.State.{Frame}
use Rattle.bytecode_model.specs.Program.{Program}
use Rattle.loop_nest.specs.Digraph.{Digraph}
use Rattle.loop_nest.specs.Walks.{IsMember, KeepsBound, back_edges_to}
use Rattle.loop_nest.specs.Laws.{HeaderDominatesMembers, LoopIsEnteredAtHeader, EdgesToHeaderAreBackEdges, EntryDominatesAll}
use Rattle.method_flow.specs.Nodes.{At, number_of}
use Rattle.method_flow.specs.Graphs.{IsGraphOf}
use Rattle.code_lines.specs.Laws.{LinesAreOne, LinesAreApart, OneStandsBefore}
use Rattle.loop_rules.specs.Tests.{Constants}
use Rattle.loop_rules.specs.Counted.{EachCycleIsALoop}
use Rattle.loop_rules.specs.Further.Known.{Known}
use Rattle.bytecode_model.specs.Steps.{run_from}
use Rattle.method_runs.specs.Runs.{Walks, walks_from, unknown_walks}
use Rattle.counted_laws.specs.Visits.{Visit, Passes, Path}
use Rattle.counted_laws.specs.Visits.Path.{here, more}
use Rattle.loop_rules.specs.Further.Found.{only_constants}
use Rattle.counted_laws.specs.Paths.{WaitingPaths, HavePaths, RunsHavePaths, RunsHoldArrays}
use Rattle.counted_laws.specs.Counting.{CountsFurther, CountedLoopsAreFurther, FurtherPathsKeep, CountedPathsKeep, FramesCount, FramesCountFurther, CountedLoopsKeep, FurtherLoopsKeep}
use Rattle.counted_laws.proofs.Cycles.{at_last, each_of}
use Rattle.counted_laws.proofs.Turning.{Turning, at_most, onward, around, enter, begins_outside}

-- ---- lists by their last items

pub record Split (ns : List ℕ) (x : ℕ) (before seg : List ℕ) : Type 0 where
  pub front : List ℕ
  pub is : seg ≡ front ++ x ∷ []
  pub rest : ns ≡ before ++ front

no_end : (xs ys : List ℕ) → [] ≡ xs ++ ys → ys ≡ []
no_end [] ys e = sym e
no_end (x ∷ xs) ys e = absurd (cc)

split_last : (ns : List ℕ) (x : ℕ) (before seg : List ℕ) → ns ++ x ∷ [] ≡ before ++ seg → (seg ≡ [] → ⊥) → Split ns x before seg
split_last ns x [] seg e some = record { front = ns; is = sym e; rest = refl }
split_last [] x (y ∷ ys) seg e some = absurd (some (no_end ys seg (tails x y [] (ys ++ seg) e)))
split_last (z ∷ zs) x (y ∷ ys) seg e some =
    let r = split_last zs x ys seg (tails z y (zs ++ x ∷ []) (ys ++ seg) e) some in
    let same : z ≡ y = heads z y (zs ++ x ∷ []) (ys ++ seg) e in
    record { front = r.front; is = r.is; rest = ap (λ (k : ℕ). k ∷ zs) same ∙ ap (λ (l : List ℕ). y ∷ l) r.rest }

last_item : (xs ys : List ℕ) (x y : ℕ) → xs ++ x ∷ [] ≡ ys ++ y ∷ [] → x ≡ y
last_item [] [] x y e = heads x y [] [] e
last_item [] (z ∷ zs) x y e = absurd (some (no_end zs (y ∷ []) (tails x z [] (zs ++ y ∷ []) e)))
  where
    some : y ∷ [] ≡ [] → ⊥
    some e' = absurd (cc)
last_item (z ∷ zs) [] x y e = absurd (some (no_end zs (x ∷ []) (sym (tails z y (zs ++ x ∷ []) [] e))))
  where
    some : x ∷ [] ≡ [] → ⊥
    some e' = absurd (cc)
last_item (z ∷ zs) (w ∷ ws) x y e = last_item zs ws x y (tails z w (zs ++ x ∷ []) (ws ++ y ∷ []) e)

by_last : (xs : List ℕ) → (xs ≡ []) ⊎ ((ys : List ℕ) × (y : ℕ) × (xs ≡ ys ++ y ∷ []))
by_last [] = inl refl
by_last (x ∷ xs) =
    elim (by_last xs) [
      | inl none ↦ inr ([], x, ap (λ (l : List ℕ). x ∷ l) none)
      | inr found ↦ inr (x ∷ found.0, found.1, ap (λ (l : List ℕ). x ∷ l) found.2)
    ]

not_nil : (x : ℕ) (xs : List ℕ) → x ∷ xs ≡ [] → ⊥
not_nil x xs e = absurd (cc)

snoc_not_nil : (xs : List ℕ) (x : ℕ) → xs ++ x ∷ [] ≡ [] → ⊥
snoc_not_nil [] x e = absurd (cc)
snoc_not_nil (y ∷ ys) x e = absurd (cc)

-- ---- counts

module _ (h : ℕ) where
  abbrev often : List ℕ → ℕ
  often xs = count_by (λ x. x == h) xs

  abbrev one_if : ℕ → ℕ
  one_if x = cond (x == h) 1 0

  often_cons : (x : ℕ) (xs : List ℕ) → often (x ∷ xs) ≡ one_if x + often xs
  often_cons x xs = sum_by-cons one_if x xs

  often_last : (xs : List ℕ) (x : ℕ) → often (xs ++ x ∷ []) ≡ often xs + one_if x
  often_last xs x =
      let a = sum_by-append one_if xs (x ∷ []) in
      let b = sum_by-cons one_if x [] in
      omega arith

  is_one : (x : ℕ) → x ≡ h → one_if x ≡ 1
  is_one x e = ap (λ (b : Bool). cond b 1 0) (eq-eqb x h e)

  is_none : (x : ℕ) → (x ≡ h → ⊥) → one_if x ≡ 0
  is_none x d = ap (λ (b : Bool). cond b 1 0) (ne_eqb x h d)

  -- a segment with one more item in front takes no fewer
  no_fewer : (y : ℕ) (seg : List ℕ) → back_edges_to h seg ≤ back_edges_to h (y ∷ seg)
  no_fewer y [] = omega arith
  no_fewer y (z ∷ zs) = let e = often_cons z zs in omega arith

module _ (P : Program) (known : Known) (m : ℕ) where
  path_last : {w v : Visit} {ns : List ℕ} → Path P known m w v ns → (ms : List ℕ) × (ns ≡ ms ++ number_of v.node ∷ [])
  path_last (here) = ([], refl)
  path_last (more {b} {c} {ns} path passes) = (ns, refl)

  -- the part of a path up to one of its visits
  prefix : {w v : Visit} {ns : List ℕ} → Path P known m w v ns → (xs after : List ℕ) → ns ≡ xs ++ after → (xs ≡ [] → ⊥) → (u : Visit) × Path P known m w u xs
  prefix {w} {v} {ns} path xs [] e some = (v, subst (λ (l : List ℕ). Path P known m w v l) (e ∙ append-nil xs) path)
  prefix {w} (here) xs (a ∷ more_after) e some =
      let r = split_last [] (number_of w.node) xs (a ∷ more_after) e (not_nil a more_after) in
      absurd (some (none_left xs r.front r.rest))
    where
      none_left : (ys zs : List ℕ) → [] ≡ ys ++ zs → ys ≡ []
      none_left [] zs e' = refl
      none_left (y ∷ ys) zs e' = absurd (cc)
  prefix {w} (more {b} {c} {ns} path passes) xs (a ∷ more_after) e some =
      let r = split_last ns (number_of c.node) xs (a ∷ more_after) e (not_nil a more_after) in
      prefix path xs r.front r.rest some

module _ (one : LinesAreOne) (apart : LinesAreApart) (before : OneStandsBefore) (headers : HeaderDominatesMembers) (entered : LoopIsEnteredAtHeader) (back : EdgesToHeaderAreBackEdges) (entry : EntryDominatesAll)
    (P : Program) (known : Known) (m : ℕ) (g : Digraph) (h n : ℕ) (of : IsGraphOf P m g) (cycles : EachCycleIsALoop g) (count : CountsFurther P known m g h n) where
  abbrev H : ℕ
  H = number_of (At h)

  abbrev Turns : Visit → ℕ → Type 0
  Turns v k = Turning one apart before headers entered back entry P known m g h n of cycles count v k

  -- the loop was entered behind these nodes
  abbrev IsEntered : List ℕ → Type 0
  IsEntered xs = (xs ≡ []) ⊎ ((ys : List ℕ) × (y : ℕ) × (xs ≡ ys ++ y ∷ []) × (IsMember g H y → ⊥))

  abbrev Stays : Visit → List ℕ → Type 0
  Stays v seg = (turns : ℕ) × Turns v turns × (back_edges_to H seg ≡ turns)

  -- from an entry on
  module _ (w : Visit) (begins : w.node ≡ At 0) (xs : List ℕ) (entered_behind : IsEntered xs) where
    abbrev Claim : Visit → List ℕ → Type 0
    Claim v ns = (seg : List ℕ) → ns ≡ xs ++ seg → (seg ≡ [] → ⊥) → ((x : ℕ) → Contains seg x → IsMember g H x) → Stays v seg

    at_entry : (b v : Visit) (ns : List ℕ) → Path P known m w b ns → Passes P known m b v → IsMember g H (number_of v.node) → ns ≡ xs → Turns v 0
    at_entry b v ns path passes member same = by entered_behind
      where
        by : IsEntered xs → Turns v 0
        by (inl none) = let l = path_last P known m path in absurd (snoc_not_nil l.0 (number_of b.node) (sym l.1 ∙ (same ∙ none)))
        by (inr (ys, y, is, outside)) =
            let l = path_last P known m path in
            let last : number_of b.node ≡ y = last_item l.0 ys (number_of b.node) y (sym l.1 ∙ (same ∙ is)) in
            enter one apart before headers entered back entry P known m g h n of cycles count w b v ns begins path passes (λ mem. outside (subst (IsMember g H) last mem)) member

    behind : (b v : Visit) (ns : List ℕ) → Path P known m w b ns → Passes P known m b v → Claim b ns → (front seg : List ℕ) → seg ≡ front ++ number_of v.node ∷ [] → ns ≡ xs ++ front → ((x : ℕ) → Contains seg x → IsMember g H x) → Stays v seg
    behind b v ns path passes claim [] seg is rest members =
        let member : IsMember g H (number_of v.node) = members (number_of v.node) (subst (λ (l : List ℕ). Contains l (number_of v.node)) (sym is) (at_head (number_of v.node) [])) in
        (0, at_entry b v ns path passes member (rest ∙ append-nil xs), ap (back_edges_to H) is)
    behind b v ns path passes claim (z ∷ zs) seg is rest members =
        let inside : (x : ℕ) → Contains ((z ∷ zs) ++ number_of v.node ∷ []) x → IsMember g H x = λ x c. members x (subst (λ (l : List ℕ). Contains l x) (sym is) c) in
        let member : IsMember g H (number_of v.node) = inside (number_of v.node) (at_last (z ∷ zs) (number_of v.node)) in
        let s = claim (z ∷ zs) rest (not_nil z zs) (λ x c. inside x (Contains-append_left (z ∷ zs) (number_of v.node ∷ []) x c)) in
        let total : back_edges_to H seg ≡ often H (zs ++ number_of v.node ∷ []) = ap (back_edges_to H) is in
        let sum = often_last H zs (number_of v.node) in
        let so_far : often H zs ≡ s.0 = s.2 in
        elim (cases_eq (number_of v.node) H) [
          | inl at ↦
              let unit = is_one H (number_of v.node) at in
              (suc s.0, around one apart before headers entered back entry P known m g h n of cycles count w b v ns s.0 s.1 begins path passes member at, omega arith)
          | inr differ ↦
              let unit = is_none H (number_of v.node) differ in
              (s.0, onward one apart before headers entered back entry P known m g h n of cycles count w b v ns s.0 s.1 begins path passes member differ, omega arith)
        ]

    stays : (v : Visit) (ns : List ℕ) → Path P known m w v ns → Claim v ns
    stays v ns (here) seg e some members =
        let r = split_last [] (number_of w.node) xs seg e some in
        let has : Contains seg (number_of w.node) = subst (λ (l : List ℕ). Contains l (number_of w.node)) (sym r.is) (at_last r.front (number_of w.node)) in
        let zero' : number_of w.node ≡ 0 = ap number_of begins in
        absurd (begins_outside one apart before headers entered back entry P known m g h n of cycles count (subst (IsMember g H) zero' (members (number_of w.node) has)))
    stays v ns (more {b} {c} {ns = ms} path passes) seg e some members =
        let r = split_last ms (number_of c.node) xs seg e some in
        behind b c ms path passes (stays b ms path) r.front seg r.is r.rest members

  -- it isn't so that no entry lies before a segment of members
  abbrev Fails : List ℕ → List ℕ → Type 0
  Fails xs seg =
      (ys seg' : List ℕ) → xs ++ seg ≡ ys ++ seg' → (seg' ≡ [] → ⊥) → ((x : ℕ) → Contains seg' x → IsMember g H x) → back_edges_to H seg ≤ back_edges_to H seg' → IsEntered ys → ⊥

  abbrev Found : ℕ → Type 0
  Found k = (xs seg : List ℕ) → length xs ≤ k → (seg ≡ [] → ⊥) → ((x : ℕ) → Contains seg x → IsMember g H x) → Fails xs seg → ⊥

  -- where the node before it is a member, the segment begins earlier
  earlier : (k : ℕ) → Found k → (xs seg : List ℕ) → length xs ≤ suc k → ((x : ℕ) → Contains seg x → IsMember g H x) → Fails xs seg → (ys : List ℕ) (y : ℕ) → xs ≡ ys ++ y ∷ [] → IsMember g H y → ⊥
  earlier k again xs seg short members fails ys y is member =
      let l1 = ap (λ (l : List ℕ). length l) is in
      let l2 = length-append ys (y ∷ []) in
      let longer : xs ++ seg ≡ ys ++ y ∷ seg = ap (λ (l : List ℕ). l ++ seg) is ∙ append_assoc ys (y ∷ []) seg in
      again ys (y ∷ seg) (omega arith) (not_nil y seg) (λ x c. elim (cons_cases y x seg c) [ inl same ↦ subst (IsMember g H) same member | inr there ↦ members x there ])
      (λ zs seg'' e some' members' le entered'. let fewer = no_fewer H y seg in fails zs seg'' (longer ∙ e) some' members' (omega arith) entered')

  found : (k : ℕ) → Found k
  found zero [] seg short some members fails = fails [] seg refl some members (omega arith) (inl refl)
  found zero (x ∷ xs) seg short some members fails = absurd (omega arith)
  found (suc k) xs seg short some members fails = by (found k) (by_last xs)
    where
      by : Found k → (xs ≡ []) ⊎ ((ys : List ℕ) × (y : ℕ) × (xs ≡ ys ++ y ∷ [])) → ⊥
      by again (inl none) = fails xs seg refl some members (omega arith) (inl none)
      by again (inr f) = fails xs seg refl some members (omega arith) (inr (f.0, f.1, f.2, earlier k again xs seg short members fails f.0 f.1 f.2))

  at_least_one : (ys seg : List ℕ) → (seg ≡ [] → ⊥) → ys ++ seg ≡ [] → ⊥
  at_least_one [] seg some e = some e
  at_least_one (y ∷ ys) seg some e = absurd (cc)

  pub keeps : (w v : Visit) (us : List ℕ) → w.node ≡ At 0 → Path P known m w v us → KeepsBound g H n us
  keeps w v us begins path = λ xs seg after e all. by xs seg after e all
    where
      by : (xs seg after : List ℕ) → us ≡ xs ++ seg ++ after → All (IsMember g H) seg → back_edges_to H seg ≤ n
      by xs [] after e all = omega arith
      by xs (z ∷ zs) after e all =
          let seg : List ℕ = z ∷ zs in
          let some : seg ≡ [] → ⊥ = not_nil z zs in
          let whole : us ≡ (xs ++ seg) ++ after = e in
          let p = prefix P known m path (xs ++ seg) after whole (at_least_one xs seg some) in
          elim (cases_lt n (back_edges_to H seg)) [
            | inr le ↦ le
            | inl above ↦ absurd (found (length xs) xs seg (omega arith) some (each_of (IsMember g H) seg all) (λ ys seg' e' some' members' le entered'.
                let s = stays w begins ys entered' p.0 (xs ++ seg) p.1 seg' e' some' members' in
                let most = at_most one apart before headers entered back entry P known m g h n of cycles count s.0 s.1.few in
                let total = s.2 in
                omega arith))
          ]

pub further_paths_keep : LinesAreOne → LinesAreApart → OneStandsBefore → HeaderDominatesMembers → LoopIsEnteredAtHeader → EdgesToHeaderAreBackEdges → EntryDominatesAll → FurtherPathsKeep
further_paths_keep one apart before headers entered back entry P known m g h n a b us of cycles count begins path = keeps one apart before headers entered back entry P known m g h n of cycles count a b us begins path

pub counted_paths_keep : CountedLoopsAreFurther → FurtherPathsKeep → CountedPathsKeep
counted_paths_keep are keep P constants m g h n a b us of cycles count begins path =
    keep P (only_constants constants) m g h n a b us of cycles (are P (only_constants constants) m g h n of count) begins path

-- ---- frames

module _ (law : FurtherPathsKeep) (P : Program) (known : Known) where
  waiting_count : (ls : List ℕ) (fs : List Frame) (ws : Walks) → WaitingPaths P known ls fs ws → FramesCountFurther P known fs ws
  waiting_count ls [] [] have = tt
  waiting_count ls [] (w ∷ ws) have = absurd have
  waiting_count ls (f ∷ fs) [] have = absurd have
  waiting_count ls (f ∷ fs) (None ∷ ws) have = waiting_count ls fs ws have.1
  waiting_count ls (f ∷ fs) (Some us ∷ ws) have =
      (λ g h n of cycles count. law P known f.method g h n have.0.3.0 (record { node = At f.pc; locals = f.locals; operands = have.0.0; lengths = have.0.1 }) us of cycles count have.0.3.1 have.0.3.2, waiting_count ls fs ws have.1)

  pub frames_count : (ls : List ℕ) (mode : Ending) (fs : List Frame) (ws : Walks) → HavePaths P known ls mode fs ws → FramesCountFurther P known fs ws
  frames_count ls mode [] ws have = tt
  frames_count ls mode (f ∷ fs) [] have = tt
  frames_count ls mode (f ∷ fs) (None ∷ ws) have = waiting_count ls fs ws have.1
  frames_count ls mode (f ∷ fs) (Some us ∷ ws) have = (λ g h n of cycles count. law P known f.method g h n have.0.0 _ us of cycles count have.0.1 have.0.2, waiting_count ls fs ws have.1)

-- where constants alone are known
module _ (are : CountedLoopsAreFurther) (P : Program) (constants : Constants) where
  only_counted : (fs : List Frame) (ws : Walks) → FramesCountFurther P (only_constants constants) fs ws → FramesCount P constants fs ws
  only_counted [] ws count = tt
  only_counted (f ∷ fs) [] count = tt
  only_counted (f ∷ fs) (None ∷ ws) count = only_counted fs ws count
  only_counted (f ∷ fs) (Some us ∷ ws) count = (λ g h n of cycles counts. count.0 g h n of cycles (are P (only_constants constants) f.method g h n of counts), only_counted fs ws count.1)

pub counted_loops_keep : RunsHavePaths → CountedLoopsAreFurther → FurtherPathsKeep → CountedLoopsKeep
counted_loops_keep runs are law P types limits constants input s n lawful typed gives fits hold =
    only_counted are P constants (run_from P limits input s n).frames (walks_from P limits input s (unknown_walks s) n) (frames_count law P (only_constants constants) _ _ _ _ (runs P types limits constants input s n lawful typed gives fits hold))

pub further_loops_keep : RunsHoldArrays → FurtherPathsKeep → FurtherLoopsKeep
further_loops_keep runs law P types limits known input s n lawful typed gives fits boot are hold =
    frames_count law P known _ _ _ _ (runs P types limits known input s n lawful typed gives fits boot are hold).1
