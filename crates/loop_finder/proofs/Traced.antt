-- The writes on the one way to a node, node by node backwards.
use Rattle.std.proofs.Common.{◌≡◌, ℕ, ◌+◌, ◌*◌, ◌<◌, ◌≤◌, List, [], ◌∷◌, ◌++◌, length, get_or, refl, sym, ◌∙◌, subst, inl, inr, arith}
use Rattle.std.proofs.lemmas.Bool.{cases_lt}
use Rattle.std.proofs.lemmas.List.{get_or_append_left, get_or_push, length-append}
use Rattle.loop_nest.specs.Digraph.{Digraph, IsDigraph}
use Rattle.loop_acts.specs.declared.effects.Act.{Act}
use Rattle.loop_acts.specs.Writing.{WritesAt}
use Rattle.loop_finder.specs.Setting.{IsOnlySource, LastWriteFrom, AreWritesBefore, IsAddedWrite}
use Rattle.loop_finder.specs.Setting.LastWriteFrom.{here}
use Rattle.loop_finder.proofs.LastWrites.{half, NoWrite, IsCome, come_first, come_on, come_stops, come_ends}

module _ (acts : List Act) (g : Digraph) (from : ℕ) where
  -- none of these places writes the local variable
  abbrev pub Free : List ℕ → ℕ → Type 0
  Free places local = (i : ℕ) → i < length places → ¬ WritesAt acts local (get_or places i 0)

  -- the first of them that writes a variable is its last write
  abbrev pub AreFirst : List ℕ → Type 0
  AreFirst places = (local i : ℕ) → i < length places → WritesAt acts local (get_or places i 0) → ((j : ℕ) → j < i → ¬ WritesAt acts local (get_or places j 0)) → LastWriteFrom acts g local from (get_or places i 0)

  -- after so many steps the search has come to a node, and has found these places
  pub record IsTraced (node step : ℕ) (places : List ℕ) : Type 0 where
    pub below : node < g.nodes
    pub first : AreFirst places
    pub come : (local : ℕ) → Free places local → IsCome acts g local from node step

  -- and it has looked at the node
  pub record IsLooked (node step : ℕ) (places : List ℕ) : Type 0 where
    pub first : AreFirst places
    pub come : (local : ℕ) → Free places local → IsCome acts g local from node step
    pub idle : (local : ℕ) → Free places local → NoWrite acts g local node

  pub traced_first : (places : List ℕ) → places ≡ [] → from < g.nodes → IsTraced from 0 places
  traced_first places none below =
      subst (IsTraced from 0) (sym none) (record { below = below; first = λ local i lt. absurd (omega arith); come = λ local free. come_first acts g local from below })

  module _ (node step : ℕ) (old : List ℕ) (t : IsTraced node step old) where
    module _ (p : ℕ) (even : node ≡ 2 * p) where
      abbrev pushed : List ℕ
      pushed = old ++ p ∷ []

      kept : (i : ℕ) → i < length old → get_or pushed i 0 ≡ get_or old i 0
      kept i lt = get_or_append_left old (p ∷ []) 0 i lt

      last : (i : ℕ) → length old ≡ i → get_or pushed i 0 ≡ p
      last i same = get_or_push old p 0 i same

      longer : length pushed ≡ length old + 1
      longer = let l = length-append old (p ∷ []) in omega arith

      free_before : (local : ℕ) → Free pushed local → Free old local
      free_before local free i lt w = free i (let l = longer in omega arith) (subst (WritesAt acts local) (sym (kept i lt)) w)

      first_more : AreFirst pushed
      first_more local i lt w none =
          elim (cases_lt i (length old)) [
            | inl less ↦
                let here' = t.first local i less (subst (WritesAt acts local) (kept i less) w) (λ j before v. none j before (subst (WritesAt acts local) (sym (kept j (omega arith))) v)) in
                subst (LastWriteFrom acts g local from) (sym (kept i less)) here'
            | inr ge ↦
                let l = longer in
                let same : length old ≡ i = omega arith in
                let free : Free old local = λ j before v. none j (omega arith) (subst (WritesAt acts local) (sym (kept j before)) v) in
                let there = (t.come local free).back p (here even (subst (WritesAt acts local) (last i same) w)) in
                subst (LastWriteFrom acts g local from) (sym (last i same)) there
          ]

      no_write : (local : ℕ) → Free pushed local → NoWrite acts g local node
      no_write local free q e w =
          let l = longer in
          let same : q ≡ p = half q p (sym e ∙ even) in
          free (length old) (omega arith) (subst (WritesAt acts local) (same ∙ sym (last (length old) refl)) w)

      looked_push : IsLooked node step pushed
      looked_push = record { first = first_more; come = λ local free. t.come local (free_before local free); idle = no_write }

    pub looked : (new : List ℕ) → IsAddedWrite acts node old new → IsLooked node step new
    looked new (inl none) =
        subst (IsLooked node step) (sym none.1) (record { first = t.first; come = t.come; idle = λ local free q e w. none.0 local q e w })
    looked new (inr some) = subst (IsLooked node step) (sym some.2) (looked_push some.0 some.1)

  module _ (node step : ℕ) (places : List ℕ) (k : IsLooked node step places) where
    pub traced_on : (w : ℕ) → IsDigraph g → IsOnlySource g node w → w < g.nodes → IsTraced w (step + 1) places
    traced_on w wf source below = record { below = below; first = k.first; come = λ local free. come_on acts g local from node step w wf (k.come local free) (k.idle local free) source }

    pub traced_stops : ((w : ℕ) → ¬ IsOnlySource g node w) → AreWritesBefore acts g from places
    traced_stops alone = record { first = k.first; none = λ local free. come_stops acts g local from node step (k.come local free) (k.idle local free) alone }

  pub traced_ends : (node step : ℕ) (places : List ℕ) → IsDigraph g → from < g.nodes → IsTraced node step places → g.nodes ≤ step → AreWritesBefore acts g from places
  traced_ends node step places wf below t all = record { first = t.first; none = λ local free. come_ends acts g local from node step wf below (t.come local free) all }
