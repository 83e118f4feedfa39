-- Flags of nodes that are no instructions that write local variables, and the nodes to which it is skipped back past such.
use Rattle.std.proofs.Common.{◌≡◌, ℕ, ◌+◌, ◌-◌, Bool, true, false, IsTrue, List, [], ◌∷◌, ◌++◌, length, replicate, sym, ap, ◌∙◌, subst, inl, inr, arith}
use Rattle.std.proofs.lemmas.Bool.{both_ways, cases_lt}
use Rattle.std.proofs.lemmas.List.{length-append, length-replicate, get_or_past, get_or_append_left, get_or-append_right}
use Rattle.loop_nest.specs.Digraph.{Digraph}
use Rattle.loop_rules.specs.Further.Search.{AreWithin, IsPassed, flag_at}
use Rattle.loop_marks.proofs.Flagging.{none_flagged}
use Rattle.loop_acts.specs.declared.effects.Act.{Act}
use Rattle.loop_acts.specs.Writing.{IsIdle, IsWriterAt}
use Rattle.loop_finder.specs.Skipping.{AreBacksPast, AreIdleFlags}

-- ---- flags

pub none_idle : (acts : List Act) (n : ℕ) (flags : List Bool) → flags ≡ replicate n false → AreIdleFlags acts n flags
none_idle acts n flags is = record {
  long = ap length is ∙ length-replicate n false;
  each = λ x at. absurd (both_ways (flag_at flags x) (ap (λ (fs : List Bool). flag_at fs x) is ∙ none_flagged n x) at);
}

module _ (acts : List Act) (n : ℕ) (flags : List Bool) (b : Bool) (are : AreIdleFlags acts n flags) (idle : IsTrue b → IsIdle acts n) where
  abbrev more : List Bool
  more = flags ++ b ∷ []

  more_long : length more ≡ n + 1
  more_long = length-append flags (b ∷ []) ∙ ap (λ (k : ℕ). k + 1) are.long

  last_flag : (x : ℕ) → x ≡ n → flag_at more x ≡ b
  last_flag x same =
      let zero : x - n ≡ 0 = omega arith in
      get_or-append_right flags (b ∷ []) n x false are.long (omega arith) ∙ ap (λ (k : ℕ). flag_at (b ∷ []) k) zero

  each_more : (x : ℕ) → flag_at more x ≡ true → IsIdle acts x
  each_more x at =
      elim (cases_lt x n) [
        | inl low ↦ are.each x (sym (get_or_append_left flags (b ∷ []) false x (let long = are.long in omega arith)) ∙ at)
        | inr high ↦ elim (cases_lt n x) [
          | inl past ↦ absurd (both_ways (flag_at more x) (get_or_past more x false (let long = more_long in omega arith)) at)
          | inr le ↦ let same : x ≡ n = omega arith in subst (IsIdle acts) (sym same) (idle (sym (last_flag x same) ∙ at))
        ]
      ]

  pub idle_more : AreIdleFlags acts (n + 1) more
  idle_more = record { long = more_long; each = each_more }

-- ---- nodes to which it is skipped back

module _ (acts : List Act) (g : Digraph) (backs : List ℕ) (past : AreBacksPast acts g backs) where
  -- they are nodes of the graph
  pub backs_within : AreWithin g.nodes backs
  backs_within = record {
    long = past.are.long;
    each = λ u lt. let le = (past.are.each u lt).1 in omega arith;
  }

  -- and a search for what writes one local variable stops at none of those past which it is skipped
  pub none_stops : (local : ℕ) → IsPassed past.idle (λ x. (p : ℕ) × IsWriterAt acts x local p)
  none_stops local x at w = past.flags.each x at local w.0 w.1
