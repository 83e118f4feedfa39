use Rattle.std.proofs.Common.{◌≡◌, ℕ, ◌<◌, List, length, get_or, Contains, sym, ◌∙◌, subst, inl, inr, arith}
use Rattle.std.specs.List.Sorted.{IsStrictlyIncreasing}
use Rattle.std.proofs.lemmas.Bool.{cases_lt, false≢true}
use Rattle.std.proofs.lemmas.List.{get_or_default}
use Rattle.std.proofs.lemmas.List.Elements.{Contains-get_or}
use Rattle.lists.specs.Members.{rising_all}
use Rattle.priced_sections.specs.Paid.{ExitPays}
use Rattle.priced_sections.specs.Views.{costs_of, back_of, section_of}
use Rattle.priced_sections.proofs.paying.failing_exit.Goals as goal

-- an exit of the graph stands in its list
exit_place : (gs es : List ℕ) (u : ℕ) → es ≡ gs → Contains gs u → (j : ℕ) × (j < length es) × (get_or es j 0 ≡ u)
exit_place gs es u is has =
    let P : List ℕ → Type 0 = λ zs. Contains zs u in
    let c = subst P (sym is) has in
    (c.0, c.1, get_or_default es c.0 0 u c.1 ∙ c.2)

pub returns-then-not-exit_pays : goal.returns-then-not-exit_pays
returns-then-not-exit_pays c =
    let q = c.args.q.now in
    let gs = q.graph.now.exits in
    let es = c.exits-exits.result.now in
    let is = c.exits-exits.ensures.exits in
    let i = c.loop-i.i in
    let P : List ℕ → Type 0 = λ zs. Contains zs (get_or es i 0) in
    let Q : List ℕ → Type 0 = λ zs. IsStrictlyIncreasing zs in
    let rising = subst Q (sym is) c.exits-exits.ensures.valid.exits.rising in
    let R : ℕ → Type 0 = λ u. ExitPays (costs_of q) (back_of q) (section_of q) u in
    record {
      exit = subst P is (Contains-get_or es i 0 c.loop-i-test.true);
      fails = λ h. false≢true (sym c.if-not-exit_pays.true ∙ c.exit_pays.ensures.1 h);
      first = λ x has less.
          let at = exit_place gs es x is has in
          elim (cases_lt at.0 i) [
            | inl early ↦ subst R at.2 (c.loop-i.invariant at.0 early)
            | inr late ↦ let up = rising_all es rising i at.0 late at.1 in let same = at.2 in absurd (omega arith)
          ];
    }

pub returns : goal.returns
returns c =
    let q = c.args.q.now in
    let end = c.loop-i-test.false in
    let R : ℕ → Type 0 = λ u. ExitPays (costs_of q) (back_of q) (section_of q) u in
    λ u has.
    let at = exit_place q.graph.now.exits c.exits-exits.result.now u c.exits-exits.ensures.exits has in
    let below = at.1 in
    subst R at.2 (c.loop-i.invariant at.0 (omega arith))
