-- What lines push that end at a place to which control comes from the last of them alone.
use Rattle.std.proofs.Common.{◌≡◌, ℕ, ◌*◌, ◌<◌, ℤ, length, List, Option, Some, None, Result, Ok, Err, sym, ap, ◌∙◌, subst, arith}
use Rattle.std.specs.Prelude.{IfOk, MatchOption}
use Rattle.lists.proofs.Lemmas.{none≢some, some_is, some_same}
use Rattle.opcodes.specs.Start.{IsStart, AreStarts}
use Rattle.bytecode_model.specs.Program.{Program, Body, body_of}
use Rattle.bytecode_model.specs.Rows.{Row}
use Rattle.method_flow.specs.Nodes.{At, IsEdge, IsReached}
use Rattle.code_lines.specs.Lines.{IsLine}
use Rattle.code_scan.specs.Scans.{line_before}
use Rattle.loop_rules.specs.Further.Known.{Known}
use Rattle.loop_rules.specs.Further.Laws.{LinesBeforeAreReached}
use Rattle.loop_rules.specs.declared.further.table.KnownInt.{KnownInt}
use Rattle.known_ints.specs.declared.parts.Part.{Part}
use Rattle.known_ints.specs.Parts.{part_at}
use Rattle.known_ints.specs.Code.{CodeOf, IsCodeOf}
use Rattle.loop_rules.specs.Further.Found.{IsFollowing}
use Rattle.known_ints.specs.Knowing.{GivesAt, IsGiven}

module _ (P : Program) (known : Known) (m : ℕ) (code : CodeOf) (of : IsCodeOf P known m code) where
  pub line_at : (p q : ℕ) → line_before code.scan p ≡ Some q → (r : Row) × IsLine P m q p r
  line_at p q is = subst (λ (o : Option ℕ). MatchOption o ((q : ℕ) (r : Row) → ¬ IsLine P m q p r) (λ q. (r : Row) × IsLine P m q p r)) is (of.scan.before p)

  -- the instruction before a place is one of the code
  pub inside : ((c : List ℕ) → AreStarts c) → code.graph.nodes ≡ 2 * length code.parts → (p q : ℕ) → line_before code.scan p ≡ Some q → q < length code.parts
  inside starts nodes p q is =
      let line = line_at p q is in
      let start = some_is (body_of P m) (λ (b : Body). IsStart b.code q) line.1.start in
      let size = some_is (body_of P m) (λ (b : Body). code.graph.nodes ≡ 2 * length b.code) of.graph.size in
      let same : start.0 ≡ size.0 = some_same start.0 size.0 (sym start.1 ∙ size.1) in
      let below = (starts start.0.code).within_code q start.2 in
      let long : code.graph.nodes ≡ 2 * length start.0.code = size.2 ∙ ap (λ (b : Body). 2 * length b.code) (sym same) in
      omega arith

  pub last_reached : LinesBeforeAreReached → (p last : ℕ) → IsFollowing P m p → line_before code.scan p ≡ Some last → IsReached (IsEdge P m) (At last)
  last_reached come p last f is = let line = line_at p last is in come P m last p line.0 (record { stays = of.stays; reached = f.reached; unnamed = f.unnamed }) line.1

  module _ (Gives : (place : ℕ) → Part → (from : ℕ) → ℤ → Type 0) (p : ℕ) where
    pub at_last : (last : ℕ) → IsFollowing P m p → line_before code.scan p ≡ Some last → (o : Option KnownInt) → IsGiven (Gives last (part_at code.parts last)) o → IsGiven (GivesAt P m code Gives p) o
    at_last last f is o h x = (
      (λ e. record { following = f; last = last; before = is; gives = (h x).0 e }),
      (λ g. let same : g.last ≡ last = some_same g.last last (sym g.before ∙ is) in (h x).1 (subst (λ (q : ℕ). Gives q (part_at code.parts q) x.from x.value) same g.gives)),
    )

    pub at_none : ((last : ℕ) → IsFollowing P m p × (line_before code.scan p ≡ Some last) → ⊥) → IsGiven (GivesAt P m code Gives p) None
    at_none none x = ((λ e. absurd (none≢some x e)), (λ g. absurd (none g.last (g.following, g.before))))

-- the same of a result, of what the line before the place gives
module _ (come : LinesBeforeAreReached) (code : CodeOf) (Gives : Program → (method : ℕ) → (place : ℕ) → Part → (from : ℕ) → ℤ → Type 0) (p last : ℕ)
    (follows : (P : Program) (known : Known) (m : ℕ) → IsCodeOf P known m code → IsFollowing P m p × (line_before code.scan p ≡ Some last)) where
  pub by_last : {E : Type 0} (part : Part) → part ≡ part_at code.parts last → (r : Result (Option KnownInt) E)
      → IfOk r (λ o. (P : Program) (known : Known) (m : ℕ) → IsCodeOf P known m code → IsReached (IsEdge P m) (At last) → IsGiven (Gives P m last part) o)
      → IfOk r (λ o. (P : Program) (known : Known) (m : ℕ) → IsCodeOf P known m code → IsGiven (GivesAt P m code (Gives P m) p) o)
  by_last part is (Ok o) h = λ P known m of.
      let f = follows P known m of in
      let given = h P known m of (last_reached P known m code of come p last f.0 f.1) in
      at_last P known m code of (Gives P m) p last f.0 f.1 o (subst (λ (x : Part). IsGiven (Gives P m last x) o) is given)
  by_last part is (Err e) h = tt
