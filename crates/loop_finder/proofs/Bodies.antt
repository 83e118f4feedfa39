-- The bounds of the loops of a method by what its instructions do, by what is given of ints.
use Rattle.std.proofs.Common.{◌≡◌, ◌↔◌, ℕ, ◌*◌, List, sym, subst}
use Rattle.bytecode_model.specs.Program.{Program}
use Rattle.method_flow.specs.Graphs.{IsGraphOf}
use Rattle.code_lines.specs.Laws.{LinesAreOne, OneIsPushedBefore}
use Rattle.loop_rules.specs.Further.Known.{Known}
use Rattle.loop_rules.specs.Further.Laws.{StaysAtStarts}
use Rattle.loop_acts.specs.Rules.{Given, Rules, further, plain, rules_by}
use Rattle.loop_acts.specs.Rules.Given.{plainly, further_on}
use Rattle.loop_acts.specs.declared.reading.MethodInts.{MethodInts}
use Rattle.loop_acts.specs.declared.reading.MethodInts.TheVariants.{OfSites, OfTable}
use Rattle.loop_acts.specs.Reading.{AreIntsBy}
use Rattle.loop_acts.specs.Acts.{AreActs}
use Rattle.loop_finder.specs.declared.body.Beginnings.{Beginnings}
use Rattle.loop_finder.specs.declared.body.Beginnings.TheVariants.{Stored}
use Rattle.loop_finder.specs.Counting.{AreBounds, BeginsBy, Body}
use Rattle.loop_finder.specs.Beginning.{IsBodyOf}
use Rattle.loop_finder.specs.Methods.{AreBeginsBy, AreBoundsBy}
use Rattle.loop_finder.proofs.Starting.{set_as}

abbrev pub AreOfSites : MethodInts → Type 0
AreOfSites (OfSites s) = Unit {0}
AreOfSites (OfTable t) = ⊥

abbrev pub AreOfTable : MethodInts → Type 0
AreOfTable (OfSites s) = ⊥
AreOfTable (OfTable t) = Unit {0}

-- the bounds are those by a body
pub bounds_of : (P : Program) (rules : Rules) (m : ℕ) (b : Body) (bounds : List (ℕ × ℕ)) → AreActs P rules m b.acts → AreBeginsBy rules m b → AreBounds b bounds
    → AreBoundsBy P rules m b.graph bounds
bounds_of P rules m b bounds acts begins are = record { acts = b.acts; begins = b.begins; are_acts = acts; are_begins = begins; are_bounds = are }

module _ (P : Program) (m : ℕ) (b : Body) (bounds : List (ℕ × ℕ)) where
  begins_stored : LinesAreOne → OneIsPushedBefore → (x : MethodInts) (given : Given) → AreOfSites x → AreIntsBy P m x given → AreActs P (rules_by P given) m b.acts → b.begins ≡ Stored
      → AreBeginsBy (rules_by P given) m b
  begins_stored one int (OfSites s) (plainly constants) of ints acts stored = λ h k u c is.
      subst (λ (y : Beginnings). (plain P constants).begins m b.graph h k c ↔ BeginsBy y b.acts b.graph (2 * h) k c) (sym stored) (set_as P constants m b.acts one int acts b.graph h k c)
  begins_stored one int (OfSites s) (further_on known) of ints acts stored = absurd ints
  begins_stored one int (OfTable t) given of ints acts stored = absurd of

  pub plain_bounds : LinesAreOne → OneIsPushedBefore → (x : MethodInts) (given : Given) → AreOfSites x → AreIntsBy P m x given → AreActs P (rules_by P given) m b.acts → b.begins ≡ Stored → AreBounds b bounds
      → AreBoundsBy P (rules_by P given) m b.graph bounds
  plain_bounds one int x given of ints acts stored are = bounds_of P (rules_by P given) m b bounds acts (begins_stored one int x given of ints acts stored) are

  pub further_bounds : IsGraphOf P m b.graph → StaysAtStarts P m → (x : MethodInts) (given : Given) → AreOfTable x → AreIntsBy P m x given → AreActs P (rules_by P given) m b.acts
      → ((known : Known) → IsBodyOf P known m b → AreBoundsBy P (further P known) m b.graph bounds) → AreBoundsBy P (rules_by P given) m b.graph bounds
  further_bounds graph stays (OfTable t) (further_on known) of ints acts are = are known (record { graph = graph; acts = acts; stays = stays })
  further_bounds graph stays (OfTable t) (plainly constants) of ints acts are = absurd ints
  further_bounds graph stays (OfSites s) given of ints acts are = absurd of
