-- The one item of a list, however often it stands there.
use Rattle.std.proofs.Common.{◌≡◌, ◌≢◌, ℕ, ◌<◌, List, length, get_or, All, Contains, Option, Some, None, sym, ◌∙◌, subst}
use Rattle.std.specs.Prelude.{MatchOption}
use Rattle.std.proofs.lemmas.List.{nil_from_length}
use Rattle.std.proofs.lemmas.List.Elements.{All-contains, All-from_get_or, Contains-get_or}
use Rattle.lists.specs.Members.{nil_contains}
use Rattle.loop_nest.specs.Digraph.{Digraph, Edge, sources_of}
use Rattle.loop_nest.proofs.Searching.{sources_has, from_sources}
use Rattle.loop_acts.specs.Writing.{IsAlone, IsOnlyOf}
use Rattle.loop_finder.specs.Setting.{IsOnlySource}

pub none_alone : (xs : List ℕ) → length xs ≡ 0 → (x : ℕ) → ¬ IsAlone (Contains xs) x
none_alone xs e x a = nil_contains x (subst (λ (ys : List ℕ). Contains ys x) (nil_from_length xs e) a.0)

pub one_alone : (xs : List ℕ) → 0 < length xs → All (λ u. u ≡ get_or xs 0 0) xs → IsAlone (Contains xs) (get_or xs 0 0)
one_alone xs some all = (Contains-get_or xs 0 0 some, λ y has. All-contains (λ u. u ≡ get_or xs 0 0) xs y all has)

pub two_alone : (xs : List ℕ) → 0 < length xs → (All (λ u. u ≡ get_or xs 0 0) xs → ⊥) → (x : ℕ) → ¬ IsAlone (Contains xs) x
two_alone xs some none x a =
    none (All-from_get_or (λ u. u ≡ get_or xs 0 0) xs 0 (λ i lt. a.1 (get_or xs i 0) (Contains-get_or xs i 0 lt) ∙ sym (a.1 (get_or xs 0 0) (Contains-get_or xs 0 0 some))))

module _ (g : Digraph) (u : ℕ) (later : u ≢ 0) (xs : List ℕ) (are : xs ≡ sources_of g.edges u) where
  has : (z : ℕ) → Edge g z u → Contains xs z
  has z e = subst (λ (ys : List ℕ). Contains ys z) (sym are) (sources_has g.edges z u e)

  edge : (z : ℕ) → Contains xs z → Edge g z u
  edge z h = from_sources g.edges z u (subst (λ (ys : List ℕ). Contains ys z) are h)

  pub source_is : (o : Option ℕ) → IsOnlyOf (Contains xs) o → MatchOption o ((w : ℕ) → ¬ IsOnlySource g u w) (IsOnlySource g u)
  source_is None none = λ w s. none w (has w s.edge, λ z h. s.alone z (edge z h))
  source_is (Some w) a = record { later = later; edge = edge w a.0; alone = λ z e. a.1 z (has z e) }
