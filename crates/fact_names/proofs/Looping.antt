-- The members of a loop, by what leads to a header past what is around it.
use Rattle.std.proofs.Common.{◌≡◌, ◌≢◌, ℕ, ◌<◌, ◌⊎◌, Bool, true, false, List, [], length, get_or, set, replicate, All, Contains, refl, sym, ap, ◌∙◌, subst, inl, inr, arith}
use Rattle.std.specs.Prelude.{IfErr, IfOk, OnOk, Result, Ok, Err}
use Rattle.std.proofs.lemmas.Bool.{both_ways, cases_eq, cases_lt, cases_Bool}
use Rattle.std.proofs.lemmas.List.{get_or_past, length-replicate, get_or-set_same, get_or-set_other}
use Rattle.std.proofs.lemmas.List.Elements.{All-contains, All-from_get_or, Contains-get_or}
use Rattle.lists.specs.Members.{nil_contains, map_contains}
use Rattle.loop_nest.specs.Digraph.{Digraph, Edge, IsDigraph, AreSources, turned}
use Rattle.loop_nest.specs.Walks.{Dominates, IsBackEdge, IsHeader, IsMember, ReachesBackEdge}
use Rattle.loop_nest.proofs.Around.{Around, joined, joined_by, around_from, leads_around, ends_elsewhere, not_around, dominates_from}
use Rattle.loop_nest.proofs.Around.Around.{rest, through}
use Rattle.loop_nest.proofs.Elements.{from_map}
use Rattle.loop_nest.proofs.Searching.{sources_has, from_sources, same_everywhere}
use Rattle.fact_names.specs.Reach.{LeadTo, AreLedTo, AreWithin, AreAround, AreMembers, flag_at, list_at}
use Rattle.fact_names.specs.Reach.LeadTo.{first, along}

-- ---- lists of neighbours

module _ (es : List (ℕ × ℕ)) (n : ℕ) (lists : List (List ℕ)) (s : AreSources es n lists) where
  pub listed : (u v : ℕ) → v < n → Contains es (u, v) → Contains (list_at lists v) u
  listed u v lt has = let P : List ℕ → Type 0 = λ us. Contains us u in subst P (sym (s.each v lt)) (sources_has es u v has)

  pub from_listed : (u v : ℕ) → Contains (list_at lists v) u → Contains es (u, v)
  from_listed u v has =
      elim (cases_lt v n) [
        | inl lt ↦ from_sources es u v (let P : List ℕ → Type 0 = λ us. Contains us u in subst P (s.each v lt) has)
        | inr ge ↦
            let long = s.long in
            let P : List ℕ → Type 0 = λ us. Contains us u in
            absurd (nil_contains u (subst P (get_or_past lists v [] (omega arith)) has))
      ]

  pub lists_within : All (λ (e : ℕ × ℕ). e.0 < n) es → AreWithin lists
  lists_within all =
      All-from_get_or (λ us. All (λ u. u < length lists) us) lists [] (λ v lt.
      All-from_get_or (λ u. u < length lists) (list_at lists v) 0 (λ i below.
      let u = get_or (list_at lists v) i 0 in
      let has = from_listed u v (Contains-get_or (list_at lists v) i 0 below) in
      let small : u < n = All-contains (λ (e : ℕ × ℕ). e.0 < n) es (u, v) all has in
      let long = s.long in
      omega arith))

turned_has : (es : List (ℕ × ℕ)) (u v : ℕ) → Contains es (u, v) → Contains (turned es) (v, u)
turned_has es u v has = map_contains (λ (e : ℕ × ℕ). (e.1, e.0)) es (u, v) has

from_turned : (es : List (ℕ × ℕ)) (u v : ℕ) → Contains (turned es) (v, u) → Contains es (u, v)
from_turned es u v has =
    let r = from_map (λ (e : ℕ × ℕ). (e.1, e.0)) es (v, u) has in
    let P : ℕ × ℕ → Type 0 = λ e. Contains es (e.1, e.0) in
    subst P r.2 r.1

-- ---- the edges of a graph

module _ (g : Digraph) (wf : IsDigraph g) where
  pub source_below : (u v : ℕ) → Edge g u v → u < g.nodes
  source_below u v has = (All-contains (λ (e : ℕ × ℕ). (e.0 < g.nodes) × (e.1 < g.nodes)) g.edges (u, v) wf.edges.ends has).0

  pub target_below : (u v : ℕ) → Edge g u v → v < g.nodes
  target_below u v has = (All-contains (λ (e : ℕ × ℕ). (e.0 < g.nodes) × (e.1 < g.nodes)) g.edges (u, v) wf.edges.ends has).1

  pub sources_within : (sources : List (List ℕ)) → AreSources g.edges g.nodes sources → AreWithin sources
  sources_within sources s =
      lists_within g.edges g.nodes sources s (All-from_get_or (λ (e : ℕ × ℕ). e.0 < g.nodes) g.edges (0, 0) (λ i lt.
      let e = get_or g.edges i (0, 0) in
      source_below e.0 e.1 (Contains-get_or g.edges i (0, 0) lt)))

  pub targets_within : (targets : List (List ℕ)) → AreSources (turned g.edges) g.nodes targets → AreWithin targets
  targets_within targets s =
      lists_within (turned g.edges) g.nodes targets s (All-from_get_or (λ (e : ℕ × ℕ). e.0 < g.nodes) (turned g.edges) (0, 0) (λ i lt.
      let e = get_or (turned g.edges) i (0, 0) in
      target_below e.1 e.0 (from_turned g.edges e.1 e.0 (Contains-get_or (turned g.edges) i (0, 0) lt))))

  -- ---- what is around a header

  module _ (h : ℕ) (small : h < g.nodes) (targets : List (List ℕ)) (s : AreSources (turned g.edges) g.nodes targets) where
    barred : List Bool
    barred = set (replicate g.nodes false) h true

    barred_header : flag_at barred h ≡ true
    unfolding barred
    barred_header = let long = length-replicate g.nodes false in get_or-set_same (replicate g.nodes false) h true false (omega arith)

    barred_other : (x : ℕ) → x ≢ h → flag_at barred x ≡ false
    unfolding barred
    barred_other x ne = get_or-set_other (replicate g.nodes false) h x true false ne ∙ same_everywhere g.nodes x false

    not_header : (x : ℕ) → flag_at barred x ≡ false → x ≢ h
    not_header x at same = both_ways (flag_at barred x) at (ap (flag_at barred) same ∙ barred_header)

    led_around : {x : ℕ} → LeadTo targets barred 0 x → Around g h 0 x
    led_around (first ok) = rest (not_header 0 ok)
    led_around (along {u} {v} r has ok) = joined_by (led_around r) (from_turned g.edges u v (from_listed (turned g.edges) g.nodes targets s v u has)) (rest (not_header v ok))

    starts_elsewhere : {u v : ℕ} → Around g h u v → u ≢ h
    starts_elsewhere (rest ne) = ne
    starts_elsewhere (through ne e a) = ne

    follow : {u w : ℕ} → Around g h u w → LeadTo targets barred 0 u → LeadTo targets barred 0 w
    follow (rest ne) r = r
    follow (through {u} {v} ne e a) r =
        follow a (along r (listed (turned g.edges) g.nodes targets s v u (source_below u v e) (turned_has g.edges u v e)) (barred_other v (starts_elsewhere a)))

    pub around_is : (flags : List Bool) → AreLedTo targets (set (replicate g.nodes false) h true) 0 flags → AreAround g h flags
    unfolding barred
    around_is flags a = record {
      long = a.long ∙ s.long;
      each = λ x. (
        λ at. leads_around (led_around ((a.each x).0 at)),
        λ l. let w = around_from l.1 l.2 in (a.each x).1 (follow w (first (barred_other 0 (starts_elsewhere w)))),
      );
    }

  -- ---- members

  module _ (h : ℕ) (small : h < g.nodes) (sources : List (List ℕ)) (s : AreSources g.edges g.nodes sources) (around : List Bool) (a : AreAround g h around) where
    dominated : (u : ℕ) → flag_at around u ≡ false → Dominates g h u
    dominated u at = dominates_from (λ w. both_ways (flag_at around u) at ((a.each u).1 (leads_around w)))

    clear : (u : ℕ) → Dominates g h u → flag_at around u ≡ false
    clear u d =
        elim (cases_Bool (flag_at around u)) [
          | inl at ↦ (let l = (a.each u).0 at in absurd (l.2 (d l.0 l.1)))
          | inr not' ↦ not'
        ]

    back_edge : (u : ℕ) → Edge g u h → flag_at around u ≡ false → IsBackEdge g u h
    back_edge u e at = record { edge = e; dominates = dominated u at }

    pub header_from : (u : ℕ) → Contains (list_at sources h) u → flag_at around u ≡ false → IsHeader g h
    header_from u has at = (u, back_edge u (from_listed g.edges g.nodes sources s u h has) at)

    pub header_to : IsHeader g h → (u : ℕ) × Contains (list_at sources h) u × (flag_at around u ≡ false)
    header_to x = (x.0, listed g.edges g.nodes sources s x.0 h small x.1.edge, clear x.0 x.1.dominates)

    leads_back : {x : ℕ} → LeadTo sources around h x → (x ≡ h) ⊎ ReachesBackEdge g h x
    leads_back (first ok) = inl refl
    leads_back (along {u} {v} r has ok) =
        elim (cases_eq v h) [
          | inl same ↦ inl same
          | inr other ↦
              let e : Edge g v u = from_listed g.edges g.nodes sources s v u has in
              elim (leads_back r) [
                | inl at ↦
                    let P : ℕ → Type 0 = λ z. Edge g v z in
                    inr (record { source = v; back_edge = back_edge v (subst P at e) ok; leads = leads_around (rest other) })
                | inr b ↦ inr (record { source = b.source; back_edge = b.back_edge; leads = leads_around (through other e (around_from b.leads.1 b.leads.2)) })
              ]
        ]

    clear_on : {u v : ℕ} → Around g h u v → Dominates g h v → flag_at around u ≡ false
    clear_on {u} w d =
        elim (cases_Bool (flag_at around u)) [
          | inl at ↦ (let l = (a.each u).0 at in absurd (not_around d (joined (around_from l.1 l.2) w)))
          | inr not' ↦ not'
        ]

    led_back : {u v : ℕ} → Around g h u v → Dominates g h v → LeadTo sources around h v → LeadTo sources around h u
    led_back (rest ne) d r = r
    led_back (through {u} {v} ne e w) d r =
        along (led_back w d r) (listed g.edges g.nodes sources s u v (target_below u v e) e) (clear_on (through ne e w) d)

    header_clear : flag_at around h ≡ false
    header_clear =
        elim (cases_Bool (flag_at around h)) [
          | inl at ↦ (let l = (a.each h).0 at in absurd (ends_elsewhere (around_from l.1 l.2) refl))
          | inr not' ↦ not'
        ]

    pub members_are : (flags : List Bool) → IsHeader g h → AreLedTo sources around h flags → AreMembers g h flags
    members_are flags header l = record {
      long = l.long ∙ s.long;
      each = λ x. (
        λ at. (header, leads_back ((l.each x).0 at)),
        λ m. (l.each x).1 (elim m.1 [
          | inl same ↦ let T : ℕ → Type 0 = λ z. LeadTo sources around h z in subst T (sym same) (first header_clear)
          | inr b ↦
              let d = b.back_edge.dominates in
              let end = along (first header_clear) (listed g.edges g.nodes sources s b.source h small b.back_edge.edge) (clear b.source d) in
              led_back (around_from b.leads.1 b.leads.2) d end
        ]),
      );
    }

    pub no_members : (flags : List Bool) → flags ≡ replicate g.nodes false → (IsHeader g h → ⊥) → AreMembers g h flags
    no_members flags none never = record {
      long = ap length none ∙ length-replicate g.nodes false;
      each = λ x. (λ at. absurd (both_ways (flag_at flags x) (ap (λ (fs : List Bool). flag_at fs x) none ∙ same_everywhere g.nodes x false) at), λ m. absurd (never m.0));
    }

    pub sources_below : (us : List ℕ) (n : ℕ) → us ≡ list_at sources h → n ≡ g.nodes → All (λ u. u < n) us
    sources_below us n is same =
        All-from_get_or (λ u. u < n) us 0 (λ i lt.
        let P : List ℕ → Type 0 = λ xs. Contains xs (get_or us i 0) in
        let e = from_listed g.edges g.nodes sources s (get_or us i 0) h (subst P is (Contains-get_or us i 0 lt)) in
        let below = source_below (get_or us i 0) h e in
        omega arith)

-- a weaker answer
pub ok_weaker : {A E : Type 0} (r : Result A E) (P Q : A → Type 0) → ((a : A) → P a → Q a) → IfOk r P → IfOk r Q
ok_weaker (Ok a) P Q weaker h = weaker a h
ok_weaker (Err e) P Q weaker h = tt

pub err_weaker : {A E : Type 0} (r : Result A E) (P Q : E → Type 0) → ((e : E) → P e → Q e) → IfErr r P → IfErr r Q
err_weaker (Ok a) P Q weaker h = tt
err_weaker (Err e) P Q weaker h = weaker e h

pub on_ok : {A E : Type 0} (r : Result A E) (P Q : Type 0) → (P → Q) → OnOk r P → OnOk r Q
on_ok (Ok a) P Q weaker h = weaker h
on_ok (Err e) P Q weaker h = tt

-- a header is a node
pub header_below : (g : Digraph) → IsDigraph g → (h x : ℕ) → IsMember g h x → h < g.nodes
header_below g wf h x m = target_below g wf m.0.0 h m.0.1.edge
