-- The outermost of the loops that may be charged are the charged ones, and the loads of what may run in them are theirs.
use Rattle.std.proofs.Common.{◌≡◌, ℕ, zero, suc, ◌<◌, Bool, true, false, cond, List, [], ◌∷◌, length, map, get_or, Option, None, refl, sym, ap, ◌∙◌, subst, inl, inr, arith}
use Rattle.std.specs.Prelude.{is_some, unwrap_or, Result, Ok, Err, IfOk}
use Rattle.std.proofs.lemmas.Bool.{cases_Bool, both_ways}
use Rattle.std.proofs.lemmas.List.{get_or-map, length-map}
use Rattle.std.proofs.lemmas.Option.{slice_get-get_or}
use Rattle.loop_nest.specs.Digraph.{Digraph}
use Rattle.loop_nest.specs.Nest.{NaturalLoop}
use Rattle.section_check.specs.Placing.{IsEntryAt}
use Rattle.path_solver.specs.Reaching.{IsFlagged}
use Rattle.path_solver.specs.Regions.{charged, AreRegionsApart}
use Rattle.bytecode_model.specs.Program.{Program}
use Rattle.method_flow.specs.declared.timing.Timing.{Timing}
use Rattle.bound_rules.specs.Fitting.{LoopFits, loads_of}
use Rattle.bound_rules.specs.Numbers.{HasCall, IsCharged, AreCharged, AreLoads}
use Rattle.bound_rules.proofs.Sums.{same_loads}
use Rattle.compact_walks.specs.Charging.{AreOutermost}
use Rattle.compact_walks.specs.Laws.{OthersHaveOneAround, OutermostAreApart}
use Rattle.compact_walks.specs.Moving.{moved_natural}
use Rattle.compact_walks.proofs.Charged.{charged_long}
use Rattle.bound_finder.specs.declared.charges.Charges.{Charges}
use Rattle.bound_finder.specs.declared.shape.Shape.{Shape}
use Rattle.bound_finder.specs.Known.{BoundSetting, ForEach}
use Rattle.bound_finder.specs.Prepared.{IsShapeOf, IsCandidate, AreCandidates, AreChargesOf, node_of, nest_of}
use Rattle.bound_finder.specs.Prepared.AreChargesOf.{some as charged_some}
use Rattle.bound_finder.specs.Prepared.IsCandidate.{joined, no_call, exceeds}
use Rattle.bound_finder.proofs.Within.{around_out, around_in}

-- ---- charges

charged_on : (loads : List ℕ) (flags : List Bool) (i : ℕ) → i < length loads → get_or flags i false ≡ true → get_or (charged loads flags) i 0 ≡ get_or loads i 0
charged_on [] flags i lt on = absurd (omega arith)
charged_on (x ∷ xs) [] i lt on = absurd (both_ways false refl on)
charged_on (x ∷ xs) (b ∷ bs) zero lt on = ap (λ (c : Bool). cond c x 0) on
charged_on (x ∷ xs) (b ∷ bs) (suc i) lt on = charged_on xs bs i (omega arith) on

charged_off : (loads : List ℕ) (flags : List Bool) (i : ℕ) → get_or flags i false ≡ false → get_or (charged loads flags) i 0 ≡ 0
charged_off [] flags i off = refl
charged_off (x ∷ xs) [] i off = refl
charged_off (x ∷ xs) (b ∷ bs) zero off = ap (λ (c : Bool). cond c x 0) off
charged_off (x ∷ xs) (b ∷ bs) (suc i) off = charged_off xs bs i off

-- ---- one loop

module _ (P : Program) (t : Timing) (m : ℕ) (members : List ℕ) (o : Option ℕ) where
  not_some : o ≡ None → is_some o ≡ true → ⊥
  not_some none some = both_ways false refl (ap is_some (sym none) ∙ some)

  is_joined : IsCandidate P t m members o → is_some o ≡ true → HasCall P m members × LoopFits P t m members
  is_joined (joined call together is) some = (call, together)
  is_joined (no_call never is) some = absurd (not_some is some)
  is_joined (exceeds never is) some = absurd (not_some is some)

  must_join : IsCandidate P t m members o → HasCall P m members → LoopFits P t m members → is_some o ≡ true
  must_join (joined call together is) has fits = ap is_some is
  must_join (no_call never is) has fits = absurd (never has)
  must_join (exceeds never is) has fits = absurd (never fits)

  load_is : IsCandidate P t m members o → is_some o ≡ true → (fits : LoopFits P t m members) → unwrap_or o 0 ≡ loads_of fits
  load_is (joined call together is) some fits = ap (λ (x : Option ℕ). unwrap_or x 0) is ∙ same_loads together fits
  load_is (no_call never is) some fits = absurd (not_some is some)
  load_is (exceeds never is) some fits = absurd (not_some is some)

-- ---- all loops

module _ (others : OthersHaveOneAround) (P : Program) (t : Timing) (m : ℕ) (g : Digraph) (s : Shape) (h : IsShapeOf g s) (candidates : List (Option ℕ)) (long : length candidates ≡ length s.nest)
    (are : AreCandidates P t m s candidates) (flags : List Bool) (out : AreOutermost s.nest (map is_some candidates) flags) where
  below : (i : ℕ) (l : NaturalLoop) → IsEntryAt (nest_of s) i l → i < length s.nest
  below i l at = let lt = at.0 in omega (arith, length-map s.nest (moved_natural (node_of s)))

  candidate_at : (i : ℕ) (l : NaturalLoop) → IsEntryAt (nest_of s) i l → IsCandidate P t m l.members (get_or candidates i None)
  candidate_at i l at = let lt = below i l at in are i l (get_or candidates i None) at (slice_get-get_or candidates i None (omega arith))

  some_at : (i : ℕ) → i < length s.nest → get_or (map is_some candidates) i false ≡ is_some (get_or candidates i None)
  some_at i lt = get_or-map is_some candidates i None false (omega arith)

  pub are_charged : AreCharged P t m (nest_of s) flags
  are_charged = record {
    long = out.long ∙ sym (length-map s.nest (moved_natural (node_of s)));
    each = λ i l at. (to i l at, back i l at);
  }
    where
      to : (i : ℕ) (l : NaturalLoop) → IsEntryAt (nest_of s) i l → IsFlagged flags i → IsCharged P t m (nest_of s) flags i l
      to i l at flagged =
          let lt = below i l at in
          let is = (out.each i).0 flagged in
          let j = is_joined P t m l.members (get_or candidates i None) (candidate_at i l at) (sym (some_at i lt) ∙ is.candidate) in
          record {
            call = j.0;
            fits = j.1;
            outermost = λ k around flagged_k. is.outermost k (around_in s.graph h.compact.digraph (node_of s) h.compact.rising s.nest h.nest i k lt around) ((out.each k).0 flagged_k).candidate;
          }

      back : (i : ℕ) (l : NaturalLoop) → IsEntryAt (nest_of s) i l → IsCharged P t m (nest_of s) flags i l → IsFlagged flags i
      back i l at is =
          let lt = below i l at in
          let candidate = some_at i lt ∙ must_join P t m l.members (get_or candidates i None) (candidate_at i l at) is.call is.fits in
          elim (cases_Bool (get_or flags i false)) [
            | inl yes' ↦ yes'
            | inr no' ↦
                absurd (others s.graph s.nest h.compact.digraph h.compact.reached h.nest (map is_some candidates) flags out i lt candidate (λ yes'. both_ways (get_or flags i false) no' yes')
                (λ more. is.outermost more.loop (around_out s.graph h.compact.digraph (node_of s) h.compact.rising s.nest h.nest i more.loop lt more.around) more.flagged))
          ]

  abbrev loads : List ℕ
  loads = map (λ (o : Option ℕ). unwrap_or o 0) candidates

  pub are_loads : AreLoads P t m (nest_of s) flags (charged loads flags)
  are_loads = record {
    long = charged_long loads flags (out.long ∙ sym long ∙ sym (length-map candidates (λ (o : Option ℕ). unwrap_or o 0))) ∙ length-map candidates (λ (o : Option ℕ). unwrap_or o 0) ∙ long ∙ sym (length-map s.nest (moved_natural (node_of s)));
    charged = λ i l at flagged fits.
        let lt = below i l at in
        let short : i < length candidates = omega arith in
        let some = sym (some_at i lt) ∙ ((out.each i).0 flagged).candidate in
        charged_on loads flags i (omega (arith, length-map candidates (λ (o : Option ℕ). unwrap_or o 0))) flagged
        ∙ get_or-map (λ (o : Option ℕ). unwrap_or o 0) candidates i None 0 short
        ∙ load_is P t m l.members (get_or candidates i None) (candidate_at i l at) some fits;
    others = λ i unflagged.
        elim (cases_Bool (get_or flags i false)) [ inl yes' ↦ absurd (unflagged yes') | inr no' ↦ charged_off loads flags i no' ];
  }

-- ---- what is answered

pub outermost_charges : {E : Type 0} (others : OthersHaveOneAround) (set : BoundSetting) (m : ℕ) (g : Digraph) (s : Shape) → IsShapeOf g s → (fits : Bool) (candidates : List (Option ℕ)) (r : Result Charges E) → fits ≡ false → length candidates ≡ length s.nest
    → ForEach set (λ P. AreCandidates P set.timing m s candidates) → IfOk r (λ c. AreOutermost s.nest (map is_some candidates) c.flags.items) → IfOk r (λ c. c.loads.items ≡ map (λ o. unwrap_or o 0) candidates)
    → IfOk r (λ c. ForEach set (λ P. AreChargesOf P set.timing m s fits c))
outermost_charges others set m g s h fits candidates (Err e) exceeds' long are out loads_are = tt
outermost_charges others set m g s h fits candidates (Ok c) exceeds' long are out loads_are = λ P flow.
    charged_some exceeds' (are_charged others P set.timing m g s h candidates long (are P flow) c.flags.items out)
    (subst (λ (ks : List ℕ). AreLoads P set.timing m (nest_of s) c.flags.items (charged ks c.flags.items)) (sym loads_are) (are_loads others P set.timing m g s h candidates long (are P flow) c.flags.items out))

-- outermost loops that are charged are apart
pub charged_apart : {E : Type 0} (apart : OutermostAreApart) (g : Digraph) (s : Shape) → IsShapeOf g s → (candidates : List (Option ℕ)) (r : Result Charges E) → IfOk r (λ c. AreOutermost s.nest (map is_some candidates) c.flags.items) → IfOk r (λ c. AreRegionsApart s.nest c.flags.items)
charged_apart apart g s h candidates (Err e) out = tt
charged_apart apart g s h candidates (Ok c) out = apart s.graph s.nest h.nest (map is_some candidates) c.flags.items out
