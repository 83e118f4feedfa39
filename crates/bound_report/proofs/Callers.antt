-- The methods of an order in the other direction: each stands before what it may call.
use Rattle.std.proofs.Common.{◌≡◌, ◌≢◌, ℕ, ◌+◌, ◌-◌, ◌<◌, Bool, true, false, List, [], ◌∷◌, ◌++◌, length, take, get_or, filter, reverse, Contains, Option, Some, None, refl, sym, ap, ap₂, ◌∙◌, subst, inl, inr, arith}
use Rattle.std.specs.Prelude.{slice_get, is_some, if◌then◌else◌}
use Rattle.std.proofs.lemmas.Bool.{cases_Bool}
use Rattle.std.proofs.lemmas.List.{append_assoc, reverse-append, reverse-reverse, length-reverse, get_or-reverse, get_or_at, take_at, take_more}
use Rattle.std.proofs.lemmas.List.Elements.{filter-append}
use Rattle.std.proofs.lemmas.List.Kept.{AllPairs-filter}
use Rattle.std.proofs.lemmas.Option.{slice_get-get_or}
use Rattle.lists.specs.Members.{heads, tails, place_of, contains_at}
use Rattle.loop_nest.proofs.Elements.{kept_at, dropped_at, filter_contains, from_filter}
use Rattle.method_cache.specs.Regions.Region.{AreDistinct}
use Rattle.bytecode_model.specs.Program.{Program}
use Rattle.method_flow.specs.Keeping.{BoundOf}
use Rattle.method_flow.specs.Recursion.{MayCall}
use Rattle.method_flow.specs.Regions.IsWithin.{itself}
use Rattle.method_flow.specs.declared.timing.Timing.{Timing}
use Rattle.bound_finder.specs.declared.known.Known.{Known}
use Rattle.bound_finder.specs.Known.{AreNumbersOf}
use Rattle.bound_finder.specs.Laws.{numbers_by}
use Rattle.bound_finder.specs.Ready.{AreBehindCalls}
use Rattle.bound_finder.proofs.KnownWithin.{called_among}
use Rattle.bound_finder.proofs.Ordering.{are_ready}
use Rattle.bound_report.specs.Settled.{asked_in, IsSettledAt, IsSettled}
use Rattle.bound_report.specs.Adding.{has_number, callers_of, AreSettled}

-- ---- lists in the other direction

pub reversed_contains : (xs : List ℕ) (x : ℕ) → Contains xs x → Contains (reverse xs) x
reversed_contains xs x has =
    let at = place_of xs x has in
    let below = at.1 in
    let long = length-reverse xs in
    let k = length xs - 1 - at.0 in
    let back : get_or (reverse xs) k 0 ≡ get_or xs (length xs - 1 - k) 0 = get_or-reverse xs k 0 (omega arith) in
    let same : length xs - 1 - k ≡ at.0 = omega arith in
    contains_at (reverse xs) k x (omega arith) (back ∙ (ap (λ (j : ℕ). get_or xs j 0) same ∙ at.2))

pub reversed_back : (xs : List ℕ) (x : ℕ) → Contains (reverse xs) x → Contains xs x
reversed_back xs x has = subst (λ (ys : List ℕ). Contains ys x) (reverse-reverse xs) (reversed_contains (reverse xs) x has)

reversed_distinct : (xs : List ℕ) → AreDistinct xs → AreDistinct (reverse xs)
reversed_distinct xs apart i j d less below same =
    let long = length-reverse xs in
    let at_i = get_or-reverse xs i d (omega arith) in
    let at_j = get_or-reverse xs j d (omega arith) in
    apart (length xs - 1 - j) (length xs - 1 - i) d (omega arith) (omega arith) (sym at_j ∙ (sym same ∙ at_i))

-- where a filtered list is parted, the list is
record IsParted (p : ℕ → Bool) (xs : List ℕ) (m : ℕ) (qs : List ℕ) : Type 0 where
  before : List ℕ
  behind : List ℕ
  are : xs ≡ before ++ m ∷ behind
  kept : filter p behind ≡ qs

no_split : (ps : List ℕ) (m : ℕ) (qs : List ℕ) → [] ≡ ps ++ m ∷ qs → ⊥
no_split [] m qs e = cc
no_split (y ∷ ps) m qs e = cc

parted : (p : ℕ → Bool) (xs ps : List ℕ) (m : ℕ) (qs : List ℕ) → filter p xs ≡ ps ++ m ∷ qs → IsParted p xs m qs
parted p [] ps m qs e = absurd (no_split ps m qs e)
parted p (x ∷ xs) ps m qs e =
    elim (cases_Bool (p x)) [
      | inl keeps ↦ kept_first (λ ys is. parted p xs ys m qs is) ps (sym (kept_at p x xs keeps) ∙ e)
      | inr drops ↦
          let r = parted p xs ps m qs (sym (dropped_at p x xs drops) ∙ e) in
          record { before = x ∷ r.before; behind = r.behind; are = ap (λ (ys : List ℕ). x ∷ ys) r.are; kept = r.kept }
    ]
  where
    kept_first : ((ys : List ℕ) → filter p xs ≡ ys ++ m ∷ qs → IsParted p xs m qs) → (ps : List ℕ) → x ∷ filter p xs ≡ ps ++ m ∷ qs → IsParted p (x ∷ xs) m qs
    kept_first later [] e = record { before = []; behind = xs; are = ap (λ (y : ℕ). y ∷ xs) (heads x m (filter p xs) qs e); kept = tails x m (filter p xs) qs e }
    kept_first later (y ∷ ys) e =
        let r = later ys (tails x y (filter p xs) (ys ++ m ∷ qs) e) in
        record { before = x ∷ r.before; behind = r.behind; are = ap (λ (zs : List ℕ). x ∷ zs) r.are; kept = r.kept }

-- ---- the order of a root

module _ (P : Program) (t : Timing) (bound_of : BoundOf) (root : ℕ) (order : List ℕ) (table : List Known) (distinct : AreDistinct order) (h : IsSettled P t bound_of root order table) where
  behind : AreBehindCalls P order
  behind = h.ready.order.first

  from_callers : (m : ℕ) → Contains (callers_of table order) m → Contains order m × (has_number table m ≡ true)
  from_callers m has = let r = from_filter (has_number table) (reverse order) m has in (reversed_back order m r.0, r.1)

  number_of_some : (o : Option ℕ) → is_some o ≡ true → (n : ℕ) × (o ≡ Some n)
  number_of_some None e = absurd (let bad : false ≡ true = e in cc)
  number_of_some (Some n) e = (n, refl)

  within : (m : ℕ) → Contains order m → AreNumbersOf P t bound_of (numbers_by table) m
  within m has =
      let inside = (h.ready.order.methods.each m).0 has in
      record { inside = h.numbers.inside m inside; loops = h.numbers.loops m inside; full = h.numbers.full m inside }

  pub settled_at : (m : ℕ) → Contains order m → has_number table m ≡ true → IsSettledAt P t bound_of table m
  settled_at m has some =
      let n = number_of_some (asked_in table m) some in
      record {
        told = λ x call. (h.known x (called_among P t bound_of order table behind h.known m x has call)).told;
        known = h.known m has;
        small = h.small m has;
        numbers = within m has;
        number = n.0;
        is_number = n.1;
        order = order;
        ready = are_ready P bound_of root order h.ready;
        among = has;
      }

  before_calls : (ms : List ℕ) (m : ℕ) (qs : List ℕ) → callers_of table order ≡ ms ++ m ∷ qs → (x : ℕ) → MayCall P m x → has_number table x ≡ true → Contains qs x
  before_calls ms m qs e x call some =
      let r = parted (has_number table) (reverse order) ms m qs e in
      let back : order ≡ reverse r.behind ++ m ∷ reverse r.before =
      sym (reverse-reverse order) ∙ (ap reverse r.are ∙ (reverse-append r.before (m ∷ r.behind) ∙ (ap (λ (ys : List ℕ). ys ++ reverse r.before) (reverse-append (m ∷ []) r.behind) ∙ append_assoc (reverse r.behind) (m ∷ []) (reverse r.before))))
      in
      let i = length (reverse r.behind) in
      let lt : i < length order = subst (λ (ys : List ℕ). i < length ys) (sym back) (longer (reverse r.behind) m (reverse r.before)) in
      let at : slice_get order i ≡ Some m = slice_get-get_or order i 0 lt ∙ ap (λ (n : ℕ). Some n) (ap (λ (ys : List ℕ). get_or ys i 0) back ∙ get_or_at (reverse r.behind) m (reverse r.before) 0 i refl) in
      let has : Contains (reverse r.behind) x = subst (λ (ys : List ℕ). Contains ys x) (ap (take i) back ∙ take_at (reverse r.behind) (m ∷ reverse r.before) i refl) (behind i m x at call) in
      subst (λ (ys : List ℕ). Contains ys x) r.kept (filter_contains (has_number table) r.behind x some (reversed_back r.behind x has))
    where
      longer : (xs : List ℕ) (y : ℕ) (ys : List ℕ) → length xs < length (xs ++ y ∷ ys)
      longer [] y ys = omega arith
      longer (z ∷ zs) y ys = let more = longer zs y ys in omega arith

  pub callers_settled : has_number table root ≡ true → AreSettled P t bound_of table root (callers_of table order)
  callers_settled some = record {
    each = λ m has. let r = from_callers m has in settled_at m r.0 r.1;
    distinct = AllPairs-filter (λ (a b : ℕ). a ≢ b) (has_number table) (reverse order) (reversed_distinct order distinct);
    rooted = filter_contains (has_number table) (reverse order) root some (reversed_contains order root ((h.ready.order.methods.each root).1 itself));
    before = before_calls;
  }

-- one method more, in the other direction
pub callers_more : (p : ℕ → Bool) (order : List ℕ) (i m : ℕ) (b : Bool) (old new : List ℕ) → i < length order → m ≡ get_or order (length order - 1 - i) 0 → b ≡ p m → old ≡ filter p (take i (reverse order))
    → new ≡ old ++ (if b then m ∷ [] else []) → new ≡ filter p (take (i + 1) (reverse order))
callers_more p order i m b old new lt is test before more =
    let long = length-reverse order in
    let here : get_or (reverse order) i 0 ≡ m = get_or-reverse order i 0 lt ∙ sym is in
    let taken : take (i + 1) (reverse order) ≡ take i (reverse order) ++ m ∷ [] = take_more (reverse order) i 0 (omega arith) ∙ ap (λ (x : ℕ). take i (reverse order) ++ x ∷ []) here in
    more
    ∙ (ap₂ (λ (xs : List ℕ) (c : Bool). xs ++ (if c then m ∷ [] else [])) before test
    ∙ (sym (filter-append p (take i (reverse order)) (m ∷ [])) ∙ ap (filter p) (sym taken)))
