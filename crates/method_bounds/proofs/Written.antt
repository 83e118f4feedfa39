-- Answers that are written by bounds and by causes are what is answered of the methods.
use Rattle.std.proofs.Common.{◌≡◌, ℕ, ◌<◌, List, [], ◌∷◌, ◌++◌, length, map, get_or, set, Contains, Option, Some, None, refl, sym, ap, ◌∙◌, subst, inl, inr, arith}
use Rattle.std.specs.Prelude.{slice_get}
use Rattle.std.proofs.lemmas.Bool.{cases_eq}
use Rattle.std.proofs.lemmas.List.{get_or-set_same, get_or-set_other, length-set}
use Rattle.std.proofs.lemmas.List.Elements.{Contains-push_cases}
use Rattle.std.proofs.lemmas.Option.{slice_get-get_or, slice_get-map, slice_get_within, get_or_from_slice_get}
use Rattle.lists.proofs.Lemmas.{map_some}
use Rattle.lists.specs.Members.{nil_contains}
use Rattle.bound_texts.specs.Loops.Bounds.{LoopBound}
use Rattle.bytecode_model.specs.Program.{Program}
use Rattle.method_flow.specs.Flow.{Flow, IsFlowOf}
use Rattle.method_flow.specs.Keeping.{BoundOf}
use Rattle.method_flow.specs.declared.timing.Timing.{Timing}
use Rattle.node_costs.specs.Costs.{bounds_of}
use Rattle.answer_lines.specs.declared.bound.BoundCause.{BoundCause}
use Rattle.bound_finder.specs.declared.ending.MethodBound.{MethodBound}
use Rattle.bound_finder.specs.declared.ending.MethodBound.TheVariants as bounds
use Rattle.bound_finder.specs.Ending.{IsMethodBound}
use Rattle.bound_finder.proofs.Growing.{at_front, at_last}
use Rattle.method_bounds.specs.declared.answer.BoundAnswer.{BoundAnswer}
use Rattle.method_bounds.specs.Answers.{IsBoundAnswer}
use Rattle.method_bounds.specs.Answering.{answer_by, refused_by, IsWrittenBy, AreWritten}
use Rattle.method_bounds.specs.Sorting.{AreBoundable, IsSortedOut, AreSorted}

-- ---- one after another

pub none_written : (found : List MethodBound) (old : List BoundAnswer) → AreWritten [] found old old
none_written found old = record { long = refl; each = λ m x at. inr (nil_contains m, at) }

module _ (done : List ℕ) (found : List MethodBound) (m : ℕ) (bound : MethodBound) (old mid : List BoundAnswer) (below : m < length mid) (at : slice_get found (length done) ≡ Some bound) (h : AreWritten done found old mid) where
  last_written : (x : BoundAnswer) → answer_by bound ≡ x → IsWrittenBy (done ++ m ∷ []) found m x
  last_written x is = record { place = length done; bound = bound; method = at_last done m; at = at; is = sym is }

  earlier_written : (k : ℕ) (x : BoundAnswer) → IsWrittenBy done found k x → IsWrittenBy (done ++ m ∷ []) found k x
  earlier_written k x w = record { place = w.place; bound = w.bound; method = at_front done m w.place k w.method; at = w.at; is = w.is }

  pub written_more : AreWritten (done ++ m ∷ []) found old (set mid m (answer_by bound))
  written_more = record {
    long = length-set mid m (answer_by bound) ∙ h.long;
    each = λ k x there.
        elim (cases_eq m k) [
          | inl same ↦
              let W : ℕ → Type 0 = λ y. IsWrittenBy (done ++ m ∷ []) found y x in
              let S : ℕ → Type 0 = λ y. slice_get (set mid m (answer_by bound)) y ≡ Some x in
              let here = get_or_from_slice_get (set mid m (answer_by bound)) m x x (subst S (sym same) there) in
              inl (subst W same (last_written x (sym (get_or-set_same mid m (answer_by bound) x below) ∙ here)))
          | inr other ↦
              let inside = slice_get_within (set mid m (answer_by bound)) k x there in
              let long = length-set mid m (answer_by bound) in
              let stays : get_or (set mid m (answer_by bound)) k x ≡ get_or mid k x = get_or-set_other mid m k (answer_by bound) x (λ e. other (sym e)) in
              let before : slice_get mid k ≡ Some x = slice_get-get_or mid k x (omega arith) ∙ ap Some (sym stays ∙ get_or_from_slice_get (set mid m (answer_by bound)) k x x there) in
              elim (h.each k x before) [
                | inl w ↦ inl (earlier_written k x w)
                | inr not ↦ inr (
                  λ has. elim (Contains-push_cases done m k has) [ inl there ↦ not.0 there | inr same ↦ other same ],
                  not.1,
                )
              ]
        ];
  }

-- ---- what is answered

answer_is : (P : Program) (t : Timing) (bound_of : BoundOf) (ms : List ℕ) (m : ℕ) (bound : MethodBound) → AreBoundable P bound_of ms → Contains ms m → IsMethodBound P t bound_of m bound → IsBoundAnswer P t bound_of m (answer_by bound)
answer_is P t bound_of ms m (bounds.Printed None) h has is = (record { calls = h.calls m has; reducible = h.ready.reducible m has; lines = h.ready.lines m has; size = is.1 }, is.0, is.2)
answer_is P t bound_of ms m (bounds.Printed (Some n)) h has is = (record { calls = h.calls m has; reducible = h.ready.reducible m has; lines = h.ready.lines m has; size = is.1 }, is.0, is.2)
answer_is P t bound_of ms m (bounds.TooLarge x) h has is = (h.calls m has, h.ready.reducible m has, h.ready.lines m has, is)

refused_is : (P : Program) (t : Timing) (bound_of : BoundOf) (ms : List ℕ) (m : ℕ) (cause : Option BoundCause) → (Contains ms m → ⊥) → IsSortedOut P bound_of m cause ms → IsBoundAnswer P t bound_of m (refused_by cause)
refused_is P t bound_of ms m None apart has = absurd (apart has)
refused_is P t bound_of ms m (Some cause) apart h = h t

cause_at : (causes : List (Option BoundCause)) (m : ℕ) (x : BoundAnswer) → slice_get (map refused_by causes) m ≡ Some x → (cause : Option BoundCause) × (slice_get causes m ≡ Some cause) × (x ≡ refused_by cause)
cause_at causes m x at =
    let r = map_some refused_by (slice_get causes m) x (sym (slice_get-map refused_by causes m) ∙ at) in
    (r.0, r.1, sym r.2)

module _ (f : Flow) (b : List LoopBound) (t : Timing) (order : List ℕ) (causes : List (Option BoundCause)) (found : List MethodBound) (new : List BoundAnswer) (sorted : AreSorted f b causes order)
    (are : (P : Program) → IsFlowOf P f → (i m : ℕ) (x : MethodBound) → slice_get order i ≡ Some m → slice_get found i ≡ Some x → IsMethodBound P t (bounds_of f b) m x) (written : AreWritten order found (map refused_by causes) new) where
  pub answers_are : (P : Program) → IsFlowOf P f → (m : ℕ) (x : BoundAnswer) → slice_get new m ≡ Some x → IsBoundAnswer P t (bounds_of f b) m x
  answers_are P is m x at =
      let A : BoundAnswer → Type 0 = λ y. IsBoundAnswer P t (bounds_of f b) m y in
      elim (written.each m x at) [
        | inl w ↦
            let has : Contains order m = (w.place, slice_get_within order w.place m w.method, get_or_from_slice_get order w.place m m w.method) in
            subst A (sym w.is) (answer_is P t (bounds_of f b) order m w.bound (sorted.boundable P is) has (are P is w.place m w.bound w.method w.at))
        | inr old ↦
            let c = cause_at causes m x old.1 in
            subst A (sym c.2) (refused_is P t (bounds_of f b) order m c.0 old.0 (sorted.each m c.0 c.1 P is))
      ]
