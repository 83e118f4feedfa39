-- The walk finds a typing just where there is one, and else the first failure.
use Rattle.std.proofs.Common.{◌≡◌, ℕ, List, [], ◌∷◌, ◌++◌, Option, refl, sym, ap, ◌∙◌, subst}
use Rattle.opcodes.specs.Start.{starts_of}
use Rattle.bytecode_model.specs.Program.{Program, Method, Body}
use Rattle.bytecode_typing.specs.Types.{TypeFrame}
use Rattle.bytecode_typing.specs.Rules.{Rule}
use Rattle.bytecode_typing.specs.Walk.{Verdict, Breaks, Passes, verdict_at, first_types, Walked, Failed, Frames, with_frame, unless_failed, walk, walked}
use Rattle.bytecode_typing.specs.Typings.{IsTypingOf, IsTyping, BreaksOffAt}

module _ (P : Program) (n : ℕ) (m : Method) (b : Body) (maps : ℕ → Option TypeFrame) where
  abbrev Of : List ℕ → Option TypeFrame → List (ℕ × TypeFrame) → Option TypeFrame → Type 0
  Of pcs falling fs behind = IsTypingOf P n m b maps pcs falling fs behind

  -- a failure among the places that follow
  record FailsIn (pcs : List ℕ) (falling : Option TypeFrame) (pc : ℕ) (r : Rule) : Type 0 where
    before : List ℕ
    later : List ℕ
    places : pcs ≡ before ++ (pc ∷ later)
    frames : List (ℕ × TypeFrame)
    last : Option TypeFrame
    typing : Of before falling frames last
    breaks : verdict_at P n m b maps pc last ≡ Breaks r

  -- ---- from the walk

  -- what a walk says
  abbrev Said : List ℕ → Option TypeFrame → Walked → Type 0
  Said pcs falling (Failed pc r) = FailsIn pcs falling pc r
  Said pcs falling (Frames fs) = (behind : Option TypeFrame) × Of pcs falling fs behind

  longer : (pc : ℕ) (pcs : List ℕ) (falling : Option TypeFrame) (f : TypeFrame) (after : Option TypeFrame) (w : Walked) → verdict_at P n m b maps pc falling ≡ Passes f after → Said pcs after w → Said (pc ∷ pcs) falling (with_frame pc f w)
  longer pc pcs falling f after (Failed place r) e h = record {
    before = pc ∷ h.before;
    later = h.later;
    places = ap (λ (l : List ℕ). pc ∷ l) h.places;
    frames = (pc, f) ∷ h.frames;
    last = h.last;
    typing = (refl, (after, e, h.typing));
    breaks = h.breaks;
  }
  longer pc pcs falling f after (Frames fs) e h = (h.0, (refl, (after, e, h.1)))

  said : (pcs : List ℕ) (falling : Option TypeFrame) → Said pcs falling (walk P n m b maps pcs falling)
  said [] falling = (falling, refl)
  said (pc ∷ pcs) falling = here (verdict_at P n m b maps pc falling) refl (λ after. said pcs after)
    where
      here : (v : Verdict) → verdict_at P n m b maps pc falling ≡ v → ((after : Option TypeFrame) → Said pcs after (walk P n m b maps pcs after)) → Said (pc ∷ pcs) falling (unless_failed pc v (λ after. walk P n m b maps pcs after))
      here (Breaks r) e rec = record {
        before = [];
        later = pcs;
        places = refl;
        frames = [];
        last = falling;
        typing = refl;
        breaks = e;
      }
      here (Passes f after) e rec = longer pc pcs falling f after (walk P n m b maps pcs after) e (rec after)

  -- ---- to the walk

  found : (pcs : List ℕ) (falling : Option TypeFrame) (fs : List (ℕ × TypeFrame)) (behind : Option TypeFrame) → Of pcs falling fs behind → walk P n m b maps pcs falling ≡ Frames fs
  found [] falling [] behind h = refl
  found [] falling (x ∷ xs) behind h = absurd h
  found (pc ∷ pcs) falling [] behind h = absurd h
  found (pc ∷ pcs) falling (x ∷ xs) behind h =
      ap (λ (v : Verdict). unless_failed pc v (λ after. walk P n m b maps pcs after)) h.1.1
      ∙ ap (with_frame pc x.1) (found pcs h.1.0 xs behind h.1.2) ∙ ap (λ (q : ℕ). Frames ((q, x.1) ∷ xs)) (sym h.0)

  failed : (before : List ℕ) (pc : ℕ) (later : List ℕ) (falling last : Option TypeFrame) (fs : List (ℕ × TypeFrame)) (r : Rule) → Of before falling fs last → verdict_at P n m b maps pc last ≡ Breaks r → walk P n m b maps (before ++ (pc ∷ later)) falling ≡ Failed pc r
  failed [] pc later falling last [] r h e =
      let e2 : verdict_at P n m b maps pc falling ≡ Breaks r = subst (λ o. verdict_at P n m b maps pc o ≡ Breaks r) (sym h) e in
      ap (λ (v : Verdict). unless_failed pc v (λ after. walk P n m b maps later after)) e2
  failed [] pc later falling last (x ∷ xs) r h e = absurd h
  failed (q ∷ before) pc later falling last [] r h e = absurd h
  failed (q ∷ before) pc later falling last (x ∷ xs) r h e =
      ap (λ (v : Verdict). unless_failed q v (λ after. walk P n m b maps (before ++ (pc ∷ later)) after)) h.1.1
      ∙ ap (with_frame q x.1) (failed before pc later h.1.0 last xs r h.1.2 e)

  pub typing_walks : (fs : List (ℕ × TypeFrame)) → IsTyping P n m b maps fs → walked P n m b maps ≡ Frames fs
  typing_walks fs h = found (starts_of b.code) (first_types m b) fs h.behind h.typing

  pub walks_typing : (fs : List (ℕ × TypeFrame)) → walked P n m b maps ≡ Frames fs → IsTyping P n m b maps fs
  walks_typing fs e = let h = subst (Said (starts_of b.code) (first_types m b)) e (said (starts_of b.code) (first_types m b)) in record { behind = h.0; typing = h.1 }

  pub failure_walks : (pc : ℕ) (r : Rule) → BreaksOffAt P n m b maps pc r → walked P n m b maps ≡ Failed pc r
  failure_walks pc r h =
      ap (λ (l : List ℕ). walk P n m b maps l (first_types m b)) h.places ∙ failed h.before pc h.later (first_types m b) h.falling h.frames r h.typing h.breaks

  pub walks_failure : (pc : ℕ) (r : Rule) → walked P n m b maps ≡ Failed pc r → BreaksOffAt P n m b maps pc r
  walks_failure pc r e =
      let h = subst (Said (starts_of b.code) (first_types m b)) e (said (starts_of b.code) (first_types m b)) in record {
        before = h.before;
        later = h.later;
        places = h.places;
        frames = h.frames;
        falling = h.last;
        typing = h.typing;
        breaks = h.breaks;
      }
