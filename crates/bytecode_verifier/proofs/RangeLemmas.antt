-- Handlers whose ranges are joined.
use Rattle.std.proofs.Common.{◌≡◌, ℕ, Bool, true, false, ◌&&◌, List, [], ◌∷◌, map, Option, ap, ap₂, ◌∙◌}
use Rattle.std.specs.Bool.{OnTrue, OnFalse, MatchBool}
use Rattle.std.specs.List.Retain.{DedupsFrom, IsDeduped}
use Rattle.bytecode_model.specs.Program as model
use Rattle.bytecode_model.specs.Program.{Program}
use Rattle.bytecode_typing.specs.Types.{TypeFrame}
use Rattle.bytecode_typing.specs.Walk.{handlers_hold}
use Rattle.program_tables.specs.declared.operand.Handler.{Handler}
use Rattle.program_tables.specs.Meanings.{handler_seen}
use Rattle.bytecode_verifier.specs.Handled.{takes, HoldAlike}
use Rattle.bytecode_verifier.specs.Ranges.{HoldsAsBoth}

both_first : (a b c d : Bool) → a ≡ (b && c) → (a && d) ≡ (b && (c && d))
both_first a true c d e = ap (λ x. x && d) e
both_first a false c d e = ap (λ x. x && d) e

pub alike_through : (hs middle others : List model.Handler) → HoldAlike hs middle → HoldAlike middle others → HoldAlike hs others
alike_through hs middle others a b = λ P frames place f. a P frames place f ∙ b P frames place f

-- R takes the next into the last, and then is true, or leaves both
module _ {S : Type 0} (R : S → Handler → Handler → Bool → S → Handler → Handler → Type 0)
    (step : (s : S) (next last : Handler) (b : Bool) (t : S) (next' last' : Handler) → R s next last b t next' last' → OnTrue b (HoldsAsBoth last next last') × OnFalse b (last' ≡ last) × (next' ≡ next))
    (P : Program) (frames : ℕ → Option TypeFrame) (place : ℕ) (f : TypeFrame) where
  abbrev test : Handler → Bool
  test h = takes P frames place f (handler_seen h)

  abbrev hold : List Handler → Bool
  hold hs = handlers_hold P frames place f (map handler_seen hs)

  at_next : (s : S) (last next : Handler) (xs ys : List Handler) → ((t : S) (h : Handler) (zs : List Handler) → DedupsFrom R t h xs zs → hold zs ≡ hold (h ∷ xs))
      → (b : Bool) (t : S) (next' last' : Handler) → R s next last b t next' last' → MatchBool b (DedupsFrom R t last' xs ys) ((zs : List Handler) × DedupsFrom R t next' xs zs × (ys ≡ last' ∷ zs))
      → hold ys ≡ hold (last ∷ next ∷ xs)
  at_next s last next xs ys later true t next' last' r m =
      later t last' ys m ∙ both_first (test last') (test last) (test next) (hold xs) ((step s next last true t next' last' r).0 P frames place f)
  at_next s last next xs ys later false t next' last' r m =
      let same = step s next last false t next' last' r in
      ap hold m.2 ∙ ap₂ (λ (h : Handler) (b : Bool). test h && b) same.1 (later t next' m.0 m.1 ∙ ap (λ (h : Handler). hold (h ∷ xs)) same.2)

  from_last : (s : S) (last : Handler) (xs ys : List Handler) → DedupsFrom R s last xs ys → hold ys ≡ hold (last ∷ xs)
  from_last s last [] ys d = ap hold d
  from_last s last (next ∷ xs) ys d = at_next s last next xs ys (λ t h zs. from_last t h xs zs) d.0 d.1 d.2 d.3 d.4 d.5

  from_first : (s : S) (xs ys : List Handler) → IsDeduped R s xs ys → hold ys ≡ hold xs
  from_first s [] ys d = ap hold d.told
  from_first s (x ∷ xs) ys d = from_last s x xs ys d.told

pub deduped_alike : {S : Type 0} (R : S → Handler → Handler → Bool → S → Handler → Handler → Type 0)
    → ((s : S) (next last : Handler) (b : Bool) (t : S) (next' last' : Handler) → R s next last b t next' last' → OnTrue b (HoldsAsBoth last next last') × OnFalse b (last' ≡ last) × (next' ≡ next))
    → (s : S) (xs ys : List Handler) → IsDeduped R s xs ys → HoldAlike (map handler_seen ys) (map handler_seen xs)
deduped_alike R step s xs ys d = λ P frames place f. from_first R step P frames place f s xs ys d
