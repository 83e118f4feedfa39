-- Operands with the file of an executive behind them.
use Rattle.std.proofs.Common.{◌≡◌, ℕ, ◌+◌, ◌<◌, ◌≤◌, List, [], ◌∷◌, ◌++◌, length, get_or, drop, sym, ap, ap₂, ◌∙◌, arith}
use Rattle.std.specs.Prelude.{Vec}
use Rattle.std.specs.declared.alloc.Global.{Global}
use Rattle.std.proofs.lemmas.List.{drop-append-le, map-append, drop-map, get_or_append_left, length-append, length-map}
use Rattle.outside.specs.Files.{contents}
use Rattle.slot_table.specs.declared.slot.Slot.{Slot}
use Rattle.endings.specs.Line.{text_of_word}
use Rattle.endings.specs.Executive.{with_executive, PutsBehind}

module _ (slots : List Slot) (rounds : ℕ) (old new : List (Vec ℕ Global)) (puts : PutsBehind slots rounds old new) where
  -- the class files are followed by the executive's
  pub behind : (first : ℕ) → first ≤ length old → contents (drop first new) ≡ with_executive slots rounds (drop first (contents old))
  behind first there =
      ap (λ (fs : List (Vec ℕ Global)). contents (drop first fs)) puts.new_is
      ∙ (ap contents (drop-append-le first old (puts.file ∷ []) there)
      ∙ (map-append (λ (f : Vec ℕ Global). f.items) (drop first old) (puts.file ∷ [])
      ∙ ap₂ (λ (a : List (List ℕ)) (b : List ℕ). a ++ b ∷ []) (sym (drop-map (λ (f : Vec ℕ Global). f.items) first old)) puts.bytes))

  -- the operands are as they were
  pub kept : (k : ℕ) → k < length old → text_of_word (contents new) k ≡ text_of_word (contents old) k
  kept k below =
      let long = length-map old (λ (f : Vec ℕ Global). f.items) in
      ap (λ (fs : List (Vec ℕ Global)). text_of_word (contents fs) k) puts.new_is
      ∙ (ap (λ (ts : List (List ℕ)). get_or ts k []) (map-append (λ (f : Vec ℕ Global). f.items) old (puts.file ∷ []))
      ∙ get_or_append_left (contents old) (puts.file.items ∷ []) [] k (omega (arith, long, below)))

  pub long : length new ≡ length old + 1
  long = ap length puts.new_is ∙ length-append old (puts.file ∷ [])
