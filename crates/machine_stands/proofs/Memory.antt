-- The memory: the words of the image, and zeros.
use Rattle.std.proofs.Common.{◌≡◌, ℕ, ◌-◌, List, ◌++◌, length, replicate, sym, ◌∙◌, ap, arith, length-append}
use Rattle.machine_memory.specs.Timing.Port.{padded}
use Rattle.image_facts.specs.Within.{LieAt, DifferAt}
use Rattle.image_facts.specs.Laws.{ListsGoOn}

pub lie_padded : (size : ℕ) (whole : List ℕ) (place : ℕ) (words : List ℕ) → ListsGoOn → LieAt whole place words → LieAt (padded whole size) place words
lie_padded size whole place words ahead l =
    let d = ahead whole whole (replicate (size - length whole) 0) place words words (record { before = l.before; after = l.after; split = l.split; changed = l.split; place_is = l.place_is }) in
    record { before = d.before; after = d.after; split = d.split; place_is = d.place_is }

pub same_count : (whole other : List ℕ) (place : ℕ) (words instead : List ℕ) → DifferAt whole other place words instead → length instead ≡ length words → length other ≡ length whole
same_count whole other place words instead d e =
    ap length d.changed ∙ length-append d.before (instead ++ d.after)
    ∙ omega (arith, length-append instead d.after, length-append d.before (words ++ d.after), length-append words d.after, e) ∙ sym (ap length d.split)

pub differ_padded : (size : ℕ) (whole other : List ℕ) (place : ℕ) (words instead : List ℕ) → ListsGoOn → DifferAt whole other place words instead → length instead ≡ length words
    → DifferAt (padded whole size) (padded other size) place words instead
differ_padded size whole other place words instead ahead d e =
    let far = ahead whole other (replicate (size - length whole) 0) place words instead d in
    record {
      before = far.before;
      after = far.after;
      split = far.split;
      changed = ap (λ (k : ℕ). other ++ replicate (size - k) 0) (same_count whole other place words instead d e) ∙ far.changed;
      place_is = far.place_is;
    }
