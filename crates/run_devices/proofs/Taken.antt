-- A byte that a source gives, one at a time.
use Rattle.std.proofs.Common.{◌≡◌, ℕ, ◌<◌, ◌≤◌, ◌^◌, List, [], ◌∷◌, length, get_or, Option, Some, None, refl, sym, subst, arith, append-nil}
use Rattle.outside.specs.Outside.{Gave, GaveWhereTold, Grew}
use Rattle.device_traits.specs.Told.{GivesFirst, TookByte, OnlyReads}
use Rattle.run_devices.specs.Lent.{Lent, lent, wired}

gave_one : (old new : List ℕ) (piece : List ℕ) → 0 < length piece → Gave old new 1 piece → GivesFirst (Some old) (Some new) (Some (get_or piece 0 0))
gave_one old new [] long gave = absurd (omega (arith, long))
gave_one old new (p ∷ piece) long gave = subst (λ (bytes : List ℕ). GivesFirst (Some bytes) (Some new) (Some p)) (sym gave.given) (refl, refl)

given_first : (old new : Option (List ℕ)) (n : ℕ) (piece : List ℕ) → 0 < length piece → n ≡ 1 → GaveWhereTold old new n piece → GivesFirst old new (Some (get_or piece 0 0))
given_first None new n piece long one gave = tt
given_first (Some old) None n piece long one gave = absurd gave
given_first (Some old) (Some new) n piece long one gave = gave_one old new piece long (subst (λ (k : ℕ). Gave old new k piece) one gave)

grew_none : {A : Type 0} (held : Option (List A)) → Grew held held []
grew_none held = record { grown = λ ys h. (ys, h, sym (append-nil ys)) }

-- a byte was asked for and given, where the source put it into a piece
pub took : (old : Lent) (left : Option (List ℕ)) (faults n : ℕ) (piece : List ℕ) (byte : Option ℕ) → 0 < length piece → n ≡ 1 → byte ≡ Some (get_or piece 0 0) → get_or piece 0 0 < 2 ^ 8 → GaveWhereTold old.left left n piece
    → old.read_faults ≤ faults → TookByte (wired old) (wired (lent left faults old.held old.write_faults old.handed)) byte × OnlyReads (wired old) (wired (lent left faults old.held old.write_faults old.handed))
took old left faults n piece byte long one is small gave rise = (
  subst (λ (b : Option ℕ). TookByte (wired old) (wired (lent left faults old.held old.write_faults old.handed)) b) (sym is)
      (record { left = (small, given_first old.left left n piece long one gave); held = grew_none old.held; noted = record { line = refl; written = grew_none None }; handed = grew_none old.handed }),
  record { reads = rise; writes = refl; sees = refl },
)
