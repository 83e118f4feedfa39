-- What new files and a new input tell before a call over them; and with however many words one is made.
use Rattle.std.proofs.Common.{◌≡◌, ◌<◌, ◌≤◌, ◌^◌, ℕ, List, [], ◌∷◌, length, None, refl, ap, arith, ⊎_elim}
use Rattle.std.specs.Prelude.{All, slice_index}
use Rattle.std.specs.Borrow.{Bor}
use Rattle.std.specs.declared.option.Option.{Option}
use Rattle.std.proofs.lemmas.List.{get_or_past}
use Rattle.std.proofs.lemmas.List.Elements.{All-get_or}
use Rattle.std.proofs.lemmas.Bool.{cases_lt}
use Rattle.outside.specs.Host.{StreamState, told_at}
use Rattle.command_line.specs.Command.{texts}
use Rattle.endings.specs.World.{World, world}
use Rattle.jop_cli.specs.Process.{IsStatus, IsNewStatus, IsCalledStatus, IsWordsStatus, Sinks}

pub length_texts : (words : List (Bor (List ℕ))) → length (texts words) ≡ length words
length_texts [] = refl
length_texts (word ∷ words) = omega (arith, length_texts words)

-- among counts of nothing each is 0
unfailed : (counts : List ℕ) → All (λ count. count ≡ 0) counts → (k : ℕ) → slice_index counts k ≡ 0
unfailed counts all k = ⊎_elim (λ there. All-get_or (λ count. count ≡ 0) counts k 0 there all) (λ past. get_or_past counts k 0 past) (cases_lt k (length counts))

-- what is begun with new files and a new input
pub new_status : (words : List (Bor (List ℕ))) (files told : List (Option (List ℕ))) (counts : List ℕ) (left : Option (List ℕ)) (input : StreamState) (old new : Sinks) (after : World) (status : ℕ)
    → length counts ≡ length words → told ≡ files → All (λ count. count ≡ 0) counts → input ≡ record { bytes = left; faults = 0 }
    → IsStatus (texts words) (world (length counts) (told_at told) (slice_index counts) input.bytes input.faults old.out.bytes old.out.faults None) after old.err.bytes new.err.bytes old.err.faults new.err.faults status
    → after.out ≡ new.out.bytes → after.out_faults ≡ new.out.faults
    → IsNewStatus (texts words) files left old new status
new_status words files told counts left input old new after status many same all input_is is output writes = record {
  before = world (length counts) (told_at told) (slice_index counts) input.bytes input.faults old.out.bytes old.out.faults None;
  begins = record {
    count = omega (arith, many, length_texts words);
    told = λ k. ap (λ (t : List (Option (List ℕ))). told_at t k) same;
    unfailed = unfailed counts all;
    input = ap (λ (s : StreamState). s.bytes) input_is;
    reads = ap (λ (s : StreamState). s.faults) input_is;
    output = refl;
    writes = refl;
    watch = refl;
  };
  after = after;
  output = output;
  writes = writes;
  is = is;
}

-- few words
pub few_words : (words : List (Bor (List ℕ))) (files : List (Option (List ℕ))) (left : Option (List ℕ)) (old new : Sinks) (status : ℕ)
    → length words < 2 ^ 32 → IsCalledStatus (texts words) files left old new status → IsWordsStatus (texts words) files left old new status
few_words words files left old new status below called = record {
  few = λ h. called;
  many = λ h. absurd (omega (arith, below, h, length_texts words));
}

-- too many
pub many_words : (words : List (Bor (List ℕ))) (files : List (Option (List ℕ))) (left : Option (List ℕ)) (sinks : Sinks)
    → 2 ^ 32 ≤ length words → IsWordsStatus (texts words) files left sinks sinks 6
many_words words files left sinks past = record {
  few = λ h. absurd (omega (arith, past, h, length_texts words));
  many = λ h. record { status_is = refl; same = refl };
}
