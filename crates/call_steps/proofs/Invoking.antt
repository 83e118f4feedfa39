-- The common part of the calls: its numbers, and the words of the stack.
use Rattle.std.proofs.Common.{◌≡◌, ℕ, ◌+◌, ◌-◌, ◌/◌, ◌%◌, ◌^◌, ◌<◌, ◌≤◌, ◌&&◌, Bool, true, false, nat_lt, nat_le, List, ◌++◌, length, reverse, bit_and, ap, ◌∙◌, arith, append_assoc}
use Rattle.std.specs.Prelude.{slice_index}
use Rattle.std.proofs.Math.Nat.{mod-eq_of_lt}
use Rattle.std.proofs.lemmas.Nat.{and_mask}
use Rattle.std.proofs.lemmas.Bool.Decides.{nat_tests}
use Rattle.std.proofs.lemmas.List.{reverse-append}
use mathlib.Core.List.{reverse_aux, reverse_aux-eq}
use Rattle.jop_core.specs.Operations.{number_of}
use Rattle.micro_sketch.specs.Sketch.{Sketch, same_bool}
use Rattle.call_steps.specs.Method.{max_locals, frame_words, pool}
use Rattle.call_steps.specs.Entry.{CanEnter, fits_at}
use Rattle.call_steps.proofs.Parts.{Low}
use Rattle.call_steps.proofs.InvokeRows.{invoking, limits, raw_sum, Reads, raw_reads}

-- ---- numbers

pub less_mod : (a b : ℕ) → b ≤ a → a < 2 ^ 32 → (a + (2 ^ 32 - b)) % 2 ^ 32 ≡ a - b
less_mod a b h l = omega arith

pub sum_is : (w frames : ℕ) → w < 2 ^ 32 → frames + (w / 2 ^ 16 + 5 + w % 2 ^ 16) < 2 ^ 32
    → (((bit_and w 65535 + w / 2 ^ 16) % 2 ^ 32 + 5) % 2 ^ 32 + frames) % 2 ^ 32 ≡ frames + (w / 2 ^ 16 + 5 + w % 2 ^ 16)
sum_is w frames h s =
    let a : ℕ = w / 2 ^ 16 in
    let b : ℕ = w % 2 ^ 16 in
    let one : (b + a) % 2 ^ 32 ≡ b + a = mod-eq_of_lt (omega arith) in
    let two : (b + a + 5) % 2 ^ 32 ≡ b + a + 5 = mod-eq_of_lt (omega arith) in
    let three : (b + a + 5 + frames) % 2 ^ 32 ≡ b + a + 5 + frames = mod-eq_of_lt (omega arith) in
    ap (λ (k : ℕ). (((k + a) % 2 ^ 32 + 5) % 2 ^ 32 + frames) % 2 ^ 32) (and_mask w 16)
    ∙ ap (λ (k : ℕ). ((k + 5) % 2 ^ 32 + frames) % 2 ^ 32) one
    ∙ ap (λ (k : ℕ). (k + frames) % 2 ^ 32) two ∙ three ∙ omega arith

-- a test that is passed
pub passes : (most sum : ℕ) → nat_le sum most ≡ true → (same_bool false (nat_lt 0 (number_of (nat_lt most sum))) && true) ≡ true
passes most sum h =
    let no : nat_lt most sum ≡ false = grind (arith, nat_tests, h) in
    ap (λ (b : Bool). same_bool false (nat_lt 0 (number_of b)) && true) no

-- ---- lists

-- the words of the stack and some past it, where some of those on top are the arguments
pub turned : (deep arguments others more above : List ℕ) → deep ++ reverse_aux (arguments ++ others) (more ++ above) ≡ (deep ++ (reverse others ++ (reverse arguments ++ more))) ++ above
turned deep arguments others more above =
    ap (λ (ws : List ℕ). deep ++ ws) (reverse_aux-eq (arguments ++ others) (more ++ above) ∙ ap (λ (ws : List ℕ). ws ++ (more ++ above)) (reverse-append arguments others))
    ∙ regrouped deep (reverse others) (reverse arguments) more above
  where
    regrouped : (a b c d e : List ℕ) → a ++ ((b ++ c) ++ (d ++ e)) ≡ (a ++ (b ++ (c ++ d))) ++ e
    regrouped a b c d e = simp append_assoc

-- what the part to the frame's place reads
abbrev pub clean_reads : Sketch → Low → (method below : ℕ) → Reads
clean_reads f v m below = record { locals = max_locals f.memory m; sum = v.frames + frame_words f.memory m; pool = pool f.memory m; place = 64 + below; fits = true }

pub reads_are : (n : ℕ) (f : Sketch) (v : Low) (m t u j1 j2 j3 : ℕ) (us js arguments others : List ℕ) → let below = length f.deep + length others in
    let x = invoking f v m below t u j1 j2 j3 us js in CanEnter n x m arguments others → fits_at x m ≡ true → raw_reads f v m below ≡ clean_reads f v m below
reads_are n f v m t u j1 j2 j3 us js arguments others c fit =
    let below = length f.deep + length others in
    let room = c.room fit in
    let size = c.size in
    let sum = sum_is (limits f m) v.frames c.method.limits c.sum in
    let pools : slice_index f.memory ((m + 2) % 2 ^ 32) ≡ pool f.memory m = ap (λ (k : ℕ). slice_index f.memory k) (mod-eq_of_lt {n = m + 2} {m = 2 ^ 32} c.method.place) in
    let place : (64 + below - 3 + 3) % 2 ^ 32 ≡ 64 + below = mod-eq_of_lt {n = 64 + below - 3 + 3} {m = 2 ^ 32} (omega arith) ∙ omega arith in
    let ok : (same_bool false (nat_lt 0 (number_of (nat_lt v.most (raw_sum f m v.frames)))) && true) ≡ true =
    ap (λ (k : ℕ). same_bool false (nat_lt 0 (number_of (nat_lt v.most k))) && true) sum ∙ passes v.most (v.frames + frame_words f.memory m) fit in
    λ i. record { locals = limits f m / 2 ^ 16; sum = sum i; pool = pools i; place = place i; fits = ok i }
