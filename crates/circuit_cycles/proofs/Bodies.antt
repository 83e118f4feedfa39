-- What a clock does in which a word runs, by the microinstruction that the word spells.
use Rattle.std.proofs.Common.{◌≡◌, ℕ, ◌<◌, ◌≤◌, Bool, true, false, refl, ap, ◌∙◌, arith}
use Rattle.std.specs.Prelude.{◌==◌, ◌&&◌, ◌||◌, not, nat_lt}
use Rattle.std.proofs.lemmas.Bool.{ne_eqb}
use Rattle.microcode.specs.declared.isa.Body.{Body}
use Rattle.microcode.specs.declared.isa.Body.TheVariants.{Plain, Stm, Ldm, Ldi, Bz, Bnz, Jmp}
use Rattle.circuit_cycles.specs.Words.{bits_of, is, is_plain, is_stm, is_ldm, is_ldi, is_bz, is_bnz, is_jmp, pushes_plain, keeps_plain, stores_plain, operation_in, pushes_word, pops_word}
use Rattle.circuit_cycles.specs.Core.{Core, runs, does, pushes, pops, writes, is_taken}
use Rattle.circuit_cycles.proofs.Signals.{Kind, Says}

-- the operation of this code is what the microinstruction does
abbrev pub body_does : (code : ℕ) → Body → Bool
body_does code (Plain other) = other == code
body_does code _ = false

-- a branch of the microcode is taken, where A is this
abbrev pub body_taken : Body → (a : ℕ) → Bool
body_taken (Bz to) a = a == 0
body_taken (Bnz to) a = nat_lt 0 a
body_taken (Jmp to) a = true
body_taken _ a = false

pub or_false : (b : Bool) → (b || false) ≡ b
or_false true = refl
or_false false = refl

-- a word with a number has no code of an operation
pub numbered_no : (c : Core) (code : ℕ) → runs c ≡ true → 64 ≤ bits_of c.word → code < 48 → does code c ≡ false
numbered_no c code on far low = ap (λ r. r && is code c.word) on ∙ ne_eqb (bits_of c.word) code (omega (arith, far, low))

pub does_is : (c : Core) (body : Body) (code : ℕ) → runs c ≡ true → Says c.word body → code < 48 → does code c ≡ body_does code body
does_is c (Plain other) code on said low = ap (λ r. r && is code c.word) on ∙ ap (λ k. k == code) said.1
does_is c (Stm place) code on said low = numbered_no c code on said.3 low
does_is c (Ldm place) code on said low = numbered_no c code on said.3 low
does_is c (Ldi number) code on said low = numbered_no c code on said.3 low
does_is c (Bz to) code on said low = numbered_no c code on said.3 low
does_is c (Bnz to) code on said low = numbered_no c code on said.3 low
does_is c (Jmp to) code on said low = numbered_no c code on said.3 low

module _ (c : Core) (on : runs c ≡ true) (plain stm ldm ldi bz bnz jmp : Bool) (k : Kind c.word plain stm ldm ldi bz bnz jmp) where
  pub taken_by : is_taken c ≡ (jmp || bz && c.a == 0 || bnz && nat_lt 0 c.a)
  taken_by =
      ap (λ r. r && (is_jmp c.word || is_bz c.word && c.a == 0 || is_bnz c.word && nat_lt 0 c.a)) on
      ∙ ap (λ x. x || is_bz c.word && c.a == 0 || is_bnz c.word && nat_lt 0 c.a) k.jmp_is
      ∙ ap (λ x. jmp || x && c.a == 0 || is_bnz c.word && nat_lt 0 c.a) k.bz_is
      ∙ ap (λ x. jmp || bz && c.a == 0 || x && nat_lt 0 c.a) k.bnz_is

  pub pushes_by : pushes c ≡ (plain && pushes_plain (operation_in c.word) || ldm || ldi)
  pushes_by =
      ap (λ r. r && pushes_word c.word) on
      ∙ ap (λ x. x && pushes_plain (operation_in c.word) || is_ldm c.word || is_ldi c.word) k.plain_is
      ∙ ap (λ x. plain && pushes_plain (operation_in c.word) || x || is_ldi c.word) k.ldm_is
      ∙ ap (λ x. plain && pushes_plain (operation_in c.word) || ldm || x) k.ldi_is

  pub pops_by : pops c ≡ (plain && not (pushes_plain (operation_in c.word)) && not (keeps_plain (operation_in c.word)) || stm || bz || bnz)
  pops_by =
      ap (λ r. r && pops_word c.word) on
      ∙ ap (λ x. x && not (pushes_plain (operation_in c.word)) && not (keeps_plain (operation_in c.word)) || is_stm c.word || is_bz c.word || is_bnz c.word) k.plain_is
      ∙ ap (λ x. plain && not (pushes_plain (operation_in c.word)) && not (keeps_plain (operation_in c.word)) || x || is_bz c.word || is_bnz c.word) k.stm_is
      ∙ ap (λ x. plain && not (pushes_plain (operation_in c.word)) && not (keeps_plain (operation_in c.word)) || stm || x || is_bnz c.word) k.bz_is
      ∙ ap (λ x. plain && not (pushes_plain (operation_in c.word)) && not (keeps_plain (operation_in c.word)) || stm || bz || x) k.bnz_is

  pub writes_by : writes c ≡ (pushes c || (plain && stores_plain (operation_in c.word) || stm))
  writes_by =
      ap (λ r. pushes c || r && (is_plain c.word && stores_plain (operation_in c.word) || is_stm c.word)) on
      ∙ ap (λ x. pushes c || (x && stores_plain (operation_in c.word) || is_stm c.word)) k.plain_is
      ∙ ap (λ x. pushes c || (plain && stores_plain (operation_in c.word) || x)) k.stm_is

pub taken_is : (c : Core) (body : Body) → runs c ≡ true → Says c.word body → is_taken c ≡ body_taken body c.a
taken_is c (Plain code) on said = taken_by c on true false false false false false false said.0
taken_is c (Stm place) on said = taken_by c on false true false false false false false said.0
taken_is c (Ldm place) on said = taken_by c on false false true false false false false said.0
taken_is c (Ldi number) on said = taken_by c on false false false true false false false said.0
taken_is c (Bz to) on said = taken_by c on false false false false true false false said.0 ∙ or_false (c.a == 0)
taken_is c (Bnz to) on said = taken_by c on false false false false false true false said.0
taken_is c (Jmp to) on said = taken_by c on false false false false false false true said.0
