-- Where a member that an instruction names isn't there, and which of two instructions it is.
use Rattle.std.proofs.Common.{◌≡◌, ℕ, Bool, true, false, List, Option, Some, None, sym, ap, ◌∙◌}
use Rattle.std.specs.Prelude.{slice_get, if◌then◌else◌}
use Rattle.opcodes.specs.declared.instruction.Instr.{Instr}
use Rattle.bytecode_model.specs.Program.{Program, AMethod}
use Rattle.bytecode_model.specs.Rows as rows
use Rattle.bytecode_typing.specs.Types.{TypeFrame}
use Rattle.bytecode_typing.specs.Rules as rule
use Rattle.bytecode_typing.specs.Rules.{Checked, Fails, found}
use Rattle.verifier_types.specs.Site.{Site, check_at}
use Rattle.program_tables.specs.declared.operand.Declared.{Declared}
use Rattle.program_tables.specs.Meanings.{declared_seen}
use Rattle.bytecode_verifier.specs.declared.family.Call.{Call}
use Rattle.bytecode_verifier.specs.declared.family.Call.TheVariants as call
use Rattle.bytecode_verifier.specs.Family.{call_row}
use Rattle.bytecode_verifier.specs.Plain.{check_found}

lost : {A : Type 0} (o : Option A) (go : A → Checked) → o ≡ None → found o rule.Operand go ≡ Fails rule.Operand
lost o go e = ap (λ p. found p rule.Operand go) e

pub static_lost : (s : Site) (f : TypeFrame) (index : ℕ) (writes : Bool) (P : Program) → s.program ≡ P → None ≡ slice_get P.statics index
    → Fails rule.Operand ≡ check_at s f (if writes then rows.PutStatic index else rows.GetStatic index)
static_lost s f index true P p e = sym (lost (slice_get s.program.statics index) _ (ap (λ (Q : Program). slice_get Q.statics index) p ∙ sym e))
static_lost s f index false P p e = sym (lost (slice_get s.program.statics index) _ (ap (λ (Q : Program). slice_get Q.statics index) p ∙ sym e))

pub field_lost : (s : Site) (f : TypeFrame) (named owner index : ℕ) (writes : Bool) (P : Program) → s.program ≡ P → None ≡ slice_get (P.fields owner) index
    → Fails rule.Operand ≡ check_at s f (if writes then rows.PutField named owner index else rows.GetField named owner index)
field_lost s f named owner index true P p e = sym (lost (slice_get (s.program.fields owner) index) _ (ap (λ (Q : Program). slice_get (Q.fields owner) index) p ∙ sym e))
field_lost s f named owner index false P p e = sym (lost (slice_get (s.program.fields owner) index) _ (ap (λ (Q : Program). slice_get (Q.fields owner) index) p ∙ sym e))

-- as the program of the site has it
pub static_there : (s : Site) (index : ℕ) (P : Program) (d : Declared) → s.program ≡ P → Some (declared_seen d) ≡ slice_get P.statics index → slice_get s.program.statics index ≡ Some (declared_seen d)
static_there s index P d p e = ap (λ (Q : Program). slice_get Q.statics index) p ∙ sym e

pub field_there : (s : Site) (owner index : ℕ) (P : Program) (d : Declared) → s.program ≡ P → Some (declared_seen d) ≡ slice_get (P.fields owner) index → slice_get (s.program.fields owner) index ≡ Some (declared_seen d)
field_there s owner index P d p e = ap (λ (Q : Program). slice_get (Q.fields owner) index) p ∙ sym e

pub if_writes : (s : Site) (f : TypeFrame) (b : Bool) (r q : rows.Row) → b ≡ true → check_at s f r ≡ check_at s f (if b then r else q)
if_writes s f b r q e = ap (λ x. check_at s f (if x then r else q)) (sym e)

pub if_reads : (s : Site) (f : TypeFrame) (b : Bool) (r q : rows.Row) → b ≡ false → check_at s f q ≡ check_at s f (if b then r else q)
if_reads s f b r q e = ap (λ x. check_at s f (if x then r else q)) (sym e)

pub method_lost : (s : Site) (f : TypeFrame) (code : List ℕ) (i : Instr) (named number : ℕ) (family : Call) (P : Program) → s.program ≡ P → slice_get P.methods number ≡ None
    → Fails rule.Operand ≡ check_found s f (call_row family code i (AMethod named number))
method_lost s f code i named number call.Static P p e = sym (lost (slice_get s.program.methods number) _ (ap (λ (Q : Program). slice_get Q.methods number) p ∙ e))
method_lost s f code i named number call.Special P p e = sym (lost (slice_get s.program.methods number) _ (ap (λ (Q : Program). slice_get Q.methods number) p ∙ e))
method_lost s f code i named number call.Virtual P p e = sym (lost (slice_get s.program.methods number) _ (ap (λ (Q : Program). slice_get Q.methods number) p ∙ e))
method_lost s f code i named number call.Interface P p e = sym (lost (slice_get s.program.methods number) _ (ap (λ (Q : Program). slice_get Q.methods number) p ∙ e))
